-- Acts on shares, joined: over a tape long enough each number joins to what the same acts on plain words leave (`acts_join`). Rests on the
-- operations' results, on the ring of words for flips, and on Slots: numbers stay n shares.
use mathlib.Core.Path.{◌≡◌, refl, ap, ◌∙◌, fun_ext}
use mathlib.Core.List.{List, [], ◌∷◌}
use Prim.Native.Nat.{ℕ, zero, suc, ◌-◌, ◌^◌, ◌≤◌}
use native.Mathlib.Omega.{arith}
use lib.ListN.{length, drop, replicate, length-drop}
use Rattle.bits.specs.Ops.{xor_w}
use Rattle.bits.proofs.Xor.{xor_zero, xor_swap_r}
use Rattle.masking.specs.Machine.{Words}
use Rattle.masking.proofs.joined.Cells.{drop_words}
use Rattle.split_join.specs.SplitJoin.{xor_all}
use Rattle.operations.proofs.Masked.{masked}
use Rattle.fft_numbers.specs.Acts.{Act, Put, Flip, Load, Store, Call, Slots, holding, lending, flipped, plain_shares, flipped_first, on_plain, run_plain, on_shares, act_tape}
use Rattle.fft_numbers.specs.Secrecy.{Shared}
use Rattle.fft_numbers.specs.Holds.{joined_slots, ActsJoin}
use Rattle.fft_numbers.proofs.Slots.{with_both, first_puts, act_shared}

-- ---- words joined
pub zeros_join : (m : ℕ) → xor_all (replicate m 0) ≡ 0
zeros_join zero = refl
zeros_join (suc m) = ap (xor_w 0) (zeros_join m) ∙ xor_zero 0

plain_join : (n w : ℕ) → xor_all (plain_shares n w) ≡ w
plain_join n w = ap (xor_w w) (zeros_join (n - 1)) ∙ xor_zero w

flip_join : (n : ℕ) → 2 ≤ n → (x : List ℕ) → length x ≡ n → xor_all (flipped_first x) ≡ flipped (xor_all x)
flip_join n l [] e = absurd (omega arith)
flip_join n l (w ∷ x) e = xor_swap_r w (2 ^ 63) (xor_all x)

-- ---- slots joined
abbrev pub slots : (ℕ → ℕ) → (ℕ → ℕ) → Slots ℕ
slots held lent = record { held = held; lent = lent }

hold_join : (s : Slots (List ℕ)) (k : ℕ) (v : List ℕ) (w : ℕ) → xor_all v ≡ w → joined_slots (holding s k v) ≡ holding (joined_slots s) k w
hold_join s k v w e =
    ap (λ (f : ℕ → ℕ). slots f (joined_slots s).lent)
    (fun_ext (with_both (λ (x : List ℕ) (y : ℕ). xor_all x ≡ y) s.held (joined_slots s).held k v w e (λ m. refl)))

lend_join : (s : Slots (List ℕ)) (j : ℕ) (v : List ℕ) (w : ℕ) → xor_all v ≡ w → joined_slots (lending s j v) ≡ lending (joined_slots s) j w
lend_join s j v w e =
    ap (slots (joined_slots s).held) (fun_ext (with_both (λ (x : List ℕ) (y : ℕ). xor_all x ≡ y) s.lent (joined_slots s).lent j v w e (λ m. refl)))

module _ (n : ℕ) (least : 2 ≤ n) (most : n ≤ 8) where
  act_join : (c : Act) (s : Slots (List ℕ)) (tape : List ℕ) → Shared n s → Words tape → act_tape n c ≤ length tape
      → joined_slots (on_shares n c tape s) ≡ on_plain c (joined_slots s)
  act_join (Put k w) s tape S W e = hold_join s k (plain_shares n w) w (plain_join n w)
  act_join (Flip k) s tape S W e = hold_join s k (flipped_first (s.held k)) (flipped (xor_all (s.held k))) (flip_join n least (s.held k) (S.held k).size)
  act_join (Load k j) s tape S W e = hold_join s k (s.lent j) (xor_all (s.lent j)) refl
  act_join (Store j k) s tape S W e = lend_join s j (s.held k) (xor_all (s.held k)) refl
  act_join (Call o k a b) s tape S W e =
      hold_join s k _ _ ((masked o).joins n least most (s.held a) (s.held b) tape (S.held a) (S.held b) W e)

pub acts_join : ActsJoin
acts_join n least most [] p s S tape W e = refl
acts_join n least most (c ∷ cs) p s S tape W e =
    let q = first_puts c cs p in
    acts_join n least most cs q.1 (on_shares n c tape s) (act_shared n least most c s tape q.0 S W (omega arith)) (drop (act_tape n c) tape)
    (drop_words tape W (act_tape n c)) (omega (arith, length-drop (act_tape n c) tape))
    ∙ ap (run_plain cs) (act_join n least most c s tape S W (omega arith))

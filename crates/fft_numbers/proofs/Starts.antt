-- The slots that the calls start from, by the lent words: n shares each where these are words, in agreement in a share where these are, and
-- joined. And a layer's acts put words. Rests on Laid and Slots.
use mathlib.Core.Path.{◌≡◌, refl, sym, ap₂, ◌∙◌, fun_ext}
use mathlib.Core.Bool.{Bool, true, false, cond}
use mathlib.Core.List.{List, [], ◌∷◌, ◌++◌}
use Prim.Native.Nat.{ℕ, zero, suc, ◌+◌, ◌*◌, ◌/◌, ◌<◌}
use native.Mathlib.Omega.{arith}
use lib.Dec.{ltb}
use lib.ListN.{get_or, replicate, get_or-eq_default}
use borrow.Author.Tests.{ltb-true, ltb-false}
use Rattle.masking.specs.Machine.{Words}
use Rattle.split_join.specs.SplitJoin.{xor_all}
use Rattle.operations.specs.Masked.{Operand}
use Rattle.fft_numbers.specs.Acts.{Act, Put, Flip, Load, Store, Call, with}
use Rattle.fft_numbers.specs.Complex.{slot_a, slot_b, slot_c, slot_d}
use Rattle.fft_numbers.specs.Layer.{block_count, pair_of, first_pairs, layer_acts}
use Rattle.fft_numbers.specs.Layout.{number_of, joined_words}
use Rattle.fft_numbers.specs.Calls.{complex_start, layer_start, plain_start}
use Rattle.fft_numbers.specs.Secrecy.{Shared, AgreeIn, PutsWords}
use Rattle.fft_numbers.specs.Holds.{joined_slots, OperandsAgree}
use Rattle.fft_numbers.proofs.Laid.{mapped_size, mapped_at, number_at, number_operand}
use Rattle.fft_numbers.proofs.Slots.{with_all, with_both, zeros_operand}
use Rattle.fft_numbers.proofs.Joined.{slots, zeros_join}

-- ---- the complex product
module _ (n : ℕ) (x y : List ℕ) where
  pub complex_shared : Words x → Words y → Shared n (complex_start n x y)
  complex_shared wx wy =
      let put : (f : ℕ → List ℕ) (k : ℕ) (v : List ℕ) → Operand n v → ((m : ℕ) → Operand n (f m)) → (m : ℕ) → Operand n (with f k v m) = with_all (Operand n) in
      record {
        held = put _ slot_d _ (number_operand n 2 1 y wy)
            (put _ slot_c _ (number_operand n 2 0 y wy)
            (put _ slot_b _ (number_operand n 2 1 x wx)
            (put _ slot_a _ (number_operand n 2 0 x wx) (λ k. zeros_operand n))));
        lent = λ j. zeros_operand n;
      }

  pub complex_agree : (i : ℕ) → i < n → (x' y' : List ℕ) → OperandsAgree i x y x' y' → AgreeIn i (complex_start n x y) (complex_start n x' y')
  complex_agree i li x' y' g =
      let same : (j : ℕ) (l l' : List ℕ) → get_or l (2 * i + j) 0 ≡ get_or l' (2 * i + j) 0 → get_or (number_of n 2 j l) i 0 ≡ get_or (number_of n 2 j l') i 0 =
      λ j l l' e. number_at n 2 j l i li ∙ e ∙ sym (number_at n 2 j l' i li) in
      let put : (f f' : ℕ → List ℕ) (k : ℕ) (v v' : List ℕ) → get_or v i 0 ≡ get_or v' i 0 → ((m : ℕ) → get_or (f m) i 0 ≡ get_or (f' m) i 0)
      → (m : ℕ) → get_or (with f k v m) i 0 ≡ get_or (with f' k v' m) i 0 =
      with_both (λ (v v' : List ℕ). get_or v i 0 ≡ get_or v' i 0) in
      record {
        held = put _ _ slot_d _ _ (same 1 y y' (g.second 1 (omega arith)))
            (put _ _ slot_c _ _ (same 0 y y' (g.second 0 (omega arith)))
            (put _ _ slot_b _ _ (same 1 x x' (g.first 1 (omega arith)))
            (put _ _ slot_a _ _ (same 0 x x' (g.first 0 (omega arith))) (λ k. refl))));
        lent = λ j. refl;
      }

-- ---- a layer
module _ (n N : ℕ) (numbers : List ℕ) where
  abbrev none : List ℕ
  none = replicate n 0

  abbrev number : ℕ → List ℕ
  number j = number_of n (2 * N) j numbers

  abbrev joined : ℕ → ℕ
  joined j = xor_all (number j)

  pub layer_shared : Words numbers → Shared n (layer_start n N numbers)
  layer_shared w = record { held = λ k. zeros_operand n; lent = λ j. by j (ltb j (2 * N)) }
    where
      by : (j : ℕ) (t : Bool) → Operand n (cond t (number j) none)
      by j true = number_operand n (2 * N) j numbers w
      by j false = zeros_operand n

  pub layer_agree : (i : ℕ) → i < n → (numbers' : List ℕ) → ((j : ℕ) → j < 2 * N → get_or numbers (2 * N * i + j) 0 ≡ get_or numbers' (2 * N * i + j) 0)
      → AgreeIn i (layer_start n N numbers) (layer_start n N numbers')
  layer_agree i li numbers' g = record { held = λ k. refl; lent = λ j. by j (ltb j (2 * N)) refl }
    where
      by : (j : ℕ) (t : Bool) → ltb j (2 * N) ≡ t → get_or (cond t (number j) none) i 0 ≡ get_or (cond t (number_of n (2 * N) j numbers') none) i 0
      by j true e = number_at n (2 * N) j numbers i li ∙ g j (ltb-true j (2 * N) e) ∙ sym (number_at n (2 * N) j numbers' i li)
      by j false e = refl

  pub layer_joined : joined_slots (layer_start n N numbers) ≡ plain_start (joined_words n (2 * N) numbers)
  layer_joined = ap₂ slots (fun_ext (λ (k : ℕ). zeros_join n)) (fun_ext (λ (j : ℕ). by j (ltb j (2 * N)) refl))
    where
      by : (j : ℕ) (t : Bool) → ltb j (2 * N) ≡ t → xor_all (cond t (number j) none) ≡ get_or (joined_words n (2 * N) numbers) j 0
      by j true e = sym (mapped_at joined (2 * N) j (ltb-true j (2 * N) e))
      by j false e =
          zeros_join n ∙ sym (get_or-eq_default (joined_words n (2 * N) numbers) 0 {n = j} (omega (arith, mapped_size joined (2 * N), ltb-false j (2 * N) e)))

-- its acts put the factors' words
puts_append : (cs ds : List Act) → PutsWords cs → PutsWords ds → PutsWords (cs ++ ds)
puts_append [] ds p q = q
puts_append (Put k w ∷ cs) ds p q = (p.0, puts_append cs ds p.1 q)
puts_append (Flip k ∷ cs) ds p q = puts_append cs ds p q
puts_append (Load k j ∷ cs) ds p q = puts_append cs ds p q
puts_append (Store j k ∷ cs) ds p q = puts_append cs ds p q
puts_append (Call o k a b ∷ cs) ds p q = puts_append cs ds p q

pub layer_puts : (N h : ℕ) (factors : List ℕ) → Words factors → PutsWords (layer_acts N h factors)
layer_puts N h factors w = first (N / 2)
  where
    first : (k : ℕ) → PutsWords (first_pairs N h factors k)
    first zero = tt
    first (suc k) = puts_append (first_pairs N h factors k) (pair_of N h factors k) (first k) (w (k / h), (w (block_count N h + k / h), tt))

-- What acts do to all numbers: acts on shares keep every number n shares of words (`acts_shared`); they go by no more tape than they take
-- (`act_part`); and over paired tapes they keep agreement in a share (`act_pairing`). Rests on the operations' results (result_words,
-- result_size, result_part) and, for agreement, on masking's Kept.
use mathlib.Core.Path.{◌≡◌, refl, sym, ap, ◌∙◌}
use mathlib.Core.Bool.{Bool, true, false, cond}
use mathlib.Core.List.{List, [], ◌∷◌}
use Prim.Native.Nat.{ℕ, zero, suc, ◌-◌, ◌^◌, ◌≤◌, ◌<◌}
use native.Mathlib.Omega.{arith}
use native.Mathlib.Nat.{le_of_eq}
use lib.Dec.{eqb}
use lib.ListN.{length, get_or, take, drop, replicate, length-replicate, length-drop}
use lib.Pow.{pow_pos}
use Rattle.bits.proofs.Bound.{xor_lt}
use Rattle.word.specs.Layout.{cell}
use Rattle.masking.specs.Translation.{program}
use Rattle.masking.specs.Foretold.{Accepted, foretold_tape}
use Rattle.masking.specs.Machine.{Words, exec}
use Rattle.masking.specs.Secrecy.{Tape, Pairing}
use Rattle.masking.proofs.joined.Cells.{drop_words}
use Rattle.masking.proofs.secret.Kept.{keeps_shares}
use Rattle.masking.proofs.secret.InTurn.{same}
use Rattle.binary64.specs.Operations.{Operation, on_words}
use Rattle.plans.specs.BuiltIns.{plan_of}
use Rattle.plans.proofs.BuiltIns.{built_ins}
use Rattle.masked_call.specs.Shares.{placed, finished, result_shares}
use Rattle.masked_call.proofs.Plans.{finished_is}
use Rattle.masked_call.proofs.Beside.{result_size, result_part}
use Rattle.operations.specs.Masked.{Operand}
use Rattle.operations.proofs.Joined.{accepted, result_words}
use Rattle.operations.proofs.Placed.{placed_start, placed_agree}
use Rattle.fft_numbers.specs.Acts.{Act, Put, Flip, Load, Store, Call, Slots, with, holding, lending, flipped, plain_shares, flipped_first, on_shares, act_tape, tape_for, run_shares}
use Rattle.fft_numbers.specs.Secrecy.{Shared, AgreeIn, PutsWords}
use Rattle.fft_numbers.proofs.Laid.{mapped_at}

-- ---- a number put in place: what holds of it and of all holds of all afterwards
pub with_all : {A : Type 0} (P : A → Type 0) (f : ℕ → A) (k : ℕ) (v : A) → P v → ((m : ℕ) → P (f m)) → (m : ℕ) → P (with f k v m)
with_all {A} P f k v h g m = by (eqb m k)
  where
    by : (b : Bool) → P (cond b v (f m))
    by true = h
    by false = g m

-- and of two
pub with_both : {A B : Type 0} (P : A → B → Type 0) (f : ℕ → A) (f' : ℕ → B) (k : ℕ) (v : A) (v' : B) → P v v' → ((m : ℕ) → P (f m) (f' m))
    → (m : ℕ) → P (with f k v m) (with f' k v' m)
with_both {A} {B} P f f' k v v' h g m = by (eqb m k)
  where
    by : (b : Bool) → P (cond b v (f m)) (cond b v' (f' m))
    by true = h
    by false = g m

-- ---- the word of a single act
abbrev pub PutsWord : Act → Type 0
PutsWord (Put k w) = w < 2 ^ 64
PutsWord (Flip k) = Unit
PutsWord (Load k j) = Unit
PutsWord (Store j k) = Unit
PutsWord (Call o k a b) = Unit

pub first_puts : (c : Act) (cs : List Act) → PutsWords (c ∷ cs) → PutsWord c × PutsWords cs
first_puts (Put k w) cs h = h
first_puts (Flip k) cs h = (tt, h)
first_puts (Load k j) cs h = (tt, h)
first_puts (Store j k) cs h = (tt, h)
first_puts (Call o k a b) cs h = (tt, h)

-- ---- n shares of words
zeros_words : (m : ℕ) → Words (replicate m 0)
zeros_words zero k = pow_pos 64
zeros_words (suc m) zero = pow_pos 64
zeros_words (suc m) (suc k) = zeros_words m k

cons_words : (w : ℕ) (l : List ℕ) → w < 2 ^ 64 → Words l → Words (w ∷ l)
cons_words w l h g zero = h
cons_words w l h g (suc k) = g k

pub zeros_operand : (n : ℕ) → Operand n (replicate n 0)
zeros_operand n = record { size = length-replicate n 0; words = zeros_words n }

pub plain_operand : (n w : ℕ) → 2 ≤ n → w < 2 ^ 64 → Operand n (plain_shares n w)
plain_operand n w l h = record { size = omega (arith, length-replicate {A = ℕ} (n - 1) 0); words = cons_words w (replicate (n - 1) 0) h (zeros_words (n - 1)) }

pub flipped_operand : (n : ℕ) (x : List ℕ) → Operand n x → Operand n (flipped_first x)
flipped_operand n [] X = X
flipped_operand n (w ∷ x) X =
    record { size = X.size; words = cons_words (flipped w) x (xor_lt 64 w (2 ^ 63) (X.words 0) (omega arith)) (λ k. X.words (suc k)) }

pub hold_shared : (n : ℕ) (s : Slots (List ℕ)) (k : ℕ) (v : List ℕ) → Shared n s → Operand n v → Shared n (holding s k v)
hold_shared n s k v S O = record { held = with_all (Operand n) s.held k v O S.held; lent = S.lent }

pub lend_shared : (n : ℕ) (s : Slots (List ℕ)) (j : ℕ) (v : List ℕ) → Shared n s → Operand n v → Shared n (lending s j v)
lend_shared n s j v S O = record { held = S.held; lent = with_all (Operand n) s.lent j v O S.lent }

module _ (n : ℕ) (least : 2 ≤ n) (most : n ≤ 8) where
  few : (x : List ℕ) → Operand n x → length x ≤ 8
  few x X = omega (arith, X.size)

  pub plan_accepted : (o : Operation) → Accepted n (plan_of o)
  plan_accepted o = accepted (plan_of o) (on_words o) (built_ins o).computes n least most

  pub result_operand : (o : Operation) (x y tape : List ℕ) → Operand n x → Operand n y → Words tape → foretold_tape n (plan_of o) ≤ length tape
      → Operand n (result_shares (plan_of o) n x y tape)
  result_operand o x y tape X Y W enough =
      record {
        size = result_size n (plan_of o) x y tape;
        words = result_words n (plan_of o) x y tape (plan_accepted o) (few x X) (few y Y) X.words Y.words W enough;
      }

  pub act_shared : (c : Act) (s : Slots (List ℕ)) (tape : List ℕ) → PutsWord c → Shared n s → Words tape → act_tape n c ≤ length tape → Shared n (on_shares n c tape s)
  act_shared (Put k w) s tape p S W e = hold_shared n s k (plain_shares n w) S (plain_operand n w least p)
  act_shared (Flip k) s tape p S W e = hold_shared n s k (flipped_first (s.held k)) S (flipped_operand n (s.held k) (S.held k))
  act_shared (Load k j) s tape p S W e = hold_shared n s k (s.lent j) S (S.lent j)
  act_shared (Store j k) s tape p S W e = lend_shared n s j (s.held k) S (S.held k)
  act_shared (Call o k a b) s tape p S W e =
      hold_shared n s k (result_shares (plan_of o) n (s.held a) (s.held b) tape) S (result_operand o (s.held a) (s.held b) tape (S.held a) (S.held b) W e)

  pub acts_shared : (cs : List Act) (s : Slots (List ℕ)) (tape : List ℕ) → PutsWords cs → Shared n s → Words tape → tape_for n cs ≤ length tape
      → Shared n (run_shares n cs tape s)
  acts_shared [] s tape p S W e = S
  acts_shared (c ∷ cs) s tape p S W e =
      let q = first_puts c cs p in
      acts_shared cs (on_shares n c tape s) (drop (act_tape n c) tape) q.1 (act_shared c s tape q.0 S W (omega arith)) (drop_words tape W (act_tape n c))
      (omega (arith, length-drop (act_tape n c) tape))

  -- an act goes by its own part of the tape
  pub act_part : (c : Act) (s : Slots (List ℕ)) (tape : List ℕ) → act_tape n c ≤ length tape → on_shares n c (take (act_tape n c) tape) s ≡ on_shares n c tape s
  act_part (Put k w) s tape e = refl
  act_part (Flip k) s tape e = refl
  act_part (Load k j) s tape e = refl
  act_part (Store j k) s tape e = refl
  act_part (Call o k a b) s tape e = ap (holding s k) (result_part n (plan_of o) (plan_accepted o) (s.held a) (s.held b) tape e)

-- ---- agreement in a share
pub hold_agree : (i : ℕ) (s s' : Slots (List ℕ)) (k : ℕ) (v v' : List ℕ) → AgreeIn i s s' → get_or v i 0 ≡ get_or v' i 0 → AgreeIn i (holding s k v) (holding s' k v')
hold_agree i s s' k v v' g e =
    record { held = with_both (λ (x x' : List ℕ). get_or x i 0 ≡ get_or x' i 0) s.held s'.held k v v' e g.held; lent = g.lent }

pub lend_agree : (i : ℕ) (s s' : Slots (List ℕ)) (j : ℕ) (v v' : List ℕ) → AgreeIn i s s' → get_or v i 0 ≡ get_or v' i 0 → AgreeIn i (lending s j v) (lending s' j v')
lend_agree i s s' j v v' g e =
    record { held = g.held; lent = with_both (λ (x x' : List ℕ). get_or x i 0 ≡ get_or x' i 0) s.lent s'.lent j v v' e g.lent }

-- share 0 is flipped in both
flip_agree : (i : ℕ) (x x' : List ℕ) → length x ≡ length x' → get_or x i 0 ≡ get_or x' i 0 → get_or (flipped_first x) i 0 ≡ get_or (flipped_first x') i 0
flip_agree i [] [] l e = refl
flip_agree i [] (w' ∷ x') l e = absurd (omega arith)
flip_agree i (w ∷ x) [] l e = absurd (omega arith)
flip_agree zero (w ∷ x) (w' ∷ x') l e = ap flipped e
flip_agree (suc i) (w ∷ x) (w' ∷ x') l e = e

-- a pairing of tapes for an act after which the states agree in share i
pub record ActAgrees (n i : ℕ) (c : Act) (s s' : Slots (List ℕ)) : Type 0 where
  pub pairing : Pairing (act_tape n c)
  pub agree : (tape : List ℕ) → Tape (act_tape n c) tape → AgreeIn i (on_shares n c tape s) (on_shares n c (pairing.there tape) s')

module _ (n : ℕ) (least : 2 ≤ n) (most : n ≤ 8) (i : ℕ) (below : i < n) where
  -- a share of a result is that of register 2
  result_share : (o : Operation) (x y tape : List ℕ) → foretold_tape n (plan_of o) ≤ length tape
      → get_or (result_shares (plan_of o) n x y tape) i 0 ≡ get_or (exec (program n (plan_of o)) tape (placed x y)) (cell i 2) 0
  unfolding result_shares
  result_share o x y tape e =
      mapped_at (λ i. get_or (finished (plan_of o) n x y tape) (cell i 2) 0) n i below
      ∙ ap (λ (l : List ℕ). get_or l (cell i 2) 0) (finished_is n (plan_of o) x y tape (plan_accepted n least most o) e)

  pub act_pairing : (c : Act) (s s' : Slots (List ℕ)) → Shared n s → Shared n s' → AgreeIn i s s' → ActAgrees n i c s s'
  act_pairing (Put k w) s s' S S' g = record { pairing = same 0; agree = λ t h. hold_agree i s s' k (plain_shares n w) (plain_shares n w) g refl }
  act_pairing (Flip k) s s' S S' g =
      record {
        pairing = same 0;
        agree = λ t h. hold_agree i s s' k (flipped_first (s.held k)) (flipped_first (s'.held k)) g
            (flip_agree i (s.held k) (s'.held k) ((S.held k).size ∙ sym (S'.held k).size) (g.held k));
      }
  act_pairing (Load k j) s s' S S' g = record { pairing = same 0; agree = λ t h. hold_agree i s s' k (s.lent j) (s'.lent j) g (g.lent j) }
  act_pairing (Store j k) s s' S S' g = record { pairing = same 0; agree = λ t h. lend_agree i s s' j (s.held k) (s'.held k) g (g.held k) }
  act_pairing (Call o k a b) s s' S S' g =
      let x = s.held a in
      let y = s.held b in
      let x' = s'.held a in
      let y' = s'.held b in
      let lx = few n least most x (S.held a) in
      let ly = few n least most y (S.held b) in
      let lx' = few n least most x' (S'.held a) in
      let ly' = few n least most y' (S'.held b) in
      let E =
      keeps_shares n (plan_of o) (plan_accepted n least most o) i below (placed x y) (placed x' y')
      (placed_start x y lx ly (S.held a).words (S.held b).words) (placed_start x' y' lx' ly' (S'.held a).words (S'.held b).words)
      (placed_agree x y x' y' lx ly lx' ly' i (g.held a) (g.held b)) in
      record {
        pairing = E.pairing;
        agree = λ t h. hold_agree i s s' k (result_shares (plan_of o) n x y t) (result_shares (plan_of o) n x' y' (E.pairing.there t)) g
            (result_share o x y t (le_of_eq (sym h.size)) ∙ E.agree t h 2 (omega arith)
            ∙ sym (result_share o x' y' (E.pairing.there t) (le_of_eq (sym (E.pairing.there_tape t h).size))));
      }

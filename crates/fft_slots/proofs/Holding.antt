-- Numbers in slots of the work slice and among the lent words: one put in place leaves the others. Rests on Written.
use mathlib.Core.Path.{◌≡◌, refl, sym, ap, ◌∙◌}
use mathlib.Core.List.{List, [], ◌∷◌}
use Prim.Native.Nat.{ℕ, zero, suc, ◌+◌, ◌*◌, ◌/◌, ◌%◌, ◌≤◌, ◌<◌}
use native.Mathlib.Nat.{zero-add, add_comm, mul-suc, mul-le-mul_left, mul-div_cancel_left, add-mul-mod_self_left, mod-eq_of_lt}
use native.Mathlib.Decide.{ℕ_discrete}
use native.Mathlib.Omega.{arith}
use lib.ListN.{length, get_or, set, replicate, length-set, length-replicate, get_or-replicate}
use lib.Seq.{ext_get_or, get_or-set_same, get_or-set_other}
use borrow.Author.Tests.{eq-eqb, ne_eqb}
use Rattle.fft_numbers.specs.Acts.{Slots, holding, lending, flipped, flipped_first}
use Rattle.fft_numbers.specs.Layout.{number_of}
use Rattle.fft_numbers.proofs.Laid.{number_size, number_at}
use Rattle.fft_copies.specs.inner.Inner.{written, Inside}
use Rattle.fft_slots.specs.inner.Inner.{slot_at, slot_step, held_of, HeldIn, LentIn}
use Rattle.fft_copies.proofs.Written.{written_size, written_other, written_at}

-- ---- a number written where it is read
read_written : (n step at : ℕ) (xs l : List ℕ) → ((a b : ℕ) → step * a + at ≡ step * b + at → a ≡ b) → length xs ≡ n → Inside n step at (length l)
    → number_of n step at (written step at 0 xs l) ≡ xs
read_written n step at xs l inj size inside =
    ext_get_or 0 (number_of n step at (written step at 0 xs l)) xs (number_size n step at (written step at 0 xs l) ∙ sym size)
    (λ i h.
    let li : i < n = omega (arith, number_size n step at (written step at 0 xs l)) in
    number_at n step at (written step at 0 xs l) i li
    ∙ ap (λ (k : ℕ). get_or (written step at 0 xs l) (step * k + at) 0) (sym (zero-add i))
    ∙ written_at step at 0 xs l i inj (omega arith) (λ j lj. rw (zero-add j) (inside j (omega arith))))

-- and one read elsewhere
pub read_other : (n step at : ℕ) (l l' : List ℕ) → ((i : ℕ) → i < n → get_or l' (step * i + at) 0 ≡ get_or l (step * i + at) 0) → number_of n step at l' ≡ number_of n step at l
read_other n step at l l' h =
    ext_get_or 0 (number_of n step at l') (number_of n step at l) (number_size n step at l' ∙ sym (number_size n step at l))
    (λ i li.
    let lt : i < n = omega (arith, number_size n step at l') in
    number_at n step at l' i lt ∙ h i lt ∙ sym (number_at n step at l i lt))

-- ---- slots
-- zeros hold zeros
pub zeros_held : (n k : ℕ) → n ≤ 8 → k < 16 → held_of n k (replicate 512 0) ≡ replicate n 0
zeros_held n k few lk =
    ext_get_or 0 (held_of n k (replicate 512 0)) (replicate n 0) (number_size n slot_step (slot_at k) (replicate 512 0) ∙ sym (length-replicate n 0))
    (λ i h.
    let l : i < n = omega (arith, number_size n slot_step (slot_at k) (replicate 512 0)) in
    number_at n slot_step (slot_at k) (replicate 512 0) i l ∙ get_or-replicate 512 (slot_step * i + slot_at k) 0 0 (omega arith) ∙ sym (get_or-replicate n i 0 0 l))

module _ (n : ℕ) (few : n ≤ 8) where
  module _ (k : ℕ) (lk : k < 16) (work : List ℕ) (s : Slots (List ℕ)) (H : HeldIn n work s) where
    -- a number written into slot k
    pub held_written : (xs : List ℕ) → length xs ≡ n → HeldIn n (written slot_step (slot_at k) 0 xs work) (holding s k xs)
    held_written xs size =
        record {
          size = written_size slot_step (slot_at k) 0 xs work ∙ H.size;
          each = λ m lm. by m lm (ℕ_discrete m k);
        }
      where
        by : (m : ℕ) → m < 16 → Dec (m ≡ k) → held_of n m (written slot_step (slot_at k) 0 xs work) ≡ (holding s k xs).held m
        by m lm (yes e) =
            rw (e, eq-eqb k k refl) (read_written n slot_step (slot_at k) xs work (λ a b q. omega arith) size (λ i l. omega (arith, H.size)))
        by m lm (no e) =
            rw (ne_eqb m k e) (read_other n slot_step (slot_at m) work (written slot_step (slot_at k) 0 xs work)
            (λ i l. written_other slot_step (slot_at k) 0 xs work (slot_step * i + slot_at m) (λ j lo hi q. e (omega arith))) ∙ H.each m lm)

    -- the sign of slot k's number flipped in share 0
    pub held_flipped : 2 ≤ n → HeldIn n (set work (slot_at k) (flipped (get_or work (slot_at k) 0))) (holding s k (flipped_first (s.held k)))
    held_flipped some =
        record {
          size = length-set work (slot_at k) _ ∙ H.size;
          each = λ m lm. by m lm (ℕ_discrete m k);
        }
      where
        work' : List ℕ
        work' = set work (slot_at k) (flipped (get_or work (slot_at k) 0))

        first : (x y : List ℕ) → length x ≡ length y → 1 ≤ length x → get_or y 0 0 ≡ flipped (get_or x 0 0) → ((i : ℕ) → suc i < length x → get_or y (suc i) 0 ≡ get_or x (suc i) 0) → y ≡ flipped_first x
        first [] y e h f g = absurd (omega arith)
        first (v ∷ x) y e h f g = ext_get_or 0 y (flipped v ∷ x) (sym e) at
          where
            at : (i : ℕ) → i < length y → get_or y i 0 ≡ get_or (flipped v ∷ x) i 0
            at zero l = f
            at (suc i) l = g i (omega arith)

        here : slot_step * 0 + slot_at k ≡ slot_at k
        here = omega arith

        read : held_of n k work' ≡ flipped_first (held_of n k work)
        read =
            let x = held_of n k work in
            let sx = number_size n slot_step (slot_at k) work in
            first x (held_of n k work') (sx ∙ sym (number_size n slot_step (slot_at k) work')) (omega (arith, sx))
            (number_at n slot_step (slot_at k) work' 0 (omega arith) ∙ ap (λ (p : ℕ). get_or work' p 0) here ∙ get_or-set_same work (slot_at k) _ 0 (omega (arith, H.size))
            ∙ ap flipped (sym (number_at n slot_step (slot_at k) work 0 (omega arith) ∙ ap (λ (p : ℕ). get_or work p 0) here)))
            (λ i l.
            let li : suc i < n = omega (arith, sx) in
            number_at n slot_step (slot_at k) work' (suc i) li
            ∙ get_or-set_other work (slot_at k) (slot_step * suc i + slot_at k) _ 0 (λ q. omega arith)
            ∙ sym (number_at n slot_step (slot_at k) work (suc i) li))

        by : (m : ℕ) → m < 16 → Dec (m ≡ k) → held_of n m work' ≡ (holding s k (flipped_first (s.held k))).held m
        by m lm (yes e) = rw (e, eq-eqb k k refl) (read ∙ ap flipped_first (H.each k lk))
        by m lm (no e) =
            rw (ne_eqb m k e) (read_other n slot_step (slot_at m) work work'
            (λ i l. get_or-set_other work (slot_at k) (slot_step * i + slot_at m) _ 0 (λ q. e (omega arith))) ∙ H.each m lm)

-- ---- lent numbers
module _ (n S j : ℕ) (lj : j < S) (numbers : List ℕ) where
  pub row_inside : Inside n S j (S * n)
  row_inside i l =
      let m : S * suc i ≤ S * n = mul-le-mul_left S l in
      omega (arith, mul-suc S i)

  same_row : (a b : ℕ) → S * a + j ≡ S * b + j → a ≡ b
  same_row a b e =
      let q : S * a ≡ S * b = omega arith in
      sym (mul-div_cancel_left a {n = S} (omega arith)) ∙ ap (λ (x : ℕ). x / S) q ∙ mul-div_cancel_left b {n = S} (omega arith)

  in_row_is : (i m : ℕ) → m < S → (S * i + m) % S ≡ m
  in_row_is i m lm = ap (λ (x : ℕ). x % S) (add_comm (S * i) m) ∙ add-mul-mod_self_left m S i ∙ mod-eq_of_lt lm

  -- a number put in place of number j
  pub lent_written : (s : Slots (List ℕ)) → LentIn n S numbers s → (xs : List ℕ) → length xs ≡ n → LentIn n S (written S j 0 xs numbers) (lending s j xs)
  lent_written s L xs size =
      record {
        size = written_size S j 0 xs numbers ∙ L.size;
        each = λ m lm. by m lm (ℕ_discrete m j);
      }
    where
      by : (m : ℕ) → m < S → Dec (m ≡ j) → number_of n S m (written S j 0 xs numbers) ≡ (lending s j xs).lent m
      by m lm (yes e) =
          rw (e, eq-eqb j j refl) (read_written n S j xs numbers same_row size (λ i l. rw L.size (row_inside i l)))
      by m lm (no e) =
          rw (ne_eqb m j e) (read_other n S m numbers (written S j 0 xs numbers)
          (λ i l. written_other S j 0 xs numbers (S * i + m) (λ a lo hi q. e (sym (in_row_is i m lm) ∙ ap (λ (x : ℕ). x % S) q ∙ in_row_is a j lj))) ∙ L.each m lm)

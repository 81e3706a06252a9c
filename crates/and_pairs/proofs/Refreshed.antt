-- y share by share is what AND's copy of b and its refresh leave. Rests on RowTurns for a pair and ShareTurns for a copy, and on masking's Counts for the numbers of shares.
use mathlib.Core.Path.{◌≡◌, refl, sym, ap, ap₂, ◌∙◌, subst}
use mathlib.Core.Bool.{Bool, true, ◌&&◌}
use mathlib.Core.List.{List, [], ◌∷◌, ◌++◌, map}
use Prim.Native.Nat.{ℕ, zero, suc, ◌+◌, ◌-◌, ◌*◌, ◌/◌, ◌^◌, ◌≤◌, ◌<◌}
use native.Mathlib.Nat.{add-zero}
use native.Mathlib.Omega.{arith}
use lib.Dec.{T, ltb, ltb→lt}
use lib.ListN.{length, get_or, set, drop, length-set}
use lib.Seq.{get_or-set_same, get_or-set_other, set-set, set_comm, get_or-drop}
use Rattle.bits.specs.Ops.{xor_w}
use Rattle.word.specs.declared.step.Step.TheVariants.{Shl}
use Rattle.word.proofs.Ranges.{both}
use Rattle.masking.specs.Translation.{Pair, pairs, refresh, scratch, shares, up_from}
use Rattle.masking.specs.Machine.{exec_step, exec_steps, rands_of}
use Rattle.masking.proofs.emitted.Counts.{by_count}
use Rattle.masking.proofs.emitted.Rising.{from_first, rising, risen}
use Rattle.and_parts.specs.declared.once.Place.{Place}
use Rattle.and_parts.specs.inner.Effects.{Alike, Nearly, Register, at, behind, behind_row, copy_in, freshly, refreshed_y, row_words}
use Rattle.and_parts.proofs.Toward.{joined, still_near}
use Rattle.and_pairs.proofs.ShareTurns.{copy_alike}
use Rattle.and_pairs.proofs.RowTurns.{refresh_near}

-- ---- cells with words in y from share s on
abbrev put : ℕ → List ℕ → List ℕ → List ℕ
put s [] c = c
put s (y ∷ ys) c = put (suc s) ys (set c (256 + s) y)

put_size : (s : ℕ) (ys c : List ℕ) → length (put s ys c) ≡ length c
put_size s [] c = refl
put_size s (y ∷ ys) c = put_size (suc s) ys (set c (256 + s) y) ∙ length-set c (256 + s) y

-- cells below are as before
put_below : (s : ℕ) (ys c : List ℕ) (k : ℕ) → k < 256 + s → get_or (put s ys c) k 0 ≡ get_or c k 0
put_below s [] c k h = refl
put_below s (y ∷ ys) c k h = put_below (suc s) ys (set c (256 + s) y) k (omega arith) ∙ get_or-set_other c (256 + s) k y 0 (λ e. omega arith)

set_below : (s : ℕ) (ys c : List ℕ) (k v : ℕ) → k < 256 + s → set (put s ys c) k v ≡ put s ys (set c k v)
set_below s [] c k v h = refl
set_below s (y ∷ ys) c k v h = set_below (suc s) ys (set c (256 + s) y) k v (omega arith) ∙ ap (put (suc s) ys) (set_comm c (256 + s) k y v (λ e. omega arith))

-- share s + i
put_get : (s : ℕ) (ys c : List ℕ) (i k : ℕ) → k ≡ 256 + (s + i) → i < length ys → k < length c → get_or (put s ys c) k 0 ≡ get_or ys i 0
put_get s [] c i k e h l = absurd (omega arith)
put_get s (y ∷ ys) c zero k e h l =
    put_below (suc s) ys (set c (256 + s) y) k (omega arith)
    ∙ ap (λ (m : ℕ). get_or (set c (256 + s) y) m 0) (omega (arith, e)) ∙ get_or-set_same c (256 + s) y 0 (omega arith)
put_get s (y ∷ ys) c (suc i) k e h l = put_get (suc s) ys (set c (256 + s) y) i k (omega arith) (omega arith) (omega (arith, length-set c (256 + s) y))

put_set : (s : ℕ) (ys c : List ℕ) (i k v : ℕ) → k ≡ 256 + (s + i) → i < length ys → set (put s ys c) k v ≡ put s (set ys i v) c
put_set s [] c i k v e h = absurd (omega arith)
put_set s (y ∷ ys) c zero k v e h =
    set_below (suc s) ys (set c (256 + s) y) k v (omega arith)
    ∙ ap (put (suc s) ys) (ap (λ (m : ℕ). set (set c (256 + s) y) m v) (omega (arith, e)) ∙ set-set c (256 + s) y v)
put_set s (y ∷ ys) c (suc i) k v e h = put_set (suc s) ys (set c (256 + s) y) i k v (omega arith) (omega arith)

-- ---- the refresh, pair by pair
abbrev mixed : ℕ → Pair → List ℕ → List ℕ
mixed r q ys = set (set ys q.lo (xor_w (get_or ys q.lo 0) r)) q.hi (xor_w (get_or ys q.hi 0) r)

abbrev in_rows : List ℕ → ℕ → List Pair → List ℕ → List ℕ
in_rows tape p [] ys = ys
in_rows tape p (q ∷ qs) ys = in_rows tape (p + 1) qs (mixed (get_or tape p 0) q ys)

-- pairs i < j < n
abbrev within : ℕ → List Pair → Bool
within n [] = true
within n (q ∷ qs) = ltb q.lo q.hi && (ltb q.hi n && within n qs)

module _ (n : ℕ) (n8 : n ≤ 8) (c : List ℕ) (size : length c ≡ 512) (tape : List ℕ) where
  one_pair : (q : Pair) → q.lo < q.hi → q.hi < n → (ys : List ℕ) → length ys ≡ n → (t : ℕ)
      → Nearly (refresh scratch (q ∷ [])) tape t (put 0 ys c) (put 0 (mixed (get_or tape t 0) q ys) c) (t + 1)
  one_pair q below inside ys long t =
      let r = get_or tape t 0 in
      let i = q.lo in
      let j = q.hi in
      let x = xor_w (get_or ys i 0) r in
      let gi = put_get 0 ys c i (256 + i) (omega arith) (omega arith) (omega arith) in
      let gj = put_get 0 ys c j (256 + j) (omega arith) (omega arith) (omega arith) in
      let done : refreshed_y i j r (put 0 ys c) ≡ put 0 (mixed r q ys) c =
      ap₂ (λ (u v : ℕ). set (set (put 0 ys c) (256 + i) (xor_w u r)) (256 + j) (xor_w v r)) gi gj
      ∙ ap (λ (l : List ℕ). set l (256 + j) (xor_w (get_or ys j 0) r)) (put_set 0 ys c i (256 + i) x (omega arith) (omega arith))
      ∙ put_set 0 (set ys i x) c j (256 + j) (xor_w (get_or ys j 0) r) (omega arith) (omega (arith, length-set ys i x)) in
      subst (λ (l : List ℕ). Nearly (refresh scratch (q ∷ [])) tape t (put 0 ys c) l (t + 1)) done (refresh_near i j below (omega arith) tape t (put 0 ys c) (put_size 0 ys c ∙ size))

  rows_near : (qs : List Pair) → T (within n qs) → (ys : List ℕ) → length ys ≡ n → (t : ℕ) → Nearly (refresh scratch qs) tape t (put 0 ys c) (put 0 (in_rows tape t qs ys) c) (t + length qs)
  rows_near [] w ys long t = record { cells = λ k e. e; place = refl }
  rows_near (q ∷ qs) w ys long t =
      let r = get_or tape t 0 in
      let next = mixed r q ys in
      let long' : length next ≡ n = length-set (set ys q.lo (xor_w (get_or ys q.lo 0) r)) q.hi _ ∙ length-set ys q.lo _ ∙ long in
      let v = both (ltb q.lo q.hi) (ltb q.hi n && within n qs) w in
      let u = both (ltb q.hi n) (within n qs) v.1 in
      subst (λ (m : ℕ). Nearly (refresh scratch (q ∷ qs)) tape t (put 0 ys c) (put 0 (in_rows tape (t + 1) qs next) c) m) (omega arith)
      (joined (refresh scratch (q ∷ [])) (refresh scratch qs) (one_pair q (ltb→lt _ _ v.0) (ltb→lt _ _ u.0) ys long t) (rows_near qs u.1 next long' (t + 1)))

-- ---- the tape from place t on
module _ (tape : List ℕ) (t : ℕ) where
  word_from : (p q : ℕ) → q ≡ t + p → get_or tape q 0 ≡ get_or (drop t tape) p 0
  word_from p q e = ap (λ (k : ℕ). get_or tape k 0) e ∙ sym (get_or-drop t tape p 0)

  rows_from : (qs : List Pair) (p q : ℕ) → q ≡ t + p → (ys : List ℕ) → in_rows tape q qs ys ≡ in_rows (drop t tape) p qs ys
  rows_from [] p q e ys = refl
  rows_from (x ∷ qs) p q e ys = rows_from qs (p + 1) (q + 1) (omega arith) (mixed (get_or tape q 0) x ys) ∙ ap (λ (r : ℕ). in_rows (drop t tape) (p + 1) qs (mixed r x ys)) (word_from p q e)

  row_from : (m p q : ℕ) → q ≡ t + p → (y : ℕ) → behind_row tape m q y ≡ behind_row (drop t tape) m p y
  row_from zero p q e y = refl
  row_from (suc m) p q e y = row_from m (p + 1) (q + 1) (omega arith) (xor_w y (get_or tape q 0)) ∙ ap (λ (r : ℕ). behind_row (drop t tape) m (p + 1) (xor_w y r)) (word_from p q e)

  behind_from : (c m p q : ℕ) → q ≡ t + p → (y : ℕ) → behind tape c m q y ≡ behind (drop t tape) c m p y
  behind_from zero m p q e y = row_from m p q e y
  behind_from (suc c) m p q e y =
      behind_from c (m - 1) (p + m) (q + m) (omega arith) (xor_w y (get_or tape (q + c) 0))
      ∙ ap (λ (r : ℕ). behind (drop t tape) c (m - 1) (p + m) (xor_w y r)) (word_from (p + c) (q + c) (omega arith))

  each_from : (m : ℕ) (f : ℕ → ℕ) (ks : List ℕ) → map (λ k. behind tape k m t (f k)) ks ≡ map (λ k. behind (drop t tape) k m 0 (f k)) ks
  each_from m f [] = refl
  each_from m f (k ∷ ks) = ap₂ ◌∷◌ (behind_from k m 0 t (sym (add-zero t)) (f k)) (each_from m f ks)

-- ---- share by share, for each number of shares: by computation
pub record Shared (n : ℕ) : Type 0 where
  pub good : T (within n (pairs (shares n)))
  pub count : length (pairs (shares n)) ≡ row_words (n - 1)
  pub long : (f : ℕ → ℕ) → length (map f (shares n)) ≡ n
  pub same : (tape : List ℕ) (f : ℕ → ℕ) → in_rows tape 0 (pairs (shares n)) (map f (shares n)) ≡ map (λ k. behind tape k (n - 1) 0 (f k)) (shares n)

shared : (n : ℕ) → 2 ≤ n → n ≤ 8 → Shared n
shared =
    by_count Shared
    (record { good = tt; count = refl; long = λ f. refl; same = λ tape f. refl })
    (record { good = tt; count = refl; long = λ f. refl; same = λ tape f. refl })
    (record { good = tt; count = refl; long = λ f. refl; same = λ tape f. refl })
    (record { good = tt; count = refl; long = λ f. refl; same = λ tape f. refl })
    (record { good = tt; count = refl; long = λ f. refl; same = λ tape f. refl })
    (record { good = tt; count = refl; long = λ f. refl; same = λ tape f. refl })
    (record { good = tt; count = refl; long = λ f. refl; same = λ tape f. refl })

-- ---- the shares of b, read while y is written
module _ (B : Place) (R : Register B) (c₀ : List ℕ) where
  -- cells that have b's shares as c₀ has them
  abbrev Kept : List ℕ → Type 0
  Kept c = (i : ℕ) → i < 8 → get_or c (at B i) 0 ≡ get_or c₀ (at B i) 0

  kept_set : (c : List ℕ) (s v : ℕ) → s < 8 → Kept c → Kept (set c (256 + s) v)
  kept_set c s v s8 h i i8 = get_or-set_other c (256 + s) (at B i) v 0 (R.away i (256 + s) i8 (omega arith) (omega arith)) ∙ h i i8

  copied : (words : (k : ℕ) → get_or c₀ k 0 < 2 ^ 64) (s m : ℕ) → s + m ≤ 8 → (c : List ℕ) → Kept c → (tape k : List ℕ) → Alike c k
      → Alike (put s (map (λ i. get_or c₀ (at B i) 0) (up_from s m)) c) (exec_steps (map (λ i. Shl (256 + i) (at B i) 0) (up_from s m)) tape k)
  copied words s zero h c same tape k e = e
  copied words s (suc m) h c same tape k e =
      let x = at B s in
      let s8 : s < 8 = omega arith in
      let here = same s s8 in
      let one = copy_alike c (256 + s) x (λ e. omega arith, λ e. omega arith) (R.away s 272 s8 (omega arith) (omega arith), R.away s 273 s8 (omega arith) (omega arith)) (rw here (words x)) tape k e in
      copied words (suc s) m (omega arith) (set c (256 + s) (get_or c₀ x 0)) (kept_set c s _ s8 same) tape (exec_step (Shl (256 + s) x 0) tape k)
      (subst (λ (v : ℕ). Alike (set c (256 + s) v) (exec_step (Shl (256 + s) x 0) tape k)) here one)

  shared_put : (tape : List ℕ) (t n s m : ℕ) → s + m ≤ 8 → (c : List ℕ) → Kept c
      → freshly tape t n (at B) (up_from s m) c ≡ put s (map (λ k. behind tape k (n - 1) t (get_or c₀ (at B k) 0)) (up_from s m)) c
  shared_put tape t n s zero h c same = refl
  shared_put tape t n s (suc m) h c same =
      let s8 : s < 8 = omega arith in
      ap (λ (v : ℕ). freshly tape t n (at B) (up_from (suc s) m) (set c (256 + s) (behind tape s (n - 1) t v))) (same s s8)
      ∙ shared_put tape t n (suc s) m (omega arith) (set c (256 + s) (behind tape s (n - 1) t (get_or c₀ (at B s) 0))) (kept_set c s _ s8 same)

no_words : (f : ℕ → ℕ) (s m : ℕ) → rands_of (map (λ i. Shl (256 + i) (f i) 0) (up_from s m)) ≡ 0
no_words f s zero = refl
no_words f s (suc m) = omega (arith, no_words f (suc s) m)

-- y from b share by share: the copy and the refresh are done
pub fresh_near : (n : ℕ) → 2 ≤ n → n ≤ 8 → (B : Place) → Register B → (c : List ℕ) → length c ≡ 512 → ((k : ℕ) → get_or c k 0 < 2 ^ 64) → (tape : List ℕ) (t : ℕ)
    → Nearly (copy_in n (at B) ++ refresh scratch (pairs (shares n))) tape t c (freshly tape t n (at B) (shares n) c) (t + row_words (n - 1))
fresh_near n n2 n8 B R c size words tape t =
    let law = shared n n2 n8 in
    let f : ℕ → ℕ = λ i. get_or c (at B i) 0 in
    let ys = map f (shares n) in
    let qs = pairs (shares n) in
    let kept : Kept B R c c = λ i i8. refl in
    let cells : put 0 (in_rows tape t qs ys) c ≡ freshly tape t n (at B) (shares n) c =
    ap (λ (l : List ℕ). put 0 l c) (rows_from tape t qs 0 t (sym (add-zero t)) ys ∙ law.same (drop t tape) f ∙ sym (each_from tape t (n - 1) f (shares n))) ∙ sym (shared_put B R c tape t n 0 n (omega arith) c kept) in
    let rows = rows_near n n8 c size tape qs law.good ys (law.long f) t in
    let done = joined (copy_in n (at B)) (refresh scratch qs) (still_near tape t (no_words (at B) 0 n) (copied B R c words 0 n (omega arith) c kept)) rows in
    subst (λ (l : List ℕ). Nearly (copy_in n (at B) ++ refresh scratch qs) tape t c l (t + row_words (n - 1))) cells
    (subst (λ (m : ℕ). Nearly (copy_in n (at B) ++ refresh scratch qs) tape t c (put 0 (in_rows tape t qs ys) c) (t + m)) law.count done)

-- the tape words, by the rows and by half of n(n - 1)
pub fresh_words : (n : ℕ) → 2 ≤ n → n ≤ 8 → rands_of (refresh scratch (pairs (shares n))) ≡ row_words (n - 1)
fresh_words = by_count (λ n. rands_of (refresh scratch (pairs (shares n))) ≡ row_words (n - 1)) refl refl refl refl refl refl refl

pub half : (n : ℕ) → 2 ≤ n → n ≤ 8 → (n * (n - 1) ≤ 56) × (n * (n - 1) / 2 ≡ row_words (n - 1))
half =
    by_count (λ n. (n * (n - 1) ≤ 56) × (n * (n - 1) / 2 ≡ row_words (n - 1)))
    (omega arith, refl) (omega arith, refl) (omega arith, refl) (omega arith, refl) (omega arith, refl) (omega arith, refl) (omega arith, refl)

-- ---- the loop over shares
module _ (tape : List ℕ) (t n : ℕ) (b : ℕ → ℕ) where
  pub fresh_begin : (c : List ℕ) → freshly tape t n b (shares n) c ≡ freshly tape t n b (up_from 0 (n - 0)) c
  fresh_begin c = ap (λ (ks : List ℕ). freshly tape t n b ks c) (from_first n)

  pub fresh_turn : (k : ℕ) → k < n → (c₀ c c' : List ℕ) → freshly tape t n b (shares n) c₀ ≡ freshly tape t n b (up_from k (n - k)) c
      → c' ≡ set c (256 + k) (behind tape k (n - 1) t (get_or c (b k) 0)) → freshly tape t n b (shares n) c₀ ≡ freshly tape t n b (up_from (k + 1) (n - (k + 1))) c'
  fresh_turn k h c₀ c c' l e =
      l ∙ ap (λ (ks : List ℕ). freshly tape t n b ks c) (rising k n h) ∙ ap (freshly tape t n b (up_from (k + 1) (n - (k + 1)))) (sym e)

  pub fresh_end : (k : ℕ) → n ≤ k → (c₀ c : List ℕ) → freshly tape t n b (shares n) c₀ ≡ freshly tape t n b (up_from k (n - k)) c → c ≡ freshly tape t n b (shares n) c₀
  fresh_end k h c₀ c l = sym (l ∙ ap (λ (ks : List ℕ). freshly tape t n b ks c) (risen k n h))

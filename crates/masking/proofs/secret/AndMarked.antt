-- AND's steps for any marks: the sets that marks and the shares S wanted afterwards ask for, their sizes, and the steps' secrecy where
-- marks and S together are fewer than n.
use mathlib.Core.Path.{◌≡◌, ap, ◌∙◌}
use mathlib.Core.Bool.{Bool}
use mathlib.Core.List.{List, ◌++◌}
use Prim.Native.Nat.{ℕ, ◌+◌, ◌<◌, ◌≤◌}
use native.Mathlib.Omega.{arith}
use lib.Dec.{T}
use lib.ListN.{length, length-append}
use Rattle.word.specs.declared.step.Step.{Step}
use Rattle.word.specs.declared.step.Step.TheVariants.{Shl, And}
use Rattle.masking.specs.Translation.{Scratch, share_cell, shares, pairs, and_steps, cells_of}
use Rattle.masking.proofs.emitted.Places.{Places}
use Rattle.masking.proofs.emitted.Pairs.{apart_pairs}
use Rattle.masking.proofs.joined.Cells.{Cells}
use Rattle.masking.proofs.secret.Acts.{acts}
use Rattle.masking.proofs.secret.Wp.{Marks, wp}
use Rattle.masking.proofs.secret.Meeting.{share_lt}
use Rattle.masking.proofs.secret.Sets.{has, has_left, has_right, count, count_then, outside}
use Rattle.masking.proofs.secret.Assigned.{marked, asked_in, marked_count, marks_b, refreshed_in, refresh_count, marks_k, marks_a, marks_n, pairs_ask_in, products_count}
use Rattle.masking.proofs.secret.Registers.{Agreed, adds}
use Rattle.masking.proofs.secret.AndSecret.{copies, refreshed, diagonal, crossed, results, parts, after1, after2, after3, after4, and_wp}

module _ (sc : Scratch) (n d a b : ℕ) (m : Marks) (S : List ℕ) where
  abbrev m1 : Marks
  m1 = after1 sc n d a b m

  abbrev m2 : Marks
  m2 = after2 sc n d a b m

  abbrev m3 : Marks
  m3 = after3 sc n d a b m

  abbrev m4 : Marks
  m4 = after4 sc n d a b m

  -- what each part's marks add
  abbrev of_results : List ℕ
  of_results = marked m2 (shares n) ++ (marks_k m3 (pairs (shares n)) ++ marked m4 (shares n))

  abbrev set_k : List ℕ
  set_k = S ++ of_results

  abbrev set_a : List ℕ
  set_a = set_k ++ marks_a m3 (pairs (shares n))

  abbrev set_b : List ℕ
  set_b = marked m (shares n) ++ marks_b m1 (pairs (shares n))

  -- the shares in which the registers have to agree before
  pub set_w : List ℕ
  set_w = set_a ++ set_b

  -- S is among them
  pub keeps_W : (i : ℕ) → T (has S i) → T (has set_w i)
  unfolding set_w
  keeps_W i h = has_left set_a set_b i (has_left set_k (marks_a m3 (pairs (shares n))) i (has_left S of_results i h))

  -- the shares that the unknown one is not to be
  abbrev set_n : List ℕ
  set_n = set_k ++ (set_b ++ marks_n (has set_k) m3 (pairs (shares n)))

  and_count : count m (acts (and_steps sc n (cells_of d) (cells_of a) (cells_of b)))
      ≡ count m (acts (copies sc n d a b)) + (count m1 (acts (refreshed sc n d a b)) + (count m2 (acts (diagonal sc n d a b)) + (count m3 (acts (crossed sc n d a b)) + count m4 (acts (results sc n d a b)))))
  and_count =
      ap (λ (P : List Step). count m (acts P)) (parts sc n d a b)
      ∙ count_then m (copies sc n d a b) _ ∙ ap (λ (x : ℕ). count m (acts (copies sc n d a b)) + x)
      (count_then m1 (refreshed sc n d a b) _ ∙ ap (λ (x : ℕ). count m1 (acts (refreshed sc n d a b)) + x)
      (count_then m2 (diagonal sc n d a b) _ ∙ ap (λ (x : ℕ). count m2 (acts (diagonal sc n d a b)) + x)
      (count_then m3 (crossed sc n d a b) (results sc n d a b))))

  size_B : length set_b ≡ count m (acts (copies sc n d a b)) + count m1 (acts (refreshed sc n d a b))
  size_B =
      simp length-append (omega (arith, marked_count (λ i. Shl (sc.y i) (share_cell i b) 0) m (shares n), refresh_count sc m1 (pairs (shares n))))

  size_K : length set_k ≡ length S + (count m2 (acts (diagonal sc n d a b)) + (length (marks_k m3 (pairs (shares n))) + count m4 (acts (results sc n d a b))))
  size_K =
      simp length-append
      (omega (arith, marked_count (λ i. And (sc.z i) (share_cell i a) (sc.y i)) m2 (shares n), marked_count (λ i. Shl (share_cell i d) (sc.z i) 0) m4 (shares n)))

  pub size_W : length set_w ≤ length S + count m (acts (and_steps sc n (cells_of d) (cells_of a) (cells_of b)))
  unfolding set_w
  size_W =
      let p = (products_count sc a m m3 (pairs (shares n))).0 in
      omega (arith, length-append set_a set_b, length-append set_k (marks_a m3 (pairs (shares n))), size_B, size_K, and_count, p)

  size_N : length set_n ≤ length S + count m (acts (and_steps sc n (cells_of d) (cells_of a) (cells_of b)))
  size_N =
      let N = marks_n (has set_k) m3 (pairs (shares n)) in
      let p = (products_count sc a (has set_k) m3 (pairs (shares n))).1 in
      omega (arith, length-append set_k (set_b ++ N), length-append set_b N, size_B, size_K, and_count, p)

module _ (n w : ℕ) (sc : Scratch) (L : Places n w sc) where
  pub and_marked : (d a b : ℕ) (m : Marks) (S : List ℕ) (R : ℕ → Bool) → d < w → a < w → b < w → T (R a) → T (R b)
      → length S + count m (acts (and_steps sc n (cells_of d) (cells_of a) (cells_of b))) < n → (c c' : Cells) → Agreed n w R (has (set_w sc n d a b m S)) c c'
      → wp m (acts (and_steps sc n (cells_of d) (cells_of a) (cells_of b))) (Agreed n w (adds d R) (has S)) c c'
  unfolding set_w
  and_marked d a b m S R ld la lb Ra Rb small c c' g = by (outside n N (omega (arith, size_N sc n d a b m S)))
    where
      K : List ℕ
      K = set_k sc n d a b m S

      A : List ℕ
      A = set_a sc n d a b m S

      B : List ℕ
      B = set_b sc n d a b m S

      N : List ℕ
      N = set_n sc n d a b m S

      n1 : Marks
      n1 = m1 sc n d a b m S

      n2 : Marks
      n2 = m2 sc n d a b m S

      n3 : Marks
      n3 = m3 sc n d a b m S

      n4 : Marks
      n4 = m4 sc n d a b m S

      M1 : List ℕ
      M1 = marked m (shares n)

      M2 : List ℕ
      M2 = marks_b n1 (pairs (shares n))

      M3 : List ℕ
      M3 = marked n2 (shares n)

      MK : List ℕ
      MK = marks_k n3 (pairs (shares n))

      MA : List ℕ
      MA = marks_a n3 (pairs (shares n))

      MN : List ℕ
      MN = marks_n (has K) n3 (pairs (shares n))

      M5 : List ℕ
      M5 = marked n4 (shares n)

      in_K : (i : ℕ) → T (has (M3 ++ (MK ++ M5)) i) → T (has K i)
      in_K i x = has_right S (M3 ++ (MK ++ M5)) i x

      by : (k : ℕ) × (k < n) × (T (has N k) → ⊥) → wp m (acts (and_steps sc n (cells_of d) (cells_of a) (cells_of b))) (Agreed n w (adds d R) (has S)) c c'
      by (k, lk, out) =
          and_wp n w sc L d a b ld la lb R Ra Rb (has (A ++ B)) (has A) (has B) (has K) (has S) k
          (record {
            A_W = has_left A B;
            B_W = has_right A B;
            K_A = has_left K MA;
            S_K = has_left S (M3 ++ (MK ++ M5));
            K_k = λ i x e. out (rw e at (has_left K (B ++ MN) i x));
            B_k = λ x. out (has_right K (B ++ MN) k (has_left B MN k x));
            k_n = lk;
          })
          m
          (record {
            m1 = asked_in n (has B) m (shares n) (share_lt n) (has_left M1 M2);
            m2 = refreshed_in (has B) n1 (pairs (shares n)) (has_right M1 M2);
            m3 = asked_in n (has K) n2 (shares n) (share_lt n) (λ i x. in_K i (has_left M3 (MK ++ M5) i x));
            m4 = pairs_ask_in n k (has A) (has K) n3 (pairs (shares n)) (apart_pairs n)
                (λ i x. in_K i (has_right M3 (MK ++ M5) i (has_left MK M5 i x))) (has_right K MA)
                (λ i x e. out (rw e at (has_right K (B ++ MN) i (has_right B MN i x))));
            m5 = asked_in n (has K) n4 (shares n) (share_lt n) (λ i x. in_K i (has_right M3 (MK ++ M5) i (has_right MK M5 i x)));
          })
          c c' g

-- What decides the results of share steps: a block reads only shares of the registers that its step on registers reads, and scratch cells that
-- it has written before; and ADD laid out reads each helper after writing it. So where registers decide registers, their shares decide shares
-- (`blocks_decide`). Over any scratch cells. Rests on Decided.
use mathlib.Core.Path.{◌≡◌, refl, ap, ◌∙◌}
use mathlib.Core.List.{List, [], ◌∷◌, ◌++◌, map}
use mathlib.Core.Logic.{inl, inr, ⊎_elim}
use Prim.Native.Nat.{ℕ, ◌<◌}
use lib.Dec.{T}
use Rattle.word.specs.declared.step.Step.{Step}
use Rattle.word.specs.declared.step.Step.TheVariants.{Const, Xor, And, Not, Shl, Shr, Spread, Add, Rand}
use Rattle.word.specs.Encoding.{in_plan}
use Rattle.word.specs.Table.{dest, reads, Each}
use Rattle.masking.specs.Translation.{shares, Pair, pairs, share_cell, cells_of, share_step, Scratch, scratch_cells, wiping, refresh, products, and_steps, and_block, block, blocks, r_h, r_g, r_p, r_t, generated, passed, round, rounds, adding, laid_out}
use Rattle.masking.proofs.emitted.Tests.{All}
use Rattle.masking.proofs.emitted.Pairs.{Apart, apart_pairs}
use Rattle.masking.proofs.joined.Once.{Once, share_dest, share_reads}
use Rattle.masking.proofs.joined.Blocks.{laid}
use Rattle.masking.proofs.joined.Decided.{Some, plus, Decides, decides_from, decides_to, decides_then, with, each_decides}

-- ---- AND's parts, over cells P

module _ (P : Some) where
  -- steps that leave it as it is
  abbrev Stays : List Step → Type 0
  Stays ss = Decides P ss P

  then_stays : (ss ts : List Step) → Stays ss → Stays ts → Stays (ss ++ ts)
  then_stays = decides_then P P P

  wiping_stays : (ks : List ℕ) → Stays (wiping ks)
  wiping_stays [] = λ k p. p
  wiping_stays (x ∷ ks) = (tt, decides_from P (plus x P) P (wiping ks) (λ k p. inr p) (wiping_stays ks))

module _ (C : Scratch) (n : ℕ) (P : Some) (y : (i : ℕ) → i < n → P (C.y i)) where
  -- t is written before it is read
  refresh_stays : (ps : List Pair) → Apart n ps → Stays P (refresh C ps)
  refresh_stays [] s = λ k p. p
  refresh_stays (p ∷ ps) s = (
    tt,
    (
      (inr (y p.lo s.0), (inl refl, tt)),
      (
        (inr (inr (y p.hi s.1)), (inr (inl refl), tt)),
        decides_from P _ P (refresh C ps) (λ k q. inr (inr (inr q))) (refresh_stays ps s.3),
      ),
    ),
  )

  -- and so is u
  products_stays : (a : ℕ → ℕ) → ((i : ℕ) → i < n → P (a i)) → ((i : ℕ) → i < n → P (C.z i)) → (ps : List Pair) → Apart n ps → Stays P (products C a ps)
  products_stays a ha hz [] s = λ k p. p
  products_stays a ha hz (p ∷ ps) s =
      let lo = s.0 in
      let hi = s.1 in (
        tt,
        (
          (inr (hz _ lo), (inl refl, tt)),
          (
            (inr (inr (ha _ lo)), (inr (inr (y _ hi)), tt)),
            (
              (inr (inr (inl refl)), (inl refl, tt)),
              (
                (inr (inr (inr (inr (ha _ hi)))), (inr (inr (inr (inr (y _ lo)))), tt)),
                (
                  (inr (inl refl), (inl refl, tt)),
                  (
                    (inr (inr (inr (inr (inr (inr (hz _ hi)))))), (inl refl, tt)),
                    decides_from P _ P (products C a ps) (λ k q. inr (inr (inr (inr (inr (inr (inr q))))))) (products_stays a ha hz ps s.3),
                  ),
                ),
              ),
            ),
          ),
        ),
      )

module _ (C : Scratch) (n : ℕ) (P : Some) (d a b : ℕ → ℕ) (ha : (i : ℕ) → i < n → P (a i)) (hb : (i : ℕ) → i < n → P (b i)) where
  abbrev with_y : Some
  with_y = with n C.y P

  abbrev with_z : Some
  with_z = with n C.z with_y

  -- y and z are written before they are read
  steps_decide : Decides P (and_steps C n d a b) (with n d with_z)
  unfolding and_steps
  steps_decide =
      let ys : (i : ℕ) → i < n → with_y (C.y i) = λ i l. inl (i, l, refl) in
      let zs : (i : ℕ) → i < n → with_z (C.z i) = λ i l. inl (i, l, refl) in
      decides_then P with_y (with n d with_z) (map (λ i. Shl (C.y i) (b i) 0) (shares n)) _
      (each_decides n (λ i. Shl (C.y i) (b i) 0) C.y (λ i. refl) P (λ i l. (hb i l, tt)))
      (decides_then with_y with_y (with n d with_z) (refresh C (pairs (shares n))) _ (refresh_stays C n with_y ys (pairs (shares n)) (apart_pairs n))
      (decides_then with_y with_z (with n d with_z) (map (λ i. And (C.z i) (a i) (C.y i)) (shares n)) _
      (each_decides n (λ i. And (C.z i) (a i) (C.y i)) C.z (λ i. refl) with_y (λ i l. (inr (ha i l), (ys i l, tt))))
      (decides_then with_z with_z (with n d with_z) (products C a (pairs (shares n))) _
      (products_stays C n with_z (λ i l. inr (ys i l)) a (λ i l. inr (inr (ha i l))) zs (pairs (shares n)) (apart_pairs n))
      (each_decides n (λ i. Shl (d i) (C.z i) 0) d (λ i. refl) with_z (λ i l. (zs i l, tt))))))

  and_decides : Decides P (and_block C n d a b) (with n d P)
  unfolding and_block
  and_decides =
      decides_then P (with n d with_z) (with n d P) (and_steps C n d a b) (wiping (scratch_cells C n)) steps_decide
      (decides_to (with n d with_z) (with n d with_z) (with n d P) (wiping (scratch_cells C n))
      (λ k. ⊎_elim inl (λ (p : P k). inr (inr (inr p)))) (wiping_stays (with n d with_z) (scratch_cells C n)))

-- ---- steps on registers

-- the n shares of registers R
abbrev pub SharesOf : ℕ → Some → Some
SharesOf n R k = (i : ℕ) × (i < n) × (r : ℕ) × R r × (k ≡ share_cell i r)

module _ (C : Scratch) (n : ℕ) where
  -- d's shares and those of R are those of R and d
  and_shares : (d : ℕ) (R : Some) (k : ℕ) → SharesOf n (plus d R) k → with n (cells_of d) (SharesOf n R) k
  and_shares d R k (i, l, r, q, e) = ⊎_elim (λ (o : r ≡ d). inl (i, l, e ∙ ap (share_cell i) o)) (λ (p : R r). inr (i, l, r, p, e)) q

  -- shares i of registers R
  read_shares : (R : Some) (i : ℕ) → i < n → (rs : List ℕ) → Each R rs → Each (SharesOf n R) (map (share_cell i) rs)
  read_shares R i l [] h = tt
  read_shares R i l (r ∷ rs) h = ((i, l, r, h.0, refl), read_shares R i l rs h.1)

  once_decides : (s : Step) → Once s → (R : Some) → Each R (reads s) → Decides (SharesOf n R) (map (share_step s) (shares n)) (SharesOf n (plus (dest s) R))
  once_decides s o R h =
      decides_to (SharesOf n R) (with n (cells_of (dest s)) (SharesOf n R)) (SharesOf n (plus (dest s) R)) (map (share_step s) (shares n)) (and_shares (dest s) R)
      (each_decides n (share_step s) (cells_of (dest s)) (share_dest s o) (SharesOf n R) (λ i l. rw (share_reads s o i) (read_shares R i l (reads s) h)))

  block_decides : (s : Step) → T (laid s) → (R : Some) → Each R (reads s) → Decides (SharesOf n R) (block C n s) (SharesOf n (plus (dest s) R))
  block_decides (Const d k) o R h = once_decides (Const d k) tt R h
  block_decides (Xor d a b) o R h = once_decides (Xor d a b) tt R h
  block_decides (And d a b) o R h =
      decides_to (SharesOf n R) (with n (cells_of d) (SharesOf n R)) (SharesOf n (plus d R)) (and_block C n (cells_of d) (cells_of a) (cells_of b)) (and_shares d R)
      (and_decides C n (SharesOf n R) (cells_of d) (cells_of a) (cells_of b) (λ i l. (i, l, a, h.0, refl)) (λ i l. (i, l, b, h.1.0, refl)))
  block_decides (Not d a) o R h = once_decides (Not d a) tt R h
  block_decides (Shl d a b) o R h = once_decides (Shl d a b) tt R h
  block_decides (Shr d a b) o R h = once_decides (Shr d a b) tt R h
  block_decides (Spread d a) o R h = once_decides (Spread d a) tt R h
  block_decides (Add d a b) o R h = absurd o
  block_decides (Rand d) o R h = absurd o

  -- what registers decide of registers, their shares decide of shares
  pub blocks_decide : (ss : List Step) → All (λ s. T (laid s)) ss → (R Q : Some) → Decides R ss Q → Decides (SharesOf n R) (blocks C n ss) (SharesOf n Q)
  blocks_decide [] o R Q h = λ k (i, l, r, q, e). (i, l, r, h r q, e)
  blocks_decide (s ∷ ss) o R Q h =
      decides_then (SharesOf n R) (SharesOf n (plus (dest s) R)) (SharesOf n Q) (block C n s) (blocks C n ss) (block_decides s o.0 R h.0)
      (blocks_decide ss o.1 (plus (dest s) R) Q h.1)

-- ---- a plan's step laid out

-- ADD's rounds
abbrev rounds_of : List ℕ → List Step
rounds_of [] = generated 32
rounds_of (k ∷ ks) = round k ++ rounds_of ks

-- they read G and P, and T once it is written
module _ (P : Some) (g : P r_g) (p : P r_p) where
  generated_stays : (k : ℕ) → Stays P (generated k)
  generated_stays k = ((g, tt), ((inr p, (inl refl, tt)), ((inr (inr g), (inl refl, tt)), λ k q. inr (inr (inr q)))))

  passed_stays : (k : ℕ) → Stays P (passed k)
  passed_stays k = ((p, tt), ((inr p, (inl refl, tt)), λ k q. inr (inr q)))

  round_stays : (k : ℕ) → Stays P (round k)
  round_stays k = then_stays P (generated k) (passed k) (generated_stays k) (passed_stays k)

  rounds_then : (ks : List ℕ) → Stays P (rounds_of ks)
  rounds_then [] = generated_stays 32
  rounds_then (k ∷ ks) = then_stays P (round k) (rounds_of ks) (round_stays k) (rounds_then ks)

  rounds_stay : Stays P rounds
  rounds_stay = rounds_then (1 ∷ 2 ∷ 4 ∷ 8 ∷ 16 ∷ [])

adding_decides : (R : Some) (d a b : ℕ) → R a → R b → Decides R (adding d a b) (plus d R)
unfolding adding
adding_decides R d a b ha hb =
    let E = plus r_p (plus r_g (plus r_h R)) in
    let end = Shl r_t r_g 1 ∷ Xor d r_h r_t ∷ [] in
    decides_then R E (plus d R) (Xor r_h a b ∷ And r_g a b ∷ Shl r_p r_h 0 ∷ []) (rounds ++ end)
    ((ha, (hb, tt)), ((inr ha, (inr hb, tt)), ((inr (inl refl), tt), λ k q. q)))
    (decides_then E E (plus d R) rounds end (rounds_stay E (inr (inl refl)) (inl refl))
    ((inr (inl refl), tt), ((inr (inr (inr (inl refl))), (inl refl, tt)), λ k. ⊎_elim inl (λ (q : R k). inr (inr (inr (inr (inr q))))))))

pub laid_decides : (R : Some) (s : Step) → T (in_plan s) → Each R (reads s) → Decides R (laid_out s) (plus (dest s) R)
laid_decides R (Const d k) h e = (e, λ k q. q)
laid_decides R (Xor d a b) h e = (e, λ k q. q)
laid_decides R (And d a b) h e = (e, λ k q. q)
laid_decides R (Not d a) h e = (e, λ k q. q)
laid_decides R (Shl d a b) h e = (e, λ k q. q)
laid_decides R (Shr d a b) h e = (e, λ k q. q)
laid_decides R (Spread d a) h e = (e, λ k q. q)
laid_decides R (Add d a b) h e = adding_decides R d a b e.0 e.1.0
laid_decides R (Rand d) h e = absurd h

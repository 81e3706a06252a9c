-- AND's scratch cells after a plan: an AND leaves them zero, whatever the start and the tape, and no other step on registers writes them. So
-- they are zero after the share program of a plan's first k words if one of these is AND or ADD. Rests on Zeroed and emitted's Steps.
use mathlib.Core.Path.{◌≡◌, sym, ap, ◌∙◌, subst}
use mathlib.Core.Bool.{Bool, false, ◌||◌}
use mathlib.Core.List.{List, [], ◌∷◌, ◌++◌, map}
use mathlib.Core.Logic.{◌⊎◌, inl, inr, ⊎_elim}
use Prim.Native.Nat.{ℕ}
use native.Mathlib.Omega.{arith}
use lib.Dec.{T, eqb}
use lib.ListN.{length, take}
use Rattle.word.specs.declared.step.Step.{Step}
use Rattle.word.specs.declared.step.Step.TheVariants.{Const, Xor, And, Not, Shl, Shr, Spread, Add, Rand}
use Rattle.word.specs.Encoding.{kind_of, within, kind_number, plan_step}
use Rattle.word.specs.Table.{dest, Each}
use Rattle.masking.specs.Translation.{cells_of, shares, share_step, Scratch, scratch, scratch_cells, wiping, and_steps, and_block, block, blocks, adding, laid_out, program}
use Rattle.masking.specs.Foretold.{Accepted}
use Rattle.masking.specs.Machine.{exec, exec_steps, Words}
use Rattle.masking.specs.Wiped.{holds_and_or_add, Wiped}
use Rattle.masking.proofs.emitted.Tests.{or_left, or_right, or_elim, All, all_from}
use Rattle.masking.proofs.emitted.Places.{Places, places}
use Rattle.masking.proofs.emitted.Wiping.{Aside, scratch_aside, scratch_parts}
use Rattle.masking.proofs.emitted.Steps.{PlanWords, plan_words, steps_for, plan_steps, take_accepted, program_steps, plan_good, plan_within}
use Rattle.masking.proofs.joined.Cells.{Cells, within_dest, at, exec_on}
use Rattle.masking.proofs.joined.After.{after, after_mono, after_then, after_run, after_off, after_any, Off}
use Rattle.masking.proofs.joined.Once.{Once, share_dest}
use Rattle.masking.proofs.joined.Zeroed.{Zeroed, wiping_zeroes}

-- ---- steps on registers

abbrev is_and : Step → Bool
is_and s = eqb (kind_number s) 3

abbrev any_and : List Step → Bool
any_and [] = false
any_and (s ∷ ss) = is_and s || any_and ss

any_left : (ss ts : List Step) → T (any_and ss) → T (any_and (ss ++ ts))
any_left [] ts h = absurd h
any_left (s ∷ ss) ts h = or_elim (is_and s) (any_and ss) (or_left (is_and s) _) (λ x. or_right (is_and s) _ (any_left ss ts x)) h

any_right : (ss ts : List Step) → T (any_and ts) → T (any_and (ss ++ ts))
any_right [] ts h = h
any_right (s ∷ ss) ts h = or_right (is_and s) _ (any_right ss ts h)

-- where no AND comes, they were zero before
were : {P : Type 0} → ⊥ ⊎ P → P
were (inl x) = absurd x
were (inr z) = z

module _ (n w : ℕ) (C : Scratch) (L : Places n w C) where
  abbrev Zero : Cells → Type 0
  Zero = Zeroed n C

  -- steps that write shares alone leave it so
  shares_only : (ss : List Step) → ((k : ℕ) → Aside n w k → Off k ss) → (c : Cells) → Zero c → after ss Zero c
  shares_only ss o c z =
      after_mono ss (λ e. (k : ℕ) → Off k ss → e k ≡ c k) Zero c (λ e h. both (scratch_cells C n) e h (scratch_aside n w C L) z) (after_off ss c)
    where
      both : (ks : List ℕ) (e : Cells) → ((k : ℕ) → Off k ss → e k ≡ c k) → Each (Aside n w) ks → Each (λ k. c k ≡ 0) ks → Each (λ k. e k ≡ 0) ks
      both [] e h a z = tt
      both (k ∷ ks) e h a z = (h k (o k a.0) ∙ z.0, both ks e h a.1 z.1)

  once_zeroed : (s : Step) → Once s → T (within w s) → (c : Cells) → Zero c → after (map (share_step s) (shares n)) Zero c
  once_zeroed s o h =
      shares_only (map (share_step s) (shares n)) (λ k a.
      all_from (λ s. k ≡ dest s → ⊥) (share_step s) 0 n (λ i l m e. a i (dest s) (omega arith) (within_dest w s h) (sym (share_dest s o i) ∙ sym e)))

  -- AND wipes them
  and_zeroed : (d a b : ℕ) (c : Cells) → after (and_block C n (cells_of d) (cells_of a) (cells_of b)) Zero c
  unfolding and_block
  and_zeroed d a b c =
      let P = and_steps C n (cells_of d) (cells_of a) (cells_of b) in
      after_then P (wiping (scratch_cells C n)) (λ e. Unit {0}) Zero c (after_any P c) (λ e q. wiping_zeroes (scratch_cells C n) e)

  -- so they are zero after AND, and after the others if they were
  block_zeroed : (s : Step) → T (within w s) → (c : Cells) → T (is_and s) ⊎ Zero c → after (block C n s) Zero c
  block_zeroed (Const d k) h c z = once_zeroed (Const d k) tt h c (were z)
  block_zeroed (Xor d a b) h c z = once_zeroed (Xor d a b) tt h c (were z)
  block_zeroed (And d a b) h c z = and_zeroed d a b c
  block_zeroed (Not d a) h c z = once_zeroed (Not d a) tt h c (were z)
  block_zeroed (Shl d a b) h c z = once_zeroed (Shl d a b) tt h c (were z)
  block_zeroed (Shr d a b) h c z = once_zeroed (Shr d a b) tt h c (were z)
  block_zeroed (Spread d a) h c z = once_zeroed (Spread d a) tt h c (were z)
  block_zeroed (Add d a b) h c z = were z
  block_zeroed (Rand d) h c z = were z

  blocks_zeroed : (ss : List Step) → All (λ s. T (within w s)) ss → (c : Cells) → T (any_and ss) ⊎ Zero c → after (blocks C n ss) Zero c
  blocks_zeroed [] h c z = were z
  blocks_zeroed (s ∷ ss) h c z =
      let rest : (e : Cells) → T (any_and ss) ⊎ Zero e → after (blocks C n ss) Zero e = blocks_zeroed ss h.1 in
      let first : T (is_and s) ⊎ Zero c → after (block C n s ++ blocks C n ss) Zero c =
      λ x. after_then (block C n s) (blocks C n ss) Zero Zero c (block_zeroed s h.0 c x) (λ e q. rest e (inr q)) in
      let later : T (any_and ss) → after (block C n s ++ blocks C n ss) Zero c =
      λ x. after_then (block C n s) (blocks C n ss) (λ e. Unit {0}) Zero c (after_any (block C n s) c) (λ e q. rest e (inl x)) in
      ⊎_elim (or_elim (is_and s) (any_and ss) (λ x. first (inl x)) later) (λ (q : Zero c). first (inr q)) z

-- ---- plans

-- AND and ADD, laid out, hold an AND
laid_and : (s : Step) → T (eqb (kind_number s) 3 || eqb (kind_number s) 8) → T (any_and (laid_out s))
unfolding adding
laid_and (Const d k) h = absurd h
laid_and (Xor d a b) h = absurd h
laid_and (And d a b) h = tt
laid_and (Not d a) h = absurd h
laid_and (Shl d a b) h = absurd h
laid_and (Shr d a b) h = absurd h
laid_and (Spread d a) h = absurd h
laid_and (Add d a b) h = tt
laid_and (Rand d) h = absurd h

plan_and : (plan : List ℕ) → PlanWords plan → T (holds_and_or_add plan) → T (any_and (plan_steps plan))
plan_and [] p h = absurd h
plan_and (w ∷ ws) p h =
    or_elim (eqb (kind_of w) 3 || eqb (kind_of w) 8) (holds_and_or_add ws)
    (λ x. any_left (steps_for (plan_step w)) (plan_steps ws) (rw p.0.apart (laid_and p.0.step (rw p.0.kind at x))))
    (λ x. any_right (steps_for (plan_step w)) (plan_steps ws) (plan_and ws p.1 x)) h

-- over cells l and any tape
program_wiped : (n : ℕ) (plan : List ℕ) → Accepted n plan → T (holds_and_or_add plan) → (l tape : List ℕ) → length l ≡ 512 → Words tape → Wiped n (exec (program n plan) tape l)
program_wiped n plan A h l tape size words =
    let ss = blocks scratch n (plan_steps plan) in
    let e : at (exec (program n plan) tape l) ≡ _ =
    ap (λ (ss : List Step). at (exec_steps ss tape l)) (program_steps n plan A) ∙ exec_on ss (plan_good n plan A) l tape size in
    let z = after_run ss (Zeroed n scratch) (at l)
    (blocks_zeroed n 40 scratch (places n A.most) (plan_steps plan) (plan_within n plan A) (at l) (inl (plan_and plan (plan_words plan A.good) h))) tape words in
    let p = scratch_parts (λ k. at (exec (program n plan) tape l) k ≡ 0) scratch n (subst (Zeroed n scratch) (sym e) z) in
    record { y = p.y; z = p.z; t = p.t; u = p.u }

pub wiped_after : (n : ℕ) (plan : List ℕ) → Accepted n plan → (l tape : List ℕ) → length l ≡ 512 → Words tape → (k : ℕ) → T (holds_and_or_add (take k plan))
    → Wiped n (exec (program n (take k plan)) tape l)
wiped_after n plan A l tape size words k h = program_wiped n (take k plan) (take_accepted n plan A k) h l tape size words

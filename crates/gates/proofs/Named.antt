-- The blocks of a translation by the places of their registers. Rests on masking's Places, and on and_parts' Running for an AND that is the last step left.
use mathlib.Core.Path.{◌≡◌, refl, sym, ap, ◌∙◌, subst}
use mathlib.Core.List.{List, [], ◌++◌, map}
use Prim.Native.Nat.{ℕ, ◌+◌, ◌-◌, ◌*◌, ◌≤◌, ◌<◌}
use native.Mathlib.Omega.{arith}
use lib.ListN.{length}
use Rattle.word.specs.declared.step.Step.{Step}
use Rattle.word.specs.declared.step.Step.TheVariants.{And}
use Rattle.masking.specs.Translation.{shares, share_cell, cells_of, scratch, block, and_block, r_p, r_t}
use Rattle.masking.proofs.emitted.Places.{share_register, share_helper}
use Rattle.and_parts.specs.declared.once.Place.{Place}
use Rattle.and_parts.specs.declared.once.Op.{Op}
use Rattle.and_parts.specs.inner.Effects.{Enough, Ran, Register, Still, at, once_step, placed}
use Rattle.and_many.specs.inner.Asked.{Asked, and_of}
use Rattle.gates.specs.inner.PlanWords.{IsHelper, OfPlan}
use Rattle.and_parts.proofs.Running.{Left, enough, part, still_ran, whole}
use Rattle.and_parts.proofs.Turn.{once_rands}

-- ---- places and the registers that they are

-- a place is that of a register
pub record Named (p : Place) (r : ℕ) : Type 0 where
  pub same : at p ≡ cells_of r
  pub register : Register p

-- helper register h of ADD
abbrev pub helper_at : ℕ → Place
helper_at h = record { base = 288 + h; stride = 8 }

helper_same : (h : ℕ) → at (helper_at h) ≡ cells_of (32 + h)
helper_same h = λ k i. by i k
  where
    by : (i : ℕ) → at (helper_at h) i ≡ share_cell i (32 + h)
    by i = let e : 288 + h + i * 8 ≡ 288 + 8 * i + (32 + h - 32) = omega arith in e ∙ sym (share_helper i (32 + h) (omega arith))

helper_register : (h : ℕ) → h < 8 → Register (helper_at h)
helper_register h l = record { inside = omega arith; spread = omega arith; away = λ i c i8 lo hi e. omega arith }

pub helper_named : (h : ℕ) → h < 8 → Named (helper_at h) (32 + h)
helper_named h l = record { same = helper_same h; register = helper_register h l }

module _ (p : Place) (o : OfPlan p) where
  at_plan : (i : ℕ) → at p i ≡ p.base + i * 32
  at_plan i = ap (λ (s : ℕ). p.base + i * s) o.1

  plan_same : at p ≡ cells_of p.base
  plan_same = λ k i. by i k
    where
      by : (i : ℕ) → at p i ≡ share_cell i p.base
      by i = let e : p.base + i * 32 ≡ 32 * i + p.base = omega arith in at_plan i ∙ e ∙ sym (share_register i p.base o.0)

  plan_register : Register p
  plan_register = record { inside = omega (arith, o.0, o.1); spread = omega (arith, o.1); away = λ i c i8 lo hi e. omega (arith, at_plan i, o.0) }

  pub plan_named : Named p p.base
  plan_named = record { same = plan_same; register = plan_register }

-- a place by its numbers
module _ (p : Place) (r : ℕ) (e : p.base ≡ r) (f : p.stride ≡ 32) (h : r < 32) where
  pub of_plan : OfPlan p
  of_plan = (omega arith, f)

  pub plan_register_named : Named p r
  plan_register_named = subst (Named p) e (plan_named p of_plan)

-- operands of AND by their share 0
pub plan_placed : (r : ℕ) → r < 32 → Named (placed r 32) r
plan_placed r h = plan_register_named (placed r 32) r refl refl h

pub helper_placed : (p : Place) (h : ℕ) → IsHelper h p → h < 8 → Named (placed p.base 8) (32 + h)
helper_placed p h e l = subst (λ (k : ℕ). Named (placed k 8) (32 + h)) (sym e) (helper_named h l)

-- ---- once per share
module _ (o : Op) (n : ℕ) {pd pa pb : Place} {d a b : ℕ} (ed : Named pd d) (ea : Named pa a) (eb : Named pb b) where
  pub once_still : (c c' : List ℕ) → Still (map (once_step o (at pd) (at pa) (at pb)) (shares n)) c c' → Still (map (once_step o (cells_of d) (cells_of a) (cells_of b)) (shares n)) c c'
  once_still c c' = subst (λ (ss : List Step). Still ss c c') (λ k. map (once_step o (ed.same k) (ea.same k) (eb.same k)) (shares n))

  pub once_ran : {c c' : List ℕ} (tape : List ℕ) (t : ℕ) → Still (map (once_step o (at pd) (at pa) (at pb)) (shares n)) c c' → Ran (map (once_step o (cells_of d) (cells_of a) (cells_of b)) (shares n)) tape t c c' t
  once_ran {c} {c'} tape t h = still_ran tape t (once_rands o (cells_of d) (cells_of a) (cells_of b) (shares n)) (once_still c c' h)

-- ---- AND
module _ (n : ℕ) {pd pa pb : Place} {d a b : ℕ} (ed : Named pd d) (ea : Named pa a) (eb : Named pb b) where
  and_block_is : and_block scratch n (at pd) (at pa) (at pb) ≡ block scratch n (And d a b)
  and_block_is = λ k. and_block scratch n (ed.same k) (ea.same k) (eb.same k)

  pub and_ran : {c c' tape : List ℕ} {t t' : ℕ} → Ran (and_block scratch n (at pd) (at pa) (at pb)) tape t c c' t' → Ran (block scratch n (And d a b)) tape t c c' t'
  and_ran {c} {c'} {tape} {t} {t'} = subst (λ (ss : List Step). Ran ss tape t c c' t') and_block_is

-- what AND asks, of operands by their share 0
pub and_asked : {n : ℕ} {pd : Place} {x y over d a b : ℕ} {tape cells : List ℕ} {t : ℕ} → Named pd d → Named (placed x over) a → Named (placed y over) b
    → 2 ≤ n → n ≤ 8 → length cells ≡ 512 → Enough tape t (block scratch n (And d a b)) → Asked n pd x y over tape t cells
and_asked {n} {tape = tape} {t = t} ed ea eb l m e w =
    record { least = l; most = m; size = e; to = ed.register; left = ea.register; right = eb.register; words = subst (Enough tape t) (sym (and_block_is n ed ea eb)) w }

-- an AND of ADD's P and T, at places that are theirs, as the last step that is left
module _ (n : ℕ) {pd : Place} {d : ℕ} (D : Named pd d) (pa pb : Place) (A : IsHelper 2 pa) (B : IsHelper 3 pb) {tape : List ℕ} {ss : List Step} {t : ℕ} {cells : List ℕ} {t' : ℕ} {c : List ℕ}
    (l : Left tape ss t cells (block scratch n (And d r_p r_t) ++ []) t' c) where
  pub last_asked : 2 ≤ n → n ≤ 8 → length cells ≡ 512 → Enough tape t ss → Asked n pd pa.base pb.base 8 tape t' c
  last_asked two eight size e =
      and_asked D (helper_placed pa 2 A (omega arith)) (helper_placed pb 3 B (omega arith)) two eight (l.size ∙ size) (enough (block scratch n (And d r_p r_t)) [] l e)

  pub last_done : {c' : List ℕ} {t'' : ℕ} → Ran (and_of n pd pa.base pb.base 8) tape t' c c' t'' → Ran ss tape t cells c' t''
  last_done r = whole (part (block scratch n (And d r_p r_t)) [] l (and_ran n D (helper_placed pa 2 A (omega arith)) (helper_placed pb 3 B (omega arith)) r))

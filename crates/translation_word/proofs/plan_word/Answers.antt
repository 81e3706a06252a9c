-- `translation_word::plan_word` meets its contract.
use Rattle.std.specs.Prelude.{Some}
use mathlib.Core.Path.{◌≡◌, refl, sym, ap, subst, ◌∙◌}
use Prim.Native.Nat.{ℕ, ◌+◌, ◌-◌, ◌^◌, ◌<◌}
use native.Mathlib.Omega.{arith}
use lib.Dec.{T}
use Rattle.word.specs.declared.step.Step.{Step}
use Rattle.word.specs.declared.step.Step.TheVariants.{Const, Xor, Not}
use Rattle.word.specs.Encoding.{kind_of, kind_number, in_plan, plan_step}
use Rattle.translation_word.specs.inner.Good.{PlanWord}
use Rattle.translation_word.proofs.Straight.{InRow, Behind, plan_good, kind_is, in_plan_is, registers_of, number_is, over_for, other_for, in_row, behind}
use Rattle.translation_word.proofs.plan_word.Goals as goal
use Rattle.translation_word.proofs.plan_word.Goals.{In-Some}

-- what the word is where it is good
abbrev good : (c : In-Some) → PlanWord c.args.w
good c = plan_good _ _ (sym (ap plan_step c.from.ensures) ∙ sym c.plan_step.ensures ∙ c.in-Some.is)

small : (c : In-Some) → c.args.w < 2 ^ 32
small c = omega (arith, c.well_formed)

-- and its words where they come once per share, by its kind: in a row, or in a row behind share 0's
module _ (c : In-Some) (k over : ℕ) (e : kind_number (good c).step ≡ k) (na : k ≡ 3 → ⊥) (lk : k < 8) (f : over_for k ≡ over) (lo : over < 2 ^ 25) where
  rows : other_for k c.args.w ≡ c.args.w + over → InRow c.args.n c.args.w over
  rows g = in_row c.args.n c.args.w (small c) c.requires.le_n.0 c.requires.le_n.1 (good c) k over (kind_is c.args.w (good c) ∙ e) na lk f lo g

  others : (other : ℕ) → other_for k c.args.w ≡ other → other < 2 ^ 31 → Behind c.args.n c.args.w other over
  others other g l = behind c.args.n c.args.w (small c) c.requires.le_n.0 c.requires.le_n.1 (good c) k over (kind_is c.args.w (good c) ∙ e) na lk f lo other g l

pub returns-in_default : goal.returns-in_default
returns-in_default c = rw (← c.from.ensures, ← c.plan_step.ensures, c.in_default.is) (record { written = refl; ends = refl })

pub overflow_sub-w : goal.overflow_sub-w
overflow_sub-w c =
    let o : In-Some = (goal.at.overflow_sub-w c).In-Some in
    omega (arith, number_is c.args.w (small o) (good o) _ _ c.in-Const.is)

pub overflow_add-w : goal.overflow_add-w
overflow_add-w c =
    let o : In-Some = (goal.at.overflow_add-w c).In-Some in
    let k : kind_of c.args.w ≡ 1 = kind_is c.args.w (good o) ∙ ap kind_number c.in-Const.is in
    omega arith

const_words : (c : In-Some) (d k : ℕ) → (good c).step ≡ Const d k → Behind c.args.n c.args.w (c.args.w - k + 8388608) 8388608
const_words c d k e =
    let n : kind_of c.args.w ≡ 1 = kind_is c.args.w (good c) ∙ ap kind_number e in
    others c 1 8388608 (ap kind_number e) (λ x. omega arith) (omega arith) refl (omega arith) _ (ap (λ (x : ℕ). c.args.w - x + 8388608) (number_is c.args.w (small c) (good c) d k e)) (omega arith)

pub alone-requires : goal.alone-requires
alone-requires c =
    let r = const_words (goal.at.alone-requires c).In-Some _ _ c.in-Const.is in
    record { le_n = c.requires.le_n.0; rises = r.rises; n_in_bounds = omega (arith, r.long, c.requires.w_in_bounds) }

xor_words : (c : In-Some) (d a b : ℕ) → (good c).step ≡ Xor d a b → InRow c.args.n c.args.w 8405024
xor_words c d a b e = rows c 2 8405024 (ap kind_number e) (λ x. omega arith) (omega arith) refl (omega arith) refl

pub row-requires : goal.row-requires
row-requires c =
    let r = xor_words (goal.at.row-requires c).In-Some _ _ _ c.in-Xor.is in
    record { rises = r.rises; n_in_bounds = omega (arith, r.long, c.requires.w_in_bounds) }

pub and_word-requires : goal.and_word-requires
and_word-requires c =
    let p = good (goal.at.and_word-requires c).In-Some in
    let r = registers_of _ _ c.in-And.is (in_plan_is c.args.w p) in record { d_bound = (r.0, (r.1.0, r.1.1.0)); n_bound = c.requires.le_n.1; b_in_bounds = rw (p.apart ∙ ap Some c.in-And.is) at c.requires.w_in_bounds }

pub overflow_add-w-in-Not : goal.overflow_add-w-in-Not
overflow_add-w-in-Not c =
    let k : kind_of c.args.w ≡ 4 = kind_is c.args.w (good (goal.at.overflow_add-w-in-Not c).In-Some) ∙ ap kind_number c.in-Not.is in
    omega arith

pub overflow_add-w-in-Not-2 : goal.overflow_add-w-in-Not-2
overflow_add-w-in-Not-2 c =
    let k : kind_of c.args.w ≡ 4 = kind_is c.args.w (good (goal.at.overflow_add-w-in-Not-2 c).In-Some) ∙ ap kind_number c.in-Not.is in
    omega arith

not_words : (c : In-Some) (d a : ℕ) → (good c).step ≡ Not d a → Behind c.args.n c.args.w (c.args.w + 268435456 + 8404992) 8404992
not_words c d a e =
    let n : kind_of c.args.w ≡ 4 = kind_is c.args.w (good c) ∙ ap kind_number e in
    others c 4 8404992 (ap kind_number e) (λ x. omega arith) (omega arith) refl (omega arith) _ refl (omega arith)

pub alone-requires-in-Not : goal.alone-requires-in-Not
alone-requires-in-Not c =
    let r = not_words (goal.at.alone-requires-in-Not c).In-Some _ _ c.in-Not.is in
    record { le_n = c.requires.le_n.0; rises = r.rises; n_in_bounds = omega (arith, r.long, c.requires.w_in_bounds) }

pub add_word-requires : goal.add_word-requires
add_word-requires c =
    let p = good (goal.at.add_word-requires c).In-Some in
    let r = registers_of _ _ c.in-Add.is (in_plan_is c.args.w p) in record { d_bound = (r.0, (r.1.0, r.1.1.0)); n_bound = c.requires.le_n.1; b_in_bounds = rw (p.apart ∙ ap Some c.in-Add.is) at c.requires.w_in_bounds }

pub returns-in-Const : goal.returns-in-Const
returns-in-Const c = rw (const_words (goal.at.returns-in-Const c).In-Some _ _ c.in-Const.is).words c.alone.ensures

pub returns-in-Xor : goal.returns-in-Xor
returns-in-Xor c = rw (xor_words (goal.at.returns-in-Xor c).In-Some _ _ _ c.in-Xor.is).words c.row.ensures

pub returns-in-And : goal.returns-in-And
returns-in-And c = rw ((good (goal.at.returns-in-And c).In-Some).apart ∙ ap Some c.in-And.is) c.and_word.ensures

pub returns-in-Not : goal.returns-in-Not
returns-in-Not c = rw (not_words (goal.at.returns-in-Not c).In-Some _ _ c.in-Not.is).words c.alone-in-Not.ensures

pub returns-in-Add : goal.returns-in-Add
returns-in-Add c = rw ((good (goal.at.returns-in-Add c).In-Some).apart ∙ ap Some c.in-Add.is) c.add_word.ensures

pub row-requires-in-Shl : goal.row-requires-in-Shl
row-requires-in-Shl c =
    let r = rows (goal.at.row-requires-in-Shl c).In-Some 5 8404992 (ap kind_number c.in-Shl.is) (λ x. omega arith) (omega arith) refl (omega arith) refl in
    record { rises = r.rises; n_in_bounds = omega (arith, r.long, c.requires.w_in_bounds) }

pub returns-in-Shl : goal.returns-in-Shl
returns-in-Shl c = rw (rows (goal.at.returns-in-Shl c).In-Some 5 8404992 (ap kind_number c.in-Shl.is) (λ x. omega arith) (omega arith) refl (omega arith) refl).words c.row-in-Shl.ensures

pub row-requires-in-Shr : goal.row-requires-in-Shr
row-requires-in-Shr c =
    let r = rows (goal.at.row-requires-in-Shr c).In-Some 6 8404992 (ap kind_number c.in-Shr.is) (λ x. omega arith) (omega arith) refl (omega arith) refl in
    record { rises = r.rises; n_in_bounds = omega (arith, r.long, c.requires.w_in_bounds) }

pub returns-in-Shr : goal.returns-in-Shr
returns-in-Shr c = rw (rows (goal.at.returns-in-Shr c).In-Some 6 8404992 (ap kind_number c.in-Shr.is) (λ x. omega arith) (omega arith) refl (omega arith) refl).words c.row-in-Shr.ensures

pub row-requires-in-Spread : goal.row-requires-in-Spread
row-requires-in-Spread c =
    let r = rows (goal.at.row-requires-in-Spread c).In-Some 7 8404992 (ap kind_number c.in-Spread.is) (λ x. omega arith) (omega arith) refl (omega arith) refl in
    record { rises = r.rises; n_in_bounds = omega (arith, r.long, c.requires.w_in_bounds) }

pub returns-in-Spread : goal.returns-in-Spread
returns-in-Spread c = rw (rows (goal.at.returns-in-Spread c).In-Some 7 8404992 (ap kind_number c.in-Spread.is) (λ x. omega arith) (omega arith) refl (omega arith) refl).words c.row-in-Spread.ensures

pub returns-in-Rand : goal.returns-in-Rand
returns-in-Rand c = absurd (subst (λ (s : Step). T (in_plan s)) c.in-Rand.is (in_plan_is c.args.w (good (goal.at.returns-in-Rand c).In-Some)))

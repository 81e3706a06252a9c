-- `emission_rows::row` meets its contract: two words a turn, and one more where their number is odd.
use mathlib.Core.Path.{◌≡◌, refl}
use Prim.Native.Nat.{◌+◌, ◌*◌, ◌/◌, ◌<◌}
use native.Mathlib.Omega.{arith}
use Rattle.emission_rows.proofs.Rows.{along, along_next, along_end}
use Rattle.emission_rows.proofs.row.Goals as goal

pub loop-i-init : goal.loop-i-init
loop-i-init c = (omega arith, refl, along _ _ _ _ _, refl)

pub put_word-at-requires : goal.put_word-at-requires
put_word-at-requires c =
    let l = c.loop-i.invariant.2 in
    let h : c.loop-i.i < c.args.n / 2 = omega (arith, c.loop-i.invariant.1, c.loop-i-test.true) in
    omega (arith, l.place, l.long, c.requires.n_in_bounds)

pub overflow_add-w : goal.overflow_add-w
overflow_add-w c = omega (arith, c.requires.rises)

pub put_word-at-requires-in-loop-i : goal.put_word-at-requires-in-loop-i
put_word-at-requires-in-loop-i c =
    let h : c.loop-i.i < c.args.n / 2 = omega (arith, c.loop-i.invariant.1, c.loop-i-test.true) in
    let l = along_next _ _ _ c.loop-i.invariant.2 (omega arith) c.requires.rises.small c.put_word-at.ensures in
    omega (arith, l.place, l.long, c.requires.n_in_bounds)

pub overflow_add-w-in-loop-i-2 : goal.overflow_add-w-in-loop-i-2
overflow_add-w-in-loop-i-2 c =
    let h : c.loop-i.i < c.args.n / 2 = omega (arith, c.loop-i.invariant.1, c.loop-i-test.true) in
    omega (arith, c.loop-i.invariant.2.low, c.requires.rises)

pub loop-i-preserved : goal.loop-i-preserved
loop-i-preserved c =
    let p = c.requires.rises in
    let i = c.loop-i.i in
    let w = c.loop-i.w in
    let over = c.args.over in
    let h : i < c.args.n / 2 = omega (arith, c.loop-i.invariant.1, c.loop-i-test.true) in
    let l₁ = along_next _ _ _ c.loop-i.invariant.2 (omega arith) p.small c.put_word-at.ensures in
    let l₂ = along_next _ _ _ l₁ (omega arith) p.small c.put_word-at-in-loop-i.ensures in
    let e : 2 * i + 1 + 1 ≡ 2 * (i + 1) = omega arith in
    let f : w + over + over ≡ w + (over + over) = omega arith in
    (omega arith, refl, rw (e, f) at l₂, refl)

pub shape_of-out-then-n-eq0 : goal.shape_of-out-then-n-eq0
shape_of-out-then-n-eq0 c = c.loop-i.invariant.2.long

pub returns-then-n-eq0 : goal.returns-then-n-eq0
returns-then-n-eq0 c = along_end _ _ _ c.loop-i.invariant.2 (omega arith) (omega (arith, c.loop-i.invariant.1, c.loop-i-test.false, c.if-n-eq0.true))

pub put_word-requires : goal.put_word-requires
put_word-requires c =
    let l = c.loop-i.invariant.2 in
    omega (arith, l.place, l.long, c.requires.n_in_bounds, c.loop-i.invariant.1, c.loop-i-test.false, c.if-n-eq0.false)

pub shape_of-out : goal.shape_of-out
shape_of-out c =
    let h : 2 * c.loop-i.i < c.args.n = omega (arith, c.loop-i.invariant.1, c.loop-i-test.false, c.if-n-eq0.false) in
    (along_next _ _ _ c.loop-i.invariant.2 h c.requires.rises.small c.put_word.ensures).long

pub returns : goal.returns
returns c =
    let h : 2 * c.loop-i.i < c.args.n = omega (arith, c.loop-i.invariant.1, c.loop-i-test.false, c.if-n-eq0.false) in
    along_end _ _ _ (along_next _ _ _ c.loop-i.invariant.2 h c.requires.rises.small c.put_word.ensures) (omega arith) (omega (arith, c.loop-i.invariant.1, c.loop-i-test.false))

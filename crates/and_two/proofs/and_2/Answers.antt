-- `and_two::and_2` meets its contract: what it stores is what and_many's OnTwo says of.
use mathlib.Core.Path.{◌≡◌}
use Prim.Native.Nat.{◌+◌}
use native.Mathlib.Omega.{arith}
use lib.ListN.{length-set}
use Rattle.bits.specs.Ops.{xor_w, and_w}
use Rattle.and_parts.specs.inner.Effects.{at, placed}
use Rattle.and_parts.proofs.Turn.{at_first}
use Rattle.and_many.proofs.InHalves.{two_left}
use Rattle.and_many.proofs.Parts.{ran_size}
use Rattle.and_many.proofs.OnTwo.{two_done}
use Rattle.and_two.proofs.and_2.Goals as goal

pub bounds-tape-t : goal.bounds-tape-t
bounds-tape-t c = omega (arith, two_left c.requires)

pub bounds-cells-b : goal.bounds-cells-b
bounds-cells-b c = simp length-set (omega (arith, c.requires.right.inside))

pub bounds-tape-t-2 : goal.bounds-tape-t-2
bounds-tape-t-2 c = omega (arith, two_left c.requires)

pub bounds-cells-b-2 : goal.bounds-cells-b-2
bounds-cells-b-2 c = simp length-set (omega (arith, c.requires.right.inside))

pub bounds-cells-a : goal.bounds-cells-a
bounds-cells-a c = simp length-set (omega (arith, c.requires.left.inside))

pub bounds-cells-a-2 : goal.bounds-cells-a-2
bounds-cells-a-2 c = simp length-set (omega (arith, c.requires.left.inside))

pub bounds-tape-t-3 : goal.bounds-tape-t-3
bounds-tape-t-3 c = omega (arith, two_left c.requires)

pub bounds-tape-t-4 : goal.bounds-tape-t-4
bounds-tape-t-4 c = omega (arith, two_left c.requires)

pub bounds-cells-q : goal.bounds-cells-q
bounds-cells-q c = simp length-set (omega (arith, c.requires.to.inside))

pub bounds-tape-t-5 : goal.bounds-tape-t-5
bounds-tape-t-5 c = omega (arith, two_left c.requires)

pub bounds-cells-272-3 : goal.bounds-cells-272-3
bounds-cells-272-3 c = simp length-set (omega (arith, c.requires.size))

pub bounds-tape-t-6 : goal.bounds-tape-t-6
bounds-tape-t-6 c = omega (arith, two_left c.requires)

pub bounds-cells-p : goal.bounds-cells-p
bounds-cells-p c = simp length-set (omega (arith, c.requires.to.inside))

pub wipe-requires : goal.wipe-requires
wipe-requires c = (omega arith, simp length-set c.requires.size)

pub returns : goal.returns
unfolding xor_w and_w
returns c =
    let A = placed c.args.a c.args.over in
    let B = placed c.args.b c.args.over in
    let one = native.Mathlib.Nat.one-mul c.args.over in
    let second_a : c.args.a + c.args.over ≡ at A 1 = omega (arith, one) in
    let second_b : c.args.b + c.args.over ≡ at B 1 = omega (arith, one) in
    let first : c.args.d.base ≡ at c.args.d 0 = at_first c.args.d in
    let next : c.args.d.base + c.args.d.stride ≡ at c.args.d 1 = omega (arith, native.Mathlib.Nat.one-mul c.args.d.stride) in
    two_done A B c.args.d c.requires.left c.requires.right c.requires.to c.args.tape.now c.args.cells.now c.args.t c.requires.size
    (λ k. omega (arith, c.slice_known-1.given k)) (λ k. omega (arith, c.shared_slice_known-1.given k))
    _ _ _ _ _ _ (at_first B) second_b (at_first A) second_a first next _ c.wipe.ensures

pub shape_of-cells : goal.shape_of-cells
shape_of-cells c = ran_size (returns c)

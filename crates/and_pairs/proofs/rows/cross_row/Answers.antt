-- `and_pairs::rows::cross_row` meets its contract: z_i, in a local, stands in its cell again at the end.
use mathlib.Core.Path.{refl, sym, subst}
use mathlib.Core.List.{List}
use Prim.Native.Nat.{ℕ, ◌+◌, ◌-◌}
use native.Mathlib.Omega.{arith}
use lib.ListN.{length-set}
use lib.Seq.{set-get_or}
use Rattle.bits.specs.Ops.{xor_w, and_w}
use Rattle.masking.specs.Translation.{up_from, pairs_of, products, scratch}
use Rattle.and_parts.specs.inner.Effects.{at, placed}
use Rattle.and_parts.proofs.Turn.{at_inside}
use Rattle.and_parts.proofs.Toward.{Toward, begin, renamed, whole}
use Rattle.and_pairs.proofs.OnPairs.{row_end}
use Rattle.and_pairs.proofs.RowTurns.{products_row_words, cross_turn}
use Rattle.and_pairs.proofs.rows.cross_row.Goals as goal

pub overflow_mul-p : goal.overflow_mul-p
overflow_mul-p c = omega (arith, at_inside (placed c.args.a c.args.over) c.requires.i_lt_n.3.inside c.args.i (omega arith))

pub overflow_add-p : goal.overflow_add-p
overflow_add-p c = omega (arith, at_inside (placed c.args.a c.args.over) c.requires.i_lt_n.3.inside c.args.i (omega arith))

pub loop-j-init : goal.loop-j-init
loop-j-init c =
    let row = products scratch (at (placed c.args.a c.args.over)) (pairs_of c.args.i (up_from (c.args.i + 1) (c.args.n - (c.args.i + 1)))) in (
      c.requires.i_lt_n.2,
      omega (arith, products_row_words c.args.i (at (placed c.args.a c.args.over)) (c.args.i + 1) (c.args.n - (c.args.i + 1))),
      subst (λ (k : List ℕ). Toward c.args.tape.now row c.args.t c.args.cells.now row c.args.t k) (sym (set-get_or c.args.cells.now (264 + c.args.i) 0)) (begin c.args.tape.now row c.args.t c.args.cells.now),
    )

pub offset_bounds-cells-p : goal.offset_bounds-cells-p
offset_bounds-cells-p c = omega (arith, at_inside (placed c.args.a c.args.over) c.requires.i_lt_n.3.inside c.args.i (omega arith))

pub bounds-cells-p : goal.bounds-cells-p
bounds-cells-p c = omega (arith, at_inside (placed c.args.a c.args.over) c.requires.i_lt_n.3.inside c.args.i (omega arith))

pub overflow_mul-w : goal.overflow_mul-w
overflow_mul-w c = omega (arith, at_inside (placed c.args.a c.args.over) c.requires.i_lt_n.3.inside c.loop-j.j (omega arith))

pub overflow_add-w : goal.overflow_add-w
overflow_add-w c = omega (arith, at_inside (placed c.args.a c.args.over) c.requires.i_lt_n.3.inside c.loop-j.j (omega arith))

pub offset_bounds-cells-a : goal.offset_bounds-cells-a
offset_bounds-cells-a c = omega (arith, at_inside (placed c.args.a c.args.over) c.requires.i_lt_n.3.inside c.loop-j.j (omega arith))

pub bounds-cells-a : goal.bounds-cells-a
bounds-cells-a c = simp length-set (omega (arith, at_inside (placed c.args.a c.args.over) c.requires.i_lt_n.3.inside c.loop-j.j (omega arith)))

pub loop-j-preserved : goal.loop-j-preserved
unfolding xor_w and_w
loop-j-preserved c = (
  simp length-set c.loop-j.invariant.0,
  omega arith,
  cross_turn c.args.i c.loop-j.j (omega arith) (omega arith) c.args.tape.now c.loop-j.t (placed c.args.a c.args.over) c.requires.i_lt_n.3 c.loop-j.cells c.loop-j.invariant.0 c.loop-j.z c.args.n (omega arith) c.loop-j.invariant.2,
)

pub returns : goal.returns
returns c =
    whole (renamed (row_end (products scratch (at (placed c.args.a c.args.over))) refl (λ p ps. refl) c.args.i c.loop-j.j c.args.n (omega arith)) c.loop-j.invariant.2)

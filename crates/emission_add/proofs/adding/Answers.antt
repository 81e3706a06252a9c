-- `emission_add::adding` meets its contract: ADD's steps are written one by one.
use mathlib.Core.Path.{refl, ap}
use native.Mathlib.Omega.{arith}
use lib.ListN.{drop_of_length-le}
use Rattle.masking.specs.Translation.{scratch, block, blocks, adding}
use Rattle.emission_add.specs.inner.Registers.{adder_step}
use Rattle.emission_rows.proofs.Parts.{start, renamed, part, room, whole}
use Rattle.emission_add.proofs.Numbered.{adding_length, adder_next}
use Rattle.emission_add.proofs.adding.Goals as goal

pub loop-k-init : goal.loop-k-init
loop-k-init c = (omega arith, start _ _ _, refl)

pub adder_step-at-requires : goal.adder_step-at-requires
adder_step-at-requires c =
    let l = renamed _ _ _ (adder_next c.args.d.first c.args.a.first c.args.b.first c.args.n c.loop-k.k (omega arith)) c.loop-k.invariant.1 in record { register = c.requires.register; k_bound = omega arith; n_bound = c.requires.n_bound; room = room (block scratch c.args.n (adder_step c.args.d.first c.args.a.first c.args.b.first c.loop-k.k)) _ l c.requires.room }

pub loop-k-preserved : goal.loop-k-preserved
loop-k-preserved c =
    let l = renamed _ _ _ (adder_next c.args.d.first c.args.a.first c.args.b.first c.args.n c.loop-k.k (omega arith)) c.loop-k.invariant.1 in
    (omega arith, part (block scratch c.args.n (adder_step c.args.d.first c.args.a.first c.args.b.first c.loop-k.k)) _ l c.adder_step-at.ensures, refl)

pub shape_of-out : goal.shape_of-out
shape_of-out c = c.loop-k.invariant.1.long

pub returns : goal.returns
returns c =
    whole (renamed _ _ _ (ap (blocks scratch c.args.n) (drop_of_length-le (adding c.args.d.first c.args.a.first c.args.b.first) {i = c.loop-k.k} (omega (arith, adding_length c.args.d.first c.args.a.first c.args.b.first, c.loop-k-test.false)))) c.loop-k.invariant.1)

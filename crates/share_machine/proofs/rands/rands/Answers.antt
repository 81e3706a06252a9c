-- `share_machine::rands::rands` meets its contract.
use mathlib.Core.Path.{◌≡◌, refl, ap}
use native.Mathlib.Nat.{zero-add}
use native.Mathlib.Omega.{arith}
use lib.ListN.{get_or, drop, drop_of_length-le}
use Rattle.masking.specs.Machine.{rands}
use Rattle.share_machine.proofs.Turns.{rands_turn}
use Rattle.share_machine.proofs.ByKind.{takes_rand, takes_none}
use Rattle.share_machine.proofs.rands.rands.Goals as goal
use Rattle.share_machine.proofs.rands.rands.Goals.{then-words-i-eq-RAND, else-words-i-eq-RAND}

pub loop-i-init : goal.loop-i-init
loop-i-init c = (omega arith, refl, omega arith, zero-add _)

pub loop-i-preserved : goal.loop-i-preserved
loop-i-preserved c =
    let turn = rands_turn c.args.words.now c.loop-i.i (omega arith) in
    let g = c.requires c.loop-i.i (omega arith) in
    elim c.if-words-i-eq-RAND.branch [
      | then-words-i-eq-RAND w ↦
          (omega arith, refl, omega arith, omega (arith, takes_rand (get_or c.args.words.now c.loop-i.i 0) (g w.if-words-i-eq-RAND.true) w.if-words-i-eq-RAND.true))
      | else-words-i-eq-RAND w ↦
          (omega arith, refl, omega arith, omega (arith, takes_none (get_or c.args.words.now c.loop-i.i 0) w.if-words-i-eq-RAND.false))
    ]

pub returns : goal.returns
returns c =
    let none : rands (drop c.loop-i.i c.args.words.now) ≡ 0 = ap rands (drop_of_length-le c.args.words.now {i = c.loop-i.i} (omega arith)) in
    omega arith

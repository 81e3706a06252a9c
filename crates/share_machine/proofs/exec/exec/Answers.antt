-- `share_machine::exec::exec` meets its contract.
use mathlib.Core.Path.{refl, sym, ap, ap₂, ◌∙◌}
use mathlib.Core.List.{List}
use Prim.Native.Nat.{ℕ, ◌+◌}
use native.Mathlib.Nat.{zero-add}
use native.Mathlib.Omega.{arith}
use lib.ListN.{drop, drop_of_length-le}
use Rattle.masking.specs.Machine.{exec}
use Rattle.share_machine.proofs.Turns.{rands_turn, exec_turn}
use Rattle.share_machine.proofs.exec.exec.Goals as goal

pub loop-w-init : goal.loop-w-init
loop-w-init c = (refl, zero-add _, refl)

pub word_done-t-requires : goal.word_done-t-requires
word_done-t-requires c =
    let turn = rands_turn c.args.words.now c.loop-w.w-index (omega arith) in record { w_in_bounds = omega (arith, turn, c.requires.words_in_bounds); cells_len = c.loop-w.invariant.0 ∙ c.requires.cells_len }

pub loop-w-preserved : goal.loop-w-preserved
loop-w-preserved c =
    let turn = rands_turn c.args.words.now c.loop-w.w-index (omega arith) in (
      c.word_done-t.auto.cells ∙ c.loop-w.invariant.0,
      omega (arith, turn, c.word_done-t.ensures.place),
      c.loop-w.invariant.2 ∙ exec_turn c.args.words.now c.loop-w.w-index (omega arith) c.args.tape.now c.loop-w.cells c.loop-w.t
          ∙ ap₂ (λ (k : ℕ) (r : List ℕ). exec (drop (c.loop-w.w-index + 1) c.args.words.now) (drop k c.args.tape.now) r) (sym c.word_done-t.ensures.place) (sym c.word_done-t.ensures.cells),
    )

pub shape_of-cells : goal.shape_of-cells
shape_of-cells c = c.loop-w.invariant.0

pub returns : goal.returns
returns c =
    sym (c.loop-w.invariant.2 ∙ ap (λ (r : List ℕ). exec r (drop c.loop-w.t c.args.tape.now) c.loop-w.cells) (drop_of_length-le c.args.words.now {i = c.loop-w.w-index} (omega arith)))

-- `share_machine::exec::step_done` meets its contract.
use mathlib.Core.Path.{refl, sym, ap, ◌∙◌}
use Prim.Native.Nat.{ℕ}
use native.Mathlib.Nat.{add-zero}
use native.Mathlib.Omega.{arith}
use lib.Dec.{ltb→lt}
use lib.ListN.{get_or, set}
use lib.Seq.{get_or-drop}
use Rattle.bits.specs.Ops.{xor_w, and_w, not_w, shl_w, shr_w, spread_w}
use Rattle.masking.specs.Machine.{exec_step}
use Rattle.share_machine.proofs.Steps.{program_cells, program_number}
use Rattle.share_machine.proofs.exec.step_done.Goals as goal

pub offset_bounds-cells-d : goal.offset_bounds-cells-d
offset_bounds-cells-d c = omega (arith, (rw c.in-Const.is at (program_cells c.args.s c.requires.t)).0, c.requires.cells_len)

pub bounds-cells-d : goal.bounds-cells-d
bounds-cells-d c = omega (arith, (rw c.in-Const.is at (program_cells c.args.s c.requires.t)).0, c.requires.cells_len)

pub offset_bounds-cells-a : goal.offset_bounds-cells-a
offset_bounds-cells-a c = omega (arith, (rw c.in-Xor.is at (program_cells c.args.s c.requires.t)).1.0, c.requires.cells_len)

pub bounds-cells-a : goal.bounds-cells-a
bounds-cells-a c = omega (arith, (rw c.in-Xor.is at (program_cells c.args.s c.requires.t)).1.0, c.requires.cells_len)

pub offset_bounds-cells-b : goal.offset_bounds-cells-b
offset_bounds-cells-b c = omega (arith, (rw c.in-Xor.is at (program_cells c.args.s c.requires.t)).1.1.0, c.requires.cells_len)

pub bounds-cells-b : goal.bounds-cells-b
bounds-cells-b c = omega (arith, (rw c.in-Xor.is at (program_cells c.args.s c.requires.t)).1.1.0, c.requires.cells_len)

pub offset_bounds-cells-d-in-Xor : goal.offset_bounds-cells-d-in-Xor
offset_bounds-cells-d-in-Xor c = omega (arith, (rw c.in-Xor.is at (program_cells c.args.s c.requires.t)).0, c.requires.cells_len)

pub bounds-cells-d-in-Xor : goal.bounds-cells-d-in-Xor
bounds-cells-d-in-Xor c = omega (arith, (rw c.in-Xor.is at (program_cells c.args.s c.requires.t)).0, c.requires.cells_len)

pub offset_bounds-cells-a-in-And : goal.offset_bounds-cells-a-in-And
offset_bounds-cells-a-in-And c = omega (arith, (rw c.in-And.is at (program_cells c.args.s c.requires.t)).1.0, c.requires.cells_len)

pub bounds-cells-a-in-And : goal.bounds-cells-a-in-And
bounds-cells-a-in-And c = omega (arith, (rw c.in-And.is at (program_cells c.args.s c.requires.t)).1.0, c.requires.cells_len)

pub offset_bounds-cells-b-in-And : goal.offset_bounds-cells-b-in-And
offset_bounds-cells-b-in-And c = omega (arith, (rw c.in-And.is at (program_cells c.args.s c.requires.t)).1.1.0, c.requires.cells_len)

pub bounds-cells-b-in-And : goal.bounds-cells-b-in-And
bounds-cells-b-in-And c = omega (arith, (rw c.in-And.is at (program_cells c.args.s c.requires.t)).1.1.0, c.requires.cells_len)

pub offset_bounds-cells-d-in-And : goal.offset_bounds-cells-d-in-And
offset_bounds-cells-d-in-And c = omega (arith, (rw c.in-And.is at (program_cells c.args.s c.requires.t)).0, c.requires.cells_len)

pub bounds-cells-d-in-And : goal.bounds-cells-d-in-And
bounds-cells-d-in-And c = omega (arith, (rw c.in-And.is at (program_cells c.args.s c.requires.t)).0, c.requires.cells_len)

pub offset_bounds-cells-a-in-Not : goal.offset_bounds-cells-a-in-Not
offset_bounds-cells-a-in-Not c = omega (arith, (rw c.in-Not.is at (program_cells c.args.s c.requires.t)).1.0, c.requires.cells_len)

pub bounds-cells-a-in-Not : goal.bounds-cells-a-in-Not
bounds-cells-a-in-Not c = omega (arith, (rw c.in-Not.is at (program_cells c.args.s c.requires.t)).1.0, c.requires.cells_len)

pub offset_bounds-cells-d-in-Not : goal.offset_bounds-cells-d-in-Not
offset_bounds-cells-d-in-Not c = omega (arith, (rw c.in-Not.is at (program_cells c.args.s c.requires.t)).0, c.requires.cells_len)

pub bounds-cells-d-in-Not : goal.bounds-cells-d-in-Not
bounds-cells-d-in-Not c = omega (arith, (rw c.in-Not.is at (program_cells c.args.s c.requires.t)).0, c.requires.cells_len)

pub offset_bounds-cells-a-in-Shl : goal.offset_bounds-cells-a-in-Shl
offset_bounds-cells-a-in-Shl c = omega (arith, (rw c.in-Shl.is at (program_cells c.args.s c.requires.t)).1.0, c.requires.cells_len)

pub bounds-cells-a-in-Shl : goal.bounds-cells-a-in-Shl
bounds-cells-a-in-Shl c = omega (arith, (rw c.in-Shl.is at (program_cells c.args.s c.requires.t)).1.0, c.requires.cells_len)

pub overflow_shl-cells : goal.overflow_shl-cells
overflow_shl-cells c = ltb→lt _ 64 (rw c.in-Shl.is at (program_number c.args.s c.requires.t))

pub offset_bounds-cells-d-in-Shl : goal.offset_bounds-cells-d-in-Shl
offset_bounds-cells-d-in-Shl c = omega (arith, (rw c.in-Shl.is at (program_cells c.args.s c.requires.t)).0, c.requires.cells_len)

pub bounds-cells-d-in-Shl : goal.bounds-cells-d-in-Shl
bounds-cells-d-in-Shl c = omega (arith, (rw c.in-Shl.is at (program_cells c.args.s c.requires.t)).0, c.requires.cells_len)

pub offset_bounds-cells-a-in-Shr : goal.offset_bounds-cells-a-in-Shr
offset_bounds-cells-a-in-Shr c = omega (arith, (rw c.in-Shr.is at (program_cells c.args.s c.requires.t)).1.0, c.requires.cells_len)

pub bounds-cells-a-in-Shr : goal.bounds-cells-a-in-Shr
bounds-cells-a-in-Shr c = omega (arith, (rw c.in-Shr.is at (program_cells c.args.s c.requires.t)).1.0, c.requires.cells_len)

pub overflow_shr-cells : goal.overflow_shr-cells
overflow_shr-cells c = ltb→lt _ 64 (rw c.in-Shr.is at (program_number c.args.s c.requires.t))

pub offset_bounds-cells-d-in-Shr : goal.offset_bounds-cells-d-in-Shr
offset_bounds-cells-d-in-Shr c = omega (arith, (rw c.in-Shr.is at (program_cells c.args.s c.requires.t)).0, c.requires.cells_len)

pub bounds-cells-d-in-Shr : goal.bounds-cells-d-in-Shr
bounds-cells-d-in-Shr c = omega (arith, (rw c.in-Shr.is at (program_cells c.args.s c.requires.t)).0, c.requires.cells_len)

pub offset_bounds-cells-a-in-Spread : goal.offset_bounds-cells-a-in-Spread
offset_bounds-cells-a-in-Spread c = omega (arith, (rw c.in-Spread.is at (program_cells c.args.s c.requires.t)).1.0, c.requires.cells_len)

pub bounds-cells-a-in-Spread : goal.bounds-cells-a-in-Spread
bounds-cells-a-in-Spread c = omega (arith, (rw c.in-Spread.is at (program_cells c.args.s c.requires.t)).1.0, c.requires.cells_len)

pub offset_bounds-cells-d-in-Spread : goal.offset_bounds-cells-d-in-Spread
offset_bounds-cells-d-in-Spread c = omega (arith, (rw c.in-Spread.is at (program_cells c.args.s c.requires.t)).0, c.requires.cells_len)

pub bounds-cells-d-in-Spread : goal.bounds-cells-d-in-Spread
bounds-cells-d-in-Spread c = omega (arith, (rw c.in-Spread.is at (program_cells c.args.s c.requires.t)).0, c.requires.cells_len)

pub bounds-tape-t : goal.bounds-tape-t
bounds-tape-t c = omega (arith, (rw c.in-Rand.is at c.requires.s_in_bounds))

pub offset_bounds-cells-d-in-Rand : goal.offset_bounds-cells-d-in-Rand
offset_bounds-cells-d-in-Rand c = omega (arith, (rw c.in-Rand.is at (program_cells c.args.s c.requires.t)).0, c.requires.cells_len)

pub bounds-cells-d-in-Rand : goal.bounds-cells-d-in-Rand
bounds-cells-d-in-Rand c = omega (arith, (rw c.in-Rand.is at (program_cells c.args.s c.requires.t)).0, c.requires.cells_len)

pub overflow_add-result : goal.overflow_add-result
overflow_add-result c = omega (arith, (rw c.in-Rand.is at c.requires.s_in_bounds), c.well_formed)

pub returns-in-Const : goal.returns-in-Const
unfolding exec_step
returns-in-Const c = record { place = rw c.in-Const.is (sym (add-zero _)); cells = rw c.in-Const.is (refl) }

pub returns-in-Xor : goal.returns-in-Xor
unfolding exec_step xor_w
returns-in-Xor c = record { place = rw c.in-Xor.is (sym (add-zero _)); cells = rw c.in-Xor.is (refl) }

pub returns-in-And : goal.returns-in-And
unfolding exec_step and_w
returns-in-And c = record { place = rw c.in-And.is (sym (add-zero _)); cells = rw c.in-And.is (refl) }

pub returns-in-Not : goal.returns-in-Not
unfolding exec_step not_w
returns-in-Not c = record { place = rw c.in-Not.is (sym (add-zero _)); cells = rw c.in-Not.is (refl) }

pub returns-in-Shl : goal.returns-in-Shl
unfolding exec_step shl_w
returns-in-Shl c = record { place = rw c.in-Shl.is (sym (add-zero _)); cells = rw c.in-Shl.is (refl) }

pub returns-in-Shr : goal.returns-in-Shr
unfolding exec_step shr_w
returns-in-Shr c = record { place = rw c.in-Shr.is (sym (add-zero _)); cells = rw c.in-Shr.is (refl) }

pub returns-in-Spread : goal.returns-in-Spread
unfolding exec_step spread_w
returns-in-Spread c = record { place = rw c.in-Spread.is (sym (add-zero _)); cells = rw c.in-Spread.is (refl) }

pub returns-in-Add : goal.returns-in-Add
returns-in-Add c = absurd (rw c.in-Add.is at c.requires.t)

pub returns-in-Rand : goal.returns-in-Rand
unfolding exec_step
returns-in-Rand c = record { place = rw c.in-Rand.is (refl); cells = rw c.in-Rand.is (ap (set c.args.cells.now _) (sym (get_or-drop c.args.t c.args.tape.now 0 0 ∙ ap (λ (k : ℕ). get_or c.args.tape.now k 0) (add-zero c.args.t)))) }

-- `emission_add::adder_step` meets its contract.
use mathlib.Core.Path.{refl}
use Prim.Native.Nat.{ℕ, ◌-◌, ◌/◌, ◌<◌}
use native.Mathlib.Omega.{arith}
use borrow.Author.Tests.{ne_eqb}
use Rattle.emission_add.specs.inner.Registers.{adder_step}
use Rattle.emission_rows.proofs.Each.{fixed_fits, room_each}
use Rattle.emission_add.proofs.Registers.{for_fits, register_is, register_fits, room_and, as_xor, as_shl, as_and}
use Rattle.emission_add.proofs.adder_step.Goals as goal

round_lt : (k : ℕ) → k < 33 → (k - 3) / 5 < 6
round_lt k h = omega arith

pub each_share-requires : goal.each_share-requires
unfolding adder_step
each_share-requires c = record { each_fits = record { kind = omega arith; fits_d = for_fits 32 (omega arith); fits_a = register_fits _ c.requires.register.1; fits_b = register_fits _ c.requires.register.2; most = c.requires.n_bound }; n_in_bounds = room_each _ c.args.n (rw c.in-0.is at c.requires.room) }

pub and_block-requires : goal.and_block-requires
unfolding adder_step
and_block-requires c = record { fits = (for_fits 33 (omega arith), register_fits _ c.requires.register.1, register_fits _ c.requires.register.2); n_bound = c.requires.n_bound; room = room_and 33 c.args.a.first c.args.b.first c.args.n refl (register_is _ c.requires.register.1) (register_is _ c.requires.register.2) (rw c.in-1.is at c.requires.room) }

pub each_share-requires-in-2 : goal.each_share-requires-in-2
unfolding adder_step
each_share-requires-in-2 c = record { each_fits = record { kind = omega arith; fits_d = for_fits 34 (omega arith); fits_a = for_fits 32 (omega arith); fits_b = fixed_fits 0 (omega arith); most = c.requires.n_bound }; n_in_bounds = room_each _ c.args.n (rw c.in-2.is at c.requires.room) }

pub each_share-requires-in-31 : goal.each_share-requires-in-31
unfolding adder_step
each_share-requires-in-31 c = record { each_fits = record { kind = omega arith; fits_d = for_fits 35 (omega arith); fits_a = for_fits 33 (omega arith); fits_b = fixed_fits 1 (omega arith); most = c.requires.n_bound }; n_in_bounds = room_each _ c.args.n (rw c.in-31.is at c.requires.room) }

pub each_share-requires-in-32 : goal.each_share-requires-in-32
unfolding adder_step
each_share-requires-in-32 c = record { each_fits = record { kind = omega arith; fits_d = register_fits _ c.requires.register.0; fits_a = for_fits 32 (omega arith); fits_b = for_fits 35 (omega arith); most = c.requires.n_bound }; n_in_bounds = room_each _ c.args.n (rw c.in-32.is at c.requires.room) }

pub overflow_sub-k : goal.overflow_sub-k
overflow_sub-k c = omega (arith, c.in_default.in_default-own.rest.0.0.0.0.1, c.in_default.in_default-own.rest.0.0.0.1, c.in_default.in_default-own.rest.0.0.1)

pub overflow_sub-k-in_default : goal.overflow_sub-k-in_default
overflow_sub-k-in_default c = omega (arith, c.in_default.in_default-own.rest.0.0.0.0.1, c.in_default.in_default-own.rest.0.0.0.1, c.in_default.in_default-own.rest.0.0.1)

pub round_step-requires : goal.round_step-requires
unfolding adder_step
round_step-requires c = record { r_bound = round_lt c.args.k c.requires.k_bound; n_bound = c.requires.n_bound; room = rw (ne_eqb _ _ c.in_default.in_default-own.rest.0.0.0.0.1, ne_eqb _ _ c.in_default.in_default-own.rest.0.0.0.1, ne_eqb _ _ c.in_default.in_default-own.rest.0.0.1, ne_eqb _ _ c.in_default.in_default-own.rest.0.1, ne_eqb _ _ c.in_default.in_default-own.rest.1) at c.requires.room }

pub returns-in-0 : goal.returns-in-0
unfolding adder_step
returns-in-0 c = rw c.in-0.is (as_xor 32 c.args.a.first c.args.b.first c.args.n refl (register_is _ c.requires.register.1) (register_is _ c.requires.register.2) c.each_share.ensures)

pub returns-in-1 : goal.returns-in-1
unfolding adder_step
returns-in-1 c = rw c.in-1.is (as_and 33 c.args.a.first c.args.b.first c.args.n refl (register_is _ c.requires.register.1) (register_is _ c.requires.register.2) c.and_block.ensures)

pub returns-in-2 : goal.returns-in-2
unfolding adder_step
returns-in-2 c = rw c.in-2.is (as_shl 34 32 0 c.args.n refl refl refl c.each_share-in-2.ensures)

pub returns-in-31 : goal.returns-in-31
unfolding adder_step
returns-in-31 c = rw c.in-31.is (as_shl 35 33 1 c.args.n refl refl refl c.each_share-in-31.ensures)

pub returns-in-32 : goal.returns-in-32
unfolding adder_step
returns-in-32 c = rw c.in-32.is (as_xor c.args.d.first 32 35 c.args.n (register_is _ c.requires.register.0) refl refl c.each_share-in-32.ensures)

pub returns-in_default : goal.returns-in_default
unfolding adder_step
returns-in_default c =
    rw (ne_eqb _ _ c.in_default.in_default-own.rest.0.0.0.0.1, ne_eqb _ _ c.in_default.in_default-own.rest.0.0.0.1, ne_eqb _ _ c.in_default.in_default-own.rest.0.0.1, ne_eqb _ _ c.in_default.in_default-own.rest.0.1, ne_eqb _ _ c.in_default.in_default-own.rest.1) c.round_step.ensures

-- `emission_add::round_step` meets its contract.
use mathlib.Core.Path.{◌≡◌, refl, ap, ◌∙◌}
use Prim.Native.Nat.{ℕ, ◌*◌, ◌%◌, ◌^◌, ◌<◌}
use native.Mathlib.Nat.{mod-eq_of_lt}
use native.Mathlib.Omega.{arith}
use lib.Pow.{pow-lt}
use borrow.Author.Tests.{ne_eqb}
use Rattle.emission_rows.proofs.Each.{fixed, fixed_fits, room_each}
use Rattle.emission_add.proofs.Registers.{for_fits, room_and, as_xor, as_shl, as_and}
use Rattle.emission_add.proofs.round_step.Goals as goal

-- a round's shift fits its field
shift_lt : (r : ℕ) → r < 6 → 2 ^ r < 512
shift_lt r h =
    let l : 2 ^ r < 2 ^ 6 = pow-lt h in
    omega arith

shift_is : (r : ℕ) → r < 6 → 1 * 2 ^ r % 65536 ≡ 2 ^ r
shift_is r h =
    let l = shift_lt r h in
    let e : 1 * 2 ^ r ≡ 2 ^ r = omega arith in
    ap (λ (x : ℕ). x % 65536) e ∙ mod-eq_of_lt (omega arith)

pub each_share-requires : goal.each_share-requires
each_share-requires c = record { each_fits = rw (shift_is c.args.r c.requires.r_bound) (record { kind = omega arith; fits_d = for_fits 35 (omega arith); fits_a = for_fits 33 (omega arith); fits_b = fixed_fits _ (shift_lt c.args.r c.requires.r_bound); most = c.requires.n_bound }); n_in_bounds = room_each _ c.args.n (rw c.in-0.is at c.requires.room) }

pub and_block-requires : goal.and_block-requires
and_block-requires c = record { fits = (for_fits 35 (omega arith), for_fits 34 (omega arith), for_fits 35 (omega arith)); n_bound = c.requires.n_bound; room = room_and 35 34 35 c.args.n refl refl refl (rw c.in-1.is at c.requires.room) }

pub each_share-requires-in-2 : goal.each_share-requires-in-2
each_share-requires-in-2 c = record { each_fits = record { kind = omega arith; fits_d = for_fits 33 (omega arith); fits_a = for_fits 33 (omega arith); fits_b = for_fits 35 (omega arith); most = c.requires.n_bound }; n_in_bounds = room_each _ c.args.n (rw c.in-2.is at c.requires.room) }

pub each_share-requires-in-3 : goal.each_share-requires-in-3
each_share-requires-in-3 c = record { each_fits = rw (shift_is c.args.r c.requires.r_bound) (record { kind = omega arith; fits_d = for_fits 35 (omega arith); fits_a = for_fits 34 (omega arith); fits_b = fixed_fits _ (shift_lt c.args.r c.requires.r_bound); most = c.requires.n_bound }); n_in_bounds = room_each _ c.args.n (rw c.in-3.is at c.requires.room) }

pub and_block-requires-in_default : goal.and_block-requires-in_default
and_block-requires-in_default c = record { fits = (for_fits 34 (omega arith), for_fits 34 (omega arith), for_fits 35 (omega arith)); n_bound = c.requires.n_bound; room = room_and 34 34 35 c.args.n refl refl refl (rw (ne_eqb _ _ c.in_default.in_default-own.rest.0.0.0.1, ne_eqb _ _ c.in_default.in_default-own.rest.0.0.1, ne_eqb _ _ c.in_default.in_default-own.rest.0.1, ne_eqb _ _ c.in_default.in_default-own.rest.1) at c.requires.room) }

pub returns-in-0 : goal.returns-in-0
returns-in-0 c = rw c.in-0.is (as_shl 35 33 (2 ^ c.args.r) c.args.n refl refl (ap fixed (shift_is c.args.r c.requires.r_bound)) c.each_share.ensures)

pub returns-in-1 : goal.returns-in-1
returns-in-1 c = rw c.in-1.is (as_and 35 34 35 c.args.n refl refl refl c.and_block.ensures)

pub returns-in-2 : goal.returns-in-2
returns-in-2 c = rw c.in-2.is (as_xor 33 33 35 c.args.n refl refl refl c.each_share-in-2.ensures)

pub returns-in-3 : goal.returns-in-3
returns-in-3 c = rw c.in-3.is (as_shl 35 34 (2 ^ c.args.r) c.args.n refl refl (ap fixed (shift_is c.args.r c.requires.r_bound)) c.each_share-in-3.ensures)

pub returns-in_default : goal.returns-in_default
returns-in_default c =
    rw (ne_eqb _ _ c.in_default.in_default-own.rest.0.0.0.1, ne_eqb _ _ c.in_default.in_default-own.rest.0.0.1, ne_eqb _ _ c.in_default.in_default-own.rest.0.1, ne_eqb _ _ c.in_default.in_default-own.rest.1) (as_and 34 34 35 c.args.n refl refl refl c.and_block-in_default.ensures)

-- `emission_and::and_steps` meets its contract.
use native.Mathlib.Omega.{arith}
use Rattle.emission_rows.proofs.Parts.{start, renamed, part, room, room_last, last}
use Rattle.emission_rows.proofs.Each.{row_fits, fixed_fits, room_each}
use Rattle.emission_and.proofs.Laid.{and_parts, copy_in, diagonal, copy_out, copied_in, multiplied, copied_out}
use Rattle.emission_and.proofs.and_steps.Goals as goal

pub each_share-at-requires : goal.each_share-at-requires
each_share-at-requires c =
    let l₀ = renamed _ _ _ (and_parts c.args.n c.args.d c.args.a c.args.b) (start _ _ _) in record { each_fits = record { kind = omega arith; fits_d = row_fits 256 (omega arith); fits_a = c.requires.fits.2; fits_b = fixed_fits 0 (omega arith); most = c.requires.n_bound }; n_in_bounds = room_each (copy_in c.args.b) c.args.n (room _ _ l₀ c.requires.room) }

pub all_pairs-at-requires : goal.all_pairs-at-requires
all_pairs-at-requires c =
    let l₀ = renamed _ _ _ (and_parts c.args.n c.args.d c.args.a c.args.b) (start _ _ _) in
    let l₁ = part _ _ l₀ (copied_in c.args.b c.args.n c.each_share-at.ensures) in record { pair_fits = tt; n_bound = c.requires.n_bound; room = room _ _ l₁ c.requires.room }

pub each_share-at-requires-2 : goal.each_share-at-requires-2
each_share-at-requires-2 c =
    let l₀ = renamed _ _ _ (and_parts c.args.n c.args.d c.args.a c.args.b) (start _ _ _) in
    let l₁ = part _ _ l₀ (copied_in c.args.b c.args.n c.each_share-at.ensures) in
    let l₂ = part _ _ l₁ c.all_pairs-at.ensures in record { each_fits = record { kind = omega arith; fits_d = row_fits 264 (omega arith); fits_a = c.requires.fits.1; fits_b = row_fits 256 (omega arith); most = c.requires.n_bound }; n_in_bounds = room_each (diagonal c.args.a) c.args.n (room _ _ l₂ c.requires.room) }

pub all_pairs-at-requires-2 : goal.all_pairs-at-requires-2
all_pairs-at-requires-2 c =
    let l₀ = renamed _ _ _ (and_parts c.args.n c.args.d c.args.a c.args.b) (start _ _ _) in
    let l₁ = part _ _ l₀ (copied_in c.args.b c.args.n c.each_share-at.ensures) in
    let l₂ = part _ _ l₁ c.all_pairs-at.ensures in
    let l₃ = part _ _ l₂ (multiplied c.args.a c.args.n c.each_share-at-2.ensures) in record { pair_fits = c.requires.fits.1; n_bound = c.requires.n_bound; room = room _ _ l₃ c.requires.room }

pub each_share-requires : goal.each_share-requires
each_share-requires c =
    let l₀ = renamed _ _ _ (and_parts c.args.n c.args.d c.args.a c.args.b) (start _ _ _) in
    let l₁ = part _ _ l₀ (copied_in c.args.b c.args.n c.each_share-at.ensures) in
    let l₂ = part _ _ l₁ c.all_pairs-at.ensures in
    let l₃ = part _ _ l₂ (multiplied c.args.a c.args.n c.each_share-at-2.ensures) in
    let l₄ = part _ _ l₃ c.all_pairs-at-2.ensures in record { each_fits = record { kind = omega arith; fits_d = c.requires.fits.0; fits_a = row_fits 264 (omega arith); fits_b = fixed_fits 0 (omega arith); most = c.requires.n_bound }; n_in_bounds = room_each (copy_out c.args.d) c.args.n (room_last l₄ c.requires.room) }

pub returns : goal.returns
returns c =
    let l₀ = renamed _ _ _ (and_parts c.args.n c.args.d c.args.a c.args.b) (start _ _ _) in
    let l₁ = part _ _ l₀ (copied_in c.args.b c.args.n c.each_share-at.ensures) in
    let l₂ = part _ _ l₁ c.all_pairs-at.ensures in
    let l₃ = part _ _ l₂ (multiplied c.args.a c.args.n c.each_share-at-2.ensures) in
    let l₄ = part _ _ l₃ c.all_pairs-at-2.ensures in
    last l₄ (copied_out c.args.d c.args.n c.each_share.ensures)

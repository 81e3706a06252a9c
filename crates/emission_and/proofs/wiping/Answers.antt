-- `emission_and::wiping` meets its contract: y, z, t and u one after the other.
use mathlib.Core.Path.{refl}
use mathlib.Core.List.{[], ◌∷◌}
use native.Mathlib.Omega.{arith}
use Rattle.word.specs.declared.step.Step.TheVariants.{Const}
use Rattle.word.specs.Encoding.{put}
use Rattle.emission_rows.proofs.Parts.{start, renamed, part, room, room_last, last, as_step}
use Rattle.emission_rows.proofs.Each.{row_fits, fixed_fits, room_each}
use Rattle.emission_and.proofs.Laid.{wiping_parts, wipe, wiped}
use Rattle.emission_and.proofs.wiping.Goals as goal

pub each_share-at-requires : goal.each_share-at-requires
each_share-at-requires c = record { each_fits = record { kind = omega arith; fits_d = row_fits 256 (omega arith); fits_a = fixed_fits 0 (omega arith); fits_b = fixed_fits 0 (omega arith); most = c.requires.n_bound }; n_in_bounds = room_each (wipe 256) c.args.n (room _ _ (renamed _ _ _ (wiping_parts c.args.n) (start _ _ _)) c.requires.room) }

pub each_share-at-requires-2 : goal.each_share-at-requires-2
each_share-at-requires-2 c =
    let l₁ = part _ _ (renamed _ _ _ (wiping_parts c.args.n) (start _ _ _)) (wiped 256 c.args.n c.each_share-at.ensures) in record { each_fits = record { kind = omega arith; fits_d = row_fits 264 (omega arith); fits_a = fixed_fits 0 (omega arith); fits_b = fixed_fits 0 (omega arith); most = c.requires.n_bound }; n_in_bounds = room_each (wipe 264) c.args.n (room _ _ l₁ c.requires.room) }

pub put_word-at-requires : goal.put_word-at-requires
put_word-at-requires c =
    let l₁ = part _ _ (renamed _ _ _ (wiping_parts c.args.n) (start _ _ _)) (wiped 256 c.args.n c.each_share-at.ensures) in
    let l₂ = part _ _ l₁ (wiped 264 c.args.n c.each_share-at-2.ensures) in
    omega (arith, (room (Const 272 0 ∷ []) (Const 273 0 ∷ []) l₂ c.requires.room).fits)

pub put_word-requires : goal.put_word-requires
unfolding put
put_word-requires c =
    let l₁ = part _ _ (renamed _ _ _ (wiping_parts c.args.n) (start _ _ _)) (wiped 256 c.args.n c.each_share-at.ensures) in
    let l₂ = part _ _ l₁ (wiped 264 c.args.n c.each_share-at-2.ensures) in
    let l₃ = part _ _ l₂ (as_step (Const 272 0) refl c.put_word-at.ensures) in
    omega (arith, (room_last l₃ c.requires.room).fits)

pub returns : goal.returns
unfolding put
returns c =
    let l₁ = part _ _ (renamed _ _ _ (wiping_parts c.args.n) (start _ _ _)) (wiped 256 c.args.n c.each_share-at.ensures) in
    let l₂ = part _ _ l₁ (wiped 264 c.args.n c.each_share-at-2.ensures) in
    let l₃ = part _ _ l₂ (as_step (Const 272 0) refl c.put_word-at.ensures) in
    last l₃ (as_step (Const 273 0) refl c.put_word.ensures)

-- `emission_and::and_block` meets its contract: AND's steps, then the wiping.
use Rattle.emission_rows.proofs.Parts.{start, renamed, part, room, room_last, last}
use Rattle.emission_and.proofs.Laid.{and_wiped}
use Rattle.emission_and.proofs.and_block.Goals as goal

pub and_steps-at-requires : goal.and_steps-at-requires
and_steps-at-requires c = record { fits = c.requires.fits; n_bound = c.requires.n_bound; room = room _ _ (renamed _ _ _ (and_wiped c.args.n c.args.d c.args.a c.args.b) (start _ _ _)) c.requires.room }

pub wiping-requires : goal.wiping-requires
wiping-requires c =
    let l₁ = part _ _ (renamed _ _ _ (and_wiped c.args.n c.args.d c.args.a c.args.b) (start _ _ _)) c.and_steps-at.ensures in record { n_bound = c.requires.n_bound; room = room_last l₁ c.requires.room }

pub returns : goal.returns
returns c =
    let l₁ = part _ _ (renamed _ _ _ (and_wiped c.args.n c.args.d c.args.a c.args.b) (start _ _ _)) c.and_steps-at.ensures in
    last l₁ c.wiping.ensures

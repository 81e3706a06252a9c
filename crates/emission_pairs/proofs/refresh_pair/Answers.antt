-- `emission_pairs::refresh_pair` meets its contract.
use mathlib.Core.Path.{refl}
use Rattle.word.specs.declared.step.Step.TheVariants.{Rand, Xor}
use Rattle.word.specs.Encoding.{put}
use Rattle.emission_rows.proofs.Parts.{start, part, whole, as_step}
use Rattle.emission_pairs.proofs.ByPair.{y_up}
use Rattle.emission_pairs.proofs.refresh_pair.Goals as goal

pub returns : goal.returns
unfolding put
returns c =
    let l₁ = part _ _ (start _ _ _) (as_step (Rand 272) refl c.put_word-at.ensures) in
    let l₂ = part _ _ l₁ (as_step (Xor _ _ 272) (y_up c.args.i c.requires.i_bound) c.put_up-at.ensures) in
    whole (part _ _ l₂ (as_step (Xor _ _ 272) (y_up c.args.j c.requires.j_bound) c.put_up.ensures))

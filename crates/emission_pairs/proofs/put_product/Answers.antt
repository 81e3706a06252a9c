-- `emission_pairs::put_product` meets its contract.
use mathlib.Core.Path.{refl}
use Rattle.word.specs.declared.step.Step.TheVariants.{And, Xor}
use Rattle.word.specs.Encoding.{put}
use Rattle.emission_rows.proofs.Parts.{start, part, whole, as_step}
use Rattle.emission_pairs.proofs.put_product.Goals as goal

pub returns : goal.returns
unfolding put
returns c =
    let l = part _ _ (start _ _ _) (as_step (And 273 _ _) c.and_u.ensures c.put_word-at.ensures) in
    whole (part _ _ l (as_step (Xor 272 272 273) refl c.put_word.ensures))

-- `emission_pairs::product_pair` meets its contract.
use mathlib.Core.Path.{refl}
use Rattle.word.specs.declared.step.Step.TheVariants.{Rand, Xor}
use Rattle.word.specs.Encoding.{put}
use Rattle.emission_rows.proofs.Parts.{start, part, whole, as_step}
use Rattle.emission_pairs.proofs.ByPair.{z_up}
use Rattle.emission_pairs.proofs.product_pair.Goals as goal

pub returns : goal.returns
unfolding put
returns c =
    let l₁ = part _ _ (start _ _ _) (as_step (Rand 272) refl c.put_word-at.ensures) in
    let l₂ = part _ _ l₁ (as_step (Xor _ _ 272) (z_up c.args.i c.requires.i_bound) c.put_up-at.ensures) in
    let l₃ = part _ _ l₂ c.put_product-at.ensures in
    let l₄ = part _ _ l₃ c.put_product-at-2.ensures in
    whole (part _ _ l₄ (as_step (Xor _ _ 272) (z_up c.args.j c.requires.j_bound) c.put_up.ensures))

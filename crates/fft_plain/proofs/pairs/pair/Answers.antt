-- `fft_plain::pairs::pair` meets its contract.
use mathlib.Core.Path.{ap, ◌∙◌}
use Prim.Native.Nat.{ℕ, ◌+◌}
use lib.ListN.{get_or}
use Rattle.binary64.specs.Sum.{sum}
use Rattle.fft_numbers.specs.Acts.{flipped}
use Rattle.fft_plain.proofs.Plainly.{pair_done}
use Rattle.fft_plain.proofs.pairs.pair.Goals as goal

pub returns : goal.returns
returns c =
    let p = c.args.pair in
    let x = get_or c.args.numbers.now p.place 0 in
    let y = get_or c.args.numbers.now (p.layer.count + p.place) 0 in
    pair_done p.layer.count p.layer.distance p.re p.im p.place c.args.numbers.now c.requires p.inside
    (c.plus_minus-real.ensures.0 ∙ ap (sum x) c.product-w.ensures.re)
    (c.plus_minus-imaginary.ensures.0 ∙ ap (sum y) c.product-w.ensures.im)
    (c.plus_minus-real.ensures.1 ∙ ap (λ (w : ℕ). sum x (flipped w)) c.product-w.ensures.re)
    (c.plus_minus-imaginary.ensures.1 ∙ ap (λ (w : ℕ). sum y (flipped w)) c.product-w.ensures.im)

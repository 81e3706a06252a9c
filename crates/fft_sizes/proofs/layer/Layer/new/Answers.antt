-- `fft_sizes::layer::Layer::new` meets its contract.
use mathlib.Core.Path.{sym, ◌∙◌}
use Rattle.fft_numbers.proofs.Powers.{sizes}
use Rattle.fft_sizes.proofs.layer.Layer.new.Goals as goal

pub invariant_of-result : goal.invariant_of-result
invariant_of-result c =
    let e = sym c.is_layer.ensures ∙ c.if-is_layer.true in
    let S = sizes c.args.count c.args.distance e in
    record { sizes = e; most = S.most; some = S.some }

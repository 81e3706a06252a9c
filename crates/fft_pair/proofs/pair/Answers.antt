-- `fft_pair::pair` meets its contract.
use mathlib.Core.Path.{refl}
use mathlib.Core.List.{◌++◌}
use Prim.Native.Nat.{◌*◌}
use native.Mathlib.Omega.{arith}
use lib.ListN.{drop}
use Rattle.fft_numbers.specs.Complex.{complex_acts}
use Rattle.fft_numbers.specs.Layer.{pair_taken, plus_minus, put_back}
use Rattle.fft_slots.proofs.OneByOne.{done_then, held_done}
use Rattle.fft_pair.proofs.pair.Goals as goal

pub returns : goal.returns
returns c =
    let n = c.args.n in
    let p = c.args.pair in
    let S = 2 * p.layer.count in
    let tape = c.args.tape.now in
    let start = c.args.start in
    let t = c.multiply_complex-t.result in
    let back = put_back p.layer.count p.layer.distance p.place in (
      omega (arith, c.multiply_complex-t.ensures.0, c.plus_minus-t.ensures.0),
      done_then n start start tape (pair_taken p.layer.count p.layer.distance p.re p.im p.place) (complex_acts ++ (plus_minus ++ back)) (omega arith)
          c.take.ensures
          (done_then n start t tape complex_acts (plus_minus ++ back) c.multiply_complex-t.ensures.0
          (held_done n S complex_acts (drop start tape) c.args.numbers.now (λ s. refl) c.multiply_complex-t.ensures.1)
          (done_then n t c.plus_minus-t.result tape plus_minus back c.plus_minus-t.ensures.0
          (held_done n S plus_minus (drop t tape) c.args.numbers.now (λ s. refl) c.plus_minus-t.ensures.1) c.put_back.ensures)),
    )

-- `fft_moves::take` meets its contract.
use mathlib.Core.Path.{refl}
use mathlib.Core.List.{[], ◌∷◌}
use Prim.Native.Nat.{◌*◌}
use native.Mathlib.Omega.{arith}
use Rattle.fft_numbers.specs.Acts.{Put}
use Rattle.fft_numbers.specs.Complex.{slot_a, slot_b}
use Rattle.fft_moves.specs.inner.Inner.{numbers_loaded}
use Rattle.fft_slots.proofs.OneByOne.{done_then, held_done}
use Rattle.fft_moves.proofs.take.Goals as goal

pub returns : goal.returns
returns c =
    let p = c.args.pair in
    let S = 2 * p.layer.count in
    let a = Put slot_a p.re in
    let b = Put slot_b p.im in
    done_then c.args.n 0 0 [] (a ∷ b ∷ []) (numbers_loaded p.layer.count p.layer.distance p.place) (omega arith)
    (done_then c.args.n 0 0 [] (a ∷ []) (b ∷ []) (omega arith)
    (held_done c.args.n S (a ∷ []) [] c.args.numbers.now (λ s. refl) c.put.ensures)
    (held_done c.args.n S (b ∷ []) [] c.args.numbers.now (λ s. refl) c.put-2.ensures))
    c.load.ensures

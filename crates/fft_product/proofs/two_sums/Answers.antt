-- `fft_product::two_sums` meets its contract.
use mathlib.Core.List.{[], ◌∷◌}
use native.Mathlib.Omega.{arith}
use Rattle.binary64.specs.Operations.{Sum}
use Rattle.fft_numbers.specs.Acts.{Flip, Call}
use Rattle.fft_numbers.specs.Complex.{slot_ac, slot_bd, slot_ad, slot_bc, slot_re, slot_im}
use Rattle.fft_slots.proofs.OneByOne.{held_then}
use Rattle.fft_product.proofs.two_sums.Goals as goal

pub returns : goal.returns
returns c =
    let f = Flip slot_bd in
    let p = Call Sum slot_re slot_ac slot_bd in (
      omega (arith, c.call-t.ensures.0, c.call.ensures.0),
      held_then c.args.n c.args.start c.call-t.result c.args.tape.now (f ∷ p ∷ []) (Call Sum slot_im slot_ad slot_bc ∷ []) (omega (arith, c.call-t.ensures.0))
          (held_then c.args.n c.args.start c.args.start c.args.tape.now (f ∷ []) (p ∷ []) (omega arith) c.flip.ensures c.call-t.ensures.1) c.call.ensures.1,
    )

-- `fft_product::four_products` meets its contract.
use mathlib.Core.List.{[], ◌∷◌}
use native.Mathlib.Omega.{arith}
use Rattle.binary64.specs.Operations.{Product}
use Rattle.fft_numbers.specs.Acts.{Call}
use Rattle.fft_numbers.specs.Complex.{slot_a, slot_b, slot_c, slot_d, slot_ac, slot_bd, slot_ad, slot_bc}
use Rattle.fft_slots.proofs.OneByOne.{held_then}
use Rattle.fft_product.proofs.four_products.Goals as goal

pub returns : goal.returns
returns c =
    let p = Call Product slot_ac slot_a slot_c in
    let q = Call Product slot_bd slot_b slot_d in
    let r = Call Product slot_ad slot_a slot_d in (
      omega (arith, c.call-t.ensures.0, c.call-t-2.ensures.0, c.call-t-3.ensures.0, c.call.ensures.0),
      held_then c.args.n c.args.start c.call-t-3.result c.args.tape.now (p ∷ q ∷ r ∷ []) (Call Product slot_bc slot_b slot_c ∷ []) (omega (arith, c.call-t.ensures.0, c.call-t-2.ensures.0, c.call-t-3.ensures.0))
          (held_then c.args.n c.args.start c.call-t-2.result c.args.tape.now (p ∷ q ∷ []) (r ∷ []) (omega (arith, c.call-t.ensures.0, c.call-t-2.ensures.0))
          (held_then c.args.n c.args.start c.call-t.result c.args.tape.now (p ∷ []) (q ∷ []) (omega (arith, c.call-t.ensures.0)) c.call-t.ensures.1 c.call-t-2.ensures.1) c.call-t-3.ensures.1) c.call.ensures.1,
    )

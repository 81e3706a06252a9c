-- `fft_pair::plus_minus` meets its contract.
use mathlib.Core.List.{List, [], ◌∷◌}
use native.Mathlib.Omega.{arith}
use Rattle.binary64.specs.Operations.{Sum}
use Rattle.fft_numbers.specs.Acts.{Act, Flip, Call}
use Rattle.fft_numbers.specs.Complex.{slot_re, slot_im}
use Rattle.fft_numbers.specs.Layer.{slot_ure, slot_uim, slot_plus_re, slot_plus_im, slot_minus_re, slot_minus_im}
use Rattle.fft_slots.proofs.OneByOne.{held_then}
use Rattle.fft_pair.proofs.plus_minus.Goals as goal

abbrev plus : List Act
plus = Call Sum slot_plus_re slot_ure slot_re ∷ Call Sum slot_plus_im slot_uim slot_im ∷ []

pub returns : goal.returns
returns c =
    let f = Flip slot_re in
    let h = Flip slot_im in
    let m = Call Sum slot_minus_re slot_ure slot_re in
    let l = Call Sum slot_minus_im slot_uim slot_im in (
      omega (arith, c.call-t.ensures.0, c.call-t-2.ensures.0, c.call-t-3.ensures.0, c.call.ensures.0),
      held_then c.args.n c.args.start c.call-t-2.result c.args.tape.now plus (f ∷ m ∷ h ∷ l ∷ []) (omega (arith, c.call-t.ensures.0, c.call-t-2.ensures.0))
          (held_then c.args.n c.args.start c.call-t.result c.args.tape.now (Call Sum slot_plus_re slot_ure slot_re ∷ []) (Call Sum slot_plus_im slot_uim slot_im ∷ []) (omega (arith, c.call-t.ensures.0)) c.call-t.ensures.1 c.call-t-2.ensures.1)
          (held_then c.args.n c.call-t-2.result c.call-t-3.result c.args.tape.now (f ∷ m ∷ []) (h ∷ l ∷ []) (omega (arith, c.call-t-3.ensures.0))
          (held_then c.args.n c.call-t-2.result c.call-t-2.result c.args.tape.now (f ∷ []) (m ∷ []) (omega arith) c.flip.ensures c.call-t-3.ensures.1)
          (held_then c.args.n c.call-t-3.result c.call-t-3.result c.args.tape.now (h ∷ []) (l ∷ []) (omega arith) c.flip-2.ensures c.call.ensures.1)),
    )

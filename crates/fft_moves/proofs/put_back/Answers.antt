-- `fft_moves::put_back` meets its contract.
use mathlib.Core.Path.{◌∙◌}
use mathlib.Core.List.{[], ◌∷◌}
use Prim.Native.Nat.{◌+◌, ◌*◌}
use native.Mathlib.Omega.{arith}
use Rattle.fft_numbers.specs.Acts.{Store}
use Rattle.fft_numbers.specs.Layer.{slot_plus_re, slot_plus_im, slot_minus_re, slot_minus_im}
use Rattle.fft_slots.proofs.OneByOne.{done_then, stored}
use Rattle.fft_moves.proofs.Lying.{lies}
use Rattle.fft_moves.proofs.put_back.Goals as goal

pub store-requires : goal.store-requires
store-requires c =
    let p = c.args.pair in
    let size = c.requires.2 in
    let h = lies c.args.n p.layer.count p.place _ c.requires.1 p.layer.most size (omega arith) in
    (c.requires.1, h.0, h.1, c.requires.3)

pub store-requires-2 : goal.store-requires-2
store-requires-2 c =
    let p = c.args.pair in
    let size = c.store.auto.to ∙ c.requires.2 in
    let h = lies c.args.n p.layer.count (p.layer.count + p.place) _ c.requires.1 p.layer.most size (omega arith) in
    (c.requires.1, h.0, h.1, c.requires.3)

pub store-requires-3 : goal.store-requires-3
store-requires-3 c =
    let p = c.args.pair in
    let size = c.store-2.auto.to ∙ (c.store.auto.to ∙ c.requires.2) in
    let h = lies c.args.n p.layer.count (p.place + p.layer.distance) _ c.requires.1 p.layer.most size (omega arith) in
    (c.requires.1, h.0, h.1, c.requires.3)

pub store-requires-4 : goal.store-requires-4
store-requires-4 c =
    let p = c.args.pair in
    let size = c.store-3.auto.to ∙ (c.store-2.auto.to ∙ (c.store.auto.to ∙ c.requires.2)) in
    let h = lies c.args.n p.layer.count (p.layer.count + (p.place + p.layer.distance)) _ c.requires.1 p.layer.most size (omega arith) in
    (c.requires.1, h.0, h.1, c.requires.3)

pub returns : goal.returns
returns c =
    let p = c.args.pair in
    let n = c.args.n in
    let N = p.layer.count in
    let few = c.requires.1 in
    let v = p.place + p.layer.distance in
    let a = Store p.place slot_plus_re in
    let b = Store (N + p.place) slot_plus_im in
    let d = Store v slot_minus_re in
    done_then n 0 0 [] (a ∷ b ∷ d ∷ []) (Store (N + v) slot_minus_im ∷ []) (omega arith)
    (done_then n 0 0 [] (a ∷ b ∷ []) (d ∷ []) (omega arith)
    (done_then n 0 0 [] (a ∷ []) (b ∷ []) (omega arith)
    (stored n (2 * N) p.place slot_plus_re few (omega arith) (omega arith) c.store.ensures)
    (stored n (2 * N) (N + p.place) slot_plus_im few (omega arith) (omega arith) c.store-2.ensures))
    (stored n (2 * N) v slot_minus_re few (omega arith) (omega arith) c.store-3.ensures))
    (stored n (2 * N) (N + v) slot_minus_im few (omega arith) (omega arith) c.store-4.ensures)

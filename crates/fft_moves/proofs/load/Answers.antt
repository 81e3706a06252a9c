-- `fft_moves::load` meets its contract.
use mathlib.Core.List.{[], ◌∷◌}
use Prim.Native.Nat.{◌+◌, ◌*◌}
use native.Mathlib.Omega.{arith}
use borrow.Author.Rules.{rules}
use Rattle.fft_numbers.specs.Acts.{Load}
use Rattle.fft_numbers.specs.Complex.{slot_c, slot_d}
use Rattle.fft_numbers.specs.Layer.{slot_ure, slot_uim}
use Rattle.fft_slots.proofs.OneByOne.{done_then, loaded}
use Rattle.fft_moves.proofs.Lying.{lies}
use Rattle.fft_moves.proofs.load.Goals as goal

pub load-requires : goal.load-requires
load-requires c =
    let p = c.args.pair in
    let h = lies c.args.n p.layer.count (p.place + p.layer.distance) c.args.numbers.now c.requires.1 p.layer.most c.requires.2 (omega arith) in
    (c.requires.1, h.0, h.1, search rules)

pub load-requires-2 : goal.load-requires-2
load-requires-2 c =
    let p = c.args.pair in
    let h = lies c.args.n p.layer.count (p.layer.count + (p.place + p.layer.distance)) c.args.numbers.now c.requires.1 p.layer.most c.requires.2 (omega arith) in
    (c.requires.1, h.0, h.1, search rules)

pub load-requires-3 : goal.load-requires-3
load-requires-3 c =
    let p = c.args.pair in
    let h = lies c.args.n p.layer.count p.place c.args.numbers.now c.requires.1 p.layer.most c.requires.2 (omega arith) in
    (c.requires.1, h.0, h.1, search rules)

pub load-requires-4 : goal.load-requires-4
load-requires-4 c =
    let p = c.args.pair in
    let h = lies c.args.n p.layer.count (p.layer.count + p.place) c.args.numbers.now c.requires.1 p.layer.most c.requires.2 (omega arith) in
    (c.requires.1, h.0, h.1, search rules)

pub returns : goal.returns
returns c =
    let p = c.args.pair in
    let n = c.args.n in
    let N = p.layer.count in
    let few = c.requires.1 in
    let v = p.place + p.layer.distance in
    let a = Load slot_c v in
    let b = Load slot_d (N + v) in
    let d = Load slot_ure p.place in
    done_then n 0 0 [] (a ∷ b ∷ d ∷ []) (Load slot_uim (N + p.place) ∷ []) (omega arith)
    (done_then n 0 0 [] (a ∷ b ∷ []) (d ∷ []) (omega arith)
    (done_then n 0 0 [] (a ∷ []) (b ∷ []) (omega arith)
    (loaded n (2 * N) slot_c v few (omega arith) (omega arith) c.load.ensures)
    (loaded n (2 * N) slot_d (N + v) few (omega arith) (omega arith) c.load-2.ensures))
    (loaded n (2 * N) slot_ure p.place few (omega arith) (omega arith) c.load-3.ensures))
    (loaded n (2 * N) slot_uim (N + p.place) few (omega arith) (omega arith) c.load-4.ensures)

-- `listing_input::plan_words` meets its contract.
use mathlib.Core.Path.{◌≡◌, sym, ap, ◌∙◌}
use mathlib.Core.List.{map}
use native.Mathlib.Omega.{arith}
use lib.ListN.{length, get_or, length-map, drop_of_length-le}
use Rattle.std.specs.Int.{w32, from_le_bytes}
use Rattle.std.proofs.lemmas.List.{get_or-map}
use Rattle.listing_lines.proofs.Placed.{next, whole, renamed, wrote, wrote_none}
use Rattle.listing_input.proofs.Words.{chunks_read}
use Rattle.listing_input.proofs.plan_words.Goals as goal

pub returns-then-plan-words : goal.returns-then-plan-words
returns-then-plan-words c =
    let cs = c.as_chunks.result.0.now in
    wrote_none _ _ (omega (arith, ap length (chunks_read c.args.input.now c.as_chunks.ensures.front), length-map cs (from_le_bytes w32)))

pub loop-i-preserved : goal.loop-i-preserved
loop-i-preserved c =
    let cs = c.as_chunks.result.0.now in
    let i = c.loop-i.i in
    let e : c.from_le_bytes.result ≡ get_or (map (from_le_bytes w32) cs) i 0 =
    c.from_le_bytes.ensures ∙ sym (get_or-map (from_le_bytes w32) cs i _ 0 (omega arith)) in
    rw e (next (map (from_le_bytes w32) cs) i (omega (arith, length-map cs (from_le_bytes w32))) c.loop-i.invariant)

pub returns : goal.returns
returns c =
    let cs = c.as_chunks.result.0.now in
    let r = chunks_read c.args.input.now c.as_chunks.ensures.front in
    let m = length-map cs (from_le_bytes w32) in
    let i : c.loop-i.i ≡ length cs = omega arith in
    let a = whole (renamed (drop_of_length-le (map (from_le_bytes w32) cs) {i = c.loop-i.i} (omega (arith, m))) c.loop-i.invariant) in
    wrote (omega (arith, ap length r, m)) (rw (r, i) at a)

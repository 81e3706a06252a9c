-- `binary64_parts::rounding::encode` meets its contract (`encode_selected`).
use Rattle.std.proofs.Common.{◌≡◌, ℕ, ◌+◌, ◌-◌, ◌*◌, ◌%◌, ◌^◌, cond, not, eqb, ltb, leb, ap, ◌∙◌, arith}
use lib.Count.{count_leading_zeros, leading_le}
use Rattle.binary64.proofs.Round.{round_11}
use Rattle.binary64_parts.proofs.Encoded.{encode_selected}
use Rattle.binary64_parts.proofs.rounding.encode.Goals as goal

pub pack-bits-requires : goal.pack-bits-requires
pack-bits-requires c =
    omega (arith, c.rounded.ensures, round_11 ((c.args.z * 2 ^ (c.from-places.result % 64)) % 2 ^ 64))

pub returns : goal.returns
returns c =
    let z = c.args.z in
    let e = c.args.e in
    let s = c.from-places.result in
    let w = (e + (2 ^ 64 - s)) % 2 ^ 64 in
    let few : s ≡ count_leading_zeros 64 z = c.from-places.ensures in
    c.kept-2.ensures
    ∙ ap (λ (x : ℕ). cond (not (eqb z 0)) x 0)
    (c.kept.ensures
    ∙ ap (λ (x : ℕ). cond (leb s e) x 0)
    (c.pack-bits.ensures ∙ ap (λ (q : ℕ). cond (ltb w 2046) (w * 2 ^ 52 + q) (2047 * 2 ^ 52)) c.rounded.ensures))
    ∙ rw few (encode_selected z e _ c.ranges.z.fits (omega arith) c.ranges.e.fits (omega (arith, leading_le 64 z)))

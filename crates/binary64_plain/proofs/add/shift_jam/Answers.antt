-- `binary64_plain::add::shift_jam` meets its contract: from 63 places on every bit is shifted out, however far (`far`).
use Rattle.std.proofs.Common.{◌≡◌, ℕ, ◌+◌, ◌*◌, ◌/◌, ◌^◌, ◌<◌, min, Bool, cond, ltb, sym, refl, ap, ◌∙◌, lt_of_lt_of_le, arith, pow_mono}
use Rattle.binary64.specs.inner.Steps.{jam}
use Rattle.binary64.proofs.Cases.{by_lt}
use Rattle.binary64_plain.proofs.Shifts.{low_rest}
use Rattle.binary64.proofs.Jam.{jam_is, jam_all}
use Rattle.binary64_plain.proofs.add.shift_jam.Goals as goal

far : (d w : ℕ) → w < 2 ^ 63 → (cond (ltb d 63) d 63 < 64) × (jam (cond (ltb d 63) d 63) w ≡ jam d w)
far d w h =
    by_lt (λ (b : Bool). (cond b d 63 < 64) × (jam (cond b d 63) w ≡ jam d w)) d 63 (λ l. (omega arith, refl))
    (λ l. (omega arith, jam_all 63 w h ∙ sym (jam_all d w (lt_of_lt_of_le h (pow_mono l)))))

pub returns : goal.returns
returns c =
    ap (λ (x : ℕ). 2 * (c.args.w / 2 ^ c.choose-k.result) + x) (c.sticky.ensures ∙ ap (λ (x : ℕ). min x 1) (low_rest c.args.w c.choose-k.result c.ranges.w.fits))
    ∙ sym (jam_is c.choose-k.result c.args.w)
    ∙ ap (λ (x : ℕ). jam x c.args.w) c.choose-k.ensures
    ∙ (far c.args.d c.args.w c.requires).1

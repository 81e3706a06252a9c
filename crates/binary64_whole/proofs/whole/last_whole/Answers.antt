-- `binary64_whole::whole::last_whole` meets its contract: the shift to the left takes place 1075 - E to place 63, and above that a word has nothing.
use Rattle.std.proofs.Common.{◌≡◌, ℕ, ◌+◌, ◌-◌, ◌*◌, ◌/◌, ◌%◌, ◌^◌, ◌<◌, ◌≤◌, sym, ap, ◌∙◌, mod-lt, mod-eq_of_lt, arith, pow_pos}
use Rattle.bits.specs.Ops.{shl_w}
use Rattle.bits.proofs.Places.{bit_shl}
use Rattle.binary64_whole.proofs.whole.last_whole.Goals as goal

top_lt : (x : ℕ) → x % 2 ^ 64 / 2 ^ 63 < 2
top_lt x = let h : x % 2 ^ 64 < 2 ^ 64 = mod-lt x (pow_pos 64) in omega arith

top : (a E : ℕ) → 1023 ≤ E → E < 1075 → (a * 2 ^ ((E + 12) % 64)) % 2 ^ 64 / 2 ^ 63 ≡ a / 2 ^ (1075 - E) % 2
unfolding shl_w
top a E lo hi =
    let k : ℕ = (E + 12) % 64 in
    let e : k + (1075 - E) ≡ 63 = omega arith in
    sym (mod-eq_of_lt (top_lt (a * 2 ^ k))) ∙ ap (λ (i : ℕ). (a * 2 ^ k) % 2 ^ 64 / 2 ^ i % 2) (sym e) ∙ bit_shl a k (1075 - E) (omega arith)

pub returns : goal.returns
returns c =
    let k = (c.exponent.result + 12) % 64 in
    (top_lt (c.args.a * 2 ^ k), λ lo hi. ap (λ (E : ℕ). (c.args.a * 2 ^ ((E + 12) % 64)) % 2 ^ 64 / 2 ^ 63) c.exponent.ensures ∙ top c.args.a _ lo hi)

-- Shifts as the code of a sum writes them, in numbers.
use Rattle.std.proofs.Common.{◌≡◌, ℕ, ◌+◌, ◌-◌, ◌*◌, ◌/◌, ◌%◌, ◌^◌, ◌<◌, ◌≤◌, sym, ap, ◌∙◌, subst, lt_of_le_of_lt, mod-eq_of_lt, div-add-mod', div-mul-le_self, arith, shl_exact}

-- `(w >> k) << k`: a word without its low k bits
pub cleared : (w k : ℕ) → w < 2 ^ 64 → ((w / 2 ^ k * 2 ^ k) % 2 ^ 64 ≡ w / 2 ^ k * 2 ^ k) × ((w / 2 ^ k * 2 ^ k) % 2 ^ 64 ≤ w)
cleared w k h =
    let e : (w / 2 ^ k * 2 ^ k) % 2 ^ 64 ≡ w / 2 ^ k * 2 ^ k = mod-eq_of_lt (lt_of_le_of_lt (div-mul-le_self w (2 ^ k)) h) in
    (e, subst (λ (x : ℕ). x ≤ w) (sym e) (div-mul-le_self w (2 ^ k)))

-- `w - ((w >> k) << k)`: the low k bits
pub low_rest : (w k : ℕ) → w < 2 ^ 64 → w - (w / 2 ^ k * 2 ^ k) % 2 ^ 64 ≡ w % 2 ^ k
low_rest w k h = ap (λ (x : ℕ). w - x) (cleared w k h).0 ∙ rest (w / 2 ^ k * 2 ^ k) (w % 2 ^ k) w (div-add-mod' w (2 ^ k))
  where
    rest : (x r w : ℕ) → x + r ≡ w → w - x ≡ r
    rest x r w e = omega arith

-- `significand << k`, k up to 11: no bit is lost
pub significand_shl : (k m F : ℕ) → k ≤ 11 → F < 2 ^ 52 → m ≡ 2 ^ 52 + F → (m * 2 ^ k) % 2 ^ 64 ≡ (2 ^ 52 + F) * 2 ^ k
significand_shl k m F h f e = ap (λ (x : ℕ). (x * 2 ^ k) % 2 ^ 64) e ∙ shl_exact {a = 2 ^ 52 + F} 53 k 64 (omega arith) (omega arith)

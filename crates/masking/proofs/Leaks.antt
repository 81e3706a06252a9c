-- An AND without its refresh leaks. Rests on computing the share machine, and on the plain machine's Laws for what stores leave.
use mathlib.Core.Path.{◌≡◌, refl, sym, ap, ◌∙◌, subst}
use mathlib.Core.List.{List}
use Prim.Native.Nat.{ℕ, zero, suc, ◌+◌, ◌*◌, ◌<◌, ◌^◌}
use native.Mathlib.Omega.{arith}
use native.Mathlib.Decide.{ℕ_discrete}
use lib.ListN.{get_or, set, replicate}
use lib.Pow.{pow_pos}
use lib.Seq.{get_or-set_same, get_or-set_other}
use Rattle.bits.specs.Ops.{and_w, shl_w}
use Rattle.plain.proofs.Laws.{set_words}
use Rattle.masking.specs.Machine.{Start, Words, exec_step}
use Rattle.masking.specs.Leaks.{at_u, Leak, UnrefreshedLeaks}

zero_at : (n k : ℕ) → get_or {A = ℕ} (replicate n 0) k 0 ≡ 0
zero_at zero k = refl
zero_at (suc n) zero = refl
zero_at (suc n) (suc k) = zero_at n k

pub zero_words : (n : ℕ) → Words (replicate n 0)
zero_words n k = subst (λ (v : ℕ). v < 2 ^ 64) (sym (zero_at n k)) (pow_pos 64)

-- register 0 has the shares x and y, all other cells are 0
abbrev pub zeros : List ℕ
zeros = replicate 512 0

abbrev shared : ℕ → ℕ → List ℕ
shared x y = set (set zeros 0 x) 32 y

shared_start : (x y : ℕ) → x < 2 ^ 64 → y < 2 ^ 64 → Start (shared x y)
shared_start x y hx hy = record { size = refl; words = set_words (set zeros 0 x) 32 y (set_words zeros 0 x (zero_words 512) hx) hy }

-- starts that differ in one cell
beside_0 : (x x' y k : ℕ) → (k ≡ 0 → ⊥) → get_or (shared x y) k 0 ≡ get_or (shared x' y) k 0
beside_0 x x' y k h = by (ℕ_discrete k 32)
  where
    by : Dec (k ≡ 32) → get_or (shared x y) k 0 ≡ get_or (shared x' y) k 0
    by (yes e) =
        ap (λ (j : ℕ). get_or (shared x y) j 0) e ∙ get_or-set_same (set zeros 0 x) 32 y 0 (omega arith)
        ∙ sym (ap (λ (j : ℕ). get_or (shared x' y) j 0) e ∙ get_or-set_same (set zeros 0 x') 32 y 0 (omega arith))
    by (no e) =
        get_or-set_other (set zeros 0 x) 32 k y 0 e ∙ get_or-set_other zeros 0 k x 0 h
        ∙ sym (get_or-set_other (set zeros 0 x') 32 k y 0 e ∙ get_or-set_other zeros 0 k x' 0 h)

beside_32 : (x y y' k : ℕ) → (k ≡ 32 → ⊥) → get_or (shared x y) k 0 ≡ get_or (shared x y') k 0
beside_32 x y y' k h = get_or-set_other (set zeros 0 x) 32 k y 0 h ∙ sym (get_or-set_other (set zeros 0 x) 32 k y' 0 h)

-- the word by both shares, whatever the tape
of_1_0 : (tape : List ℕ) → at_u (shared 1 0) tape ≡ 0
unfolding exec_step and_w shl_w
of_1_0 tape = refl

of_0_1 : (tape : List ℕ) → at_u (shared 0 1) tape ≡ 0
unfolding exec_step and_w shl_w
of_0_1 tape = refl

of_1_1 : (tape : List ℕ) → at_u (shared 1 1) tape ≡ 1
unfolding exec_step and_w shl_w
of_1_1 tape = refl

leak_0 : Leak 0
leak_0 =
    record {
      l = shared 1 0;
      l' = shared 1 1;
      start = shared_start 1 0 (omega arith) (omega arith);
      start' = shared_start 1 1 (omega arith) (omega arith);
      agree = λ r h. beside_32 1 0 1 (32 * 0 + r) (λ e. omega arith);
      differ = λ tape tape' e. let z : ◌≡◌ {A = ℕ} 0 1 = sym (of_1_0 tape) ∙ e ∙ of_1_1 tape' in absurd (omega arith);
    }

leak_1 : Leak 1
leak_1 =
    record {
      l = shared 0 1;
      l' = shared 1 1;
      start = shared_start 0 1 (omega arith) (omega arith);
      start' = shared_start 1 1 (omega arith) (omega arith);
      agree = λ r h. beside_0 0 1 1 (32 * 1 + r) (λ e. omega arith);
      differ = λ tape tape' e. let z : ◌≡◌ {A = ℕ} 0 1 = sym (of_0_1 tape) ∙ e ∙ of_1_1 tape' in absurd (omega arith);
    }

pub unrefreshed_leaks : UnrefreshedLeaks
unrefreshed_leaks = (leak_0, leak_1)

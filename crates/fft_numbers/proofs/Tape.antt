-- Tape words of the complex product and of a layer: those of their calls, and in units of n(n − 1) from the plans' own ANDs and ADDs.
-- Rests on the plans' figures and on Laws (one list after another).
use mathlib.Core.Path.{◌≡◌, sym, ap}
use mathlib.Core.List.{List}
use Prim.Native.Nat.{ℕ, zero, suc, ◌+◌, ◌-◌, ◌*◌, ◌/◌, ◌≤◌}
use native.Mathlib.Nat.{zero-mul, suc-mul}
use native.Mathlib.Omega.{arith}
use Rattle.masking.specs.Foretold.{foretold_tape}
use Rattle.binary64.specs.Operations.{Product, Sum}
use Rattle.plans.specs.words.ProductPlan.{product_plan}
use Rattle.plans.specs.words.SumPlan.{sum_plan}
use Rattle.plans.proofs.BuiltIns.{built_ins}
use Rattle.fft_numbers.specs.Acts.{tape_for}
use Rattle.fft_numbers.specs.Complex.{complex_acts}
use Rattle.fft_numbers.specs.Layer.{pair_of, first_pairs, layer_acts}
use Rattle.fft_numbers.specs.Calls.{complex_tape, layer_tape}
use Rattle.fft_numbers.proofs.Laws.{tape_append}

-- of four products and two sums, and of four products and six
pub four_two : (n : ℕ) → tape_for n complex_acts ≡ complex_tape n
four_two n = omega arith

pub pair_tape : (n N h : ℕ) (factors : List ℕ) (k : ℕ) → tape_for n (pair_of N h factors k) ≡ 4 * foretold_tape n product_plan + 6 * foretold_tape n sum_plan
pair_tape n N h factors k = omega arith

pub pairs_tape : (n N h : ℕ) (factors : List ℕ) (k : ℕ) → tape_for n (first_pairs N h factors k) ≡ k * (4 * foretold_tape n product_plan + 6 * foretold_tape n sum_plan)
pairs_tape n N h factors zero = sym (zero-mul (4 * foretold_tape n product_plan + 6 * foretold_tape n sum_plan))
pairs_tape n N h factors (suc k) =
    omega (
      arith,
      tape_append n (first_pairs N h factors k) (pair_of N h factors k),
      pairs_tape n N h factors k,
      pair_tape n N h factors k,
      suc-mul k (4 * foretold_tape n product_plan + 6 * foretold_tape n sum_plan),
    )

pub layer_calls : (n N h : ℕ) (factors : List ℕ) → tape_for n (layer_acts N h factors) ≡ layer_tape n N
layer_calls n N h factors = pairs_tape n N h factors (N / 2)

-- in units of n(n − 1): 76 for a product, 53 for a sum
module _ (n : ℕ) (least : 2 ≤ n) (most : n ≤ 8) where
  units : (P S q : ℕ) → P ≡ 76 * q → S ≡ 53 * q → (4 * P + 2 * S ≡ 410 * q) × (4 * P + 6 * S ≡ 622 * q)
  units P S q e f = (omega arith, omega arith)

  both : (complex_tape n ≡ 410 * (n * (n - 1))) × (4 * foretold_tape n product_plan + 6 * foretold_tape n sum_plan ≡ 622 * (n * (n - 1)))
  both =
      units (foretold_tape n product_plan) (foretold_tape n sum_plan) (n * (n - 1)) ((built_ins Product).figures.tape_is n least most)
      ((built_ins Sum).figures.tape_is n least most)

  pub complex_units : complex_tape n ≡ 410 * (n * (n - 1))
  complex_units = both.0

  pub pair_units : 4 * foretold_tape n product_plan + 6 * foretold_tape n sum_plan ≡ 622 * (n * (n - 1))
  pair_units = both.1

  pub layer_units : (N : ℕ) → layer_tape n N ≡ N / 2 * (622 * (n * (n - 1)))
  layer_units N = ap (λ (k : ℕ). N / 2 * k) pair_units

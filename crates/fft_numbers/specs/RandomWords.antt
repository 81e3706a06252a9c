-- How many random words the complex product and a layer on shares take: what their calls take one after another (`tape` of `ComplexHolds` and of
-- `LayerHolds`, and `acts_are_calls`, in Holds), by the operations' figures (operations/specs/RandomWords).
use Rattle.std.specs.Prelude.{◌≡◌, true, List, ℕ, ◌-◌, ◌*◌, ◌/◌, ◌≤◌, length}
use Rattle.checks.specs.Answers.{done}
use Rattle.fft_numbers.specs.Layer.{is_layer, block_count}
use Rattle.fft_numbers.specs.Calls.{complex_call_answer, layer_call_answer}

pub record TransformWords : Type 0 where
  -- the complex product: four products and two sums, 410 = 4·76 + 2·53
  pub complex : (n : ℕ) (x y result work tape : List ℕ) → (complex_call_answer n x y result work tape).number ≡ 0
      → (complex_call_answer n x y result work tape).tape ≡ 410 * (n * (n - 1))
  pub complex_shares : (n : ℕ) (x y result work tape : List ℕ) → (complex_call_answer n x y result work tape).number ≡ 0 → (2 ≤ n) × (n ≤ 8)
  pub complex_enough : (n : ℕ) (x y result work tape : List ℕ) → 2 ≤ n → n ≤ 8 → length x ≡ 2 * n → length y ≡ 2 * n → length result ≡ 2 * n → length work ≡ 512
      → 410 * (n * (n - 1)) ≤ length tape → complex_call_answer n x y result work tape ≡ done 0 (410 * (n * (n - 1)))
  -- a layer, at any distance h: four products and six sums for each of its N/2 pairs, 622 = 4·76 + 6·53
  pub layer : (n N h : ℕ) (numbers factors work tape : List ℕ) → (layer_call_answer n N h numbers factors work tape).number ≡ 0
      → (layer_call_answer n N h numbers factors work tape).tape ≡ N / 2 * (622 * (n * (n - 1)))
  pub layer_shares : (n N h : ℕ) (numbers factors work tape : List ℕ) → (layer_call_answer n N h numbers factors work tape).number ≡ 0 → (2 ≤ n) × (n ≤ 8)
  pub layer_enough : (n N h : ℕ) (numbers factors work tape : List ℕ) → 2 ≤ n → n ≤ 8 → is_layer N h ≡ true → length numbers ≡ 2 * N * n
      → length factors ≡ 2 * block_count N h → length work ≡ 512 → N / 2 * (622 * (n * (n - 1))) ≤ length tape
      → layer_call_answer n N h numbers factors work tape ≡ done 0 (N / 2 * (622 * (n * (n - 1))))

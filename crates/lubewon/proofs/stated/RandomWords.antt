-- The claims on random words, field by field: the figures, the calls that are done and those that are turned down, and how many words are enough. What is
-- narrowed, halved or asks for more fails here.
use mathlib.Core.Path.{◌≡◌}
use mathlib.Core.Bool.{true}
use mathlib.Core.List.{List}
use Prim.Native.Nat.{ℕ, ◌+◌, ◌-◌, ◌*◌, ◌/◌, ◌≤◌}
use lib.ListN.{length}
use Rattle.checks.specs.Answers.{done}
use Rattle.masking.specs.Foretold.{foretold_tape}
use Rattle.binary64.specs.Operations.{Operation, Product, Sum, Floor, Truncate, Nearest}
use Rattle.plans.specs.BuiltIns.{plan_of}
use Rattle.plans.specs.Cost.{of_kind}
use Rattle.masked_call.specs.Shares.{call_answer}
use Rattle.fft_numbers.specs.Layer.{is_layer}
use Rattle.fft_numbers.specs.Calls.{complex_call_answer, layer_call_answer}
use Rattle.operations.specs.RandomWords.{Takes, RandomWords}
use Rattle.fft_numbers.specs.RandomWords.{TransformWords}
use Rattle.lubewon.specs.Claims.{Claims}

-- k times n(n−1)
abbrev pairwise : ℕ → ℕ → ℕ
pairwise k n = k * (n * (n - 1))

module _ {o : Operation} {ands ceiling : ℕ} (h : Takes o ands ceiling) where
  takes_counted : of_kind 3 (plan_of o) + 12 * of_kind 8 (plan_of o) ≡ ands
  takes_counted = h.counted

  takes_foretold : (n : ℕ) → 2 ≤ n → n ≤ 8 → foretold_tape n (plan_of o) ≡ pairwise ands n
  takes_foretold = h.foretold

  takes_reported : (x y result work tape : List ℕ) → (call_answer (plan_of o) x y result work tape).number ≡ 0
      → (call_answer (plan_of o) x y result work tape).tape ≡ pairwise ands (length x)
  takes_reported = h.reported

  takes_below : (x y result work tape : List ℕ) → (call_answer (plan_of o) x y result work tape).tape ≤ pairwise ceiling (length x)
  takes_below = h.below

  takes_shares : (x y result work tape : List ℕ) → (call_answer (plan_of o) x y result work tape).number ≡ 0 → (2 ≤ length x) × (length x ≤ 8)
  takes_shares = h.shares

  takes_enough : (x y result work tape : List ℕ) → 2 ≤ length x → length x ≤ 8 → length y ≡ length x → length result ≡ length x → length work ≡ 512
      → pairwise ands (length x) ≤ length tape → call_answer (plan_of o) x y result work tape ≡ done 0 (pairwise ands (length x))
  takes_enough = h.enough

module _ (h : RandomWords) where
  by_words : (n : ℕ) (plan : List ℕ) → 2 ≤ n → n ≤ 8 → foretold_tape n plan ≡ pairwise (of_kind 3 plan + 12 * of_kind 8 plan) n
  by_words = h.by_words

  product : Takes Product 76 1000
  product = h.product

  sum : Takes Sum 53 600
  sum = h.sum

  floor : Takes Floor 12 400
  floor = h.floor

  truncate : Takes Truncate 5 400
  truncate = h.truncate

  nearest : Takes Nearest 14 400
  nearest = h.nearest

module _ (h : TransformWords) where
  complex : (n : ℕ) (x y result work tape : List ℕ) → (complex_call_answer n x y result work tape).number ≡ 0
      → (complex_call_answer n x y result work tape).tape ≡ pairwise 410 n
  complex = h.complex

  complex_shares : (n : ℕ) (x y result work tape : List ℕ) → (complex_call_answer n x y result work tape).number ≡ 0 → (2 ≤ n) × (n ≤ 8)
  complex_shares = h.complex_shares

  complex_enough : (n : ℕ) (x y result work tape : List ℕ) → 2 ≤ n → n ≤ 8 → length x ≡ 2 * n → length y ≡ 2 * n → length result ≡ 2 * n → length work ≡ 512
      → pairwise 410 n ≤ length tape → complex_call_answer n x y result work tape ≡ done 0 (pairwise 410 n)
  complex_enough = h.complex_enough

  layer : (n N d : ℕ) (numbers factors work tape : List ℕ) → (layer_call_answer n N d numbers factors work tape).number ≡ 0
      → (layer_call_answer n N d numbers factors work tape).tape ≡ N / 2 * pairwise 622 n
  layer = h.layer

  layer_shares : (n N d : ℕ) (numbers factors work tape : List ℕ) → (layer_call_answer n N d numbers factors work tape).number ≡ 0 → (2 ≤ n) × (n ≤ 8)
  layer_shares = h.layer_shares

  layer_enough : (n N d : ℕ) (numbers factors work tape : List ℕ) → 2 ≤ n → n ≤ 8 → is_layer N d ≡ true → length numbers ≡ 2 * N * n
      → length factors ≡ 2 * (N / (2 * d)) → length work ≡ 512 → N / 2 * pairwise 622 n ≤ length tape
      → layer_call_answer n N d numbers factors work tape ≡ done 0 (N / 2 * pairwise 622 n)
  layer_enough = h.layer_enough

module _ (C : Claims) where
  random_words : RandomWords
  random_words = C.random_words

  transform_words : TransformWords
  transform_words = C.transform_words

-- How many random words the operations on shares take: document 02, No. 6, "For every n from 2 to 8, product uses at most 1,000·n(n−1) tape words,
-- sum at most 600·n(n−1), floor at most 400·n(n−1). .. Prove it from the plans' own words and the foretold count." What a call reports is what the
-- share run that defines its result draws: `masked`, its `run` (masked_call/specs/WholeRun). Complex product and layer are in fft_numbers/specs/RandomWords,
-- and split's n − 1 words are apart.
use Rattle.std.specs.Prelude.{◌≡◌, List, ℕ, ◌-◌, ◌*◌, ◌≤◌, length}
use Rattle.checks.specs.Answers.{done}
use Rattle.masking.specs.Foretold.{foretold_tape}
use Rattle.binary64.specs.Operations.{Operation, Product, Sum, Floor, Truncate, Nearest}
use Rattle.plans.specs.BuiltIns.{plan_of}
use Rattle.plans.specs.Cost.{masked_ands}
use Rattle.masked_call.specs.Shares.{call_answer}

-- An operation whose plan has `ands` masked ANDs, each n(n−1) tape words, where `ceiling` times n(n−1) are allowed. A call with one operand is the case of zeros for the second, a call in
-- place that of the first operand for the result (masked_call/specs/Shares).
pub record Takes (o : Operation) (ands ceiling : ℕ) : Type 0 where
  -- "the plans' own words"
  pub counted : masked_ands (plan_of o) ≡ ands
  -- "the foretold count"
  pub foretold : (n : ℕ) → 2 ≤ n → n ≤ 8 → foretold_tape n (plan_of o) ≡ ands * (n * (n - 1))
  -- what a call that is done reports
  pub reported : (x y result work tape : List ℕ) → (call_answer (plan_of o) x y result work tape).number ≡ 0
      → (call_answer (plan_of o) x y result work tape).tape ≡ ands * (length x * (length x - 1))
  -- "uses at most": so of every call, since one that is turned down reports 0
  pub below : (x y result work tape : List ℕ) → (call_answer (plan_of o) x y result work tape).tape ≤ ceiling * (length x * (length x - 1))
  -- a call that is done has 2 to 8 shares
  pub shares : (x y result work tape : List ℕ) → (call_answer (plan_of o) x y result work tape).number ≡ 0 → (2 ≤ length x) × (length x ≤ 8)
  -- so many are enough: over slices of the right lengths a call is done
  pub enough : (x y result work tape : List ℕ) → 2 ≤ length x → length x ≤ 8 → length y ≡ length x → length result ≡ length x → length work ≡ 512
      → ands * (length x * (length x - 1)) ≤ length tape → call_answer (plan_of o) x y result work tape ≡ done 0 (ands * (length x * (length x - 1)))

pub record RandomWords : Type 0 where
  -- "from the plans' own words": so for every plan
  pub by_words : (n : ℕ) (plan : List ℕ) → 2 ≤ n → n ≤ 8 → foretold_tape n plan ≡ masked_ands plan * (n * (n - 1))
  pub product : Takes Product 76 1000
  pub sum : Takes Sum 53 600
  pub floor : Takes Floor 12 400
  -- the request names no ceiling for these two; floor's holds for them
  pub truncate : Takes Truncate 5 400
  pub nearest : Takes Nearest 14 400

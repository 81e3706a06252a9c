-- The built-in operations, listed in one place: what each gives on plain words. One with a single operand looks at the first alone.
use Rattle.std.specs.Prelude.{ℕ}
use Rattle.binary64.specs.Product as product_spec
use Rattle.binary64.specs.Sum as sum_spec
use Rattle.binary64.specs.Floor as floor_spec
use Rattle.binary64.specs.Truncate as truncate_spec
use Rattle.binary64.specs.Nearest as nearest_spec

pub data Operation : Type 0 where
  Product Sum Floor Truncate Nearest : Operation

abbrev pub on_words : Operation → ℕ → ℕ → ℕ
on_words Product a b = product_spec.product a b
on_words Sum a b = sum_spec.sum a b
on_words Floor a b = floor_spec.floor a
on_words Truncate a b = truncate_spec.truncate a
on_words Nearest a b = nearest_spec.nearest a

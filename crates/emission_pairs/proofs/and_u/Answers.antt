-- `emission_pairs::and_u` meets its contract.
use mathlib.Core.Path.{◌≡◌}
use Prim.Native.Nat.{ℕ, ◌+◌, ◌*◌, ◌<◌}
use native.Mathlib.Omega.{arith}
use Rattle.word.specs.Encoding.{put}
use Rattle.emission_rows.specs.inner.Written.{cells_on}
use Rattle.emission_rows.proofs.Rows.{on_lt}
use Rattle.emission_pairs.proofs.and_u.Goals as goal

word : (x j : ℕ) → x < 512 → j < 8 → 876871936 + x * 512 + j ≡ put 3 273 x (256 + j)
unfolding put
word x j lx lj = omega arith

pub overflow_mul-cell : goal.overflow_mul-cell
overflow_mul-cell c = omega (arith, on_lt c.args.a c.requires.fits c.args.i c.requires.i_bound)

pub overflow_add-cell : goal.overflow_add-cell
overflow_add-cell c = omega (arith, on_lt c.args.a c.requires.fits c.args.i c.requires.i_bound)

pub overflow_cast-result : goal.overflow_cast-result
overflow_cast-result c = omega (arith, on_lt c.args.a c.requires.fits c.args.i c.requires.i_bound)

pub overflow_mul-result : goal.overflow_mul-result
overflow_mul-result c = omega (arith, on_lt c.args.a c.requires.fits c.args.i c.requires.i_bound)

pub overflow_add-result : goal.overflow_add-result
overflow_add-result c = omega (arith, on_lt c.args.a c.requires.fits c.args.i c.requires.i_bound)

pub overflow_add-result-2 : goal.overflow_add-result-2
overflow_add-result-2 c = omega (arith, on_lt c.args.a c.requires.fits c.args.i c.requires.i_bound)

pub returns : goal.returns
returns c = word (cells_on c.args.a c.args.i) c.args.j (on_lt c.args.a c.requires.fits c.args.i c.requires.i_bound) c.requires.j_bound

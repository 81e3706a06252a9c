-- `test_numbers::native::bits` is safe: a float that does not differ from itself is no NaN.
use Rattle.std.proofs.Common.{◌≡◌, false, not, T, sym, subst, rules}
use lib.Ieee.{Float, nan, inf, fin, ne, is_nan}
use lib.Ieee.Compare.{nan_differs}
use Rattle.test_numbers.proofs.native.bits.Goals as goal

no_nan : (x : Float) → ne x x ≡ false → T (not (is_nan x))
unfolding is_nan
no_nan nan h = subst T h (subst T (sym nan_differs) tt)
no_nan (inf s) h = tt
no_nan (fin s m e) h = tt

pub float_to_bits-result : goal.float_to_bits-result
float_to_bits-result c = no_nan c.args.x c.if-x.false

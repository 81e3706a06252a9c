-- Decimal digits: those that std writes of a number below 2^64, and 20 at most. Assumes nothing.
use mathlib.Core.Path.{◌≡◌, sym}
use mathlib.Core.Bool.{Bool, true, false, cond}
use mathlib.Core.List.{[], ◌∷◌, ◌++◌}
use Prim.Native.Nat.{ℕ, zero, suc, ◌+◌, ◌/◌, ◌%◌, ◌^◌, ◌≤◌, ◌<◌}
use native.Mathlib.Omega.{arith}
use lib.Dec.{ltb}
use lib.ListN.{length, length-append}
use borrow.Author.Tests.{lt-ltb, le-ltb}
use Rattle.std.specs.Fmt as std
use Rattle.std.proofs.lemmas.Fmt.{AppendsLastDigit, decimal_from_appends, length-decimal-le}
use Rattle.listing_lines.specs.Lines.{decimal_with, decimal}

appends_last : AppendsLastDigit decimal_with
appends_last = record { one = λ k n l. rw (lt-ltb n 10 l); more = λ k n l. rw (le-ltb n 10 l) }

pub decimal_is : (n : ℕ) → n < 2 ^ 64 → std.decimal n ≡ decimal n
unfolding decimal
decimal_is n h = sym (decimal_from_appends decimal_with appends_last 20 n h (length-decimal-le 20 n (omega arith) (omega arith) h))

digits_most : (k n : ℕ) → length (decimal_with k n) ≤ k
digits_most zero n = omega arith
digits_most (suc k) n = by (ltb n 10) (digits_most k (n / 10))
  where
    by : (b : Bool) → length (decimal_with k (n / 10)) ≤ k → length (cond b ((48 + n) ∷ []) (decimal_with k (n / 10) ++ ((48 + n % 10) ∷ []))) ≤ suc k
    by true h = omega arith
    by false h = omega (arith, length-append (decimal_with k (n / 10)) ((48 + n % 10) ∷ []))

pub decimal_most : (n : ℕ) → length (decimal n) ≤ 20
unfolding decimal
decimal_most n = digits_most 20 n

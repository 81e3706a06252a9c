-- `compiled::linear::value` meets its contract, by the word's kind.
use borrow.Author.Tests.{eq-eqb, ne_eqb}
use Rattle.bits.specs.Ops.{xor_w, not_w, shl_w, shr_w, spread_w}
use Rattle.compiled.specs.inner.OnShare.{linear_word}
use Rattle.compiled.proofs.linear.value.Goals as goal

pub returns-then-i-eq0 : goal.returns-then-i-eq0
unfolding linear_word
returns-then-i-eq0 c = rw (c.in-1.is, eq-eqb _ 0 c.if-i-eq0.true)

pub returns-then-i-eq0-2 : goal.returns-then-i-eq0-2
unfolding linear_word not_w
returns-then-i-eq0-2 c = rw (c.in-4.is, eq-eqb _ 0 c.if-i-eq0-2.true)

pub returns-else-i-eq0 : goal.returns-else-i-eq0
unfolding linear_word
returns-else-i-eq0 c = rw (c.in-1.is, ne_eqb _ 0 c.if-i-eq0.false)

pub returns-in-2 : goal.returns-in-2
unfolding linear_word xor_w
returns-in-2 c = rw c.in-2.is

pub returns-else-i-eq0-2 : goal.returns-else-i-eq0-2
unfolding linear_word shl_w
returns-else-i-eq0-2 c = rw (c.in-4.is, ne_eqb _ 0 c.if-i-eq0-2.false)

pub returns-in-5 : goal.returns-in-5
unfolding linear_word shl_w
returns-in-5 c = rw c.in-5.is

pub returns-in-6 : goal.returns-in-6
unfolding linear_word shr_w
returns-in-6 c = rw c.in-6.is

pub returns-in_default : goal.returns-in_default
unfolding linear_word spread_w
returns-in_default c =
    rw (ne_eqb _ 1 c.in_default.in_default-own.rest.0.0.0.0.1, ne_eqb _ 2 c.in_default.in_default-own.rest.0.0.0.1, ne_eqb _ 4 c.in_default.in_default-own.rest.0.0.1, ne_eqb _ 5 c.in_default.in_default-own.rest.0.1, ne_eqb _ 6 c.in_default.in_default-own.rest.1)

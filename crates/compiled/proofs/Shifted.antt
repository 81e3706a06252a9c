-- A SHR word with a number added in the place of its shift number. Rests on OnShare's definitions alone.
use mathlib.Core.Path.{◌≡◌}
use mathlib.Core.List.{List}
use Prim.Native.Nat.{ℕ, ◌+◌, ◌*◌, ◌/◌, ◌%◌, ◌^◌, ◌<◌}
use native.Mathlib.Omega.{arith}
use lib.ListN.{get_or, set}
use Rattle.bits.specs.Ops.{shr_w}
use Rattle.word.specs.Encoding.{kind_of}
use Rattle.compiled.specs.inner.OnShare.{linear_word, on_share}

module _ (w q : ℕ) (kind : kind_of w ≡ 6) (none : w % 512 ≡ 0) (below : q < 64) where
  same_kind : kind_of (w + q) ≡ 6
  same_kind = omega arith

  same_d : (w + q) / 2 ^ 18 % 32 ≡ w / 2 ^ 18 % 32
  same_d = omega arith

  same_a : (w + q) / 2 ^ 9 % 32 ≡ w / 2 ^ 9 % 32
  same_a = omega arith

  number : (w + q) % 64 ≡ q
  number = omega arith

  pub shifted : (i : ℕ) (c : List ℕ) → on_share i (w + q) c ≡ set c (32 * i + w / 2 ^ 18 % 32) (shr_w (get_or c (32 * i + w / 2 ^ 9 % 32) 0) q)
  unfolding on_share linear_word
  shifted i c = rw (same_d, same_a, same_kind, number)

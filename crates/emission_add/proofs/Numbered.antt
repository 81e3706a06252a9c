-- ADD's 33 steps by their numbers.
use mathlib.Core.Path.{◌≡◌, refl, sym, ap, ◌∙◌}
use mathlib.Core.List.{List, ◌++◌, map}
use Prim.Native.Nat.{ℕ, zero, suc, ◌+◌, ◌<◌}
use native.Mathlib.Nat.{zero-add}
use native.Mathlib.Numerals.{add-one}
use native.Mathlib.Omega.{arith}
use lib.ListN.{length, get_or, drop}
use lib.Seq.{drop-cons}
use Rattle.word.specs.declared.step.Step.{Step}
use Rattle.word.specs.declared.step.Step.TheVariants.{Rand}
use Rattle.masking.specs.Translation.{scratch, up_from, block, blocks, adding}
use Rattle.emission_add.specs.inner.Registers.{adder_step}

at_number : (f : ℕ → Step) (s c k : ℕ) → k < c → get_or (map f (up_from s c)) k (Rand 0) ≡ f (s + k)
at_number f s zero k h = absurd (omega arith)
at_number f s (suc c) zero h = ap f (omega arith)
at_number f s (suc c) (suc k) h = at_number f (suc s) c k (omega arith) ∙ ap f (omega arith)

module _ (d a b : ℕ) where
  numbered : adding d a b ≡ map (adder_step d a b) (up_from 0 33)
  unfolding adding adder_step
  numbered = refl

  pub adding_length : length (adding d a b) ≡ 33
  unfolding adding
  adding_length = refl

  adder_step_is : (k : ℕ) → k < 33 → get_or (adding d a b) k (Rand 0) ≡ adder_step d a b k
  adder_step_is k h = ap (λ (ss : List Step). get_or ss k (Rand 0)) numbered ∙ at_number (adder_step d a b) 0 33 k h ∙ ap (adder_step d a b) (zero-add k)

  -- the next one, and those after it
  pub adder_next : (n k : ℕ) → k < 33 → blocks scratch n (drop k (adding d a b)) ≡ block scratch n (adder_step d a b k) ++ blocks scratch n (drop (k + 1) (adding d a b))
  adder_next n k h =
      ap (blocks scratch n) (drop-cons (adding d a b) k (Rand 0) (omega (arith, adding_length)))
      ∙ ap (λ (s : Step). block scratch n s ++ blocks scratch n (drop (suc k) (adding d a b))) (adder_step_is k h)
      ∙ ap (λ (j : ℕ). block scratch n (adder_step d a b k) ++ blocks scratch n (drop j (adding d a b))) (sym (add-one k))

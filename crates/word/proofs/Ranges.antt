-- Tests of the cells that a step names, cell by cell; and what a step's range says of them. Assumes nothing.
use mathlib.Core.Path.{◌≡◌, refl}
use mathlib.Core.Bool.{Bool, true, false, ◌&&◌}
use mathlib.Core.List.{List, [], ◌∷◌}
use Prim.Native.Nat.{ℕ, ◌≤◌, ◌<◌}
use native.Mathlib.Nat.{lt_of_lt_of_le}
use lib.Dec.{T, ltb, ltb→lt, lt→ltb}
use Rattle.word.specs.declared.step.Step.{Step}
use Rattle.word.specs.Table.{dest, reads, Each, all_in, naming}
use Rattle.word.specs.Encoding.{number_fits, within}

pub both : (p q : Bool) → T (p && q) → T p × T q
both true q h = (tt, h)
both false q h = absurd h

pub join : (p q : Bool) → T p → T q → T (p && q)
join true q a b = b
join false q a b = absurd a

pub and_true : (p : Bool) → (p && true) ≡ p
and_true true = refl
and_true false = refl

pub and_assoc : (p q r : Bool) → ((p && q) && r) ≡ (p && (q && r))
and_assoc true q r = refl
and_assoc false q r = refl

pub each_of : (P Q : ℕ → Type 0) → ((c : ℕ) → P c → Q c) → (cs : List ℕ) → Each P cs → Each Q cs
each_of P Q f [] h = tt
each_of P Q f (c ∷ cs) h = (f c h.0, each_of P Q f cs h.1)

-- a test of each cell, and back
module _ (p : ℕ → Bool) where
  pub tested_each : (cs : List ℕ) → T (all_in p cs) → Each (λ c. T (p c)) cs
  tested_each [] h = tt
  tested_each (c ∷ cs) h = let e = both (p c) (all_in p cs) h in (e.0, tested_each cs e.1)

  pub each_tested : (cs : List ℕ) → Each (λ c. T (p c)) cs → T (all_in p cs)
  each_tested [] h = tt
  each_tested (c ∷ cs) h = join (p c) (all_in p cs) h.0 (each_tested cs h.1)

module _ (w : ℕ) where
  pub below_tested : (cs : List ℕ) → Each (λ c. c < w) cs → T (all_in (λ c. ltb c w) cs)
  below_tested cs h = each_tested (λ c. ltb c w) cs (each_of (λ c. c < w) (λ c. T (ltb c w)) (λ c l. lt→ltb c w l) cs h)

  module _ (s : Step) where
    -- a step in range: its cells are below w, and its number fits
    pub within_cells : T (within w s) → Each (λ c. c < w) (dest s ∷ reads s)
    within_cells h =
        each_of (λ c. T (ltb c w)) (λ c. c < w) (λ c l. ltb→lt c w l) (dest s ∷ reads s)
        (tested_each (λ c. ltb c w) (dest s ∷ reads s) (both (naming (λ c. ltb c w) s) (number_fits s) h).0)

    pub within_number : T (within w s) → T (number_fits s)
    within_number h = (both (naming (λ c. ltb c w) s) (number_fits s) h).1

    pub cells_within : Each (λ c. c < w) (dest s ∷ reads s) → T (number_fits s) → T (within w s)
    cells_within c h = join (naming (λ c. ltb c w) s) (number_fits s) (below_tested (dest s ∷ reads s) c) h

-- a step's registers stay registers where there are more
pub within_more : (w v : ℕ) → w ≤ v → (s : Step) → T (within w s) → T (within v s)
within_more w v more s h =
    cells_within v s (each_of (λ c. c < w) (λ c. c < v) (λ c l. lt_of_lt_of_le l more) (dest s ∷ reads s) (within_cells w s h)) (within_number w s h)

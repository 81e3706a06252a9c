-- What the pairs of shares get, pair by pair, and the words with a share's number in them. Assumes nothing.
use mathlib.Core.Path.{◌≡◌, refl, sym, ap, ◌∙◌}
use mathlib.Core.List.{List, [], ◌∷◌, ◌++◌, append_assoc}
use Prim.Native.Nat.{ℕ, ◌+◌, ◌*◌, ◌<◌}
use native.Mathlib.Omega.{arith}
use Rattle.word.specs.declared.step.Step.{Step}
use Rattle.word.specs.declared.step.Step.TheVariants.{Xor}
use Rattle.word.specs.Encoding.{put, word_of}
use Rattle.masking.specs.Translation.{Pair}
use Rattle.emission_pairs.specs.declared.EachPair.{EachPair}
use Rattle.emission_pairs.specs.declared.EachPair.TheVariants.{Refresh, Products}
use Rattle.emission_pairs.specs.inner.Pairs.{pair_steps}

-- what pairs get, pair by pair
pub pair_first : (k : EachPair) (p : Pair) (ps : List Pair) → pair_steps k (p ∷ ps) ≡ pair_steps k (p ∷ []) ++ pair_steps k ps
pair_first Refresh p ps = refl
pair_first (Products a) p ps = refl

pub pair_none : (k : EachPair) → pair_steps k [] ≡ []
pair_none Refresh = refl
pair_none (Products a) = refl

pub pair_append : (k : EachPair) (ps qs : List Pair) → pair_steps k (ps ++ qs) ≡ pair_steps k ps ++ pair_steps k qs
pair_append k [] qs = ap (λ (r : List Step). r ++ pair_steps k qs) (sym (pair_none k))
pair_append k (p ∷ ps) qs =
    pair_first k p (ps ++ qs) ∙ ap (λ (r : List Step). pair_steps k (p ∷ []) ++ r) (pair_append k ps qs)
    ∙ sym (append_assoc (pair_steps k (p ∷ [])) (pair_steps k ps) (pair_steps k qs))
    ∙ ap (λ (r : List Step). r ++ pair_steps k qs) (sym (pair_first k p ps))

-- y_i XOR t and z_i XOR t, from share 0's
pub y_up : (i : ℕ) → i < 8 → 604111120 + i * 262656 ≡ word_of (Xor (256 + i) (256 + i) 272)
unfolding put
y_up i l = omega arith

pub z_up : (i : ℕ) → i < 8 → 606212368 + i * 262656 ≡ word_of (Xor (264 + i) (264 + i) 272)
unfolding put
z_up i l = omega arith

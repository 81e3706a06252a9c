-- What holds after a list of steps whatever tape words they take, and its rules: a run's end, weakening, lists in a row, words, and cells
-- that no step writes.
use mathlib.Core.Path.{◌≡◌, refl, ◌∙◌}
use mathlib.Core.List.{List, [], ◌∷◌, ◌++◌}
use Prim.Native.Nat.{ℕ, ◌^◌, ◌<◌}
use lib.ListN.{get_or, drop}
use Rattle.word.specs.declared.step.Step.{Step}
use Rattle.word.specs.Table.{dest, becomes}
use Rattle.masking.specs.Machine.{takes, Words}
use Rattle.masking.proofs.emitted.Tests.{All}
use Rattle.masking.proofs.joined.Cells.{Cells, upd, upd_other, WordCells, upd_words, step_on, steps_on, Fits, drop_words}

-- every step may meet any tape word; only RAND looks at it
abbrev pub after : List Step → (Cells → Type 0) → Cells → Type 0
after [] Ψ c = Ψ c
after (s ∷ ss) Ψ c = (t : ℕ) → t < 2 ^ 64 → after ss Ψ (step_on s t c)

pub after_run : (ss : List Step) (Ψ : Cells → Type 0) (c : Cells) → after ss Ψ c → (tape : List ℕ) → Words tape → Ψ (steps_on ss tape c)
after_run [] Ψ c h tape w = h
after_run (s ∷ ss) Ψ c h tape w =
    after_run ss Ψ (step_on s (get_or tape 0 0) c) (h (get_or tape 0 0) (w 0)) (drop (takes s) tape) (drop_words tape w (takes s))

pub after_mono : (ss : List Step) (Ψ Φ : Cells → Type 0) (c : Cells) → ((e : Cells) → Ψ e → Φ e) → after ss Ψ c → after ss Φ c
after_mono [] Ψ Φ c f h = f c h
after_mono (s ∷ ss) Ψ Φ c f h = λ t l. after_mono ss Ψ Φ (step_on s t c) f (h t l)

pub after_append : (ss ts : List Step) (Ψ : Cells → Type 0) (c : Cells) → after ss (after ts Ψ) c → after (ss ++ ts) Ψ c
after_append [] ts Ψ c h = h
after_append (s ∷ ss) ts Ψ c h = λ t l. after_append ss ts Ψ (step_on s t c) (h t l)

-- one list, and then another from what holds in between
pub after_then : (ss ts : List Step) (Ψ Φ : Cells → Type 0) (c : Cells) → after ss Ψ c → ((e : Cells) → Ψ e → after ts Φ e) → after (ss ++ ts) Φ c
after_then ss ts Ψ Φ c h f = after_append ss ts Φ c (after_mono ss Ψ (after ts Φ) c f h)

pub after_words : (ss : List Step) (Ψ : Cells → Type 0) (c : Cells) → All Fits ss → WordCells c → after ss Ψ c → after ss (λ e. WordCells e × Ψ e) c
after_words [] Ψ c f w h = (w, h)
after_words (s ∷ ss) Ψ c f w h = λ t l. after_words ss Ψ (step_on s t c) f.1 (upd_words c (dest s) (becomes s c t) w (f.0 c t w l)) (h t l)

-- a cell that no step writes
abbrev pub Off : ℕ → List Step → Type 0
Off k ss = All (λ s. k ≡ dest s → ⊥) ss

pub after_off : (ss : List Step) (c : Cells) → after ss (λ e. (k : ℕ) → Off k ss → e k ≡ c k) c
after_off [] c = λ k o. refl
after_off (s ∷ ss) c =
    λ t l.
    after_mono ss (λ e. (k : ℕ) → Off k ss → e k ≡ step_on s t c k) _ (step_on s t c)
    (λ e h k o. h k o.1 ∙ upd_other c (dest s) (becomes s c t) k o.0) (after_off ss (step_on s t c))

-- where nothing is asked
pub after_any : (ss : List Step) (c : Cells) → after ss (λ e. Unit {0}) c
after_any [] c = tt
after_any (s ∷ ss) c = λ t l. after_any ss (step_on s t c)

-- a step whose word is known
pub after_known : (s : Step) (ss : List Step) (Ψ : Cells → Type 0) (c : Cells) (t v : ℕ) → becomes s c t ≡ v
    → after ss Ψ (upd c (dest s) v) → after ss Ψ (step_on s t c)
after_known s ss Ψ c t v e h = rw e h

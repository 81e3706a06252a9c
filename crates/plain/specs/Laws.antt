-- What callers may count on of the plain machine, as one statement.
use Rattle.std.specs.Prelude.{◌≡◌, List, [], ◌∷◌, ◌++◌, ℕ, ◌^◌, ◌<◌, length, get_or, set, Some}
use Rattle.word.specs.declared.step.Step.{Step}
use Rattle.word.specs.Encoding.{plan_step}
use Rattle.word.specs.Table.{dest, becomes}
use Rattle.plain.specs.Machine.{run}

pub record Laws : Type 0 where
  -- a good word sets its cell d by the table and leaves the others
  pub one : (w : ℕ) (s : Step) (cells : List ℕ) → plan_step w ≡ Some s → run (w ∷ []) cells ≡ set cells (dest s) (becomes s (λ c. get_or cells c 0) 0)
  -- running p ++ q is running p, then q
  pub append : (p q cells : List ℕ) → run (p ++ q) cells ≡ run q (run p cells)
  -- the empty plan leaves all cells
  pub empty : (cells : List ℕ) → run [] cells ≡ cells
  -- there are as many cells as before
  pub size : (plan cells : List ℕ) → length (run plan cells) ≡ length cells
  -- every cell stays below 2^64
  pub words : (plan cells : List ℕ) → ((r : ℕ) → get_or cells r 0 < 2 ^ 64) → (r : ℕ) → get_or (run plan cells) r 0 < 2 ^ 64

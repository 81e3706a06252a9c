-- The plain machine for plans: 32 cells, "the plan's words in order by the same table" (document 01, "Share runs in a row").
use Rattle.std.specs.Prelude.{List, [], ◌∷◌, ℕ, get_or, set, Option, Some, None}
use Rattle.word.specs.declared.step.Step.{Step}
use Rattle.word.specs.Encoding.{plan_step}
use Rattle.word.specs.Table.{dest, becomes}

-- one step: cell d becomes what the table says, the others stay
unfoldable pub stepped : Step → List ℕ → List ℕ
stepped s cells = set cells (dest s) (becomes s (λ c. get_or cells c 0) 0)

-- a bad word does nothing; no call runs a plan that has one
abbrev pub after : Option Step → List ℕ → List ℕ
after (Some s) cells = stepped s cells
after None cells = cells

-- the plan's words in order
abbrev pub run : List ℕ → List ℕ → List ℕ
run [] cells = cells
run (w ∷ ws) cells = run ws (after (plan_step w) cells)

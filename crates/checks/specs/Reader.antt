-- The plan reader, from document 01's section "Step words".
use Rattle.std.specs.Prelude.{cond, List, ℕ, ltb, length, get_or, Option, Some, None}

-- "A plan reader keeps the lent plan and the number of the next word": what it finds there, the word or, at the plan's end, none
abbrev pub read_at : List ℕ → ℕ → Option ℕ
read_at plan at = cond (ltb at (length plan)) (Some (get_or plan at 0)) None

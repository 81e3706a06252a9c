-- Written by tools/compile_plan.py: change the plan or the compiler, not this file.
-- The plan of the larger number cut at its ANDs and ADDs: the runs of linear words between them, and these words. Together they are the plan (Cut).
use Rattle.std.specs.Prelude.{List, [], ◌∷◌, ℕ}

-- every run but the last
abbrev pub runs : List (List ℕ)
runs =
    (1074528768 ∷ 269484033 ∷ []) ∷
    ([]) ∷
    (1611925055 ∷ 1880361472 ∷ 538443777 ∷ []) ∷
    []

abbrev pub last_run : List ℕ
last_run = 537395206 ∷ 538706438 ∷ []

-- the words between
abbrev pub gates : List ℕ
gates = 2148271620 ∷ 2148270083 ∷ 806882309 ∷ []

-- Written by tools/compile_plan.py: change the plan or the compiler, not this file.
-- The plan of the larger number, as its words stand.
use Rattle.std.specs.Prelude.{List, [], ◌∷◌, ℕ}

unfoldable pub order_plan : List ℕ
order_plan = 1074528768 ∷ 269484033 ∷ 2148271620 ∷ 2148270083 ∷ 1611925055 ∷ 1880361472 ∷ 538443777 ∷ 806882309 ∷ 537395206 ∷ 538706438 ∷ []

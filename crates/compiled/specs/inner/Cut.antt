-- A plan cut at its ANDs and ADDs: runs of linear words, and the words between them.
-- Nothing here has to be believed: the contracts of the public calls do not cite it.
use Rattle.std.specs.Prelude.{◌≡◌, Bool, true, cond, ◌&&◌, List, [], ◌∷◌, ◌++◌, ℕ, eqb, T, length}
use Rattle.word.specs.Encoding.{kind_of, plan_step, is_good}

-- CONST, XOR, NOT, SHL, SHR, SPREAD
abbrev pub linear_kind : ℕ → Bool
linear_kind k = cond (eqb k 1) true (cond (eqb k 2) true (cond (eqb k 4) true (cond (eqb k 5) true (cond (eqb k 6) true (eqb k 7)))))

abbrev pub all_linear : List ℕ → Bool
all_linear [] = true
all_linear (w ∷ ws) = (is_good (plan_step w) && linear_kind (kind_of w)) && all_linear ws

abbrev pub all_runs : List (List ℕ) → Bool
all_runs [] = true
all_runs (r ∷ rs) = all_linear r && all_runs rs

-- the words between are good, and of the kinds that `p` takes
abbrev pub all_good : (ℕ → Bool) → List ℕ → Bool
all_good p [] = true
all_good p (g ∷ gs) = (is_good (plan_step g) && p (kind_of g)) && all_good p gs

-- a word behind each run but the last
abbrev pub glue : List (List ℕ) → List ℕ → List ℕ → List ℕ
glue [] last gs = last
glue (r ∷ rs) last [] = last
glue (r ∷ rs) last (g ∷ gs) = r ++ (g ∷ glue rs last gs)

pub record Cut (p : ℕ → Bool) (rs : List (List ℕ)) (last gs plan : List ℕ) : Type 0 where
  pub whole : glue rs last gs ≡ plan
  pub runs : T (all_runs rs)
  pub final : T (all_linear last)
  pub gates : T (all_good p gs)
  pub same : length rs ≡ length gs

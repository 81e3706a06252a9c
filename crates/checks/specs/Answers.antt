-- Checking and answers, from document 01's sections "Step words" and "Calls and their turn-downs".
use Rattle.std.specs.Prelude.{Bool, true, false, List, [], ◌∷◌, ◌≡◌, ℕ, suc, ◌≤◌, ◌<◌, eqb, ltb, length, get_or, Option, Some, None, Result, Ok, Err, ⊤}
use Rattle.word.specs.declared.step.Step.{Step}
use Rattle.word.specs.Encoding.{plan_step, program_step, is_good}
use Rattle.word.specs.Layout.{plan_max, program_max}
use Rattle.checks.specs.declared.answer.Answer.{Answer}
use Rattle.checks.specs.declared.refusal.Refusal.{Refusal}
use Rattle.checks.specs.declared.refusal.Refusal.TheVariants.{ShareCount, TooLong, BadWord, Length, Place, Tape, Layer, Head}
use Rattle.checks.specs.declared.refusal.Counts.{Counts}

-- "checking finds the first bad word and leaves the search there": its place from 0, or the list's length where no word is bad
abbrev pub first_of : Option Step → ℕ → ℕ
first_of (Some s) rest = suc rest
first_of None rest = 0

abbrev pub first_bad : (ℕ → Option Step) → List ℕ → ℕ
first_bad step [] = 0
first_bad step (w ∷ ws) = first_of (step w) (first_bad step ws)

-- what is proved of it: every word before the place is good, and the word at the place is bad unless the place is the end
pub record FirstBad (step : ℕ → Option Step) (l : List ℕ) (place : ℕ) : Type 0 where
  pub within : place ≤ length l
  pub good : (k : ℕ) → k < place → (s : Step) × (step (get_or l k 0) ≡ Some s)
  pub bad : place < length l → step (get_or l place 0) ≡ None

abbrev pub FirstBadFound : Type 0
FirstBadFound = (step : ℕ → Option Step) (l : List ℕ) → FirstBad step l (first_bad step l)

-- whether what a reader finds is a good word: neither the plan's end nor a bad word
abbrev pub good_read : (ℕ → Option Step) → Option ℕ → Bool
good_read step (Some w) = is_good (step w)
good_read step None = false

-- "Every answer has the number (0 for done), a place (first bad word from 0 for number 3, else 0) and counts, zero when turned down."
abbrev pub done : ℕ → ℕ → Answer
done words tape = record { number = 0; place = 0; words = words; tape = tape }

abbrev pub refused : ℕ → Answer
refused number = record { number = number; place = 0; words = 0; tape = 0 }

abbrev pub bad_at : ℕ → Answer
bad_at place = record { number = 3; place = place; words = 0; tape = 0 }

-- the numbers of the table "Calls and their turn-downs", and document 02's 7 and 8: what a call's result is as an answer
abbrev pub refusal_of : Refusal → Answer
refusal_of ShareCount = refused 1
refusal_of TooLong = refused 2
refusal_of (BadWord place) = bad_at place
refusal_of Length = refused 4
refusal_of Place = refused 5
refusal_of Tape = refused 6
refusal_of Layer = refused 7
refusal_of Head = refused 8

abbrev pub answer_of : Result Counts Refusal → Answer
answer_of (Ok counts) = done counts.words counts.tape
answer_of (Err e) = refusal_of e

-- the answer of a call that a check stands before: the check's refusal, else what comes next
abbrev pub after_check : Result ⊤ Refusal → Answer → Answer
after_check (Ok u) next = next
after_check (Err e) next = refusal_of e

-- turn-downs are "Checked in number order, each given only under its condition": the answer where the condition holds, else the next
abbrev pub given : Bool → Answer → Answer → Answer
given true answer next = answer
given false answer next = next

-- 2 "plan or share program too long" and 3 "a bad word", else what comes next: `most` words at most, taken apart by `step`
abbrev pub checked : ℕ → (ℕ → Option Step) → List ℕ → Answer → Answer
checked most step words next =
    given (ltb most (length words)) (refused 2)
    (given (ltb (first_bad step words) (length words)) (bad_at (first_bad step words)) next)

-- the check of a plan, and that of a share program without its head: every call that takes one goes by it (for a program with its head see
-- checks_run)
unfoldable pub plan_checked : List ℕ → Answer → Answer
plan_checked plan next = checked plan_max plan_step plan next

unfoldable pub program_checked : List ℕ → Answer → Answer
program_checked program next = checked program_max program_step program next

-- what a lent slice holds after a call: as it was unless the call is done
abbrev pub kept_unless : Bool → List ℕ → List ℕ → List ℕ
kept_unless true after before = after
kept_unless false after before = before

abbrev pub after_call : Answer → List ℕ → List ℕ → List ℕ
after_call answer after before = kept_unless (eqb answer.number 0) after before

-- What an answer that is done says of a turn-down before it: it was not given. Assumes nothing.
use mathlib.Core.Path.{◌≡◌, refl}
use mathlib.Core.Bool.{Bool, true, false}
use Rattle.checks.specs.declared.answer.Answer.{Answer}
use Rattle.checks.specs.Answers.{given}

pub passed : (b : Bool) (x next : Answer) → (x.number ≡ 0 → ⊥) → (given b x next).number ≡ 0 → (b ≡ false) × (next.number ≡ 0)
passed true x next f e = absurd (f e)
passed false x next f e = (refl, e)

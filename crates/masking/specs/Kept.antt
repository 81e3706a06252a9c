-- Shares kept by a whole program behind its head: starts that agree in a share end in agreement in that share, over paired tapes. For document 02, No. 5:
-- calls in a row need that each hands on to the next one the agreement that it started from.
use Rattle.std.specs.Prelude.{List, ℕ, ◌<◌}
use Rattle.masking.specs.Translation.{program}
use Rattle.masking.specs.Foretold.{Accepted, foretold_tape}
use Rattle.masking.specs.Machine.{exec, Start}
use Rattle.masking.specs.Secrecy.{Agree, Tape, Pairing}

-- paired runs over all words behind the head end in agreement in share i
pub record EndsAgree (n : ℕ) (plan : List ℕ) (i : ℕ) (l l' : List ℕ) : Type 0 where
  pub pairing : Pairing (foretold_tape n plan)
  pub agree : (tape : List ℕ) → Tape (foretold_tape n plan) tape → Agree i (exec (program n plan) tape l) (exec (program n plan) (pairing.there tape) l')

-- starts that agree in a share: so do the ends of paired runs, in that share
abbrev pub KeepsAgreement : ℕ → List ℕ → Type 0
KeepsAgreement n plan = (i : ℕ) → i < n → (l l' : List ℕ) → Start l → Start l' → Agree i l l' → EndsAgree n plan i l l'

-- of every plan
abbrev pub SharesKept : Type 0
SharesKept = (n : ℕ) (plan : List ℕ) → Accepted n plan → KeepsAgreement n plan

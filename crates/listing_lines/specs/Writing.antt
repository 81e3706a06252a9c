-- How texts are written into lent slices.
use Rattle.std.specs.Prelude.{◌≡◌, List, [], ◌++◌, ℕ, ◌+◌, leb, length, drop}
use Rattle.std.proofs.lemmas.List.Edits.{sets}
use Rattle.checks.specs.Answers.{kept_unless}

-- a text is written whole, or not at all where it does not fit
abbrev pub fitting : List ℕ → ℕ → List ℕ
fitting text room = kept_unless (leb (length text) room) text []

-- what is written stands at the front of the slice, unchanged past that, and its length is given
pub record Wrote (text out after : List ℕ) (count : ℕ) : Type 0 where
  pub given : count ≡ length (fitting text (length out))
  pub front : after ≡ fitting text (length out) ++ drop (length (fitting text (length out))) out

-- inside a line: a text stands from place `at` on, and the next place is behind it
pub record Appends (text out : List ℕ) (at : ℕ) (after : List ℕ) (next : ℕ) : Type 0 where
  pub written : after ≡ sets out at text
  pub ends : next ≡ at + length text

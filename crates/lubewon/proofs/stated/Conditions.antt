-- The conditions that claims stand under, both ways: each is made of the parts written out, so that one which asks for more fails here, and gives
-- them, so that one which says less where a claim concludes it fails too.
use mathlib.Core.Path.{◌≡◌}
use mathlib.Core.List.{List}
use Prim.Native.Nat.{ℕ, ◌+◌, ◌*◌, ◌^◌, ◌≤◌, ◌<◌}
use lib.ListN.{length, get_or}
use Rattle.word.specs.Encoding.{plan_step}
use Rattle.checks.specs.Answers.{first_bad}
use Rattle.masking.specs.Foretold.{Accepted}
use Rattle.masking.specs.Machine.{Start}
use Rattle.masking.specs.Secrecy.{Tape}
use Rattle.operations.specs.Masked.{Operand}

-- all are 64-bit words
abbrev pub AllWords : List ℕ → Type 0
AllWords l = (k : ℕ) → get_or l k 0 < 2 ^ 64

-- cells that agree in share i of every register
abbrev pub SameShare : ℕ → List ℕ → List ℕ → Type 0
SameShare i l l' = (r : ℕ) → r < 32 → get_or l (32 * i + r) 0 ≡ get_or l' (32 * i + r) 0

accepted : {n : ℕ} {plan : List ℕ} → 2 ≤ n → n ≤ 8 → length plan ≤ 2048 → first_bad plan_step plan ≡ length plan → Accepted n plan
accepted l m s g = record { least = l; most = m; short = s; good = g }

module _ {n : ℕ} {plan : List ℕ} (h : Accepted n plan) where
  accepted_least : 2 ≤ n
  accepted_least = h.least

  accepted_most : n ≤ 8
  accepted_most = h.most

  accepted_short : length plan ≤ 2048
  accepted_short = h.short

  accepted_good : first_bad plan_step plan ≡ length plan
  accepted_good = h.good

start : {cells : List ℕ} → length cells ≡ 512 → AllWords cells → Start cells
start s w = record { size = s; words = w }

module _ {cells : List ℕ} (h : Start cells) where
  start_size : length cells ≡ 512
  start_size = h.size

  start_words : AllWords cells
  start_words = h.words

tape : {L : ℕ} {l : List ℕ} → length l ≡ L → AllWords l → Tape L l
tape s w = record { size = s; words = w }

module _ {L : ℕ} {l : List ℕ} (h : Tape L l) where
  tape_size : length l ≡ L
  tape_size = h.size

  tape_words : AllWords l
  tape_words = h.words

operand : {n : ℕ} {x : List ℕ} → length x ≡ n → AllWords x → Operand n x
operand s w = record { size = s; words = w }

module _ {n : ℕ} {x : List ℕ} (h : Operand n x) where
  operand_size : length x ≡ n
  operand_size = h.size

  operand_words : AllWords x
  operand_words = h.words

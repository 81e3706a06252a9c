-- Step words, from document 01's section "Step words": the fields of a 32-bit word, the step that they name, and which words are bad.
use Rattle.std.specs.Prelude.{Bool, true, false, not, ◌&&◌, ℕ, ◌+◌, ◌*◌, ◌/◌, ◌%◌, ◌^◌, ltb, eqb, Option, Some, None}
use Rattle.word.specs.declared.step.Step.{Step}
use Rattle.word.specs.declared.step.Step.TheVariants.{Const, Xor, And, Not, Shl, Shr, Spread, Add, Rand}
use Rattle.word.specs.Table.{naming}

-- "bits 31..28 kind, bit 27 zero, bits 26..18 d, 17..9 a, 8..0 b"
abbrev pub kind_of : ℕ → ℕ
kind_of w = w / 2 ^ 28

abbrev pub bit27 : ℕ → ℕ
bit27 w = w / 2 ^ 27 % 2

abbrev pub field_d : ℕ → ℕ
field_d w = w / 2 ^ 18 % 512

abbrev pub field_a : ℕ → ℕ
field_a w = w / 2 ^ 9 % 512

abbrev pub field_b : ℕ → ℕ
field_b w = w % 512

abbrev pub either : Bool → Option Step → Option Step → Option Step
either true s r = s
either false s r = r

-- the table's rows: the step that kind k with fields d, a and b names ("k = 512·a + b, a number here"; "b = 0"; "a = b = 0"). Whether
-- its cells and its shift number are in range is `within`'s to say.
unfoldable pub row : ℕ → ℕ → ℕ → ℕ → Option Step
row k d a b =
    either (eqb k 1) (Some (Const d (512 * a + b)))
    (either (eqb k 2) (Some (Xor d a b))
    (either (eqb k 3) (Some (And d a b))
    (either (eqb k 4) (either (eqb b 0) (Some (Not d a)) None)
    (either (eqb k 5) (Some (Shl d a b))
    (either (eqb k 6) (Some (Shr d a b))
    (either (eqb k 7) (either (eqb b 0) (Some (Spread d a)) None)
    (either (eqb k 8) (Some (Add d a b))
    (either (eqb k 9) (either (eqb a 0) (either (eqb b 0) (Some (Rand d)) None) None)
    None))))))))

-- a step's shift is "a number 0..63", its constant has 18 bits
abbrev pub number_fits : Step → Bool
number_fits (Const d k) = ltb k (2 ^ 18)
number_fits (Xor d a b) = true
number_fits (And d a b) = true
number_fits (Not d a) = true
number_fits (Shl d a b) = ltb b 64
number_fits (Shr d a b) = ltb b 64
number_fits (Spread d a) = true
number_fits (Add d a b) = true
number_fits (Rand d) = true

-- all cells of a step are below c, and its number fits
abbrev pub within : ℕ → Step → Bool
within c s = naming (λ x. ltb x c) s && number_fits s

-- the numbers of the table's rows
abbrev pub kind_number : Step → ℕ
kind_number (Const d k) = 1
kind_number (Xor d a b) = 2
kind_number (And d a b) = 3
kind_number (Not d a) = 4
kind_number (Shl d a b) = 5
kind_number (Shr d a b) = 6
kind_number (Spread d a) = 7
kind_number (Add d a b) = 8
kind_number (Rand d) = 9

-- "A plan has .. words of kinds 1..8, cells 0..31, called registers."
abbrev pub in_plan : Step → Bool
in_plan s = not (eqb (kind_number s) 9) && within 32 s

-- "A share program has .. words of kinds 1..7 and 9, cells 0..511.": those behind its head (document 02, No. 7; see Head)
abbrev pub in_program : Step → Bool
in_program s = not (eqb (kind_number s) 8) && within 512 s

-- "A word outside these rules is bad. Taking a word apart gives either its kind with its fields or the finding that it is bad"
abbrev pub held : (Step → Bool) → Option Step → Option Step
held rule (Some s) = either (rule s) (Some s) None
held rule None = None

-- the step that a word names, by its fields; "bit 27 zero"
unfoldable pub named : ℕ → Option Step
named w = either (eqb (bit27 w) 0) (row (kind_of w) (field_d w) (field_a w) (field_b w)) None

-- a word taken apart by a rule, by that of plans, and by that of a share program's words behind its head
abbrev pub taken : (Step → Bool) → ℕ → Option Step
taken rule w = held rule (named w)

abbrev pub plan_step : ℕ → Option Step
plan_step w = taken in_plan w

abbrev pub program_step : ℕ → Option Step
program_step w = taken in_program w

-- whether a word taken apart was good
abbrev pub is_good : Option Step → Bool
is_good (Some s) = true
is_good None = false

-- putting together: the kind keeps four bits and a field nine
unfoldable pub put : ℕ → ℕ → ℕ → ℕ → ℕ
put k d a b = k % 16 * 2 ^ 28 + d % 512 * 2 ^ 18 + a % 512 * 2 ^ 9 + b % 512

-- the word of a step
abbrev pub word_of : Step → ℕ
word_of (Const d k) = put 1 d (k / 512) k
word_of (Xor d a b) = put 2 d a b
word_of (And d a b) = put 3 d a b
word_of (Not d a) = put 4 d a 0
word_of (Shl d a b) = put 5 d a b
word_of (Shr d a b) = put 6 d a b
word_of (Spread d a) = put 7 d a 0
word_of (Add d a b) = put 8 d a b
word_of (Rand d) = put 9 d 0 0

-- Calculations made of our calls. Document 02, No. 5: "The shares are those of our calls on shares, one after another on the tape". "Slot" and
-- "act" are coined here: numbers stand in slots, and an act puts one number into a slot. The same list of acts is done on plain words and on
-- shares.
use Rattle.std.specs.Prelude.{cond, List, [], ◌∷◌, ℕ, ◌+◌, ◌-◌, ◌^◌, eqb, drop, replicate}
use Rattle.bits.specs.Ops.{xor_w}
use Rattle.binary64.specs.Operations.{Operation, on_words}
use Rattle.masking.specs.Foretold.{foretold_tape}
use Rattle.plans.specs.BuiltIns.{plan_of}
use Rattle.masked_call.specs.Shares.{result_shares}

pub data Act : Type 0 where
  -- Put slot word: a plain word into a slot
  Put : ℕ → ℕ → Act
  -- Flip slot: the sign bit of a slot's number flipped
  Flip : ℕ → Act
  -- Load slot number: into a slot, a number of the lent ones
  Load : ℕ → ℕ → Act
  -- Store number slot: in place of a number of the lent ones, a slot's
  Store : ℕ → ℕ → Act
  -- Call operation result first second: a call, the slot of its result, and those of its operands, the first for register 0
  Call : Operation → ℕ → ℕ → ℕ → Act

-- the numbers held in slots, and those that were lent
pub record Slots (A : Type 0) : Type 0 where
  pub held : ℕ → A
  pub lent : ℕ → A

-- a number put in place of one among numbers
abbrev pub with : {A : Type 0} → (ℕ → A) → ℕ → A → ℕ → A
with f k v m = cond (eqb m k) v (f m)

abbrev pub holding : {A : Type 0} → Slots A → ℕ → A → Slots A
holding s k v = record { held = with s.held k v; lent = s.lent }

abbrev pub lending : {A : Type 0} → Slots A → ℕ → A → Slots A
lending s j v = record { held = s.held; lent = with s.lent j v }

-- ---- on plain words

-- "sign bit flipped"
abbrev pub flipped : ℕ → ℕ
flipped w = xor_w w (2 ^ 63)

abbrev pub on_plain : Act → Slots ℕ → Slots ℕ
on_plain (Put k w) s = holding s k w
on_plain (Flip k) s = holding s k (flipped (s.held k))
on_plain (Load k j) s = holding s k (s.lent j)
on_plain (Store j k) s = lending s j (s.held k)
on_plain (Call o k a b) s = holding s k (on_words o (s.held a) (s.held b))

abbrev pub run_plain : List Act → Slots ℕ → Slots ℕ
run_plain [] s = s
run_plain (c ∷ cs) s = run_plain cs (on_plain c s)

-- ---- on n shares

-- "A plain factor goes in as share 0 with zeros beside it."
abbrev pub plain_shares : ℕ → ℕ → List ℕ
plain_shares n w = w ∷ replicate (n - 1) 0

-- "flipped in share 0"
abbrev pub flipped_first : List ℕ → List ℕ
flipped_first [] = []
flipped_first (x ∷ xs) = flipped x ∷ xs

-- a call gives the result shares of its operation over the tape from here on; the other acts take no tape words
abbrev pub on_shares : ℕ → Act → List ℕ → Slots (List ℕ) → Slots (List ℕ)
on_shares n (Put k w) tape s = holding s k (plain_shares n w)
on_shares n (Flip k) tape s = holding s k (flipped_first (s.held k))
on_shares n (Load k j) tape s = holding s k (s.lent j)
on_shares n (Store j k) tape s = lending s j (s.held k)
on_shares n (Call o k a b) tape s = holding s k (result_shares (plan_of o) n (s.held a) (s.held b) tape)

-- tape words of an act: of a call, what its plan foretells
abbrev pub act_tape : ℕ → Act → ℕ
act_tape n (Put k w) = 0
act_tape n (Flip k) = 0
act_tape n (Load k j) = 0
act_tape n (Store j k) = 0
act_tape n (Call o k a b) = foretold_tape n (plan_of o)

abbrev pub tape_for : ℕ → List Act → ℕ
tape_for n [] = 0
tape_for n (c ∷ cs) = act_tape n c + tape_for n cs

-- one after another on the tape
abbrev pub run_shares : ℕ → List Act → List ℕ → Slots (List ℕ) → Slots (List ℕ)
run_shares n [] tape s = s
run_shares n (c ∷ cs) tape s = run_shares n cs (drop (act_tape n c) tape) (on_shares n c tape s)

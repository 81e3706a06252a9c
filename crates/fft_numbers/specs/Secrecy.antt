-- Secrecy of lists of acts on shares: for any step of an operation there is a share number such that, wherever in a list of acts a call of that
-- operation stands, for any two inputs that agree in that share of every number, tapes for the whole list pair off, and paired calculations write
-- equal words at that step of that call. Each call is a share run that demand 3 is about, from its operands placed, over its part of the tape; the
-- calls before it run over the tape's words before that part. The code places a call's operands over what the call before left: the words of its
-- steps are the same (`AnyStart`, operations/specs/Masked).
use Rattle.std.specs.Prelude.{◌≡◌, List, [], ◌∷◌, ◌++◌, ℕ, suc, ◌^◌, ◌≤◌, ◌<◌, length, get_or, take, drop}
use Rattle.masking.specs.Translation.{program}
use Rattle.masking.specs.Foretold.{foretold_tape}
use Rattle.masking.specs.Runs.{Run, told}
use Rattle.masking.specs.Secrecy.{Tape, Pairing, done_after, word_after}
use Rattle.binary64.specs.Operations.{Operation}
use Rattle.plans.specs.BuiltIns.{plan_of}
use Rattle.masked_call.specs.Shares.{placed}
use Rattle.operations.specs.Masked.{Operand}
use Rattle.fft_numbers.specs.Acts.{Act, Put, Flip, Load, Store, Call, Slots, tape_for, run_shares}

-- every number has n shares
pub record Shared (n : ℕ) (s : Slots (List ℕ)) : Type 0 where
  pub held : (k : ℕ) → Operand n (s.held k)
  pub lent : (j : ℕ) → Operand n (s.lent j)

-- in share i every number is the same in both
pub record AgreeIn (i : ℕ) (s s' : Slots (List ℕ)) : Type 0 where
  pub held : (k : ℕ) → get_or (s.held k) i 0 ≡ get_or (s'.held k) i 0
  pub lent : (j : ℕ) → get_or (s.lent j) i 0 ≡ get_or (s'.lent j) i 0

-- the plain words that acts put into slots are 64-bit words
abbrev pub PutsWords : List Act → Type 0
PutsWords [] = Unit
PutsWords (Put k w ∷ cs) = (w < 2 ^ 64) × PutsWords cs
PutsWords (Flip k ∷ cs) = PutsWords cs
PutsWords (Load k j ∷ cs) = PutsWords cs
PutsWords (Store j k ∷ cs) = PutsWords cs
PutsWords (Call o k a b ∷ cs) = PutsWords cs

-- A call of operation o on slots a and b that follows the acts `before`: the cells from which its share run starts, the tape words before its
-- part, and its part.
module _ (n : ℕ) (before : List Act) (o : Operation) (a b : ℕ) (s : Slots (List ℕ)) (tape : List ℕ) where
  abbrev pub start_of : List ℕ
  start_of = let t = run_shares n before tape s in placed (t.held a) (t.held b)

  abbrev pub words_before : List ℕ
  words_before = take (tape_for n before) tape

  abbrev pub part_of : List ℕ
  part_of = take (foretold_tape n (plan_of o)) (drop (tape_for n before) tape)

  -- the words done by share runs of the call, its program's head included, and what the cell of its step holds then
  abbrev pub done_in : List Run → ℕ
  done_in runs = done_after n (plan_of o) start_of words_before part_of runs

  abbrev pub word_in : ℕ → List Run → ℕ
  word_in step runs = word_after n (plan_of o) step start_of words_before part_of runs

-- paired calculations write equal words at the call's step; a share run of the call, told n, with a budget for the head and suc step words reaches it
-- in both
pub record CallHidden (n : ℕ) (acts before : List Act) (o : Operation) (a b step : ℕ) (s s' : Slots (List ℕ)) : Type 0 where
  pub pairing : Pairing (tape_for n acts)
  pub reached : (tape : List ℕ) → Tape (tape_for n acts) tape
      → (done_in n before o a b s tape (told n (suc (suc step)) ∷ []) ≡ suc (suc step))
      × (done_in n before o a b s' (pairing.there tape) (told n (suc (suc step)) ∷ []) ≡ suc (suc step))
  pub equal : (tape : List ℕ) → Tape (tape_for n acts) tape → (runs runs' : List Run)
      → done_in n before o a b s tape runs ≡ suc (suc step)
      → done_in n before o a b s' (pairing.there tape) runs' ≡ suc (suc step)
      → word_in n before o a b s tape step runs ≡ word_in n before o a b s' (pairing.there tape) step runs'

-- one share number for a step of an operation, wherever in a list of acts its call stands
pub record StepOfCalls (n : ℕ) (o : Operation) (step : ℕ) : Type 0 where
  pub share : ℕ
  pub below : share < n
  pub hidden : (before : List Act) (k a b : ℕ) (after : List Act) → PutsWords (before ++ (Call o k a b ∷ after))
      → (s s' : Slots (List ℕ)) → Shared n s → Shared n s' → AgreeIn share s s' → CallHidden n (before ++ (Call o k a b ∷ after)) before o a b step s s'

abbrev pub ActsSecret : Type 0
ActsSecret = (n : ℕ) → 2 ≤ n → n ≤ 8 → (o : Operation) (step : ℕ) → step < length (program n (plan_of o)) → StepOfCalls n o step

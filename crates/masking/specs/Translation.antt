-- Document 01's section "Translation for n shares", in its order, with document 02's No. 4: AND wipes its scratch cells, and No. 7: the head. "Steps below stand
-- in emission order, shares rising from 0, pairs i < j by i and then j."
use Rattle.std.specs.Prelude.{cond, List, [], ◌∷◌, ◌++◌, map, ℕ, zero, suc, ◌-◌, ltb, Option, Some, None}
use Rattle.word.specs.declared.step.Step.{Step}
use Rattle.word.specs.declared.step.Step.TheVariants.{Const, Xor, And, Not, Shl, Shr, Spread, Add, Rand}
use Rattle.word.specs.Encoding.{plan_step, word_of}
use Rattle.word.specs.Head.{head_word}
use Rattle.word.specs.Layout.{cell, cell_y, cell_z, cell_t, cell_u, helper}

-- c numbers from s on
abbrev pub up_from : ℕ → ℕ → List ℕ
up_from s zero = []
up_from s (suc c) = s ∷ up_from (suc s) c

-- the shares, rising from 0
abbrev pub shares : ℕ → List ℕ
shares n = up_from 0 n

pub record Pair : Type 0 where
  pub lo : ℕ
  pub hi : ℕ

-- pairs i < j, by i and then j
abbrev pub pairs_of : ℕ → List ℕ → List Pair
pairs_of i [] = []
pairs_of i (j ∷ js) = record { lo = i; hi = j } ∷ pairs_of i js

abbrev pub pairs : List ℕ → List Pair
pairs [] = []
pairs (i ∷ is) = pairs_of i is ++ pairs is

-- "Share i of register r is cell 32i + r." ADD's helper h of 0..3 is register 32 + h here, so that its share i is cell 288 + 8i + h.
unfoldable pub share_cell : ℕ → ℕ → ℕ
share_cell i r = cond (ltb r 32) (cell i r) (helper i (r - 32))

-- where a register's shares lie: the cell of each share number
abbrev pub cells_of : ℕ → ℕ → ℕ
cells_of r i = share_cell i r

-- a step of share 0, and one of the others
abbrev pub first_other : ℕ → Step → Step → Step
first_other zero s o = s
first_other (suc i) s o = o

-- the scratch cells of AND
pub record Scratch : Type 0 where
  pub y : ℕ → ℕ
  pub z : ℕ → ℕ
  pub t : ℕ
  pub u : ℕ

-- "y (cells 256 + i)", "z_i (cell 264 + i)", "t (cell 272)", "u (cell 273)"
abbrev pub scratch : Scratch
scratch = record { y = cell_y; z = cell_z; t = cell_t; u = cell_u }

-- AND's scratch cells for n shares, as document 02, No. 4, lists them: "y_0.., z_0.., t and u, in that order"
abbrev pub scratch_cells : Scratch → ℕ → List ℕ
scratch_cells c n = map c.y (shares n) ++ (map c.z (shares n) ++ (c.t ∷ c.u ∷ []))

-- "CONST 0 into" each cell of a list
abbrev pub wiping : List ℕ → List Step
wiping ks = map (λ k. Const k 0) ks

-- "For each pair: RAND t (cell 272); y_i XOR t; y_j XOR t."
abbrev pub refresh : Scratch → List Pair → List Step
refresh c [] = []
refresh c (p ∷ ps) = Rand c.t ∷ Xor (c.y p.lo) (c.y p.lo) c.t ∷ Xor (c.y p.hi) (c.y p.hi) c.t ∷ refresh c ps

-- "for each pair: RAND t; z_i XOR t; u (cell 273) = a_i AND y_j; t XOR u; u = a_j AND y_i; t XOR u; z_j XOR t"
abbrev pub products : Scratch → (ℕ → ℕ) → List Pair → List Step
products c a [] = []
products c a (p ∷ ps) =
    Rand c.t
    ∷ Xor (c.z p.lo) (c.z p.lo) c.t
    ∷ And c.u (a p.lo) (c.y p.hi)
    ∷ Xor c.t c.t c.u
    ∷ And c.u (a p.hi) (c.y p.lo)
    ∷ Xor c.t c.t c.u
    ∷ Xor (c.z p.hi) (c.z p.hi) c.t
    ∷ products c a ps

-- "AND .. : copy b's shares to y .. Last, copy z to d." ("a copy is SHL 0") Over the cells of the shares of d, a and b, and over any choice
-- of scratch cells.
unfoldable pub and_steps : Scratch → ℕ → (ℕ → ℕ) → (ℕ → ℕ) → (ℕ → ℕ) → List Step
and_steps c n d a b =
    map (λ i. Shl (c.y i) (b i) 0) (shares n)
    ++ (refresh c (pairs (shares n))
    ++ (map (λ i. And (c.z i) (a i) (c.y i)) (shares n)
    ++ (products c a (pairs (shares n))
    ++ map (λ i. Shl (d i) (c.z i) 0) (shares n))))

-- "The translation of AND ends with CONST 0 into" its scratch cells.
unfoldable pub and_block : Scratch → ℕ → (ℕ → ℕ) → (ℕ → ℕ) → (ℕ → ℕ) → List Step
and_block c n d a b = and_steps c n d a b ++ wiping (scratch_cells c n)

-- share i's step of a step on registers. "CONST: share 0 gets k, the others 0. NOT: share 0 inverted, the others copied by SHL 0. XOR, SHL,
-- SHR, SPREAD: once per share." AND and ADD have blocks of their own and RAND is no step of plans: what stands there is not used.
abbrev pub share_step : Step → ℕ → Step
share_step (Const d k) i = first_other i (Const (share_cell i d) k) (Const (share_cell i d) 0)
share_step (Xor d a b) i = Xor (share_cell i d) (share_cell i a) (share_cell i b)
share_step (And d a b) i = And d a b
share_step (Not d a) i = first_other i (Not (share_cell i d) (share_cell i a)) (Shl (share_cell i d) (share_cell i a) 0)
share_step (Shl d a b) i = Shl (share_cell i d) (share_cell i a) b
share_step (Shr d a b) i = Shr (share_cell i d) (share_cell i a) b
share_step (Spread d a) i = Spread (share_cell i d) (share_cell i a)
share_step (Add d a b) i = Add d a b
share_step (Rand d) i = Rand d

-- the share steps of a step on registers; ADD is laid out by `adding` first
abbrev pub block : Scratch → ℕ → Step → List Step
block c n (Const d k) = map (share_step (Const d k)) (shares n)
block c n (Xor d a b) = map (share_step (Xor d a b)) (shares n)
block c n (And d a b) = and_block c n (cells_of d) (cells_of a) (cells_of b)
block c n (Not d a) = map (share_step (Not d a)) (shares n)
block c n (Shl d a b) = map (share_step (Shl d a b)) (shares n)
block c n (Shr d a b) = map (share_step (Shr d a b)) (shares n)
block c n (Spread d a) = map (share_step (Spread d a)) (shares n)
block c n (Add d a b) = []
block c n (Rand d) = []

-- "helper registers H, G, P, T"
abbrev pub r_h : ℕ
r_h = 32

abbrev pub r_g : ℕ
r_g = 33

abbrev pub r_p : ℕ
r_p = 34

abbrev pub r_t : ℕ
r_t = 35

-- "T = G SHL k; T = P AND T; G = G XOR T"
abbrev pub generated : ℕ → List Step
generated k = Shl r_t r_g k ∷ And r_t r_p r_t ∷ Xor r_g r_g r_t ∷ []

-- "T = P SHL k; P = P AND T"
abbrev pub passed : ℕ → List Step
passed k = Shl r_t r_p k ∷ And r_p r_p r_t ∷ []

-- "For k = 1, 2, 4, 8, 16, 32: .. and, except after 32, .."
abbrev pub round : ℕ → List Step
round k = generated k ++ passed k

abbrev pub rounds : List Step
rounds = round 1 ++ (round 2 ++ (round 4 ++ (round 8 ++ (round 16 ++ generated 32))))

-- "ADD: .. H = a XOR b; G = a AND b; P = H by SHL 0.", the rounds, "Then T = G SHL 1; d = H XOR T."
unfoldable pub adding : ℕ → ℕ → ℕ → List Step
adding d a b = (Xor r_h a b ∷ And r_g a b ∷ Shl r_p r_h 0 ∷ []) ++ (rounds ++ (Shl r_t r_g 1 ∷ Xor d r_h r_t ∷ []))

-- a plan's step as steps on registers
abbrev pub laid_out : Step → List Step
laid_out (Const d k) = Const d k ∷ []
laid_out (Xor d a b) = Xor d a b ∷ []
laid_out (And d a b) = And d a b ∷ []
laid_out (Not d a) = Not d a ∷ []
laid_out (Shl d a b) = Shl d a b ∷ []
laid_out (Shr d a b) = Shr d a b ∷ []
laid_out (Spread d a) = Spread d a ∷ []
laid_out (Add d a b) = adding d a b
laid_out (Rand d) = []

-- one step on registers after another
abbrev pub blocks : Scratch → ℕ → List Step → List Step
blocks c n [] = []
blocks c n (s ∷ ss) = block c n s ++ blocks c n ss

-- the share steps of a plan's step
unfoldable pub translated : ℕ → Step → List Step
translated n s = blocks scratch n (laid_out s)

-- the share words of a plan word; Translate takes no plan with a bad one
abbrev pub words_for : ℕ → Option Step → List ℕ
words_for n (Some s) = map word_of (translated n s)
words_for n None = []

-- the share words of a plan: "Each plan word's translation .. begins where the last one ended."
abbrev pub program : ℕ → List ℕ → List ℕ
program n [] = []
program n (w ∷ ws) = words_for n (plan_step w) ++ program n ws

-- document 02, No. 7: "Every share program now begins with a head word". What Translate writes; `program` is what follows the head.
abbrev pub headed : ℕ → List ℕ → List ℕ
headed n plan = head_word n ∷ program n plan

-- What the contracts of inner functions say, and words for their proofs: a plan word's share steps done straight on the cells.
-- Nothing here has to be believed: the contracts of the public calls do not cite it.
use Rattle.std.specs.Prelude.{◌≡◌, List, [], ◌∷◌, ◌++◌, map, ℕ, zero, suc, ◌+◌, ◌-◌, ◌*◌, ◌≤◌, ◌<◌, length, get_or, set, drop}
use Rattle.bits.specs.Ops.{xor_w, and_w, shl_w}
use Rattle.word.specs.declared.step.Step.{Step}
use Rattle.word.specs.declared.step.Step.TheVariants.{Xor, And, Shl}
use Rattle.masking.specs.Machine.{exec_steps, rands_of}
use Rattle.masking.specs.Translation.{pairs, products, refresh, scratch, scratch_cells, shares, wiping}
use Rattle.and_parts.specs.declared.once.Place.{Place}
use Rattle.and_parts.specs.declared.once.Op.{Op}
use Rattle.and_parts.specs.declared.once.Op.TheVariants as op

-- the tape has the words that steps take from place t on
abbrev pub Enough : List ℕ → ℕ → List Step → Type 0
Enough tape t ss = t + rands_of ss ≤ length tape

-- steps done from place t of the tape on: the cells afterwards and the next place
pub record Ran (ss : List Step) (tape : List ℕ) (t : ℕ) (before after : List ℕ) (next : ℕ) : Type 0 where
  pub cells : after ≡ exec_steps ss (drop t tape) before
  pub place : next ≡ t + rands_of ss

-- steps that take no tape word, done
abbrev pub Still : List Step → List ℕ → List ℕ → Type 0
Still ss before after = (tape : List ℕ) → after ≡ exec_steps ss tape before

-- ---- once per share

-- share i of a place
abbrev pub at : Place → ℕ → ℕ
at p i = p.base + i * p.stride

-- all eight shares are cells
abbrev pub InCells : Place → Type 0
InCells p = p.base + 7 * p.stride < 512

-- a shift is by less than 64
abbrev pub Shifts : Op → Type 0
Shifts op.Xor = Unit {0}
Shifts (op.Shl k) = k < 64

abbrev pub value_of : Op → ℕ → ℕ → ℕ
value_of op.Xor x y = xor_w x y
value_of (op.Shl k) x y = shl_w x k

-- the step of share i, with the cells of d, a and b
abbrev pub once_step : Op → (ℕ → ℕ) → (ℕ → ℕ) → (ℕ → ℕ) → ℕ → Step
once_step op.Xor d a b i = Xor (d i) (a i) (b i)
once_step (op.Shl k) d a b i = Shl (d i) (a i) k

-- ---- pairs of shares

-- a place whose shares are different cells outside AND's scratch
pub record Register (p : Place) : Type 0 where
  pub inside : InCells p
  pub spread : 0 < p.stride
  pub away : (i c : ℕ) → i < 8 → 256 ≤ c → c < 288 → at p i ≡ c → ⊥

-- the cells after the refresh of one pair by the word r
abbrev pub refreshed : ℕ → ℕ → ℕ → List ℕ → List ℕ
refreshed i j r cells =
    set (set (set cells 272 r) (256 + i) (xor_w (get_or cells (256 + i) 0) r)) (256 + j) (xor_w (get_or cells (256 + j) 0) r)

-- the cells after the products u and v of one pair behind the word r
abbrev pub stored : ℕ → ℕ → ℕ → ℕ → ℕ → List ℕ → List ℕ
stored i j r u v cells =
    let x = xor_w (get_or cells (264 + i) 0) r in
    let s = xor_w r u in
    let w = xor_w s v in
    set (set (set (set (set (set (set cells 272 r) (264 + i) x) 273 u) 272 s) 273 v) 272 w) (264 + j) (xor_w (get_or cells (264 + j) 0) w)

abbrev pub crossed_pair : ℕ → ℕ → ℕ → ℕ → ℕ → List ℕ → List ℕ
crossed_pair p q i j r cells =
    stored i j r (and_w (get_or cells p 0) (get_or cells (256 + j) 0)) (and_w (get_or cells q 0) (get_or cells (256 + i) 0)) cells

-- ---- AND's parts, up to what its scratch cells t and u hold

-- a place by its numbers
abbrev pub placed : ℕ → ℕ → Place
placed b over = record { base = b; stride = over }

-- cells that are the same but for t and u
pub record Alike (c c' : List ℕ) : Type 0 where
  pub same : set (set c 272 0) 273 0 ≡ set (set c' 272 0) 273 0

-- steps done from place t of the tape on, whatever t and u held before and hold after: the code has in locals what the steps put into u, and some of what they
-- put into t
pub record Nearly (ss : List Step) (tape : List ℕ) (t : ℕ) (before after : List ℕ) (next : ℕ) : Type 0 where
  pub cells : (c : List ℕ) → Alike before c → Alike after (exec_steps ss (drop t tape) c)
  pub place : next ≡ t + rands_of ss

-- the same of steps that take no tape word
abbrev pub NearlyStill : List Step → List ℕ → List ℕ → Type 0
NearlyStill ss before after = (tape c : List ℕ) → Alike before c → Alike after (exec_steps ss tape c)

-- steps after which t and u no longer show what they held
pub record Wholly (ss : List Step) (tape : List ℕ) (t : ℕ) (before after : List ℕ) (next : ℕ) : Type 0 where
  pub cells : (c : List ℕ) → Alike before c → after ≡ exec_steps ss (drop t tape) c
  pub place : next ≡ t + rands_of ss

-- b's shares copied to y
abbrev pub copy_in : ℕ → (ℕ → ℕ) → List Step
copy_in n b = map (λ i. Shl (256 + i) (b i) 0) (shares n)

-- a's shares AND those of y, to z
abbrev pub diagonal : ℕ → (ℕ → ℕ) → List Step
diagonal n a = map (λ i. And (264 + i) (a i) (256 + i)) (shares n)

-- z copied to d's shares
abbrev pub copy_out : ℕ → (ℕ → ℕ) → List Step
copy_out n d = map (λ i. Shl (d i) (264 + i) 0) (shares n)

-- AND in two halves
abbrev pub first_half : ℕ → (ℕ → ℕ) → (ℕ → ℕ) → List Step
first_half n a b = (copy_in n b ++ refresh scratch (pairs (shares n))) ++ diagonal n a

abbrev pub second_half : ℕ → (ℕ → ℕ) → (ℕ → ℕ) → List Step
second_half n d a = (products scratch a (pairs (shares n)) ++ copy_out n d) ++ wiping (scratch_cells scratch n)

-- the cells after the refresh of one pair by the word r, and after its products behind r, t and u left alone
abbrev pub refreshed_y : ℕ → ℕ → ℕ → List ℕ → List ℕ
refreshed_y i j r cells = set (set cells (256 + i) (xor_w (get_or cells (256 + i) 0) r)) (256 + j) (xor_w (get_or cells (256 + j) 0) r)

abbrev pub crossed_z : ℕ → ℕ → ℕ → ℕ → ℕ → List ℕ → List ℕ
crossed_z p q i j r cells =
    let w = xor_w (xor_w r (and_w (get_or cells p 0) (get_or cells (256 + j) 0))) (and_w (get_or cells q 0) (get_or cells (256 + i) 0)) in
    set (set cells (264 + i) (xor_w (get_or cells (264 + i) 0) r)) (264 + j) (xor_w (get_or cells (264 + j) 0) w)

-- ---- y share by share: b_k behind the fresh words of its pairs, which lie in rows, each shorter by one than the row before

-- the words of rows of m, m - 1, .. 1
abbrev pub row_words : ℕ → ℕ
row_words zero = 0
row_words (suc m) = suc m + row_words m

-- y behind the m words from place p on
abbrev pub behind_row : List ℕ → ℕ → ℕ → ℕ → ℕ
behind_row tape zero p y = y
behind_row tape (suc m) p y = behind_row tape m (p + 1) (xor_w y (get_or tape p 0))

-- y behind a word of each of c rows, the first with m words from place p on, and behind all words of the row after them
abbrev pub behind : List ℕ → ℕ → ℕ → ℕ → ℕ → ℕ
behind tape zero m p y = behind_row tape m p y
behind tape (suc c) m p y = behind tape c (m - 1) (p + m) (xor_w y (get_or tape (p + c) 0))

-- the cells after that for shares of b, one after the other
abbrev pub freshly : List ℕ → ℕ → ℕ → (ℕ → ℕ) → List ℕ → List ℕ → List ℕ
freshly tape t n b [] cells = cells
freshly tape t n b (k ∷ ks) cells = freshly tape t n b ks (set cells (256 + k) (behind tape k (n - 1) t (get_or cells (b k) 0)))

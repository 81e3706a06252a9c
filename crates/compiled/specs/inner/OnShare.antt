-- What a linear plan word (CONST, XOR, NOT, SHL, SHR, SPREAD) does on one share, and lists of them, share by share.
-- Registers and shift numbers are kept in range here and all kinds but the first five are SPREAD, so that every word does something; that changes none
-- of a plan's linear words, and for AND and ADD it is not used.
-- Nothing here has to be believed: the contracts of the public calls do not cite it.
use Rattle.std.specs.Prelude.{cond, List, [], ◌∷◌, ℕ, ◌+◌, ◌*◌, ◌/◌, ◌%◌, ◌^◌, eqb, get_or, set}
use Rattle.bits.specs.Ops.{xor_w, not_w, shl_w, shr_w, spread_w}
use Rattle.word.specs.Encoding.{kind_of}

-- the word of share i of d, from those of a and b
unfoldable pub linear_word : ℕ → ℕ → ℕ → ℕ → ℕ
linear_word w i x y =
    cond (eqb (kind_of w) 1) (cond (eqb i 0) (w % 2 ^ 18) 0)
    (cond (eqb (kind_of w) 2) (xor_w x y)
    (cond (eqb (kind_of w) 4) (cond (eqb i 0) (not_w x) (shl_w x 0))
    (cond (eqb (kind_of w) 5) (shl_w x (w % 64))
    (cond (eqb (kind_of w) 6) (shr_w x (w % 64))
    (spread_w x)))))

-- the cells after word w on share i
unfoldable pub on_share : ℕ → ℕ → List ℕ → List ℕ
on_share i w cells = set cells (32 * i + w / 2 ^ 18 % 32) (linear_word w i (get_or cells (32 * i + w / 2 ^ 9 % 32) 0) (get_or cells (32 * i + w % 32) 0))

-- words in order on share i
abbrev pub on_share_all : ℕ → List ℕ → List ℕ → List ℕ
on_share_all i [] cells = cells
on_share_all i (w ∷ ws) cells = on_share_all i ws (on_share i w cells)

-- share by share
abbrev pub share_by_share : List ℕ → List ℕ → List ℕ → List ℕ
share_by_share [] ws cells = cells
share_by_share (i ∷ is) ws cells = share_by_share is ws (on_share_all i ws cells)

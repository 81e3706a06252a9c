-- Slices filled word by word: zeros, operands placed, the result copied out; and what the cells hold once an operand is placed. Rests on masking's
-- Rising.
use mathlib.Core.Path.{◌≡◌, refl, sym, ap, ◌∙◌, subst}
use mathlib.Core.List.{List, [], ◌∷◌, ◌++◌, map}
use mathlib.Core.Logic.{◌≢◌}
use mathlib.Core.Bool.{Bool, true, false}
use Prim.Native.Nat.{ℕ, zero, suc, ◌+◌, ◌-◌, ◌*◌, ◌≤◌, ◌<◌}
use native.Mathlib.Nat.{zero-add, add-zero}
use native.Mathlib.Decide.{ℕ_discrete}
use native.Mathlib.Numerals.{add-one}
use native.Mathlib.Omega.{arith}
use lib.Dec.{ltb}
use borrow.Author.Tests.{ltb-true, ltb-false}
use lib.ListN.{length, get_or, set, take, drop, replicate, get_or-append, length-set, length-map, length-replicate, get_or-replicate}
use lib.Seq.{set_comm, drop-cons, get_or-append-add, get_or-take, length-take-le, ext_get_or, get_or-set_same, get_or-set_other}
use borrow.Rule.Slice.PartMut.{mid_of, put_mid, post_of, mid_len, same_len_mid}
use Rattle.word.specs.Layout.{cell}
use Rattle.masking.proofs.emitted.Rising.{length_from, get_d_from}
use Rattle.masking.specs.Translation.{shares}
use Rattle.masked_call.specs.Shares.{placed_in}

-- the first i words are those of F
abbrev pub Filled : (ℕ → ℕ) → ℕ → List ℕ → Type 0
Filled F i l = (k : ℕ) → k < i → get_or l k 0 ≡ F k

pub none_filled : (F : ℕ → ℕ) (l : List ℕ) → Filled F 0 l
none_filled F l k h = absurd (omega arith)

pub one_filled : (F : ℕ → ℕ) (i v : ℕ) (l : List ℕ) → Filled F i l → i < length l → v ≡ F i → Filled F (i + 1) (set l i v)
one_filled F i v l f h e k m = by (ℕ_discrete k i)
  where
    by : Dec (k ≡ i) → get_or (set l i v) k 0 ≡ F k
    by (yes q) = subst (λ (j : ℕ). get_or (set l i v) j 0 ≡ F j) (sym q) (get_or-set_same l i v 0 h ∙ e)
    by (no q) = get_or-set_other l i k v 0 q ∙ f k (omega (arith, q))

pub all_zero : (l : List ℕ) (n : ℕ) → length l ≡ n → Filled (λ k. 0) n l → l ≡ replicate n 0
all_zero l n e f = ext_get_or 0 l (replicate n 0) (e ∙ sym (length-replicate n 0)) (λ i h. f i (omega arith) ∙ sym (get_or-replicate n i 0 0 (omega arith)))

-- the words from one place up to another, put back as zeros behind zeros
pub part_filled : (at end : ℕ) (l part : List ℕ) → at ≤ end → end ≤ length l → Filled (λ k. 0) at l → part ≡ replicate (length (mid_of at (end - at) l)) 0
    → Filled (λ k. 0) end (put_mid at (end - at) l part)
part_filled at end l part h m f e k below = by (ltb k at) refl
  where
    long : length (take at l) ≡ at
    long = length-take-le at l (omega arith)

    mid : length (mid_of at (end - at) l) ≡ end - at
    mid = mid_len at end l m

    size : length part ≡ end - at
    size = ap (λ (p : List ℕ). length p) e ∙ length-replicate (length (mid_of at (end - at) l)) 0 ∙ mid

    by : (b : Bool) → ltb k at ≡ b → get_or (put_mid at (end - at) l part) k 0 ≡ 0
    by true q =
        let before = ltb-true k at q in
        get_or-append (take at l) (part ++ post_of at (end - at) l) 0 k (omega (arith, long)) ∙ get_or-take at l k 0 before ∙ f k before
    by false q =
        let behind = ltb-false k at q in
        let place : length (take at l) + (k - at) ≡ k = omega (arith, long) in
        ap (λ (i : ℕ). get_or (put_mid at (end - at) l part) i 0) (sym place)
        ∙ get_or-append-add (take at l) (part ++ post_of at (end - at) l) (k - at) 0
        ∙ get_or-append part (post_of at (end - at) l) 0 (k - at) (omega (arith, size))
        ∙ ap (λ (p : List ℕ). get_or p (k - at) 0) e
        ∙ get_or-replicate (length (mid_of at (end - at) l)) (k - at) 0 0 (omega (arith, mid))

pub part_size : (at end : ℕ) (l part : List ℕ) → part ≡ replicate (length (mid_of at (end - at) l)) 0 → length (put_mid at (end - at) l part) ≡ length l
part_size at end l part e = same_len_mid at (end - at) l part (ap (λ (p : List ℕ). length p) e ∙ length-replicate (length (mid_of at (end - at) l)) 0)

pub all_filled : (F : ℕ → ℕ) (l : List ℕ) (n : ℕ) → length l ≡ n → Filled F n l → l ≡ map F (shares n)
all_filled F l n e f =
    ext_get_or 0 l (map F (shares n)) (e ∙ sym (length-map (shares n) F ∙ length_from 0 n))
    (λ i h. f i (omega arith) ∙ sym (get_d_from F 0 n i (omega arith) ∙ ap F (zero-add i)))

-- lists over the shares, entry by entry
pub shares_same : (n : ℕ) (F G : ℕ → ℕ) → ((i : ℕ) → i < n → F i ≡ G i) → map F (shares n) ≡ map G (shares n)
shares_same n F G h =
    all_filled G (map F (shares n)) n (length-map (shares n) F ∙ length_from 0 n) (λ i l. get_d_from F 0 n i l ∙ ap F (zero-add i) ∙ h i l)

-- an operand's shares
pub placed_turn : (r i : ℕ) (x cells : List ℕ) → i < length x → placed_in r i (drop i x) cells ≡ placed_in r (i + 1) (drop (i + 1) x) (set cells (cell i r) (get_or x i 0))
placed_turn r i x cells h =
    ap (λ (l : List ℕ). placed_in r i l cells) (drop-cons x i 0 h)
    ∙ ap (λ (k : ℕ). placed_in r k (drop k x) (set cells (cell i r) (get_or x i 0))) (sym (add-one i))

-- shares of two operands in turn
apart : (r s i j : ℕ) → r < 32 → s < 32 → r ≢ s → cell j r ≢ cell i s
apart r s i j lr ls h e = h (omega arith)

past : (r s i v : ℕ) → r < 32 → s < 32 → r ≢ s → (j : ℕ) (x cells : List ℕ) → placed_in r j x (set cells (cell i s) v) ≡ set (placed_in r j x cells) (cell i s) v
past r s i v lr ls h j [] cells = refl
past r s i v lr ls h j (w ∷ x) cells =
    ap (placed_in r (suc j) x) (set_comm cells (cell i s) (cell j r) v w (λ e. apart r s i j lr ls h (sym e)))
    ∙ past r s i v lr ls h (suc j) x (set cells (cell j r) w)

pub both_placed : (i : ℕ) (x y cells : List ℕ) → i < length x → length y ≡ length x
    → placed_in 1 i (drop i y) (placed_in 0 i (drop i x) cells)
    ≡ placed_in 1 (i + 1) (drop (i + 1) y) (placed_in 0 (i + 1) (drop (i + 1) x) (set (set cells (32 * i) (get_or x i 0)) (cell i 1) (get_or y i 0)))
both_placed i x y cells h e =
    ap (placed_in 1 i (drop i y)) (placed_turn 0 i x cells h)
    ∙ placed_turn 1 i y (placed_in 0 (i + 1) (drop (i + 1) x) (set cells (cell i 0) (get_or x i 0))) (omega arith)
    ∙ ap (placed_in 1 (i + 1) (drop (i + 1) y)) (sym (past 0 1 i (get_or y i 0) (omega arith) (omega arith) (λ q. omega arith) (i + 1) (drop (i + 1) x) (set cells (cell i 0) (get_or x i 0))))
    ∙ ap (λ (k : ℕ). placed_in 1 (i + 1) (drop (i + 1) y) (placed_in 0 (i + 1) (drop (i + 1) x) (set (set cells k (get_or x i 0)) (cell i 1) (get_or y i 0)))) (add-zero (32 * i))

pub placed_size : (r i : ℕ) (x cells : List ℕ) → length (placed_in r i x cells) ≡ length cells
placed_size r i [] cells = refl
placed_size r i (v ∷ x) cells = placed_size r (suc i) x (set cells (cell i r) v) ∙ length-set cells (cell i r) v

-- a cell that is none of these
pub placed_other : (r i : ℕ) (x cells : List ℕ) (k : ℕ) → ((j : ℕ) → i ≤ j → j < i + length x → k ≡ cell j r → ⊥) → get_or (placed_in r i x cells) k 0 ≡ get_or cells k 0
placed_other r i [] cells k h = refl
placed_other r i (v ∷ x) cells k h =
    placed_other r (suc i) x (set cells (cell i r) v) k (λ j l m. h j (omega arith) (omega arith)) ∙ get_or-set_other cells (cell i r) k v 0 (h i (omega arith) (omega arith))

-- and one of them
pub placed_share : (r i : ℕ) (x cells : List ℕ) (j : ℕ) → r < 32 → i + length x ≤ 8 → length cells ≡ 512 → j < length x
    → get_or (placed_in r i x cells) (cell (i + j) r) 0 ≡ get_or x j 0
placed_share r i [] cells j lr few size h = absurd (omega arith)
placed_share r i (v ∷ x) cells zero lr few size h =
    placed_other r (suc i) x (set cells (cell i r) v) (cell (i + 0) r) (λ j l m e. omega arith)
    ∙ ap (λ (k : ℕ). get_or (set cells (cell i r) v) (cell k r) 0) (add-zero i) ∙ get_or-set_same cells (cell i r) v 0 (omega arith)
placed_share r i (v ∷ x) cells (suc j) lr few size h =
    let e : i + suc j ≡ suc i + j = omega arith in
    ap (λ (k : ℕ). get_or (placed_in r (suc i) x (set cells (cell i r) v)) (cell k r) 0) e
    ∙ placed_share r (suc i) x (set cells (cell i r) v) j lr (omega arith) (length-set cells (cell i r) v ∙ size) (omega arith)

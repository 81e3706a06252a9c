-- The product's plan in its parts and word by word, from a head, the number of a row and a tail: computed for each of its words. Rests on Tests.
use mathlib.Core.Path.{◌≡◌, refl, ap, ◌∙◌}
use mathlib.Core.Bool.{Bool}
use mathlib.Core.List.{List, ◌∷◌, ◌++◌, map, map-append}
use Prim.Native.Nat.{ℕ, ◌+◌, ◌-◌, ◌/◌, ◌%◌, ◌≤◌, ◌<◌}
use native.Mathlib.Omega.{arith}
use lib.Dec.{T, eqb, eqb→eq}
use lib.ListN.{length, get_or, set, drop}
use borrow.Author.Tests.{lt-ltb, le-ltb}
use Rattle.word.specs.Encoding.{put, word_of}
use Rattle.plans.specs.words.ProductPlan.{product_head, carry_row, product_row, row_count, product_rows, last_rows, product_end, product_tail, product_steps, product_plan}
use Rattle.plans.specs.ProductRows.{head_words, row_words, words_of_rows, tail_words, word_in_row, head_end, row_length, rows_end, product_word, ByRows}
use Rattle.plans.proofs.Tests.{every, each}

-- ---- one computed test over all words
abbrev plan_word : ℕ → Bool
plan_word i = eqb (get_or product_plan i 0) (product_word i)

every_word : T (every 948 plan_word)
unfolding product_head product_row product_rows last_rows product_end product_tail product_steps product_plan head_words row_words tail_words put
every_word = tt

pub plan_size : length product_plan ≡ 948
unfolding product_head product_row product_rows last_rows product_end product_tail product_steps product_plan
plan_size = refl

parts : product_plan ≡ head_words ++ (words_of_rows row_count ++ tail_words)
unfolding product_plan product_steps head_words tail_words
parts =
    map-append word_of product_head (product_rows row_count ++ product_tail)
    ∙ ap (λ (ws : List ℕ). map word_of product_head ++ ws) (map-append word_of (product_rows row_count) product_tail)

-- the number of a row is the shift number of its first word
numbered : (q : ℕ) → q < row_count → row_words q ≡ set (row_words 0) 0 (get_or (row_words 0) 0 0 + q)
unfolding row_words product_row carry_row put
numbered q h = ap (λ (w : ℕ). w ∷ drop 1 (row_words 0)) (omega arith)

pub by_rows : ByRows
unfolding product_head product_row last_rows product_end product_tail head_words row_words tail_words
by_rows =
    record {
      parts = parts;
      rows = numbered;
      words = λ i h. eqb→eq _ _ (each 948 plan_word every_word i (omega (arith, plan_size)));
      tables = refl;
      fewer = omega (arith, plan_size);
    }

-- each word of a row
abbrev word_of_row : ℕ → ℕ → Bool
word_of_row q k = eqb (get_or (row_words q) k 0) (word_in_row q k)

every_row : T (every row_count (λ q. every row_length (word_of_row q)))
unfolding carry_row product_row row_words put
every_row = tt

in_row_is : (q k : ℕ) → q < row_count → k < row_length → get_or (row_words q) k 0 ≡ word_in_row q k
in_row_is q k h l = eqb→eq _ _ (each row_length (word_of_row q) (each row_count (λ q. every row_length (word_of_row q)) every_row q h) k l)

-- ---- word i by the part that it stands in
pub from_head : (i : ℕ) → i < head_end → get_or head_words i 0 ≡ product_word i
from_head i h = rw (lt-ltb i head_end h)

pub from_row : (i : ℕ) → head_end ≤ i → i < rows_end → get_or (row_words ((i - head_end) / row_length)) ((i - head_end) % row_length) 0 ≡ product_word i
from_row i l h = rw (le-ltb i head_end l, lt-ltb i rows_end h) (in_row_is ((i - head_end) / row_length) ((i - head_end) % row_length) (omega arith) (omega arith))

pub from_tail : (i : ℕ) → rows_end ≤ i → get_or tail_words (i - rows_end) 0 ≡ product_word i
from_tail i l = rw (le-ltb i head_end (omega arith), le-ltb i rows_end l)

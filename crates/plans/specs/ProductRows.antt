-- The product's words from the number of a row: document 02, No. 3, "make the product's words from the number of a row, nearly the same for each bit of one operand;
-- tables left for it hold at least 256 words fewer than the plan". The tables are a head, row 0 and a tail.
use Rattle.std.specs.Prelude.{◌≡◌, cond, List, ◌++◌, map, ℕ, ◌+◌, ◌-◌, ◌*◌, ◌/◌, ◌%◌, ◌≤◌, ◌<◌, ltb, eqb, length, get_or, set}
use Rattle.word.specs.Encoding.{word_of}
use Rattle.plans.specs.words.ProductPlan.{product_head, product_row, row_count, product_rows, product_tail, product_plan}

unfoldable pub head_words : List ℕ
head_words = map word_of product_head

unfoldable pub row_words : ℕ → List ℕ
row_words q = map word_of (product_row q)

-- rows 0 to n - 1
abbrev pub words_of_rows : ℕ → List ℕ
words_of_rows n = map word_of (product_rows n)

unfoldable pub tail_words : List ℕ
tail_words = map word_of product_tail

-- word k of row q: that of row 0, with q added to the shift number of the first
abbrev pub word_in_row : ℕ → ℕ → ℕ
word_in_row q k = get_or (row_words 0) k 0 + cond (eqb k 0) q 0

-- where the head ends, a row's words, and where the rows end
abbrev pub head_end : ℕ
head_end = 13

abbrev pub row_length : ℕ
row_length = 13

abbrev pub rows_end : ℕ
rows_end = head_end + row_count * row_length

-- word i of the plan: of the head, of a row, or of the tail
abbrev pub product_word : ℕ → ℕ
product_word i =
    cond (ltb i head_end) (get_or head_words i 0)
    (cond (ltb i rows_end) (word_in_row ((i - head_end) / row_length) ((i - head_end) % row_length)) (get_or tail_words (i - rows_end) 0))

-- words of the three tables
abbrev pub table_words : ℕ
table_words = length head_words + length (row_words 0) + length tail_words

-- what is proved of them
pub record ByRows : Type 0 where
  -- the plan is the head, the rows and the tail
  pub parts : product_plan ≡ head_words ++ (words_of_rows row_count ++ tail_words)
  -- row q is row 0 with q added to its first word
  pub rows : (q : ℕ) → q < row_count → row_words q ≡ set (row_words 0) 0 (get_or (row_words 0) 0 0 + q)
  -- so each word is made from the tables and the number of a row
  pub words : (i : ℕ) → i < length product_plan → get_or product_plan i 0 ≡ product_word i
  -- and the tables are so much shorter
  pub tables : table_words ≡ 285
  pub fewer : table_words + 256 ≤ length product_plan

-- The claims on the built-in plans, field by field, and for each operation at its plan, its operands and its figures: what is narrowed, halved or asks
-- for more fails here.
use Rattle.std.specs.Prelude.{Some}
use mathlib.Core.Path.{◌≡◌}
use mathlib.Core.List.{List, [], ◌∷◌, ◌++◌}
use Prim.Native.Nat.{ℕ, ◌+◌, ◌-◌, ◌*◌, ◌≤◌, ◌<◌}
use lib.Dec.{T}
use lib.ListN.{length, get_or, set}
use Rattle.word.specs.declared.step.Step.{Step}
use Rattle.word.specs.Encoding.{plan_step}
use Rattle.checks.specs.Answers.{first_bad}
use Rattle.plain.specs.Machine.{run}
use Rattle.masking.specs.Foretold.{foretold_tape}
use Rattle.checks.specs.Unset.{reads_only}
use Rattle.binary64.specs.Product.{product}
use Rattle.binary64.specs.Sum.{sum}
use Rattle.binary64.specs.Floor.{floor}
use Rattle.binary64.specs.Truncate.{truncate}
use Rattle.binary64.specs.Nearest.{nearest}
use Rattle.binary64.specs.Operations.{Operation, Product, Sum, Floor, Truncate, Nearest, on_words}
use Rattle.plans.specs.Computes.{Computes}
use Rattle.plans.specs.Cost.{of_kind, Figures}
use Rattle.plans.specs.BuiltIns.{described, plan_of, BuiltIn}
use Rattle.plans.specs.words.ProductPlan.{row_count, product_plan}
use Rattle.plans.specs.ProductRows.{head_words, row_words, words_of_rows, tail_words, product_word, table_words, ByRows}
use Rattle.plans.specs.words.SumPlan.{sum_plan}
use Rattle.plans.specs.words.FloorPlan.{floor_plan}
use Rattle.plans.specs.words.TruncatePlan.{truncate_plan}
use Rattle.plans.specs.words.NearestPlan.{nearest_plan}
use Rattle.lubewon.specs.Claims.{Claims}
use Rattle.lubewon.proofs.stated.Conditions.{AllWords}

module _ {plan : List ℕ} {op : ℕ → ℕ → ℕ} (h : Computes plan op) where
  computes_short : length plan ≤ 2048
  computes_short = h.short

  computes_none_bad : first_bad plan_step plan ≡ length plan
  computes_none_bad = h.none_bad

  computes_entries : (i : ℕ) → i < length plan → (s : Step) × (plan_step (get_or plan i 0) ≡ Some s)
  computes_entries = h.entries

  computes_result : (cells : List ℕ) → length cells ≡ 32 → AllWords cells → get_or (run plan cells) 2 0 ≡ op (get_or cells 0 0) (get_or cells 1 0)
  computes_result = h.result

module _ {plan : List ℕ} {words ands adds : ℕ} (h : Figures plan words ands adds) where
  figures_words : length plan ≡ words
  figures_words = h.words_are

  figures_ands : of_kind 3 plan ≡ ands
  figures_ands = h.ands_are

  figures_adds : of_kind 8 plan ≡ adds
  figures_adds = h.adds_are

  figures_tape : (n : ℕ) → 2 ≤ n → n ≤ 8 → foretold_tape n plan ≡ (ands + 12 * adds) * (n * (n - 1))
  figures_tape = h.tape_is

module _ {o : Operation} (h : BuiltIn o) where
  built_in_computes : Computes (plan_of o) (on_words o)
  built_in_computes = h.computes

  built_in_inputs : T (reads_only (plan_of o) (described o).operands)
  built_in_inputs = h.inputs

  built_in_figures : Figures (plan_of o) (described o).words (described o).ands (described o).adds
  built_in_figures = h.figures

module _ (h : ByRows) where
  by_rows_parts : product_plan ≡ head_words ++ (words_of_rows row_count ++ tail_words)
  by_rows_parts = h.parts

  by_rows_rows : (q : ℕ) → q < row_count → row_words q ≡ set (row_words 0) 0 (get_or (row_words 0) 0 0 + q)
  by_rows_rows = h.rows

  by_rows_words : (i : ℕ) → i < length product_plan → get_or product_plan i 0 ≡ product_word i
  by_rows_words = h.words

  by_rows_tables : table_words ≡ 285
  by_rows_tables = h.tables

  by_rows_fewer : table_words + 256 ≤ length product_plan
  by_rows_fewer = h.fewer

-- what is said of one operation's plan, which has no ADD
abbrev Built : List ℕ → (ℕ → ℕ → ℕ) → List ℕ → ℕ → ℕ → Type 0
Built plan op operands words ands = Computes plan op × T (reads_only plan operands) × Figures plan words ands 0

module _ (C : Claims) where
  built_ins : (o : Operation) → BuiltIn o
  built_ins = C.built_ins

  product_built : Built product_plan product (0 ∷ 1 ∷ []) 948 76
  product_built = let h = C.built_ins Product in (h.computes, h.inputs, h.figures)

  sum_built : Built sum_plan sum (0 ∷ 1 ∷ []) 738 53
  sum_built = let h = C.built_ins Sum in (h.computes, h.inputs, h.figures)

  floor_built : Built floor_plan (λ a b. floor a) (0 ∷ []) 297 12
  floor_built = let h = C.built_ins Floor in (h.computes, h.inputs, h.figures)

  truncate_built : Built truncate_plan (λ a b. truncate a) (0 ∷ []) 169 5
  truncate_built = let h = C.built_ins Truncate in (h.computes, h.inputs, h.figures)

  nearest_built : Built nearest_plan (λ a b. nearest a) (0 ∷ []) 301 14
  nearest_built = let h = C.built_ins Nearest in (h.computes, h.inputs, h.figures)

  product_by_rows : ByRows
  product_by_rows = C.product_by_rows

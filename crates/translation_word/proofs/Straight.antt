-- A plan's word straight: it is share 0's word, and in the kinds that come once per share the others' are in a row behind it. Rests on Rows and
-- Laid, and on word's Together.
use Rattle.std.specs.Prelude.{Some}
use mathlib.Core.Path.{◌≡◌, refl, sym, ap, ap₂, subst, ◌∙◌}
use mathlib.Core.Bool.{cond, not}
use mathlib.Core.Logic.{⊎_elim}
use mathlib.Core.List.{List, [], ◌∷◌, ◌++◌, map, append-nil}
use Prim.Native.Nat.{ℕ, zero, suc, ◌+◌, ◌-◌, ◌*◌, ◌/◌, ◌%◌, ◌^◌, ◌≤◌, ◌<◌}
use native.Mathlib.Nat.{mod-eq_of_lt}
use native.Mathlib.Omega.{arith}
use lib.Dec.{T, eqb, ltb, ltb→lt}
use lib.ListN.{length}
use Rattle.word.specs.declared.step.Step.{Step}
use Rattle.word.specs.declared.step.Step.TheVariants.{Const, Xor, And, Not, Shl, Shr, Spread, Add, Rand}
use Rattle.word.specs.Encoding.{kind_of, kind_number, number_fits, within, in_plan, plan_step, put, word_of}
use Rattle.word.specs.Parts.{OfParts, OfNone}
use Rattle.word.specs.Table.{dest, reads, Each}
use Rattle.word.proofs.Ranges.{both, within_cells, within_number}
use Rattle.word.proofs.Together.{never, same_step, plan_exact, taken_rule}
use Rattle.masking.specs.Translation.{scratch, up_from, share_cell, share_step, block, blocks, adding, laid_out, translated, words_for}
use Rattle.masking.proofs.emitted.Places.{share_register}
use Rattle.masking.proofs.emitted.Steps.{taken_kind}
use Rattle.emission_rows.specs.declared.Cells.{Cells}
use Rattle.translation_word.specs.inner.Good.{PlanWord}
use Rattle.emission_rows.specs.inner.Written.{row_of, Rises, cells_on, Fits, EachFits}
use Rattle.emission_rows.proofs.Rows.{row_length, each_row}
use Rattle.emission_rows.proofs.Each.{fixed, fixed_fits, stays}

-- ---- a good word and its step

module _ (w : ℕ) (lt : w < 2 ^ 32) (p : PlanWord w) where
  pub together : word_of p.step ≡ w
  together =
      ⊎_elim (λ (q : OfParts in_plan w). ap word_of (same_step p.step q.step (sym p.apart ∙ q.apart)) ∙ q.together)
      (λ (q : OfNone in_plan w). never p.step (sym q.apart ∙ p.apart)) (plan_exact.every w lt)

abbrev pub plan_good : (w : ℕ) (s : Step) → plan_step w ≡ Some s → PlanWord w
plan_good w s e = record { step = s; apart = e }

pub kind_is : (w : ℕ) (p : PlanWord w) → kind_of w ≡ kind_number p.step
kind_is w p = taken_kind in_plan w p.step p.apart

pub in_plan_is : (w : ℕ) (p : PlanWord w) → T (in_plan p.step)
in_plan_is w p = taken_rule in_plan w p.step p.apart

registers : (s : Step) → T (in_plan s) → Each (λ r. r < 32) (dest s ∷ reads s)
registers s h = within_cells 32 s (both (not (eqb (kind_number s) 9)) (within 32 s) h).1

pub registers_of : (s t : Step) → s ≡ t → T (in_plan s) → Each (λ r. r < 32) (dest t ∷ reads t)
registers_of s t e h = registers t (subst (λ (x : Step). T (in_plan x)) e h)

-- its shift is below 64
number_lt : (s : Step) (b : ℕ) → T (in_plan s) → number_fits s ≡ ltb b 64 → b < 512
number_lt s b h e =
    let l : b < 64 = ltb→lt b 64 (rw e at (within_number 32 s (both (not (eqb (kind_number s) 9)) (within 32 s) h).1)) in
    omega arith

step_words : (n w : ℕ) (p : PlanWord w) → words_for n (plan_step w) ≡ map word_of (blocks scratch n (laid_out p.step))
unfolding translated
step_words n w p = ap (words_for n) p.apart

-- ---- the words of shares from 1 on

-- by the kind: what the next share's word is more, and what share 1's is
abbrev pub over_for : ℕ → ℕ
over_for k = cond (eqb k 1) 8388608 (cond (eqb k 2) 8405024 8404992)

abbrev pub other_for : ℕ → ℕ → ℕ
other_for k w = cond (eqb k 1) (w - w % 262144 + 8388608) (cond (eqb k 4) (w + 268435456 + 8404992) (w + over_for k))

-- a word of fields in range
put_is : (k d a b : ℕ) → d < 512 → a < 512 → b < 512 → put k d a b ≡ k % 16 * 2 ^ 28 + d * 2 ^ 18 + a * 2 ^ 9 + b
unfolding put
put_is k d a b ld la lb = rw (mod-eq_of_lt ld, mod-eq_of_lt la, mod-eq_of_lt lb)

over_d : put 0 32 0 0 ≡ 8388608
unfolding put
over_d = refl

over_da : put 0 32 32 0 ≡ 8404992
unfolding put
over_da = refl

over_dab : put 0 32 32 32 ≡ 8405024
unfolding put
over_dab = refl

-- a register's cells
abbrev reg : ℕ → Cells
reg r = record { first = r; over = 32 }

reg_fits : (r : ℕ) → r < 32 → Fits (reg r)
reg_fits r l = record { field = omega arith }

reg_cell : (r : ℕ) → r < 32 → (i : ℕ) → share_cell i r ≡ cells_on (reg r) i
reg_cell r l i = share_register i r l ∙ omega arith

first_cell : (r : ℕ) → r < 32 → share_cell 0 r ≡ r
first_cell r l = share_register 0 r l ∙ omega arith

words_others : (g : ℕ → Step) (h : ℕ → ℕ) → ((i : ℕ) → word_of (g (suc i)) ≡ h (suc i)) → (s c : ℕ) → map word_of (map g (up_from (suc s) c)) ≡ map h (up_from (suc s) c)
words_others g h e s zero = refl
words_others g h e s (suc c) = rw (e s) (ap (λ (r : List ℕ). h (suc s) ∷ r) (words_others g h e (suc s) c))

-- words of kind k on cells in lines
others : (g : ℕ → Step) (k : ℕ) (d a b : Cells) (m : ℕ) → EachFits k d a b (suc m)
    → ((i : ℕ) → word_of (g (suc i)) ≡ put k (cells_on d (suc i)) (cells_on a (suc i)) (cells_on b (suc i)))
    → (other over : ℕ) → put k (cells_on d 1) (cells_on a 1) (cells_on b 1) ≡ other → put 0 d.over a.over b.over ≡ over
    → map word_of (map g (up_from 1 m)) ≡ row_of other over m
others g k d a b m f e other over p q =
    words_others g (λ i. put k (cells_on d i) (cells_on a i) (cells_on b i)) e 0 m
    ∙ each_row k d a b 1 m (record { kind = f.kind; fits_d = f.fits_d; fits_a = f.fits_a; fits_b = f.fits_b; most = omega (arith, f.most) })
    ∙ ap₂ (λ (x y : ℕ). row_of x y m) p q

-- share 1's word from share 0's: three fields rise, two do, one does behind CONST 0, and two do where SHL 0 stands for NOT
up_dab : (k d a b : ℕ) → d < 32 → a < 32 → b < 32 → put k (cells_on (reg d) 1) (cells_on (reg a) 1) (cells_on (reg b) 1) ≡ put k d a b + 8405024
up_dab k d a b ld la lb =
    rw (put_is k (d + 32 * 1) (a + 32 * 1) (b + 32 * 1) (omega arith) (omega arith) (omega arith), put_is k d a b (omega arith) (omega arith) (omega arith)) (omega arith)

up_da : (k d a b : ℕ) → d < 32 → a < 32 → b < 512 → put k (cells_on (reg d) 1) (cells_on (reg a) 1) (cells_on (fixed b) 1) ≡ put k d a b + 8404992
up_da k d a b ld la lb =
    rw (put_is k (d + 32 * 1) (a + 32 * 1) (b + 0 * 1) (omega arith) (omega arith) (omega arith), put_is k d a b (omega arith) (omega arith) (omega arith)) (omega arith)

up_const : (d k w : ℕ) → d < 32 → put 1 d (k / 512) k ≡ w → put 1 (cells_on (reg d) 1) (cells_on (fixed 0) 1) (cells_on (fixed 0) 1) ≡ w - w % 262144 + 8388608
unfolding put
up_const d k w l e = rw (mod-eq_of_lt {n = d + 32 * 1} {m = 512} (omega arith)) (parts (k / 512 % 512 * 2 ^ 9 + k % 512) (omega arith) (sym e ∙ rw (mod-eq_of_lt {n = d} {m = 512} (omega arith)) (omega arith)))
  where
    parts : (y : ℕ) → y < 262144 → w ≡ 268435456 + d * 262144 + y → 268435456 + (d + 32 * 1) * 2 ^ 18 + 0 + 0 ≡ w - w % 262144 + 8388608
    parts y ly f = omega arith

up_not : (d a : ℕ) → d < 32 → a < 32 → put 5 (cells_on (reg d) 1) (cells_on (reg a) 1) (cells_on (fixed 0) 1) ≡ put 4 d a 0 + 268435456 + 8404992
up_not d a ld la =
    rw (put_is 5 (d + 32 * 1) (a + 32 * 1) (0 + 0 * 1) (omega arith) (omega arith) (omega arith), put_is 4 d a 0 (omega arith) (omega arith) (omega arith)) (omega arith)

first_behind : (g : ℕ → Step) (m w : ℕ) (r : List ℕ) → word_of (g 0) ≡ w → map word_of (map g (up_from 1 m)) ≡ r → map word_of (map g (up_from 0 (suc m)) ++ []) ≡ w ∷ r
first_behind g m w r e f = ap (map word_of) (append-nil (map g (up_from 0 (suc m)))) ∙ ap₂ (λ (x : ℕ) (y : List ℕ). x ∷ y) e f

-- SHL, SHR and SPREAD have two registers and a number
two_fields : (k d a b m w : ℕ) (g : ℕ → Step) → k < 8 → d < 32 → a < 32 → b < 512 → suc m ≤ 8 → put k d a b ≡ w
    → ((i : ℕ) → word_of (g i) ≡ put k (share_cell i d) (share_cell i a) b) → map word_of (map g (up_from 0 (suc m)) ++ []) ≡ w ∷ row_of (w + 8404992) 8404992 m
two_fields k d a b m w g lk ld la lb l t e =
    first_behind g m w _ (e 0 ∙ ap₂ (λ (x y : ℕ). put k x y b) (first_cell d ld) (first_cell a la) ∙ t)
    (others g k (reg d) (reg a) (fixed b) m
    (record { kind = lk; fits_d = reg_fits d ld; fits_a = reg_fits a la; fits_b = fixed_fits b lb; most = l })
    (λ i. e (suc i) ∙ rw (reg_cell d ld (suc i), reg_cell a la (suc i)) (ap (put k (cells_on (reg d) (suc i)) (cells_on (reg a) (suc i))) (stays b (suc i))))
    _ _ (up_da k d a b ld la lb ∙ ap (λ (x : ℕ). x + 8404992) t) over_da)

-- the kinds that come once per share, over all of them
linear : (m w : ℕ) → suc m ≤ 8 → (s : Step) → word_of s ≡ w → T (in_plan s) → (kind_number s ≡ 3 → ⊥) → (kind_number s ≡ 8 → ⊥)
    → map word_of (blocks scratch (suc m) (laid_out s)) ≡ w ∷ row_of (other_for (kind_number s) w) (over_for (kind_number s)) m
linear m w l (Const d k) t h na nd =
    let r = registers (Const d k) h in
    first_behind (share_step (Const d k)) m w _ (ap (λ (x : ℕ). put 1 x (k / 512) k) (first_cell d r.0) ∙ t)
    (others (share_step (Const d k)) 1 (reg d) (fixed 0) (fixed 0) m
    (record { kind = omega arith; fits_d = reg_fits d r.0; fits_a = fixed_fits 0 (omega arith); fits_b = fixed_fits 0 (omega arith); most = l })
    (λ i. ap₂ (λ (x y : ℕ). put 1 x y y) (reg_cell d r.0 (suc i)) (stays 0 (suc i)))
    _ _ (up_const d k w r.0 t) over_d)
linear m w l (Xor d a b) t h na nd =
    let r = registers (Xor d a b) h in
    first_behind (share_step (Xor d a b)) m w _ (rw (first_cell d r.0, first_cell a r.1.0, first_cell b r.1.1.0) t)
    (others (share_step (Xor d a b)) 2 (reg d) (reg a) (reg b) m
    (record { kind = omega arith; fits_d = reg_fits d r.0; fits_a = reg_fits a r.1.0; fits_b = reg_fits b r.1.1.0; most = l })
    (λ i. rw (reg_cell d r.0 (suc i), reg_cell a r.1.0 (suc i), reg_cell b r.1.1.0 (suc i)))
    _ _ (up_dab 2 d a b r.0 r.1.0 r.1.1.0 ∙ ap (λ (x : ℕ). x + 8405024) t) over_dab)
linear m w l (And d a b) t h na nd = absurd (na refl)
linear m w l (Not d a) t h na nd =
    let r = registers (Not d a) h in
    first_behind (share_step (Not d a)) m w _ (ap₂ (λ (x y : ℕ). put 4 x y 0) (first_cell d r.0) (first_cell a r.1.0) ∙ t)
    (others (share_step (Not d a)) 5 (reg d) (reg a) (fixed 0) m
    (record { kind = omega arith; fits_d = reg_fits d r.0; fits_a = reg_fits a r.1.0; fits_b = fixed_fits 0 (omega arith); most = l })
    (λ i. rw (reg_cell d r.0 (suc i), reg_cell a r.1.0 (suc i)) (ap (put 5 (cells_on (reg d) (suc i)) (cells_on (reg a) (suc i))) (stays 0 (suc i))))
    _ _ (up_not d a r.0 r.1.0 ∙ ap (λ (x : ℕ). x + 268435456 + 8404992) t) over_da)
linear m w l (Shl d a b) t h na nd =
    let r = registers (Shl d a b) h in
    two_fields 5 d a b m w (share_step (Shl d a b)) (omega arith) r.0 r.1.0 (number_lt (Shl d a b) b h refl) l t (λ i. refl)
linear m w l (Shr d a b) t h na nd =
    let r = registers (Shr d a b) h in
    two_fields 6 d a b m w (share_step (Shr d a b)) (omega arith) r.0 r.1.0 (number_lt (Shr d a b) b h refl) l t (λ i. refl)
linear m w l (Spread d a) t h na nd =
    let r = registers (Spread d a) h in
    two_fields 7 d a 0 m w (share_step (Spread d a)) (omega arith) r.0 r.1.0 (omega arith) l t (λ i. refl)
linear m w l (Add d a b) t h na nd = absurd (nd refl)
linear m w l (Rand d) t h na nd = absurd h

-- ---- what the functions go by

module _ (n w : ℕ) (lt : w < 2 ^ 32) (p : PlanWord w) where
  linear_words : 1 ≤ n → n ≤ 8 → (kind_of w ≡ 3 → ⊥) → (kind_of w ≡ 8 → ⊥) → words_for n (plan_step w) ≡ w ∷ row_of (other_for (kind_of w) w) (over_for (kind_of w)) (n - 1)
  linear_words least most na nd =
      let e : suc (n - 1) ≡ n = omega arith in
      step_words n w p ∙ ap (λ (k : ℕ). map word_of (blocks scratch k (laid_out p.step))) (sym e)
      ∙ linear (n - 1) w (omega arith) p.step (together w lt p) (in_plan_is w p) (λ f. na (kind_is w p ∙ f)) (λ f. nd (kind_is w p ∙ f))
      ∙ ap (λ (k : ℕ). w ∷ row_of (other_for k w) (over_for k) (n - 1)) (sym (kind_is w p))

  linear_length : 1 ≤ n → n ≤ 8 → (kind_of w ≡ 3 → ⊥) → (kind_of w ≡ 8 → ⊥) → length (words_for n (plan_step w)) ≡ n
  linear_length least most na nd =
      omega (arith, ap length (linear_words least most na nd), row_length (other_for (kind_of w) w) (over_for (kind_of w)) (n - 1))

  -- and as a row of all, where share 0's is like the others
  row_words : 1 ≤ n → n ≤ 8 → (kind_of w ≡ 3 → ⊥) → (kind_of w ≡ 8 → ⊥) → (over : ℕ) → over_for (kind_of w) ≡ over → other_for (kind_of w) w ≡ w + over
      → words_for n (plan_step w) ≡ row_of w over n
  row_words least most na nd over e f =
      let g : suc (n - 1) ≡ n = omega arith in
      linear_words least most na nd ∙ ap₂ (λ (x y : ℕ). w ∷ row_of x y (n - 1)) f e ∙ ap (λ (k : ℕ). row_of w over k) g

  -- a kind below 8
  low : (kind_of w ≡ 8 → ⊥) → w < 2 ^ 31
  low nd = by p.step (kind_is w p) (in_plan_is w p)
    where
      below : (k : ℕ) → kind_of w ≡ k → k < 8 → w < 2 ^ 31
      below k e l = omega arith

      by : (s : Step) → kind_of w ≡ kind_number s → T (in_plan s) → w < 2 ^ 31
      by (Const d k) e h = below 1 e (omega arith)
      by (Xor d a b) e h = below 2 e (omega arith)
      by (And d a b) e h = below 3 e (omega arith)
      by (Not d a) e h = below 4 e (omega arith)
      by (Shl d a b) e h = below 5 e (omega arith)
      by (Shr d a b) e h = below 6 e (omega arith)
      by (Spread d a) e h = below 7 e (omega arith)
      by (Add d a b) e h = absurd (nd e)
      by (Rand d) e h = absurd h

-- a word whose shares' words are all in a row, or are so behind share 0's: they fit, and there are n of them
pub record InRow (n w over : ℕ) : Type 0 where
  pub words : words_for n (plan_step w) ≡ row_of w over n
  pub rises : Rises w over n
  pub long : length (words_for n (plan_step w)) ≡ n

pub record Behind (n w other over : ℕ) : Type 0 where
  pub words : words_for n (plan_step w) ≡ w ∷ row_of other over (n - 1)
  pub rises : Rises other over n
  pub long : length (words_for n (plan_step w)) ≡ n

-- which those of a kind k are
module _ (n w : ℕ) (lt : w < 2 ^ 32) (least : 1 ≤ n) (most : n ≤ 8) (p : PlanWord w) (k over : ℕ) (e : kind_of w ≡ k) (na : k ≡ 3 → ⊥) (lk : k < 8) (f : over_for k ≡ over) (lo : over < 2 ^ 25) where
  not_and : kind_of w ≡ 3 → ⊥
  not_and x = na (sym e ∙ x)

  not_add : kind_of w ≡ 8 → ⊥
  not_add x = absurd (omega (arith, e, x, lk))

  pub in_row : other_for k w ≡ w + over → InRow n w over
  in_row g =
      record {
        words = row_words n w lt p least most not_and not_add over (ap over_for e ∙ f) (ap (λ (j : ℕ). other_for j w) e ∙ g);
        rises = record { kind = low n w lt p not_add; small = lo; most = most };
        long = linear_length n w lt p least most not_and not_add;
      }

  pub behind : (other : ℕ) → other_for k w ≡ other → other < 2 ^ 31 → Behind n w other over
  behind other g l =
      record {
        words = linear_words n w lt p least most not_and not_add ∙ ap₂ (λ (x y : ℕ). w ∷ row_of x y (n - 1)) (ap (λ (j : ℕ). other_for j w) e ∙ g) (ap over_for e ∙ f);
        rises = record { kind = l; small = lo; most = most };
        long = linear_length n w lt p least most not_and not_add;
      }

-- CONST's number is its word's low 18 bits
pub number_is : (w : ℕ) → w < 2 ^ 32 → (p : PlanWord w) (d k : ℕ) → p.step ≡ Const d k → w % 262144 ≡ k
unfolding put
number_is w lt p d k e =
    let t : put 1 d (k / 512) k ≡ w = sym (ap word_of e) ∙ together w lt p in
    let l : k < 2 ^ 18 = ltb→lt k (2 ^ 18) (rw e at (within_number 32 p.step (both (not (eqb (kind_number p.step) 9)) (within 32 p.step) (in_plan_is w p)).1)) in
    omega arith

-- AND's and ADD's words
module _ (n d a b : ℕ) where
  pub and_words : words_for n (Some (And d a b)) ≡ map word_of (block scratch n (And d a b))
  unfolding translated
  and_words = ap (map word_of) (append-nil (block scratch n (And d a b)))

  pub add_words : words_for n (Some (Add d a b)) ≡ map word_of (blocks scratch n (adding d a b))
  unfolding translated
  add_words = refl

-- Words in a row: the words of cells that lie in lines rise by one number from share to share. Assumes nothing.
use mathlib.Core.Path.{◌≡◌, refl, sym, ap, ap₂, ◌∙◌}
use mathlib.Core.List.{List, [], ◌∷◌, map}
use Prim.Native.Nat.{ℕ, zero, suc, ◌+◌, ◌-◌, ◌*◌, ◌%◌, ◌^◌, ◌≤◌, ◌<◌}
use native.Mathlib.Nat.{mod-eq_of_lt, mul-zero, mul-suc, mul-le-mul_left}
use native.Mathlib.Omega.{arith}
use lib.ListN.{length}
use lib.Seq.{sets, length-sets}
use Rattle.word.specs.Encoding.{put}
use Rattle.masking.specs.Translation.{up_from}
use Rattle.emission_rows.specs.declared.Cells.{Cells}
use Rattle.emission_rows.specs.inner.Written.{Words, row_of, Rises, cells_on, Fits, EachFits, each_from, each_word}

-- ---- words

-- fields that rise without a carry
put_up : (k d a b p q r : ℕ) → d + p < 512 → a + q < 512 → b + r < 512 → put k (d + p) (a + q) (b + r) ≡ put k d a b + put 0 p q r
unfolding put
put_up k d a b p q r ld la lb =
    rw (small (d + p) ld, small (a + q) la, small (b + r) lb, small d (omega arith), small a (omega arith), small b (omega arith), small p (omega arith), small q (omega arith), small r (omega arith))
    (sums (k % 16) d a b p q r)
  where
    small : (x : ℕ) → x < 512 → x % 512 ≡ x
    small x l = mod-eq_of_lt l

    sums : (x d a b p q r : ℕ) → x * 2 ^ 28 + (d + p) * 2 ^ 18 + (a + q) * 2 ^ 9 + (b + r)
        ≡ x * 2 ^ 28 + d * 2 ^ 18 + a * 2 ^ 9 + b + (0 + p * 2 ^ 18 + q * 2 ^ 9 + r)
    sums x d a b p q r = omega arith

put_kind : (k d a b : ℕ) → k < 8 → put k d a b < 2 ^ 31
unfolding put
put_kind k d a b l = omega arith

put_small : (p q r : ℕ) → p < 128 → put 0 p q r < 2 ^ 25
unfolding put
put_small p q r l = omega arith

-- ---- cells

-- share 0's, the next one's, and that they are cells
on_first : (c : Cells) → cells_on c 0 ≡ c.first
on_first c = omega (arith, mul-zero c.over)

on_next : (c : Cells) (i : ℕ) → cells_on c (suc i) ≡ cells_on c i + c.over
on_next c i = omega (arith, mul-suc c.over i)

pub on_lt : (c : Cells) → Fits c → (i : ℕ) → i < 8 → cells_on c i < 512
on_lt c f i l = omega (arith, f.field, mul-le-mul_left {m = i} {n = 7} c.over (omega arith))

next_lt : (c : Cells) → Fits c → (i : ℕ) → suc i < 8 → cells_on c i + c.over < 512
next_lt c f i l = rw (on_next c i) at (on_lt c f (suc i) l)

-- ---- rows

-- words that rise by one number are in a row
in_row_is : (g : ℕ → ℕ) (over s c : ℕ) → ((i : ℕ) → suc i < s + c → g (suc i) ≡ g i + over) → map g (up_from s c) ≡ row_of (g s) over c
in_row_is g over s zero h = refl
in_row_is g over s (suc zero) h = refl
in_row_is g over s (suc (suc c)) h =
    ap (λ (r : List ℕ). g s ∷ r)
    (in_row_is g over (suc s) (suc c) (λ i m. h i (omega arith)) ∙ ap (λ (x : ℕ). row_of x over (suc c)) (h s (omega arith)))

pub row_length : (first over c : ℕ) → length (row_of first over c) ≡ c
row_length first over zero = refl
row_length first over (suc c) = ap suc (row_length (first + over) over c)

module _ (k : ℕ) (d a b : Cells) where
  -- those of cells in lines are, from any share on
  pub each_row : (s c : ℕ) → EachFits k d a b (s + c) → each_from k d a b s c ≡ row_of (put k (cells_on d s) (cells_on a s) (cells_on b s)) (put 0 d.over a.over b.over) c
  each_row s c f =
      in_row_is (λ i. put k (cells_on d i) (cells_on a i) (cells_on b i)) _ s c
      (λ i l. let m : suc i < 8 = omega (arith, f.most) in
      rw (on_next d i, on_next a i, on_next b i)
      (put_up k (cells_on d i) (cells_on a i) (cells_on b i) d.over a.over b.over (next_lt d f.fits_d i m) (next_lt a f.fits_a i m) (next_lt b f.fits_b i m)))

  pub word_row : (n : ℕ) → EachFits k d a b n → each_word k d a b n ≡ row_of (put k d.first a.first b.first) (put 0 d.over a.over b.over) n
  word_row n f =
      each_row 0 n (record { kind = f.kind; fits_d = f.fits_d; fits_a = f.fits_a; fits_b = f.fits_b; most = omega (arith, f.most) })
      ∙ rw (on_first d, on_first a, on_first b)

  pub each_rises : {n : ℕ} → EachFits k d a b n → Rises (put k d.first a.first b.first) (put 0 d.over a.over b.over) n
  each_rises f =
      record {
        kind = put_kind k d.first a.first b.first f.kind;
        small = put_small d.over a.over b.over (omega (arith, f.fits_d.field));
        most = f.most;
      }

-- ---- a row written word by word

-- of the row's words the first i are written; the next one is w
pub record Along (first over n : ℕ) (out₀ : List ℕ) (at₀ : ℕ) (out : List ℕ) (at w i : ℕ) : Type 0 where
  pub same : sets out₀ at₀ (row_of first over n) ≡ sets out at (row_of w over (n - i))
  pub place : at ≡ at₀ + i
  pub long : length out ≡ length out₀
  pub low : w ≤ first + i * 2 ^ 25

module _ (first over n : ℕ) where
  pub along : (out : List ℕ) (at : ℕ) → Along first over n out at out at first 0
  along out at =
      let e : n ≡ n - 0 = omega arith in
      record { same = ap (λ (k : ℕ). sets out at (row_of first over k)) e; place = omega arith; long = refl; low = omega arith }

  pub along_next : {out₀ : List ℕ} {at₀ : ℕ} {out : List ℕ} {at w i : ℕ} {out' : List ℕ} {at' : ℕ} → Along first over n out₀ at₀ out at w i → i < n → over < 2 ^ 25
      → Words out at (w ∷ []) out' at' → Along first over n out₀ at₀ out' at' (w + over) (i + 1)
  along_next {out = out} {at} {w} {i} {out'} {at'} l h small e =
      let left : n - i ≡ suc (n - (i + 1)) = omega arith in
      let next : suc at ≡ at' = omega (arith, e.ends) in
      record {
        same =
            l.same ∙ ap (λ (k : ℕ). sets out at (row_of w over k)) left
            ∙ ap₂ (λ (o : List ℕ) (k : ℕ). sets o k (row_of (w + over) over (n - (i + 1)))) (sym e.written) next;
        place = omega (arith, e.ends, l.place);
        long = ap length e.written ∙ length-sets out at (w ∷ []) ∙ l.long;
        low = omega (arith, l.low);
      }

  pub along_end : {out₀ : List ℕ} {at₀ : ℕ} {out : List ℕ} {at w i : ℕ} → Along first over n out₀ at₀ out at w i → i ≤ n → n ≤ i → Words out₀ at₀ (row_of first over n) out at
  along_end {out = out} {at} {w} {i} l h g =
      let none : n - i ≡ 0 = omega arith in
      record {
        written = ap (λ (k : ℕ). sets out at (row_of w over k)) (sym none) ∙ sym l.same;
        ends = omega (arith, l.place, row_length first over n);
      }

-- ADD laid out on registers: the unsplit machine's helpers H, G and P go through the adder's rounds, d becomes the sum modulo 2^64, and
-- the other registers stay. Rests on bits' adder.
use mathlib.Core.Path.{◌≡◌, refl, ap, ap₂, ◌∙◌}
use mathlib.Core.List.{List, [], ◌∷◌}
use Prim.Native.Nat.{ℕ, ◌^◌, ◌<◌}
use native.Mathlib.Omega.{arith}
use lib.Dec.{T}
use Rattle.bits.specs.Ops.{xor_w, and_w, shl_w, add_w}
use Rattle.bits.specs.Adder.{Carry, carry_round, carry_rounds, entered, adder}
use Rattle.bits.proofs.Adder.{adder_sum}
use Rattle.word.specs.declared.step.Step.{Step}
use Rattle.word.specs.declared.step.Step.TheVariants.{Xor, And, Shl}
use Rattle.word.specs.Table.{becomes}
use Rattle.masking.specs.Translation.{r_h, r_g, r_p, r_t, generated, passed, adding}
use Rattle.masking.proofs.emitted.Tests.{All, tested_all}
use Rattle.masking.proofs.joined.Cells.{Cells, upd, upd_other, upd_at, step_on}
use Rattle.masking.proofs.joined.Blocks.{unsplit_on, unsplit_off, laid}

-- ADD's steps have share steps
pub adding_laid : (d a b : ℕ) → All (λ s. T (laid s)) (adding d a b)
unfolding adding
adding_laid d a b = tested_all laid (adding d a b) tt

-- the helpers hold H and the carries, the other registers are R₀'s
record Holds (R₀ R : Cells) (H : ℕ) (c : Carry) : Type 0 where
  h : R r_h ≡ H
  g : R r_g ≡ c.G
  p : R r_p ≡ c.P
  rest : (r : ℕ) → r < 32 → R r ≡ R₀ r

abbrev entering : ℕ → ℕ → List Step
entering a b = Xor r_h a b ∷ And r_g a b ∷ Shl r_p r_h 0 ∷ []

-- "H = a XOR b; G = a AND b; P = H by SHL 0"
entered_holds : (R : Cells) (a b : ℕ) → a < 32 → b < 32 → Holds R (unsplit_on (entering a b) R) (xor_w (R a) (R b)) (entered (R a) (R b))
unfolding upd
entered_holds R a b la lb =
    record {
      h = refl;
      g = ap₂ and_w (upd_other R r_h (xor_w (R a) (R b)) a (λ e. omega arith)) (upd_other R r_h (xor_w (R a) (R b)) b (λ e. omega arith));
      p = refl;
      rest = λ r l. unsplit_off (entering a b) R r (λ e. omega arith, (λ e. omega arith, (λ e. omega arith, tt)));
    }

module _ (R₀ : Cells) (H k : ℕ) where
  -- G's half of a round
  generated_g : (R : Cells) (c : Carry) → Holds R₀ R H c → unsplit_on (generated k) R r_g ≡ (carry_round k c).G
  unfolding upd
  generated_g R c q = ap₂ (λ (x y : ℕ). xor_w x (and_w y (shl_w x k))) q.g q.p

  generated_off : (R : Cells) (r : ℕ) → (r ≡ r_g → ⊥) → (r ≡ r_t → ⊥) → unsplit_on (generated k) R r ≡ R r
  generated_off R r g t = unsplit_off (generated k) R r (t, (t, (g, tt)))

  round_holds : (R : Cells) (c : Carry) → Holds R₀ R H c → Holds R₀ (unsplit_on (passed k) (unsplit_on (generated k) R)) H (carry_round k c)
  unfolding upd
  round_holds R c q =
      record {
        h = q.h;
        g = generated_g R c q;
        p = ap (λ (x : ℕ). and_w x (shl_w x k)) q.p;
        rest = λ r l.
            unsplit_off (passed k) (unsplit_on (generated k) R) r (λ e. omega arith, (λ e. omega arith, tt))
            ∙ generated_off R r (λ e. omega arith) (λ e. omega arith) ∙ q.rest r l;
      }

-- a round as a whole
abbrev rounded : ℕ → Cells → Cells
rounded k R = unsplit_on (passed k) (unsplit_on (generated k) R)

module _ (R : Cells) (d a b : ℕ) (la : a < 32) (lb : b < 32) where
  abbrev before32 : Cells
  before32 = rounded 16 (rounded 8 (rounded 4 (rounded 2 (rounded 1 (unsplit_on (entering a b) R)))))

  abbrev before_end : Cells
  before_end = unsplit_on (generated 32) before32

  laid_out : unsplit_on (adding d a b) R ≡ unsplit_on (Shl r_t r_g 1 ∷ Xor d r_h r_t ∷ []) before_end
  unfolding adding
  laid_out = refl

  holds : Holds R before32 (xor_w (R a) (R b)) (carry_rounds (1 ∷ 2 ∷ 4 ∷ 8 ∷ 16 ∷ []) (entered (R a) (R b)))
  holds =
      let H = xor_w (R a) (R b) in
      round_holds R H 16 _ _ (round_holds R H 8 _ _ (round_holds R H 4 _ _ (round_holds R H 2 _ _ (round_holds R H 1 _ _ (entered_holds R a b la lb)))))

  -- "Then T = G SHL 1; d = H XOR T."
  sum_word : xor_w (before_end r_h) (shl_w (before_end r_g) 1) ≡ adder (R a) (R b)
  unfolding adder
  sum_word =
      ap₂ (λ (x y : ℕ). xor_w x (shl_w y 1)) (generated_off R (xor_w (R a) (R b)) 32 before32 r_h (λ e. omega arith) (λ e. omega arith) ∙ holds.h)
      (generated_g R (xor_w (R a) (R b)) 32 before32 _ holds)

  last_word : (S : Cells) → becomes (Xor d r_h r_t) (step_on (Shl r_t r_g 1) 0 S) 0 ≡ xor_w (S r_h) (shl_w (S r_g) 1)
  unfolding upd
  last_word S = refl

  pub adding_sum : R a < 2 ^ 64 → R b < 2 ^ 64 → (r : ℕ) → r < 32 → unsplit_on (adding d a b) R r ≡ upd R d (add_w (R a) (R b)) r
  adding_sum wa wb r l =
      ap (λ (S : Cells). S r) laid_out
      ∙ upd_at (step_on (Shl r_t r_g 1) 0 before_end) R d _ r
      (upd_other before_end r_t (shl_w (before_end r_g) 1) r (λ e. omega arith) ∙ generated_off R (xor_w (R a) (R b)) 32 before32 r (λ e. omega arith) (λ e. omega arith) ∙ holds.rest r l)
      ∙ ap (λ (v : ℕ). upd R d v r) (last_word before_end ∙ sum_word ∙ adder_sum (R a) (R b) wa wb)

-- The masked adder's arithmetic on unsplit words: the steps H, G, P, T give the sum modulo 2^64.
-- The carries-out K of a sum obey K = G ⊕ (P ∧ (K << k)) at window size k = 1; a round doubles k; at k = 64 nothing is left of K << k, so K = G.
-- Rests on Xor, Shift and Sum.
use mathlib.Core.Path.{◌≡◌, sym, ap, ap₂, ◌∙◌}
use mathlib.Core.List.{[], ◌∷◌}
use Prim.Native.Nat.{ℕ, ◌+◌, ◌*◌, ◌/◌, ◌%◌, ◌^◌, ◌<◌}
use native.Mathlib.Nat.{mod-eq_of_lt, div-add-mod', mul-add-mod_self_right}
use native.Mathlib.Omega.{arith}
use Rattle.bits.specs.Ops.{xor_w, and_w, shl_w, add_w}
use Rattle.bits.specs.Adder.{Carry, carry_round, carry_rounds, entered, adder, AdderAdds}
use Rattle.bits.proofs.Xor.{xor_assoc, xor_zero, xor_cancel, and_zero, and_xor, and_assoc}
use Rattle.bits.proofs.Shift.{shl_xor, shl_and, shl_shl, shl_width, shl_zero}
use Rattle.bits.proofs.Bound.{xor_lt, and_lt, add_lt}
use Rattle.bits.proofs.Sum.{maj, full_adder}

-- K's carries are made inside the window of size k (G) or come through it from k places below (P)
Carries : ℕ → ℕ → Carry → Type 0
Carries K k c = K ≡ xor_w c.G (and_w c.P (shl_w K k))

round_carries : (K k : ℕ) (c : Carry) → Carries K k c → Carries K (k + k) (carry_round k c)
unfolding Carries
round_carries K k c h =
    let e : shl_w K k ≡ xor_w (shl_w c.G k) (and_w (shl_w c.P k) (shl_w K (k + k))) =
    ap (λ (x : ℕ). shl_w x k) h ∙ simp (shl_xor, shl_and, shl_shl) in
    h ∙ ap (λ (x : ℕ). xor_w c.G (and_w c.P x)) e ∙ regroup c.G c.P (shl_w c.G k) (shl_w c.P k) (shl_w K (k + k))
  where
    regroup : (g p g' p' x : ℕ) → xor_w g (and_w p (xor_w g' (and_w p' x))) ≡ xor_w (xor_w g (and_w p g')) (and_w (and_w p p') x)
    regroup g p g' p' x = simp (and_xor, and_assoc, xor_assoc)

-- the carries out of each place of a + b: made there, or passed on from the place below
pub record CarriesOut (a b : ℕ) : Type 0 where
  pub carries : ℕ
  pub made : carries ≡ maj a b (shl_w carries 1)
  pub sum : xor_w (xor_w a b) (shl_w carries 1) ≡ add_w a b
  pub word : carries < 2 ^ 64
  pub out : carries / 2 ^ 63 ≡ (a + b) / 2 ^ 64

-- a sum and its carries-in C: C is its carries-out, one place up
module _ (a b : ℕ) (ha : a < 2 ^ 64) (hb : b < 2 ^ 64) where
  C : ℕ
  C = xor_w (xor_w a b) (add_w a b)

  K : ℕ
  K = maj a b C

  C_lt : C < 2 ^ 64
  unfolding C
  C_lt = xor_lt 64 (xor_w a b) (add_w a b) (xor_lt 64 a b ha hb) (add_lt a b)

  doubled : K * 2 ≡ (a + b) / 2 ^ 64 * 2 ^ 64 + C
  unfolding C K add_w
  doubled =
      let f : (a + b) % 2 ^ 64 + K * 2 ≡ a + b + C = ap (λ (x : ℕ). x + K * 2) (sym (xor_cancel (xor_w a b) (add_w a b))) ∙ full_adder a b C in
      omega (arith, div-add-mod' (a + b) (2 ^ 64))

  up : shl_w K 1 ≡ C
  unfolding shl_w
  up = ap (λ (x : ℕ). x % 2 ^ 64) doubled ∙ mul-add-mod_self_right ((a + b) / 2 ^ 64) (2 ^ 64) C ∙ mod-eq_of_lt C_lt

  -- a sum's carries-out, by which other adders are proved
  pub carries_out : CarriesOut a b
  unfolding K C
  carries_out =
      record {
        carries = K;
        made = ap (maj a b) (sym up);
        sum = ap (xor_w (xor_w a b)) up ∙ xor_cancel (xor_w a b) (add_w a b);
        word = xor_lt 64 (and_w a b) (and_w (xor_w a b) C) (and_lt 64 a b ha) (and_lt 64 (xor_w a b) C (xor_lt 64 a b ha hb));
        out = let c = C_lt in omega (arith, doubled);
      }

  entered_carries : Carries K 1 (entered a b)
  unfolding Carries K
  entered_carries = ap₂ (λ (p x : ℕ). xor_w (and_w a b) (and_w p x)) (sym (shl_zero (xor_w a b) (xor_lt 64 a b ha hb))) (sym up)

  through : Carries K 64 (carry_rounds (1 ∷ 2 ∷ 4 ∷ 8 ∷ 16 ∷ 32 ∷ []) (entered a b))
  through =
      let c1 = round_carries K 1 (entered a b) entered_carries in
      let c2 = round_carries K 2 (carry_rounds (1 ∷ []) (entered a b)) c1 in
      let c4 = round_carries K 4 (carry_rounds (1 ∷ 2 ∷ []) (entered a b)) c2 in
      let c8 = round_carries K 8 (carry_rounds (1 ∷ 2 ∷ 4 ∷ []) (entered a b)) c4 in
      let c16 = round_carries K 16 (carry_rounds (1 ∷ 2 ∷ 4 ∷ 8 ∷ []) (entered a b)) c8 in
      round_carries K 32 (carry_rounds (1 ∷ 2 ∷ 4 ∷ 8 ∷ 16 ∷ []) (entered a b)) c16

  sums : adder a b ≡ add_w a b
  unfolding adder Carries C
  sums =
      let c : Carry = carry_rounds (1 ∷ 2 ∷ 4 ∷ 8 ∷ 16 ∷ 32 ∷ []) (entered a b) in
      let e : c.G ≡ K = sym (through ∙ ap (λ (x : ℕ). xor_w c.G (and_w c.P x)) (shl_width K 0) ∙ ap (xor_w c.G) (and_zero c.P) ∙ xor_zero c.G) in
      ap (λ (x : ℕ). xor_w (xor_w a b) (shl_w x 1)) e ∙ ap (xor_w (xor_w a b)) up ∙ xor_cancel (xor_w a b) (add_w a b)

-- the masked adder's own steps give "a + b modulo 2^64"
pub adder_sum : AdderAdds
adder_sum = sums

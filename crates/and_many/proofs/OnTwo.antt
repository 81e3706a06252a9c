-- AND on two shares in locals: its stores to d and the wiping leave the cells as its share steps do. The parts are taken one by one on cells with y and z stored,
-- which the wiping forgets. Rests on Stores and Parts, and on and_pairs' ShareTurns and RowTurns.
use mathlib.Core.Path.{◌≡◌, refl, sym, ap, ap₂, ◌∙◌, subst}
use mathlib.Core.List.{List}
use mathlib.Core.Logic.{◌≢◌}
use Prim.Native.Nat.{ℕ, ◌+◌, ◌^◌, ◌<◌}
use native.Mathlib.Omega.{arith}
use lib.ListN.{length, get_or, set}
use lib.Seq.{get_or-set_other, set_comm}
use Rattle.bits.specs.Ops.{xor_w, and_w}
use Rattle.bits.proofs.Bound.{xor_lt, and_lt}
use Rattle.word.specs.declared.step.Step.TheVariants.{And, Shl}
use Rattle.masking.specs.Translation.{pairs, shares, refresh, products, scratch, scratch_cells, wiping, and_block}
use Rattle.masking.specs.Machine.{exec_step}
use Rattle.and_parts.specs.declared.once.Place.{Place}
use Rattle.and_parts.specs.inner.Effects.{Alike, Nearly, NearlyStill, Ran, Register, Still, at, copy_in, copy_out, diagonal}
use Rattle.and_parts.proofs.Likeness.{Other}
use Rattle.and_pairs.proofs.ShareTurns.{copy_alike, and_alike}
use Rattle.and_pairs.proofs.RowTurns.{refresh_near, cross_near}
use Rattle.and_parts.proofs.Zeros.{zeroed, wiping_zeroed}
use Rattle.and_many.proofs.Parts.{and_done}
use Rattle.and_many.proofs.Stores.{Stores, none, put, stored, Away, Scratch, Among, stored_size, read, read_other, forgets, stays}

-- ---- a step whose operands' values are known
module _ (c : List ℕ) (d x : ℕ) (od : Other d) (ox : Other x) (v : ℕ) (ev : get_or c x 0 ≡ v) where
  copy_value : v < 2 ^ 64 → (tape k : List ℕ) → Alike c k → Alike (set c d v) (exec_step (Shl d x 0) tape k)
  copy_value h tape k e =
      subst (λ (u : ℕ). Alike (set c d u) (exec_step (Shl d x 0) tape k)) ev (copy_alike c d x od ox (subst (λ (u : ℕ). u < 2 ^ 64) (sym ev) h) tape k e)

  and_value : (y : ℕ) → Other y → (u : ℕ) → get_or c y 0 ≡ u → (tape k : List ℕ) → Alike c k → Alike (set c d (and_w v u)) (exec_step (And d x y) tape k)
  and_value y oy u eu tape k e = subst (λ (w : ℕ). Alike (set c d w) (exec_step (And d x y) tape k)) (ap₂ and_w ev eu) (and_alike c d x od ox y oy tape k e)

-- what the code does before it wipes, over the cells of the shares of b, a and d
abbrev pub two_shares : List ℕ → ℕ → ℕ → ℕ → ℕ → ℕ → ℕ → ℕ → ℕ → List ℕ
two_shares c r r' b₀ b₁ a₀ a₁ d₀ d₁ =
    let k = set c 256 r in
    let y₁ = xor_w (get_or k b₁ 0) r in
    let y₀ = xor_w (get_or k b₀ 0) r in
    let x₁ = get_or k a₁ 0 in
    let x₀ = get_or k a₀ 0 in
    let s = xor_w r' (and_w x₀ y₁) in
    let w = xor_w s (and_w x₁ y₀) in
    let e = xor_w (and_w x₁ y₁) w in
    set (set (set (set (set (set k 272 s) 273 w) 272 r) d₁ e) 272 (xor_w e r)) d₀ (xor_w (and_w x₀ y₀) r')

module _ (A B D : Place) (Ra : Register A) (RB : Register B) (RD : Register D) (tape c : List ℕ) (t : ℕ) (size : length c ≡ 512) (words : (k : ℕ) → get_or c k 0 < 2 ^ 64) (fits : (k : ℕ) → get_or tape k 0 < 2 ^ 64) where
  other : (P : Place) → Register P → (i : ℕ) → i < 8 → Other (at P i)
  other P R i h = (R.away i 272 h (omega arith) (omega arith), R.away i 273 h (omega arith) (omega arith))

  abbrev r : ℕ
  r = get_or tape t 0

  abbrev r' : ℕ
  r' = get_or tape (t + 1) 0

  abbrev b₀ : ℕ
  b₀ = get_or c (at B 0) 0

  abbrev b₁ : ℕ
  b₁ = get_or c (at B 1) 0

  abbrev a₀ : ℕ
  a₀ = get_or c (at A 0) 0

  abbrev a₁ : ℕ
  a₁ = get_or c (at A 1) 0

  abbrev y₀ : ℕ
  y₀ = xor_w b₀ r

  abbrev y₁ : ℕ
  y₁ = xor_w b₁ r

  abbrev w : ℕ
  w = xor_w (xor_w r' (and_w a₀ y₁)) (and_w a₁ y₀)

  abbrev v₀ : ℕ
  v₀ = xor_w (and_w a₀ y₀) r'

  abbrev v₁ : ℕ
  v₁ = xor_w (and_w a₁ y₁) w

  -- ---- the parts, with y and z stored
  abbrev after_copy : Stores
  after_copy = put 257 b₁ (put 256 b₀ none)

  abbrev after_refresh : Stores
  after_refresh = put 257 y₁ (put 256 y₀ after_copy)

  abbrev after_diagonal : Stores
  after_diagonal = put 265 (and_w a₁ y₁) (put 264 (and_w a₀ y₀) after_refresh)

  abbrev after_cross : Stores
  after_cross = put 265 v₁ (put 264 v₀ after_diagonal)

  abbrev after : List ℕ
  after = set (set (stored after_cross c) (at D 0) v₀) (at D 1) v₁

  -- a's shares are as they were
  a_kept : (ws : Stores) → Scratch ws → (i : ℕ) → i < 8 → get_or (stored ws c) (at A i) 0 ≡ get_or c (at A i) 0
  a_kept ws s i h = read_other c size ws s (at A i) (λ k lo hi. Ra.away i k h lo hi)

  copied : NearlyStill (copy_in 2 (at B)) c (stored after_copy c)
  copied tp k e =
      copy_value (set c 256 b₀) 257 (at B 1) (λ q. omega arith, λ q. omega arith) (other B RB 1 (omega arith)) b₁
      (get_or-set_other c 256 (at B 1) b₀ 0 (RB.away 1 256 (omega arith) (omega arith) (omega arith))) (words (at B 1)) _ _
      (copy_value c 256 (at B 0) (λ q. omega arith, λ q. omega arith) (other B RB 0 (omega arith)) b₀ refl (words (at B 0)) _ _ e)

  refreshed : Nearly (refresh scratch (pairs (shares 2))) tape t (stored after_copy c) (stored after_refresh c) (t + 1)
  refreshed =
      let s : Scratch after_copy = omega arith in
      subst (λ (k : List ℕ). Nearly (refresh scratch (pairs (shares 2))) tape t (stored after_copy c) k (t + 1))
      (ap₂ (λ (u v : ℕ). set (set (stored after_copy c) 256 (xor_w u r)) 257 (xor_w v r)) (read c size after_copy s 256) (read c size after_copy s 257))
      (refresh_near 0 1 (omega arith) (omega arith) tape t (stored after_copy c) (stored_size after_copy c ∙ size))

  squared : NearlyStill (diagonal 2 (at A)) (stored after_refresh c) (stored after_diagonal c)
  squared tp k e =
      let s : Scratch after_refresh = omega arith in
      let ws = put 264 (and_w a₀ y₀) after_refresh in
      let s' : Scratch ws = omega arith in
      and_value (stored ws c) 265 (at A 1) (λ q. omega arith, λ q. omega arith) (other A Ra 1 (omega arith)) a₁ (a_kept ws s' 1 (omega arith))
      257 (λ q. omega arith, λ q. omega arith) y₁ (read c size ws s' 257) _ _
      (and_value (stored after_refresh c) 264 (at A 0) (λ q. omega arith, λ q. omega arith) (other A Ra 0 (omega arith)) a₀ (a_kept after_refresh s 0 (omega arith))
      256 (λ q. omega arith, λ q. omega arith) y₀ (read c size after_refresh s 256) _ _ e)

  crossed : Nearly (products scratch (at A) (pairs (shares 2))) tape (t + 1) (stored after_diagonal c) (stored after_cross c) (t + 1 + 1)
  crossed =
      let s : Scratch after_diagonal = omega arith in
      let now = stored after_diagonal c in
      let e = ap₂ xor_w (ap (xor_w r') (ap₂ and_w (a_kept after_diagonal s 0 (omega arith)) (read c size after_diagonal s 257))) (ap₂ and_w (a_kept after_diagonal s 1 (omega arith)) (read c size after_diagonal s 256)) in
      subst (λ (k : List ℕ). Nearly (products scratch (at A) (pairs (shares 2))) tape (t + 1) now k (t + 1 + 1))
      (ap₂ (λ (u v : ℕ). set (set now 264 (xor_w u r')) 265 v) (read c size after_diagonal s 264) (ap₂ xor_w (read c size after_diagonal s 265) e))
      (cross_near 0 1 (omega arith) (omega arith) tape (t + 1) A Ra now (stored_size after_diagonal c ∙ size))

  small_w : w < 2 ^ 64
  small_w = xor_lt 64 (xor_w r' (and_w a₀ y₁)) (and_w a₁ y₀) (xor_lt 64 r' (and_w a₀ y₁) (fits (t + 1)) (and_lt 64 a₀ y₁ (words (at A 0)))) (and_lt 64 a₁ y₀ (words (at A 1)))

  small₀ : v₀ < 2 ^ 64
  small₀ = xor_lt 64 (and_w a₀ y₀) r' (and_lt 64 a₀ y₀ (words (at A 0))) (fits (t + 1))

  small₁ : v₁ < 2 ^ 64
  small₁ = xor_lt 64 (and_w a₁ y₁) w (and_lt 64 a₁ y₁ (words (at A 1))) small_w

  copied_out : NearlyStill (copy_out 2 (at D)) (stored after_cross c) after
  copied_out tp k e =
      let s : Scratch after_cross = omega arith in
      copy_value (set (stored after_cross c) (at D 0) v₀) (at D 1) 265 (other D RD 1 (omega arith)) (λ q. omega arith, λ q. omega arith) v₁
      (get_or-set_other (stored after_cross c) (at D 0) 265 v₀ 0 (λ q. RD.away 0 265 (omega arith) (omega arith) (omega arith) (sym q)) ∙ read c size after_cross s 265) small₁ _ _
      (copy_value (stored after_cross c) (at D 0) 264 (other D RD 0 (omega arith)) (λ q. omega arith, λ q. omega arith) v₀ (read c size after_cross s 264) small₀ _ _ e)

  -- ---- the wiping
  abbrev ks : List ℕ
  ks = scratch_cells scratch 2

  away : (i : ℕ) → i < 8 → Away (at D i) ks
  away i h = (RD.away i 256 h (omega arith) (omega arith), (RD.away i 257 h (omega arith) (omega arith), (RD.away i 264 h (omega arith) (omega arith), (RD.away i 265 h (omega arith) (omega arith), (RD.away i 272 h (omega arith) (omega arith), (RD.away i 273 h (omega arith) (omega arith), tt))))))

  stays_out : (ws : Stores) → Among ws ks → zeroed ks (set (set (stored ws c) (at D 0) v₀) (at D 1) v₁) ≡ set (set (zeroed ks c) (at D 0) v₀) (at D 1) v₁
  stays_out ws m =
      stays ks (at D 1) v₁ (set (stored ws c) (at D 0) v₀) (away 1 (omega arith))
      ∙ ap (λ (l : List ℕ). set l (at D 1) v₁) (stays ks (at D 0) v₀ (stored ws c) (away 0 (omega arith)) ∙ ap (λ (l : List ℕ). set l (at D 0) v₀) (forgets ks ws c m))

  -- what is in y_0, t and u
  abbrev in_y : Stores
  in_y = put 256 r none

  abbrev before : Stores
  before = put 272 r (put 273 w (put 272 (xor_w r' (and_w a₀ y₁)) in_y))

  abbrev in_t : Stores
  in_t = put 272 (xor_w v₁ r) before

  abbrev by_loads : ℕ → ℕ → ℕ → ℕ → List ℕ
  by_loads u v x z =
      let s = xor_w r' (and_w x (xor_w v r)) in
      let m = xor_w s (and_w z (xor_w u r)) in
      let e = xor_w (and_w z (xor_w v r)) m in
      set (set (set (set (set (set (stored in_y c) 272 s) 273 m) 272 r) (at D 1) e) 272 (xor_w e r)) (at D 0) (xor_w (and_w x (xor_w u r)) r')

  kept : (P : Place) → Register P → (i : ℕ) → i < 8 → get_or (stored in_y c) (at P i) 0 ≡ get_or c (at P i) 0
  kept P R i h = get_or-set_other c 256 (at P i) r 0 (R.away i 256 h (omega arith) (omega arith))

  distinct : at D 1 ≢ at D 0
  distinct e = omega (arith, RD.spread)

  code_kept : two_shares c r r' (at B 0) (at B 1) (at A 0) (at A 1) (at D 0) (at D 1) ≡ set (set (stored in_t c) (at D 0) v₀) (at D 1) v₁
  code_kept =
      (λ i. by_loads (kept B RB 0 (omega arith) i) (kept B RB 1 (omega arith) i) (kept A Ra 0 (omega arith) i) (kept A Ra 1 (omega arith) i))
      ∙ ap (λ (l : List ℕ). set l (at D 0) v₀) (set_comm (stored before c) (at D 1) 272 v₁ (xor_w v₁ r) (RD.away 1 272 (omega arith) (omega arith) (omega arith)))
      ∙ set_comm (stored in_t c) (at D 1) (at D 0) v₁ v₀ distinct

  same_zeros : zeroed ks (two_shares c r r' (at B 0) (at B 1) (at A 0) (at A 1) (at D 0) (at D 1)) ≡ zeroed ks after
  same_zeros = ap (zeroed ks) code_kept ∙ stays_out in_t (tt, (tt, (tt, (tt, (tt, tt))))) ∙ sym (stays_out after_cross (tt, (tt, (tt, (tt, (tt, (tt, (tt, (tt, tt)))))))))

  -- over the cells' numbers as the code has them
  pub two_done : (b₀' b₁' a₀' a₁' d₀' d₁' : ℕ) → b₀' ≡ at B 0 → b₁' ≡ at B 1 → a₀' ≡ at A 0 → a₁' ≡ at A 1 → d₀' ≡ at D 0 → d₁' ≡ at D 1
      → (k : List ℕ) → Still (wiping ks) (two_shares c r r' b₀' b₁' a₀' a₁' d₀' d₁') k → Ran (and_block scratch 2 (at D) (at A) (at B)) tape t c k (t + 2)
  two_done b₀' b₁' a₀' a₁' d₀' d₁' e f g h m n k s =
      let code = two_shares c r r' b₀' b₁' a₀' a₁' d₀' d₁' in
      let two : t + 1 + 1 ≡ t + 2 = omega arith in
      let same : code ≡ two_shares c r r' (at B 0) (at B 1) (at A 0) (at A 1) (at D 0) (at D 1) = λ i. two_shares c r r' (e i) (f i) (g i) (h i) (m i) (n i) in
      subst (λ (next : ℕ). Ran (and_block scratch 2 (at D) (at A) (at B)) tape t c k next) two
      (and_done 2 (at D) (at A) (at B) tape t copied refreshed squared crossed copied_out
      (λ tp. s tp ∙ wiping_zeroed ks tp code ∙ ap (zeroed ks) same ∙ same_zeros ∙ sym (wiping_zeroed ks tp after)))

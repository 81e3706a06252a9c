-- What the sum's plan computes, as named functions of words: each is a segment's result in terms of what the segment reads.
-- That the run of the plan gives just this is by computation. Rests on Registers, Shifts, AddWithRun, TopRun and RunOfOnes.
use mathlib.Core.Path.{◌≡◌, refl}
use Prim.Native.Nat.{ℕ, ◌-◌, ◌/◌, ◌^◌}
use lib.ListN.{get_or}
use Rattle.bits.specs.Ops.{xor_w, and_w, not_w, shl_w, shr_w, spread_w}
use Rattle.plain.specs.Machine.{stepped}
use Rattle.plans.specs.words.SumPlan.{sum_steps}
use Rattle.plans.proofs.Shifts.{lowest, exponent_w}
use Rattle.plans.proofs.RunOfOnes.{next_n, next_f, stage_and, run_of, or_of}
use Rattle.plans.proofs.CarryRun.{carry_n}
use Rattle.plans.proofs.AddWithRun.{pair_and, pair_g, pair_n, Words, begin, pair}
use Rattle.plans.proofs.TopRun.{top_start}
use Rattle.plans.proofs.Registers.{run_steps, tab}

-- ---- carries, run and the lanes that ride beside them
pub record Riding : Type 0 where
  pub words : Words
  pub lanes : ℕ

unfoldable pub ride_and : ℕ → Riding → ℕ
ride_and k r =
    let p : ℕ = shr_w (not_w r.words.N) 48 in
    and_w (xor_w (xor_w p (shl_w p 48)) (shl_w r.lanes 16))
    (xor_w (xor_w (shl_w r.words.G k) (shr_w (shl_w r.words.N k) 48)) (shl_w (shr_w r.lanes (8 / k)) 16))

abbrev pub ride : ℕ → Riding → Riding
ride k r =
    let t : ℕ = ride_and k r in
    record { words = record { G = xor_w r.words.G (shl_w (shr_w t 48) 48); N = xor_w r.words.N (shl_w t 48) }; lanes = shr_w (shl_w t 16) 32 }

-- ---- order: E_y + NOT E_x, whose carry out tells whether E_y > E_x; beside it tests of both exponents
unfoldable pub compare_lanes : ℕ → ℕ → ℕ
compare_lanes x y = shr_w (shl_w (not_w (xor_w (shl_w (exponent_w y) 16) (exponent_w x))) 32) 32

unfoldable pub compare_w : ℕ → ℕ → Riding
compare_w x y =
    ride 8 (ride 4 (ride 2 (ride 1 (record { words = top_start (shl_w (exponent_w y) 48) (shl_w (not_w (exponent_w x)) 48); lanes = compare_lanes x y }))))

unfoldable pub first_w : Words → ℕ
first_w c = spread_w (not_w (shr_w c.G 63))

unfoldable pub near_w : ℕ → ℕ → Words → ℕ
near_w x y c =
    shr_w (shl_w (xor_w (shr_w (xor_w (xor_w (shl_w (exponent_w y) 48) (shl_w (not_w (exponent_w x)) 48)) (shl_w c.G 1)) 48) (first_w c)) 53) 53

unfoldable pub larger_w : ℕ → ℕ → ℕ → ℕ
larger_w x y f = xor_w y (and_w (xor_w x y) f)

unfoldable pub smaller_w : ℕ → ℕ → ℕ → ℕ
smaller_w x y f = xor_w x (and_w (xor_w x y) f)

-- ---- significands
unfoldable pub significand10 : ℕ → ℕ
significand10 a = xor_w (shr_w (shl_w a 12) 2) (shl_w 1 62)

unfoldable pub significand9 : ℕ → ℕ
significand9 b = xor_w (shr_w (shl_w b 12) 3) (shl_w 1 61)

-- ---- the first shift, and one added to D beside it where m is all ones, by the run N
unfoldable pub exact_and : ℕ → ℕ → ℕ → ℕ → ℕ
exact_and N m xy w =
    let c : ℕ = not_w (shr_w N 48) in
    and_w (xor_w (xor_w (shr_w (shl_w c 56) 56) (shl_w (shr_w c 8) 62)) (xor_w (shr_w w 1) w))
    (xor_w (xor_w (shl_w (shr_w (spread_w (shr_w xy 52)) 10) 8) (shr_w m 56)) (shl_w (shr_w m 62) 62))

unfoldable pub exact_d : ℕ → ℕ → ℕ → ℕ
exact_d D m t = xor_w (xor_w D (shl_w (xor_w (shr_w (shl_w t 56) 56) (shl_w (shr_w t 62) 8)) 1)) (shr_w m 63)

unfoldable pub exact_w : ℕ → ℕ → ℕ
exact_w w t = xor_w w (shl_w (shr_w (shl_w t 2) 10) 8)

-- ---- w shifted right by s where c is odd: what changes in it, and what it is then
unfoldable pub changed_w : ℕ → ℕ → ℕ → ℕ
changed_w s c w = and_w (xor_w (shr_w w s) w) (spread_w c)

unfoldable pub right_w : ℕ → ℕ → ℕ → ℕ
right_w s c w = xor_w w (changed_w s c w)

-- eight bits that are all ones where d < 64 and no exponent is 0, by the tests z
unfoldable pub used_w : ℕ → ℕ → ℕ
used_w d z = shr_w (shl_w (not_w (xor_w (xor_w (shr_w d 6) (shr_w (shl_w z 63) 58)) (shr_w (shl_w (shr_w z 16) 63) 57))) 56) 56

-- the shift by 2, with v's bits beside it
unfoldable pub second_and : ℕ → ℕ → ℕ → ℕ
second_and d v w = and_w (xor_w (xor_w (shr_w w 2) w) (shr_w (shl_w v 60) 60)) (xor_w (shl_w (shr_w (spread_w (shr_w d 1)) 6) 6) (shr_w v 4))

unfoldable pub second_rider : ℕ → ℕ
second_rider t = shr_w (shl_w t 58) 58

unfoldable pub small_w : ℕ → ℕ → ℕ → ℕ
small_w d t w = right_w 4 (shr_w d 2) (xor_w w (xor_w t (second_rider t)))

unfoldable pub large_w : ℕ → ℕ → ℕ
large_w d w = right_w 32 (shr_w d 5) (right_w 16 (shr_w d 4) (right_w 8 (shr_w d 3) w))

-- the bits that the three shifts lose
unfoldable pub refold_w : ℕ → ℕ → ℕ
refold_w s t = xor_w t (shr_w t s)

unfoldable pub lost_w : ℕ → ℕ → ℕ
lost_w d w =
    let w₄ : ℕ = right_w 8 (shr_w d 3) w in
    let w₅ : ℕ = right_w 16 (shr_w d 4) w₄ in
    xor_w
    (xor_w (shr_w (shl_w (refold_w 32 (refold_w 16 (refold_w 8 (changed_w 8 (shr_w d 3) w)))) 56) 48)
    (shr_w (shl_w (refold_w 32 (refold_w 16 (changed_w 16 (shr_w d 4) w₄))) 48) 32))
    (shl_w (refold_w 32 (changed_w 32 (shr_w d 5) w₅)) 32)

-- ---- the bits lost, brought to 16 bits and inverted, with bits r beside them from place 32 on
unfoldable pub lost32 : ℕ → ℕ → ℕ
lost32 l r = let n : ℕ = not_w l in and_w (xor_w (shr_w (shl_w n 32) 32) (shl_w r 32)) (xor_w (shr_w n 32) (shl_w (shr_w r 2) 32))

unfoldable pub lost16 : ℕ → ℕ
lost16 f =
    let n : ℕ = shr_w (shl_w f 32) 32 in
    let r : ℕ = shr_w f 32 in
    and_w (xor_w n (shl_w r 32)) (xor_w (shr_w n 16) (shl_w (shr_w r 1) 32))

-- the aligned operand, and the 16 bits
pub record Aligned : Type 0 where
  pub value : ℕ
  pub kept : ℕ

unfoldable pub aligned_w : ℕ → ℕ → Aligned
aligned_w w f = record { value = and_w (shl_w w 1) (spread_w (shr_w f 32)); kept = shr_w (shl_w f 48) 48 }

-- b aligned, from a's and b's exponents compared: D, the run N, all ones m where y's exponent is the larger, and the tests z
abbrev pub align_w : ℕ → ℕ → ℕ → ℕ → ℕ → ℕ → Aligned
align_w b D N z m xy =
    let t : ℕ = exact_and N m xy (significand9 b) in
    let d : ℕ = exact_d D m t in
    let w : ℕ = exact_w (significand9 b) t in
    let t₂ : ℕ = second_and d (used_w d z) w in
    let w₃ : ℕ = small_w d t₂ w in
    aligned_w (large_w d w₃) (lost16 (lost32 (lost_w d w₃) (second_rider t₂)))

-- ---- A + B or A + NOT B, with bits r and s beside a step
unfoldable pub ridden_and : ℕ → ℕ → ℕ → Words → ℕ
ridden_and k r s w = and_w (xor_w (shl_w w.G k) s) (xor_w (shl_w (shr_w (not_w w.N) 10) 10) r)

unfoldable pub rider : ℕ → ℕ
rider t = shr_w (shl_w t 54) 54

abbrev pub ridden : ℕ → ℕ → ℕ → Words → Words
ridden k r s w = let t : ℕ = ridden_and k r s w in record { G = xor_w w.G (xor_w t (rider t)); N = carry_n k w.N }

-- the sum's words, the sticky bit, and that where the signs differ
pub record Summed : Type 0 where
  pub words : Words
  pub sticky : ℕ
  pub borrowed : ℕ

unfoldable pub summed_w : ℕ → ℕ → ℕ → ℕ → Summed
summed_w A C K u =
    let w₀ : Words = begin A C in
    let r₁ : ℕ = shr_w (shl_w K 56) 56 in
    let s₁ : ℕ = shr_w K 8 in
    let w₁ : Words = ridden 1 r₁ s₁ w₀ in
    let r₂ : ℕ = rider (ridden_and 1 r₁ s₁ w₀) in
    let w₂ : Words = ridden 2 r₂ (shr_w r₂ 4) w₁ in
    let r₃ : ℕ = rider (ridden_and 2 r₂ (shr_w r₂ 4) w₁) in
    let w₃ : Words = ridden 4 r₃ (shr_w r₃ 2) w₂ in
    let r₄ : ℕ = rider (ridden_and 4 r₃ (shr_w r₃ 2) w₂) in
    let w₄ : Words = ridden 8 r₄ (shr_w r₄ 1) w₃ in
    let st : ℕ = xor_w (rider (ridden_and 8 r₄ (shr_w r₄ 1) w₃)) 1 in
    record { words = pair 32 32 (ridden 16 st u w₄); sticky = st; borrowed = rider (ridden_and 16 st u w₄) }

-- NOT B where the signs differ
unfoldable pub turned_w : ℕ → ℕ → ℕ
turned_w B xy = xor_w B (spread_w (shr_w xy 63))

unfoldable pub around_w : ℕ → ℕ → ℕ → Summed → ℕ
around_w A C u r =
    let c : ℕ = shr_w r.words.G 63 in
    xor_w (xor_w (xor_w (xor_w (xor_w A C) (shl_w r.words.G 1)) (and_w (not_w (shl_w r.words.N 1)) (spread_w (xor_w c r.borrowed)))) (spread_w (xor_w u c))) (xor_w r.sticky r.borrowed)

unfoldable pub around_sign : ℕ → ℕ → Summed → ℕ
around_sign a u r = xor_w (shr_w a 63) (xor_w u (shr_w r.words.G 63))

-- ---- leading zeros
unfoldable pub or_shr : ℕ → ℕ → ℕ
or_shr s t = xor_w t (xor_w (shr_w t s) (and_w t (shr_w t s)))

unfoldable pub leading_w : ℕ → ℕ
leading_w z = not_w (or_shr 32 (or_shr 16 (or_shr 8 (or_shr 4 (or_shr 2 (or_shr 1 (shl_w z 0)))))))

unfoldable pub fold_w : ℕ → ℕ → ℕ
fold_w s y = xor_w y (shr_w y s)

unfoldable pub left_w : ℕ → ℕ → ℕ → ℕ
left_w s y z = xor_w z (and_w (xor_w (shl_w z s) z) (spread_w y))

-- x folded has bit k of the count less 1 in its place 0
unfoldable pub count_w : ℕ → ℕ → ℕ → ℕ
count_w k x mu = xor_w mu (shr_w (shl_w x 63) (63 - k))

-- the folded leading ones, z, twice the leading ones folded, and the count less 1, after a stage
pub record Normal : Type 0 where
  pub folded : ℕ
  pub value : ℕ
  pub twice : ℕ
  pub count : ℕ

abbrev pub stage : ℕ → Normal → Normal
stage k n =
    let y : ℕ = fold_w (2 ^ k) n.folded in
    let x : ℕ = fold_w (2 ^ k) n.twice in
    record { folded = y; value = left_w (2 ^ k) y n.value; twice = x; count = count_w k x n.count }

unfoldable pub count_start : ℕ → ℕ
count_start th = xor_w (shr_w (shl_w th 63) 52) (shr_w (spread_w (shr_w (not_w th) 63)) 48)

abbrev pub normal_start : ℕ → Normal
normal_start z = let th : ℕ = leading_w z in record { folded = shl_w th 0; value = z; twice = shl_w th 1; count = count_start th }

unfoldable pub normal_w : ℕ → Normal
normal_w z = stage 0 (stage 1 (stage 2 (stage 3 (stage 4 (stage 5 (normal_start z))))))

-- ---- the exponent: NOT E_a + mu in the top places; beside the first AND, in place 0, whether there is one leading zero and E_a is odd
unfoldable pub first_and : ℕ → ℕ → ℕ → ℕ
first_and e mu th = and_w (xor_w (shl_w (not_w e) 48) (shr_w (xor_w (shl_w th 1) th) 63)) (xor_w (shl_w mu 48) (lowest e))

-- whether there is none, or that
unfoldable pub few_w : ℕ → ℕ → ℕ → ℕ
few_w e mu th = xor_w (lowest (first_and e mu th)) (shr_w (not_w th) 63)

-- two lanes, inverted
unfoldable pub result_lanes : ℕ → ℕ → ℕ → ℕ
result_lanes e q xy =
    shr_w (shl_w (not_w (xor_w (xor_w (xor_w (shr_w e 1) 1023) (shl_w (xor_w 1 q) 10)) (shl_w (xor_w (shl_w (shr_w (not_w xy) 63) 11) e) 16))) 32) 32

abbrev pub ride_start : ℕ → ℕ → ℕ → ℕ → Riding
ride_start e mu th xy =
    record {
      words =
          record {
            G = shl_w (shr_w (first_and e mu th) 48) 48;
            N = shl_w (shr_w (not_w (xor_w (shl_w (not_w e) 48) (shl_w mu 48))) 48) 48;
          };
      lanes = result_lanes e (few_w e mu th) xy;
    }

unfoldable pub exponent_run : ℕ → ℕ → ℕ → ℕ → Riding
exponent_run e mu th xy = ride 8 (ride 4 (ride 2 (ride 1 (ride_start e mu th xy))))

unfoldable pub less_w : ℕ → ℕ → Words → ℕ
less_w e mu w = xor_w (xor_w (shl_w (not_w e) 48) (shl_w mu 48)) (shl_w w.G 1)

unfoldable pub under_w : ℕ → Words → ℕ
under_w s w = shr_w (xor_w (shl_w w.N 1) s) 63

unfoldable pub packed_w : ℕ → ℕ → ℕ
packed_w s z = shr_w (shl_w (xor_w (shl_w (shr_w (not_w s) 48) 52) (shr_w (shl_w z 1) 12)) 1) 1

-- ---- rounding by the run of ones
unfoldable pub dropped_w : ℕ → ℕ
dropped_w z = xor_w (shr_w (shl_w z 54) 54) (shr_w (shl_w (shr_w z 11) 63) 53)

unfoldable pub rounded_w : ℕ → ℕ → ℕ
rounded_w Y z =
    let g : ℕ = shr_w z 10 in
    let F : ℕ = xor_w (dropped_w z) (shl_w (not_w g) 63) in
    xor_w Y (and_w (not_w (shl_w (run_of (not_w Y) F) 1)) (spread_w (xor_w (not_w (or_of (not_w Y) F)) g)))

-- ---- the choice by range, with the sign sg, which is dropped where n is odd
unfoldable pub chosen_w : ℕ → ℕ → ℕ → ℕ → ℕ → ℕ
chosen_w Y sg under over n =
    xor_w
    (and_w (xor_w (shr_w (shl_w Y 1) 1) (shl_w sg 63)) (xor_w (shr_w (spread_w (not_w (xor_w under over))) 1) (shl_w (not_w n) 63)))
    (shl_w (shr_w (spread_w over) 53) 52)

-- ---- the whole: from z and its sign to the result
abbrev pub closing : ℕ → ℕ → ℕ → ℕ → Normal → ℕ
closing a xy sg th n =
    let e : ℕ = exponent_w a in
    let r : Riding = exponent_run e n.count th xy in
    let s : ℕ = less_w e n.count r.words in
    chosen_w (rounded_w (packed_w s n.value) n.value) sg (under_w s r.words) r.lanes (xor_w (shr_w r.lanes 16) th)

unfoldable pub finish_w : ℕ → ℕ → ℕ → ℕ → ℕ
finish_w a xy sg z = closing a xy sg (leading_w z) (normal_w z)

abbrev pub added_w : ℕ → Aligned → ℕ → ℕ
added_w a b xy =
    let A : ℕ = significand10 a in
    let C : ℕ = turned_w b.value xy in
    let u : ℕ = shr_w xy 63 in
    let r : Summed = summed_w A C b.kept u in
    finish_w a xy (around_sign a u r) (around_w A C u r)

unfoldable pub sum_model : ℕ → ℕ → ℕ
sum_model x y =
    let c : Riding = compare_w x y in
    let f : ℕ = first_w c.words in
    let xy : ℕ = xor_w x y in
    added_w (larger_w x y f) (align_w (smaller_w x y f) (near_w x y c.words) c.words.N c.lanes (not_w f) xy) xy

-- the plan's run, from any registers
pub sum_run : (f : ℕ → ℕ) → get_or (run_steps sum_steps (tab f 0 32)) 2 0 ≡ sum_model (f 0) (f 1)
unfolding sum_steps stepped sum_model compare_lanes compare_w ride_and first_w near_w larger_w smaller_w significand10 significand9 exact_and exact_d exact_w used_w second_and second_rider changed_w right_w small_w large_w refold_w lost_w lost32 lost16 aligned_w ridden_and rider summed_w turned_w around_w around_sign or_shr leading_w fold_w left_w count_w count_start normal_w first_and few_w result_lanes exponent_run less_w under_w packed_w dropped_w rounded_w chosen_w finish_w top_start carry_n pair_and pair_g pair_n run_of or_of next_n next_f stage_and
sum_run f = refl

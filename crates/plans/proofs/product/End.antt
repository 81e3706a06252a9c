-- The product's last segments as named functions of words, and that the run of the segments gives just these, by computation.
-- Rests on Registers, Shifts and AddWithRun.
use mathlib.Core.Path.{◌≡◌, refl, sym, ap, ◌∙◌}
use mathlib.Core.List.{List}
use Prim.Native.Nat.{ℕ}
use lib.ListN.{length, get_or}
use Rattle.bits.specs.Ops.{xor_w, and_w, not_w, shl_w, shr_w, spread_w}
use Rattle.plain.specs.Machine.{stepped}
use Rattle.plans.specs.words.Segments.{zero_tests}
use Rattle.plans.specs.words.CarryRun.{add_with_run, carry_step, paired_step}
use Rattle.plans.specs.words.ProductPlan.{product_end, high_half, bit_factors, fold32, bit_factors_again, fold16, tests, bit_products, round_steps, ranges, normalise, choose}
use Rattle.plans.proofs.Registers.{run_steps, tab, tabbed}
use Rattle.plans.proofs.Shifts.{lowest, exponent_w}
use Rattle.plans.proofs.Lanes.{zeros16}
use Rattle.plans.proofs.CarryRun.{carry_g, carry_n}
use Rattle.plans.proofs.AddWithRun.{pair_and, pair_g, pair_n, Words, whole_run}

-- the 32 low bits, the 52 low bits; a rider from place k on
abbrev pub low32 : ℕ → ℕ
low32 a = shr_w (shl_w a 32) 32

abbrev pub low52 : ℕ → ℕ
low52 a = shr_w (shl_w a 12) 12

abbrev pub ridden : ℕ → ℕ → ℕ → ℕ
ridden k a r = xor_w a (shl_w r k)

-- registers 10, 16 and 18 after `bit_factors`
unfoldable pub parity_w : ℕ → ℕ → ℕ → ℕ
parity_w x y R = shr_w (xor_w (xor_w x y) R) 52

unfoldable pub first_w : ℕ → ℕ → ℕ
first_w low R = xor_w (xor_w (shr_w low 63) (shr_w (shl_w R 63) 62)) (shl_w (shr_w R 63) 2)

unfoldable pub second_w : ℕ → ℕ → ℕ → ℕ
second_w low R P = xor_w (xor_w (shr_w (shl_w low 1) 63) (shr_w (shl_w (not_w P) 63) 62)) (shl_w (shr_w (shl_w R 1) 63) 2)

-- zero where the bits of q below l0 are all ones; two foldings with riders
unfoldable pub inverted_w : ℕ → ℕ
inverted_w low = shl_w (not_w (shr_w low 11)) 13

unfoldable pub fold32_w : ℕ → ℕ → ℕ → ℕ
fold32_w n p q = and_w (ridden 32 (low32 n) p) (ridden 32 (shr_w n 32) q)

unfoldable pub fold16_w : ℕ → ℕ → ℕ → ℕ
fold16_w n p q = and_w (ridden 32 (low32 n) p) (ridden 32 (shr_w (low32 n) 16) q)

unfoldable pub folded_w : ℕ → ℕ
folded_w n = shr_w (shl_w (not_w n) 48) 48

-- the riders of the second folding: p and q those of the first, r what came of them
unfoldable pub only_w : ℕ → ℕ → ℕ
only_w p r = xor_w (lowest p) (lowest r)

unfoldable pub only_both_w : ℕ → ℕ → ℕ → ℕ
only_both_w p q r = xor_w (only_w q r) (shl_w (only_w p r) 1)

unfoldable pub top_both_w : ℕ → ℕ → ℕ
top_both_w q r = xor_w (shr_w (shl_w r 62) 63) (shl_w (shr_w (shl_w q 62) 63) 1)

-- the tests' lanes
unfoldable pub edge_w : ℕ → ℕ
edge_w X = xor_w X (shr_w X 1)

unfoldable pub lanes_w : ℕ → ℕ → ℕ → ℕ → ℕ
lanes_w K x y R = xor_w (xor_w (xor_w K (shl_w (exponent_w x) 16)) (shl_w (exponent_w y) 32)) (shl_w (edge_w (xor_w (shr_w R 52) 1024)) 53)

-- the two factors of `bit_products`, from the tests Z, from what came of the second riders t, and from Y
unfoldable pub tests_w : ℕ → ℕ
tests_w Z = xor_w (xor_w (xor_w (lowest Z) (shl_w (lowest Z) 1)) (shl_w (shr_w (shl_w (not_w Z) 47) 63) 2)) (shl_w (shr_w (shl_w Z 15) 63) 3)

unfoldable pub terms_w : ℕ → ℕ → ℕ → ℕ → ℕ
terms_w t Y Z R = xor_w (xor_w (xor_w (xor_w (xor_w (shr_w t 1) Y) (lowest t)) (shl_w Y 1)) (shl_w (shr_w (shl_w (not_w Z) 31) 63) 2)) (shl_w (shr_w R 63) 3)

-- odd where rounding goes up; v is the two factors' AND
unfoldable pub carry_w : ℕ → ℕ → ℕ → ℕ
carry_w r t v = xor_w (xor_w (lowest r) (shr_w t 1)) v

unfoldable pub last_w : ℕ → ℕ → ℕ
last_w v low = lowest (xor_w (xor_w (shr_w v 1) (shr_w low 63)) (shr_w low 62))

unfoldable pub rounded_w : ℕ → ℕ → ℕ → ℕ
rounded_w R N c = xor_w R (and_w (not_w (shl_w N 1)) (spread_w c))

unfoldable pub range_w : ℕ → ℕ → ℕ → ℕ → ℕ → ℕ
range_w R G Z r v = xor_w (lowest (xor_w (xor_w (shr_w R 63) (shr_w R 62)) (shr_w Z 48))) (shl_w (xor_w (xor_w (shr_w r 2) (shr_w v 3)) (shr_w G 63)) 1)

unfoldable pub nonzero_w : ℕ → ℕ
nonzero_w v = xor_w (shr_w (shl_w v 61) 63) (shl_w (shr_w (shl_w v 61) 63) 1)

-- the change of the fraction, with riders i and j from place 52 on; W is the rounded word
unfoldable pub change_w : ℕ → ℕ → ℕ → ℕ → ℕ → ℕ
change_w W d P i j = and_w (ridden 52 (low52 (xor_w (xor_w (shl_w W 1) d) W)) i) (ridden 52 (shr_w (spread_w P) 12) j)

unfoldable pub chosen_w : ℕ → ℕ → ℕ → ℕ
chosen_w W one k = xor_w (and_w (xor_w W (shl_w one 62)) (shr_w (spread_w k) 1)) (shl_w (shr_w (spread_w (shr_w k 1)) 53) 52)

unfoldable pub signed_w : ℕ → ℕ → ℕ → ℕ
signed_w x y m = xor_w m (shl_w (shr_w (xor_w x y) 63) 63)

unfoldable pub finished_w : ℕ → ℕ → ℕ → ℕ → ℕ → ℕ
finished_w x y one W k = signed_w x y (chosen_w (xor_w W (low52 k)) one (shr_w k 52))

-- all from the tests Z and the AND v on; from the second folding m on; from the first folding n on; from the high half on
unfoldable pub closing_w : ℕ → ℕ → ℕ → ℕ → ℕ → ℕ → ℕ → ℕ → ℕ → ℕ → ℕ → ℕ → ℕ
closing_w x y low one R G N P r t Z v =
    let W : ℕ = rounded_w R N (carry_w r t v) in
    finished_w x y one W (change_w W (last_w v low) P (range_w R G Z r v) (nonzero_w v))

unfoldable pub tested_w : ℕ → ℕ → ℕ → ℕ → ℕ → ℕ → ℕ → ℕ → ℕ → ℕ → ℕ → ℕ
tested_w x y low one R G N P r Y m =
    let Z : ℕ = zeros16 (lanes_w (folded_w m) x y R) in
    closing_w x y low one R G N P r (shr_w m 32) Z (and_w (tests_w Z) (terms_w (shr_w m 32) Y Z R))

unfoldable pub paired_w : ℕ → ℕ → ℕ → ℕ → ℕ → ℕ → ℕ → ℕ → ℕ → ℕ → ℕ → ℕ
paired_w x y low one R G N P p q n =
    let r : ℕ = shr_w n 32 in
    tested_w x y low one R G N P r (only_w p r) (fold16_w n (only_both_w p q r) (top_both_w q r))

unfoldable pub after_w : ℕ → ℕ → ℕ → ℕ → ℕ → ℕ → ℕ → ℕ
after_w x y low one R G N =
    let P : ℕ = parity_w x y R in
    paired_w x y low one R G N P (first_w low R) (second_w low R P) (fold32_w (not_w (inverted_w low)) (first_w low R) (second_w low R P))

-- the carries and the run of S + C, and all the rest
abbrev pub end_w : ℕ → ℕ → ℕ → ℕ → ℕ → ℕ → ℕ
end_w x y S C low one = let h : Words = whole_run S C in after_w x y low one (xor_w (xor_w S C) (shl_w h.G 1)) h.G h.N

end_tab : (f : ℕ → ℕ) → get_or (run_steps product_end (tab f 0 32)) 2 0 ≡ end_w (f 0) (f 1) (f 5) (f 6) (f 7) (f 11)
unfolding product_end high_half add_with_run carry_step paired_step bit_factors fold32 bit_factors_again fold16 tests zero_tests bit_products round_steps ranges normalise choose stepped
    whole_run pair_g pair_n pair_and carry_g carry_n zeros16 parity_w first_w second_w inverted_w fold32_w fold16_w folded_w only_w only_both_w top_both_w edge_w lanes_w tests_w terms_w
    carry_w last_w rounded_w range_w nonzero_w change_w chosen_w signed_w finished_w closing_w tested_w paired_w after_w
end_tab f = refl

pub end_run : (r : List ℕ) → length r ≡ 32 → get_or (run_steps product_end r) 2 0 ≡ end_w (get_or r 0 0) (get_or r 1 0) (get_or r 5 0) (get_or r 6 0) (get_or r 7 0) (get_or r 11 0)
end_run r h = ap (λ (q : List ℕ). get_or (run_steps product_end q) 2 0) (sym (tabbed r h)) ∙ end_tab (λ i. get_or r i 0)

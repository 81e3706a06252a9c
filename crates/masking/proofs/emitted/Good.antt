-- Every share step of a plan's step is one of a share program, and names only cells of its share count: two instances of Ranges.
use mathlib.Core.Path.{◌≡◌}
use mathlib.Core.Bool.{Bool, true, not, ◌&&◌, ◌||◌}
use mathlib.Core.List.{List, [], ◌∷◌}
use mathlib.Core.Logic.{⊎_elim}
use Prim.Native.Nat.{ℕ, ◌-◌, ◌%◌, ◌+◌, ◌*◌, ◌≤◌, ◌<◌}
use native.Mathlib.Omega.{arith}
use lib.Dec.{T, ltb, leb, eqb, lt→ltb, le→leb}
use borrow.Author.Tests.{lt-ltb}
use Rattle.word.specs.declared.step.Step.{Step}
use Rattle.word.specs.declared.step.Step.TheVariants.{Const, Xor, And, Not, Shl, Shr, Spread, Add, Rand}
use Rattle.word.specs.Encoding.{within, kind_number, in_plan, in_program}
use Rattle.word.specs.Table.{dest, reads, naming}
use Rattle.word.proofs.Ranges.{both, join, each_tested, within_cells, cells_within, within_more}
use Rattle.masking.specs.Translation.{share_cell, scratch, blocks, adding, laid_out, translated}
use Rattle.masking.specs.Counts.{used_cell, all_of}
use Rattle.masking.proofs.emitted.Tests.{or_left, or_right, All, all_tested, tested_all}
use Rattle.masking.proofs.emitted.Places.{share_cases}
use Rattle.masking.proofs.emitted.Ranges.{Names, HoldsOn, blocks_all}

-- ADD's steps on registers, four helpers among them
pub adding_within : (w : ℕ) → 36 ≤ w → (d a b : ℕ) → d < w → a < w → b < w → All (λ s. T (within w s)) (adding d a b)
unfolding adding
adding_within w more d a b ld la lb =
    let low : (x : ℕ) → x < 36 → ltb x w ≡ true = λ x l. lt-ltb x w (omega arith) in
    tested_all (within w) (adding d a b)
    (rw (low 32 (omega arith), low 33 (omega arith), low 34 (omega arith), low 35 (omega arith), lt-ltb d w ld, lt-ltb a w la, lt-ltb b w lb) tt)

-- a plan's step laid out: 32 registers and four helpers
laid_36 : (s : Step) → T (in_plan s) → All (λ s. T (within 36 s)) (laid_out s)
laid_36 s h = by s (within_more 32 36 (omega arith) s (both (not (eqb (kind_number s) 9)) (within 32 s) h).1)
  where
    by : (s : Step) → T (within 36 s) → All (λ s. T (within 36 s)) (laid_out s)
    by (Const d k) h = (h, tt)
    by (Xor d a b) h = (h, tt)
    by (And d a b) h = (h, tt)
    by (Not d a) h = (h, tt)
    by (Shl d a b) h = (h, tt)
    by (Shr d a b) h = (h, tt)
    by (Spread d a) h = (h, tt)
    by (Add d a b) h = let e = within_cells 36 (Add d a b) h in adding_within 36 (omega arith) d a b e.0 e.1.0 e.1.1.0
    by (Rand d) h = tt

-- and so on 40 registers
pub laid_within : (s : Step) → T (in_plan s) → All (λ s. T (within 40 s)) (laid_out s)
laid_within s h = widen (laid_out s) (laid_36 s h)
  where
    widen : (ss : List Step) → All (λ s. T (within 36 s)) ss → All (λ s. T (within 40 s)) ss
    widen [] a = tt
    widen (s ∷ ss) a = (within_more 36 40 (omega arith) s a.0, widen ss a.1)

-- a share step on cells is one of a share program
pub program_steps : HoldsOn (λ c. c < 512) (λ s. T (in_program s))
program_steps s k c f = join (not (eqb (kind_number s) 8)) (within 512 s) k (cells_within 512 s c f)

-- and names cells of a kind
naming_steps : (q : ℕ → Bool) → HoldsOn (λ c. T (q c)) (λ s. T (naming q s))
naming_steps q s k c f = each_tested q (dest s ∷ reads s) c

-- the five parts of `used_cell`
module _ (n c : ℕ) where
  between : (lo hi : ℕ) → lo ≤ c → c < hi → T (leb lo c && ltb c hi)
  between lo hi l h = join (leb lo c) (ltb c hi) (le→leb lo c l) (lt→ltb c hi h)

  used_register : c < 32 * n → T (used_cell n c)
  used_register h = or_left (ltb c (32 * n)) _ (lt→ltb c (32 * n) h)

  used_y : 256 ≤ c → c < 256 + n → T (used_cell n c)
  used_y l h = or_right (ltb c (32 * n)) _ (or_left (leb 256 c && ltb c (256 + n)) _ (between 256 (256 + n) l h))

  later : T (leb 264 c && ltb c (264 + n) || (leb 272 c && ltb c 274 || (leb 288 c && (ltb c (288 + 8 * n) && ltb ((c - 288) % 8) 4)))) → T (used_cell n c)
  later h = or_right (ltb c (32 * n)) _ (or_right (leb 256 c && ltb c (256 + n)) _ h)

  used_z : 264 ≤ c → c < 264 + n → T (used_cell n c)
  used_z l h = later (or_left (leb 264 c && ltb c (264 + n)) _ (between 264 (264 + n) l h))

  used_tu : 272 ≤ c → c < 274 → T (used_cell n c)
  used_tu l h = later (or_right (leb 264 c && ltb c (264 + n)) _ (or_left (leb 272 c && ltb c 274) _ (between 272 274 l h)))

  used_helper : 288 ≤ c → c < 288 + 8 * n → (c - 288) % 8 < 4 → T (used_cell n c)
  used_helper l h four =
      later (or_right (leb 264 c && ltb c (264 + n)) _ (or_right (leb 272 c && ltb c 274) _
      (join (leb 288 c) (ltb c (288 + 8 * n) && ltb ((c - 288) % 8) 4) (le→leb 288 c l)
      (join (ltb c (288 + 8 * n)) (ltb ((c - 288) % 8) 4) (lt→ltb c (288 + 8 * n) h) (lt→ltb ((c - 288) % 8) 4 four)))))

module _ (n : ℕ) (small : n ≤ 8) where
  -- all cells are below 512
  pub below_512 : Names n 40 scratch (λ c. c < 512)
  below_512 =
      record {
        share = λ i r l lr.
            ⊎_elim (λ (q : (r < 32) × (share_cell i r ≡ 32 * i + r)). omega arith) (λ (q : (32 ≤ r) × (share_cell i r ≡ 256 + 8 * i + r)). omega arith) (share_cases i r);
        y = λ i l. omega arith;
        z = λ i l. omega arith;
        t = omega arith;
        u = omega arith;
      }

  -- and among those that translations name
  among : Names n 36 scratch (λ c. T (used_cell n c))
  among =
      record {
        share = λ i r l lr.
            ⊎_elim (λ (q : (r < 32) × (share_cell i r ≡ 32 * i + r)). used_register n (share_cell i r) (omega arith))
            (λ (q : (32 ≤ r) × (share_cell i r ≡ 256 + 8 * i + r)). used_helper n (share_cell i r) (omega arith) (omega arith) (omega arith)) (share_cases i r);
        y = λ i l. used_y n (256 + i) (omega arith) (omega arith);
        z = λ i l. used_z n (264 + i) (omega arith) (omega arith);
        t = used_tu n 272 (omega arith) (omega arith);
        u = used_tu n 273 (omega arith) (omega arith);
      }

  pub blocks_good : (ss : List Step) → All (λ s. T (within 40 s)) ss → All (λ s. T (in_program s)) (blocks scratch n ss)
  blocks_good = blocks_all n 40 scratch (λ c. c < 512) below_512 (λ s. T (in_program s)) program_steps

  blocks_used : (ss : List Step) → All (λ s. T (within 36 s)) ss → All (λ s. T (naming (used_cell n) s)) (blocks scratch n ss)
  blocks_used = blocks_all n 36 scratch (λ c. T (used_cell n c)) among (λ s. T (naming (used_cell n) s)) (naming_steps (used_cell n))

  -- every translated step is one of a share program
  pub translated_good : (s : Step) → T (in_plan s) → T (all_of in_program (translated n s))
  unfolding translated
  translated_good s h = all_tested in_program (blocks scratch n (laid_out s)) (blocks_good (laid_out s) (laid_within s h))

  -- and names only cells of its share count
  pub translated_used : (s : Step) → T (in_plan s) → T (all_of (naming (used_cell n)) (translated n s))
  unfolding translated
  translated_used s h = all_tested (naming (used_cell n)) (blocks scratch n (laid_out s)) (blocks_used (laid_out s) (laid_36 s h))

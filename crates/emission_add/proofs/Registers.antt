-- Steps on registers by where their shares lie: XOR and SHL share by share, and AND. Rests on masking's Places.
use mathlib.Core.Path.{◌≡◌, refl, sym, ap, subst, fun_ext}
use mathlib.Core.Logic.{⊎_elim}
use mathlib.Core.List.{List}
use Prim.Native.Nat.{ℕ, ◌+◌, ◌*◌, ◌≤◌, ◌<◌}
use native.Mathlib.Omega.{arith}
use borrow.Author.Tests.{lt-ltb, le-ltb}
use Rattle.word.specs.declared.step.Step.{Step}
use Rattle.word.specs.declared.step.Step.TheVariants.{Xor, And, Shl}
use Rattle.word.specs.Encoding.{put}
use Rattle.masking.specs.Translation.{scratch, share_cell, cells_of, and_block, block}
use Rattle.masking.proofs.emitted.Places.{share_cases}
use Rattle.emission_rows.specs.declared.Cells.{Cells}
use Rattle.emission_rows.specs.inner.Written.{Words, Emits, Room, Fits, cells_on, each_word}
use Rattle.emission_rows.proofs.Parts.{as_steps}
use Rattle.emission_rows.proofs.Each.{fixed, words_each, stays}
use Rattle.emission_add.specs.inner.Registers.{Register, cells_for}

cell_on : (r i : ℕ) → share_cell i r ≡ cells_on (cells_for r) i
cell_on r i =
    ⊎_elim (λ (p : (r < 32) × (share_cell i r ≡ 32 * i + r)). rw (lt-ltb r 32 p.0) (omega arith))
    (λ (p : (32 ≤ r) × (share_cell i r ≡ 256 + 8 * i + r)). rw (le-ltb r 32 p.0) (omega arith)) (share_cases i r)

-- a plan's register
pub register_on : (f o r : ℕ) → f ≡ r → o ≡ 32 → r < 32 → record { first = f; over = o } ≡ cells_for r
register_on f o r e g l = rw (e, g, lt-ltb r 32 l)

pub register_is : (c : Cells) → Register c → c ≡ cells_for c.first
register_is c r = register_on c.first c.over c.first refl r.share r.low

pub register_fits : (c : Cells) → Register c → Fits c
register_fits c r = record { field = omega (arith, r.low, r.share) }

pub for_fits : (r : ℕ) → r < 40 → Fits (cells_for r)
for_fits r l =
    ⊎_elim (λ (p : (r < 32) × (share_cell 0 r ≡ 32 * 0 + r)). rw (lt-ltb r 32 p.0) (record { field = omega arith }))
    (λ (p : (32 ≤ r) × (share_cell 0 r ≡ 256 + 8 * 0 + r)). rw (le-ltb r 32 p.0) (record { field = omega arith })) (share_cases 0 r)

pub fits_for : {c : Cells} {r : ℕ} → c ≡ cells_for r → r < 32 → Fits c
fits_for {c} {r} e l = rw e (for_fits r (omega arith))

module _ {d a b : Cells} {out : List ℕ} {at : ℕ} {after : List ℕ} {next : ℕ} where
  pub as_xor : (x y z n : ℕ) → d ≡ cells_for x → a ≡ cells_for y → b ≡ cells_for z → Words out at (each_word 2 d a b n) after next
      → Emits out at (block scratch n (Xor x y z)) after next
  as_xor x y z n e f g w = as_steps _ (words_each _ _ (λ i. rw (cell_on x i, cell_on y i, cell_on z i)) 0 n) (rw (e, f, g) at w)

  pub as_shl : (x y k n : ℕ) → d ≡ cells_for x → a ≡ cells_for y → b ≡ fixed k → Words out at (each_word 5 d a b n) after next
      → Emits out at (block scratch n (Shl x y k)) after next
  as_shl x y k n e f g w =
      as_steps _ (words_each _ _ (λ i. rw (cell_on x i, cell_on y i) (ap (put 5 (cells_on (cells_for x) i) (cells_on (cells_for y) i)) (stays k i))) 0 n)
      (rw (e, f, g) at w)

and_on : (d a b n : ℕ) → block scratch n (And d a b) ≡ and_block scratch n (cells_on (cells_for d)) (cells_on (cells_for a)) (cells_on (cells_for b))
and_on d a b n = rw (on d, on a, on b)
  where
    on : (r : ℕ) → cells_of r ≡ cells_on (cells_for r)
    on r = fun_ext (cell_on r)

module _ {d a b : Cells} {out : List ℕ} {at : ℕ} where
  pub as_and : (x y z n : ℕ) → d ≡ cells_for x → a ≡ cells_for y → b ≡ cells_for z → {after : List ℕ} {next : ℕ}
      → Emits out at (and_block scratch n (cells_on d) (cells_on a) (cells_on b)) after next → Emits out at (block scratch n (And x y z)) after next
  as_and x y z n e f g {after} {next} w = subst (λ (ss : List Step). Emits out at ss after next) (sym (and_on x y z n)) (rw (e, f, g) at w)

  pub room_and : (x y z n : ℕ) → d ≡ cells_for x → a ≡ cells_for y → b ≡ cells_for z → Room out at (block scratch n (And x y z))
      → Room out at (and_block scratch n (cells_on d) (cells_on a) (cells_on b))
  room_and x y z n e f g r = rw (e, f, g) (subst (λ (ss : List Step). Room out at ss) (and_on x y z n) r)

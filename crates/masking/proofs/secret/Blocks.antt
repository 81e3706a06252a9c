-- The block of each step on registers is a gadget: AND's, with scratch cells that lie apart, and those that work once per share.
use mathlib.Core.Path.{◌≡◌, refl, ap, ap₂}
use mathlib.Core.Bool.{Bool, false}
use mathlib.Core.List.{List, [], ◌∷◌, ◌++◌, map}
use mathlib.Core.Logic.{inl, inr}
use Prim.Native.Nat.{ℕ, zero, suc, ◌+◌, ◌<◌, ◌≤◌}
use native.Mathlib.Omega.{arith}
use lib.Dec.{T}
use lib.ListN.{length, length-append}
use Rattle.bits.specs.Ops.{xor_w, not_w, shl_w, shr_w, spread_w}
use Rattle.word.specs.declared.step.Step.{Step}
use Rattle.word.specs.declared.step.Step.TheVariants.{Const, Xor, And, Not, Shl, Shr, Spread, Add, Rand}
use Rattle.word.specs.Table.{dest, reads, Each}
use Rattle.masking.specs.Translation.{Scratch, share_cell, shares, first_other, and_steps, scratch_cells, wiping, and_block, block, blocks, cells_of}
use Rattle.word.proofs.Ranges.{both}
use Rattle.masking.proofs.emitted.Places.{Places}
use Rattle.masking.proofs.emitted.Wiping.{Aside, scratch_aside}
use Rattle.masking.proofs.joined.Cells.{Cells, upd}
use Rattle.masking.proofs.secret.Acts.{write, act, acts}
use Rattle.masking.proofs.secret.Wp.{Marks, next, wp, wp_mono, wp_then, past}
use Rattle.masking.proofs.secret.Meeting.{In, in_shares, share_lt}
use Rattle.masking.proofs.secret.Sets.{has, has_left, has_right, count, count_then}
use Rattle.masking.proofs.secret.Assigned.{marked, asked_in, marked_count}
use Rattle.masking.proofs.secret.Registers.{Agreed, adds, fewer, past_write, per_share}
use Rattle.masking.proofs.secret.AndMarked.{set_w, keeps_W, size_W, and_marked}
use Rattle.masking.proofs.secret.Reading.{readable, readable_parts, reading}
use Rattle.masking.proofs.secret.Gadgets.{Gadget, row, Ready}

-- a block that works once per share: share i's step, and the word that it writes, made of shares i of what the step reads
pub record PerShare (s : Step) : Type 0 where
  pub step : ℕ → Step
  pub word : ℕ → Cells → ℕ
  pub writes : (i : ℕ) → act (step i) ≡ write (share_cell i (dest s)) (word i)
  pub from : (i : ℕ) (c c' : Cells) → ((r : ℕ) → In r (reads s) → c (share_cell i r) ≡ c' (share_cell i r)) → word i c ≡ word i c'

abbrev const_share : (d k : ℕ) → PerShare (Const d k)
const_share d k =
    record {
      step = λ i. first_other i (Const (share_cell i d) k) (Const (share_cell i d) 0);
      word = λ i c. value i;
      writes = writes;
      from = λ i c c' h. refl;
    }
  where
    value : ℕ → ℕ
    value zero = k
    value (suc i) = 0

    writes : (i : ℕ) → act (first_other i (Const (share_cell i d) k) (Const (share_cell i d) 0)) ≡ write (share_cell i d) (λ c. value i)
    writes zero = refl
    writes (suc i) = refl

abbrev not_share : (d a : ℕ) → PerShare (Not d a)
not_share d a =
    record {
      step = λ i. first_other i (Not (share_cell i d) (share_cell i a)) (Shl (share_cell i d) (share_cell i a) 0);
      word = λ i c. value i (c (share_cell i a));
      writes = writes;
      from = λ i c c' h. ap (value i) (h a (inl refl));
    }
  where
    value : ℕ → ℕ → ℕ
    value zero x = not_w x
    value (suc i) x = shl_w x 0

    writes : (i : ℕ)
        → act (first_other i (Not (share_cell i d) (share_cell i a)) (Shl (share_cell i d) (share_cell i a) 0)) ≡ write (share_cell i d) (λ c. value i (c (share_cell i a)))
    writes zero = refl
    writes (suc i) = refl

abbrev xor_share : (d a b : ℕ) → PerShare (Xor d a b)
xor_share d a b =
    record {
      step = λ i. Xor (share_cell i d) (share_cell i a) (share_cell i b);
      word = λ i c. xor_w (c (share_cell i a)) (c (share_cell i b));
      writes = λ i. refl;
      from = λ i c c' h. ap₂ xor_w (h a (inl refl)) (h b (inr (inl refl)));
    }

abbrev shl_share : (d a b : ℕ) → PerShare (Shl d a b)
shl_share d a b =
    record {
      step = λ i. Shl (share_cell i d) (share_cell i a) b;
      word = λ i c. shl_w (c (share_cell i a)) b;
      writes = λ i. refl;
      from = λ i c c' h. ap (λ (x : ℕ). shl_w x b) (h a (inl refl));
    }

abbrev shr_share : (d a b : ℕ) → PerShare (Shr d a b)
shr_share d a b =
    record {
      step = λ i. Shr (share_cell i d) (share_cell i a) b;
      word = λ i c. shr_w (c (share_cell i a)) b;
      writes = λ i. refl;
      from = λ i c c' h. ap (λ (x : ℕ). shr_w x b) (h a (inl refl));
    }

abbrev spread_share : (d a : ℕ) → PerShare (Spread d a)
spread_share d a =
    record {
      step = λ i. Spread (share_cell i d) (share_cell i a);
      word = λ i c. spread_w (c (share_cell i a));
      writes = λ i. refl;
      from = λ i c c' h. ap spread_w (h a (inl refl));
    }

module _ (n w : ℕ) (sc : Scratch) (L : Places n w sc) where
  once_size : (step : ℕ → Step) (m : Marks) (S : List ℕ) → length (S ++ marked m (shares n)) ≤ length S + count m (acts (map step (shares n)))
  once_size step m S = simp length-append (omega (arith, marked_count step m (shares n)))

  once_hides : (s : Step) (p : PerShare s) (m : Marks) (S : List ℕ) (R : ℕ → Bool) → T (readable w R s) → (c c' : Cells)
      → Agreed n w R (has (S ++ marked m (shares n))) c c' → wp m (acts (map p.step (shares n))) (Agreed n w (adds (dest s) R) (has S)) c c'
  once_hides s p m S R h c c' g =
      let e = readable_parts w R s h in
      wp_mono m (acts (map p.step (shares n))) (Agreed n w (adds (dest s) R) (has W)) (Agreed n w (adds (dest s) R) (has S)) c c'
      (fewer n w (adds (dest s) R) (has S) (has W) (has_left S (marked m (shares n))))
      (per_share n w sc L R (has W) (dest s) e.0 p.step p.word p.writes (reads s) p.from e.1 m (shares n) (in_shares n)
      (asked_in n (has W) m (shares n) (share_lt n) (has_right S (marked m (shares n)))) c c' g)
    where
      W : List ℕ
      W = S ++ marked m (shares n)

  -- once per share: a marked step asks for its own share
  abbrev once : (s : Step) → PerShare s → Gadget n w
  once s p =
      record {
        code = map p.step (shares n);
        sets = dest s;
        ready = λ R. readable w R s;
        before = λ m S. S ++ marked m (shares n);
        size = once_size p.step;
        keeps = λ m S. has_left S (marked m (shares n));
        hides = λ m S R h small c c' g. once_hides s p m S R h c c' g;
      }

  -- CONST 0 writes the same word in both runs, and into no share
  wiping_hides : (ks : List ℕ) → Each (Aside n w) ks → (m : Marks) (R S : ℕ → Bool) (c c' : Cells) → Agreed n w R S c c'
      → wp m (acts (wiping ks)) (Agreed n w R S) c c'
  wiping_hides [] a m R S c c' g = g
  wiping_hides (k ∷ ks) a m R S c c' g =
      (λ x. refl, wiping_hides ks a.1 (next m) R S (upd c k 0) (upd c' k 0) (past_write n w R S c c' k 0 0 a.0 g))

  -- AND: what its steps ask for, and nothing for the wiping
  and_hides : (d a b : ℕ) (m : Marks) (S : List ℕ) (R : ℕ → Bool) → T (readable w R (And d a b)) → length S + count m (acts (and_block sc n (cells_of d) (cells_of a) (cells_of b))) < n
      → (c c' : Cells) → Agreed n w R (has (set_w sc n d a b m S)) c c' → wp m (acts (and_block sc n (cells_of d) (cells_of a) (cells_of b))) (Agreed n w (adds d R) (has S)) c c'
  unfolding and_block
  and_hides d a b m S R h small c c' g =
      let e = readable_parts w R (And d a b) h in
      let ka = e.1 a (inl refl) in
      let kb = e.1 b (inr (inl refl)) in
      let P = and_steps sc n (cells_of d) (cells_of a) (cells_of b) in
      wp_then m P (wiping (scratch_cells sc n)) (Agreed n w (adds d R) (has S)) (Agreed n w (adds d R) (has S)) c c'
      (and_marked n w sc L d a b m S R e.0 ka.0 kb.0 ka.1 kb.1 (omega (arith, count_then m P (wiping (scratch_cells sc n)))) c c' g)
      (wiping_hides (scratch_cells sc n) (scratch_aside n w sc L) (past (acts P) m) (adds d R) (has S))

  and_size : (d a b : ℕ) (m : Marks) (S : List ℕ) → length (set_w sc n d a b m S) ≤ length S + count m (acts (and_block sc n (cells_of d) (cells_of a) (cells_of b)))
  unfolding and_block
  and_size d a b m S =
      let P = and_steps sc n (cells_of d) (cells_of a) (cells_of b) in
      omega (arith, size_W sc n d a b m S, count_then m P (wiping (scratch_cells sc n)))

  abbrev product : ℕ → ℕ → ℕ → Gadget n w
  product d a b =
      record {
        code = and_block sc n (cells_of d) (cells_of a) (cells_of b);
        sets = d;
        ready = λ R. readable w R (And d a b);
        before = set_w sc n d a b;
        size = and_size d a b;
        keeps = keeps_W sc n d a b;
        hides = and_hides d a b;
      }

  -- kinds without a block
  abbrev none : ℕ → Gadget n w
  none d =
      record {
        code = [];
        sets = d;
        ready = λ R. false;
        before = λ m S. S;
        size = λ m S. omega arith;
        keeps = λ m S i h. h;
        hides = λ m S R h. absurd h;
      }

  pub gadget : Step → Gadget n w
  gadget (Const d k) = once (Const d k) (const_share d k)
  gadget (Xor d a b) = once (Xor d a b) (xor_share d a b)
  gadget (And d a b) = product d a b
  gadget (Not d a) = once (Not d a) (not_share d a)
  gadget (Shl d a b) = once (Shl d a b) (shl_share d a b)
  gadget (Shr d a b) = once (Shr d a b) (shr_share d a b)
  gadget (Spread d a) = once (Spread d a) (spread_share d a)
  gadget (Add d a b) = none d
  gadget (Rand d) = none d

  pub gadget_code : (s : Step) → (gadget s).code ≡ block sc n s
  unfolding gadget
  gadget_code (Const d k) = refl
  gadget_code (Xor d a b) = refl
  gadget_code (And d a b) = refl
  gadget_code (Not d a) = refl
  gadget_code (Shl d a b) = refl
  gadget_code (Shr d a b) = refl
  gadget_code (Spread d a) = refl
  gadget_code (Add d a b) = refl
  gadget_code (Rand d) = refl

  pub row_blocks : (ss : List Step) → row n w (map gadget ss) ≡ blocks sc n ss
  row_blocks [] = refl
  row_blocks (s ∷ ss) = ap₂ (λ (x y : List Step). x ++ y) (gadget_code s) (row_blocks ss)

  -- a step that reads registers of R is ready, and sets its d
  pub gadget_ready : (s : Step) (R : ℕ → Bool) → T (readable w R s) → (gs : List (Gadget n w)) → Ready n w (adds (dest s) R) gs → Ready n w R (gadget s ∷ gs)
  unfolding gadget
  gadget_ready (Const d k) R h gs r = (h, r)
  gadget_ready (Xor d a b) R h gs r = (h, r)
  gadget_ready (And d a b) R h gs r = (h, r)
  gadget_ready (Not d a) R h gs r = (h, r)
  gadget_ready (Shl d a b) R h gs r = (h, r)
  gadget_ready (Shr d a b) R h gs r = (h, r)
  gadget_ready (Spread d a) R h gs r = (h, r)
  gadget_ready (Add d a b) R h gs r = absurd h
  gadget_ready (Rand d) R h gs r = absurd h

  pub blocks_ready : (ss : List Step) (R : ℕ → Bool) → T (reading w R ss) → Ready n w R (map gadget ss)
  blocks_ready [] R h = tt
  blocks_ready (s ∷ ss) R h =
      let e = both (readable w R s) (reading w (adds (dest s) R) ss) h in
      gadget_ready s R e.0 (map gadget ss) (blocks_ready ss (adds (dest s) R) e.1)

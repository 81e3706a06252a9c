-- Linear words in order, each on every share, leave the cells that they leave share by share: steps of different shares touch different
-- cells. Assumes nothing.
use mathlib.Core.Path.{◌≡◌, refl, sym, ap, ap₂, ◌∙◌}
use mathlib.Core.Logic.{◌≢◌}
use mathlib.Core.List.{List, [], ◌∷◌}
use Prim.Native.Nat.{ℕ, zero, suc, ◌+◌, ◌*◌, ◌/◌, ◌%◌, ◌^◌, ◌<◌}
use native.Mathlib.Omega.{arith}
use lib.ListN.{get_or, set}
use lib.Seq.{get_or-set_other, set_comm}
use Rattle.masking.specs.Translation.{up_from}
use Rattle.compiled.specs.inner.OnShare.{linear_word, on_share, on_share_all, share_by_share}

-- two cells set, neither read for the other
module _ (c : List ℕ) (d a b e p q : ℕ) (f g : ℕ → ℕ → ℕ) (ae : a ≢ e) (be : b ≢ e) (pd : p ≢ d) (qd : q ≢ d) (ed : e ≢ d) where
  abbrev F : ℕ
  F = f (get_or c a 0) (get_or c b 0)

  abbrev G : ℕ
  G = g (get_or c p 0) (get_or c q 0)

  two_sets : set (set c e G) d (f (get_or (set c e G) a 0) (get_or (set c e G) b 0)) ≡ set (set c d F) e (g (get_or (set c d F) p 0) (get_or (set c d F) q 0))
  two_sets =
      ap₂ (λ (x y : ℕ). set (set c e G) d (f x y)) (get_or-set_other c e a G 0 ae) (get_or-set_other c e b G 0 be)
      ∙ set_comm c e d G F ed
      ∙ sym (ap₂ (λ (x y : ℕ). set (set c d F) e (g x y)) (get_or-set_other c d p F 0 pd) (get_or-set_other c d q F 0 qd))

apart : (i j r s : ℕ) → i ≢ j → r < 32 → s < 32 → 32 * i + r ≢ 32 * j + s
apart i j r s h lr ls e = h (omega arith)

-- steps of two shares
commute : (i j w v : ℕ) (c : List ℕ) → i ≢ j → on_share i w (on_share j v c) ≡ on_share j v (on_share i w c)
unfolding on_share
commute i j w v c h =
    two_sets c (32 * i + w / 2 ^ 18 % 32) (32 * i + w / 2 ^ 9 % 32) (32 * i + w % 32) (32 * j + v / 2 ^ 18 % 32) (32 * j + v / 2 ^ 9 % 32) (32 * j + v % 32)
    (linear_word w i) (linear_word v j)
    (apart i j _ _ h (omega arith) (omega arith)) (apart i j _ _ h (omega arith) (omega arith)) (apart j i _ _ (λ e. h (sym e)) (omega arith) (omega arith)) (apart j i _ _ (λ e. h (sym e)) (omega arith) (omega arith)) (apart j i _ _ (λ e. h (sym e)) (omega arith) (omega arith))

-- a word on each of some shares, and words so in order
abbrev pub on_shares : List ℕ → ℕ → List ℕ → List ℕ
on_shares [] w c = c
on_shares (i ∷ is) w c = on_shares is w (on_share i w c)

abbrev pub word_by_word : List ℕ → List ℕ → List ℕ → List ℕ
word_by_word is [] c = c
word_by_word is (w ∷ ws) c = word_by_word is ws (on_shares is w c)

-- a step of share i after a word on later shares
past : (i s k w v : ℕ) (c : List ℕ) → i < s → on_share i v (on_shares (up_from s k) w c) ≡ on_shares (up_from s k) w (on_share i v c)
past i s zero w v c h = refl
past i s (suc k) w v c h = past i (suc s) k w v (on_share s w c) (omega arith) ∙ ap (on_shares (up_from (suc s) k) w) (commute i s v w c (λ e. omega arith))

past_all : (i s k w : ℕ) (ws c : List ℕ) → i < s → on_share_all i ws (on_shares (up_from s k) w c) ≡ on_shares (up_from s k) w (on_share_all i ws c)
past_all i s k w [] c h = refl
past_all i s k w (v ∷ ws) c h = ap (on_share_all i ws) (past i s k w v c h) ∙ past_all i s k w ws (on_share i v c) h

-- the first share's steps first
first : (s k : ℕ) (ws c : List ℕ) → word_by_word (s ∷ up_from (suc s) k) ws c ≡ word_by_word (up_from (suc s) k) ws (on_share_all s ws c)
first s k [] c = refl
first s k (w ∷ ws) c =
    first s k ws (on_shares (up_from (suc s) k) w (on_share s w c))
    ∙ ap (word_by_word (up_from (suc s) k) ws) (past_all s (suc s) k w ws (on_share s w c) (omega arith))

none : (ws c : List ℕ) → word_by_word [] ws c ≡ c
none [] c = refl
none (w ∷ ws) c = none ws c

pub share_by_share_is : (s k : ℕ) (ws c : List ℕ) → word_by_word (up_from s k) ws c ≡ share_by_share (up_from s k) ws c
share_by_share_is s zero ws c = none ws c
share_by_share_is s (suc k) ws c = first s k ws c ∙ share_by_share_is (suc s) k ws (on_share_all s ws c)

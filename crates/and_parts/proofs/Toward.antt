-- AND's steps done in parts, up to what t and u hold: parts are done one after the other until none is left. Rests on masking's Counts and InARow for
-- steps in a row, and on Likeness.
use mathlib.Core.Path.{◌≡◌, sym, ap, ◌∙◌, subst}
use mathlib.Core.List.{List, [], ◌++◌}
use Prim.Native.Nat.{ℕ}
use native.Mathlib.Nat.{add-zero}
use native.Mathlib.Omega.{arith}
use lib.ListN.{length, drop}
use lib.Seq.{drop-drop}
use Rattle.word.specs.declared.step.Step.{Step}
use Rattle.masking.specs.Machine.{exec_steps, rands_of}
use Rattle.masking.proofs.emitted.Counts.{rands_append}
use Rattle.masking.proofs.InARow.{exec_steps_append, exec_steps_size}
use Rattle.and_parts.specs.inner.Effects.{Alike, Nearly, NearlyStill}
use Rattle.and_parts.proofs.Likeness.{itself, then, alike_as, same_size}

-- to do `ss` on `cells` from place t of the tape on it is enough to do `ts` on `cells'` from t' on
pub record Toward (tape : List ℕ) (ss : List Step) (t : ℕ) (cells : List ℕ) (ts : List Step) (t' : ℕ) (cells' : List ℕ) : Type 0 where
  pub done : (after : List ℕ) (next : ℕ) → Nearly ts tape t' cells' after next → Nearly ss tape t cells after next

pub begin : (tape : List ℕ) (ss : List Step) (t : ℕ) (cells : List ℕ) → Toward tape ss t cells ss t cells
begin tape ss t cells = record { done = λ after next h. h }

-- steps without tape words
pub still_near : {ss : List Step} {cells cells' : List ℕ} (tape : List ℕ) (t : ℕ) → rands_of ss ≡ 0 → NearlyStill ss cells cells' → Nearly ss tape t cells cells' t
still_near tape t none h = record { cells = h (drop t tape); place = omega (arith, none) }

pub near_size : {tape : List ℕ} {ss : List Step} {t : ℕ} {cells cells' : List ℕ} {t' : ℕ} → Nearly ss tape t cells cells' t' → length cells' ≡ length cells
near_size {tape} {ss} {t} {cells} r = same_size (r.cells cells (itself cells)) ∙ exec_steps_size ss (drop t tape) cells

pub joined : {tape : List ℕ} {t t' t'' : ℕ} {c c' c'' : List ℕ} (us ts : List Step) → Nearly us tape t c c' t' → Nearly ts tape t' c' c'' t'' → Nearly (us ++ ts) tape t c c'' t''
joined {tape} {t} {t'} us ts r s =
    record {
      cells = λ k e. alike_as (s.cells (exec_steps us (drop t tape) k) (r.cells k e))
          (sym (
          exec_steps_append us ts (drop t tape) k
          ∙ ap (λ (rest : List ℕ). exec_steps ts rest (exec_steps us (drop t tape) k)) (drop-drop (rands_of us) t tape ∙ ap (λ (m : ℕ). drop m tape) (sym r.place))
          ));
      place = omega (arith, r.place, s.place, rands_append us ts);
    }

module _ {tape : List ℕ} {ss : List Step} {t : ℕ} {cells : List ℕ} where
  pub renamed : {ts us : List Step} {t' : ℕ} {cells' : List ℕ} → ts ≡ us → Toward tape ss t cells ts t' cells' → Toward tape ss t cells us t' cells'
  renamed {ts} {us} {t'} {cells'} = subst (λ (rs : List Step). Toward tape ss t cells rs t' cells')

  -- from cells that are alike
  pub aside : {ts : List Step} {t' : ℕ} {cells' cells'' : List ℕ} → Alike cells'' cells' → Toward tape ss t cells ts t' cells' → Toward tape ss t cells ts t' cells''
  aside a l = record { done = λ after next h. l.done after next (record { cells = λ k e. h.cells k (then a e); place = h.place }) }

  -- a part is done
  pub part : {t' t'' : ℕ} {cells' cells'' : List ℕ} (us ts : List Step) → Toward tape ss t cells (us ++ ts) t' cells' → Nearly us tape t' cells' cells'' t'' → Toward tape ss t cells ts t'' cells''
  part us ts l r = record { done = λ after next h. l.done after next (joined us ts r h) }

  pub whole : {t' : ℕ} {cells' : List ℕ} → Toward tape ss t cells [] t' cells' → Nearly ss tape t cells cells' t'
  whole {t'} {cells'} l = l.done cells' t' (record { cells = λ k e. e; place = sym (add-zero t') })

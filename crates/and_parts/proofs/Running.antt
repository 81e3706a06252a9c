-- Steps done in parts: from a list of steps to do over a tape, parts are done one after the other until none is left.
-- Rests on masking's Counts and InARow for steps in a row.
use mathlib.Core.Path.{◌≡◌, refl, sym, ap, ap₂, ◌∙◌, subst}
use mathlib.Core.List.{List, [], ◌++◌, append-nil}
use Prim.Native.Nat.{ℕ, ◌+◌}
use native.Mathlib.Nat.{add-zero}
use native.Mathlib.Omega.{arith}
use lib.ListN.{length, drop}
use lib.Seq.{drop-drop}
use Rattle.word.specs.declared.step.Step.{Step}
use Rattle.masking.specs.Machine.{exec_steps, rands_of}
use Rattle.masking.specs.Translation.{blocks, scratch}
use Rattle.masking.proofs.emitted.Steps.{blocks_append}
use Rattle.masking.proofs.emitted.Counts.{rands_append}
use Rattle.masking.proofs.InARow.{exec_steps_append, exec_steps_size}
use Rattle.and_parts.specs.inner.Effects.{Enough, Ran, Still}

-- `ss` to do on `cells` from place t of the tape on has come to `ts` to do on `cells'` from t' on
pub record Left (tape : List ℕ) (ss : List Step) (t : ℕ) (cells : List ℕ) (ts : List Step) (t' : ℕ) (cells' : List ℕ) : Type 0 where
  pub same : exec_steps ss (drop t tape) cells ≡ exec_steps ts (drop t' tape) cells'
  pub ends : t + rands_of ss ≡ t' + rands_of ts
  pub size : length cells' ≡ length cells

pub start : (tape : List ℕ) (ss : List Step) (t : ℕ) (cells : List ℕ) → Left tape ss t cells ss t cells
start tape ss t cells = record { same = refl; ends = refl; size = refl }

-- steps without tape words
pub still_ran : {ss : List Step} {cells cells' : List ℕ} (tape : List ℕ) (t : ℕ) → rands_of ss ≡ 0 → Still ss cells cells' → Ran ss tape t cells cells' t
still_ran tape t none h = record { cells = h (drop t tape); place = sym (add-zero t) ∙ ap (λ (k : ℕ). t + k) (sym none) }

pub ran_as : {ss ts : List Step} {tape cells cells' : List ℕ} {t t' : ℕ} → ss ≡ ts → Ran ss tape t cells cells' t' → Ran ts tape t cells cells' t'
ran_as {ss} {ts} {tape} {cells} {cells'} {t} {t'} = subst (λ (rs : List Step). Ran rs tape t cells cells' t')

module _ {tape : List ℕ} {ss : List Step} {t : ℕ} {cells : List ℕ} where
  pub renamed : {ts us : List Step} {t' : ℕ} {cells' : List ℕ} → ts ≡ us → Left tape ss t cells ts t' cells' → Left tape ss t cells us t' cells'
  renamed {ts} {us} {t'} {cells'} e l =
      record {
        same = l.same ∙ ap (λ (rs : List Step). exec_steps rs (drop t' tape) cells') e;
        ends = l.ends ∙ ap (λ (rs : List Step). t' + rands_of rs) e;
        size = l.size;
      }

  -- a part is done
  pub part : {t' t'' : ℕ} {cells' cells'' : List ℕ} (us ts : List Step) → Left tape ss t cells (us ++ ts) t' cells' → Ran us tape t' cells' cells'' t'' → Left tape ss t cells ts t'' cells''
  part {t'} {t''} {cells'} {cells''} us ts l r =
      record {
        same = l.same ∙ exec_steps_append us ts (drop t' tape) cells' ∙ ap₂ (exec_steps ts) (drop-drop (rands_of us) t' tape ∙ ap (λ (k : ℕ). drop k tape) (sym r.place)) (sym r.cells);
        ends = omega (arith, l.ends, r.place, rands_append us ts);
        size = ap length r.cells ∙ exec_steps_size us (drop t' tape) cells' ∙ l.size;
      }

  pub enough : {t' : ℕ} {cells' : List ℕ} (us ts : List Step) → Left tape ss t cells (us ++ ts) t' cells' → Enough tape t ss → Enough tape t' us
  enough us ts l e = omega (arith, l.ends, rands_append us ts)

  pub whole : {t' : ℕ} {cells' : List ℕ} → Left tape ss t cells [] t' cells' → Ran ss tape t cells cells' t'
  whole {t'} l = record { cells = sym l.same; place = sym (add-zero t') ∙ sym l.ends }

  -- the last part is done
  pub last : {t' t'' : ℕ} {cells' cells'' : List ℕ} (us : List Step) → Left tape ss t cells us t' cells' → Ran us tape t' cells' cells'' t'' → Ran ss tape t cells cells'' t''
  last us l r = whole (part us [] (renamed (sym (append-nil us)) l) r)

-- the same of blocks
module _ (n : ℕ) {tape : List ℕ} {all : List Step} {t : ℕ} {cells : List ℕ} {t' : ℕ} {cells' : List ℕ} (ss ts : List Step) (l : Left tape all t cells (blocks scratch n (ss ++ ts)) t' cells') where
  apart : Left tape all t cells (blocks scratch n ss ++ blocks scratch n ts) t' cells'
  apart = renamed (blocks_append scratch n ss ts) l

  pub blocks_part : {t'' : ℕ} {cells'' : List ℕ} → Ran (blocks scratch n ss) tape t' cells' cells'' t'' → Left tape all t cells (blocks scratch n ts) t'' cells''
  blocks_part r = part (blocks scratch n ss) (blocks scratch n ts) apart r

  pub blocks_enough : Enough tape t all → Enough tape t' (blocks scratch n ss)
  blocks_enough e = enough (blocks scratch n ss) (blocks scratch n ts) apart e

-- Writing in parts: words that are those of steps; and from a list of steps to write at a place, parts are written one after the other until none is left. Rests on masking's law of `map` over `++`.
use mathlib.Core.Path.{◌≡◌, refl, sym, ap, ap₂, ◌∙◌}
use mathlib.Core.List.{List, [], ◌∷◌, ◌++◌, map}
use Prim.Native.Nat.{ℕ, ◌+◌, ◌≤◌}
use native.Mathlib.Omega.{arith}
use lib.ListN.{length, length-append, length-map}
use lib.Seq.{sets, length-sets}
use Rattle.word.specs.declared.step.Step.{Step}
use Rattle.word.specs.Encoding.{word_of}
use Rattle.checks.proofs.Slices.{sets_append}
use Rattle.masking.proofs.emitted.Steps.{map_append}
use Rattle.emission_rows.specs.inner.Written.{Words, Emits, Room}

-- words written in two goes
pub words_then : (xs ys : List ℕ) {out : List ℕ} {at : ℕ} {out' : List ℕ} {at' : ℕ} {out'' : List ℕ} {at'' : ℕ} → Words out at xs out' at' → Words out' at' ys out'' at''
    → Words out at (xs ++ ys) out'' at''
words_then xs ys {out} {at} e f =
    record {
      written =
          f.written ∙ ap₂ (λ (o : List ℕ) (k : ℕ). sets o k ys) e.written e.ends
          ∙ sym (sets_append out at xs ys);
      ends = omega (arith, e.ends, f.ends, length-append xs ys);
    }

-- words that are those of steps
pub as_steps : {out : List ℕ} {at : ℕ} {ws : List ℕ} {after : List ℕ} {next : ℕ} (ss : List Step) → map word_of ss ≡ ws → Words out at ws after next → Emits out at ss after next
as_steps {out} {at} ss e w =
    record {
      written = w.written ∙ ap (sets out at) (sym e);
      ends = omega (arith, w.ends, ap length e, length-map ss word_of);
    }

pub as_words : {out : List ℕ} {at : ℕ} {ws : List ℕ} {after : List ℕ} {next : ℕ} (ss : List Step) → ws ≡ map word_of ss → Emits out at ss after next → Words out at ws after next
as_words {out} {at} ss e w =
    record {
      written = w.written ∙ ap (sets out at) (sym e);
      ends = omega (arith, w.ends, ap length e, length-map ss word_of);
    }

pub words_room : {out ws : List ℕ} (ss : List Step) → ws ≡ map word_of ss → length ws ≤ length out → Room out 0 ss
words_room ss e h = record { fits = omega (arith, ap length e, length-map ss word_of) }

-- one word, which is that of a step
pub as_step : {out : List ℕ} {at w : ℕ} {after : List ℕ} {next : ℕ} (s : Step) → w ≡ word_of s → Words out at (w ∷ []) after next → Emits out at (s ∷ []) after next
as_step s e w = as_steps (s ∷ []) (ap (λ (x : ℕ). x ∷ []) (sym e)) w

-- `ss` to write at `at` of `out` has come to `ts` to write at `at'` of `out'`
pub record Left (out : List ℕ) (at : ℕ) (ss : List Step) (out' : List ℕ) (at' : ℕ) (ts : List Step) : Type 0 where
  pub same : sets out at (map word_of ss) ≡ sets out' at' (map word_of ts)
  pub ends : at + length ss ≡ at' + length ts
  pub long : length out' ≡ length out

module _ (out : List ℕ) (at : ℕ) (ss : List Step) where
  pub start : Left out at ss out at ss
  start = record { same = refl; ends = refl; long = refl }

  -- the steps still to write, named otherwise
  pub renamed : {out' : List ℕ} {at' : ℕ} {ts us : List Step} → ts ≡ us → Left out at ss out' at' ts → Left out at ss out' at' us
  renamed e l = rw e at l

module _ {out : List ℕ} {at : ℕ} {ss : List Step} {out' : List ℕ} {at' : ℕ} where
  -- a part is written
  pub part : (xs ts : List Step) → {out'' : List ℕ} {at'' : ℕ} → Left out at ss out' at' (xs ++ ts) → Emits out' at' xs out'' at'' → Left out at ss out'' at'' ts
  part xs ts {out''} {at''} l e =
      let here : at' + length (map word_of xs) ≡ at'' = ap (λ (k : ℕ). at' + k) (length-map xs word_of) ∙ sym e.ends in
      record {
        same =
            l.same ∙ ap (sets out' at') (map_append xs ts) ∙ sets_append out' at' (map word_of xs) (map word_of ts)
            ∙ ap₂ (λ (o : List ℕ) (k : ℕ). sets o k (map word_of ts)) (sym e.written) here;
        ends = omega (arith, l.ends, e.ends, length-append xs ts);
        long = ap length e.written ∙ length-sets out' at' (map word_of xs) ∙ l.long;
      }

  -- there is room for it
  pub room : (xs ts : List Step) → Left out at ss out' at' (xs ++ ts) → Room out at ss → Room out' at' xs
  room xs ts l r = record { fits = omega (arith, l.ends, l.long, r.fits, length-append xs ts) }

  pub room_last : {ts : List Step} → Left out at ss out' at' ts → Room out at ss → Room out' at' ts
  room_last l r = record { fits = omega (arith, l.ends, l.long, r.fits) }

  -- nothing is left
  pub whole : Left out at ss out' at' [] → Emits out at ss out' at'
  whole l = record { written = sym l.same; ends = omega (arith, l.ends) }

  -- the last part is written
  pub last : {ts : List Step} {out'' : List ℕ} {at'' : ℕ} → Left out at ss out' at' ts → Emits out' at' ts out'' at'' → Emits out at ss out'' at''
  last {ts} l e =
      record {
        written = e.written ∙ sym l.same;
        ends = omega (arith, l.ends, e.ends);
      }

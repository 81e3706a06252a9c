-- Secrecy of a list of acts (`acts_secret`): the share is the one that the call's step asks for of its operands. Each act before the call hands
-- agreement in that share on over paired tapes (Slots), and the call itself has the operation's secrecy; the pairings go in turn (masking's
-- InTurn). That the step is reached is masking's InARow.
use mathlib.Core.Path.{◌≡◌, refl, sym, ap, ap₂, subst, ◌∙◌}
use mathlib.Core.List.{List, [], ◌∷◌, ◌++◌}
use Prim.Native.Nat.{ℕ, suc, ◌+◌, ◌-◌, ◌≤◌, ◌<◌, min}
use native.Mathlib.Omega.{arith}
use native.Mathlib.Nat.{add-zero, le_trans, le_of_eq}
use lib.ListN.{length, get_or, take, drop, replicate, length-append, length-take, length-drop, length-replicate}
use lib.Seq.{drop-drop}
use Rattle.checks.specs.declared.answer.Answer.{Answer}
use Rattle.masking.specs.Translation.{program, headed}
use Rattle.masking.specs.Foretold.{Accepted, foretold_tape}
use Rattle.masking.specs.Machine.{rands}
use Rattle.masking.specs.Runs.{Run, standing, told}
use Rattle.masking.specs.Secrecy.{Tape, Pairing, done_after, word_after, Hidden}
use Rattle.masking.proofs.emitted.Counts.{plan_counts}
use Rattle.masking.proofs.OneRun.{translated_taken, translated_turned}
use Rattle.masking.proofs.Head.{head_rands}
use Rattle.masking.proofs.InARow.{each_run, rands_take}
use Rattle.masking.proofs.secret.InTurn.{cleaned, cleaned_tape, cleaned_same, first_tape, rest_tape, same, in_turn, there_first, there_rest}
use Rattle.binary64.specs.Operations.{Operation}
use Rattle.plans.specs.BuiltIns.{plan_of}
use Rattle.masked_call.specs.Shares.{placed}
use Rattle.masked_call.proofs.Filling.{placed_size}
use Rattle.operations.specs.Masked.{Operand}
use Rattle.operations.proofs.Masked.{masked}
use Rattle.operations.proofs.Secret.{from_zeros}
use Rattle.fft_numbers.specs.Acts.{Act, Call, Slots, on_shares, act_tape, tape_for, run_shares}
use Rattle.fft_numbers.specs.Secrecy.{Shared, AgreeIn, PutsWords, start_of, words_before, part_of, done_in, ActsSecret}
use Rattle.fft_numbers.proofs.Laws.{tape_append}
use Rattle.fft_numbers.proofs.Slots.{first_puts, plan_accepted, act_shared, act_part, ActAgrees, act_pairing}

-- ---- a step is reached

-- a share run with a budget for the head and suc step words, over a tape part as long as foretold
reached_by : (n : ℕ) (plan : List ℕ) → Accepted n plan → (cells before part : List ℕ) → length cells ≡ 512 → foretold_tape n plan ≤ length part
    → (step : ℕ) → step < length (program n plan) → done_after n plan cells before part (told n (suc (suc step)) ∷ []) ≡ suc (suc step)
reached_by n plan A cells before part size enough step inside =
    let P = headed n plan in
    let C = plan_counts n plan A in
    let tape = before ++ part in
    let all : length tape ≡ length before + length part = length-append before part in
    let budget = suc (suc step) in
    let some : rands (take budget P) ≤ foretold_tape n plan = le_trans (rands_take P budget) (le_of_eq (head_rands n A.most (program n plan) ∙ C.tape)) in
    let R =
    each_run n P tape cells (length before) (translated_taken n plan A) (translated_turned n plan A) (standing cells 0 (length before))
    (record { within = omega arith; tape_at = sym (add-zero (length before)); in_tape = omega arith; cells = refl; size = size }) (told n budget) in
    let m : min budget (length P - 0) ≡ budget = omega arith in
    add-zero _ ∙ ap (λ (a : Answer). a.words) (R.else refl (omega arith)) ∙ m

placed_512 : (x y : List ℕ) → length (placed x y) ≡ 512
unfolding placed
placed_512 x y = placed_size 1 0 y _ ∙ placed_size 0 0 x (replicate 512 0) ∙ length-replicate {A = ℕ} 512 0

-- of a call in a list of acts
pub reached_in : (n : ℕ) → 2 ≤ n → n ≤ 8 → (before : List Act) (o : Operation) (k a b : ℕ) (after : List Act) (step : ℕ) → step < length (program n (plan_of o))
    → (s : Slots (List ℕ)) (tape : List ℕ) → Tape (tape_for n (before ++ (Call o k a b ∷ after))) tape → done_in n before o a b s tape (told n (suc (suc step)) ∷ []) ≡ suc (suc step)
reached_in n least most before o k a b after step inside s tape h =
    let t = run_shares n before tape s in
    let rest = drop (tape_for n before) tape in
    let size : length rest ≡ length tape - tape_for n before = length-drop (tape_for n before) tape in
    reached_by n (plan_of o) (plan_accepted n least most o) (start_of n before o a b s tape) (words_before n before o a b s tape) (part_of n before o a b s tape)
    (placed_512 (t.held a) (t.held b))
    (omega (arith, length-take (foretold_tape n (plan_of o)) rest, size, h.size, tape_append n before (Call o k a b ∷ after))) step inside

-- ---- its word is hidden

-- share runs of a call from two starts over two parts of tapes write equal words at a step, whatever words are before the parts
pub record Meet (n : ℕ) (plan : List ℕ) (step : ℕ) (l l' part part' : List ℕ) : Type 0 where
  pub equal : (before before' : List ℕ) (runs runs' : List Run)
      → done_after n plan l before part runs ≡ suc (suc step) → done_after n plan l' before' part' runs' ≡ suc (suc step)
      → word_after n plan step l before part runs ≡ word_after n plan step l' before' part' runs'

meet_as : {n : ℕ} {plan : List ℕ} {step : ℕ} {l₀ l₀' part₀ part₀' l l' part part' : List ℕ} → l₀ ≡ l → l₀' ≡ l' → part₀ ≡ part → part₀' ≡ part'
    → Meet n plan step l₀ l₀' part₀ part₀' → Meet n plan step l l' part part'
meet_as {n} {plan} {step} {l₀} {l₀'} {part₀} {part₀'} {l} {l'} {part} {part'} e e' f f' m =
    subst (λ (x : List ℕ). Meet n plan step x l' part part') e
    (subst (λ (x : List ℕ). Meet n plan step l₀ x part part') e'
    (subst (λ (x : List ℕ). Meet n plan step l₀ l₀' x part') f (subst (Meet n plan step l₀ l₀' part₀) f' m)))

module _ (n : ℕ) (least : 2 ≤ n) (most : n ≤ 8) (o : Operation) (k a b : ℕ) (after : List Act) (step i : ℕ) (below : i < n) where
  abbrev rest : List Act
  rest = Call o k a b ∷ after

  abbrev L : ℕ
  L = foretold_tape n (plan_of o)

  abbrev part : List Act → List ℕ → List ℕ
  part before tape = take L (drop (tape_for n before) tape)

  abbrev begun : List Act → Slots (List ℕ) → List ℕ → List ℕ
  begun before s tape = start_of n before o a b s tape

  -- tapes for the whole list pair off so that the call's runs meet
  record HiddenIn (before : List Act) (s s' : Slots (List ℕ)) : Type 0 where
    pairing : Pairing (tape_for n (before ++ rest))
    meet : (tape : List ℕ) → Tape (tape_for n (before ++ rest)) tape
        → Meet n (plan_of o) step (begun before s tape) (begun before s' (pairing.there tape)) (part before tape) (part before (pairing.there tape))

  module _ (hidden : (x y x' y' : List ℕ) → Operand n x → Operand n y → Operand n x' → Operand n y' → get_or x i 0 ≡ get_or x' i 0 → get_or y i 0 ≡ get_or y' i 0
      → Hidden n (plan_of o) step (placed x y) (placed x' y')) where
    -- the call itself comes first
    at_once : (s s' : Slots (List ℕ)) → Shared n s → Shared n s' → AgreeIn i s s' → HiddenIn [] s s'
    at_once s s' S S' g =
        let H = hidden (s.held a) (s.held b) (s'.held a) (s'.held b) (S.held a) (S.held b) (S'.held a) (S'.held b) (g.held a) (g.held b) in
        let M = tape_for n after in
        let q : List ℕ → Pairing M = λ t. same M in
        record {
          pairing = in_turn L M H.pairing q;
          meet = λ tape h.
              subst (Meet n (plan_of o) step (placed (s.held a) (s.held b)) (placed (s'.held a) (s'.held b)) (take L tape)) (sym (there_first L M H.pairing q tape h))
              (record { equal = H.equal (take L tape) (first_tape L M tape h) });
        }

    -- after one act more
    after_act : (c : Act) (cs : List Act) (s s' : Slots (List ℕ)) → (P : ActAgrees n i c s s')
        → ((t : List ℕ) → Tape (act_tape n c) t → HiddenIn cs (on_shares n c t s) (on_shares n c (P.pairing.there t) s')) → HiddenIn (c ∷ cs) s s'
    after_act c cs s s' P R =
        let K = act_tape n c in
        let M = tape_for n (cs ++ rest) in
        let p = P.pairing in
        let Q : (t : List ℕ) → HiddenIn cs (on_shares n c (cleaned K t) s) (on_shares n c (p.there (cleaned K t)) s') = λ t. R (cleaned K t) (cleaned_tape K t) in
        let q : List ℕ → Pairing M = λ t. (Q t).pairing in
        let w = in_turn K M p q in
        record {
          pairing = w;
          meet = λ tape h.
              let t = take K tape in
              let clean : cleaned K t ≡ t = cleaned_same K t (first_tape K M tape h) in
              let e : on_shares n c (cleaned K t) s ≡ on_shares n c tape s =
              ap (λ (x : List ℕ). on_shares n c x s) clean ∙ act_part n least most c s tape (omega (arith, h.size)) in
              let e' : on_shares n c (p.there (cleaned K t)) s' ≡ on_shares n c (w.there tape) s' =
              ap (λ (x : List ℕ). on_shares n c x s') (ap p.there clean ∙ sym (there_first K M p q tape h))
              ∙ act_part n least most c s' (w.there tape) (omega (arith, (w.there_tape tape h).size)) in
              let r : (q t).there (drop K tape) ≡ drop K (w.there tape) = sym (there_rest K M p q tape h) in
              let m = (Q t).meet (drop K tape) (rest_tape K M tape h) in
              let dropped : (x : List ℕ) → part cs (drop K x) ≡ part (c ∷ cs) x = λ x. ap (take L) (drop-drop (tape_for n cs) K x) in
              meet_as (ap (λ (u : Slots (List ℕ)). begun cs u (drop K tape)) e) (ap₂ (begun cs) e' r) (dropped tape) (ap (part cs) r ∙ dropped (w.there tape)) m;
        }

    hidden_in : (before : List Act) → PutsWords (before ++ rest) → (s s' : Slots (List ℕ)) → Shared n s → Shared n s' → AgreeIn i s s' → HiddenIn before s s'
    hidden_in [] w s s' S S' g = at_once s s' S S' g
    hidden_in (c ∷ cs) w s s' S S' g =
        let q = first_puts c (cs ++ rest) w in
        let P = act_pairing n least most i below c s s' S S' g in
        let enough : (t : List ℕ) → Tape (act_tape n c) t → act_tape n c ≤ length t = λ t h. le_of_eq (sym h.size) in
        after_act c cs s s' P
        (λ t h.
        let h' = P.pairing.there_tape t h in
        hidden_in cs q.1 (on_shares n c t s) (on_shares n c (P.pairing.there t) s') (act_shared n least most c s t q.0 S h.words (enough t h))
        (act_shared n least most c s' (P.pairing.there t) q.0 S' h'.words (enough (P.pairing.there t) h')) (P.agree t h))

pub acts_secret : ActsSecret
acts_secret n least most o step inside =
    let H = (masked o).secret n least most step inside in
    record {
      share = H.share;
      below = H.below;
      hidden = λ before k a b after w s s' S S' g.
          let I = hidden_in n least most o k a b after step H.share H.below (from_zeros H) before w s s' S S' g in
          record {
            pairing = I.pairing;
            reached = λ tape h. (
              reached_in n least most before o k a b after step inside s tape h,
              reached_in n least most before o k a b after step inside s' (I.pairing.there tape) (I.pairing.there_tape tape h),
            );
            equal = λ tape h. (I.meet tape h).equal (words_before n before o a b s tape) (words_before n before o a b s' (I.pairing.there tape));
          };
    }

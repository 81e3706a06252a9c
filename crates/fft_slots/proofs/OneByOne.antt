-- Acts one after another over a tape, from what each makes of the work slice and of the lent words. Rests on Holding and fft_numbers's Laws.
use mathlib.Core.Path.{◌≡◌, sym, ap, ◌∙◌}
use mathlib.Core.List.{List, [], ◌∷◌, ◌++◌}
use Prim.Native.Nat.{ℕ, ◌+◌, ◌≤◌, ◌<◌}
use lib.ListN.{length, drop}
use lib.Seq.{drop-drop}
use Rattle.fft_numbers.specs.Acts.{Act, Load, Store, Slots, tape_for, run_shares}
use Rattle.fft_numbers.specs.Layout.{number_of}
use Rattle.fft_numbers.proofs.Laws.{shares_append}
use Rattle.fft_numbers.proofs.Laid.{number_size}
use Rattle.fft_copies.specs.inner.Inner.{written}
use Rattle.fft_slots.specs.inner.Inner.{slot_at, slot_step, held_of, HeldDone, Done}
use Rattle.fft_slots.proofs.Holding.{held_written, lent_written}

-- acts from place t of the tape on, and acts from the place where they end
module _ (n t t' : ℕ) (tape : List ℕ) (cs ds : List Act) (e : t' ≡ t + tape_for n cs) where
  both_done : (s : Slots (List ℕ)) → run_shares n (cs ++ ds) (drop t tape) s ≡ run_shares n ds (drop t' tape) (run_shares n cs (drop t tape) s)
  both_done s =
      shares_append n cs ds (drop t tape) s
      ∙ ap (λ (l : List ℕ). run_shares n ds l (run_shares n cs (drop t tape) s)) (drop-drop (tape_for n cs) t tape ∙ ap (λ (k : ℕ). drop k tape) (sym e))

  pub held_then : {w w₁ w₂ : List ℕ} → HeldDone n cs (drop t tape) w w₁ → HeldDone n ds (drop t' tape) w₁ w₂ → HeldDone n (cs ++ ds) (drop t tape) w w₂
  held_then D E s H = rw (both_done s) (E (run_shares n cs (drop t tape) s) (D s H))

  pub done_then : {S : ℕ} {l w l₁ w₁ l₂ w₂ : List ℕ} → Done n S cs (drop t tape) l w l₁ w₁ → Done n S ds (drop t' tape) l₁ w₁ l₂ w₂
      → Done n S (cs ++ ds) (drop t tape) l w l₂ w₂
  done_then D E s L H =
      let q = D s L H in
      rw (both_done s) (E (run_shares n cs (drop t tape) s) q.0 q.1)

-- acts that leave the lent numbers as they are
pub held_done : (n S : ℕ) (acts : List Act) (tape : List ℕ) {w w' : List ℕ} (l : List ℕ) → ((s : Slots (List ℕ)) → (run_shares n acts tape s).lent ≡ s.lent)
    → HeldDone n acts tape w w' → Done n S acts tape l w l w'
held_done n S acts tape l same D s L H =
    (record { size = L.size; each = λ j lj. L.each j lj ∙ ap (λ (f : ℕ → List ℕ). f j) (sym (same s)) }, D s H)

-- a lent number copied into a slot, and a slot's number put in place of a lent one
pub loaded : (n S k j : ℕ) → n ≤ 8 → k < 16 → j < S → {l w w' : List ℕ} → w' ≡ written slot_step (slot_at k) 0 (number_of n S j l) w
    → Done n S (Load k j ∷ []) [] l w l w'
loaded n S k j few lk lj {l} {w} e s L H =
    (record { size = L.size; each = L.each }, rw (e, L.each j lj) (held_written n few k lk w s H (s.lent j) (sym (ap length (L.each j lj)) ∙ number_size n S j l)))

pub stored : (n S j k : ℕ) → n ≤ 8 → k < 16 → j < S → {l w l' : List ℕ} → l' ≡ written S j 0 (held_of n k w) l → Done n S (Store j k ∷ []) [] l w l' w
stored n S j k few lk lj {l} {w} e s L H =
    (rw (e, H.each k lk) (lent_written n S j lj l s L (s.held k) (sym (ap length (H.each k lk)) ∙ number_size n slot_step (slot_at k) w)), record { size = H.size; each = H.each })

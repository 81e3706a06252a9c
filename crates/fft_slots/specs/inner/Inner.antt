-- Names that inner contracts cite: nothing here has to be believed. Numbers held in slots lie in cells of the work slice that translated
-- plans do not use.
use Rattle.std.specs.Prelude.{◌≡◌, List, ℕ, ◌+◌, ◌*◌, ◌<◌, length}
use Rattle.fft_numbers.specs.Acts.{Act, Slots, run_shares}
use Rattle.fft_numbers.specs.Layout.{number_of}
use Rattle.fft_numbers.specs.Complex.{slot_a, slot_b, slot_c, slot_d, slot_ac, slot_bd, slot_ad, slot_bc, slot_re, slot_im}
use Rattle.fft_numbers.specs.Layer.{slot_ure, slot_uim, slot_plus_re, slot_plus_im, slot_minus_re, slot_minus_im}
use Rattle.fft_slots.specs.declared.Slot.{Slot}
use Rattle.fft_slots.specs.declared.Slot.TheVariants.{A, B, C, D, Ac, Bd, Ad, Bc, Re, Im, URe, UIm, PlusRe, PlusIm, MinusRe, MinusIm}

-- a slot's number
abbrev pub slot_number : Slot → ℕ
slot_number A = slot_a
slot_number B = slot_b
slot_number C = slot_c
slot_number D = slot_d
slot_number Ac = slot_ac
slot_number Bd = slot_bd
slot_number Ad = slot_ad
slot_number Bc = slot_bc
slot_number Re = slot_re
slot_number Im = slot_im
slot_number URe = slot_ure
slot_number UIm = slot_uim
slot_number PlusRe = slot_plus_re
slot_number PlusIm = slot_plus_im
slot_number MinusRe = slot_minus_re
slot_number MinusIm = slot_minus_im

-- where slot k's shares begin, and how far apart they lie
abbrev pub slot_at : ℕ → ℕ
slot_at k = 352 + k

abbrev pub slot_step : ℕ
slot_step = 16

-- the shares held in slot k
abbrev pub held_of : ℕ → ℕ → List ℕ → List ℕ
held_of n k work = number_of n slot_step (slot_at k) work

-- the work slice holds the slots' numbers
pub record HeldIn (n : ℕ) (work : List ℕ) (s : Slots (List ℕ)) : Type 0 where
  pub size : length work ≡ 512
  pub each : (k : ℕ) → k < 16 → held_of n k work ≡ s.held k

-- the lent words are the lent numbers
pub record LentIn (n S : ℕ) (numbers : List ℕ) (s : Slots (List ℕ)) : Type 0 where
  pub size : length numbers ≡ S * n
  pub each : (j : ℕ) → j < S → number_of n S j numbers ≡ s.lent j

-- what acts over a tape make of the slots is what is held after them
abbrev pub HeldDone : ℕ → List Act → List ℕ → List ℕ → List ℕ → Type 0
HeldDone n acts tape work work' = (s : Slots (List ℕ)) → HeldIn n work s → HeldIn n work' (run_shares n acts tape s)

-- and of the lent numbers is what is lent
abbrev pub Done : ℕ → ℕ → List Act → List ℕ → List ℕ → List ℕ → List ℕ → List ℕ → Type 0
Done n S acts tape numbers work numbers' work' =
    (s : Slots (List ℕ)) → LentIn n S numbers s → HeldIn n work s
    → LentIn n S numbers' (run_shares n acts tape s) × HeldIn n work' (run_shares n acts tape s)

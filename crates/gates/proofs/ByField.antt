-- AND and ADD as plan words, over registers that are the word's fields: what the gadget asks, and that what it leaves is what the word's
-- share steps leave. Rests on Words and Named.
use mathlib.Core.Path.{◌≡◌, refl, sym, subst}
use mathlib.Core.List.{List, append-nil}
use mathlib.Core.Logic.{◌≢◌}
use Prim.Native.Nat.{ℕ, ◌≤◌, ◌<◌}
use lib.Dec.{T, eqb, eqb→eq}
use lib.ListN.{length}
use Rattle.word.specs.declared.step.Step.TheVariants.{And, Add}
use Rattle.word.specs.Encoding.{kind_of, field_d, field_a, field_b, plan_step}
use Rattle.masking.specs.Translation.{scratch, block, blocks, adding, words_for}
use Rattle.masking.specs.Machine.{steps_of}
use Rattle.and_parts.specs.declared.once.Place.{Place}
use Rattle.and_parts.specs.inner.Effects.{Enough, Ran, placed}
use Rattle.and_many.specs.inner.Asked.{Asked, and_of}
use Rattle.gates.specs.inner.PlanWords.{Adds, GoodPlanWord, is_gate}
use Rattle.masking.proofs.emitted.Tests.{or_elim}
use Rattle.and_parts.proofs.Running.{ran_as}
use Rattle.gates.proofs.Named.{Named, of_plan, plan_register_named, plan_placed, and_ran, and_asked}
use Rattle.gates.proofs.Words.{Word, registers, is_and, is_add, word_enough, word_ran, one_ran}

-- what is known of a good word w for n shares, on cells, whose fields name the registers p, q and r
pub record Fields (w n : ℕ) (cells : List ℕ) (p q r : Place) : Type 0 where
  pub pre : GoodPlanWord w × (2 ≤ n) × (n ≤ 8) × (length cells ≡ 512)
  pub d : (p.base ≡ field_d w) × (p.stride ≡ 32)
  pub a : (q.base ≡ field_a w) × (q.stride ≡ 32)
  pub b : (r.base ≡ field_b w) × (r.stride ≡ 32)

-- where only d is taken as a place
pub with_d : {w n : ℕ} {cells : List ℕ} {p : Place} → GoodPlanWord w × (2 ≤ n) × (n ≤ 8) × (length cells ≡ 512) → (p.base ≡ field_d w) × (p.stride ≡ 32)
    → Fields w n cells p (placed (field_a w) 32) (placed (field_b w) 32)
with_d h e = record { pre = h; d = e; a = (refl, refl); b = (refl, refl) }

-- of the two kinds the other
pub not_and : (k : ℕ) → T (is_gate k) → k ≢ 3 → k ≡ 8
not_and k g h = or_elim (eqb k 3) (eqb k 8) (λ x. absurd (h (eqb→eq k 3 x))) (λ x. eqb→eq k 8 x) g

module _ {w n : ℕ} {cells : List ℕ} {p q r : Place} (F : Fields w n cells p q r) where
  -- the word's share steps, done from place t on up to t'
  abbrev Done : List ℕ → ℕ → List ℕ → ℕ → Type 0
  Done tape t after t' = Ran (steps_of (words_for n (plan_step w))) tape t cells after t'

  named_d : field_d w < 32 → Named p (field_d w)
  named_d = plan_register_named p (field_d w) F.d.0 F.d.1

  -- ---- AND
  module _ (k : kind_of w ≡ 3) where
    and_in : (field_d w < 32) × (field_a w < 32) × (field_b w < 32)
    and_in = let h = registers (is_and w F.pre.0 k) in (h.0, h.1.0, h.1.1.0)

    pub and_asks : (tape : List ℕ) (t : ℕ) → Enough tape t (steps_of (words_for n (plan_step w))) → Asked n p (field_a w) (field_b w) 32 tape t cells
    and_asks tape t e =
        let h = and_in in
        let f = word_enough (is_and w F.pre.0 k) n F.pre.1 F.pre.2 tape t e in
        and_asked (named_d h.0) (plan_placed (field_a w) h.1) (plan_placed (field_b w) h.2) F.pre.1 F.pre.2 F.pre.3
        (subst (Enough tape t) (append-nil (block scratch n (And (field_d w) (field_a w) (field_b w)))) f)

    pub and_leaves : {tape after : List ℕ} {t t' : ℕ} → Ran (and_of n p (field_a w) (field_b w) 32) tape t cells after t' → Done tape t after t'
    and_leaves h =
        let i = and_in in
        one_ran (is_and w F.pre.0 k) n F.pre.1 F.pre.2 refl (and_ran n (named_d i.0) (plan_placed (field_a w) i.1) (plan_placed (field_b w) i.2) h)

  -- ---- ADD
  module _ (k : kind_of w ≡ 8) where
    add_is : Word w (Add (field_d w) (field_a w) (field_b w))
    add_is = is_add w F.pre.0 k

    add_steps : blocks scratch n (adding (field_d w) (field_a w) (field_b w)) ≡ blocks scratch n (adding p.base q.base r.base)
    add_steps = λ i. blocks scratch n (adding (sym F.d.0 i) (sym F.a.0 i) (sym F.b.0 i))

    pub add_asks : (tape : List ℕ) (t : ℕ) → Enough tape t (steps_of (words_for n (plan_step w))) → Adds n p q r tape t cells
    add_asks tape t e =
        let h = registers add_is in
        record {
          least = F.pre.1;
          most = F.pre.2;
          size = F.pre.3;
          to = of_plan p (field_d w) F.d.0 F.d.1 h.0;
          left = of_plan q (field_a w) F.a.0 F.a.1 h.1.0;
          right = of_plan r (field_b w) F.b.0 F.b.1 h.1.1.0;
          words = subst (Enough tape t) add_steps (word_enough add_is n F.pre.1 F.pre.2 tape t e);
        }

    pub add_leaves : {tape after : List ℕ} {t t' : ℕ} → Ran (blocks scratch n (adding p.base q.base r.base)) tape t cells after t' → Done tape t after t'
    add_leaves h = word_ran add_is n F.pre.1 F.pre.2 (ran_as (sym add_steps) h)

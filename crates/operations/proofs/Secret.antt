-- The operations' secrecy: each step of a plan's share program has demand 3's secrecy in terms of the operands' shares, over any plan that
-- computes an operation and from any cells, since the words of its steps do not go by the cells that the operands do not fill. Rests on masking's
-- secrecy of a step, there and over lists of runs, and on Placed.
use mathlib.Core.Path.{◌≡◌, sym, ◌∙◌}
use mathlib.Core.List.{List}
use Prim.Native.Nat.{ℕ, ◌≤◌}
use native.Mathlib.Omega.{arith}
use lib.ListN.{get_or, length}
use Rattle.masking.specs.Secrecy.{Hidden}
use Rattle.masking.proofs.secret.Secret.{step_secret}
use Rattle.masking.proofs.secret.SecretRuns.{plan_hidden}
use Rattle.plans.specs.Computes.{Computes}
use Rattle.masked_call.specs.Shares.{placed, placed_over}
use Rattle.operations.specs.Masked.{AnyStart, Operand, Secretive, StepSecret}
use Rattle.operations.proofs.Placed.{over_start, placed_start, placed_agree, zeros_start}
use Rattle.operations.proofs.Joined.{accepted}

pub operation_secret : (plan : List ℕ) (op : ℕ → ℕ → ℕ) → Computes plan op → AnyStart plan → Secretive plan
operation_secret plan op C start n least most s inside =
    let A = accepted plan op C n least most in
    let S = step_secret n plan A s inside in
    let few : (x : List ℕ) → Operand n x → length x ≤ 8 = λ x X. omega (arith, X.size) in
    record {
      share = S.0;
      below = S.1;
      hidden = λ x y x' y' c c' X Y X' Y' sc sc' ex ey.
          let h = S.2 (placed x y) (placed x' y') (placed_start x y (few x X) (few y Y) X.words Y.words) (placed_start x' y' (few x' X') (few y' Y') X'.words Y'.words)
          (placed_agree x y x' y' (few x X) (few y Y) (few x' X') (few y' Y') S.0 ex ey) in
          plan_hidden n plan A s (placed_over x y c) (placed_over x' y' c') (over_start x y X.words Y.words c sc) (over_start x' y' X'.words Y'.words c' sc')
          (record {
            pairing = h.pairing;
            equal = λ tape t.
                start n least most x y c tape X Y sc.size s inside ∙ h.equal tape t
                ∙ sym (start n least most x' y' c' (h.pairing.there tape) X' Y' sc'.size s inside);
          });
    }

-- from zeros
pub from_zeros : {plan : List ℕ} {n s : ℕ} (S : StepSecret plan n s) (x y x' y' : List ℕ) → Operand n x → Operand n y → Operand n x' → Operand n y'
    → get_or x S.share 0 ≡ get_or x' S.share 0 → get_or y S.share 0 ≡ get_or y' S.share 0 → Hidden n plan s (placed x y) (placed x' y')
unfolding placed
from_zeros S x y x' y' X Y X' Y' = S.hidden x y x' y' _ _ X Y X' Y' zeros_start zeros_start

-- NOT and CONST in every share join wrongly at even n: from zeros both join to 0, by computing the share machine.
use mathlib.Core.Path.{◌≡◌, refl, sym, ap, ◌∙◌}
use mathlib.Core.List.{[]}
use Prim.Native.Nat.{ℕ}
use native.Mathlib.Omega.{arith}
use Rattle.bits.specs.Ops.{xor_w, not_w}
use Rattle.masking.specs.Translation.{share_cell}
use Rattle.masking.specs.Machine.{exec_step, exec_steps}
use Rattle.masking.specs.Unsplit.{joined}
use Rattle.masking.specs.EveryShare.{not_in_every, const_in_every, JoinsWrongly, EveryShareWrong}
use Rattle.masking.proofs.Leaks.{zeros, zero_words}

not_0 : not_w 0 ≡ 18446744073709551615
unfolding not_w
not_0 = refl

wrong : (n : ℕ) → joined n zeros 0 ≡ 0 → joined n (exec_steps (not_in_every n) [] zeros) 1 ≡ 0 → joined n (exec_steps (const_in_every n) [] zeros) 1 ≡ 0
    → JoinsWrongly n
wrong n z a b =
    record {
      cells = zeros;
      start = record { size = refl; words = zero_words 512 };
      not_wrong = λ e. let q : ◌≡◌ {A = ℕ} 0 18446744073709551615 = sym a ∙ e ∙ ap not_w z ∙ not_0 in absurd (omega arith);
      const_wrong = λ e. let q : ◌≡◌ {A = ℕ} 0 700 = sym b ∙ e in absurd (omega arith);
    }

pub every_share_wrong : EveryShareWrong
unfolding exec_step xor_w not_w share_cell joined
every_share_wrong = (wrong 2 refl refl refl, wrong 4 refl refl refl, wrong 6 refl refl refl, wrong 8 refl refl refl)

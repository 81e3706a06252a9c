-- `split_join::unmask` meets its contract (`xor_fold`).
use Rattle.std.proofs.Common.{rules, ◌≡◌, ℕ, ◌∙◌}
use lib.Bits.{bit_xor}
use Rattle.std.specs.List.{fold}
use Rattle.split_join.proofs.SplitJoin.{xor_fold}
use Rattle.split_join.proofs.unmask.Goals as goal

pub returns : goal.returns
returns c =
    let e : c.fold.result ≡ fold (λ (x y : ℕ). bit_xor x y) 0 c.args.shares.now = search rules in
    e ∙ xor_fold c.args.shares.now

-- `emission_pairs::pairs_of` meets its contract.
use mathlib.Core.List.{List, [], ◌∷◌}
use mathlib.Core.Path.{ap, ◌∙◌}
use Prim.Native.Nat.{ℕ, ◌+◌, ◌-◌}
use native.Mathlib.Omega.{arith}
use Rattle.masking.specs.Translation.{up_from, pairs_of}
use Rattle.emission_pairs.specs.inner.Pairs.{pair_steps}
use Rattle.emission_rows.proofs.Parts.{start, renamed, part, room, whole}
use Rattle.masking.proofs.emitted.Rising.{rising, risen}
use Rattle.emission_pairs.proofs.ByPair.{pair_first, pair_none}
use Rattle.emission_pairs.proofs.pairs_of.Goals as goal

pub loop-j-init : goal.loop-j-init
loop-j-init c = (omega arith, start _ _ _)

pub one_pair-at-requires : goal.one_pair-at-requires
one_pair-at-requires c =
    let n = c.args.n in
    let i = c.args.i in
    let p = c.args.p in
    let j = c.loop-j.j in
    let ts = pair_steps p (pairs_of i (up_from (j + 1) (n - (j + 1)))) in
    let l = renamed _ _ _ (ap (λ (js : List ℕ). pair_steps p (pairs_of i js)) (rising j n (omega arith)) ∙ pair_first p _ _) c.loop-j.invariant.1 in record { pair_fits = c.requires.pair_fits; i_bound = omega arith; j_bound = omega arith; room = room (pair_steps p (record { lo = i; hi = j } ∷ [])) ts l c.requires.room }

pub loop-j-preserved : goal.loop-j-preserved
loop-j-preserved c =
    let n = c.args.n in
    let i = c.args.i in
    let p = c.args.p in
    let j = c.loop-j.j in
    let ts = pair_steps p (pairs_of i (up_from (j + 1) (n - (j + 1)))) in
    let l = renamed _ _ _ (ap (λ (js : List ℕ). pair_steps p (pairs_of i js)) (rising j n (omega arith)) ∙ pair_first p _ _) c.loop-j.invariant.1 in
    (omega arith, part _ ts l c.one_pair-at.ensures)

pub shape_of-out : goal.shape_of-out
shape_of-out c = c.loop-j.invariant.1.long

pub returns : goal.returns
returns c =
    let p = c.args.p in
    let i = c.args.i in
    whole (renamed _ _ _ (ap (λ (js : List ℕ). pair_steps p (pairs_of i js)) (risen _ _ c.loop-j-test.false) ∙ pair_none p) c.loop-j.invariant.1)

-- `emission_pairs::all_pairs` meets its contract.
use mathlib.Core.List.{List}
use mathlib.Core.Path.{ap, ◌∙◌}
use Prim.Native.Nat.{ℕ, ◌+◌, ◌-◌, ◌≤◌, ◌<◌}
use native.Mathlib.Omega.{arith}
use Rattle.masking.specs.Translation.{up_from, pairs, pairs_of}
use Rattle.emission_pairs.specs.inner.Pairs.{pair_steps}
use Rattle.emission_rows.proofs.Parts.{start, renamed, part, room, whole}
use Rattle.masking.proofs.emitted.Rising.{rising, risen, from_first}
use Rattle.emission_pairs.proofs.ByPair.{pair_append, pair_none}
use Rattle.emission_pairs.proofs.all_pairs.Goals as goal

pub loop-i-init : goal.loop-i-init
loop-i-init c =
    let p = c.args.p in
    (omega arith, renamed _ _ _ (ap (λ (is : List ℕ). pair_steps p (pairs is)) (from_first c.args.n)) (start _ _ _))

pub pairs_of-at-requires : goal.pairs_of-at-requires
pairs_of-at-requires c =
    let n = c.args.n in
    let p = c.args.p in
    let i = c.loop-i.i in
    let row = pair_steps p (pairs_of i (up_from (i + 1) (n - (i + 1)))) in
    let ts = pair_steps p (pairs (up_from (i + 1) (n - (i + 1)))) in
    let h : i < n = omega arith in
    let l = renamed _ _ _ (ap (λ (is : List ℕ). pair_steps p (pairs is)) (rising i n (omega arith)) ∙ pair_append p _ _) c.loop-i.invariant.1 in record { pair_fits = c.requires.pair_fits; i_lt_n = h; n_bound = c.requires.n_bound; room = room row ts l c.requires.room }

pub loop-i-preserved : goal.loop-i-preserved
loop-i-preserved c =
    let n = c.args.n in
    let p = c.args.p in
    let i = c.loop-i.i in
    let row = pair_steps p (pairs_of i (up_from (i + 1) (n - (i + 1)))) in
    let ts = pair_steps p (pairs (up_from (i + 1) (n - (i + 1)))) in
    let h : i + 1 ≤ n = omega arith in
    let l = renamed _ _ _ (ap (λ (is : List ℕ). pair_steps p (pairs is)) (rising i n (omega arith)) ∙ pair_append p _ _) c.loop-i.invariant.1 in
    (h, part row ts l c.pairs_of-at.ensures)

pub shape_of-out : goal.shape_of-out
shape_of-out c = c.loop-i.invariant.1.long

pub returns : goal.returns
returns c =
    let p = c.args.p in
    whole (renamed _ _ _ (ap (λ (is : List ℕ). pair_steps p (pairs is)) (risen _ _ c.loop-i-test.false) ∙ pair_none p) c.loop-i.invariant.1)

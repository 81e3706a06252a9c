-- `gates::add::passed` meets its contract. Rests on add_turn's InTurn for `merged`, and on and_parts' Running for steps done in parts.
use mathlib.Core.List.{[], ◌∷◌}
use native.Mathlib.Omega.{arith}
use Rattle.word.specs.declared.step.Step.TheVariants.{Xor, And, Shl}
use Rattle.masking.specs.Translation.{r_g, r_p, r_t}
use Rattle.and_parts.proofs.Running.{start, blocks_part}
use Rattle.add_turn.proofs.InTurn.{ran}
use Rattle.gates.proofs.Named.{helper_named, last_asked, last_done}
use Rattle.gates.proofs.add.passed.Goals as goal

pub and_of-requires : goal.and_of-requires
and_of-requires c =
    let l = blocks_part c.args.n (Xor r_g r_g r_t ∷ Shl r_t r_p c.args.k ∷ []) (And r_p r_p r_t ∷ []) (start c.args.tape.now _ c.args.t c.args.cells.now) (ran c.args.k c.args.n c.args.tape.now c.args.t c.merged.ensures) in
    last_asked c.args.n (helper_named 2 (omega arith)) c.args.a c.args.b c.requires.k_bound.4 c.requires.k_bound.5 l c.requires.k_bound.3 c.requires.k_bound.1 c.requires.k_bound.2 c.requires.enough

pub returns : goal.returns
returns c =
    let l = blocks_part c.args.n (Xor r_g r_g r_t ∷ Shl r_t r_p c.args.k ∷ []) (And r_p r_p r_t ∷ []) (start c.args.tape.now _ c.args.t c.args.cells.now) (ran c.args.k c.args.n c.args.tape.now c.args.t c.merged.ensures) in
    last_done c.args.n (helper_named 2 (omega arith)) c.args.a c.args.b c.requires.k_bound.4 c.requires.k_bound.5 l c.and_of.ensures

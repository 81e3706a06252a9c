-- `gates::add::begun` meets its contract. Rests on and_parts' Running for steps done in parts.
use mathlib.Core.List.{[], ◌++◌}
use native.Mathlib.Omega.{arith}
use Rattle.word.specs.declared.step.Step.TheVariants.{And, Shl}
use Rattle.masking.specs.Translation.{scratch, block, r_g, r_p, r_t}
use Rattle.and_parts.specs.declared.once.Op.TheVariants as op
use Rattle.and_parts.proofs.Running.{start, part}
use Rattle.gates.proofs.Named.{helper_named, once_ran, last_asked, last_done}
use Rattle.gates.proofs.add.begun.Goals as goal

pub and_of-requires : goal.and_of-requires
and_of-requires c =
    let G = helper_named 1 (omega arith) in
    let T = helper_named 3 (omega arith) in
    let l = part (block scratch c.args.n (Shl r_t r_g c.args.k)) (block scratch c.args.n (And r_t r_p r_t) ++ []) (start c.args.tape.now _ c.args.t c.args.cells.now) (once_ran (op.Shl c.args.k) c.args.n T G G c.args.tape.now c.args.t c.each.ensures) in
    last_asked c.args.n T c.args.a c.args.b c.requires.k_bound.4 c.requires.k_bound.5 l c.requires.k_bound.3 c.requires.k_bound.1 c.requires.k_bound.2 c.requires.enough

pub returns : goal.returns
returns c =
    let G = helper_named 1 (omega arith) in
    let T = helper_named 3 (omega arith) in
    let l = part (block scratch c.args.n (Shl r_t r_g c.args.k)) (block scratch c.args.n (And r_t r_p r_t) ++ []) (start c.args.tape.now _ c.args.t c.args.cells.now) (once_ran (op.Shl c.args.k) c.args.n T G G c.args.tape.now c.args.t c.each.ensures) in
    last_done c.args.n T c.args.a c.args.b c.requires.k_bound.4 c.requires.k_bound.5 l c.and_of.ensures

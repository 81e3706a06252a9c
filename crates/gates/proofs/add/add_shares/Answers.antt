-- `gates::add::add_shares` meets its contract: Adding says what is left after each of its calls.
use mathlib.Core.Path.{refl, ◌∙◌}
use native.Mathlib.Omega.{arith}
use Rattle.gates.proofs.Adding.{carried, carry_asked, copied, halved, rounded, rounds_enough, shifted, summed}
use Rattle.gates.proofs.add.add_shares.Goals as goal

pub and_of-t-requires : goal.and_of-t-requires
and_of-t-requires c = let h = c.requires in carry_asked h (halved h c.each.ensures)

pub rounds-t-requires : goal.rounds-t-requires
rounds-t-requires c =
    let h = c.requires in
    let l = copied h (carried h (halved h c.each.ensures) c.and_of-t.ensures) c.each-2.ensures in record { n_bound = (h.most, l.size ∙ h.size, h.least, refl, refl); enough = rounds_enough h l }

pub each-requires-4 : goal.each-requires-4
each-requires-4 c =
    let h = c.requires in
    let l = copied h (carried h (halved h c.each.ensures) c.and_of-t.ensures) c.each-2.ensures in
    let l₂ = shifted h (rounded h l c.rounds-t.ensures) c.each-3.ensures in
    (h.most, l₂.size ∙ h.size, tt, omega (arith, h.to.0, h.to.1), omega arith, omega arith)

pub returns : goal.returns
returns c =
    let h = c.requires in
    let l = copied h (carried h (halved h c.each.ensures) c.and_of-t.ensures) c.each-2.ensures in
    summed h (shifted h (rounded h l c.rounds-t.ensures) c.each-3.ensures) c.each-4.ensures

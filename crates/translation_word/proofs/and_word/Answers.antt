-- `translation_word::and_word` meets its contract.
use mathlib.Core.Path.{◌≡◌, refl, ◌∙◌}
use Prim.Native.Nat.{ℕ, ◌<◌}
use Rattle.emission_rows.specs.declared.Cells.{Cells}
use Rattle.emission_rows.proofs.Parts.{words_room, as_words}
use Rattle.emission_add.specs.inner.Registers.{cells_for}
use Rattle.emission_add.proofs.Registers.{register_on, fits_for, room_and, as_and}
use Rattle.translation_word.specs.inner.Good.{on_register}
use Rattle.translation_word.proofs.Straight.{and_words}
use Rattle.translation_word.proofs.and_word.Goals as goal

on : {c : Cells} (r : ℕ) → c ≡ on_register r → r < 32 → c ≡ cells_for r
on r e l = e ∙ register_on r 32 r refl refl l

pub and_block-requires : goal.and_block-requires
and_block-requires c =
    let x = on c.args.d c.register.ensures c.requires.d_bound.0 in
    let y = on c.args.a c.register-2.ensures c.requires.d_bound.1.0 in
    let z = on c.args.b c.register-3.ensures c.requires.d_bound.1.1 in record { fits = (fits_for x c.requires.d_bound.0, fits_for y c.requires.d_bound.1.0, fits_for z c.requires.d_bound.1.1); n_bound = c.requires.n_bound; room = room_and c.args.d c.args.a c.args.b c.args.n x y z (words_room _ (and_words c.args.n c.args.d c.args.a c.args.b) c.requires.b_in_bounds) }

pub returns : goal.returns
returns c =
    let x = on c.args.d c.register.ensures c.requires.d_bound.0 in
    let y = on c.args.a c.register-2.ensures c.requires.d_bound.1.0 in
    let z = on c.args.b c.register-3.ensures c.requires.d_bound.1.1 in
    as_words _ (and_words c.args.n c.args.d c.args.a c.args.b) (as_and c.args.d c.args.a c.args.b c.args.n x y z c.and_block.ensures)

-- `translation_word::add_word` meets its contract.
use mathlib.Core.Path.{refl}
use Rattle.emission_rows.proofs.Parts.{words_room, as_words}
use Rattle.translation_word.proofs.Straight.{add_words}
use Rattle.translation_word.proofs.add_word.Goals as goal

pub adding-requires : goal.adding-requires
adding-requires c =
    rw (c.register.ensures, c.register-2.ensures, c.register-3.ensures)
    (record { register = (record { low = c.requires.d_bound.0; share = refl }, record { low = c.requires.d_bound.1.0; share = refl }, record { low = c.requires.d_bound.1.1; share = refl }); n_bound = c.requires.n_bound; room = words_room _ (add_words c.args.n c.args.d c.args.a c.args.b) c.requires.b_in_bounds })

pub returns : goal.returns
returns c =
    as_words _ (add_words c.args.n c.args.d c.args.a c.args.b) (rw (c.register.ensures, c.register-2.ensures, c.register-3.ensures) at c.adding.ensures)

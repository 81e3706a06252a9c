-- Names for what pairs of shares get, by masking's definitions, cited by inner functions and their proofs only: nothing here has to be believed.
use Rattle.std.specs.Prelude.{List}
use Rattle.word.specs.declared.step.Step.{Step}
use Rattle.masking.specs.Translation.{Pair, refresh, products, scratch}
use Rattle.emission_rows.specs.inner.Written.{Fits, cells_on}
use Rattle.emission_pairs.specs.declared.EachPair.{EachPair}
use Rattle.emission_pairs.specs.declared.EachPair.TheVariants.{Refresh, Products}

-- what pairs get
abbrev pub pair_steps : EachPair → List Pair → List Step
pair_steps Refresh ps = refresh scratch ps
pair_steps (Products a) ps = products scratch (cells_on a) ps

abbrev pub PairFits : EachPair → Type 0
PairFits Refresh = Unit {0}
PairFits (Products a) = Fits a

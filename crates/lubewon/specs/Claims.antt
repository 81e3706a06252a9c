-- Every top statement of the library, in one record: the root of what is claimed. `claims`, in proofs/, proves it, so that a statement that is
-- lost fails the gate. proofs/stated has the type of each field written out once more, here and in every record below, so that one that is narrowed,
-- halved or asks for more fails there. docs/CLAIMS.md maps the sentences of documents 01 and 02 to these fields.
use Rattle.bits.specs.Adder.{AdderAdds}
use Rattle.word.specs.Parts.{WordsExact}
use Rattle.checks.specs.Answers.{FirstBadFound}
use Rattle.plain.specs.Laws.{Laws}
use Rattle.plain.specs.Examples.{WordExamples}
use Rattle.masking.specs.Counts.{Counts}
use Rattle.masking.specs.Head.{HeadsHold}
use Rattle.masking.specs.Demand3.{Demand3Holds}
use Rattle.masking.specs.Leaks.{UnrefreshedLeaks}
use Rattle.masking.specs.WipedFirst.{WipedFirstZero}
use Rattle.masking.specs.EveryShare.{EveryShareWrong}
use Rattle.masking.specs.Examples.{TranslationExamples}
use Rattle.masking.specs.Kept.{SharesKept}
use Rattle.masking.specs.Reads.{KnownDecide}
use Rattle.translation.specs.Tied.{TranslateTied}
use Rattle.add_head.specs.Converts.{Converts}
use Rattle.binary64.specs.Meaning.{RoundingMeans, FloorMeans, TruncateMeans, NearestMeans}
use Rattle.binary64.specs.Whole.{DroppingLowBits}
use Rattle.binary64.specs.Ieee.{ProductIsIeee, SumIsIeee, FloorIsIeee, TruncateIsIeee, NearestIsIeee}
use Rattle.binary64.specs.Corners.{Corners}
use Rattle.binary64.specs.Edges.{EdgesHold, RoundingEdgesHold}
use Rattle.plans.specs.BuiltIns.{BuiltIns}
use Rattle.plans.specs.ProductRows.{ByRows}
use Rattle.operations.specs.Masked.{Masked}
use Rattle.operations.specs.RandomWords.{RandomWords}
use Rattle.split_join.specs.SplitJoin.{SplitJoins}
use Rattle.fft_numbers.specs.Holds.{Transforms}
use Rattle.fft_numbers.specs.Means.{LayerMeans, OnSharesMeans}
use Rattle.fft_numbers.specs.RandomWords.{TransformWords}
use Rattle.fft_numbers.specs.Examples.{ComplexExamples}
use Rattle.listing.specs.Sharelist.{ExampleListed, LongInputs}
use Rattle.listing.specs.Pieces.{PiecesAreListing}
use Rattle.lubewon.specs.TurnDowns.{TurnDowns}

pub record Claims : Type 0 where
  -- step words: taken apart and put together; the first bad word; the plain machine; the adder on unsplit words adds (`demand3` has it on shares)
  pub words_exact : WordsExact
  pub first_bad_is : FirstBadFound
  pub plain_machine : Laws
  pub adder : AdderAdds
  -- translation and share runs: lengths, tape words and cells; demand 3, with AND's scratch cells wiped; that it is about the words Translate writes
  pub counts : Counts
  pub demand3 : Demand3Holds
  pub translate_tied : TranslateTied
  -- the head of a share program sets no cell and takes no tape word; and a stored program with the head put before it
  pub heads_hold : HeadsHold
  pub converts : Converts
  -- and that an AND on two shares without its refresh has no such secrecy
  pub unrefreshed_leaks : UnrefreshedLeaks
  -- that an AND which wipes before it copies z to d gives shares of 0, and that NOT and CONST in every share join wrongly at even n
  pub wiped_first_zero : WipedFirstZero
  pub every_share_wrong : EveryShareWrong
  -- that agreement in a share at the start is agreement in it at the end, over paired tapes
  pub keeps_shares : SharesKept
  -- of a plan that reads no registers but known ones and those written before: that the known ones and the tape decide the registers it writes and
  -- the word of every step
  pub known_decide : KnownDecide
  -- numbers: what rounding and the whole numbers mean, the one fact about dropping low bits, where the results are IEEE 754's, the corners, the tables of edges
  pub rounding_means : RoundingMeans
  pub floor_means : FloorMeans
  pub truncate_means : TruncateMeans
  pub nearest_means : NearestMeans
  pub dropping_low_bits : DroppingLowBits
  pub product_is_ieee : ProductIsIeee
  pub sum_is_ieee : SumIsIeee
  pub floor_is_ieee : FloorIsIeee
  pub truncate_is_ieee : TruncateIsIeee
  pub nearest_is_ieee : NearestIsIeee
  pub corners : Corners
  pub edges : EdgesHold
  pub rounding_edges_is : RoundingEdgesHold
  -- the built-in plans, the product's from the number of a row; the operations on shares, split and join
  pub built_ins : BuiltIns
  pub product_by_rows : ByRows
  pub masked : Masked
  pub split_joins : SplitJoins
  -- complex product and layer on shares: joined results, tape words, and the secrecy of each step of each of their calls
  pub transforms : Transforms
  -- what a layer makes of each pair, on plain words; what complex product, pair and layer come to on shares, call by call on the tape
  pub layer_means : LayerMeans
  pub on_shares_means : OnSharesMeans
  -- how many random words each operation on shares takes; the complex product and a layer
  pub random_words : RandomWords
  pub transform_words : TransformWords
  -- the listing in the pieces that `list_piece` writes, that of an input that is too long, and document 01's example; what the program
  -- `sharelist` reads and writes rests on the contracts of its own functions
  pub pieces_are_listing : PiecesAreListing
  pub long_inputs : LongInputs
  pub example : ExampleListed
  -- worked examples of words, plans and translations, of complex numbers, and of each turn-down
  pub word_examples : WordExamples
  pub translation_examples : TranslationExamples
  pub complex_examples : ComplexExamples
  pub turn_downs : TurnDowns

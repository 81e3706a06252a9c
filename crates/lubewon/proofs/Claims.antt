-- Every top statement of the library holds: each field is the theorem of its own crate.
use Rattle.bits.proofs.Adder.{adder_sum}
use Rattle.word.proofs.Together as together
use Rattle.checks.proofs.Checking as checking
use Rattle.plain.proofs.Laws.{laws}
use Rattle.plain.proofs.Examples as plain-examples
use Rattle.masking.proofs.emitted.Counts as emitted-counts
use Rattle.masking.proofs.Head as head
use Rattle.masking.proofs.Demand3 as runs
use Rattle.masking.proofs.Leaks as leaks
use Rattle.masking.proofs.WipedFirst as wiped-first
use Rattle.masking.proofs.EveryShare as every-share
use Rattle.masking.proofs.Examples as examples
use Rattle.masking.proofs.joined.Known as known
use Rattle.masking.proofs.secret.Kept as kept
use Rattle.translation.proofs.Tied as tied
use Rattle.add_head.proofs.Converts as conversion
use Rattle.binary64.proofs.Meaning as meaning
use Rattle.binary64.proofs.FloorMeaning as floor-meaning
use Rattle.binary64.proofs.WholeMeaning as whole-meaning
use Rattle.binary64.proofs.Dropping as dropping
use Rattle.binary64.proofs.Ieee as ieee
use Rattle.binary64.proofs.IeeeWhole as ieee-whole
use Rattle.binary64.proofs.Corners as at-corners
use Rattle.binary64.proofs.Edges.{edges_hold, rounding_edges_hold}
use Rattle.plans.proofs.BuiltIns as plans
use Rattle.plans.proofs.product.Words as product
use Rattle.operations.proofs.Masked as operations
use Rattle.operations.proofs.Tape as tape
use Rattle.split_join.proofs.SplitJoin as splitting
use Rattle.fft_numbers.proofs.Holds as complex-numbers
use Rattle.fft_numbers.proofs.Means as layer-meaning
use Rattle.fft_numbers.proofs.OnShares as on_shares
use Rattle.fft_numbers.proofs.RandomWords as transform-tape
use Rattle.fft_numbers.proofs.Examples as worked-complex
use Rattle.listing.proofs.Whole as listing
use Rattle.listing.proofs.Long as long
use Rattle.listing.proofs.Example as listed
use Rattle.lubewon.specs.Claims.{Claims}
use Rattle.lubewon.proofs.TurnDowns as Turned-down

pub claims : Claims
claims =
    record {
      words_exact = together.words_exact;
      first_bad_is = checking.first_bad_is;
      plain_machine = laws;
      adder = adder_sum;
      counts = emitted-counts.counts;
      demand3 = runs.demand3;
      translate_tied = tied.translate_tied;
      heads_hold = head.heads_hold;
      converts = conversion.converts;
      unrefreshed_leaks = leaks.unrefreshed_leaks;
      wiped_first_zero = wiped-first.wiped_first_zero;
      every_share_wrong = every-share.every_share_wrong;
      keeps_shares = kept.keeps_shares;
      known_decide = known.known_decide;
      rounding_means = meaning.rounding_means;
      floor_means = floor-meaning.floor_means;
      truncate_means = whole-meaning.truncate_means;
      nearest_means = whole-meaning.nearest_means;
      dropping_low_bits = dropping.dropping_low_bits;
      product_is_ieee = ieee.product_is_ieee;
      sum_is_ieee = ieee.sum_is_ieee;
      floor_is_ieee = ieee-whole.floor_is_ieee;
      truncate_is_ieee = ieee-whole.truncate_is_ieee;
      nearest_is_ieee = ieee-whole.nearest_is_ieee;
      corners = at-corners.corners;
      edges = edges_hold;
      rounding_edges_is = rounding_edges_hold;
      built_ins = plans.built_ins;
      product_by_rows = product.by_rows;
      masked = operations.masked;
      split_joins = splitting.split_joins;
      transforms = complex-numbers.transforms;
      layer_means = layer-meaning.layer_means;
      on_shares_means = on_shares.on_shares_means;
      random_words = tape.random_words;
      transform_words = transform-tape.transform_words;
      pieces_are_listing = listing.pieces_are_listing;
      long_inputs = long.long_inputs;
      example = listed.example;
      word_examples = plain-examples.word_examples;
      translation_examples = examples.translation_examples;
      complex_examples = worked-complex.complex_examples;
      turn_downs = Turned-down.turn_downs;
    }

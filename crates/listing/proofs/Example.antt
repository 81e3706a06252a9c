-- Document 01's listed translation of bytes 02 01 00 08 20, with the head. Assumes nothing.
use mathlib.Core.Path.{refl}
use Rattle.word.specs.Encoding.{row, named, put}
use Rattle.word.specs.Layout.{length_of, tape_of}
use Rattle.masking.specs.Translation.{share_cell, translated}
use Rattle.checks.specs.Answers.{plan_checked}
use Rattle.translation.specs.Calls.{plan_for}
use Rattle.listing_input.specs.Input.{list_answer}
use Rattle.listing.specs.Sharelist.{listing, ExampleListed}
use Rattle.listing_lines.specs.Lines.{decimal, hex_line, first_line, refused_line}

pub example : ExampleListed
unfolding row named put length_of tape_of share_cell translated plan_checked plan_for list_answer decimal hex_line first_line refused_line listing
example = refl

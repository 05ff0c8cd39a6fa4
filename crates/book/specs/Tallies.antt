-- What judge keeps of a stage: how far the book has been read, and what is counted of it. Assumes nothing: these are definitions.
use Rattle.std.proofs.Math.Option.{Option, none, some}
use Rattle.std.specs.Prelude.{length, Err}
use Rattle.meaning.specs.Books.{keywords}
use Rattle.format.specs.Prefixes.{prefix_count}
use Rattle.format.specs.Limits.{piece_count}
use Rattle.format.specs.Refusals.{Refusal}
use Rattle.format.specs.Stages as format
use Rattle.format.specs.Stages.{start, headed, named, gapped, worded, ended, phrases_at, pieces_at}
use Rattle.format.specs.Faults.{last_number}
use Rattle.counters.specs.Counters.{number_of}
use Rattle.records.specs.Refusals.{refusal_for}
use Rattle.book.specs.declared.progress.Stage.{Stage}
use Rattle.book.specs.declared.progress.Stage.TheVariants.{Start, Headed, Named, Gapped, Worded, Ended}
use Rattle.book.specs.declared.progress.Tally.{Tally}
use Rattle.book.specs.Judging.{Turn, to}

-- What was read last at a stage.
unfoldable pub name_of : format.Stage → Stage
name_of start = Start
name_of headed = Headed
name_of (named phrases phrase) = Named
name_of (gapped phrases phrase gap) = Gapped
name_of (worded phrases phrase) = Worded
name_of (ended phrases) = Ended

-- The phrases and the number of the last one, the pieces of the phrase that is being read and those of the book, and the different
-- nonempty prefixes of the keywords.
unfoldable pub tally_of : format.Stage → Tally
tally_of stage = record {
  phrases = length (phrases_at stage);
  last = number_of (last_number (phrases_at stage));
  own = length (pieces_at stage);
  pieces = piece_count (phrases_at stage);
  prefixes = prefix_count (keywords (phrases_at stage));
}

-- The turn for a record: a first fault refuses it, and without one judge goes on, with what is kept of the stage behind this record.
unfoldable pub turn_for : Option Refusal → format.Stage → Turn
turn_for (some why) stage = Err (refusal_for why)
turn_for none stage = to (name_of stage) (tally_of stage)

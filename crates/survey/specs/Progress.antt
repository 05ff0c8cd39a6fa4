-- How far the survey has come, after each kind of record. Assumes nothing: these are definitions.
use Rattle.std.specs.Prelude.{true, false, ℕ, ◌+◌}
use Rattle.counters.specs.declared.Rank.{Rank}
use Rattle.counters.specs.Counters.{rank_of}
use Rattle.survey.specs.declared.progress.Progress.{Progress}

-- Nothing was read.
abbrev pub at_start : Progress
at_start = record { at = 0; phrases = 0; pieces = 0; rank = rank_of 0; first = false; least = 0; span = 0 }

-- The same, at an offset.
abbrev pub moved_to : ℕ → Progress → Progress
moved_to at progress = record {
  at = at;
  phrases = progress.phrases;
  pieces = progress.pieces;
  rank = progress.rank;
  first = progress.first;
  least = progress.least;
  span = progress.span;
}

-- The phrase of a rank was entered: its first piece comes next.
abbrev pub after_name : Rank → ℕ → Progress → Progress
after_name rank at progress = record {
  at = at;
  phrases = progress.phrases + 1;
  pieces = progress.pieces;
  rank = rank;
  first = true;
  least = progress.least;
  span = progress.span;
}

-- A gap was read: its keyword comes next.
abbrev pub after_gap : ℕ → ℕ → ℕ → Progress → Progress
after_gap least span at progress = record {
  at = at;
  phrases = progress.phrases;
  pieces = progress.pieces;
  rank = progress.rank;
  first = progress.first;
  least = least;
  span = span;
}

-- A piece was entered: a further one is not the first of its phrase.
abbrev pub after_piece : ℕ → Progress → Progress
after_piece at progress = record {
  at = at;
  phrases = progress.phrases;
  pieces = progress.pieces + 1;
  rank = progress.rank;
  first = false;
  least = progress.least;
  span = progress.span;
}

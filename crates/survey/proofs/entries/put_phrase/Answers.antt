-- The number is written by its two bytes, and the rights code behind it. Assumes nothing.
use Rattle.survey.specs.Entries.{with_phrase}
use Rattle.survey.proofs.entries.put_phrase.Goals as goal

pub returns : goal.returns
unfolding with_phrase
returns c =
    rw (c.put2.ensures, c.value.ensures, c.index.ensures.0)

-- A keyword shares what is common, and anything else shares nothing. Assumes nothing.
use mathlib.Core.Path.{ap, ◌∙◌}
use Rattle.format.specs.Prefixes.{common_prefix}
use Rattle.records.proofs.Common.{lent_bytes}
use Rattle.records.proofs.Shared.{said_shared, other_shared}
use Rattle.records.proofs.prefixes.shared_with.Goals as goal

pub returns-in-Keyword : goal.returns-in-Keyword
returns-in-Keyword c =
    let a = c.args in
    let lent = lent_bytes a.book.now c.in-Keyword.start c.in-Keyword.length in
    said_shared a.book.now a.keyword.now c.in-Keyword.is (c.common.ensures ∙ ap (common_prefix a.keyword.now) lent)

pub returns-in_default : goal.returns-in_default
returns-in_default c = let a = c.args in other_shared a.book.now a.keyword.now a.says c.in_default.not-Keyword

-- Running memory with its head written. Assumes nothing: these are definitions.
use Rattle.std.specs.Prelude.{List, ℕ}
use Rattle.lent.specs.Numbers.{with_number}
use Rattle.tables.specs.Reads.{mark_in}
use Rattle.running.specs.Layout.{tag_at, state_at, place_at, mark_at, running_tag}
use Rattle.window.specs.Begun.{windows_begun}

-- The memory with the windows of the first pieces, the tables' mark, and at last the tag.
unfoldable pub begun_with : List ℕ → List ℕ → List ℕ
begun_with t m = with_number 8 (with_number 8 (windows_begun t m) mark_at (mark_in t)) tag_at running_tag

-- The memory with this state and this place.
unfoldable pub moved_to : List ℕ → ℕ → ℕ → List ℕ
moved_to m state place = with_number 8 (with_number 2 m state_at state) place_at place

-- The window of a piece, and what it is once another opens. Assumes nothing: these are definitions.
use Rattle.counters.specs.Counters.{place_of}
use Rattle.counters.specs.declared.Place.{Place}
use Rattle.window.specs.Opening.{replaced_by}
use Rattle.window.specs.declared.closing.Window.{Window}

-- When a window opens, the closing place of a piece's window is replaced by the later one.
unfoldable pub renewed_to : Window → Place → Window
renewed_to window newer = record { closes = place_of (replaced_by window.closes.0 newer.0) }

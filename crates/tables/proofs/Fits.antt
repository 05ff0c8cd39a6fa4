-- The limits of a book are those of the layout: 2,047 nonempty prefixes and the empty one, 256 pieces, 128 phrases. Assumes nothing.
use native.Mathlib.Omega.{arith}
use Rattle.meaning.specs.Books.{Book}
use Rattle.format.specs.Limits.{Within}
use Rattle.numbering.proofs.Keywords.{within_bytes}
use Rattle.numbering.proofs.Count.{count_right}
use Rattle.tables.specs.Layout.{Fits}
use Rattle.tables.proofs.Spots.{spot_count_lem}

pub fits : (book : Book) → Within book → Fits book
fits book within = record {
  states = omega (arith, count_right book (within_bytes book within), within.counts.prefixes);
  pieces = omega (arith, spot_count_lem book, within.counts.pieces);
  phrases = omega (arith, within.counts.count);
}

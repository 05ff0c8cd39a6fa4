-- Turn after turn, the lines of the bytes that are to be taken, and then the last text: what is left to take shrinks with each turn.
-- Assumes nothing.
use mathlib.Core.Path.{◌≡◌, sym, ap, ◌∙◌}
use mathlib.Core.List.{List, [], ◌∷◌, ◌++◌, append_assoc}
use Prim.Native.Nat.{ℕ, zero, suc, ◌+◌, ◌*◌, ◌/◌, ◌≤◌, ◌<◌}
use native.Mathlib.Omega.{arith}
use lib.ListN.{length, take, drop, length-append, take-append-drop, length-take}
use Rattle.meaning.specs.Books.{Book}
use Rattle.meaning.specs.Calls.{largest_place, reports_after}
use Rattle.meaning.proofs.Cuts.{reports_after_cut}
use Rattle.format.specs.Limits.{most_phrases}
use Rattle.scanner.specs.Meant.{TablesOf}
use Rattle.listing.specs.Lines.{longest_line}
use Rattle.listing.specs.Listing.{hit_lines}
use Rattle.turns.specs.Turns.{Lent, Totals, remaining, turns_from}
use Rattle.turns.proofs.Few.{lines_append}
use Rattle.turns.proofs.Turn.{Stands, Turned, turn_takes}

-- After the bytes x, what is offered is the first bytes of those that are to be taken.
pub record Offers (letter x w : List ℕ) : Type 0 where
  pub count : ℕ
  pub some : 0 < count
  pub first : remaining letter (length x) ≡ take count w
  pub early : length x + length (take count w) ≤ largest_place

module _ (book : Book) (tables letter : List ℕ) (lent : ℕ → Lent) (last : List ℕ) (held : TablesOf book tables)
    (room : (turn : ℕ) → most_phrases ≤ length (lent turn).room / 2) (out : (turn : ℕ) → longest_line * (length (lent turn).room / 2) ≤ length (lent turn).out) where
  abbrev text_from : ℕ → ℕ → List ℕ → Totals → List ℕ
  text_from = turns_from tables letter lent last

  -- The bytes v at the letter's end are never taken. Once all before them are, with so many turns left at least, the last text is written; and until
  -- then the first of what is left is offered.
  module _ (v : List ℕ) (spare : ℕ) (text : List ℕ)
      (ends : (more turn : ℕ) (x m : List ℕ) (totals : Totals) → x ++ v ≡ letter → spare ≤ more → Stands book x m totals → text_from more turn m totals ≡ text)
      (offers : (x w : List ℕ) → x ++ (w ++ v) ≡ letter → 0 < length w → Offers letter x w) where
    module _ (more turn : ℕ) (x w m : List ℕ) (totals : Totals) (whole : x ++ (w ++ v) ≡ letter) (few : length w + spare ≤ suc more)
        (first behind : List ℕ) (split : first ++ behind ≡ w) (turned : Turned book x first (text_from (suc more) turn m totals) (text_from more (turn + 1))) where
      -- What is left to take after the turn.
      abbrev left : List ℕ
      left = turned.behind ++ behind

      split_again : turned.these ++ left ≡ w
      split_again = sym (append_assoc turned.these turned.behind behind) ∙ ap (λ (l : List ℕ). l ++ behind) turned.split ∙ split

      whole_still : (x ++ turned.these) ++ (left ++ v) ≡ letter
      whole_still =
          append_assoc x turned.these (left ++ v)
          ∙ ap (λ (l : List ℕ). x ++ l) (sym (append_assoc turned.these left v) ∙ ap (λ (l : List ℕ). l ++ v) split_again)
          ∙ whole

      fewer : length left + spare ≤ more
      fewer = omega (arith, ap length split_again, length-append turned.these left, turned.some)

      lines_joined : hit_lines book (reports_after book x turned.these) ++ hit_lines book (reports_after book (x ++ turned.these) left) ≡ hit_lines book (reports_after book x w)
      lines_joined =
          sym (lines_append book (reports_after book x turned.these) (reports_after book (x ++ turned.these) left))
          ∙ ap (hit_lines book) (sym (reports_after_cut book x turned.these left) ∙ ap (reports_after book x) split_again)

      -- The turn's lines, and then what is written of the rest.
      one_turn
          : ((y z n : List ℕ) (sums : Totals) → y ++ (z ++ v) ≡ letter → length z + spare ≤ more → Stands book y n sums
          → text_from more (turn + 1) n sums ≡ hit_lines book (reports_after book y z) ++ text)
          → text_from (suc more) turn m totals ≡ hit_lines book (reports_after book x w) ++ text
      one_turn rest =
          turned.written
          ∙ ap (λ (l : List ℕ). hit_lines book (reports_after book x turned.these) ++ l)
          (rest (x ++ turned.these) left turned.memory turned.totals whole_still fewer turned.stands)
          ∙ sym (append_assoc (hit_lines book (reports_after book x turned.these)) (hit_lines book (reports_after book (x ++ turned.these) left)) text)
          ∙ ap (λ (l : List ℕ). l ++ text) lines_joined

    -- A letter of which some is left to take is longer than what was taken of it.
    unread : (x w : List ℕ) → x ++ (w ++ v) ≡ letter → 0 < length w → length x < length letter
    unread x w whole some = omega (arith, ap length whole, length-append x (w ++ v), length-append w v)

    pub turns_right : (more turn : ℕ) (x w m : List ℕ) (totals : Totals) → x ++ (w ++ v) ≡ letter → length w + spare ≤ more → Stands book x m totals
        → text_from more turn m totals ≡ hit_lines book (reports_after book x w) ++ text
    unfolding reports_after hit_lines
    turns_right zero turn x [] m totals whole few stands = ends zero turn x m totals whole (omega arith) stands
    turns_right zero turn x (a ∷ w) m totals whole few stands = absurd (omega arith)
    turns_right (suc more) turn x [] m totals whole few stands = ends (suc more) turn x m totals whole (omega arith) stands
    turns_right (suc more) turn x (a ∷ w) m totals whole few stands =
        let part : Offers letter x (a ∷ w) = offers x (a ∷ w) whole (omega arith) in
        let first : List ℕ = take part.count (a ∷ w) in
        one_turn more turn x (a ∷ w) m totals whole few first (drop part.count (a ∷ w)) (take-append-drop part.count (a ∷ w))
        (turn_takes book tables letter lent last held room out more turn x m totals stands (unread x (a ∷ w) whole (omega arith)) first part.first part.early
        (omega (arith, length-take part.count (a ∷ w), part.some)))
        (turns_right more (turn + 1))

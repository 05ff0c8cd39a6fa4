-- What is answered for any bytes is right of them, because reading keeps to the written form; and nothing else is, because reading
-- comes to every place where a book or a refusal can be. Assumes nothing.
use mathlib.Core.Path.{◌≡◌, sym, ◌∙◌}
use mathlib.Core.Logic.{◌↔◌}
use mathlib.Core.List.{List}
use Prim.Native.Nat.{ℕ}
use lib.ListN.{length}
use Rattle.meaning.specs.Books.{Book}
use Rattle.format.specs.Refusals.{Refusal}
use Rattle.format.specs.Limits.{Bytes}
use Rattle.format.specs.Judged.{Judgement, accepted, refused, judged, RefusedFor, AcceptedAs, Judges}
use Rattle.format.proofs.Reading.{accepted_judged, refused_judged}
use Rattle.format.proofs.Right.{judged_right}

-- What is answered is right of the bytes.
pub judged_judges : (bytes : List ℕ) → Bytes bytes → Judges bytes (judged bytes)
judged_judges bytes h = judged_right bytes h

-- Whatever is right of the bytes is what is answered.
pub judges_judged : (bytes : List ℕ) (j : Judgement) → Judges bytes j → judged bytes ≡ j
unfolding Judges
judges_judged bytes (accepted book offset) h = rw (h.1, h.0.whole) (accepted_judged book h.0.within)
judges_judged bytes (refused why offset) h = refused_judged bytes why offset h

-- Both: an answer is given exactly when it is right.
pub judged_iff : (bytes : List ℕ) (j : Judgement) → Bytes bytes → (judged bytes ≡ j) ↔ Judges bytes j
judged_iff bytes j h = (λ e. rw e at (judged_judges bytes h), judges_judged bytes j)

-- No second answer is right.
pub judges_once : (bytes : List ℕ) (i j : Judgement) → Judges bytes i → Judges bytes j → i ≡ j
judges_once bytes i j h k = sym (judges_judged bytes i h) ∙ judges_judged bytes j k

-- Accepted, as a book, exactly when the bytes are its written form and it is within the limits; the offset is their length.
pub accepted_iff : (bytes : List ℕ) (book : Book) (offset : ℕ) → Bytes bytes
    → (judged bytes ≡ accepted book offset) ↔ (AcceptedAs bytes book × (offset ≡ length bytes))
unfolding Judges
accepted_iff bytes book offset h = judged_iff bytes (accepted book offset) h

-- Refused, for a reason and at an offset, exactly when that is the first fault of what stands there, behind whole records within the limits.
pub refused_iff : (bytes : List ℕ) (why : Refusal) (offset : ℕ) → Bytes bytes → (judged bytes ≡ refused why offset) ↔ RefusedFor bytes why offset
unfolding Judges
refused_iff bytes why offset h = judged_iff bytes (refused why offset) h

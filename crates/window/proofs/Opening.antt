-- Opening windows changes closing places alone, and the ring as it was says which: so what waits stays the same while windows open, one
-- piece after the other. Assumes nothing.
use mathlib.Core.Path.{◌≡◌, refl, sym, ap, ap₂, ◌∙◌}
use mathlib.Core.Logic.{◌⊎◌, inl, inr}
use mathlib.Core.Bool.{Bool, true, false, cond}
use mathlib.Core.List.{List}
use Prim.Native.Nat.{ℕ, zero, suc, ◌+◌, ◌-◌, ◌*◌, ◌%◌, ◌≤◌, ◌<◌}
use native.Mathlib.Nat.{add-zero}
use native.Mathlib.Numerals.{add-one}
use native.Mathlib.Omega.{arith}
use lib.Dec.{eqb}
use lib.ListN.{length, get_or, length-set}
use borrow.Author.Tests.{eq-eqb, ne_eqb}
use Rattle.counters.specs.Counters.{place_of}
use Rattle.lent.specs.Numbers.{Apart, with_number}
use Rattle.lent.specs.Zeros.{with_zeros}
use Rattle.lent.proofs.Numbers.{length_with_number, number_byte_apart}
use Rattle.lent.proofs.Zeros.{length_zeros}
use Rattle.bits.specs.Bits.{bit_of, First}
use Rattle.bits.proofs.Lowest.{first_same}
use Rattle.counters.specs.declared.Place.{Place}
use Rattle.tables.specs.Layout.{room_for_pieces}
use Rattle.tables.specs.Reads.{span_in}
use Rattle.running.specs.Waiting.{never, slot_of}
use Rattle.running.specs.Layout.{flag_at, closing_at, ring_at, slot_length}
use Rattle.running.specs.Reads.{flag_in, closing_place_in, slot_at, bit_at, waits_in}
use Rattle.window.specs.Closing.{renewed_to}
use Rattle.window.specs.declared.closing.Window.{Window}
use Rattle.window.specs.Opening.{open_span, closes_after, replaced_by, with_closing, window_opened, windows_opened, slot_emptied, slot_opened}

-- ── One window ──

module _ (span opened : ℕ) where
  pub closes_never : span ≡ open_span → closes_after span opened ≡ never
  unfolding closes_after
  closes_never e = rw (eq-eqb span open_span e)

  pub closes_later : (span ≡ open_span → ⊥) → closes_after span opened ≡ opened + span
  unfolding closes_after
  closes_later differ = rw (ne_eqb span open_span differ)

-- The closing place is the number of 8 bytes that is put at the place of the piece.
pub closing_put : (m : List ℕ) (p closes v : ℕ) {m' : List ℕ} → v ≡ closes → m' ≡ with_number 8 m (closing_at + 8 * p) v → m' ≡ with_closing m p closes
unfolding with_closing
closing_put m p closes v e put = put ∙ ap (with_number 8 m (closing_at + 8 * p)) e

-- A window is its closing place, so it is renewed where that is.
pub renewed_is : (was window : Window) (newer : Place) → window.closes.0 ≡ replaced_by was.closes.0 newer.0 → window ≡ renewed_to was newer
unfolding renewed_to
renewed_is was window newer e = ap (λ (n : ℕ). record { closes = place_of n }) e

-- A window that is read, renewed and put back has opened.
pub renewed_opens : (t : List ℕ) (place : ℕ) (m m' : List ℕ) (p span : ℕ) (newer : Place) (was window : Window)
    → was.closes.0 ≡ closing_place_in m p → span ≡ span_in t p → newer.0 ≡ closes_after span place → window ≡ renewed_to was newer
    → m' ≡ with_closing m p window.closes.0 → m' ≡ window_opened t place m p
unfolding window_opened renewed_to
renewed_opens t place m m' p span newer was window read e c f put =
    put ∙ ap (λ (w : Window). with_closing m p w.closes.0) f
    ∙ ap₂ (λ (k n : ℕ). with_closing m p (replaced_by k n)) read (c ∙ ap (λ (k : ℕ). closes_after k place) e)

module _ (t : List ℕ) (place : ℕ) (m : List ℕ) (p : ℕ) where
  pub length_opened : length (window_opened t place m p) ≡ length m
  unfolding window_opened with_closing
  length_opened = length_with_number 8 m (closing_at + 8 * p) _

  pub opened_apart : (i : ℕ) → Apart i 1 (closing_at + 8 * p) 8 → get_or (window_opened t place m p) i 0 ≡ get_or m i 0
  unfolding window_opened with_closing
  opened_apart i apart = number_byte_apart 8 m (closing_at + 8 * p) _ i apart

-- ── The windows of some pieces ──

module _ (t : List ℕ) (place : ℕ) (test : ℕ → Bool) (m : List ℕ) where
  -- The memory once the windows of the pieces below n have opened.
  abbrev up_to : ℕ → List ℕ
  up_to n = windows_opened t place test m n

  pub opened_one : (p : ℕ) → test p ≡ true → up_to (p + 1) ≡ window_opened t place (up_to p) p
  unfolding windows_opened
  opened_one p holds = rw (add-one, holds)

  pub opened_none : (p : ℕ) → test p ≡ false → up_to (p + 1) ≡ up_to p
  unfolding windows_opened
  opened_none p fails = rw (add-one, fails)

  passed_by : (d p : ℕ) → ((k : ℕ) → p ≤ k → k < p + d → test k ≡ false) → up_to (p + d) ≡ up_to p
  passed_by zero p none = rw add-zero
  passed_by (suc d) p none =
      let e : p + suc d ≡ p + d + 1 = omega arith in
      ap up_to e ∙ opened_none (p + d) (none (p + d) (omega arith) (omega arith)) ∙ passed_by d p (λ k from below. none k from (omega arith))

  -- Up to the first piece of which the test holds nothing opens.
  pub opened_first : (most p r : ℕ) → First test most p r → up_to r ≡ up_to p
  opened_first most p r f =
      let e : r ≡ p + (r - p) = omega (arith, f.reached) in
      ap up_to e ∙ passed_by (r - p) p (λ k from below. f.passed k from (omega arith))

  pub length_windows : (n : ℕ) → length (up_to n) ≡ length m
  unfolding windows_opened
  length_windows zero = refl
  length_windows (suc p) = go (test p) ∙ length_windows p
    where
      go : (v : Bool) → length (cond v (window_opened t place (up_to p) p) (up_to p)) ≡ length (up_to p)
      go true = length_opened t place (up_to p) p
      go false = refl

  -- A byte that is no closing place's is as it was.
  pub windows_apart : (n : ℕ) → n ≤ room_for_pieces → (i : ℕ) → (i < closing_at) ⊎ (ring_at ≤ i) → get_or (up_to n) i 0 ≡ get_or m i 0
  unfolding windows_opened
  windows_apart zero few i outside = refl
  windows_apart (suc p) few i outside = go (test p) ∙ windows_apart p (omega arith) i outside
    where
      apart : (i < closing_at) ⊎ (ring_at ≤ i) → Apart i 1 (closing_at + 8 * p) 8
      apart (inl before) = inl (omega arith)
      apart (inr behind) = inr (omega arith)

      go : (v : Bool) → get_or (cond v (window_opened t place (up_to p) p) (up_to p)) i 0 ≡ get_or (up_to p) i 0
      go true = opened_apart t place (up_to p) p i (apart outside)
      go false = refl

  -- So each piece waits where it did.
  pub windows_wait : (n : ℕ) → n ≤ room_for_pieces → (q k : ℕ) → waits_in (up_to n) q k ≡ waits_in m q k
  unfolding waits_in
  windows_wait n few q k = ap (λ (b : ℕ). bit_of b (k % 8)) (windows_apart n few (bit_at q k) (inr (omega arith)))

-- ── Opening a slot ──

-- Where the opening of slot q stands: the windows of the pieces below p that wait there have opened.
pub record Opening (t : List ℕ) (place q : ℕ) (m₀ m : List ℕ) (p : ℕ) : Type 0 where
  pub within : p ≤ room_for_pieces
  pub long : length m ≡ length m₀
  pub is : m ≡ windows_opened t place (waits_in m₀ q) m₀ p

module _ {t : List ℕ} {place q : ℕ} {m₀ : List ℕ} where
  pub opening_start : Opening t place q m₀ m₀ 0
  unfolding windows_opened
  opening_start = record { within = omega arith; long = refl; is = refl }

  module _ {m : List ℕ} {p : ℕ} (opening : Opening t place q m₀ m p) where
    -- What waits now is what waited at first, so the next piece is the same.
    still : (next : ℕ) → First (waits_in m q) room_for_pieces p next → First (waits_in m₀ q) room_for_pieces p next
    still next first = first_same (waits_in m q) (waits_in m₀ q)
        (λ k. ap (λ (l : List ℕ). waits_in l q k) opening.is ∙ windows_wait t place (waits_in m₀ q) m₀ p opening.within q k)
        room_for_pieces p next first

    -- Up to the next piece nothing opens.
    up_to_next : (next : ℕ) → First (waits_in m q) room_for_pieces p next → m ≡ windows_opened t place (waits_in m₀ q) m₀ next
    up_to_next next first = opening.is ∙ sym (opened_first t place (waits_in m₀ q) m₀ room_for_pieces p next (still next first))

    pub opening_next : (next : ℕ) → First (waits_in m q) room_for_pieces p next → next < room_for_pieces
        → (m' : List ℕ) → m' ≡ window_opened t place m next → Opening t place q m₀ m' (next + 1)
    opening_next next first inside m' e = record {
      within = omega arith;
      long = ap length e ∙ length_opened t place m next ∙ opening.long;
      is = e ∙ ap (λ (l : List ℕ). window_opened t place l next) (up_to_next next first)
          ∙ sym (opened_one t place (waits_in m₀ q) m₀ next ((still next first).found inside));
    }

    pub opening_end : First (waits_in m q) room_for_pieces p room_for_pieces → m ≡ windows_opened t place (waits_in m₀ q) m₀ room_for_pieces
    opening_end none = up_to_next room_for_pieces none

-- ── An empty slot ──

pub length_emptied : (m : List ℕ) (q : ℕ) → length (slot_emptied m q) ≡ length m
unfolding slot_emptied
length_emptied m q = length-set (with_zeros m (slot_at q) slot_length) (flag_at + q) 0 ∙ length_zeros m (slot_at q) slot_length

module _ (t m : List ℕ) (place : ℕ) where
  -- The memory with the windows of the slot open and the slot empty.
  abbrev pub due : List ℕ
  due = slot_emptied (windows_opened t place (waits_in m (slot_of place)) m room_for_pieces) (slot_of place)

  pub slot_quiet : flag_in m (slot_of place) ≡ 0 → slot_opened t m place ≡ m
  unfolding slot_opened
  slot_quiet e = rw (eq-eqb (flag_in m (slot_of place)) 0 e)

  pub slot_due : (flag_in m (slot_of place) ≡ 0 → ⊥) → slot_opened t m place ≡ due
  unfolding slot_opened
  slot_due differ = rw (ne_eqb (flag_in m (slot_of place)) 0 differ)

  -- The two calls, one after the other.
  pub slot_opens : (q : ℕ) → q ≡ slot_of place → (flag_in m q ≡ 0 → ⊥) → (m₁ m₂ : List ℕ)
      → m₁ ≡ windows_opened t place (waits_in m q) m room_for_pieces → m₂ ≡ slot_emptied m₁ q → m₂ ≡ slot_opened t m place
  slot_opens q at differ m₁ m₂ opened emptied = emptied ∙ rw (opened, at) (sym (slot_due (rw at at differ)))

  pub length_slot : length (slot_opened t m place) ≡ length m
  unfolding slot_opened
  length_slot = go (eqb (flag_in m (slot_of place)) 0)
    where
      go : (v : Bool) → length (cond v m due) ≡ length m
      go true = refl
      go false =
          length_emptied (windows_opened t place (waits_in m (slot_of place)) m room_for_pieces) (slot_of place)
          ∙ length_windows t place (waits_in m (slot_of place)) m room_for_pieces

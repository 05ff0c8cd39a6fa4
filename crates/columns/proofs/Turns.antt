-- One byte at a time: each turn of a loop is one more of its definition.
-- Assumes nothing.
use mathlib.Core.Path.{◌≡◌, refl}
use mathlib.Core.List.{List}
use Prim.Native.Nat.{ℕ, ◌+◌, ◌*◌, ◌≤◌, ◌<◌}
use native.Mathlib.Nat.{mul-le-mul}
use native.Mathlib.Numerals.{add-one}
use native.Mathlib.Omega.{arith}
use Rattle.lent.specs.Numbers.{with_number}
use Rattle.numbering.specs.States.{byte_values}
use Rattle.tables.specs.Layout.{dense_at, room_for_states}
use Rattle.columns.specs.Columns.{next_class, with_class, classed, most_rows, with_column, with_columns, dense_for, columned}

pub classed_turn : (t₀ : List ℕ) (states byte : ℕ) (t now : List ℕ) (next after : ℕ)
    → t ≡ (classed t₀ states byte).tables → next ≡ (classed t₀ states byte).next
    → after ≡ next_class t states next byte → now ≡ with_class t states next byte
    → (now ≡ (classed t₀ states (byte + 1)).tables) × (after ≡ (classed t₀ states (byte + 1)).next)
unfolding classed
classed_turn t₀ states byte t now next after e x a h = rw (add-one, ← e, ← x) (h, a)

pub columns_turn : (t₀ : List ℕ) (dense byte : ℕ) (t now : List ℕ) → t ≡ with_columns t₀ dense byte → now ≡ with_column t dense byte → now ≡ with_columns t₀ dense (byte + 1)
unfolding with_columns
columns_turn t₀ dense byte t now e h = rw (add-one, ← e) h

-- The passes one after the other, each as it is defined.
pub columned_are : (t : List ℕ) (states classes dense : ℕ) (noted headed now : List ℕ)
    → classes ≡ (classed t states byte_values).next → noted ≡ (classed t states byte_values).tables → dense ≡ most_rows states classes
    → headed ≡ with_number 2 noted dense_at dense → now ≡ with_columns headed dense byte_values
    → (dense ≡ dense_for t states) × (now ≡ columned t states)
unfolding columned dense_for
columned_are t states classes dense noted headed now a b c d e = rw (← a, ← c, ← b, ← d) (refl, e)

-- So many rows and a class: their product is far from where numbers end.
pub product_small : (dense class : ℕ) → dense ≤ room_for_states → class < 65536 → dense * class ≤ 134215680
product_small dense class few small = mul-le-mul {m₂ = 65535} few (omega arith)

-- What a quiet byte is: no keyword ends in its state, and the slot of its place has no flag.
-- Assumes nothing.
use mathlib.Core.Path.{◌≡◌, refl, sym, ◌∙◌}
use mathlib.Core.Bool.{Bool, true, false, So, false≢true}
use mathlib.Core.List.{List}
use Prim.Native.Nat.{ℕ}
use native.Mathlib.Omega.{arith}
use lib.Dec.{eqb}
use borrow.Author.Tests.{eqb-true}
use Rattle.tables.specs.Reads.{ending_in}
use Rattle.running.specs.Waiting.{slot_of}
use Rattle.running.specs.Reads.{flag_in}
use Rattle.gliding.specs.Glide.{seen_in, quiet_at}

module _ (t m : List ℕ) (state place : ℕ) where
  -- Where a keyword ends in the state it is not quiet.
  pub quiet_ending : ending_in t state ≡ true → quiet_at t m state place ≡ false
  unfolding quiet_at
  quiet_ending e = rw e

  -- Elsewhere what is seen of the slot decides.
  pub quiet_flag : ending_in t state ≡ false → (slot : ℕ) → slot ≡ slot_of place → quiet_at t m state place ≡ eqb (seen_in m slot) 0
  unfolding quiet_at
  quiet_flag e slot is = rw (e, is)

  -- Where it is quiet no keyword ends in the state, and the slot of the place has no flag.
  pub quiet_is : So (quiet_at t m state place) → (ending_in t state ≡ false) × (flag_in m (slot_of place) ≡ 0)
  quiet_is h = go (ending_in t state) refl
    where
      go : (v : Bool) → ending_in t state ≡ v → (ending_in t state ≡ false) × (flag_in m (slot_of place) ≡ 0)
      go true e = absurd (false≢true (sym (quiet_ending e) ∙ h))
      go false e = (e, omega (arith, eqb-true (seen_in m (slot_of place)) 0 (sym (quiet_flag e (slot_of place) refl) ∙ h)))

-- The places of a part, gone over with the states that were looked up for them ahead. Assumes nothing: these are definitions.
use Rattle.std.specs.Prelude.{Bool, true, false, cond, List, ℕ, zero, suc, ◌+◌, get_or}
use Rattle.tables.specs.Reads.{gain_in}
use Rattle.gliding.specs.Glide.{quiet_at}

-- How far the places have been gone over: where the state of the next one stands, how many bytes are left, the place, the sum of the gains, and
-- whether what happens at the last of them is still to be done.
pub record Look : Type 0 where
  pub at : ℕ
  pub left : ℕ
  pub place : ℕ
  pub gains : ℕ
  pub event : Bool

-- So many places are gone over up to the first where something happens, or up to the last. The states stand four numbers apart.
unfoldable pub look_in : List ℕ → List ℕ → List ℕ → ℕ → ℕ → ℕ → ℕ → Look
look_in t m ahead zero at place gains = record { at = at; left = zero; place = place; gains = gains; event = false }
look_in t m ahead (suc left) at place gains =
    let state : ℕ = get_or ahead at 0 in
    let on : Look = look_in t m ahead left (at + 4) (place + 1) (gains + gain_in t state) in
    cond (quiet_at t m state (place + 1)) on (record { at = at + 4; left = left; place = place + 1; gains = gains + gain_in t state; event = true })

-- What it comes to from here: no further where something happens.
unfoldable pub look_from : List ℕ → List ℕ → List ℕ → Look → Look
unfolding look_in
look_from t m ahead look = cond look.event look (look_in t m ahead look.left look.at look.place look.gains)

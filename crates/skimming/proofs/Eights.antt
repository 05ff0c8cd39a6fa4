-- Places gone over at once: a sum of infos below 128 has no ending in it and is the sum of the gains, and eight flags read as one number that is 0 are
-- all 0.
-- Assumes nothing.
use mathlib.Core.Path.{◌≡◌, refl, sym, ap, ap₂, ◌∙◌}
use mathlib.Core.Bool.{Bool, true, false}
use mathlib.Core.List.{List}
use Prim.Native.Nat.{ℕ, zero, suc, ◌+◌, ◌-◌, ◌*◌, ◌%◌, ◌≤◌, ◌<◌}
use native.Mathlib.Omega.{arith}
use lib.ListN.{get_or}
use borrow.Author.Tests.{lt-leb}
use Rattle.lent.specs.Numbers.{number_at}
use Rattle.tables.specs.Reads.{info_in, gain_in, ending_in}
use Rattle.running.specs.Waiting.{slot_of}
use Rattle.running.specs.Reads.{flag_in}
use Rattle.gliding.specs.Glide.{quiet_at}
use Rattle.skimming.specs.Look.{look_in, look_from}
use Rattle.skimming.specs.Infos.{infos_in, InfosReady}
use Rattle.skimming.specs.Ready.{LookReady}
use Rattle.skimming.specs.declared.Looking.{Looking}
use Rattle.skimming.proofs.Looks.{look, step_quiet, from_quiet}

-- ── The sum ──

module _ (t ahead : List ℕ) where
  pub infos_one : (at : ℕ) → info_in t (get_or ahead at 0) ≡ infos_in t ahead at 1
  unfolding infos_in
  infos_one at = omega arith

  pub infos_add : (n m at : ℕ) → infos_in t ahead at (n + m) ≡ infos_in t ahead at n + infos_in t ahead (at + 4 * n) m
  unfolding infos_in
  infos_add zero m at =
      let none : at + 4 * 0 ≡ at = omega arith in
      let all : 0 + m ≡ m = omega arith in
      rw (none, all) (omega arith)
  infos_add (suc n) m at =
      let more : suc n + m ≡ suc (n + m) = omega arith in
      let place : at + 4 + 4 * n ≡ at + 4 * suc n = omega arith in
      ap (infos_in t ahead at) more ∙ omega (arith, infos_add n m (at + 4), ap (λ (k : ℕ). infos_in t ahead k m) place)

  -- One state more.
  pub infos_more : (at n sum info : ℕ) {state : ℕ} → sum ≡ infos_in t ahead at n → info ≡ info_in t state → state ≡ get_or ahead (at + 4 * n) 0 → sum + info ≡ infos_in t ahead at (n + 1)
  infos_more at n sum info e is seen = omega (arith, e, is ∙ ap (info_in t) seen, infos_one (at + 4 * n), infos_add n 1 at)

-- Eight states are left.
pub eight_ready : (t m ahead : List ℕ) (from : Looking) → LookReady t m ahead from → 8 ≤ from.left → InfosReady t ahead from.at 8
eight_ready t m ahead from ready enough = record {
  states = λ i l. ready.states i (omega arith);
  room = omega (arith, ready.room);
  near = omega (arith, ready.near);
}

-- ── The flags ──

-- The bytes of the number 0 are 0.
pub zero_bytes : (n : ℕ) (s : List ℕ) (i : ℕ) → number_at n s i ≡ 0 → (k : ℕ) → k < n → get_or s (i + k) 0 ≡ 0
unfolding number_at
zero_bytes zero s i none k l = absurd (omega arith)
zero_bytes (suc n) s i none zero l =
    let here : i + 0 ≡ i = omega arith in
    rw here (omega (arith, none))
zero_bytes (suc n) s i none (suc k) l =
    let there : i + 1 + k ≡ i + suc k = omega arith in
    rw there at (zero_bytes n s (i + 1) (omega (arith, none)) k (omega arith))

module _ (t m ahead : List ℕ) where
  quiet_by : (state place : ℕ) → info_in t state < 128 → flag_in m (slot_of place) ≡ 0 → quiet_at t m state place ≡ true
  unfolding quiet_at ending_in
  quiet_by state place low none = rw (lt-leb 128 (info_in t state) low, none)

  -- So many places at which nothing happens.
  run : (n left at place gains : ℕ) → infos_in t ahead at n < 128 → ((i : ℕ) → i < n → flag_in m (slot_of (place + 1 + i)) ≡ 0)
      → look_in t m ahead (n + left) at place gains ≡ look_in t m ahead left (at + 4 * n) (place + n) (gains + infos_in t ahead at n)
  unfolding infos_in
  run zero left at place gains low none =
      let a : at + 4 * 0 ≡ at = omega arith in
      let l : 0 + left ≡ left = omega arith in
      let p : place + 0 ≡ place = omega arith in
      let g : gains + 0 ≡ gains = omega arith in
      rw (a, l, p, g)
  run (suc n) left at place gains low none =
      let info : ℕ = info_in t (get_or ahead at 0) in
      let more : suc n + left ≡ suc (n + left) = omega arith in
      let first : place + 1 + 0 ≡ place + 1 = omega arith in
      let a : at + 4 + 4 * n ≡ at + 4 * suc n = omega arith in
      let p : place + 1 + n ≡ place + suc n = omega arith in
      let g : gains + gain_in t (get_or ahead at 0) + infos_in t ahead (at + 4) n ≡ gains + (info_in t (get_or ahead at 0) + infos_in t ahead (at + 4) n) = omega (arith, low) in
      let q : quiet_at t m (get_or ahead at 0) (place + 1) ≡ true = quiet_by (get_or ahead at 0) (place + 1) (omega (arith, low)) (rw first at (none 0 (omega arith))) in
      ap (λ (k : ℕ). look_in t m ahead k at place gains) more
      ∙ step_quiet t m ahead at place gains (n + left) q
      ∙ run n left (at + 4) (place + 1) (gains + gain_in t (get_or ahead at 0)) (omega (arith, low))
      (λ i l. ap (λ (k : ℕ). flag_in m (slot_of k)) (later i) ∙ none (suc i) (omega arith))
      ∙ ap₂ (λ (x y : ℕ). look_in t m ahead left x y (gains + gain_in t (get_or ahead at 0) + infos_in t ahead (at + 4) n)) a p
      ∙ ap (look_in t m ahead left (at + 4 * suc n) (place + suc n)) g
    where
      later : (i : ℕ) → place + 1 + 1 + i ≡ place + 1 + suc i
      later i = omega arith

  -- Eight places at once.
  pub eight_places : (at left place gains : ℕ) (event : Bool) → event ≡ false → 8 ≤ left → (sum slot there : ℕ) → sum ≡ infos_in t ahead at 8 → sum < 128
      → slot ≡ slot_of (place + 1) → slot < 249 → number_at 8 m (32 + slot) ≡ 0 → there ≡ place + 8
      → look_from t m ahead (look (at + 32) (left - 8) there (gains + sum) false) ≡ look_from t m ahead (look at left place gains event)
  eight_places at left place gains event still enough sum slot there is low here few none later =
      let all : 8 + (left - 8) ≡ left = omega arith in
      let flags : (i : ℕ) → i < 8 → flag_in m (slot_of (place + 1 + i)) ≡ 0 = λ i l.
      let slots : 32 + slot + i ≡ 32 + (place + 1 + i) % 256 = omega (arith, here) in
      rw slots at (zero_bytes 8 m (32 + slot) none i l) in
      from_quiet t m ahead (at + 32) there (gains + sum) (left - 8) false refl
      ∙ ap₂ (λ (p g : ℕ). look_in t m ahead (left - 8) (at + 32) p (gains + g)) later is
      ∙ sym (run 8 (left - 8) at place gains (omega (arith, is, low)) flags)
      ∙ ap (λ (n : ℕ). look_in t m ahead n at place gains) all
      ∙ sym (from_quiet t m ahead at place gains left event still)

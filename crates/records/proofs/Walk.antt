-- Whole records follow each other from the book's start, so that reading them again meets the same keywords: a record behind them
-- puts its own behind theirs. Assumes nothing.
use mathlib.Core.Path.{◌≡◌, ap, ◌∙◌}
use mathlib.Core.List.{List, [], ◌++◌, append_assoc, append-nil}
use Prim.Native.Nat.{ℕ, zero, suc, ◌+◌, ◌≤◌, ◌<◌}
use native.Mathlib.Omega.{arith}
use lib.ListN.{length}
use Rattle.records.specs.Records.{read_at}
use Rattle.records.specs.Readers.{past_of}
use Rattle.records.specs.Prefixes.{keyword_in, keywords_from, keywords_before}
use Rattle.records.proofs.Shared.{more_records, no_record}

-- A record that is found at an offset ends at the next one.
pub record Ends (bytes : List ℕ) (at next : ℕ) : Type 0 where
  pub ahead : at < next
  pub there : (end : ℕ) → past_of (read_at bytes at) end ≡ next

-- From one offset to another, records follow each other, and have these keywords.
pub data Walk (bytes : List ℕ) : ℕ → ℕ → List (List ℕ) → Type 0 where
  here : {at : ℕ} → Walk bytes at at []
  on : {at next end : ℕ} {ws : List (List ℕ)} → Ends bytes at next → next ≤ end → Walk bytes next end ws → Walk bytes at end (keyword_in bytes (read_at bytes at) ++ ws)

module _ {bytes : List ℕ} where
  -- One record more.
  pub walk_further : {at end next : ℕ} {ws : List (List ℕ)} → Walk bytes at end ws → Ends bytes end next → Walk bytes at next (ws ++ keyword_in bytes (read_at bytes end))
  walk_further {next = next} here e = rw append-nil at (on {end = next} e (omega arith) here)
  walk_further {next = next} (on f l w) e = let m = e.ahead in rw append_assoc (on {end = next} f (omega arith) (walk_further w e))

  -- Reading again meets the same keywords.
  walked : (n : ℕ) {at end : ℕ} {ws : List (List ℕ)} → Walk bytes at end ws → end ≤ n + at → keywords_from n bytes end at ≡ ws
  walked n {at} here l = no_record bytes at n at (omega arith)
  walked zero (on f l w) m = absurd (omega (arith, f.ahead))
  walked (suc n) {at} {end} (on {next = next} f l w) m =
      more_records bytes end n at (omega (arith, f.ahead))
      ∙ ap (λ (ws : List (List ℕ)). keyword_in bytes (read_at bytes at) ++ ws) (ap (keywords_from n bytes end) (f.there end) ∙ walked n w (omega (arith, f.ahead)))

  pub walked_before : {end : ℕ} {ws : List (List ℕ)} → Walk bytes 0 end ws → end ≤ length bytes → keywords_before bytes end ≡ ws
  unfolding keywords_before
  walked_before w l = walked (length bytes) w (omega arith)

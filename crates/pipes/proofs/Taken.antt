-- After a call that takes bytes, these are used; and they were left before it. Assumes nothing.
use Rattle.std.proofs.Common.{◌≡◌, ℕ, ◌+◌, ◌%◌, ◌^◌, ◌≤◌, Bool, true, false, cond, eqb, Result, Ok, Err, Option, Some, refl, inl, inr, ⊎_elim, arith, ne_eqb}
use borrow.Author.Tests.{eqb-false}
use Rattle.lines.specs.Answers.{listed_taken}
use Rattle.lines.specs.declared.answers.Listed.{Listed}
use Rattle.lines.specs.declared.answers.PartRefused.{PartRefused}
use Rattle.lines.specs.declared.answers.PartRefused.TheVariants as part
use Rattle.pipes.specs.declared.NotListed.{NotListed}
use Rattle.pipes.specs.declared.NotListed.TheVariants as why
use Rattle.pipes.specs.declared.letter.Totals.{Totals}
use Rattle.pipes.specs.declared.letter.Standing.{Standing}
use Rattle.pipes.specs.Letter.{after_bytes, AfterCall, TurnWithin}

module _ (standing : Standing) (taken hits steps : ℕ) where
  pub after_some : (taken ≡ 0 → ⊥) → (totals : Totals)
      → totals.taken ≡ (standing.totals.taken + taken) % 2 ^ 64 → totals.hits ≡ (standing.totals.hits + hits) % 2 ^ 64
      → totals.steps ≡ (standing.totals.steps + steps) % 2 ^ 64
      → Ok (Some record { size = standing.size; used = standing.used + taken; more = standing.more; totals = totals }) ≡ after_bytes standing taken hits steps
  after_some some totals a b c = rw (ne_eqb taken 0 some, ← a, ← b, ← c)

  -- A call that takes nothing, and one after which the bytes it took are used.
  taken_within : standing.used + taken ≤ standing.size → TurnWithin standing (after_bytes standing taken hits steps)
  taken_within left = go (eqb taken 0) refl
    where
      go : (none : Bool) → eqb taken 0 ≡ none → TurnWithin standing (cond none (Err why.NotTaken) (Ok (Some record {
        size = standing.size;
        used = standing.used + taken;
        more = standing.more;
        totals = record {
          taken = (standing.totals.taken + taken) % 2 ^ 64;
          hits = (standing.totals.hits + hits) % 2 ^ 64;
          steps = (standing.totals.steps + steps) % 2 ^ 64;
        };
      })))
      go true e = inr (inr refl)
      go false e = (omega (arith, eqb-false taken 0 e), omega arith, refl)

pub after_within : (standing : Standing) (call : Result Listed PartRefused) (next : Result (Option Standing) NotListed) → standing.used + listed_taken call ≤ standing.size → AfterCall call standing next → TurnWithin standing next
unfolding listed_taken
after_within standing (Ok listed) next left = ⊎_elim (λ e. rw e (taken_within standing listed.taken listed.hits listed.steps left)) (λ e. rw e (inr (inl refl)))
after_within standing (Err part.TooLong) next left = ⊎_elim (λ e. rw e (inl refl)) (λ e. rw e (inr (inl refl)))
after_within standing (Err part.NotTaken) next left = λ e. rw e (inr (inr refl))

-- First the depths and then the gains: the second pass finds what the first leaves. Assumes nothing.
use mathlib.Core.Path.{◌≡◌, sym, ◌∙◌}
use mathlib.Core.Logic.{◌⊎◌, inl, inr, ⊎_elim}
use mathlib.Core.List.{List}
use Prim.Native.Nat.{ℕ, ◌+◌, ◌≤◌, ◌<◌}
use native.Mathlib.Omega.{arith}
use lib.ListN.{get_or}
use Rattle.lent.proofs.Cases.{lt_or_le}
use Rattle.meaning.specs.Books.{Book}
use Rattle.format.specs.Limits.{Within}
use Rattle.numbering.specs.States.{state_count}
use Rattle.numbering.proofs.States.{count_some}
use Rattle.tables.specs.Layout.{info_at, out_at, depth_at, label_at, room_for_states, up_to, depth_of, ending_mark, info_of}
use Rattle.tables.specs.Reads.{info_in, depth_in}
use Rattle.tables.proofs.Fits.{fits}
use Rattle.tables.proofs.Fields.{up_to_below, up_to_past}
use Rattle.stepping.proofs.Kept.{states_kept}
use Rattle.depths.specs.Depths.{with_depths, with_gain, with_gains_below, filled}
use Rattle.depths.specs.Right.{Ready, Right}
use Rattle.depths.proofs.Deep.{Deep, deep_to}
use Rattle.depths.proofs.Gains.{Marked, Gained, gained_all}

module _ (book : Book) (within : Within book) (before : List ℕ) (ready : Ready book before) where
  abbrev deep : List ℕ
  deep = with_depths before (state_count book)

  abbrev after : List ℕ
  after = with_gains_below (with_gain deep 0 0) (state_count book) (state_count book)

  deepened : Deep book within before ready (state_count book) deep
  deepened = deep_to book within before ready (state_count book) (count_some book) (omega arith)

  marked : Marked book deep
  marked = record {
    whole = omega (arith, deepened.whole, ready.whole);
    states = states_kept book (fits book within).states before deep (λ k a b. deepened.kept k (inr (omega (arith, (fits book within).states)))) ready.states;
    depths = deepened.depths;
    infos = λ i l. deepened.kept (info_at + i) (inl (omega (arith, (fits book within).states))) ∙ ready.infos i (omega (arith, (fits book within).states))
        ∙ up_to_below (state_count book) (ending_mark book) i l;
  }

  gained : Gained book within deep marked (state_count book) after
  gained = gained_all book within deep marked

  -- Depths and infos are the layout's, and every other byte is as it was.
  pub filled_right : Right book before (filled before (state_count book))
  unfolding filled
  filled_right = record { depths = depths; infos = infos; kept = kept; whole = gained.whole ∙ deepened.whole }
    where
      depths : (i : ℕ) → i < room_for_states → depth_in after i ≡ up_to (state_count book) (depth_of book) i
      depths i l = gained.kept (depth_at + i) (inr (omega (arith, (fits book within).states))) ∙ ⊎_elim
          (λ (k : i < state_count book). deepened.depths i k ∙ sym (up_to_below (state_count book) (depth_of book) i k))
          (λ (k : state_count book ≤ i). deepened.kept (depth_at + i) (inr (omega arith)) ∙ ready.depths i l ∙ sym (up_to_past (state_count book) (depth_of book) i k))
          (lt_or_le i (state_count book))

      infos : (i : ℕ) → i < room_for_states → info_in after i ≡ up_to (state_count book) (info_of book) i
      infos i l = ⊎_elim
          (λ (k : i < state_count book). gained.infos i k ∙ sym (up_to_below (state_count book) (info_of book) i k))
          (λ (k : state_count book ≤ i).
          gained.kept (info_at + i) (inr (omega arith)) ∙ deepened.kept (info_at + i) (inl (omega arith)) ∙ ready.infos i l
          ∙ up_to_past (state_count book) (ending_mark book) i k ∙ sym (up_to_past (state_count book) (info_of book) i k))
          (lt_or_le i (state_count book))

      kept : (k : ℕ) → (k < info_at) ⊎ (((out_at ≤ k) × (k < depth_at)) ⊎ (label_at ≤ k)) → get_or after k 0 ≡ get_or before k 0
      kept k (inl e) = gained.kept k (inl e) ∙ deepened.kept k (inl (omega arith))
      kept k (inr (inl e)) = gained.kept k (inr (omega (arith, e.0, (fits book within).states))) ∙ deepened.kept k (inl e.1)
      kept k (inr (inr e)) = gained.kept k (inr (omega (arith, (fits book within).states))) ∙ deepened.kept k (inr (omega (arith, (fits book within).states)))

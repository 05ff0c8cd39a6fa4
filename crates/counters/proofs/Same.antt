-- Two counters of one kind are the same where their numbers are, since a counter holds nothing else.
-- Assumes nothing.
use mathlib.Core.Path.{◌≡◌, ap}
use Rattle.counters.specs.Counters.{state_of, place_of, number_of, rank_of}
use Rattle.counters.specs.declared.State.{State}
use Rattle.counters.specs.declared.Place.{Place}
use Rattle.counters.specs.declared.Number.{Number}
use Rattle.counters.specs.declared.Rank.{Rank}

pub same_state : {s t : State} → s.0 ≡ t.0 → s ≡ t
same_state e = ap state_of e

pub same_place : {s t : Place} → s.0 ≡ t.0 → s ≡ t
same_place e = ap place_of e

pub same_number : {s t : Number} → s.0 ≡ t.0 → s ≡ t
same_number e = ap number_of e

pub same_rank : {s t : Rank} → s.0 ≡ t.0 → s ≡ t
same_rank e = ap rank_of e

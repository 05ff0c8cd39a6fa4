-- No second answer: each call's own promise leaves one answer and one memory, and an answer has one number, so a desk is given one thing
-- for what it lends. Assumes nothing.
use mathlib.Core.Path.{◌≡◌, sym, ap, ap₂, ◌∙◌}
use mathlib.Core.List.{List}
use Prim.Native.Nat.{ℕ}
use Rattle.builder.specs.Answers as build
use Rattle.builder.proofs.Once.{exact_once}
use Rattle.scanner.specs.Answers.{begun_number, said}
use Rattle.scanner.specs.Exact.{BeginEnd, FeedEnd}
use Rattle.scanner.proofs.Once.{begin_exact_once, feed_exact_once}
use Rattle.desk.specs.Answers.{BuiltGiven, BuildAnswers, BegunGiven, BeginAnswers, FedGiven, FeedAnswers}

pub build_answers_once : (book before : List ℕ) (first second : BuiltGiven) → BuildAnswers book before first → BuildAnswers book before second → first ≡ second
build_answers_once book before first second one other =
    let same = exact_once book before one.answer other.answer first.tables second.tables one.promised other.promised in
    ap₂ {C = BuiltGiven} (λ says tables. record { says = says; tables = tables })
    (one.numbers ∙ ap build.said_by same.0 ∙ sym other.numbers)
    same.1

pub begin_answers_once : (t m : List ℕ) (first second : BegunGiven) → BeginAnswers t m first → BeginAnswers t m second → first ≡ second
begin_answers_once t m first second one other =
    let same = begin_exact_once t m _ _ one.promised other.promised in
    ap₂ {C = BegunGiven} (λ number memory. record { number = number; memory = memory })
    (one.numbers ∙ ap (λ (end : BeginEnd). begun_number end.answer) same ∙ sym other.numbers)
    (ap (λ (end : BeginEnd). end.memory) same)

pub feed_answers_once : (t m part room : List ℕ) (first second : FedGiven) → FeedAnswers t m part room first → FeedAnswers t m part room second → first ≡ second
feed_answers_once t m part room first second one other =
    let same = feed_exact_once t m part room _ _ one.promised other.promised in
    ap₂ {C = FedGiven} (λ says memory. record { says = says; memory = memory; room = first.room })
    (one.numbers ∙ ap (λ (end : FeedEnd). said end.answer) same ∙ sym other.numbers)
    (ap (λ (end : FeedEnd). end.memory) same)
    ∙ ap {B = FedGiven} (λ (after : List ℕ). record { says = second.says; memory = second.memory; room = after }) (ap (λ (end : FeedEnd). end.room) same)

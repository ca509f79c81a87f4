-- The open epoch, as its gateway drives it.
use Rattle.std.proofs.Common.{◌≡◌, ℕ, ◌+◌, ◌==◌, MatchBool, List, [], ◌∷◌, length, refl, sym, ap, subst, ◌∙◌, arith}
use Rattle.std.proofs.lemmas.Bool.{eq-eqb, ne_eqb}
use Rattle.trace_lines.specs.Line.{Line}
use Rattle.epoch_schedule.specs.World.{Rooms}
use Rattle.epoch_schedule.specs.TurnsTold.{turns_told}
use Rattle.epoch_schedule.specs.declared.turns.Turns.{Turns}
use Rattle.gate_model.specs.Versions.{SessionsKeepTheirSlot}
use Rattle.subscriber.specs.Standing.{SubscriberState}
use Rattle.at_rest.specs.Rest.{AreAtRest, Rest}
use Rattle.at_rest.specs.Coming.{latest_behind}
use Rattle.epoch_drive.specs.Lines.{rooms_of}
use Rattle.epoch_drive.specs.Steps.{DoesLines, MayDo}
use Rattle.epoch_drive.specs.Taken.{AreTaken, HasTaken, IsResting, MayCome, rest_of}
use Rattle.epoch_drive.specs.Telling.{EpochTold}
use Rattle.epoch_drive.specs.declared.gateway.DrivenGateway.{DrivenGateway}
use Rattle.epoch_drive.specs.declared.kept.EpochLines.{EpochLines}
use Rattle.epoch_drive.proofs.Drives.{length-asks}
use Rattle.epoch_drive.proofs.Ends.{length-moments}
use Rattle.epoch_drive.proofs.Epochs.{rests_so}
use Rattle.epoch_drive.proofs.Keeping.{length-kept}

abbrev no_lines : List Line
no_lines = []

-- whether no lines were taken
pub none_taken : (n : ℕ) (taken : List Line) → n ≡ length taken
    → MatchBool (n == 0) (taken ≡ []) (taken ≡ [] → ⊥)
none_taken n [] is = subst (λ b. MatchBool b (no_lines ≡ []) (no_lines ≡ [] → ⊥)) (sym (eq-eqb n 0 is)) refl
none_taken n (line ∷ taken) is =
    subst (λ b. MatchBool b (line ∷ taken ≡ []) (line ∷ taken ≡ [] → ⊥)) (sym (ne_eqb n 0 (λ none. omega (arith, is, none))))
    (λ none. omega (arith, ap length none))

module _ (start : Rest) (taken : List Line) (gateway : DrivenGateway) (lines : EpochLines)
    (has : HasTaken start taken gateway lines) where
  -- the same, with the gateway's number of slices
  are_taken : AreTaken gateway.slices start.book start.subscribers taken lines gateway.book gateway.subscribers.items
  are_taken =
      subst (λ k. AreTaken k start.book start.subscribers taken lines gateway.book gateway.subscribers.items)
      (sym has.set_up.same_slices) has.are

  -- as many lines are kept, and asks, as were taken
  pub as_many_kept : length lines.lines.items ≡ length taken
  as_many_kept =
      length-kept has.are.made lines has.are.kept_so ∙ length-moments taken has.are.made has.are.turned.moments

  pub as_many_asks : length lines.asks.items ≡ length taken
  as_many_asks =
      length-asks lines.asks.items has.are.made has.are.kept_so.ask
      ∙ length-moments taken has.are.made has.are.turned.moments

  pub may_do : MayCome start taken → MayDo gateway.slices gateway.lines lines gateway.book gateway.subscribers.items
  may_do may = record {
    latest = start.latest;
    book = start.book;
    subscribers = start.subscribers;
    taken = taken;
    are = are_taken;
    at_rest = subst (λ n. AreAtRest gateway.slices n start.latest start.subscribers) (sym has.set_up.same_lines)
        (subst (λ k. AreAtRest k start.lines start.latest start.subscribers) (sym has.set_up.same_slices)
        has.set_up.at_rest);
    later = may.later;
    few = omega (arith, may.few, has.set_up.same_lines);
  }

  pub steps_so : (rooms : Rooms) (turns : Turns) (new : List SubscriberState) (epoch : EpochTold)
      → rooms ≡ record { room = gateway.room; lane = gateway.lane }
      → ((first_book : List (List ℕ)) (first : List SubscriberState) (lines_first : List Line)
      → AreTaken gateway.slices first_book first lines_first lines gateway.book gateway.subscribers.items
      → DoesLines rooms gateway.slices (gateway.lines + 1) (turns_told turns gateway.slices (length lines_first))
      first_book first lines_first gateway.book new epoch)
      → DoesLines (rooms_of start) start.slices (start.lines + 1) (turns_told turns start.slices (length taken)) start.book
      start.subscribers taken gateway.book new epoch
  steps_so rooms turns new epoch rooms_are does =
      let same : rooms ≡ rooms_of start =
      rooms_are ∙ (λ i. record { room = has.set_up.same_room i; lane = has.set_up.same_lane i }) in
      subst (λ r. DoesLines r start.slices (start.lines + 1) (turns_told turns start.slices (length taken)) start.book
      start.subscribers taken gateway.book new epoch) same
      (subst (λ k. DoesLines rooms k (start.lines + 1) (turns_told turns k (length taken)) start.book
      start.subscribers taken gateway.book new epoch) has.set_up.same_slices
      (subst (λ n. DoesLines rooms gateway.slices (n + 1) (turns_told turns gateway.slices (length taken)) start.book
      start.subscribers taken gateway.book new epoch) has.set_up.same_lines
      (does start.book start.subscribers taken are_taken)))

  -- the gateway is at rest behind the epoch
  pub resting_so : SessionsKeepTheirSlot → MayCome start taken → (turns : List (List ℕ)) (new : DrivenGateway) (epoch : EpochTold)
      → DoesLines (rooms_of start) start.slices (start.lines + 1) turns start.book start.subscribers taken gateway.book
      new.subscribers.items epoch
      → new.slices ≡ gateway.slices → new.book ≡ gateway.book → new.lines ≡ gateway.lines + length taken
      → new.latest ≡ gateway.latest → IsResting (rest_of new) new
  resting_so keeps may turns new epoch steps slices_are book_is lines_are latest_is =
      let same : new.slices ≡ start.slices = slices_are ∙ has.set_up.same_slices in
      let counted : new.lines ≡ start.lines + length taken = omega (arith, lines_are, has.set_up.same_lines) in
      let latest : new.latest ≡ latest_behind start.latest taken = latest_is ∙ has.latest in
      let rests : AreAtRest start.slices (start.lines + length taken) (latest_behind start.latest taken)
      new.subscribers.items =
      rests_so start taken turns gateway.book new.subscribers.items epoch steps has.set_up.at_rest may.later may.few
      keeps in
      record {
        set_up = record {
          same_slices = refl;
          same_room = refl;
          same_lane = refl;
          same_lines = refl;
          some_slices = omega (arith, same, has.set_up.some_slices);
          few_slices = omega (arith, same, has.set_up.few_slices);
          at_rest = subst (λ k. AreAtRest k new.lines new.latest new.subscribers.items) (sym same)
              (subst (λ n. AreAtRest start.slices n new.latest new.subscribers.items) (sym counted)
              (subst (λ m. AreAtRest start.slices (start.lines + length taken) m new.subscribers.items) (sym latest)
              rests));
        };
        same_book = refl;
        same_subscribers = refl;
        same_latest = refl;
        many = steps.done.many ∙ steps.turned.many ∙ sym (ap length book_is);
      }

-- The epoch as the code makes it.
use Rattle.std.proofs.Common.{◌≡◌, ℕ, ◌+◌, ◌%◌, ◌≤◌, ◌^◌, Bool, true, false, cond, Some, None, List, [], ◌∷◌, map, length, get_or, refl, sym, ap, subst, ◌∙◌, arith}
use Rattle.std.specs.List.{All, cons_option}
use Rattle.std.proofs.Math.Logic.{∥∥₁_elim}
use Rattle.std.proofs.Props.{props}
use Rattle.std.proofs.lemmas.Bool.{ne_eqb}
use Rattle.std.proofs.lemmas.List.{length-map}
use Rattle.std.proofs.lemmas.List.Elements.{All-head, All-tail, All-weaker}
use Rattle.control_steps.specs.declared.command.CommandKind.{CommandKind}
use Rattle.gate_model.specs.Events.{FewEvents}
use Rattle.trace_lines.specs.Line.{Line}
use Rattle.demux.specs.Trace.{Meaning, command, packet, move, note}
use Rattle.demux.specs.declared.packet.LentPacket.{LentPacket}
use Rattle.lawful_run.specs.Accepted as accepted
use Rattle.lawful_run.specs.LinesTold.{lines_told}
use Rattle.lawful_run.specs.Run.{no_events}
use Rattle.epoch_schedule.specs.Front.{Outcome}
use Rattle.epoch_schedule.specs.Schedule.{Driven, outcomes, mets}
use Rattle.epoch_schedule.specs.Slots.{Met}
use Rattle.epoch_schedule.specs.World.{Rooms, start}
use Rattle.epoch_schedule.specs.Lines.{asked, bound_in, driven_by}
use Rattle.epoch_schedule.specs.Plan.{Plan, mets_of}
use Rattle.epoch_schedule.specs.TurnsTold.{turns_told}
use Rattle.epoch_schedule.specs.declared.ask.LineAsk.{LineAsk}
use Rattle.epoch_schedule.specs.declared.turns.Turns.{Turns}
use Rattle.epoch_drive.specs.Driven.{asks_of, driven, mets_driven}
use Rattle.subscriber.specs.Standing.{SubscriberState, commands_met}
use Rattle.subscriber.proofs.CountLemmas.{all_counted}
use Rattle.at_rest.specs.Rest.{AreAtRest, HasEvents, IsAtRest}
use Rattle.at_rest.specs.Meant.{IsWithin, bound_of}
use Rattle.epoch_drive.specs.Turned.{TurnedAll}
use Rattle.lawful_run.specs.Opened.{open_command, open_packet}
use Rattle.epoch_drive.specs.DrivenOpened.{open_entries}
use Rattle.epoch_drive.specs.Opened.{opened}
use Rattle.epoch_drive.specs.Shares.{AreMet}
use Rattle.epoch_drive.specs.Taken.{AreTaken}
use Rattle.epoch_drive.specs.declared.kept.EpochLines.{EpochLines}
use Rattle.epoch_drive.proofs.Bounds.{bounds_listed}
use Rattle.epoch_drive.proofs.Events.{opened_lines}
use Rattle.epoch_drive.proofs.Ends.{length-moments}
use Rattle.epoch_drive.proofs.Scheduled.{as_many, driven_so, few_met, length-outcomes}
use Rattle.std.specs.Option.{option_map}
use Rattle.epoch_drive.proofs.ShareLemmas.{Nothing, alone, line_at, moved_nothing, noted_nothing}

-- the schedule that was made is that of the lines
lines_driven : (asks : List LineAsk) (made : List Meaning) (turns : List (List ℕ))
    → map asked asks ≡ map asks_of made
    → driven_by (map asked asks) turns ≡ driven made turns
lines_driven asks made turns is =
    ap (λ all. driven_by all turns) is ∙ driven_so made turns

bounds_are : (slices : ℕ) (subscribers : List SubscriberState) (bounds : List ℕ)
    → bounds ≡ map (λ (s : SubscriberState). s.destination) subscribers → (slot : ℕ)
    → bound_in slices bounds slot ≡ bound_of slices subscribers slot
bounds_are slices subscribers bounds is slot =
    ap (λ bs. bound_in slices bs slot) is ∙ bounds_listed subscribers slot (slot % slices)

pub length-asks : (asks : List LineAsk) (made : List Meaning)
    → map asked asks ≡ map asks_of made → length asks ≡ length made
length-asks asks made is =
    sym (length-map asks asked) ∙ ap length is ∙ length-map made asks_of

module _ (rooms : Rooms) (slices : ℕ) (subscribers : List SubscriberState) (bounds : List ℕ) (asks : List LineAsk)
    (made : List Meaning) (turns turns_now : List (List ℕ))
    (bounds_is : bounds ≡ map (λ (s : SubscriberState). s.destination) subscribers)
    (asks_are : map asked asks ≡ map asks_of made)
    (same : turns_now ≡ turns) where
  pub plan_outcomes : outcomes rooms (bound_in slices bounds) start (driven_by (map asked asks) turns_now)
      ≡ outcomes rooms (bound_of slices subscribers) start (driven made turns)
  plan_outcomes =
      let lines = ap (driven_by (map asked asks)) same ∙ lines_driven asks made turns asks_are in
      λ i. outcomes rooms (λ slot. bounds_are slices subscribers bounds bounds_is slot i) start (lines i)

  pub plan_mets : (slot : ℕ) → mets rooms (bound_in slices bounds) (driven_by (map asked asks) turns_now) slot
      ≡ mets_driven rooms (bound_of slices subscribers) turns made slot
  plan_mets slot =
      let lines = ap (driven_by (map asked asks)) same ∙ lines_driven asks made turns asks_are in
      λ i. mets rooms (λ s. bounds_are slices subscribers bounds bounds_is s i) (lines i) slot

-- what packets meet is there, and few
few_commands : (slices count latest slot : ℕ) (s : SubscriberState) → count ≤ 2 ^ 39
    → IsAtRest slices count latest slot s → FewEvents (commands_met s)
few_commands slices count latest slot s few rest =
    ∥∥₁_elim rest.has_events (hlevel props) (λ (has : HasEvents slot count s).
    omega (arith, has.represents.commands, all_counted has.events, has.few, few))

pub are_met : (rooms : Rooms) (bounds : ℕ → ℕ) (turns : List (List ℕ)) (made : List Meaning)
    (slices count latest : ℕ) (subscribers : List SubscriberState) (plan : Plan)
    → plan.outcomes ≡ outcomes rooms bounds start (driven made turns)
    → ((slot : ℕ) → mets_of plan slot ≡ mets_driven rooms bounds turns made slot)
    → count + length made ≤ 2 ^ 39 → AreAtRest slices count latest subscribers
    → AreMet plan subscribers (opened 0 made plan.outcomes)
are_met rooms bounds turns made slices count latest subscribers plan outs_are mets_are few rest = record {
  enough = λ slot.
      let lines : opened 0 made plan.outcomes
      ≡ lines_told made (open_entries 0 made (outcomes rooms bounds start (driven made turns))) =
      opened_lines 0 made plan.outcomes ∙ ap (λ os. lines_told made (open_entries 0 made os)) outs_are in
      omega (
        arith,
        ap (λ ls. length (accepted.packets_accepted slot ls)) lines,
        as_many rooms bounds turns 0 no_events made slot,
        ap length (mets_are slot),
      );
  few = λ slot.
      subst (All (λ (m : Met). FewEvents m.commands)) (sym (mets_are slot))
      (All-weaker (λ (m : Met). m.commands ≤ length made) (λ (m : Met). FewEvents m.commands)
      (λ m low. omega (arith, low, few)) (mets_driven rooms bounds turns made slot)
      (few_met rooms bounds turns made slot));
  counts = λ k d low. few_commands slices count latest k (get_or subscribers k d) (omega (arith, few)) (rest k d low);
}

-- slots beyond the book have nothing
beyond_command : (k own : ℕ) (c : CommandKind) (taken : Bool) (slot : ℕ) → (own ≡ slot → ⊥)
    → Nothing slot (record { meaning = command own c; entry = open_command k own taken })
beyond_command k own c true slot other = record {
  command_ = ap (λ t. cond t (Some c) None) (ne_eqb own slot other);
  packet_ = refl;
}
beyond_command k own c false slot other = record { command_ = refl; packet_ = refl }

beyond_packet : (k own : ℕ) (p : LentPacket) (taken parked : Bool) (slot : ℕ) → (own ≡ slot → ⊥)
    → Nothing slot (record { meaning = packet own p; entry = open_packet k own taken parked })
beyond_packet k own p true parked slot other = record {
  command_ = refl;
  packet_ = ap (λ t. option_map alone (cond t (Some p) None)) (ne_eqb own slot other);
}
beyond_packet k own p false parked slot other = record { command_ = refl; packet_ = refl }

beyond_line : (n slot k : ℕ) (it : Meaning) (o : Outcome) → n ≤ slot → IsWithin n it
    → Nothing slot (line_at k it o)
beyond_line n slot k (command own c) o past low =
    beyond_command k own c o.taken slot (λ same. omega (arith, past, low, same))
beyond_line n slot k (packet own p) o past low =
    beyond_packet k own p o.taken o.parked slot (λ same. omega (arith, past, low, same))
beyond_line n slot k (move own slice text) o past low = moved_nothing k own slice text o slot
beyond_line n slot k (note text) o past low = noted_nothing k text o slot

pub no_commands : (n slot k : ℕ) (made : List Meaning) (outs : List Outcome) → n ≤ slot → All (IsWithin n) made
    → accepted.commands_accepted slot (opened k made outs) ≡ []
no_commands n slot k [] outs past within = refl
no_commands n slot k (it ∷ made) [] past within = refl
no_commands n slot k (it ∷ made) (o ∷ outs) past within =
    let rest = no_commands n slot (k + 1) made outs past (All-tail (IsWithin n) it made within) in
    ap (λ c. cons_option c (accepted.commands_accepted slot (opened (k + 1) made outs)))
    (beyond_line n slot k it o past (All-head (IsWithin n) it made within)).command_ ∙ rest

pub no_packets : (n slot k : ℕ) (made : List Meaning) (outs : List Outcome) → n ≤ slot → All (IsWithin n) made
    → accepted.packets_accepted slot (opened k made outs) ≡ []
no_packets n slot k [] outs past within = refl
no_packets n slot k (it ∷ made) [] past within = refl
no_packets n slot k (it ∷ made) (o ∷ outs) past within =
    let rest = no_packets n slot (k + 1) made outs past (All-tail (IsWithin n) it made within) in
    ap (λ p. cons_option p (accepted.packets_accepted slot (opened (k + 1) made outs)))
    (beyond_line n slot k it o past (All-head (IsWithin n) it made within)).packet_ ∙ rest

-- the plan that was made is the schedule of the lines
pub record Planned (rooms : Rooms) (slices : ℕ) (subscribers : List SubscriberState) (lines : List Line)
    (turns : List (List ℕ)) (made : List Meaning) (plan : Plan) : Type 0 where
  pub outcomes_are : plan.outcomes
      ≡ outcomes rooms (bound_of slices subscribers) start (driven made turns)
  pub mets_are : (slot : ℕ) → mets_of plan slot
      ≡ mets_driven rooms (bound_of slices subscribers) turns made slot
  pub long : length plan.outcomes ≡ length made
  pub counted : length made ≡ length lines

abbrev asks_driven : (slices : ℕ) → Turns → List LineAsk → List Driven
asks_driven slices turns asks = driven_by (map asked asks) (turns_told turns slices (length asks))

pub planned : (rooms : Rooms) (slices : ℕ) (book book_now : List (List ℕ)) (subscribers between : List SubscriberState)
    (lines : List Line) (bounds : List ℕ) (asks : List LineAsk) (made : List Meaning) (turns : Turns) (plan : Plan)
    → TurnedAll slices book subscribers lines made book_now between
    → bounds ≡ map (λ (s : SubscriberState). s.destination) subscribers
    → map asked asks ≡ map asks_of made
    → plan.outcomes ≡ outcomes rooms (bound_in slices bounds) start (asks_driven slices turns asks)
    → ((slot : ℕ) → mets_of plan slot ≡ mets rooms (bound_in slices bounds) (asks_driven slices turns asks) slot)
    → Planned rooms slices subscribers lines (turns_told turns slices (length lines)) made plan
planned rooms slices book book_now subscribers between lines bounds asks made turns plan turned bounds_is asks_are
    outs_are mets_are =
    let counted : length made ≡ length lines = length-moments lines made turned.moments in
    let same : turns_told turns slices (length asks) ≡ turns_told turns slices (length lines) =
    ap (turns_told turns slices) (length-asks asks made asks_are ∙ counted) in
    let outs : plan.outcomes ≡ outcomes rooms (bound_of slices subscribers) start
    (driven made (turns_told turns slices (length lines))) =
    outs_are ∙ plan_outcomes rooms slices subscribers bounds asks made (turns_told turns slices (length lines))
    (turns_told turns slices (length asks)) bounds_is asks_are same in
    record {
      outcomes_are = outs;
      mets_are = λ slot. mets_are slot
          ∙ plan_mets rooms slices subscribers bounds asks made (turns_told turns slices (length lines))
          (turns_told turns slices (length asks)) bounds_is asks_are same slot;
      long = ap length outs
          ∙ length-outcomes rooms (bound_of slices subscribers) made
          (turns_told turns slices (length lines));
      counted = counted;
    }

-- by the lines that were taken
pub planned_so : (rooms : Rooms) (slices : ℕ) (book book_now : List (List ℕ))
    (subscribers between : List SubscriberState) (taken : List Line) (lines : EpochLines) (bounds : List ℕ)
    (asks : List LineAsk) (turns : Turns) (plan : Plan)
    → (are : AreTaken slices book subscribers taken lines book_now between)
    → bounds ≡ lines.bounds.items → asks ≡ lines.asks.items
    → plan.outcomes ≡ outcomes rooms (bound_in slices bounds) start (asks_driven slices turns asks)
    → ((slot : ℕ) → mets_of plan slot ≡ mets rooms (bound_in slices bounds) (asks_driven slices turns asks) slot)
    → Planned rooms slices subscribers taken (turns_told turns slices (length taken)) are.made plan
planned_so rooms slices book book_now subscribers between taken lines bounds asks turns plan are same_bounds same_asks =
    planned rooms slices book book_now subscribers between taken bounds asks are.made turns plan are.turned
    (same_bounds ∙ are.bounds) (ap (map asked) same_asks ∙ are.kept_so.ask)

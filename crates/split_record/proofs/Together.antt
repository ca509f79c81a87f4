-- The halves have nothing left to do: what they noted, and what their subscriber represents.
use Rattle.std.proofs.Common.{◌≡◌, ℕ, ◌+◌, ◌-◌, ◌<◌, ◌≤◌, ◌^◌, true, length, arith, List, [], ◌∷◌, ◌++◌, map, take, drop, All}
use Rattle.std.proofs.Common.{refl, ap, sym, ◌∙◌, subst, unwrap_or}
use Rattle.std.proofs.lemmas.List.{length-map, map-append}
use Rattle.std.proofs.lemmas.List.Elements.{All-nil, All-cons}
use Rattle.pc_base.specs.declared.packet.Packet.{Packet}
use Rattle.charging_book.specs.Happenings.{rows_of}
use Rattle.charging_book.specs.Rows.{Charged}
use Rattle.bearer_state.specs.Session.{SessionState}
use Rattle.bearer_state.specs.Version.{VersionState}
use Rattle.control_steps.specs.declared.command.CommandKind.{CommandKind}
use Rattle.packet_steps.specs.Past.{Past}
use Rattle.packet_steps.specs.Standing as counters
use Rattle.gate_model.specs.declared.event.Event.{Event}
use Rattle.gate_model.specs.Events.{commands_of}
use Rattle.gate_model.specs.SlotPast.{past_of, session_after, version_after, records_after}
use Rattle.gate_model.specs.Versions.{SessionsAreOfCommands, VersionsAreOfCommands, OpenLivesAreActive, CommandsAreLearnt, PacketsAreJudged, controlled_by}
use Rattle.lawful_run.specs.Outcomes.{replies, verdicts, effects}
use Rattle.subscriber.specs.Standing.{SubscriberState, StandsFor, commands_met, last_of}
use Rattle.control_half.specs.declared.items.CommandItem.{CommandItem}
use Rattle.control_half.specs.declared.items.CommandDone.{CommandDone}
use Rattle.control_half.specs.Controlled.{versions_left, HasApplied}
use Rattle.control_half.specs.Published.{Published}
use Rattle.counter_half.specs.declared.items.DataItem.{DataItem}
use Rattle.counter_half.specs.declared.items.PacketDone.{PacketDone}
use Rattle.counter_half.specs.declared.items.VersionDone.{VersionDone}
use Rattle.counter_half.specs.Handled.{Handled, Note, HasHandled, AreMet, noted, note_of, items_in, counts_in, met_in, met_of}
use Rattle.counter_half.specs.Interleaved.{Met, rises}
use Rattle.counter_half.specs.Tells.{events_made, versions_in, moments_in, AreLate, last_moment, IsLawful, Tells, TellsLawfully}
use Rattle.split_record.specs.Accepted.{AreNumbered}
use Rattle.split_record.specs.Finishing.{Comes, Notes, AreBounded, handled_as, counts_told, commands_in, events_told}
use Rattle.split_record.proofs.Floors.{Low, floors_of}
use Rattle.split_record.proofs.Lists.{session_of_items, versions_of_items, replies_of_items, numbers_of_items, lines_of_items}
use Rattle.split_record.proofs.Orders.{commands_ordered, packets_ordered, replies_by, replies_along, session_on, packets_on}
use Rattle.split_record.proofs.Stood.{stands_for}
use Rattle.split_record.proofs.Waiting.{left_count, numbered_at, all_at}

-- a note tells how many commands stood before its packet
counts_noted : (judged : List PacketDone) → map (λ (n : Note). n.commands) (map noted judged) ≡ counts_told judged
counts_noted [] = refl
counts_noted (d ∷ judged) = ap (λ (l : List ℕ). d.commands ∷ l) (counts_noted judged)

counts_of_notes : (handled : List Handled) → map (λ (n : Note). n.commands) (map note_of handled) ≡ counts_in handled
counts_of_notes [] = refl
counts_of_notes (h ∷ handled) = ap (λ (l : List ℕ). h.1 ∷ l) (counts_of_notes handled)

handled_again : (handled : List Handled) → handled_as (items_in handled) (counts_in handled) ≡ handled
handled_again [] = refl
handled_again (h ∷ handled) = ap (λ (l : List Handled). h ∷ l) (handled_again handled)

moments_again : (handled : List Handled) → map (λ (i : DataItem). i.packet.moment) (items_in handled) ≡ moments_in handled
moments_again [] = refl
moments_again (h ∷ handled) = ap (λ (l : List ℕ). h.0.packet.moment ∷ l) (moments_again handled)

-- what holds at every place holds of all
all_places : {X : Type 0} (P : X → Type 0) (xs : List X)
    → ((before : List X) (x : X) (after : List X) → xs ≡ before ++ x ∷ after → P x) → All P xs
all_places P [] each = All-nil P
all_places {X} P (x ∷ xs) each =
    All-cons P x xs (each [] x xs refl)
    (all_places P xs (λ before y after is. each (x ∷ before) y after (ap (λ (l : List X). x ∷ l) is)))

-- the notes tell what was handled
pub handled_told : (first packets : ℕ) (items : List DataItem) (learnt : List Published) (handled : List Handled)
    (met done : ℕ) (judged : List PacketDone) → HasHandled first packets learnt handled met done judged
    → items ≡ items_in handled → handled_as items (counts_told judged) ≡ handled
handled_told first packets items learnt handled met done judged has are =
    let counts = sym (counts_noted judged) ∙ ap (λ (l : List Note). map (λ (n : Note). n.commands) l) has.notes_are
    ∙ counts_of_notes handled in
    (λ i. handled_as (are i) (counts i)) ∙ handled_again handled

module _ (start : SubscriberState) (commands : List CommandItem) (items : List DataItem) (session : SessionState)
    (number : ℕ) (replied : List CommandDone) (learnt : List Published) (handled : List Handled) (met done : ℕ)
    (judged : List PacketDone)
    (applied : HasApplied (commands_met start) start.session commands session number replied learnt)
    (has : HasHandled (commands_met start) start.packets learnt handled met done judged)
    (are : items ≡ items_in handled) where
  abbrev first : ℕ
  first = commands_met start

  counts_are : counts_told judged ≡ counts_in handled
  counts_are = sym (counts_noted judged) ∙ ap (λ (l : List Note). map (λ (n : Note). n.commands) l) has.notes_are
      ∙ counts_of_notes handled

  pub handled_is : handled_as items (counts_told judged) ≡ handled
  handled_is = handled_told first start.packets items learnt handled met done judged has are

  met_all : met ≡ first + length commands
  met_all = omega (
    arith,
    has.met_is,
    left_count first start.session commands,
    ap (λ (l : List Published). length l) applied.versions,
  )

  bounded : (slot : ℕ) → AreNumbered slot start.packets items → AreBounded first commands handled
  bounded slot numbered =
      all_places (λ (h : Handled). (h.0.floor ≤ h.1) × All (Low h.0.number) (take (h.1 - first) commands)) handled
      (λ before h after is.
      let floor : h.0.floor ≤ h.1 = all_at (λ (x : Handled). x.0.floor ≤ x.1) before h after
      (subst (All (λ (x : Handled). x.0.floor ≤ x.1)) is has.floors) in
      let place : items ≡ items_in before ++ h.0 ∷ items_in after =
      are ∙ ap items_in is ∙ map-append (λ (x : Handled). x.0) before (h ∷ after) in
      let number_is : start.packets + length before ≡ h.0.number = omega (
        arith,
        numbered_at slot start.packets (items_in before) h.0 (items_in after) (subst (AreNumbered slot start.packets)
            place numbered),
        length-map before (λ (x : Handled). x.0),
      ) in
      let low : AreMet h.0.number (take (h.1 - first) (versions_left first start.session commands)) =
      subst (λ (n : ℕ). AreMet n (take (h.1 - first) (versions_left first start.session commands))) number_is
      (subst (λ (l : List Published). AreMet (start.packets + length before) (take (h.1 - first) l)) applied.versions
      (has.floors_before before h after is)) in
      (floor, floors_of (h.1 - first) h.0.number first start.session commands low))

  pub notes_told : (slot : ℕ) → AreNumbered slot start.packets items → Notes start commands items replied judged
  notes_told slot numbered = record {
    numbers = ap (λ (l : List CommandDone). map (λ (d : CommandDone). d.number) l) applied.noted
        ∙ numbers_of_items first start.session commands;
    lines = ap (λ (l : List CommandDone). map (λ (d : CommandDone). d.line) l) applied.noted
        ∙ lines_of_items first start.session commands;
    items_noted = has.notes_are ∙ ap (λ (l : List Handled). map note_of l) (sym handled_is);
    rising = subst (λ (m : ℕ). rises first m (counts_told judged) ≡ true) met_all
        (subst (λ (l : List ℕ). rises first met l ≡ true) (sym counts_are) has.rising);
    bounded = subst (AreBounded first commands) (sym handled_is) (bounded slot numbered);
  }

  -- behind the events of a slot that the subscriber represented
  module _ (version : VersionState) (old : counters.CountersState) (dones : List VersionDone)
      (tells : TellsLawfully start learnt handled version old judged dones)
      (late : AreLate (unwrap_or (last_of start) 0) (map (λ (i : DataItem). i.packet.moment) items))
      (slot : ℕ) (before : List Event) (taken : ℕ) (stood : StandsFor start slot before taken)
      (few : length before + length commands + length items < 2 ^ 40) where
    abbrev kinds : List CommandKind
    kinds = commands_in commands

    abbrev now : List Event
    now = events_made start kinds handled

    lawful : IsLawful start slot before taken kinds learnt handled
    lawful = record {
      stood = stood;
      versions = ap versions_in applied.versions ∙ versions_of_items first start.session commands;
      late = subst (AreLate (unwrap_or (last_of start) 0))
          (ap (λ (l : List DataItem). map (λ (i : DataItem). i.packet.moment) l) are ∙ moments_again handled)
          late;
      few = omega (
        arith,
        few,
        length-map commands (λ (c : CommandItem). c.command),
        ap (λ (l : List DataItem). length l) are,
        length-map handled (λ (h : Handled). h.0),
      );
    }

    told_now : Tells start slot before now taken (moments_in handled) version old judged dones
    told_now = tells slot before taken kinds lawful

    of_commands : commands_of now ≡ kinds
    of_commands = commands_ordered first kinds (met_in handled)

    module _ (sessions : SessionsAreOfCommands) (versions : VersionsAreOfCommands) (opened : OpenLivesAreActive)
        (learns : CommandsAreLearnt) (judges : PacketsAreJudged) (record_now : SubscriberState) (rows : List Charged)
        (same_session : record_now.session ≡ session) (same_version : record_now.version ≡ version)
        (same_packets : record_now.packets ≡ done)
        (rows_law : (past : Past) (n : ℕ) → counters.StandsFor old past n → rows ≡ drop n (rows_of past.charged))
        (stands_law : (past : Past) (n : ℕ) → counters.StandsFor old past n
        → counters.StandsFor record_now.counters past (length (rows_of past.charged))) where
      stood_now : counters.StandsFor old (past_of slot (before ++ now)).packets taken
      stood_now = stands_for opened slot (before ++ now) old taken told_now.stands

      taken_out : counters.StandsFor record_now.counters (past_of slot (before ++ now)).packets
          (length (records_after slot (before ++ now)))
      taken_out = stands_law (past_of slot (before ++ now)).packets taken stood_now

      version_is : record_now.version ≡ version_after slot (before ++ now)
      version_is = same_version ∙ told_now.version_is

      stands : StandsFor record_now slot (before ++ now) (length (records_after slot (before ++ now)))
      stands = record {
        session = same_session ∙ applied.session_is ∙ session_of_items start.session commands
            ∙ ap (λ (s : SessionState). controlled_by s kinds) stood.session
            ∙ ap (controlled_by (session_after slot before)) (sym of_commands)
            ∙ sym (session_on sessions slot before now);
        version = version_is;
        counters = taken_out;
        commands = ap (λ (v : VersionState). v.number) (version_is ∙ versions slot (before ++ now));
        packets = omega (
          arith,
          same_packets,
          has.done_is,
          stood.packets,
          packets_on before now,
          ap (λ (l : List Packet). length l) (packets_ordered first kinds (met_in handled)),
          length-map (met_in handled) (λ (m : Met). m.packet),
          length-map handled met_of,
        );
      }

      replies_told : map (λ (d : CommandDone). d.reply) replied ≡ replies slot before now
      replies_told =
          ap (λ (l : List CommandDone). map (λ (d : CommandDone). d.reply) l) applied.noted
          ∙ replies_of_items first start.session commands
          ∙ ap (λ (s : SessionState). replies_by s kinds) stood.session
          ∙ ap (replies_by (session_after slot before)) (sym of_commands)
          ∙ sym (replies_along learns judges slot before now)

      told_in_order : now ≡ events_told start commands items judged
      told_in_order = ap (λ (l : List Handled). events_made start kinds l) (sym handled_is)

      pub comes : Comes start slot before taken commands items record_now replied judged dones rows
      comes = record {
        stands = subst (λ (e : List Event). StandsFor record_now slot (before ++ e)
            (length (records_after slot (before ++ e)))) told_in_order stands;
        replies_are = replies_told ∙ ap (replies slot before) told_in_order;
        verdicts_are = told_now.verdicts_are ∙ ap (λ (e : List Event). verdicts slot before e) told_in_order;
        effects_are = told_now.effects_are ∙ ap (λ (e : List Event). effects slot before e) told_in_order;
        last_is = taken_out.last ∙ sym stood_now.last ∙ told_now.last
            ∙ ap (last_moment (last_of start))
            (sym (ap (λ (l : List DataItem). map (λ (i : DataItem). i.packet.moment) l) are ∙ moments_again handled));
        rows_are = rows_law (past_of slot (before ++ now)).packets taken stood_now
            ∙ ap (λ (e : List Event). drop taken (records_after slot (before ++ e))) told_in_order;
      }

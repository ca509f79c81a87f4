-- Such a gateway answers each line as the sequential run does, and still represents the events of each slot behind it.
use Rattle.std.proofs.Common.{◌≡◌, ◌≢◌, ℕ, ◌+◌, ◌<◌, ◌≤◌, ◌^◌, ◌==◌, if◌then◌else◌, Bool, true, false, IfSome, List, [], ◌∷◌, ◌++◌, length, map, set, Option, Some, refl, sym, ap, subst, ◌∙◌, arith, append-nil, append_assoc, length-append}
use Rattle.std.specs.List.{filter, flat_map}
use Rattle.std.proofs.lemmas.Bool.{eq-eqb, eqb-true, ne_eqb}
use Rattle.std.proofs.lemmas.List.Elements.{filter-append}
use Rattle.pc_base.specs.declared.effect.Effect.{Effect}
use Rattle.pc_base.specs.declared.packet.Packet.{Packet}
use Rattle.pc_base.specs.declared.packet.Place.TheVariants.{Closing}
use Rattle.pc_base.specs.declared.reply.Reply.{Reply}
use Rattle.charging_book.specs.Rows.{Charged}
use Rattle.control_steps.specs.Table.{controlled}
use Rattle.control_steps.specs.declared.command.CommandKind.{CommandKind}
use Rattle.trace_lines.specs.Line.{Line}
use Rattle.demux.specs.Destinations.{bound_for}
use Rattle.demux.specs.Line.{asked}
use Rattle.demux.specs.Packets.{numbered}
use Rattle.demux.specs.Resolved.{HasMoment, IsDecision, IsDue, book_behind, decided, slot_of}
use Rattle.demux.specs.Texts.{move_note}
use Rattle.demux.specs.Trace.{Meaning, book_of, command, decisions, destination_after, meant, move, note, packet}
use Rattle.demux.specs.declared.decision.Decision.{Decision}
use Rattle.demux.specs.declared.decision.Decision.TheVariants as decision
use Rattle.demux.specs.declared.decision.Whose.{Whose}
use Rattle.demux.specs.declared.decision.Whose.TheVariants.{Known, New}
use Rattle.demux.specs.declared.packet.LentPacket.{LentPacket}
use Rattle.demux.proofs.MomentLemmas.{moment_decided}
use Rattle.demux.proofs.ResolvedLemmas.{book_resolved, is_decision}
use Rattle.demux.proofs.TraceLemmas.{book_of-push, destination_after-push}
use Rattle.gate_model.specs.Events.{commands_of, packets_of}
use Rattle.gate_model.specs.SlotPast.{effects_after, verdict_after}
use Rattle.gate_model.specs.declared.event.Event.{Event}
use Rattle.gate_model.specs.declared.event.Event.TheVariants as event
use Rattle.packet_steps.specs.Plans.{verdict_by}
use Rattle.packet_steps.specs.Running.{brought as brings_now, planned}
use Rattle.report_lines.specs.Records.{Effected}
use Rattle.report_lines.specs.declared.entry.ChargeEntry.TheVariants.{R}
use Rattle.report_lines.specs.declared.entry.LineEntry.TheVariants as line_entry
use Rattle.subscriber.specs.Standing.{SubscriberState, commands_met, last_of}
use Rattle.lawful_run.specs.AnsweredRun.{behind_line, behind_lines, brings, brought, entries_from, entry_after, with_line}
use Rattle.lawful_run.specs.Merging.{Histories}
use Rattle.lawful_run.specs.Outcomes as made_of
use Rattle.lawful_run.specs.Outcomes.{effect_entry}
use Rattle.lawful_run.specs.Trace.{meant_from, meant_next, settled_by}
use Rattle.lawful_run.proofs.EveryTrace.{with_brought}
use Rattle.lawful_run.proofs.Growing.{effects-append, rows-append}
use Rattle.solo_command.specs.Answering.{Answers, Judges}
use Rattle.solo_command.specs.Gateway.{AnswersAs, AnswersLine, AnswersLines, Commanded, Gateway, Told, admitting, answered, judged, noted}
use Rattle.solo_command.specs.Reports.{is_of}
use Rattle.solo_command.specs.Report.{slices}
use Rattle.solo_command.proofs.GatherLemmas.{no_rows}
use Rattle.solo_command.proofs.StoryLemmas.{later}
use Rattle.solo_command.proofs.TellLemmas.{filter_all}
use Rattle.report_laws.proofs.KeptRanges.{CommandKept}
use Rattle.report_laws.proofs.SessionsKept.{SessionKept}
use Rattle.report_laws.proofs.CommandsKept.{DecisionKept, decision_kept}
use Rattle.report_laws.proofs.SubscribersGoOn.{CommandGoes, PacketGoes, command_goes, emptied, packet_goes}
use Rattle.report_laws.proofs.InputsInOrder.{InOrder, IsNext, latest_in}
use Rattle.report_laws.proofs.GatewaysHold.{Holds, SlotHolds, admitted_holds, put_holds, stay_holds}

-- what is told has by slot the effects and the charging records of the events that the line brings
pub record TellsOf (told : Told) (n : ℕ) (histories : Histories) (now : Meaning) : Type 0 where
  pub entry : told.entry ≡ entry_after n histories now
  pub effects : (slot : ℕ) → filter (λ (effected : Effected). effected.slot == slot) told.effects
      ≡ made_of.effects slot (histories slot) (brings slot (histories slot) now)
  pub rows : (slot : ℕ) → filter (is_of slot) told.rows
      ≡ made_of.rows slot (histories slot) (brings slot (histories slot) now)

-- what one slot's event makes, by slot
by_own : {X : Type 0} (own slot : ℕ) (has : ℕ → List Event → List X) (e : ℕ → Event) (told : List X)
    → ((s : ℕ) → has s [] ≡ []) → has own (e own ∷ []) ≡ told → (b : Bool) → (own == slot) ≡ b
    → (if b then told else []) ≡ has slot (if b then e slot ∷ [] else [])
by_own own slot has e told none is true test =
    sym (subst (λ s. has s (e s ∷ []) ≡ told) (eqb-true own slot test) is)
by_own own slot has e told none is false test = sym (none slot)

-- the events of the slot that a line is for, and of the others
own_line : (own : ℕ) (events more : List Event) → (if own == own then more else events) ≡ more
own_line own events more = ap (λ test. if test then more else events) (eq-eqb own own refl)

other_line : (own slot : ℕ) (events more : List Event) → slot ≢ own → (if own == slot then more else events) ≡ events
other_line own slot events more other =
    ap (λ test. if test then more else events) (ne_eqb own slot (λ same. other (sym same)))

-- a command of a slot of the book
record CommandLine (n own : ℕ) (c : CommandKind) (old : Gateway) (known : List (List ℕ)) (bound : ℕ → ℕ)
    (moment lines : ℕ) (histories : Histories) : Type 0 where
  told : Told
  next : Gateway
  book : next.book ≡ old.book
  commanded : Commanded n own c old.subscribers told next.subscribers
  tells : TellsOf told n histories (command own c)
  holds : Holds next known bound moment (lines + 1) (behind_line histories (command own c))

command_line : (n own : ℕ) (c : CommandKind) (old : Gateway) (known : List (List ℕ)) (bound : ℕ → ℕ)
    (latest moment lines : ℕ) (histories : Histories) → Holds old known bound latest lines histories
    → own < length known → lines < 2 ^ 40 → CommandKept c → latest ≤ moment
    → CommandLine n own c old known bound moment lines histories
command_line n own c old known bound latest moment lines histories holds within few kept late =
    let events = histories own in
    let has = holds.each own within in
    let one = has.value in
    let stood = has.holds in
    let goes : CommandGoes one own events c =
    command_goes one own events c stood.stands (omega (arith, holds.few own, few)) stood.kept kept in
    let reply : Reply = (controlled one.session c).1 in
    let effects : List Effect = (brings_now one.version goes.left.version one.counters).effects in
    let rows : List Charged = goes.left.counters.book.rows in
    let next = emptied goes.left in
    let told = answered n own one reply effects rows in
    let answers : Answers one c reply effects rows next = record {
      left = goes.left;
      commanded = goes.commanded;
      valid = record { session = goes.kept.fits; bearers = goes.kept.bearers; version = goes.version };
      reply_is = refl;
      effects_are = refl;
      rows_are = refl;
      taken = refl;
    } in
    let own_events : with_line own events (command own c) ≡ events ++ event.Command c ∷ [] =
    own_line own events (events ++ event.Command c ∷ []) in
    record {
      told = told;
      next = record { book = old.book; subscribers = set old.subscribers own next };
      book = refl;
      commanded = record {
        one = one;
        found = has.found;
        reply = reply;
        effects = effects;
        rows = rows;
        next = next;
        answers = answers;
        told_is = refl;
        put = refl;
      };
      tells = record {
        entry = λ i. line_entry.C (record {
          line = n;
          slot = own;
          number = stood.stands.commands i;
          reply = goes.reply_is i;
        });
        effects = λ slot.
            filter_all (effect_entry own (commands_met one)) (λ (effected : Effected). effected.slot == slot)
            (own == slot) (λ e. refl) effects
            ∙ by_own own slot (λ s. made_of.effects s (histories s)) (λ s. event.Command c)
            (map (effect_entry own (commands_met one)) effects) (λ s. refl)
            (append-nil (map (effect_entry own (length (commands_of events))) (effects_after own events c))
            ∙ sym (λ i. map (effect_entry own (stood.stands.commands i)) (goes.effects_are i))) (own == slot) refl;
        rows = λ slot.
            filter_all (R own) (is_of slot) (own == slot) (λ r. refl) rows
            ∙ by_own own slot (λ s. made_of.rows s (histories s)) (λ s. event.Command c) (map (R own) rows)
            (λ s. no_rows s (histories s)) (ap (map (R own)) (sym goes.rows_are)) (own == slot) refl;
      };
      holds = put_holds old _ known bound bound latest moment lines own histories
          (behind_line histories (command own c)) next holds within late refl refl
          (subst (λ e. SlotHolds next own (bound own) moment e) (sym own_events) (record {
            stands = goes.stands;
            kept = goes.kept;
            bound_for = goes.commanded.destination ∙ stood.bound_for;
            in_order = subst (λ (o : Option ℕ). IfSome o (λ last. last ≤ moment)) (sym goes.last)
                (later (last_of one) latest moment late stood.in_order);
          }))
          (λ slot other. other_line own slot (histories slot) (histories slot ++ event.Command c ∷ []) other)
          (λ slot other. refl)
          (omega (arith, ap length own_events, length-append events (event.Command c ∷ []), holds.few own));
    }

-- a line by what was decided of it
pub record LineGoes (n : ℕ) (made : Decision) (now : Meaning) (old : Gateway) (known : List (List ℕ)) (bound : ℕ → ℕ)
    (moment lines : ℕ) (histories : Histories) : Type 0 where
  pub told : Told
  pub next : Gateway
  pub answers : AnswersAs slices n made old told next
  pub tells : TellsOf told n histories now
  pub holds : Holds next (book_behind known made) (λ slot. bound_for slot (bound slot) made) moment (lines + 1)
      (behind_line histories now)

command_goes_to : (n : ℕ) (whose : Whose) (c : CommandKind) (old : Gateway) (known : List (List ℕ)) (bound : ℕ → ℕ)
    (latest moment lines : ℕ) (histories : Histories) → Holds old known bound latest lines histories
    → IsDue known whose → lines < 2 ^ 40 → CommandKept c → latest ≤ moment
    → LineGoes n (decision.Command whose c) (command (slot_of known whose) c) old known bound moment lines histories
command_goes_to n (Known slot) c old known bound latest moment lines histories holds due few kept late =
    let did = command_line n slot c old known bound latest moment lines histories holds due few kept late in
    record {
      told = did.told;
      next = did.next;
      answers = (did.book, did.commanded);
      tells = did.tells;
      holds = did.holds;
    }
command_goes_to n (New imsi) c old known bound latest moment lines histories holds due few kept late =
    let mid = admitting slices (New imsi) old in
    let ready = admitted_holds old known bound latest lines histories imsi holds in
    let own = length known in
    let did = command_line n own c mid (known ++ imsi ∷ []) bound latest moment lines histories ready
    (omega (arith, length-append known (imsi ∷ []))) few kept late in
    record {
      told = did.told;
      next = did.next;
      answers = (
        did.book,
        subst (λ slot. Commanded n slot c mid.subscribers did.told did.next.subscribers)
            (sym (ap length holds.same_book)) did.commanded,
      );
      tells = did.tells;
      holds = did.holds;
    }

no_effects : (slot : ℕ) (events : List Event) (q : Packet) (b : Bool)
    → [] ≡ made_of.effects slot events (if b then event.Packet q ∷ [] else [])
no_effects slot events q true = refl
no_effects slot events q false = refl

packet_goes_to : (n own : ℕ) (p : LentPacket) (old : Gateway) (known : List (List ℕ)) (bound : ℕ → ℕ)
    (latest lines : ℕ) (histories : Histories) → Holds old known bound latest lines histories
    → own < length known → latest ≤ p.moment
    → LineGoes n (decision.Packet own p) (packet own p) old known bound p.moment lines histories
packet_goes_to n own p old known bound latest lines histories holds within late =
    let events = histories own in
    let has = holds.each own within in
    let one = has.value in
    let stood = has.holds in
    let counted : one.packets ≡ length (packets_of events) = stood.stands.packets in
    let q : Packet = numbered one.packets p in
    let goes : PacketGoes one own events q =
    packet_goes one own events q stood.stands (later (last_of one) latest p.moment late stood.in_order) in
    let verdict = verdict_by (planned one.version one.counters q) q.octets in
    let verdict_same : verdict ≡ verdict_after own events (numbered (length (packets_of events)) p) =
    goes.verdict_is ∙ ap (λ k. verdict_after own events (numbered k p)) counted in
    let rows : List Charged = goes.left.counters.book.rows in
    let next = emptied goes.left in
    let judges : Judges one q verdict rows next =
    record { left = goes.left; met = goes.met; verdict_is = refl; rows_are = refl; taken = refl } in
    let e : Event = event.Packet (numbered (length (packets_of events)) p) in
    let same_event : event.Packet q ≡ e = ap (λ k. event.Packet (numbered k p)) counted in
    let own_events : with_line own events (packet own p) ≡ events ++ e ∷ [] = own_line own events (events ++ e ∷ []) in
    let here : IfSome (Some p.moment) (λ last. last ≤ p.moment) = omega arith in
    let left_session = ap (λ (s : SubscriberState). s.session) goes.met.others in
    record {
      told = judged n own one verdict rows;
      next = record { book = old.book; subscribers = set old.subscribers own next };
      answers = (
        refl,
        record {
          one = one;
          found = has.found;
          verdict = verdict;
          rows = rows;
          next = next;
          judges = judges;
          told_is = refl;
          put = refl;
        },
      );
      tells = record {
        entry = λ i. line_entry.P (record {
          line = n;
          slot = own;
          number = counted i;
          commands = stood.stands.commands i;
          verdict = verdict_same i;
          place = Some Closing;
          parked = false;
        });
        effects = λ slot.
            no_effects slot (histories slot) (numbered (length (packets_of (histories slot))) p) (own == slot);
        rows = λ slot.
            filter_all (R own) (is_of slot) (own == slot) (λ r. refl) rows
            ∙ by_own own slot (λ s. made_of.rows s (histories s))
            (λ s. event.Packet (numbered (length (packets_of (histories s))) p)) (map (R own) rows)
            (λ s. no_rows s (histories s))
            (ap (λ x. made_of.rows own events (x ∷ [])) (sym same_event) ∙ ap (map (R own)) (sym goes.rows_are))
            (own == slot) refl;
      };
      holds = put_holds old _ known bound bound latest p.moment lines own histories
          (behind_line histories (packet own p)) next holds within late refl refl
          (subst (λ es. SlotHolds next own (bound own) p.moment es)
          (ap (λ x. events ++ x ∷ []) same_event ∙ sym own_events) (record {
            stands = goes.stands;
            kept = subst SessionKept (sym left_session) stood.kept;
            bound_for = ap (λ (s : SubscriberState). s.destination) goes.met.others ∙ stood.bound_for;
            in_order = subst (λ (o : Option ℕ). IfSome o (λ last. last ≤ p.moment)) (sym goes.met.counters.last) here;
          }))
          (λ slot other. other_line own slot (histories slot)
          (histories slot ++ event.Packet (numbered (length (packets_of (histories slot))) p) ∷ []) other)
          (λ slot other. refl)
          (omega (arith, ap length own_events, length-append events (e ∷ []), holds.few own));
    }

-- a line that brings no event, whether it moves a slot or not
nothing_told : (n : ℕ) (text : List ℕ) (histories : Histories) → TellsOf (noted n text) n histories (note text)
nothing_told n text histories = record {
  entry = refl;
  effects = λ slot. refl;
  rows = λ slot. sym (no_rows slot (histories slot));
}

settled_told : (n slot slice : ℕ) (text : List ℕ) (histories : Histories) (stay : Bool)
    → TellsOf (noted n text) n histories (if stay then note text else move slot slice text)
settled_told n slot slice text histories true = nothing_told n text histories
settled_told n slot slice text histories false = record {
  entry = refl;
  effects = λ s. refl;
  rows = λ s. sym (no_rows s (histories s));
}

settled_events : (own slice : ℕ) (text : List ℕ) (slot : ℕ) (events : List Event) (stay : Bool)
    → with_line slot events (if stay then note text else move own slice text) ≡ events
settled_events own slice text slot events true = refl
settled_events own slice text slot events false = refl

move_goes_to : (n own slice : ℕ) (text : List ℕ) (stay : Bool) (old : Gateway) (known : List (List ℕ))
    (bound : ℕ → ℕ) (latest moment lines : ℕ) (histories : Histories)
    → Holds old known bound latest lines histories → own < length known → latest ≤ moment
    → text ≡ move_note (bound own) own slice
    → LineGoes n (decision.Move own slice) (if stay then note text else move own slice text) old known bound moment
    lines histories
move_goes_to n own slice text stay old known bound latest moment lines histories holds within late is =
    let has = holds.each own within in
    let one = has.value in
    let stood = has.holds in
    let next = record one { destination = slice } in
    let now = if stay then note text else move own slice text in
    let to : ℕ → ℕ = λ slot. if own == slot then slice else bound slot in
    record {
      told = noted n text;
      next = record { book = old.book; subscribers = set old.subscribers own next };
      answers = (
        refl,
        record {
          one = one;
          found = has.found;
          told_is = ap (noted n) (is ∙ ap (λ b. move_note b own slice) (sym stood.bound_for));
          put = refl;
        },
      );
      tells = settled_told n own slice text histories stay;
      holds = put_holds old _ known bound to latest moment lines own histories (behind_line histories now) next holds
          within late refl refl
          (subst (λ b. SlotHolds next own b moment (with_line own (histories own) now))
          (sym (ap (λ test. if test then slice else bound own) (eq-eqb own own refl)))
          (subst (λ es. SlotHolds next own slice moment es)
          (sym (settled_events own slice text own (histories own) stay)) (record {
            stands = record {
              session = stood.stands.session;
              version = stood.stands.version;
              counters = stood.stands.counters;
              commands = stood.stands.commands;
              packets = stood.stands.packets;
            };
            kept = stood.kept;
            bound_for = refl;
            in_order = later (last_of one) latest moment late stood.in_order;
          })))
          (λ slot other. settled_events own slice text slot (histories slot) stay)
          (λ slot other. ap (λ test. if test then slice else bound slot)
          (ne_eqb own slot (λ same. other (sym same))))
          (omega (arith, ap length (settled_events own slice text own (histories own) stay), holds.few own));
    }

note_goes_to : (n : ℕ) (text : List ℕ) (old : Gateway) (known : List (List ℕ)) (bound : ℕ → ℕ)
    (latest moment lines : ℕ) (histories : Histories) → Holds old known bound latest lines histories → latest ≤ moment
    → LineGoes n (decision.Note text) (note text) old known bound moment lines histories
note_goes_to n text old known bound latest moment lines histories holds late = record {
  told = noted n text;
  next = old;
  answers = (refl, refl);
  tells = nothing_told n text histories;
  holds = stay_holds old known bound latest moment lines histories histories holds late (λ slot. refl);
}

-- the gateway represents what lines brought to each slot
abbrev pub Stands : Gateway → List Line → (latest : ℕ) → Histories → Type 0
Stands gateway done latest histories =
    Holds gateway (book_of done) (λ slot. destination_after slices slot done) latest (length done) histories

abbrev meant_by : List Line → Decision → Meaning
meant_by done made = settled_by slices done (meant slices (book_of done) (decisions slices done) made)

by_decision : (n : ℕ) (done : List Line) (made : Decision) (old : Gateway) (latest moment : ℕ)
    (histories : Histories) → Stands old done latest histories → IsDecision slices (book_of done) made
    → DecisionKept made → HasMoment moment made → length done < 2 ^ 40 → latest ≤ moment
    → LineGoes n made (meant_by done made) old (book_of done) (λ slot. destination_after slices slot done) moment
    (length done) histories
by_decision n done (decision.Command whose c) old latest moment histories holds is kept at few late =
    command_goes_to n whose c old (book_of done) (λ slot. destination_after slices slot done) latest moment
    (length done) histories holds is few kept late
by_decision n done (decision.Packet slot p) old latest moment histories holds is kept at few late =
    subst (λ m. LineGoes n (decision.Packet slot p) (packet slot p) old (book_of done)
    (λ s. destination_after slices s done) m (length done) histories) at
    (packet_goes_to n slot p old (book_of done) (λ s. destination_after slices s done) latest (length done) histories
    holds is (omega (arith, late, at)))
by_decision n done (decision.Move slot slice) old latest moment histories holds is kept at few late =
    move_goes_to n slot slice (move_note (destination_after slices slot done) slot slice)
    (slice == destination_after slices slot done) old (book_of done) (λ s. destination_after slices s done) latest
    moment (length done) histories holds is.0 late refl
by_decision n done (decision.Note text) old latest moment histories holds is kept at few late =
    note_goes_to n text old (book_of done) (λ slot. destination_after slices slot done) latest moment (length done)
    histories holds late

-- the same, told otherwise
told_same : (gateway : Gateway) (known book : List (List ℕ)) (bound to : ℕ → ℕ) (latest lines many : ℕ)
    (histories : Histories) → known ≡ book → ((slot : ℕ) → bound slot ≡ to slot) → lines ≡ many
    → Holds gateway known bound latest lines histories → Holds gateway book to latest many histories
told_same gateway known book bound to latest lines many histories books bounds count holds =
    subst (λ b. Holds gateway b to latest many histories) books
    (subst (λ (f : ℕ → ℕ). Holds gateway known f latest many histories) (λ i slot. bounds slot i)
    (subst (λ n. Holds gateway known bound latest n histories) count holds))

-- the next line
pub record NextGoes (done : List Line) (line : Line) (old : Gateway) (histories : Histories) : Type 0 where
  pub told : Told
  pub next : Gateway
  pub answers : AnswersLine slices line old told next
  pub tells : TellsOf told (length done + 1) histories (meant_next slices done line)
  pub stands : Stands next (done ++ line ∷ []) line.moment (behind_line histories (meant_next slices done line))

pub next_goes : (done : List Line) (line : Line) (old : Gateway) (latest : ℕ) (histories : Histories)
    → Stands old done latest histories → IsNext (length done + 1) latest line → length done < 2 ^ 40
    → NextGoes done line old histories
next_goes done line old latest histories holds is few =
    let made = decided slices (book_of done) line in
    let did : LineGoes line.number made (meant_by done made) old (book_of done)
    (λ slot. destination_after slices slot done) line.moment (length done) histories =
    by_decision line.number done made old latest line.moment histories holds
    (is_decision slices (book_of done) (asked line)) (decision_kept slices (book_of done) line is.is_line)
    (moment_decided slices (book_of done) line) few is.in_order in
    let known : book_behind (book_of done) made ≡ book_of (done ++ line ∷ []) =
    book_resolved slices (book_of done) (asked line) ∙ sym (book_of-push done line) in
    let bounds : (slot : ℕ) → bound_for slot (destination_after slices slot done) made
    ≡ destination_after slices slot (done ++ line ∷ []) =
    λ slot. sym (destination_after-push slices slot done line) in
    let lines : length done + 1 ≡ length (done ++ line ∷ []) = sym (length-append done (line ∷ [])) in
    record {
      told = did.told;
      next = did.next;
      answers = subst (λ b. AnswersAs slices line.number (decided slices b line) old did.told did.next)
          (sym holds.same_book) did.answers;
      tells = subst (λ n. TellsOf did.told n histories (meant_next slices done line)) is.numbered did.tells;
      stands = told_same did.next (book_behind (book_of done) made) (book_of (done ++ line ∷ []))
          (λ slot. bound_for slot (destination_after slices slot done) made)
          (λ slot. destination_after slices slot (done ++ line ∷ [])) line.moment (length done + 1)
          (length (done ++ line ∷ [])) (behind_line histories (meant_next slices done line)) known bounds lines
          did.holds;
    }

-- what is told of lines
pub record TellAll (told : List Told) (n : ℕ) (histories : Histories) (made : List Meaning) : Type 0 where
  pub entries : map (λ (one : Told). one.entry) told ≡ entries_from n histories made
  pub effects : (slot : ℕ) → filter (λ (effected : Effected). effected.slot == slot)
      (flat_map (λ (one : Told). one.effects) told)
      ≡ made_of.effects slot (histories slot) (brought slot (histories slot) made)
  pub rows : (slot : ℕ) → filter (is_of slot) (flat_map (λ (one : Told). one.rows) told)
      ≡ made_of.rows slot (histories slot) (brought slot (histories slot) made)

with_brings : (slot : ℕ) (events : List Event) (now : Meaning)
    → events ++ brings slot events now ≡ with_line slot events now
with_brings slot events now =
    ap (λ more. events ++ more) (sym (append-nil (brings slot events now))) ∙ with_brought slot events (now ∷ [])

told_then : (first : Told) (rest : List Told) (n : ℕ) (histories : Histories) (now : Meaning) (made : List Meaning)
    → TellsOf first n histories now → TellAll rest (n + 1) (behind_line histories now) made
    → TellAll (first ∷ rest) n histories (now ∷ made)
told_then first rest n histories now made here behind = record {
  entries = (λ i. here.entry i ∷ behind.entries i);
  effects = λ slot.
      let test : Effected → Bool = λ effected. effected.slot == slot in
      filter-append test first.effects (flat_map (λ (one : Told). one.effects) rest)
      ∙ (λ i. here.effects slot i ++ behind.effects slot i)
      ∙ ap (λ events. made_of.effects slot (histories slot) (brings slot (histories slot) now)
      ++ made_of.effects slot events (brought slot (with_line slot (histories slot) now) made))
      (sym (with_brings slot (histories slot) now))
      ∙ sym (effects-append slot (histories slot) (brings slot (histories slot) now)
      (brought slot (with_line slot (histories slot) now) made));
  rows = λ slot.
      filter-append (is_of slot) first.rows (flat_map (λ (one : Told). one.rows) rest)
      ∙ (λ i. here.rows slot i ++ behind.rows slot i)
      ∙ ap (λ events. made_of.rows slot (histories slot) (brings slot (histories slot) now)
      ++ made_of.rows slot events (brought slot (with_line slot (histories slot) now) made))
      (sym (with_brings slot (histories slot) now))
      ∙ sym (rows-append slot (histories slot) (brings slot (histories slot) now)
      (brought slot (with_line slot (histories slot) now) made));
}

pub record LinesGo (done lines : List Line) (old : Gateway) (latest : ℕ) (histories : Histories) : Type 0 where
  pub told : List Told
  pub next : Gateway
  pub answers : AnswersLines slices lines old told next
  pub tell : TellAll told (length done + 1) histories (meant_from slices done lines)
  pub stands : Stands next (done ++ lines) (latest_in latest lines)
      (behind_lines histories (meant_from slices done lines))

pub lines_go : (done lines : List Line) (old : Gateway) (latest : ℕ) (histories : Histories)
    → Stands old done latest histories → InOrder (length done + 1) latest lines
    → length done + length lines < 2 ^ 40 → LinesGo done lines old latest histories
lines_go done [] old latest histories holds in_order few = record {
  told = [];
  next = old;
  answers = refl;
  tell = record { entries = refl; effects = λ slot. refl; rows = λ slot. sym (no_rows slot (histories slot)) };
  stands = subst (λ all. Stands old all latest histories) (sym (append-nil done)) holds;
}
lines_go done (line ∷ lines) old latest histories holds in_order few =
    let first = next_goes done line old latest histories holds in_order.0 (omega (arith, few)) in
    let more : length (done ++ line ∷ []) ≡ length done + 1 = length-append done (line ∷ []) in
    let now = meant_next slices done line in
    let rest = lines_go (done ++ line ∷ []) lines first.next line.moment (behind_line histories now) first.stands
    (subst (λ n. InOrder (n + 1) line.moment lines) (sym more) in_order.1) (omega (arith, few, more)) in
    record {
      told = first.told ∷ rest.told;
      next = rest.next;
      answers = (first.next, first.answers, rest.answers);
      tell = told_then first.told rest.told (length done + 1) histories now
          (meant_from slices (done ++ line ∷ []) lines) first.tells
          (subst (λ n. TellAll rest.told (n + 1) (behind_line histories now)
          (meant_from slices (done ++ line ∷ []) lines)) more rest.tell);
      stands = subst (λ all. Stands rest.next all (latest_in line.moment lines)
          (behind_lines (behind_line histories now) (meant_from slices (done ++ line ∷ []) lines)))
          (append_assoc done (line ∷ []) lines) rest.stands;
    }

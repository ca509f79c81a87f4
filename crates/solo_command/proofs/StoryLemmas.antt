-- What a gateway represents, behind one line more.
use Rattle.std.proofs.Common.{◌≡◌, ◌≢◌, ℕ, ◌+◌, ◌<◌, ◌≤◌, ◌==◌, Bool, true, false, if◌then◌else◌, Option, Some, None, IfSome, List, [], ◌∷◌, ◌++◌, length, map, set, get_or, length-set, refl, sym, ap, subst, ◌∙◌, inl, inr, arith, append-nil, length-append}
use Rattle.std.proofs.lemmas.Bool.{cases_eq, eqb-true, eq-eqb, ne_eqb}
use Rattle.control_steps.specs.declared.command.CommandKind.{CommandKind}
use Rattle.demux.specs.declared.packet.LentPacket.{LentPacket}
use Rattle.demux.specs.Destinations.{start_slice}
use Rattle.demux.specs.Trace.{Meaning, command, packet, move, note}
use Rattle.charging_book.specs.Rows.{Charged}
use Rattle.gate_model.specs.SlotPast.{effects_after, records_after, records_made, reply_after, verdict_after}
use Rattle.pc_base.specs.declared.effect.Effect.{Effect}
use Rattle.pc_base.specs.declared.packet.Packet.{Packet}
use Rattle.pc_base.specs.declared.packet.Verdict.{Verdict}
use Rattle.pc_base.specs.declared.reply.Reply.{Reply}
use Rattle.report_lines.specs.declared.entry.ChargeEntry.TheVariants.{R}
use Rattle.report_lines.specs.declared.entry.Entry.TheVariants as entry
use Rattle.report_lines.specs.declared.entry.LineEntry.TheVariants as line_entry
use Rattle.lawful_run.specs.Merging.{Histories}
use Rattle.lawful_run.specs.Outcomes as made_of
use Rattle.solo_command.specs.Entries.{judged_by, text_line}
use Rattle.gate_model.specs.declared.event.Event.{Event}
use Rattle.gate_model.specs.declared.event.Event.TheVariants as event
use Rattle.gate_model.specs.Events.{commands_of, packets_of}
use Rattle.demux.specs.Packets.{numbered}
use Rattle.subscriber.specs.Standing as subscribers
use Rattle.lawful_run.specs.AnsweredRun.{brings, events_after}
use Rattle.lawful_run.proofs.EveryTrace.{with_brought}
use Rattle.lawful_run.proofs.Growing.{events_after-push}
use Rattle.solo_command.specs.declared.gathered.Gathered.{Gathered}
use Rattle.solo_command.specs.declared.solo.Solo.{Solo}
use Rattle.subscriber.specs.Standing.{Represents}
use Rattle.std.proofs.lemmas.Option.{get_or_from_slice_get}
use Rattle.solo_command.specs.Gathering.{AddsEffects, AddsRows, CausedBelow, ClosedBelow, Gathers, effects_for, rows_for}
use Rattle.solo_command.specs.Places.{HasAt}
use Rattle.solo_command.specs.Report.{slices}
use Rattle.solo_command.specs.Standing.{BringsNothing, SlotStands, Stands, Story, entry_line, events_of, with_book, with_meaning}
use Rattle.solo_command.proofs.GatherLemmas.{gathers_more, gathers_none, gathers_wider, no_rows}
use Rattle.solo_command.proofs.PlaceLemmas.{value_at, has_at_set, has_at_other, has_at_more, has_at_last, has_at_map}

-- the events of a slot behind one line more
pub events_next : (story : Story) (now : Meaning) (slot : ℕ)
    → events_of (with_meaning story now) slot ≡ events_of story slot ++ brings slot (events_of story slot) now
events_next story now slot =
    events_after-push slot (story.before slot) story.made now
    ∙ sym (with_brought slot (events_of story slot) (now ∷ []))
    ∙ ap (λ more. events_of story slot ++ more) (append-nil (brings slot (events_of story slot) now))

pub events_stay : (story : Story) (now : Meaning) (slot : ℕ) → brings slot (events_of story slot) now ≡ []
    → events_of (with_meaning story now) slot ≡ events_of story slot
events_stay story now slot none =
    events_next story now slot ∙ ap (λ more. events_of story slot ++ more) none ∙ append-nil (events_of story slot)

one_or_none : (b : Bool) (e : Event) → length (if b then e ∷ [] else []) ≤ 1
one_or_none true e = omega arith
one_or_none false e = omega arith

-- a line brings one event at most
brings_few : (slot : ℕ) (events : List Event) (now : Meaning) → length (brings slot events now) ≤ 1
brings_few slot events (note text) = omega arith
brings_few slot events (move own slice text) = omega arith
brings_few slot events (command own c) = one_or_none (own == slot) (event.Command c)
brings_few slot events (packet own p) =
    one_or_none (own == slot) (event.Packet (numbered (length (packets_of events)) p))

few_next : (story : Story) (now : Meaning) (slot : ℕ) → length (events_of story slot) ≤ story.lines
    → length (events_of (with_meaning story now) slot) ≤ story.lines + 1
few_next story now slot few =
    omega (
      arith,
      few,
      ap length (events_next story now slot),
      length-append (events_of story slot) (brings slot (events_of story slot) now),
      brings_few slot (events_of story slot) now,
    )

-- a later moment
pub later : (last : Option ℕ) (latest moment : ℕ) → latest ≤ moment → IfSome last (λ l. l ≤ latest)
    → IfSome last (λ l. l ≤ moment)
later None latest moment le before = tt
later (Some l) latest moment le before = omega (arith, le, before)

slot_later : (held : subscribers.SubscriberState) (slot bound other latest moment : ℕ) (events more : List Event)
    → more ≡ events → other ≡ bound
    → latest ≤ moment → SlotStands held slot bound latest events → SlotStands held slot other moment more
slot_later held slot bound other latest moment events more same bound_same le stands =
    subst (λ e. SlotStands held slot other moment e) (sym same) (record {
      stands = stands.stands;
      bound_for = stands.bound_for ∙ sym bound_same;
      in_order = later (subscribers.last_of held) latest moment le stands.in_order;
    })

-- a line that brings no event, while nothing else changes
pub stands_noted : (solo new : Solo) (story : Story) (now : Meaning) → Stands solo story → BringsNothing now
    → new.book ≡ solo.book → new.subscribers.items ≡ solo.subscribers.items
    → new.gathered ≡ solo.gathered
    → Stands new (with_meaning story now)
stands_noted solo new story now stands nothing book same gathered = record {
  same_book = book ∙ stands.same_book;
  places = ap length same ∙ stands.places;
  each = λ slot within.
      rw (same, events_stay story now slot (nothing slot (events_of story slot))) (stands.each slot within);
  none_beyond = λ slot beyond. events_stay story now slot (nothing slot (events_of story slot))
      ∙ stands.none_beyond slot beyond;
  at_home = stands.at_home;
  few = λ slot. few_next story now slot (stands.few slot);
  gathered = rw gathered (gathers_none solo.gathered (length story.book) story.before story.made now
      stands.gathered (λ slot. nothing slot (events_of story slot)));
}

-- the subscriber of one slot was set to one that represents what the line brought it
pub stands_next : (solo new : Solo) (story : Story) (now : Meaning) (bound : ℕ
    → ℕ) (latest own place : ℕ) (held : subscribers.SubscriberState)
    → Stands solo story → own < length story.book → place ≡ own
    → new.book ≡ solo.book → new.subscribers.items ≡ set solo.subscribers.items place held
    → SlotStands held own (bound own) latest (events_of (with_meaning story now) own)
    → ((slot : ℕ) → slot ≢ own → bound slot ≡ story.bound slot)
    → ((slot : ℕ) → slot ≢ own → brings slot (events_of story slot) now ≡ [])
    → story.latest ≤ latest
    → Gathers new.gathered (length story.book) story.before (story.made ++ now ∷ [])
    → Stands new (record (with_meaning story now) { bound = bound; latest = latest })
stands_next solo new story now bound latest own place held stands within at book written holds bound_other
    other_none le gathers =
    let items : new.subscribers.items ≡ set solo.subscribers.items own held =
    written ∙ ap (λ k. set solo.subscribers.items k held) at in
    record {
      same_book = book ∙ stands.same_book;
      places = ap length items ∙ length-set solo.subscribers.items own held ∙ stands.places;
      each = λ slot inside.
          elim (cases_eq slot own) [
            | inl same ↦
                subst (λ s. HasAt new.subscribers.items s (λ h.
                SlotStands h s (bound s) latest (events_of (with_meaning story now) s))) (sym same)
                (rw items (has_at_set solo.subscribers.items own
                (λ h. SlotStands h own (bound own) latest (events_of (with_meaning story now) own)) held
                (omega (arith, stands.places, within)) holds))
            | inr other ↦
                rw items (has_at_map (set solo.subscribers.items own held) slot
                (λ h. SlotStands h slot (story.bound slot) story.latest (events_of story slot))
                (λ h. SlotStands h slot (bound slot) latest (events_of (with_meaning story now) slot))
                (λ h before. slot_later h slot (story.bound slot) (bound slot) story.latest latest
                (events_of story slot) (events_of (with_meaning story now) slot)
                (events_stay story now slot (other_none slot other)) (bound_other slot other) le before)
                (has_at_other solo.subscribers.items own slot
                (λ h. SlotStands h slot (story.bound slot) story.latest (events_of story slot)) held
                (omega (arith, stands.places, inside)) other (stands.each slot inside)))
          ];
      none_beyond = λ slot beyond.
          let other : slot ≢ own = λ same. absurd (omega (arith, same, beyond, within)) in
          events_stay story now slot (other_none slot other) ∙ stands.none_beyond slot beyond;
      at_home = λ slot beyond.
          let other : slot ≢ own = λ same. absurd (omega (arith, same, beyond, within)) in
          bound_other slot other ∙ stands.at_home slot beyond;
      few = λ slot. few_next story now slot (stands.few slot);
      gathered = gathers;
    }

-- a new subscriber has the next slot
pub stands_admitted : (solo new : Solo) (story : Story) (imsi : List ℕ) (own : ℕ)
    (held : subscribers.SubscriberState) → Stands solo story
    → new.book ≡ story.book ++ imsi ∷ [] → own ≡ length story.book
    → new.subscribers.items ≡ solo.subscribers.items ++ held ∷ [] → new.gathered ≡ solo.gathered
    → subscribers.StandsFor held own [] 0 → held.destination ≡ start_slice slices own → subscribers.last_of held ≡ None
    → Stands new (with_book story (story.book ++ imsi ∷ []))
stands_admitted solo new story imsi own held stands book last added gathered holds bound none =
    let more : length (story.book ++ imsi ∷ []) ≡ length story.book + 1 = length-append story.book (imsi ∷ []) in
    let new_holds : SlotStands held own (story.bound own) story.latest [] = record {
      stands = holds;
      bound_for = bound ∙ sym (stands.at_home own (omega (arith, last)));
      in_order = subst (λ l. IfSome l (λ x. x ≤ story.latest)) (sym none) tt;
    } in
    record {
      same_book = book;
      places = omega (arith, ap length added, length-append solo.subscribers.items (held ∷ []), stands.places, more);
      each = λ slot within.
          elim (cases_eq slot own) [
            | inl same ↦
                subst (λ s. HasAt new.subscribers.items s (λ h.
                SlotStands h s (story.bound s) story.latest (events_of story s))) (sym same)
                (rw (stands.none_beyond own (omega (arith, last)))
                (has_at_last solo.subscribers.items new.subscribers.items held own
                (λ h. SlotStands h own (story.bound own) story.latest []) added
                (omega (arith, last, stands.places)) new_holds))
            | inr other ↦
                has_at_more solo.subscribers.items new.subscribers.items held slot
                (λ h. SlotStands h slot (story.bound slot) story.latest (events_of story slot)) added
                (stands.each slot (omega (arith, within, more, last, λ (is : slot ≡ own). other is)))
          ];
      none_beyond = λ slot beyond. stands.none_beyond slot (omega (arith, beyond, more));
      at_home = λ slot beyond. stands.at_home slot (omega (arith, beyond, more));
      few = stands.few;
      gathered = rw gathered (gathers_wider solo.gathered (length story.book)
          (length (story.book ++ imsi ∷ [])) story.before story.made (omega (arith, more)) stands.gathered);
    }

-- the subscriber that is found at a slot's place
pub held_at : (solo : Solo) (story : Story) (own place : ℕ) (held : subscribers.SubscriberState)
    → Stands solo story → own < length story.book → place ≡ own
    → held ≡ get_or solo.subscribers.items place held
    → SlotStands held own (story.bound own) story.latest (events_of story own)
held_at solo story own place held stands within at is =
    value_at solo.subscribers.items own place (λ h. SlotStands h own (story.bound own) story.latest
    (events_of story own)) held (stands.each own within) at is

-- each subscriber represents its slot's events
pub stands_each : (solo : Solo) (story : Story) → Stands solo story → (slot : ℕ) (none : subscribers.SubscriberState)
    → slot < length solo.subscribers.items
    → Represents (get_or solo.subscribers.items slot none) slot (events_of story slot)
stands_each solo story stands slot none within =
    let has = stands.each slot (omega (arith, within, stands.places)) in
    subst (λ held. Represents held slot (events_of story slot))
    (sym (get_or_from_slice_get solo.subscribers.items slot has.value none has.found)) has.holds.stands

-- a command and a packet are events of their own slot alone
pub command_own : (own : ℕ) (events : List Event) (c : CommandKind)
    → brings own events (command own c) ≡ event.Command c ∷ []
command_own own events c = ap (λ test. if test then event.Command c ∷ [] else []) (eq-eqb own own refl)

pub command_other : (own slot : ℕ) (events : List Event) (c : CommandKind) → slot ≢ own
    → brings slot events (command own c) ≡ []
command_other own slot events c other =
    ap (λ test. if test then event.Command c ∷ [] else []) (ne_eqb own slot (λ same. other (sym same)))

pub packet_own : (own : ℕ) (events : List Event) (p : LentPacket)
    → brings own events (packet own p) ≡ event.Packet (numbered (length (packets_of events)) p) ∷ []
packet_own own events p = ap (λ test. if test then event.Packet (numbered (length (packets_of events)) p) ∷ []
    else []) (eq-eqb own own refl)

pub packet_other : (own slot : ℕ) (events : List Event) (p : LentPacket) → slot ≢ own
    → brings slot events (packet own p) ≡ []
packet_other own slot events p other =
    ap (λ test. if test then event.Packet (numbered (length (packets_of events)) p) ∷ []
    else []) (ne_eqb own slot (λ same. other (sym same)))

-- the entries of a command and of a packet
pub told_command : (story : Story) (own : ℕ) (c : CommandKind) (line number : ℕ) (reply : Reply)
    → line ≡ story.lines + 1
    → number ≡ length (commands_of (events_of story own)) → reply ≡ reply_after own (events_of story own) c
    → text_line (entry.Line (line_entry.C (record { line = line; slot = own; number = number; reply = reply })))
    ≡ entry_line story (command own c)
told_command story own c line number reply line_is number_is reply_is =
    λ i. text_line (entry.Line (line_entry.C (record {
      line = line_is i;
      slot = own;
      number = number_is i;
      reply = reply_is i;
    })))

pub told_packet : (story : Story) (own : ℕ) (p : LentPacket) (line number commands : ℕ) (verdict : Verdict)
    → line ≡ story.lines + 1
    → number ≡ length (packets_of (events_of story own)) → commands ≡ length (commands_of (events_of story own))
    → verdict ≡ verdict_after own (events_of story own) (numbered (length (packets_of (events_of story own))) p)
    → text_line (entry.Line (line_entry.P (judged_by line own number commands verdict)))
    ≡ entry_line story (packet own p)
told_packet story own p line number commands verdict line_is number_is commands_is verdict_is =
    λ i. text_line (entry.Line (line_entry.P (judged_by (line_is i) own (number_is i) (commands_is i) (verdict_is i))))

pub told_note : (story : Story) (text other : List ℕ) (line : ℕ) → line ≡ story.lines + 1 → text ≡ other
    → text_line (entry.Line (line_entry.N (record { line = line; note = text }))) ≡ entry_line story (note other)
told_note story text other line line_is text_is =
    λ i. text_line (entry.Line (line_entry.N (record { line = line_is i; note = text_is i })))

-- what a command's event does to its slot, and what was gathered of it
pub command_holds : (story : Story) (own : ℕ) (c : CommandKind) (old new : subscribers.SubscriberState)
    (bound latest : ℕ)
    → subscribers.StandsFor new own (events_of story own ++ event.Command c ∷ [])
    (length (records_after own (events_of story own ++ event.Command c ∷ [])))
    → new.destination ≡ bound → IfSome (subscribers.last_of new) (λ last. last ≤ latest)
    → SlotStands new own bound latest (events_of (with_meaning story (command own c)) own)
command_holds story own c old new bound latest stands bound_is last =
    let same : events_of (with_meaning story (command own c)) own ≡ events_of story own ++ event.Command c ∷ [] =
    events_next story (command own c) own ∙ ap (λ more. events_of story own ++ more)
    (command_own own (events_of story own) c) in
    subst (λ e. SlotStands new own bound latest e) (sym same)
    (record { stands = stands; bound_for = bound_is; in_order = last })

pub packet_holds : (story : Story) (own : ℕ) (p : LentPacket) (e : Event) (new : subscribers.SubscriberState)
    (bound latest : ℕ)
    → e ≡ event.Packet (numbered (length (packets_of (events_of story own))) p)
    → subscribers.StandsFor new own (events_of story own ++ e ∷ [])
    (length (records_after own (events_of story own ++ e ∷ [])))
    → new.destination ≡ bound → IfSome (subscribers.last_of new) (λ last. last ≤ latest)
    → SlotStands new own bound latest (events_of (with_meaning story (packet own p)) own)
packet_holds story own p e new bound latest is stands bound_is last =
    let same : events_of (with_meaning story (packet own p)) own ≡ events_of story own ++ e ∷ [] =
    events_next story (packet own p) own ∙ ap (λ more. events_of story own ++ more)
    (packet_own own (events_of story own) p ∙ ap (λ x. x ∷ []) (sym is)) in
    subst (λ events. SlotStands new own bound latest events) (sym same)
    (record { stands = stands; bound_for = bound_is; in_order = last })

-- what is gathered of one event of a slot
by_own : {X : Type 0} (own slot : ℕ) (has : ℕ → List Event → List X) (e : ℕ → Event) (told : List X)
    → ((s : ℕ) → has s [] ≡ [])
    → has own (e own ∷ []) ≡ told → (b : Bool) → (own == slot) ≡ b
    → has slot (if b then e slot ∷ [] else []) ≡ (if b then told else [])
by_own own slot has e told none is true test = subst (λ s. has s (e s ∷ []) ≡ told) (eqb-true own slot test) is
by_own own slot has e told none is false test = none slot

pub gathers_command : (old mid new : Gathered) (slots : ℕ) (before : Histories) (made : List Meaning)
    (own number : ℕ) (c : CommandKind)
    (effects : List Effect) (rows : List Charged) → Gathers old slots before made → own < slots
    → number ≡ length (commands_of (events_after own (before own) made))
    → effects ≡ effects_after own (events_after own (before own) made) c
    → rows ≡ records_made own (events_after own (before own) made) (event.Command c ∷ [])
    → AddsEffects old mid own (map (made_of.effect_entry own number) effects) → AddsRows mid new own (map (R own) rows)
    → Gathers new slots before (made ++ command own c ∷ [])
gathers_command old mid new slots before made own number c effects rows gathers within number_is effects_is
    rows_are adds more =
    let events : ℕ → List Event = λ slot. events_after slot (before slot) made in
    let same : map (made_of.effect_entry own number) effects
    ≡ map (made_of.effect_entry own (length (commands_of (events own)))) (effects_after own (events own) c) =
    λ i. map (made_of.effect_entry own (number_is i)) (effects_is i) in
    gathers_more old new slots before made (command own c) gathers
    (λ below. subst (CausedBelow slots) (sym more.same) (adds.below slots within below))
    (λ below. more.below slots within (subst (ClosedBelow slots) (sym adds.same) below))
    (λ slot. ap (effects_for slot) more.same ∙ adds.effects slot
    ∙ ap (λ told. effects_for slot old.effects.items ++ told)
    (sym (by_own own slot (λ s. made_of.effects s (events s)) (λ s. event.Command c)
    (map (made_of.effect_entry own number) effects) (λ s. refl)
    (append-nil (map (made_of.effect_entry own (length (commands_of (events own)))) (effects_after own (events own) c))
    ∙ sym same) (own == slot) refl)))
    (λ slot. more.rows slot ∙ ap (λ items. rows_for slot items
    ++ (if own == slot then map (R own) rows else [])) adds.same
    ∙ ap (λ told. rows_for slot old.rows.items ++ told)
    (sym (by_own own slot (λ s. made_of.rows s (events s)) (λ s. event.Command c) (map (R own) rows)
    (λ s. no_rows s (events s))
    (ap (map (R own)) (sym rows_are)) (own == slot) refl)))

pub gathers_packet : (old new : Gathered) (slots : ℕ) (before : Histories) (made : List Meaning) (own : ℕ)
    (p : LentPacket) (e : Event)
    (rows : List Charged) → Gathers old slots before made → own < slots
    → e ≡ event.Packet (numbered (length (packets_of (events_after own (before own) made))) p)
    → rows ≡ records_made own (events_after own (before own) made) (e ∷ [])
    → AddsRows old new own (map (R own) rows) → Gathers new slots before (made ++ packet own p ∷ [])
gathers_packet old new slots before made own p e rows gathers within is rows_are more =
    let events : ℕ → List Event = λ slot. events_after slot (before slot) made in
    let each : ℕ → Event = λ slot. event.Packet (numbered (length (packets_of (events slot))) p) in
    gathers_more old new slots before made (packet own p) gathers
    (λ below. subst (CausedBelow slots) (sym more.same) below)
    (λ below. more.below slots within below)
    (λ slot. ap (effects_for slot) more.same ∙ sym (append-nil (effects_for slot old.effects.items))
    ∙ ap (λ told. effects_for slot old.effects.items ++ told)
    (sym (no_effects slot (events slot) (numbered (length (packets_of (events slot))) p) (own == slot))))
    (λ slot. more.rows slot
    ∙ ap (λ told. rows_for slot old.rows.items ++ told)
    (sym (by_own own slot (λ s. made_of.rows s (events s)) each (map (R own) rows) (λ s. no_rows s (events s))
    (ap (λ x. made_of.rows own (events own) (x ∷ [])) (sym is) ∙ ap (map (R own)) (sym rows_are)) (own == slot) refl)))
  where
    no_effects : (slot : ℕ) (events : List Event) (q : Packet) (b : Bool)
        → made_of.effects slot events (if b then event.Packet q ∷ [] else []) ≡ []
    no_effects slot events q true = refl
    no_effects slot events q false = refl

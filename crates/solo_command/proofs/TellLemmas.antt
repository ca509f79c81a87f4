-- What a line tells, by what the gateway holds.
use Rattle.std.proofs.Common.{◌≡◌, ℕ, ◌+◌, ◌<◌, ◌≤◌, ◌==◌, Bool, true, false, if◌then◌else◌, Some, IfSome, List, [], ◌∷◌, ◌++◌, length, map, set, slice_get, get_or, refl, sym, ap, subst, ◌∙◌, arith, append-nil, length-append}
use Rattle.std.specs.List.{flat_map, filter}
use Rattle.std.proofs.lemmas.Grind.{flat_map-append}
use Rattle.std.proofs.lemmas.List.Elements.{All-weaker, filter-append}
use Rattle.std.proofs.lemmas.Option.{slice_get-get_or}
use Rattle.control_steps.specs.declared.command.CommandKind.{CommandKind}
use Rattle.demux.specs.declared.decision.Decision.{Decision}
use Rattle.demux.specs.declared.decision.Decision.TheVariants as decision
use Rattle.demux.specs.declared.decision.Whose.TheVariants.{Known, New}
use Rattle.demux.specs.declared.packet.LentPacket.{LentPacket}
use Rattle.demux.specs.Packets.{numbered}
use Rattle.demux.specs.Texts.{move_note}
use Rattle.pc_base.specs.declared.effect.Effect.{Effect}
use Rattle.pc_base.specs.declared.packet.Verdict.{Verdict}
use Rattle.pc_base.specs.declared.reply.Reply.{Reply}
use Rattle.charging_book.specs.Rows.{Charged}
use Rattle.report_lines.specs.Records.{Effected}
use Rattle.report_lines.specs.declared.entry.ChargeEntry.TheVariants.{R}
use Rattle.report_lines.specs.declared.entry.Entry.TheVariants as entry
use Rattle.report_lines.specs.declared.entry.LineEntry.{LineEntry}
use Rattle.subscriber.specs.Standing.{HasRoom, SubscriberState, last_of}
use Rattle.lawful_run.specs.Outcomes.{effect_entry}
use Rattle.lawful_run.specs.Run.{by_slot}
use Rattle.slot_execution.specs.declared.replayed.Caused.{Caused}
use Rattle.slot_execution.specs.declared.replayed.Closed.{Closed}
use Rattle.solo_command.specs.Answering.{Answers, Judges}
use Rattle.solo_command.specs.Gateway.{Gateway, Told, admitting, answered, judged, noted}
use Rattle.solo_command.specs.Reports.{is_of}
use Rattle.solo_command.specs.declared.gathered.Gathered.{Gathered}
use Rattle.solo_command.specs.declared.solo.Solo.{Solo}
use Rattle.solo_command.specs.Entries.{text_line}
use Rattle.solo_command.specs.Gathering.{AddsEffects, AddsRows, CausedBelow, ClosedBelow, IsEmpty, charges_text, effects_for, effects_text, rows_for}
use Rattle.solo_command.specs.Holding.{Holds, Tells, Waits, gateway_of, told_closing}
use Rattle.solo_command.specs.Holding as holding
use Rattle.solo_command.specs.Report.{slices}
use Rattle.solo_command.proofs.HoldLemmas.{admitted_holds, at_slot, has_room}
use Rattle.solo_command.proofs.StoryLemmas.{later}

-- entries that are all of one slot
pub filter_all : {X Y : Type 0} (f : X → Y) (test : Y → Bool) (b : Bool) → ((x : X) → test (f x) ≡ b) → (xs : List X)
    → filter test (map f xs) ≡ (if b then map f xs else [])
filter_all f test true every [] = refl
filter_all f test false every [] = refl
filter_all f test true every (x ∷ xs) =
    ap (λ t. if t then f x ∷ filter test (map f xs) else filter test (map f xs)) (every x)
    ∙ ap (λ rest. f x ∷ rest) (filter_all f test true every xs)
filter_all f test false every (x ∷ xs) =
    ap (λ t. if t then f x ∷ filter test (map f xs) else filter test (map f xs)) (every x)
    ∙ filter_all f test false every xs

joined : {X : Type 0} (part : Told → List X) (test : X → Bool) (open_ : List Told) (told : Told)
    → filter test (flat_map part open_) ++ filter test (part told)
    ≡ filter test (flat_map part (open_ ++ told ∷ []))
joined part test open_ told =
    sym (filter-append test (flat_map part open_) (part told))
    ∙ ap (filter test) (ap (λ last. flat_map part open_ ++ last) (sym (append-nil (part told)))
    ∙ sym (flat_map-append part open_ (told ∷ [])))

-- what waits behind one line more
waits_more : (old new : Gathered) (slots : ℕ) (open_ : List Told) (told : Told) → Waits old slots open_
    → ((slot : ℕ) → effects_for slot new.effects.items ≡ effects_for slot old.effects.items
    ++ filter (λ (effected : Effected). effected.slot == slot) told.effects)
    → ((slot : ℕ) → rows_for slot new.rows.items ≡ rows_for slot old.rows.items ++ filter (is_of slot) told.rows)
    → CausedBelow slots new.effects.items → ClosedBelow slots new.rows.items
    → Waits new slots (open_ ++ told ∷ [])
waits_more old new slots open_ told waits effects rows caused closed = record {
  effects = λ slot. effects slot
      ∙ ap (λ prefix. prefix ++ filter (λ (effected : Effected). effected.slot == slot) told.effects)
      (waits.effects slot)
      ∙ joined (λ (one : Told). one.effects) (λ (effected : Effected). effected.slot == slot) open_ told;
  rows = λ slot. rows slot ∙ ap (λ prefix. prefix ++ filter (is_of slot) told.rows) (waits.rows slot)
      ∙ joined (λ (one : Told). one.rows) (is_of slot) open_ told;
  effects_below = caused;
  rows_below = closed;
}

waits_command : (old mid new : Gathered) (slots own number : ℕ) (line : LineEntry) (effects : List Effect)
    (rows : List Charged) (open_ : List Told) → Waits old slots open_ → own < slots
    → AddsEffects old mid own (map (effect_entry own number) effects) → AddsRows mid new own (map (R own) rows)
    → Waits new slots (open_ ++ record {
      entry = line;
      effects = map (effect_entry own number) effects;
      rows = map (R own) rows;
    } ∷ [])
waits_command old mid new slots own number line effects rows open_ waits within adds more =
    waits_more old new slots open_ _ waits
    (λ slot. ap (effects_for slot) more.same ∙ adds.effects slot
    ∙ ap (λ told. effects_for slot old.effects.items ++ told)
    (sym (filter_all (effect_entry own number) (λ (effected : Effected). effected.slot == slot) (own == slot)
    (λ e. refl) effects)))
    (λ slot. more.rows slot
    ∙ ap (λ items. rows_for slot items ++ (if own == slot then map (R own) rows else [])) adds.same
    ∙ ap (λ told. rows_for slot old.rows.items ++ told)
    (sym (filter_all (R own) (is_of slot) (own == slot) (λ r. refl) rows)))
    (subst (CausedBelow slots) (sym more.same) (adds.below slots within waits.effects_below))
    (more.below slots within (subst (ClosedBelow slots) (sym adds.same) waits.rows_below))

waits_packet : (old new : Gathered) (slots own : ℕ) (line : LineEntry) (rows : List Charged) (open_ : List Told)
    → Waits old slots open_ → own < slots → AddsRows old new own (map (R own) rows)
    → Waits new slots (open_ ++ record { entry = line; effects = []; rows = map (R own) rows } ∷ [])
waits_packet old new slots own line rows open_ waits within more =
    waits_more old new slots open_ _ waits
    (λ slot. ap (effects_for slot) more.same ∙ sym (append-nil (effects_for slot old.effects.items)))
    (λ slot. more.rows slot ∙ ap (λ told. rows_for slot old.rows.items ++ told)
    (sym (filter_all (R own) (is_of slot) (own == slot) (λ r. refl) rows)))
    (subst (CausedBelow slots) (sym more.same) waits.effects_below)
    (more.below slots within waits.rows_below)

waits_note : (gathered : Gathered) (slots : ℕ) (line : LineEntry) (open_ : List Told) → Waits gathered slots open_
    → Waits gathered slots (open_ ++ record { entry = line; effects = []; rows = [] } ∷ [])
waits_note gathered slots line open_ waits =
    waits_more gathered gathered slots open_ _ waits
    (λ slot. sym (append-nil (effects_for slot gathered.effects.items)))
    (λ slot. sym (append-nil (rows_for slot gathered.rows.items))) waits.effects_below waits.rows_below

waits_wider : (gathered : Gathered) (slots more : ℕ) (open_ : List Told) → slots ≤ more → Waits gathered slots open_
    → Waits gathered more open_
waits_wider gathered slots more open_ wider waits = record {
  effects = waits.effects;
  rows = waits.rows;
  effects_below = All-weaker (λ (caused : Caused). caused.slot < slots) (λ caused. caused.slot < more)
      (λ caused below. omega (arith, below, wider)) gathered.effects.items waits.effects_below;
  rows_below = All-weaker (λ (closed : Closed). closed.slot < slots) (λ closed. closed.slot < more)
      (λ closed below. omega (arith, below, wider)) gathered.rows.items waits.rows_below;
}

pub waits_nothing : (gathered : Gathered) (slots : ℕ) → IsEmpty gathered → Waits gathered slots []
waits_nothing gathered slots empty = record {
  effects = λ slot. ap (effects_for slot) empty.0;
  rows = λ slot. ap (rows_for slot) empty.1;
  effects_below = subst (λ items. CausedBelow slots items) (sym empty.0)
      (λ k d within. absurd (omega (arith, within)));
  rows_below = subst (λ items. ClosedBelow slots items) (sym empty.1)
      (λ k d within. absurd (omega (arith, within)));
}

-- what is told of it at the end of an epoch
pub ends_told : (gathered : Gathered) (slots : ℕ) (open_ : List Told) → Waits gathered slots open_
    → effects_text (by_slot slots (λ slot. effects_for slot gathered.effects.items))
    ++ charges_text (by_slot slots (λ slot. rows_for slot gathered.rows.items))
    ≡ told_closing slots open_
ends_told gathered slots open_ waits =
    λ i. effects_text (by_slot slots (λ slot. waits.effects slot i))
    ++ charges_text (by_slot slots (λ slot. waits.rows slot i))

-- the subscriber at a slot's place
pub found_at : (items : List SubscriberState) (slot place : ℕ) (one : SubscriberState) → slot < length items
    → place ≡ slot → one ≡ get_or items place one → slice_get items slot ≡ Some one
found_at items slot place one within at is =
    slice_get-get_or items slot one within
    ∙ ap (λ r. Some r) (ap (λ k. get_or items k one) (sym at) ∙ sym is)

-- its counts may rise, and none of its packets came later
pub room_at : (solo : Solo) (slot place : ℕ) (one : SubscriberState) → holding.HasRoom solo
    → slot < length solo.book → place ≡ slot → one ≡ get_or solo.subscribers.items place one → HasRoom one
room_at solo slot place one room within at is =
    let inside : slot < length solo.subscribers.items = omega (arith, within, room.holds.places) in
    has_room room.lines room.latest (0 + slot) one
    (at_slot room.lines room.latest 0 slot solo.subscribers.items one room.holds.each
    (found_at solo.subscribers.items slot place one inside at is)) room.few

pub late_at : (solo : Solo) (slot place moment : ℕ) (one : SubscriberState) → holding.IsLate solo moment
    → slot < length solo.book → place ≡ slot → one ≡ get_or solo.subscribers.items place one
    → IfSome (last_of one) (λ last. last ≤ moment)
late_at solo slot place moment one late within at is =
    let inside : slot < length solo.subscribers.items = omega (arith, within, late.holds.places) in
    later (last_of one) late.latest moment late.late
    (at_slot late.lines late.latest 0 slot solo.subscribers.items one late.holds.each
    (found_at solo.subscribers.items slot place one inside at is)).in_order

-- a packet is told
pub tells_packet : (old new : Solo) (number slot place : ℕ) (packet : LentPacket) (one next : SubscriberState)
    (verdict : Verdict) (rows : List Charged) (text written : List ℕ)
    → length old.subscribers.items ≡ length old.book → slot < length old.book → place ≡ slot
    → one ≡ get_or old.subscribers.items place one
    → Judges one (numbered one.packets packet) verdict rows next
    → new.book ≡ old.book → new.subscribers.items ≡ set old.subscribers.items place next
    → AddsRows old.gathered new.gathered slot (map (R slot) rows)
    → written ≡ text ++ text_line (entry.Line (judged number slot one verdict rows).entry)
    → Tells number (decision.Packet slot packet) old new text written
tells_packet old new number slot place packet one next verdict rows text written places within at is judges book put
    adds says = record {
      told = judged number slot one verdict rows;
      answers = (
        book,
        record {
          one = one;
          found = found_at old.subscribers.items slot place one (omega (arith, within, places)) at is;
          verdict = verdict;
          rows = rows;
          next = next;
          judges = judges;
          told_is = refl;
          put = put ∙ ap (λ k. set old.subscribers.items k next) at;
        },
      );
      written = says;
      waits = λ open_ waits. subst (λ n. Waits new.gathered n (open_ ++ judged number slot one verdict rows ∷ []))
          (ap length (sym book))
          (waits_packet old.gathered new.gathered (length old.book) slot _ rows open_ waits within adds);
    }

-- a command of a slot of the book
pub tells_command : (old new : Solo) (mid : Gathered) (number slot place : ℕ) (command : CommandKind)
    (one next : SubscriberState) (reply : Reply) (effects : List Effect) (rows : List Charged) (text written : List ℕ)
    → length old.subscribers.items ≡ length old.book → slot < length old.book → place ≡ slot
    → one ≡ get_or old.subscribers.items place one
    → Answers one command reply effects rows next
    → new.book ≡ old.book → new.subscribers.items ≡ set old.subscribers.items place next
    → AddsEffects old.gathered mid slot (map (effect_entry slot one.version.number) effects)
    → AddsRows mid new.gathered slot (map (R slot) rows)
    → written ≡ text ++ text_line (entry.Line (answered number slot one reply effects rows).entry)
    → Tells number (decision.Command (Known slot) command) old new text written
tells_command old new mid number slot place command one next reply effects rows text written places within at is
    answers book put adds more says = record {
      told = answered number slot one reply effects rows;
      answers = (
        book,
        record {
          one = one;
          found = found_at old.subscribers.items slot place one (omega (arith, within, places)) at is;
          reply = reply;
          effects = effects;
          rows = rows;
          next = next;
          answers = answers;
          told_is = refl;
          put = put ∙ ap (λ k. set old.subscribers.items k next) at;
        },
      );
      written = says;
      waits = λ open_ waits. subst (λ n. Waits new.gathered n (open_ ++ answered number slot one reply effects rows ∷ []))
          (ap length (sym book))
          (waits_command old.gathered mid new.gathered (length old.book) slot one.version.number _ effects rows open_
          waits within adds more);
    }

-- a new subscriber has room too
pub room_admitted : (old mid : Solo) (imsi : List ℕ) → holding.HasRoom old
    → gateway_of mid ≡ admitting slices (New imsi) (gateway_of old) → holding.HasRoom mid
room_admitted old mid imsi room admits = record {
  lines = room.lines;
  latest = room.latest;
  holds = subst (Holds room.lines room.latest) (sym admits)
      (admitted_holds slices room.lines room.latest (New imsi) (gateway_of old) room.holds);
  few = room.few;
}

-- or of a new IMSI
pub tells_admitted : (old mid new : Solo) (number slot : ℕ) (imsi : List ℕ) (command : CommandKind)
    (text written : List ℕ) → gateway_of mid ≡ admitting slices (New imsi) (gateway_of old)
    → slot ≡ length old.book → mid.gathered ≡ old.gathered
    → Tells number (decision.Command (Known slot) command) mid new text written
    → Tells number (decision.Command (New imsi) command) old new text written
tells_admitted old mid new number slot imsi command text written admits next same tells =
    let did = tells.answers.1 in
    let book : mid.book ≡ old.book ++ imsi ∷ [] = ap (λ (g : Gateway). g.book) admits in
    let items = ap (λ (g : Gateway). g.subscribers) admits in
    let wider : length old.book ≤ length mid.book =
    omega (arith, ap length book, length-append old.book (imsi ∷ [])) in
    record {
      told = tells.told;
      answers = (
        tells.answers.0 ∙ book,
        record {
          one = did.one;
          found = subst (λ k. slice_get (admitting slices (New imsi) (gateway_of old)).subscribers k ≡ Some did.one)
              next (subst (λ (xs : List SubscriberState). slice_get xs slot ≡ Some did.one) items did.found);
          reply = did.reply;
          effects = did.effects;
          rows = did.rows;
          next = did.next;
          answers = did.answers;
          told_is = did.told_is
              ∙ ap (λ k. answered number k did.one did.reply did.effects did.rows) next;
          put = did.put ∙ ap (λ (xs : List SubscriberState). set xs slot did.next) items
              ∙ ap (λ k. set (admitting slices (New imsi) (gateway_of old)).subscribers k did.next) next;
        },
      );
      written = tells.written;
      waits = λ open_ waits. tells.waits open_ (subst (λ g. Waits g (length mid.book) open_) (sym same)
          (waits_wider old.gathered (length old.book) (length mid.book) open_ wider waits));
    }

-- a subscriber is bound for a slice
pub tells_move : (old new : Solo) (number slot place slice : ℕ) (one next : SubscriberState) (text written : List ℕ)
    → length old.subscribers.items ≡ length old.book → slot < length old.book → place ≡ slot
    → one ≡ get_or old.subscribers.items place one → next ≡ record one { destination = slice }
    → new.book ≡ old.book → new.subscribers.items ≡ set old.subscribers.items place next
    → new.gathered ≡ old.gathered
    → written ≡ text ++ text_line (entry.Line (noted number (move_note one.destination slot slice)).entry)
    → Tells number (decision.Move slot slice) old new text written
tells_move old new number slot place slice one next text written places within at is bound book put same says =
    record {
      told = noted number (move_note one.destination slot slice);
      answers = (
        book,
        record {
          one = one;
          found = found_at old.subscribers.items slot place one (omega (arith, within, places)) at is;
          told_is = refl;
          put = put ∙ (λ i. set old.subscribers.items (at i) (bound i));
        },
      );
      written = says;
      waits = λ open_ waits.
          let told = noted number (move_note one.destination slot slice) in
          subst (λ n. Waits new.gathered n (open_ ++ told ∷ [])) (ap length (sym book))
          (subst (λ (g : Gathered). Waits g (length old.book) (open_ ++ told ∷ [])) (sym same)
          (waits_note old.gathered (length old.book) told.entry open_ waits));
    }

-- a note
pub tells_note : (solo : Solo) (number : ℕ) (note text written : List ℕ)
    → written ≡ text ++ text_line (entry.Line (noted number note).entry)
    → Tells number (decision.Note note) solo solo text written
tells_note solo number note text written says = record {
  told = noted number note;
  answers = (refl, refl);
  written = says;
  waits = λ open_ waits. waits_note solo.gathered (length solo.book) _ open_ waits;
}

-- the same of a line by its number and what is decided of it
pub tells_as : (number other : ℕ) (made found : Decision) (old new : Solo) (text written : List ℕ) → number ≡ other
    → made ≡ found → Tells number made old new text written → Tells other found old new text written
tells_as number other made found old new text written same is tells =
    subst (λ d. Tells other d old new text written) is
    (subst (λ n. Tells n made old new text written) same tells)

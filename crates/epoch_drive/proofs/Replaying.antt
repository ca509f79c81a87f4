-- Subscribers that do their shares, one slot after another.
use Rattle.std.proofs.Common.{◌≡◌, ◌≢◌, ℕ, zero, suc, ◌+◌, ◌<◌, List, [], ◌∷◌, ◌++◌, map, length, drop, get_or, set, get_or-set_same, get_or-set_other, length-set, refl, sym, ap, subst, ◌∙◌, inl, inr, arith, length-append, append_assoc, append-nil, flat_map}
use Rattle.std.specs.Prelude.{Result, Ok, Err, OnOk}
use Rattle.std.specs.List.{All}
use Rattle.std.proofs.lemmas.Bool.{cases_lt}
use Rattle.std.proofs.lemmas.List.{drop_all, get_or-map, get_or_append_left, get_or_at, get_or_default}
use Rattle.std.proofs.lemmas.List.Elements.{All-push}
use Rattle.gate_model.specs.SlotPast.{records_after}
use Rattle.gate_model.specs.declared.event.Event.{Event}
use Rattle.report_lines.specs.Records.{Effected}
use Rattle.report_lines.specs.declared.entry.ChargeEntry.{ChargeEntry}
use Rattle.report_lines.specs.declared.entry.ChargeEntry.TheVariants.{R}
use Rattle.lawful_run.specs.Accepted as accepted
use Rattle.lawful_run.specs.Outcomes as made_of
use Rattle.lawful_run.specs.Run.{by_slot}
use Rattle.lawful_run.specs.Telling.{counted}
use Rattle.subscriber.specs.Standing.{SubscriberState, Represents}
use Rattle.slot_execution.specs.Replaying.{AreShort, counts_in, counts_of, effects_told, events_of, latest_of, moment_of, numbers_in, packet_numbers_in}
use Rattle.slot_execution.specs.Replaying.{placed_lent, places_in, places_of, replies_in, verdicts_in}
use Rattle.slot_execution.specs.declared.placed.Placed.{Placed}
use Rattle.slot_execution.specs.declared.replayed.Replayed.{Replayed}
use Rattle.epoch_drive.specs.Replays.{AddsShare, AreShortAnswers, DoesShare, DoesWith, HasDone, HaveDone, IsTold, commands_at, commands_shared, events_shared, packets_at, packets_shared}
use Rattle.slot_execution.specs.Replaying.{rows_told}
use Rattle.epoch_drive.specs.declared.replays.SlotReplays.{SlotReplays}
use Rattle.epoch_drive.specs.declared.replays.Replays.{Replays}
use Rattle.epoch_drive.specs.declared.sharing.Share.{Share}

-- one slot more
flat_next : {X : Type 0} (has : ℕ → List X) (first n : ℕ)
    → flat_map has (counted first (suc n)) ≡ flat_map has (counted first n) ++ has (first + n)
flat_next has first zero =
    let at : first + 0 ≡ first = omega arith in
    append-nil (has first) ∙ ap has (sym at)
flat_next has first (suc n) =
    let at : first + 1 + n ≡ first + suc n = omega arith in
    ap (λ rest. has first ++ rest) (flat_next has (first + 1) n)
    ∙ sym (append_assoc (has first) (flat_map has (counted (first + 1) n)) (has (first + 1 + n)))
    ∙ ap (λ k. (has first ++ flat_map has (counted (first + 1) n)) ++ has k) at

pub by_slot-next : {X : Type 0} (has : ℕ → List X) (n : ℕ) → by_slot (n + 1) has ≡ by_slot n has ++ has n
by_slot-next has n =
    let more : n + 1 ≡ suc n = omega arith in
    let at : 0 + n ≡ n = omega arith in
    ap (λ k. flat_map has (counted 0 k)) more ∙ flat_next has 0 n ∙ ap (λ k. by_slot n has ++ has k) at

pub adds_share : {T E : Type 0} (result : Result T E) (old new : SubscriberState) (share : Share)
    (replays after : Replays) (slot : ℕ) (replayed : Replayed) → DoesShare old new share replayed
    → OnOk result (after.answers.items ≡ replays.answers.items
    ++ record { replies = replayed.replies; packets = replayed.packets } ∷ [])
    → OnOk result (effects_told after.effects.items ≡ effects_told replays.effects.items
    ++ effects_told replayed.effects.items)
    → OnOk result (rows_told after.rows.items ≡ rows_told replays.rows.items ++ map (R slot) replayed.rows.items)
    → OnOk result (AddsShare old new share replays after slot)
adds_share (Ok v) old new share replays after slot replayed does answers effects rows = record {
  replayed = replayed;
  does = does;
  adds = record { answers = answers; effects = effects; rows = rows };
}
adds_share (Err e) old new share replays after slot replayed does answers effects rows = tt

-- nothing is made of no events
pub no_rows : (slot : ℕ) (before : List Event) → made_of.rows slot before [] ≡ []
no_rows slot before =
    ap (map (R slot)) (ap (λ es. drop (length (records_after slot before)) (records_after slot es)) (append-nil before)
    ∙ drop_all (length (records_after slot before)) (records_after slot before) (omega arith))

-- a share of no commands and packets
does_nothing : (subscriber : SubscriberState) (replayed : Replayed) → replayed.replies.items ≡ []
    → replayed.packets.items ≡ [] → replayed.effects.items ≡ [] → replayed.rows.items ≡ []
    → DoesWith subscriber subscriber [] [] replayed
does_nothing subscriber replayed replies packets effects rows = record {
  led = λ slot before represents. record {
    replies = ap replies_in replies;
    verdicts = ap verdicts_in packets;
    effects = ap effects_told effects;
    numbers = ap numbers_in replies;
    packet_numbers = ap packet_numbers_in packets;
  };
  rows = λ slot before represents. ap (map (R slot)) rows ∙ sym (no_rows slot before);
  counts = ap counts_in packets;
  places = ap places_in packets;
  short = subst AreShort (sym packets) (λ k judged low. absurd (omega (arith, low)));
  represents = λ slot before represents. subst (Represents subscriber slot) (sym (append-nil before)) represents;
  last = refl;
  destination = refl;
}

pub untouched_does : (subscriber : SubscriberState) (share : Share) (replayed : Replayed)
    → share.commands.items ≡ [] → share.packets.items ≡ [] → replayed.replies.items ≡ []
    → replayed.packets.items ≡ [] → replayed.effects.items ≡ [] → replayed.rows.items ≡ []
    → DoesShare subscriber subscriber share replayed
untouched_does subscriber share replayed no_commands no_packets replies packets effects rows =
    subst (λ cs. DoesWith subscriber subscriber cs share.packets.items replayed) (sym no_commands)
    (subst (λ ps. DoesWith subscriber subscriber [] ps replayed) (sym no_packets)
    (does_nothing subscriber replayed replies packets effects rows))

pub counts_so : (packets : List Placed) → counts_of packets
    ≡ map (λ (p : accepted.Placed). p.commands) (placed_lent packets)
counts_so [] = refl
counts_so (p ∷ packets) = ap (λ rest. p.commands ∷ rest) (counts_so packets)

same_events : (shares : List Share) (share : Share) (slot : ℕ) (before : List Event) → slot < length shares
    → share ≡ get_or shares slot share
    → events_of before (commands_shared share) (packets_shared share) ≡ events_shared shares slot before
same_events shares share slot before low is =
    let commands : commands_shared share ≡ commands_at shares slot =
    ap commands_shared is ∙ sym (get_or-map commands_shared shares slot share [] low) in
    let packets : packets_shared share ≡ packets_at shares slot =
    ap packets_shared is ∙ sym (get_or-map packets_shared shares slot share [] low) in
    λ i. events_of before (commands i) (packets i)

pub done_share : (old new : SubscriberState) (shares : List Share) (share : Share) (replayed : Replayed) (slot : ℕ)
    → slot < length shares → share ≡ get_or shares slot share → DoesShare old new share replayed
    → HasDone old new shares (record { replies = replayed.replies; packets = replayed.packets }) slot
done_share old new shares share replayed slot low is does =
    let packets : packets_shared share ≡ packets_at shares slot =
    ap packets_shared is ∙ sym (get_or-map packets_shared shares slot share [] low) in
    let events : (before : List Event)
    → events_of before (commands_shared share) (packets_shared share) ≡ events_shared shares slot before =
    λ before. same_events shares share slot before low is in
    record {
      represents = λ before represents.
          subst (λ (es : List Event). Represents new slot (before ++ es)) (events before)
          (does.represents slot before represents);
      told = λ before represents.
          let led = does.led slot before represents in
          subst (IsTold (record { replies = replayed.replies; packets = replayed.packets }) slot before) (events before)
          (record {
            replies = led.replies;
            verdicts = led.verdicts;
            numbers = led.numbers;
            packet_numbers = led.packet_numbers;
          });
      counts = does.counts ∙ counts_so share.packets.items ∙ ap (map (λ (p : accepted.Placed). p.commands)) packets;
      places = λ other. does.places ∙ ap (λ (s : Share). places_of s.packets.items)
          (is ∙ get_or_default shares slot share other low);
      moment = λ other. does.last ∙ ap (λ (s : Share). latest_of (moment_of old) s.packets.items)
          (is ∙ get_or_default shares slot share other low);
      destination = does.destination;
    }

pub more_done : (old now new : List SubscriberState) (shares : List Share) (replays after : Replays) (i : ℕ)
    (subscriber did : SubscriberState) (share : Share)
    → HaveDone old now shares replays i → i < length old → length shares ≡ length old
    → subscriber ≡ get_or now i subscriber → new ≡ set now i did → share ≡ get_or shares i share
    → AddsShare subscriber did share replays after i
    → HaveDone old new shares after (i + 1)
more_done old now new shares replays after i subscriber did share have low many is new_is share_is did_it =
    let replayed = did_it.replayed in
    let does = did_it.does in
    let adds = did_it.adds in
    let answer : SlotReplays = record { replies = replayed.replies; packets = replayed.packets } in
    let within : i < length now = omega (arith, low, have.many) in
    let done = done_share subscriber did shares share replayed i (omega (arith, low, many)) share_is does in
    let from : subscriber ≡ get_or old i subscriber = is ∙ have.later i subscriber (omega arith) in
    let own : (none : SubscriberState) → get_or new i none ≡ did = λ none.
    ap (λ some. get_or some i none) new_is ∙ get_or-set_same now i did none within in
    let another : (s : ℕ) (none : SubscriberState) → s ≢ i → get_or new s none ≡ get_or now s none = λ s none differ.
    ap (λ some. get_or some s none) new_is ∙ get_or-set_other now i s did none differ in
    record {
      many = ap length new_is ∙ length-set now i did ∙ have.many;
      answered = ap length adds.answers ∙ length-append replays.answers.items (answer ∷ [])
          ∙ ap (λ n. n + 1) have.answered;
      each = λ slot none no_answers below. elim (cases_lt slot i) [
        | inl less ↦
            let same : get_or after.answers.items slot no_answers ≡ get_or replays.answers.items slot no_answers =
            ap (λ xs. get_or xs slot no_answers) adds.answers
            ∙ get_or_append_left replays.answers.items (answer ∷ []) no_answers slot
            (omega (arith, less, have.answered)) in
            subst (λ a. HasDone (get_or old slot none) (get_or new slot none) shares a slot) (sym same)
            (subst (λ s. HasDone (get_or old slot none) s shares (get_or replays.answers.items slot no_answers) slot)
            (sym (another slot none (λ at. omega (arith, less, at))))
            (have.each slot none no_answers less))
        | inr most ↦
            let at : i ≡ slot = omega (arith, below, most) in
            let there : get_or after.answers.items i no_answers ≡ answer =
            ap (λ xs. get_or xs i no_answers) adds.answers
            ∙ get_or_at replays.answers.items answer [] no_answers i have.answered in
            subst (λ k. HasDone (get_or old k none) (get_or new k none) shares
            (get_or after.answers.items k no_answers) k) at
            (subst (λ a. HasDone (get_or old i none) (get_or new i none) shares a i) (sym there)
            (subst (λ s. HasDone (get_or old i none) s shares answer i) (sym (own none))
            (subst (λ s. HasDone s did shares answer i)
            (from ∙ get_or_default old i subscriber none low) done)))
      ];
      later = λ slot none past.
          another slot none (λ at. omega (arith, past, at)) ∙ have.later slot none (omega (arith, past));
      effects = λ before standing.
          let has : ℕ → List Effected = λ slot.
          made_of.effects slot (before slot) (events_shared shares slot (before slot)) in
          let represents : Represents subscriber i (before i) =
          subst (λ s. Represents s i (before i)) (sym from) (standing.each i subscriber low) in
          let led = does.led i (before i) represents in
          let events : events_of (before i) (commands_shared share) (packets_shared share)
          ≡ events_shared shares i (before i) = same_events shares share i (before i) (omega (arith, low, many)) share_is in
          adds.effects ∙ ap (λ es. es ++ effects_told replayed.effects.items) (have.effects before standing)
          ∙ ap (λ es. by_slot i has ++ es) (led.effects ∙ ap (made_of.effects i (before i)) events)
          ∙ sym (by_slot-next has i);
      rows = λ before standing.
          let has : ℕ → List ChargeEntry = λ slot.
          made_of.rows slot (before slot) (events_shared shares slot (before slot)) in
          let represents : Represents subscriber i (before i) =
          subst (λ s. Represents s i (before i)) (sym from) (standing.each i subscriber low) in
          let events : events_of (before i) (commands_shared share) (packets_shared share)
          ≡ events_shared shares i (before i) = same_events shares share i (before i) (omega (arith, low, many)) share_is in
          adds.rows ∙ ap (λ es. es ++ map (R i) replayed.rows.items) (have.rows before standing)
          ∙ ap (λ es. by_slot i has ++ es) (does.rows i (before i) represents ∙ ap (made_of.rows i (before i)) events)
          ∙ sym (by_slot-next has i);
      short = subst (All AreShortAnswers) (sym adds.answers)
          (All-push AreShortAnswers replays.answers.items answer have.short does.short);
    }

-- What subscribers hold behind a line, and what a state file says of them.
use Rattle.std.proofs.Common.{◌≡◌, ℕ, zero, suc, ◌+◌, ◌<◌, ◌≤◌, ◌^◌, Option, Some, IfSome, List, [], ◌∷◌, ◌++◌, length, set, slice_get, get_or, flat_map, length-set, length-append, refl, sym, ap, subst, ◌∙◌, arith}
use Rattle.bearer_state.specs.declared.version.ActiveBearer.{ActiveBearer}
use Rattle.bearer_state.specs.Session.{SessionState}
use Rattle.control_steps.specs.declared.command.CommandKind.{CommandKind}
use Rattle.control_steps.specs.Rise.{RiseByOne}
use Rattle.control_steps.proofs.RiseLemmas.{counts_rise}
use Rattle.control_steps.specs.Table.{controlled}
use Rattle.demux.specs.declared.decision.Decision.{Decision}
use Rattle.demux.specs.declared.decision.Decision.TheVariants as decision
use Rattle.demux.specs.declared.decision.Whose.{Whose}
use Rattle.demux.specs.declared.decision.Whose.TheVariants.{Known, New}
use Rattle.demux.specs.Destinations.{start_slice}
use Rattle.demux.specs.Packets.{numbered}
use Rattle.demux.specs.Resolved.{HasMoment, slot_of}
use Rattle.gate_model.specs.declared.event.Event.{Event}
use Rattle.gate_model.proofs.SlotLemmas.{of_command}
use Rattle.pc_base.specs.declared.effect.Effect.{Effect}
use Rattle.pc_base.specs.declared.packet.Packet.{Packet}
use Rattle.pc_base.specs.declared.packet.Verdict.{Verdict}
use Rattle.pc_base.specs.declared.reply.Reply.{Reply}
use Rattle.charging_book.specs.Rows.{Charged}
use Rattle.subscriber.specs.Standing.{HasRoom, Represents, SubscriberState, last_of, new_subscriber}
use Rattle.lawful_run.specs.Merging.{Histories}
use Rattle.lawful_run.specs.Outcomes.{opens}
use Rattle.lawful_run.specs.Telling.{counted}
use Rattle.trace_run.specs.Entries.{open_for, opens_held}
use Rattle.trace_run.proofs.OpenLemmas.{opens_are}
use Rattle.record_codec.specs.Saved.{AreSaved, FileState, IsFile, all_saved}
use Rattle.solo_command.specs.Answering.{Answers, Judges, without_rows}
use Rattle.solo_command.specs.Gateway.{AnswersAs, Gateway, Told, admitting}
use Rattle.solo_command.specs.Reports.{IsGatewayOf, opens_from, opens_of}
use Rattle.solo_command.specs.Holding.{AreWithin, Holds, IsWithin}
use Rattle.solo_command.proofs.StoryLemmas.{later}

-- a subscriber's counts may rise
pub has_room : (lines latest slot : ℕ) (one : SubscriberState) → IsWithin lines latest slot one → lines < 2 ^ 40
    → HasRoom one
has_room lines latest slot one within few = record {
  rates = omega (arith, within.rates, few);
  lives = omega (arith, within.lives, few);
  few = omega (arith, within.few, few);
}

-- one line later
more_within : (lines latest moment slot : ℕ) (one : SubscriberState) → latest ≤ moment
    → IsWithin lines latest slot one → IsWithin (lines + 1) moment slot one
more_within lines latest moment slot one late within = record {
  slot_is = within.slot_is;
  rates = omega (arith, within.rates);
  lives = omega (arith, within.lives);
  few = omega (arith, within.few);
  in_order = later (last_of one) latest moment late within.in_order;
}

all_more : (lines latest moment slot : ℕ) (items : List SubscriberState) → latest ≤ moment
    → AreWithin lines latest slot items → AreWithin (lines + 1) moment slot items
all_more lines latest moment slot [] late within = tt
all_more lines latest moment slot (one ∷ others) late within = (
  more_within lines latest moment slot one late within.0,
  all_more lines latest moment (slot + 1) others late within.1,
)

-- the subscriber of a slot
pub at_slot : (lines latest first slot : ℕ) (items : List SubscriberState) (one : SubscriberState)
    → AreWithin lines latest first items → slice_get items slot ≡ Some one
    → IsWithin lines latest (first + slot) one
at_slot lines latest first slot [] one within found = cc
at_slot lines latest first zero (x ∷ others) one within found =
    let same : first ≡ first + 0 = omega arith in
    subst (λ (o : Option SubscriberState). IfSome o (λ y. IsWithin lines latest (first + 0) y)) found
    (subst (λ s. IsWithin lines latest s x) same within.0)
at_slot lines latest first (suc slot) (x ∷ others) one within found =
    let same : first + 1 + slot ≡ first + suc slot = omega arith in
    subst (λ s. IsWithin lines latest s one) same
    (at_slot lines latest (first + 1) slot others one within.1 found)

-- another one stands there
set_within : (lines latest moment first slot : ℕ) (items : List SubscriberState) (next : SubscriberState)
    → latest ≤ moment → AreWithin lines latest first items → IsWithin (lines + 1) moment (first + slot) next
    → AreWithin (lines + 1) moment first (set items slot next)
set_within lines latest moment first slot [] next late within is = tt
set_within lines latest moment first zero (x ∷ others) next late within is =
    let same : first + 0 ≡ first = omega arith in (
      subst (λ s. IsWithin (lines + 1) moment s next) same is,
      all_more lines latest moment (first + 1) others late within.1,
    )
set_within lines latest moment first (suc slot) (x ∷ others) next late within is =
    let same : first + suc slot ≡ first + 1 + slot = omega arith in (
      more_within lines latest moment first x late within.0,
      set_within lines latest moment (first + 1) slot others next late within.1
          (subst (λ s. IsWithin (lines + 1) moment s next) same is),
    )

-- and one more behind them
append_within : (lines latest first : ℕ) (items : List SubscriberState) (next : SubscriberState)
    → AreWithin lines latest first items → IsWithin lines latest (first + length items) next
    → AreWithin lines latest first (items ++ next ∷ [])
append_within lines latest first [] next within is =
    let same : first + 0 ≡ first = omega arith in
    (subst (λ s. IsWithin lines latest s next) same is, tt)
append_within lines latest first (x ∷ others) next within is =
    let same : first + suc (length others) ≡ first + 1 + length others = omega arith in (
      within.0,
      append_within lines latest (first + 1) others next within.1
          (subst (λ s. IsWithin lines latest s next) same is),
    )

-- a subscriber that met a packet · one that was commanded
judged_within : (lines latest slot : ℕ) (one next : SubscriberState) (packet : Packet) (verdict : Verdict)
    (rows : List Charged) → Judges one packet verdict rows next → IsWithin lines latest slot one
    → IsWithin (lines + 1) packet.moment slot next
judged_within lines latest slot one next packet verdict rows judges within =
    let left = judges.left in
    let is : next ≡ without_rows (record one { counters = left.counters; packets = one.packets + 1 }) =
    judges.taken ∙ ap without_rows judges.met.others in
    subst (IsWithin (lines + 1) packet.moment slot) (sym is) (record {
      slot_is = within.slot_is;
      rates = omega (arith, within.rates);
      lives = omega (arith, within.lives);
      few = omega (arith, within.few);
      in_order =
          let last : IfSome (Some packet.moment) (λ l. l ≤ packet.moment) = omega arith in
          subst (λ (o : Option ℕ). IfSome o (λ l. l ≤ packet.moment)) (sym judges.met.counters.last) last;
    })

commanded_within : (lines latest moment slot : ℕ) (one next : SubscriberState) (command : CommandKind) (reply : Reply)
    (effects : List Effect) (rows : List Charged) → Answers one command reply effects rows next → latest ≤ moment
    → IsWithin lines latest slot one → IsWithin (lines + 1) moment slot next
commanded_within lines latest moment slot one next command reply effects rows answers late within =
    let left = answers.left in
    let did = answers.commanded in
    let rise : RiseByOne one.session (controlled one.session command).0 = counts_rise one.session command in
    let rates : left.session.rates ≡ (controlled one.session command).0.rates =
    ap (λ (s : SessionState). s.rates) did.session in
    let lives : left.session.lives ≡ (controlled one.session command).0.lives =
    ap (λ (s : SessionState). s.lives) did.session in
    let number : left.version.number ≡ one.version.number + 1 = ap (λ v. v.number) did.version in
    subst (IsWithin (lines + 1) moment slot) (sym answers.taken) (record {
      slot_is = ap (λ (s : SessionState). s.slot) did.session ∙ of_command one.session command ∙ within.slot_is;
      rates = omega (arith, within.rates, rates, rise.rates);
      lives = omega (arith, within.lives, lives, rise.lives);
      few = omega (arith, within.few, number, did.packets);
      in_order = subst (λ (o : Option ℕ). IfSome o (λ l. l ≤ moment)) (sym did.counters.last)
          (later (last_of one) latest moment late within.in_order);
    })

-- a new subscriber
new_within : (lines latest slot destination : ℕ) → IsWithin lines latest slot (new_subscriber slot destination)
new_within lines latest slot destination = record {
  slot_is = refl;
  rates = omega arith;
  lives = omega arith;
  few = omega arith;
  in_order = tt;
}

pub admitted_holds : (slices lines latest : ℕ) (whose : Whose) (old : Gateway) → Holds lines latest old
    → Holds lines latest (admitting slices whose old)
admitted_holds slices lines latest (Known slot) old holds = holds
admitted_holds slices lines latest (New imsi) old holds =
    let one = new_subscriber (length old.book) (start_slice slices (length old.book)) in
    let same : length old.book ≡ 0 + length old.subscribers = omega (arith, holds.places) in
    record {
      places = omega (
        arith,
        length-append old.subscribers (one ∷ []),
        length-append old.book (imsi ∷ []),
        holds.places,
      );
      each = append_within lines latest 0 old.subscribers one holds.each
          (subst (λ s. IsWithin lines latest s one) same
          (new_within lines latest (length old.book) (start_slice slices (length old.book))));
    }

-- the subscriber of a slot is another one
put_holds : (lines latest moment slot : ℕ) (old new : Gateway) (next : SubscriberState) → latest ≤ moment
    → Holds lines latest old → IsWithin (lines + 1) moment slot next → new.book ≡ old.book
    → new.subscribers ≡ set old.subscribers slot next → Holds (lines + 1) moment new
put_holds lines latest moment slot old new next late holds is book put =
    let same : slot ≡ 0 + slot = omega arith in
    record {
      places = ap length put ∙ length-set old.subscribers slot next ∙ holds.places ∙ ap length (sym book);
      each = subst (AreWithin (lines + 1) moment 0) (sym put)
          (set_within lines latest moment 0 slot old.subscribers next late holds.each
          (subst (λ s. IsWithin (lines + 1) moment s next) same is));
    }

-- the subscriber that is found
found_within : (lines latest slot : ℕ) (old : Gateway) (one : SubscriberState) → Holds lines latest old
    → slice_get old.subscribers slot ≡ Some one → IsWithin lines latest slot one
found_within lines latest slot old one holds found =
    let same : 0 + slot ≡ slot = omega arith in
    subst (λ s. IsWithin lines latest s one) same (at_slot lines latest 0 slot old.subscribers one holds.each found)

-- behind a line
pub answers_hold : (slices n lines latest moment : ℕ) (made : Decision) (old new : Gateway) (told : Told)
    → AnswersAs slices n made old told new → Holds lines latest old → latest ≤ moment → HasMoment moment made
    → Holds (lines + 1) moment new
answers_hold slices n lines latest moment (decision.Command whose command) old new told answers holds late at =
    let mid = admitting slices whose old in
    let ready : Holds lines latest mid = admitted_holds slices lines latest whose old holds in
    let did = answers.1 in
    put_holds lines latest moment (slot_of old.book whose) mid new did.next late ready
    (commanded_within lines latest moment (slot_of old.book whose) did.one did.next command did.reply did.effects
    did.rows did.answers late (found_within lines latest (slot_of old.book whose) mid did.one ready did.found))
    answers.0 did.put
answers_hold slices n lines latest moment (decision.Packet slot packet) old new told answers holds late at =
    let did = answers.1 in
    put_holds lines latest moment slot old new did.next late holds
    (subst (λ m. IsWithin (lines + 1) m slot did.next) at
    (judged_within lines latest slot did.one did.next (numbered did.one.packets packet) did.verdict did.rows
    did.judges (found_within lines latest slot old did.one holds did.found)))
    answers.0 did.put
answers_hold slices n lines latest moment (decision.Move slot slice) old new told answers holds late at =
    let did = answers.1 in
    let within = more_within lines latest moment slot did.one late
    (found_within lines latest slot old did.one holds did.found) in
    put_holds lines latest moment slot old new (record did.one { destination = slice }) late holds (record {
      slot_is = within.slot_is;
      rates = within.rates;
      lives = within.lives;
      few = within.few;
      in_order = within.in_order;
    }) answers.0 did.put
answers_hold slices n lines latest moment (decision.Note text) old new told answers holds late at =
    subst (Holds (lines + 1) moment) (sym answers.1) (record {
      places = holds.places;
      each = all_more lines latest moment 0 old.subscribers late holds.each;
    })

-- before the first line, and behind a state file
pub nothing_holds : (latest : ℕ) → Holds 0 latest (record { book = []; subscribers = [] })
nothing_holds latest = record { places = refl; each = tt }

saved_within : (moment first : ℕ) (book : List (List ℕ)) (items : List SubscriberState) → length items ≡ length book
    → AreSaved moment first (all_saved book items) → AreWithin 0 moment first items
saved_within moment first [] [] many saved = tt
saved_within moment first [] (one ∷ items) many saved = absurd (omega (arith, many))
saved_within moment first (imsi ∷ book) [] many saved = tt
saved_within moment first (imsi ∷ book) (one ∷ items) many saved = (
  record {
    slot_is = saved.0.slot_is;
    rates = omega (arith, saved.0.session.rates);
    lives = omega (arith, saved.0.session.lives);
    few = omega (arith, saved.0.commands, saved.0.packets);
    in_order = saved.0.counters.last;
  },
  saved_within moment (first + 1) book items (omega (arith, many)) saved.1,
)

pub behind_holds : (file : FileState) (gateway : Gateway) → IsFile file → IsGatewayOf file gateway
    → Holds 0 file.moment gateway
behind_holds file gateway is has = record {
  places = has.many;
  each = saved_within file.moment 0 gateway.book gateway.subscribers has.many
      (subst (AreSaved file.moment 0) has.saved is.subscribers);
}

-- the open counters of subscribers, by slot
pub opens_same : (lines latest first : ℕ) (items : List SubscriberState) → AreWithin lines latest first items
    → flat_map opens_held items ≡ opens_from first items
opens_same lines latest first [] within = refl
opens_same lines latest first (one ∷ others) within =
    ap (λ slot. opens_of slot one ++ flat_map opens_held others) within.0.slot_is
    ∙ ap (λ rest. opens_of first one ++ rest) (opens_same lines latest (first + 1) others within.1)

-- they are those of the events that the subscribers represent
one_open : (slot : ℕ) (events : List Event) (one : SubscriberState) → Represents one slot events
    → opens_of slot one ≡ opens slot events
one_open slot events one stands =
    (λ i. flat_map (λ (b : ActiveBearer). open_for slot (stands.counters.charges.opens i) b.life)
    (ap (λ v. v.bearers) stands.version i))
    ∙ opens_are slot events

pub opens_told : (first : ℕ) (items : List SubscriberState) (events : Histories)
    → ((k : ℕ) (none : SubscriberState) → k < length items
    → Represents (get_or items k none) (first + k) (events (first + k)))
    → opens_from first items ≡ flat_map (λ slot. opens slot (events slot)) (counted first (length items))
opens_told first [] events each = refl
opens_told first (one ∷ others) events each =
    let same : first + 0 ≡ first = omega arith in
    let stands : Represents one first (events first) =
    subst (λ s. Represents one s (events s)) same (each 0 one (omega arith)) in
    ap (λ prefix. prefix ++ opens_from (first + 1) others) (one_open first (events first) one stands)
    ∙ ap (λ rest. opens first (events first) ++ rest) (opens_told (first + 1) others events
    (λ k none within.
    let next : first + suc k ≡ first + 1 + k = omega arith in
    subst (λ s. Represents (get_or others k none) s (events s)) next (each (suc k) none (omega (arith, within)))))

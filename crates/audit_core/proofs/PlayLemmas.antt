-- Subscribers that play the lines about their slots, one slot after another.
use Rattle.std.proofs.Common.{◌≡◌, ◌≢◌, ℕ, zero, suc, ◌+◌, ◌<◌, ◌≤◌, ◌^◌, IfNone, IfOk, IfSome, OnOk, Result, Ok, Err, Option, None, Some, List, [], ◌++◌, length, map, drop, get_or, set, get_or-set_same, get_or-set_other, length-set, refl, sym, ap, subst, ◌∙◌, inl, inr, arith, length-append, append_assoc, append-nil, flat_map}
use Rattle.std.proofs.Math.Logic.{∥∥₁_elim, ∥∥₁_map}
use Rattle.std.proofs.Props.{props}
use Rattle.std.specs.Borrow.{Bor}
use Rattle.std.specs.Global.{Vec}
use Rattle.std.specs.List.{filter_map}
use Rattle.std.specs.declared.alloc.AllocError.{AllocError}
use Rattle.std.proofs.lemmas.Bool.{cases_lt}
use Rattle.std.proofs.lemmas.List.{drop_all, get_or-map, get_or_default, length-map}
use Rattle.bearer_state.specs.Session.{SessionState}
use Rattle.control_steps.specs.declared.command.CommandKind.{CommandKind}
use Rattle.gate_model.specs.Events.{as_command, commands_of, packets_of}
use Rattle.gate_model.specs.SlotPast.{records_after}
use Rattle.gate_model.specs.Versions.{SessionsKeepTheirSlot}
use Rattle.gate_model.specs.declared.event.Event.{Event}
use Rattle.lawful_run.specs.Bounds.{count_before}
use Rattle.lawful_run.specs.LinesTold.{LineTold}
use Rattle.lawful_run.specs.Merging.{Histories, behind, commands_lent, events_in, events_of}
use Rattle.lawful_run.specs.Outcomes as made_of
use Rattle.lawful_run.specs.Run.{by_slot}
use Rattle.lawful_run.specs.Telling.{counted}
use Rattle.lawful_run.proofs.EventByEvent.{ordered_length}
use Rattle.report_lines.specs.declared.entry.ChargeEntry.TheVariants.{R}
use Rattle.slot_execution.specs.Replaying.{CanReplay, IsLedTo, effects_told, moment_of, placed_lent, placed_so, replies_in, rows_told, verdicts_in}
use Rattle.slot_execution.specs.Replaying as replay
use Rattle.slot_execution.specs.declared.placed.Placed.{Placed}
use Rattle.slot_execution.specs.declared.replayed.Replayed.{Replayed}
use Rattle.subscriber.specs.Standing.{Represents, SubscriberState, commands_met}
use Rattle.at_rest.specs.Meant.{AreStanding}
use Rattle.at_rest.specs.Rest.{AreAtRest, HasEvents, IsAtRest}
use Rattle.audit_core.specs.Answers.{reply_in, verdict_in}
use Rattle.audit_core.specs.Bounds.{FirstCount}
use Rattle.audit_core.specs.Gateway.{AnswerBreak, AnswersOf, SlotBreak}
use Rattle.audit_core.specs.Holding.{AreKnownTold}
use Rattle.audit_core.specs.Meant.{command_taken, line_told, lines_of, share}
use Rattle.audit_core.specs.OfSlot.{AreAnswered, CountsRise}
use Rattle.audit_core.specs.Played.{AnswersBelow, AreLate, AreShares, Below, CountsBelow, HasPlayed, LeadsTo, PlaysBelow, latest_of, placed_in}
use Rattle.audit_core.specs.Sentences.{AreOfTheGateway, CountsAreLawful}
use Rattle.audit_core.specs.declared.slots.Played.{Played}
use Rattle.audit_core.specs.declared.telling.Break.{Break}
use Rattle.audit_core.specs.declared.told_line.ToldLine.{ToldLine}
use Rattle.audit_core.proofs.CountLemmas.{some_most}
use Rattle.audit_core.proofs.LateLemmas.{packets_late, share_late}
use Rattle.audit_core.proofs.LiftLemmas.{counts_all}
use Rattle.audit_core.proofs.ShareLemmas.{brought_length, events_played, events_shared, none_shared, replies_shared, share_length, verdicts_shared}

-- one slot more
flat_next : {X : Type 0} (has : ℕ → List X) (first n : ℕ)
    → flat_map has (counted first (suc n)) ≡ flat_map has (counted first n) ++ has (first + n)
flat_next has first zero =
    let at : first + 0 ≡ first = omega arith in append-nil (has first) ∙ ap has (sym at)
flat_next has first (suc n) =
    let at : first + 1 + n ≡ first + suc n = omega arith in
    ap (λ rest. has first ++ rest) (flat_next has (first + 1) n)
    ∙ sym (append_assoc (has first) (flat_map has (counted (first + 1) n)) (has (first + 1 + n)))
    ∙ ap (λ k. (has first ++ flat_map has (counted (first + 1) n)) ++ has k) at

by_slot-next : {X : Type 0} (has : ℕ → List X) (n : ℕ) → by_slot (n + 1) has ≡ by_slot n has ++ has n
by_slot-next has n =
    let more : n + 1 ≡ suc n = omega arith in
    let at : 0 + n ≡ n = omega arith in
    ap (λ k. flat_map has (counted 0 k)) more ∙ flat_next has 0 n ∙ ap (λ k. by_slot n has ++ has k) at

below_next : (P : ℕ → Type 0) (i : ℕ) → Below i P → P i → Below (i + 1) P
below_next P i below here slot low = elim (cases_lt slot i) [
  | inl less ↦ below slot less
  | inr most ↦ let is : i ≡ slot = omega (arith, low, most) in subst P is here
]

-- nothing is made of no events
pub no_rows : (slot : ℕ) (before : List Event) → made_of.rows slot before [] ≡ []
no_rows slot before =
    ap (map (R slot)) (ap (λ es. drop (length (records_after slot before)) (records_after slot es)) (append-nil before)
    ∙ drop_all (length (records_after slot before)) (records_after slot before) (omega arith))

-- a slot that no line is about
abbrev NoLines : ℕ → List LineTold → Type 0
NoLines slot all = share slot all ≡ []

pub no_events : (slot : ℕ) (before : List Event) (all : List LineTold) → NoLines slot all → events_in before all slot ≡ []
no_events slot before all none =
    sym (events_shared slot before all)
    ∙ ap (λ lines. events_of before (filter_map command_taken lines) (filter_map placed_in lines)) none

answers_none : (n slot : ℕ) (before : List Event) (all : List LineTold) → AreAnswered n all → NoLines slot all
    → AnswersOf slot before all
answers_none n slot before all are none = record {
  replies = replies_shared n slot all are ∙ ap (filter_map reply_in) none
      ∙ sym (ap (made_of.replies slot before) (no_events slot before all none));
  verdicts = verdicts_shared n slot all are ∙ ap (filter_map verdict_in) none
      ∙ sym (ap (made_of.verdicts slot before) (no_events slot before all none));
}

counts_none : (n slot start : ℕ) (all : List LineTold) → AreAnswered n all → NoLines slot all
    → CountsRise slot start all
counts_none n slot start all are none =
    counts_all n slot start all are (subst (CountsRise slot start) (sym none) (record { rises = tt; within = tt }))

-- the breaks that were found
pub counts_kept : (slot : ℕ) (histories : Histories) (all : List LineTold) (broken : Break)
    → CountsBelow slot histories all (Some broken) → CountsBelow (slot + 1) histories all (Some broken)
counts_kept slot histories all broken below = record { some = below.some; none = tt }

pub answers_kept : (slot : ℕ) (histories : Histories) (all : List LineTold) (broken : Break)
    → AnswersBelow slot histories all (Some broken) → AnswersBelow (slot + 1) histories all (Some broken)
answers_kept slot histories all broken below = record { some = below.some; none = tt }

pub counts_next : (slot : ℕ) (histories : Histories) (all : List LineTold) (result : Result (Option Break) AllocError)
    → CountsBelow slot histories all None
    → IfOk result (λ found. IfSome found (FirstCount slot (count_before histories slot) all))
    → IfOk result (λ found. IfNone found (CountsRise slot (count_before histories slot) all))
    → IfOk result (CountsBelow (slot + 1) histories all)
counts_next slot histories all (Err e) below some none = tt
counts_next slot histories all (Ok (Some found)) below some none = record {
  some = record { slot = slot; below = below.none; first = some };
  none = tt;
}
counts_next slot histories all (Ok None) below some none = record {
  some = tt;
  none = below_next (λ s. CountsRise s (count_before histories s) all) slot below.none none;
}

answers_here : (n slot : ℕ) (before : List Event) (all lines : List LineTold) (replayed : Replayed)
    → AreAnswered n all → lines ≡ share slot all → IsLedTo replayed slot before (events_in before all slot)
    → filter_map reply_in lines ≡ replies_in replayed.replies.items
    → filter_map verdict_in lines ≡ verdicts_in replayed.packets.items
    → AnswersOf slot before all
answers_here n slot before all lines replayed are same led replies verdicts = record {
  replies = replies_shared n slot all are ∙ ap (filter_map reply_in) (sym same) ∙ replies ∙ led.replies;
  verdicts = verdicts_shared n slot all are ∙ ap (filter_map verdict_in) (sym same) ∙ verdicts ∙ led.verdicts;
}

break_here : (slot : ℕ) (before : List Event) (all lines : List LineTold) (replayed : Replayed) (found : Break)
    → lines ≡ share slot all → IsLedTo replayed slot before (events_in before all slot)
    → AnswerBreak slot (replies_in replayed.replies.items) (verdicts_in replayed.packets.items) lines found
    → SlotBreak slot before all found
break_here slot before all lines replayed found same led there =
    subst (λ xs. AnswerBreak slot (made_of.replies slot before (events_in before all slot))
    (made_of.verdicts slot before (events_in before all slot)) xs found) same
    (subst (λ vs. AnswerBreak slot (made_of.replies slot before (events_in before all slot)) vs lines found) led.verdicts
    (subst (λ rs. AnswerBreak slot rs (verdicts_in replayed.packets.items) lines found) led.replies there))

pub answers_next : (n slot : ℕ) (histories : Histories) (all lines : List LineTold) (replayed : Replayed)
    (result : Result (Option Break) AllocError) → AreAnswered n all → lines ≡ share slot all
    → LeadsTo replayed slot (histories slot) all → AnswersBelow slot histories all None
    → IfOk result (λ found. IfSome found (AnswerBreak slot (replies_in replayed.replies.items)
    (verdicts_in replayed.packets.items) lines))
    → IfOk result (λ found. IfNone found (filter_map reply_in lines ≡ replies_in replayed.replies.items))
    → IfOk result (λ found. IfNone found (filter_map verdict_in lines ≡ verdicts_in replayed.packets.items))
    → IfOk result (AnswersBelow (slot + 1) histories all)
answers_next n slot histories all lines replayed (Err e) are same leads below some replies verdicts = tt
answers_next n slot histories all lines replayed (Ok (Some found)) are same leads below some replies verdicts = record {
  some = record {
    slot = slot;
    below = below.none;
    first = break_here slot (histories slot) all lines replayed found same leads.led some;
  };
  none = tt;
}
answers_next n slot histories all lines replayed (Ok None) are same leads below some replies verdicts = record {
  some = tt;
  none = below_next (λ s. AnswersOf s (histories s) all) slot below.none
      (answers_here n slot (histories slot) all lines replayed are same leads.led replies verdicts);
}

-- what lines lead to
pub leads_to : (slot : ℕ) (before : List Event) (all lines : List LineTold) (commands : List (Bor CommandKind))
    (packets : List Placed) (replayed : Replayed) → lines ≡ share slot all
    → commands_lent commands ≡ filter_map command_taken lines → placed_lent packets ≡ filter_map placed_in lines
    → IsLedTo replayed slot before (events_of before (commands_lent commands) (placed_lent packets))
    → map (R slot) replayed.rows.items
    ≡ made_of.rows slot before (events_of before (commands_lent commands) (placed_lent packets))
    → LeadsTo replayed slot before all
leads_to slot before all lines commands packets replayed same of_commands of_packets led rows =
    let events = events_played slot before all lines commands packets same of_commands of_packets in
    record { led = subst (IsLedTo replayed slot before) events led; rows = rows ∙ ap (made_of.rows slot before) events }

-- subscribers at rest may play them, and are at rest behind them
pub can_replay : (slices count latest slot : ℕ) (subscriber : SubscriberState) (lines : List ToldLine)
    (commands : List (Bor CommandKind)) (packets : List Placed)
    → commands_lent commands ≡ filter_map command_taken (lines_of lines)
    → placed_lent packets ≡ filter_map placed_in (lines_of lines)
    → IsAtRest slices count latest slot subscriber → count + length lines < 2 ^ 40
    → ∥ CanReplay subscriber (length commands + length packets) ∥₁
can_replay slices count latest slot subscriber lines commands packets of_commands of_packets rest few =
    let brought = brought_length lines commands packets of_commands of_packets in
    ∥∥₁_map rest.has_events (λ (has : HasEvents slot count subscriber). record {
      slot = slot;
      before = has.events;
      represents = has.represents;
      few = omega (arith, has.few, brought, few);
    })

pub few_commands : (slices count latest slot : ℕ) (subscriber : SubscriberState) (n : ℕ)
    → IsAtRest slices count latest slot subscriber → count + n < 2 ^ 40 → commands_met subscriber + n < 2 ^ 64
few_commands slices count latest slot subscriber n rest few =
    ∥∥₁_elim rest.has_events (hlevel props) (λ (has : HasEvents slot count subscriber).
    omega (arith, has.represents.commands, has.few, few, some_most as_command has.events))

pub rests_behind : SessionsKeepTheirSlot → (slices count latest slot : ℕ) (old new : SubscriberState)
    (lines : List ToldLine) (commands : List (Bor CommandKind)) (packets : List Placed)
    → commands_lent commands ≡ filter_map command_taken (lines_of lines)
    → placed_lent packets ≡ filter_map placed_in (lines_of lines)
    → IsAtRest slices count latest slot old → AreLate latest (lines_of lines)
    → ((own : ℕ) (before : List Event) → Represents old own before
    → Represents new own (before ++ events_of before (commands_lent commands) (placed_lent packets)))
    → moment_of new ≡ replay.latest_of (moment_of old) packets → new.destination ≡ old.destination
    → IsAtRest slices (count + length lines) (latest_of latest (lines_of lines)) slot new
rests_behind keeps slices count latest slot old new lines commands packets of_commands of_packets rest late represents
    last destination =
    let brought = brought_length lines commands packets of_commands of_packets in
    let latest_is = packets_late (moment_of old) latest (lines_of lines) packets rest.late late of_packets in
    record {
      own = ∥∥₁_elim rest.has_events (hlevel props) (λ (has : HasEvents slot count old).
          ap (λ (s : SessionState). s.slot) (represents slot has.events has.represents).session
          ∙ keeps slot (has.events ++ events_of has.events (commands_lent commands) (placed_lent packets)));
      bound = subst (λ d. d < slices) (sym destination) rest.bound;
      late = omega (arith, last, latest_is.1);
      has_events = ∥∥₁_map rest.has_events (λ (has : HasEvents slot count old). record {
        events = has.events ++ events_of has.events (commands_lent commands) (placed_lent packets);
        represents = represents slot has.events has.represents;
        few =
            let more = events_of has.events (commands_lent commands) (placed_lent packets) in
            let many = ordered_length (length (commands_of has.events)) (length (packets_of has.events))
            (commands_lent commands) (placed_lent packets) in
            omega (
              arith,
              has.few,
              brought,
              many,
              length-append has.events more,
              length-map commands (λ (c : Bor CommandKind). c.now),
              length-map packets placed_so,
            );
      });
    }

pub rests_later : (slices count latest slot more later : ℕ) (subscriber : SubscriberState) → count ≤ more
    → latest ≤ later → IsAtRest slices count latest slot subscriber → IsAtRest slices more later slot subscriber
rests_later slices count latest slot more later subscriber few le rest = record {
  own = rest.own;
  bound = rest.bound;
  late = omega (arith, rest.late, le);
  has_events = ∥∥₁_map rest.has_events (λ (has : HasEvents slot count subscriber). record {
    events = has.events;
    represents = has.represents;
    few = omega (arith, has.few, few);
  });
}

-- unless memory ran out
pub ok_both : {X : Type 0} (P Q S : X → Type 0) (result : Result X AllocError) → ((x : X) → P x → Q x → S x)
    → IfOk result P → IfOk result Q → IfOk result S
ok_both P Q S (Ok x) from one both = from x one both
ok_both P Q S (Err e) from one both = tt

pub ok_from : {X : Type 0} (P Q : X → Type 0) (result : Result X AllocError) → ((x : X) → P x → Q x)
    → IfOk result P → IfOk result Q
ok_from P Q (Ok x) from holds = from x holds
ok_from P Q (Err e) from holds = tt

pub none_known : {X Q : Type 0} (result : Result (Option X) AllocError) → Q → IfOk result (λ found. IfNone found Q)
none_known (Ok None) known = known
none_known (Ok (Some found)) known = tt
none_known (Err e) known = tt

pub on_known : {X Q : Type 0} (result : Result X AllocError) → Q → OnOk result Q
on_known (Ok x) known = known
on_known (Err e) known = tt

pub on_ok : {X P Q : Type 0} (result : Result X AllocError) → (P → Q) → OnOk result P → OnOk result Q
on_ok (Ok x) from holds = from holds
on_ok (Err e) from holds = tt

pub rests_ok : {X : Type 0} (result : Result X AllocError) → SessionsKeepTheirSlot
    → (slices count latest slot : ℕ) (old new : SubscriberState)
    (lines : List ToldLine) (commands : List (Bor CommandKind)) (packets : List Placed)
    → commands_lent commands ≡ filter_map command_taken (lines_of lines)
    → placed_lent packets ≡ filter_map placed_in (lines_of lines)
    → IsAtRest slices count latest slot old → AreLate latest (lines_of lines)
    → ((own : ℕ) (before : List Event) → Represents old own before
    → OnOk result (Represents new own (before ++ events_of before (commands_lent commands) (placed_lent packets))))
    → OnOk result (moment_of new ≡ replay.latest_of (moment_of old) packets)
    → OnOk result (new.destination ≡ old.destination)
    → OnOk result (IsAtRest slices (count + length lines) (latest_of latest (lines_of lines)) slot new)
rests_ok (Ok x) keeps slices count latest slot old new lines commands packets of_commands of_packets rest late
    represents last destination =
    rests_behind keeps slices count latest slot old new lines commands packets of_commands of_packets rest late
    represents last destination
rests_ok (Err e) keeps slices count latest slot old new lines commands packets of_commands of_packets rest late
    represents last destination = tt

-- one slot more is played
pub plays_next : (slot : ℕ) (histories : Histories) (all : List LineTold) (old new : Played) (replayed : Replayed)
    → LeadsTo replayed slot (histories slot) all → PlaysBelow slot histories all old
    → CountsBelow (slot + 1) histories all new.counts → AnswersBelow (slot + 1) histories all new.gateway
    → effects_told new.effects.items ≡ effects_told old.effects.items ++ effects_told replayed.effects.items
    → rows_told new.rows.items ≡ rows_told old.rows.items ++ map (R slot) replayed.rows.items
    → PlaysBelow (slot + 1) histories all new
plays_next slot histories all old new replayed leads below counts gateway effects rows =
    let led = λ (s : ℕ). made_of.effects s (histories s) (events_in (histories s) all s) in
    let made = λ (s : ℕ). made_of.rows s (histories s) (events_in (histories s) all s) in
    record {
      counts = counts;
      gateway = gateway;
      effects = effects ∙ (λ i. below.effects i ++ leads.led.effects i) ∙ sym (by_slot-next led slot);
      rows = rows ∙ (λ i. below.rows i ++ leads.rows i) ∙ sym (by_slot-next made slot);
    }

-- a slot without lines
counts_more : (n slot : ℕ) (histories : Histories) (all : List LineTold) (found : Option Break) → AreAnswered n all
    → NoLines slot all → CountsBelow slot histories all found → CountsBelow (slot + 1) histories all found
counts_more n slot histories all None are none below = record {
  some = tt;
  none = below_next (λ s. CountsRise s (count_before histories s) all) slot below.none
      (counts_none n slot (count_before histories slot) all are none);
}
counts_more n slot histories all (Some found) are none below = record { some = below.some; none = tt }

answers_more : (n slot : ℕ) (histories : Histories) (all : List LineTold) (found : Option Break) → AreAnswered n all
    → NoLines slot all → AnswersBelow slot histories all found → AnswersBelow (slot + 1) histories all found
answers_more n slot histories all None are none below = record {
  some = tt;
  none = below_next (λ s. AnswersOf s (histories s) all) slot below.none
      (answers_none n slot (histories slot) all are none);
}
answers_more n slot histories all (Some found) are none below = record { some = below.some; none = tt }

pub plays_none : (n slot : ℕ) (histories : Histories) (all : List LineTold) (played : Played) → AreAnswered n all
    → NoLines slot all → PlaysBelow slot histories all played → PlaysBelow (slot + 1) histories all played
plays_none n slot histories all played are none below =
    let led = λ (s : ℕ). made_of.effects s (histories s) (events_in (histories s) all s) in
    let made = λ (s : ℕ). made_of.rows s (histories s) (events_in (histories s) all s) in
    let nothing = no_events slot (histories slot) all none in
    record {
      counts = counts_more n slot histories all played.counts are none below.counts;
      gateway = answers_more n slot histories all played.gateway are none below.gateway;
      effects = below.effects ∙ sym (append-nil (by_slot slot led))
          ∙ ap (λ es. by_slot slot led ++ es) (sym (ap (made_of.effects slot (histories slot)) nothing))
          ∙ sym (by_slot-next led slot);
      rows = below.rows ∙ sym (append-nil (by_slot slot made))
          ∙ ap (λ es. by_slot slot made ++ es) (sym (ap (made_of.rows slot (histories slot)) nothing
          ∙ no_rows slot (histories slot)))
          ∙ sym (by_slot-next made slot);
    }

pub same_events : (slot : ℕ) (before : List Event) (all : List LineTold) → NoLines slot all
    → before ++ events_in before all slot ≡ before
same_events slot before all none =
    ap (λ es. before ++ es) (no_events slot before all none) ∙ append-nil before

-- all slots
each_slot : (P : ℕ → Type 0) (slots : ℕ) → ((slot : ℕ) → slots ≤ slot → P slot) → Below slots P → (slot : ℕ) → P slot
each_slot P slots beyond below slot = elim (cases_lt slot slots) [
  | inl low ↦ below slot low
  | inr past ↦ beyond slot past
]

module _ (slots n : ℕ) (histories : Histories) (all : List LineTold) (are : AreAnswered n all)
    (known : AreKnownTold slots all) where
  counts_whole : (found : Option Break) → CountsBelow slots histories all found
      → IfNone found (CountsAreLawful histories all)
  counts_whole None below =
      each_slot (λ s. CountsRise s (count_before histories s) all) slots
      (λ s past. counts_none n s (count_before histories s) all are (none_shared slots s all known past)) below.none
  counts_whole (Some found) below = tt

  answers_whole : (found : Option Break) → AnswersBelow slots histories all found
      → IfNone found (AreOfTheGateway histories all)
  answers_whole None below =
      let each : (s : ℕ) → AnswersOf s (histories s) all =
      each_slot (λ s. AnswersOf s (histories s) all) slots
      (λ s past. answers_none n s (histories s) all are (none_shared slots s all known past)) below.none in
      record { replies = λ s. (each s).replies; verdicts = λ s. (each s).verdicts }
  answers_whole (Some found) below = tt

  pub plays_all : (played : Played) → PlaysBelow slots histories all played → HasPlayed slots histories all played
  plays_all played below = record {
    counts_some = below.counts.some;
    counts_none = counts_whole played.counts below.counts;
    gateway_some = below.gateway.some;
    gateway_none = answers_whole played.gateway below.gateway;
    effects = below.effects;
    rows = below.rows;
  }

pub stands_beyond : (slots slot : ℕ) (before : List Event) (all : List LineTold) → AreKnownTold slots all
    → slots ≤ slot → before ≡ [] → before ++ events_in before all slot ≡ []
stands_beyond slots slot before all known past none =
    same_events slot before all (none_shared slots slot all known past) ∙ none

-- the lines of a slot among the shares
counted_at : {X : Type 0} (f : ℕ → X) (first n i : ℕ) (d : X) → i < n
    → get_or (map f (counted first n)) i d ≡ f (first + i)
counted_at f first zero i d low = absurd (omega (arith, low))
counted_at f first (suc n) zero d low = ap f (omega arith)
counted_at f first (suc n) (suc i) d low = counted_at f (first + 1) n i d (omega (arith, low)) ∙ ap f (omega arith)

counted_length : {X : Type 0} (f : ℕ → X) (first n : ℕ) → length (map f (counted first n)) ≡ n
counted_length f first zero = refl
counted_length f first (suc n) = ap suc (counted_length f (first + 1) n)

pub shares_many : (shares : List (Vec ToldLine)) (slots : ℕ) (all : List LineTold) → AreShares shares slots all
    → length shares ≡ slots
shares_many shares slots all are =
    sym (length-map shares (λ (v : Vec ToldLine). lines_of v.items)) ∙ ap length are
    ∙ counted_length (λ slot. share slot all) 0 slots

from_none : (i : ℕ) → 0 + i ≡ i
from_none i = omega arith

pub share_at : (shares : List (Vec ToldLine)) (slots : ℕ) (all : List LineTold) (i : ℕ) (own : Vec ToldLine)
    → AreShares shares slots all → i < slots → own ≡ get_or shares i own → lines_of own.items ≡ share i all
share_at shares slots all i own are low is =
    ap (λ (v : Vec ToldLine). lines_of v.items) is
    ∙ sym (get_or-map (λ (v : Vec ToldLine). lines_of v.items) shares i own [] (omega (arith, low, shares_many shares slots all are)))
    ∙ ap (λ some. get_or some i []) are
    ∙ counted_at (λ slot. share slot all) 0 slots i [] low
    ∙ ap (λ k. share k all) (from_none i)

-- The subscribers of the slots below so many have played their lines, the others not yet.
pub record Half (lines : List LineTold) (old now : List SubscriberState) (done : ℕ) (played : Played) : Type 0 where
  pub many : length now ≡ length old
  pub later : (s : ℕ) (none : SubscriberState) → done ≤ s → get_or now s none ≡ get_or old s none
  pub plays : (first : ℕ) (histories : Histories) → AreStanding old histories → AreAnswered first lines
      → PlaysBelow done histories lines played
  pub stands : (histories : Histories) → AreStanding old histories → (s : ℕ) (none : SubscriberState) → s < done
      → Represents (get_or now s none) s (behind histories lines s)
  pub rest : (slices count latest : ℕ) → AreAtRest slices count latest old → AreLate latest lines
      → (s : ℕ) (none : SubscriberState) → s < done
      → IsAtRest slices (count + length lines) (latest_of latest lines) s (get_or now s none)
  pub bound : (s : ℕ) (none : SubscriberState) → s < done
      → (get_or now s none).destination ≡ (get_or old s none).destination

pub half_next : (lines : List LineTold) (old now new : List SubscriberState) (i : ℕ) (did : SubscriberState)
    (played after : Played) → Half lines old now i played → i < length old → new ≡ set now i did
    → ((first : ℕ) (histories : Histories) → AreStanding old histories → AreAnswered first lines
    → PlaysBelow i histories lines played → PlaysBelow (i + 1) histories lines after)
    → ((histories : Histories) → AreStanding old histories → Represents did i (behind histories lines i))
    → ((slices count latest : ℕ) → AreAtRest slices count latest old → AreLate latest lines
    → IsAtRest slices (count + length lines) (latest_of latest lines) i did)
    → ((none : SubscriberState) → did.destination ≡ (get_or old i none).destination)
    → Half lines old new (i + 1) after
half_next lines old now new i did played after half low is plays stands rest bound =
    let own : (none : SubscriberState) → get_or new i none ≡ did = λ none.
    ap (λ some. get_or some i none) is ∙ get_or-set_same now i did none (omega (arith, low, half.many)) in
    let another : (s : ℕ) (none : SubscriberState) → s ≢ i → get_or new s none ≡ get_or now s none = λ s none differ.
    ap (λ some. get_or some s none) is ∙ get_or-set_other now i s did none differ in
    record {
      many = ap length is ∙ length-set now i did ∙ half.many;
      later = λ s none past. another s none (λ same. omega (arith, past, same)) ∙ half.later s none (omega (arith, past));
      plays = λ first histories stand are. plays first histories stand are (half.plays first histories stand are);
      stands = λ histories stand s none below. elim (cases_lt s i) [
        | inl less ↦ subst (λ p. Represents p s (behind histories lines s))
            (sym (another s none (λ same. omega (arith, less, same)))) (half.stands histories stand s none less)
        | inr most ↦
            let same : i ≡ s = omega (arith, below, most) in
            subst (λ k. Represents (get_or new k none) k (behind histories lines k)) same
            (subst (λ p. Represents p i (behind histories lines i)) (sym (own none)) (stands histories stand))
      ];
      rest = λ slices count latest are late s none below. elim (cases_lt s i) [
        | inl less ↦ subst (λ p. IsAtRest slices (count + length lines) (latest_of latest lines) s p)
            (sym (another s none (λ same. omega (arith, less, same)))) (half.rest slices count latest are late s none less)
        | inr most ↦
            let same : i ≡ s = omega (arith, below, most) in
            subst (λ k. IsAtRest slices (count + length lines) (latest_of latest lines) k (get_or new k none)) same
            (subst (λ p. IsAtRest slices (count + length lines) (latest_of latest lines) i p) (sym (own none))
            (rest slices count latest are late))
      ];
      bound = λ s none below. elim (cases_lt s i) [
        | inl less ↦
            ap (λ (p : SubscriberState). p.destination) (another s none (λ same. omega (arith, less, same)))
            ∙ half.bound s none less
        | inr most ↦
            let same : i ≡ s = omega (arith, below, most) in
            subst (λ k. (get_or new k none).destination ≡ (get_or old k none).destination) same
            (ap (λ (p : SubscriberState). p.destination) (own none) ∙ bound none)
      ];
    }

pub half_none : (lines : List LineTold) (old : List SubscriberState) (played : Played) → played.counts ≡ None
    → played.gateway ≡ None → played.effects.items ≡ [] → played.rows.items ≡ [] → Half lines old old 0 played
half_none lines old played counts gateway effects rows = record {
  many = refl;
  later = λ s none past. refl;
  plays = λ first histories stand are. record {
    counts = subst (CountsBelow 0 histories lines) (sym counts)
        (record { some = tt; none = λ slot low. absurd (omega (arith, low)) });
    gateway = subst (AnswersBelow 0 histories lines) (sym gateway)
        (record { some = tt; none = λ slot low. absurd (omega (arith, low)) });
    effects = ap effects_told effects;
    rows = ap rows_told rows;
  };
  stands = λ histories stand s none low. absurd (omega (arith, low));
  rest = λ slices count latest are late s none low. absurd (omega (arith, low));
  bound = λ s none low. absurd (omega (arith, low));
}

-- one slot more, by what its subscriber did
module _ (lines : List LineTold) (old now new : List SubscriberState) (i : ℕ) (subscriber did : SubscriberState)
    (own : List ToldLine) (played after : Played) where
  pub half_step : Half lines old now i played → i < length old → subscriber ≡ get_or now i subscriber
      → new ≡ set now i did → lines_of own ≡ share i lines
      → ((first : ℕ) (histories : Histories) (all : List LineTold) → Represents subscriber i (histories i)
      → AreAnswered first all → lines_of own ≡ share i all → PlaysBelow i histories all played
      → PlaysBelow (i + 1) histories all after)
      → ((before : List Event) (all : List LineTold) → Represents subscriber i before → lines_of own ≡ share i all
      → Represents did i (before ++ events_in before all i))
      → ((slices count latest : ℕ) → IsAtRest slices count latest i subscriber → AreLate latest (lines_of own)
      → IsAtRest slices (count + length own) (latest_of latest (lines_of own)) i did)
      → did.destination ≡ subscriber.destination
      → Half lines old new (i + 1) after
  half_step half low is set_ its plays stands rest bound =
      let from : subscriber ≡ get_or old i subscriber = is ∙ half.later i subscriber (omega arith) in
      half_next lines old now new i did played after half low set_
      (λ first histories stand are below. plays first histories lines
      (subst (λ p. Represents p i (histories i)) (sym from) (stand.each i subscriber low)) are its below)
      (λ histories stand. stands (histories i) lines
      (subst (λ p. Represents p i (histories i)) (sym from) (stand.each i subscriber low)) its)
      (λ slices count latest are late.
      let shared = share_late i lines latest latest (omega arith) late in
      let few : count + length own ≤ count + length lines =
      omega (arith, ap length its, length-map own line_told, share_length i lines) in
      let le : latest_of latest (lines_of own) ≤ latest_of latest lines =
      subst (λ xs. latest_of latest xs ≤ latest_of latest lines) (sym its) shared.1 in
      rests_later slices (count + length own) (latest_of latest (lines_of own)) i (count + length lines)
      (latest_of latest lines) did few le
      (rest slices count latest (subst (IsAtRest slices count latest i) (sym from) (are i subscriber low))
      (subst (AreLate latest) (sym its) shared.0)))
      (λ none. bound ∙ ap (λ (p : SubscriberState). p.destination)
      (is ∙ get_or_default now i subscriber none (omega (arith, low, half.many)) ∙ half.later i none (omega arith)))

-- what its lines ask for
pub own_lines : (lines : List LineTold) (slices count latest i : ℕ) (subscriber : SubscriberState) (own : List ToldLine)
    → lines_of own ≡ share i lines → IsAtRest slices count latest i subscriber → AreLate latest lines
    → count + length lines < 2 ^ 40
    → (IsAtRest slices count latest i subscriber) × AreLate latest (lines_of own) × (count + length own < 2 ^ 40)
own_lines lines slices count latest i subscriber own its rest late few = (
  rest,
  subst (AreLate latest) (sym its) (share_late i lines latest latest (omega arith) late).0,
  omega (arith, few, ap length its, length-map own line_told, share_length i lines),
)

-- An event charges few things: at most forty-nine.
use Rattle.std.proofs.Common.{◌≡◌, ℕ, ◌+◌, ◌*◌, ◌≤◌, ◌==◌, ◌&&◌, nat_le, nat_lt, Bool, true, false, not, if◌then◌else◌, List, [], ◌∷◌, ◌++◌, map, fold, length, Option, Some, None, refl, sym, subst, arith, length-append}
use Rattle.std.specs.List.{filter}
use Rattle.std.proofs.lemmas.Bool.Decides.{nat_tests}
use Rattle.std.proofs.lemmas.List.{length-map}
use Rattle.pc_base.specs.Addresses.{addr_of}
use Rattle.pc_base.specs.declared.effect.Effect.{Effect}
use Rattle.pc_base.specs.declared.effect.Fate.TheVariants as fate
use Rattle.pc_base.specs.declared.packet.Packet.{Packet}
use Rattle.pc_base.specs.declared.packet.Peer.{Peer}
use Rattle.pc_base.specs.declared.packet.Verdict.{Verdict}
use Rattle.pc_base.specs.declared.packet.Verdict.TheVariants as verdict
use Rattle.pc_base.specs.declared.packet.Way.{Way}
use Rattle.pc_base.specs.declared.packet.Way.TheVariants.{Up, Down}
use Rattle.ipv4_packet.specs.Fields.{source_of}
use Rattle.bearer_state.specs.declared.version.ActiveBearer.{ActiveBearer}
use Rattle.bearer_state.specs.Version.{VersionState, bearer_at}
use Rattle.charging_book.specs.Happenings.{started, closed}
use Rattle.charging_book.specs.declared.records.Why.TheVariants.{Qos, Gone}
use Rattle.control_steps.specs.declared.command.CommandKind.{CommandKind}
use Rattle.packet_steps.specs.Rows.{HeldRow}
use Rattle.packet_steps.specs.Messages.{gpdu}
use Rattle.packet_steps.specs.Past.{Past, row_for, happening_for, with_row, with_held}
use Rattle.packet_steps.specs.Policing.{passes}
use Rattle.packet_steps.specs.Verdicts.{tried, notice, judged_up, judged_to, judged_down, bearer_for, judged_by_way, is_packet, at_moment, judged}
use Rattle.packet_steps.specs.Change.{shared_with, shares_ambr, has_life, ended, cut, begun, marks_between, marks, markers, bearer_of, waits, fated, released_to, released_by, released, marked, learnt}
use Rattle.packet_steps.proofs.FoldLemmas.{held_all}
use Rattle.gate_model.specs.declared.event.Event.{Event}
use Rattle.gate_model.specs.declared.event.Event.TheVariants as event
use Rattle.gate_model.specs.SlotPast.{SlotPast, new_slot, next_session, next_version, commanded, met, happens, behind, past_of}
use Rattle.gate_model.specs.Few.{FewEventsAreFew, FewCommandsFollow, AtMostSixteenAreHeld}
use Rattle.gate_model.proofs.PastSteps.{either}
use Rattle.gate_model.proofs.Sound.{IsSound, new_sound, behind_sound, past_sound}
use Rattle.gate_model.proofs.Following.{follows}
use Rattle.gate_model.proofs.FewBearers.{Rise, bearers_rise, few_active}

-- a packet: at most one thing more is charged, and at most sixteen are held
record Grows (before after : Past) : Type 0 where
  held : length before.held ≤ 16 → length after.held ≤ 16
  charged : length after.charged ≤ length before.charged + 1

pushed : {X : Type 0} (xs : List X) (x : X) → length (xs ++ x ∷ []) ≡ length xs + 1
pushed xs x = omega (arith, length-append xs (x ∷ []))

row_grows : (past : Past) (b : ActiveBearer) (way : Bool) (octets : ℕ)
    → Grows past (with_row past (row_for past b way octets))
row_grows past b way octets = record {
  held = λ few. few;
  charged = omega (arith, pushed past.charged (happening_for (row_for past b way octets)));
}

stays : (past : Past) → Grows past past
stays past = record { held = λ few. few; charged = omega arith }

tried_if : (past : Past) (b : ActiveBearer) (way : Bool) (octets : ℕ) (sent : Verdict) (fits : Bool)
    → Grows past (either fits (with_row past (row_for past b way octets), sent) (past, verdict.Policed b.life)).0
tried_if past b way octets sent true = row_grows past b way octets
tried_if past b way octets sent false = stays past

up_if : (past : Past) (octets : List ℕ) (b : ActiveBearer) (own : Bool)
    → Grows past (either own (tried past b true (length octets) (verdict.Up b.life octets)) (past, verdict.Spoof)).0
up_if past octets b true =
    tried_if past b true (length octets) (verdict.Up b.life octets) (passes past b true (length octets))
up_if past octets b false = stays past

up_grows : (past : Past) (octets : List ℕ) (found : Option ActiveBearer) → Grows past (judged_up past octets found).0
up_grows past octets None = stays past
up_grows past octets (Some b) = up_if past octets b (source_of octets == addr_of past.version.slot)

pub is_short : (n : ℕ) → nat_le 16 n ≡ false → n + 1 ≤ 16
is_short n fails = grind (arith, nat_tests)

waiting_if : (past : Past) (row : HeldRow) (idle held : Verdict) (full : Bool) → nat_le 16 (length past.held) ≡ full
    → Grows past (either full (past, idle) (with_held past row, held)).0
waiting_if past row idle held true is = stays past
waiting_if past row idle held false is = record {
  held = λ few. omega (arith, pushed past.held row, is_short (length past.held) is);
  charged = omega arith;
}

to_grows : (past : Past) (packet : Packet) (b : ActiveBearer) (enb : Option Peer)
    → Grows past (judged_to past packet b enb).0
to_grows past packet b None =
    waiting_if past (record { packet = packet; life = b.life }) (verdict.Idle b.life)
    (verdict.Held b.life (notice past packet.number b.ebi)) (nat_le 16 (length past.held)) refl
to_grows past packet b (Some peer) =
    tried_if past b false (length packet.octets) (verdict.Down b.life peer.addr (gpdu peer packet.octets))
    (passes past b false (length packet.octets))

down_grows : (past : Past) (packet : Packet) (found : Option ActiveBearer)
    → Grows past (judged_down past packet found).0
down_grows past packet None = stays past
down_grows past packet (Some b) = to_grows past packet b b.enb

way_grows : (past : Past) (packet : Packet) (way : Way) → Grows past (judged_by_way past packet way).0
way_grows past packet (Up index) = up_grows past packet.octets (bearer_at past.version.bearers index)
way_grows past packet Down = down_grows past packet (bearer_for past.version packet.octets)

now_if : (past : Past) (packet : Packet) (may : Bool)
    → Grows past (either may (judged_by_way past packet packet.way) (past, verdict.NoBearer)).0
now_if past packet true = way_grows past packet packet.way
now_if past packet false = stays past

judged_grows : (past : Past) (packet : Packet) → Grows past (judged past packet).0
judged_grows past packet =
    let grown = now_if (at_moment past packet.moment) packet (past.version.live && is_packet packet.octets) in
    record { held = grown.held; charged = grown.charged }

-- held packets that are looked at: each charges at most one thing
released_if : (so_far : Past × List Effect) (row : HeldRow) (b : ActiveBearer) (peer : Peer) (fits : Bool)
    → length (either fits
    (fated (with_row so_far.0 (row_for so_far.0 b false (length row.packet.octets)), so_far.1) row
    (fate.Down row.life peer.addr (gpdu peer row.packet.octets)))
    (fated so_far row (fate.Policed row.life))).0.charged ≤ length so_far.0.charged + 1
released_if so_far row b peer true =
    omega (arith, pushed so_far.0.charged (happening_for (row_for so_far.0 b false (length row.packet.octets))))
released_if so_far row b peer false = omega arith

released_to_grows : (so_far : Past × List Effect) (row : HeldRow) (b : ActiveBearer) (enb : Option Peer)
    → length (released_to so_far row b enb).0.charged ≤ length so_far.0.charged + 1
released_to_grows so_far row b None = omega arith
released_to_grows so_far row b (Some peer) =
    released_if so_far row b peer (passes so_far.0 b false (length row.packet.octets))

released_by_grows : (so_far : Past × List Effect) (row : HeldRow) (found : Option ActiveBearer)
    → length (released_by so_far row found).0.charged ≤ length so_far.0.charged + 1
released_by_grows so_far row None = omega arith
released_by_grows so_far row (Some b) = released_to_grows so_far row b b.enb

all_grow : (so_far : Past × List Effect) (rows : List HeldRow)
    → length (fold released so_far rows).0.charged ≤ length so_far.0.charged + length rows
all_grow so_far [] = omega arith
all_grow so_far (row ∷ rows) =
    let here : length (released so_far row).0.charged ≤ length so_far.0.charged + 1 =
    released_by_grows so_far row (bearer_of so_far.0.version.bearers row.life) in
    let behind : length (fold released (released so_far row) rows).0.charged
    ≤ length (released so_far row).0.charged + length rows = all_grow (released so_far row) rows in
    omega arith

-- what is filtered is no longer
filter_if : {X : Type 0} (fits : Bool) (x : X) (xs : List X) (most : ℕ) → length xs ≤ most
    → length (if fits then x ∷ xs else xs) ≤ most + 1
filter_if true x xs most few = omega arith
filter_if false x xs most few = omega arith

pub filter_few : {X : Type 0} (test : X → Bool) (xs : List X) → length (filter test xs) ≤ length xs
filter_few test [] = omega arith
filter_few test (x ∷ xs) = omega (arith, filter_if (test x) x (filter test xs) (length xs) (filter_few test xs))

-- the marks of a change
pub few_mapped : {X Y : Type 0} (f : X → Y) (test : X → Bool) (xs : List X) → length (map f (filter test xs)) ≤ length xs
few_mapped f test xs = omega (arith, length-map (filter test xs) f, filter_few test xs)

few_ended : (before after : List ActiveBearer) → length (ended before after) ≤ length before
few_ended before after =
    few_mapped (λ (b : ActiveBearer). closed b.life Gone) (λ (b : ActiveBearer). not (has_life after b.life)) before

pub few_cut : (was_set : Bool) (before after : List ActiveBearer) → length (cut was_set before after) ≤ length before
few_cut true before after =
    let shared = shared_with after before in
    let one : length (map (λ (b : ActiveBearer). closed b.life Qos) (filter shares_ambr shared)) ≤ length shared =
    few_mapped (λ (b : ActiveBearer). closed b.life Qos) shares_ambr shared in
    let two : length shared ≤ length before = filter_few (λ (b : ActiveBearer). has_life after b.life) before in
    omega arith
few_cut false before after = omega arith

few_begun : (before after : List ActiveBearer) → length (begun before after) ≤ length after
few_begun before after = few_mapped (λ (b : ActiveBearer). started b.life b.ebi b.qos.qci)
    (λ (b : ActiveBearer). not (has_life before b.life)) after

pub few_marks : (was_set : Bool) (before after : List ActiveBearer) → length before ≤ 11 → length after ≤ 11
    → length (marks_between was_set before after) ≤ 33
few_marks was_set before after few few_after =
    omega (
      arith,
      length-append (ended before after ++ cut was_set before after) (begun before after),
      length-append (ended before after) (cut was_set before after),
      few_ended before after,
      few_cut was_set before after,
      few_begun before after,
    )

-- a version
record Learns (past : Past) (after : VersionState) : Type 0 where
  held : length (learnt past after).0.held ≤ length past.held
  charged : length (learnt past after).0.charged ≤ length past.charged + 33 + length past.held

learns : (past : Past) (after : VersionState) → length past.version.bearers ≤ 11 → length after.bearers ≤ 11
    → Learns past after
learns past after few few_after =
    let start : Past × List Effect = (marked past after, markers past.version after) in
    let waiting : HeldRow → Bool = λ (row : HeldRow). waits after.bearers row.life in
    let held : (learnt past after).0.held ≡ filter waiting past.held = held_all start past.held in
    let all : length (learnt past after).0.charged ≤ length (marked past after).charged + length past.held =
    all_grow start past.held in
    let marked_are : length (marked past after).charged ≡ length past.charged + length (marks past.version after) =
    length-append past.charged (marks past.version after) in
    let marks_are : length (marks past.version after) ≤ 33 =
    few_marks (nat_lt past.version.rates after.rates) past.version.bearers after.bearers few few_after in
    record {
      held = rw held (filter_few waiting past.held);
      charged = omega arith;
    }

-- what every past keeps behind so many events
pub record AreFewAfter (count : ℕ) (past : SlotPast) : Type 0 where
  pub sound : IsSound past
  pub rise : Rise 0 past.session.bearers
  pub held : length past.packets.held ≤ 16
  pub charged : length past.packets.charged ≤ 49 * count

few_bearers : (past : SlotPast) → IsSound past → Rise 0 past.session.bearers → length past.packets.version.bearers ≤ 11
few_bearers past sound rise =
    subst (λ (v : VersionState). length v.bearers ≤ 11) (sym sound.version) (few_active past.session.bearers rise)

few_commanded : (count : ℕ) (past : SlotPast) (command : CommandKind) → AreFewAfter count past
    → AreFewAfter (count + 1) (commanded past command)
unfolding happens
few_commanded count past command few =
    let rise : Rise 0 (next_session past command).bearers = bearers_rise past.session command few.rise in
    let learning = learns past.packets (next_version past command) (few_bearers past few.sound few.rise)
    (few_active (next_session past command).bearers rise) in
    record {
      sound = behind_sound past (event.Command command) few.sound;
      rise = rise;
      held = omega (arith, learning.held, few.held);
      charged = omega (arith, learning.charged, few.charged, few.held);
    }

few_met : (count : ℕ) (past : SlotPast) (packet : Packet) → AreFewAfter count past
    → AreFewAfter (count + 1) (met past packet)
unfolding happens
few_met count past packet few =
    let grown = judged_grows past.packets packet in
    record {
      sound = behind_sound past (event.Packet packet) few.sound;
      rise = few.rise;
      held = grown.held few.held;
      charged = omega (arith, grown.charged, few.charged);
    }

few_behind : (count : ℕ) (past : SlotPast) (now : Event) → AreFewAfter count past
    → AreFewAfter (count + 1) (behind past now)
unfolding happens
few_behind count past (event.Command command) few = few_commanded count past command few
few_behind count past (event.Packet packet) few = few_met count past packet few

all_few : (count all : ℕ) (past : SlotPast) (events : List Event) → count + length events ≡ all
    → AreFewAfter count past → AreFewAfter all (fold behind past events)
all_few count all past [] is few = subst (λ n. AreFewAfter n past) (let same : count ≡ all = omega arith in same) few
all_few count all past (now ∷ later) is few =
    all_few (count + 1) all (behind past now) later (omega arith) (few_behind count past now few)

pub few_after : (slot : ℕ) (events : List Event) → AreFewAfter (length events) (past_of slot events)
few_after slot events =
    all_few 0 (length events) (new_slot slot) events (omega arith)
    (record { sound = new_sound slot; rise = tt; held = omega arith; charged = omega arith })

pub events_few : FewEventsAreFew
events_few slot events few = omega (arith, (few_after slot events).charged)

pub commands_follow : FewCommandsFollow
commands_follow slot events command few =
    let past = past_of slot events in
    let next = few_commanded (length events) past command (few_after slot events) in
    follows past command (past_sound slot events) (omega (arith, next.charged))

pub few_held : AtMostSixteenAreHeld
few_held slot events = (few_after slot events).held

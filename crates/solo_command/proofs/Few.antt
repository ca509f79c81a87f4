-- How much an event charges, and how many packets are held behind it.
use Rattle.std.proofs.Common.{◌≡◌, ℕ, ◌+◌, ◌-◌, ◌==◌, ◌≤◌, ◌&&◌, nat_le, nat_lt, Bool, true, false, if◌then◌else◌, List, [], ◌∷◌, length, fold, Option, Some, None, unwrap_or, refl, arith, length-append}
use Rattle.std.specs.List.{AllByRecursion}
use Rattle.pc_base.specs.Addresses.{addr_of}
use Rattle.pc_base.specs.declared.packet.Packet.{Packet}
use Rattle.pc_base.specs.declared.packet.Peer.{Peer}
use Rattle.pc_base.specs.declared.packet.Way.{Way}
use Rattle.pc_base.specs.declared.packet.Way.TheVariants.{Up, Down}
use Rattle.ipv4_packet.specs.Fields.{source_of}
use Rattle.rate_policer.specs.Buckets.{BucketState}
use Rattle.charging_book.specs.declared.records.Piece.{Piece}
use Rattle.bearer_state.specs.Bearer.{EachPair}
use Rattle.bearer_state.specs.declared.version.ActiveBearer.{ActiveBearer}
use Rattle.bearer_state.specs.Version.{IsActiveBearer, IsActiveBefore, IsVersion, VersionState, bearer_at}
use Rattle.packet_steps.specs.declared.plan.Plan.{Plan}
use Rattle.packet_steps.specs.declared.plan.Plan.TheVariants as plan
use Rattle.packet_steps.specs.Change.{marks}
use Rattle.packet_steps.specs.Meters.{learnt_meters}
use Rattle.packet_steps.specs.Rows.{HeldRow}
use Rattle.packet_steps.specs.Standing.{CountersState}
use Rattle.packet_steps.specs.Verdicts.{bearer_for, is_packet, message_for}
use Rattle.packet_steps.specs.Running.{Brought, brought, brought_at, brought_through, brought_to, brought_with, charge_of, charged_by, held_behind, left_for, planned, planned_by_way, planned_down, planned_into, planned_through, planned_to, planned_up, planned_waiting}
use Rattle.packet_steps.specs.Change as change
use Rattle.gate_model.proofs.FewCharges.{few_marks, is_short}
use Rattle.subscriber.specs.Charging.{AreWithin}

-- no count is above a higher number either
pub within_more : (most more : ℕ) (pieces : List Piece) → most ≤ more → AreWithin most pieces → AreWithin more pieces
within_more most more [] few within = tt
within_more most more (piece ∷ pieces) few within = (
  record {
    rows = omega (arith, within.0.rows);
    up = omega (arith, within.0.up);
    down = omega (arith, within.0.down);
  },
  within_more most more pieces few within.1,
)

-- ---- bearers of a version have different indices up to 10

above : (low : ℕ) (b : ActiveBearer) (others : List ActiveBearer) → AllByRecursion (IsActiveBefore b) others
    → AllByRecursion (λ (c : ActiveBearer). b.index + 1 ≤ c.index) others
above low b [] behind = tt
above low b (c ∷ others) behind = (omega (arith, behind.0.indices_rise), above low b others behind.1)

few_above : (low : ℕ) (bearers : List ActiveBearer) → AllByRecursion IsActiveBearer bearers
    → EachPair IsActiveBefore bearers → AllByRecursion (λ (c : ActiveBearer). low ≤ c.index) bearers
    → length bearers ≤ 11 - low
few_above low [] each apart high = omega arith
few_above low (b ∷ bearers) each apart high =
    let others : length bearers ≤ 11 - (b.index + 1) =
    few_above (b.index + 1) bearers each.1 apart.1 (above low b bearers apart.0) in
    omega (arith, high.0, each.0.index)

all_low : (bearers : List ActiveBearer) → AllByRecursion (λ (c : ActiveBearer). 0 ≤ c.index) bearers
all_low [] = tt
all_low (b ∷ bearers) = (omega arith, all_low bearers)

pub few_bearers : (version : VersionState) → IsVersion version → length version.bearers ≤ 11
few_bearers version ranges =
    omega (arith, few_above 0 version.bearers ranges.each ranges.apart (all_low version.bearers))

-- ---- what a version charges

one_more : (so_far : Brought) (row : HeldRow) (b : ActiveBearer) (peer : Peer) (at : ℕ) (left : Bool × BucketState)
    → length (brought_through so_far row b peer at left).charged ≤ length so_far.charged + 1
one_more so_far row b peer at (true, bucket) =
    omega (arith, length-append so_far.charged (charge_of b false (length row.packet.octets) at ∷ []))
one_more so_far row b peer at (false, bucket) = omega arith

to_more : (so_far : Brought) (row : HeldRow) (b : ActiveBearer) (at : ℕ) (enb : Option Peer)
    → length (brought_to so_far row b at enb).charged ≤ length so_far.charged + 1
to_more so_far row b at None = omega arith
to_more so_far row b at (Some peer) =
    one_more so_far row b peer at (left_for so_far.meters b false (length row.packet.octets) at)

at_more : (so_far : Brought) (row : HeldRow) (at : ℕ) (found : Option ActiveBearer)
    → length (brought_at at so_far row found).charged ≤ length so_far.charged + 1
at_more so_far row at None = omega arith
at_more so_far row at (Some b) = to_more so_far row b at b.enb

all_more : (bearers : List ActiveBearer) (at : ℕ) (so_far : Brought) (rows : List HeldRow)
    → length (fold (brought_with bearers at) so_far rows).charged ≤ length so_far.charged + length rows
all_more bearers at so_far [] = omega arith
all_more bearers at so_far (row ∷ rows) =
    let first : length (brought_with bearers at so_far row).charged ≤ length so_far.charged + 1 =
    at_more so_far row at (change.bearer_of bearers row.life) in
    let others : length (fold (brought_with bearers at) (brought_with bearers at so_far row) rows).charged
    ≤ length (brought_with bearers at so_far row).charged + length rows =
    all_more bearers at (brought_with bearers at so_far row) rows in
    omega arith

pub version_few : (before after : VersionState) (counters : CountersState) → IsVersion before → IsVersion after
    → length counters.held ≤ 16 → length (brought before after counters).charged ≤ 49
version_few before after counters ranges ranges_after few =
    let start : Brought = record {
      meters = learnt_meters before after counters.meters;
      charged = marks before after;
      effects = change.markers before after;
    } in
    let marked : length (marks before after) ≤ 33 =
    few_marks (nat_lt before.rates after.rates) before.bearers after.bearers (few_bearers before ranges)
    (few_bearers after ranges_after) in
    let all : length (brought before after counters).charged ≤ length (marks before after) + length counters.held =
    all_more after.bearers (unwrap_or counters.last 0) start counters.held in
    omega arith

-- ---- what a packet charges, and the packets that are held behind it

pub packet_few : (p : Plan) (at : ℕ) → length (charged_by p at) ≤ 1
packet_few plan.NoBearer at = omega arith
packet_few plan.Spoof at = omega arith
packet_few (plan.Idle life) at = omega arith
packet_few (plan.Hold life message) at = omega arith
packet_few (plan.Policed b up bucket) at = omega arith
packet_few (plan.Up b bucket len) at = omega arith
packet_few (plan.Down b peer bucket len) at = omega arith

abbrev HoldsFew : Packet → List HeldRow → Plan → Type 0
HoldsFew packet held p = length (held_behind p packet held) ≤ 16

through_few : (packet : Packet) (held : List HeldRow) (b : ActiveBearer) (len : ℕ) (left : Bool × BucketState)
    → length held ≤ 16 → HoldsFew packet held (planned_through b len left)
through_few packet held b len (true, bucket) few = few
through_few packet held b len (false, bucket) few = few

up_if : (packet : Packet) (held : List HeldRow) (p : Plan) (own : Bool) → length held ≤ 16
    → HoldsFew packet held p → HoldsFew packet held (if own then p else plan.Spoof)
up_if packet held p true few fits = fits
up_if packet held p false few fits = few

up_few : (version : VersionState) (counters : CountersState) (packet : Packet) (found : Option ActiveBearer)
    → length counters.held ≤ 16
    → HoldsFew packet counters.held (planned_up version counters.meters packet.moment packet.octets found)
up_few version counters packet None few = few
up_few version counters packet (Some b) few =
    up_if packet counters.held
    (planned_through b (length packet.octets)
    (left_for counters.meters b true (length packet.octets) packet.moment))
    (source_of packet.octets == addr_of version.slot) few
    (through_few packet counters.held b (length packet.octets)
    (left_for counters.meters b true (length packet.octets) packet.moment) few)

waiting_if : (packet : Packet) (held : List HeldRow) (idle hold : Plan) (full : Bool)
    → (full ≡ true → HoldsFew packet held idle) → (full ≡ false → HoldsFew packet held hold)
    → HoldsFew packet held (if full then idle else hold)
waiting_if packet held idle hold true one other = one refl
waiting_if packet held idle hold false one other = other refl

waiting_few : (version : VersionState) (packet : Packet) (held : List HeldRow) (b : ActiveBearer) → length held ≤ 16
    → HoldsFew packet held (planned_waiting version held packet.number b)
waiting_few version packet held b few =
    waiting_if packet held (plan.Idle b.life) (plan.Hold b.life (message_for version held packet.number b.ebi))
    (nat_le 16 (length held)) (λ is. few)
    (λ is. omega (arith, length-append held (record { packet = packet; life = b.life } ∷ []), is_short (length held) is))

into_few : (packet : Packet) (held : List HeldRow) (b : ActiveBearer) (peer : Peer) (len : ℕ)
    (left : Bool × BucketState) → length held ≤ 16 → HoldsFew packet held (planned_into b peer len left)
into_few packet held b peer len (true, bucket) few = few
into_few packet held b peer len (false, bucket) few = few

to_few : (version : VersionState) (counters : CountersState) (packet : Packet) (b : ActiveBearer) (enb : Option Peer)
    → length counters.held ≤ 16 → HoldsFew packet counters.held (planned_to version counters packet b enb)
to_few version counters packet b None few = waiting_few version packet counters.held b few
to_few version counters packet b (Some peer) few =
    into_few packet counters.held b peer (length packet.octets)
    (left_for counters.meters b false (length packet.octets) packet.moment) few

down_few : (version : VersionState) (counters : CountersState) (packet : Packet) (found : Option ActiveBearer)
    → length counters.held ≤ 16 → HoldsFew packet counters.held (planned_down version counters packet found)
down_few version counters packet None few = few
down_few version counters packet (Some b) few = to_few version counters packet b b.enb few

way_few : (version : VersionState) (counters : CountersState) (packet : Packet) (way : Way)
    → length counters.held ≤ 16 → HoldsFew packet counters.held (planned_by_way version counters packet way)
way_few version counters packet (Up index) few =
    up_few version counters packet (bearer_at version.bearers index) few
way_few version counters packet Down few =
    down_few version counters packet (bearer_for version packet.octets) few

now_if : (packet : Packet) (held : List HeldRow) (p : Plan) (may : Bool) → length held ≤ 16
    → HoldsFew packet held p → HoldsFew packet held (if may then p else plan.NoBearer)
now_if packet held p true few fits = fits
now_if packet held p false few fits = few

pub held_few : (version : VersionState) (counters : CountersState) (packet : Packet) → length counters.held ≤ 16
    → length (held_behind (planned version counters packet) packet counters.held) ≤ 16
held_few version counters packet few =
    now_if packet counters.held (planned_by_way version counters packet packet.way)
    (version.live && is_packet packet.octets) few
    (way_few version counters packet packet.way few)

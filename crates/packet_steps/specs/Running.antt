-- What a packet and a new version make of running counters by what these hold alone: their buckets, their last pieces,
-- the packets that they hold and the moment of the last one. So it is also said of counters that were made of parts,
-- of which no past may be known.
use Rattle.std.specs.Prelude.{◌≡◌, ℕ, ◌==◌, ◌&&◌, nat_le, max, Bool, true, false, if◌then◌else◌, List, [], ◌∷◌, ◌++◌}
use Rattle.std.specs.Prelude.{length, map, filter, fold, Option, Some, None, unwrap_or}
use Rattle.pc_base.specs.Addresses.{addr_of}
use Rattle.pc_base.specs.declared.packet.Packet.{Packet}
use Rattle.pc_base.specs.declared.packet.Peer.{Peer}
use Rattle.pc_base.specs.declared.packet.Way.{Way}
use Rattle.pc_base.specs.declared.packet.Way.TheVariants.{Up, Down}
use Rattle.pc_base.specs.declared.effect.Effect.{Effect}
use Rattle.pc_base.specs.declared.effect.Effect.TheVariants as effect
use Rattle.pc_base.specs.declared.effect.Fate.{Fate}
use Rattle.pc_base.specs.declared.effect.Fate.TheVariants as fate
use Rattle.rate_policer.specs.declared.cost.Cost.{Cost}
use Rattle.rate_policer.specs.Conforming.{cost_of}
use Rattle.rate_policer.specs.Buckets.{BucketState, lets_through, asked}
use Rattle.charging_book.specs.Happenings.{Happening, forwarded}
use Rattle.charging_book.specs.Postings.{happening_of}
use Rattle.charging_book.specs.Posted.{GoesFar}
use Rattle.ipv4_packet.specs.Fields.{source_of}
use Rattle.bearer_state.specs.declared.version.ActiveBearer.{ActiveBearer}
use Rattle.bearer_state.specs.Version.{VersionState, bearer_at}
use Rattle.packet_steps.specs.declared.plan.Plan.{Plan}
use Rattle.packet_steps.specs.declared.plan.Plan.TheVariants as plan
use Rattle.packet_steps.specs.declared.releasing.Release.{Release}
use Rattle.packet_steps.specs.Rows.{HeldRow}
use Rattle.packet_steps.specs.Messages.{gpdu}
use Rattle.packet_steps.specs.Verdicts.{message_for, bearer_for, is_packet}
use Rattle.packet_steps.specs.Change.{bearer_of, waits, marks, markers}
use Rattle.packet_steps.specs.Meters.{MetersState, in_use, bucket_for, put_bucket, learnt_meters}
use Rattle.packet_steps.specs.Standing.{CountersState}

-- octets ask a bucket at a moment, or at that of its last ask where this is later
abbrev pub cost_in : BucketState → ℕ → ℕ → Cost
cost_in bucket octets at = cost_of octets (max at bucket.last)

-- they pass where their cost is within the level, and are taken off it: whether they do, and the bucket that is left
abbrev pub left_of : BucketState → ℕ → ℕ → Bool × BucketState
left_of bucket octets at =
    (lets_through bucket (cost_in bucket octets at), asked bucket (cost_in bucket octets at))

abbrev pub left_for : MetersState → ActiveBearer → Bool → ℕ → ℕ → Bool × BucketState
left_for meters bearer up octets at = left_of (bucket_for meters bearer up) octets at

-- what is to become of a packet, by what trying it came to
abbrev pub planned_through : ActiveBearer → ℕ → Bool × BucketState → Plan
planned_through bearer len tried =
    if tried.0 then plan.Up bearer tried.1 len else plan.Policed bearer true tried.1

abbrev pub planned_up : VersionState → MetersState → ℕ → List ℕ → Option ActiveBearer → Plan
planned_up version meters at octets None = plan.NoBearer
planned_up version meters at octets (Some bearer) =
    if source_of octets == addr_of version.slot
    then planned_through bearer (length octets) (left_for meters bearer true (length octets) at)
    else plan.Spoof

abbrev pub planned_into : ActiveBearer → Peer → ℕ → Bool × BucketState → Plan
planned_into bearer peer len tried =
    if tried.0 then plan.Down bearer peer tried.1 len else plan.Policed bearer false tried.1

abbrev pub planned_waiting : VersionState → List HeldRow → ℕ → ActiveBearer → Plan
planned_waiting version held number bearer =
    if nat_le 16 (length held) then plan.Idle bearer.life
    else plan.Hold bearer.life (message_for version held number bearer.ebi)

abbrev pub planned_to : VersionState → CountersState → Packet → ActiveBearer → Option Peer → Plan
planned_to version counters packet bearer None = planned_waiting version counters.held packet.number bearer
planned_to version counters packet bearer (Some peer) =
    let len = length packet.octets in
    planned_into bearer peer len (left_for counters.meters bearer false len packet.moment)

abbrev pub planned_down : VersionState → CountersState → Packet → Option ActiveBearer → Plan
planned_down version counters packet None = plan.NoBearer
planned_down version counters packet (Some bearer) = planned_to version counters packet bearer bearer.enb

abbrev pub planned_by_way : VersionState → CountersState → Packet → Way → Plan
planned_by_way version counters packet (Up index) =
    planned_up version counters.meters packet.moment packet.octets (bearer_at version.bearers index)
planned_by_way version counters packet Down =
    planned_down version counters packet (bearer_for version packet.octets)

abbrev pub planned : VersionState → CountersState → Packet → Plan
planned version counters packet =
    if version.live && is_packet packet.octets then planned_by_way version counters packet packet.way
    else plan.NoBearer

-- the buckets behind what was planned · the packets that are held · what the book hears of it
abbrev pub meters_behind : Plan → MetersState → MetersState
meters_behind plan.NoBearer meters = meters
meters_behind plan.Spoof meters = meters
meters_behind (plan.Idle life) meters = meters
meters_behind (plan.Hold life message) meters = meters
meters_behind (plan.Policed bearer up bucket) meters = put_bucket meters bearer up bucket
meters_behind (plan.Up bearer bucket len) meters = put_bucket meters bearer true bucket
meters_behind (plan.Down bearer peer bucket len) meters = put_bucket meters bearer false bucket

abbrev pub held_behind : Plan → Packet → List HeldRow → List HeldRow
held_behind plan.NoBearer packet held = held
held_behind plan.Spoof packet held = held
held_behind (plan.Idle life) packet held = held
held_behind (plan.Hold life message) packet held = held ++ record { packet = packet; life = life } ∷ []
held_behind (plan.Policed bearer up bucket) packet held = held
held_behind (plan.Up bearer bucket len) packet held = held
held_behind (plan.Down bearer peer bucket len) packet held = held

abbrev pub charge_of : ActiveBearer → Bool → ℕ → ℕ → Happening
charge_of bearer up octets at = forwarded bearer.life (record { up = up; octets = octets; at = at })

abbrev pub charged_by : Plan → ℕ → List Happening
charged_by plan.NoBearer at = []
charged_by plan.Spoof at = []
charged_by (plan.Idle life) at = []
charged_by (plan.Hold life message) at = []
charged_by (plan.Policed bearer up bucket) at = []
charged_by (plan.Up bearer bucket len) at = charge_of bearer true len at ∷ []
charged_by (plan.Down bearer peer bucket len) at = charge_of bearer false len at ∷ []

-- counters go on by what was planned of a packet
pub record GoesOn (plan_ : Plan) (packet : Packet) (old new : CountersState) : Type 0 where
  pub meters : new.meters ≡ meters_behind plan_ old.meters
  pub book : GoesFar old.book new.book (charged_by plan_ packet.moment)
  pub held : new.held ≡ held_behind plan_ packet old.held
  pub last : new.last ≡ Some packet.moment

-- what a new version has brought so far: the buckets, what the book hears of it, the effects
pub record Brought : Type 0 where
  pub meters : MetersState
  pub charged : List Happening
  pub effects : List Effect

abbrev pub brought_by : Release → Brought
brought_by release = record {
  meters = in_use release.meters;
  charged = map happening_of release.postings.items;
  effects = release.effects.items;
}

abbrev pub with_fate : Brought → HeldRow → Fate → Brought
with_fate so_far row fate_ = record {
  meters = so_far.meters;
  charged = so_far.charged;
  effects = so_far.effects ++ effect.Fate row.packet.number fate_ ∷ [];
}

-- a held packet is tried for its bearer's eNodeB at a moment: its bucket is put back, also where it doesn't pass
abbrev pub with_put : Brought → ActiveBearer → BucketState → Brought
with_put so_far bearer bucket = record so_far { meters = put_bucket so_far.meters bearer false bucket }

abbrev pub with_charge : Brought → HeldRow → ActiveBearer → ℕ → Brought
with_charge so_far row bearer at = record so_far {
  charged = so_far.charged ++ charge_of bearer false (length row.packet.octets) at ∷ [];
}

abbrev pub brought_through : Brought → HeldRow → ActiveBearer → Peer → ℕ → Bool × BucketState → Brought
brought_through so_far row bearer peer at tried =
    let put = with_put so_far bearer tried.1 in
    if tried.0
    then with_fate (with_charge put row bearer at) row (fate.Down row.life peer.addr (gpdu peer row.packet.octets))
    else with_fate put row (fate.Policed row.life)

abbrev pub brought_to : Brought → HeldRow → ActiveBearer → ℕ → Option Peer → Brought
brought_to so_far row bearer at None = so_far
brought_to so_far row bearer at (Some peer) =
    brought_through so_far row bearer peer at (left_for so_far.meters bearer false (length row.packet.octets) at)

abbrev pub brought_at : ℕ → Brought → HeldRow → Option ActiveBearer → Brought
brought_at at so_far row None = with_fate so_far row (fate.Gone row.life)
brought_at at so_far row (Some bearer) = brought_to so_far row bearer at bearer.enb

abbrev pub brought_with : List ActiveBearer → ℕ → Brought → HeldRow → Brought
brought_with bearers at so_far row = brought_at at so_far row (bearer_of bearers row.life)

-- all that it brings: its marks and markers, then what becomes of the held packets, at the moment of the last packet
abbrev pub brought : VersionState → VersionState → CountersState → Brought
brought before after counters =
    fold (brought_with after.bearers (unwrap_or counters.last 0)) (record {
      meters = learnt_meters before after counters.meters;
      charged = marks before after;
      effects = markers before after;
    }) counters.held

-- counters go on by a new version
pub record Advances (before after : VersionState) (old new : CountersState) : Type 0 where
  pub meters : new.meters ≡ (brought before after old).meters
  pub book : GoesFar old.book new.book (brought before after old).charged
  pub held : new.held ≡ filter (λ (row : HeldRow). waits after.bearers row.life) old.held
  pub last : new.last ≡ old.last

-- What is remembered of packets in range is in range, and so are verdicts and effects.
use Rattle.std.proofs.Common.{◌≡◌, ℕ, ◌%◌, ◌<◌, ◌^◌, ◌==◌, ◌&&◌, nat_le, nat_lt, Bool, true, false, if◌then◌else◌, Option, None, Some, IfSome, List, [], ◌∷◌, ◌++◌, length, map, filter, find, fold, refl, arith}
use Rattle.std.specs.List.{AllByRecursion, flat_map}
use Rattle.std.specs.Option.{option_and_then, option_map, unwrap_or}
use Rattle.std.proofs.lemmas.List.Elements.{All-from_recursion}
use Rattle.bearer_state.specs.Version.{VersionState, bearer_at}
use Rattle.bearer_state.specs.declared.version.ActiveBearer.{ActiveBearer}
use Rattle.charging_book.specs.Happenings.{started, closed}
use Rattle.charging_book.specs.declared.records.Why.TheVariants.{Qos, Gone}
use Rattle.gtpv2_ie.specs.declared.value.IeValue.TheVariants.{Ebi}
use Rattle.ipv4_packet.specs.Fields.{source_of}
use Rattle.packet_steps.specs.Change.{bearer_of, begun, cut, ended, enb_of, fated, lacking_in, learnt, marked, marker_between, marker_for, markers, marks, released, released_by, released_to, same_peer, shared_with, shares_ambr}
use Rattle.packet_steps.specs.Messages.{end_marker, gpdu, notification}
use Rattle.packet_steps.specs.Past.{Past, happening_for, row_for, with_held, with_row}
use Rattle.packet_steps.specs.Policing.{passes}
use Rattle.packet_steps.specs.Rows.{HeldRow}
use Rattle.packet_steps.specs.Verdicts.{at_moment, bearer_for, is_packet, judged, judged_by_way, judged_down, judged_to, judged_up, notice, tried}
use Rattle.pc_base.specs.Addresses.{addr_of}
use Rattle.pc_base.specs.declared.effect.Effect.{Effect}
use Rattle.pc_base.specs.declared.effect.Effect.TheVariants as effect
use Rattle.pc_base.specs.declared.effect.Fate.{Fate}
use Rattle.pc_base.specs.declared.effect.Fate.TheVariants as fate
use Rattle.pc_base.specs.declared.packet.Packet.{Packet}
use Rattle.pc_base.specs.declared.packet.Peer.{Peer}
use Rattle.pc_base.specs.declared.packet.Verdict.{Verdict}
use Rattle.pc_base.specs.declared.packet.Verdict.TheVariants as verdict
use Rattle.pc_base.specs.declared.packet.Way.{Way}
use Rattle.pc_base.specs.declared.packet.Way.TheVariants.{Up, Down}
use Rattle.report_lines.specs.Ranges.{IsEffect, IsFate, IsOctets, IsVerdict}
use Rattle.tft_match.specs.Chosen.{chosen}
use Rattle.wire_octets.specs.Numbers.{be16_octets, be32_octets}
use Rattle.demux.specs.Ranges.{HasAddress, IsOctet}
use Rattle.demux.proofs.MessagesSmall.{message_small}
use Rattle.lawful_run.specs.Ranges.{ActiveIn, HappeningIn, HeldIn, PacketIn, PacketsIn}
use Rattle.lawful_run.proofs.Octets.{gpdu_some, marker_some, notification_some, packet_some}
use Rattle.demux.proofs.Small.{Small, be16_small, be32_small, both, each_append}

-- octets of messages
are_octets : (octets : List ℕ) → 0 < length octets → Small octets → IsOctets octets
are_octets octets some small = (some, All-from_recursion IsOctet octets small)

gpdu_small : (peer : Peer) (packet : List ℕ) → Small packet → Small (gpdu peer packet)
unfolding gpdu
gpdu_small peer packet small = (
  omega arith,
  (
    omega arith,
    both (be16_octets (length packet) ++ be32_octets peer.teid) packet
        (both (be16_octets (length packet)) (be32_octets peer.teid) (be16_small (length packet))
        (be32_small peer.teid)) small,
  ),
)

marker_small : (peer : Peer) → Small (end_marker peer)
unfolding end_marker
marker_small peer = (omega arith, (omega arith, both (be16_octets 0) (be32_octets peer.teid) (be16_small 0) (be32_small peer.teid)))

notification_small : (mme : Peer) (number ebi : ℕ) → IsOctet ebi → Small (notification mme number ebi)
unfolding notification
notification_small mme number ebi is =
    message_small (record {
      kind = 176;
      teid = Some mme.teid;
      seq = number % 2 ^ 23;
      ies = record { instance = 0; value = Ebi ebi } ∷ [];
    }) (omega arith) ((omega arith, is), tt)

gpdu_is : (peer : Peer) (packet : List ℕ) → Small packet → IsOctets (gpdu peer packet)
gpdu_is peer packet small = are_octets (gpdu peer packet) (gpdu_some peer packet) (gpdu_small peer packet small)

-- lists
pub found_each : {X : Type 0} (P : X → Type 0) (test : X → Bool) (xs : List X) → AllByRecursion P xs
    → IfSome (find test xs) P
found_each P test [] all = tt
found_each {X} P test (x ∷ xs) all = by_first (test x) (found_each P test xs all.1)
  where
    by_first : (is : Bool) → IfSome (find test xs) P → IfSome (if is then Some x else find test xs) P
    by_first true rest = all.0
    by_first false rest = rest

filtered : {X : Type 0} (P : X → Type 0) (test : X → Bool) (xs : List X) → AllByRecursion P xs
    → AllByRecursion P (filter test xs)
filtered P test [] all = tt
filtered {X} P test (x ∷ xs) all = by_first (test x) (filtered P test xs all.1)
  where
    by_first : (is : Bool) → AllByRecursion P (filter test xs)
        → AllByRecursion P (if is then x ∷ filter test xs else filter test xs)
    by_first true rest = (all.0, rest)
    by_first false rest = rest

mapped : {X Y : Type 0} (P : X → Type 0) (Q : Y → Type 0) (f : X → Y) → ((x : X) → P x → Q (f x)) → (xs : List X)
    → AllByRecursion P xs → AllByRecursion Q (map f xs)
mapped P Q f step [] all = tt
mapped P Q f step (x ∷ xs) all = (step x all.0, mapped P Q f step xs all.1)

-- one row more
moment_in : (last : Option ℕ) → IfSome last (λ at. at < 2 ^ 50) → unwrap_or last 0 < 2 ^ 50
moment_in None is = omega arith
moment_in (Some at) is = is

row_in : (past : Past) (b : ActiveBearer) (up : Bool) (many : ℕ) → PacketsIn past → ActiveIn b → many < 2 ^ 16
    → PacketsIn (with_row past (row_for past b up many))
row_in past b up many is own few = record {
  bearers = is.bearers;
  held = is.held;
  last = is.last;
  charged = each_append HappeningIn past.charged (happening_for (row_for past b up many) ∷ []) is.charged (
    (own.life, few, moment_in past.last is.last),
    tt,
  );
}

held_in : (past : Past) (row : HeldRow) → PacketsIn past → HeldIn row → PacketsIn (with_held past row)
held_in past row is own = record {
  bearers = is.bearers;
  held = each_append HeldIn past.held (row ∷ []) is.held (own, tt);
  last = is.last;
  charged = is.charged;
}

-- verdicts
abbrev OutcomeIn : Past × Verdict → Type 0
OutcomeIn outcome = PacketsIn outcome.0 × IsVerdict outcome.1

by_test : (test : Bool) (one other : Past × Verdict) → OutcomeIn one → OutcomeIn other
    → OutcomeIn (if test then one else other)
by_test true one other first second = first
by_test false one other first second = second

tried_in : (past : Past) (b : ActiveBearer) (up : Bool) (many : ℕ) (passed : Verdict) → PacketsIn past → ActiveIn b
    → many < 2 ^ 16 → IsVerdict passed → OutcomeIn (tried past b up many passed)
tried_in past b up many passed is own few verdict_is =
    let wide : b.life < 2 ^ 64 = omega (arith, own.life) in
    by_test (passes past b up many) (with_row past (row_for past b up many), passed) (past, verdict.Policed b.life)
    (row_in past b up many is own few, verdict_is) (is, wide)

up_in : (past : Past) (packet : List ℕ) (b : Option ActiveBearer) → PacketsIn past → IfSome b ActiveIn → Small packet
    → 0 < length packet → length packet < 2 ^ 16 → OutcomeIn (judged_up past packet b)
up_in past packet None is own small some few = (is, tt)
up_in past packet (Some b) is own small some few =
    let wide : b.life < 2 ^ 64 = omega (arith, own.life) in
    by_test (source_of packet == addr_of past.version.slot)
    (tried past b true (length packet) (verdict.Up b.life packet)) (past, verdict.Spoof)
    (tried_in past b true (length packet) (verdict.Up b.life packet) is own few
    (wide, are_octets packet some small)) (is, tt)

mme_in : (mme : Option Peer) (number ebi : ℕ) → IsOctet ebi
    → IfSome (option_map (λ (peer : Peer). notification peer number ebi) mme) IsOctets
mme_in None number ebi is = tt
mme_in (Some peer) number ebi is =
    are_octets (notification peer number ebi) (notification_some peer number ebi)
    (notification_small peer number ebi is)

if_in : (test : Bool) (message : Option (List ℕ)) → IfSome message IsOctets
    → IfSome (if test then message else None) IsOctets
if_in true message is = is
if_in false message is = tt

to_in : (past : Past) (packet : Packet) (b : ActiveBearer) (peer : Option Peer) → PacketsIn past → ActiveIn b
    → PacketIn packet → 0 < length packet.octets → IfSome peer HasAddress
    → OutcomeIn (judged_to past packet b peer)
to_in past packet b None is own in_range some to =
    let wide : b.life < 2 ^ 64 = omega (arith, own.life) in
    by_test (nat_le 16 (length past.held)) (past, verdict.Idle b.life) (
      with_held past (record { packet = packet; life = b.life }),
      verdict.Held b.life (notice past packet.number b.ebi),
    ) (is, wide) (
      held_in past (record { packet = packet; life = b.life }) is
          (record { packet = in_range; some = some; life = own.life }),
      (
        wide,
        if_in (length past.held == 0)
            (option_map (λ (mme : Peer). notification mme packet.number b.ebi) past.version.mme)
            (mme_in past.version.mme packet.number b.ebi own.ebi),
      ),
    )
to_in past packet b (Some peer) is own in_range some to =
    let wide : b.life < 2 ^ 64 = omega (arith, own.life) in
    tried_in past b false (length packet.octets) (verdict.Down b.life peer.addr (gpdu peer packet.octets)) is own
    in_range.short (wide, to, gpdu_is peer packet.octets in_range.octets)

down_in : (past : Past) (packet : Packet) (b : Option ActiveBearer) → PacketsIn past → IfSome b ActiveIn
    → PacketIn packet → 0 < length packet.octets → OutcomeIn (judged_down past packet b)
down_in past packet None is own in_range some = (is, tt)
down_in past packet (Some b) is own in_range some = to_in past packet b b.enb is own in_range some own.enb

chosen_in : (bearers : List ActiveBearer) (index : Option ℕ) → AllByRecursion ActiveIn bearers
    → IfSome (option_and_then (bearer_at bearers) index) ActiveIn
chosen_in bearers None all = tt
chosen_in bearers (Some index) all = found_each ActiveIn (λ (b : ActiveBearer). b.index == index) bearers all

way_in : (past : Past) (packet : Packet) (way : Way) → PacketsIn past → PacketIn packet → 0 < length packet.octets
    → OutcomeIn (judged_by_way past packet way)
way_in past packet (Up index) is in_range some =
    up_in past packet.octets (bearer_at past.version.bearers index) is
    (found_each ActiveIn (λ (b : ActiveBearer). b.index == index) past.version.bearers is.bearers) in_range.octets some
    in_range.short
way_in past packet Down is in_range some =
    down_in past packet (bearer_for past.version packet.octets) is
    (chosen_in past.version.bearers (chosen past.version.rows packet.octets) is.bearers) in_range some

now_in : (past : Past) (packet : Packet) (live one : Bool) → is_packet packet.octets ≡ one → PacketsIn past
    → PacketIn packet
    → OutcomeIn (if live && one then judged_by_way past packet packet.way else (past, verdict.NoBearer))
now_in past packet true true same is in_range =
    way_in past packet packet.way is in_range (packet_some packet.octets same)
now_in past packet true false same is in_range = (is, tt)
now_in past packet false one same is in_range = (is, tt)

pub judged_in : (past : Past) (packet : Packet) → PacketsIn past → PacketIn packet → OutcomeIn (judged past packet)
judged_in past packet is in_range =
    now_in (at_moment past packet.moment) packet past.version.live (is_packet packet.octets) refl (record {
      bearers = is.bearers;
      held = is.held;
      last = in_range.moment;
      charged = is.charged;
    }) in_range

-- effects
abbrev pub SoFarIn : Past × List Effect → Type 0
SoFarIn so_far = PacketsIn so_far.0 × AllByRecursion IsEffect so_far.1

fated_in : (so_far : Past × List Effect) (row : HeldRow) (now : Fate) → SoFarIn so_far → HeldIn row → IsFate now
    → SoFarIn (fated so_far row now)
fated_in so_far row now is own fate_is =
    let wide : row.packet.number < 2 ^ 64 = omega (arith, own.packet.number) in
    (is.0, each_append IsEffect so_far.1 (effect.Fate row.packet.number now ∷ []) is.1 ((wide, fate_is), tt))

by_pass : (test : Bool) (one other : Past × List Effect) → SoFarIn one → SoFarIn other
    → SoFarIn (if test then one else other)
by_pass true one other first second = first
by_pass false one other first second = second

released_to_in : (so_far : Past × List Effect) (row : HeldRow) (b : ActiveBearer) (peer : Option Peer)
    → SoFarIn so_far → HeldIn row → ActiveIn b → IfSome peer HasAddress → SoFarIn (released_to so_far row b peer)
released_to_in so_far row b None is own active to = (held_in so_far.0 row is.0 own, is.1)
released_to_in so_far row b (Some peer) is own active to =
    let wide : row.life < 2 ^ 64 = omega (arith, own.life) in
    let many : ℕ = length row.packet.octets in
    by_pass (passes so_far.0 b false many)
    (fated (with_row so_far.0 (row_for so_far.0 b false many), so_far.1) row
    (fate.Down row.life peer.addr (gpdu peer row.packet.octets))) (fated so_far row (fate.Policed row.life))
    (fated_in (with_row so_far.0 (row_for so_far.0 b false many), so_far.1) row
    (fate.Down row.life peer.addr (gpdu peer row.packet.octets))
    (row_in so_far.0 b false many is.0 active own.packet.short, is.1) own
    (wide, to, gpdu_is peer row.packet.octets own.packet.octets))
    (fated_in so_far row (fate.Policed row.life) is own wide)

released_by_in : (so_far : Past × List Effect) (row : HeldRow) (found : Option ActiveBearer) → SoFarIn so_far
    → HeldIn row → IfSome found ActiveIn → SoFarIn (released_by so_far row found)
released_by_in so_far row None is own active =
    let wide : row.life < 2 ^ 64 = omega (arith, own.life) in fated_in so_far row (fate.Gone row.life) is own wide
released_by_in so_far row (Some b) is own active = released_to_in so_far row b b.enb is own active active.enb

all_released : (so_far : Past × List Effect) (rows : List HeldRow) → SoFarIn so_far → AllByRecursion HeldIn rows
    → SoFarIn (fold released so_far rows)
all_released so_far [] is all = is
all_released so_far (row ∷ rows) is all =
    all_released (released so_far row) rows
    (released_by_in so_far row (bearer_of so_far.0.version.bearers row.life) is all.0
    (found_each ActiveIn (λ (b : ActiveBearer). b.life == row.life) so_far.0.version.bearers is.0.bearers)) all.1

between_in : (life : ℕ) (old new : Option Peer) → life < 2 ^ 64 → IfSome old HasAddress
    → AllByRecursion IsEffect (marker_between life old new)
between_in life None new wide is = tt
between_in life (Some old) None wide is = tt
between_in life (Some old) (Some new) wide is = by_peer (same_peer old new)
  where
    by_peer : (same : Bool)
        → AllByRecursion IsEffect (if same then [] else effect.Marker life old.addr (end_marker old) ∷ [])
    by_peer true = tt
    by_peer false = ((wide, is, are_octets (end_marker old) (marker_some old) (marker_small old)), tt)

markers_in : (after : VersionState) (bearers : List ActiveBearer) → AllByRecursion ActiveIn bearers
    → AllByRecursion IsEffect (flat_map (marker_for after) bearers)
markers_in after [] all = tt
markers_in after (b ∷ bearers) all =
    let active : ActiveIn b = all.0 in
    let wide : b.life < 2 ^ 64 = omega (arith, active.life) in
    each_append IsEffect (marker_for after b) (flat_map (marker_for after) bearers)
    (between_in b.life b.enb (enb_of after.bearers b.life) wide active.enb) (markers_in after bearers all.1)

-- what the book hears
cut_in : (was_set : Bool) (before after : List ActiveBearer) → AllByRecursion ActiveIn before
    → AllByRecursion HappeningIn (cut was_set before after)
cut_in true before after all =
    mapped ActiveIn HappeningIn (λ (b : ActiveBearer). closed b.life Qos) (λ b is. is.life)
    (filter shares_ambr (shared_with after before)) (filtered ActiveIn shares_ambr (shared_with after before)
    (filtered ActiveIn _ before all))
cut_in false before after all = tt

marks_in : (before after : VersionState) → AllByRecursion ActiveIn before.bearers
    → AllByRecursion ActiveIn after.bearers → AllByRecursion HappeningIn (marks before after)
marks_in before after old new =
    let was_set : Bool = nat_lt before.rates after.rates in
    each_append HappeningIn (ended before.bearers after.bearers ++ cut was_set before.bearers after.bearers)
    (begun before.bearers after.bearers)
    (each_append HappeningIn (ended before.bearers after.bearers) (cut was_set before.bearers after.bearers)
    (mapped ActiveIn HappeningIn (λ (b : ActiveBearer). closed b.life Gone) (λ b is. is.life)
    (lacking_in after.bearers before.bearers) (filtered ActiveIn _ before.bearers old))
    (cut_in was_set before.bearers after.bearers old))
    (mapped ActiveIn HappeningIn (λ (b : ActiveBearer). started b.life b.ebi b.qos.qci) (λ b is. (is.life, is.ebi, is.qci))
    (lacking_in before.bearers after.bearers) (filtered ActiveIn _ after.bearers new))

pub learnt_in : (past : Past) (after : VersionState) → PacketsIn past → AllByRecursion ActiveIn after.bearers
    → SoFarIn (learnt past after)
learnt_in past after is new =
    all_released (marked past after, markers past.version after) past.held (
      record {
        bearers = new;
        held = tt;
        last = is.last;
        charged = each_append HappeningIn past.charged (marks past.version after) is.charged
            (marks_in past.version after is.bearers new);
      },
      markers_in after past.version.bearers is.bearers,
    ) is.held

-- Counters that are alike plan alike for a packet, and stay alike behind it.
use Rattle.std.proofs.Common.{◌≡◌, ℕ, ◌==◌, ◌&&◌, nat_le, Bool, true, false, cond, List, ◌++◌, length, Option, Some, None, refl, sym, ap, ◌∙◌, subst}
use Rattle.std.specs.List.{Contains}
use Rattle.pc_base.specs.Addresses.{addr_of}
use Rattle.pc_base.specs.declared.packet.Packet.{Packet}
use Rattle.pc_base.specs.declared.packet.Peer.{Peer}
use Rattle.pc_base.specs.declared.packet.Way.{Way}
use Rattle.pc_base.specs.declared.packet.Way.TheVariants.{Up, Down}
use Rattle.rate_policer.specs.Buckets.{BucketState}
use Rattle.charging_book.specs.declared.records.Piece.{Piece}
use Rattle.charging_book.specs.Happenings.{Happening}
use Rattle.charging_book.specs.Posted.{AllMayBePosted}
use Rattle.ipv4_packet.specs.Fields.{source_of}
use Rattle.tft_match.specs.Chosen.{chosen}
use Rattle.bearer_state.specs.declared.version.ActiveBearer.{ActiveBearer}
use Rattle.bearer_state.specs.Version.{VersionState, IsVersion, bearer_at}
use Rattle.packet_steps.specs.Meters.{MetersState}
use Rattle.packet_steps.specs.declared.plan.Plan.{Plan}
use Rattle.packet_steps.specs.declared.plan.Plan.TheVariants as plan
use Rattle.packet_steps.specs.Rows.{HeldRow}
use Rattle.packet_steps.specs.Verdicts.{message_for, bearer_for, is_packet}
use Rattle.packet_steps.specs.Standing.{CountersState}
use Rattle.packet_steps.specs.Running.{left_for, planned_through, planned_up, planned_into, planned_waiting, planned_to, planned_down, planned_by_way, planned, meters_behind, held_behind, charged_by, GoesOn}
use Rattle.gate_model.proofs.Members.{In, contains_in}
use Rattle.gate_model.proofs.PastSteps.{found_at, found_chosen}
use Rattle.subscriber.specs.Alike.{AreMetersAlike, AreAlike, AreChargedAlike, PacketsAreAlike}
use Rattle.subscriber.proofs.PieceLemmas.{pieces_stay_alike}
use Rattle.subscriber.proofs.MeterLemmas.{left_alike, put_alike}

-- both plan the same
up_alike : (version : VersionState) (m n : MetersState) (at : ℕ) (octets : List ℕ) (found : Option ActiveBearer)
    → AreMetersAlike version.bearers m n → ((b : ActiveBearer) → found ≡ Some b → In b version.bearers)
    → planned_up version m at octets found ≡ planned_up version n at octets found
up_alike version m n at octets None alike among = refl
up_alike version m n at octets (Some b) alike among =
    ap (λ left. cond (source_of octets == addr_of version.slot) (planned_through b (length octets) left) plan.Spoof)
    (left_alike version.bearers m n b true (length octets) at alike (contains_in b version.bearers (among b refl)))

to_alike : (version : VersionState) (old other : CountersState) (packet : Packet) (b : ActiveBearer)
    (enb : Option Peer) → AreMetersAlike version.bearers old.meters other.meters → old.held ≡ other.held
    → Contains version.bearers b → planned_to version old packet b enb ≡ planned_to version other packet b enb
to_alike version old other packet b None alike held there =
    ap (λ (rows : List HeldRow). planned_waiting version rows packet.number b) held
to_alike version old other packet b (Some peer) alike held there =
    ap (planned_into b peer (length packet.octets))
    (left_alike version.bearers old.meters other.meters b false (length packet.octets) packet.moment alike there)

down_alike : (version : VersionState) (old other : CountersState) (packet : Packet) (found : Option ActiveBearer)
    → AreMetersAlike version.bearers old.meters other.meters → old.held ≡ other.held
    → ((b : ActiveBearer) → found ≡ Some b → In b version.bearers)
    → planned_down version old packet found ≡ planned_down version other packet found
down_alike version old other packet None alike held among = refl
down_alike version old other packet (Some b) alike held among =
    to_alike version old other packet b b.enb alike held (contains_in b version.bearers (among b refl))

way_alike : (version : VersionState) (old other : CountersState) (packet : Packet) (way : Way)
    → AreMetersAlike version.bearers old.meters other.meters → old.held ≡ other.held
    → planned_by_way version old packet way ≡ planned_by_way version other packet way
way_alike version old other packet (Up index) alike held =
    up_alike version old.meters other.meters packet.moment packet.octets (bearer_at version.bearers index) alike
    (found_at version.bearers index)
way_alike version old other packet Down alike held =
    down_alike version old other packet (bearer_for version packet.octets) alike held
    (found_chosen version.bearers (chosen version.rows packet.octets))

plans_alike : (version : VersionState) (old other : CountersState) (pieces others : List Piece) (packet : Packet)
    → AreAlike version old other pieces others → planned version old packet ≡ planned version other packet
plans_alike version old other pieces others packet alike =
    ap (λ p. cond (version.live && is_packet packet.octets) p plan.NoBearer)
    (way_alike version old other packet packet.way alike.meters alike.held)

-- what is planned behind an ask is of an active bearer
abbrev pub IsOfBearer : VersionState → Plan → Type 0
IsOfBearer version plan.NoBearer = Unit {0}
IsOfBearer version plan.Spoof = Unit {0}
IsOfBearer version (plan.Idle life) = Unit {0}
IsOfBearer version (plan.Hold life message) = Unit {0}
IsOfBearer version (plan.Policed b up bucket) = Contains version.bearers b
IsOfBearer version (plan.Up b bucket len) = Contains version.bearers b
IsOfBearer version (plan.Down b peer bucket len) = Contains version.bearers b

through_of : (version : VersionState) (b : ActiveBearer) (len : ℕ) (left : Bool × BucketState)
    → Contains version.bearers b → IsOfBearer version (planned_through b len left)
through_of version b len (false, bucket) there = there
through_of version b len (true, bucket) there = there

up_of : (version : VersionState) (m : MetersState) (at : ℕ) (octets : List ℕ) (found : Option ActiveBearer)
    → ((b : ActiveBearer) → found ≡ Some b → In b version.bearers)
    → IsOfBearer version (planned_up version m at octets found)
up_of version m at octets None among = tt
up_of version m at octets (Some b) among =
    let left = left_for m b true (length octets) at in
    let known = through_of version b (length octets) left (contains_in b version.bearers (among b refl)) in
    elim (source_of octets == addr_of version.slot) as
    (λ t. IsOfBearer version (cond t (planned_through b (length octets) left) plan.Spoof)) [
      | true ↦ known
      | false ↦ tt
    ]

into_of : (version : VersionState) (b : ActiveBearer) (peer : Peer) (len : ℕ) (left : Bool × BucketState)
    → Contains version.bearers b → IsOfBearer version (planned_into b peer len left)
into_of version b peer len (false, bucket) there = there
into_of version b peer len (true, bucket) there = there

to_of : (version : VersionState) (old : CountersState) (packet : Packet) (b : ActiveBearer) (enb : Option Peer)
    → Contains version.bearers b → IsOfBearer version (planned_to version old packet b enb)
to_of version old packet b None there =
    elim (nat_le 16 (length old.held)) as
    (λ t. IsOfBearer version (cond t (plan.Idle b.life) (plan.Hold b.life (message_for version old.held packet.number b.ebi)))) [
      | true ↦ tt
      | false ↦ tt
    ]
to_of version old packet b (Some peer) there =
    into_of version b peer (length packet.octets) (left_for old.meters b false (length packet.octets) packet.moment) there

down_of : (version : VersionState) (old : CountersState) (packet : Packet) (found : Option ActiveBearer)
    → ((b : ActiveBearer) → found ≡ Some b → In b version.bearers)
    → IsOfBearer version (planned_down version old packet found)
down_of version old packet None among = tt
down_of version old packet (Some b) among =
    to_of version old packet b b.enb (contains_in b version.bearers (among b refl))

way_of : (version : VersionState) (old : CountersState) (packet : Packet) (way : Way)
    → IsOfBearer version (planned_by_way version old packet way)
way_of version old packet (Up index) =
    up_of version old.meters packet.moment packet.octets (bearer_at version.bearers index)
    (found_at version.bearers index)
way_of version old packet Down =
    down_of version old packet (bearer_for version packet.octets)
    (found_chosen version.bearers (chosen version.rows packet.octets))

pub plan_of : (version : VersionState) (old : CountersState) (packet : Packet)
    → IsOfBearer version (planned version old packet)
plan_of version old packet =
    let known = way_of version old packet packet.way in
    elim (version.live && is_packet packet.octets) as
    (λ t. IsOfBearer version (cond t (planned_by_way version old packet packet.way) plan.NoBearer)) [
      | true ↦ known
      | false ↦ tt
    ]

-- the buckets behind it are alike
behind_alike : (version : VersionState) (m n : MetersState) (p : Plan) → IsVersion version → IsOfBearer version p
    → AreMetersAlike version.bearers m n → AreMetersAlike version.bearers (meters_behind p m) (meters_behind p n)
behind_alike version m n plan.NoBearer ranges of alike = alike
behind_alike version m n plan.Spoof ranges of alike = alike
behind_alike version m n (plan.Idle life) ranges of alike = alike
behind_alike version m n (plan.Hold life message) ranges of alike = alike
behind_alike version m n (plan.Policed b up bucket) ranges of alike = put_alike version m n b up bucket ranges alike of
behind_alike version m n (plan.Up b bucket len) ranges of alike = put_alike version m n b true bucket ranges alike of
behind_alike version m n (plan.Down b peer bucket len) ranges of alike =
    put_alike version m n b false bucket ranges alike of

goes_alike : (version : VersionState) (old other new next : CountersState) (pieces others : List Piece)
    (packet : Packet) → IsVersion version → AreAlike version old other pieces others
    → AllMayBePosted pieces (charged_by (planned version old packet) packet.moment)
    → GoesOn (planned version old packet) packet old new → GoesOn (planned version other packet) packet other next
    → AreChargedAlike version old other new next pieces others
    (charged_by (planned version old packet) packet.moment)
goes_alike version old other new next pieces others packet ranges alike may goes other_goes =
    let p = planned version old packet in
    let same : planned version other packet ≡ p = sym (plans_alike version old other pieces others packet alike) in
    let also : GoesOn p packet other next = subst (λ (q : Plan). GoesOn q packet other next) same other_goes in
    let happened : List Happening = charged_by p packet.moment in
    let stay = pieces_stay_alike pieces others happened alike.pieces_alike may in
    record {
      alike = record {
        meters = subst (λ (m : MetersState). AreMetersAlike version.bearers m next.meters) (sym goes.meters)
            (subst (λ (n : MetersState). AreMetersAlike version.bearers (meters_behind p old.meters) n) (sym also.meters)
            (behind_alike version old.meters other.meters p ranges (plan_of version old packet) alike.meters));
        pieces_are = goes.book.pieces pieces alike.pieces_are may;
        others_are = also.book.pieces others alike.others_are stay.may;
        pieces_alike = stay.alike;
        held = goes.held ∙ ap (held_behind p packet) alike.held ∙ sym also.held;
        last = goes.last ∙ sym also.last;
      };
      rows = goes.book.rows pieces alike.pieces_are may;
      others_rows = also.book.rows others alike.others_are stay.may ∙ ap (λ rows. other.book.rows ++ rows) (sym stay.rows);
    }

pub packets_are_alike : PacketsAreAlike
packets_are_alike = record { plans = plans_alike; goes_on = goes_alike }

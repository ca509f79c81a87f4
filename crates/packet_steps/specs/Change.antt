-- What a version that follows on another one brings: for the book, for eNodeBs that are left, for held packets.
use Rattle.std.specs.Prelude.{ℕ, ◌==◌, ◌&&◌, nat_lt, Bool, false, not, if◌then◌else◌, List, []}
use Rattle.std.specs.Prelude.{◌∷◌, ◌++◌, length, map, filter, fold, Option, Some, None, is_some, is_none}
use Rattle.std.specs.List.{find, flat_map, list_any}
use Rattle.std.specs.Option.{option_and_then}
use Rattle.pc_base.specs.declared.packet.Peer.{Peer}
use Rattle.pc_base.specs.declared.effect.Effect.{Effect}
use Rattle.pc_base.specs.declared.effect.Effect.TheVariants as effect
use Rattle.pc_base.specs.declared.effect.Fate.{Fate}
use Rattle.pc_base.specs.declared.effect.Fate.TheVariants as fate
use Rattle.charging_book.specs.Happenings as book
use Rattle.charging_book.specs.declared.records.Why.TheVariants.{Qos, Gone}
use Rattle.bearer_state.specs.declared.version.ActiveBearer.{ActiveBearer}
use Rattle.bearer_state.specs.Qos.{is_guaranteed}
use Rattle.bearer_state.specs.Version.{VersionState}
use Rattle.packet_steps.specs.Messages.{gpdu, end_marker}
use Rattle.packet_steps.specs.Rows.{HeldRow}
use Rattle.packet_steps.specs.Past.{Past, row_for, with_row, with_held}
use Rattle.packet_steps.specs.Policing.{passes}

-- the bearer of a life, and whether it is active
abbrev pub bearer_of : List ActiveBearer → ℕ → Option ActiveBearer
bearer_of bearers life = find (λ (bearer : ActiveBearer). bearer.life == life) bearers

abbrev pub has_life : List ActiveBearer → ℕ → Bool
has_life bearers life = list_any (λ (bearer : ActiveBearer). bearer.life == life) bearers

-- the bearers whose lives another list has, or lacks; in order of index
abbrev pub shared_with : List ActiveBearer → List ActiveBearer → List ActiveBearer
shared_with others bearers = filter (λ (bearer : ActiveBearer). has_life others bearer.life) bearers

abbrev pub lacking_in : List ActiveBearer → List ActiveBearer → List ActiveBearer
lacking_in others bearers = filter (λ (bearer : ActiveBearer). not (has_life others bearer.life)) bearers

-- the lives that are over · where the AMBR was set, the pieces of those that go on without a guaranteed rate · the
-- lives that begin
abbrev pub ended : List ActiveBearer → List ActiveBearer → List book.Happening
ended before after = map (λ (bearer : ActiveBearer). book.closed bearer.life Gone) (lacking_in after before)

abbrev pub shares_ambr : ActiveBearer → Bool
shares_ambr bearer = not (is_guaranteed bearer.qos.qci)

abbrev pub cut : Bool → List ActiveBearer → List ActiveBearer → List book.Happening
cut was_set before after =
    if was_set
    then map (λ (bearer : ActiveBearer). book.closed bearer.life Qos) (filter shares_ambr (shared_with after before))
    else []

abbrev pub begun : List ActiveBearer → List ActiveBearer → List book.Happening
begun before after =
    map (λ (bearer : ActiveBearer). book.started bearer.life bearer.ebi bearer.qos.qci) (lacking_in before after)

-- what the book hears of the change
abbrev pub marks_between : Bool → List ActiveBearer → List ActiveBearer → List book.Happening
marks_between was_set before after = (ended before after ++ cut was_set before after) ++ begun before after

abbrev pub marks : VersionState → VersionState → List book.Happening
marks before after = marks_between (nat_lt before.rates after.rates) before.bearers after.bearers

-- an End Marker goes to the eNodeB that a bearer had, where it has another one now (TS 23.401, 5.5.1.1.2)
abbrev pub same_peer : Peer → Peer → Bool
same_peer peer other = peer.teid == other.teid && (peer.addr == other.addr)

abbrev pub marker_between : ℕ → Option Peer → Option Peer → List Effect
marker_between life None new = []
marker_between life (Some old) None = []
marker_between life (Some old) (Some new) =
    if same_peer old new then [] else effect.Marker life old.addr (end_marker old) ∷ []

abbrev pub enb_of : List ActiveBearer → ℕ → Option Peer
enb_of bearers life = option_and_then (λ (bearer : ActiveBearer). bearer.enb) (bearer_of bearers life)

abbrev pub marker_for : VersionState → ActiveBearer → List Effect
marker_for after bearer = marker_between bearer.life bearer.enb (enb_of after.bearers bearer.life)

abbrev pub markers : VersionState → VersionState → List Effect
markers before after = flat_map (marker_for after) before.bearers

-- A held packet goes to its bearer's eNodeB now, as far as the rate lets it, at the moment of the last packet. Without
-- its bearer it is gone, and without an eNodeB it waits on.
abbrev pub fated : Past × List Effect → HeldRow → Fate → Past × List Effect
fated so_far row fate_ = (so_far.0, so_far.1 ++ effect.Fate row.packet.number fate_ ∷ [])

abbrev pub released_to : Past × List Effect → HeldRow → ActiveBearer → Option Peer → Past × List Effect
released_to so_far row bearer None = (with_held so_far.0 row, so_far.1)
released_to so_far row bearer (Some peer) =
    if passes so_far.0 bearer false (length row.packet.octets)
    then fated (with_row so_far.0 (row_for so_far.0 bearer false (length row.packet.octets)), so_far.1) row
    (fate.Down row.life peer.addr (gpdu peer row.packet.octets))
    else fated so_far row (fate.Policed row.life)

abbrev pub released_by : Past × List Effect → HeldRow → Option ActiveBearer → Past × List Effect
released_by so_far row None = fated so_far row (fate.Gone row.life)
released_by so_far row (Some bearer) = released_to so_far row bearer bearer.enb

abbrev pub released : Past × List Effect → HeldRow → Past × List Effect
released so_far row = released_by so_far row (bearer_of so_far.0.version.bearers row.life)

-- whether a life's held packets wait on
abbrev pub waits : List ActiveBearer → ℕ → Bool
waits bearers life = is_some (bearer_of bearers life) && is_none (enb_of bearers life)

-- the past at the new version before held packets are looked at
abbrev pub marked : Past → VersionState → Past
marked past after = record {
  version = after;
  forwarded = past.forwarded;
  held = [];
  last = past.last;
  charged = past.charged ++ marks past.version after;
}

-- the past behind a version, and its effects: the markers, then the fates in the order of holding
abbrev pub learnt : Past → VersionState → Past × List Effect
learnt past after = fold released (marked past after, markers past.version after) past.held

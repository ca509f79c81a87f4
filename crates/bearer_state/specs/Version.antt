-- The version of a session that its packets go by: its active bearers, and the filters of each.
use Rattle.std.specs.Prelude.{◌≡◌, ◌≢◌, ℕ, ◌<◌, ◌≤◌, ◌^◌, Bool, false, ◌==◌, List, []}
use Rattle.std.specs.Prelude.{map, Option, Some, None}
use Rattle.std.specs.List.{AllByRecursion, filter_map, find}
use Rattle.pc_base.specs.declared.packet.Peer.{Peer}
use Rattle.tft_codec.specs.declared.tft.BearerFilters.{BearerFilters}
use Rattle.bearer_state.specs.declared.bearer.Phase.{Phase}
use Rattle.bearer_state.specs.declared.bearer.Phase.TheVariants.{Asked, Active}
use Rattle.bearer_state.specs.declared.bearer.Bearer.{Bearer}
use Rattle.bearer_state.specs.declared.version.ActiveBearer.{ActiveBearer}
use Rattle.bearer_state.specs.Qos.{IsQos}
use Rattle.bearer_state.specs.Bearer.{index_of, IsEbi, EachPair}
use Rattle.bearer_state.specs.Session.{SessionState, IsAmbr}

pub record VersionState : Type 0 where
  pub number : ℕ
  pub slot : ℕ
  pub live : Bool
  pub mme : Option Peer
  pub up : ℕ
  pub down : ℕ
  pub rates : ℕ
  pub bearers : List ActiveBearer
  pub rows : List BearerFilters

-- what a version keeps of a bearer under an EBI
abbrev pub active_of : Bearer → ℕ → ActiveBearer
active_of bearer ebi =
    record { index = index_of bearer; life = bearer.life; ebi = ebi; qos = bearer.qos; enb = bearer.enb }

-- a bearer that isn't active yet isn't in a version
abbrev pub active_in : Bearer → Phase → Option ActiveBearer
active_in bearer (Asked seq) = None
active_in bearer (Active ebi) = Some (active_of bearer ebi)

abbrev pub row_in : Bearer → Phase → Option BearerFilters
row_in bearer (Asked seq) = None
row_in bearer (Active ebi) = Some bearer.choice

-- the active bearers, in order of index, and the filters of each
abbrev pub actives : List Bearer → List ActiveBearer
actives bearers = filter_map (λ (bearer : Bearer). active_in bearer bearer.phase) bearers

abbrev pub rows_of : List Bearer → List BearerFilters
rows_of bearers = filter_map (λ (bearer : Bearer). row_in bearer bearer.phase) bearers

-- a session under a number
abbrev pub version_of : SessionState → ℕ → VersionState
version_of session number = record {
  number = number;
  slot = session.slot;
  live = session.live;
  mme = session.mme;
  up = session.up;
  down = session.down;
  rates = session.rates;
  bearers = actives session.bearers;
  rows = rows_of session.bearers;
}

-- the active bearer of an index
abbrev pub bearer_at : List ActiveBearer → ℕ → Option ActiveBearer
bearer_at bearers index = find (λ (bearer : ActiveBearer). bearer.index == index) bearers

-- the ranges of one active bearer
pub record IsActiveBearer (bearer : ActiveBearer) : Type 0 where
  pub index : bearer.index ≤ 10
  pub life : bearer.life < 2 ^ 61
  pub ebi : IsEbi bearer.ebi
  pub qos : IsQos bearer.qos

-- an active bearer, and one behind it
pub record IsActiveBefore (bearer other : ActiveBearer) : Type 0 where
  pub indices_rise : bearer.index < other.index
  pub lives_differ : bearer.life ≢ other.life
  pub ebis_differ : bearer.ebi ≢ other.ebi

-- the ranges of a version
pub record IsVersion (version : VersionState) : Type 0 where
  pub number : version.number ≤ 2 ^ 61
  pub up : IsAmbr version.up
  pub down : IsAmbr version.down
  pub rates : version.rates ≤ 2 ^ 61
  pub each : AllByRecursion IsActiveBearer version.bearers
  pub apart : EachPair IsActiveBefore version.bearers
  pub rows : map (λ (row : BearerFilters). row.index) version.rows
      ≡ map (λ (bearer : ActiveBearer). bearer.index) version.bearers
  pub none_if_not_live : version.live ≡ false → version.bearers ≡ []

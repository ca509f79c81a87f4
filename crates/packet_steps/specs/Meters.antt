-- The buckets of a subscriber: which bucket polices what, and what it represents.
use Rattle.std.specs.Prelude.{◌≡◌, ℕ, ◌<◌, ◌≤◌, nat_lt, Bool, true, false, not, ◌&&◌, if◌then◌else◌, List, [], ◌∷◌}
use Rattle.std.specs.Prelude.{length, filter, fold, slice_set, IsTrue}
use Rattle.std.specs.List.{slice_index_or, Contains}
use Rattle.rate_policer.specs.Buckets as bucket
use Rattle.bearer_state.specs.declared.version.ActiveBearer.{ActiveBearer}
use Rattle.bearer_state.specs.Qos.{is_guaranteed}
use Rattle.bearer_state.specs.Version.{VersionState}
use Rattle.packet_steps.specs.declared.meters.Meter.{Meter}
use Rattle.packet_steps.specs.declared.meters.Meters.{Meters}
use Rattle.packet_steps.specs.Rows.{ForwardedRow}
use Rattle.packet_steps.specs.Past.{Past, moment_of}
use Rattle.packet_steps.specs.Policing.{mbr, ambr, is_of_life, is_of_rates, costs}
use Rattle.packet_steps.specs.Change.{has_life}

-- the meter that bearers share, and the own ones, by index
pub record MetersState : Type 0 where
  pub shared : Meter
  pub own : List Meter

abbrev pub bucket_of : Bool → Meter → bucket.BucketState
bucket_of true meter = meter.up
bucket_of false meter = meter.down

abbrev pub with_bucket : Bool → bucket.BucketState → Meter → Meter
with_bucket true b meter = record meter { up = b }
with_bucket false b meter = record meter { down = b }

-- full buckets of two rates
abbrev pub new_meter : ℕ → ℕ → Meter
new_meter up down = record { up = bucket.full_bucket up; down = bucket.full_bucket down }

-- no own meter is in use
abbrev pub unused : Meter
unused = new_meter 0 0

abbrev pub no_meters : List Meter
no_meters =
    unused ∷ unused ∷ unused ∷ unused ∷ unused ∷ unused ∷ unused ∷ unused ∷ unused ∷ unused ∷ unused ∷ []

-- own meters that are kept; none are kept before the first is used
abbrev pub own_in_use : List Meter → List Meter
own_in_use [] = no_meters
own_in_use (first ∷ others) = first ∷ others

-- meters as contracts see them
abbrev pub in_use : Meters → MetersState
in_use meters = record { shared = meters.shared; own = own_in_use meters.own.items }

-- own meters are kept, where a bearer needs one
abbrev pub HasPlace : Meters → ActiveBearer → Type 0
HasPlace meters bearer = IsTrue (is_guaranteed bearer.qos.qci) → 0 < length meters.own.items

-- the meter at an index
abbrev pub own_meter : MetersState → ℕ → Meter
own_meter meters index = slice_index_or meters.own index (new_meter 0 0)

-- the bucket that polices a bearer one way, and the meters with another one in its place
abbrev pub bucket_for : MetersState → ActiveBearer → Bool → bucket.BucketState
bucket_for meters bearer up =
    if is_guaranteed bearer.qos.qci then bucket_of up (own_meter meters bearer.index) else bucket_of up meters.shared

abbrev pub put_bucket : MetersState → ActiveBearer → Bool → bucket.BucketState → MetersState
put_bucket meters bearer up b =
    if is_guaranteed bearer.qos.qci
    then record meters { own = slice_set meters.own bearer.index (with_bucket up b (own_meter meters bearer.index)) }
    else record meters { shared = with_bucket up b meters.shared }

-- the meters at a new version: the shared one is new where the AMBR was set, and a bearer with a guaranteed rate that
-- begins has a new one
abbrev pub begins_guaranteed : VersionState → ActiveBearer → Bool
begins_guaranteed before bearer = is_guaranteed bearer.qos.qci && not (has_life before.bearers bearer.life)

abbrev pub with_begun : VersionState → MetersState → ActiveBearer → MetersState
with_begun before meters bearer =
    if begins_guaranteed before bearer
    then record meters { own = slice_set meters.own bearer.index (new_meter bearer.qos.mbr_up bearer.qos.mbr_down) }
    else meters

abbrev pub learnt_meters : VersionState → VersionState → MetersState → MetersState
learnt_meters before after meters =
    fold (with_begun before)
    (if nat_lt before.rates after.rates then record meters { shared = new_meter after.up after.down } else meters)
    after.bearers

-- a bucket has this rate and represents these rows, and was not asked later than at a moment
pub record Polices (b : bucket.BucketState) (rate : ℕ) (rows : List ForwardedRow) (moment : ℕ) : Type 0 where
  pub rate_is : bucket.rate_of b ≡ rate
  pub stands : bucket.StandsFor b (costs rows)
  pub asked : bucket.last_of b ≤ moment

-- each bucket represents what was forwarded under its rate
pub record MetersStand (meters : MetersState) (past : Past) : Type 0 where
  pub sized : length meters.own ≡ 11
  pub shared : (up : Bool)
      → Polices (bucket_of up meters.shared) (ambr up past.version)
      (filter (is_of_rates past.version.rates up) past.forwarded) (moment_of past)
  pub own : (bearer : ActiveBearer) (up : Bool) → Contains past.version.bearers bearer
      → IsTrue (is_guaranteed bearer.qos.qci)
      → Polices (bucket_of up (own_meter meters bearer.index)) (mbr up bearer.qos)
      (filter (is_of_life bearer.life up) past.forwarded) (moment_of past)

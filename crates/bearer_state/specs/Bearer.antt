-- The bearers of a session, a list in rising order of index, and the ranges that it keeps.
use Rattle.std.specs.Prelude.{◌≢◌, ℕ, ◌<◌, ◌≤◌, ◌^◌, Bool, false, ◌==◌, List, [], ◌∷◌}
use Rattle.std.specs.List.{AllByRecursion}
use Rattle.bearer_state.specs.declared.bearer.Phase.{Phase}
use Rattle.bearer_state.specs.declared.bearer.Phase.TheVariants.{Asked, Active}
use Rattle.bearer_state.specs.declared.bearer.Bearer.{Bearer}
use Rattle.bearer_state.specs.Qos.{IsQos}

-- an EPS bearer identity (TS 24.007, 11.2.3.1.5)
pub record IsEbi (ebi : ℕ) : Type 0 where
  pub least : 5 ≤ ebi
  pub most : ebi ≤ 15

-- a sequence number of GTPv2-C has three octets (TS 29.274, 5.1)
abbrev pub IsSeq : ℕ → Type 0
IsSeq seq = seq < 2 ^ 24

abbrev pub IsPhase : Phase → Type 0
IsPhase (Asked seq) = IsSeq seq
IsPhase (Active ebi) = IsEbi ebi

abbrev pub index_of : Bearer → ℕ
index_of bearer = bearer.choice.index

-- whether a bearer is active under an EBI, or asked for under a sequence number
abbrev pub is_active_as : ℕ → Phase → Bool
is_active_as ebi (Asked seq) = false
is_active_as ebi (Active own) = own == ebi

abbrev pub is_asked_as : ℕ → Phase → Bool
is_asked_as seq (Asked own) = own == seq
is_asked_as seq (Active ebi) = false

abbrev pub is_active : ℕ → Bearer → Bool
is_active ebi bearer = is_active_as ebi bearer.phase

abbrev pub is_asked : ℕ → Bearer → Bool
is_asked seq bearer = is_asked_as seq bearer.phase

-- the ranges of one bearer
pub record IsBearer (bearer : Bearer) : Type 0 where
  pub index : index_of bearer ≤ 10
  pub phase : IsPhase bearer.phase
  pub qos : IsQos bearer.qos

-- two active bearers have two EBIs
abbrev pub EbisDiffer : Phase → Phase → Type 0
EbisDiffer (Active ebi) (Active other) = ebi ≢ other
EbisDiffer (Active ebi) (Asked seq) = Unit {0}
EbisDiffer (Asked seq) other = Unit {0}

-- a bearer, and one behind it
pub record IsBefore (bearer other : Bearer) : Type 0 where
  pub indices_rise : index_of bearer < index_of other
  pub lives_differ : bearer.life ≢ other.life
  pub ebis_differ : EbisDiffer bearer.phase other.phase

-- each of a list and each one behind it
abbrev pub EachPair : {X : Type 0} → (X → X → Type 0) → List X → Type 0
EachPair R [] = Unit {0}
EachPair R (x ∷ xs) = AllByRecursion (R x) xs × EachPair R xs

pub record AreBearers (bearers : List Bearer) : Type 0 where
  pub each : AllByRecursion IsBearer bearers
  pub apart : EachPair IsBefore bearers

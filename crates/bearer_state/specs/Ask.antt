-- What a Modify Bearer Request asks for, one ask a bearer.
use Rattle.std.specs.Prelude.{◌≢◌, ℕ, ◌≤◌, ◌==◌, List, length, Option}
use Rattle.std.specs.List.{AllByRecursion, find}
use Rattle.bearer_state.specs.declared.ask.Ask.{Ask}
use Rattle.bearer_state.specs.Bearer.{IsEbi, EachPair}

abbrev pub IsAsk : Ask → Type 0
IsAsk ask = IsEbi ask.ebi

abbrev pub HaveTwoEbis : Ask → Ask → Type 0
HaveTwoEbis ask other = ask.ebi ≢ other.ebi

-- the EBIs differ, so there are at most as many asks as EBIs from 5 to 15
pub record AreAsks (asks : List Ask) : Type 0 where
  pub each : AllByRecursion IsAsk asks
  pub differ : EachPair HaveTwoEbis asks
  pub few : length asks ≤ 11

-- the ask for an EBI
abbrev pub ask_for : List Ask → ℕ → Option Ask
ask_for asks ebi = find (λ (ask : Ask). ask.ebi == ebi) asks

-- The rows of the control table by name, and which one a command is answered by: the first that fits.
use Rattle.std.specs.Prelude.{ℕ, Bool, true, false, not, ◌&&◌, ◌==◌, nat_le, List, Option, Some}
use Rattle.std.specs.Prelude.{None, is_some, if◌then◌else◌}
use Rattle.std.specs.List.{list_all, find}
use Rattle.std.specs.Option.{option_and_then}
use Rattle.std.specs.Result.{result_ok}
use Rattle.pc_base.specs.declared.packet.Peer.{Peer}
use Rattle.tft_codec.specs.declared.filter.Filter.{Filter}
use Rattle.tft_codec.specs.declared.tft.Tft.{Tft}
use Rattle.tft_codec.specs.declared.tft.Tft.TheVariants as templates
use Rattle.tft_codec.specs.Apply.{applied}
use Rattle.bearer_state.specs.declared.ask.Ask.{Ask}
use Rattle.bearer_state.specs.declared.bearer.Bearer.{Bearer}
use Rattle.bearer_state.specs.declared.kept.Kept.{Kept}
use Rattle.bearer_state.specs.Bearer.{is_active}
use Rattle.bearer_state.specs.Lookup.{has_active, has_dedicated, has_asked, least_free}
use Rattle.bearer_state.specs.Qos.{is_guaranteed}
use Rattle.bearer_state.specs.Session.{SessionState}
use Rattle.control_steps.specs.declared.command.CommandKind.{CommandKind}
use Rattle.control_steps.specs.declared.command.CommandKind.TheVariants.{Attach, Create, Modify, Release}
use Rattle.control_steps.specs.declared.command.CommandKind.TheVariants.{Delete, AddBearer}
use Rattle.control_steps.specs.declared.command.CommandKind.TheVariants.{Filters, Drop, Ambr, CreateAns}
use Rattle.control_steps.specs.declared.command.CommandKind.TheVariants.{UpdateAns, DeleteAns}
use Rattle.control_steps.specs.declared.cause.TheConstants.{REQUEST_ACCEPTED}
use Rattle.control_steps.specs.Command.{request_of}

pub data Row : Type 0 where
  repeated : Row  -- a request whose answer is kept
  pdn_refused : Row  -- Create: IPv6 alone
  class_refused : Row  -- Create: a class with a guaranteed rate
  created : Row
  attached : Row
  no_session : Row  -- Modify, Release, Delete: not live
  no_bearer : Row  -- Modify: some EBI is no active bearer's
  modified : Row
  released : Row
  deleted : Row
  not_asked : Row  -- AddBearer: not live, no MME, no index is free, or no filters are given
  asked : Row
  not_refiltered : Row  -- Filters: not live, no such bearer, or the template doesn't apply
  refiltered : Row
  not_dropped : Row  -- Drop: not live, or no such bearer but the default one
  dropped : Row
  not_rerated : Row  -- Ambr: not live
  rerated : Row
  unasked : Row  -- CreateAns: no bearer was asked for so
  granted : Row
  denied : Row
  noted : Row  -- UpdateAns, DeleteAns

-- Whether a row takes memory: a refused order doesn't, nor does an answer of the MME.
abbrev pub takes_memory : Row → Bool
takes_memory not_asked = false
takes_memory not_refiltered = false
takes_memory not_dropped = false
takes_memory not_rerated = false
takes_memory unasked = false
takes_memory granted = false
takes_memory denied = false
takes_memory noted = false
takes_memory row = true

-- a kept answer is that to a request
abbrev pub answers : Option Kept → Option (ℕ × ℕ) → Bool
answers None request = false
answers (Some kept) None = false
answers (Some kept) (Some request) = kept.kind == request.0 && kept.seq == request.1

abbrev pub is_repeat : SessionState → CommandKind → Bool
is_repeat session command = answers session.last (request_of command)

-- each ask is for an active bearer
abbrev pub all_active : List Bearer → List Ask → Bool
all_active bearers asks = list_all (λ (ask : Ask). has_active bearers ask.ebi) asks

-- the filters that a template gives to a new bearer
abbrev pub filters_given : Tft → Option (List Filter)
filters_given (templates.Create filters) = Some filters
filters_given template = None

-- the filters that a template makes of an active bearer's
abbrev pub filters_made : List Bearer → ℕ → Tft → Option (List Filter)
filters_made bearers ebi template =
    option_and_then (λ (bearer : Bearer). result_ok (applied bearer.choice.filters template))
    (find (is_active ebi) bearers)

abbrev pub can_ask : SessionState → Tft → Bool
can_ask session template =
    session.live && is_some session.mme && is_some (least_free session.bearers) && is_some (filters_given template)

abbrev pub can_refilter : SessionState → ℕ → Tft → Bool
can_refilter session ebi template = session.live && is_some (filters_made session.bearers ebi template)

-- the MME accepts, and gives an EBI that is free and an eNodeB
abbrev pub grants : List Bearer → ℕ → ℕ → ℕ → Option Peer → Bool
grants bearers cause ebi row_cause enb =
    cause == REQUEST_ACCEPTED && row_cause == REQUEST_ACCEPTED && nat_le 5 ebi && nat_le ebi 15
    && not (has_active bearers ebi) && is_some enb

-- the row of a command that is no repeat
abbrev pub first_row : SessionState → CommandKind → Row
first_row session (Create seq mme pdn ebi qos enb up down) =
    if pdn == 2 then pdn_refused else if is_guaranteed qos.qci then class_refused else created
first_row session (Attach enb up down) = attached
first_row session (Modify seq mme asks) =
    if not session.live then no_session else if not (all_active session.bearers asks) then no_bearer else modified
first_row session (Release seq) = if not session.live then no_session else released
first_row session (Delete seq) = if not session.live then no_session else deleted
first_row session (AddBearer seq qci mbr_up mbr_down gbr_up gbr_down tft) =
    if not (can_ask session tft) then not_asked else asked
first_row session (Filters seq ebi tft) = if not (can_refilter session ebi tft) then not_refiltered else refiltered
first_row session (Drop seq ebi) =
    if not (session.live && has_dedicated session.bearers ebi) then not_dropped else dropped
first_row session (Ambr seq up down) = if not session.live then not_rerated else rerated
first_row session (CreateAns seq cause ebi row_cause enb) =
    if not (has_asked session.bearers seq) then unasked
    else if grants session.bearers cause ebi row_cause enb then granted else denied
first_row session (UpdateAns seq) = noted
first_row session (DeleteAns seq) = noted

abbrev pub row_of : SessionState → CommandKind → Row
row_of session command = if is_repeat session command then repeated else first_row session command

-- A command raises no count by more than one.
use Rattle.std.proofs.Common.{ℕ, List, Option, Some, None, arith}
use Rattle.pc_base.specs.declared.packet.Peer.{Peer}
use Rattle.tft_codec.specs.declared.filter.Filter.{Filter}
use Rattle.bearer_state.specs.declared.qos.Qos.{Qos}
use Rattle.bearer_state.specs.Session.{SessionState}
use Rattle.control_steps.specs.declared.command.CommandKind.{CommandKind}
use Rattle.control_steps.specs.declared.command.CommandKind.TheVariants.{Attach, Create, Modify, AddBearer, Filters, Drop, Ambr, CreateAns}
use Rattle.control_steps.specs.Rise.{RiseByOne, CountsRise}
use Rattle.control_steps.specs.Row.{Row, created, attached, modified, asked, refiltered, dropped, rerated, granted, denied, filters_given, filters_made, row_of}
use Rattle.control_steps.specs.Table.{effect, with_bearer, with_filters, with_enb, qos_asked}
use Rattle.bearer_state.specs.Lookup.{least_free}

bearer_rises : (session : SessionState) (seq : ℕ) (qos : Qos) (index : Option ℕ) (filters : Option (List Filter))
    → RiseByOne session (with_bearer session seq qos index filters)
bearer_rises session seq qos (Some index) (Some filters) =
    record { lives_stay = omega arith; lives = omega arith; rates_stay = omega arith; rates = omega arith }
bearer_rises session seq qos index filters =
    record { lives_stay = omega arith; lives = omega arith; rates_stay = omega arith; rates = omega arith }

filters_rise : (session : SessionState) (ebi : ℕ) (filters : Option (List Filter))
    → RiseByOne session (with_filters session ebi filters)
filters_rise session ebi None =
    record { lives_stay = omega arith; lives = omega arith; rates_stay = omega arith; rates = omega arith }
filters_rise session ebi (Some filters) =
    record { lives_stay = omega arith; lives = omega arith; rates_stay = omega arith; rates = omega arith }

enb_rises : (session : SessionState) (seq ebi : ℕ) (enb : Option Peer)
    → RiseByOne session (with_enb session seq ebi enb)
enb_rises session seq ebi None =
    record { lives_stay = omega arith; lives = omega arith; rates_stay = omega arith; rates = omega arith }
enb_rises session seq ebi (Some enb) =
    record { lives_stay = omega arith; lives = omega arith; rates_stay = omega arith; rates = omega arith }

effect_rises : (row : Row) (session : SessionState) (command : CommandKind)
    → RiseByOne session (effect row session command)
effect_rises created session (Create seq mme pdn ebi qos enb up down) =
    record { lives_stay = omega arith; lives = omega arith; rates_stay = omega arith; rates = omega arith }
effect_rises attached session (Attach enb up down) =
    record { lives_stay = omega arith; lives = omega arith; rates_stay = omega arith; rates = omega arith }
effect_rises modified session (Modify seq mme asks) =
    record { lives_stay = omega arith; lives = omega arith; rates_stay = omega arith; rates = omega arith }
effect_rises asked session (AddBearer seq qci mbr_up mbr_down gbr_up gbr_down tft) =
    bearer_rises session seq (qos_asked session.bearers qci mbr_up mbr_down gbr_up gbr_down)
    (least_free session.bearers) (filters_given tft)
effect_rises refiltered session (Filters seq ebi tft) = filters_rise session ebi (filters_made session.bearers ebi tft)
effect_rises dropped session (Drop seq ebi) =
    record { lives_stay = omega arith; lives = omega arith; rates_stay = omega arith; rates = omega arith }
effect_rises rerated session (Ambr seq up down) =
    record { lives_stay = omega arith; lives = omega arith; rates_stay = omega arith; rates = omega arith }
effect_rises granted session (CreateAns seq cause ebi row_cause enb) = enb_rises session seq ebi enb
effect_rises denied session (CreateAns seq cause ebi row_cause enb) =
    record { lives_stay = omega arith; lives = omega arith; rates_stay = omega arith; rates = omega arith }
effect_rises row session command =
    record { lives_stay = omega arith; lives = omega arith; rates_stay = omega arith; rates = omega arith }

pub counts_rise : CountsRise
counts_rise session command =
    let risen = effect_rises (row_of session command) session command in
    record { lives_stay = risen.lives_stay; lives = risen.lives; rates_stay = risen.rates_stay; rates = risen.rates }

-- Each message that is written fits: its type is known, and its length field holds its length.
use Rattle.std.proofs.Common.{◌≡◌, ℕ, ◌+◌, ◌*◌, ◌<◌, ◌≤◌, ◌^◌, List, [], ◌∷◌, length, Option, Some, None, IfSome, refl, arith, length-append}
use Rattle.std.specs.List.{filter_map, cons_option}
use Rattle.std.specs.Option.{option_map}
use Rattle.gtpv2_ie.specs.Element.{Element}
use Rattle.gtpv2_ie.specs.Spelling.{spelling, spellings}
use Rattle.gtpv2_ie.specs.Validity.{IsOctets}
use Rattle.gtpv2_msg.specs.Kinds.{is_kind, is_request}
use Rattle.gtpv2_msg.specs.declared.kind.TheConstants.{CREATE_SESSION_REQUEST, MODIFY_BEARER_REQUEST, RELEASE_ACCESS_BEARERS_REQUEST, DELETE_SESSION_REQUEST}
use Rattle.gtpv2_msg.specs.Validity.{IsMessage}
use Rattle.bearer_state.specs.declared.ask.Ask.{Ask}
use Rattle.bearer_state.specs.declared.bearer.Bearer.{Bearer}
use Rattle.bearer_state.specs.declared.qos.Qos.{Qos}
use Rattle.bearer_state.specs.Bearer.{IsSeq}
use Rattle.bearer_state.specs.Lookup.{active_index}
use Rattle.control_steps.specs.Kinds.{IsAnswered}
use Rattle.control_steps.specs.Messages.{accepted, ask_accepted, cause_element, cause_alone, create_session_response, modify_bearer_response, create_bearer_request, update_bearer_request, delete_bearer_request}

pub create_is_answered : IsAnswered CREATE_SESSION_REQUEST
unfolding is_kind is_request
create_is_answered = record { fits = omega arith; answer = refl }

pub modify_is_answered : IsAnswered MODIFY_BEARER_REQUEST
unfolding is_kind is_request
modify_is_answered = record { fits = omega arith; answer = refl }

pub release_is_answered : IsAnswered RELEASE_ACCESS_BEARERS_REQUEST
unfolding is_kind is_request
release_is_answered = record { fits = omega arith; answer = refl }

pub delete_is_answered : IsAnswered DELETE_SESSION_REQUEST
unfolding is_kind is_request
delete_is_answered = record { fits = omega arith; answer = refl }

pub cause_alone_fits : (teid request seq code : ℕ) → teid < 2 ^ 32 → IsAnswered request → IsSeq seq
    → IsMessage (cause_alone teid request seq code)
cause_alone_fits teid request seq code teid_fits answered seq_fits =
    record { kind = answered.answer; teid = teid_fits; seq = seq_fits; len = omega arith }

pub create_session_response_fits : (slot teid seq pdn ebi : ℕ) → teid < 2 ^ 32 → IsSeq seq
    → IsMessage (create_session_response slot teid seq pdn ebi)
unfolding is_kind is_request
create_session_response_fits slot teid seq pdn ebi teid_fits seq_fits =
    record { kind = refl; teid = teid_fits; seq = seq_fits; len = omega arith }

accepted_len : (slot ebi index : ℕ) → length (spelling (accepted slot ebi index)) ≡ 28
accepted_len slot ebi index = refl

one_more : (slot : ℕ) (ask : Ask) (index : Option ℕ) (rest : List Element)
    → length (spellings (cons_option (option_map (accepted slot ask.ebi) index) rest)) ≤ 28 + length (spellings rest)
one_more slot ask None rest = omega arith
one_more slot ask (Some index) rest =
    omega (
      arith,
      length-append (spelling (accepted slot ask.ebi index)) (spellings rest),
      accepted_len slot ask.ebi index,
    )

contexts_len : (slot : ℕ) (bearers : List Bearer) (asks : List Ask)
    → length (spellings (filter_map (ask_accepted slot bearers) asks)) ≤ 28 * length asks
contexts_len slot bearers [] = omega arith
contexts_len slot bearers (ask ∷ asks) =
    omega (
      arith,
      one_more slot ask (active_index bearers ask.ebi) (filter_map (ask_accepted slot bearers) asks),
      contexts_len slot bearers asks,
    )

cause_len : (code : ℕ) → length (spelling (cause_element code)) ≡ 6
cause_len code = refl

pub modify_bearer_response_fits : (slot teid seq : ℕ) (bearers : List Bearer) (asks : List Ask) → teid < 2 ^ 32
    → IsSeq seq → length asks ≤ 11
    → IsMessage (modify_bearer_response slot teid seq bearers asks)
unfolding is_kind is_request
modify_bearer_response_fits slot teid seq bearers asks teid_fits seq_fits few =
    record { kind = refl; teid = teid_fits; seq = seq_fits; len = omega (arith, contexts_len slot bearers asks) }

pub create_bearer_request_fits : (slot teid seq linked index : ℕ) (tft : List ℕ) (qos : Qos) → teid < 2 ^ 32
    → IsSeq seq → IsOctets 1000 tft
    → IsMessage (create_bearer_request slot teid seq linked index tft qos)
unfolding is_kind is_request
create_bearer_request_fits slot teid seq linked index tft qos teid_fits seq_fits tft_fits =
    record { kind = refl; teid = teid_fits; seq = seq_fits; len = simp length-append (omega (arith, tft_fits.few)) }

pub update_bearer_request_fits : (teid seq ebi : ℕ) (tft : Option (List ℕ)) (up down : ℕ) → teid < 2 ^ 32
    → IsSeq seq → IfSome tft (IsOctets 1000)
    → IsMessage (update_bearer_request teid seq ebi tft up down)
unfolding is_kind is_request
update_bearer_request_fits teid seq ebi None up down teid_fits seq_fits tft_fits =
    record { kind = refl; teid = teid_fits; seq = seq_fits; len = omega arith }
update_bearer_request_fits teid seq ebi (Some tft) up down teid_fits seq_fits tft_fits =
    record { kind = refl; teid = teid_fits; seq = seq_fits; len = simp length-append (omega (arith, tft_fits.few)) }

pub delete_bearer_request_fits : (teid seq ebi : ℕ) → teid < 2 ^ 32 → IsSeq seq
    → IsMessage (delete_bearer_request teid seq ebi)
unfolding is_kind is_request
delete_bearer_request_fits teid seq ebi teid_fits seq_fits =
    record { kind = refl; teid = teid_fits; seq = seq_fits; len = omega arith }

-- Each message of the table fits, has its elements in range, and has what its type asks for.
use Rattle.std.proofs.Common.{◌≡◌, ℕ, ◌<◌, ◌≤◌, ◌^◌, Bool, true, false, if◌then◌else◌, ◌==◌, List, [], ◌∷◌, Option, IfSome, refl, arith}
use Rattle.std.specs.List.{AllByRecursion}
use Rattle.std.proofs.lemmas.Bool.{false≢true}
use Rattle.gtpv2_ie.specs.declared.kind.IeKind.TheVariants as kinds
use Rattle.gtpv2_ie.specs.Validity.{IsElement, IsOctets}
use Rattle.gtpv2_ie.specs.Validity as elements
use Rattle.gtpv2_msg.specs.declared.kind.TheConstants.{CREATE_SESSION_REQUEST, MODIFY_BEARER_REQUEST, RELEASE_ACCESS_BEARERS_REQUEST, DELETE_SESSION_REQUEST}
use Rattle.gtpv2_msg.specs.HasRequired.{HasRequired}
use Rattle.gtpv2_msg.specs.Kinds.{answer_of}
use Rattle.gtpv2_msg.specs.Message.{Message}
use Rattle.gtpv2_msg.specs.Required.{required, only}
use Rattle.gtpv2_msg.specs.Validity.{IsMessage}
use Rattle.bearer_state.specs.declared.ask.Ask.{Ask}
use Rattle.bearer_state.specs.declared.bearer.Bearer.{Bearer}
use Rattle.bearer_state.specs.declared.qos.Qos.{Qos}
use Rattle.bearer_state.specs.Ask.{AreAsks}
use Rattle.bearer_state.specs.Bearer.{IsBearer, IsEbi, IsSeq}
use Rattle.bearer_state.specs.Qos.{IsQos}
use Rattle.bearer_state.specs.Session.{IsAmbr}
use Rattle.control_steps.specs.Kinds.{IsAnswered}
use Rattle.control_steps.specs.Messages.{cause_alone, create_session_response, pdn_cause, modify_bearer_response, create_bearer_request, update_bearer_request, delete_bearer_request}
use Rattle.control_steps.proofs.ElementLemmas.{cause_fits, control_end_fits, ebi_fits, accepted_fits, asks_fit, new_context_fits, changed_context_fits}
use Rattle.control_steps.proofs.MessageLemmas.{create_is_answered, modify_is_answered, release_is_answered, delete_is_answered, cause_alone_fits, create_session_response_fits, modify_bearer_response_fits, create_bearer_request_fits, update_bearer_request_fits, delete_bearer_request_fits}

pub record Fits (message : Message) : Type 0 where
  pub message_fits : IsMessage message
  pub elements_fit : AllByRecursion IsElement message.ies
  pub has_required : HasRequired message

-- a request whose answer needs a cause alone
pub record AsksForCause (request : ℕ) : Type 0 where
  pub answered : IsAnswered request
  pub row : required (answer_of request) ≡ only (kinds.Cause ∷ [])

pub create_asks : AsksForCause CREATE_SESSION_REQUEST
unfolding required
create_asks = record { answered = create_is_answered; row = refl }

pub modify_asks : AsksForCause MODIFY_BEARER_REQUEST
unfolding required
modify_asks = record { answered = modify_is_answered; row = refl }

pub release_asks : AsksForCause RELEASE_ACCESS_BEARERS_REQUEST
unfolding required
release_asks = record { answered = release_is_answered; row = refl }

pub delete_asks : AsksForCause DELETE_SESSION_REQUEST
unfolding required
delete_asks = record { answered = delete_is_answered; row = refl }

pub cause_alone_is : (teid request seq code : ℕ) → teid < 2 ^ 32 → AsksForCause request → IsSeq seq → code < 2 ^ 8
    → Fits (cause_alone teid request seq code)
cause_alone_is teid request seq code teid_fits asks seq_fits code_fits = record {
  message_fits = cause_alone_fits teid request seq code teid_fits asks.answered seq_fits;
  elements_fit = (cause_fits code code_fits, tt);
  has_required = rw asks.row (record {
    before = (refl, tt);
    context = λ must. absurd (false≢true must);
    inside = tt;
    after = tt;
  });
}

pdn_cause_fits : (both : Bool) → (if both then 18 else 16) < 2 ^ 8
pdn_cause_fits true = omega arith
pdn_cause_fits false = omega arith

pub create_session_response_is : (slot teid seq pdn ebi : ℕ) → slot ≤ 65532 → teid < 2 ^ 32 → IsSeq seq → IsEbi ebi
    → Fits (create_session_response slot teid seq pdn ebi)
unfolding required
create_session_response_is slot teid seq pdn ebi slot_fits teid_fits seq_fits is = record {
  message_fits = create_session_response_fits slot teid seq pdn ebi teid_fits seq_fits;
  elements_fit = (
    cause_fits (pdn_cause pdn) (pdn_cause_fits (pdn == 3)),
    (
      record { instance = omega arith; value = control_end_fits slot slot_fits },
      (
        record { instance = omega arith; value = omega arith },
        (accepted_fits slot ebi 0 slot_fits is (omega arith), tt),
      ),
    ),
  );
  has_required = record { before = (refl, tt); context = λ must. absurd (false≢true must); inside = tt; after = tt };
}

pub modify_bearer_response_is : (slot teid seq : ℕ) (bearers : List Bearer) (asks : List Ask) → slot ≤ 65532
    → teid < 2 ^ 32 → IsSeq seq
    → AllByRecursion IsBearer bearers → AreAsks asks → Fits (modify_bearer_response slot teid seq bearers asks)
unfolding required
modify_bearer_response_is slot teid seq bearers asks slot_fits teid_fits seq_fits each are = record {
  message_fits = modify_bearer_response_fits slot teid seq bearers asks teid_fits seq_fits are.few;
  elements_fit = (cause_fits 16 (omega arith), asks_fit slot bearers asks slot_fits each are.each);
  has_required = record { before = (refl, tt); context = λ must. absurd (false≢true must); inside = tt; after = tt };
}

pub create_bearer_request_is : (slot teid seq linked index : ℕ) (tft : List ℕ) (qos : Qos) → slot ≤ 65532
    → teid < 2 ^ 32 → IsSeq seq → elements.IsEbi linked
    → index ≤ 10 → IsOctets 1000 tft → IsQos qos → Fits (create_bearer_request slot teid seq linked index tft qos)
unfolding required
create_bearer_request_is slot teid seq linked index tft qos slot_fits teid_fits seq_fits is in_range tft_fits
    qos_is = record {
      message_fits = create_bearer_request_fits slot teid seq linked index tft qos teid_fits seq_fits tft_fits;
      elements_fit = (
        record { instance = omega arith; value = is },
        (
          record {
            instance = omega arith;
            value = new_context_fits slot index tft qos slot_fits in_range tft_fits
                qos_is;
          },
          tt,
        ),
      );
      has_required = record {
        before = (refl, tt);
        context = λ must. refl;
        inside = ((refl, tt), ((refl, tt), ((refl, tt), tt)));
        after = tt;
      };
    }

pub update_bearer_request_is : (teid seq ebi : ℕ) (tft : Option (List ℕ)) (up down : ℕ) → teid < 2 ^ 32 → IsSeq seq
    → elements.IsEbi ebi
    → IfSome tft (IsOctets 1000) → IsAmbr up → IsAmbr down → Fits (update_bearer_request teid seq ebi tft up down)
unfolding required
update_bearer_request_is teid seq ebi tft up down teid_fits seq_fits is tft_fits up_fits down_fits = record {
  message_fits = update_bearer_request_fits teid seq ebi tft up down teid_fits seq_fits tft_fits;
  elements_fit = (
    record { instance = omega arith; value = changed_context_fits ebi tft is tft_fits },
    (record { instance = omega arith; value = (up_fits, down_fits) }, tt),
  );
  has_required = record { before = tt; context = λ must. refl; inside = ((refl, tt), tt); after = (refl, tt) };
}

pub delete_bearer_request_is : (teid seq ebi : ℕ) → teid < 2 ^ 32 → IsSeq seq → IsEbi ebi
    → Fits (delete_bearer_request teid seq ebi)
unfolding required
delete_bearer_request_is teid seq ebi teid_fits seq_fits is = record {
  message_fits = delete_bearer_request_fits teid seq ebi teid_fits seq_fits;
  elements_fit = (record { instance = omega arith; value = ebi_fits ebi is }, tt);
  has_required = record { before = tt; context = λ must. absurd (false≢true must); inside = tt; after = tt };
}

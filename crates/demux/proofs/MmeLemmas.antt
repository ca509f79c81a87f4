-- What octets ask that spell a message, and those with a fault.
use Rattle.std.proofs.Common.{◌≡◌, ◌≢◌, inl, inr, ℕ, List, Some, None, ap, ◌∙◌}
use Rattle.gtpv2_msg.specs.declared.fault.CBad.{CBad}
use Rattle.gtpv2_msg.specs.declared.fault.CBad.TheVariants.{NoMemory}
use Rattle.gtpv2_msg.specs.Message.{Message}
use Rattle.gtpv2_msg.specs.Reading.{Spells}
use Rattle.gtpv2_msg.specs.Refusal.{first_fault, refusal_of, IsRefusal}
use Rattle.demux.specs.Texts.{message_note}
use Rattle.demux.specs.Asked.{note}
use Rattle.demux.specs.Mme.{asked_where, message_asked, mme_asked}
use Rattle.demux.proofs.MessageLemmas.{message_spelled}

pub asked_read : (octets : List ℕ) (message : Message) → Spells octets message → first_fault octets ≡ None
    → mme_asked octets ≡ message_asked message
unfolding mme_asked
asked_read octets message spells none =
    ap (asked_where octets) none ∙ ap message_asked (message_spelled octets message spells)

pub asked_refused : (octets : List ℕ) (bad : CBad) → first_fault octets ≡ Some bad
    → mme_asked octets ≡ note (message_note bad (refusal_of octets bad))
unfolding mme_asked
asked_refused octets bad is = ap (asked_where octets) is

pub asked_told : (octets : List ℕ) (bad : CBad) → IsRefusal octets bad → bad ≢ NoMemory
    → mme_asked octets ≡ note (message_note bad (refusal_of octets bad))
asked_told octets bad (inl is) other = asked_refused octets bad is
asked_told octets bad (inr memory) other = absurd (other memory)

-- The octets that a verdict has are those of its packet, and with its own it is what it was.
use Rattle.std.proofs.Common.{◌≡◌, ℕ, List, drop, refl, sym, ap, ◌∙◌}
use Rattle.pc_base.specs.declared.packet.Peer.{Peer}
use Rattle.pc_base.specs.declared.packet.Verdict.{Verdict}
use Rattle.pc_base.specs.declared.packet.Verdict.TheVariants as verdict
use Rattle.packet_steps.specs.Lent.{verdict_of}
use Rattle.packet_steps.specs.Messages.{gpdu}
use Rattle.packet_steps.specs.declared.lent.LentVerdict.{LentVerdict}
use Rattle.packet_steps.specs.declared.lent.LentVerdict.TheVariants as lent
use Rattle.slot_execution.specs.Lending.{HasOctets, verdict_with}

-- the octets of a packet are those behind the eight of the tunnel's header
pub behind_header : (peer : Peer) (octets : List ℕ) → drop 8 (gpdu peer octets) ≡ octets
unfolding gpdu
behind_header peer octets = refl

-- a verdict has these octets, or none
abbrev pub OfPacket : List ℕ → Verdict → Type 0
OfPacket octets (verdict.Up life own) = own ≡ octets
OfPacket octets (verdict.Down life peer own) = drop 8 own ≡ octets
OfPacket octets verdict.NoBearer = Unit {0}
OfPacket octets verdict.Spoof = Unit {0}
OfPacket octets (verdict.Idle life) = Unit {0}
OfPacket octets (verdict.Held life message) = Unit {0}
OfPacket octets (verdict.Policed life) = Unit {0}

pub has_lent : (octets : List ℕ) (lent : LentVerdict) → OfPacket octets (verdict_of lent) → HasOctets lent octets
has_lent octets (lent.Up life own) of = of
has_lent octets (lent.Down life peer own) of = sym (behind_header peer own.now) ∙ of
has_lent octets lent.NoBearer of = tt
has_lent octets lent.Spoof of = tt
has_lent octets (lent.Idle life) of = tt
has_lent octets (lent.Held life message) of = tt
has_lent octets (lent.Policed life) of = tt

-- with its own octets a verdict is what it was
pub with_own : (lent : LentVerdict) (octets : List ℕ) → HasOctets lent octets
    → verdict_with lent octets ≡ verdict_of lent
with_own (lent.Up life own) octets is = ap (verdict.Up life) (sym is)
with_own (lent.Down life peer own) octets is = ap (λ o. verdict.Down life peer.addr (gpdu peer o)) (sym is)
with_own lent.NoBearer octets is = refl
with_own lent.Spoof octets is = refl
with_own (lent.Idle life) octets is = refl
with_own (lent.Held life message) octets is = refl
with_own (lent.Policed life) octets is = refl

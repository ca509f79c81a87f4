-- The definitions at worked pasts and packets.
use Rattle.std.proofs.Common.{◌≡◌, ℕ, true, false, List, [], ◌∷◌, ◌++◌, map, length, Option, Some, None, refl, replicate}
use Rattle.pc_base.specs.declared.packet.Packet.{Packet}
use Rattle.pc_base.specs.declared.packet.Peer.{Peer}
use Rattle.pc_base.specs.declared.packet.Way.{Way}
use Rattle.pc_base.specs.declared.packet.Way.TheVariants.{Up, Down}
use Rattle.pc_base.specs.declared.packet.Verdict.{Verdict}
use Rattle.pc_base.specs.declared.packet.Verdict.TheVariants as verdict
use Rattle.pc_base.specs.declared.effect.Effect.TheVariants as effect
use Rattle.pc_base.specs.declared.effect.Fate.TheVariants as fate
use Rattle.charging_book.specs.Happenings as book
use Rattle.charging_book.specs.declared.records.Why.TheVariants.{Qos, Gone}
use Rattle.rate_policer.specs.Conforming.{conforms}
use Rattle.tft_codec.specs.declared.component.Component.TheVariants.{RemotePort}
use Rattle.tft_codec.specs.declared.tft.BearerFilters.{BearerFilters}
use Rattle.tft_match.specs.Chosen.{chosen}
use Rattle.bearer_state.specs.declared.version.ActiveBearer.{ActiveBearer}
use Rattle.bearer_state.specs.Version.{VersionState}
use Rattle.packet_steps.specs.Messages.{gpdu, end_marker, notification}
use Rattle.packet_steps.specs.Past.{Past}
use Rattle.packet_steps.specs.Verdicts.{judged}
use Rattle.packet_steps.specs.Change.{marks, learnt}

-- 20 octets from 10.45.0.2 to 203.0.113.9, and from 10.45.0.3
abbrev from_user : ℕ → List ℕ
from_user last = 0x45 ∷ 0 ∷ 0 ∷ 20 ∷ 0 ∷ 0 ∷ 0 ∷ 0 ∷ 64 ∷ 0 ∷ 0xfd ∷ 0 ∷ 10 ∷ 45 ∷ 0 ∷ last ∷ 203 ∷ 0 ∷ 113 ∷ 9 ∷ []

-- 28 octets of UDP from 203.0.113.9, port 5060, to 10.45.0.2; with an offset it is a later fragment
abbrev to_user : ℕ → List ℕ
to_user offset =
    0x45 ∷ 0 ∷ 0 ∷ 28 ∷ 0 ∷ 0 ∷ 0 ∷ offset ∷ 64 ∷ 17 ∷ 0 ∷ 0 ∷ 203 ∷ 0 ∷ 113 ∷ 9 ∷ 10 ∷ 45 ∷ 0 ∷ 2 ∷ 0x13 ∷ 0xc4 ∷ 0x27 ∷ 0x10 ∷ 0 ∷ 8 ∷ 0 ∷ 0 ∷ []

-- two eNodeBs, 198.51.100.7 and 198.51.100.8, and the MME at 198.51.100.1
abbrev first_enb : Peer
first_enb = record { teid = 0xa01; addr = 0xc6336407 }

abbrev second_enb : Peer
second_enb = record { teid = 0xa02; addr = 0xc6336408 }

abbrev mme : Peer
mme = record { teid = 0x1000; addr = 0xc6336401 }

-- the default bearer, of life 0 and EBI 5, and one with a guaranteed rate for what comes from port 5060
abbrev default_bearer : Option Peer → ActiveBearer
default_bearer enb = record {
  index = 0;
  life = 0;
  ebi = 5;
  qos = record { arp = 0x24; qci = 9; mbr_up = 0; mbr_down = 0; gbr_up = 0; gbr_down = 0 };
  enb = enb;
}

abbrev dedicated : Option Peer → ActiveBearer
dedicated enb = record {
  index = 1;
  life = 1;
  ebi = 6;
  qos = record { arp = 0x24; qci = 1; mbr_up = 128; mbr_down = 8; gbr_up = 64; gbr_down = 8 };
  enb = enb;
}

abbrev default_row : BearerFilters
default_row = record { index = 0; filters = [] }

abbrev port_row : BearerFilters
port_row = record { index = 1; filters = record { id = 0; direction = 3; precedence = 9; components = RemotePort 5060 ∷ [] } ∷ [] }

-- a version of one bearer, and of two, of slot 0, whose AMBR both ways was set so often
abbrev one_bearer : ℕ → ℕ → Option Peer → VersionState
one_bearer kbps rates enb = record {
  number = 1;
  slot = 0;
  live = true;
  mme = Some mme;
  up = kbps;
  down = kbps;
  rates = rates;
  bearers = default_bearer enb ∷ [];
  rows = default_row ∷ [];
}

abbrev two_bearers : Option Peer → VersionState
two_bearers enb = record {
  number = 1;
  slot = 0;
  live = true;
  mme = Some mme;
  up = 1000;
  down = 1000;
  rates = 1;
  bearers = default_bearer enb ∷ dedicated enb ∷ [];
  rows = default_row ∷ port_row ∷ [];
}

abbrev fresh : VersionState → Past
fresh version = record { version = version; forwarded = []; held = []; last = None; charged = [] }

abbrev packet : ℕ → ℕ → Way → List ℕ → Packet
packet number moment way octets = record { number = number; moment = moment; way = way; octets = octets }

-- the pasts and verdicts of packets, one after another
abbrev verdicts : Past → List Packet → List Verdict
verdicts past [] = []
verdicts past (p ∷ packets) = (judged past p).1 ∷ verdicts (judged past p).0 packets

abbrev after : Past → List Packet → Past
after past [] = past
after past (p ∷ packets) = after (judged past p).0 packets

-- up from the subscriber's own address alone, on a bearer that is there, while attached, and only what is a packet
uplink : verdicts (fresh (one_bearer 1000 1 (Some first_enb)))
    (packet 0 5 (Up 0) (from_user 2) ∷ packet 1 5 (Up 0) (from_user 3) ∷ packet 2 5 (Up 1) (from_user 2) ∷ packet 3 5
    (Up 0) (from_user 2 ++ 0 ∷ []) ∷ [])
    ≡ verdict.Up 0 (from_user 2) ∷ verdict.Spoof ∷ verdict.NoBearer ∷ verdict.NoBearer ∷ []
unfolding conforms
uplink = refl

not_attached : (judged (fresh (record (one_bearer 1000 1 (Some first_enb)) { live = false }))
    (packet 0 5 (Up 0) (from_user 2))).1 ≡ verdict.NoBearer
not_attached = refl

-- down by the filters, to the eNodeB in the tunnel's octets; a later fragment has no port
abbrev tunnelled : ℕ → List ℕ → List ℕ
tunnelled teid octets = 0x30 ∷ 0xff ∷ 0 ∷ 28 ∷ 0 ∷ 0 ∷ 0xa ∷ teid ∷ octets

downlink : verdicts (fresh (two_bearers (Some first_enb)))
    (packet 0 5 Down (to_user 0) ∷ packet 1 5 Down (to_user 1) ∷ [])
    ≡ verdict.Down 1 0xc6336407 (tunnelled 1 (to_user 0)) ∷ verdict.Down 0 0xc6336407 (tunnelled 1 (to_user 1)) ∷ []
unfolding conforms chosen gpdu
downlink = refl

-- without an eNodeB: the first packet is told to the MME, sixteen are held, the next one isn't
abbrev told : Option (List ℕ)
told = Some (0x48 ∷ 0xb0 ∷ 0 ∷ 0x0d ∷ 0 ∷ 0 ∷ 0x10 ∷ 0 ∷ 0 ∷ 0 ∷ 0 ∷ 0 ∷ 0x49 ∷ 0 ∷ 1 ∷ 0 ∷ 5 ∷ [])

holding : verdicts (fresh (one_bearer 1000 1 None)) (replicate 17 (packet 0 1 Down (to_user 0)))
    ≡ verdict.Held 0 told ∷ replicate 15 (verdict.Held 0 None) ++ verdict.Idle 0 ∷ []
unfolding conforms chosen notification
holding = refl

-- the sequence number of the message is the packet's number in 23 bits
numbered : (judged (fresh (one_bearer 1000 1 None)) (packet 0x81_0203 1 Down (to_user 0))).1
    ≡ verdict.Held 0 (Some (0x48 ∷ 0xb0 ∷ 0 ∷ 0x0d ∷ 0 ∷ 0 ∷ 0x10 ∷ 0 ∷ 1 ∷ 2 ∷ 3 ∷ 0 ∷ 0x49 ∷ 0 ∷ 1 ∷ 0 ∷ 5 ∷ []))
unfolding conforms chosen notification
numbered = refl

untold : (judged (fresh (record (one_bearer 1000 1 None) { mme = None })) (packet 0 1 Down (to_user 0))).1
    ≡ verdict.Held 0 None
unfolding chosen
untold = refl

-- at 8 kbit/s 3,000 octets pass at once: 107 packets of 28 octets, and not one more
policed : (verdicts (after (fresh (one_bearer 8 1 (Some first_enb))) (replicate 107 (packet 0 0 Down (to_user 0))))
    (packet 0 23999 Down (to_user 0) ∷ packet 0 24000 Down (to_user 0) ∷ []))
    ≡ verdict.Policed 0 ∷ verdict.Down 0 0xc6336407 (tunnelled 1 (to_user 0)) ∷ []
unfolding conforms chosen gpdu
policed = refl

-- what a new version brings, in its order: lives end, pieces are cut where the AMBR was set, lives begin
abbrev moved : VersionState
moved = record {
  number = 2;
  slot = 0;
  live = true;
  mme = Some mme;
  up = 500;
  down = 500;
  rates = 2;
  bearers = default_bearer (Some first_enb) ∷ record (dedicated None) { index = 2; life = 2; ebi = 7 } ∷ [];
  rows = [];
}

changes : marks (two_bearers (Some first_enb)) moved ≡ book.closed 1 Gone ∷ book.closed 0 Qos ∷ book.started 2 7 1 ∷ []
changes = refl

-- at the same AMBR no piece is cut, and that of a guaranteed bearer never is
uncut : marks (two_bearers (Some first_enb)) (two_bearers None) ≡ []
uncut = refl

uncut_guaranteed : marks (two_bearers None) (record (two_bearers None) { rates = 2 }) ≡ book.closed 0 Qos ∷ []
uncut_guaranteed = refl

-- End Markers go to the eNodeB that is left, where there is another one, and not where the bearer is gone or idle
marker : (learnt (fresh (one_bearer 1000 1 (Some first_enb))) (one_bearer 1000 1 (Some second_enb))).1
    ≡ effect.Marker 0 0xc6336407 (0x30 ∷ 0xfe ∷ 0 ∷ 0 ∷ 0 ∷ 0 ∷ 0xa ∷ 1 ∷ []) ∷ []
unfolding end_marker
marker = refl

no_marker : map (λ (version : VersionState). (learnt (fresh (two_bearers (Some first_enb))) version).1)
    (two_bearers (Some first_enb) ∷ two_bearers None ∷ [])
    ≡ [] ∷ [] ∷ []
no_marker = refl

none_behind_gone : (learnt (fresh (two_bearers (Some first_enb))) (one_bearer 1000 1 (Some second_enb))).1
    ≡ effect.Marker 0 0xc6336407 (0x30 ∷ 0xfe ∷ 0 ∷ 0 ∷ 0 ∷ 0 ∷ 0xa ∷ 1 ∷ []) ∷ []
unfolding end_marker
none_behind_gone = refl

-- held packets in their order: one whose bearer is gone, one that is forwarded and charged by its own 28 octets at the
-- moment of the last packet, and one that waits on
abbrev held_three : Past
held_three = after (fresh (two_bearers None))
    (packet 4 7 Down (to_user 0) ∷ packet 5 8 Down (to_user 1) ∷ packet 6 9 (Up 0) (from_user 3) ∷ [])

released_one : (learnt held_three (one_bearer 1000 1 (Some first_enb))).1
    ≡ effect.Fate 4 (fate.Gone 1) ∷ effect.Fate 5 (fate.Down 0 0xc6336407 (tunnelled 1 (to_user 1))) ∷ []
unfolding conforms chosen gpdu notification
released_one = refl

charged_when_forwarded : ((learnt held_three (one_bearer 1000 1 (Some first_enb))).0).charged
    ≡ book.closed 1 Gone ∷ book.forwarded 0 (record { up = false; octets = 28; at = 9 }) ∷ []
unfolding conforms chosen gpdu notification
charged_when_forwarded = refl

waits_on : length ((learnt held_three (two_bearers None)).0).held ≡ 2
unfolding conforms chosen notification
waits_on = refl

-- What may become of a packet that is judged, and of one that is held.
use Rattle.std.proofs.Common.{◌≡◌, ℕ, ◌+◌, ◌-◌, ◌<◌, ◌==◌, ◌&&◌, Bool, true, false, nat_le, List, [], ◌∷◌, ◌++◌, length, Option, Some, None, refl, sym, ap, ◌∙◌, arith}
use Rattle.std.proofs.lemmas.Bool.{eqb-true, leb-false}
use Rattle.pc_base.specs.Addresses.{addr_of}
use Rattle.pc_base.specs.declared.effect.Effect.{Effect}
use Rattle.pc_base.specs.declared.effect.Effect.TheVariants as effect
use Rattle.pc_base.specs.declared.effect.Fate.{Fate}
use Rattle.pc_base.specs.declared.effect.Fate.TheVariants as fate
use Rattle.pc_base.specs.declared.packet.Packet.{Packet}
use Rattle.pc_base.specs.declared.packet.Peer.{Peer}
use Rattle.pc_base.specs.declared.packet.Verdict.{Verdict}
use Rattle.pc_base.specs.declared.packet.Verdict.TheVariants as verdict
use Rattle.pc_base.specs.declared.packet.Way.{Way}
use Rattle.pc_base.specs.declared.packet.Way.TheVariants.{Up, Down}
use Rattle.ipv4_packet.specs.Fields.{source_of}
use Rattle.tft_match.specs.Chosen.{chosen}
use Rattle.bearer_state.specs.declared.version.ActiveBearer.{ActiveBearer}
use Rattle.bearer_state.specs.Version.{bearer_at}
use Rattle.packet_steps.specs.Rows.{HeldRow}
use Rattle.packet_steps.specs.Messages.{gpdu}
use Rattle.packet_steps.specs.Past.{Past, row_for, with_row, with_held}
use Rattle.packet_steps.specs.Policing.{passes}
use Rattle.packet_steps.specs.Verdicts.{tried, notice, judged_up, judged_to, judged_down, bearer_for, judged_by_way, is_packet, at_moment, judged}
use Rattle.packet_steps.specs.Change.{bearer_of, fated, released_to, released_by, released}
use Rattle.gate_model.specs.Holding.{is_held}
use Rattle.gate_model.specs.Ledger.{sent_as, sent_by_verdict, sent_by_fate}
use Rattle.gate_model.proofs.Members.{In}
use Rattle.gate_model.proofs.PastSteps.{either, found_at, found_chosen, found_life}

pub length-gpdu : (peer : Peer) (octets : List ℕ) → length (gpdu peer octets) ≡ length octets + 8
unfolding gpdu
length-gpdu peer octets = omega arith

-- A packet changes nothing and isn't sent, or it is sent and remembered so, or it waits.
pub data JudgedAs (past : Past) (packet : Packet) (outcome : Past × Verdict) : Type 0 where
  nothing : outcome.0 ≡ past → is_held outcome.1 ≡ false → sent_by_verdict outcome.1 ≡ [] → JudgedAs past packet outcome
  passed : (b : ActiveBearer) (way : Bool) → In b past.version.bearers → passes past b way (length packet.octets) ≡ true
      → outcome.0 ≡ with_row past (row_for past b way (length packet.octets)) → is_held outcome.1 ≡ false
      → sent_by_verdict outcome.1 ≡ sent_as (row_for past b way (length packet.octets)) ∷ []
      → JudgedAs past packet outcome
  waits : (b : ActiveBearer) → In b past.version.bearers → length past.held < 16
      → outcome.0 ≡ with_held past (record { packet = packet; life = b.life })
      → is_held outcome.1 ≡ true → sent_by_verdict outcome.1 ≡ [] → JudgedAs past packet outcome

tried_as : (past : Past) (packet : Packet) (b : ActiveBearer) (way : Bool) (sent : Verdict)
    → In b past.version.bearers → is_held sent ≡ false
    → sent_by_verdict sent ≡ sent_as (row_for past b way (length packet.octets)) ∷ [] → (fits : Bool)
    → passes past b way (length packet.octets) ≡ fits
    → JudgedAs past packet (either fits (with_row past (row_for past b way (length packet.octets)), sent) (
      past,
      verdict.Policed b.life,
    ))
tried_as past packet b way sent there not_held shown true fits = passed b way there fits refl not_held shown
tried_as past packet b way sent there not_held shown false fits = nothing refl refl refl

up_as : (past : Past) (packet : Packet) (b : ActiveBearer) → In b past.version.bearers → (own : Bool)
    → JudgedAs past packet (either own (tried past b true (length packet.octets) (verdict.Up b.life packet.octets))
    (past, verdict.Spoof))
up_as past packet b there true =
    tried_as past packet b true (verdict.Up b.life packet.octets) there refl refl
    (passes past b true (length packet.octets)) refl
up_as past packet b there false = nothing refl refl refl

found_up_as : (past : Past) (packet : Packet) (found : Option ActiveBearer)
    → ((b : ActiveBearer) → found ≡ Some b → In b past.version.bearers)
    → JudgedAs past packet (judged_up past packet.octets found)
found_up_as past packet None among = nothing refl refl refl
found_up_as past packet (Some b) among =
    up_as past packet b (among b refl) (source_of packet.octets == addr_of past.version.slot)

waiting_as : (past : Past) (packet : Packet) (b : ActiveBearer) (message : Option (List ℕ))
    → In b past.version.bearers → (full : Bool) → nat_le 16 (length past.held) ≡ full
    → JudgedAs past packet (either full (past, verdict.Idle b.life)
    (with_held past (record { packet = packet; life = b.life }), verdict.Held b.life message))
waiting_as past packet b message there true is = nothing refl refl refl
waiting_as past packet b message there false is = waits b there (leb-false 16 (length past.held) is) refl refl refl

sent_down_as : (past : Past) (b : ActiveBearer) (peer : Peer) (octets : List ℕ)
    → sent_by_verdict (verdict.Down b.life peer.addr (gpdu peer octets))
    ≡ sent_as (row_for past b false (length octets)) ∷ []
sent_down_as past b peer octets =
    let same : length (gpdu peer octets) - 8 ≡ length octets = omega (arith, length-gpdu peer octets) in
    ap (λ n. record { life = b.life; up = false; octets = n } ∷ []) same

to_as : (past : Past) (packet : Packet) (b : ActiveBearer) (enb : Option Peer) → In b past.version.bearers
    → JudgedAs past packet (judged_to past packet b enb)
to_as past packet b None there =
    waiting_as past packet b (notice past packet.number b.ebi) there (nat_le 16 (length past.held)) refl
to_as past packet b (Some peer) there =
    tried_as past packet b false (verdict.Down b.life peer.addr (gpdu peer packet.octets)) there refl
    (sent_down_as past b peer packet.octets)
    (passes past b false (length packet.octets)) refl

found_down_as : (past : Past) (packet : Packet) (found : Option ActiveBearer)
    → ((b : ActiveBearer) → found ≡ Some b → In b past.version.bearers)
    → JudgedAs past packet (judged_down past packet found)
found_down_as past packet None among = nothing refl refl refl
found_down_as past packet (Some b) among = to_as past packet b b.enb (among b refl)

way_as : (past : Past) (packet : Packet) (way : Way) → JudgedAs past packet (judged_by_way past packet way)
way_as past packet (Up index) =
    found_up_as past packet (bearer_at past.version.bearers index) (found_at past.version.bearers index)
way_as past packet Down =
    found_down_as past packet (bearer_for past.version packet.octets)
    (found_chosen past.version.bearers (chosen past.version.rows packet.octets))

now_as : (past : Past) (packet : Packet) → (may : Bool)
    → JudgedAs past packet (either may (judged_by_way past packet packet.way) (past, verdict.NoBearer))
now_as past packet true = way_as past packet packet.way
now_as past packet false = nothing refl refl refl

pub judged_as : (past : Past) (packet : Packet) → JudgedAs (at_moment past packet.moment) packet (judged past packet)
judged_as past packet = now_as (at_moment past packet.moment) packet (past.version.live && is_packet packet.octets)

-- A held packet has its fate and isn't sent, or it is sent and remembered so, or it waits on.
pub data ReleasedAs (so_far : Past × List Effect) (row : HeldRow) (outcome : Past × List Effect) : Type 0 where
  ends : (fate_ : Fate) → outcome.0 ≡ so_far.0 → outcome.1 ≡ so_far.1 ++ effect.Fate row.packet.number fate_ ∷ []
      → sent_by_fate fate_ ≡ []
      → ReleasedAs so_far row outcome
  passed : (b : ActiveBearer) (fate_ : Fate) → In b so_far.0.version.bearers
      → passes so_far.0 b false (length row.packet.octets) ≡ true
      → outcome.0 ≡ with_row so_far.0 (row_for so_far.0 b false (length row.packet.octets))
      → outcome.1 ≡ so_far.1 ++ effect.Fate row.packet.number fate_ ∷ []
      → sent_by_fate fate_ ≡ sent_as (row_for so_far.0 b false (length row.packet.octets)) ∷ []
      → ReleasedAs so_far row outcome
  waits : outcome.0 ≡ with_held so_far.0 row → outcome.1 ≡ so_far.1 → ReleasedAs so_far row outcome

released_if_as : (so_far : Past × List Effect) (row : HeldRow) (b : ActiveBearer) (peer : Peer)
    → In b so_far.0.version.bearers → b.life ≡ row.life
    → (fits : Bool) → passes so_far.0 b false (length row.packet.octets) ≡ fits
    → ReleasedAs so_far row (either fits
    (fated (with_row so_far.0 (row_for so_far.0 b false (length row.packet.octets)), so_far.1) row
    (fate.Down row.life peer.addr (gpdu peer row.packet.octets)))
    (fated so_far row (fate.Policed row.life)))
released_if_as so_far row b peer there lives true fits =
    let same : length (gpdu peer row.packet.octets) - 8 ≡ length row.packet.octets =
    omega (arith, length-gpdu peer row.packet.octets) in
    let shown : sent_by_fate (fate.Down row.life peer.addr (gpdu peer row.packet.octets))
    ≡ sent_as (row_for so_far.0 b false (length row.packet.octets)) ∷ [] =
    ap (λ n. record { life = row.life; up = false; octets = n } ∷ []) same
    ∙ ap (λ n. record { life = n; up = false; octets = length row.packet.octets } ∷ []) (sym lives) in
    passed b (fate.Down row.life peer.addr (gpdu peer row.packet.octets)) there fits refl refl shown
released_if_as so_far row b peer there lives false fits = ends (fate.Policed row.life) refl refl refl

released_to_as : (so_far : Past × List Effect) (row : HeldRow) (b : ActiveBearer) (enb : Option Peer)
    → In b so_far.0.version.bearers → b.life ≡ row.life
    → ReleasedAs so_far row (released_to so_far row b enb)
released_to_as so_far row b None there lives = waits refl refl
released_to_as so_far row b (Some peer) there lives =
    released_if_as so_far row b peer there lives (passes so_far.0 b false (length row.packet.octets)) refl

released_by_as : (so_far : Past × List Effect) (row : HeldRow) (found : Option ActiveBearer)
    → ((b : ActiveBearer) → found ≡ Some b → In b so_far.0.version.bearers × ((b.life == row.life) ≡ true))
    → ReleasedAs so_far row (released_by so_far row found)
released_by_as so_far row None among = ends (fate.Gone row.life) refl refl refl
released_by_as so_far row (Some b) among =
    let found = among b refl in released_to_as so_far row b b.enb found.0 (eqb-true b.life row.life found.1)

pub released_as : (so_far : Past × List Effect) (row : HeldRow) → ReleasedAs so_far row (released so_far row)
released_as so_far row = released_by_as so_far row (bearer_of so_far.0.version.bearers row.life)
    (found_life so_far.0.version.bearers row.life)

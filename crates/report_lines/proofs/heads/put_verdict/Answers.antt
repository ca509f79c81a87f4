use Rattle.std.proofs.Common.{◌≡◌, List, ℕ, [], ◌∷◌, ◌++◌, refl, sym, ap, subst, ◌∙◌, append-nil}
use Rattle.std.specs.Prelude.{decimal, codes}
use Rattle.hex.specs.Hex.{encode_lower, encode_with}
use Rattle.gtpu_codec.specs.Text.{spelling}
use Rattle.gtpu_codec.specs.declared.message.GtpU.TheVariants.{Gpdu}
use Rattle.packet_steps.specs.Lent.{verdict_of}
use Rattle.packet_steps.specs.Messages.{gpdu}
use Rattle.packet_steps.specs.declared.lent.LentVerdict.{LentVerdict}
use Rattle.pc_base.specs.declared.packet.Peer.{Peer}
use Rattle.text_fields.specs.Address.{dotted}
use Rattle.text_fields.specs.Fields.{behind}
use Rattle.report_lines.specs.Text.{verdict_fields}
use Rattle.report_lines.proofs.HeadLemmas.{all_behind, encode-append, last_behind, tunnelled}
use Rattle.report_lines.proofs.heads.put_verdict.Goals as goal

-- a head and the octets behind it are the fields of a verdict
abbrev Told : List ℕ → List ℕ → LentVerdict → Type 0
Told head octets verdict = head ++ encode_lower octets ≡ behind (verdict_fields (verdict_of verdict) [])

pub returns-in-Up-clause-told : goal.returns-in-Up-clause-told
returns-in-Up-clause-told c =
    let head = c.put_life.new.head in
    let octets = c.in-Up.octets.now in
    let fields : List (List ℕ) = codes "up" ∷ decimal c.in-Up.life ∷ [] in
    subst (Told head octets) (sym c.in-Up.is)
    (last_behind fields head [] (encode_lower octets) (encode_lower octets)
    (rw (c.put_life.ensures.value, c.put.ensures, c.requires.empty) refl) refl)

pub returns-in-Down-clause-told : goal.returns-in-Down-clause-told
returns-in-Down-clause-told c =
    let head = c.put_life-in-Down.new.head in
    let peer = c.in-Down.peer in
    let octets = c.in-Down.octets.now in
    let tunnel : List ℕ = c.gpdu_head.result in
    let fields : List (List ℕ) = codes "down" ∷ decimal c.in-Down.life ∷ dotted peer.addr ∷ [] in
    subst (Told head octets) (sym c.in-Down.is)
    (last_behind fields head (encode_lower tunnel) (encode_lower octets) (encode_lower (gpdu peer octets))
    (rw (
      c.put_life-in-Down.ensures.value,
      c.put_address.ensures.value,
      c.put-in-Down.ensures,
      c.put_eight.ensures.value,
      c.requires.empty,
      append-nil (encode_lower tunnel),
      ap (λ (p : Peer). p.addr) c.peer.view_is,
    ) refl)
    (ap encode_lower (tunnelled peer octets tunnel
    (subst (λ (p : Peer). spelling (Gpdu p.teid octets) ≡ tunnel ++ octets) c.peer.view_is
    (c.gpdu_head.ensures.text octets refl))) ∙ encode-append tunnel octets))

pub returns-in-Held-clause-told : goal.returns-in-Held-clause-told
returns-in-Held-clause-told c =
    subst (Told c.put_held.new.head c.put_held.result.now) (sym c.in-Held.is) c.put_held.ensures.told

pub returns-in-Idle-clause-told : goal.returns-in-Idle-clause-told
unfolding encode_with
returns-in-Idle-clause-told c =
    let head = c.put_life-in-Idle.new.head in
    let fields : List (List ℕ) = codes "idle" ∷ decimal c.in-Idle.life ∷ [] in
    subst (Told head []) (sym c.in-Idle.is)
    (all_behind fields head (rw (c.put_life-in-Idle.ensures.value, c.requires.empty) refl))

pub returns-in-Policed-clause-told : goal.returns-in-Policed-clause-told
unfolding encode_with
returns-in-Policed-clause-told c =
    let head = c.put_life-in-Policed.new.head in
    let fields : List (List ℕ) = codes "policed" ∷ decimal c.in-Policed.life ∷ [] in
    subst (Told head []) (sym c.in-Policed.is)
    (all_behind fields head (rw (c.put_life-in-Policed.ensures.value, c.requires.empty) refl))

pub returns-in-NoBearer-clause-told : goal.returns-in-NoBearer-clause-told
unfolding encode_with
returns-in-NoBearer-clause-told c =
    let head = c.put_word.new.self in
    subst (Told head []) (sym c.in-NoBearer.is)
    (all_behind (codes "nobearer" ∷ []) head (rw (c.put_word.ensures, c.requires.empty) refl))

pub returns-in-Spoof-clause-told : goal.returns-in-Spoof-clause-told
unfolding encode_with
returns-in-Spoof-clause-told c =
    let head = c.put_word-in-Spoof.new.self in
    subst (Told head []) (sym c.in-Spoof.is)
    (all_behind (codes "spoof" ∷ []) head (rw (c.put_word-in-Spoof.ensures, c.requires.empty) refl))

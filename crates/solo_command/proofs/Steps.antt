-- An event leaves subscribers alike that were so, and both answer it alike.
use Rattle.std.proofs.Common.{◌≡◌, ℕ, ◌+◌, ◌-◌, ◌^◌, ◌≤◌, List, [], ◌++◌, length, refl, sym, ap, ◌∙◌, subst, arith}
use Rattle.pc_base.specs.declared.effect.Effect.{Effect}
use Rattle.pc_base.specs.declared.packet.Packet.{Packet}
use Rattle.pc_base.specs.declared.packet.Verdict.{Verdict}
use Rattle.pc_base.specs.declared.reply.Reply.{Reply}
use Rattle.charging_book.specs.declared.records.Piece.{Piece}
use Rattle.charging_book.specs.Happenings.{Happening}
use Rattle.charging_book.specs.Posted.{pieces_after, rows_after}
use Rattle.charging_book.specs.Rows.{Charged}
use Rattle.bearer_state.specs.Session.{SessionState}
use Rattle.bearer_state.specs.Version.{VersionState, version_of}
use Rattle.control_steps.specs.declared.command.CommandKind.{CommandKind}
use Rattle.control_steps.specs.Table.{controlled}
use Rattle.packet_steps.specs.Change.{waits}
use Rattle.packet_steps.specs.Plans.{verdict_by}
use Rattle.packet_steps.specs.Rows.{HeldRow}
use Rattle.packet_steps.specs.Running.{brought, charged_by, planned}
use Rattle.packet_steps.specs.declared.plan.Plan.{Plan}
use Rattle.subscriber.specs.Standing.{SubscriberState, commands_met}
use Rattle.subscriber.specs.Charging.{AreOpen, AreWithin, MayBeCharged}
use Rattle.subscriber.specs.Subscribers.{AreSubscribersAlike, CommandIsAlike, PacketIsAlike}
use Rattle.subscriber.proofs.ChargeLemmas.{packets_charged, versions_charged}
use Rattle.subscriber.proofs.SubscriberLemmas.{commands_stay, packets_stay}
use Rattle.solo_command.specs.Answering.{Answers, IsValid, Judges, without_rows}
use Rattle.gate_model.proofs.FewCharges.{filter_few}
use Rattle.solo_command.proofs.Few.{held_few, packet_few, version_few, within_more}

-- at rest, with these pieces: what an event charges may be posted
pub record IsGoing (one : SubscriberState) (pieces : List Piece) (most : ℕ) : Type 0 where
  pub valid : IsValid one
  pub versioned : one.version ≡ version_of one.session (commands_met one)
  pub rows : one.counters.book.rows ≡ []
  pub open_ : AreOpen one.version pieces
  pub within : AreWithin most pieces
  pub few : length one.counters.held ≤ 16

-- two that hold the same, at rest
pub record AreOne (one other : SubscriberState) (most : ℕ) : Type 0 where
  pub pieces : List Piece
  pub others : List Piece
  pub alike : AreSubscribersAlike one other pieces others
  pub going : IsGoing one pieces most
  pub others_rows : other.counters.book.rows ≡ []

-- an event charges this much at most
abbrev pub step : ℕ
step = 49

pub more_are_one : (one other : SubscriberState) (most more : ℕ) → most ≤ more → AreOne one other most
    → AreOne one other more
more_are_one one other most more few are = record {
  pieces = are.pieces;
  others = are.others;
  alike = are.alike;
  going = record {
    valid = are.going.valid;
    versioned = are.going.versioned;
    rows = are.going.rows;
    open_ = are.going.open_;
    within = within_more most more are.pieces few are.going.within;
    few = are.going.few;
  };
  others_rows = are.others_rows;
}

-- taking the records out changes nothing of it
emptied_alike : (one other : SubscriberState) (pieces others : List Piece) → AreSubscribersAlike one other pieces others
    → AreSubscribersAlike (without_rows one) (without_rows other) pieces others
emptied_alike one other pieces others alike = record {
  session = alike.session;
  version = alike.version;
  packets = alike.packets;
  destination = alike.destination;
  counters = record {
    meters = alike.counters.meters;
    pieces_are = record {
      opens = alike.counters.pieces_are.opens;
      moments = alike.counters.pieces_are.moments;
    };
    others_are = record {
      opens = alike.counters.others_are.opens;
      moments = alike.counters.others_are.moments;
    };
    pieces_alike = alike.counters.pieces_alike;
    held = alike.counters.held;
    last = alike.counters.last;
  };
}

-- a command
pub record AnswersAlike (reply reply_too : Reply) (effects effects_too : List Effect) (rows rows_too : List Charged)
    (next after : SubscriberState) (most : ℕ) : Type 0 where
  pub replies : reply ≡ reply_too
  pub effects_are : effects ≡ effects_too
  pub rows_are : rows ≡ rows_too
  pub are : AreOne next after (most + step)

no_rows : (rows : List Charged) (xs ys : List Charged) → xs ≡ [] → rows ≡ xs ++ ys → rows ≡ ys
no_rows rows xs ys none is = is ∙ ap (λ zs. zs ++ ys) none

pub answers_alike : (one other next after : SubscriberState) (command : CommandKind) (reply reply_too : Reply)
    (effects effects_too : List Effect) (rows rows_too : List Charged) (most : ℕ) → AreOne one other most
    → most + step ≤ 2 ^ 61 - 20
    → Answers one command reply effects rows next → Answers other command reply_too effects_too rows_too after
    → AnswersAlike reply reply_too effects effects_too rows rows_too next after most
answers_alike one other next after command reply reply_too effects effects_too rows rows_too most are few first second =
    let going = are.going in
    let left = first.left in
    let charged : List Happening = (brought one.version left.version one.counters).charged in
    let little : length charged ≤ step =
    version_few one.version left.version one.counters going.valid.version first.valid.version going.few in
    let may : MayBeCharged left.version most are.pieces charged =
    versions_charged one.version left.version one.counters are.pieces most going.valid.version first.valid.version
    going.open_ going.within (omega arith) in
    let stays : CommandIsAlike one other left second.left are.pieces are.others =
    commands_stay one other left second.left are.pieces are.others command are.alike going.versioned
    going.valid.session going.valid.bearers first.valid.version may.may first.commanded second.commanded in
    let going_on : IsGoing (without_rows left) (pieces_after are.pieces charged) (most + step) = record {
      valid = record {
        session = first.valid.session;
        bearers = first.valid.bearers;
        version = first.valid.version;
      };
      versioned = first.commanded.version
          ∙ ap (version_of left.session) (sym (ap (λ (v : VersionState). v.number) first.commanded.version));
      rows = refl;
      open_ = may.open_then;
      within = within_more (most + length charged) (most + step) (pieces_after are.pieces charged) (omega arith)
          may.within;
      few = subst (λ (held : List HeldRow). length held ≤ 16) (sym first.commanded.counters.held)
          (omega (
            arith,
            going.few,
            filter_few (λ (row : HeldRow). waits left.version.bearers row.life) one.counters.held,
          ));
    } in
    record {
      replies = first.reply_is ∙ ap (λ (s : SessionState). (controlled s command).1) are.alike.session
          ∙ sym second.reply_is;
      effects_are = first.effects_are ∙ stays.effects ∙ sym second.effects_are;
      rows_are = first.rows_are
          ∙ no_rows left.counters.book.rows one.counters.book.rows (rows_after are.pieces charged) going.rows
          stays.stay.rows
          ∙ sym (no_rows second.left.counters.book.rows other.counters.book.rows (rows_after are.pieces charged)
          are.others_rows stays.stay.others_rows)
          ∙ sym second.rows_are;
      are = subst (λ (s : SubscriberState). AreOne s after (most + step)) (sym first.taken)
          (subst (λ (s : SubscriberState). AreOne (without_rows left) s (most + step)) (sym second.taken) (record {
            pieces = pieces_after are.pieces charged;
            others = pieces_after are.others charged;
            alike = emptied_alike left second.left (pieces_after are.pieces charged) (pieces_after are.others charged)
                stays.stay.alike;
            going = going_on;
            others_rows = refl;
          }));
    }

-- a packet
pub record JudgesAlike (verdict verdict_too : Verdict) (rows rows_too : List Charged) (next after : SubscriberState)
    (most : ℕ) : Type 0 where
  pub verdicts : verdict ≡ verdict_too
  pub rows_are : rows ≡ rows_too
  pub are : AreOne next after (most + step)

pub judges_alike : (one other next after : SubscriberState) (packet : Packet) (verdict verdict_too : Verdict)
    (rows rows_too : List Charged) (most : ℕ) → AreOne one other most → most + step ≤ 2 ^ 61 - 20
    → Judges one packet verdict rows next → Judges other packet verdict_too rows_too after
    → JudgesAlike verdict verdict_too rows rows_too next after most
judges_alike one other next after packet verdict verdict_too rows rows_too most are few first second =
    let going = are.going in
    let left = first.left in
    let charged : List Happening = charged_by (planned one.version one.counters packet) packet.moment in
    let little : length charged ≤ 1 = packet_few (planned one.version one.counters packet) packet.moment in
    let may : MayBeCharged one.version most are.pieces charged =
    packets_charged one.version one.counters are.pieces most packet going.open_ going.within (omega arith) in
    let stays : PacketIsAlike one other left second.left are.pieces are.others packet =
    packets_stay one other left second.left are.pieces are.others packet are.alike going.valid.version may.may
    first.met second.met in
    let session : left.session ≡ one.session = ap (λ (s : SubscriberState). s.session) first.met.others in
    let version : left.version ≡ one.version = ap (λ (s : SubscriberState). s.version) first.met.others in
    let going_on : IsGoing (without_rows left) (pieces_after are.pieces charged) (most + step) = record {
      valid = subst (λ (s : SubscriberState). IsValid (without_rows s)) (sym first.met.others)
          (record {
            session = going.valid.session;
            bearers = going.valid.bearers;
            version = going.valid.version;
          });
      versioned = version ∙ going.versioned ∙ ap (λ (s : SubscriberState). version_of s.session s.version.number)
          (sym first.met.others);
      rows = refl;
      open_ = subst (λ (v : VersionState). AreOpen v (pieces_after are.pieces charged)) (sym version) may.open_then;
      within = within_more (most + length charged) (most + step) (pieces_after are.pieces charged) (omega arith)
          may.within;
      few = subst (λ (held : List HeldRow). length held ≤ 16) (sym first.met.counters.held)
          (held_few one.version one.counters packet going.few);
    } in
    record {
      verdicts = first.verdict_is ∙ ap (λ (p : Plan). verdict_by p packet.octets) stays.plan_ ∙ sym second.verdict_is;
      rows_are = first.rows_are
          ∙ no_rows left.counters.book.rows one.counters.book.rows (rows_after are.pieces charged) going.rows
          stays.stay.rows
          ∙ sym (no_rows second.left.counters.book.rows other.counters.book.rows (rows_after are.pieces charged)
          are.others_rows stays.stay.others_rows)
          ∙ sym second.rows_are;
      are = subst (λ (s : SubscriberState). AreOne s after (most + step)) (sym first.taken)
          (subst (λ (s : SubscriberState). AreOne (without_rows left) s (most + step)) (sym second.taken) (record {
            pieces = pieces_after are.pieces charged;
            others = pieces_after are.others charged;
            alike = emptied_alike left second.left (pieces_after are.pieces charged) (pieces_after are.others charged)
                stays.stay.alike;
            going = going_on;
            others_rows = refl;
          }));
    }

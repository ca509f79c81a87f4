-- Subscribers can do their shares, and are at rest behind them.
use Rattle.std.proofs.Common.{◌≡◌, ℕ, suc, ◌+◌, ◌<◌, ◌≤◌, ◌^◌, List, [], ◌∷◌, ◌++◌, length, get_or, refl, sym, ap, subst, ◌∙◌, arith, length-append}
use Rattle.std.proofs.Math.Logic.{∥∥₁_elim, ∥∥₁_map}
use Rattle.std.proofs.Props.{props}
use Rattle.std.proofs.lemmas.List.{get_or-map, length-map}
use Rattle.std.specs.Borrow.{Bor}
use Rattle.trace_lines.specs.Line.{Line}
use Rattle.control_steps.specs.declared.command.CommandKind.{CommandKind}
use Rattle.demux.specs.Trace.{Meaning}
use Rattle.bearer_state.specs.Session.{SessionState}
use Rattle.gate_model.specs.Events.{commands_of, packets_of}
use Rattle.gate_model.specs.Versions.{SessionsKeepTheirSlot}
use Rattle.gate_model.specs.declared.event.Event.{Event}
use Rattle.gate_model.specs.declared.event.Event.TheVariants as event
use Rattle.lawful_run.specs.Accepted as accepted
use Rattle.lawful_run.specs.LinesTold.{LineTold}
use Rattle.lawful_run.proofs.EventByEvent.{ordered_length}
use Rattle.epoch_schedule.specs.Front.{Outcome}
use Rattle.epoch_schedule.specs.Plan.{Plan, mets_of}
use Rattle.subscriber.specs.Standing.{SubscriberState}
use Rattle.at_rest.specs.Rest.{AreAtRest, HasEvents}
use Rattle.slot_execution.specs.Replaying.{AreLate, latest_of, moment_of}
use Rattle.slot_execution.specs.declared.placed.Placed.{Placed}
use Rattle.at_rest.specs.Coming.{AreLater, latest_behind}
use Rattle.epoch_drive.specs.Turned.{HaveMoments}
use Rattle.epoch_drive.specs.Opened.{opened}
use Rattle.epoch_drive.specs.Replays.{AllCanDo, HasDone, HaveDone, commands_at, commands_shared, events_shared, packets_at, packets_shared}
use Rattle.epoch_drive.specs.Shares.{AreShares, IsShare, base_at}
use Rattle.epoch_drive.specs.declared.replays.SlotReplays.{SlotReplays}
use Rattle.epoch_drive.specs.declared.replays.Replays.{Replays}
use Rattle.epoch_drive.specs.declared.sharing.Share.{Share}
use Rattle.epoch_drive.proofs.Driven.{some_at}
use Rattle.epoch_drive.proofs.Events.{few_taken}
use Rattle.epoch_drive.proofs.Moments.{Rises, late_so, taken_rise}

pub length-moments : (lines : List Line) (made : List Meaning) → HaveMoments lines made
    → length made ≡ length lines
length-moments [] [] have = refl
length-moments [] (it ∷ made) have = absurd have
length-moments (line ∷ lines) [] have = absurd have
length-moments (line ∷ lines) (it ∷ made) have = ap suc (length-moments lines made have.1)

length-opened : (n : ℕ) (made : List Meaning) (outs : List Outcome) → length (opened n made outs) ≤ length made
length-opened n [] outs = omega arith
length-opened n (m ∷ made) [] = omega arith
length-opened n (m ∷ made) (o ∷ outs) = let rest = length-opened (n + 1) made outs in omega (arith, rest)

module _ (slices count latest : ℕ) (old : List SubscriberState) (shares : List Share) (plan : Plan)
    (lines : List Line) (made : List Meaning) (outs : List Outcome) (n : ℕ)
    (rest : AreAtRest slices count latest old) (many : length shares ≡ length old)
    (are : AreShares shares old plan (opened n made outs)) (later : AreLater latest lines)
    (have : HaveMoments lines made) where
  -- a share has at most as many as there are lines
  share_few : (slot : ℕ) (share : Share) → slot < length shares
      → length (get_or shares slot share).commands.items + length (get_or shares slot share).packets.items ≤ length lines
  share_few slot share low =
      let own : Share = get_or shares slot share in
      let told : List LineTold = opened n made outs in
      let is : IsShare own (base_at old slot) (mets_of plan slot) told slot = are slot share low in
      let commands : length own.commands.items ≡ length (accepted.commands_accepted slot told) =
      sym (length-map own.commands.items (λ (c : Bor CommandKind). c.now)) ∙ ap length is.commands in
      let packets : length own.packets.items ≡ length (accepted.packets_accepted slot told) =
      sym (length-map own.packets.items (λ (p : Placed). p.packet)) ∙ ap length is.packets
      ∙ length-map (accepted.packets_accepted slot told) (λ (p : accepted.Placed). p.packet) in
      let few = few_taken slot told in
      let short = length-opened n made outs in
      omega (arith, commands, packets, few, short, length-moments lines made have)

  -- its packets come one after another
  share_late : (slot : ℕ) (share : Share) (m : ℕ) → slot < length shares → m ≤ latest
      → AreLate m (get_or shares slot share).packets.items
      × (latest_of m (get_or shares slot share).packets.items ≤ latest_behind latest lines)
  share_late slot share m low le =
      let own : Share = get_or shares slot share in
      late_so m latest (latest_behind latest lines) own.packets.items le
      (subst (Rises latest (latest_behind latest lines)) (sym (are slot share low).packets)
      (taken_rise slot latest n lines made outs later have))

  pub all_can : count + length lines ≤ 2 ^ 39 → AllCanDo old shares
  all_can few slot none share low =
      let within : slot < length shares = omega (arith, low, many) in
      let at = rest slot none low in
      let short = share_few slot share within in
      record {
        room = ∥∥₁_map at.has_events (λ (has : HasEvents slot count (get_or old slot none)). record {
          slot = slot;
          before = has.events;
          represents = has.represents;
          few = omega (arith, has.few, short, few);
        });
        late = (share_late slot share (moment_of (get_or old slot none)) within at.late).0;
      }

  module _ (new : List SubscriberState) (replays : Replays) (done : HaveDone old new shares replays (length old)) where
    events_few : (slot : ℕ) (before : List Event) → slot < length shares
        → length (events_shared shares slot before) ≤ length lines
    events_few slot before low =
        let share = some_at shares slot low in
        let short = share_few slot share.0 low in
        let own : Share = get_or shares slot share.0 in
        let commands : length (commands_at shares slot) ≡ length own.commands.items =
        ap length (get_or-map commands_shared shares slot share.0 [] low)
        ∙ length-map own.commands.items (λ (c : Bor CommandKind). c.now) in
        let packets : length (packets_at shares slot) ≡ length own.packets.items =
        ap length (get_or-map packets_shared shares slot share.0 [] low)
        ∙ length-map own.packets.items (λ (p : Placed). record { commands = p.commands; packet = p.packet }) in
        let all = ordered_length (length (commands_of before)) (length (packets_of before)) (commands_at shares slot)
        (packets_at shares slot) in
        omega (arith, all, commands, packets, short)

    pub did_at : (slot : ℕ) (none : SubscriberState) → slot < length old
        → (a : SlotReplays) × HasDone (get_or old slot none) (get_or new slot none) shares a slot
    did_at slot none low =
        let a = some_at replays.answers.items slot (omega (arith, low, done.answered)) in
        (get_or replays.answers.items slot a.0, done.each slot none a.0 low)

    pub rests : SessionsKeepTheirSlot → AreAtRest slices (count + length lines) (latest_behind latest lines) new
    rests keeps slot none below =
        let low : slot < length old = omega (arith, below, done.many) in
        let within : slot < length shares = omega (arith, low, many) in
        let at = rest slot none low in
        let did = (did_at slot none low).1 in
        let share = some_at shares slot within in
        let late = (share_late slot share.0 (moment_of (get_or old slot none)) within at.late).1 in
        record {
          own = ∥∥₁_elim at.has_events (hlevel props) (λ (has : HasEvents slot count (get_or old slot none)).
              ap (λ (s : SessionState). s.slot) (did.represents has.events has.represents).session
              ∙ keeps slot (has.events ++ events_shared shares slot has.events));
          bound = subst (λ d. d < slices) (sym did.destination) at.bound;
          late = omega (arith, late, did.moment share.0);
          has_events = ∥∥₁_map at.has_events (λ (has : HasEvents slot count (get_or old slot none)). record {
            events = has.events ++ events_shared shares slot has.events;
            represents = did.represents has.events has.represents;
            few =
                let short = events_few slot has.events within in
                omega (
                  arith,
                  has.few,
                  short,
                  length-append has.events (events_shared shares slot has.events),
                );
          });
        }

    pub lengths_behind : (slot : ℕ) (before : List Event) → length before ≤ count
        → slot < length shares → length (before ++ events_shared shares slot before) ≤ count + length lines
    lengths_behind slot before few low =
        let short = events_few slot before low in
        omega (arith, few, short, length-append before (events_shared shares slot before))

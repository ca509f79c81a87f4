-- What one event more leads to.
use Rattle.std.proofs.Common.{◌≡◌, ℕ, zero, suc, ◌+◌, ◌<◌, ◌≤◌, List, [], ◌∷◌, ◌++◌, map, length, get_or, drop, sym, ap, ◌∙◌, subst, arith, append_assoc, append-nil, length-append}
use Rattle.std.proofs.lemmas.List.{drop_all, drop_more, map_push}
use Rattle.std.proofs.lemmas.List.Elements.{filter_map-append}
use Rattle.pc_base.specs.declared.effect.Effect.{Effect}
use Rattle.pc_base.specs.declared.packet.Packet.{Packet}
use Rattle.pc_base.specs.declared.reply.Reply.{Reply}
use Rattle.control_steps.specs.declared.command.CommandKind.{CommandKind}
use Rattle.packet_steps.specs.Lent.{verdict_of}
use Rattle.gate_model.specs.Events.{commands_of, packets_of}
use Rattle.gate_model.specs.SlotPast.{reply_after, effects_after, verdict_after, records_after}
use Rattle.gate_model.specs.declared.event.Event.{Event}
use Rattle.gate_model.specs.declared.event.Event.TheVariants as event
use Rattle.report_lines.specs.Records.{Effected}
use Rattle.std.proofs.Math.Logic.{∥∥₁_elim}
use Rattle.std.proofs.Props.{props}
use Rattle.subscriber.specs.Standing.{SubscriberState, StandsFor, FewEventsLeaveRoom, HasRoom, commands_met}
use Rattle.lawful_run.specs.Outcomes as made_of
use Rattle.lawful_run.specs.Telling.{counted}
use Rattle.lawful_run.proofs.Counting.{commands-command, commands-packet, packets-packet, packets-command}
use Rattle.lawful_run.proofs.Growing.{effects-append, replies-push, verdicts-push}
use Rattle.slot_execution.specs.Replaying.{AreLate, CanPlay, Plays, effects_told, latest_of, numbers_in, packet_numbers_in, replies_in, verdicts_in}
use Rattle.slot_execution.specs.declared.placed.Placed.{Placed}
use Rattle.slot_execution.specs.declared.replayed.NumberedVerdict.{NumberedVerdict}
use Rattle.slot_execution.specs.declared.replayed.Replayed.{Replayed}
use Rattle.slot_execution.specs.declared.replayed.NumberedReply.{NumberedReply}

-- one number more
counted-push : (first n : ℕ) → counted first (suc n) ≡ counted first n ++ (first + n) ∷ []
counted-push first zero = ap (λ k. k ∷ []) (omega arith)
counted-push first (suc n) =
    let next : first + 1 + n ≡ first + suc n = omega arith in
    ap (λ rest. first ∷ rest) (counted-push (first + 1) n ∙ ap (λ k. counted (first + 1) n ++ k ∷ []) next)

counted_more : (first n more number : ℕ) → more ≡ n + 1 → number ≡ first + n
    → counted first n ++ number ∷ [] ≡ counted first more
counted_more first n more number is next =
    let whole : suc n ≡ more = omega (arith, is) in
    ap (λ k. counted first n ++ k ∷ []) next ∙ sym (counted-push first n) ∙ ap (counted first) whole

-- how many there are of each kind
commands_both : (before now : List Event)
    → length (commands_of (before ++ now)) ≡ length (commands_of before) + length (commands_of now)
commands_both before now =
    ap length (filter_map-append _ before now) ∙ length-append (commands_of before) (commands_of now)

packets_both : (before now : List Event)
    → length (packets_of (before ++ now)) ≡ length (packets_of before) + length (packets_of now)
packets_both before now =
    ap length (filter_map-append _ before now) ∙ length-append (packets_of before) (packets_of now)

pub plays_command : (old new : SubscriberState) (replayed after : Replayed) (slot own number : ℕ)
    (before now : List Event) (c : CommandKind) (reply : Reply) (effects : List Effect)
    → Plays old replayed slot before now
    → number ≡ commands_met old → own ≡ slot → reply ≡ reply_after slot (before ++ now) c
    → effects ≡ effects_after slot (before ++ now) c
    → StandsFor new slot ((before ++ now) ++ event.Command c ∷ []) (length (records_after slot before))
    → after.replies.items ≡ replayed.replies.items ++ record { number = number; reply = reply } ∷ []
    → after.packets.items ≡ replayed.packets.items
    → effects_told after.effects.items ≡ effects_told replayed.effects.items
    ++ map (made_of.effect_entry own number) effects
    → Plays new after slot before (now ++ event.Command c ∷ [])
plays_command old new replayed after slot own number before now c reply effects plays numbered_so own_slot replied
    affects stands replies packets effects_more =
    let e : Event = event.Command c in
    let led = plays.led in
    let r : NumberedReply = record { number = number; reply = reply } in
    let so_far : List Effected = made_of.effects slot before now in
    let met : number ≡ length (commands_of (before ++ now)) = numbered_so ∙ plays.stands.commands in
    let entry : Effect → Effected = made_of.effect_entry slot (length (commands_of (before ++ now))) in
    let entries : map (made_of.effect_entry own number) effects ≡ map entry (effects_after slot (before ++ now) c) =
    ap (λ s. map (made_of.effect_entry s number) effects) own_slot
    ∙ ap (λ n. map (made_of.effect_entry slot n) effects) met ∙ ap (map entry) affects in
    let made : made_of.effects slot (before ++ now) (e ∷ []) ≡ map entry (effects_after slot (before ++ now) c) =
    append-nil (map entry (effects_after slot (before ++ now) c)) in
    record {
      stands = subst (λ (es : List Event). StandsFor new slot es (length (records_after slot before)))
          (append_assoc before now (e ∷ [])) stands;
      led = record {
        replies = ap replies_in replies ∙ map_push (λ (x : NumberedReply). x.reply) replayed.replies.items r
            ∙ ap (λ xs. xs ++ reply ∷ []) led.replies
            ∙ ap (λ x. made_of.replies slot before now ++ x ∷ []) replied ∙ sym (replies-push slot before now e);
        verdicts = ap verdicts_in packets ∙ led.verdicts ∙ sym (append-nil (made_of.verdicts slot before now))
            ∙ sym (verdicts-push slot before now e);
        effects = effects_more ∙ ap (λ xs. xs ++ map (made_of.effect_entry own number) effects) led.effects
            ∙ ap (λ xs. so_far ++ xs) (entries ∙ sym made) ∙ sym (effects-append slot before now (e ∷ []));
        numbers = ap numbers_in replies ∙ map_push (λ (x : NumberedReply). x.number) replayed.replies.items r
            ∙ ap (λ xs. xs ++ number ∷ []) led.numbers
            ∙ counted_more (length (commands_of before)) (length (commands_of now))
            (length (commands_of (now ++ e ∷ []))) number (commands-command now c) (met ∙ commands_both before now);
        packet_numbers = ap packet_numbers_in packets ∙ led.packet_numbers
            ∙ ap (counted (length (packets_of before))) (sym (packets-command now c));
      };
    }

pub plays_packet : (old new : SubscriberState) (replayed after : Replayed) (slot : ℕ) (before now : List Event)
    (p : Packet) (j : NumberedVerdict)
    → Plays old replayed slot before now
    → j.number ≡ old.packets → verdict_of j.verdict ≡ verdict_after slot (before ++ now) p
    → StandsFor new slot ((before ++ now) ++ event.Packet p ∷ []) (length (records_after slot before))
    → after.packets.items ≡ replayed.packets.items ++ j ∷ []
    → after.replies.items ≡ replayed.replies.items → after.effects.items ≡ replayed.effects.items
    → Plays new after slot before (now ++ event.Packet p ∷ [])
plays_packet old new replayed after slot before now p j plays numbered_so judged stands packets replies effects =
    let e : Event = event.Packet p in
    let led = plays.led in
    let met : j.number ≡ length (packets_of (before ++ now)) = numbered_so ∙ plays.stands.packets in
    record {
      stands = subst (λ (es : List Event). StandsFor new slot es (length (records_after slot before)))
          (append_assoc before now (e ∷ [])) stands;
      led = record {
        replies = ap replies_in replies ∙ led.replies ∙ sym (append-nil (made_of.replies slot before now))
            ∙ sym (replies-push slot before now e);
        verdicts = ap verdicts_in packets ∙ map_push (λ (x : NumberedVerdict). verdict_of x.verdict) replayed.packets.items j
            ∙ ap (λ xs. xs ++ verdict_of j.verdict ∷ []) led.verdicts
            ∙ ap (λ x. made_of.verdicts slot before now ++ x ∷ []) judged ∙ sym (verdicts-push slot before now e);
        effects = ap effects_told effects ∙ led.effects ∙ sym (append-nil (made_of.effects slot before now))
            ∙ sym (effects-append slot before now (e ∷ []));
        numbers = ap numbers_in replies ∙ led.numbers
            ∙ ap (counted (length (commands_of before))) (sym (commands-packet now p));
        packet_numbers = ap packet_numbers_in packets ∙ map_push (λ (x : NumberedVerdict). x.number) replayed.packets.items j
            ∙ ap (λ xs. xs ++ j.number ∷ []) led.packet_numbers
            ∙ counted_more (length (packets_of before)) (length (packets_of now))
            (length (packets_of (now ++ e ∷ []))) j.number (packets-packet now p) (met ∙ packets_both before now);
      };
    }

-- few events leave room for one more
pub room_for : FewEventsLeaveRoom → (subscriber : SubscriberState) (replayed : Replayed) (more : ℕ)
    → ∥ CanPlay subscriber replayed more ∥₁ → HasRoom subscriber
room_for leaves subscriber replayed more can =
    let room : CanPlay subscriber replayed more → HasRoom subscriber = λ is.
    leaves subscriber is.slot (is.before ++ is.now) (length (records_after is.slot is.before)) is.holds.stands
    (omega (arith, is.few)) in
    record {
      rates = ∥∥₁_elim can (hlevel props) (λ is. (room is).rates);
      lives = ∥∥₁_elim can (hlevel props) (λ is. (room is).lives);
      few = ∥∥₁_elim can (hlevel props) (λ is. (room is).few);
    }

-- the packets behind one more
pub late_next : (packets : List Placed) (k : ℕ) (p : Placed) (least now : ℕ) → k < length packets
    → p ≡ get_or packets k p → now ≡ p.packet.moment → AreLate least (drop k packets)
    → AreLate now (drop (k + 1) packets)
late_next packets k p least now low is at late =
    subst (λ m. AreLate m (drop (k + 1) packets)) (sym (at ∙ ap (λ (x : Placed). x.packet.moment) is))
    ((subst (AreLate least) (drop_more packets k p low) late).1)

pub latest_next : (packets : List Placed) (k : ℕ) (p : Placed) (least now : ℕ) → k < length packets
    → p ≡ get_or packets k p → now ≡ p.packet.moment
    → latest_of now (drop (k + 1) packets) ≡ latest_of least (drop k packets)
latest_next packets k p least now low is at =
    ap (λ m. latest_of m (drop (k + 1) packets)) (at ∙ ap (λ (x : Placed). x.packet.moment) is)
    ∙ sym (ap (latest_of least) (drop_more packets k p low))

pub latest_over : (packets : List Placed) (k latest whole : ℕ) → length packets ≤ k
    → latest_of latest (drop k packets) ≡ whole → latest ≡ whole
latest_over packets k latest whole over is = ap (latest_of latest) (sym (drop_all k packets over)) ∙ is

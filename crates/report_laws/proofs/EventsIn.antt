-- What the events of a slot lead to is in range, where their numbers are.
use Rattle.std.proofs.Common.{ℕ, ◌<◌, ◌≤◌, ◌^◌, Option, None, Some, IfSome, List, [], ◌∷◌, ◌++◌, length, map, sym, subst, arith, append_assoc, append-nil}
use Rattle.std.specs.List.{AllByRecursion}
use Rattle.std.proofs.lemmas.List.Elements.{All-from_recursion}
use Rattle.control_steps.specs.Row.{row_of}
use Rattle.gate_model.specs.Events.{commands_of}
use Rattle.gate_model.specs.SlotPast.{effects_after, past_of, reply_after}
use Rattle.gate_model.specs.declared.event.Event.{Event}
use Rattle.gate_model.specs.declared.event.Event.TheVariants as event
use Rattle.lawful_run.specs.Outcomes as made_of
use Rattle.pc_base.specs.declared.effect.Effect.{Effect}
use Rattle.pc_base.specs.declared.reply.Reply.{Reply}
use Rattle.report_lines.specs.Ranges.{IsEffect, IsEffected, IsOctets, IsVerdict}
use Rattle.demux.specs.Ranges.{IsOctet}
use Rattle.report_laws.proofs.Marks.{Mark, marks}
use Rattle.lawful_run.specs.Ranges.{EventIn, PacketIn, PastIn}
use Rattle.lawful_run.proofs.Octets.{reply_some}
use Rattle.lawful_run.proofs.PacketsIn.{judged_in}
use Rattle.lawful_run.proofs.PastsIn.{command_in, learnt_now, packet_in, prefix_few}
use Rattle.lawful_run.proofs.SessionsIn.{reply_small}
use Rattle.demux.proofs.Small.{Small, each_append}

-- what events lead to
abbrev pub ReplyIn : Reply → Type 0
ReplyIn reply = IfSome reply.message IsOctets

pub record MarkIn (mark : Mark) : Type 0 where
  pub number : mark.number < 2 ^ 40
  pub commands : mark.commands < 2 ^ 40
  pub verdict : IsVerdict mark.verdict

pub record LedIn (slot : ℕ) (before events : List Event) : Type 0 where
  pub past : PastIn (past_of slot (before ++ events))
  pub replies : AllByRecursion ReplyIn (made_of.replies slot before events)
  pub marks : AllByRecursion MarkIn (marks slot before events)
  pub effects : AllByRecursion IsEffected (made_of.effects slot before events)

message_is : (message : Option (List ℕ)) → IfSome message (λ octets. 0 < length octets) → IfSome message Small
    → IfSome message IsOctets
message_is None some small = tt
message_is (Some octets) some small = (some, All-from_recursion IsOctet octets small)

effects_at : (slot command : ℕ) (effects : List Effect) → slot ≤ 65532 → command < 2 ^ 40
    → AllByRecursion IsEffect effects → AllByRecursion IsEffected (map (made_of.effect_entry slot command) effects)
effects_at slot command [] known few all = tt
effects_at slot command (now ∷ effects) known few all = (
  record { slot = known; command = omega (arith, few); effect = all.0 },
  effects_at slot command effects known few all.1,
)

pub commands_most : (events : List Event) → length (commands_of events) ≤ length events
commands_most [] = omega arith
commands_most (event.Command c ∷ events) = omega (arith, commands_most events)
commands_most (event.Packet p ∷ events) = omega (arith, commands_most events)

pub led_in : (slot : ℕ) (before events : List Event) → slot ≤ 65532 → length (before ++ events) < 2 ^ 40
    → PastIn (past_of slot before) → AllByRecursion EventIn events → LedIn slot before events
led_in slot before [] known few is all = record {
  past = subst (λ (es : List Event). PastIn (past_of slot es)) (sym (append-nil before)) is;
  replies = tt;
  marks = tt;
  effects = tt;
}
led_in slot before (event.Command c ∷ events) known few is all =
    let e : Event = event.Command c in
    let fewer = prefix_few before e events few in
    let rest = led_in slot (before ++ e ∷ []) events known fewer.2 (command_in slot before c fewer.1 is all.0) all.1 in
    let own = (past_of slot before).session in
    let command : length (commands_of before) < 2 ^ 40 = omega (arith, commands_most before, fewer.0) in
    record {
      past = subst (λ (es : List Event). PastIn (past_of slot es)) (append_assoc before (e ∷ []) events) rest.past;
      replies = (
        message_is (reply_after slot before c).message (reply_some slot before c)
            (reply_small (row_of own c) own c is.session all.0),
        rest.replies,
      );
      marks = rest.marks;
      effects = each_append IsEffected
          (map (made_of.effect_entry slot (length (commands_of before))) (effects_after slot before c))
          (made_of.effects slot (before ++ e ∷ []) events)
          (effects_at slot (length (commands_of before)) (effects_after slot before c) known command
          (learnt_now slot before c fewer.1 is all.0).1) rest.effects;
    }
led_in slot before (event.Packet p ∷ events) known few is all =
    let e : Event = event.Packet p in
    let fewer = prefix_few before e events few in
    let rest = led_in slot (before ++ e ∷ []) events known fewer.2 (packet_in slot before p is all.0) all.1 in
    let own : PacketIn p = all.0 in
    record {
      past = subst (λ (es : List Event). PastIn (past_of slot es)) (append_assoc before (e ∷ []) events) rest.past;
      replies = rest.replies;
      marks = (
        record {
          number = own.number;
          commands = omega (arith, commands_most before, fewer.0);
          verdict = (judged_in (past_of slot before).packets p is.packets own).1;
        },
        rest.marks,
      );
      effects = rest.effects;
    }

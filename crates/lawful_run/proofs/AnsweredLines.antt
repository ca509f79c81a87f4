-- The entries of the sequential gateway, for the lines of an epoch.
use Rattle.std.proofs.Common.{◌≡◌, ℕ, ◌+◌, ◌==◌, Bool, true, false, Some, None, List, [], ◌∷◌, ◌++◌, length, cond, refl, sym, ap, ◌∙◌}
use Rattle.std.specs.List.{filter_map, cons_option}
use Rattle.std.specs.Option.{option_map}
use Rattle.std.proofs.lemmas.Bool.{eqb-true}
use Rattle.demux.specs.declared.packet.LentPacket.{LentPacket}
use Rattle.report_lines.specs.declared.entry.LineEntry.{LineEntry}
use Rattle.control_steps.specs.declared.command.CommandKind.{CommandKind}
use Rattle.pc_base.specs.declared.packet.Packet.{Packet}
use Rattle.pc_base.specs.declared.packet.Verdict.{Verdict}
use Rattle.pc_base.specs.declared.reply.Reply.{Reply}
use Rattle.demux.specs.Trace.{Meaning, command, packet, move, note}
use Rattle.gate_model.specs.Events.{commands_of, packets_of}
use Rattle.gate_model.specs.SlotPast.{reply_after, verdict_after}
use Rattle.gate_model.specs.declared.event.Event.{Event}
use Rattle.gate_model.specs.declared.event.Event.TheVariants as event
use Rattle.lawful_run.specs.Accepted.{commands_accepted, packets_accepted}
use Rattle.lawful_run.specs.Answers.{AnswersAll}
use Rattle.lawful_run.specs.AnsweredRun.{entry_after, entries_from, behind_line, with_line, brought}
use Rattle.lawful_run.specs.InSequence.{LineInSequence}
use Rattle.lawful_run.specs.LinesTold.{LineTold, lines_told, EachFrom}
use Rattle.demux.specs.Packets.{numbered}
use Rattle.lawful_run.specs.Merging.{Histories}
use Rattle.lawful_run.specs.Outcomes.{replies, verdicts}
use Rattle.lawful_run.specs.Telling.{command_number, packet_number, reply_told, verdict_told, counted}
use Rattle.lawful_run.proofs.Counting.{commands-command, commands-packet, packets-packet, packets-command, IsCounted, counted_on}

-- each line has one entry
pub answered_each : (n : ℕ) (before : Histories) (made : List Meaning) → AnswersAll n made (entries_from n before made)
answered_each n before [] = tt
answered_each n before (note text ∷ made) = (refl, answered_each (n + 1) (behind_line before (note text)) made)
answered_each n before (move slot slice text ∷ made) =
    (refl, answered_each (n + 1) (behind_line before (move slot slice text)) made)
answered_each n before (command slot c ∷ made) =
    ((refl, refl), answered_each (n + 1) (behind_line before (command slot c)) made)
answered_each n before (packet slot p ∷ made) =
    ((refl, refl), answered_each (n + 1) (behind_line before (packet slot p)) made)

-- and is answered in sequence
pub answered_in_sequence : (n : ℕ) (start : Histories) (prefix : List LineTold) (before : Histories) (made : List Meaning)
    → ((slot : ℕ) → IsCounted start slot prefix (before slot))
    → EachFrom (LineInSequence start) prefix (lines_told made (entries_from n before made))
answered_in_sequence n start prefix before [] counts = tt
answered_in_sequence n start prefix before (note text ∷ made) counts = (
  tt,
  answered_in_sequence (n + 1) start _ (behind_line before (note text)) made
      (λ slot. counted_on start slot prefix (before slot) (note text) (entry_after n before (note text)) refl
      (counts slot)),
)
answered_in_sequence n start prefix before (move own slice text ∷ made) counts = (
  tt,
  answered_in_sequence (n + 1) start _ (behind_line before (move own slice text)) made
      (λ slot. counted_on start slot prefix (before slot) (move own slice text)
      (entry_after n before (move own slice text)) refl (counts slot)),
)
answered_in_sequence n start prefix before (command own c ∷ made) counts = (
  tt,
  answered_in_sequence (n + 1) start _ (behind_line before (command own c)) made
      (λ slot. counted_on start slot prefix (before slot) (command own c)
      (entry_after n before (command own c)) refl (counts slot)),
)
answered_in_sequence n start prefix before (packet own p ∷ made) counts = (
  record { commands = counts own; place = refl; parked = refl },
  answered_in_sequence (n + 1) start _ (behind_line before (packet own p)) made
      (λ slot. counted_on start slot prefix (before slot) (packet own p) (entry_after n before (packet own p)) refl
      (counts slot)),
)

-- what the entries of a slot tell, where its events are those that the lines bring
pub record SlotAnswered (slot : ℕ) (before : List Event) (made : List Meaning) (entries : List LineEntry) : Type 0 where
  pub command_numbers : filter_map (command_number slot) entries
      ≡ counted (length (commands_of before)) (length (commands_accepted slot (lines_told made entries)))
  pub packet_numbers : filter_map (packet_number slot) entries
      ≡ counted (length (packets_of before)) (length (packets_accepted slot (lines_told made entries)))
  pub replies : filter_map (reply_told slot) entries ≡ replies slot before (brought slot before made)
  pub verdicts : filter_map (verdict_told slot) entries ≡ verdicts slot before (brought slot before made)

-- a command more
number_first : (test : Bool) (before : List Event) (c : CommandKind) (number : ℕ) (numbers : List ℕ)
    (commands : List CommandKind)
    → (test ≡ true → number ≡ length (commands_of before))
    → numbers ≡ counted (length (commands_of (cond test (before ++ event.Command c ∷ []) before))) (length commands)
    → cons_option (cond test (Some number) None) numbers
    ≡ counted (length (commands_of before)) (length (cons_option (cond test (Some c) None) commands))
number_first true before c number numbers commands own holds =
    let here : number ≡ length (commands_of before) = own refl in
    let more : numbers ≡ counted (length (commands_of before) + 1) (length commands) =
    holds ∙ ap (λ k. counted k (length commands)) (commands-command before c) in
    λ i. here i ∷ more i
number_first false before c number numbers commands own holds = holds

command_packets : (test : Bool) (before : List Event) (c : CommandKind)
    → length (packets_of (cond test (before ++ event.Command c ∷ []) before)) ≡ length (packets_of before)
command_packets true before c = packets-command before c
command_packets false before c = refl

reply_first : (test : Bool) (slot : ℕ) (before : List Event) (c : CommandKind) (reply : Reply) (told : List Reply)
    (events : List Event)
    → (test ≡ true → reply ≡ reply_after slot before c)
    → told ≡ replies slot (cond test (before ++ event.Command c ∷ []) before) events
    → cons_option (cond test (Some reply) None) told ≡ replies slot before (cond test (event.Command c ∷ []) []
    ++ events)
reply_first true slot before c reply told events own holds = λ i. own refl i ∷ holds i
reply_first false slot before c reply told events own holds = holds

command_verdicts : (test : Bool) (slot : ℕ) (before : List Event) (c : CommandKind) (events : List Event)
    → verdicts slot (cond test (before ++ event.Command c ∷ []) before) events
    ≡ verdicts slot before (cond test (event.Command c ∷ []) [] ++ events)
command_verdicts true slot before c events = refl
command_verdicts false slot before c events = refl

-- a packet more
packet_first : {X : Type 0} (test : Bool) (before : List Event) (p : Packet) (q : X) (number : ℕ)
    (numbers : List ℕ) (packets : List X)
    → (test ≡ true → number ≡ length (packets_of before))
    → numbers ≡ counted (length (packets_of (cond test (before ++ event.Packet p ∷ []) before))) (length packets)
    → cons_option (cond test (Some number) None) numbers
    ≡ counted (length (packets_of before)) (length (cons_option (cond test (Some q) None) packets))
packet_first true before p q number numbers packets own holds =
    let here : number ≡ length (packets_of before) = own refl in
    let more : numbers ≡ counted (length (packets_of before) + 1) (length packets) =
    holds ∙ ap (λ k. counted k (length packets)) (packets-packet before p) in
    λ i. here i ∷ more i
packet_first false before p q number numbers packets own holds = holds

packet_commands : (test : Bool) (before : List Event) (p : Packet)
    → length (commands_of (cond test (before ++ event.Packet p ∷ []) before)) ≡ length (commands_of before)
packet_commands true before p = commands-packet before p
packet_commands false before p = refl

verdict_first : (test : Bool) (slot : ℕ) (before : List Event) (p : Packet) (verdict : Verdict)
    (told : List Verdict) (events : List Event)
    → (test ≡ true → verdict ≡ verdict_after slot before p)
    → told ≡ verdicts slot (cond test (before ++ event.Packet p ∷ []) before) events
    → cons_option (cond test (Some verdict) None) told
    ≡ verdicts slot before (cond test (event.Packet p ∷ []) [] ++ events)
verdict_first true slot before p verdict told events own holds = λ i. own refl i ∷ holds i
verdict_first false slot before p verdict told events own holds = holds

packet_replies : (test : Bool) (slot : ℕ) (before : List Event) (p : Packet) (events : List Event)
    → replies slot (cond test (before ++ event.Packet p ∷ []) before) events
    ≡ replies slot before (cond test (event.Packet p ∷ []) [] ++ events)
packet_replies true slot before p events = refl
packet_replies false slot before p events = refl

placed_test : {X : Type 0} (test : Bool) (make : LentPacket → X) (p : LentPacket) (packets : List X)
    → length (cons_option (option_map make (cond test (Some p) None)) packets)
    ≡ length (cons_option (cond test (Some (make p)) None) packets)
placed_test true make p packets = refl
placed_test false make p packets = refl

pub answered_slot : (slot n : ℕ) (before : Histories) (made : List Meaning)
    → SlotAnswered slot (before slot) made (entries_from n before made)
answered_slot slot n before [] =
    record { command_numbers = refl; packet_numbers = refl; replies = refl; verdicts = refl }
answered_slot slot n before (note text ∷ made) =
    let rest = answered_slot slot (n + 1) (behind_line before (note text)) made in
    record {
      command_numbers = rest.command_numbers;
      packet_numbers = rest.packet_numbers;
      replies = rest.replies;
      verdicts = rest.verdicts;
    }
answered_slot slot n before (move own slice text ∷ made) =
    let rest = answered_slot slot (n + 1) (behind_line before (move own slice text)) made in
    record {
      command_numbers = rest.command_numbers;
      packet_numbers = rest.packet_numbers;
      replies = rest.replies;
      verdicts = rest.verdicts;
    }
answered_slot slot n before (command own c ∷ made) =
    let rest = answered_slot slot (n + 1) (behind_line before (command own c)) made in
    record {
      command_numbers = number_first (own == slot) (before slot) c (length (commands_of (before own))) _ _
          (λ own_slot. ap (λ s. length (commands_of (before s))) (eqb-true own slot own_slot)) rest.command_numbers;
      packet_numbers = rest.packet_numbers
          ∙ ap (λ k. counted k (length (packets_accepted slot
          (lines_told made (entries_from (n + 1) (behind_line before (command own c)) made)))))
          (command_packets (own == slot) (before slot) c);
      replies = reply_first (own == slot) slot (before slot) c (reply_after own (before own) c) _ _
          (λ own_slot. ap (λ s. reply_after s (before s) c) (eqb-true own slot own_slot)) rest.replies;
      verdicts = rest.verdicts ∙ command_verdicts (own == slot) slot (before slot) c
          (brought slot (with_line slot (before slot) (command own c)) made);
    }
answered_slot slot n before (packet own p ∷ made) =
    let rest = answered_slot slot (n + 1) (behind_line before (packet own p)) made in
    record {
      command_numbers = rest.command_numbers
          ∙ ap (λ k. counted k (length (commands_accepted slot
          (lines_told made (entries_from (n + 1) (behind_line before (packet own p)) made)))))
          (packet_commands (own == slot) (before slot) (numbered (length (packets_of (before slot))) p));
      packet_numbers = packet_first (own == slot) (before slot) (numbered (length (packets_of (before slot))) p)
          (record { commands = length (commands_of (before own)); packet = p }) (length (packets_of (before own))) _ _
          (λ own_slot. ap (λ s. length (packets_of (before s))) (eqb-true own slot own_slot)) rest.packet_numbers
          ∙ ap (counted (length (packets_of (before slot)))) (sym (placed_test (own == slot) _ p _));
      replies = rest.replies
          ∙ packet_replies (own == slot) slot (before slot) (numbered (length (packets_of (before slot))) p)
          (brought slot (with_line slot (before slot) (packet own p)) made);
      verdicts = verdict_first (own == slot) slot (before slot) (numbered (length (packets_of (before slot))) p)
          (verdict_after own (before own) (numbered (length (packets_of (before own))) p)) _ _
          (λ own_slot. ap (λ s. verdict_after s (before s) (numbered (length (packets_of (before s))) p))
          (eqb-true own slot own_slot)) rest.verdicts;
    }

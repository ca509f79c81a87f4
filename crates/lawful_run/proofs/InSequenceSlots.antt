-- The events of a slot where each line is answered in sequence: they stand in line order.
use Rattle.std.proofs.Common.{◌≡◌, ℕ, suc, ◌+◌, ◌==◌, Bool, true, false, Some, None, List, [], ◌∷◌, ◌++◌, length, cond, refl, sym, ap, subst, ◌∙◌, arith}
use Rattle.std.specs.List.{filter_map, cons_option}
use Rattle.std.specs.Option.{option_map}
use Rattle.std.proofs.lemmas.Bool.{eqb-true}
use Rattle.control_steps.specs.declared.command.CommandKind.{CommandKind}
use Rattle.demux.specs.Trace.{Meaning, command, packet, move, note}
use Rattle.demux.specs.declared.packet.LentPacket.{LentPacket}
use Rattle.gate_model.specs.Events.{commands_of, packets_of}
use Rattle.gate_model.specs.declared.event.Event.{Event}
use Rattle.gate_model.specs.declared.event.Event.TheVariants as event
use Rattle.report_lines.specs.declared.entry.LineEntry.{LineEntry}
use Rattle.report_lines.specs.declared.entry.LineEntry.TheVariants as line
use Rattle.lawful_run.specs.Accepted.{Placed, commands_accepted, packets_accepted, command_for, packet_for}
use Rattle.lawful_run.specs.Answers.{AnswersAll}
use Rattle.lawful_run.specs.AnsweredRun.{with_line, brought}
use Rattle.lawful_run.specs.Bounds.{Rises, count_in_sequence}
use Rattle.lawful_run.specs.LinesTold.{LineTold, lines_told, EachFrom}
use Rattle.demux.specs.Packets.{numbered}
use Rattle.lawful_run.specs.Merging.{Histories, merged, events_in}
use Rattle.lawful_run.specs.Telling.{commands_told}
use Rattle.lawful_run.proofs.Meets.{LineMeets}
use Rattle.lawful_run.proofs.Counting.{commands-command, commands-packet, packets-packet, packets-command, IsCounted, counted_on}
use Rattle.lawful_run.proofs.MergingLemmas.{counts_of, rises_lower, merged-command, merged-packet}

-- an accepted packet, and the count that its entry tells
placed_first : (test : Bool) (count : ℕ) (p : LentPacket) (packets : List Placed) (counts : List ℕ)
    → counts_of packets ≡ counts
    → counts_of (cons_option (option_map (λ (q : LentPacket). record { commands = count; packet = q })
    (cond test (Some p) None)) packets)
    ≡ cons_option (cond test (Some count) None) counts
placed_first true count p packets counts same = ap (λ more. count ∷ more) same
placed_first false count p packets counts same = same

-- the counts of the accepted packets are those that entries tell
pub placed_counts : (slot n : ℕ) (made : List Meaning) (entries : List LineEntry) → AnswersAll n made entries
    → counts_of (packets_accepted slot (lines_told made entries)) ≡ filter_map (commands_told slot) entries
placed_counts slot n [] [] answers = refl
placed_counts slot n [] (entry ∷ entries) answers = absurd answers
placed_counts slot n (now ∷ made) [] answers = absurd answers
placed_counts slot n (note text ∷ made) (line.N noted ∷ entries) answers =
    placed_counts slot (n + 1) made entries answers.1
placed_counts slot n (note text ∷ made) (line.C answered ∷ entries) answers = absurd answers.0
placed_counts slot n (note text ∷ made) (line.P judged ∷ entries) answers = absurd answers.0
placed_counts slot n (note text ∷ made) (line.F refused ∷ entries) answers = absurd answers.0
placed_counts slot n (move own slice text ∷ made) (line.N noted ∷ entries) answers =
    placed_counts slot (n + 1) made entries answers.1
placed_counts slot n (move own slice text ∷ made) (line.C answered ∷ entries) answers = absurd answers.0
placed_counts slot n (move own slice text ∷ made) (line.P judged ∷ entries) answers = absurd answers.0
placed_counts slot n (move own slice text ∷ made) (line.F refused ∷ entries) answers = absurd answers.0
placed_counts slot n (command own c ∷ made) (line.N noted ∷ entries) answers = absurd answers.0
placed_counts slot n (command own c ∷ made) (line.C answered ∷ entries) answers =
    placed_counts slot (n + 1) made entries answers.1
placed_counts slot n (command own c ∷ made) (line.P judged ∷ entries) answers = absurd answers.0
placed_counts slot n (command own c ∷ made) (line.F refused ∷ entries) answers =
    placed_counts slot (n + 1) made entries answers.1
placed_counts slot n (packet own p ∷ made) (line.N noted ∷ entries) answers = absurd answers.0
placed_counts slot n (packet own p ∷ made) (line.C answered ∷ entries) answers = absurd answers.0
placed_counts slot n (packet own p ∷ made) (line.P judged ∷ entries) answers =
    subst (λ s. counts_of (packets_accepted slot (record { meaning = packet s p; entry = line.P judged }
    ∷ lines_told made entries))
    ≡ filter_map (commands_told slot) (line.P judged ∷ entries)) answers.0.1
    (placed_first (judged.slot == slot) judged.commands p (packets_accepted slot (lines_told made entries))
    (filter_map (commands_told slot) entries)
    (placed_counts slot (n + 1) made entries answers.1))
placed_counts slot n (packet own p ∷ made) (line.F refused ∷ entries) answers =
    placed_counts slot (n + 1) made entries answers.1

-- how many commands of a slot stand before each of its packets, in line order
abbrev pub counts_brought : ℕ → List Event → List Meaning → List ℕ
counts_brought slot events [] = []
counts_brought slot events (note text ∷ made) = counts_brought slot events made
counts_brought slot events (move own slice text ∷ made) = counts_brought slot events made
counts_brought slot events (command own c ∷ made) = counts_brought slot (with_line slot events (command own c)) made
counts_brought slot events (packet own p ∷ made) =
    cons_option (cond (own == slot) (Some (length (commands_of events))) None)
    (counts_brought slot (with_line slot events (packet own p)) made)

-- the counts of a slot rise, and its events are those that the lines bring
pub record InLineOrder (slot : ℕ) (before : List Event) (made : List Meaning) (entries : List LineEntry) : Type 0 where
  pub counts : filter_map (commands_told slot) entries ≡ counts_brought slot before made
  pub commands : commands_accepted slot (lines_told made entries) ≡ filter_map (command_for slot) made
  pub packets : length (packets_accepted slot (lines_told made entries)) ≡ length (filter_map (packet_for slot) made)
  pub rises : Rises (length (commands_of before)) (filter_map (commands_told slot) entries)
  pub events : events_in before (lines_told made entries) slot ≡ brought slot before made

-- the first line brings a command
command_first : (test : Bool) (before : List Event) (c : CommandKind) (commands : List CommandKind)
    (packets : List Placed) (events : List Event)
    → Rises (length (commands_of (cond test (before ++ event.Command c ∷ []) before))) (counts_of packets)
    → merged (length (commands_of (cond test (before ++ event.Command c ∷ []) before)))
    (length (packets_of (cond test (before ++ event.Command c ∷ []) before))) commands packets
    ≡ events
    → Rises (length (commands_of before)) (counts_of packets)
    × (merged (length (commands_of before)) (length (packets_of before))
    (cons_option (cond test (Some c) None) commands) packets
    ≡ cond test (event.Command c ∷ []) [] ++ events)
command_first true before c commands packets events rises holds =
    let more = commands-command before c in
    let here : Rises (length (commands_of before) + 1) (counts_of packets) = rw (sym more) rises in (
      rises_lower (length (commands_of before)) (length (commands_of before) + 1) (counts_of packets)
          (omega arith) here,
      merged-command (length (commands_of before)) (length (packets_of before)) c commands packets here
          ∙ ap (λ rest. event.Command c ∷ rest)
          (subst (λ k. merged k (length (packets_of before)) commands packets ≡ events) more
          (subst (λ k. merged (length (commands_of (before ++ event.Command c ∷ []))) k commands packets ≡ events)
          (packets-command before c) holds)),
    )
command_first false before c commands packets events rises holds = (rises, holds)

-- the first line brings a packet that meets the commands before it
packet_first : (test : Bool) (before : List Event) (count : ℕ) (p : LentPacket) (commands : List CommandKind)
    (packets : List Placed)
    (counts : List ℕ) (events : List Event) → (test ≡ true → count ≡ length (commands_of before))
    → Rises (length (commands_of (cond test (before ++ event.Packet (numbered (length (packets_of before)) p)
    ∷ []) before))) counts
    → merged (length (commands_of (cond test (before ++ event.Packet (numbered (length (packets_of before)) p)
    ∷ []) before)))
    (length (packets_of (cond test (before ++ event.Packet (numbered (length (packets_of before)) p)
    ∷ []) before))) commands packets
    ≡ events
    → Rises (length (commands_of before)) (cons_option (cond test (Some count) None) counts)
    × (merged (length (commands_of before)) (length (packets_of before)) commands
    (cons_option (option_map (λ (q : LentPacket). record { commands = count; packet = q })
    (cond test (Some p) None)) packets)
    ≡ cond test (event.Packet (numbered (length (packets_of before)) p) ∷ []) [] ++ events)
packet_first true before count p commands packets counts events meets rises holds =
    let here : count ≡ length (commands_of before) = meets refl in
    let none = commands-packet before (numbered (length (packets_of before)) p) in
    let more = packets-packet before (numbered (length (packets_of before)) p) in (
      (
        omega (arith, here),
        rises_lower count (length (commands_of before)) counts (omega (arith, here))
            (rw (sym none) rises),
      ),
      merged-packet (length (commands_of before)) (length (packets_of before)) commands
          (record { commands = count; packet = p }) packets here
          ∙ ap (λ rest. event.Packet (numbered (length (packets_of before)) p) ∷ rest)
          (subst (λ k. merged (length (commands_of before)) k commands packets ≡ events) more
          (subst (λ k. merged k (length (packets_of (before
          ++ event.Packet (numbered (length (packets_of before)) p) ∷ []))) commands packets ≡ events) none holds)),
    )
packet_first false before count p commands packets counts events meets rises holds = (rises, holds)

count_first : (test : Bool) (count here : ℕ) (counts others : List ℕ) → (test ≡ true → count ≡ here) → counts ≡ others
    → cons_option (cond test (Some count) None) counts ≡ cons_option (cond test (Some here) None) others
count_first true count here counts others meets same = λ i. meets refl i ∷ same i
count_first false count here counts others meets same = same

packets_first : {X Y : Type 0} (test : Bool) (make : X → Y) (p : X) (packets : List Y) (others : List X)
    → length packets ≡ length others
    → length (cons_option (option_map make (cond test (Some p) None)) packets)
    ≡ length (cons_option (cond test (Some p) None) others)
packets_first true make p packets others same = ap (λ n. suc n) same
packets_first false make p packets others same = same

pub met_slot : (slot n : ℕ) (start : Histories) (prefix : List LineTold) (before : List Event) (made : List Meaning)
    (entries : List LineEntry)
    → AnswersAll n made entries → EachFrom (LineMeets start) prefix (lines_told made entries)
    → IsCounted start slot prefix before
    → InLineOrder slot before made entries
met_slot slot n start prefix before [] [] answers each counts =
    record { counts = refl; commands = refl; packets = refl; rises = tt; events = refl }
met_slot slot n start prefix before [] (entry ∷ entries) answers each counts = absurd answers
met_slot slot n start prefix before (now ∷ made) [] answers each counts = absurd answers
met_slot slot n start prefix before (note text ∷ made) (line.N noted ∷ entries) answers each counts =
    let rest = met_slot slot (n + 1) start _ before made entries answers.1 each.1
    (counted_on start slot prefix before (note text) (line.N noted) refl counts) in
    record {
      counts = rest.counts;
      commands = rest.commands;
      packets = rest.packets;
      rises = rest.rises;
      events = rest.events;
    }
met_slot slot n start prefix before (note text ∷ made) (line.C answered ∷ entries) answers each counts = absurd answers.0
met_slot slot n start prefix before (note text ∷ made) (line.P judged ∷ entries) answers each counts = absurd answers.0
met_slot slot n start prefix before (note text ∷ made) (line.F refused ∷ entries) answers each counts = absurd answers.0
met_slot slot n start prefix before (move own slice text ∷ made) (line.N noted ∷ entries) answers each counts =
    let rest = met_slot slot (n + 1) start _ before made entries answers.1 each.1
    (counted_on start slot prefix before (move own slice text) (line.N noted) refl counts) in
    record {
      counts = rest.counts;
      commands = rest.commands;
      packets = rest.packets;
      rises = rest.rises;
      events = rest.events;
    }
met_slot slot n start prefix before (move own slice text ∷ made) (line.C answered ∷ entries) answers each counts =
    absurd answers.0
met_slot slot n start prefix before (move own slice text ∷ made) (line.P judged ∷ entries) answers each counts =
    absurd answers.0
met_slot slot n start prefix before (move own slice text ∷ made) (line.F refused ∷ entries) answers each counts =
    absurd answers.0
met_slot slot n start prefix before (command own c ∷ made) (line.N noted ∷ entries) answers each counts =
    absurd answers.0
met_slot slot n start prefix before (command own c ∷ made) (line.C answered ∷ entries) answers each counts =
    let rest = met_slot slot (n + 1) start _ (with_line slot before (command own c)) made entries answers.1 each.1
    (counted_on start slot prefix before (command own c) (line.C answered) refl counts) in
    let placed = placed_counts slot (n + 1) made entries answers.1 in
    let first = command_first (own == slot) before c (commands_accepted slot (lines_told made entries))
    (packets_accepted slot (lines_told made entries))
    (brought slot (with_line slot before (command own c)) made)
    (subst (Rises (length (commands_of (with_line slot before (command own c))))) (sym placed) rest.rises)
    rest.events in
    record {
      counts = rest.counts;
      commands = ap (cons_option (cond (own == slot) (Some c) None)) rest.commands;
      packets = rest.packets;
      rises = subst (Rises (length (commands_of before))) placed first.0;
      events = first.1;
    }
met_slot slot n start prefix before (command own c ∷ made) (line.P judged ∷ entries) answers each counts =
    absurd answers.0
met_slot slot n start prefix before (command own c ∷ made) (line.F refused ∷ entries) answers each counts = absurd each.0
met_slot slot n start prefix before (packet own p ∷ made) (line.N noted ∷ entries) answers each counts = absurd answers.0
met_slot slot n start prefix before (packet own p ∷ made) (line.C answered ∷ entries) answers each counts =
    absurd answers.0
met_slot slot n start prefix before (packet own p ∷ made) (line.P judged ∷ entries) answers each counts =
    let rest = met_slot slot (n + 1) start _ (with_line slot before (packet own p)) made entries answers.1 each.1
    (counted_on start slot prefix before (packet own p) (line.P judged) refl counts) in
    let meets : (own == slot) ≡ true → judged.commands ≡ length (commands_of before) =
    λ own_slot. each.0 ∙ ap (λ s. count_in_sequence start s prefix) (answers.0.1 ∙ eqb-true own slot own_slot)
    ∙ sym counts in
    let first = packet_first (own == slot) before judged.commands p (commands_accepted slot (lines_told made entries))
    (packets_accepted slot (lines_told made entries)) (filter_map (commands_told slot) entries)
    (brought slot (with_line slot before (packet own p)) made) meets rest.rises rest.events in
    record {
      counts = ap (λ s. cons_option (cond (s == slot) (Some judged.commands) None)
          (filter_map (commands_told slot) entries)) answers.0.1
          ∙ count_first (own == slot) judged.commands (length (commands_of before)) _ _ meets rest.counts;
      commands = rest.commands;
      packets = packets_first (own == slot) (λ (q : LentPacket). record { commands = judged.commands; packet = q })
          p _ _ rest.packets;
      rises = subst (λ s. Rises (length (commands_of before))
          (cons_option (cond (s == slot) (Some judged.commands) None) (filter_map (commands_told slot) entries)))
          (sym answers.0.1) first.0;
      events = first.1;
    }
met_slot slot n start prefix before (packet own p ∷ made) (line.F refused ∷ entries) answers each counts = absurd each.0

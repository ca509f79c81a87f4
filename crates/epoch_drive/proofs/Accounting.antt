-- What a schedule keeps of a slot's lines is what the lines tell: the floors of its commands and packets.
use Rattle.std.proofs.Common.{◌≡◌, ℕ, ◌+◌, ◌==◌, Bool, true, false, Option, Some, None, List, [], ◌∷◌, ◌++◌, map, length, cond, refl, sym, ap, subst, ◌∙◌, arith, append_assoc, append-nil, length-append}
use Rattle.std.specs.List.{cons_option}
use Rattle.control_steps.specs.declared.command.CommandKind.{CommandKind}
use Rattle.demux.specs.Trace.{Meaning, command, packet, move, note}
use Rattle.report_lines.specs.declared.entry.LineEntry.{LineEntry}
use Rattle.report_lines.specs.declared.entry.LineEntry.TheVariants as line
use Rattle.lawful_run.specs.Accepted.{Placed, accepted_command, accepted_packet, packets_accepted, command_count}
use Rattle.lawful_run.specs.Answers.{Answers, AnswersAll}
use Rattle.lawful_run.specs.LinesTold.{LineTold, lines_told}
use Rattle.lawful_run.specs.Moves.{moves, before_last_move}
use Rattle.lawful_run.specs.Floors.{command_floor, packet_floor, floor_for, command_floors, packet_floors}
use Rattle.lawful_run.proofs.Ceilings.{packets_accepted-append, command_count-append}
use Rattle.lawful_run.proofs.LastMoves.{last_move-push}
use Rattle.lawful_run.proofs.Bounding.{map_some}
use Rattle.lawful_run.proofs.Fillings.{answer_cases}
use Rattle.epoch_schedule.specs.Accounts.{Account, commanded, received, moved_on, account_after, account_of}
use Rattle.epoch_drive.specs.Driven.{asks_of, driven, outcome_told}

-- an account behind some lines
pub record IsAccount (slot : ℕ) (prefix : List LineTold) (account : Account) : Type 0 where
  pub commands : length account.commands ≡ command_count slot prefix
  pub packets : length account.packets ≡ length (packets_accepted slot prefix)
  pub commands_before : account.commands_before ≡ command_count slot (before_last_move slot prefix)
  pub packets_before : account.packets_before ≡ length (packets_accepted slot (before_last_move slot prefix))

-- and what it becomes behind one more
record Becomes (slot : ℕ) (prefix : List LineTold) (now : LineTold) (account after : Account) : Type 0 where
  pub is : IsAccount slot (prefix ++ now ∷ []) after
  pub commands : after.commands ≡ account.commands
      ++ cons_option (floor_for (accepted_command slot now) (command_floor slot 0 prefix)) []
  pub packets : after.packets ≡ account.packets
      ++ cons_option (floor_for (accepted_packet slot now) (packet_floor slot 0 prefix)) []

some_commands : (slot : ℕ) (prefix : List LineTold) (now : LineTold)
    → command_count slot (prefix ++ now ∷ []) ≡ command_count slot prefix
    + length (cons_option (accepted_command slot now) [])
some_commands slot prefix now = command_count-append slot prefix (now ∷ [])

some_packets : (slot : ℕ) (prefix : List LineTold) (now : LineTold)
    → length (packets_accepted slot (prefix ++ now ∷ [])) ≡ length (packets_accepted slot prefix)
    + length (cons_option (accepted_packet slot now) [])
some_packets slot prefix now = packets_accepted-append slot prefix (now ∷ [])

-- a line that brings nothing to the slot
brings_none : (slot : ℕ) (prefix : List LineTold) (now : LineTold) (account : Account) → moves slot now ≡ false
    → accepted_command slot now ≡ None → accepted_packet slot now ≡ None
    → IsAccount slot prefix account → Becomes slot prefix now account account
brings_none slot prefix now account still no_command no_packet is =
    let last = last_move-push slot prefix now false still in
    let commands = some_commands slot prefix now
    ∙ ap (λ own. command_count slot prefix + length (cons_option own [])) no_command in
    let packets = some_packets slot prefix now
    ∙ ap (λ own. length (packets_accepted slot prefix) + length (cons_option own [])) no_packet in
    let old_commands = is.commands in
    let old_packets = is.packets in
    record {
      is = record {
        commands = omega (arith, old_commands, commands);
        packets = omega (arith, old_packets, packets);
        commands_before = is.commands_before ∙ ap (command_count slot) (sym last);
        packets_before = is.packets_before ∙ ap (λ lines. length (packets_accepted slot lines)) (sym last);
      };
      commands = sym (append-nil account.commands)
          ∙ ap (λ own. account.commands ++ cons_option (floor_for own (command_floor slot 0 prefix)) []) (sym no_command);
      packets = sym (append-nil account.packets)
          ∙ ap (λ own. account.packets ++ cons_option (floor_for own (packet_floor slot 0 prefix)) []) (sym no_packet);
    }

-- a command, a packet, or a move of the slot
brings_command : (slot : ℕ) (prefix : List LineTold) (now : LineTold) (account : Account) (c : CommandKind)
    → moves slot now ≡ false → accepted_command slot now ≡ Some c → accepted_packet slot now ≡ None
    → IsAccount slot prefix account → Becomes slot prefix now account (commanded account)
brings_command slot prefix now account c still one no_packet is =
    let last = last_move-push slot prefix now false still in
    let commands = some_commands slot prefix now
    ∙ ap (λ own. command_count slot prefix + length (cons_option own [])) one in
    let packets = some_packets slot prefix now
    ∙ ap (λ own. length (packets_accepted slot prefix) + length (cons_option own [])) no_packet in
    let old_commands = is.commands in
    let old_packets = is.packets in
    let push = length-append account.commands (account.packets_before ∷ []) in
    let before = is.packets_before in
    let floor : account.packets_before ≡ command_floor slot 0 prefix = omega (arith, before) in
    record {
      is = record {
        commands = omega (arith, old_commands, commands, push);
        packets = omega (arith, old_packets, packets);
        commands_before = is.commands_before ∙ ap (command_count slot) (sym last);
        packets_before = is.packets_before ∙ ap (λ lines. length (packets_accepted slot lines)) (sym last);
      };
      commands = ap (λ f. account.commands ++ f ∷ []) floor
          ∙ ap (λ own. account.commands ++ cons_option (floor_for own (command_floor slot 0 prefix)) []) (sym one);
      packets = sym (append-nil account.packets)
          ∙ ap (λ own. account.packets ++ cons_option (floor_for own (packet_floor slot 0 prefix)) []) (sym no_packet);
    }

brings_packet : (slot : ℕ) (prefix : List LineTold) (now : LineTold) (account : Account) (placed : Placed)
    → moves slot now ≡ false → accepted_command slot now ≡ None → accepted_packet slot now ≡ Some placed
    → IsAccount slot prefix account → Becomes slot prefix now account (received account)
brings_packet slot prefix now account placed still no_command one is =
    let last = last_move-push slot prefix now false still in
    let commands = some_commands slot prefix now
    ∙ ap (λ own. command_count slot prefix + length (cons_option own [])) no_command in
    let packets = some_packets slot prefix now
    ∙ ap (λ own. length (packets_accepted slot prefix) + length (cons_option own [])) one in
    let old_commands = is.commands in
    let old_packets = is.packets in
    let push = length-append account.packets (account.commands_before ∷ []) in
    let before = is.commands_before in
    let floor : account.commands_before ≡ packet_floor slot 0 prefix = omega (arith, before) in
    record {
      is = record {
        commands = omega (arith, old_commands, commands);
        packets = omega (arith, old_packets, packets, push);
        commands_before = is.commands_before ∙ ap (command_count slot) (sym last);
        packets_before = is.packets_before ∙ ap (λ lines. length (packets_accepted slot lines)) (sym last);
      };
      commands = sym (append-nil account.commands)
          ∙ ap (λ own. account.commands ++ cons_option (floor_for own (command_floor slot 0 prefix)) []) (sym no_command);
      packets = ap (λ f. account.packets ++ f ∷ []) floor
          ∙ ap (λ own. account.packets ++ cons_option (floor_for own (packet_floor slot 0 prefix)) []) (sym one);
    }

brings_move : (slot : ℕ) (prefix : List LineTold) (now : LineTold) (account : Account) → moves slot now ≡ true
    → accepted_command slot now ≡ None → accepted_packet slot now ≡ None
    → IsAccount slot prefix account → Becomes slot prefix now account (moved_on account)
brings_move slot prefix now account moved no_command no_packet is =
    let last = last_move-push slot prefix now true moved in
    let commands = some_commands slot prefix now
    ∙ ap (λ own. command_count slot prefix + length (cons_option own [])) no_command in
    let packets = some_packets slot prefix now
    ∙ ap (λ own. length (packets_accepted slot prefix) + length (cons_option own [])) no_packet in
    let old_commands = is.commands in
    let old_packets = is.packets in
    record {
      is = record {
        commands = omega (arith, old_commands, commands);
        packets = omega (arith, old_packets, packets);
        commands_before = is.commands ∙ ap (command_count slot) (sym last);
        packets_before = is.packets ∙ ap (λ lines. length (packets_accepted slot lines)) (sym last);
      };
      commands = sym (append-nil account.commands)
          ∙ ap (λ own. account.commands ++ cons_option (floor_for own (command_floor slot 0 prefix)) []) (sym no_command);
      packets = sym (append-nil account.packets)
          ∙ ap (λ own. account.packets ++ cons_option (floor_for own (packet_floor slot 0 prefix)) []) (sym no_packet);
    }

-- one line, where a test says whether it is of the slot
command_by : (test : Bool) (slot : ℕ) (prefix : List LineTold) (now : LineTold) (account : Account) (c : CommandKind)
    → moves slot now ≡ false → accepted_command slot now ≡ cond test (Some c) None → accepted_packet slot now ≡ None
    → IsAccount slot prefix account → Becomes slot prefix now account (cond test (commanded account) account)
command_by true slot prefix now account c still one none is = brings_command slot prefix now account c still one none is
command_by false slot prefix now account c still one none is = brings_none slot prefix now account still one none is

packet_by : (test : Bool) (slot : ℕ) (prefix : List LineTold) (now : LineTold) (account : Account) (placed : Placed)
    → moves slot now ≡ false → accepted_command slot now ≡ None
    → accepted_packet slot now ≡ cond test (Some placed) None
    → IsAccount slot prefix account → Becomes slot prefix now account (cond test (received account) account)
packet_by true slot prefix now account placed still none one is =
    brings_packet slot prefix now account placed still none one is
packet_by false slot prefix now account placed still none one is =
    brings_none slot prefix now account still none one is

move_by : (test : Bool) (slot : ℕ) (prefix : List LineTold) (now : LineTold) (account : Account)
    → moves slot now ≡ test → accepted_command slot now ≡ None → accepted_packet slot now ≡ None
    → IsAccount slot prefix account → Becomes slot prefix now account (cond test (moved_on account) account)
move_by true slot prefix now account is_move none nothing is = brings_move slot prefix now account is_move none nothing is
move_by false slot prefix now account is_move none nothing is =
    brings_none slot prefix now account is_move none nothing is

either_same : (test : Bool) (account : Account) → account ≡ cond test account account
either_same true account = refl
either_same false account = refl

-- a line behind others
line_becomes : (slot n : ℕ) (prefix : List LineTold) (account : Account) (meaning : Meaning) (entry : LineEntry)
    → Answers n meaning entry → IsAccount slot prefix account
    → Becomes slot prefix (record { meaning = meaning; entry = entry }) account
    (account_after slot account (asks_of meaning) (outcome_told entry))
line_becomes slot n prefix account meaning entry answers is =
    answer_cases (λ meaning entry. Becomes slot prefix (record { meaning = meaning; entry = entry }) account
    (account_after slot account (asks_of meaning) (outcome_told entry))) n
    (λ text noted. brings_none slot prefix (record { meaning = note text; entry = line.N noted }) account refl refl refl is)
    (λ own slice text noted. move_by (own == slot) slot prefix
    (record { meaning = move own slice text; entry = line.N noted }) account refl refl refl is)
    (λ c answered. command_by (answered.slot == slot) slot prefix
    (record { meaning = command answered.slot c; entry = line.C answered }) account c refl refl refl is)
    (λ own c refused. subst
    (Becomes slot prefix (record { meaning = command own c; entry = line.F refused }) account)
    (either_same (own == slot) account)
    (brings_none slot prefix (record { meaning = command own c; entry = line.F refused }) account refl refl refl is))
    (λ p judged. packet_by (judged.slot == slot) slot prefix
    (record { meaning = packet judged.slot p; entry = line.P judged }) account
    (record { commands = judged.commands; packet = p }) refl refl
    (map_some (judged.slot == slot) judged.commands p) is)
    (λ own p refused. subst
    (Becomes slot prefix (record { meaning = packet own p; entry = line.F refused }) account)
    (either_same (own == slot) account)
    (brings_none slot prefix (record { meaning = packet own p; entry = line.F refused }) account refl refl refl is))
    meaning entry answers

-- floors one behind the other
cons_option-join : {X : Type 0} (own : Option X) (xs ys : List X)
    → (xs ++ cons_option own []) ++ ys ≡ xs ++ cons_option own ys
cons_option-join None xs ys = ap (λ zs. zs ++ ys) (append-nil xs)
cons_option-join (Some x) xs ys = append_assoc xs (x ∷ []) ys

pub record FloorsTold (slot : ℕ) (prefix lines : List LineTold) (account after : Account) : Type 0 where
  pub commands : after.commands ≡ account.commands ++ command_floors slot 0 prefix lines
  pub packets : after.packets ≡ account.packets ++ packet_floors slot 0 prefix lines

one_told : (slot : ℕ) (prefix : List LineTold) (now : LineTold) (lines : List LineTold) (account next after : Account)
    → Becomes slot prefix now account next → FloorsTold slot (prefix ++ now ∷ []) lines next after
    → FloorsTold slot prefix (now ∷ lines) account after
one_told slot prefix now lines account next after becomes rest = record {
  commands = rest.commands
      ∙ ap (λ floors. floors ++ command_floors slot 0 (prefix ++ now ∷ []) lines) becomes.commands
      ∙ cons_option-join (floor_for (accepted_command slot now) (command_floor slot 0 prefix)) account.commands
      (command_floors slot 0 (prefix ++ now ∷ []) lines);
  packets = rest.packets
      ∙ ap (λ floors. floors ++ packet_floors slot 0 (prefix ++ now ∷ []) lines) becomes.packets
      ∙ cons_option-join (floor_for (accepted_packet slot now) (packet_floor slot 0 prefix)) account.packets
      (packet_floors slot 0 (prefix ++ now ∷ []) lines);
}

pub floors_told : (slot n : ℕ) (prefix : List LineTold) (account : Account) (made : List Meaning)
    (entries : List LineEntry) (turns : List (List ℕ)) → AnswersAll n made entries → IsAccount slot prefix account
    → FloorsTold slot prefix (lines_told made entries) account
    (account_of slot account (driven made turns) (map outcome_told entries))
floors_told slot n prefix account [] entries turns each is = record {
  commands = sym (append-nil account.commands);
  packets = sym (append-nil account.packets);
}
floors_told slot n prefix account (now ∷ made) [] turns each is = absurd each
floors_told slot n prefix account (now ∷ made) (entry ∷ entries) [] each is =
    let next = account_after slot account (asks_of now) (outcome_told entry) in
    let told : LineTold = record { meaning = now; entry = entry } in
    let becomes = line_becomes slot n prefix account now entry each.0 is in
    one_told slot prefix told (lines_told made entries) account next
    (account_of slot next (driven made []) (map outcome_told entries)) becomes
    (floors_told slot (n + 1) (prefix ++ told ∷ []) next made entries [] each.1 becomes.is)
floors_told slot n prefix account (now ∷ made) (entry ∷ entries) (first ∷ turns) each is =
    let next = account_after slot account (asks_of now) (outcome_told entry) in
    let told : LineTold = record { meaning = now; entry = entry } in
    let becomes = line_becomes slot n prefix account now entry each.0 is in
    one_told slot prefix told (lines_told made entries) account next
    (account_of slot next (driven made turns) (map outcome_told entries)) becomes
    (floors_told slot (n + 1) (prefix ++ told ∷ []) next made entries turns each.1 becomes.is)

-- floors count from the epoch's start here, and from the run's start there
map-floor : {X : Type 0} (base floor other : ℕ) (own : Option X) (floors : List ℕ) → base + floor ≡ other
    → map (λ (f : ℕ). base + f) (cons_option (floor_for own floor) floors)
    ≡ cons_option (floor_for own other) (map (λ (f : ℕ). base + f) floors)
map-floor base floor other None floors is = refl
map-floor base floor other (Some x) floors is = ap (λ f. f ∷ map (λ (f : ℕ). base + f) floors) is

pub command_floors-base : (slot base : ℕ) (before lines : List LineTold)
    → map (λ (f : ℕ). base + f) (command_floors slot 0 before lines) ≡ command_floors slot base before lines
command_floors-base slot base before [] = refl
command_floors-base slot base before (now ∷ lines) =
    map-floor base (command_floor slot 0 before) (command_floor slot base before) (accepted_command slot now)
    (command_floors slot 0 (before ++ now ∷ []) lines) (omega arith)
    ∙ ap (cons_option (floor_for (accepted_command slot now) (command_floor slot base before)))
    (command_floors-base slot base (before ++ now ∷ []) lines)

pub packet_floors-base : (slot base : ℕ) (before lines : List LineTold)
    → map (λ (f : ℕ). base + f) (packet_floors slot 0 before lines) ≡ packet_floors slot base before lines
packet_floors-base slot base before [] = refl
packet_floors-base slot base before (now ∷ lines) =
    map-floor base (packet_floor slot 0 before) (packet_floor slot base before) (accepted_packet slot now)
    (packet_floors slot 0 (before ++ now ∷ []) lines) (omega arith)
    ∙ ap (cons_option (floor_for (accepted_packet slot now) (packet_floor slot base before)))
    (packet_floors-base slot base (before ++ now ∷ []) lines)

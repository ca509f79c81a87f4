-- What lines tell of a slot, with one line more.
use Rattle.std.proofs.Common.{◌≡◌, ℕ, ◌+◌, true, false, Option, Some, None, List, [], ◌∷◌, ◌++◌, map, length, refl, sym, ap, subst, ◌∙◌, arith, append_assoc, append-nil}
use Rattle.std.specs.List.{cons_option, filter_map}
use Rattle.std.proofs.lemmas.List.{map-append, length-map}
use Rattle.std.proofs.lemmas.List.Elements.{filter_map-append}
use Rattle.control_steps.specs.declared.command.CommandKind.{CommandKind}
use Rattle.demux.specs.Trace.{Meaning}
use Rattle.report_lines.specs.declared.entry.LineEntry.{LineEntry}
use Rattle.lawful_run.specs.Accepted.{Placed, accepted_command, accepted_packet, packets_accepted, command_count}
use Rattle.lawful_run.specs.Answers.{Answers, AnswersAll}
use Rattle.lawful_run.specs.LinesTold.{LineTold, lines_told, EachFrom}
use Rattle.lawful_run.specs.Moves.{moves}
use Rattle.lawful_run.specs.Floors.{command_floor, packet_floor, floor_for, command_floors, packet_floors}
use Rattle.lawful_run.proofs.Ceilings.{command_floors-append, cons_option-append}
use Rattle.lawful_run.proofs.LastMoves.{last_move-push}
use Rattle.front_core.specs.Kept.{Ends, EndsTold, with_command, with_packet, moved_on}

-- lists of what lines tell one by one
pub none_more : {X Y : Type 0} (f : X → Option Y) (xs : List X) (x : X) → f x ≡ None
    → filter_map f (xs ++ x ∷ []) ≡ filter_map f xs
none_more f xs x none =
    filter_map-append f xs (x ∷ []) ∙ ap (λ own. filter_map f xs ++ cons_option own []) none
    ∙ append-nil (filter_map f xs)

pub one_more : {X Y : Type 0} (f : X → Option Y) (xs : List X) (x : X) (y : Y) → f x ≡ Some y
    → filter_map f (xs ++ x ∷ []) ≡ filter_map f xs ++ y ∷ []
one_more f xs x y some =
    filter_map-append f xs (x ∷ []) ∙ ap (λ own. filter_map f xs ++ cons_option own []) some

-- what holds of each line, whatever comes behind it
pub each_push : (P : List LineTold → LineTold → List LineTold → Type 0)
    → ((prefix : List LineTold) (now : LineTold) (later others : List LineTold) → P prefix now later
    → P prefix now others)
    → (prefix lines : List LineTold) (now : LineTold) → EachFrom P prefix lines → P (prefix ++ lines) now []
    → EachFrom P prefix (lines ++ now ∷ [])
each_push P any prefix [] now each own = (subst (λ lines. P lines now []) (append-nil prefix) own, tt)
each_push P any prefix (first ∷ lines) now each own = (
  any prefix first lines (lines ++ now ∷ []) each.0,
  each_push P any (prefix ++ first ∷ []) lines now each.1
      (subst (λ before. P before now []) (sym (append_assoc prefix (first ∷ []) lines)) own),
)

-- answers, and lines with them
pub answers_push : (n : ℕ) (made : List Meaning) (entries : List LineEntry) (meaning : Meaning) (entry : LineEntry)
    → AnswersAll n made entries → Answers (n + length made) meaning entry
    → AnswersAll n (made ++ meaning ∷ []) (entries ++ entry ∷ [])
answers_push n [] [] meaning entry each own = (subst (λ k. Answers k meaning entry) (omega arith) own, tt)
answers_push n [] (e ∷ entries) meaning entry each own = absurd each
answers_push n (m ∷ made) [] meaning entry each own = absurd each
answers_push n (m ∷ made) (e ∷ entries) meaning entry each own = (
  each.0,
  answers_push (n + 1) made entries meaning entry each.1
      (subst (λ k. Answers k meaning entry) (omega arith) own),
)

pub told_push : (n : ℕ) (made : List Meaning) (entries : List LineEntry) (meaning : Meaning) (entry : LineEntry)
    → AnswersAll n made entries
    → lines_told (made ++ meaning ∷ []) (entries ++ entry ∷ [])
    ≡ lines_told made entries ++ record { meaning = meaning; entry = entry } ∷ []
told_push n [] [] meaning entry each = refl
told_push n [] (e ∷ entries) meaning entry each = absurd each
told_push n (m ∷ made) [] meaning entry each = absurd each
told_push n (m ∷ made) (e ∷ entries) meaning entry each =
    ap (λ rest. record { meaning = m; entry = e } ∷ rest) (told_push (n + 1) made entries meaning entry each.1)

-- floors one behind the other
packet_floors-append : (slot commands : ℕ) (before lines more : List LineTold)
    → packet_floors slot commands before (lines ++ more)
    ≡ packet_floors slot commands before lines ++ packet_floors slot commands (before ++ lines) more
packet_floors-append slot commands before [] more =
    ap (λ lines. packet_floors slot commands lines more) (sym (append-nil before))
packet_floors-append slot commands before (now ∷ lines) more =
    let own = floor_for (accepted_packet slot now) (packet_floor slot commands before) in
    ap (cons_option own) (packet_floors-append slot commands (before ++ now ∷ []) lines more
    ∙ ap (λ prefix. packet_floors slot commands (before ++ now ∷ []) lines ++ packet_floors slot commands prefix more)
    (append_assoc before (now ∷ []) lines))
    ∙ cons_option-append own (packet_floors slot commands (before ++ now ∷ []) lines)
    (packet_floors slot commands (before ++ now ∷ lines) more)

module _ (slot : ℕ) (taken : List LineTold) (now : LineTold) where
  command_floors-none : (packets : ℕ) → accepted_command slot now ≡ None
      → command_floors slot packets [] (taken ++ now ∷ []) ≡ command_floors slot packets [] taken
  command_floors-none packets none =
      command_floors-append slot packets [] taken (now ∷ [])
      ∙ ap (λ own. command_floors slot packets [] taken
      ++ cons_option (floor_for own (command_floor slot packets taken)) []) none
      ∙ append-nil (command_floors slot packets [] taken)

  command_floors-some : (packets : ℕ) (c : CommandKind) → accepted_command slot now ≡ Some c
      → command_floors slot packets [] (taken ++ now ∷ [])
      ≡ command_floors slot packets [] taken ++ command_floor slot packets taken ∷ []
  command_floors-some packets c some =
      command_floors-append slot packets [] taken (now ∷ [])
      ∙ ap (λ own. command_floors slot packets [] taken
      ++ cons_option (floor_for own (command_floor slot packets taken)) []) some

  packet_floors-none : (commands : ℕ) → accepted_packet slot now ≡ None
      → packet_floors slot commands [] (taken ++ now ∷ []) ≡ packet_floors slot commands [] taken
  packet_floors-none commands none =
      packet_floors-append slot commands [] taken (now ∷ [])
      ∙ ap (λ own. packet_floors slot commands [] taken
      ++ cons_option (floor_for own (packet_floor slot commands taken)) []) none
      ∙ append-nil (packet_floors slot commands [] taken)

  packet_floors-some : (commands : ℕ) (placed : Placed) → accepted_packet slot now ≡ Some placed
      → packet_floors slot commands [] (taken ++ now ∷ [])
      ≡ packet_floors slot commands [] taken ++ packet_floor slot commands taken ∷ []
  packet_floors-some commands placed some =
      packet_floors-append slot commands [] taken (now ∷ [])
      ∙ ap (λ own. packet_floors slot commands [] taken
      ++ cons_option (floor_for own (packet_floor slot commands taken)) []) some

  -- what the next command and packet wait for
  still_command_floor : (packets : ℕ) → moves slot now ≡ false
      → command_floor slot packets (taken ++ now ∷ []) ≡ command_floor slot packets taken
  still_command_floor packets still =
      ap (λ lines. packets + length (packets_accepted slot lines)) (last_move-push slot taken now false still)

  still_packet_floor : (commands : ℕ) → moves slot now ≡ false
      → packet_floor slot commands (taken ++ now ∷ []) ≡ packet_floor slot commands taken
  still_packet_floor commands still =
      ap (λ lines. commands + command_count slot lines) (last_move-push slot taken now false still)

  -- a line that brings the slot nothing
  pub ends_other : (ends : Ends) → accepted_command slot now ≡ None → accepted_packet slot now ≡ None
      → moves slot now ≡ false → EndsTold slot ends taken → EndsTold slot ends (taken ++ now ∷ [])
  ends_other ends no_command no_packet still is = record {
    commands_are = is.commands_are ∙ sym (none_more (accepted_command slot) taken now no_command);
    command_floors_are = is.command_floors_are ∙ sym (command_floors-none ends.first_packet no_command);
    packets_are = is.packets_are
        ∙ ap (map (λ (p : Placed). p.packet)) (sym (none_more (accepted_packet slot) taken now no_packet));
    packet_floors_are = is.packet_floors_are ∙ sym (packet_floors-none ends.first_command no_packet);
    commands_before_are = is.commands_before_are ∙ sym (still_packet_floor ends.first_command still);
    packets_before_are = is.packets_before_are ∙ sym (still_command_floor ends.first_packet still);
  }

  -- an accepted command, an accepted packet, and a move
  pub ends_commanded : (ends : Ends) (c : CommandKind) → accepted_command slot now ≡ Some c
      → accepted_packet slot now ≡ None → moves slot now ≡ false → EndsTold slot ends taken
      → EndsTold slot (with_command c ends) (taken ++ now ∷ [])
  ends_commanded ends c one no_packet still is = record {
    commands_are = ap (λ cs. cs ++ c ∷ []) is.commands_are ∙ sym (one_more (accepted_command slot) taken now c one);
    command_floors_are = (λ i. is.command_floors_are i ++ is.packets_before_are i ∷ [])
        ∙ sym (command_floors-some ends.first_packet c one);
    packets_are = is.packets_are
        ∙ ap (map (λ (p : Placed). p.packet)) (sym (none_more (accepted_packet slot) taken now no_packet));
    packet_floors_are = is.packet_floors_are ∙ sym (packet_floors-none ends.first_command no_packet);
    commands_before_are = is.commands_before_are ∙ sym (still_packet_floor ends.first_command still);
    packets_before_are = is.packets_before_are ∙ sym (still_command_floor ends.first_packet still);
  }

  pub ends_received : (ends : Ends) (placed : Placed) → accepted_command slot now ≡ None
      → accepted_packet slot now ≡ Some placed → moves slot now ≡ false → EndsTold slot ends taken
      → EndsTold slot (with_packet placed.packet ends) (taken ++ now ∷ [])
  ends_received ends placed no_command one still is = record {
    commands_are = is.commands_are ∙ sym (none_more (accepted_command slot) taken now no_command);
    command_floors_are = is.command_floors_are ∙ sym (command_floors-none ends.first_packet no_command);
    packets_are = ap (λ ps. ps ++ placed.packet ∷ []) is.packets_are
        ∙ sym (map-append (λ (p : Placed). p.packet) (packets_accepted slot taken) (placed ∷ []))
        ∙ ap (map (λ (p : Placed). p.packet)) (sym (one_more (accepted_packet slot) taken now placed one));
    packet_floors_are = (λ i. is.packet_floors_are i ++ is.commands_before_are i ∷ [])
        ∙ sym (packet_floors-some ends.first_command placed one);
    commands_before_are = is.commands_before_are ∙ sym (still_packet_floor ends.first_command still);
    packets_before_are = is.packets_before_are ∙ sym (still_command_floor ends.first_packet still);
  }

  pub ends_moved : (ends : Ends) → accepted_command slot now ≡ None → accepted_packet slot now ≡ None
      → moves slot now ≡ true → EndsTold slot ends taken → EndsTold slot (moved_on ends) (taken ++ now ∷ [])
  ends_moved ends no_command no_packet moved is =
      let many = ap length is.packets_are ∙ length-map (packets_accepted slot taken) (λ (p : Placed). p.packet) in
      record {
        commands_are = is.commands_are ∙ sym (none_more (accepted_command slot) taken now no_command);
        command_floors_are = is.command_floors_are ∙ sym (command_floors-none ends.first_packet no_command);
        packets_are = is.packets_are
            ∙ ap (map (λ (p : Placed). p.packet)) (sym (none_more (accepted_packet slot) taken now no_packet));
        packet_floors_are = is.packet_floors_are ∙ sym (packet_floors-none ends.first_command no_packet);
        commands_before_are = ap (λ cs. ends.first_command + length cs) is.commands_are
            ∙ ap (λ lines. ends.first_command + command_count slot lines)
            (sym (last_move-push slot taken now true moved));
        packets_before_are = ap (λ n. ends.first_packet + n) many
            ∙ ap (λ lines. ends.first_packet + length (packets_accepted slot lines))
            (sym (last_move-push slot taken now true moved));
      }

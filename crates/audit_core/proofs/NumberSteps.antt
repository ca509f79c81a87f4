-- Commands and packets are numbered on with one line more exactly where its own number is the next one.
use Rattle.std.proofs.Common.{◌≡◌, ℕ, zero, suc, ◌+◌, ◌==◌, Bool, true, false, if◌then◌else◌, Option, None, Some, List, [], ◌∷◌, ◌++◌, decimal, length, refl, sym, ap, ◌∙◌, arith, append-nil, length-append}
use Rattle.std.specs.List.{cons_option, filter_map}
use Rattle.std.proofs.lemmas.Bool.{eq-eqb, eqb-true}
use Rattle.std.proofs.lemmas.List.{append_cancel_left}
use Rattle.std.proofs.lemmas.List.Elements.{filter_map-append}
use Rattle.demux.specs.Trace.{Meaning, command, packet, move, note}
use Rattle.gate_model.specs.Events.{commands_of, packets_of}
use Rattle.report_lines.specs.declared.entry.LineEntry.{LineEntry}
use Rattle.report_lines.specs.declared.entry.LineEntry.TheVariants as line
use Rattle.lawful_run.specs.Accepted.{accepted_command, accepted_packet, command_count, packets_accepted}
use Rattle.lawful_run.specs.Answers.{Answers}
use Rattle.lawful_run.specs.Bounds.{count_in_sequence}
use Rattle.lawful_run.specs.LinesTold.{LineTold}
use Rattle.lawful_run.specs.Merging.{Histories}
use Rattle.lawful_run.specs.Telling.{command_number, counted, packet_number}
use Rattle.audit_core.specs.FirstLines.{number_due}
use Rattle.audit_core.specs.Meant.{is_about, is_about_by, slot_in}
use Rattle.audit_core.specs.Sentences.{AreNumbered}
use Rattle.audit_core.specs.Walking.{missed_by, number_missed}
use Rattle.audit_core.proofs.LineKinds.{answered, judged, kind_of, moved, other, refused}

pub counted-push : (first n : ℕ) → counted first (suc n) ≡ counted first n ++ (first + n) ∷ []
counted-push first zero = let same : first ≡ first + 0 = omega arith in ap (λ k. k ∷ []) same
counted-push first (suc n) =
    let same : first + 1 + n ≡ first + suc n = omega arith in
    ap (λ l. first ∷ l) (counted-push (first + 1) n ∙ ap (λ k. counted (first + 1) n ++ k ∷ []) same)

-- what some lines tell is counted on from a start, by those that they take
module _ {Y : Type 0} (tell : LineTold → Option ℕ) (take_ : LineTold → Option Y) (start : ℕ) where
  abbrev IsRight : List LineTold → Type 0
  IsRight lines = filter_map tell lines ≡ counted start (length (filter_map take_ lines))

  module _ (prefix : List LineTold) (now : LineTold) where
    told-push : (k : Option ℕ) → tell now ≡ k
        → filter_map tell (prefix ++ now ∷ []) ≡ filter_map tell prefix ++ cons_option k []
    told-push k is =
        filter_map-append tell prefix (now ∷ []) ∙ ap (λ o. filter_map tell prefix ++ cons_option o []) is

    taken-push : (y : Option Y) → take_ now ≡ y
        → length (filter_map take_ (prefix ++ now ∷ [])) ≡ length (filter_map take_ prefix) + length (cons_option y [])
    taken-push y is =
        ap length (filter_map-append take_ prefix (now ∷ []) ∙ ap (λ o. filter_map take_ prefix ++ cons_option o []) is)
        ∙ length-append (filter_map take_ prefix) (cons_option y [])

    right_quiet : tell now ≡ None → take_ now ≡ None → IsRight prefix → IsRight (prefix ++ now ∷ [])
    right_quiet none nothing right =
        let count : length (filter_map take_ prefix) ≡ length (filter_map take_ (prefix ++ now ∷ [])) =
        omega (arith, taken-push None nothing) in
        told-push None none ∙ append-nil (filter_map tell prefix) ∙ right ∙ ap (counted start) count

    module _ (k : ℕ) (y : Y) (told : tell now ≡ Some k) (took : take_ now ≡ Some y) where
      one_more : suc (length (filter_map take_ prefix)) ≡ length (filter_map take_ (prefix ++ now ∷ []))
      one_more = omega (arith, taken-push (Some y) took)

      right_more : k ≡ start + length (filter_map take_ prefix) → IsRight prefix → IsRight (prefix ++ now ∷ [])
      right_more next right =
          told-push (Some k) told ∙ (λ i. right i ++ next i ∷ [])
          ∙ sym (counted-push start (length (filter_map take_ prefix))) ∙ ap (counted start) one_more

      right_is : IsRight prefix → IsRight (prefix ++ now ∷ []) → k ≡ start + length (filter_map take_ prefix)
      right_is right whole =
          let due = start + length (filter_map take_ prefix) in
          let both : filter_map tell prefix ++ k ∷ [] ≡ filter_map tell prefix ++ due ∷ [] =
          sym (told-push (Some k) told) ∙ whole ∙ ap (counted start) (sym one_more)
          ∙ counted-push start (length (filter_map take_ prefix)) ∙ ap (λ l. l ++ due ∷ []) (sym right) in
          let last : k ∷ [] ≡ due ∷ [] = append_cancel_left (filter_map tell prefix) (k ∷ []) (due ∷ []) both in
          let same : k ≡ due = cc in
          same

-- a number that isn't missed is the one due
none_missed : (told due : ℕ) (test : Bool) → (told == due) ≡ test → (if test then None else Some due) ≡ None
    → told ≡ due
none_missed told due true is none = eqb-true told due is
none_missed told due false is none = absurd (something none)
  where
    something : Some due ≡ None → ⊥
    something some = cc

due_missed : (due found : ℕ) (test : Bool) → (if test then None else Some due) ≡ Some found → due ≡ found
due_missed due found true is = absurd (nothing is)
  where
    nothing : None ≡ Some found → ⊥
    nothing none = cc
due_missed due found false is = let same : due ≡ found = cc in same

never_missed : (told due found : ℕ) → told ≡ due → missed_by told due ≡ Some found → ⊥
never_missed told due found same is =
    let none : None ≡ Some found = sym (ap (λ t. if t then None else Some due) (eq-eqb told due same)) ∙ is in cc

module _ (histories : Histories) (prefix : List LineTold) (now : LineTold) where
  -- the next numbers of a slot
  abbrev next_command : ℕ → ℕ
  next_command slot = length (commands_of (histories slot)) + command_count slot prefix

  abbrev next_packet : ℕ → ℕ
  next_packet slot = length (packets_of (histories slot)) + length (packets_accepted slot prefix)

  abbrev missed : ℕ → Option ℕ
  missed slot = number_missed (next_command slot) (next_packet slot) now.entry

  module _ (slot : ℕ) where
    quiet_commands : command_number slot now.entry ≡ None → accepted_command slot now ≡ None
        → AreNumbered histories prefix
        → filter_map (λ (told : LineTold). command_number slot told.entry) (prefix ++ now ∷ [])
        ≡ counted (length (commands_of (histories slot)))
        (length (filter_map (accepted_command slot) (prefix ++ now ∷ [])))
    quiet_commands none nothing are =
        right_quiet (λ (told : LineTold). command_number slot told.entry) (accepted_command slot)
        (length (commands_of (histories slot))) prefix now none nothing (are slot).of_commands

    quiet_packets : packet_number slot now.entry ≡ None → accepted_packet slot now ≡ None
        → AreNumbered histories prefix
        → filter_map (λ (told : LineTold). packet_number slot told.entry) (prefix ++ now ∷ [])
        ≡ counted (length (packets_of (histories slot)))
        (length (filter_map (accepted_packet slot) (prefix ++ now ∷ [])))
    quiet_packets none nothing are =
        right_quiet (λ (told : LineTold). packet_number slot told.entry) (accepted_packet slot)
        (length (packets_of (histories slot))) prefix now none nothing (are slot).of_packets

  pub numbers_more : (n : ℕ) → Answers n now.meaning now.entry
      → ((slot : ℕ) → is_about slot now ≡ true → missed slot ≡ None)
      → AreNumbered histories prefix → AreNumbered histories (prefix ++ now ∷ [])
  numbers_more n answers none are = λ slot. elim (kind_of n slot now answers) [
    | other tells ↦ record {
      of_commands = quiet_commands slot tells.command_number_is tells.accepted_is are;
      of_packets = quiet_packets slot tells.packet_number_is tells.placed_is are;
    }
    | moved noted is moves tells ↦ record {
      of_commands = quiet_commands slot tells.command_number_is tells.accepted_is are;
      of_packets = quiet_packets slot tells.packet_number_is tells.placed_is are;
    }
    | answered a c is moves tells ↦
        let next : a.number ≡ next_command slot =
        none_missed a.number (next_command slot) (a.number == next_command slot) refl
        (sym (ap (number_missed (next_command slot) (next_packet slot)) is) ∙ none slot tells.about_is) in
        record {
          of_commands = right_more (λ (told : LineTold). command_number slot told.entry) (accepted_command slot)
              (length (commands_of (histories slot))) prefix now a.number c tells.command_number_is tells.accepted_is next
              (are slot).of_commands;
          of_packets = quiet_packets slot tells.packet_number_is tells.placed_is are;
        }
    | judged j p is moves tells ↦
        let next : j.number ≡ next_packet slot =
        none_missed j.number (next_packet slot) (j.number == next_packet slot) refl
        (sym (ap (number_missed (next_command slot) (next_packet slot)) is) ∙ none slot tells.about_is) in
        record {
          of_commands = quiet_commands slot tells.command_number_is tells.accepted_is are;
          of_packets = right_more (λ (told : LineTold). packet_number slot told.entry) (accepted_packet slot)
              (length (packets_of (histories slot))) prefix now j.number (record { commands = j.commands; packet = p })
              tells.packet_number_is tells.placed_is next (are slot).of_packets;
        }
    | refused r is moves tells ↦ record {
      of_commands = quiet_commands slot tells.command_number_is tells.accepted_is are;
      of_packets = quiet_packets slot tells.packet_number_is tells.placed_is are;
    }
  ]

  pub numbers_break : (n slot due : ℕ) → Answers n now.meaning now.entry → is_about slot now ≡ true
      → missed slot ≡ Some due
      → AreNumbered histories prefix → AreNumbered histories (prefix ++ now ∷ []) → ⊥
  numbers_break n slot due answers about is_missed are whole = elim (kind_of n slot now answers) [
    | other tells ↦ (let no : true ≡ false = sym about ∙ tells.about_is in cc)
    | moved noted is moves tells ↦
        (let none : None ≡ Some due =
        sym (ap (number_missed (next_command slot) (next_packet slot)) is) ∙ is_missed in cc)
    | answered a c is moves tells ↦
        never_missed a.number (next_command slot) due
        (right_is (λ (told : LineTold). command_number slot told.entry) (accepted_command slot)
        (length (commands_of (histories slot))) prefix now a.number c tells.command_number_is tells.accepted_is
        (are slot).of_commands (whole slot).of_commands)
        (sym (ap (number_missed (next_command slot) (next_packet slot)) is) ∙ is_missed)
    | judged j p is moves tells ↦
        never_missed j.number (next_packet slot) due
        (right_is (λ (told : LineTold). packet_number slot told.entry) (accepted_packet slot)
        (length (packets_of (histories slot))) prefix now j.number (record { commands = j.commands; packet = p })
        tells.packet_number_is tells.placed_is (are slot).of_packets (whole slot).of_packets)
        (sym (ap (number_missed (next_command slot) (next_packet slot)) is) ∙ is_missed)
    | refused r is moves tells ↦
        (let none : None ≡ Some due =
        sym (ap (number_missed (next_command slot) (next_packet slot)) is) ∙ is_missed in cc)
  ]

-- what is told of a number that is missed
pub missed_due : (histories : Histories) (prefix : List LineTold) (n at due : ℕ) (meaning : Meaning) (entry : LineEntry)
    → Answers n meaning entry → slot_in meaning ≡ Some at
    → number_missed (length (commands_of (histories at)) + command_count at prefix)
    (length (packets_of (histories at)) + length (packets_accepted at prefix)) entry ≡ Some due
    → decimal due ≡ number_due histories prefix entry
missed_due histories prefix n at due meaning (line.N noted) answers is gone = absurd (nothing gone)
  where
    nothing : None ≡ Some due → ⊥
    nothing none = cc
missed_due histories prefix n at due meaning (line.F r) answers is gone = absurd (nothing gone)
  where
    nothing : None ≡ Some due → ⊥
    nothing none = cc
missed_due histories prefix n at due (command own c) (line.C a) answers is gone =
    let same : own ≡ at = cc in
    let next = length (commands_of (histories at)) + command_count at prefix in
    ap (λ k. decimal k) (sym (due_missed next due (a.number == next) gone))
    ∙ ap (λ slot. decimal (count_in_sequence histories slot prefix)) (sym (answers.1 ∙ same))
missed_due histories prefix n at due (packet own p) (line.C a) answers is gone = absurd answers
missed_due histories prefix n at due (move own slice text) (line.C a) answers is gone = absurd answers
missed_due histories prefix n at due (note text) (line.C a) answers is gone = absurd answers
missed_due histories prefix n at due (packet own p) (line.P j) answers is gone =
    let same : own ≡ at = cc in
    let next = length (packets_of (histories at)) + length (packets_accepted at prefix) in
    ap (λ k. decimal k) (sym (due_missed next due (j.number == next) gone))
    ∙ ap (λ slot. decimal (length (packets_of (histories slot)) + length (packets_accepted slot prefix)))
    (sym (answers.1 ∙ same))
missed_due histories prefix n at due (command own c) (line.P j) answers is gone = absurd answers
missed_due histories prefix n at due (move own slice text) (line.P j) answers is gone = absurd answers
missed_due histories prefix n at due (note text) (line.P j) answers is gone = absurd answers

-- the slots that a line is about
pub about_own : (meaning : Meaning) (at : ℕ) → slot_in meaning ≡ Some at → is_about_by at meaning ≡ true
about_own (command own c) at is = let same : own ≡ at = cc in eq-eqb own at same
about_own (packet own p) at is = let same : own ≡ at = cc in eq-eqb own at same
about_own (move own slice text) at is = let same : own ≡ at = cc in eq-eqb own at same
about_own (note text) at is = absurd (nothing is)
  where
    nothing : None ≡ Some at → ⊥
    nothing none = cc

pub about_is : (meaning : Meaning) (at slot : ℕ) → slot_in meaning ≡ Some at → is_about_by slot meaning ≡ true
    → slot ≡ at
about_is (command own c) at slot is about =
    let same : own ≡ at = cc in sym (eqb-true own slot about) ∙ same
about_is (packet own p) at slot is about = let same : own ≡ at = cc in sym (eqb-true own slot about) ∙ same
about_is (move own slice text) at slot is about =
    let same : own ≡ at = cc in sym (eqb-true own slot about) ∙ same
about_is (note text) at slot is about = absurd (nothing about)
  where
    nothing : false ≡ true → ⊥
    nothing bad = cc

pub none_about : (meaning : Meaning) (slot : ℕ) → slot_in meaning ≡ None → is_about_by slot meaning ≡ true → ⊥
none_about (command own c) slot is about = let none : Some own ≡ None = is in cc
none_about (packet own p) slot is about = let none : Some own ≡ None = is in cc
none_about (move own slice text) slot is about = let none : Some own ≡ None = is in cc
none_about (note text) slot is about = let no : false ≡ true = about in cc

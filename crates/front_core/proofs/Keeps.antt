-- What is kept stays true behind a line of each kind.
use Rattle.std.proofs.Common.{◌≡◌, ℕ, ◌+◌, ◌≤◌, ◌==◌, ◌||◌, Bool, true, false, Option, Some, None, List, [], ◌∷◌, ◌++◌, length, cond, refl, sym, ap, subst, ◌∙◌, arith, inl, inr, true≢false}
use Rattle.std.proofs.lemmas.Bool.{cases_eq, ne_eqb}
use Rattle.std.proofs.lemmas.List.{length-map}
use Rattle.control_steps.specs.declared.command.CommandKind.{CommandKind}
use Rattle.demux.specs.Trace.{Meaning, command, packet, move, note}
use Rattle.demux.specs.declared.packet.LentPacket.{LentPacket}
use Rattle.report_lines.specs.declared.entry.LineEntry.{LineEntry}
use Rattle.lawful_run.specs.Accepted.{Placed, packets_accepted}
use Rattle.lawful_run.specs.Answers.{Answers}
use Rattle.lawful_run.specs.LinesTold.{LineTold, lines_told, EachLine}
use Rattle.lawful_run.specs.Parking as lawful
use Rattle.lawful_run.specs.Parking.{ParkedBehindMoves, ParkedAs}
use Rattle.lawful_run.specs.Refusals.{RefusedWhereFull, RefusedAs, MayRefusePacket}
use Rattle.lawful_run.specs.Setup.{sliced}
use Rattle.lawful_run.proofs.SlotCases.{eqb_same}
use Rattle.lawful_run.proofs.Bounding.{map_some}
use Rattle.lawful_run.specs.Opened.{open_command, open_packet}
use Rattle.front_core.specs.Kept.{Ends, EndsTold, Part, PartTold, Load, LoadTold, LinesKept, NoLineIsKept, new_ends}
use Rattle.front_core.specs.Lines.{EaseOthers, MayPark, IsAdmitted, KeptWith, NotedIsKept, MovedIsKept, CommandIsKept, PacketIsKept, noted}
use Rattle.front_core.proofs.Pushes.{each_push, answers_push, told_push}
use Rattle.front_core.proofs.KeptParts.{own_admitted, may_be_parked, part_still, part_moved, part_refused, part_commanded, part_received}
use Rattle.front_core.proofs.Loads.{load_still, load_of, lane_was_full}

-- before the first line
none_told : (slot c p : ℕ) → EndsTold slot (new_ends c p) []
none_told slot c p = record {
  commands_are = refl;
  command_floors_are = refl;
  packets_are = refl;
  packet_floors_are = refl;
  commands_before_are = omega arith;
  packets_before_are = omega arith;
}

pub no_line : NoLineIsKept
no_line slices room lane first = record {
  answered = tt;
  refused = tt;
  parked = tt;
  slots = λ slot. record {
    own_is = λ c p. none_told slot c p;
    seen = refl;
    moved_is = refl;
    unmarked = λ none. refl;
    parked = λ parks. absurd (true≢false (sym parks));
  };
  load_is = record {
    accepted_are = refl;
    admitted_are = refl;
    asked_few = omega arith;
  };
}

module _ (slices room lane first : ℕ) (made : List Meaning) (entries : List LineEntry) (old new : ℕ → Part)
    (load after : Load) (kept : LinesKept slices room lane first made entries old load) where
  abbrev taken : List LineTold
  taken = lines_told made entries

  abbrev told_as : Meaning → LineEntry → LineTold
  told_as meaning entry = record { meaning = meaning; entry = entry }

  -- a line more, from its parts
  keep_with : (meaning : Meaning) (entry : LineEntry) → Answers (first + length made) meaning entry
      → RefusedAs (sliced slices room lane) taken (told_as meaning entry) entry → ParkedAs taken entry
      → ((slot : ℕ) → PartTold slot (new slot) (taken ++ told_as meaning entry ∷ []))
      → LoadTold after (taken ++ told_as meaning entry ∷ [])
      → KeptWith slices room lane first made entries meaning entry new after
  keep_with meaning entry answers refused parked slots load_is =
      let more = sym (told_push first made entries meaning entry kept.answered) in
      let now : LineTold = told_as meaning entry in
      record {
        answered = answers_push first made entries meaning entry kept.answered answers;
        refused = subst (EachLine (RefusedWhereFull (sliced slices room lane))) more
            (each_push (RefusedWhereFull (sliced slices room lane)) (λ front line later others is. is) [] taken now
            kept.refused refused);
        parked = subst (EachLine ParkedBehindMoves) more
            (each_push ParkedBehindMoves (λ front line later others is. is) [] taken now kept.parked parked);
        slots = λ slot. subst (PartTold slot (new slot)) more (slots slot);
        load_is = subst (LoadTold after) more load_is;
      }

  -- a line of one slot leaves the others
  cond-other : {X : Type 0} (slot other : ℕ) (x y : X) → (slot ≡ other → ⊥) → cond (slot == other) x y ≡ y
  cond-other slot other x y ne = ap (λ test. cond test x y) (ne_eqb slot other ne)

  is_other : (slot other : ℕ) → (slot ≡ other → ⊥) → ((slot == other) || false) ≡ false
  is_other slot other ne = ap (λ test. test || false) (ne_eqb slot other ne)

  is_own : (slot : ℕ) → ((slot == slot) || false) ≡ true
  is_own slot = ap (λ test. test || false) (eqb_same slot)

  each_slot : (P : ℕ → Type 0) (slot : ℕ) → P slot → ((other : ℕ) → (slot ≡ other → ⊥) → P other)
      → (other : ℕ) → P other
  each_slot P slot own rest other = elim (cases_eq slot other) [
    | inl same ↦ subst P same own
    | inr ne ↦ rest other ne
  ]

  -- what a queue's room and what was accepted come to
  parked_lawful : (parked : Bool) (slot : ℕ) → (parked ≡ true → MayPark (old slot))
      → lawful.MayPark parked slot taken
  parked_lawful false slot may = tt
  parked_lawful true slot may =
      let all = may_be_parked slot (old slot) taken (kept.slots slot) (may refl) in
      (sym (kept.slots slot).moved_is ∙ all.0, all.1)

pub kept_noted : NotedIsKept
kept_noted slices room lane first made entries old new load text kept eases =
    let now : LineTold = record { meaning = note text; entry = noted (first + length made) text } in
    keep_with slices room lane first made entries old new load load kept (note text)
    (noted (first + length made) text) refl tt tt
    (λ slot. part_still slot (old slot) (new slot) (lines_told made entries) now refl refl refl refl refl (eases slot)
    (kept.slots slot))
    (load_still load load (lines_told made entries) now 0 refl refl refl refl refl (omega arith) kept.load_is)

pub kept_moved : MovedIsKept
kept_moved slices room lane first made entries old new load after slot slice text kept goes =
    let entry : LineEntry = noted (first + length made) text in
    let now : LineTold = record { meaning = move slot slice text; entry = entry } in
    let before = lines_told made entries in
    keep_with slices room lane first made entries old new load after kept (move slot slice text) entry refl tt tt
    (each_slot slices room lane first made entries old new load after kept
    (λ other. PartTold other (new other) (before ++ now ∷ [])) slot
    (part_moved slot (old slot) (new slot) before now refl refl (eqb_same slot) refl goes.own goes.moved
    (kept.slots slot))
    (λ other ne.
    part_still other (old other) (new other) before now refl refl (ne_eqb slot other ne) refl refl
    (goes.others other (λ same. ne (sym same))) (kept.slots other)))
    (load_still load after before now 1 refl refl refl goes.accepted goes.admitted goes.asked kept.load_is)

-- a command
command_others : (slices room lane first : ℕ) (made : List Meaning) (entries : List LineEntry)
    (old new : ℕ → Part) (load after : Load) (slot : ℕ) (c : CommandKind) (taken : Bool)
    → LinesKept slices room lane first made entries old load → EaseOthers slot old new
    → (other : ℕ) → (slot ≡ other → ⊥)
    → PartTold other (new other) (lines_told made entries
    ++ record { meaning = command slot c; entry = open_command (first + length made) slot taken } ∷ [])
command_others slices room lane first made entries old new load after slot c true kept others other ne =
    part_still other (old other) (new other) (lines_told made entries)
    (record { meaning = command slot c; entry = open_command (first + length made) slot true })
    (ap (λ test. cond test (Some c) None) (ne_eqb slot other ne)) refl refl refl
    (ap (λ test. test || false) (ne_eqb slot other ne)) (others other (λ same. ne (sym same))) (kept.slots other)
command_others slices room lane first made entries old new load after slot c false kept others other ne =
    part_still other (old other) (new other) (lines_told made entries)
    (record { meaning = command slot c; entry = open_command (first + length made) slot false })
    refl refl refl refl
    (ap (λ test. test || false) (ne_eqb slot other ne)) (others other (λ same. ne (sym same))) (kept.slots other)

pub kept_command : CommandIsKept
kept_command slices room lane first made entries old new load after slot c true kept does =
    let entry : LineEntry = open_command (first + length made) slot true in
    let now : LineTold = record { meaning = command slot c; entry = entry } in
    let before = lines_told made entries in
    keep_with slices room lane first made entries old new load after kept (command slot c) entry (refl, refl) tt tt
    (each_slot slices room lane first made entries old new load after kept
    (λ other. PartTold other (new other) (before ++ now ∷ [])) slot
    (part_commanded slot (old slot) (new slot) before now does.ends c
    (ap (λ test. cond test (Some c) None) (eqb_same slot)) refl refl refl
    (ap (λ test. test || false) (eqb_same slot)) does.admitted_as (does.accepted_as refl) does.moved does.parks
    (kept.slots slot))
    (command_others slices room lane first made entries old new load after slot c true kept does.others))
    (load_of load after before now slot (old slot).own 0 refl (kept.slots slot).seen refl refl
    (omega (arith, does.accepted)) does.admitted (omega (arith, does.asked)) kept.load_is)
kept_command slices room lane first made entries old new load after slot c false kept does =
    let entry : LineEntry = open_command (first + length made) slot false in
    let now : LineTold = record { meaning = command slot c; entry = entry } in
    let before = lines_told made entries in
    let refused = does.refused_as refl in
    let told = own_admitted slot (old slot).own does.ends before does.admitted_as (kept.slots slot).own_is in
    let many = ap length told.commands_are in
    let room_is = refused.1 in
    keep_with slices room lane first made entries old new load after kept (command slot c) entry refl
    (omega (arith, many, room_is)) tt
    (each_slot slices room lane first made entries old new load after kept
    (λ other. PartTold other (new other) (before ++ now ∷ [])) slot
    (part_refused slot (old slot) (new slot) before now does.ends refl refl refl refl
    (ap (λ test. test || false) (eqb_same slot)) does.admitted_as refused.0 does.moved does.parks
    (kept.slots slot))
    (command_others slices room lane first made entries old new load after slot c false kept does.others))
    (load_of load after before now slot (old slot).own 0 refl (kept.slots slot).seen refl refl
    (omega (arith, does.accepted)) does.admitted (omega (arith, does.asked)) kept.load_is)

-- a packet
packet_others : (slices room lane first : ℕ) (made : List Meaning) (entries : List LineEntry)
    (old new : ℕ → Part) (load after : Load) (slot : ℕ) (p : LentPacket) (taken parked : Bool)
    → LinesKept slices room lane first made entries old load → EaseOthers slot old new
    → (other : ℕ) → (slot ≡ other → ⊥)
    → PartTold other (new other) (lines_told made entries
    ++ record { meaning = packet slot p; entry = open_packet (first + length made) slot taken parked } ∷ [])
packet_others slices room lane first made entries old new load after slot p true parked kept others other ne =
    let test = ne_eqb slot other ne in
    part_still other (old other) (new other) (lines_told made entries)
    (record { meaning = packet slot p; entry = open_packet (first + length made) slot true parked })
    refl (map_some (slot == other) 0 p
    ∙ ap {B = Option Placed} (λ test. cond test (Some (record { commands = 0; packet = p })) None) test) refl
    (ap {B = Option Bool} (λ test. cond test (Some parked) None) test)
    (ap (λ test. test || false) test) (others other (λ same. ne (sym same))) (kept.slots other)
packet_others slices room lane first made entries old new load after slot p false parked kept others other ne =
    part_still other (old other) (new other) (lines_told made entries)
    (record { meaning = packet slot p; entry = open_packet (first + length made) slot false parked })
    refl refl refl refl
    (ap (λ test. test || false) (ne_eqb slot other ne)) (others other (λ same. ne (sym same))) (kept.slots other)

-- a queue that was full
queue_was_full : (room slot : ℕ) (part : Part) (ends : Ends) (before : List LineTold) → PartTold slot part before
    → IsAdmitted part.own ends → MayPark part → room ≤ length ends.packets
    → (lane : ℕ) (now : LineTold) → MayRefusePacket room lane slot before now
queue_was_full room slot part ends before told admitted may most lane now =
    let all = may_be_parked slot part before told may in
    let ends_told = own_admitted slot part.own ends before admitted told.own_is in
    let many = ap length ends_told.packets_are ∙ length-map (packets_accepted slot before) (λ (p : Placed). p.packet) in
    inr (sym told.moved_is ∙ all.0, omega (arith, many, most))

pub kept_packet : PacketIsKept
kept_packet slices room lane first made entries old new load after slot p true parked kept does =
    let entry : LineEntry = open_packet (first + length made) slot true parked in
    let now : LineTold = record { meaning = packet slot p; entry = entry } in
    let placed : Placed = record { commands = 0; packet = p } in
    let before = lines_told made entries in
    let accepts = does.accepted_as refl in
    let accepted = accepts.3 in
    let asked = accepts.4 in
    keep_with slices room lane first made entries old new load after kept (packet slot p) entry (refl, refl) tt
    (parked_lawful slices room lane first made entries old new load after kept parked slot accepts.1)
    (each_slot slices room lane first made entries old new load after kept
    (λ other. PartTold other (new other) (before ++ now ∷ [])) slot
    (part_received slot (old slot) (new slot) before now does.ends placed parked refl
    (map_some (slot == slot) 0 p ∙ ap {B = Option Placed} (λ test. cond test (Some placed) None) (eqb_same slot)) refl
    (ap {B = Option Bool} (λ test. cond test (Some parked) None) (eqb_same slot))
    (ap (λ test. test || false) (eqb_same slot)) does.admitted_as accepts.0 does.moved accepts.1 accepts.2
    (kept.slots slot))
    (packet_others slices room lane first made entries old new load after slot p true parked kept does.others))
    (load_of load after before now slot (old slot).own 1 refl (kept.slots slot).seen refl refl
    accepted does.admitted asked kept.load_is)
kept_packet slices room lane first made entries old new load after slot p false parked kept does =
    let entry : LineEntry = open_packet (first + length made) slot false parked in
    let now : LineTold = record { meaning = packet slot p; entry = entry } in
    let before = lines_told made entries in
    let refused = does.refused_as refl in
    let accepted = refused.2 in
    let asked = refused.3 in
    let load_is : LoadTold after (before ++ now ∷ []) =
    load_of load after before now slot (old slot).own 0 refl (kept.slots slot).seen refl refl
    (omega (arith, accepted)) does.admitted (omega (arith, asked)) kept.load_is in
    keep_with slices room lane first made entries old new load after kept (packet slot p) entry refl
    (elim refused.4 [
      | inl full ↦ inl (lane_was_full lane after before now refl refl load_is full)
      | inr full ↦
          queue_was_full room slot (old slot) does.ends before (kept.slots slot) does.admitted_as full.0 full.1 lane now
    ]) tt
    (each_slot slices room lane first made entries old new load after kept
    (λ other. PartTold other (new other) (before ++ now ∷ [])) slot
    (part_refused slot (old slot) (new slot) before now does.ends refl refl refl refl
    (ap (λ test. test || false) (eqb_same slot)) does.admitted_as refused.0 does.moved refused.1
    (kept.slots slot))
    (packet_others slices room lane first made entries old new load after slot p false parked kept does.others))
    load_is

-- What each slot had, and all, behind one line more of an epoch.
use Rattle.std.proofs.Common.{◌≡◌, ℕ, ◌+◌, ◌<◌, ◌≤◌, ◌==◌, ◌||◌, Bool, true, false, if◌then◌else◌, Option, None, Some, List, [], ◌∷◌, ◌++◌, length, get_or, set, get_or-set_same, get_or-set_other, length-set, cond, refl, sym, ap, subst, ◌∙◌, inl, inr, arith, append-nil, length-append}
use Rattle.std.specs.List.{cons_option, filter_map, list_any}
use Rattle.std.specs.Option.{option_map}
use Rattle.std.proofs.lemmas.Bool.{cases_eq, eq-eqb, eqb-true, ne_eqb}
use Rattle.std.proofs.lemmas.List.Elements.{filter_map-append}
use Rattle.std.proofs.lemmas.List.Folds.{list_any-append}
use Rattle.std.proofs.lemmas.List.Sums.{sum_by-append}
use Rattle.control_steps.specs.declared.command.CommandKind.{CommandKind}
use Rattle.demux.specs.Trace.{Meaning, command, packet, move, note}
use Rattle.demux.specs.declared.packet.LentPacket.{LentPacket}
use Rattle.report_lines.specs.declared.entry.LineEntry.{LineEntry}
use Rattle.lawful_run.specs.Answers.{Answers}
use Rattle.lawful_run.specs.Accepted.{Placed, accepted_command, accepted_packet, commands_before, is_refused}
use Rattle.lawful_run.specs.LinesTold.{LineTold}
use Rattle.lawful_run.specs.Moves.{is_moved, moves}
use Rattle.lawful_run.specs.Refusals.{different, is_move, is_packet, move_count, packet_count, slot_count, slot_of}
use Rattle.audit_core.specs.Meant.{slot_in}
use Rattle.audit_core.specs.Walking.{AllWait, SlotWaits, Walks, is_seen, load_by, one_new, one_taken, own_by}
use Rattle.audit_core.specs.declared.walking.Course.{Course}
use Rattle.audit_core.specs.declared.walking.AcceptedLoad.{AcceptedLoad}
use Rattle.audit_core.specs.declared.walking.Own.{Own}
use Rattle.audit_core.proofs.ParkLemmas.{NotOf, may_next, may_other}

or_true : (b : Bool) → (b || true) ≡ true
or_true true = refl
or_true false = refl

or_false : (b : Bool) → (b || false) ≡ b
or_false true = refl
or_false false = refl

eqb_back : (a b : ℕ) → (a == b) ≡ (b == a)
eqb_back a b = elim (cases_eq a b) [
  | inl same ↦ eq-eqb a b same ∙ sym (eq-eqb b a (sym same))
  | inr other ↦ ne_eqb a b other ∙ sym (ne_eqb b a (λ is. other (sym is)))
]

-- how many are different, with one more
more_different : (among same here : Bool) (d more : ℕ) → more ≡ d + one_new here → (same ≡ true → here ≡ among)
    → (if among || (same || false) then more else more + 1)
    ≡ (if among then d else d + 1) + one_new (same || here)
more_different true true here d more is agree = is ∙ ap (λ h. d + one_new h) (agree refl)
more_different true false here d more is agree = is
more_different false true here d more is agree =
    let one : more ≡ d + 1 = is ∙ ap (λ h. d + one_new h) (agree refl) in omega (arith, one)
more_different false false here d more is agree = omega (arith, is)

different-push : (slots : List ℕ) (slot : ℕ)
    → different (slots ++ slot ∷ []) ≡ different slots + one_new (list_any (λ other. other == slot) slots)
different-push [] slot = refl
different-push (first ∷ slots) slot =
    let agree : (first == slot) ≡ true
    → list_any (λ other. other == slot) slots ≡ list_any (λ other. other == first) slots =
    λ same. ap (λ k. list_any (λ other. other == k) slots) (sym (eqb-true first slot same)) in
    ap (λ t. if t then different (slots ++ slot ∷ []) else different (slots ++ slot ∷ []) + 1)
    (list_any-append (λ other. other == first) slots (slot ∷ [])
    ∙ ap (λ t. list_any (λ other. other == first) slots || (t || false)) (eqb_back slot first))
    ∙ more_different (list_any (λ other. other == first) slots) (first == slot)
    (list_any (λ other. other == slot) slots) (different slots) (different (slots ++ slot ∷ []))
    (different-push slots slot) agree

-- what lines say with one more
abbrev gives : {Y : Type 0} → Option Y → ℕ
gives given = length (cons_option given [])

count-push : {Y : Type 0} (h : LineTold → Option Y) (before : List LineTold) (now : LineTold)
    → length (filter_map h (before ++ now ∷ [])) ≡ length (filter_map h before) + gives (h now)
count-push h before now =
    ap length (filter_map-append h before (now ∷ []))
    ∙ length-append (filter_map h before) (cons_option (h now) [])

seen-push : (slot : ℕ) (before : List LineTold) (now : LineTold)
    → is_seen slot (before ++ now ∷ [])
    ≡ (is_seen slot before || list_any (λ (other : ℕ). other == slot) (cons_option (slot_of now) []))
seen-push slot before now =
    ap (list_any (λ (other : ℕ). other == slot)) (filter_map-append slot_of before (now ∷ []))
    ∙ list_any-append (λ (other : ℕ). other == slot) (filter_map slot_of before) (cons_option (slot_of now) [])

moved-push : (slot : ℕ) (before : List LineTold) (now : LineTold)
    → is_moved slot (before ++ now ∷ []) ≡ (is_moved slot before || (moves slot now || false))
moved-push slot before now = list_any-append (moves slot) before (now ∷ [])

-- what is taken of one slot
taken : {Y : Type 0} (refused own : Bool) (y : Y)
    → gives (if refused then None else (if own then Some y else None)) ≡ cond own (if refused then 0 else 1) 0
taken true true y = refl
taken true false y = refl
taken false true y = refl
taken false false y = refl

none_taken : (refused : Bool) → gives {Y = CommandKind} (if refused then None else None) ≡ 0
none_taken true = refl
none_taken false = refl

abbrev place : ℕ → Option LentPacket → Option Placed
place count = option_map (λ (q : LentPacket). record { commands = count; packet = q })

placed : (refused own : Bool) (count : ℕ) (p : LentPacket)
    → gives (if refused then None else place count (if own then Some p else None))
    ≡ cond own (if refused then 0 else 1) 0
placed true true count p = refl
placed true false count p = refl
placed false true count p = refl
placed false false count p = refl

none_placed : (refused : Bool) (count : ℕ) → gives (if refused then None else place count None) ≡ 0
none_placed true count = refl
none_placed false count = refl

most_one : (refused : Bool) → (if refused then 0 else 1) ≤ 1
most_one true = omega arith
most_one false = omega arith

-- a slot's own line
own_next : (n : ℕ) (own : Own) (slot : ℕ) (before : List LineTold) (meaning : Meaning) (entry : LineEntry)
    → Answers n meaning entry → slot_in meaning ≡ Some slot → SlotWaits own slot before
    → SlotWaits (own_by own meaning entry) slot (before ++ record { meaning = meaning; entry = entry } ∷ [])
own_next n own slot before (command at c) entry answers is waits =
    let now : LineTold = record { meaning = command at c; entry = entry } in
    let same : at ≡ slot = cc in
    let here = eq-eqb at slot same in
    let commands : gives (accepted_command slot now) ≡ one_taken entry =
    taken (is_refused entry) (at == slot) c ∙ ap (λ t. cond t (one_taken entry) 0) here in
    let packets : gives (accepted_packet slot now) ≡ 0 = none_placed (is_refused entry) (commands_before entry) in
    let count = length-append before (now ∷ []) in
    record {
      seen = sym (seen-push slot before now ∙ ap (λ t. is_seen slot before || (t || false)) here
          ∙ or_true (is_seen slot before));
      moved = sym (moved-push slot before now ∙ or_false (is_moved slot before) ∙ sym waits.moved);
      commands = omega (arith, waits.commands, commands, count-push (accepted_command slot) before now);
      packets = omega (arith, waits.packets, packets, count-push (accepted_packet slot) before now);
      may = may_next n slot own before (command at c) entry answers is waits.may;
      few_commands = omega (arith, waits.few_commands, count, most_one (is_refused entry));
      few_packets = omega (arith, waits.few_packets, count);
    }
own_next n own slot before (packet at p) entry answers is waits =
    let now : LineTold = record { meaning = packet at p; entry = entry } in
    let same : at ≡ slot = cc in
    let here = eq-eqb at slot same in
    let commands : gives (accepted_command slot now) ≡ 0 = none_taken (is_refused entry) in
    let packets : gives (accepted_packet slot now) ≡ one_taken entry =
    placed (is_refused entry) (at == slot) (commands_before entry) p ∙ ap (λ t. cond t (one_taken entry) 0) here in
    let count = length-append before (now ∷ []) in
    record {
      seen = sym (seen-push slot before now ∙ ap (λ t. is_seen slot before || (t || false)) here
          ∙ or_true (is_seen slot before));
      moved = sym (moved-push slot before now ∙ or_false (is_moved slot before) ∙ sym waits.moved);
      commands = omega (arith, waits.commands, commands, count-push (accepted_command slot) before now);
      packets = omega (arith, waits.packets, packets, count-push (accepted_packet slot) before now);
      may = may_next n slot own before (packet at p) entry answers is waits.may;
      few_commands = omega (arith, waits.few_commands, count);
      few_packets = omega (arith, waits.few_packets, count, most_one (is_refused entry));
    }
own_next n own slot before (move at slice text) entry answers is waits =
    let now : LineTold = record { meaning = move at slice text; entry = entry } in
    let same : at ≡ slot = cc in
    let here = eq-eqb at slot same in
    let commands : gives (accepted_command slot now) ≡ 0 = none_taken (is_refused entry) in
    let packets : gives (accepted_packet slot now) ≡ 0 = none_placed (is_refused entry) (commands_before entry) in
    let count = length-append before (now ∷ []) in
    record {
      seen = sym (seen-push slot before now ∙ or_false (is_seen slot before) ∙ sym waits.seen);
      moved = sym (moved-push slot before now ∙ ap (λ t. is_moved slot before || (t || false)) here
          ∙ or_true (is_moved slot before));
      commands = omega (arith, waits.commands, commands, count-push (accepted_command slot) before now);
      packets = omega (arith, waits.packets, packets, count-push (accepted_packet slot) before now);
      may = may_next n slot own before (move at slice text) entry answers is waits.may;
      few_commands = omega (arith, waits.few_commands, count);
      few_packets = omega (arith, waits.few_packets, count);
    }
own_next n own slot before (note text) entry answers is waits = absurd (nothing is)
  where
    nothing : None ≡ Some slot → ⊥
    nothing none = cc

-- a line of another slot, or of none
other_next : (n : ℕ) (own : Own) (slot : ℕ) (before : List LineTold) (meaning : Meaning) (entry : LineEntry)
    → Answers n meaning entry → NotOf slot meaning → SlotWaits own slot before
    → SlotWaits own slot (before ++ record { meaning = meaning; entry = entry } ∷ [])
other_next n own slot before (command at c) entry answers other waits =
    let now : LineTold = record { meaning = command at c; entry = entry } in
    let there = ne_eqb at slot (other at refl) in
    let commands : gives (accepted_command slot now) ≡ 0 =
    taken (is_refused entry) (at == slot) c ∙ ap (λ t. cond t (one_taken entry) 0) there in
    let packets : gives (accepted_packet slot now) ≡ 0 = none_placed (is_refused entry) (commands_before entry) in
    let count = length-append before (now ∷ []) in
    record {
      seen = sym (seen-push slot before now ∙ ap (λ t. is_seen slot before || (t || false)) there
          ∙ or_false (is_seen slot before) ∙ sym waits.seen);
      moved = sym (moved-push slot before now ∙ or_false (is_moved slot before) ∙ sym waits.moved);
      commands = omega (arith, waits.commands, commands, count-push (accepted_command slot) before now);
      packets = omega (arith, waits.packets, packets, count-push (accepted_packet slot) before now);
      may = waits.may ∙ sym (may_other n slot before (command at c) entry answers other);
      few_commands = omega (arith, waits.few_commands, count);
      few_packets = omega (arith, waits.few_packets, count);
    }
other_next n own slot before (packet at p) entry answers other waits =
    let now : LineTold = record { meaning = packet at p; entry = entry } in
    let there = ne_eqb at slot (other at refl) in
    let commands : gives (accepted_command slot now) ≡ 0 = none_taken (is_refused entry) in
    let packets : gives (accepted_packet slot now) ≡ 0 =
    placed (is_refused entry) (at == slot) (commands_before entry) p ∙ ap (λ t. cond t (one_taken entry) 0) there in
    let count = length-append before (now ∷ []) in
    record {
      seen = sym (seen-push slot before now ∙ ap (λ t. is_seen slot before || (t || false)) there
          ∙ or_false (is_seen slot before) ∙ sym waits.seen);
      moved = sym (moved-push slot before now ∙ or_false (is_moved slot before) ∙ sym waits.moved);
      commands = omega (arith, waits.commands, commands, count-push (accepted_command slot) before now);
      packets = omega (arith, waits.packets, packets, count-push (accepted_packet slot) before now);
      may = waits.may ∙ sym (may_other n slot before (packet at p) entry answers other);
      few_commands = omega (arith, waits.few_commands, count);
      few_packets = omega (arith, waits.few_packets, count);
    }
other_next n own slot before (move at slice text) entry answers other waits =
    let now : LineTold = record { meaning = move at slice text; entry = entry } in
    let there = ne_eqb at slot (other at refl) in
    let commands : gives (accepted_command slot now) ≡ 0 = none_taken (is_refused entry) in
    let packets : gives (accepted_packet slot now) ≡ 0 = none_placed (is_refused entry) (commands_before entry) in
    let count = length-append before (now ∷ []) in
    record {
      seen = sym (seen-push slot before now ∙ or_false (is_seen slot before) ∙ sym waits.seen);
      moved = sym (moved-push slot before now ∙ ap (λ t. is_moved slot before || (t || false)) there
          ∙ or_false (is_moved slot before) ∙ sym waits.moved);
      commands = omega (arith, waits.commands, commands, count-push (accepted_command slot) before now);
      packets = omega (arith, waits.packets, packets, count-push (accepted_packet slot) before now);
      may = waits.may ∙ sym (may_other n slot before (move at slice text) entry answers other);
      few_commands = omega (arith, waits.few_commands, count);
      few_packets = omega (arith, waits.few_packets, count);
    }
other_next n own slot before (note text) entry answers other waits =
    let now : LineTold = record { meaning = note text; entry = entry } in
    let commands : gives (accepted_command slot now) ≡ 0 = none_taken (is_refused entry) in
    let packets : gives (accepted_packet slot now) ≡ 0 = none_placed (is_refused entry) (commands_before entry) in
    let count = length-append before (now ∷ []) in
    record {
      seen = sym (seen-push slot before now ∙ or_false (is_seen slot before) ∙ sym waits.seen);
      moved = sym (moved-push slot before now ∙ or_false (is_moved slot before) ∙ sym waits.moved);
      commands = omega (arith, waits.commands, commands, count-push (accepted_command slot) before now);
      packets = omega (arith, waits.packets, packets, count-push (accepted_packet slot) before now);
      may = waits.may ∙ sym (may_other n slot before (note text) entry answers other);
      few_commands = omega (arith, waits.few_commands, count);
      few_packets = omega (arith, waits.few_packets, count);
    }

-- all slots
taken_packets : (refused : Bool)
    → ◌≡◌ {A = ℕ} (cond (if refused then false else true) 1 0) (if refused then 0 else 1)
taken_packets true = refl
taken_packets false = refl

no_packets : (refused : Bool) → ◌≡◌ {A = ℕ} (cond (if refused then false else false) 1 0) 0
no_packets true = refl
no_packets false = refl

most_new : (seen : Bool) → one_new seen ≤ 1
most_new true = omega arith
most_new false = omega arith

packets-push : (before : List LineTold) (now : LineTold) → packet_count (before ++ now ∷ [])
    ≡ packet_count before + (0 + cond (if is_refused now.entry then false else is_packet now.meaning) 1 0)
packets-push before now =
    sum_by-append (λ (told : LineTold). cond (if is_refused told.entry then false else is_packet told.meaning) 1 0)
    before (now ∷ [])

moves-push : (before : List LineTold) (now : LineTold) → move_count (before ++ now ∷ [])
    ≡ move_count before + (0 + cond (is_move now.meaning) 1 0)
moves-push before now = sum_by-append (λ (told : LineTold). cond (is_move told.meaning) 1 0) before (now ∷ [])

slots-push : (before : List LineTold) (now : LineTold) (at : ℕ) → slot_of now ≡ Some at
    → slot_count (before ++ now ∷ []) ≡ slot_count before + one_new (is_seen at before)
slots-push before now at is =
    ap different (filter_map-append slot_of before (now ∷ [])
    ∙ ap (λ s. filter_map slot_of before ++ cons_option s []) is)
    ∙ different-push (filter_map slot_of before) at

slots-same : (before : List LineTold) (now : LineTold) → slot_of now ≡ None
    → slot_count (before ++ now ∷ []) ≡ slot_count before
slots-same before now is =
    ap different (filter_map-append slot_of before (now ∷ [])
    ∙ ap (λ s. filter_map slot_of before ++ cons_option s []) is
    ∙ append-nil (filter_map slot_of before))

-- the slots with a line's own, as a refused packet counts them
pub slots_with : (load : AcceptedLoad) (before : List LineTold) (now : LineTold) (at : ℕ) (seen : Bool)
    → slot_of now ≡ Some at → seen ≡ is_seen at before → load.slots ≡ slot_count before
    → load.slots + one_new seen ≡ slot_count (before ++ now ∷ [])
slots_with load before now at seen is seen_is slots =
    (λ i. slots i + one_new (seen_is i)) ∙ sym (slots-push before now at is)

all_next : (load : AcceptedLoad) (at : ℕ) (seen : Bool) (before : List LineTold) (meaning : Meaning) (entry : LineEntry)
    → slot_in meaning ≡ Some at → seen ≡ is_seen at before → AllWait load before
    → AllWait (load_by load seen meaning entry) (before ++ record { meaning = meaning; entry = entry } ∷ [])
all_next load at seen before (command own c) entry is seen_is waits =
    let now : LineTold = record { meaning = command own c; entry = entry } in
    let count = length-append before (now ∷ []) in
    record {
      slots = slots_with load before now at seen is seen_is waits.slots;
      packets = omega (arith, waits.packets, packets-push before now, no_packets (is_refused entry));
      moves = omega (arith, waits.moves, moves-push before now);
      few_slots = omega (arith, waits.few_slots, count, most_new seen);
      few_packets = omega (arith, waits.few_packets, count);
      few_moves = omega (arith, waits.few_moves, count);
    }
all_next load at seen before (packet own p) entry is seen_is waits =
    let now : LineTold = record { meaning = packet own p; entry = entry } in
    let count = length-append before (now ∷ []) in
    record {
      slots = slots_with load before now at seen is seen_is waits.slots;
      packets = omega (arith, waits.packets, packets-push before now, taken_packets (is_refused entry));
      moves = omega (arith, waits.moves, moves-push before now);
      few_slots = omega (arith, waits.few_slots, count, most_new seen);
      few_packets = omega (arith, waits.few_packets, count, most_one (is_refused entry));
      few_moves = omega (arith, waits.few_moves, count);
    }
all_next load at seen before (move own slice text) entry is seen_is waits =
    let now : LineTold = record { meaning = move own slice text; entry = entry } in
    let count = length-append before (now ∷ []) in
    record {
      slots = waits.slots ∙ sym (slots-same before now refl);
      packets = omega (arith, waits.packets, packets-push before now, no_packets (is_refused entry));
      moves = omega (arith, waits.moves, moves-push before now);
      few_slots = omega (arith, waits.few_slots, count);
      few_packets = omega (arith, waits.few_packets, count);
      few_moves = omega (arith, waits.few_moves, count);
    }
all_next load at seen before (note text) entry is seen_is waits = absurd (nothing is)
  where
    nothing : None ≡ Some at → ⊥
    nothing none = cc

all_same : (load : AcceptedLoad) (before : List LineTold) (text : List ℕ) (entry : LineEntry) → AllWait load before
    → AllWait load (before ++ record { meaning = note text; entry = entry } ∷ [])
all_same load before text entry waits =
    let now : LineTold = record { meaning = note text; entry = entry } in
    let count = length-append before (now ∷ []) in
    record {
      slots = waits.slots ∙ sym (slots-same before now refl);
      packets = omega (arith, waits.packets, packets-push before now, no_packets (is_refused entry));
      moves = omega (arith, waits.moves, moves-push before now);
      few_slots = omega (arith, waits.few_slots, count);
      few_packets = omega (arith, waits.few_packets, count);
      few_moves = omega (arith, waits.few_moves, count);
    }

-- a line of a slot more
pub walks_next : (n : ℕ) (old new : Course) (slots at : ℕ) (before : List LineTold) (now : LineTold) (own : Own)
    → Walks old slots before → Answers n now.meaning now.entry → slot_in now.meaning ≡ Some at → at < length old.own.items
    → own ≡ get_or old.own.items at own
    → new.own.items ≡ set old.own.items at (own_by own now.meaning now.entry)
    → new.load ≡ load_by old.load own.seen now.meaning now.entry
    → Walks new slots (before ++ now ∷ [])
walks_next n old new slots at before now own waits answers is within own_is items load =
    let held : SlotWaits own at before =
    subst (λ w. SlotWaits w at before) (sym own_is) (waits.each at own (omega (arith, within, waits.places))) in
    record {
      places = ap length items ∙ length-set old.own.items at (own_by own now.meaning now.entry) ∙ waits.places;
      each = λ slot none below. elim (cases_eq slot at) [
        | inl same ↦
            subst (λ w. SlotWaits w slot (before ++ now ∷ []))
            (sym (ap (λ list. get_or list slot none) items
            ∙ ap (λ k. get_or (set old.own.items at (own_by own now.meaning now.entry)) k none) same
            ∙ get_or-set_same old.own.items at (own_by own now.meaning now.entry) none within))
            (subst (λ k. SlotWaits (own_by own now.meaning now.entry) k (before ++ now ∷ [])) (sym same)
            (own_next n own at before now.meaning now.entry answers is held))
        | inr other ↦
            subst (λ w. SlotWaits w slot (before ++ now ∷ []))
            (sym (ap (λ list. get_or list slot none) items
            ∙ get_or-set_other old.own.items at slot (own_by own now.meaning now.entry) none other))
            (other_next n (get_or old.own.items slot none) slot before now.meaning now.entry answers
            (λ place found same.
            let both : Some at ≡ Some place = sym is ∙ found in
            let places : at ≡ place = cc in
            other (sym same ∙ sym places))
            (waits.each slot none below))
      ];
      all = subst (λ l. AllWait l (before ++ now ∷ [])) (sym load)
          (all_next old.load at own.seen before now.meaning now.entry is held.seen waits.all);
    }

-- a note
noted_next : (n : ℕ) (waits : Course) (slots : ℕ) (before : List LineTold) (meaning : Meaning) (entry : LineEntry)
    → Walks waits slots before → Answers n meaning entry → slot_in meaning ≡ None
    → Walks waits slots (before ++ record { meaning = meaning; entry = entry } ∷ [])
noted_next n waits slots before (note text) entry are answers is = record {
  places = are.places;
  each = λ slot none below. other_next n (get_or waits.own.items slot none) slot before (note text) entry answers
      (λ at found. absurd (nothing at found)) (are.each slot none below);
  all = all_same waits.load before text entry are.all;
}
  where
    nothing : (at : ℕ) → None ≡ Some at → ⊥
    nothing at none = cc
noted_next n waits slots before (command at c) entry are answers is = absurd (something is)
  where
    something : Some at ≡ None → ⊥
    something some = cc
noted_next n waits slots before (packet at p) entry are answers is = absurd (something is)
  where
    something : Some at ≡ None → ⊥
    something some = cc
noted_next n waits slots before (move at slice text) entry are answers is = absurd (something is)
  where
    something : Some at ≡ None → ⊥
    something some = cc

pub walks_same : (n : ℕ) (waits : Course) (slots : ℕ) (before : List LineTold) (now : LineTold)
    → Walks waits slots before → Answers n now.meaning now.entry → slot_in now.meaning ≡ None
    → Walks waits slots (before ++ now ∷ [])
walks_same n waits slots before now are answers is =
    noted_next n waits slots before now.meaning now.entry are answers is

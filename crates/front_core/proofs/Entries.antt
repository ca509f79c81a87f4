-- Entries are filled one after another.
use Rattle.std.proofs.Common.{◌≡◌, ℕ, ◌+◌, ◌==◌, ◌<◌, Bool, true, false, if◌then◌else◌, List, [], ◌∷◌, ◌++◌, drop, length, map, get_or, get_or-set_other, get_or-set_same, set, length-set, refl, sym, ap, subst, ◌∙◌, inl, inr, arith, append_assoc}
use Rattle.std.specs.Prelude.{Option, Some, None, option_to_list, reverse}
use Rattle.std.proofs.lemmas.Bool.{cases_eq, cases_lt, eq-eqb, eqb-true, ne_eqb}
use Rattle.std.proofs.lemmas.List.{drop-map, get_or-map, get_or_past, length-map, map-append}
use Rattle.report_lines.specs.Records.{PacketTold}
use Rattle.report_lines.specs.declared.entry.LineEntry.{LineEntry}
use Rattle.report_lines.specs.declared.entry.LineEntry.TheVariants as line
use Rattle.pc_base.specs.declared.packet.Verdict.TheVariants.{NoBearer}
use Rattle.pc_base.specs.declared.reply.Outcome.TheVariants.{Done}
use Rattle.control_half.specs.declared.items.CommandDone.{CommandDone}
use Rattle.counter_half.specs.declared.items.PacketDone.{PacketDone}
use Rattle.lawful_run.specs.Filling.{Met, Replied, answered_with, fill, judged_with, filled, met_slot, others_of, replied_slot}
use Rattle.lawful_run.specs.Opened.{open_command, open_packet}
use Rattle.front_core.specs.declared.answers.SlotAnswers.{SlotAnswers}
use Rattle.front_core.specs.declared.taken.Taken.{Taken}
use Rattle.front_core.specs.Entries.{open_of, opens_of}
use Rattle.front_core.specs.Filled.{FrontTold, FillsFirst, FillsNext, TakesPacket, TakesReply, entry_told, met_so, mets_at, mets_of, replied_so, replies_at, replies_of, told_of_command, told_of_packet}
use Rattle.front_core.proofs.Popping.{popped, popped_rest}

-- entries told so far, and those that are still to be filled
abbrev pub Fills : List FrontTold → List LineEntry → List SlotAnswers → List LineEntry → Type 0
Fills told rest answers whole = map entry_told told ++ filled rest (replies_at answers) (mets_at answers) ≡ whole

pub fills_next : (told : List FrontTold) (open_ : LineEntry) (rest : List LineEntry) (old new : List SlotAnswers) (now : FrontTold)
    (whole : List LineEntry) → Fills told (open_ ∷ rest) old whole → FillsNext old new open_ now
    → Fills (told ++ now ∷ []) rest new whole
fills_next told open_ rest old new now whole so next =
    let pushed : map entry_told (told ++ now ∷ []) ≡ map entry_told told ++ entry_told now ∷ [] =
    map-append entry_told told (now ∷ []) in
    let others : filled rest (replies_at new) (mets_at new)
    ≡ filled rest (others_of (replied_slot open_) (replies_at old)) (others_of (met_slot open_) (mets_at old)) =
    λ i. filled rest (λ slot. next.replies slot i) (λ slot. next.mets slot i) in
    (λ i. pushed i ++ others i)
    ∙ append_assoc (map entry_told told) (entry_told now ∷ [])
    (filled rest (others_of (replied_slot open_) (replies_at old)) (others_of (met_slot open_) (mets_at old)))
    ∙ ap (λ (e : LineEntry). map entry_told told ++ e ∷ filled rest (others_of (replied_slot open_) (replies_at old))
    (others_of (met_slot open_) (mets_at old))) next.filled_so
    ∙ so

-- the first of the lines that are left
pub fills_more : (told : List FrontTold) (now : FrontTold) (n : ℕ) (old new : List Taken) (before after : List SlotAnswers)
    (whole : List LineEntry) → Fills told (opens_of n (reverse old)) before whole → FillsFirst n old new before after now
    → Fills (told ++ now ∷ []) (opens_of (n + 1) (reverse new)) after whole
fills_more told now n old new before after whole so next =
    fills_next told (open_of n next.taken.open) (opens_of (n + 1) (reverse new)) before after now whole
    (subst (λ (l : List Taken). Fills told (opens_of n l) before whole) next.first so) next.fills

-- lists by slot, where the answers of one slot are others
at_set : {Y : Type 0} (f : SlotAnswers → List Y) (old : List SlotAnswers) (own slot : ℕ) (after : SlotAnswers) → own < length old
    → get_or (map f (set old own after)) slot []
    ≡ (if own == slot then f after else get_or (map f old) slot [])
at_set f old own slot after low =
    let count : length (set old own after) ≡ length old = length-set old own after in
    elim (cases_eq own slot) [
      | inl same ↦
          ap (λ (k : ℕ). get_or (map f (set old own after)) k []) (sym same)
          ∙ get_or-map f (set old own after) own after [] (omega (arith, low, count))
          ∙ ap f (get_or-set_same old own after after low)
          ∙ sym (ap (λ (t : Bool). if t then f after else get_or (map f old) slot []) (eq-eqb own slot same))
      | inr other ↦
          rest own slot after other
          ∙ sym (ap (λ (t : Bool). if t then f after else get_or (map f old) slot []) (ne_eqb own slot other))
    ]
  where
    rest : (own slot : ℕ) (after : SlotAnswers) → (own ≡ slot → ⊥)
        → get_or (map f (set old own after)) slot [] ≡ get_or (map f old) slot []
    rest own slot after other =
        let count : length (set old own after) ≡ length old = length-set old own after in
        elim (cases_lt slot (length old)) [
          | inl less ↦
              get_or-map f (set old own after) slot after [] (omega (arith, less, count))
              ∙ ap f (get_or-set_other old own slot after after (λ same. other (sym same)))
              ∙ sym (get_or-map f old slot after [] less)
          | inr most ↦
              get_or_past (map f (set old own after)) slot []
              (let all = length-map (set old own after) f in omega (arith, most, count, all))
              ∙ sym (get_or_past (map f old) slot [] (let all = length-map old f in omega (arith, most, all)))
        ]

-- the value of one slot alone changes, to what is behind its first one
take_first : {Y : Type 0} (lists now : ℕ → List Y) (own : ℕ) (rest : List Y)
    → ((slot : ℕ) → now slot ≡ (if own == slot then rest else lists slot)) → rest ≡ drop 1 (lists own)
    → (slot : ℕ) → now slot ≡ others_of (Some own) lists slot
take_first lists now own rest is first slot =
    is slot ∙ ap (λ (l : List _). if own == slot then l else lists slot) first ∙ by_test (own == slot) refl
  where
    by_test : (test : Bool) → (own == slot) ≡ test
        → (if test then drop 1 (lists own) else lists slot) ≡ (if test then drop 1 (lists slot) else lists slot)
    by_test true same = ap (λ (k : ℕ). drop 1 (lists k)) (eqb-true own slot same)
    by_test false same = refl

keep_all : {Y : Type 0} (lists now : ℕ → List Y) (own : ℕ)
    → ((slot : ℕ) → now slot ≡ (if own == slot then lists own else lists slot)) → (slot : ℕ) → now slot ≡ lists slot
keep_all lists now own is slot = is slot ∙ by_test (own == slot) refl
  where
    by_test : (test : Bool) → (own == slot) ≡ test → (if test then lists own else lists slot) ≡ lists slot
    by_test true same = ap lists (eqb-true own slot same)
    by_test false same = refl

-- the next reply of a slot was taken, if there was one
module _ (n slot : ℕ) (old : List SlotAnswers) (before after : SlotAnswers) (next : Option CommandDone) (low : slot < length old)
    (found : before ≡ get_or old slot before)
    (first : reverse before.replies.items ≡ option_to_list next ++ reverse after.replies.items)
    (rest : reverse after.replies.items ≡ drop 1 (reverse before.replies.items))
    (packets : after.packets.items ≡ before.packets.items) where
  own_replies : replies_at old slot ≡ replies_of before
  own_replies = get_or-map replies_of old slot before [] low ∙ ap replies_of (sym found)

  own_mets : mets_at old slot ≡ mets_of before
  own_mets = get_or-map mets_of old slot before [] low ∙ ap mets_of (sym found)

  told_so : (it : Option CommandDone) → reverse before.replies.items ≡ option_to_list it ++ reverse after.replies.items
      → reverse after.replies.items ≡ drop 1 (reverse before.replies.items)
      → told_of_command n slot it ≡ fill (open_command n slot true) (replies_at old) (mets_at old)
  told_so None are behind =
      let none : reverse before.replies.items ≡ [] = no_first (reverse before.replies.items) (are ∙ behind) in
      sym (ap (λ (l : List Replied). line.C (answered_with (record {
        line = n;
        slot = slot;
        number = 0;
        reply = record { outcome = Done; message = None };
      }) l)) (own_replies ∙ ap (map replied_so) none))
    where
      no_first : {X : Type 0} (xs : List X) → xs ≡ drop 1 xs → xs ≡ []
      no_first [] same = refl
      no_first (x ∷ xs) same = absurd (let count = ap length same in omega (arith, count))
  told_so (Some done) are behind =
      sym (ap (λ (l : List Replied). line.C (answered_with (record {
        line = n;
        slot = slot;
        number = 0;
        reply = record { outcome = Done; message = None };
      }) l)) (own_replies ∙ ap (map replied_so) are))

  pub fills_command : (now : FrontTold) → entry_told now ≡ told_of_command n slot next
      → FillsNext old (set old slot after) (open_command n slot true) now
  fills_command now is = record {
    filled_so = is ∙ told_so next first rest;
    many = length-set old slot after;
    replies = take_first (replies_at old) (replies_at (set old slot after)) slot (replies_of after)
        (λ k. at_set replies_of old slot k after low)
        (ap (map replied_so) rest ∙ sym (drop-map replied_so 1 (reverse before.replies.items))
        ∙ ap (drop 1) (sym own_replies));
    mets = keep_all (mets_at old) (mets_at (set old slot after)) slot
        (λ k. at_set mets_of old slot k after low
        ∙ ap (λ (l : List Met). if slot == k then l else mets_at old k)
        (ap (λ (l : List PacketDone). map met_so (reverse l)) packets ∙ sym own_mets));
  }

-- the next verdict of a slot was taken, if there was one
module _ (n slot : ℕ) (parked : Bool) (old : List SlotAnswers) (before after : SlotAnswers) (next : Option PacketDone)
    (low : slot < length old) (found : before ≡ get_or old slot before)
    (first : reverse before.packets.items ≡ option_to_list next ++ reverse after.packets.items)
    (rest : reverse after.packets.items ≡ drop 1 (reverse before.packets.items))
    (replies : after.replies.items ≡ before.replies.items) where
  had_replies : replies_at old slot ≡ replies_of before
  had_replies = get_or-map replies_of old slot before [] low ∙ ap replies_of (sym found)

  had_mets : mets_at old slot ≡ mets_of before
  had_mets = get_or-map mets_of old slot before [] low ∙ ap mets_of (sym found)

  abbrev open_told : PacketTold
  open_told = record {
    line = n;
    slot = slot;
    number = 0;
    commands = 0;
    verdict = NoBearer;
    place = None;
    parked = parked;
  }

  judged_so : (it : Option PacketDone) → reverse before.packets.items ≡ option_to_list it ++ reverse after.packets.items
      → reverse after.packets.items ≡ drop 1 (reverse before.packets.items)
      → told_of_packet n slot parked it ≡ fill (open_packet n slot true parked) (replies_at old) (mets_at old)
  judged_so None are behind =
      let none : reverse before.packets.items ≡ [] = no_first (reverse before.packets.items) (are ∙ behind) in
      sym (ap (λ (l : List Met). line.P (judged_with open_told l)) (had_mets ∙ ap (map met_so) none))
    where
      no_first : {X : Type 0} (xs : List X) → xs ≡ drop 1 xs → xs ≡ []
      no_first [] same = refl
      no_first (x ∷ xs) same = absurd (let count = ap length same in omega (arith, count))
  judged_so (Some done) are behind =
      sym (ap (λ (l : List Met). line.P (judged_with open_told l)) (had_mets ∙ ap (map met_so) are))

  pub fills_packet : (now : FrontTold) → entry_told now ≡ told_of_packet n slot parked next
      → FillsNext old (set old slot after) (open_packet n slot true parked) now
  fills_packet now is = record {
    filled_so = is ∙ judged_so next first rest;
    many = length-set old slot after;
    mets = take_first (mets_at old) (mets_at (set old slot after)) slot (mets_of after)
        (λ k. at_set mets_of old slot k after low)
        (ap (map met_so) rest ∙ sym (drop-map met_so 1 (reverse before.packets.items))
        ∙ ap (drop 1) (sym had_mets));
    replies = keep_all (replies_at old) (replies_at (set old slot after)) slot
        (λ k. at_set replies_of old slot k after low
        ∙ ap (λ (l : List Replied). if slot == k then l else replies_at old k)
        (ap (λ (l : List CommandDone). map replied_so (reverse l)) replies ∙ sym had_replies));
  }

-- so the next one of a slot fills an entry
pub takes_command : (n slot : ℕ) (old new : List SlotAnswers) (next : Option CommandDone) (now : FrontTold) → slot < length old
    → TakesReply old new slot next → entry_told now ≡ told_of_command n slot next
    → FillsNext old new (open_command n slot true) now
takes_command n slot old new next now low takes is =
    subst (λ (l : List SlotAnswers). FillsNext old l (open_command n slot true) now) (sym takes.is)
    (fills_command n slot old takes.before takes.after next low takes.found
    (popped takes.before.replies.items takes.after.replies.items next takes.pops.items)
    (popped_rest takes.before.replies.items takes.after.replies.items next takes.pops.items takes.pops.none) takes.same now is)

pub takes_packet : (n slot : ℕ) (parked : Bool) (old new : List SlotAnswers) (next : Option PacketDone) (now : FrontTold)
    → slot < length old → TakesPacket old new slot next → entry_told now ≡ told_of_packet n slot parked next
    → FillsNext old new (open_packet n slot true parked) now
takes_packet n slot parked old new next now low takes is =
    subst (λ (l : List SlotAnswers). FillsNext old l (open_packet n slot true parked) now) (sym takes.is)
    (fills_packet n slot parked old takes.before takes.after next low takes.found
    (popped takes.before.packets.items takes.after.packets.items next takes.pops.items)
    (popped_rest takes.before.packets.items takes.after.packets.items next takes.pops.items takes.pops.none) takes.same now is)

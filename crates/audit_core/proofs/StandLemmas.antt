-- Lines are refused, parked and, on one thread, handled where they may be, with one line more.
use Rattle.std.proofs.Common.{◌≡◌, ℕ, ◌+◌, ◌*◌, ◌≤◌, ◌==◌, ◌&&◌, ◌||◌, ◌⊎◌, nat_le, not, Bool, true, false, IsTrue, Some, None, List, [], ◌∷◌, ◌++◌, length, refl, sym, ap, subst, ◌∙◌, inl, inr, append_assoc, append-nil}
use Rattle.std.specs.Bool.{Decides}
use Rattle.std.specs.List.{All, filter_map, list_all}
use Rattle.std.proofs.lemmas.Bool.{le-leb, leb-true}
use Rattle.std.proofs.lemmas.Bool.Decides.{Decides-eqb}
use Rattle.std.proofs.lemmas.List.Elements.{All-cons, All-head, All-nil, All-tail}
use Rattle.demux.specs.Trace.{Meaning, command, packet, move, note}
use Rattle.report_lines.specs.Records.{PacketTold}
use Rattle.report_lines.specs.declared.entry.LineEntry.{LineEntry}
use Rattle.report_lines.specs.declared.entry.LineEntry.TheVariants as line
use Rattle.report_lines.specs.declared.entry.Refusal.{Refusal}
use Rattle.lawful_run.specs.Accepted.{command_count, packets_accepted}
use Rattle.lawful_run.specs.Answers.{Answers}
use Rattle.lawful_run.specs.Bounds.{MeetsAs, count_in_sequence}
use Rattle.lawful_run.specs.LinesTold.{EachFrom, LineTold}
use Rattle.lawful_run.specs.Merging.{Histories}
use Rattle.lawful_run.specs.Moves.{behind_last_move, is_moved}
use Rattle.lawful_run.specs.Parking.{MayPark, ParkedAs, parked_told}
use Rattle.lawful_run.specs.Refusals.{MayRefuse, RefusedAs, lane_load, slot_by, slot_count}
use Rattle.lawful_run.specs.Setup.{Setup, sliced, solo}
use Rattle.audit_core.specs.FirstLines.{InSequence, MayStand, count_due, due_of}
use Rattle.audit_core.specs.Meant.{slot_in}
use Rattle.audit_core.specs.Setups.{setup_of}
use Rattle.audit_core.specs.Walking.{AllWait, SlotWaits, may_park, may_refuse, may_stand, one_new, waits_due}
use Rattle.audit_core.specs.declared.setup.Setup.{Setup as Given}
use Rattle.audit_core.specs.declared.walking.AcceptedLoad.{AcceptedLoad}
use Rattle.audit_core.specs.declared.walking.Own.{Own}
use Rattle.audit_core.proofs.AnswerLemmas.{both_decide}
use Rattle.audit_core.proofs.WalkLemmas.{slots_with}

-- each line with those before it, and one line more
abbrev Each : (List LineTold → LineTold → Type 0) → List LineTold → List LineTold → Type 0
Each Q before lines = EachFrom (λ prefix now later. Q prefix now) before lines

each_more : (Q : List LineTold → LineTold → Type 0) (before lines : List LineTold) (now : LineTold)
    → Each Q before lines → Q (before ++ lines) now → Each Q before (lines ++ now ∷ [])
each_more Q before [] now each here = (subst (λ prefix. Q prefix now) (append-nil before) here, tt)
each_more Q before (first ∷ lines) now each here = (
  each.0,
  each_more Q (before ++ first ∷ []) lines now each.1
      (subst (λ prefix. Q prefix now) (sym (append_assoc before (first ∷ []) lines)) here),
)

each_last : (Q : List LineTold → LineTold → Type 0) (before lines : List LineTold) (now : LineTold)
    → Each Q before (lines ++ now ∷ []) → Q (before ++ lines) now
each_last Q before [] now each = subst (λ prefix. Q prefix now) (sym (append-nil before)) each.0
each_last Q before (first ∷ lines) now each =
    subst (λ prefix. Q prefix now) (append_assoc before (first ∷ []) lines)
    (each_last Q (before ++ first ∷ []) lines now each.1)

-- a line that may stand behind others
abbrev SequenceAs : Setup → Histories → List LineTold → LineTold → Type 0
SequenceAs solo histories prefix now = MeetsAs solo histories prefix now.entry []
SequenceAs (sliced slices room lane) histories prefix now = Unit {0}

abbrev pub LineStands : Setup → Histories → List LineTold → LineTold → Type 0
LineStands setup histories prefix now =
    RefusedAs setup prefix now now.entry × (ParkedAs prefix now.entry × SequenceAs setup histories prefix now)

meets_any : (histories : Histories) (prefix later : List LineTold) (entry : LineEntry)
    → MeetsAs solo histories prefix entry [] → MeetsAs solo histories prefix entry later
meets_any histories prefix later (line.N noted) meets = tt
meets_any histories prefix later (line.C answered) meets = tt
meets_any histories prefix later (line.P judged) meets = meets
meets_any histories prefix later (line.F refused) meets = tt

any_meets : (histories : Histories) (prefix later : List LineTold) (entry : LineEntry)
    → MeetsAs solo histories prefix entry later → MeetsAs solo histories prefix entry []
any_meets histories prefix later (line.N noted) meets = tt
any_meets histories prefix later (line.C answered) meets = tt
any_meets histories prefix later (line.P judged) meets = meets
any_meets histories prefix later (line.F refused) meets = tt

-- on one thread
abbrev Meets : Histories → List LineTold → LineTold → Type 0
Meets histories prefix now = MeetsAs solo histories prefix now.entry []

in_line : (histories : Histories) (before lines : List LineTold)
    → EachFrom (λ prefix now later. MeetsAs solo histories prefix now.entry later) before lines
    → Each (Meets histories) before lines
in_line histories before [] each = tt
in_line histories before (now ∷ later) each =
    (any_meets histories before later now.entry each.0, in_line histories (before ++ now ∷ []) later each.1)

of_line : (histories : Histories) (before lines : List LineTold) → Each (Meets histories) before lines
    → EachFrom (λ prefix now later. MeetsAs solo histories prefix now.entry later) before lines
of_line histories before [] each = tt
of_line histories before (now ∷ later) each =
    (meets_any histories before later now.entry each.0, of_line histories (before ++ now ∷ []) later each.1)

pub stand_more : (setup : Setup) (histories : Histories) (prefix : List LineTold) (now : LineTold)
    → MayStand setup histories prefix → LineStands setup histories prefix now
    → MayStand setup histories (prefix ++ now ∷ [])
stand_more solo histories prefix now may here = record {
  refusals = each_more (λ f t. RefusedAs solo f t t.entry) [] prefix now may.refusals here.0;
  parking = each_more (λ f t. ParkedAs f t.entry) [] prefix now may.parking here.1.0;
  sequence = of_line histories [] (prefix ++ now ∷ [])
      (each_more (Meets histories) [] prefix now (in_line histories [] prefix may.sequence) here.1.1);
}
stand_more (sliced slices room lane) histories prefix now may here = record {
  refusals = each_more (λ f t. RefusedAs (sliced slices room lane) f t t.entry) [] prefix now may.refusals here.0;
  parking = each_more (λ f t. ParkedAs f t.entry) [] prefix now may.parking here.1.0;
  sequence = tt;
}

pub stand_last : (setup : Setup) (histories : Histories) (prefix : List LineTold) (now : LineTold)
    → MayStand setup histories (prefix ++ now ∷ []) → LineStands setup histories prefix now
stand_last solo histories prefix now may = (
  each_last (λ f t. RefusedAs solo f t t.entry) [] prefix now may.refusals,
  (
    each_last (λ f t. ParkedAs f t.entry) [] prefix now may.parking,
    each_last (Meets histories) [] prefix now (in_line histories [] (prefix ++ now ∷ []) may.sequence),
  ),
)
stand_last (sliced slices room lane) histories prefix now may = (
  each_last (λ f t. RefusedAs (sliced slices room lane) f t t.entry) [] prefix now may.refusals,
  (each_last (λ f t. ParkedAs f t.entry) [] prefix now may.parking, tt),
)

-- what tests decide
either_decides : {P Q : Type 0} (a b : Bool) → Decides a P → Decides b Q → Decides (a || b) (P ⊎ Q)
either_decides true b one other = (λ is. inl (one.0 refl), λ holds. refl)
either_decides false true one other = (λ is. inr (other.0 refl), λ holds. refl)
either_decides false false one other = (
  λ is. inr (other.0 is),
  λ holds. elim holds [ inl p ↦ one.1 p | inr q ↦ other.1 q ],
)

itself : (b : Bool) → Decides b (IsTrue b)
itself b = (λ is. is, λ is. is)

least : (a b : ℕ) → Decides (nat_le a b) (a ≤ b)
least a b = (leb-true a b, le-leb a b)

granted : {P : Type 0} → P → Decides true P
granted p = (λ is. p, λ holds. refl)

never : {P : Type 0} → (P → ⊥) → Decides false P
never none = (λ is. absurd (other is), λ holds. absurd (none holds))
  where
    other : false ≡ true → ⊥
    other is = cc

all_decide : (xs : List Bool) → Decides (list_all (λ (p : Bool). p) xs) (All (λ p. IsTrue p) xs)
all_decide [] = (λ is. All-nil (λ p. IsTrue p), λ all. refl)
all_decide (x ∷ xs) =
    let both = both_decide x (list_all (λ (p : Bool). p) xs) (itself x) (all_decide xs) in (
      λ is. All-cons (λ p. IsTrue p) x xs (both.0 is).0 (both.0 is).1,
      λ all. both.1 (All-head (λ p. IsTrue p) x xs all, All-tail (λ p. IsTrue p) x xs all),
    )

-- a packet is parked where it may be
parks_so : (may parked : Bool) (slot at : ℕ) (prefix : List LineTold) → may ≡ may_park at prefix → slot ≡ at
    → Decides (may || not parked) (MayPark parked slot prefix)
parks_so may false slot at prefix is same = (λ yes. tt, λ holds. either may)
  where
    either : (b : Bool) → (b || true) ≡ true
    either true = refl
    either false = refl
parks_so may true slot at prefix is same =
    subst (λ s. Decides (may || false) (MayPark true s prefix)) (sym same)
    (subst (λ test. Decides test (MayPark true at prefix)) (sym (alone may ∙ is))
    (both_decide (is_moved at prefix) (list_all (λ (p : Bool). p) (filter_map (parked_told at) (behind_last_move at prefix)))
    (itself (is_moved at prefix)) (all_decide (filter_map (parked_told at) (behind_last_move at prefix)))))
  where
    alone : (b : Bool) → (b || false) ≡ b
    alone true = refl
    alone false = refl

-- on one thread a packet has just the commands before it
meets_so : (alone : Bool) (slices room lane commands : ℕ) (histories : Histories) (prefix : List LineTold)
    (now : LineTold) (judged : PacketTold) → now.entry ≡ line.P judged
    → commands ≡ count_in_sequence histories judged.slot prefix
    → Decides (not alone || judged.commands == commands)
    (SequenceAs (setup_of (record { solo = alone; slices = slices; room = room; lane = lane })) histories prefix now)
meets_so false slices room lane commands histories prefix now judged is count = (λ yes. tt, λ holds. refl)
meets_so true slices room lane commands histories prefix now judged is count =
    subst (λ e. Decides (judged.commands == commands) (MeetsAs solo histories prefix e [])) (sym is)
    (subst (λ k. Decides (judged.commands == commands) (judged.commands ≡ k)) count
    (Decides-eqb judged.commands commands))

-- a line that tells nothing of commands
no_sequence : (setup : Setup) (histories : Histories) (prefix : List LineTold) (now : LineTold)
    → MeetsAs solo histories prefix now.entry [] → SequenceAs setup histories prefix now
no_sequence solo histories prefix now meets = meets
no_sequence (sliced slices room lane) histories prefix now meets = tt

-- the numbers that are held are those of the lines
refused_so : (alone : Bool) (slices room lane : ℕ) (of_packet : Bool) (own : Own) (load : AcceptedLoad) (at : ℕ)
    (before : List LineTold) (now : LineTold) → SlotWaits own at before → AllWait load before
    → load.slots + one_new own.seen ≡ slot_count (before ++ now ∷ [])
    → Decides (may_refuse (record { solo = alone; slices = slices; room = room; lane = lane }) of_packet own load)
    (MayRefuse (setup_of (record { solo = alone; slices = slices; room = room; lane = lane })) at of_packet before now)
refused_so true slices room lane of_packet own load at before now waits all slots_is = never (λ none. none)
refused_so false slices room lane true own load at before now waits all slots_is =
    subst (λ test. Decides test (MayRefuse (sliced slices room lane) at true before now))
    (λ i. nat_le lane (sym all.packets i + sym slots_is i + 2 * sym all.moves i)
    || (sym waits.moved i && nat_le room (sym waits.packets i)))
    (either_decides _ _ (least lane (lane_load before now))
    (both_decide _ _ (itself (is_moved at before)) (least room (length (packets_accepted at before)))))
refused_so false slices room lane false own load at before now waits all slots_is =
    subst (λ test. Decides test (MayRefuse (sliced slices room lane) at false before now))
    (λ i. nat_le room (sym waits.commands i)) (least room (command_count at before))

-- the slot and the kind of a refused line are those that its entry tells
as_told : (n at : ℕ) (meaning : Meaning) (refused : Refusal) → Answers n meaning (line.F refused)
    → slot_in meaning ≡ Some at → refused.slot ≡ at
as_told n at (command own c) refused answers is =
    let same : own ≡ at = cc in ap (λ (r : Refusal). r.slot) answers ∙ same
as_told n at (packet own p) refused answers is =
    let same : own ≡ at = cc in ap (λ (r : Refusal). r.slot) answers ∙ same
as_told n at (move own slice text) refused answers is = absurd answers
as_told n at (note text) refused answers is = absurd answers

slot_seen : (n at : ℕ) (meaning : Meaning) (refused : Refusal) → Answers n meaning (line.F refused)
    → slot_in meaning ≡ Some at → slot_by meaning ≡ Some at
slot_seen n at (command own c) refused answers is = is
slot_seen n at (packet own p) refused answers is = is
slot_seen n at (move own slice text) refused answers is = absurd answers
slot_seen n at (note text) refused answers is = absurd answers

judged_own : (n at : ℕ) (meaning : Meaning) (judged : PacketTold) → Answers n meaning (line.P judged)
    → slot_in meaning ≡ Some at → judged.slot ≡ at
judged_own n at (command own c) judged answers is = absurd answers
judged_own n at (packet own p) judged answers is = let same : own ≡ at = cc in answers.1 ∙ same
judged_own n at (move own slice text) judged answers is = absurd answers
judged_own n at (note text) judged answers is = absurd answers

-- a line of a slot
pub line_stands : (setup : Given) (n at commands : ℕ) (own : Own) (load : AcceptedLoad) (histories : Histories)
    (before : List LineTold) (meaning : Meaning) (entry : LineEntry) → SlotWaits own at before → AllWait load before
    → commands ≡ count_in_sequence histories at before → slot_in meaning ≡ Some at → Answers n meaning entry
    → Decides (may_stand setup own load commands entry)
    (LineStands (setup_of setup) histories before (record { meaning = meaning; entry = entry }))
line_stands setup n at commands own load histories before meaning (line.N noted) waits all count is answers =
    let now : LineTold = record { meaning = meaning; entry = line.N noted } in
    granted (tt, (tt, no_sequence (setup_of setup) histories before now tt))
line_stands setup n at commands own load histories before meaning (line.C answered) waits all count is answers =
    let now : LineTold = record { meaning = meaning; entry = line.C answered } in
    granted (tt, (tt, no_sequence (setup_of setup) histories before now tt))
line_stands setup n at commands own load histories before meaning (line.P judged) waits all count is answers =
    let now : LineTold = record { meaning = meaning; entry = line.P judged } in
    let same = judged_own n at meaning judged answers is in
    let both = both_decide (own.may_park || not judged.parked) (not setup.solo || judged.commands == commands)
    (parks_so own.may_park judged.parked judged.slot at before waits.may same)
    (meets_so setup.solo setup.slices setup.room setup.lane commands histories before now judged refl
    (count ∙ ap (λ slot. count_in_sequence histories slot before) (sym same))) in
    (λ yes. (tt, both.0 yes), λ holds. both.1 holds.1)
line_stands setup n at commands own load histories before meaning (line.F refused) waits all count is answers =
    let now : LineTold = record { meaning = meaning; entry = line.F refused } in
    let here = subst (λ slot. Decides (may_refuse setup refused.packet own load)
    (MayRefuse (setup_of setup) slot refused.packet before now)) (sym (as_told n at meaning refused answers is))
    (refused_so setup.solo setup.slices setup.room setup.lane refused.packet own load at before now waits all
    (slots_with load before now at own.seen (slot_seen n at meaning refused answers is) waits.seen all.slots)) in
    (λ yes. (here.0 yes, (tt, no_sequence (setup_of setup) histories before now tt)), λ holds. here.1 holds.0)

-- and what is told of one that mayn't stand
due_so : (alone : Bool) (slices room lane n at commands : ℕ) (histories : Histories) (before : List LineTold)
    (meaning : Meaning) (entry : LineEntry) → commands ≡ count_in_sequence histories at before
    → slot_in meaning ≡ Some at → Answers n meaning entry
    → waits_due (record { solo = alone; slices = slices; room = room; lane = lane }) commands entry
    ≡ due_of (setup_of (record { solo = alone; slices = slices; room = room; lane = lane })) histories before entry
due_so true slices room lane n at commands histories before meaning (line.N noted) count is answers = refl
due_so true slices room lane n at commands histories before meaning (line.C answered) count is answers = refl
due_so true slices room lane n at commands histories before meaning (line.P judged) count is answers =
    let same = judged_own n at meaning judged answers is in
    ap (count_due judged.commands) (count ∙ ap (λ slot. count_in_sequence histories slot before) (sym same))
due_so true slices room lane n at commands histories before meaning (line.F refused) count is answers = refl
due_so false slices room lane n at commands histories before meaning (line.N noted) count is answers = refl
due_so false slices room lane n at commands histories before meaning (line.C answered) count is answers = refl
due_so false slices room lane n at commands histories before meaning (line.P judged) count is answers = refl
due_so false slices room lane n at commands histories before meaning (line.F refused) count is answers = refl

pub due_is : (setup : Given) (n at commands : ℕ) (histories : Histories) (before : List LineTold)
    (meaning : Meaning) (entry : LineEntry) → commands ≡ count_in_sequence histories at before
    → slot_in meaning ≡ Some at → Answers n meaning entry
    → waits_due setup commands entry ≡ due_of (setup_of setup) histories before entry
due_is setup n at commands histories before meaning entry count is answers =
    due_so setup.solo setup.slices setup.room setup.lane n at commands histories before meaning entry count is answers

-- a line of no slot stands anyhow
pub note_stands : (setup : Setup) (n : ℕ) (histories : Histories) (before : List LineTold) (meaning : Meaning)
    (entry : LineEntry) → slot_in meaning ≡ None → Answers n meaning entry
    → LineStands setup histories before (record { meaning = meaning; entry = entry })
note_stands setup n histories before (note text) (line.N noted) is answers =
    (tt, (tt, no_sequence setup histories before (record { meaning = note text; entry = line.N noted }) tt))
note_stands setup n histories before (note text) (line.C answered) is answers = absurd answers
note_stands setup n histories before (note text) (line.P judged) is answers = absurd answers
note_stands setup n histories before (note text) (line.F refused) is answers = absurd answers
note_stands setup n histories before (command own c) entry is answers = absurd (nothing is)
  where
    nothing : Some own ≡ None → ⊥
    nothing some = cc
note_stands setup n histories before (packet own p) entry is answers = absurd (nothing is)
  where
    nothing : Some own ≡ None → ⊥
    nothing some = cc
note_stands setup n histories before (move own slice text) entry is answers = absurd (nothing is)
  where
    nothing : Some own ≡ None → ⊥
    nothing some = cc

-- so do no lines
no_lines : (setup : Setup) (histories : Histories) → InSequence setup histories []
no_lines solo histories = tt
no_lines (sliced slices room lane) histories = tt

pub none_stand : (setup : Setup) (histories : Histories) → MayStand setup histories []
none_stand setup histories = record { refusals = tt; parking = tt; sequence = no_lines setup histories }

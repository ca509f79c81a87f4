-- What holds of each line holds of each slot's lines.
use Rattle.std.proofs.Common.{◌≡◌, ℕ, ◌==◌, Bool, true, false, Some, None, IfSome, List, [], ◌∷◌, ◌++◌, cond, refl, sym, ◌∙◌, subst}
use Rattle.std.proofs.lemmas.Bool.{eqb-true, eq-eqb}
use Rattle.demux.specs.Trace.{Meaning}
use Rattle.report_lines.specs.declared.entry.LineEntry.{LineEntry}
use Rattle.report_lines.specs.declared.entry.LineEntry.TheVariants as line
use Rattle.lawful_run.specs.Bounds.{MeetsBounds, MeetsAs, Rises, count_before, count_in_sequence}
use Rattle.lawful_run.specs.Setup.{solo, sliced}
use Rattle.lawful_run.specs.LinesTold.{LineTold, lines_told, EachFrom}
use Rattle.lawful_run.specs.Merging.{Histories}
use Rattle.lawful_run.specs.Parking.{ParkedBehindMoves, ParkedAs, MayPark, parked_by}
use Rattle.lawful_run.specs.Telling.{command_number, packet_number, commands_told}
use Rattle.audit_core.specs.OfSlot.{Within, LiesWithin, HasAll, ParksWell}
use Rattle.audit_core.specs.Together.{NumbersAreOfSlots, CountsAreOfSlots, InSequenceIsOfSlots, ParkingIsOfSlots}
use Rattle.audit_core.proofs.LineKinds.{told_entries}

-- of one line, by its own slot
own_one : {X : Type 0} (Q : ℕ → X → Type 0) (own slot : ℕ) (x : X) (test : Bool) → (own == slot) ≡ test → Q own x
    → IfSome (cond test (Some x) None) (Q slot)
own_one Q own slot x true same holds = subst (λ s. Q s x) (eqb-true own slot same) holds
own_one Q own slot x false same holds = tt

own_back : {X : Type 0} (Q : ℕ → X → Type 0) (own : ℕ) (x : X) → IfSome (cond (own == own) (Some x) None) (Q own)
    → Q own x
own_back Q own x holds = subst (λ t. IfSome (cond t (Some x) None) (Q own)) (eq-eqb own own refl) holds

-- each line by lines, and by slots and lines
module _ (P : List LineTold → LineTold → List LineTold → Type 0)
    (Q : ℕ → List LineTold → LineTold → List LineTold → Type 0)
    (there : (before : List LineTold) (now : LineTold) (later : List LineTold) → P before now later → (slot : ℕ)
    → Q slot before now later)
    (back : (before : List LineTold) (now : LineTold) (later : List LineTold) → ((slot : ℕ) → Q slot before now later)
    → P before now later) where
  pub each_slot : (before lines : List LineTold) → EachFrom P before lines → (slot : ℕ) → EachFrom (Q slot) before lines
  each_slot before [] each slot = tt
  each_slot before (now ∷ later) each slot =
      (there before now later each.0 slot, each_slot (before ++ now ∷ []) later each.1 slot)

  pub all_slots : (before lines : List LineTold) → ((slot : ℕ) → EachFrom (Q slot) before lines)
      → EachFrom P before lines
  all_slots before [] each = tt
  all_slots before (now ∷ later) each =
      (back before now later (λ slot. (each slot).0), all_slots (before ++ now ∷ []) later (λ slot. (each slot).1))

-- bounds
module _ (slices room lane : ℕ) (start : Histories) where
  bound_there : (before : List LineTold) (m : Meaning) (entry : LineEntry) (later : List LineTold)
      → MeetsAs (sliced slices room lane) start before entry later → (slot : ℕ)
      → IfSome (commands_told slot entry) (Within slot (count_before start slot) before later)
  bound_there before m (line.N noted) later holds slot = tt
  bound_there before m (line.C answered) later holds slot = tt
  bound_there before m (line.P judged) later holds slot =
      own_one (λ s count. Within s (count_before start s) before later count) judged.slot slot judged.commands
      (judged.slot == slot) refl holds
  bound_there before m (line.F refused) later holds slot = tt

  bound_back : (before : List LineTold) (m : Meaning) (entry : LineEntry) (later : List LineTold)
      → ((slot : ℕ) → IfSome (commands_told slot entry) (Within slot (count_before start slot) before later))
      → MeetsAs (sliced slices room lane) start before entry later
  bound_back before m (line.N noted) later holds = tt
  bound_back before m (line.C answered) later holds = tt
  bound_back before m (line.P judged) later holds =
      own_back (λ s count. Within s (count_before start s) before later count) judged.slot judged.commands
      (holds judged.slot)
  bound_back before m (line.F refused) later holds = tt

pub counts_of_slots : CountsAreOfSlots
counts_of_slots slices room lane start first made entries answers =
    let P = MeetsBounds (sliced slices room lane) start in
    let Q = λ (slot : ℕ). LiesWithin slot (count_before start slot) in
    let there = λ (before : List LineTold) (now : LineTold) (later : List LineTold).
    bound_there slices room lane start before now.meaning now.entry later in
    let back = λ (before : List LineTold) (now : LineTold) (later : List LineTold).
    bound_back slices room lane start before now.meaning now.entry later in
    let told = λ (slot : ℕ). told_entries (commands_told slot) first made entries answers in (
      (λ hold. λ slot. record {
        rises = subst (Rises (count_before start slot)) (sym (told slot)) (hold.counts_rise slot);
        within = each_slot P Q there back [] (lines_told made entries) hold.bounds slot;
      }),
      (λ hold. record {
        counts_rise = λ slot. subst (Rises (count_before start slot)) (told slot) (hold slot).rises;
        bounds = all_slots P Q there back [] (lines_told made entries) (λ slot. (hold slot).within);
      }),
    )

-- on one thread
once_there : (start : Histories) (before : List LineTold) (entry : LineEntry) (later : List LineTold)
    → MeetsAs solo start before entry later → (slot : ℕ)
    → IfSome (commands_told slot entry) (λ count. count ≡ count_in_sequence start slot before)
once_there start before (line.N noted) later holds slot = tt
once_there start before (line.C answered) later holds slot = tt
once_there start before (line.P judged) later holds slot =
    own_one (λ s count. count ≡ count_in_sequence start s before) judged.slot slot judged.commands (judged.slot == slot)
    refl holds
once_there start before (line.F refused) later holds slot = tt

once_back : (start : Histories) (before : List LineTold) (entry : LineEntry) (later : List LineTold)
    → ((slot : ℕ) → IfSome (commands_told slot entry) (λ count. count ≡ count_in_sequence start slot before))
    → MeetsAs solo start before entry later
once_back start before (line.N noted) later holds = tt
once_back start before (line.C answered) later holds = tt
once_back start before (line.P judged) later holds =
    own_back (λ s count. count ≡ count_in_sequence start s before) judged.slot judged.commands (holds judged.slot)
once_back start before (line.F refused) later holds = tt

pub in_sequence_of_slots : InSequenceIsOfSlots
in_sequence_of_slots start lines =
    let P = MeetsBounds solo start in
    let Q = λ (slot : ℕ). HasAll slot (count_before start slot) in
    let there =
    λ (before : List LineTold) (now : LineTold) (later : List LineTold). once_there start before now.entry later in
    let back =
    λ (before : List LineTold) (now : LineTold) (later : List LineTold). once_back start before now.entry later in
    ((λ each. each_slot P Q there back [] lines each), (λ each. all_slots P Q there back [] lines each))

-- parking
park_there : (before : List LineTold) (entry : LineEntry) → ParkedAs before entry → (slot : ℕ)
    → IfSome (parked_by slot entry) (λ parked. MayPark parked slot before)
park_there before (line.N noted) holds slot = tt
park_there before (line.C answered) holds slot = tt
park_there before (line.P judged) holds slot =
    own_one (λ s parked. MayPark parked s before) judged.slot slot judged.parked (judged.slot == slot) refl holds
park_there before (line.F refused) holds slot = tt

park_back : (before : List LineTold) (entry : LineEntry)
    → ((slot : ℕ) → IfSome (parked_by slot entry) (λ parked. MayPark parked slot before)) → ParkedAs before entry
park_back before (line.N noted) holds = tt
park_back before (line.C answered) holds = tt
park_back before (line.P judged) holds =
    own_back (λ s parked. MayPark parked s before) judged.slot judged.parked (holds judged.slot)
park_back before (line.F refused) holds = tt

pub parking_of_slots : ParkingIsOfSlots
parking_of_slots lines =
    let there = λ (before : List LineTold) (now : LineTold) (later : List LineTold). park_there before now.entry in
    let back = λ (before : List LineTold) (now : LineTold) (later : List LineTold). park_back before now.entry in (
      (λ each. each_slot ParkedBehindMoves (λ slot. ParksWell slot) there back [] lines each),
      (λ each. all_slots ParkedBehindMoves (λ slot. ParksWell slot) there back [] lines each),
    )

-- numbers
pub numbers_of_slots : NumbersAreOfSlots
numbers_of_slots start first made entries answers = (
  (λ hold. λ slot. record {
    of_commands = told_entries (command_number slot) first made entries answers ∙ hold.command_numbers slot;
    of_packets = told_entries (packet_number slot) first made entries answers ∙ hold.packet_numbers slot;
  }),
  (λ hold. record {
    command_numbers = λ slot. sym (told_entries (command_number slot) first made entries answers)
        ∙ (hold slot).of_commands;
    packet_numbers = λ slot. sym (told_entries (packet_number slot) first made entries answers)
        ∙ (hold slot).of_packets;
  }),
)

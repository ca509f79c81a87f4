-- A lawful run without its places is a lawful run.
use Rattle.std.proofs.Common.{◌≡◌, ℕ, ◌+◌, ◌≤◌, ◌||◌, Bool, true, false, if◌then◌else◌, Option, None, List, [], ◌∷◌, ◌++◌, length, map, refl, sym, ap, ◌∙◌, subst, arith, inl, inr}
use Rattle.std.specs.List.{cons_option, count_by, filter_map}
use Rattle.std.specs.Option.{option_map}
use Rattle.std.proofs.lemmas.List.{map-append}
use Rattle.std.proofs.lemmas.List.Sums.{sum_by-cons}
use Rattle.control_steps.specs.declared.command.CommandKind.{CommandKind}
use Rattle.demux.specs.Trace.{Meaning, command, packet, move, note}
use Rattle.gate_model.specs.Events.{commands_of, packets_of}
use Rattle.gate_model.specs.declared.event.Event.{Event}
use Rattle.report_lines.specs.Text.{line_without_place}
use Rattle.report_lines.specs.declared.entry.LineEntry.{LineEntry}
use Rattle.report_lines.specs.declared.entry.LineEntry.TheVariants as line
use Rattle.lawful_run.specs.Accepted.{Placed, accepted_command, accepted_packet, command_count, command_for, commands_accepted, commands_before, is_refused, packet_for, packets_accepted}
use Rattle.lawful_run.specs.Answers.{Answers, AnswersAll}
use Rattle.lawful_run.specs.Bounds.{MayMeet, MeetsAs, MeetsBounds, Rises, count_before}
use Rattle.lawful_run.specs.LinesTold.{EachFrom, LineTold, lines_told}
use Rattle.lawful_run.specs.Moves.{before_last_move, before_next_move, is_moved, moves}
use Rattle.lawful_run.specs.Merging.{Histories, behind, events_in, merged}
use Rattle.lawful_run.specs.Outcomes as made_of
use Rattle.lawful_run.specs.Parking.{ParkedAs, ParkedBehindMoves}
use Rattle.lawful_run.specs.Refusals.{MayRefuse, RefusedAs, RefusedWhereFull, different, is_move, is_packet, lane_load, slot_of}
use Rattle.lawful_run.specs.Report.{EpochReport}
use Rattle.lawful_run.specs.Run.{AreEpochRuns, IsEpochRun, behind_all, by_slot, events_now, no_events, told_in}
use Rattle.lawful_run.specs.Setup.{Setup, sliced, solo}
use Rattle.lawful_run.specs.Telling.{command_number, commands_told, counted, packet_number, reply_told, verdict_told}
use Rattle.report_laws.specs.Shown.{PlacesMayBeLeftOut, epoch_shown}

-- what is kept of a list, or counted, by a test that a change leaves alone
same_kept : {X Y : Type 0} (f : X → Option Y) (g : X → X) → ((x : X) → f (g x) ≡ f x) → (xs : List X)
    → filter_map f (map g xs) ≡ filter_map f xs
same_kept f g same [] = refl
same_kept f g same (x ∷ xs) = λ i. cons_option (same x i) (same_kept f g same xs i)

abbrev ones : Bool → ℕ
ones test = if test then 1 else 0

same_count : {X : Type 0} (p : X → Bool) (g : X → X) → ((x : X) → p (g x) ≡ p x) → (xs : List X)
    → count_by p (map g xs) ≡ count_by p xs
same_count p g same [] = refl
same_count p g same (x ∷ xs) =
    let one : ones (p (g x)) ≡ ones (p x) = ap ones (same x) in
    omega (
      arith,
      sum_by-cons (λ y. ones (p y)) (g x) (map g xs),
      sum_by-cons (λ y. ones (p y)) x xs,
      one,
      same_count p g same xs,
    )

-- a line without its place
abbrev bare : LineTold → LineTold
bare told = record { meaning = told.meaning; entry = line_without_place told.entry }

told_bare : (made : List Meaning) (entries : List LineEntry)
    → lines_told made (map line_without_place entries) ≡ map bare (lines_told made entries)
told_bare [] entries = refl
told_bare (now ∷ made) [] = refl
told_bare (now ∷ made) (entry ∷ entries) =
    ap (λ rest. record { meaning = now; entry = line_without_place entry } ∷ rest) (told_bare made entries)

-- what is told of it otherwise
refused_bare : (entry : LineEntry) → is_refused (line_without_place entry) ≡ is_refused entry
refused_bare (line.N noted) = refl
refused_bare (line.C answered) = refl
refused_bare (line.P judged) = refl
refused_bare (line.F refused) = refl

count_bare : (entry : LineEntry) → commands_before (line_without_place entry) ≡ commands_before entry
count_bare (line.N noted) = refl
count_bare (line.C answered) = refl
count_bare (line.P judged) = refl
count_bare (line.F refused) = refl

number_bare : (slot : ℕ) (entry : LineEntry) → command_number slot (line_without_place entry) ≡ command_number slot entry
number_bare slot (line.N noted) = refl
number_bare slot (line.C answered) = refl
number_bare slot (line.P judged) = refl
number_bare slot (line.F refused) = refl

packet_bare : (slot : ℕ) (entry : LineEntry) → packet_number slot (line_without_place entry) ≡ packet_number slot entry
packet_bare slot (line.N noted) = refl
packet_bare slot (line.C answered) = refl
packet_bare slot (line.P judged) = refl
packet_bare slot (line.F refused) = refl

commands_bare : (slot : ℕ) (entry : LineEntry) → commands_told slot (line_without_place entry) ≡ commands_told slot entry
commands_bare slot (line.N noted) = refl
commands_bare slot (line.C answered) = refl
commands_bare slot (line.P judged) = refl
commands_bare slot (line.F refused) = refl

reply_bare : (slot : ℕ) (entry : LineEntry) → reply_told slot (line_without_place entry) ≡ reply_told slot entry
reply_bare slot (line.N noted) = refl
reply_bare slot (line.C answered) = refl
reply_bare slot (line.P judged) = refl
reply_bare slot (line.F refused) = refl

verdict_bare : (slot : ℕ) (entry : LineEntry) → verdict_told slot (line_without_place entry) ≡ verdict_told slot entry
verdict_bare slot (line.N noted) = refl
verdict_bare slot (line.C answered) = refl
verdict_bare slot (line.P judged) = refl
verdict_bare slot (line.F refused) = refl

answers_bare : (n : ℕ) (now : Meaning) (entry : LineEntry) → Answers n now entry
    → Answers n now (line_without_place entry)
answers_bare n now (line.N noted) answers = answers
answers_bare n now (line.C answered) answers = answers
answers_bare n (note text) (line.P judged) answers = absurd answers
answers_bare n (move slot slice text) (line.P judged) answers = absurd answers
answers_bare n (command slot c) (line.P judged) answers = absurd answers
answers_bare n (packet slot p) (line.P judged) answers = answers
answers_bare n now (line.F refused) answers = answers

all_bare : (n : ℕ) (made : List Meaning) (entries : List LineEntry) → AnswersAll n made entries
    → AnswersAll n made (map line_without_place entries)
all_bare n [] [] answers = tt
all_bare n [] (entry ∷ entries) answers = absurd answers
all_bare n (now ∷ made) [] answers = absurd answers
all_bare n (now ∷ made) (entry ∷ entries) answers =
    (answers_bare n now entry answers.0, all_bare (n + 1) made entries answers.1)

-- commands and packets of a slot
command_same : (slot : ℕ) (told : LineTold) → accepted_command slot (bare told) ≡ accepted_command slot told
command_same slot told =
    ap (λ refused. if refused then None else command_for slot told.meaning) (refused_bare told.entry)

packet_same : (slot : ℕ) (told : LineTold) → accepted_packet slot (bare told) ≡ accepted_packet slot told
packet_same slot told = λ i.
    if refused_bare told.entry i then None
    else option_map (λ p. record { commands = count_bare told.entry i; packet = p }) (packet_for slot told.meaning)

commands_same : (slot : ℕ) (lines : List LineTold) → commands_accepted slot (map bare lines) ≡ commands_accepted slot lines
commands_same slot lines = same_kept (accepted_command slot) bare (command_same slot) lines

packets_same : (slot : ℕ) (lines : List LineTold) → packets_accepted slot (map bare lines) ≡ packets_accepted slot lines
packets_same slot lines = same_kept (accepted_packet slot) bare (packet_same slot) lines

counts_same : (slot : ℕ) (lines : List LineTold) → command_count slot (map bare lines) ≡ command_count slot lines
counts_same slot lines = ap length (commands_same slot lines)

-- moves
moved_same : (slot : ℕ) (lines : List LineTold) → is_moved slot (map bare lines) ≡ is_moved slot lines
moved_same slot [] = refl
moved_same slot (now ∷ lines) = ap (λ rest. moves slot now || rest) (moved_same slot lines)

kept_if : (test : Bool) (now : LineTold) (one other : List LineTold) → one ≡ map bare other
    → (if test then bare now ∷ one else []) ≡ map bare (if test then now ∷ other else [])
kept_if true now one other same = ap (λ rest. bare now ∷ rest) same
kept_if false now one other same = refl

left_if : (test : Bool) (now : LineTold) (one other : List LineTold) → one ≡ map bare other
    → (if test then [] else bare now ∷ one) ≡ map bare (if test then [] else now ∷ other)
left_if true now one other same = refl
left_if false now one other same = ap (λ rest. bare now ∷ rest) same

last_same : (slot : ℕ) (lines : List LineTold)
    → before_last_move slot (map bare lines) ≡ map bare (before_last_move slot lines)
last_same slot [] = refl
last_same slot (now ∷ lines) =
    ap (λ t. if t then bare now ∷ before_last_move slot (map bare lines) else []) (moved_same slot lines)
    ∙ kept_if (is_moved slot lines) now (before_last_move slot (map bare lines)) (before_last_move slot lines)
    (last_same slot lines)

next_same : (slot : ℕ) (lines : List LineTold)
    → before_next_move slot (map bare lines) ≡ map bare (before_next_move slot lines)
next_same slot [] = refl
next_same slot (now ∷ lines) =
    left_if (moves slot now) now (before_next_move slot (map bare lines)) (before_next_move slot lines)
    (next_same slot lines)

-- bounds
least_same : (slot : ℕ) (before : List LineTold)
    → command_count slot (before_last_move slot (map bare before)) ≡ command_count slot (before_last_move slot before)
least_same slot before =
    ap (command_count slot) (last_same slot before) ∙ counts_same slot (before_last_move slot before)

most_same : (slot : ℕ) (before later : List LineTold)
    → command_count slot (map bare before ++ before_next_move slot (map bare later))
    ≡ command_count slot (before ++ before_next_move slot later)
most_same slot before later =
    ap (λ next. command_count slot (map bare before ++ next)) (next_same slot later)
    ∙ ap (command_count slot) (sym (map-append bare before (before_next_move slot later)))
    ∙ counts_same slot (before ++ before_next_move slot later)

meets_bare : (setup : Setup) (start : Histories) (slot : ℕ) (before later : List LineTold) (count : ℕ)
    → MayMeet setup start slot before later count → MayMeet setup start slot (map bare before) (map bare later) count
meets_bare solo start slot before later count meets = omega (arith, meets, counts_same slot before)
meets_bare (sliced slices room lane) start slot before later count meets = (
  omega (arith, meets.0, least_same slot before),
  omega (arith, meets.1, most_same slot before later),
)

bounds_bare : (setup : Setup) (start : Histories) (before : List LineTold) (entry : LineEntry) (later : List LineTold)
    → MeetsAs setup start before entry later
    → MeetsAs setup start (map bare before) (line_without_place entry) (map bare later)
bounds_bare setup start before (line.N noted) later meets = tt
bounds_bare setup start before (line.C answered) later meets = tt
bounds_bare setup start before (line.P judged) later meets =
    meets_bare setup start judged.slot before later judged.commands meets
bounds_bare setup start before (line.F refused) later meets = tt

-- refusals
load_same : (before : List LineTold) (now : LineTold) → lane_load (map bare before) (bare now) ≡ lane_load before now
load_same before now =
    omega (
      arith,
      same_count (λ (told : LineTold). if is_refused told.entry then false else is_packet told.meaning) bare
          (λ told. ap (λ refused. if refused then false else is_packet told.meaning) (refused_bare told.entry)) before,
      ap different (ap (filter_map slot_of) (sym (map-append bare before (now ∷ [])))
          ∙ same_kept slot_of bare (λ told. refl) (before ++ now ∷ [])),
      same_count (λ (told : LineTold). is_move told.meaning) bare (λ told. refl) before,
    )

may_refuse : (setup : Setup) (slot : ℕ) (of_packet : Bool) (before : List LineTold) (now : LineTold)
    → MayRefuse setup slot of_packet before now → MayRefuse setup slot of_packet (map bare before) (bare now)
may_refuse solo slot of_packet before now may = may
may_refuse (sliced slices room lane) slot true before now (inl full) =
    inl (subst (λ load. lane ≤ load) (sym (load_same before now)) full)
may_refuse (sliced slices room lane) slot true before now (inr parked) = inr (
  subst (λ t. t ≡ true) (sym (moved_same slot before)) parked.0,
  subst (λ n. room ≤ n) (sym (ap length (packets_same slot before))) parked.1,
)
may_refuse (sliced slices room lane) slot false before now may =
    subst (λ n. room ≤ n) (sym (counts_same slot before)) may

refused_full : (setup : Setup) (before : List LineTold) (now : LineTold) (entry : LineEntry)
    → RefusedAs setup before now entry → RefusedAs setup (map bare before) (bare now) (line_without_place entry)
refused_full setup before now (line.N noted) refused = tt
refused_full setup before now (line.C answered) refused = tt
refused_full setup before now (line.P judged) refused = tt
refused_full setup before now (line.F of) refused = may_refuse setup of.slot of.packet before now refused

-- none was parked
unparked : (before : List LineTold) (entry : LineEntry) → ParkedAs before (line_without_place entry)
unparked before (line.N noted) = tt
unparked before (line.C answered) = tt
unparked before (line.P judged) = tt
unparked before (line.F refused) = tt

all_unparked : (prefix lines : List LineTold) → EachFrom ParkedBehindMoves prefix (map bare lines)
all_unparked prefix [] = tt
all_unparked prefix (now ∷ later) = (unparked prefix now.entry, all_unparked (prefix ++ bare now ∷ []) later)

-- what holds of each line
each_bare : (P : List LineTold → LineTold → List LineTold → Type 0)
    → ((before : List LineTold) (now : LineTold) (later : List LineTold) → P before now later
    → P (map bare before) (bare now) (map bare later))
    → (prefix lines : List LineTold) → EachFrom P prefix lines → EachFrom P (map bare prefix) (map bare lines)
each_bare P step prefix [] each = tt
each_bare P step prefix (now ∷ later) each = (
  step prefix now later each.0,
  subst (λ f. EachFrom P f (map bare later)) (map-append bare prefix (now ∷ []))
      (each_bare P step (prefix ++ now ∷ []) later each.1),
)

-- the events of a slot
events_same : (before : List Event) (made : List Meaning) (told : EpochReport) (slot : ℕ)
    → events_in before (told_in made (epoch_shown told)) slot ≡ events_in before (told_in made told) slot
events_same before made told slot =
    let lines = told_bare made told.lines in
    λ i. merged (length (commands_of before)) (length (packets_of before))
    ((ap (commands_accepted slot) lines ∙ commands_same slot (told_in made told)) i)
    ((ap (packets_accepted slot) lines ∙ packets_same slot (told_in made told)) i)

behind_same : (before : Histories) (made : List Meaning) (told : EpochReport)
    → behind before (told_in made (epoch_shown told)) ≡ behind before (told_in made told)
behind_same before made told = λ i slot. before slot ++ events_same (before slot) made told slot i

epoch_bare : (setup : Setup) (slots first : ℕ) (before : Histories) (made : List Meaning) (told : EpochReport)
    → IsEpochRun setup slots first before made told → IsEpochRun setup slots first before made (epoch_shown told)
epoch_bare setup slots first before made told run =
    let lines = told_bare made told.lines in
    let events : (slot : ℕ) → events_now before made (epoch_shown told) slot ≡ events_now before made told slot =
    λ slot. events_same (before slot) made told slot in
    record {
      one_each = all_bare first made told.lines run.one_each;
      command_numbers = λ slot. same_kept (command_number slot) line_without_place (number_bare slot) told.lines
          ∙ run.command_numbers slot
          ∙ ap (λ (cs : List CommandKind). counted (length (commands_of (before slot))) (length cs))
          (sym (ap (commands_accepted slot) lines ∙ commands_same slot (told_in made told)));
      packet_numbers = λ slot. same_kept (packet_number slot) line_without_place (packet_bare slot) told.lines
          ∙ run.packet_numbers slot
          ∙ ap (λ (ps : List Placed). counted (length (packets_of (before slot))) (length ps))
          (sym (ap (packets_accepted slot) lines ∙ packets_same slot (told_in made told)));
      counts_rise = λ slot. subst (Rises (count_before before slot))
          (sym (same_kept (commands_told slot) line_without_place (commands_bare slot) told.lines))
          (run.counts_rise slot);
      bounds = subst (EachFrom (MeetsBounds setup before) []) (sym lines)
          (each_bare (MeetsBounds setup before)
          (λ prefix now later. bounds_bare setup before prefix now.entry later) [] (told_in made told) run.bounds);
      replies = λ slot. same_kept (reply_told slot) line_without_place (reply_bare slot) told.lines ∙ run.replies slot
          ∙ ap (made_of.replies slot (before slot)) (sym (events slot));
      verdicts = λ slot. same_kept (verdict_told slot) line_without_place (verdict_bare slot) told.lines
          ∙ run.verdicts slot ∙ ap (made_of.verdicts slot (before slot)) (sym (events slot));
      effects = run.effects
          ∙ (λ i. by_slot slots (λ slot. made_of.effects slot (before slot) (sym (events slot) i)));
      rows = run.rows ∙ (λ i. by_slot slots (λ slot. made_of.rows slot (before slot) (sym (events slot) i)));
      refusals = subst (EachFrom (RefusedWhereFull setup) []) (sym lines)
          (each_bare (RefusedWhereFull setup) (λ prefix now later. refused_full setup prefix now now.entry) []
          (told_in made told) run.refusals);
      parking = subst (EachFrom ParkedBehindMoves []) (sym lines) (all_unparked [] (told_in made told));
    }

epochs_bare : (setup : Setup) (slots first : ℕ) (before : Histories) (epochs : List (List Meaning))
    (others : List EpochReport) → AreEpochRuns setup slots first before epochs others
    → AreEpochRuns setup slots first before epochs (map epoch_shown others)
epochs_bare setup slots first before [] [] runs = tt
epochs_bare setup slots first before [] (told ∷ others) runs = absurd runs
epochs_bare setup slots first before (made ∷ epochs) [] runs = absurd runs
epochs_bare setup slots first before (made ∷ epochs) (told ∷ others) runs = (
  epoch_bare setup slots first before made told runs.0,
  subst (λ h. AreEpochRuns setup slots (first + length made) h epochs (map epoch_shown others))
      (sym (behind_same before made told))
      (epochs_bare setup slots (first + length made) (behind before (told_in made told)) epochs others runs.1),
)

all_same : (before : Histories) (epochs : List (List Meaning)) (others : List EpochReport)
    → behind_all before epochs (map epoch_shown others) ≡ behind_all before epochs others
all_same before [] others = refl
all_same before (made ∷ epochs) [] = refl
all_same before (made ∷ epochs) (told ∷ others) =
    ap (λ h. behind_all h epochs (map epoch_shown others)) (behind_same before made told)
    ∙ all_same (behind before (told_in made told)) epochs others

pub left_out : PlacesMayBeLeftOut
left_out setup slots made report run =
    let events = all_same no_events made report.epochs in
    record {
      epochs = epochs_bare setup slots 1 no_events made report.epochs run.epochs;
      opens = run.opens ∙ (λ i. by_slot slots (λ slot. made_of.opens slot (sym events i slot)));
    }

-- A note behind an epoch's lines changes nothing that is told of them.
use Rattle.std.proofs.Common.{◌≡◌, ℕ, ◌+◌, Bool, true, false, if◌then◌else◌, List, [], ◌∷◌, ◌++◌, Option, None, filter_map, length, refl, sym, ap, ap₂, subst, ◌∙◌, arith, append-nil, add-zero}
use Rattle.std.proofs.lemmas.List.Elements.{filter_map-append}
use Rattle.std.specs.List.{cons_option}
use Rattle.demux.specs.Trace.{Meaning, note}
use Rattle.gate_model.specs.Events.{commands_of, packets_of}
use Rattle.report_lines.specs.declared.entry.LineEntry.{LineEntry}
use Rattle.report_lines.specs.declared.entry.LineEntry.TheVariants as line
use Rattle.lawful_run.specs.Accepted.{accepted_command, accepted_packet, commands_accepted, packets_accepted}
use Rattle.lawful_run.specs.Answers.{AnswersAll}
use Rattle.lawful_run.specs.Bounds.{MeetsAs, MeetsBounds, Rises, count_before, most_count}
use Rattle.lawful_run.specs.LinesTold.{EachFrom, LineTold, lines_told}
use Rattle.lawful_run.specs.Merging.{Histories, merged}
use Rattle.lawful_run.specs.Moves.{before_next_move, moves}
use Rattle.lawful_run.specs.Noted.{NoteIsLawful, note_entry, with_note}
use Rattle.lawful_run.specs.Outcomes as made_of
use Rattle.lawful_run.specs.Parking.{ParkedBehindMoves}
use Rattle.lawful_run.specs.Refusals.{RefusedWhereFull}
use Rattle.lawful_run.specs.Report.{EpochReport}
use Rattle.lawful_run.specs.Run.{IsEpochRun, by_slot, events_now, told_in}
use Rattle.lawful_run.specs.Setup.{Setup, solo, sliced}
use Rattle.lawful_run.specs.Telling.{command_number, packet_number, commands_told, counted, reply_told, verdict_told}

-- ---- the lines with it behind them

pub answers_noted : (first : ℕ) (made : List Meaning) (entries : List LineEntry) (text : List ℕ)
    → AnswersAll first made entries
    → AnswersAll first (made ++ note text ∷ []) (entries ++ note_entry (first + length made) text ∷ [])
answers_noted first [] [] text all = (ap (λ n. record { line = n; note = text }) (add-zero first), tt)
answers_noted first [] (entry ∷ entries) text all = absurd all
answers_noted first (now ∷ made) [] text all = absurd all
answers_noted first (now ∷ made) (entry ∷ entries) text all = (
  all.0,
  subst (λ n. AnswersAll (first + 1) (made ++ note text ∷ []) (entries ++ note_entry n text ∷ []))
      (omega arith)
      (answers_noted (first + 1) made entries text all.1),
)

told_noted : (first : ℕ) (made : List Meaning) (entries : List LineEntry) (last : LineEntry) (text : List ℕ)
    → AnswersAll first made entries
    → lines_told (made ++ note text ∷ []) (entries ++ last ∷ [])
    ≡ lines_told made entries ++ record { meaning = note text; entry = last } ∷ []
told_noted first [] [] last text all = refl
told_noted first [] (entry ∷ entries) last text all = absurd all
told_noted first (now ∷ made) [] last text all = absurd all
told_noted first (now ∷ made) (entry ∷ entries) last text all =
    ap (λ lines. record { meaning = now; entry = entry } ∷ lines)
    (told_noted (first + 1) made entries last text all.1)

-- a selector that gives nothing of the note
none_more : {X Y : Type 0} (select : X → Option Y) (items : List X) (last : X) → select last ≡ None
    → filter_map select (items ++ last ∷ []) ≡ filter_map select items
none_more select items last none =
    filter_map-append select items (last ∷ []) ∙ ap (λ more. filter_map select items ++ cons_option more []) none
    ∙ append-nil (filter_map select items)

-- what holds of each line, also with the note behind it, and of the note
each_more : (P : List LineTold → LineTold → List LineTold → Type 0) (last : LineTold)
    → ((before : List LineTold) (now : LineTold) (later : List LineTold) → P before now later
    → P before now (later ++ last ∷ []))
    → ((before : List LineTold) → P before last [])
    → (before lines : List LineTold) → EachFrom P before lines → EachFrom P before (lines ++ last ∷ [])
each_more P last grows ends before [] each = (ends before, tt)
each_more P last grows ends before (now ∷ later) each =
    (grows before now later each.0, each_more P last grows ends (before ++ now ∷ []) later each.1)

-- ---- the bounds of a packet before it

module _ (n : ℕ) (text : List ℕ) where
  abbrev noted : LineTold
  noted = record { meaning = note text; entry = note_entry n text }

  chosen : (slot : ℕ) (test : Bool) (now : LineTold) (one other : List LineTold)
      → commands_accepted slot one ≡ commands_accepted slot other
      → commands_accepted slot (if test then [] else now ∷ one) ≡ commands_accepted slot (if test then [] else now ∷ other)
  chosen slot true now one other same = refl
  chosen slot false now one other same = ap (cons_option (accepted_command slot now)) same

  next_noted : (slot : ℕ) (later : List LineTold) → commands_accepted slot (before_next_move slot (later ++ noted ∷ []))
      ≡ commands_accepted slot (before_next_move slot later)
  next_noted slot [] = refl
  next_noted slot (now ∷ later) =
      chosen slot (moves slot now) now (before_next_move slot (later ++ noted ∷ [])) (before_next_move slot later)
      (next_noted slot later)

  most_noted : (histories : Histories) (slot : ℕ) (before later : List LineTold)
      → most_count histories slot before (later ++ noted ∷ []) ≡ most_count histories slot before later
  most_noted histories slot before later =
      ap (λ (cs : _). count_before histories slot + length cs)
      (filter_map-append (accepted_command slot) before (before_next_move slot (later ++ noted ∷ []))
      ∙ ap (λ cs. commands_accepted slot before ++ cs) (next_noted slot later)
      ∙ sym (filter_map-append (accepted_command slot) before (before_next_move slot later)))

  meets_noted : (setup : Setup) (histories : Histories) (before : List LineTold) (entry : LineEntry)
      (later : List LineTold) → MeetsAs setup histories before entry later
      → MeetsAs setup histories before entry (later ++ noted ∷ [])
  meets_noted setup histories before (line.N told) later meets = tt
  meets_noted setup histories before (line.C told) later meets = tt
  meets_noted solo histories before (line.P told) later meets = meets
  meets_noted (sliced slices room lane) histories before (line.P told) later meets =
      (meets.0, omega (arith, meets.1, most_noted histories told.slot before later))
  meets_noted setup histories before (line.F told) later meets = tt

-- ---- the epoch with it

module _ (first : ℕ) (before : Histories) (made : List Meaning) (told : EpochReport) (text : List ℕ)
    (all : AnswersAll first made told.lines) where
  abbrev now_told : List LineTold
  now_told = told_in (made ++ note text ∷ []) (with_note told (first + length made) text)

  abbrev last : LineTold
  last = record { meaning = note text; entry = note_entry (first + length made) text }

  lines_are : now_told ≡ told_in made told ++ last ∷ []
  lines_are = told_noted first made told.lines (note_entry (first + length made) text) text all

  pub commands_noted : (slot : ℕ) → commands_accepted slot now_told ≡ commands_accepted slot (told_in made told)
  commands_noted slot =
      ap (commands_accepted slot) lines_are ∙ none_more (accepted_command slot) (told_in made told) last refl

  pub packets_noted : (slot : ℕ) → packets_accepted slot now_told ≡ packets_accepted slot (told_in made told)
  packets_noted slot =
      ap (packets_accepted slot) lines_are ∙ none_more (accepted_packet slot) (told_in made told) last refl

  pub events_noted : (slot : ℕ)
      → events_now before (made ++ note text ∷ []) (with_note told (first + length made) text) slot
      ≡ events_now before made told slot
  events_noted slot =
      ap₂ (merged (length (commands_of (before slot))) (length (packets_of (before slot))))
      (commands_noted slot) (packets_noted slot)

  pub entry_noted : {Y : Type 0} (select : LineEntry → Option Y)
      → select (note_entry (first + length made) text) ≡ None
      → filter_map select (told.lines ++ note_entry (first + length made) text ∷ []) ≡ filter_map select told.lines
  entry_noted select none = none_more select told.lines (note_entry (first + length made) text) none

  -- what holds of each line holds with it
  each_noted : (P : List LineTold → LineTold → List LineTold → Type 0)
      → ((prefix : List LineTold) (now : LineTold) (later : List LineTold) → P prefix now later
      → P prefix now (later ++ last ∷ []))
      → ((prefix : List LineTold) → P prefix last [])
      → EachFrom P [] (told_in made told) → EachFrom P [] now_told
  each_noted P grows ends each =
      subst (EachFrom P []) (sym lines_are) (each_more P last grows ends [] (told_in made told) each)

  noted_so : (setup : Setup) (slots : ℕ) → IsEpochRun setup slots first before made told
      → IsEpochRun setup slots first before (made ++ note text ∷ []) (with_note told (first + length made) text)
  noted_so setup slots is = record {
    one_each = answers_noted first made told.lines text all;
    command_numbers = λ slot. entry_noted (command_number slot) refl ∙ is.command_numbers slot
        ∙ ap (λ (cs : _). counted (length (commands_of (before slot))) (length cs)) (sym (commands_noted slot));
    packet_numbers = λ slot. entry_noted (packet_number slot) refl ∙ is.packet_numbers slot
        ∙ ap (λ (ps : _). counted (length (packets_of (before slot))) (length ps)) (sym (packets_noted slot));
    counts_rise = λ slot. subst (Rises (count_before before slot)) (sym (entry_noted (commands_told slot) refl))
        (is.counts_rise slot);
    bounds = each_noted (MeetsBounds setup before)
        (λ prefix now later meets. meets_noted (first + length made) text setup before prefix now.entry later meets)
        (λ prefix. tt) is.bounds;
    replies = λ slot. entry_noted (reply_told slot) refl ∙ is.replies slot
        ∙ ap (made_of.replies slot (before slot)) (sym (events_noted slot));
    verdicts = λ slot. entry_noted (verdict_told slot) refl ∙ is.verdicts slot
        ∙ ap (made_of.verdicts slot (before slot)) (sym (events_noted slot));
    effects = is.effects
        ∙ λ i. by_slot slots (λ slot. made_of.effects slot (before slot) (sym (events_noted slot) i));
    rows = is.rows
        ∙ λ i. by_slot slots (λ slot. made_of.rows slot (before slot) (sym (events_noted slot) i));
    refusals = each_noted (RefusedWhereFull setup) (λ prefix now later may. may) (λ prefix. tt) is.refusals;
    parking = each_noted ParkedBehindMoves (λ prefix now later may. may) (λ prefix. tt) is.parking;
  }

pub note_is_lawful : NoteIsLawful
note_is_lawful = λ setup slots first before made told text is.
    noted_so first before made told text is.one_each setup slots is

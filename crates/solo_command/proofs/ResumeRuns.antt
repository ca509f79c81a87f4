-- A run of `resume` on a saved state and a trace behind it.
use Rattle.std.proofs.Common.{◌≡◌, ℕ, ◌+◌, ◌-◌, ◌^◌, ◌<◌, ◌==◌, Bool, true, false, List, [], ◌∷◌, ◌++◌, ◌⊎◌, length, inl, inr, refl, sym, ap, ◌∙◌, subst, arith, append-nil, length-append, take}
use Rattle.std.specs.Prelude.{if◌then◌else◌, nat_le, nat_lt}
use Rattle.std.specs.List.{join_with_byte, slice_split}
use Rattle.std.proofs.lemmas.Bool.Decides.{nat_tests}
use Rattle.std.proofs.lemmas.List.{take_all}
use Rattle.std.proofs.lemmas.List.Splits.{join_with_byte-slice_split}
use Rattle.pc_outside.specs.Faults.{Rises}
use Rattle.pc_outside.specs.Limits.{line_max, newline}
use Rattle.pc_outside.specs.Texts.{Text, Texts, after_lines, ended, texts_of, texts_within}
use Rattle.pc_outside.specs.Texts as texts
use Rattle.pc_outside.specs.InputRead.{HasRead}
use Rattle.pc_outside.proofs.InputTexts.{at_end}
use Rattle.trace_lines.specs.Input.{Input, Stop, input_of, input_within}
use Rattle.trace_lines.specs.Input as input
use Rattle.trace_lines.proofs.InputLemmas as input_lemmas
use Rattle.at_rest.specs.Coming.{latest_behind}
use Rattle.record_codec.specs.Saved.{FileState}
use Rattle.record_codec.specs.StateLaws.{LinesSayOneState, TextsSayTheirStates}
use Rattle.trace_run.specs.Beginnings.{Beginning, input_from, whole_input}
use Rattle.trace_run.specs.Report.{IsBad, IsLong, IsText, ReportsFrom}
use Rattle.trace_run.specs.declared.status.Status.{Status}
use Rattle.trace_run.specs.declared.status.Status.TheVariants as status
use Rattle.lawful_run.specs.Report.{Report}
use Rattle.solo_command.specs.Gateway.{no_subscribers}
use Rattle.solo_command.specs.Reports.{Gives, IsResumed}
use Rattle.solo_command.specs.Law.{ResumedRunsGoOn, ResumedTextsGoOn, TellsAll}
use Rattle.solo_command.specs.Resumes.{HasState, Resumed, ResumesAs, StoppedFirst, begins_at}
use Rattle.solo_command.proofs.LawTexts.{whole_says}
use Rattle.solo_command.proofs.StateLemmas.{none_stopped, one_state}

-- ---- octets that fewer than are looked at, and that say no lines and end, are none

no_rest : (rest : List ℕ) → (texts.rest_texts false rest).lines ≡ [] → (texts.rest_texts false rest).stop ≡ ended
    → rest ≡ []
no_rest [] none ends = refl
no_rest (octet ∷ rest) none ends = by_length (nat_lt line_max (length (octet ∷ rest))) none ends
  where
    by_length : (b : Bool)
        → (if b then texts.stopped texts.long else after_lines ((octet ∷ rest) ∷ []) (texts.stopped ended)).lines ≡ []
        → (if b then texts.stopped texts.long else after_lines ((octet ∷ rest) ∷ []) (texts.stopped ended)).stop ≡ ended
        → octet ∷ rest ≡ []
    by_length true empty over = absurd cc
    by_length false empty over = absurd cc

no_pieces : (pieces : List Text) → (texts.pieces_texts false pieces).lines ≡ []
    → (texts.pieces_texts false pieces).stop ≡ ended → (pieces ≡ []) ⊎ (pieces ≡ [] ∷ [])
no_pieces [] none ends = inl refl
no_pieces (rest ∷ []) none ends = inr (ap (λ (r : Text). r ∷ []) (no_rest rest none ends))
no_pieces (line ∷ next ∷ pieces) none ends = by_length (nat_lt line_max (length line)) none ends
  where
    by_length : (b : Bool)
        → (if b then texts.stopped texts.long
        else after_lines (line ∷ []) (texts.pieces_texts false (next ∷ pieces))).lines ≡ []
        → (if b then texts.stopped texts.long
        else after_lines (line ∷ []) (texts.pieces_texts false (next ∷ pieces))).stop ≡ ended
        → (line ∷ next ∷ pieces ≡ []) ⊎ (line ∷ next ∷ pieces ≡ [] ∷ [])
    by_length true empty over = absurd cc
    by_length false empty over = absurd cc

pub nothing_within : (room : ℕ) (octets : List ℕ) → length octets < room → (texts_within room octets).lines ≡ []
    → (texts_within room octets).stop ≡ ended → octets ≡ []
unfolding texts_within
nothing_within room octets fits none ends =
    let open_ : nat_le room (length octets) ≡ false = grind (arith, nat_tests) in
    let split : List ℕ → List Text = slice_split (λ octet. octet == newline) in
    let is : texts_within room octets ≡ texts.pieces_texts false (split octets) =
    ap (λ b. texts.pieces_texts b (split (take room octets))) open_
    ∙ ap (λ (os : List ℕ). texts.pieces_texts false (split os)) (take_all room octets (omega arith)) in
    elim (no_pieces (split octets) (sym (ap (λ (t : Texts). t.lines) is) ∙ none)
    (sym (ap (λ (t : Texts). t.stop) is) ∙ ends)) [
      | inl empty ↦ sym (join_with_byte-slice_split newline octets) ∙ ap (join_with_byte newline) empty
      | inr one ↦ sym (join_with_byte-slice_split newline octets) ∙ ap (join_with_byte newline) one
    ]

-- ---- what is ahead of the same lines is the same

-- no lines but these are read of the first of two prefixes
lines_left : (done more : List Text) → done ++ more ≡ done → more ≡ []
lines_left [] more same = same
lines_left (text ∷ done) more same =
    lines_left done more (let tails : done ++ more ≡ done = cc in tails)

none_between : (octets ahead next : List ℕ) (room room_next : ℕ) (done : List Text) (extra : List ℕ)
    → length octets < 2 ^ 40 → (read : HasRead octets ahead room done) → (read_next : HasRead octets next room_next done)
    → read_next.gone ≡ read.gone ++ extra → extra ≡ []
none_between octets ahead next room room_next done extra few read read_next longer =
    let lengths : length read_next.gone ≡ length read.gone + length extra =
    ap length longer ∙ length-append read.gone extra in
    let all : length octets ≡ length read_next.gone + length next =
    ap length read_next.parts ∙ length-append read_next.gone next in
    let roomy : 0 < room_next = omega (arith, read_next.taken) in
    let same : after_lines done (texts_within room extra) ≡ after_lines done (texts_within room_next []) =
    sym (read.says extra) ∙ ap texts_of (sym longer) ∙ ap texts_of (sym (append-nil read_next.gone))
    ∙ read_next.says [] in
    let ended_there : texts_within room_next [] ≡ texts.stopped ended = at_end room_next roomy in
    let lines : done ++ (texts_within room extra).lines ≡ done =
    ap (λ (t : Texts). t.lines) same
    ∙ ap (λ (t : Texts). done ++ t.lines) ended_there ∙ append-nil done in
    let stops : (texts_within room extra).stop ≡ ended =
    ap (λ (t : Texts). t.stop) same ∙ ap (λ (t : Texts). t.stop) ended_there in
    nothing_within room extra (omega (arith, read.taken, read_next.taken, lengths, all))
    (lines_left done (texts_within room extra).lines lines) stops

-- two prefixes of a list: one is a prefix of the other
prefixes : (one other rest more : List ℕ) → one ++ rest ≡ other ++ more
    → ((extra : List ℕ) × (other ≡ one ++ extra) × (rest ≡ extra ++ more))
    ⊎ ((extra : List ℕ) × (one ≡ other ++ extra) × (more ≡ extra ++ rest))
prefixes [] other rest more same = inl (other, refl, same)
prefixes (octet ∷ one) [] rest more same = inr (octet ∷ one, refl, sym same)
prefixes (octet ∷ one) (first ∷ other) rest more same =
    let heads : octet ≡ first = cc in
    let tails : one ++ rest ≡ other ++ more = cc in
    elim (prefixes one other rest more tails) [
      | inl parts ↦ inl (
        parts.0,
        ap (λ o. o ∷ other) (sym heads) ∙ ap (λ (os : List ℕ). octet ∷ os) parts.1,
        parts.2,
      )
      | inr parts ↦ inr (
        parts.0,
        ap (λ (os : List ℕ). octet ∷ os) parts.1 ∙ ap (λ o. o ∷ other ++ parts.0) heads,
        parts.2,
      )
    ]

-- the same is ahead, with the same room
pub record AreAheadAlike (ahead next : List ℕ) (room room_next : ℕ) : Type 0 where
  pub octets : ahead ≡ next
  pub rooms : room ≡ room_next

pub one_ahead : (octets ahead next : List ℕ) (room room_next : ℕ) (done : List Text) → length octets < 2 ^ 40
    → HasRead octets ahead room done → HasRead octets next room_next done → AreAheadAlike ahead next room room_next
one_ahead octets ahead next room room_next done few read read_next =
    elim (prefixes read.gone read_next.gone ahead next (sym read.parts ∙ read_next.parts)) [
      | inl parts ↦
          let none : parts.0 ≡ [] =
          none_between octets ahead next room room_next done parts.0 few read read_next parts.1 in
          record {
            octets = parts.2 ∙ ap (λ (os : List ℕ). os ++ next) none;
            rooms =
                let same : length read_next.gone ≡ length read.gone =
                ap length (parts.1 ∙ ap (λ (os : List ℕ). read.gone ++ os) none ∙ append-nil read.gone) in
                omega (arith, read.taken, read_next.taken);
          }
      | inr parts ↦
          let none : parts.0 ≡ [] =
          none_between octets next ahead room_next room done parts.0 few read_next read parts.1 in
          record {
            octets = sym (parts.2 ∙ ap (λ (os : List ℕ). os ++ ahead) none);
            rooms =
                let same : length read.gone ≡ length read_next.gone =
                ap length (parts.1 ∙ ap (λ (os : List ℕ). read_next.gone ++ os) none ∙ append-nil read_next.gone) in
                omega (arith, read.taken, read_next.taken);
          }
    ]

-- ---- a run by its status

-- the status that tells all of an input which stops so
abbrev pub told_as : Stop → Status
told_as (input.bad number why) = status.BadLine
told_as (input.long number) = status.LineLong
told_as input.big = status.TooLong
told_as input.ended = status.Ok

bad_told : (stop : Stop) → IsBad stop → status.BadLine ≡ told_as stop
bad_told (input.bad number why) is = refl
bad_told (input.long number) is = absurd is
bad_told input.big is = absurd is
bad_told input.ended is = absurd is

long_told : (stop : Stop) → IsLong stop → status.LineLong ≡ told_as stop
long_told (input.bad number why) is = absurd is
long_told (input.long number) is = refl
long_told input.big is = absurd is
long_told input.ended is = absurd is

-- a run that told all has the text of a report, and the status of the stop
pub record HasTold (begin : Beginning) (may_have : Input → Report → Type 0) (ending : Status) (octets text : List ℕ) :
    Type 0 where
  pub text_is : IsText may_have false (input_from begin octets) text
  pub ending_is : ending ≡ told_as (input_from begin octets).stop

pub has_told : (begin : Beginning) (may_have : Input → Report → Type 0) (ending : Status) (source_failed : Type 0)
    (octets left text : List ℕ) → TellsAll ending
    → ReportsFrom begin may_have false ending source_failed octets left text
    → HasTold begin may_have ending octets text
has_told begin may_have status.Ok source_failed octets left text tells report = record {
  text_is = report.2;
  ending_is = ap told_as (sym report.0);
}
has_told begin may_have status.Usage source_failed octets left text tells report = absurd tells
has_told begin may_have status.ReadFault source_failed octets left text tells report = absurd tells
has_told begin may_have status.WriteFault source_failed octets left text tells report = absurd tells
has_told begin may_have status.NoMemory source_failed octets left text tells report = absurd tells
has_told begin may_have status.BadLine source_failed octets left text tells report = record {
  text_is = report.1;
  ending_is = bad_told (input_from begin octets).stop report.0;
}
has_told begin may_have status.LineLong source_failed octets left text tells report = record {
  text_is = report.1;
  ending_is = long_told (input_from begin octets).stop report.0;
}
has_told begin may_have status.TooLong source_failed octets left text tells report = record {
  text_is = report.1;
  ending_is = ap told_as (sym report.0);
}
has_told begin may_have status.Refuted source_failed octets left text tells report = absurd tells
has_told begin may_have status.BadCapture source_failed octets left text tells report = absurd tells
has_told begin may_have status.BadState source_failed octets left text tells report = absurd tells
has_told begin may_have status.BadReport source_failed octets left text tells report = absurd tells

-- a run that told all found the state
not_stopped : (ending : Status) (octets left : List ℕ) → HasState octets → TellsAll ending
    → StoppedFirst ending octets left → ⊥
not_stopped status.Ok octets left found tells stopped = stopped
not_stopped status.Usage octets left found tells stopped = tells
not_stopped status.ReadFault octets left found tells stopped = tells
not_stopped status.WriteFault octets left found tells stopped = tells
not_stopped status.NoMemory octets left found tells stopped = tells
not_stopped status.BadLine octets left found tells stopped = stopped
not_stopped status.LineLong octets left found tells stopped = none_stopped octets texts.long found stopped
not_stopped status.TooLong octets left found tells stopped = none_stopped octets texts.big found stopped
not_stopped status.Refuted octets left found tells stopped = tells
not_stopped status.BadCapture octets left found tells stopped = tells
not_stopped status.BadState octets left found tells stopped = tells
not_stopped status.BadReport octets left found tells stopped = tells

pub resumed_of : (ending : Status) (source_failed : Type 0) (octets left text : List ℕ) → HasState octets
    → TellsAll ending → ResumesAs ending source_failed octets left text → Resumed ending source_failed octets left text
resumed_of ending source_failed octets left text found tells (inr resumed) = resumed
resumed_of ending source_failed octets left text found tells (inl stopped) =
    absurd (not_stopped ending octets left found tells stopped.0)

-- what is said behind the state that was found is what the second part says
pub behind_state : (octets behind : List ℕ) (room : ℕ) (lines : List Text) → length octets < 2 ^ 40
    → HasRead octets behind room lines → (found : HasState octets) → found.texts ≡ lines
    → (number least : ℕ)
    → input_within found.room number least found.ahead ≡ input_within room number least behind
behind_state octets behind room lines few read found same_texts number least = elim found.read [
  | inl own ↦
      let alike : AreAheadAlike found.ahead behind found.room room =
      one_ahead octets found.ahead behind found.room room lines few
      (subst (λ (ts : List Text). HasRead octets found.ahead found.room ts) same_texts own) read in
      ap (λ (os : List ℕ). input_within found.room number least os) alike.octets
      ∙ ap (λ n. input_within n number least behind) alike.rooms
  | inr all ↦
      let says : texts_of octets ≡ after_lines lines (texts_within room behind) =
      ap texts_of read.parts ∙ read.says behind in
      let counts : length octets ≡ length read.gone + length behind =
      ap length read.parts ∙ length-append read.gone behind in
      let lines_say : lines ++ (texts_within room behind).lines ≡ lines =
      sym (ap (λ (t : Texts). t.lines) says) ∙ all.1 ∙ same_texts in
      let none : behind ≡ [] =
      nothing_within room behind (omega (arith, read.taken))
      (lines_left lines (texts_within room behind).lines lines_say)
      (sym (ap (λ (t : Texts). t.stop) says) ∙ all.2) in
      let roomy : 0 < room = omega (arith, read.taken) in
      ap (λ (os : List ℕ). input_within found.room number least os) all.0
      ∙ input_lemmas.at_end found.room number least all.3
      ∙ sym (input_lemmas.at_end room number least roomy)
      ∙ ap (λ (os : List ℕ). input_within room number least os) (sym none)
]

pub runs_go_on : TextsSayTheirStates → LinesSayOneState → ResumedTextsGoOn → ResumedRunsGoOn
runs_go_on say one go_on octets behind saved file first ending resumed_ending faults more_faults faults_too
    more_faults_too whole left resumed resumed_left fenced short saved_short left_so small written gives tells reports
    resumed_tells resumes =
    let room = 2 ^ 40 - length saved in
    let read = say file saved behind left_so.kept small written (omega arith) in
    let lengths : length (saved ++ behind) ≡ length saved + length behind = length-append saved behind in
    let state_there : HasState (saved ++ behind) = record {
      file = file;
      texts = read.0;
      ahead = behind;
      room = room;
      read = inl read.1;
      says = read.2;
    } in
    let run = resumed_of resumed_ending (Rises faults_too more_faults_too) (saved ++ behind) resumed_left resumed state_there
    resumed_tells resumes in
    let found = run.state in
    let same = one_state one (saved ++ behind) found state_there in
    let said : input_from (begins_at found.file found.room) found.ahead
    ≡ input_within room (file.lines + 1) file.moment behind =
    behind_state (saved ++ behind) behind room read.0 (omega arith) read.1 found same.0 (found.file.lines + 1)
    found.file.moment
    ∙ ap (λ (f : FileState). input_within room (f.lines + 1) f.moment behind) same.1 in
    let told = has_told (begins_at found.file found.room) (IsResumed 64 found.file) resumed_ending
    (Rises faults_too more_faults_too) found.ahead resumed_left resumed resumed_tells run.report in
    let all = has_told whole_input (Gives 64 no_subscribers) ending (Rises faults more_faults) (octets ++ behind) left
    whole tells reports in
    let resumed_is : IsText (IsResumed 64 file) false (input_within room (file.lines + 1) file.moment behind) resumed =
    subst (λ (f : FileState). IsText (IsResumed 64 f) false (input_within room (file.lines + 1) file.moment behind)
    resumed) same.1
    (subst (λ (i : Input). IsText (IsResumed 64 found.file) false i resumed) said told.text_is) in
    let lines = (input_of octets).lines in
    let next_is : input_within room (file.lines + 1) file.moment behind
    ≡ input_within room (length lines + 1) (latest_behind 0 lines) behind =
    ap (λ n. input_within room (n + 1) file.moment behind) left_so.count
    ∙ ap (λ m. input_within room (length lines + 1) m behind) left_so.moment in
    let stops : (input_of (octets ++ behind)).stop ≡ (input_from (begins_at found.file found.room) found.ahead).stop =
    ap (λ (i : Input). i.stop) (whole_says octets behind room fenced short (omega arith))
    ∙ sym (ap (λ (i : Input). i.stop) (said ∙ next_is)) in (
      all.ending_is ∙ ap told_as stops ∙ sym told.ending_is,
      go_on octets behind saved file first whole resumed fenced short saved_short left_so written
          gives all.text_is resumed_is,
    )

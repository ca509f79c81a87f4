-- The first lines of an epoch that break something, line by line.
use Rattle.std.proofs.Common.{◌≡◌, ◌≢◌, ℕ, zero, suc, ◌+◌, ◌<◌, ◌≤◌, if◌then◌else◌, Bool, true, false, IfNone, IfSome, OnOk, Result, Ok, Err, Option, None, Some, List, [], ◌∷◌, ◌++◌, decimal, length, get_or, take, refl, sym, ap, subst, ◌∙◌, arith, append_assoc}
use Rattle.std.specs.Bool.{Decides}
use Rattle.std.specs.Option.{option_map}
use Rattle.std.specs.declared.alloc.AllocError.{AllocError}
use Rattle.std.proofs.lemmas.List.{get_or-map, length-map, length-take-le}
use Rattle.demux.specs.Trace.{Meaning}
use Rattle.gate_model.specs.Events.{commands_of, packets_of}
use Rattle.report_lines.specs.declared.entry.LineEntry.{LineEntry}
use Rattle.lawful_run.specs.Accepted.{command_count, packets_accepted}
use Rattle.lawful_run.specs.Answers.{Answers}
use Rattle.lawful_run.specs.LinesTold.{LineTold}
use Rattle.lawful_run.specs.Merging.{Histories}
use Rattle.subscriber.specs.Standing.{SubscriberState, commands_met}
use Rattle.at_rest.specs.Meant.{AreStanding}
use Rattle.audit_core.specs.FirstLines.{MayStand, due_of, number_due}
use Rattle.audit_core.specs.Holding.{AreKnownTold, IsKnown}
use Rattle.audit_core.specs.Meant.{line_told, lines_of, slot_in}
use Rattle.audit_core.specs.OfSlot.{AreAnswered}
use Rattle.audit_core.specs.Sentences.{AreNumbered}
use Rattle.audit_core.specs.Setups.{setup_of}
use Rattle.audit_core.specs.Telling.{at_line}
use Rattle.audit_core.specs.Walking.{AllWait, FewBefore, HasWalked, SlotWaits, Walks, may_stand, number_missed, waits_due}
use Rattle.audit_core.specs.Why.{PrefixBreak, NumberBreak, WaitBreak}
use Rattle.audit_core.specs.declared.setup.Setup.{Setup as Given}
use Rattle.audit_core.specs.declared.telling.Break.{Break}
use Rattle.audit_core.specs.declared.told_line.ToldLine.{ToldLine}
use Rattle.audit_core.specs.declared.walking.Course.{Course}
use Rattle.audit_core.specs.declared.walking.AcceptedLoad.{AcceptedLoad}
use Rattle.audit_core.specs.declared.walking.Own.{Own}
use Rattle.audit_core.specs.declared.walking.Walked.{Walked}
use Rattle.audit_core.proofs.NumberSteps.{about_is, about_own, none_about, missed_due, numbers_break, numbers_more}
use Rattle.audit_core.proofs.RestLemmas.{mapped_more}
use Rattle.audit_core.proofs.StandLemmas.{LineStands, due_is, line_stands, none_stand, note_stands, stand_last, stand_more}

-- what is broken first is broken first where more lines come behind
prefix_longer : (P : List LineTold → Type 0) (due : List LineTold → LineEntry → List ℕ) (lines more : List LineTold)
    (found : Break) → PrefixBreak P due lines found → PrefixBreak P due (lines ++ more) found
prefix_longer P due lines more found breaks = record {
  prefix = breaks.prefix;
  now = breaks.now;
  first = record {
    later = breaks.first.later ++ more;
    parts = ap (λ l. l ++ more) breaks.first.parts
        ∙ append_assoc breaks.prefix (breaks.now ∷ breaks.first.later) more;
    holds = breaks.first.holds;
    broken = breaks.first.broken;
  };
  is = breaks.is;
}

-- Of lines so far nothing was found, or the first that breaks it; so it is with one line more.
module _ (P : List LineTold → Type 0) (due : List LineTold → LineEntry → List ℕ) (prefix : List LineTold)
    (now : LineTold) where
  abbrev pub Stepped : Option Break → Type 0
  Stepped new = IfSome new (PrefixBreak P due (prefix ++ now ∷ [])) × IfNone new (P (prefix ++ now ∷ []))

  abbrev pub Breaks : Break → Type 0
  Breaks found = P prefix → (¬ P (prefix ++ now ∷ [])) × (found ≡ at_line now.entry (due prefix now.entry))

  found_new : (found : Option Break) → P prefix → IfNone found (P prefix → P (prefix ++ now ∷ [])) → IfSome found Breaks
      → Stepped found
  found_new None holds more breaks = (tt, more holds)
  found_new (Some found) holds more breaks = (
    record {
      prefix = prefix;
      now = now;
      first = record { later = []; parts = refl; holds = holds; broken = (breaks holds).0 };
      is = (breaks holds).1;
    },
    tt,
  )

  pub stepped : (old new found : Option Break) → (old ≢ None → new ≡ old) → (old ≡ None → new ≡ found)
      → IfSome old (PrefixBreak P due prefix) → IfNone old (P prefix)
      → IfNone found (P prefix → P (prefix ++ now ∷ [])) → IfSome found Breaks → Stepped new
  stepped None new found kept is some none more breaks =
      subst Stepped (sym (is refl)) (found_new found none more breaks)
  stepped (Some one) new found kept is some none more breaks =
      let same : new ≡ Some one = kept (λ no. cc) in
      subst Stepped (sym same) (prefix_longer P due prefix (now ∷ []) one some, tt)

-- numbers
module _ (histories : Histories) (prefix : List LineTold) (now : LineTold) (n at commands packets : ℕ)
    (answers : Answers n now.meaning now.entry) (is : slot_in now.meaning ≡ Some at)
    (commands_are : commands ≡ length (commands_of (histories at)) + command_count at prefix)
    (packets_are : packets ≡ length (packets_of (histories at)) + length (packets_accepted at prefix)) where
  abbrev told_missed : Option ℕ → Option Break
  told_missed missed = option_map (λ due. at_line now.entry (decimal due)) missed

  same_missed : (missed : Option ℕ) → number_missed commands packets now.entry ≡ missed
      → number_missed (length (commands_of (histories at)) + command_count at prefix)
      (length (packets_of (histories at)) + length (packets_accepted at prefix)) now.entry ≡ missed
  same_missed missed missed_is =
      (λ i. number_missed (sym commands_are i) (sym packets_are i) now.entry) ∙ missed_is

  numbers_none : (missed : Option ℕ) → number_missed commands packets now.entry ≡ missed
      → IfNone (told_missed missed) (AreNumbered histories prefix → AreNumbered histories (prefix ++ now ∷ []))
  numbers_none None missed_is =
      numbers_more histories prefix now n answers
      (λ slot about. subst (λ s. number_missed (length (commands_of (histories s)) + command_count s prefix)
      (length (packets_of (histories s)) + length (packets_accepted s prefix)) now.entry ≡ None)
      (sym (about_is now.meaning at slot is about)) (same_missed None missed_is))
  numbers_none (Some due) missed_is = tt

  numbers_some : (missed : Option ℕ) → number_missed commands packets now.entry ≡ missed
      → IfSome (told_missed missed) (Breaks (AreNumbered histories) (number_due histories) prefix now)
  numbers_some None missed_is = tt
  numbers_some (Some due) missed_is = λ are. (
    numbers_break histories prefix now n at due answers (about_own now.meaning at is) (same_missed (Some due) missed_is)
        are,
    ap (at_line now.entry) (missed_due histories prefix n at due now.meaning now.entry answers is
        (same_missed (Some due) missed_is)),
  )

  pub numbers_stepped : (old new : Option Break) → (old ≢ None → new ≡ old)
      → (old ≡ None → new ≡ told_missed (number_missed commands packets now.entry))
      → IfSome old (NumberBreak histories prefix) → IfNone old (AreNumbered histories prefix)
      → Stepped (AreNumbered histories) (number_due histories) prefix now new
  numbers_stepped old new kept found some none =
      stepped (AreNumbered histories) (number_due histories) prefix now old new
      (told_missed (number_missed commands packets now.entry)) kept found some none
      (numbers_none (number_missed commands packets now.entry) refl)
      (numbers_some (number_missed commands packets now.entry) refl)

-- what waits
module _ (setup : Given) (histories : Histories) (prefix : List LineTold) (now : LineTold) where
  waits_none : (stands : Bool) (text : List ℕ) → Decides stands (LineStands (setup_of setup) histories prefix now)
      → IfNone (if stands then None else Some (at_line now.entry text))
      (MayStand (setup_of setup) histories prefix → MayStand (setup_of setup) histories (prefix ++ now ∷ []))
  waits_none true text decides = λ may. stand_more (setup_of setup) histories prefix now may (decides.0 refl)
  waits_none false text decides = tt

  waits_some : (stands : Bool) (text : List ℕ) → Decides stands (LineStands (setup_of setup) histories prefix now)
      → text ≡ due_of (setup_of setup) histories prefix now.entry
      → IfSome (if stands then None else Some (at_line now.entry text))
      (Breaks (MayStand (setup_of setup) histories) (due_of (setup_of setup) histories) prefix now)
  waits_some true text decides is = tt
  waits_some false text decides is = λ may. (
    λ whole.
        let no : false ≡ true = decides.1 (stand_last (setup_of setup) histories prefix now whole) in
        cc,
    ap (at_line now.entry) is,
  )

  pub waits_stepped : (stands : Bool) (text : List ℕ) (old new : Option Break)
      → Decides stands (LineStands (setup_of setup) histories prefix now)
      → text ≡ due_of (setup_of setup) histories prefix now.entry → (old ≢ None → new ≡ old)
      → (old ≡ None → new ≡ (if stands then None else Some (at_line now.entry text)))
      → IfSome old (WaitBreak (setup_of setup) histories prefix) → IfNone old (MayStand (setup_of setup) histories prefix)
      → Stepped (MayStand (setup_of setup) histories) (due_of (setup_of setup) histories) prefix now new
  waits_stepped stands text old new decides is kept found some none =
      stepped (MayStand (setup_of setup) histories) (due_of (setup_of setup) histories) prefix now old new
      (if stands then None else Some (at_line now.entry text)) kept found some none (waits_none stands text decides)
      (waits_some stands text decides is)

-- a line of a slot, walked
pub walked_line : (setup : Given) (histories : Histories) (prefix : List LineTold) (now : LineTold) (old new : Walked)
    (n at commands packets : ℕ) (own : Own) (load : AcceptedLoad) → Answers n now.meaning now.entry
    → slot_in now.meaning ≡ Some at
    → commands ≡ length (commands_of (histories at)) + command_count at prefix
    → packets ≡ length (packets_of (histories at)) + length (packets_accepted at prefix)
    → SlotWaits own at prefix → AllWait load prefix
    → (old.numbers ≢ None → new.numbers ≡ old.numbers)
    → (old.numbers ≡ None → new.numbers
    ≡ option_map (λ due. at_line now.entry (decimal due)) (number_missed commands packets now.entry))
    → (old.waits ≢ None → new.waits ≡ old.waits)
    → (old.waits ≡ None → new.waits ≡ (if may_stand setup own load commands now.entry then None
    else Some (at_line now.entry (waits_due setup commands now.entry))))
    → HasWalked setup histories prefix old → HasWalked setup histories (prefix ++ now ∷ []) new
walked_line setup histories prefix now old new n at commands packets own load answers is commands_are packets_are waits all
    kept_numbers numbers kept_waits found_waits walked =
    let first = numbers_stepped histories prefix now n at commands packets answers is commands_are packets_are
    old.numbers new.numbers kept_numbers numbers walked.numbers_some walked.numbers_none in
    let second = waits_stepped setup histories prefix now (may_stand setup own load commands now.entry)
    (waits_due setup commands now.entry) old.waits new.waits
    (line_stands setup n at commands own load histories prefix now.meaning now.entry waits all commands_are is answers)
    (due_is setup n at commands histories prefix now.meaning now.entry commands_are is answers) kept_waits found_waits
    walked.waits_some walked.waits_none in
    record {
      numbers_some = first.0;
      numbers_none = first.1;
      waits_some = second.0;
      waits_none = second.1;
    }

-- a line of none
note_some : (P : List LineTold → Type 0) (due : List LineTold → LineEntry → List ℕ) (prefix : List LineTold)
    (now : LineTold) (old : Option Break) → IfSome old (PrefixBreak P due prefix)
    → IfSome old (PrefixBreak P due (prefix ++ now ∷ []))
note_some P due prefix now None some = tt
note_some P due prefix now (Some found) some = prefix_longer P due prefix (now ∷ []) found some

note_none : (P : Type 0) (Q : Type 0) (old : Option Break) → (P → Q) → IfNone old P → IfNone old Q
note_none P Q None from none = from none
note_none P Q (Some found) from none = tt

pub walked_note : (setup : Given) (histories : Histories) (prefix : List LineTold) (now : LineTold) (walked : Walked)
    (n : ℕ) → Answers n now.meaning now.entry → slot_in now.meaning ≡ None → HasWalked setup histories prefix walked
    → HasWalked setup histories (prefix ++ now ∷ []) walked
walked_note setup histories prefix now walked n answers is has = record {
  numbers_some = note_some (AreNumbered histories) (number_due histories) prefix now walked.numbers has.numbers_some;
  numbers_none = note_none (AreNumbered histories prefix) (AreNumbered histories (prefix ++ now ∷ [])) walked.numbers
      (numbers_more histories prefix now n answers (λ slot about. absurd (none_about now.meaning slot is about)))
      has.numbers_none;
  waits_some = note_some (MayStand (setup_of setup) histories) (due_of (setup_of setup) histories) prefix now walked.waits
      has.waits_some;
  waits_none = note_none (MayStand (setup_of setup) histories prefix)
      (MayStand (setup_of setup) histories (prefix ++ now ∷ [])) walked.waits
      (λ may. stand_more (setup_of setup) histories prefix now may
      (note_stands (setup_of setup) n histories prefix now.meaning now.entry is answers)) has.waits_none;
}

-- nothing was walked yet
pub walked_none : (setup : Given) (histories : Histories) (walked : Walked) → walked.numbers ≡ None
    → walked.waits ≡ None → HasWalked setup histories [] walked
walked_none setup histories walked numbers waits = record {
  numbers_some = subst (λ found. IfSome found (NumberBreak histories [])) (sym numbers) tt;
  numbers_none = subst (λ found. IfNone found (AreNumbered histories [])) (sym numbers)
      (λ slot. record { of_commands = refl; of_packets = refl });
  waits_some = subst (λ found. IfSome found (WaitBreak (setup_of setup) histories [])) (sym waits) tt;
  waits_none = subst (λ found. IfNone found (MayStand (setup_of setup) histories [])) (sym waits)
      (none_stand (setup_of setup) histories);
}

-- lines, as the program holds them: the slot of one is known, and it has its answer
told_is : (lines : List ToldLine) (i : ℕ) (told : ToldLine) → i < length lines → told ≡ get_or lines i told
    → line_told told ≡ get_or (lines_of lines) i (line_told told)
told_is lines i told within is =
    ap line_told is ∙ sym (get_or-map line_told lines i told (line_told told) within)

told_within : (lines : List ToldLine) (i : ℕ) → i < length lines → i < length (lines_of lines)
told_within lines i within = omega (arith, within, length-map lines line_told)

pub known_at : (slots : ℕ) (lines : List ToldLine) (i : ℕ) (told : ToldLine) → AreKnownTold slots (lines_of lines)
    → i < length lines → told ≡ get_or lines i told → IsKnown slots (line_told told).meaning
known_at slots lines i told known within is =
    subst (λ (t : LineTold). IsKnown slots t.meaning) (sym (told_is lines i told within is))
    (known i (line_told told) (told_within lines i within))

pub known_below : (slots : ℕ) (meaning : Meaning) (at : ℕ) → slot_in meaning ≡ Some at → IsKnown slots meaning
    → at < slots
known_below slots meaning at is known = subst (λ found. IfSome found (λ slot. slot < slots)) is known

pub prefix_more : (lines : List ToldLine) (i : ℕ) (told : ToldLine) → i < length lines → told ≡ get_or lines i told
    → lines_of (take i lines) ++ line_told told ∷ [] ≡ lines_of (take (i + 1) lines)
prefix_more lines i told within is = mapped_more line_told [] lines i told within is

answered_at : (n : ℕ) (lines : List LineTold) (i : ℕ) (d : LineTold) → AreAnswered n lines → i < length lines
    → Answers (n + i) (get_or lines i d).meaning (get_or lines i d).entry
answered_at n [] i d answers within = absurd (omega (arith, within))
answered_at n (now ∷ lines) zero d answers within =
    let number : n ≡ n + 0 = omega arith in
    subst (λ k. Answers k now.meaning now.entry) number answers.0
answered_at n (now ∷ lines) (suc i) d answers within =
    let number : n + 1 + i ≡ n + suc i = omega arith in
    subst (λ k. Answers k (get_or lines i d).meaning (get_or lines i d).entry) number
    (answered_at (n + 1) lines i d answers.1 (omega (arith, within)))

pub answer_of : (lines : List ToldLine) (i : ℕ) (told : ToldLine) (first : ℕ) → i < length lines
    → told ≡ get_or lines i told
    → AreAnswered first (lines_of lines) → Answers (first + i) (line_told told).meaning (line_told told).entry
answer_of lines i told first within is answers =
    subst (λ (t : LineTold). Answers (first + i) t.meaning t.entry) (sym (told_is lines i told within is))
    (answered_at first (lines_of lines) i (line_told told) answers (told_within lines i within))

-- what a slot has behind the lines before
pub own_waits : (course : Course) (slots : ℕ) (before : List LineTold) (at : ℕ) (own : Own) → Walks course slots before
    → at < slots → own ≡ get_or course.own.items at own → SlotWaits own at before
own_waits course slots before at own walks below is =
    subst (λ w. SlotWaits w at before) (sym is) (walks.each at own below)

-- the counts of a subscriber are those of its slot before the epoch
pub stands_at : (subscribers : List SubscriberState) (histories : Histories) (at : ℕ) (one : SubscriberState)
    → AreStanding subscribers histories → at < length subscribers → one ≡ get_or subscribers at one
    → (commands_met one ≡ length (commands_of (histories at))) × (one.packets ≡ length (packets_of (histories at)))
stands_at subscribers histories at one stand below is =
    let there = stand.each at one below in
    (ap commands_met is ∙ there.commands, ap (λ (s : SubscriberState). s.packets) is ∙ there.packets)

-- so many lines
pub length-prefix : (lines : List ToldLine) (i : ℕ) → i ≤ length lines → length (lines_of (take i lines)) ≡ i
length-prefix lines i within = length-map (take i lines) line_told ∙ length-take-le i lines within

pub fewer_before : (subscribers : List SubscriberState) (more some : ℕ) → FewBefore subscribers more → some ≤ more
    → FewBefore subscribers some
fewer_before subscribers more some few low = record {
  commands = λ slot none below. omega (arith, few.commands slot none below, low);
  packets = λ slot none below. omega (arith, few.packets slot none below, low);
}

-- a line of a slot, walked in two steps
pub walked_on : (result : Result Unit AllocError) (setup : Given) (histories : Histories) (prefix : List LineTold)
    (now : LineTold) (old mid new : Walked) (n at commands packets : ℕ) (own : Own) (load : AcceptedLoad)
    → Answers n now.meaning now.entry → slot_in now.meaning ≡ Some at
    → commands ≡ length (commands_of (histories at)) + command_count at prefix
    → packets ≡ length (packets_of (histories at)) + length (packets_accepted at prefix)
    → SlotWaits own at prefix → AllWait load prefix
    → (old.numbers ≢ None → mid.numbers ≡ old.numbers)
    → (old.numbers ≡ None → mid.numbers
    ≡ option_map (λ due. at_line now.entry (decimal due)) (number_missed commands packets now.entry))
    → mid.waits ≡ old.waits
    → OnOk result (new.numbers ≡ mid.numbers)
    → (mid.waits ≢ None → OnOk result (new.waits ≡ mid.waits))
    → (mid.waits ≡ None → OnOk result (new.waits ≡ (if may_stand setup own load commands now.entry then None
    else Some (at_line now.entry (waits_due setup commands now.entry)))))
    → HasWalked setup histories prefix old → OnOk result (HasWalked setup histories (prefix ++ now ∷ []) new)
walked_on (Err e) setup histories prefix now old mid new n at commands packets own load answers is commands_are packets_are
    waits all kept numbers same_waits same_numbers kept_waits found_waits walked = tt
walked_on (Ok done) setup histories prefix now old mid new n at commands packets own load answers is commands_are
    packets_are waits all kept numbers same_waits same_numbers kept_waits found_waits walked =
    walked_line setup histories prefix now old new n at commands packets own load answers is commands_are packets_are waits
    all (λ some. same_numbers ∙ kept some) (λ none. same_numbers ∙ numbers none)
    (λ some. kept_waits (λ none. some (sym same_waits ∙ none)) ∙ same_waits)
    (λ none. found_waits (same_waits ∙ none)) walked

-- A piece each line of which has its entry: what they lead to, as it was walked and played.
use Rattle.std.proofs.Common.{◌≡◌, ℕ, if◌then◌else◌, Bool, true, false, IfNone, IfSome, Option, Some, None, List, [], length, find, refl, sym, ap, ◌∙◌, subst}
use Rattle.report_lines.specs.declared.entry.ChargeEntry.{ChargeEntry}
use Rattle.report_lines.specs.declared.entry.LineEntry.{LineEntry}
use Rattle.lawful_run.specs.LinesTold.{LineTold}
use Rattle.lawful_run.specs.Merging.{behind}
use Rattle.lawful_run.specs.Outcomes.{opens}
use Rattle.lawful_run.specs.Run.{by_slot}
use Rattle.at_rest.specs.Meant.{AreStanding}
use Rattle.subscriber.specs.Standing.{SubscriberState}
use Rattle.audit_core.specs.Entries.{line_entries}
use Rattle.audit_core.specs.Matched.{entries_stood}
use Rattle.audit_core.specs.Meant.{lines_of}
use Rattle.audit_core.specs.Pieces.{BreaksIn, HoldsIn, IsLedIn, IsToldIn, Piece, events_behind, is_elsewhere, opens_asked, opens_behind, told_in}
use Rattle.audit_core.specs.Played.{HasPlayed}
use Rattle.audit_core.specs.Telling.{at_line, dash}
use Rattle.audit_core.specs.Walking.{HasWalked}
use Rattle.audit_core.specs.declared.report.Stood.{Stood}
use Rattle.audit_core.specs.declared.sentence.Sentence.TheVariants as of
use Rattle.audit_core.specs.declared.setup.Setup.{Setup as Given}
use Rattle.audit_core.specs.declared.slots.Played.{Played}
use Rattle.audit_core.specs.declared.telling.Break.{Break}
use Rattle.audit_core.specs.declared.told_line.ToldLine.{ToldLine}
use Rattle.audit_core.specs.declared.walking.Walked.{Walked}

-- an entry of a line of another piece
module _ (own : Piece) (before count : ℕ) (entries : List Stood) (lines_are : own.lines ≡ before)
    (count_is : count ≡ length own.made) (entries_are : entries_stood entries ≡ own.entries) where
  same_find : find (is_elsewhere before count) (line_entries (entries_stood entries))
      ≡ find (is_elsewhere own.lines (length own.made)) (line_entries own.entries)
  same_find = (λ i. find (is_elsewhere (sym lines_are i) (count_is i)) (line_entries (entries_are i)))

  pub outside_some : (place : Option Break)
      → IfSome place (λ found. (now : LineEntry)
      × (find (is_elsewhere before count) (line_entries (entries_stood entries)) ≡ Some now)
      × (found ≡ at_line now dash))
      → IfSome place (BreaksIn own of.Outside)
  outside_some None is = tt
  outside_some (Some found) is = (is.0, sym same_find ∙ is.1, is.2)

  pub outside_none : (place : Option Break)
      → IfNone place (find (is_elsewhere before count) (line_entries (entries_stood entries)) ≡ None)
      → IfNone place (HoldsIn own of.Outside)
  outside_none None is = sym same_find ∙ is
  outside_none (Some found) is = tt

module _ (own : Piece) (setup : Given) (lines : List ToldLine) (entries : List Stood)
    (subscribers : List SubscriberState) (told : IsToldIn own setup lines entries subscribers) where
  pub stands_so : (after : List SubscriberState) → AreStanding after (behind own.before (lines_of lines))
      → AreStanding after (events_behind own)
  stands_so after stands = subst (λ l. AreStanding after (behind own.before l)) told.are stands

  pub asked_so : (last : Bool) (slots : ℕ) (all : List ChargeEntry) → own.last ≡ last → slots ≡ own.slots
      → all ≡ (if last then by_slot slots (λ slot. opens slot (events_behind own slot)) else [])
      → all ≡ opens_asked own
  asked_so last slots all last_is slots_are is =
      is ∙ (λ i. if sym last_is i then by_slot (slots_are i) (λ slot. opens slot (events_behind own slot)) else [])

  pub led_in : (slots n : ℕ) (walked : Walked) (played : Played) (all : List ChargeEntry) → slots ≡ own.slots
      → n ≡ own.slots → HasWalked setup own.before (lines_of lines) walked
      → HasPlayed n own.before (lines_of lines) played → all ≡ opens_asked own
      → IsLedIn own slots setup lines entries walked played all
  led_in slots n walked played all slots_are n_is walks plays opens_are = record {
    setup_is = told.setup_is;
    slots_are = slots_are;
    are = told.are;
    answered = told.answered;
    holds = told.holds;
    entries_are = told.entries_are;
    walks = subst (λ l. HasWalked setup own.before l walked) told.are walks;
    plays = subst (λ k. HasPlayed k own.before (told_in own) played) n_is
        (subst (λ l. HasPlayed n own.before l played) told.are plays);
    opens_are = opens_are;
  }

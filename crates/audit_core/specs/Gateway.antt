-- The fourth sentence: the first reply of a slot in an epoch, or else the first verdict, that isn't the sequential
-- gateway's.
use Rattle.std.specs.Prelude.{◌≡◌, ◌≢◌, ℕ, ◌<◌, ◌⊎◌, Option, Some, None, List, ◌∷◌, ◌++◌, filter_map}
use Rattle.std.specs.Option.{option_map}
use Rattle.pc_base.specs.declared.packet.Verdict.{Verdict}
use Rattle.pc_base.specs.declared.reply.Reply.{Reply}
use Rattle.gate_model.specs.declared.event.Event.{Event}
use Rattle.report_lines.specs.declared.entry.Entry.{Entry}
use Rattle.report_lines.specs.declared.entry.Entry.TheVariants as entry
use Rattle.report_lines.specs.declared.entry.LineEntry.{LineEntry}
use Rattle.report_lines.specs.declared.entry.LineEntry.TheVariants as line
use Rattle.lawful_run.specs.LinesTold.{LineTold}
use Rattle.lawful_run.specs.Merging.{Histories, events_in}
use Rattle.lawful_run.specs.Outcomes as made_of
use Rattle.lawful_run.specs.Telling.{reply_told, verdict_told}
use Rattle.audit_core.specs.Meant.{share}
use Rattle.audit_core.specs.OfSlot.{told_of}
use Rattle.audit_core.specs.Answers.{reply_in, verdict_in}
use Rattle.audit_core.specs.Places.{first_of}
use Rattle.audit_core.specs.Telling.{dash, tells, with_reply, with_verdict}
use Rattle.audit_core.specs.declared.telling.Break.{Break}

-- more were made than are told
abbrev pub none_told : ℕ → Break
none_told slot = record { line = None; slot = Some slot; entry = dash; due = dash }

-- the entry of a command or packet with the reply or verdict that was due
abbrev pub reply_due : LineEntry → Option Reply → Option Entry
reply_due (line.N noted) reply = None
reply_due (line.C answered) reply = option_map (with_reply answered) reply
reply_due (line.P judged) reply = None
reply_due (line.F refused) reply = None

abbrev pub verdict_due : LineEntry → Option Verdict → Option Entry
verdict_due (line.N noted) verdict = None
verdict_due (line.C answered) verdict = None
verdict_due (line.P judged) verdict = option_map (with_verdict judged) verdict
verdict_due (line.F refused) verdict = None

-- Of the lines of a slot: those before this one tell the first of what was made, and it doesn't tell the next.
pub record FirstSaid {X : Type 0} (tell : LineTold → Option X) (due : LineEntry → Option X → Option Entry)
    (made : List X) (lines : List LineTold) (told : Break) : Type 0 where
  pub prefix : List LineTold
  pub now : LineTold
  pub later : List LineTold
  pub said : X
  pub left : List X
  pub parts : lines ≡ prefix ++ now ∷ later
  pub says : tell now ≡ Some said
  pub holds : filter_map tell prefix ++ left ≡ made
  pub broken : first_of left ≢ Some said
  pub is : told ≡ tells (Some (entry.Line now.entry)) (due now.entry (first_of left))

-- a line tells another than the next of what was made
pub record IsOther {X : Type 0} (told : Option X) (made : List X) (next : Option X) : Type 0 where
  pub said : X
  pub says : told ≡ Some said
  pub first : first_of made ≡ next
  pub differs : next ≢ Some said

-- all of them tell the first of what was made, and that isn't all
pub record TooFew {X : Type 0} (slot : ℕ) (made said : List X) (told : Break) : Type 0 where
  pub next : X
  pub left : List X
  pub holds : said ++ next ∷ left ≡ made
  pub is : told ≡ none_told slot

abbrev pub SaidBreak : {X : Type 0} → (LineTold → Option X) → (LineEntry → Option X → Option Entry) → ℕ → List X
    → List LineTold → Break → Type 0
SaidBreak tell due slot made lines told =
    FirstSaid tell due made lines told ⊎ TooFew slot made (filter_map tell lines) told

abbrev pub ReplyBreak : ℕ → List Reply → List LineTold → Break → Type 0
ReplyBreak slot made lines told = SaidBreak reply_in reply_due slot made lines told

abbrev pub VerdictBreak : ℕ → List Verdict → List LineTold → Break → Type 0
VerdictBreak slot made lines told = SaidBreak verdict_in verdict_due slot made lines told

-- replies go before verdicts
abbrev pub AnswerBreak : ℕ → List Reply → List Verdict → List LineTold → Break → Type 0
AnswerBreak slot replies verdicts lines told =
    ReplyBreak slot replies lines told
    ⊎ ((filter_map reply_in lines ≡ replies) × VerdictBreak slot verdicts lines told)

-- of a slot behind its events before
abbrev pub SlotBreak : ℕ → List Event → List LineTold → Break → Type 0
SlotBreak slot before lines told =
    AnswerBreak slot (made_of.replies slot before (events_in before lines slot))
    (made_of.verdicts slot before (events_in before lines slot)) (share slot lines) told

-- replies and verdicts of a slot are those of the gateway
pub record AnswersOf (slot : ℕ) (before : List Event) (all : List LineTold) : Type 0 where
  pub replies : told_of reply_told slot all ≡ made_of.replies slot before (events_in before all slot)
  pub verdicts : told_of verdict_told slot all ≡ made_of.verdicts slot before (events_in before all slot)

-- in the lowest slot of an epoch
pub record IsGatewayBreak (before : Histories) (lines : List LineTold) (told : Break) : Type 0 where
  pub slot : ℕ
  pub below : (other : ℕ) → other < slot → AnswersOf other (before other) lines
  pub first : SlotBreak slot (before slot) lines told

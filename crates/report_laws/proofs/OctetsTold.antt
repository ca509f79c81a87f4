-- And so have the entries that tell it.
use Rattle.std.proofs.Common.{ℕ, ◌+◌, ◌==◌, cond, Option, None, Some, List, [], ◌∷◌, ◌++◌, length, map, sym, subst}
use Rattle.std.specs.List.{All, cons_option, filter_map, flat_map}
use Rattle.std.proofs.lemmas.List.Elements.{All-append, All-cons, All-head, All-map, All-nil, All-tail}
use Rattle.demux.specs.Trace.{Meaning}
use Rattle.gate_model.specs.Events.{commands_of}
use Rattle.gate_model.specs.SlotPast.{effects_after, reply_after, verdict_after}
use Rattle.gate_model.specs.declared.event.Event.{Event}
use Rattle.gate_model.specs.declared.event.Event.TheVariants as event
use Rattle.pc_base.specs.declared.packet.Verdict.{Verdict}
use Rattle.pc_base.specs.declared.reply.Reply.{Reply}
use Rattle.report_lines.specs.Records.{Effected, KeepsEffect, KeepsReply, KeepsVerdict}
use Rattle.report_lines.specs.declared.entry.ChargeEntry.{ChargeEntry}
use Rattle.report_lines.specs.declared.entry.Entry.TheVariants as entry
use Rattle.report_lines.specs.declared.entry.LineEntry.{LineEntry}
use Rattle.report_lines.specs.declared.entry.LineEntry.TheVariants as line
use Rattle.lawful_run.specs.Merging.{Histories, behind}
use Rattle.lawful_run.specs.Outcomes as made_of
use Rattle.lawful_run.specs.Report.{EpochReport, epoch_entries}
use Rattle.lawful_run.specs.Run.{AreEpochRuns, IsEpochRun, events_now, no_events, told_in}
use Rattle.lawful_run.specs.Setup.{Setup}
use Rattle.lawful_run.specs.Telling.{reply_told, verdict_told}
use Rattle.lawful_run.proofs.SlotCases.{eqb_same}
use Rattle.report_laws.specs.Octets.{HasItsOctets, LineHasOctets, ToldHaveOctets}
use Rattle.report_laws.proofs.HeldTold.{all_by_slot}
use Rattle.lawful_run.proofs.Octets.{effects_some, reply_some, verdict_some}

replies_have : (slot : ℕ) (before events : List Event) → All KeepsReply (made_of.replies slot before events)
replies_have slot before [] = All-nil KeepsReply
replies_have slot before (event.Command c ∷ events) =
    All-cons KeepsReply (reply_after slot before c) (made_of.replies slot (before ++ event.Command c ∷ []) events)
    (reply_some slot before c) (replies_have slot (before ++ event.Command c ∷ []) events)
replies_have slot before (event.Packet p ∷ events) = replies_have slot (before ++ event.Packet p ∷ []) events

verdicts_have : (slot : ℕ) (before events : List Event) → All KeepsVerdict (made_of.verdicts slot before events)
verdicts_have slot before [] = All-nil KeepsVerdict
verdicts_have slot before (event.Command c ∷ events) = verdicts_have slot (before ++ event.Command c ∷ []) events
verdicts_have slot before (event.Packet p ∷ events) =
    All-cons KeepsVerdict (verdict_after slot before p) (made_of.verdicts slot (before ++ event.Packet p ∷ []) events)
    (verdict_some slot before p) (verdicts_have slot (before ++ event.Packet p ∷ []) events)

abbrev EffectHas : Effected → Type 0
EffectHas effected = KeepsEffect effected.effect

effects_have : (slot : ℕ) (before events : List Event) → All EffectHas (made_of.effects slot before events)
effects_have slot before [] = All-nil EffectHas
effects_have slot before (event.Command c ∷ events) =
    All-append EffectHas (map (made_of.effect_entry slot (length (commands_of before))) (effects_after slot before c))
    (made_of.effects slot (before ++ event.Command c ∷ []) events)
    (All-map EffectHas (made_of.effect_entry slot (length (commands_of before))) (effects_after slot before c)
    (effects_some slot before c)) (effects_have slot (before ++ event.Command c ∷ []) events)
effects_have slot before (event.Packet p ∷ events) = effects_have slot (before ++ event.Packet p ∷ []) events

-- what holds of all that entries tell of each slot holds of each entry
less : {X : Type 0} (P : X → Type 0) (one : Option X) (xs : List X) → All P (cons_option one xs) → All P xs
less P None xs all = all
less P (Some x) xs all = All-tail P x xs all

own_reply : (reply : Reply) (slot : ℕ) (rest : List Reply)
    → All KeepsReply (cons_option (cond (slot == slot) (Some reply) None) rest) → KeepsReply reply
own_reply reply slot rest all =
    All-head KeepsReply reply rest
    (subst (λ t. All KeepsReply (cons_option (cond t (Some reply) None) rest)) (eqb_same slot) all)

own_verdict : (verdict : Verdict) (slot : ℕ) (rest : List Verdict)
    → All KeepsVerdict (cons_option (cond (slot == slot) (Some verdict) None) rest) → KeepsVerdict verdict
own_verdict verdict slot rest all =
    All-head KeepsVerdict verdict rest
    (subst (λ t. All KeepsVerdict (cons_option (cond t (Some verdict) None) rest)) (eqb_same slot) all)

line_has : (now : LineEntry) (lines : List LineEntry)
    → ((slot : ℕ) → All KeepsReply (filter_map (reply_told slot) (now ∷ lines)))
    → ((slot : ℕ) → All KeepsVerdict (filter_map (verdict_told slot) (now ∷ lines))) → LineHasOctets now
line_has (line.N noted) lines replies verdicts = tt
line_has (line.C answered) lines replies verdicts =
    own_reply answered.reply answered.slot (filter_map (reply_told answered.slot) lines) (replies answered.slot)
line_has (line.P judged) lines replies verdicts =
    own_verdict judged.verdict judged.slot (filter_map (verdict_told judged.slot) lines) (verdicts judged.slot)
line_has (line.F refused) lines replies verdicts = tt

lines_have : (lines : List LineEntry) → ((slot : ℕ) → All KeepsReply (filter_map (reply_told slot) lines))
    → ((slot : ℕ) → All KeepsVerdict (filter_map (verdict_told slot) lines)) → All LineHasOctets lines
lines_have [] replies verdicts = All-nil LineHasOctets
lines_have (now ∷ lines) replies verdicts =
    All-cons LineHasOctets now lines (line_has now lines replies verdicts)
    (lines_have lines
    (λ slot. less KeepsReply (reply_told slot now) (filter_map (reply_told slot) lines) (replies slot))
    (λ slot. less KeepsVerdict (verdict_told slot now) (filter_map (verdict_told slot) lines) (verdicts slot)))

charges_have : (charges : List ChargeEntry) → All HasItsOctets (map entry.Charge charges)
charges_have charges = All-map HasItsOctets entry.Charge charges (λ k d within. tt)

epoch_has : (setup : Setup) (slots first : ℕ) (before : Histories) (made : List Meaning) (told : EpochReport)
    → IsEpochRun setup slots first before made told → All HasItsOctets (epoch_entries told)
epoch_has setup slots first before made told run =
    let now : ℕ → List Event = λ slot. events_now before made told slot in
    All-append HasItsOctets (map entry.Line told.lines) (map entry.Effect told.effects ++ map entry.Charge told.rows)
    (All-map HasItsOctets entry.Line told.lines (lines_have told.lines
    (λ slot. subst (All KeepsReply) (sym (run.replies slot)) (replies_have slot (before slot) (now slot)))
    (λ slot. subst (All KeepsVerdict) (sym (run.verdicts slot)) (verdicts_have slot (before slot) (now slot)))))
    (All-append HasItsOctets (map entry.Effect told.effects) (map entry.Charge told.rows)
    (All-map HasItsOctets entry.Effect told.effects
    (subst (All EffectHas) (sym run.effects)
    (all_by_slot EffectHas (λ slot. made_of.effects slot (before slot) (now slot)) 0 slots
    (λ slot. effects_have slot (before slot) (now slot)))))
    (charges_have told.rows))

epochs_have : (setup : Setup) (slots first : ℕ) (before : Histories) (epochs : List (List Meaning))
    (others : List EpochReport) → AreEpochRuns setup slots first before epochs others
    → All HasItsOctets (flat_map epoch_entries others)
epochs_have setup slots first before [] [] runs = All-nil HasItsOctets
epochs_have setup slots first before [] (told ∷ others) runs = absurd runs
epochs_have setup slots first before (made ∷ epochs) [] runs = absurd runs
epochs_have setup slots first before (made ∷ epochs) (told ∷ others) runs =
    All-append HasItsOctets (epoch_entries told) (flat_map epoch_entries others)
    (epoch_has setup slots first before made told runs.0)
    (epochs_have setup slots (first + length made) (behind before (told_in made told)) epochs others runs.1)

pub told_have_octets : ToldHaveOctets
told_have_octets setup slots made report run =
    All-append HasItsOctets (flat_map epoch_entries report.epochs) (map entry.Charge report.opens)
    (epochs_have setup slots 1 no_events made report.epochs run.epochs) (charges_have report.opens)

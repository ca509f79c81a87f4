-- What `solo` wrote is the report of the sequential run.
use Rattle.std.proofs.Common.{◌≡◌, ℕ, ◌<◌, List, [], ◌∷◌, ◌++◌, sym, ap, subst, ◌∙◌}
use Rattle.trace_lines.specs.Input.{input_of}
use Rattle.report_lines.specs.declared.entry.LineEntry.{LineEntry}
use Rattle.lawful_run.specs.Report.{Report}
use Rattle.lawful_run.specs.Setup.{solo}
use Rattle.lawful_run.specs.Trace.{answered_report, epochs_told, slots_of}
use Rattle.lawful_run.proofs.OneRun.{run_is_one}
use Rattle.solo_command.specs.Report.{slices}
use Rattle.report_laws.specs.Parts.{bad_noted, in_lockstep, others_of, next_of}
use Rattle.report_laws.specs.Solo.{SoloWrote, SoloTellsTheSame, SoloInEachEpoch, SoloPartsTellAll}
use Rattle.report_laws.specs.Told.{TellTheSame, epoch_of, in_one, only, opens_of, report_of}
use Rattle.report_laws.proofs.Cuts.{nor_in_any_epoch}
use Rattle.report_laws.proofs.Lockstep.{parts_tell_all}
use Rattle.report_laws.proofs.PartLemmas.{AllBelow, parts_below}
use Rattle.report_laws.proofs.Same.{neighbours_change_nothing}

report_is : (octets text : List ℕ) (report : Report) → SoloWrote octets text report
    → report ≡ answered_report solo (input_of octets)
report_is octets text report wrote =
    run_is_one solo (slots_of (input_of octets)) (epochs_told slices (input_of octets)) report wrote.allowed.lawful
    wrote.allowed.in_sequence

pub solo_tells_the_same : SoloTellsTheSame
solo_tells_the_same own octets others text also report other wrote also_wrote alike =
    subst (TellTheSame own report) (sym (report_is others also other also_wrote))
    (subst (λ r. TellTheSame own r (answered_report solo (input_of others))) (sym (report_is octets text report wrote))
    (neighbours_change_nothing own solo (input_of octets) (input_of others) alike))

pub solo_in_each_epoch : SoloInEachEpoch
solo_in_each_epoch own octets others text also report other wrote also_wrote alike ends =
    ap (report_of own) (report_is octets text report wrote)
    ∙ nor_in_any_epoch own solo (input_of octets) (input_of others) alike ends
    ∙ ap (report_of own) (sym (report_is others also other also_wrote))

-- lists that are the same for each part are so in lockstep
same_in_step : (count : ℕ) (parts : List ℕ) (told other : ℕ → List LineEntry) → AllBelow count parts
    → ((part : ℕ) → part < count → told part ≡ other part) → in_lockstep parts told ≡ in_lockstep parts other
same_in_step count [] told other below same = λ i. []
same_in_step count (part ∷ parts) told other below same =
    let now = ap next_of (same part below.0) in
    let later = same_in_step count parts (λ k. others_of (told k)) (λ k. others_of (other k)) below.1
    (λ k among. ap others_of (same k among)) in
    λ i. now i ++ later i

pub solo_parts_tell_all : SoloPartsTellAll
solo_parts_tell_all part_of count parts octets text report traces texts reports wrote each cut =
    let all = parts_tell_all part_of count parts solo (input_of octets) (λ part. input_of (traces part)) cut in
    let whole = report_is octets text report wrote in
    let is : (part : ℕ) → part < count → reports part ≡ answered_report solo (input_of (traces part)) =
    λ part among. report_is (traces part) (texts part) (reports part) (each part among) in
    record {
      lines = ap (λ r. (in_one r).lines) whole ∙ all.lines
          ∙ ap (λ (lines : List LineEntry). lines ++ bad_noted (input_of octets))
          (same_in_step count parts (λ part. (in_one (answered_report solo (input_of (traces part)))).lines)
          (λ part. (in_one (reports part)).lines)
          (parts_below part_of count slices [] (input_of octets).lines parts cut.meant)
          (λ part among. ap (λ r. (in_one r).lines) (sym (is part among))));
      each = λ slot. ap (λ r. epoch_of (only slot) (in_one r)) whole ∙ all.each slot
          ∙ ap (λ r. epoch_of (only slot) (in_one r)) (sym (is (part_of slot) (cut.within slot)));
      opens = λ slot. ap (opens_of (only slot)) whole ∙ all.opens slot
          ∙ ap (opens_of (only slot)) (sym (is (part_of slot) (cut.within slot)));
    }

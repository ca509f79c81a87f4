use Rattle.std.proofs.Common.{List, Option, ℕ, ◌∙◌, subst, sym}
use Rattle.pc_outside.specs.WhereTold.{WhereTold}
use Rattle.trace_run.specs.Lines.{Reached}
use Rattle.trace_run.specs.declared.ending.Ending.{Ending}
use Rattle.trace_run.specs.declared.status.Status.{Status}
use Rattle.save_command.specs.Saves.{Wrote}
use Rattle.save_command.proofs.SaveLemmas.{at_read, never_read, never_usage, saves_cut, saves_nothing, saves_whole, usage_never, write_never}
use Rattle.save_command.proofs.run.save.Goals as goal

pub returns-in-Ended-clause-saves : goal.returns-in-Ended-clause-saves
returns-in-Ended-clause-saves g c =
    let end = c.in-Ok.ensures.ended in
    let start = g.S.Source.left c.args.source.now in
    let left = g.S.Source.left c.run_lines.new.source in
    let new = g.K.Sink.written c.write_file.new.sink in
    saves_whole c.write_file.result start left (g.K.Sink.written c.args.sink.now) new end.done
    (subst (λ (e : Ending). WhereTold start left (λ octets rest. Reached e octets rest end.done)) c.in-Ended.is
    end.reached)
    (subst (λ (old : Option (List ℕ)). Wrote c.write_file.result end.done old new) end.stands.2
    (c.write_file.ensures.wrote end.done end.latest end.stands.0 end.few))

pub returns-in-Ended-clause-no_usage : goal.returns-in-Ended-clause-no_usage
returns-in-Ended-clause-no_usage g c = λ is.
    let end = c.in-Ok.ensures.ended in
    let old = g.K.Sink.written c.run_lines.new.sink in
    let new = g.K.Sink.written c.write_file.new.sink in
    never_usage end.done old new
    (subst (λ (s : Status). Wrote s end.done old new) is
    (c.write_file.ensures.wrote end.done end.latest end.stands.0 end.few))

pub returns-in-Ended-clause-read_fault : goal.returns-in-Ended-clause-read_fault
returns-in-Ended-clause-read_fault g c = λ is.
    let end = c.in-Ok.ensures.ended in
    let old = g.K.Sink.written c.run_lines.new.sink in
    let new = g.K.Sink.written c.write_file.new.sink in
    absurd (never_read end.done old new
    (subst (λ (s : Status). Wrote s end.done old new) is
    (c.write_file.ensures.wrote end.done end.latest end.stands.0 end.few)))

pub returns-in_default : goal.returns-in_default
returns-in_default g c =
    let end = c.in-Ok.ensures.ended in
    record {
      saves = rw c.status_at.ensures
          (saves_nothing c.in-Ok.ending (g.S.Source.left c.args.source.now)
          (g.S.Source.left c.run_lines.new.source) (g.K.Sink.written c.args.sink.now)
          (g.K.Sink.written c.run_lines.new.sink) end.done c.in_default.not-Ended end.reached end.stands.2);
      no_usage = λ is. usage_never c.in-Ok.ending (sym c.status_at.ensures ∙ is);
      source_later = c.run_lines.ensures.source_later;
      sink_later = c.run_lines.ensures.sink_later;
      read_fault = λ is. c.in-Ok.ensures.read_fault (at_read c.in-Ok.ending (sym c.status_at.ensures ∙ is));
      write_fault = λ is. absurd (write_never c.in-Ok.ending (sym c.status_at.ensures ∙ is));
    }

pub returns-in-Err-clause-saves : goal.returns-in-Err-clause-saves
returns-in-Err-clause-saves g c =
    rw c.status_without.ensures (saves_cut c.in-Err.why _ _ _ _ c.in-Err.ensures.cut)

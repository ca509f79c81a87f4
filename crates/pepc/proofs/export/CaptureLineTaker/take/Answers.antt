use Rattle.std.proofs.Common.{◌∷◌, ◌++◌, [], OnErr, subst}
use Rattle.pc_outside.specs.Prefixes.{AppendsPrefix}
use Rattle.solo_command.proofs.Answered.{on_ok_both}
use Rattle.pepc.proofs.ExportLemmas.{breaks_off, sends, stays}
use Rattle.pepc.proofs.export.CaptureLineTaker.take.Goals as goal

pub returns-then-as_slice-lt-PIECE_LEN-clause-taken : goal.returns-then-as_slice-lt-PIECE_LEN-clause-taken
returns-then-as_slice-lt-PIECE_LEN-clause-taken g c = λ first done latest old captures due.
    stays c.args.self.now.waiting _ done c.args.line.now old _ captures c.in_ok-push_record.ensures.appended

pub returns-clause-taken : goal.returns-clause-taken
returns-clause-taken g c = λ first done latest old captures due.
    on_ok_both c.write_text.result
    (sends _ _ (done ++ c.args.line.now ∷ []) old _ _
    (stays c.args.self.now.waiting _ done c.args.line.now old _ captures c.in_ok-push_record.ensures.appended))
    c.write_text.ensures.whole c.write_text.ensures.emptied

pub returns-clause-broken : goal.returns-clause-broken
returns-clause-broken g c = λ first done latest old captures due failed.
    breaks_off _ (done ++ c.args.line.now ∷ []) old _ _
    (stays c.args.self.now.waiting _ done c.args.line.now old _ captures c.in_ok-push_record.ensures.appended)
    (subst (λ r. OnErr r (AppendsPrefix (g.K.Sink.written c.args.sink.now) (g.K.Sink.written c.write_text.new.sink)
    c.push_record.new.out)) failed c.write_text.ensures.cut)

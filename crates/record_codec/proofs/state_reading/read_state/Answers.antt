use Rattle.std.proofs.Common.{◌∷◌, [], ◌++◌, refl, sym, ◌∙◌, subst, arith}
use Rattle.std.specs.Io.KnownBytes.{prepend_known}
use Rattle.pc_outside.specs.WhereTold.{WhereTold}
use Rattle.pc_outside.specs.declared.reading.LineRead.TheVariants as line_read
use Rattle.pc_outside.specs.InputRead.{HasRead}
use Rattle.pc_outside.specs.Texts.{Text}
use Rattle.pc_outside.proofs.InputLemmas.{read_more, told_still}
use Rattle.record_codec.specs.StateLines.{HasHeard, Says, SaysNone, SaysState}
use Rattle.record_codec.proofs.ReadLemmas.{begins_bad, ends_first, ends_none, fails_first, in_err, less_room, state_read, stops_big, stops_long}
use Rattle.record_codec.specs.declared.state_lines.StateSaid.{StateSaid}
use Rattle.record_codec.proofs.state_reading.read_state.Goals as goal

pub returns-in-Found-clause-found : goal.returns-in-Found-clause-found
returns-in-Found-clause-found g c =
    let p = c.loop-lines_heard.invariant.read in
    let says = subst (λ (s : StateSaid). Says s c.take.new.self (p.0 ++ c.line.result.now ∷ [])) c.in-Found.is
    (c.in_ok-file-in-Line.ensures p.0 p.1) in
    state_read _ _ _ _ _ _ _ p.0 c.in-Found.file p.2 c.in-Line.ensures.octets
    (subst (λ (t : Text). SaysState (p.0 ++ t ∷ []) c.in-Found.file) c.line.ensures says)

pub returns-in-BadState-clause-stopped : goal.returns-in-BadState-clause-stopped
returns-in-BadState-clause-stopped g c =
    let p = c.loop-lines_heard.invariant.read in
    let says = subst (λ (s : StateSaid). Says s c.take.new.self (p.0 ++ c.line.result.now ∷ [])) c.in-BadState.is
    (c.in_ok-file-in-Line.ensures p.0 p.1) in
    begins_bad _ _ _ _ _ _ _ _ p.0 p.2 c.in-Line.ensures.octets
    (subst (λ (t : Text). SaysNone (p.0 ++ t ∷ [])) c.line.ensures says)

pub returns-then-is_last-clause-stopped : goal.returns-then-is_last-clause-stopped
returns-then-is_last-clause-stopped g c =
    let p = c.loop-lines_heard.invariant.read in
    let says = subst (λ (s : StateSaid). Says s c.take.new.self (p.0 ++ c.line.result.now ∷ [])) c.in-More.is
    (c.in_ok-file-in-Line.ensures p.0 p.1) in
    let heard = subst (λ (t : Text). HasHeard c.take.new.self (p.0 ++ t ∷ [])) c.line.ensures says in
    ends_first _ _ _ _ _ _ _ _ p.0 (sym c.is_last.ensures ∙ c.if-is_last.true) p.2 c.in-Line.ensures.octets heard.each

pub loop-lines_heard-preserved : goal.loop-lines_heard-preserved
loop-lines_heard-preserved g c =
    let p = c.loop-lines_heard.invariant.read in
    let says = subst (λ (s : StateSaid). Says s c.take.new.self (p.0 ++ c.line.result.now ∷ [])) c.in-More.is
    (c.in_ok-file-in-Line.ensures p.0 p.1) in
    record {
      read = (
        p.0 ++ c.line.result.now ∷ [],
        says,
        subst (λ t. WhereTold (g.S.Source.left c.args.source.now)
            (prepend_known c.read_line.new.buf.buffered (g.S.Source.left c.read_line.new.source))
            (λ octets rest. HasRead octets rest c.read_line.new.buf.room (p.0 ++ t ∷ []))) (sym c.line.ensures)
            (read_more _ _ _ _ _ _ _ p.0 (sym c.is_last.ensures ∙ c.if-is_last.false) p.2 c.in-Line.ensures.octets),
      );
      roomy = omega (
        arith,
        c.loop-lines_heard.invariant.roomy,
        less_room c.loop-lines_heard.buf.room c.read_line.new.buf.room _ _ _ _ c.in-Line.ensures.held.1,
      );
      no_fault = c.in-Line.ensures.no_fault (λ is. let none : ⊥ = cc in none) ∙ c.loop-lines_heard.invariant.no_fault;
    }

pub returns-in-End-clause-stopped : goal.returns-in-End-clause-stopped
returns-in-End-clause-stopped g c =
    let p = c.loop-lines_heard.invariant.read in
    ends_none _ _ _ _ _ _ _ _ p.0 p.2 c.in-End.ensures.octets p.1.each

pub returns-in-LineLong-clause-stopped : goal.returns-in-LineLong-clause-stopped
returns-in-LineLong-clause-stopped g c =
    let p = c.loop-lines_heard.invariant.read in
    stops_long _ _ _ _ _ _ _ _ p.0 p.2 c.in-LineLong.ensures.octets p.1.each

pub returns-in-TooLong-clause-stopped : goal.returns-in-TooLong-clause-stopped
returns-in-TooLong-clause-stopped g c =
    let p = c.loop-lines_heard.invariant.read in
    stops_big _ _ _ _ _ _ _ _ p.0 p.2 c.in-TooLong.ensures.octets p.1.each

pub returns-in-ReadFault-clause-stopped : goal.returns-in-ReadFault-clause-stopped
returns-in-ReadFault-clause-stopped g c =
    let p = c.loop-lines_heard.invariant.read in
    fails_first _ _ _ _ c.read_line.new.buf _ _ p.0 (c.in-ReadFault.ensures.unfinished refl) p.2
    c.in-ReadFault.ensures.octets p.1.each

pub returns-in_err-file-in-Line-clause-cut : goal.returns-in_err-file-in-Line-clause-cut
returns-in_err-file-in-Line-clause-cut g c =
    let p = c.loop-lines_heard.invariant.read in
    in_err _ c.from_residual.result (told_still _ _ _ _ _ line_read.Line _ _ _ p.0 p.2 c.in-Line.ensures.octets)

use Rattle.std.proofs.Common.{◌≡◌, Option, IfSome, sym, ◌∙◌, subst}
use Rattle.std.specs.Prelude.{IfNone}
use Rattle.record_codec.specs.Saved.{FileState, IsFile}
use Rattle.record_codec.specs.Spelling.{state}
use Rattle.record_codec.proofs.StateLineLemmas.{no_pieces, no_state, no_trace, state_found}
use Rattle.record_codec.proofs.state_lines.StateLines.end.Goals as goal
use Rattle.record_codec.proofs.state_lines.StateLines.end.Goals.{then-not-is_trace-via-then-not-is_trace, then-not-is_trace-via-else-not-is_trace+then-self}

pub returns-then-not-is_trace : goal.returns-then-not-is_trace
returns-then-not-is_trace c = λ texts heard. elim c.then-not-is_trace.branch [
  | then-not-is_trace-via-then-not-is_trace w ↦
      no_trace texts c.args.text.now heard.each c.requires (sym c.is_trace.ensures ∙ w.if-not-is_trace.true)
  | then-not-is_trace-via-else-not-is_trace+then-self w ↦
      no_pieces c.args.self.now texts c.args.text.now heard c.requires w.if-self.true
]

pub returns-in-Some : goal.returns-in-Some
returns-in-Some c = λ texts heard.
    let octets : c.deref.result.now ≡ state c.in-Some.file =
    subst (λ (r : Option FileState). IfSome r (λ (file : FileState). c.deref.result.now ≡ state file)) c.in-Some.is
    c.in_ok-file.ensures.found in
    let kept : IsFile c.in-Some.file =
    subst (λ (r : Option FileState). IfSome r IsFile) c.in-Some.is c.in_ok-file.ensures.valid in
    state_found c.args.self.now texts c.args.text.now c.in-Some.file heard c.requires
    (sym c.is_trace.ensures ∙ c.if-not-is_trace.false) c.if-self.false (sym c.deref.ensures.value ∙ octets) kept

pub returns-in-None : goal.returns-in-None
returns-in-None c = λ texts heard.
    let none : (file : FileState) → IsFile file → c.deref.result.now ≡ state file → ⊥ =
    subst (λ (r : Option FileState). IfNone r ((file : FileState) → IsFile file → c.deref.result.now ≡ state file → ⊥))
    c.in-None.is c.in_ok-file.ensures.none in
    no_state c.args.self.now texts c.args.text.now heard c.requires c.if-self.false
    (λ file kept is. none file kept (c.deref.ensures.value ∙ is))

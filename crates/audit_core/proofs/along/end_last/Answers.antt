use Rattle.std.proofs.Common.{◌≡◌, ◌∙◌, ◌++◌, [], nat_lt, if◌then◌else◌, true, None, refl, sym, ap, subst}
use Rattle.audit_core.specs.Along.{lawful_text, refuted_text}
use Rattle.audit_core.specs.Findings.{finding_text}
use Rattle.audit_core.specs.Ranks.{number_of}
use Rattle.audit_core.specs.Setups.{setup_of}
use Rattle.audit_core.proofs.AlongTold.{none_of, some_of}
use Rattle.audit_core.proofs.AlongSteps.{tells_no, tells_yes}
use Rattle.audit_core.proofs.along.end_last.Goals as goal

pub returns-in_ok-extend_from_slice-in-None : goal.returns-in_ok-extend_from_slice-in-None
returns-in_ok-extend_from_slice-in-None c = record {
  told = λ known piece hears.
      tells_yes (setup_of c.args.pieces.now.setup) known piece _ c.args.pieces.now c.end.new.self hears.lines
      (none_of _ c.in_ok-found.found c.in-None.is (c.in_ok-found.ensures.lawful known piece hears))
      (c.in_ok-extend_from_slice-in-None.ensures.appended
      ∙ ap (λ t. t ++ finding_text None) (c.in_ok-push_last-in-None.ensures
      ∙ ap (λ t. t ++ (if nat_lt c.args.pieces.now.lines c.end.new.self.lines
      then lawful_text c.end.new.self.epochs c.end.new.self.lines else [])) c.new-text.ensures));
}

pub returns-in_ok-push_refuted-in-Some : goal.returns-in_ok-push_refuted-in-Some
returns-in_ok-push_refuted-in-Some c = record {
  told = λ known piece hears.
      tells_no _ c.args.why (setup_of c.args.pieces.now.setup) known piece _ c.in-Some.own
      (some_of _ c.in_ok-found.found c.in-Some.own c.in-Some.is (c.in_ok-found.ensures.refuted known piece hears))
      (c.in_ok-push_refuted-in-Some.ensures
      ∙ ap (λ t. t ++ refuted_text c.args.why (number_of c.in-Some.own.sentence) c.in-Some.own.place) c.new-text.ensures);
}

use Rattle.std.proofs.Common.{◌≡◌, ◌∙◌, ◌++◌, [], true, refl, sym, ap, subst}
use Rattle.audit_core.specs.Along.{lawful_text, refuted_text}
use Rattle.audit_core.specs.Ranks.{number_of}
use Rattle.audit_core.specs.Setups.{setup_of}
use Rattle.audit_core.proofs.AlongTold.{none_of, some_of}
use Rattle.audit_core.proofs.AlongSteps.{tells_lawful, tells_no}
use Rattle.audit_core.proofs.along.end_piece.Goals as goal

pub returns-in_ok-push_lawful-in-None-clause-told : goal.returns-in_ok-push_lawful-in-None-clause-told
returns-in_ok-push_lawful-in-None-clause-told c = λ known piece hears.
    tells_lawful (setup_of c.args.pieces.now.setup) known piece _ c.end.new.self
    (none_of _ c.in_ok-found.found c.in-None.is (c.in_ok-found.ensures.lawful known piece hears))
    (c.in_ok-push_lawful-in-None.ensures
    ∙ ap (λ t. t ++ lawful_text c.end.new.self.epochs c.end.new.self.lines) c.new-text.ensures)

pub returns-in_ok-push_lawful-in-None-clause-weight : goal.returns-in_ok-push_lawful-in-None-clause-weight
returns-in_ok-push_lawful-in-None-clause-weight c = λ known piece hears is.
    none_of _ c.in_ok-found.found c.in-None.is (c.in_ok-found.ensures.weight known piece hears refl)

pub returns-in_ok-push_refuted-in-Some-clause-told : goal.returns-in_ok-push_refuted-in-Some-clause-told
returns-in_ok-push_refuted-in-Some-clause-told c = λ known piece hears.
    tells_no _ c.args.why (setup_of c.args.pieces.now.setup) known piece _ c.in-Some.own
    (some_of _ c.in_ok-found.found c.in-Some.own c.in-Some.is (c.in_ok-found.ensures.refuted known piece hears))
    (c.in_ok-push_refuted-in-Some.ensures
    ∙ ap (λ t. t ++ refuted_text c.args.why (number_of c.in-Some.own.sentence) c.in-Some.own.place) c.new-text.ensures)

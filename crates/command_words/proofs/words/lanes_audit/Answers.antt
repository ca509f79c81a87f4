use Rattle.std.proofs.Common.{◌∙◌, Some, false, refl, sym, ap, option_map}
use Rattle.command_words.specs.Job.{audit_forms, audit_of}
use Rattle.command_words.proofs.Lookups.{lanes_are}
use Rattle.command_words.proofs.words.lanes_audit.Goals as goal

pub returns-in_err-lanes : goal.returns-in_err-lanes
returns-in_err-lanes c = λ given gives.
    c.from_residual.ensures ∙ ap (option_map (audit_of given false)) (sym c.in_err-lanes.was ∙ c.lanes.ensures.found
    ∙ lanes_are c.args.matches.now audit_forms given gives refl refl refl refl refl refl)

pub returns : goal.returns
returns c = λ given gives.
    ap Some (c.audit_of.ensures given gives)
    ∙ ap (option_map (audit_of given false)) (sym c.in_ok-lanes.was ∙ c.lanes.ensures.found
    ∙ lanes_are c.args.matches.now audit_forms given gives refl refl refl refl refl refl)

use Rattle.std.proofs.Common.{[], subst}
use Rattle.record_codec.specs.Saved.{IsFile}
use Rattle.lawful_run.proofs.CutLines.{cut_nothing}
use Rattle.solo_command.specs.Holding.{gateway_of}
use Rattle.solo_command.proofs.GiveLemmas.{says_given, told_nothing}
use Rattle.solo_command.proofs.HoldLemmas.{behind_holds}
use Rattle.solo_command.proofs.resumer.Resumer.behind.Goals as goal

pub returns-clause-first : goal.returns-clause-first
returns-clause-first c =
    told_nothing c.behind.result c.args.file.moment (behind_holds c.args.file (gateway_of c.behind.result) (subst IsFile c.file.view_is c.file.invariant.0)
    c.behind.ensures.gateway) (c.behind.ensures.waits _)

pub returns-clause-nothing : goal.returns-clause-nothing
returns-clause-nothing c =
    says_given (gateway_of c.behind.result) c.behind.result 0 c.args.file.moment [] []
    (told_nothing c.behind.result c.args.file.moment (behind_holds c.args.file (gateway_of c.behind.result) (subst IsFile c.file.view_is c.file.invariant.0)
    c.behind.ensures.gateway) (c.behind.ensures.waits _)) cut_nothing

use Rattle.std.proofs.Common.{◌≡◌, ◌∙◌, IfOk, List, [], ◌∷◌, Some, find, refl, subst, sym}
use Rattle.std.proofs.lemmas.Bool.{cond-false, false_from_ne_true}
use Rattle.std.proofs.lemmas.Slice.Eq.{bytes_eq-Decides}
use Rattle.std.specs.Str.{bytes_eq}
use Rattle.command_words.specs.Job.{Command, audit_command, balance_command, commands, drive_command, make_command, replay_command}
use Rattle.command_words.specs.Program.{Gives}
use Rattle.command_words.specs.Words.{Text}
use Rattle.command_words.proofs.Parsed.{named_so, same_command}
use Rattle.command_words.proofs.words.job_named.Goals as goal

-- the word is no command's
abbrev DiffersFrom : List Command → Text → Type 0
DiffersFrom [] word = Unit {0}
DiffersFrom (first ∷ rest) word = (word ≡ first.name → ⊥) × DiffersFrom rest word

none_named : (of : List Command) (word : Text) (command : Command) → DiffersFrom of word
    → find (named_so word) of ≡ Some command → ⊥
none_named [] word command other is = cc
none_named (first ∷ rest) word command other is =
    none_named rest word command other.1
    (sym (cond-false (bytes_eq first.name word) (Some first) (find (named_so word) rest)
    (false_from_ne_true (bytes_eq first.name word)
    (λ same. other.0 (sym ((bytes_eq-Decides first.name word).0 same))))) ∙ is)

pub returns-in_default : goal.returns-in_default
returns-in_default c = λ command given known gives.
    let other = c.in_default in
    absurd (none_named commands c.args.name.now command (
      other.not-solo,
      (
        other.not-drive,
        (
          other.not-replay,
          (
            other.not-make,
            (
              other.not-import,
              (
                other.not-export,
                (other.not-audit, (other.not-balance, (other.not-save, (other.not-resume, tt)))),
              ),
            ),
          ),
        ),
      ),
    ) known)

pub returns-in-drive : goal.returns-in-drive
returns-in-drive c = λ command given known gives.
    let same : drive_command ≡ command = same_command c.args.name.now _ drive_command command c.in-drive.is refl known in
    subst (λ (its : Command). Gives c.args.matches.now its.forms given
    → IfOk c.drive_job.result (λ asked. asked ≡ its.job given)) same (λ g. c.drive_job.ensures given g) gives

pub returns-in-replay : goal.returns-in-replay
returns-in-replay c = λ command given known gives.
    let same : replay_command ≡ command =
    same_command c.args.name.now _ replay_command command c.in-replay.is refl known in
    subst (λ (its : Command). Gives c.args.matches.now its.forms given
    → c.replay_job.result ≡ its.job given) same (λ g. c.replay_job.ensures given g) gives

pub returns-in-make : goal.returns-in-make
returns-in-make c = λ command given known gives.
    let same : make_command ≡ command = same_command c.args.name.now _ make_command command c.in-make.is refl known in
    subst (λ (its : Command). Gives c.args.matches.now its.forms given
    → c.make_job.result ≡ its.job given) same (λ g. c.make_job.ensures given g) gives

pub returns-in-audit : goal.returns-in-audit
returns-in-audit c = λ command given known gives.
    let same : audit_command ≡ command = same_command c.args.name.now _ audit_command command c.in-audit.is refl known in
    subst (λ (its : Command). Gives c.args.matches.now its.forms given
    → c.audit_job.result ≡ its.job given) same (λ g. c.audit_job.ensures given g) gives

pub returns-in-balance : goal.returns-in-balance
returns-in-balance c = λ command given known gives.
    let same : balance_command ≡ command =
    same_command c.args.name.now _ balance_command command c.in-balance.is refl known in
    subst (λ (its : Command). Gives c.args.matches.now its.forms given
    → c.balance_job.result ≡ its.job given) same (λ g. c.balance_job.ensures given g) gives

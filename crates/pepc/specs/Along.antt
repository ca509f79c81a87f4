-- What a run of `audit --along` wrote, by its status.
use Rattle.std.specs.Prelude.{◌≡◌, ◌≢◌, ℕ, ◌⊎◌, Bool, List, Option}
use Rattle.lawful_run.specs.Setup.{Setup}
use Rattle.audit_core.specs.Along.{GoesAlong, SaysNo, SaysYes}
use Rattle.audit_core.specs.declared.auditing.Audited.{Audited}
use Rattle.pc_outside.specs.Texts.{Text}
use Rattle.pepc.specs.Audit.{status_of}
use Rattle.trace_run.specs.declared.status.Status.{Status}
use Rattle.trace_run.specs.declared.status.Status.TheVariants as status

-- The audit of the pieces ended so, with its status, and octets were appended to what a sink tells that say what is
-- found of those that a source told.
pub record AuditsAlong (why : Bool) (setup : Setup) (ending : Status) (start left old new : Option (List ℕ)) :
    Type 0 where
  pub one : Audited
  pub ends : ending ≡ status_of one
  pub goes : GoesAlong why one setup start left old new

-- Pieces are judged: the status is 0 or 9, unless memory ran out; not 9 where all of them are lawful, and not 0 where
-- one isn't.
pub record AreJudged (setup : Setup) (texts : List Text) (ending : Status) : Type 0 where
  pub judged : (ending ≡ status.Ok) ⊎ (ending ≡ status.Refuted) ⊎ (ending ≡ status.NoMemory)
  pub lawful : (text : List ℕ) → SaysYes setup texts text → ending ≢ status.Refuted
  pub refuted : (why : Bool) (text : List ℕ) → SaysNo why setup texts text → ending ≢ status.Ok

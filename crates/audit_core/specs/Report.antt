-- What an audit wrote, by how it ended.
use Rattle.std.specs.Prelude.{◌≡◌, ℕ, Bool, List, [], ◌++◌, Option, None, Some, Result, Ok, Err}
use Rattle.std.specs.Io.KnownBytes.{Appends}
use Rattle.pc_outside.specs.WhereTold.{WhereTold}
use Rattle.pc_outside.specs.declared.writing.WriteFault.{WriteFault}
use Rattle.lawful_run.specs.Setup.{Setup}
use Rattle.pc_outside.specs.InputRead.{IsReadWhole, IsTaken}
use Rattle.pc_outside.specs.Texts.{big, long, texts_of}
use Rattle.audit_core.specs.Findings.{Finds}
use Rattle.audit_core.specs.Refuting.{SaysFinding}
use Rattle.audit_core.specs.declared.auditing.Audited.{Audited}
use Rattle.audit_core.specs.declared.auditing.Audited.TheVariants as audited

-- the text says what is found
pub record SaysWhole (why : Bool) (setup : Setup) (octets text : List ℕ) (found : Option ℕ) : Type 0 where
  pub finds : Finds setup (texts_of octets).lines found
  pub says : SaysFinding why setup (texts_of octets).lines found text

-- it is a prefix of that
pub record SaysPart (why : Bool) (setup : Setup) (octets text : List ℕ) : Type 0 where
  pub found : Option ℕ
  pub more : List ℕ
  pub whole : SaysWhole why setup octets (text ++ more) found

abbrev pub Reports : Audited → Bool → Setup → List ℕ → List ℕ → List ℕ → Type 0
Reports audited.Confirmed why setup octets left text = IsReadWhole octets left × SaysWhole why setup octets text None
Reports audited.Refuted why setup octets left text =
    IsReadWhole octets left × ((k : ℕ) × SaysWhole why setup octets text (Some k))
Reports audited.ReadFault why setup octets left text = IsTaken octets left × (text ≡ [])
Reports audited.WriteFault why setup octets left text = IsReadWhole octets left × SaysPart why setup octets text
Reports audited.NoMemory why setup octets left text = text ≡ []
Reports audited.LineLong why setup octets left text = ((texts_of octets).stop ≡ long) × (text ≡ [])
Reports audited.TooLong why setup octets left text = ((texts_of octets).stop ≡ big) × (text ≡ [])

-- octets were appended to what a sink tells, and they say what is found of those that a source told
pub record Audits (why : Bool) (ending : Audited) (setup : Setup) (start left old new : Option (List ℕ)) : Type 0 where
  pub text : List ℕ
  pub written : Appends old new text
  pub report : WhereTold start left (λ octets rest. Reports ending why setup octets rest text)

-- what an audit comes to, by what is found and whether it was written
abbrev pub ending_as : Option ℕ → Result Unit WriteFault → Audited
ending_as found (Err fault) = audited.WriteFault
ending_as None (Ok written) = audited.Confirmed
ending_as (Some k) (Ok written) = audited.Refuted

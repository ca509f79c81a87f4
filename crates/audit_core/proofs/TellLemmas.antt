-- What is told of entries as they are said.
use Rattle.std.proofs.Common.{◌≡◌, Option, Some, None, refl}
use Rattle.std.specs.Option.{option_map}
use Rattle.report_lines.specs.declared.entry.Entry.{Entry}
use Rattle.audit_core.specs.Telling.{said_of, tells, tells_said}

pub tells_is : (told due : Option Entry) → tells_said (option_map said_of told) (option_map said_of due) ≡ tells told due
tells_is None None = refl
tells_is None (Some due) = refl
tells_is (Some told) None = refl
tells_is (Some told) (Some due) = refl

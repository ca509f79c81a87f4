use Rattle.std.proofs.Common.{arith}
use Rattle.record_codec.proofs.FileCodecs.{file_taken}
use Rattle.record_codec.proofs.WholeLemmas.{only_file, no_file}
use Rattle.record_codec.proofs.reading.read.Goals as goal

pub returns-in-Ok : goal.returns-in-Ok
returns-in-Ok c =
    let taken = file_taken c.args.octets.now c.in-Ok.file (λ at. omega (arith, c.type_inv.octets at)) c.in-Ok.ensures in
    record {
      found = taken.0;
      valid = taken.1;
      only = λ file kept is. only_file c.args.octets.now c.in-Ok.file file c.in-Ok.ensures kept is;
      none = tt;
    }

pub returns-in-Err-NotState : goal.returns-in-Err-NotState
returns-in-Err-NotState c =
    let none = rw c.in-Err-NotState.field-0-is at c.in-Err-NotState.ensures in
    record {
      found = tt;
      valid = tt;
      only = λ file kept is. absurd (no_file c.args.octets.now none file kept is);
      none = no_file c.args.octets.now none;
    }

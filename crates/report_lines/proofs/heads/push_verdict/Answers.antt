use Rattle.std.proofs.Common.{List, ℕ, [], ◌∷◌, ◌∙◌}
use Rattle.std.specs.Prelude.{decimal}
use Rattle.hex.specs.Hex.{encode_lower}
use Rattle.packet_steps.specs.Lent.{verdict_of}
use Rattle.report_lines.specs.Text.{verdict_fields}
use Rattle.report_lines.proofs.HeadLemmas.{told_behind}
use Rattle.report_lines.proofs.heads.push_verdict.Goals as goal

pub returns-clause-appended : goal.returns-clause-appended
returns-clause-appended c =
    let packet = c.args.packet in
    let fields : List (List ℕ) =
    decimal packet.line ∷ decimal packet.slot ∷ decimal packet.number ∷ decimal packet.commands ∷ [] in
    told_behind c.push_headed.result 80 fields (verdict_fields (verdict_of c.args.verdict.now) []) c.args.out.now
    c.as_slice.result.now c.put_verdict-octets.new.head (encode_lower c.put_verdict-octets.result.now)
    c.push_headed.new.self (c.as_slice.ensures ∙ c.put_counts.ensures) c.put_verdict-octets.ensures.told
    c.push_headed.ensures.appended

use Rattle.std.proofs.Common.{◌≡◌, List, ℕ, [], ◌∷◌, refl, ◌∙◌}
use Rattle.std.specs.Prelude.{decimal}
use Rattle.hex.specs.Hex.{encode_lower}
use Rattle.report_lines.proofs.HeadLemmas.{headed, led}
use Rattle.report_lines.proofs.heads.push_octets.Goals as goal

pub returns-clause-appended : goal.returns-clause-appended
returns-clause-appended c =
    let packet = c.args.packet in
    let octets = encode_lower c.args.octets.now in
    let fields : List (List ℕ) =
    decimal packet.line ∷ decimal packet.slot ∷ decimal packet.number ∷ decimal packet.commands
    ∷ c.args.word.now ∷ decimal c.args.life ∷ [] in
    let is : c.put_counts.new.head ≡ 80 ∷ led fields (32 ∷ []) =
    rw (c.put_counts.ensures, c.put_word.ensures, c.put_number.ensures.value, c.put.ensures, c.new-head.ensures) refl in
    headed c.push_headed.result 80 fields c.args.out.now c.as_slice.result.now [] octets octets c.push_headed.new.self
    (c.as_slice.ensures ∙ is) refl c.push_headed.ensures.appended

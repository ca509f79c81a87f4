use Rattle.std.proofs.Common.{◌≡◌, List, ℕ, [], ◌∷◌, refl, sym, ap, ◌∙◌}
use Rattle.std.specs.Prelude.{decimal}
use Rattle.hex.specs.Hex.{encode_lower}
use Rattle.text_fields.specs.Address.{dotted}
use Rattle.report_lines.proofs.HeadLemmas.{headed, led}
use Rattle.report_lines.proofs.writing.push_marker.Goals as goal

pub returns-clause-appended : goal.returns-clause-appended
returns-clause-appended c =
    let fields : List (List ℕ) = decimal c.args.slot ∷ decimal c.args.life ∷ decimal c.args.command ∷ dotted c.args.peer ∷ [] in
    let is : c.put-2.new.self ≡ 77 ∷ led fields (32 ∷ []) =
    rw (c.put-2.ensures, c.put_three.ensures.value, c.put_address.ensures.value, c.put.ensures, c.new-head.ensures, c.peer.view_is) refl in
    headed c.push_headed.result 77 fields c.args.out.now c.as_slice.result.now [] (encode_lower c.as_slice-2.result.now) (encode_lower c.args.octets.now)
    c.push_headed.new.self (c.as_slice.ensures ∙ is) (ap encode_lower (sym c.as_slice-2.ensures)) c.push_headed.ensures.appended

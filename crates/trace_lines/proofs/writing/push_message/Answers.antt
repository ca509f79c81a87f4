use Rattle.std.proofs.Common.{◌≡◌, [], ◌∷◌, ◌++◌, ◌∙◌, refl}
use Rattle.std.specs.Prelude.{decimal}
use Rattle.hex.specs.Hex.{encode_lower}
use Rattle.trace_lines.proofs.WriteLemmas.{said_in_head}
use Rattle.trace_lines.proofs.writing.push_message.Goals as goal

pub returns-clause-appended : goal.returns-clause-appended
returns-clause-appended c =
    let is : c.put_number.new.self ≡ 32 ∷ (decimal c.args.moment ++ (32 ∷ (c.args.word.now ++ 32 ∷ []))) =
    rw (c.put_number.ensures.value, c.put_word.ensures, c.put.ensures, c.new-head.ensures, c.moment.view_is) refl in
    said_in_head c.push_headed.result (decimal c.args.moment) c.args.word.now (encode_lower c.args.octets.now)
    c.args.out.now c.as_slice.result.now c.push_headed.new.self (c.as_slice.ensures ∙ is) c.push_headed.ensures.appended

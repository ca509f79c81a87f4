use Rattle.std.proofs.Common.{◌≡◌, ◌++◌, Ok, ap, sym, ◌∙◌, arith, take, drop, length, length-append, length-drop}
use Rattle.std.proofs.Math.Seq.{take-append_seam}
use Rattle.text_fields.proofs.kept.decode_prefix.Goals as goal

pub returns-clause-value : goal.returns-clause-value
returns-clause-value c = λ good.
    let octets = c.decode.new.octets in
    let rest = drop c.args.len c.args.buffer.now in
    let long : length octets ≡ c.args.len =
    omega (arith, length-append octets rest, length-drop c.args.len c.args.buffer.now) in
    c.decode.ensures.octets good
    ∙ ap Ok (sym (ap (λ n. take n (octets ++ rest)) (sym long) ∙ take-append_seam octets rest))

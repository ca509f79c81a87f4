use Rattle.std.proofs.Common.{◌≡◌, ℕ, ◌+◌, ◌++◌, length, replicate, refl, ap, ◌∙◌, arith}
use Rattle.text_fields.proofs.BlockLemmas.{two_halves}
use Rattle.pcap_form.specs.Export.{record_head, wrapped_head}
use Rattle.pcap_form.proofs.export.message_head.Goals as goal

length-record_head : (moment len : ℕ) → length (record_head moment len) ≡ 16
unfolding record_head
length-record_head moment len = refl

length-wrapped_head : (port len : ℕ) → length (wrapped_head port len) ≡ 28
unfolding wrapped_head
length-wrapped_head port len = refl

pub returns : goal.returns
returns c =
    let prefix = c.copy_from_slice.new.self in
    let back = c.copy_from_slice-2.new.self in
    let record_is : prefix ≡ record_head c.args.moment (28 + c.args.len) =
    c.copy_from_slice.ensures.after ∙ c.record_head.ensures
    ∙ ap (λ n. record_head c.args.moment (28 + n)) c.from.ensures in
    let wrap_is : back ≡ wrapped_head c.args.port c.args.len =
    c.copy_from_slice-2.ensures.after ∙ c.wrapped_head.ensures in
    let wrap_long : length back ≡ 28 = ap length wrap_is ∙ length-wrapped_head c.args.port c.args.len in
    two_halves (replicate 44 0) prefix back 16 28
    (ap length record_is ∙ length-record_head c.args.moment (28 + c.args.len))
    (omega (arith, wrap_long)) (omega (arith, wrap_long))
    ∙ ap (λ head. head ++ back) record_is
    ∙ ap (λ wrap. record_head c.args.moment (28 + c.args.len) ++ wrap) wrap_is

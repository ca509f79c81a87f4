use Rattle.std.proofs.Common.{◌≡◌, ◌+◌, ◌++◌, true, length, nat_le, Result, Ok, Err, OnOk, sym, ap, ◌∙◌, arith, append_assoc}
use Rattle.std.proofs.lemmas.Bool.Decides.{nat_tests}
use Rattle.pcap_form.specs.Export.{message_max, record_head, wrapped, wrapped_head}
use Rattle.pcap_form.proofs.PacketLemmas.{length-wrapped}
use Rattle.pcap_form.proofs.export.push_message.Goals as goal

on_ok : {T E : Type 0} {P Q : Type 0} (r : Result T E) → (P → Q) → OnOk r P → OnOk r Q
on_ok (Ok x) follows holds = follows holds
on_ok (Err e) follows holds = tt

pub returns-clause-appended : goal.returns-clause-appended
returns-clause-appended c =
    let moment = c.args.moment in
    let port = c.args.port in
    let message = c.args.message.now in
    let out = c.args.out.now in
    let len = length message in
    let fits : nat_le len message_max ≡ true = grind (arith, nat_tests) in
    rw fits
    (on_ok c.push_parts.result (λ appended.
    appended ∙ ap (λ head. (out ++ head) ++ message) c.message_head.ensures
    ∙ append_assoc out (record_head moment (28 + len) ++ wrapped_head port len) message
    ∙ ap (λ text. out ++ text) (append_assoc (record_head moment (28 + len)) (wrapped_head port len) message)
    ∙ ap (λ n. out ++ (record_head moment n ++ wrapped port message)) (sym (length-wrapped port message)))
    c.push_parts.ensures.appended)

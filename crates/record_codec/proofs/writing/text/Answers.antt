use Rattle.std.proofs.Common.{◌≡◌, ◌++◌, arith, sym, ap, ◌∙◌, length}
use Rattle.std.specs.List.{flat_map}
use Rattle.record_codec.specs.Saved.{all_saved}
use Rattle.record_codec.specs.Spelling.{state, subscriber_text}
use Rattle.record_codec.proofs.RoomLemmas.{are_writable, few_saved, file_put}
use Rattle.record_codec.proofs.writing.text.Goals as goal

pub overflow_cast-count : goal.overflow_cast-count
overflow_cast-count c =
    omega (
      arith,
      c.len-count.ensures,
      c.file.inside.subscribers.ok.0,
      few_saved c.file.inside.book c.file.inside.subscribers.items (sym c.file.invariant.1) c.file.invariant.0.book,
    )

pub put_subscribers-requires-clause-long : goal.put_subscribers-requires-clause-long
put_subscribers-requires-clause-long c = rw (c.imsis.ensures.value, c.deref.ensures.value) (sym c.file.invariant.1)

pub put_subscribers-requires-clause-each : goal.put_subscribers-requires-clause-each
put_subscribers-requires-clause-each c =
    rw c.deref.ensures.value
    (are_writable c.file.inside.moment c.file.inside.book c.file.inside.subscribers.items (sym c.file.invariant.1)
    c.file.invariant.0.subscribers)

pub returns : goal.returns
returns c =
    let file = c.file.inside in
    let many : c.len-count.result ≡ length file.subscribers.items
    = omega (arith, c.len-count.ensures, file.subscribers.ok.0) in
    let t4 = c.put_u32.new.text.items in
    c.of.ensures
    ∙ file_put file.lines file.moment c.len-count.result file.book file.subscribers.items c.new-text.result.items
    c.push.new.self.items c.put_u64.new.text.items c.put_moment.new.text.items t4 c.put_subscribers.new.text.items
    (sym c.file.invariant.1) many c.new-text.ensures.items c.in_ok-push.ensures.items c.in_ok-put_u64.ensures
    c.in_ok-put_moment.ensures c.in_ok-put_u32.ensures
    (c.in_ok-put_subscribers.ensures
    ∙ ap (λ imsis. t4 ++ flat_map subscriber_text (all_saved imsis c.deref.result.now)) c.imsis.ensures.value
    ∙ ap (λ ones. t4 ++ flat_map subscriber_text (all_saved file.book ones)) c.deref.ensures.value)
    ∙ ap state c.file.view_is

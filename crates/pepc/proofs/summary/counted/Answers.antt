use Rattle.std.proofs.Common.{◌≡◌, ◌+◌, [], ◌∷◌, length, ap, refl, sym, subst, arith}
use Rattle.trace_maker.specs.Generated.{made}
use Rattle.trace_maker.proofs.ReadLemmas.{length-made}
use Rattle.pepc.specs.Counting.{Counting, CountsMore}
use Rattle.solo_command.proofs.ReportLemmas.{says_nothing}
use Rattle.solo_command.proofs.RunLemmas.{begins}
use Rattle.pepc.proofs.SummaryLemmas.{all_done, at_none, counting_begins, counting_ends, counting_goes_on, next_in_order, next_is}
use Rattle.pepc.proofs.summary.counted.Goals as goal

pub loop-text-init : goal.loop-text-init
loop-text-init c =
    subst (Counting c.new-epochs.result.reporter c.new-epochs.result.size c.new-epochs.result.text c.new-counts.result
    (made c.args.seed c.args.subs c.args.lines)) (sym c.new-maker.ensures)
    (counting_begins c.new-epochs.result.reporter c.new-epochs.result.size c.new-epochs.result.text
    c.new-counts.result c.args.seed c.args.subs c.args.lines c.requires.some c.requires.slots c.requires.most
    (c.new-epochs.ensures.stands refl (begins c.new.result c.new.ensures.stands c.new.ensures.gateway
    (c.new.ensures.waits _)) says_nothing) c.new-counts.ensures)

pub loop-text-preserved : goal.loop-text-preserved
loop-text-preserved c =
    let so_far = c.loop-text.invariant in
    let is : c.loop-text.maker ≡ c.in-Some.line ∷ c.made_line.new.maker =
    next_is c.in-Some.is c.in_ok-line.ensures.made in
    let next = next_in_order so_far is in
    counting_goes_on c.loop-text.epochs.reporter c.count_line.new.epochs.reporter c.loop-text.epochs.size
    c.count_line.new.epochs.size c.loop-text.epochs.text c.count_line.new.epochs.text c.loop-text.counts
    c.count_line.new.counts (made c.args.seed c.args.subs c.args.lines) c.loop-text.maker c.made_line.new.maker
    c.in-Some.line so_far is next.1 (c.in_ok-count_line.ensures so_far.done so_far.latest so_far.so_far next.0)

pub finish-requires-clause-reported : goal.finish-requires-clause-reported
finish-requires-clause-reported c =
    let so_far = c.loop-text.invariant in
    let none : c.loop-text.maker ≡ [] =
    (at_none ((c.loop-text.maker ≡ []) × (c.made_line.new.maker ≡ []))
    (λ line. c.loop-text.maker ≡ line ∷ c.made_line.new.maker) c.in_ok-line.field-0 c.in_default.not-Some
    c.in_ok-line.ensures.made).0 in
    let counted : c.from.result + c.from-2.result ≡ length so_far.done =
    omega (
      arith,
      c.from.ensures,
      c.from-2.ensures,
      length-made c.args.seed c.args.subs c.args.lines,
      ap length (all_done _ _ _ _ (made c.args.seed c.args.subs c.args.lines) c.loop-text.maker so_far none),
    ) in
    (c.loop-text.epochs.reporter, so_far.done, so_far.latest, so_far.so_far.sent, so_far.so_far.standing, ap (λ n. n + 1) counted)

pub returns : goal.returns
returns c =
    let so_far = c.loop-text.invariant in
    let none : c.loop-text.maker ≡ [] =
    (at_none ((c.loop-text.maker ≡ []) × (c.made_line.new.maker ≡ []))
    (λ line. c.loop-text.maker ≡ line ∷ c.made_line.new.maker) c.in_ok-line.field-0 c.in_default.not-Some
    c.in_ok-line.ensures.made).0 in
    let counted : c.from.result + c.from-2.result ≡ length so_far.done =
    omega (
      arith,
      c.from.ensures,
      c.from-2.ensures,
      length-made c.args.seed c.args.subs c.args.lines,
      ap length (all_done _ _ _ _ (made c.args.seed c.args.subs c.args.lines) c.loop-text.maker so_far none),
    ) in
    counting_ends c.loop-text.epochs.reporter c.loop-text.epochs.size c.loop-text.epochs.text c.finish.new.self.text
    c.loop-text.counts c.add.new.self c.args.seed c.args.subs c.args.lines c.loop-text.maker c.requires.some
    c.requires.slots c.requires.most so_far none
    (c.in_ok-finish.ensures c.loop-text.epochs.reporter so_far.done so_far.latest so_far.so_far.sent
    so_far.so_far.standing (ap (λ n. n + 1) counted))
    (subst (CountsMore c.loop-text.counts c.add.new.self) c.as_slice.ensures c.add.ensures)

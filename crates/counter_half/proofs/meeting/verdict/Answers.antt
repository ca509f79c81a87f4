use Rattle.std.proofs.Common.{refl, sym, ◌∙◌}
use Rattle.counter_half.proofs.Lending.{has_octets}
use Rattle.counter_half.proofs.Moments.{moved_to}
use Rattle.counter_half.proofs.meeting.verdict.Goals as goal

pub returns-clause-verdict : goal.returns-clause-verdict
returns-clause-verdict c past taken stands same few =
    let sent = c.packet.inside in
    c.of.ensures ∙ c.in_ok-judged.ensures.verdict past taken _ stands same few
    (moved_to _ _ sent.number sent.moment _ sent.way sent.ip (sym c.packet.view_is) c.moment_for-moment.ensures.later)

pub returns-clause-stands : goal.returns-clause-stands
returns-clause-stands c past taken stands same few =
    let sent = c.packet.inside in
    c.in_ok-judged.ensures.stands past taken _ stands same few
    (moved_to _ _ sent.number sent.moment _ sent.way sent.ip (sym c.packet.view_is) c.moment_for-moment.ensures.later)

pub of-requires : goal.of-requires
of-requires c =
    has_octets _ c.packet.inside.ip c.in_ok-judged.judged (c.in_ok-judged.ensures.planned _ refl)

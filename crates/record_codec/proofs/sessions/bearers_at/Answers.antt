use Rattle.std.proofs.Common.{sym}
use Rattle.record_codec.specs.Read.{are_bearers, bearer_at, listed_at}
use Rattle.record_codec.proofs.Codecs.{such_is, such_not, listed_is}
use Rattle.record_codec.proofs.MadeLemmas.{bearers_made, bearers_not}
use Rattle.record_codec.proofs.sessions.bearers_at.Goals as goal

pub returns-in-Some : goal.returns-in-Some
returns-in-Some c =
    let read = listed_is bearer_at c.args.input.now.rest.now c.in_ok-count.count c.u8_at.new.input.rest.now
    c.in_ok-bearers.bearers.items c.bearers_of.new.input.rest.now c.in_ok-count.ensures c.in_ok-bearers.ensures in
    such_is are_bearers (listed_at bearer_at) c.args.input.now.rest.now c.in_ok-bearers.bearers.items c.in-Some.bearers
    c.bearers_of.new.input.rest.now read (bearers_made c.in_ok-bearers.bearers.items c.in-Some.ensures.made.1)
    (sym c.in-Some.ensures.made.0)

pub returns-in-None : goal.returns-in-None
returns-in-None c =
    let read = listed_is bearer_at c.args.input.now.rest.now c.in_ok-count.count c.u8_at.new.input.rest.now
    c.in_ok-bearers.bearers.items c.bearers_of.new.input.rest.now c.in_ok-count.ensures c.in_ok-bearers.ensures in
    such_not are_bearers (listed_at bearer_at) c.args.input.now.rest.now c.in_ok-bearers.bearers.items
    c.bearers_of.new.input.rest.now read (bearers_not c.in_ok-bearers.bearers.items c.in-None.ensures.none)

use Rattle.std.proofs.Common.{◌≡◌, sym, ◌∙◌, ap, true, false}
use Rattle.std.specs.Option.{is_some}
use Rattle.bearer_state.specs.Version.{VersionState, actives}
use Rattle.packet_steps.specs.Parts.{fit}
use Rattle.record_codec.proofs.WholeLemmas.{few_actives, low_lives, subscriber_is, subscriber_not, resting_is}
use Rattle.record_codec.proofs.subscribers.subscriber_at.Goals as goal

pub counters_at-requires-clause-few : goal.counters_at-requires-clause-few
counters_at-requires-clause-few c =
    let same : c.bearers.result.now ≡ actives c.in_ok-session.session.bearers
    = c.bearers.ensures.value ∙ ap (λ (v : VersionState). v.bearers) c.in_ok-version.ensures in
    rw same (few_actives c.in_ok-session.session.bearers c.known.ensures.bearers)

pub counters_at-requires-clause-lives : goal.counters_at-requires-clause-lives
counters_at-requires-clause-lives c =
    rw c.bearers.ensures.value (low_lives c.in_ok-version.version c.bearers.ensures.valid)

pub returns-in-None-clause-read : goal.returns-in-None-clause-read
returns-in-None-clause-read c =
    let fits : fit c.in_ok-version.version c.in_ok-parts.parts ≡ false
    = sym c.in_ok-made.ensures.fit ∙ ap is_some c.in-None.is in
    subscriber_not c.args.moment c.args.slot c.args.input.now.rest.now c.imsi_at.new.input.rest.now
    c.session_at.new.input.rest.now c.count_at.new.input.rest.now c.count_at-2.new.input.rest.now
    c.slice_at.new.input.rest.now c.counters_at.new.input.rest.now c.in_ok-imsi.imsi c.in_ok-session.session
    c.in_ok-commands.commands c.in_ok-packets.packets c.in_ok-destination.destination c.in_ok-parts.parts
    c.in_ok-version.version c.in_ok-imsi.ensures c.in_ok-session.ensures c.in_ok-commands.ensures.read
    c.in_ok-packets.ensures.read c.in_ok-destination.ensures c.in_ok-version.ensures
    (rw c.bearers.ensures.value at c.in_ok-parts.ensures) fits

pub returns-in-Some-clause-read : goal.returns-in-Some-clause-read
returns-in-Some-clause-read c =
    let fits : fit c.in_ok-version.version c.in_ok-parts.parts ≡ true
    = sym c.in_ok-made.ensures.fit ∙ ap is_some c.in-Some.is in
    subscriber_is c.args.moment c.args.slot c.args.input.now.rest.now c.imsi_at.new.input.rest.now
    c.session_at.new.input.rest.now c.count_at.new.input.rest.now c.count_at-2.new.input.rest.now
    c.slice_at.new.input.rest.now c.counters_at.new.input.rest.now c.in_ok-imsi.imsi c.in_ok-session.session
    c.in_ok-commands.commands c.in_ok-packets.packets c.in_ok-destination.destination c.in_ok-parts.parts
    c.in_ok-version.version c.in-Some.counters c.in_ok-imsi.ensures c.in_ok-session.ensures
    c.in_ok-commands.ensures.read
    c.in_ok-packets.ensures.read c.in_ok-destination.ensures c.in_ok-version.ensures c.bearers.ensures.valid
    (rw c.bearers.ensures.value at c.in_ok-parts.ensures) c.known_octets.ensures c.in_ok-packets.ensures.range
    c.requires
    fits (rw c.in-Some.is at c.in_ok-made.ensures.made)

pub returns-in-Some-clause-resting : goal.returns-in-Some-clause-resting
returns-in-Some-clause-resting c =
    resting_is c.in_ok-session.session c.in_ok-commands.commands c.in_ok-packets.packets c.in_ok-destination.destination
    c.in_ok-version.version c.in_ok-parts.parts c.in-Some.counters c.in_ok-version.ensures
    (rw c.in-Some.is at c.in_ok-made.ensures.made) (sym c.in_ok-made.ensures.fit ∙ ap is_some c.in-Some.is)

use Rattle.std.proofs.Common.{ap, ◌∙◌, refl}
use Rattle.bearer_state.specs.Session.{SessionState}
use Rattle.bearer_state.specs.Version.{VersionState, version_of}
use Rattle.subscriber.specs.Standing.{subscriber_of}
use Rattle.subscriber.proofs.subscriber.Subscriber.new.Goals as goal

pub returns-clause-stands : goal.returns-clause-stands
returns-clause-stands c =
    let version = c.in_ok-version.ensures ∙ ap (λ (s : SessionState). version_of s 0) c.new-session.ensures in
    record {
      session = c.new-session.ensures;
      version = version;
      counters = c.new-counters.ensures.stands c.args.slot;
      commands = ap (λ (v : VersionState). v.number) version;
      packets = refl;
    }

pub returns-clause-last : goal.returns-clause-last
returns-clause-last c = (c.new-counters.ensures.stands c.args.slot).last

pub returns-clause-new : goal.returns-clause-new
returns-clause-new c =
    let version = c.in_ok-version.ensures ∙ ap (λ (s : SessionState). version_of s 0) c.new-session.ensures in
    λ i. subscriber_of (c.new-session.ensures i) (version i) (c.new-counters.ensures.new i) 0 c.args.destination

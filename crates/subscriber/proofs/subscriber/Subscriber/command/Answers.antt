use Rattle.std.proofs.Common.{◌≡◌, ◌+◌, ap, ◌∙◌, subst, arith}
use Rattle.bearer_state.specs.Version.{VersionState, version_of}
use Rattle.control_steps.specs.Table.{controlled}
use Rattle.packet_steps.specs.Change.{learnt}
use Rattle.gate_model.specs.SlotPast.{past_of}
use Rattle.subscriber.specs.Standing.{SubscriberState}
use Rattle.packet_steps.specs.Running.{brought, Advances}
use Rattle.subscriber.proofs.StandingLemmas.{learns, command_stands}
use Rattle.subscriber.proofs.subscriber.Subscriber.command.Goals as goal

pub version-requires : goal.version-requires
version-requires c =
    let outer = ap (λ (s : SubscriberState). s.version.number) c.self.view_is in
    let inner = ap (λ (v : VersionState). v.number) c.before-2.view_is in
    omega (arith, c.requires.few, outer, inner)

pub returns-clause-effects : goal.returns-clause-effects
returns-clause-effects c = λ slot events taken stands.
    let stepped : c.step.new.session ≡ (controlled c.args.self.now.session c.args.command.now).0 =
    c.in_ok-reply.ensures.session ∙ ap (λ (s : SubscriberState). (controlled s.session c.args.command.now).0)
    c.self.view_is in
    let versioned : c.in_ok-after.after ≡ version_of c.step.new.session (c.args.self.now.version.number + 1) =
    c.in_ok-after.ensures ∙ ap (λ (v : VersionState). version_of c.step.new.session (v.number + 1)) c.before-2.view_is
    ∙ ap (λ (s : SubscriberState). version_of c.step.new.session (s.version.number + 1)) c.self.view_is in
    let is = learns c.known_pasts.ensures.follows c.args.self.now slot events taken c.args.command.now
    c.self.inside.counters c.self.inside.version
    c.in_ok-after.after c.step.new.session c.requires stands (ap (λ (s : SubscriberState). s.counters) c.self.view_is)
    (ap (λ (s : SubscriberState). s.version) c.self.view_is) stepped versioned in
    c.in_ok-effects.ensures.effects (past_of slot events).packets taken is.stands is.same is.follows
    ∙ ap (λ (v : VersionState). (learnt (past_of slot events).packets v).1) is.next

pub returns-clause-stands : goal.returns-clause-stands
returns-clause-stands c = λ slot events taken stands.
    let stepped : c.step.new.session ≡ (controlled c.args.self.now.session c.args.command.now).0 =
    c.in_ok-reply.ensures.session ∙ ap (λ (s : SubscriberState). (controlled s.session c.args.command.now).0)
    c.self.view_is in
    let versioned : c.in_ok-after.after ≡ version_of c.step.new.session (c.args.self.now.version.number + 1) =
    c.in_ok-after.ensures ∙ ap (λ (v : VersionState). version_of c.step.new.session (v.number + 1)) c.before-2.view_is
    ∙ ap (λ (s : SubscriberState). version_of c.step.new.session (s.version.number + 1)) c.self.view_is in
    let is = learns c.known_pasts.ensures.follows c.args.self.now slot events taken c.args.command.now
    c.self.inside.counters c.self.inside.version
    c.in_ok-after.after c.step.new.session c.requires stands (ap (λ (s : SubscriberState). s.counters) c.self.view_is)
    (ap (λ (s : SubscriberState). s.version) c.self.view_is) stepped versioned in
    command_stands c.known_pasts.ensures.sessions c.known_pasts.ensures.versions c.known_pasts.ensures.learnt
    c.args.self.now _ slot events taken c.args.command.now stands stepped versioned
    (ap (λ (s : SubscriberState). s.packets) c.self.view_is)
    (c.in_ok-effects.ensures.stands (past_of slot events).packets taken is.stands is.same is.follows)

pub returns-clause-stepped : goal.returns-clause-stepped
returns-clause-stepped c = c.in_ok-reply.ensures.session
    ∙ ap (λ (s : SubscriberState). (controlled s.session c.args.command.now).0) c.self.view_is

pub returns-clause-counted : goal.returns-clause-counted
returns-clause-counted c =
    let versioned : c.in_ok-after.after ≡ version_of c.step.new.session (c.args.self.now.version.number + 1) =
    c.in_ok-after.ensures ∙ ap (λ (v : VersionState). version_of c.step.new.session (v.number + 1)) c.before-2.view_is
    ∙ ap (λ (s : SubscriberState). version_of c.step.new.session (s.version.number + 1)) c.self.view_is in
    (ap (λ (v : VersionState). v.number) versioned, ap (λ (s : SubscriberState). s.packets) c.self.view_is)

pub returns-clause-answered : goal.returns-clause-answered
returns-clause-answered c = c.in_ok-reply.ensures.reply
    ∙ ap (λ (s : SubscriberState). (controlled s.session c.args.command.now).1) c.self.view_is

pub returns-clause-versioned : goal.returns-clause-versioned
returns-clause-versioned c =
    c.in_ok-after.ensures ∙ ap (λ (v : VersionState). version_of c.step.new.session (v.number + 1)) c.before-2.view_is
    ∙ ap (λ (s : SubscriberState). version_of c.step.new.session (s.version.number + 1)) c.self.view_is

pub returns-clause-brings : goal.returns-clause-brings
returns-clause-brings c = c.in_ok-effects.ensures.brings
    ∙ ap (λ (s : SubscriberState). (brought s.version c.in_ok-after.after s.counters).effects) c.self.view_is

pub returns-clause-advances : goal.returns-clause-advances
returns-clause-advances c =
    subst (λ (s : SubscriberState). Advances s.version c.in_ok-after.after s.counters c.advance.new.counters)
    c.self.view_is c.in_ok-effects.ensures.goes_on

-- An event leaves subscribers alike that were so.
use Rattle.std.proofs.Common.{◌≡◌, ◌+◌, List, sym, ap, ◌∙◌, subst}
use Rattle.charging_book.specs.Happenings.{Happening}
use Rattle.charging_book.specs.Posted.{pieces_after}
use Rattle.bearer_state.specs.Session.{SessionState}
use Rattle.bearer_state.specs.Version.{VersionState, version_of}
use Rattle.control_steps.specs.Table.{controlled}
use Rattle.packet_steps.specs.Running.{planned, charged_by, GoesOn, brought, Advances}
use Rattle.subscriber.specs.Standing.{SubscriberState, commands_met}
use Rattle.subscriber.specs.Alike.{KeepPlaces, AreAlike}
use Rattle.subscriber.specs.Subscribers.{CommandsStayAlike, PacketsStayAlike}
use Rattle.subscriber.proofs.PlanLemmas.{packets_are_alike}
use Rattle.subscriber.proofs.BroughtLemmas.{versions_are_alike}
use Rattle.subscriber.proofs.PlaceLemmas.{sessions_keep}

pub commands_stay : CommandsStayAlike
commands_stay one other new next pieces others command alike versioned is are ranges may done also =
    let sessions : next.session ≡ new.session =
    also.session ∙ ap (λ (s : SessionState). (controlled s command).0) (sym alike.session) ∙ sym done.session in
    let versions : next.version ≡ new.version =
    also.version ∙ ap (λ (s : SessionState). version_of s (commands_met other + 1)) sessions
    ∙ ap (λ (v : VersionState). version_of new.session (v.number + 1)) (sym alike.version) ∙ sym done.version in
    let keep : KeepPlaces one.version new.version =
    subst (λ (v : VersionState). KeepPlaces v new.version) (sym versioned)
    (subst (KeepPlaces (version_of one.session (commands_met one)))
    (sym (done.version ∙ ap (λ (s : SessionState). version_of s (commands_met one + 1)) done.session))
    (sessions_keep one.session command (commands_met one) (commands_met one + 1) is are)) in
    let advances : Advances one.version new.version other.counters next.counters =
    subst (λ (v : VersionState). Advances v new.version other.counters next.counters) (sym alike.version)
    (subst (λ (v : VersionState). Advances other.version v other.counters next.counters) versions also.counters) in
    let charged = versions_are_alike.advances one.version new.version one.counters other.counters new.counters
    next.counters pieces others alike.counters keep ranges may done.counters advances in
    record {
      effects = versions_are_alike.effects one.version new.version one.counters other.counters pieces others
          alike.counters keep ranges
          ∙ ap (λ (v : VersionState). (brought v new.version other.counters).effects) alike.version
          ∙ ap (λ (v : VersionState). (brought other.version v other.counters).effects) (sym versions);
      stay = record {
        alike = record {
          session = sym sessions;
          version = sym versions;
          packets = done.packets ∙ alike.packets ∙ sym also.packets;
          destination = done.destination ∙ alike.destination ∙ sym also.destination;
          counters = charged.alike;
        };
        rows = charged.rows;
        others_rows = charged.others_rows;
      };
    }

pub packets_stay : PacketsStayAlike
packets_stay one other new next pieces others packet alike ranges may met also =
    let plans = packets_are_alike.plans one.version one.counters other.counters pieces others packet alike.counters in
    let goes : GoesOn (planned one.version other.counters packet) packet other.counters next.counters =
    subst (λ (v : VersionState). GoesOn (planned v other.counters packet) packet other.counters next.counters)
    (sym alike.version) also.counters in
    let charged = packets_are_alike.goes_on one.version one.counters other.counters new.counters next.counters pieces
    others packet ranges alike.counters may met.counters goes in
    let happened : List Happening = charged_by (planned one.version one.counters packet) packet.moment in
    let version_one : new.version ≡ one.version = ap (λ (s : SubscriberState). s.version) met.others in
    let version_other : next.version ≡ other.version = ap (λ (s : SubscriberState). s.version) also.others in
    record {
      plan_ = plans ∙ ap (λ (v : VersionState). planned v other.counters packet) alike.version;
      stay = record {
        alike = record {
          session = ap (λ (s : SubscriberState). s.session) met.others ∙ alike.session
              ∙ sym (ap (λ (s : SubscriberState). s.session) also.others);
          version = version_one ∙ alike.version ∙ sym version_other;
          packets = ap (λ (s : SubscriberState). s.packets) met.others ∙ ap (λ n. n + 1) alike.packets
              ∙ sym (ap (λ (s : SubscriberState). s.packets) also.others);
          destination = ap (λ (s : SubscriberState). s.destination) met.others ∙ alike.destination
              ∙ sym (ap (λ (s : SubscriberState). s.destination) also.others);
          counters = subst (λ (v : VersionState). AreAlike v new.counters next.counters
              (pieces_after pieces happened) (pieces_after others happened)) (sym version_one)
              charged.alike;
        };
        rows = charged.rows;
        others_rows = charged.others_rows;
      };
    }

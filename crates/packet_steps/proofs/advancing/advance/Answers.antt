use Rattle.std.proofs.Common.{◌≡◌, ℕ, true, List, ◌++◌, map, filter, unwrap_or, refl, sym, ◌∙◌, ap, subst}
use Rattle.std.specs.List.{fold}
use Rattle.bearer_state.specs.Version.{VersionState}
use Rattle.packet_steps.specs.declared.releasing.Release.{Release}
use Rattle.charging_book.specs.Accounts as book
use Rattle.charging_book.specs.Postings.{happening_of, MayAllFollow}
use Rattle.packet_steps.specs.Rows.{HeldRow, held_in_order}
use Rattle.packet_steps.specs.Past.{Past}
use Rattle.packet_steps.specs.Change.{marks, markers, marked, released, learnt, waits}
use Rattle.packet_steps.specs.Meters.{MetersState, learnt_meters}
use Rattle.packet_steps.specs.Releases.{Releases}
use Rattle.packet_steps.specs.Standing.{CountersState, StandsFor, Follows}
use Rattle.charging_book.specs.Posted.{GoesFar}
use Rattle.packet_steps.specs.Running.{Brought, brought_by, brought_with, brought}
use Rattle.packet_steps.proofs.RunningLemmas.{same_brought}
use Rattle.packet_steps.proofs.OrderLemmas.{held_kept}
use Rattle.packet_steps.proofs.AdvanceLemmas.{release_starts, postings_follow, learnt_stands}
use Rattle.packet_steps.proofs.advancing.advance.Goals as goal

-- what was brought in all is what is learnt
past_brought : (c : goal.After-drop-release-2) (past : Past) → (taken : ℕ) → StandsFor c.args.counters.now past taken
    → past.version ≡ c.args.before.now
    → Follows past c.args.after.now → Releases c.look_at_all.new.release past.charged (learnt past c.args.after.now)
past_brought c past taken stands same follows =
    let old = c.args.counters.now in
    let after = c.args.after.now in
    let begun : Release = record { meters = c.learn.new.self; postings = c.in_ok-postings.postings; effects = c.in_ok-effects.effects } in
    let starts = release_starts old past taken after begun stands follows c.bearers-bearers.ensures.valid
    (c.in_ok-learn.ensures ∙ ap (λ (m : MetersState). learnt_meters c.args.before.now after m)
    (c.in_ok-meters.ensures ∙ ap (λ (s : CountersState). s.meters) c.counters.view_is)
    ∙ ap (λ (v : VersionState). learnt_meters v after old.meters) (sym same))
    (c.in_ok-postings.ensures ∙ ap (λ (v : VersionState). marks v after) (sym same))
    (c.in_ok-effects.ensures ∙ ap (λ (v : VersionState). markers v after) (sym same)) in
    let now = ap (λ last. unwrap_or last 0)
    (sym (ap (λ (s : CountersState). s.last) c.counters.view_is ∙ stands.last)) ∙ sym c.last_moment-at.ensures in
    subst (λ (rows : List HeldRow). Releases c.look_at_all.new.release past.charged
    (fold released (marked past after, markers past.version after) rows))
    (c.deref.ensures.value ∙ ap (λ (s : CountersState). s.held) c.counters.view_is ∙ stands.held)
    (c.in_ok-look_at_all.ensures.releases past.charged (marked past after, markers past.version after) starts refl now)

pub returns-clause-effects : goal.returns-clause-effects
returns-clause-effects c = λ past taken stands same follows. c.of.ensures
    ∙ (past_brought c past taken stands same follows).effects

pub returns-clause-stands : goal.returns-clause-stands
returns-clause-stands c = λ past taken stands same follows.
    let old = c.args.counters.now in
    let after = c.args.after.now in
    let release = c.look_at_all.new.release in
    let all = past_brought c past taken stands same follows in
    let ranges = c.bearers-bearers.ensures.valid in
    let charges = subst (λ b. book.StandsFor b past.charged taken)
    (sym (ap (λ (s : CountersState). s.book) c.counters.view_is)) stands.charges in
    learnt_stands old _ past taken after release stands follows ranges all refl
    (subst (λ postings. book.StandsFor c.post.new.self
    (past.charged ++ map happening_of postings) taken) c.deref-2.ensures.value
    (c.in_ok-post.ensures.stands past.charged taken charges
    (subst (λ postings. MayAllFollow past.charged (map happening_of postings)) (sym c.deref-2.ensures.value)
    (postings_follow old past taken after release stands follows ranges all))))
    (c.keep_waiting.ensures
    ∙ ap (λ bearers. filter (λ
    (row : HeldRow). waits bearers row.life) c.counters.inside.held.items) c.bearers-bearers.ensures.value
    ∙ ap (λ (rows : List HeldRow). filter (λ (row : HeldRow). waits after.bearers row.life) rows)
    (ap (λ (s : CountersState). s.held) c.counters.view_is))
    (ap (λ (s : CountersState). s.last) c.counters.view_is)

-- what was brought in all, by the counters alone
brought_all : (c : goal.After-drop-release-2)
    → brought_by c.look_at_all.new.release ≡ brought c.args.before.now c.args.after.now c.args.counters.now
brought_all c =
    let old = c.args.counters.now in
    let before = c.args.before.now in
    let after = c.args.after.now in
    let begun : Release = record { meters = c.learn.new.self; postings = c.in_ok-postings.postings; effects = c.in_ok-effects.effects } in
    let start : Brought = record {
      meters = learnt_meters before after old.meters;
      charged = marks before after;
      effects = markers before after;
    } in
    let starts : brought_by begun ≡ start = same_brought (brought_by begun) start
    (c.in_ok-learn.ensures ∙ ap (learnt_meters before after)
    (c.in_ok-meters.ensures ∙ ap (λ (s : CountersState). s.meters) c.counters.view_is))
    c.in_ok-postings.ensures c.in_ok-effects.ensures in
    let now : c.last_moment-at.result ≡ unwrap_or old.last 0 = c.last_moment-at.ensures
    ∙ ap (λ last. unwrap_or last 0) (ap (λ (s : CountersState). s.last) c.counters.view_is) in
    c.in_ok-look_at_all.ensures.brings
    ∙ ap (λ (b : Brought). fold (brought_with after.bearers c.last_moment-at.result) b c.deref.result.now) starts
    ∙ ap (λ at. fold (brought_with after.bearers at) start c.deref.result.now) now
    ∙ ap (fold (brought_with after.bearers (unwrap_or old.last 0)) start)
    (c.deref.ensures.value ∙ ap (λ (s : CountersState). s.held) c.counters.view_is)

pub returns-clause-brings : goal.returns-clause-brings
returns-clause-brings c = c.of.ensures ∙ ap (λ (b : Brought). b.effects) (brought_all c)

pub returns-clause-goes_on : goal.returns-clause-goes_on
returns-clause-goes_on c =
    let old = c.args.counters.now in
    let after = c.args.after.now in
    let all = brought_all c in
    record {
      meters = ap (λ (b : Brought). b.meters) all;
      book = subst (λ (b : book.Accounts). GoesFar b c.post.new.self (brought c.args.before.now after old).charged)
          (ap (λ (s : CountersState). s.book) c.counters.view_is)
          (subst (GoesFar _ c.post.new.self)
          (ap (map happening_of) c.deref-2.ensures.value ∙ ap (λ (b : Brought). b.charged) all)
          c.in_ok-post.ensures.pieces);
      held = c.keep_waiting.ensures
          ∙ ap (λ bearers. filter (λ
          (row : HeldRow). waits bearers row.life) c.counters.inside.held.items) c.bearers-bearers.ensures.value
          ∙ ap (λ (rows : List HeldRow). filter (λ (row : HeldRow). waits after.bearers row.life) rows)
          (ap (λ (s : CountersState). s.held) c.counters.view_is);
      last = ap (λ (s : CountersState). s.last) c.counters.view_is;
    }

pub invariant_of-counters-2 : goal.invariant_of-counters-2
invariant_of-counters-2 c =
    subst (λ (rows : List HeldRow). held_in_order c.counters.inside.last rows ≡ true) (sym c.keep_waiting.ensures)
    (held_kept (λ (row : HeldRow). waits c.bearers-bearers.result.now row.life) c.counters.inside.last
    c.counters.inside.held.items c.counters.invariant)

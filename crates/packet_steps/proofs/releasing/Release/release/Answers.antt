use Rattle.std.proofs.Common.{ℕ, List, [], ◌∷◌, ◌++◌, false, length, refl, ◌∙◌, ap, arith}
use Rattle.std.proofs.lemmas.Slice.{pushed}
use Rattle.pc_base.specs.declared.effect.Effect.TheVariants as effect
use Rattle.pc_base.specs.declared.effect.Fate.TheVariants as fate
use Rattle.charging_book.specs.declared.accounts.posting.Posting.TheVariants.{Packet}
use Rattle.packet_steps.specs.Rows.{HeldRow}
use Rattle.packet_steps.specs.Messages.{gpdu}
use Rattle.packet_steps.proofs.ResultLemmas.{on_ok}
use Rattle.packet_steps.proofs.ReleaseLemmas.{passed_here, policed_more}
use Rattle.packet_steps.proofs.RunningLemmas.{brought_no, brought_yes}
use Rattle.packet_steps.proofs.releasing.Release.release.Goals as goal

pub returns-clause-releases : goal.returns-clause-releases
returns-clause-releases c = λ base so_far known ranges there same now.
    let old = c.args.self.now in
    let held = c.args.held.now in
    let octets = c.as_slice-octets.result.now in
    let own = c.as_slice-octets.ensures ∙ ap (λ (h : HeldRow). h.packet.octets) c.held.view_is in
    on_ok c.tell-2.result (λ effects.
    passed_here old c.tell-2.new.self base so_far held c.args.bearer.now c.args.peer c.tried-passes.result c.args.at octets own known ranges there now
    (c.tried-passes.ensures.tries so_far.0 known.meters there (omega (arith, now))) c.if-not-passes.false
    (c.tell-2.ensures.meters ∙ c.in_ok-try_put.ensures.put)
    (c.tell-2.ensures.postings
    ∙ pushed (Packet c.args.bearer.now.life false
    (length octets) c.args.at ∷ []) refl c.in_ok-push.was c.push.ensures.items)
    (effects
    ∙ ap (λ (text : List ℕ). old.effects.items
    ++ effect.Fate held.packet.number (fate.Down c.held.inside.life c.args.peer.addr text) ∷ []) c.in_ok-gpdu.ensures
    ∙ ap (λ life. old.effects.items
    ++ effect.Fate held.packet.number (fate.Down life c.args.peer.addr (gpdu c.args.peer octets)) ∷ [])
    (ap (λ (h : HeldRow). h.life) c.held.view_is)))
    c.tell-2.ensures.effects

pub returns-clause-brings : goal.returns-clause-brings
returns-clause-brings c =
    let old = c.args.self.now in
    let held = c.args.held.now in
    let octets = c.as_slice-octets.result.now in
    let own = c.as_slice-octets.ensures ∙ ap (λ (h : HeldRow). h.packet.octets) c.held.view_is in
    on_ok c.tell-2.result (λ effects.
    brought_yes old c.tell-2.new.self held c.args.bearer.now c.args.peer c.tried-passes.result c.args.at octets own
    c.tried-passes.ensures.left c.if-not-passes.false
    (c.tell-2.ensures.meters ∙ c.in_ok-try_put.ensures.put)
    (c.tell-2.ensures.postings
    ∙ pushed (Packet c.args.bearer.now.life false
    (length octets) c.args.at ∷ []) refl c.in_ok-push.was c.push.ensures.items)
    (effects
    ∙ ap (λ (text : List ℕ). old.effects.items
    ++ effect.Fate held.packet.number (fate.Down c.held.inside.life c.args.peer.addr text) ∷ []) c.in_ok-gpdu.ensures
    ∙ ap (λ life. old.effects.items
    ++ effect.Fate held.packet.number (fate.Down life c.args.peer.addr (gpdu c.args.peer octets)) ∷ [])
    (ap (λ (h : HeldRow). h.life) c.held.view_is)))
    c.tell-2.ensures.effects

pub returns-then-not-passes-clause-releases : goal.returns-then-not-passes-clause-releases
returns-then-not-passes-clause-releases c = λ base so_far known ranges there same now.
    let old = c.args.self.now in
    let held = c.args.held.now in
    let octets = c.as_slice-octets.result.now in
    let own = c.as_slice-octets.ensures ∙ ap (λ (h : HeldRow). h.packet.octets) c.held.view_is in
    on_ok c.tell.result (λ effects.
    policed_more old c.tell.new.self base so_far held c.args.bearer.now c.args.peer c.tried-passes.result c.args.at octets own
    known ranges there now (c.tried-passes.ensures.tries so_far.0 known.meters there (omega (arith, now)))
    c.if-not-passes.true (c.tell.ensures.meters ∙ c.in_ok-try_put.ensures.put) c.tell.ensures.postings
    (effects ∙ ap (λ life. old.effects.items ++ effect.Fate held.packet.number (fate.Policed life) ∷ [])
    (ap (λ (h : HeldRow). h.life) c.held.view_is)))
    c.tell.ensures.effects

pub returns-then-not-passes-clause-brings : goal.returns-then-not-passes-clause-brings
returns-then-not-passes-clause-brings c =
    let old = c.args.self.now in
    let held = c.args.held.now in
    let octets = c.as_slice-octets.result.now in
    let own = c.as_slice-octets.ensures ∙ ap (λ (h : HeldRow). h.packet.octets) c.held.view_is in
    on_ok c.tell.result (λ effects.
    brought_no old c.tell.new.self held c.args.bearer.now c.args.peer c.tried-passes.result c.args.at octets own
    c.tried-passes.ensures.left c.if-not-passes.true (c.tell.ensures.meters ∙ c.in_ok-try_put.ensures.put) c.tell.ensures.postings
    (effects ∙ ap (λ life. old.effects.items ++ effect.Fate held.packet.number (fate.Policed life) ∷ [])
    (ap (λ (h : HeldRow). h.life) c.held.view_is)))
    c.tell.ensures.effects

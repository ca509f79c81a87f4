use Rattle.std.proofs.Common.{◌++◌, take, sym, ◌∙◌, ap}
use Rattle.std.specs.List.{flat_map}
use Rattle.std.proofs.lemmas.List.{take_all}
use Rattle.packet_steps.specs.Change.{enb_of, marker_between, marker_for}
use Rattle.packet_steps.proofs.ListLemmas.{flat_map_more}
use Rattle.packet_steps.proofs.changing.markers.Goals as goal

pub loop-bearer-preserved : goal.loop-bearer-preserved
loop-bearer-preserved c =
    let xs = c.bearers-bearer-items.result.now in
    let place = c.loop-bearer.bearer-index in
    let item = c.bearer-item.result in
    let seen = flat_map (marker_for c.args.after.now) (take place xs) in
    c.in_ok-push_marker.ensures
    ∙ ap (λ effects. effects ++ marker_between item.life item.enb c.enb_of.result) c.loop-bearer.invariant
    ∙ ap (λ enb. seen ++ marker_between item.life item.enb enb)
    (c.enb_of.ensures ∙ ap (λ bearers. enb_of bearers item.life) c.bearers.ensures.value)
    ∙ sym (flat_map_more (marker_for c.args.after.now) xs place item c.loop-bearer-test.true c.bearer-item.is)

pub returns : goal.returns
returns c =
    c.loop-bearer.invariant
    ∙ ap (flat_map (marker_for c.args.after.now))
    (take_all c.loop-bearer.bearer-index c.bearers-bearer-items.result.now c.loop-bearer-test.false
    ∙ c.bearers-bearer-items.ensures.value)

use Rattle.std.proofs.Common.{refl, sym, ap, ◌∙◌}
use Rattle.migration.specs.DataSteps.{is_full, no_item}
use Rattle.front_core.proofs.Receiving.{comes_back, makes_items, may_accept, received}
use Rattle.front_core.proofs.halves.Halves.try_packet.Goals as goal

pub item_of-item-requires : goal.item_of-item-requires
item_of-item-requires g c =
    makes_items c.args.self.now c.slot.inside.0 c.args.slot c.slot.view_is c.requires c.index.result.now c.index.ensures

pub accept-requires : goal.accept-requires
accept-requires g c =
    may_accept c.args.self.now c.slot.inside.0 c.args.slot c.slot.view_is c.requires c.index_mut.result.now
    c.index_mut.ensures.value

pub returns-in-Ok-clause-tries : goal.returns-in-Ok-clause-tries
returns-in-Ok-clause-tries g c =
    received c.args.self.now c.slot.inside.0 c.args.slot c.slot.view_is c.requires c.args.line c.args.packet
    c.item_of-item.result c.index.result.now c.index.ensures c.item_of-item.ensures _ c.in-Ok.parked
    c.index_mut.result.now c.accept.new.lot c.index_mut.ensures.value c.in-Ok.ensures.told refl refl c.accept.ensures
    c.in-Ok.ensures.given

pub returns-in-Err-Full-clause-tries : goal.returns-in-Err-Full-clause-tries
returns-in-Err-Full-clause-tries g c =
    let is = c.in-Err-Full.field-0-is in
    comes_back c.args.self.now c.slot.inside.0 c.args.slot c.slot.view_is c.requires c.args.line c.args.packet
    c.item_of-item.result c.index.result.now c.index.ensures c.item_of-item.ensures _
    c.in-Err-Full.item (sym (ap no_item is) ∙ c.in-Err-Full.ensures.refused.0) c.in-Err-Full.ensures.refused.1 refl refl
    (λ lane are. c.in-Err-Full.ensures.full lane are (ap is_full is)) c.saturating_add-self.ensures
    (rw is at c.in-Err-Full.ensures.count)

pub returns-in-Err-Full-clause-counts : goal.returns-in-Err-Full-clause-counts
returns-in-Err-Full-clause-counts g c = c.saturating_add-self.ensures

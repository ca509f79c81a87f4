use Rattle.std.proofs.Common.{◌≡◌, ◌<◌, ◌∷◌, [], ◌++◌, ap, sym, ◌∙◌, subst, arith, length}
use Rattle.std.specs.List.{All, sum_by}
use Rattle.std.proofs.lemmas.List.{get_or_read}
use Rattle.std.proofs.lemmas.List.FromFn.{map-range_with_len_more}
use Rattle.balance_plan.specs.Loads.{IsBelow, SlotsRise}
use Rattle.balance_plan.specs.declared.load.Load.{Load}
use Rattle.balance_plan.proofs.LoadLemmas.{load_read, loads_are, loads_read, read_below, read_packets, read_rise, read_slots}
use Rattle.balance_plan.proofs.writing.Writer.loads.Goals as goal

pub loop-slot-preserved : goal.loop-slot-preserved
loop-slot-preserved c =
    let slot = c.loop-slot.slot in
    let bound = c.args.self.now.bound.items in
    let counts = c.in_ok-counts.counts.items in
    let slice = get_or_read bound slot c.index.result.now (omega arith) c.index.ensures 0 in
    let packets = get_or_read counts slot c.index-in-loop-slot.result.now (omega (arith, c.in_ok-counts.ensures.many)) c.index-in-loop-slot.ensures 0 in
    c.in_ok-push.ensures.items
    ∙ (λ i. c.loop-slot.invariant i ++ record { slot = slot; slice = slice i; packets = packets i } ∷ [])
    ∙ sym (map-range_with_len_more (load_read bound counts) 0 slot slot (omega arith))

pub returns-clause-loads : goal.returns-clause-loads
returns-clause-loads c = λ written stands.
    let whole : c.loop-slot.slot ≡ c.len-slots.result = omega arith in
    c.loop-slot.invariant
    ∙ ap (loads_read c.args.self.now.bound.items c.in_ok-counts.counts.items) whole
    ∙ loads_are c.args.self.now written c.in_ok-counts.counts.items c.len-slots.result c.args.before
    c.args.self.now.lines c.args.told.now.entries.now c.requires.writer stands c.len-slots.ensures.length
    (omega (arith, c.len-slots.ensures.length, c.len-slots.ensures.book.short)) c.in_ok-counts.ensures

pub returns-clause-rise : goal.returns-clause-rise
returns-clause-rise c =
    subst SlotsRise (sym c.loop-slot.invariant)
    (read_rise c.args.self.now.bound.items c.in_ok-counts.counts.items c.loop-slot.slot)

pub returns-clause-below : goal.returns-clause-below
returns-clause-below c =
    subst (All (IsBelow c.args.self.now.slices)) (sym c.loop-slot.invariant)
    (read_below c.args.self.now.bound.items c.in_ok-counts.counts.items c.loop-slot.slot c.args.self.now.slices
    c.requires.writer.below (omega (arith, c.len-slots.ensures.length, c.len-slots.ensures.book.short)))

pub returns-clause-packets : goal.returns-clause-packets
returns-clause-packets c =
    let whole : c.loop-slot.slot ≡ c.len-slots.result = omega arith in
    omega (
      arith,
      ap (sum_by (λ (l : Load). l.packets)) (c.loop-slot.invariant
          ∙ ap (loads_read c.args.self.now.bound.items c.in_ok-counts.counts.items) whole),
      read_packets c.args.self.now.bound.items c.in_ok-counts.counts.items c.len-slots.result c.args.before
          c.args.self.now.lines c.args.told.now.entries.now c.in_ok-counts.ensures,
      c.requires.told.few,
    )

pub returns-clause-slots : goal.returns-clause-slots
returns-clause-slots c =
    let whole : c.loop-slot.slot ≡ length c.args.self.now.book = omega (arith, c.len-slots.ensures.length) in
    subst (λ n. All (λ (l : Load). l.slot < n) c.loop-slot.loads.items) whole
    (subst (All (λ (l : Load). l.slot < c.loop-slot.slot)) (sym c.loop-slot.invariant)
    (read_slots c.args.self.now.bound.items c.in_ok-counts.counts.items c.loop-slot.slot))

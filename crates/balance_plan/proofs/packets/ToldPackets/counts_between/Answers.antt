use Rattle.std.proofs.Common.{ℕ, ◌+◌, ◌==◌, sym, ap, ◌∙◌, arith}
use Rattle.std.specs.List.{count_by}
use Rattle.std.specs.Global.{Vec}
use Rattle.balance_plan.specs.Packets.{packets_between}
use Rattle.balance_plan.proofs.PacketLemmas.{between_more, between_none}
use Rattle.balance_plan.proofs.packets.ToldPackets.counts_between.Goals as goal

pub loop-number-init : goal.loop-number-init
loop-number-init c = record {
  many = c.in_ok-counts.ensures.many;
  each = λ slot below. c.in_ok-counts.ensures.each slot below
      ∙ sym (between_none c.args.since c.args.self.now.entries.now slot);
}

pub loop-number-preserved : goal.loop-number-preserved
loop-number-preserved c = record {
  many = c.add.ensures.many ∙ c.loop-number.invariant.many;
  each = λ slot below.
      c.add.ensures.each slot (omega (arith, below, c.loop-number.invariant.many))
      ∙ ap (λ n. n + count_by (λ s. s == slot) c.deref.result.now) (c.loop-number.invariant.each slot below)
      ∙ ap (λ n. packets_between c.args.since c.loop-number.number c.args.self.now.entries.now slot + n)
      (ap (count_by (λ s. s == slot)) (c.deref.ensures.value ∙ ap (λ (v : Vec ℕ). v.items) c.index.ensures)
      ∙ c.requires.told.each c.loop-number.number slot c.index.result.now (omega arith))
      ∙ sym (between_more c.args.since c.loop-number.number c.args.self.now.entries.now slot (omega arith));
}

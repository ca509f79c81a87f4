use Rattle.std.proofs.Common.{◌≡◌, refl, arith, rules}
use Rattle.epoch_drive.proofs.Keeping.{takes_so}
use Rattle.epoch_drive.proofs.gateway.DrivenGateway.take_any.Goals as goal

pub decide_line-requires-clause-slices : goal.decide_line-requires-clause-slices
decide_line-requires-clause-slices c =
    let set_up = c.requires.2.set_up in (
      omega (arith, set_up.same_slices, set_up.some_slices),
      omega (arith, set_up.same_slices, set_up.few_slices),
    )

pub decide_line-requires-clause-many : goal.decide_line-requires-clause-many
decide_line-requires-clause-many c =
    omega (arith, c.requires.2.are.turned.many, c.args.self.now.subscribers.ok.0)

pub returns : goal.returns
returns c = λ start taken has.
    let moment : c.line-inside.inside.0.1.0.0 ≡ c.args.line.now.moment = search rules in
    takes_so start taken c.args.self.now (record c.args.self.now {
      book = c.decide_line.new.book;
      subscribers = c.decide_line.new.subscribers;
      latest = c.line-inside.inside.0.1.0.0;
    }) c.args.lines.now c.keep.new.lines c.args.line.now c.in_ok-meant.meant has c.in_ok-meant.ensures
    c.in_ok-keep.ensures (refl, refl, refl, refl) moment

use Rattle.std.proofs.Common.{◌≡◌, refl, sym, ◌∙◌, rules}
use Rattle.check_fronts.proofs.Opens.{stays_open}
use Rattle.check_fronts.proofs.bench.Bench.take.Goals as goal

pub line-requires-clause-whole : goal.line-requires-clause-whole
line-requires-clause-whole g c = c.requires.open_.workers.whole

pub returns : goal.returns
returns g c =
    let took = c.in_ok-_took.ensures in
    let moment : c.line.inside.moment ≡ c.args.line.now.moment = search rules in
    record {
      setup = c.requires.setup;
      open_ = stays_open c.args.self.now.opened _ c.requires.open_ took.whole took.opened took.lanes.0 took.lanes.1 refl
          refl refl;
      latest = took.counts.1 ∙ sym moment;
    }

use Rattle.packet_steps.specs.Meters.{in_use}
use Rattle.packet_steps.proofs.HistoryLemmas.{tried_so}
use Rattle.packet_steps.proofs.RunningLemmas.{left_is}
use Rattle.packet_steps.proofs.meters.Meters.tried.Goals as goal

pub returns-clause-tries : goal.returns-clause-tries
returns-clause-tries c = λ past stands there late.
    tried_so (in_use c.args.self.now) past c.args.bearer.now c.args.up c.args.at c.args.octets c.bucket-bucket.result
    c.ask-passes.new.bucket c.ask-passes.result c.bucket-bucket.ensures stands there late (record {
      tested = c.ask-passes.ensures.tested;
      charged = c.ask-passes.ensures.charged;
      rate = c.ask-passes.ensures.rate;
      asked = c.ask-passes.ensures.asked;
    })

pub returns-clause-left : goal.returns-clause-left
returns-clause-left c = left_is (in_use c.args.self.now) c.args.bearer.now c.args.up c.args.octets c.args.at
    c.bucket-bucket.result (c.ask-passes.result, c.ask-passes.new.bucket) c.bucket-bucket.ensures
    c.ask-passes.ensures.within c.ask-passes.ensures.parts

use Rattle.tft_codec.proofs.Bounds.{written, written_bound}
use Rattle.tft_codec.proofs.writing.write.Goals as goal

pub returns-clause-reads_back : goal.returns-clause-reads_back
returns-clause-reads_back c = written c.text_of.result c.args.tft.now c.known.ensures c.text_of.ensures

pub returns-clause-bound : goal.returns-clause-bound
returns-clause-bound c = written_bound c.text_of.result c.args.tft.now c.known.ensures c.text_of.ensures

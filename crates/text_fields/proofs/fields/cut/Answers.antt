use Rattle.std.proofs.lemmas.List.{take_rest}
use Rattle.text_fields.proofs.CutLemmas.{cut_found, cut_nowhere}
use Rattle.text_fields.proofs.fields.cut.Goals as goal

pub returns-in-Some-clause-pieces : goal.returns-in-Some-clause-pieces
returns-in-Some-clause-pieces c = rw take_rest (cut_found c.args.at c.args.text.now c.in-Some.place c.in-Some.ensures)

pub returns-in-None-clause-pieces : goal.returns-in-None-clause-pieces
returns-in-None-clause-pieces c = cut_nowhere c.args.at c.args.text.now c.in-None.ensures

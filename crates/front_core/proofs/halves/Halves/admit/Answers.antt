use Rattle.std.proofs.Common.{◌∙◌, inl, refl, sym}
use Rattle.front_core.specs.Lots.{lot_of}
use Rattle.front_core.proofs.Lots.{split_is, unsplit_is}
use Rattle.front_core.proofs.Settling.{settles_none}
use Rattle.front_core.proofs.halves.Halves.admit.Goals as goal

pub returns-then-is_split-clause-ready : goal.returns-then-is_split-clause-ready
returns-then-is_split-clause-ready g c =
    let found = split_is (lot_of c.args.self.now.lots.items c.args.slot) (sym c.is_split.ensures ∙ c.if-is_split.true)
    in
    inl (record { end = found.0; lot = found.1; same = refl; settles = settles_none c.args.self.now })

pub split_at-requires-clause-unsplit : goal.split_at-requires-clause-unsplit
split_at-requires-clause-unsplit g c =
    unsplit_is (lot_of c.args.self.now.lots.items c.args.slot) (sym c.is_split.ensures ∙ c.if-is_split.false)

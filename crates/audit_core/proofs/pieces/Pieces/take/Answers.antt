use Rattle.std.proofs.Common.{rules, ◌≡◌, bytes_eq, false, refl}
use Rattle.audit_core.specs.Said.{marker}
use Rattle.audit_core.proofs.PieceHeard.{hears_marker}
use Rattle.audit_core.proofs.pieces.Pieces.take.Goals as goal

pub returns-then-eq-clause-hears : goal.returns-then-eq-clause-hears
returns-then-eq-clause-hears c = λ known piece hears.
    let is : c.args.text.now ≡ marker = search rules in
    hears_marker c.args.self.now _ known piece c.args.text.now hears c.if-self.false is refl refl refl
    (record { setup = refl; least = refl; book = refl; subscribers = refl; kept = refl; octets = refl; open_octets = refl; ended = refl; over = refl; stopped = refl })
    refl refl

pub take_line-requires-clause-other : goal.take_line-requires-clause-other
take_line-requires-clause-other c =
    let other : bytes_eq c.args.text.now marker ≡ false = search rules in other

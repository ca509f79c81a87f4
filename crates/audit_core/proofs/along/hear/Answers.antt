use Rattle.std.proofs.Common.{rules, ◌≡◌, ◌≤◌, ◌∷◌, [], ◌++◌, IfNone, IfSome, bytes_eq, false, refl, sym, ap, subst, arith, append-nil}
use Rattle.std.proofs.KnownBytes.{Appends-nil}
use Rattle.audit_core.specs.Along.{turn}
use Rattle.audit_core.specs.Following.{Follows, GoesOnSo, StopsSo, weight_of}
use Rattle.audit_core.proofs.AlongSteps.{follows_line}
use Rattle.audit_core.proofs.AlongTold.{few_lines, memory_stops, none_more}
use Rattle.audit_core.proofs.along.hear.Goals as goal

pub returns-then-eq-clause-goes_on : goal.returns-then-eq-clause-goes_on
returns-then-eq-clause-goes_on g c = λ under texts said follows.
    let is : c.args.text.now ≡ turn = search rules in
    subst (λ t. IfNone c.turn.result (GoesOnSo under c.turn.new.pieces (texts ++ t ∷ []) said
    (g.K.Sink.written c.args.sink.now) (g.K.Sink.written c.turn.new.sink))) (sym is)
    (c.turn.ensures.goes_on under texts said follows)

pub returns-then-eq-clause-stops : goal.returns-then-eq-clause-stops
returns-then-eq-clause-stops g c = λ under texts said follows.
    let is : c.args.text.now ≡ turn = search rules in
    subst (λ t. IfSome c.turn.result (λ ending. StopsSo ending c.args.why under (texts ++ t ∷ []) said
    (g.K.Sink.written c.args.sink.now) (g.K.Sink.written c.turn.new.sink))) (sym is)
    (c.turn.ensures.stops under texts said follows)

pub take-requires-clause-few : goal.take-requires-clause-few
take-requires-clause-few g c =
    let a = c.args.pieces.now.kept.ok in
    omega (arith, few_lines c.args.pieces.now c.requires.few)

pub take-requires-clause-hears : goal.take-requires-clause-hears
take-requires-clause-hears g c = let f = c.requires.follows.3 in (f.known, f.piece, f.hears)

pub returns-in-Ok-clause-goes_on : goal.returns-in-Ok-clause-goes_on
returns-in-Ok-clause-goes_on g c = λ under texts said follows.
    let other : bytes_eq c.args.text.now turn ≡ false = search rules in
    record {
      more = [];
      written = Appends-nil (g.K.Sink.written c.args.sink.now);
      follows = subst (Follows under c.take.new.self (texts ++ c.args.text.now ∷ [])) (sym (append-nil said))
          (follows_line under c.args.pieces.now texts said follows c.take.new.self c.args.text.now other
          c.take.ensures.setup (c.in-Ok.ensures.hears follows.known follows.piece follows.hears));
    }

pub returns-in-Err-clause-stops : goal.returns-in-Err-clause-stops
returns-in-Err-clause-stops g c = λ under texts said follows.
    memory_stops under c.args.pieces.now texts said follows c.args.why _ c.args.text.now

pub returns-then-eq-clause-weight : goal.returns-then-eq-clause-weight
returns-then-eq-clause-weight g c = λ under texts said follows.
    none_more c.turn.result (λ (low : weight_of c.turn.new.pieces ≤ weight_of c.args.pieces.now). (omega arith))
    (c.turn.ensures.weight under texts said follows)

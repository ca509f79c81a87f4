use Rattle.std.proofs.Common.{Some, ◌≡◌, ◌+◌, ◌≤◌, ◌∷◌, [], ◌++◌, length, refl, sym, ap, ◌∙◌, subst, arith}
use Rattle.std.proofs.KnownBytes.{Appends-nil}
use Rattle.std.specs.Io.KnownBytes.{prepend_known}
use Rattle.pc_outside.specs.Held.{Held}
use Rattle.pc_outside.specs.InputRead.{HasRead, Reached}
use Rattle.pc_outside.specs.Texts.{texts_of}
use Rattle.pc_outside.specs.WhereTold.{WhereTold}
use Rattle.pc_outside.specs.declared.input_stop.InputStop.TheVariants as stopped
use Rattle.pc_outside.proofs.KnownOctets.{appends_both}
use Rattle.pc_outside.proofs.InputLemmas.{ends_big, ends_ended, ends_last, ends_long, fails_behind, read_more, room_of_whole, starts_fresh}
use Rattle.audit_core.specs.Following.{GoesOnSo, weight_of}
use Rattle.audit_core.specs.Setups.{setup_of}
use Rattle.audit_core.proofs.AlongReads.{line_later, reads_on, room_any}
use Rattle.audit_core.proofs.AlongSteps.{follows_none, lawful_said}
use Rattle.audit_core.proofs.AlongTold.{big_along, ends_along, fault_along, long_along, rises_from, some_of, stops_along}
use Rattle.audit_core.proofs.WhyFound.{none_when}
use Rattle.audit_core.proofs.along.go_along.Goals as goal

pub loop-pieces-init : goal.loop-pieces-init
loop-pieces-init g c = record {
  reads = record {
    done = [];
    said = [];
    read = starts_fresh (g.S.Source.left c.args.source.now) c.args.buf.now c.requires.fresh;
    follows = follows_none (setup_of c.args.pieces.now.setup) c.args.pieces.now refl c.requires.nothing;
    written = Appends-nil (g.K.Sink.written c.args.sink.now);
    roomy = omega (arith, c.requires.weight, ap (λ (held : Held). held.room) c.requires.fresh);
  };
  no_fault = refl;
  sink_later = omega arith;
}

pub hear-ending-requires-clause-few : goal.hear-ending-requires-clause-few
hear-ending-requires-clause-few g c =
    let reads = c.loop-pieces.invariant.reads in
    omega (arith, reads.roomy)

pub hear-ending-requires-clause-follows : goal.hear-ending-requires-clause-follows
hear-ending-requires-clause-follows g c =
    let reads = c.loop-pieces.invariant.reads in
    (setup_of c.args.pieces.now.setup, reads.done, reads.said, reads.follows)

pub loop-pieces-preserved : goal.loop-pieces-preserved
loop-pieces-preserved g c =
    let reads = c.loop-pieces.invariant.reads in
    let setup = setup_of c.args.pieces.now.setup in
    let more = sym c.is_last.ensures ∙ c.if-is_last.false in
    let goes : GoesOnSo setup c.hear-ending.new.pieces (reads.done ++ c.line.result.now ∷ []) reads.said
    (g.K.Sink.written c.loop-pieces.sink) (g.K.Sink.written c.hear-ending.new.sink) =
    none_when c.hear-ending.result (c.hear-ending.ensures.goes_on setup reads.done reads.said reads.follows)
    c.in_default.not-Some in
    let weight : weight_of c.hear-ending.new.pieces ≤ weight_of c.loop-pieces.pieces + length c.line.result.now + 1 =
    none_when c.hear-ending.result (c.hear-ending.ensures.weight setup reads.done reads.said reads.follows)
    c.in_default.not-Some in
    record {
      reads = reads_on setup c.loop-pieces.pieces c.hear-ending.new.pieces _ _ _ _ _ _ _ _ c.line.result.now reads
          (room_of_whole _ _ _ _ _ _ more c.in-Line.ensures.held.1 ∙ (omega (arith, ap length c.line.ensures)))
          (subst (λ t. WhereTold (g.S.Source.left c.args.source.now)
          (prepend_known c.read_line.new.buf.buffered (g.S.Source.left c.read_line.new.source))
          (λ octets rest. HasRead octets rest c.read_line.new.buf.room (reads.done ++ t ∷ []))) (sym c.line.ensures)
          (read_more _ _ _ _ _ _ _ reads.done more reads.read c.in-Line.ensures.octets)) goes weight;
      no_fault = c.in-Line.ensures.no_fault (λ is. let none : ⊥ = cc in none) ∙ c.loop-pieces.invariant.no_fault;
      sink_later = omega (arith, c.loop-pieces.invariant.sink_later, c.hear-ending.ensures.later);
    }

pub returns-in-Some-clause-goes : goal.returns-in-Some-clause-goes
returns-in-Some-clause-goes g c =
    let reads = c.loop-pieces.invariant.reads in
    let setup = setup_of c.args.pieces.now.setup in
    stops_along c.args.why setup _ _ _ _ _ (reads.done ++ c.line.result.now ∷ []) reads.said reads.written
    c.in-Some.ending
    (some_of _ c.hear-ending.result c.in-Some.ending c.in-Some.is
    (c.hear-ending.ensures.stops setup reads.done reads.said reads.follows))
    (subst (λ t. WhereTold (g.S.Source.left c.args.source.now) (g.S.Source.left c.read_line.new.source)
    (λ octets rest. (later : _) × ((texts_of octets).lines ≡ (reads.done ++ t ∷ []) ++ later))) (sym c.line.ensures)
    (line_later _ _ _ _ _ _ _ _ reads.done reads.read c.in-Line.ensures.octets))

pub finish-requires : goal.finish-requires
finish-requires g c =
    let reads = c.loop-pieces.invariant.reads in
    let setup = setup_of c.args.pieces.now.setup in
    let goes : GoesOnSo setup c.hear-ending.new.pieces (reads.done ++ c.line.result.now ∷ []) reads.said
    (g.K.Sink.written c.loop-pieces.sink) (g.K.Sink.written c.hear-ending.new.sink) =
    none_when c.hear-ending.result (c.hear-ending.ensures.goes_on setup reads.done reads.said reads.follows)
    c.in_default.not-Some in
    (setup, _, _, goes.follows)

pub finish-requires-in-End : goal.finish-requires-in-End
finish-requires-in-End g c =
    let reads = c.loop-pieces.invariant.reads in
    (setup_of c.args.pieces.now.setup, reads.done, reads.said, reads.follows)

pub returns-in-LineLong-clause-goes : goal.returns-in-LineLong-clause-goes
returns-in-LineLong-clause-goes g c =
    let reads = c.loop-pieces.invariant.reads in
    let setup = setup_of c.args.pieces.now.setup in
    long_along c.args.why setup _ _ _ _ reads.done reads.said reads.written
    (lawful_said setup c.loop-pieces.pieces reads.done reads.said reads.follows)
    (ends_long _ _ _ _ _ _ _ _ reads.done reads.read c.in-LineLong.ensures.octets)

pub returns-in-TooLong-clause-goes : goal.returns-in-TooLong-clause-goes
returns-in-TooLong-clause-goes g c =
    let reads = c.loop-pieces.invariant.reads in
    let setup = setup_of c.args.pieces.now.setup in
    big_along c.args.why setup _ _ _ _ reads.done reads.said reads.written
    (lawful_said setup c.loop-pieces.pieces reads.done reads.said reads.follows)
    (ends_big _ _ _ _ _ _ _ _ reads.done reads.read c.in-TooLong.ensures.octets)

pub returns-in-ReadFault-clause-goes : goal.returns-in-ReadFault-clause-goes
returns-in-ReadFault-clause-goes g c =
    let reads = c.loop-pieces.invariant.reads in
    let setup = setup_of c.args.pieces.now.setup in
    fault_along c.args.why setup _ _ _ _ reads.done reads.said reads.written
    (lawful_said setup c.loop-pieces.pieces reads.done reads.said reads.follows)
    (fails_behind _ _ _ _ c.read_line.new.buf _ _ reads.done (c.in-ReadFault.ensures.unfinished refl) reads.read
    c.in-ReadFault.ensures.octets)

pub returns-in-End-clause-goes : goal.returns-in-End-clause-goes
returns-in-End-clause-goes g c =
    let reads = c.loop-pieces.invariant.reads in
    let setup = setup_of c.args.pieces.now.setup in
    ends_along c.args.why setup _ _ _ _ _ reads.done reads.said reads.written _
    (c.finish-in-End.ensures.ends setup reads.done reads.said reads.follows)
    (ends_ended _ _ _ _ _ _ _ _ reads.done reads.read c.in-End.ensures.octets)

pub returns-then-is_last-clause-goes : goal.returns-then-is_last-clause-goes
returns-then-is_last-clause-goes g c =
    let reads = c.loop-pieces.invariant.reads in
    let setup = setup_of c.args.pieces.now.setup in
    let last = sym c.is_last.ensures ∙ c.if-is_last.true in
    let goes : GoesOnSo setup c.hear-ending.new.pieces (reads.done ++ c.line.result.now ∷ []) reads.said
    (g.K.Sink.written c.loop-pieces.sink) (g.K.Sink.written c.hear-ending.new.sink) =
    none_when c.hear-ending.result (c.hear-ending.ensures.goes_on setup reads.done reads.said reads.follows)
    c.in_default.not-Some in
    ends_along c.args.why setup _ _ _ _ _ (reads.done ++ c.line.result.now ∷ []) (reads.said ++ goes.more)
    (appends_both _ _ _ reads.said goes.more reads.written goes.written) _
    (c.finish.ensures.ends setup _ _ goes.follows)
    (subst (λ t. WhereTold (g.S.Source.left c.args.source.now) (g.S.Source.left c.read_line.new.source)
    (λ octets rest. Reached stopped.Ended octets rest (reads.done ++ t ∷ []))) (sym c.line.ensures)
    (ends_last _ _ _ _ _ _ _ _ reads.done last reads.read c.in-Line.ensures.octets))

pub returns-in-Some-clause-read_fault : goal.returns-in-Some-clause-read_fault
returns-in-Some-clause-read_fault g c = λ is. absurd (c.hear-ending.ensures.no_read (c.in-Some.is ∙ ap Some is))

pub returns-in-Some-clause-no_fault : goal.returns-in-Some-clause-no_fault
returns-in-Some-clause-no_fault g c = λ other.
    c.in-Line.ensures.no_fault (λ is. let none : ⊥ = cc in none) ∙ c.loop-pieces.invariant.no_fault

pub returns-in-Some-clause-write_fault : goal.returns-in-Some-clause-write_fault
returns-in-Some-clause-write_fault g c = λ is.
    rises_from _ _ _ c.loop-pieces.invariant.sink_later (c.hear-ending.ensures.fault (c.in-Some.is ∙ ap Some is))

pub returns-then-is_last-clause-read_fault : goal.returns-then-is_last-clause-read_fault
returns-then-is_last-clause-read_fault g c = λ is. absurd (c.finish.ensures.no_read is)

pub returns-then-is_last-clause-no_fault : goal.returns-then-is_last-clause-no_fault
returns-then-is_last-clause-no_fault g c = λ other.
    c.in-Line.ensures.no_fault (λ is. let none : ⊥ = cc in none) ∙ c.loop-pieces.invariant.no_fault

pub returns-then-is_last-clause-write_fault : goal.returns-then-is_last-clause-write_fault
returns-then-is_last-clause-write_fault g c = λ is.
    rises_from _ _ _ (omega (arith, c.loop-pieces.invariant.sink_later, c.hear-ending.ensures.later))
    (c.finish.ensures.fault is)

pub returns-in-End-clause-read_fault : goal.returns-in-End-clause-read_fault
returns-in-End-clause-read_fault g c = λ is. absurd (c.finish-in-End.ensures.no_read is)

pub returns-in-End-clause-write_fault : goal.returns-in-End-clause-write_fault
returns-in-End-clause-write_fault g c = λ is.
    rises_from _ _ _ c.loop-pieces.invariant.sink_later (c.finish-in-End.ensures.fault is)

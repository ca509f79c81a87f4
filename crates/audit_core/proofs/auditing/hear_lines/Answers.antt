use Rattle.std.proofs.Common.{◌∷◌, [], ◌++◌, length, refl, sym, ap, ◌∙◌, subst, arith}
use Rattle.std.specs.Io.KnownBytes.{prepend_known}
use Rattle.pc_outside.specs.InputRead.{HasRead, Reached}
use Rattle.pc_outside.specs.Held.{Held}
use Rattle.pc_outside.specs.WhereTold.{WhereTold}
use Rattle.pc_outside.specs.declared.input_stop.InputStop.TheVariants as stopped
use Rattle.pc_outside.proofs.InputLemmas.{ends_big, ends_ended, fails_behind, ends_last, ends_long, read_more, room_of_whole, starts_fresh}
use Rattle.audit_core.proofs.auditing.hear_lines.Goals as goal

pub returns-then-is_last-clause-ended : goal.returns-then-is_last-clause-ended
returns-then-is_last-clause-ended g c =
    let p = c.loop-heard.invariant.progress in
    let last = sym c.is_last.ensures ∙ c.if-is_last.true in
    record {
      done = p.0 ++ c.line.result.now ∷ [];
      hears = c.in_ok-take-in-Line.ensures.heard p.0 p.1.hears;
      reached = subst (λ t. WhereTold (g.S.Source.left c.args.source.now) (g.S.Source.left c.read_line.new.source)
          (λ octets rest. Reached stopped.Ended octets rest (p.0 ++ t ∷ []))) (sym c.line.ensures)
          (ends_last _ _ _ _ _ _ _ _ p.0 last p.1.read c.in-Line.ensures.octets);
    }

pub loop-heard-preserved : goal.loop-heard-preserved
loop-heard-preserved g c =
    let p = c.loop-heard.invariant.progress in
    let more = sym c.is_last.ensures ∙ c.if-is_last.false in
    let room = room_of_whole _ _ _ _ _ _ more c.in-Line.ensures.held.1 in
    record {
      progress = (
        p.0 ++ c.line.result.now ∷ [],
        record {
          read = subst (λ t. WhereTold (g.S.Source.left c.args.source.now)
              (prepend_known c.read_line.new.buf.buffered (g.S.Source.left c.read_line.new.source))
              (λ octets rest. HasRead octets rest c.read_line.new.buf.room (p.0 ++ t ∷ []))) (sym c.line.ensures)
              (read_more _ _ _ _ _ _ _ p.0 more p.1.read c.in-Line.ensures.octets);
          hears = c.in_ok-take-in-Line.ensures.heard p.0 p.1.hears;
          roomy = omega (
            arith,
            p.1.roomy,
            c.in_ok-take-in-Line.ensures.weight,
            ap length c.line.ensures,
            room,
          );
        },
      );
      setup = c.in_ok-take-in-Line.ensures.setup ∙ c.loop-heard.invariant.setup;
      no_fault = c.in-Line.ensures.no_fault (λ is. let none : ⊥ = cc in none) ∙ c.loop-heard.invariant.no_fault;
    }

pub returns-in-End-clause-ended : goal.returns-in-End-clause-ended
returns-in-End-clause-ended g c =
    let p = c.loop-heard.invariant.progress in
    record {
      done = p.0;
      hears = p.1.hears;
      reached = ends_ended _ _ _ _ _ _ _ _ p.0 p.1.read c.in-End.ensures.octets;
    }

pub returns-in-LineLong-clause-ended : goal.returns-in-LineLong-clause-ended
returns-in-LineLong-clause-ended g c =
    let p = c.loop-heard.invariant.progress in
    record {
      done = p.0;
      hears = p.1.hears;
      reached = ends_long _ _ _ _ _ _ _ _ p.0 p.1.read c.in-LineLong.ensures.octets;
    }

pub returns-in-TooLong-clause-ended : goal.returns-in-TooLong-clause-ended
returns-in-TooLong-clause-ended g c =
    let p = c.loop-heard.invariant.progress in
    record {
      done = p.0;
      hears = p.1.hears;
      reached = ends_big _ _ _ _ _ _ _ _ p.0 p.1.read c.in-TooLong.ensures.octets;
    }

pub returns-in-ReadFault-clause-ended : goal.returns-in-ReadFault-clause-ended
returns-in-ReadFault-clause-ended g c =
    let p = c.loop-heard.invariant.progress in
    record {
      done = p.0;
      hears = p.1.hears;
      reached = fails_behind _ _ _ _ c.read_line.new.buf _ _ p.0 (c.in-ReadFault.ensures.unfinished refl) p.1.read
          c.in-ReadFault.ensures.octets;
    }

pub loop-heard-init : goal.loop-heard-init
loop-heard-init g c = record {
  progress = (
    [],
    record {
      read = starts_fresh (g.S.Source.left c.args.source.now) c.args.buf.now c.requires.fresh;
      hears = c.requires.nothing;
      roomy = omega (arith, c.requires.weight, ap (λ (held : Held). held.room) c.requires.fresh);
    },
  );
  setup = refl;
  no_fault = refl;
}

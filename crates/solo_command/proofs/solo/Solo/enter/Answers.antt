use Rattle.std.proofs.Common.{◌≡◌, refl, sym, ap, subst, ◌∙◌, arith}
use Rattle.trace_lines.specs.Line.{Line}
use Rattle.demux.specs.declared.decision.Decision.TheVariants as decision
use Rattle.demux.specs.declared.packet.LentPacket.{LentPacket}
use Rattle.demux.specs.Line.{asked}
use Rattle.demux.specs.Resolved.{HasMoment, IsDecision, book_behind, decided}
use Rattle.demux.specs.Trace.{book_of, destination_after}
use Rattle.demux.proofs.MomentLemmas.{moment_decided}
use Rattle.demux.proofs.ResolvedLemmas.{book_resolved, is_decision}
use Rattle.solo_command.specs.Holding.{IsLate}
use Rattle.solo_command.specs.Report.{slices}
use Rattle.solo_command.specs.Standing.{story_of}
use Rattle.solo_command.proofs.Answered.{on_ok}
use Rattle.solo_command.proofs.LineLemmas.{IsDecided, stands_so, told_so}
use Rattle.solo_command.proofs.TellLemmas.{tells_as}
use Rattle.solo_command.proofs.solo.Solo.enter.Goals as goal

pub packet-requires-clause-known : goal.packet-requires-clause-known
packet-requires-clause-known c =
    let book = c.args.self.now.book in
    let line = c.args.line.now in
    let given : LentPacket = record { moment = c.line.inside.moment; way = c.in-Some.found.1; ip = c.in-Some.found.2 } in
    let found : decided slices book line ≡ decision.Packet c.in-Some.found.0 given =
    c.in-Some.ensures slices
    ∙ ap (λ m. decision.Packet c.in-Some.found.0 (record { moment = m; way = c.in-Some.found.1; ip = c.in-Some.found.2 }))
    (sym (ap (λ (l : Line). l.moment) c.line.view_is)) in
    let there : IsDecision slices c.args.self.now.book (decision.Packet c.in-Some.found.0 given) =
    subst (IsDecision slices c.args.self.now.book) found
    (is_decision slices c.args.self.now.book (asked c.args.line.now)) in
    there

pub packet-requires-clause-late : goal.packet-requires-clause-late
packet-requires-clause-late c =
    let book = c.args.self.now.book in
    let line = c.args.line.now in
    let given : LentPacket = record { moment = c.line.inside.moment; way = c.in-Some.found.1; ip = c.in-Some.found.2 } in
    let found : decided slices book line ≡ decision.Packet c.in-Some.found.0 given =
    c.in-Some.ensures slices
    ∙ ap (λ m. decision.Packet c.in-Some.found.0 (record { moment = m; way = c.in-Some.found.1; ip = c.in-Some.found.2 }))
    (sym (ap (λ (l : Line). l.moment) c.line.view_is)) in
    let moment : HasMoment c.args.line.now.moment (decision.Packet c.in-Some.found.0 given) =
    subst (HasMoment c.args.line.now.moment) found
    (moment_decided slices c.args.self.now.book c.args.line.now) in
    subst (IsLate c.args.self.now) (sym moment) c.requires.late

pub returns-in-Some-clause-told : goal.returns-in-Some-clause-told
returns-in-Some-clause-told c = λ done latest before made stands same.
    let book = c.args.self.now.book in
    let line = c.args.line.now in
    let given : LentPacket = record { moment = c.line.inside.moment; way = c.in-Some.found.1; ip = c.in-Some.found.2 } in
    let found : decided slices book line ≡ decision.Packet c.in-Some.found.0 given =
    c.in-Some.ensures slices
    ∙ ap (λ m. decision.Packet c.in-Some.found.0 (record { moment = m; way = c.in-Some.found.1; ip = c.in-Some.found.2 }))
    (sym (ap (λ (l : Line). l.moment) c.line.view_is)) in
    let numbered = ap (λ (l : Line). l.number) c.line.view_is ∙ same in
    let packet = decision.Packet c.in-Some.found.0 given in
    let is : IsDecided done line book packet = record {
      decision = sym found;
      behind = ap (book_behind book) (sym found) ∙ book_resolved slices book (asked line);
      same = stands.same_book;
    } in
    on_ok c.packet.result (λ told. told_so done line book packet (story_of done latest before made) c.args.report.now
    c.packet.new.report is (told)) (c.packet.ensures.told (story_of done latest before made) stands numbered)

pub returns-in-Some-clause-stands : goal.returns-in-Some-clause-stands
returns-in-Some-clause-stands c = λ done latest before made stands late.
    let book = c.args.self.now.book in
    let line = c.args.line.now in
    let given : LentPacket = record { moment = c.line.inside.moment; way = c.in-Some.found.1; ip = c.in-Some.found.2 } in
    let found : decided slices book line ≡ decision.Packet c.in-Some.found.0 given =
    c.in-Some.ensures slices
    ∙ ap (λ m. decision.Packet c.in-Some.found.0 (record { moment = m; way = c.in-Some.found.1; ip = c.in-Some.found.2 }))
    (sym (ap (λ (l : Line). l.moment) c.line.view_is)) in
    let packet = decision.Packet c.in-Some.found.0 given in
    let is : IsDecided done line book packet = record {
      decision = sym found;
      behind = ap (book_behind book) (sym found) ∙ book_resolved slices book (asked line);
      same = stands.same_book;
    } in
    let moment : HasMoment line.moment packet =
    subst (HasMoment line.moment) found (moment_decided slices book line) in
    on_ok c.packet.result (stands_so done line book packet given.moment before made (book_of done)
    (λ slot. destination_after slices slot done) c.packet.new.self is (sym stands.same_book) (λ slot. refl)
    (omega (arith, moment)))
    (c.packet.ensures.stands (story_of done latest before made) stands (omega (arith, late, moment)))

pub returns-in-Some-clause-answers : goal.returns-in-Some-clause-answers
returns-in-Some-clause-answers c =
    let book = c.args.self.now.book in
    let line = c.args.line.now in
    let given : LentPacket = record { moment = c.line.inside.moment; way = c.in-Some.found.1; ip = c.in-Some.found.2 } in
    let found : decided slices book line ≡ decision.Packet c.in-Some.found.0 given =
    c.in-Some.ensures slices
    ∙ ap (λ m. decision.Packet c.in-Some.found.0 (record { moment = m; way = c.in-Some.found.1; ip = c.in-Some.found.2 }))
    (sym (ap (λ (l : Line). l.moment) c.line.view_is)) in
    on_ok c.packet.result
    (tells_as c.line.inside.number c.args.line.now.number (decision.Packet c.in-Some.found.0 given)
    (decided slices c.args.self.now.book c.args.line.now) c.args.self.now c.packet.new.self c.args.report.now
    c.packet.new.report (ap (λ (l : Line). l.number) c.line.view_is) (sym found))
    c.packet.ensures.tells

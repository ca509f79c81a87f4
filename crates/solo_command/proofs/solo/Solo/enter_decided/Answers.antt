use Rattle.std.proofs.Common.{◌==◌, ◌++◌, if◌then◌else◌, refl, sym, ap, subst, ◌∙◌, arith}
use Rattle.trace_lines.specs.Line.{Line}
use Rattle.demux.specs.declared.decision.Decision.TheVariants as decision
use Rattle.demux.specs.Resolved.{HasMoment, book_behind, book_with, decided}
use Rattle.demux.specs.Trace.{book_of, destination_after, note as noted}
use Rattle.report_lines.specs.declared.entry.Entry.TheVariants as entry
use Rattle.report_lines.specs.declared.entry.LineEntry.TheVariants as line_entry
use Rattle.solo_command.specs.Entries.{text_line}
use Rattle.solo_command.specs.Holding.{IsLate}
use Rattle.solo_command.specs.Report.{slices}
use Rattle.solo_command.specs.Standing.{story_of}
use Rattle.solo_command.proofs.Answered.{always_ok, on_ok}
use Rattle.solo_command.proofs.LineLemmas.{IsDecided, meant_by, move_line, move_nothing, stands_so, told_so}
use Rattle.solo_command.proofs.StoryLemmas.{stands_noted, told_note}
use Rattle.solo_command.proofs.TellLemmas.{tells_as, tells_note}
use Rattle.solo_command.proofs.solo.Solo.enter_decided.Goals as goal

pub packet-requires-clause-late : goal.packet-requires-clause-late
packet-requires-clause-late c =
    let moment : HasMoment c.args.line.now.moment (decision.Packet c.in-Packet.slot c.in-Packet.packet) =
    subst (HasMoment c.args.line.now.moment) c.in-Packet.is c.in_ok-slot.ensures.moment in
    subst (IsLate c.args.self.now) (sym moment) c.requires.late

pub returns-in-Packet-clause-told : goal.returns-in-Packet-clause-told
returns-in-Packet-clause-told c = λ done latest before made stands same.
    let numbered = ap (λ (l : Line). l.number) c.line.view_is ∙ same in
    let is : IsDecided done c.args.line.now c.args.self.now.book
    (decision.Packet c.in-Packet.slot c.in-Packet.packet) = record {
      decision = sym c.in-Packet.is ∙ c.in_ok-slot.ensures.decision;
      behind = ap (book_behind c.args.self.now.book) (sym c.in-Packet.is) ∙ c.in_ok-slot.ensures.book;
      same = stands.same_book;
    } in
    on_ok c.packet.result (λ told. told_so done c.args.line.now c.args.self.now.book
    (decision.Packet c.in-Packet.slot c.in-Packet.packet) (story_of done latest before made) c.args.report.now
    c.packet.new.report is (told)) (c.packet.ensures.told (story_of done latest before made) stands numbered)

pub returns-in-Packet-clause-stands : goal.returns-in-Packet-clause-stands
returns-in-Packet-clause-stands c = λ done latest before made stands late.
    let is : IsDecided done c.args.line.now c.args.self.now.book
    (decision.Packet c.in-Packet.slot c.in-Packet.packet) = record {
      decision = sym c.in-Packet.is ∙ c.in_ok-slot.ensures.decision;
      behind = ap (book_behind c.args.self.now.book) (sym c.in-Packet.is) ∙ c.in_ok-slot.ensures.book;
      same = stands.same_book;
    } in
    let moment : HasMoment c.args.line.now.moment (decision.Packet c.in-Packet.slot c.in-Packet.packet) =
    subst (HasMoment c.args.line.now.moment) c.in-Packet.is c.in_ok-slot.ensures.moment in
    on_ok c.packet.result (stands_so done c.args.line.now c.args.self.now.book
    (decision.Packet c.in-Packet.slot c.in-Packet.packet) c.in-Packet.packet.moment before made (book_of done)
    (λ slot. destination_after slices slot done) c.packet.new.self is (sym stands.same_book) (λ slot. refl)
    (omega (arith, moment)))
    (c.packet.ensures.stands (story_of done latest before made) stands (omega (arith, late, moment)))

pub returns-in-Command-clause-told : goal.returns-in-Command-clause-told
returns-in-Command-clause-told c = λ done latest before made stands same.
    let numbered = ap (λ (l : Line). l.number) c.line.view_is ∙ same in
    let is : IsDecided done c.args.line.now c.args.self.now.book
    (decision.Command c.in-Command.whose c.in-Command.command) = record {
      decision = sym c.in-Command.is ∙ c.in_ok-slot.ensures.decision;
      behind = ap (book_behind c.args.self.now.book) (sym c.in-Command.is) ∙ c.in_ok-slot.ensures.book;
      same = stands.same_book;
    } in
    on_ok c.command-in-Command.result (λ told. told_so done c.args.line.now c.args.self.now.book
    (decision.Command c.in-Command.whose c.in-Command.command)
    (story_of done latest before made) c.args.report.now
    c.command-in-Command.new.report is (told)) (c.command-in-Command.ensures.told
    (story_of done latest before made) stands numbered)

pub returns-in-Command-clause-stands : goal.returns-in-Command-clause-stands
returns-in-Command-clause-stands c = λ done latest before made stands late.
    let is : IsDecided done c.args.line.now c.args.self.now.book
    (decision.Command c.in-Command.whose c.in-Command.command) = record {
      decision = sym c.in-Command.is ∙ c.in_ok-slot.ensures.decision;
      behind = ap (book_behind c.args.self.now.book) (sym c.in-Command.is) ∙ c.in_ok-slot.ensures.book;
      same = stands.same_book;
    } in
    on_ok c.command-in-Command.result (stands_so done c.args.line.now c.args.self.now.book
    (decision.Command c.in-Command.whose c.in-Command.command) latest before made
    (book_with (book_of done) c.in-Command.whose)
    (λ slot. destination_after slices slot done) c.command-in-Command.new.self is
    (ap (λ b. book_with b c.in-Command.whose) (sym stands.same_book)) (λ slot. refl) late)
    (c.command-in-Command.ensures.stands (story_of done latest before made) stands)

pub returns-in-Move-clause-told : goal.returns-in-Move-clause-told
returns-in-Move-clause-told c = λ done latest before made stands same.
    let numbered = ap (λ (l : Line). l.number) c.line.view_is ∙ same in
    let is : IsDecided done c.args.line.now c.args.self.now.book (decision.Move c.in-Move.slot c.in-Move.slice) =
    record {
      decision = sym c.in-Move.is ∙ c.in_ok-slot.ensures.decision;
      behind = ap (book_behind c.args.self.now.book) (sym c.in-Move.is) ∙ c.in_ok-slot.ensures.book;
      same = stands.same_book;
    } in
    on_ok c.move_to.result (λ told. told_so done c.args.line.now c.args.self.now.book
    (decision.Move c.in-Move.slot c.in-Move.slice) (story_of done latest before made) c.args.report.now
    c.move_to.new.report is (told ∙ ap (λ text. c.args.report.now ++ text)
    (move_line (story_of done latest before made) done c.in-Move.slot c.in-Move.slice)))
    (c.move_to.ensures.told (story_of done latest before made) stands numbered)

pub returns-in-Move-clause-stands : goal.returns-in-Move-clause-stands
returns-in-Move-clause-stands c = λ done latest before made stands late.
    let is : IsDecided done c.args.line.now c.args.self.now.book (decision.Move c.in-Move.slot c.in-Move.slice) =
    record {
      decision = sym c.in-Move.is ∙ c.in_ok-slot.ensures.decision;
      behind = ap (book_behind c.args.self.now.book) (sym c.in-Move.is) ∙ c.in_ok-slot.ensures.book;
      same = stands.same_book;
    } in
    on_ok c.move_to.result (stands_so done c.args.line.now c.args.self.now.book
    (decision.Move c.in-Move.slot c.in-Move.slice) latest before made (book_of done)
    (λ slot. if c.in-Move.slot == slot then c.in-Move.slice
    else destination_after slices slot done) c.move_to.new.self is (sym stands.same_book) (λ slot. refl) late)
    (c.move_to.ensures.stands (story_of done latest before made)
    (meant_by done (decision.Move c.in-Move.slot c.in-Move.slice)) stands
    (move_nothing done c.in-Move.slot c.in-Move.slice))

pub returns-in-Note-clause-told : goal.returns-in-Note-clause-told
returns-in-Note-clause-told c = λ done latest before made stands same.
    let numbered = ap (λ (l : Line). l.number) c.line.view_is ∙ same in
    let is : IsDecided done c.args.line.now c.args.self.now.book (decision.Note c.in-Note.text) = record {
      decision = sym c.in-Note.is ∙ c.in_ok-slot.ensures.decision;
      behind = ap (book_behind c.args.self.now.book) (sym c.in-Note.is) ∙ c.in_ok-slot.ensures.book;
      same = stands.same_book;
    } in
    let story = story_of done latest before made in
    on_ok c.push_note.result
    (λ told. told_so done c.args.line.now c.args.self.now.book (decision.Note c.in-Note.text) story c.args.report.now
    c.push_note.new.report is (told ∙ ap (λ text. c.args.report.now ++ text)
    (told_note story c.as_slice.result.now c.in-Note.text c.line.inside.number numbered c.as_slice.ensures)))
    c.push_note.ensures

pub returns-in-Note-clause-stands : goal.returns-in-Note-clause-stands
returns-in-Note-clause-stands c = λ done latest before made stands late.
    let is : IsDecided done c.args.line.now c.args.self.now.book (decision.Note c.in-Note.text) = record {
      decision = sym c.in-Note.is ∙ c.in_ok-slot.ensures.decision;
      behind = ap (book_behind c.args.self.now.book) (sym c.in-Note.is) ∙ c.in_ok-slot.ensures.book;
      same = stands.same_book;
    } in
    always_ok c.push_note.result
    (stands_so done c.args.line.now c.args.self.now.book (decision.Note c.in-Note.text) latest before made
    (book_of done) (λ slot. destination_after slices slot done) c.args.self.now is (sym stands.same_book)
    (λ slot. refl) late
    (stands_noted c.args.self.now c.args.self.now (story_of done latest before made) (noted c.in-Note.text) stands
    (λ slot events. refl) refl refl refl))

pub returns-in-Packet-clause-answers : goal.returns-in-Packet-clause-answers
returns-in-Packet-clause-answers c =
    on_ok c.packet.result
    (tells_as c.line.inside.number c.args.line.now.number (decision.Packet c.in-Packet.slot c.in-Packet.packet)
    (decided slices c.args.self.now.book c.args.line.now) c.args.self.now c.packet.new.self c.args.report.now
    c.packet.new.report (ap (λ (l : Line). l.number) c.line.view_is)
    (sym c.in-Packet.is ∙ c.in_ok-slot.ensures.decision)) c.packet.ensures.tells

pub returns-in-Command-clause-answers : goal.returns-in-Command-clause-answers
returns-in-Command-clause-answers c =
    on_ok c.command-in-Command.result
    (tells_as c.line.inside.number c.args.line.now.number (decision.Command c.in-Command.whose c.in-Command.command)
    (decided slices c.args.self.now.book c.args.line.now) c.args.self.now c.command-in-Command.new.self c.args.report.now
    c.command-in-Command.new.report (ap (λ (l : Line). l.number) c.line.view_is)
    (sym c.in-Command.is ∙ c.in_ok-slot.ensures.decision)) c.command-in-Command.ensures.tells

pub returns-in-Move-clause-answers : goal.returns-in-Move-clause-answers
returns-in-Move-clause-answers c =
    on_ok c.move_to.result
    (tells_as c.line.inside.number c.args.line.now.number (decision.Move c.in-Move.slot c.in-Move.slice)
    (decided slices c.args.self.now.book c.args.line.now) c.args.self.now c.move_to.new.self c.args.report.now
    c.move_to.new.report (ap (λ (l : Line). l.number) c.line.view_is)
    (sym c.in-Move.is ∙ c.in_ok-slot.ensures.decision)) c.move_to.ensures.tells

pub returns-in-Note-clause-answers : goal.returns-in-Note-clause-answers
returns-in-Note-clause-answers c =
    on_ok c.push_note.result
    (λ told. tells_as c.line.inside.number c.args.line.now.number (decision.Note c.in-Note.text)
    (decided slices c.args.self.now.book c.args.line.now) c.args.self.now c.args.self.now c.args.report.now
    c.push_note.new.report (ap (λ (l : Line). l.number) c.line.view_is)
    (sym c.in-Note.is ∙ c.in_ok-slot.ensures.decision)
    (tells_note c.args.self.now c.line.inside.number c.in-Note.text c.args.report.now c.push_note.new.report
    (told ∙ ap (λ text. c.args.report.now ++ text_line (entry.Line (line_entry.N (record {
      line = c.line.inside.number;
      note = text;
    })))) c.as_slice.ensures)))
    c.push_note.ensures

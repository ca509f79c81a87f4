use Rattle.std.proofs.Common.{◌≡◌, ◌∙◌, inl, inr, true, false, [], map, sym, ap, subst}
use Rattle.std.proofs.lemmas.Result.{IfOk-weaker}
use Rattle.std.specs.String.{string_bytes}
use Rattle.clap.proofs.WalkLemmas.{list_any-map}
use Rattle.clap.specs.Faults.{fault_of, is_simple_and_free}
use Rattle.clap.specs.Kinds.{IsAmong}
use Rattle.clap.specs.Simple.{App, app_of, is_simple, subcommand_of, subcommand_rows_of}
use Rattle.clap.specs.Values.{kind_of}
use Rattle.command_words.specs.Program.{program_app}
use Rattle.command_words.specs.Words.{is_stray, word_of}
use Rattle.command_words.proofs.Behind.{has_stray}
use Rattle.command_words.proofs.Parsed.{refused_job, simple_program, stray_job, taken_asked}
use Rattle.command_words.proofs.Ranges.{job_ranges}
use Rattle.command_words.proofs.words.job.Goals as goal

pub returns-then-has_stray : goal.returns-then-has_stray
returns-then-has_stray c =
    let words = map string_bytes c.args.words.now in
    let strays : has_stray words ≡ true =
    sym (list_any-map (λ word. is_stray (word_of word)) string_bytes c.args.words.now) ∙ sym c.has_stray.ensures
    ∙ c.if-has_stray.true in
    record { job = sym (stray_job words strays); ranges = tt }

pub returns-in-Ok : goal.returns-in-Ok
returns-in-Ok c =
    let words = map string_bytes c.args.words.now in
    let none : has_stray words ≡ false =
    sym (list_any-map (λ word. is_stray (word_of word)) string_bytes c.args.words.now) ∙ sym c.has_stray.ensures
    ∙ c.if-has_stray.false in
    let program : app_of c.in_ok-program.field-0 ≡ program_app = c.in_ok-program.ensures in
    let free : is_simple_and_free (app_of c.in_ok-program.field-0) ≡ true = ap is_simple_and_free program
    ∙ simple_program in
    let simple : is_simple (app_of c.in_ok-program.field-0) ≡ true = ap is_simple program in
    let taken : fault_of program_app words ≡ [] = sym (ap (λ app. fault_of app words) program)
    ∙ c.in-Ok.ensures.kinds free in
    let rows : subcommand_rows_of c.in-Ok.matches ≡ subcommand_of program_app words =
    (c.in-Ok.ensures.matches simple).1 ∙ ap (λ app. subcommand_of app words) program in
    let asked = c.asked.ensures words (rows ∙ taken_asked words none taken) in
    record { job = asked; ranges = IfOk-weaker c.asked.result _ _ (λ job is. job_ranges words job is) asked }

pub returns : goal.returns
returns c =
    let words = map string_bytes c.args.words.now in
    let none : has_stray words ≡ false =
    sym (list_any-map (λ word. is_stray (word_of word)) string_bytes c.args.words.now) ∙ sym c.has_stray.ensures
    ∙ c.if-has_stray.false in
    let program : app_of c.in_ok-program.field-0 ≡ program_app = c.in_ok-program.ensures in
    let free : is_simple_and_free (app_of c.in_ok-program.field-0) ≡ true = ap is_simple_and_free program
    ∙ simple_program in
    elim (c.in-Err.ensures.kinds free) [
      | inl memory ↦ absurd (c.in_default.not-OutOfMemory (c.kind.ensures ∙ memory))
      | inr among ↦ record {
        job = sym (refused_job words (kind_of c.in-Err.error) none
            (subst (λ (app : App). IsAmong (kind_of c.in-Err.error) (fault_of app words)) program among));
        ranges = tt;
      }
    ]

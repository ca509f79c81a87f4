-- What was taken of lines, one line more.
use Rattle.std.proofs.Common.{◌≡◌, ℕ, ◌+◌, List, [], ◌∷◌, ◌++◌, length, length-append, refl, sym, ap, ◌∙◌, subst, arith}
use Rattle.std.specs.Prelude.{Ok}
use Rattle.trace_lines.specs.Line.{IsLine, Line}
use Rattle.demux.specs.Resolved.{decided}
use Rattle.demux.proofs.MomentLemmas.{moment_if_ok}
use Rattle.demux.proofs.Small.{each_append}
use Rattle.lawful_run.specs.AnsweredRun.{behind_lines, events_after}
use Rattle.lawful_run.specs.Merging.{Histories}
use Rattle.lawful_run.specs.Run.{no_events}
use Rattle.lawful_run.specs.Trace.{meant_from}
use Rattle.lawful_run.proofs.CutEpochs.{meant_from-append}
use Rattle.lawful_run.proofs.Growing.{events_after-push}
use Rattle.at_rest.proofs.Coming.{latest-push}
use Rattle.trace_run.specs.Takers.{IsNextOf}
use Rattle.solo_command.specs.Gateway.{AnswersLines, no_subscribers}
use Rattle.solo_command.proofs.AnswerLemmas.{line_then}
use Rattle.solo_command.specs.Holding.{Holds, Tells, gateway_of}
use Rattle.solo_command.specs.Report.{slices}
use Rattle.solo_command.specs.Standing.{Stands, Story, meant_next, story_of, with_end}
use Rattle.solo_command.specs.declared.solo.Solo.{Solo}
use Rattle.solo_command.proofs.HoldLemmas.{answers_hold, nothing_holds}
use Rattle.save_command.specs.Left.{HasTaken, histories}
use Rattle.save_command.specs.declared.saver.Saver.{Saver}

-- before the first line
pub nothing_taken : (saver : Saver) → Stands saver.solo (story_of [] 0 no_events []) → gateway_of saver.solo ≡ no_subscribers
    → saver.lines ≡ 0 → saver.latest ≡ 0 → HasTaken saver [] 0
nothing_taken saver stands gateway count moment = record {
  stands = stands;
  told = [];
  answers = gateway;
  holds = subst (Holds 0 0) (sym gateway) (nothing_holds 0);
  count = count;
  moment = moment;
  latest_is = refl;
  valid = tt;
}

-- the events of a slot behind one line more
line_brings : (done : List Line) (line : Line) (slot : ℕ)
    → behind_lines (histories done) (meant_next done line ∷ []) slot ≡ histories (done ++ line ∷ []) slot
line_brings done line slot =
    sym (ap (events_after slot []) (meant_from-append slices [] done (line ∷ []))
    ∙ events_after-push slot [] (meant_from slices [] done) (meant_next done line))

lines_bring : (done : List Line) (line : Line)
    → behind_lines (histories done) (meant_next done line ∷ []) ≡ histories (done ++ line ∷ [])
lines_bring done line = λ i slot. line_brings done line slot i

pub line_taken : (old new : Saver) (mid : Solo) (text next : List ℕ) (done : List Line) (latest : ℕ) (line : Line)
    → HasTaken old done latest → IsNextOf done latest line → IsLine line
    → Tells line.number (decided slices old.solo.book line) old.solo mid text next
    → Stands mid (story_of (done ++ line ∷ []) line.moment (histories done) (meant_next done line ∷ []))
    → ((story : Story) → Stands mid story → Stands new.solo (with_end story))
    → gateway_of new.solo ≡ gateway_of mid → new.lines ≡ line.number → new.latest ≡ line.moment
    → HasTaken new (done ++ line ∷ []) line.moment
line_taken old new mid text next done latest line taken is_next valid tells stands ends same count moment =
    let behind : List Line = done ++ line ∷ [] in
    let ended : Stands new.solo (story_of behind line.moment
    (behind_lines (histories done) (meant_next done line ∷ [])) []) =
    ends (story_of behind line.moment (histories done) (meant_next done line ∷ [])) stands in
    let many : length behind ≡ length done + 1 = omega (arith, length-append done (line ∷ [])) in
    let holds : Holds (length done + 1) line.moment (gateway_of mid) =
    answers_hold slices line.number (length done) latest line.moment (decided slices old.solo.book line)
    (gateway_of old.solo) (gateway_of mid) tells.told tells.answers taken.holds is_next.late
    (moment_if_ok {E = ℕ} slices old.solo.book line (Ok (decided slices old.solo.book line)) refl) in
    let answers : AnswersLines slices behind no_subscribers (taken.told ++ tells.told ∷ []) (gateway_of mid) =
    line_then slices done line no_subscribers (gateway_of old.solo) (gateway_of mid) taken.told tells.told
    taken.answers tells.answers in
    record {
      stands = subst (λ (h : Histories). Stands new.solo (story_of behind line.moment h [])) (lines_bring done line)
          ended;
      told = taken.told ++ tells.told ∷ [];
      answers = subst (AnswersLines slices behind no_subscribers (taken.told ++ tells.told ∷ [])) (sym same) answers;
      holds = subst (λ (n : ℕ). Holds n line.moment (gateway_of new.solo)) (sym many)
          (subst (Holds (length done + 1) line.moment) (sym same) holds);
      count = omega (arith, count, is_next.numbered, many);
      moment = moment;
      latest_is = sym (latest-push 0 done line);
      valid = each_append IsLine done (line ∷ []) taken.valid (valid, tt);
    }

-- An epoch of no lines changes nothing, and is lawful.
use Rattle.std.proofs.Common.{◌≡◌, ℕ, ◌≤◌, List, [], ◌∷◌, ◌++◌, Option, drop, flat_map, get_or, length, map, refl, sym, ap, subst, ◌∙◌, arith, append-nil}
use Rattle.std.proofs.lemmas.List.{drop_all}
use Rattle.trace_lines.specs.Line.{Line}
use Rattle.trace_lines.specs.declared.bad.LineBad.{LineBad}
use Rattle.gate_model.specs.SlotPast.{records_after}
use Rattle.subscriber.specs.Standing.{Represents}
use Rattle.report_lines.specs.declared.entry.ChargeEntry.TheVariants.{R}
use Rattle.lawful_run.specs.Merging.{Histories, behind}
use Rattle.lawful_run.specs.Outcomes as made_of
use Rattle.lawful_run.specs.Report.{EpochReport}
use Rattle.lawful_run.specs.Run.{IsEpochRun}
use Rattle.lawful_run.specs.Setup.{Setup}
use Rattle.lawful_run.specs.Telling.{counted}
use Rattle.at_rest.specs.Rest.{IsBehind, RepresentsAll, Rest}
use Rattle.front_core.specs.Closing.{Closes}
use Rattle.trace_run.specs.Entries.{lines_text}
use Rattle.trace_run.specs.Noted.{noted}
use Rattle.replay_command.specs.Standing.{Replayed, ReplayedOn, setup_of}
use Rattle.replay_command.specs.declared.replay.Replay.{Replay}
use Rattle.replay_command.proofs.Stands.{next_so, stands_more}

-- what is told of it
abbrev nothing_told : EpochReport
nothing_told = record { lines = []; effects = []; rows = [] }

none_each : {X : Type 0} (has : ℕ → List X) → ((slot : ℕ) → has slot ≡ []) → (slots : List ℕ)
    → flat_map has slots ≡ []
none_each has none [] = refl
none_each has none (slot ∷ slots) = ap (λ first. first ++ flat_map has slots) (none slot) ∙ none_each has none slots

no_rows : (before : Histories) (slot : ℕ) → made_of.rows slot (before slot) [] ≡ []
no_rows before slot =
    ap (λ events. map (R slot) (drop (length (records_after slot (before slot))) (records_after slot events)))
    (append-nil (before slot))
    ∙ ap (map (R slot)) (drop_all (length (records_after slot (before slot))) (records_after slot (before slot))
    (omega arith))

no_lines_lawful : (setup : Setup) (slots first : ℕ) (before : Histories)
    → IsEpochRun setup slots first before [] nothing_told
no_lines_lawful setup slots first before = record {
  one_each = tt;
  command_numbers = λ slot. refl;
  packet_numbers = λ slot. refl;
  counts_rise = λ slot. tt;
  bounds = tt;
  replies = λ slot. refl;
  verdicts = λ slot. refl;
  effects = sym (none_each (λ slot. made_of.effects slot (before slot) []) (λ slot. refl) (counted 0 slots));
  rows = sym (none_each (λ slot. made_of.rows slot (before slot) []) (no_rows before) (counted 0 slots));
  refusals = tt;
  parking = tt;
}

represents_still : (rest : Rest) (before : Histories) → RepresentsAll rest before
    → RepresentsAll rest (behind before [])
represents_still rest before all = record {
  each = λ slot none within. subst (λ events. Represents (get_or rest.subscribers slot none) slot events)
      (sym (append-nil (before slot))) (all.each slot none within);
  beyond = λ slot out. append-nil (before slot) ∙ all.beyond slot out;
  few = λ slot. subst (λ events. length events ≤ rest.lines) (sym (append-nil (before slot))) (all.few slot);
}

closes_no_lines : (rest : Rest) → Closes rest [] rest nothing_told
closes_no_lines rest = record {
  lawful = λ prior before slots is all known. no_lines_lawful _ slots _ before;
  represents = λ prior before is all. represents_still rest before all;
  is_behind = λ prior is. subst (IsBehind rest) (sym (append-nil prior)) is;
  setup = (refl, refl, refl);
}

-- a bad line's note, where no epoch is open
pub notes_on : (first now : Replay) (done : List Line) (latest : ℕ) (closed : List (List Line))
    (sent waiting : List ℕ) (bad : Option LineBad) (n : ℕ) (text : List ℕ)
    → Replayed first now done latest closed [] sent waiting
    → text ≡ waiting ++ lines_text first.places (noted bad n)
    → ReplayedOn first now now done latest closed [] sent bad n text
notes_on first now done latest closed sent waiting bad n text so_far said =
    let setup = setup_of first in
    let closes = closes_no_lines now.rest in
    record {
      so_far = record {
        told = so_far.told;
        stands = so_far.stands;
        parts = so_far.parts;
        few = so_far.few;
        kept = so_far.kept;
        places = so_far.places;
        later = so_far.later;
        latest_is = so_far.latest_is;
        said = so_far.said;
        waits = refl;
      };
      entry = nothing_told;
      next = next_so setup now.rest now.rest closed so_far.told [] nothing_told so_far.stands closes;
      stands = stands_more setup now.rest now.rest closed so_far.told [] nothing_told so_far.stands closes;
      emptied = so_far.kept;
      places = so_far.places;
      latest_is = so_far.latest_is;
      said = said ∙ ap (λ w. w ++ lines_text first.places (noted bad n)) so_far.waits
          ∙ sym (append-nil (lines_text first.places (noted bad n)));
    }

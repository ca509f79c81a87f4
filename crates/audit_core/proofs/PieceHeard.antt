-- One line more of a piece.
use Rattle.std.proofs.Common.{◌≡◌, ◌≢◌, ℕ, ◌+◌, ◌<◌, ◌≤◌, ◌^◌, true, false, Bool, OnOk, Result, Ok, Err, Option, None, Some, List, [], ◌∷◌, ◌++◌, length, bytes_eq, refl, sym, ap, subst, ◌∙◌, arith, append_assoc, append-nil}
use Rattle.std.proofs.lemmas.List.Elements.{All-nil, All-push}
use Rattle.pc_outside.specs.Texts.{Text}
use Rattle.trace_lines.specs.Line.{Line}
use Rattle.demux.specs.Trace.{destination_after}
use Rattle.lawful_run.specs.Run.{no_events}
use Rattle.at_rest.specs.Meant.{Stand, bound_of}
use Rattle.audit_core.specs.Along.{Behind, none_behind}
use Rattle.audit_core.specs.Following.{EndsAs, HearsPiece, LeavesAs, SaysPart, TakesLines, TakesPiece, weight_of}
use Rattle.audit_core.specs.Heard.{SaysReport, with_report}
use Rattle.audit_core.specs.Kept.{ArePlaced, meanings_in}
use Rattle.audit_core.specs.Matched.{entries_stood}
use Rattle.audit_core.specs.Said.{AreEntries, marker}
use Rattle.audit_core.specs.Setups.{IsSetup}
use Rattle.audit_core.specs.declared.pieces.Pieces.{Pieces}
use Rattle.audit_core.specs.declared.report.Stood.{Stood}
use Rattle.audit_core.proofs.HeardLemmas.{in_report, in_trace, opens_report}

-- the lines that were taken stay so
pub record SameLines (old new : Pieces) : Type 0 where
  pub setup : new.setup ≡ old.setup
  pub least : new.least ≡ old.least
  pub book : new.book ≡ old.book
  pub subscribers : new.subscribers ≡ old.subscribers
  pub kept : new.kept ≡ old.kept
  pub octets : new.octets ≡ old.octets
  pub open_octets : new.open_octets ≡ old.open_octets
  pub ended : new.ended ≡ old.ended
  pub over : new.over ≡ old.over
  pub stopped : new.stopped ≡ old.stopped

pub takes_same : (old new : Pieces) (known : Behind) (texts : List Text) → SameLines old new
    → TakesPiece old known texts → TakesPiece new known texts
takes_same old new known texts same taken =
    let takes = taken.takes in
    record {
      lines = taken.lines;
      stop = taken.stop;
      stopped = same.stopped ∙ taken.stopped;
      says = rw (same.over, same.least) taken.says;
      takes = record {
        ends = rw same.ended takes.ends;
        stand = rw (same.setup, same.book, same.subscribers) takes.stand;
        many = rw (same.book, same.subscribers) takes.many;
        rest = rw (same.setup, same.subscribers) takes.rest;
        standing = rw same.subscribers takes.standing;
        later = takes.later;
        latest = same.least ∙ takes.latest;
        mean = rw (same.setup, same.octets, same.kept) takes.mean;
        placed = rw (same.octets, same.kept) takes.placed;
        open_octets = rw (same.ended, same.open_octets) takes.open_octets;
      };
      more = rw (same.over, same.ended) taken.more;
      going = rw same.ended taken.going;
    }

-- nothing was heard yet
pub hears_none : (new : Pieces) → IsSetup new.setup → new.epochs ≡ 0 → new.lines ≡ 0 → new.least ≡ 0 → new.book ≡ []
    → new.subscribers.items ≡ [] → new.in_report ≡ false → new.kept.items ≡ [] → new.octets.items ≡ []
    → new.open_octets ≡ 0 → new.ended ≡ false → new.over ≡ false → new.stopped ≡ false → new.entries.items ≡ []
    → new.none ≡ false → HearsPiece new none_behind []
hears_none new setup epochs lines least book subscribers closed kept octets open_octets ended_is over stopped entries none =
    record {
      setup_is = setup;
      epochs = epochs;
      lines = lines;
      few = omega (arith, lines, ap length kept);
      few_epochs = omega (arith, lines, epochs);
      trace = [];
      report = [];
      parts = subst (λ b. [] ≡ [] ++ with_report b []) (sym closed) refl;
      before = All-nil (λ text. bytes_eq text marker ≡ false);
      unopened = λ is. refl;
      takes = record {
        lines = [];
        stop = None;
        stopped = stopped;
        says = subst (λ b. SaysPart b none_behind [] None new.least []) (sym over)
            (subst (λ k. SaysPart false none_behind [] None k []) (sym least) (λ later. refl));
        takes = record {
          ends = subst (λ b. EndsAs b []) (sym ended_is) tt;
          stand = record {
            book_is = book;
            bounds = λ slot. subst (λ l. bound_of new.setup.slices l slot
                ≡ destination_after new.setup.slices slot []) (sym subscribers) refl;
          };
          many = omega (arith, ap length book, ap length subscribers);
          rest = λ slot none below. absurd (omega (arith, below, ap length subscribers));
          standing = record {
            each = λ slot none below. absurd (omega (arith, below, ap length subscribers));
            beyond = λ slot past. refl;
          };
          later = tt;
          latest = least;
          mean = (λ i. meanings_in (octets i) (kept i));
          placed = subst (ArePlaced new.octets.items) (sym kept) (All-nil _);
          open_octets = λ is. open_octets;
        };
        more = λ is. absurd (no (sym over ∙ is));
        going = λ is. refl;
      };
      reports = subst (λ b. SaysReport b [] (entries_stood new.entries.items)) (sym none)
          (subst (λ es. AreEntries [] (entries_stood es)) (sym entries) (record { same = refl; ranges = All-nil _ }));
    }
  where
    no : false ≡ true → ⊥
    no same = cc

module _ (old new : Pieces) (known : Behind) (piece : List Text) (text : Text) (hears : HearsPiece old known piece)
  where
    -- a line of the report
    pub hears_entry : old.in_report ≡ true → new.in_report ≡ old.in_report → new.epochs ≡ old.epochs
        → new.lines ≡ old.lines → SameLines old new
        → ((report : List Text) → SaysReport old.none report (entries_stood old.entries.items)
        → SaysReport new.none (report ++ text ∷ []) (entries_stood new.entries.items))
        → HearsPiece new known (piece ++ text ∷ [])
    hears_entry opened still epochs lines same goes = record {
      setup_is = rw same.setup hears.setup_is;
      epochs = epochs ∙ hears.epochs;
      lines = lines ∙ hears.lines;
      few = rw (lines, same.kept) hears.few;
      few_epochs = omega (arith, epochs, lines, hears.few_epochs);
      trace = hears.trace;
      report = hears.report ++ text ∷ [];
      parts = in_report piece hears.trace hears.report text old.in_report opened hears.parts
          ∙ ap (λ b. hears.trace ++ with_report b (hears.report ++ text ∷ [])) (sym still);
      before = hears.before;
      unopened = λ closed. let clash : true ≡ false = sym opened ∙ sym still ∙ closed in cc;
      takes = takes_same old new known hears.trace same hears.takes;
      reports = goes hears.report hears.reports;
    }

    -- the line before it
    pub hears_marker : old.in_report ≡ false → text ≡ marker → new.in_report ≡ true → new.epochs ≡ old.epochs
        → new.lines ≡ old.lines → SameLines old new → new.none ≡ old.none → new.entries ≡ old.entries
        → HearsPiece new known (piece ++ text ∷ [])
    hears_marker closed is opened epochs lines same none entries = record {
      setup_is = rw same.setup hears.setup_is;
      epochs = epochs ∙ hears.epochs;
      lines = lines ∙ hears.lines;
      few = rw (lines, same.kept) hears.few;
      few_epochs = omega (arith, epochs, lines, hears.few_epochs);
      trace = hears.trace;
      report = hears.report;
      parts = opens_report piece hears.trace hears.report text old.in_report closed is (hears.unopened closed) hears.parts
          ∙ ap (λ b. hears.trace ++ with_report b hears.report) (sym opened);
      before = hears.before;
      unopened = λ still. let clash : true ≡ false = sym opened ∙ still in cc;
      takes = takes_same old new known hears.trace same hears.takes;
      reports = rw (none, entries) hears.reports;
    }

    -- a line of the trace
    pub hears_line : old.in_report ≡ false → bytes_eq text marker ≡ false → new.setup ≡ old.setup
        → new.in_report ≡ old.in_report → new.epochs ≡ old.epochs → new.lines ≡ old.lines → new.none ≡ old.none
        → new.entries ≡ old.entries → old.lines + length new.kept.items < 2 ^ 40
        → TakesPiece new known (hears.trace ++ text ∷ [])
        → HearsPiece new known (piece ++ text ∷ [])
    hears_line closed other setup still epochs lines none entries few takes = record {
      setup_is = rw setup hears.setup_is;
      epochs = epochs ∙ hears.epochs;
      lines = lines ∙ hears.lines;
      few = omega (arith, few, lines);
      few_epochs = omega (arith, epochs, lines, hears.few_epochs);
      trace = hears.trace ++ text ∷ [];
      report = hears.report;
      parts = in_trace piece hears.trace hears.report text old.in_report closed hears.parts
          ∙ ap (λ b. (hears.trace ++ text ∷ []) ++ with_report b hears.report) (sym still);
      before = All-push (λ t. bytes_eq t marker ≡ false) hears.trace text hears.before other;
      unopened = λ is. hears.unopened closed;
      takes = takes;
      reports = rw (none, entries) hears.reports;
    }

pub on_four : {X E P Q R S T : Type 0} (result : Result X E) → (P → Q → R → S → T) → OnOk result P → OnOk result Q
    → OnOk result R → OnOk result S → OnOk result T
on_four (Ok x) from p q r s = from p q r s
on_four (Err e) from p q r s = tt

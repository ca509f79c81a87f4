-- What is found at the end of a piece.
use Rattle.std.proofs.Common.{◌≡◌, ◌≢◌, ℕ, ◌+◌, ◌<◌, ◌≤◌, ◌^◌, true, false, Bool, is_some, IfNone, IfOk, IfSome, Option, None, Some, List, [], ◌++◌, length, fold, refl, sym, ap, subst, ◌∙◌, arith}
use Rattle.std.specs.Global.{Vec}
use Rattle.pc_outside.specs.Texts.{Text}
use Rattle.trace_lines.specs.Line.{Line}
use Rattle.demux.specs.Trace.{book_of}
use Rattle.lawful_run.specs.Setup.{Setup}
use Rattle.subscriber.specs.Standing.{SubscriberState}
use Rattle.audit_core.specs.Along.{Behind, RefutesNext, said_in}
use Rattle.audit_core.specs.Following.{HearsPiece, IsFit, MisfitOrNone}
use Rattle.audit_core.specs.Pieces.{ComesBehind, FoundIn, IsLawfulPiece, Piece}
use Rattle.audit_core.specs.Ranks.{number_of}
use Rattle.audit_core.specs.Setups.{setup_of}
use Rattle.slot_execution.specs.declared.kept.KeptMeaning.{KeptMeaning}
use Rattle.audit_core.specs.declared.pieces.Pieces.{Pieces}
use Rattle.audit_core.specs.declared.report.Stood.{Stood}
use Rattle.audit_core.specs.declared.sentence.Refutation.{Refutation}
use Rattle.audit_core.specs.declared.setup.Setup.{Setup as Given}
use Rattle.audit_core.proofs.CaseLemmas.{book_few}
use Rattle.audit_core.proofs.PieceEnds.{asked, comes_so, refutes_so, slots_are}

pub none_some : (P : Type 0) (found : Option Refutation) → is_some found ≡ true → IfNone found P
none_some P None some = absurd (cc)
none_some P (Some found) some = tt

pub some_none : (P : Refutation → Type 0) (found : Option Refutation) → is_some found ≡ false → IfSome found P
some_none P None none = tt
some_none P (Some found) none = absurd (cc)

-- the piece doesn't fit
pub misfit_refutes : (setup : Setup) (known : Behind) (last : Bool) (piece : List Text) (own : Pieces)
    (found : Option Refutation) → MisfitOrNone setup known last piece own found
    → IfSome found (λ (r : Refutation). RefutesNext setup known last piece (number_of r.sentence) r.place)
misfit_refutes setup known last piece own None is = tt
misfit_refutes setup known last piece own (Some found) is = is

-- or it does
pub fit_of : (setup : Setup) (known : Behind) (last : Bool) (piece : List Text) (own : Pieces)
    (found : Option Refutation) → is_some found ≡ false → MisfitOrNone setup known last piece own found
    → IsFit known last piece own
fit_of setup known last piece own None none is = is
fit_of setup known last piece own (Some found) none is = absurd (cc)

module _ (own : Pieces) (known : Behind) (piece : List Text) (hears : HearsPiece own known piece) where
  pub few_subscribers : length own.subscribers.items ≤ 65533
  few_subscribers =
      omega (
        arith,
        hears.takes.takes.many,
        ap length hears.takes.takes.stand.book_is,
        book_few [] (known.lines ++ hears.takes.lines) (omega arith),
      )

  module _ (last : Bool) (fit : IsFit known last piece own) where
    pub comes_with : (octets : List ℕ) (lines : List KeptMeaning) (entries : List Stood)
        → octets ≡ own.octets.items → lines ≡ own.kept.items → entries ≡ own.entries.items
        → ComesBehind (asked own known piece hears last fit) own.setup octets lines entries own.subscribers.items
    comes_with octets lines entries one two three =
        subst (λ o. ComesBehind (asked own known piece hears last fit) own.setup o lines entries own.subscribers.items)
        (sym one)
        (subst (λ l. ComesBehind (asked own known piece hears last fit) own.setup own.octets.items l entries
        own.subscribers.items) (sym two)
        (subst (λ e. ComesBehind (asked own known piece hears last fit) own.setup own.octets.items own.kept.items e
        own.subscribers.items) (sym three) (comes_so own known piece hears last fit)))

    pub found_refutes : (found : Option Refutation) → FoundIn (asked own known piece hears last fit) found
        → IfSome found (λ (r : Refutation).
        RefutesNext (setup_of own.setup) known last piece (number_of r.sentence) r.place)
    found_refutes None is = tt
    found_refutes (Some found) is = refutes_so own known piece hears last fit found is

    pub lawful_of : (found : Option Refutation) → is_some found ≡ false
        → FoundIn (asked own known piece hears last fit) found → IsLawfulPiece (asked own known piece hears last fit)
    lawful_of None none is = is
    lawful_of (Some found) none is = absurd (cc)

pub rests_of : (P : Type 0) (found : Option Refutation) → is_some found ≡ false → IfNone found P → P
rests_of P None none is = is
rests_of P (Some found) none is = absurd (cc)

-- The entry of a piece at a place, held against the one due.
use Rattle.std.proofs.Common.{◌≡◌, ℕ, ◌<◌, ◌≤◌, IfNone, IfOk, IfSome, Result, Ok, Err, Option, Some, None, List, length, drop, get_or, sym, ap, ◌∙◌, subst, arith}
use Rattle.std.proofs.lemmas.List.{drop_all, length-map}
use Rattle.report_lines.specs.declared.entry.Entry.{Entry}
use Rattle.audit_core.specs.Dues.{IsOther}
use Rattle.audit_core.specs.Matched.{entries_stood}
use Rattle.audit_core.specs.Places.{first_of}
use Rattle.audit_core.specs.declared.report.Stood.{Stood}
use Rattle.audit_core.specs.declared.telling.Break.{Break}
use Rattle.audit_core.proofs.PieceOrder.{stood_at}

module _ (entries : List Stood) (at : ℕ) (one : Stood) (due : Entry) where
  pub stood_some : {E : Type 0} (result : Result (Option Break) E) → at < length entries → one ≡ get_or entries at one
      → IfOk result (λ found. IfSome found (IsOther (Some one.entry) due))
      → IfOk result (λ found. IfSome found (IsOther (first_of (drop at (entries_stood entries))) due))
  stood_some (Ok None) low is so = tt
  stood_some (Ok (Some found)) low is so = subst (λ o. IsOther o due found) (sym (stood_at entries at one low is)) so
  stood_some (Err e) low is so = tt

  pub stood_none : {E : Type 0} (result : Result (Option Break) E) → at < length entries → one ≡ get_or entries at one
      → IfOk result (λ found. IfNone found (one.entry ≡ due))
      → IfOk result (λ found. IfNone found (first_of (drop at (entries_stood entries)) ≡ Some due))
  stood_none (Ok None) low is so = stood_at entries at one low is ∙ ap Some so
  stood_none (Ok (Some found)) low is so = tt
  stood_none (Err e) low is so = tt

-- none stands there
pub missing_at : (entries : List Stood) (at : ℕ) (due : Entry) (found : Break) → length entries ≤ at
    → IsOther None due found → IsOther (first_of (drop at (entries_stood entries))) due found
missing_at entries at due found past is =
    subst (λ o. IsOther o due found)
    (sym (ap first_of (drop_all at (entries_stood entries)
    (omega (arith, past, length-map entries (λ (s : Stood). s.entry)))))) is

pub none_at : (entries : List Stood) (at : ℕ) → length entries ≤ at
    → first_of (drop at (entries_stood entries)) ≡ None
none_at entries at past =
    ap first_of (drop_all at (entries_stood entries) (omega (arith, past, length-map entries (λ (s : Stood). s.entry))))

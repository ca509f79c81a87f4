-- A trace and its report, line after line.
use Rattle.std.proofs.Common.{◌≡◌, ℕ, ◌+◌, ◌<◌, false, List, [], ◌∷◌, ◌++◌, length, map, All, Ok, Err, bytes_eq, refl, sym, ap, ap₂, ◌∙◌, subst, arith, append_assoc, append-nil, length-append}
use Rattle.std.proofs.lemmas.List.{map-append}
use Rattle.std.proofs.lemmas.List.Elements.{All-contains, All-head, All-tail, All-nil, All-cons, All-append}
use Rattle.report_lines.specs.Ranges.{IsEntry}
use Rattle.report_lines.specs.Text.{entry_text}
use Rattle.report_lines.specs.declared.entry.Entry.{Entry}
use Rattle.report_lines.proofs.TextLemmas.{text_tells}
use Rattle.trace_lines.specs.Input.{bad, after_lines, line_then}
use Rattle.trace_lines.specs.Line.{Line}
use Rattle.trace_lines.specs.Meaning.{line_meaning}
use Rattle.trace_lines.specs.declared.bad.LineBad.{LineBad}
use Rattle.audit_core.specs.Said.{AreEntries, HasNoEntry, marker, report_texts, trace_from, trace_texts}
use Rattle.pc_outside.specs.Texts.{Text}

-- none of these lines is the one before a report
abbrev pub NoMarker : List Text → Type 0
NoMarker texts = All (λ text. bytes_eq text marker ≡ false) texts

-- without it all is trace
pub all_trace : (texts : List Text) → NoMarker texts → trace_texts texts ≡ texts
all_trace [] none = refl
all_trace (text ∷ texts) none =
    rw (All-head (λ t. bytes_eq t marker ≡ false) text texts none)
    (ap (λ t. text ∷ t) (all_trace texts (All-tail (λ t. bytes_eq t marker ≡ false) text texts none)))

pub no_report : (texts : List Text) → NoMarker texts → report_texts texts ≡ []
no_report [] none = refl
no_report (text ∷ texts) none =
    rw (All-head (λ t. bytes_eq t marker ≡ false) text texts none)
    (no_report texts (All-tail (λ t. bytes_eq t marker ≡ false) text texts none))

-- with it the trace stands before it, and the report behind
pub trace_before : (trace report : List Text) → NoMarker trace → trace_texts (trace ++ marker ∷ report) ≡ trace
trace_before [] report none = refl
trace_before (text ∷ trace) report none =
    rw (All-head (λ t. bytes_eq t marker ≡ false) text trace none)
    (ap (λ t. text ∷ t) (trace_before trace report (All-tail (λ t. bytes_eq t marker ≡ false) text trace none)))

pub report_behind : (trace report : List Text) → NoMarker trace → report_texts (trace ++ marker ∷ report) ≡ report
report_behind [] report none = refl
report_behind (text ∷ trace) report none =
    rw (All-head (λ t. bytes_eq t marker ≡ false) text trace none)
    (report_behind trace report (All-tail (λ t. bytes_eq t marker ≡ false) text trace none))

-- a text that is a line isn't empty
pub some_text : (least number : ℕ) (text : Text) (line : Line) → line_meaning least number text ≡ Ok line
    → 0 < length text
some_text least number [] line means = cc
some_text least number (octet ∷ text) line means = omega arith

-- one line more, which is what it says
pub next_line : (lines : List Line) (least : ℕ) (texts : List Text) (text : Text) (line : Line)
    → ((behind : List Text) → trace_from 1 0 (texts ++ behind)
    ≡ after_lines lines (trace_from (length lines + 1) least behind))
    → line_meaning least (length lines + 1) text ≡ Ok line → (behind : List Text)
    → trace_from 1 0 ((texts ++ text ∷ []) ++ behind)
    ≡ after_lines (lines ++ line ∷ []) (trace_from (length (lines ++ line ∷ []) + 1) line.moment behind)
next_line lines least texts text line says means behind =
    ap (trace_from 1 0) (append_assoc texts (text ∷ []) behind)
    ∙ says (text ∷ behind)
    ∙ ap (λ m. after_lines lines (line_then (length lines + 1) m (λ l. trace_from (length lines + 1 + 1) l.moment behind)))
    means
    ∙ ap (λ n. after_lines lines (after_lines (line ∷ []) (trace_from n line.moment behind))) longer
    ∙ ap (λ its. record { lines = its; stop = (trace_from (length (lines ++ line ∷ []) + 1) line.moment behind).stop })
    (sym (append_assoc lines (line ∷ [])
    (trace_from (length (lines ++ line ∷ []) + 1) line.moment behind).lines))
  where
    longer : length lines + 1 + 1 ≡ length (lines ++ line ∷ []) + 1
    longer = omega (arith, length-append lines (line ∷ []))

-- one that is refused: the trace stops at it
pub next_bad : (lines : List Line) (least : ℕ) (texts : List Text) (text : Text) (why : LineBad)
    → ((behind : List Text) → trace_from 1 0 (texts ++ behind)
    ≡ after_lines lines (trace_from (length lines + 1) least behind))
    → line_meaning least (length lines + 1) text ≡ Err why → (behind : List Text)
    → trace_from 1 0 ((texts ++ text ∷ []) ++ behind) ≡ record { lines = lines; stop = bad (length lines + 1) why }
next_bad lines least texts text why says means behind =
    ap (trace_from 1 0) (append_assoc texts (text ∷ []) behind)
    ∙ says (text ∷ behind)
    ∙ ap (λ m. after_lines lines (line_then (length lines + 1) m (λ l. trace_from (length lines + 1 + 1) l.moment behind)))
    means
    ∙ ap (λ its. record { lines = its; stop = bad (length lines + 1) why }) (append-nil lines)

-- one line more of a report is an entry
pub next_entry : (texts : List Text) (text : Text) (entries : List Entry) (entry : Entry) → AreEntries texts entries
    → text ≡ entry_text entry → IsEntry entry → AreEntries (texts ++ text ∷ []) (entries ++ entry ∷ [])
next_entry texts text entries entry are is range = record {
  same = ap (λ t. t ++ text ∷ []) are.same ∙ ap (λ t. map entry_text entries ++ t ∷ []) is
      ∙ sym (map-append entry_text entries (entry ∷ []));
  ranges = All-append IsEntry entries (entry ∷ []) are.ranges (All-cons IsEntry entry [] range (All-nil IsEntry));
}

-- texts belong to one list of entries
same_entries : (one other : List Entry) → All IsEntry one → All IsEntry other
    → map entry_text one ≡ map entry_text other → one ≡ other
same_entries [] [] are also same = refl
same_entries [] (y ∷ other) are also same = cc
same_entries (x ∷ one) [] are also same = cc
same_entries (x ∷ one) (y ∷ other) are also same =
    let first : entry_text x ≡ entry_text y = cc in
    let rest : map entry_text one ≡ map entry_text other = cc in
    ap₂ (λ e es. e ∷ es)
    (text_tells x y (All-head IsEntry x one are) (All-head IsEntry y other also) first)
    (same_entries one other (All-tail IsEntry x one are) (All-tail IsEntry y other also) rest)

pub one_list : (texts : List Text) (one other : List Entry) → AreEntries texts one → AreEntries texts other
    → one ≡ other
one_list texts one other are also = same_entries one other are.ranges also.ranges (sym are.same ∙ also.same)

-- the text is an entry's
abbrev IsSome : Text → Type 0
IsSome text = (entry : Entry) × IsEntry entry × (text ≡ entry_text entry)

all_some : (entries : List Entry) → All IsEntry entries → All IsSome (map entry_text entries)
all_some [] are = All-nil IsSome
all_some (entry ∷ entries) are =
    All-cons IsSome (entry_text entry) (map entry_text entries) (entry, All-head IsEntry entry entries are, refl)
    (all_some entries (All-tail IsEntry entry entries are))

-- so none of the lines of entries is none
pub no_other : (texts : List Text) (entries : List Entry) → AreEntries texts entries → HasNoEntry texts → ⊥
no_other texts entries are has =
    let one : IsSome has.text = All-contains IsSome texts has.text
    (subst (All IsSome) (sym are.same) (all_some entries are.ranges)) has.stands in
    has.none one.0 one.1 one.2

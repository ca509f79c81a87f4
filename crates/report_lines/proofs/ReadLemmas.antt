-- An answer that is what the fields are, or out of memory, in the words of entries and texts.
use Rattle.std.proofs.Common.{◌≡◌, ℕ, List, refl, sym, ap, ◌∙◌, Option, Some, None, Result, Ok, Err, inl, inr, alloc_error}
use Rattle.std.specs.Prelude.{IfOk, IfSome}
use Rattle.std.specs.declared.alloc.AllocError.{AllocError}
use Rattle.wire_octets.specs.Memory.{OrNoMemory}
use Rattle.report_lines.specs.declared.entry.Entry.{Entry}
use Rattle.report_lines.specs.Ranges.{IsEntry}
use Rattle.report_lines.specs.Reading.{entry_of}
use Rattle.report_lines.specs.Text.{entry_text}
use Rattle.report_lines.proofs.TextLemmas.{entry_given, entry_read}

found_at : (read : Option Entry) (text : List ℕ) → read ≡ entry_of text
    → IfSome read (λ entry. (text ≡ entry_text entry) × IsEntry entry)
found_at None text is = tt
found_at (Some entry) text is = entry_given text entry (sym is)

pub found_by : (answer : Result (Option Entry) AllocError) (text : List ℕ) → IfOk answer (λ read. read ≡ entry_of text)
    → IfOk answer (λ read. IfSome read (λ entry. text ≡ entry_text entry))
found_by (Ok None) text is = tt
found_by (Ok (Some entry)) text is = (found_at (Some entry) text is).0
found_by (Err why) text is = tt

pub ranges_by : (answer : Result (Option Entry) AllocError) (text : List ℕ) → IfOk answer (λ read. read ≡ entry_of text)
    → IfOk answer (λ read. IfSome read IsEntry)
ranges_by (Ok None) text is = tt
ranges_by (Ok (Some entry)) text is = (found_at (Some entry) text is).1
ranges_by (Err why) text is = tt

pub only_by : (answer : Result (Option Entry) AllocError) (text : List ℕ) → IfOk answer (λ read. read ≡ entry_of text)
    → (entry : Entry) → IsEntry entry → text ≡ entry_text entry → OrNoMemory answer (Ok (Some entry)) alloc_error
only_by (Ok read) text is entry is_entry same = inl (ap Ok (is ∙ ap entry_of same ∙ entry_read entry is_entry))
only_by (Err why) text is entry is_entry same = inr refl

-- Texts of entries, one more behind the others.
use Rattle.std.proofs.Common.{◌≡◌, ℕ, ◌+◌, ◌<◌, Bool, List, [], ◌∷◌, ◌++◌, length, get_or, take, map, flat_map, sym, ap, ◌∙◌, append_assoc, append-nil}
use Rattle.std.proofs.lemmas.Grind.{flat_map-append}
use Rattle.std.proofs.lemmas.List.{map-append, take_more}
use Rattle.charging_book.specs.declared.records.ChargeRow.{ChargeRow}
use Rattle.report_lines.specs.Text.{entry_text, shown}
use Rattle.report_lines.specs.declared.entry.ChargeEntry.{ChargeEntry}
use Rattle.report_lines.specs.declared.entry.ChargeEntry.TheVariants.{R}
use Rattle.report_lines.specs.declared.entry.Entry.{Entry}
use Rattle.report_lines.specs.declared.entry.Entry.TheVariants as entry
use Rattle.report_lines.specs.declared.entry.LineEntry.{LineEntry}
use Rattle.lawful_run.specs.Report.{EpochReport, epoch_entries, texts_of}
use Rattle.trace_run.specs.Entries.{charges_text, closing_text, line_of, lines_text}

pub texts-append : (places : Bool) (prefix back : List Entry)
    → texts_of places (prefix ++ back) ≡ texts_of places prefix ++ texts_of places back
texts-append places prefix back = flat_map-append (λ told. entry_text (shown places told) ++ 10 ∷ []) prefix back

pub lines-append : (places : Bool) (prefix back : List LineEntry)
    → lines_text places (prefix ++ back) ≡ lines_text places prefix ++ lines_text places back
lines-append places prefix back =
    ap (texts_of places) (map-append entry.Line prefix back)
    ∙ texts-append places (map entry.Line prefix) (map entry.Line back)

pub charges-append : (places : Bool) (prefix back : List ChargeEntry)
    → charges_text places (prefix ++ back) ≡ charges_text places prefix ++ charges_text places back
charges-append places prefix back =
    ap (texts_of places) (map-append entry.Charge prefix back)
    ∙ texts-append places (map entry.Charge prefix) (map entry.Charge back)

-- an epoch's text, and the texts of epochs with one more
pub epoch_text : (places : Bool) (told : EpochReport)
    → texts_of places (epoch_entries told) ≡ lines_text places told.lines ++ closing_text places told
epoch_text places told =
    texts-append places (map entry.Line told.lines) (map entry.Effect told.effects ++ map entry.Charge told.rows)
    ∙ ap (λ more. lines_text places told.lines ++ more)
    (texts-append places (map entry.Effect told.effects) (map entry.Charge told.rows))

pub epochs_text-push : (places : Bool) (told : List EpochReport) (now : EpochReport)
    → texts_of places (flat_map epoch_entries (told ++ now ∷ []))
    ≡ texts_of places (flat_map epoch_entries told) ++ (lines_text places now.lines ++ closing_text places now)
epochs_text-push places told now =
    ap (texts_of places) (flat_map-append epoch_entries told (now ∷ []))
    ∙ texts-append places (flat_map epoch_entries told) (flat_map epoch_entries (now ∷ []))
    ∙ ap (λ more. texts_of places (flat_map epoch_entries told) ++ texts_of places more)
    (append-nil (epoch_entries now))
    ∙ ap (λ more. texts_of places (flat_map epoch_entries told) ++ more) (epoch_text places now)

-- three texts, one behind the other
pub behind_each : (prefix note effects rows one two three : List ℕ) → one ≡ prefix ++ note → two ≡ one ++ effects
    → three ≡ two ++ rows → three ≡ prefix ++ (note ++ (effects ++ rows))
behind_each prefix note effects rows one two three first second third =
    third ∙ ap (λ text. text ++ rows) (second ∙ ap (λ text. text ++ effects) first)
    ∙ append_assoc (prefix ++ note) effects rows ∙ append_assoc prefix note (effects ++ rows)

-- charges of one more item
pub charges_more : {X : Type 0} (places : Bool) (charges : X → List ChargeEntry) (prefix old new : List ℕ)
    (items : List X) (i : ℕ) (item : X) → i < length items → item ≡ get_or items i item
    → old ≡ prefix ++ charges_text places (flat_map charges (take i items))
    → new ≡ old ++ charges_text places (charges item)
    → new ≡ prefix ++ charges_text places (flat_map charges (take (i + 1) items))
charges_more places charges prefix old new items i item within is so_far more =
    more ∙ ap (λ text. text ++ charges_text places (charges item)) so_far
    ∙ append_assoc prefix (charges_text places (flat_map charges (take i items))) (charges_text places (charges item))
    ∙ ap (λ text. prefix ++ text) (sym (charges-append places (flat_map charges (take i items)) (charges item))
    ∙ ap (λ last. charges_text places (flat_map charges (take i items) ++ last))
    (sym (append-nil (charges item)) ∙ ap (λ x. charges x ++ []) is)
    ∙ ap (charges_text places) (sym (flat_map-append charges (take i items) (get_or items i item ∷ []))
    ∙ ap (flat_map charges) (sym (take_more items i item within))))

-- one record more
pub rows_more : (places : Bool) (slot : ℕ) (prefix old new : List ℕ) (rows : List ChargeRow) (i : ℕ) (row : ChargeRow)
    → i < length rows → row ≡ get_or rows i row
    → old ≡ prefix ++ charges_text places (map (R slot) (take i rows))
    → new ≡ old ++ line_of (entry.Charge (R slot row))
    → new ≡ prefix ++ charges_text places (map (R slot) (take (i + 1) rows))
rows_more places slot prefix old new rows i row within is so_far more =
    more ∙ ap (λ text. old ++ text) (sym (append-nil (line_of (entry.Charge (R slot row)))))
    ∙ ap (λ text. text ++ charges_text places (R slot row ∷ [])) so_far
    ∙ append_assoc prefix (charges_text places (map (R slot) (take i rows))) (charges_text places (R slot row ∷ []))
    ∙ ap (λ text. prefix ++ text) (sym (charges-append places (map (R slot) (take i rows)) (R slot row ∷ []))
    ∙ ap (λ last. charges_text places (map (R slot) (take i rows) ++ R slot last ∷ [])) is
    ∙ ap (charges_text places) (sym (map-append (R slot) (take i rows) (get_or rows i row ∷ []))
    ∙ ap (map (R slot)) (sym (take_more rows i row within))))

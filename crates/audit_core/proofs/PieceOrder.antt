-- The entries of a piece, held against those due.
use Rattle.std.proofs.Common.{◌≡◌, ℕ, ◌+◌, ◌<◌, ◌≤◌, true, false, is_some, IfNone, IfSome, Option, Some, None, List, [], ◌∷◌, ◌++◌, length, map, take, drop, get_or, refl, sym, ap, ◌∙◌, subst, arith, append_assoc}
use Rattle.std.proofs.lemmas.List.{map_push, take-append-drop, take-map, take_all}
use Rattle.report_lines.specs.declared.entry.ChargeEntry.{ChargeEntry}
use Rattle.report_lines.specs.declared.entry.Entry.{Entry}
use Rattle.report_lines.specs.declared.entry.Entry.TheVariants as entry
use Rattle.lawful_run.specs.LinesTold.{LineTold}
use Rattle.audit_core.specs.Dues.{DiffersAt, IsOther, StandsSo, effects_lent, entries_due, entry_due}
use Rattle.audit_core.specs.Matched.{entries_stood}
use Rattle.audit_core.specs.Meant.{lines_of}
use Rattle.audit_core.specs.Places.{first_of}
use Rattle.audit_core.specs.Why.{OrderBreak}
use Rattle.audit_core.specs.declared.due_entries.EffectDue.{EffectDue}
use Rattle.audit_core.specs.declared.order.Due.{Due}
use Rattle.audit_core.specs.declared.report.Stood.{Stood}
use Rattle.audit_core.specs.declared.telling.Break.{Break}
use Rattle.audit_core.specs.declared.told_line.ToldLine.{ToldLine}
use Rattle.audit_core.proofs.OrderLemmas.{asked_other, asked_there, differs_on, differs_order}
use Rattle.audit_core.proofs.RestLemmas.{drop_mapped, mapped_more}

-- the entry at a place
pub stood_at : (entries : List Stood) (at : ℕ) (one : Stood) → at < length entries → one ≡ get_or entries at one
    → first_of (drop at (entries_stood entries)) ≡ Some one.entry
stood_at entries at one low is = ap first_of (drop_mapped (λ (s : Stood). s.entry) entries at one low is)

-- nothing was held yet
pub stands_none : (entries : List Entry) → StandsSo entries [] 0
stands_none entries = record { left = entries; parts = refl; behind = refl }

-- one more that is due
due_more : (due : List Due) (at : ℕ) (one : Due) → at < length due → one ≡ get_or due at one
    → map entry_due (take at due) ++ entry_due one ∷ [] ≡ map entry_due (take (at + 1) due)
due_more due at one low is = mapped_more entry_due [] due at one low is

pub next_stands : (entries : List Entry) (due : List Due) (at : ℕ) (one : Due) (found : Option Break)
    → at < length due → one ≡ get_or due at one → is_some found ≡ false
    → StandsSo entries (map entry_due (take at due)) at
    → IfNone found (first_of (drop at entries) ≡ Some (entry_due one))
    → StandsSo entries (map entry_due (take (at + 1) due)) (at + 1)
next_stands entries due at one None low is none so there =
    subst (λ asked. StandsSo entries asked (at + 1)) (due_more due at one low is)
    (asked_there entries (map entry_due (take at due)) at (entry_due one) so there)
next_stands entries due at one (Some found) low is none so there = absurd (cc)

pub next_differs : (entries : List Entry) (due : List Due) (at : ℕ) (one : Due) (found : Option Break)
    → at < length due → one ≡ get_or due at one
    → StandsSo entries (map entry_due (take at due)) at
    → IfSome found (IsOther (first_of (drop at entries)) (entry_due one))
    → IfSome found (OrderBreak entries (map entry_due due))
next_differs entries due at one None low is so there = tt
next_differs entries due at one (Some found) low is so there =
    let asked = map entry_due (take (at + 1) due) in
    let first : DiffersAt entries asked found =
    subst (λ a. DiffersAt entries a found) (due_more due at one low is)
    (asked_other entries (map entry_due (take at due)) at (entry_due one) found so there) in
    let all : asked ++ drop (at + 1) (map entry_due due) ≡ map entry_due due =
    ap (λ l. l ++ drop (at + 1) (map entry_due due)) (sym (take-map entry_due (at + 1) due))
    ∙ take-append-drop (at + 1) (map entry_due due) in
    subst (λ a. OrderBreak entries a found) all
    (differs_order entries (asked ++ drop (at + 1) (map entry_due due)) found
    (differs_on entries asked (drop (at + 1) (map entry_due due)) found first))

-- one more is pushed
pub pushed_due : (all : List Due) (one : Due) {before : List Entry} → map entry_due all ≡ before
    → map entry_due (all ++ one ∷ []) ≡ before ++ entry_due one ∷ []
pushed_due all one same = map_push entry_due all one ∙ ap (λ l. l ++ entry_due one ∷ []) same

pub no_break : (P : Type 0) (found : Option Break) → is_some found ≡ true → IfNone found P
no_break P None some = absurd (cc)
no_break P (Some found) some = tt

pub all_stand : (entries : List Entry) (due : List Due) (at : ℕ) → length due ≤ at → at ≤ length due
    → StandsSo entries (map entry_due (take at due)) at → StandsSo entries (map entry_due due) (length due)
all_stand entries due at past low so =
    let end : at ≡ length due = omega (arith, past, low) in
    subst (λ n. StandsSo entries (map entry_due due) n) end
    (subst (λ l. StandsSo entries (map entry_due l) at) (take_all at due past) so)

pub unbroken_so : (P : Type 0) (found : Option Break) → is_some found ≡ false → IfNone found P → P
unbroken_so P None none is = is
unbroken_so P (Some found) none is = absurd (cc)

-- all that is due, one behind another
pub dues_are : (lines : List ToldLine) (effects : List EffectDue) (rows opens : List ChargeEntry)
    (none one two three all : List Due) → none ≡ []
    → map entry_due one ≡ map entry_due none
    ++ map entry.Line (map (λ (told : LineTold). told.entry) (lines_of lines))
    → map entry_due two ≡ map entry_due one ++ map entry.Effect (effects_lent effects)
    → map entry_due three ≡ map entry_due two ++ map entry.Charge rows
    → map entry_due all ≡ map entry_due three ++ map entry.Charge opens
    → map entry_due all
    ≡ entries_due (lines_of lines) (effects_lent effects) rows ++ map entry.Charge opens
dues_are lines effects rows opens none one two three all empty first second third fourth =
    let told = map entry.Line (map (λ (told : LineTold). told.entry) (lines_of lines)) in
    let made = map entry.Effect (effects_lent effects) in
    let closed = map entry.Charge rows in
    fourth ∙ ap (λ l. l ++ map entry.Charge opens)
    (third ∙ ap (λ l. l ++ closed) (second ∙ ap (λ l. l ++ made) (first ∙ ap (λ l. map entry_due l ++ told) empty))
    ∙ append_assoc told made closed)

pub stands_len : (entries : List Entry) (held due : List Due) (count : ℕ) → held ≡ due → count ≡ length due
    → StandsSo entries (map entry_due held) (length held) → StandsSo entries (map entry_due due) count
stands_len entries held due count same many so =
    subst (λ n. StandsSo entries (map entry_due due) n) (sym many)
    (subst (λ l. StandsSo entries (map entry_due l) (length l)) same so)

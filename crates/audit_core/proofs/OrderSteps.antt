-- One entry more that is asked for, and no more.
use Rattle.std.proofs.Common.{◌≡◌, ℕ, ◌+◌, ◌<◌, true, false, is_some, IfNone, IfSome, Option, Some, None, List, [], ◌∷◌, ◌++◌, length, map, take, drop, get_or, refl, sym, ap, ◌∙◌, append_assoc}
use Rattle.std.proofs.lemmas.List.{get_or-map, length-map, take-map}
use Rattle.demux.specs.Trace.{Meaning}
use Rattle.report_lines.specs.declared.entry.Entry.{Entry}
use Rattle.report_lines.specs.declared.entry.Entry.TheVariants as entry
use Rattle.lawful_run.specs.LinesTold.{LineTold}
use Rattle.audit_core.specs.Dues.{Asks, DiffersAt, IsOther, StandsSo, effected, effects_lent}
use Rattle.audit_core.specs.Meant.{line_told, lines_of}
use Rattle.audit_core.specs.Places.{first_of}
use Rattle.audit_core.specs.Why.{OrderBreak}
use Rattle.audit_core.specs.declared.due_entries.EffectDue.{EffectDue}
use Rattle.audit_core.specs.declared.order.EntryOrder.{EntryOrder}
use Rattle.audit_core.specs.declared.telling.Break.{Break}
use Rattle.audit_core.specs.declared.told_line.ToldLine.{ToldLine}
use Rattle.audit_core.proofs.OrderLemmas.{asked_other, asked_there, differs_on, differs_order, more_asked}

broken_on : (entries asked more : List Entry) (broken : Option Break) → is_some broken ≡ true
    → IfSome broken (DiffersAt entries asked) → IfSome broken (DiffersAt entries (asked ++ more))
broken_on entries asked more None some is = absurd (cc)
broken_on entries asked more (Some found) some is = differs_on entries asked more found is

none_broken : (P : Type 0) (broken : Option Break) → is_some broken ≡ true → IfNone broken P
none_broken P None some = absurd (cc)
none_broken P (Some found) some = tt

-- whatever is due behind a break
pub asks_on : (made : List (List Meaning)) (entries asked more : List Entry) (order : EntryOrder)
    → is_some order.broken ≡ true → Asks made entries asked order → Asks made entries (asked ++ more) order
asks_on made entries asked more order broken asks = record {
  held = asks.held;
  stood = asks.stood;
  some = broken_on entries asked more order.broken broken asks.some;
  none = none_broken (StandsSo entries (asked ++ more) order.place) order.broken broken;
}

-- none yet
pub unbroken : (broken : Option Break) (P : Type 0) → is_some broken ≡ false → IfNone broken P → P
unbroken None P none is = is
unbroken (Some found) P none is = absurd (cc)

pub next_differs : (entries asked : List Entry) (place : ℕ) (due : Entry) (found : Option Break)
    → StandsSo entries asked place → IfSome found (IsOther (first_of (drop place entries)) due)
    → IfSome found (DiffersAt entries (asked ++ due ∷ []))
next_differs entries asked place due None so is = tt
next_differs entries asked place due (Some found) so is = asked_other entries asked place due found so is

pub next_stands : (entries asked : List Entry) (place : ℕ) (due : Entry) (found : Option Break)
    → StandsSo entries asked place → IfNone found (first_of (drop place entries) ≡ Some due)
    → IfNone found (StandsSo entries (asked ++ due ∷ []) (place + 1))
next_stands entries asked place due None so is = asked_there entries asked place due so is
next_stands entries asked place due (Some found) so is = tt

-- no more are asked for
pub ended_broken : (entries asked : List Entry) (broken : Option Break) → is_some broken ≡ true
    → IfSome broken (DiffersAt entries asked) → IfSome broken (OrderBreak entries asked)
ended_broken entries asked None some is = absurd (cc)
ended_broken entries asked (Some found) some is = differs_order entries asked found is

pub not_ended : (P : Type 0) (broken : Option Break) → is_some broken ≡ true → IfNone broken P
not_ended P broken some = none_broken P broken some

pub held_none : (P : Type 0) (broken : Option Break) → P → IfNone broken P
held_none P None is = is
held_none P (Some found) is = tt

pub no_some : {X : Type 0} (told : Option X) → ((x : X) → told ≡ Some x → ⊥) → told ≡ None
no_some None none = refl
no_some (Some x) none = absurd (none x refl)

-- one effect more, one line more
more_due : {X Y : Type 0} (as_entry : Y → Entry) (f : X → Y) (asked : List Entry) (items : List X) (i : ℕ) (x : X)
    → i < length items → x ≡ get_or items i x
    → (asked ++ map as_entry (map f (take i items))) ++ as_entry (f x) ∷ []
    ≡ asked ++ map as_entry (map f (take (i + 1) items))
more_due as_entry f asked items i x within is =
    ap (λ l. (asked ++ map as_entry l) ++ as_entry (f x) ∷ []) (sym (take-map f i items))
    ∙ more_asked as_entry asked (map f items) i (f x) (simp length-map within)
    (ap f is ∙ sym (get_or-map f items i x (f x) within))
    ∙ ap (λ l. asked ++ map as_entry l) (take-map f (i + 1) items)

pub effect_more : (asked : List Entry) (effects : List EffectDue) (i : ℕ) (x : EffectDue) → i < length effects
    → x ≡ get_or effects i x
    → (asked ++ map entry.Effect (effects_lent (take i effects))) ++ entry.Effect (effected x) ∷ []
    ≡ asked ++ map entry.Effect (effects_lent (take (i + 1) effects))
effect_more asked effects i x within is = more_due entry.Effect effected asked effects i x within is

lines_taken : (lines : List ToldLine) (i : ℕ) → lines_of (take i lines) ≡ take i (lines_of lines)
lines_taken lines i = sym (take-map line_told i lines)

pub line_more : (asked : List Entry) (lines : List ToldLine) (i : ℕ) (x : ToldLine) → i < length lines
    → x ≡ get_or lines i x
    → (asked ++ map entry.Line (map (λ (told : LineTold). told.entry) (lines_of (take i lines))))
    ++ entry.Line (line_told x).entry ∷ []
    ≡ asked ++ map entry.Line (map (λ (told : LineTold). told.entry) (lines_of (take (i + 1) lines)))
line_more asked lines i x within is =
    ap (λ l. (asked ++ map entry.Line (map (λ (told : LineTold). told.entry) l)) ++ entry.Line (line_told x).entry ∷ [])
    (lines_taken lines i)
    ∙ more_due entry.Line (λ (told : LineTold). told.entry) asked (lines_of lines) i (line_told x)
    (simp length-map within) (ap line_told is ∙ sym (get_or-map line_told lines i x (line_told x) within))
    ∙ ap (λ l. asked ++ map entry.Line (map (λ (told : LineTold). told.entry) l)) (sym (lines_taken lines (i + 1)))

-- lines, effects and records behind others
pub asked_parts : (asked a b d : List Entry) → ((asked ++ a) ++ b) ++ d ≡ asked ++ (a ++ (b ++ d))
asked_parts asked a b d = append_assoc (asked ++ a) b d ∙ append_assoc asked a (b ++ d)

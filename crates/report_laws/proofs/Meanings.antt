-- Lines that mean the same to some slots: what is told of these.
use Rattle.std.proofs.Common.{◌≡◌, ℕ, ◌+◌, ◌⊎◌, ◌==◌, Bool, true, false, List, [], ◌∷◌, ◌++◌, length, cond, refl, sym, ap, ◌∙◌, inl, inr, arith, append_assoc}
use Rattle.std.specs.List.{filter}
use Rattle.std.proofs.lemmas.Bool.{cases_Bool, ne_eqb}
use Rattle.demux.specs.Packets.{numbered}
use Rattle.demux.specs.Trace.{Meaning, command, packet, move, note}
use Rattle.gate_model.specs.Events.{packets_of}
use Rattle.gate_model.specs.declared.event.Event.{Event}
use Rattle.gate_model.specs.declared.event.Event.TheVariants as event
use Rattle.report_lines.specs.declared.entry.LineEntry.{LineEntry}
use Rattle.lawful_run.specs.AnsweredRun.{entry_after, entries_from, with_line, behind_line, behind_lines, events_after, brings, brought}
use Rattle.lawful_run.specs.Merging.{Histories}
use Rattle.report_laws.specs.Told.{tells_of}

-- a line is a command or packet of one of these slots
abbrev pub is_meant : (ℕ → Bool) → Meaning → Bool
is_meant own (command slot c) = own slot
is_meant own (packet slot p) = own slot
is_meant own (move slot slice text) = false
is_meant own (note text) = false

-- two lines mean the same, or nothing to these slots
abbrev pub Alike : (ℕ → Bool) → Meaning → Meaning → Type 0
Alike own now other = (now ≡ other) ⊎ ((is_meant own now ≡ false) × (is_meant own other ≡ false))

abbrev pub AllAlike : (ℕ → Bool) → List Meaning → List Meaning → Type 0
AllAlike own [] [] = Unit {0}
AllAlike own [] (other ∷ others) = ⊥
AllAlike own (now ∷ made) [] = ⊥
AllAlike own (now ∷ made) (other ∷ others) = Alike own now other × AllAlike own made others

-- these slots have the same events
abbrev pub SameEvents : (ℕ → Bool) → Histories → Histories → Type 0
SameEvents own before other = (slot : ℕ) → own slot ≡ true → before slot ≡ other slot

-- a slot of these isn't one of the others
pub apart : (own : ℕ → Bool) (at slot : ℕ) → own slot ≡ true → own at ≡ false → (at == slot) ≡ false
apart own at slot mine other = ne_eqb at slot (λ same. cc)

-- a line of others brings nothing
foreign_brings : (own : ℕ → Bool) (slot : ℕ) (events : List Event) (now : Meaning) → own slot ≡ true
    → is_meant own now ≡ false → brings slot events now ≡ []
foreign_brings own slot events (note text) mine is = refl
foreign_brings own slot events (move at slice text) mine is = refl
foreign_brings own slot events (command at c) mine is =
    ap (λ t. cond t (event.Command c ∷ []) []) (apart own at slot mine is)
foreign_brings own slot events (packet at p) mine is =
    ap (λ t. cond t (event.Packet (numbered (length (packets_of events)) p) ∷ []) []) (apart own at slot mine is)

foreign_line : (own : ℕ → Bool) (slot : ℕ) (events : List Event) (now : Meaning) → own slot ≡ true
    → is_meant own now ≡ false → with_line slot events now ≡ events
foreign_line own slot events (note text) mine is = refl
foreign_line own slot events (move at slice text) mine is = refl
foreign_line own slot events (command at c) mine is =
    ap (λ t. cond t (events ++ event.Command c ∷ []) events) (apart own at slot mine is)
foreign_line own slot events (packet at p) mine is =
    ap (λ t. cond t (events ++ event.Packet (numbered (length (packets_of events)) p) ∷ []) events)
    (apart own at slot mine is)

pub alike_line : (own : ℕ → Bool) (slot : ℕ) (events : List Event) (now other : Meaning) → Alike own now other
    → own slot ≡ true → with_line slot events now ≡ with_line slot events other
alike_line own slot events now other (inl same) mine = ap (with_line slot events) same
alike_line own slot events now other (inr apart) mine =
    foreign_line own slot events now mine apart.0 ∙ sym (foreign_line own slot events other mine apart.1)

alike_brings : (own : ℕ → Bool) (slot : ℕ) (events : List Event) (now other : Meaning) → Alike own now other
    → own slot ≡ true → brings slot events now ≡ brings slot events other
alike_brings own slot events now other (inl same) mine = ap (brings slot events) same
alike_brings own slot events now other (inr apart) mine =
    foreign_brings own slot events now mine apart.0 ∙ sym (foreign_brings own slot events other mine apart.1)

-- the events of a slot behind lines, and those that they bring
pub same_events : (own : ℕ → Bool) (slot : ℕ) (events : List Event) (made others : List Meaning)
    → AllAlike own made others → own slot ≡ true → events_after slot events made ≡ events_after slot events others
same_events own slot events [] [] alike mine = refl
same_events own slot events [] (other ∷ others) alike mine = absurd alike
same_events own slot events (now ∷ made) [] alike mine = absurd alike
same_events own slot events (now ∷ made) (other ∷ others) alike mine =
    ap (λ es. events_after slot es made) (alike_line own slot events now other alike.0 mine)
    ∙ same_events own slot (with_line slot events other) made others alike.1 mine

pub same_brought : (own : ℕ → Bool) (slot : ℕ) (events : List Event) (made others : List Meaning)
    → AllAlike own made others → own slot ≡ true → brought slot events made ≡ brought slot events others
same_brought own slot events [] [] alike mine = refl
same_brought own slot events [] (other ∷ others) alike mine = absurd alike
same_brought own slot events (now ∷ made) [] alike mine = absurd alike
same_brought own slot events (now ∷ made) (other ∷ others) alike mine =
    (λ i. alike_brings own slot events now other alike.0 mine i
    ++ brought slot (alike_line own slot events now other alike.0 mine i) made)
    ∙ ap (λ es. brings slot events other ++ es)
    (same_brought own slot (with_line slot events other) made others alike.1 mine)

-- the entry of a line of others is left out
foreign_entry : (own : ℕ → Bool) (n : ℕ) (before : Histories) (now : Meaning) → is_meant own now ≡ false
    → tells_of own (entry_after n before now) ≡ false
foreign_entry own n before (note text) is = refl
foreign_entry own n before (move at slice text) is = refl
foreign_entry own n before (command at c) is = is
foreign_entry own n before (packet at p) is = is

left_out : (own : ℕ → Bool) (entry : LineEntry) (entries : List LineEntry) → tells_of own entry ≡ false
    → filter (tells_of own) (entry ∷ entries) ≡ filter (tells_of own) entries
left_out own entry entries is =
    ap (λ t. cond t (entry ∷ filter (tells_of own) entries) (filter (tells_of own) entries)) is

-- the first entry of both, before what is told the same
one_line : (own : ℕ → Bool) (n : ℕ) (before other : Histories) (now : Meaning) (entries others : List LineEntry)
    → SameEvents own before other → filter (tells_of own) entries ≡ filter (tells_of own) others
    → filter (tells_of own) (entry_after n before now ∷ entries)
    ≡ filter (tells_of own) (entry_after n other now ∷ others)
one_line own n before other (note text) entries others same rest = rest
one_line own n before other (move at slice text) entries others same rest = rest
one_line own n before other (command at c) entries others same rest = elim (cases_Bool (own at)) [
  | inl mine ↦ (λ i. cond (own at) (entry_after n (λ s. same at mine i) (command at c)
      ∷ rest i) (rest i))
  | inr apart ↦ left_out own (entry_after n before (command at c)) entries apart ∙ rest
      ∙ sym (left_out own (entry_after n other (command at c)) others apart)
]
one_line own n before other (packet at p) entries others same rest = elim (cases_Bool (own at)) [
  | inl mine ↦ (λ i. cond (own at) (entry_after n (λ s. same at mine i) (packet at p)
      ∷ rest i) (rest i))
  | inr apart ↦ left_out own (entry_after n before (packet at p)) entries apart ∙ rest
      ∙ sym (left_out own (entry_after n other (packet at p)) others apart)
]

alike_first : (own : ℕ → Bool) (n : ℕ) (before other : Histories) (now later : Meaning)
    (entries others : List LineEntry)
    → Alike own now later → SameEvents own before other
    → filter (tells_of own) entries ≡ filter (tells_of own) others
    → filter (tells_of own) (entry_after n before now ∷ entries)
    ≡ filter (tells_of own) (entry_after n other later ∷ others)
alike_first own n before other now later entries others (inl is) same rest =
    one_line own n before other now entries others same rest
    ∙ ap (λ m. filter (tells_of own) (entry_after n other m ∷ others)) is
alike_first own n before other now later entries others (inr apart) same rest =
    left_out own (entry_after n before now) entries (foreign_entry own n before now apart.0) ∙ rest
    ∙ sym (left_out own (entry_after n other later) others (foreign_entry own n other later apart.1))

pub same_behind : (own : ℕ → Bool) (before other : Histories) (now later : Meaning) → Alike own now later
    → SameEvents own before other → SameEvents own (behind_line before now) (behind_line other later)
same_behind own before other now later alike same = λ slot mine.
    ap (λ es. with_line slot es now) (same slot mine) ∙ alike_line own slot (other slot) now later alike mine

pub same_entries : (own : ℕ → Bool) (n : ℕ) (before other : Histories) (made others : List Meaning)
    → AllAlike own made others → SameEvents own before other
    → filter (tells_of own) (entries_from n before made) ≡ filter (tells_of own) (entries_from n other others)
same_entries own n before other [] [] alike same = refl
same_entries own n before other [] (later ∷ others) alike same = absurd alike
same_entries own n before other (now ∷ made) [] alike same = absurd alike
same_entries own n before other (now ∷ made) (later ∷ others) alike same =
    alike_first own n before other now later (entries_from (n + 1) (behind_line before now) made)
    (entries_from (n + 1) (behind_line other later) others) alike.0 same
    (same_entries own (n + 1) (behind_line before now) (behind_line other later) made others alike.1
    (same_behind own before other now later alike.0 same))

-- lines behind others
pub entries_from-append : (n : ℕ) (before : Histories) (made more : List Meaning)
    → entries_from n before (made ++ more) ≡ entries_from n before made
    ++ entries_from (n + length made) (behind_lines before made) more
entries_from-append n before [] more = ap (λ k. entries_from k before more) (omega arith)
entries_from-append n before (now ∷ made) more =
    ap (λ rest. entry_after n before now ∷ rest)
    (entries_from-append (n + 1) (behind_line before now) made more
    ∙ ap (λ k. entries_from (n + 1) (behind_line before now) made
    ++ entries_from k (behind_lines before (now ∷ made)) more) (omega arith))

pub events_after-append : (slot : ℕ) (events : List Event) (made more : List Meaning)
    → events_after slot events (made ++ more) ≡ events_after slot (events_after slot events made) more
events_after-append slot events [] more = refl
events_after-append slot events (now ∷ made) more = events_after-append slot (with_line slot events now) made more

pub brought-append : (slot : ℕ) (events : List Event) (made more : List Meaning)
    → brought slot events (made ++ more)
    ≡ brought slot events made ++ brought slot (events_after slot events made) more
brought-append slot events [] more = refl
brought-append slot events (now ∷ made) more =
    ap (λ rest. brings slot events now ++ rest) (brought-append slot (with_line slot events now) made more)
    ∙ sym (append_assoc (brings slot events now) (brought slot (with_line slot events now) made)
    (brought slot (events_after slot (with_line slot events now) made) more))

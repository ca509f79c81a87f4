-- A part and the whole trace: alike to the part's slots, and each line of the part is answered there as in the whole.
use Rattle.std.proofs.Common.{◌⊎◌, ◌≡◌, ◌≢◌, ℕ, ◌+◌, ◌<◌, ◌==◌, Bool, true, false, if◌then◌else◌, List, [], ◌∷◌, ◌++◌, cond, refl, sym, ap, subst, ◌∙◌, inl, inr}
use Rattle.std.proofs.lemmas.Bool.{cases_Bool, eq-eqb, eqb-true, ne_eqb}
use Rattle.trace_lines.specs.Line.{Line}
use Rattle.demux.specs.Destinations.{bound_for}
use Rattle.demux.specs.Resolved.{book_after, decided, slot_of}
use Rattle.demux.specs.Texts.{move_note}
use Rattle.demux.specs.Trace.{book_of, command, decisions, destination_after, meant, move, packet}
use Rattle.demux.specs.Trace as trace
use Rattle.demux.specs.declared.decision.Decision.{Decision}
use Rattle.demux.specs.declared.decision.Decision.TheVariants.{Command, Packet, Move, Note}
use Rattle.demux.proofs.TraceLemmas.{book_of-push, destination_after-push}
use Rattle.report_lines.specs.declared.entry.LineEntry.{LineEntry}
use Rattle.report_lines.specs.declared.entry.LineEntry.TheVariants as line_of
use Rattle.lawful_run.specs.AnsweredRun.{behind_line, entries_from, entry_after}
use Rattle.lawful_run.specs.Merging.{Histories}
use Rattle.lawful_run.specs.Trace.{meant_from, meant_next, settled_by}
use Rattle.report_laws.specs.Lines.{AreAlike, AreOthers, is_for}
use Rattle.report_laws.specs.Parts.{AreFor, IsFor, IsPart, IsReplaced, PartsAreAlike, is_of}
use Rattle.report_laws.proofs.LineLemmas.{alike_next, book_next, noted_book, noted_decided, noted_foreign}
use Rattle.report_laws.proofs.Meanings.{SameEvents, same_behind}

-- a line for another part is no command or packet of this part's slots
not_for : (part_of : ℕ → ℕ) (part own : ℕ) (book : List (List ℕ)) (now : Decision) → IsFor part_of book now part
    → part ≢ own → is_for (is_of part_of own) book now ≡ false
not_for part_of part own book (Command whose asks) is other =
    ne_eqb (part_of (slot_of book whose)) own (λ same. other (sym is ∙ same))
not_for part_of part own book (Packet at lent) is other = ne_eqb (part_of at) own (λ same. other (sym is ∙ same))
not_for part_of part own book (Move at slice) is other = refl
not_for part_of part own book (Note text) is other = refl

module _ (part_of : ℕ → ℕ) (count slices own : ℕ) where
  line_alike : (part : ℕ) (book : List (List ℕ)) (line other : Line)
      → IsFor part_of book (decided slices book line) part → (line ≡ other) ⊎ IsReplaced book part own line other
      → (line ≡ other) ⊎ AreOthers (is_of part_of own) slices book line other
  line_alike part book line other meant (inl is) = inl is
  line_alike part book line other meant (inr replaced) = inr (record {
    admits = replaced.admits_none ∙ sym (noted_book book other replaced.text replaced.noted);
    foreign = not_for part_of part own book (decided slices book line) meant replaced.not_own;
    other_foreign = noted_foreign (is_of part_of own) slices book other replaced.text replaced.noted;
  })

  pub part_alike : (book : List (List ℕ)) (lines : List Line) (parts : List ℕ) (others : List Line)
      → AreFor part_of count slices book lines parts → IsPart own book lines parts others
      → AreAlike (is_of part_of own) slices book lines others
  part_alike book [] parts [] meant is = tt
  part_alike book [] parts (other ∷ others) meant is = absurd is
  part_alike book (line ∷ lines) [] others meant is = absurd is
  part_alike book (line ∷ lines) (part ∷ parts) [] meant is = absurd is
  part_alike book (line ∷ lines) (part ∷ parts) (other ∷ others) meant is = (
    line_alike part book line other meant.0.1 is.0,
    part_alike (book_after book line) lines parts others meant.1 is.1,
  )

pub parts_are_alike : PartsAreAlike
parts_are_alike part_of count slices own lines parts others meant is =
    part_alike part_of count slices own [] lines parts others meant is

-- the elements at the places of one part
abbrev pub those : {X : Type 0} → ℕ → List ℕ → List X → List X
those own [] xs = []
those own (part ∷ parts) [] = []
those own (part ∷ parts) (x ∷ xs) = if part == own then x ∷ those own parts xs else those own parts xs

-- each slot of the part is bound for the same slice behind both
abbrev pub SameBound : (ℕ → ℕ) → (slices own : ℕ) → (before behind : List Line) → Type 0
SameBound part_of slices own before behind =
    (slot : ℕ) → part_of slot ≡ own → destination_after slices slot before ≡ destination_after slices slot behind

-- a line for another part moves no slot of this one
other_bound : (part_of : ℕ → ℕ) (part own slot at : ℕ) (book : List (List ℕ)) (now : Decision) → part_of slot ≡ own
    → IsFor part_of book now part → part ≢ own → bound_for slot at now ≡ at
other_bound part_of part own slot at book (Command whose asks) mine is other = refl
other_bound part_of part own slot at book (Packet to lent) mine is other = refl
other_bound part_of part own slot at book (Move to slice) mine is other =
    ap (λ test. if test then slice else at) (ne_eqb to slot (λ same. other (sym is ∙ ap part_of same ∙ mine)))
other_bound part_of part own slot at book (Note text) mine is other = refl

bound_next : (part_of : ℕ → ℕ) (slices part own : ℕ) (before behind : List Line) (line other : Line)
    → IsFor part_of (book_of before) (decided slices (book_of before) line) part
    → (line ≡ other) ⊎ IsReplaced (book_of before) part own line other → book_of before ≡ book_of behind
    → SameBound part_of slices own before behind
    → SameBound part_of slices own (before ++ line ∷ []) (behind ++ other ∷ [])
bound_next part_of slices part own before behind line other meant (inl is) same bound slot mine =
    destination_after-push slices slot before line
    ∙ (λ i. bound_for slot (bound slot mine i) (decided slices (same i) (is i)))
    ∙ sym (destination_after-push slices slot behind other)
bound_next part_of slices part own before behind line other meant (inr replaced) same bound slot mine =
    destination_after-push slices slot before line
    ∙ other_bound part_of part own slot (destination_after slices slot before) (book_of before)
    (decided slices (book_of before) line) mine meant replaced.not_own
    ∙ bound slot mine
    ∙ ap (bound_for slot (destination_after slices slot behind))
    (sym (noted_decided slices (book_of behind) other replaced.text replaced.noted))
    ∙ sym (destination_after-push slices slot behind other)

-- a move is noted, settled or not
moved_entry : (n : ℕ) (before : Histories) (test : Bool) (slot slice : ℕ) (text : List ℕ)
    → entry_after n before (if test then trace.note text else move slot slice text)
    ≡ line_of.N (record { line = n; note = text })
moved_entry n before true slot slice text = refl
moved_entry n before false slot slice text = refl

-- the entry of a line for the part
own_decided : (part_of : ℕ → ℕ) (slices own n : ℕ) (before behind : List Line) (history other : Histories)
    (book also : List (List ℕ)) (now : Decision)
    → IsFor part_of book now own → book ≡ also → SameBound part_of slices own before behind
    → SameEvents (is_of part_of own) history other
    → entry_after n history (settled_by slices before (meant slices book (decisions slices before) now))
    ≡ entry_after n other (settled_by slices behind (meant slices also (decisions slices behind) now))
own_decided part_of slices own n before behind history other book also (Command whose asks) mine same bound events =
    let at = slot_of book whose in
    (λ i. entry_after n (λ s. events at (eq-eqb (part_of at) own mine) i) (command at asks))
    ∙ ap (λ b. entry_after n other (command (slot_of b whose) asks)) same
own_decided part_of slices own n before behind history other book also (Packet at lent) mine same bound events =
    λ i. entry_after n (λ s. events at (eq-eqb (part_of at) own mine) i) (packet at lent)
own_decided part_of slices own n before behind history other book also (Move at slice) mine same bound events =
    moved_entry n history (slice == destination_after slices at before) at slice
    (move_note (destination_after slices at before) at slice)
    ∙ ap (λ from. line_of.N (record { line = n; note = move_note from at slice })) (bound at mine)
    ∙ sym (moved_entry n other (slice == destination_after slices at behind) at slice
    (move_note (destination_after slices at behind) at slice))
own_decided part_of slices own n before behind history other book also (Note text) mine same bound events = refl

own_line : (part_of : ℕ → ℕ) (slices own n : ℕ) (before behind : List Line) (history other : Histories) (line : Line)
    → IsFor part_of (book_of before) (decided slices (book_of before) line) own → book_of before ≡ book_of behind
    → SameBound part_of slices own before behind → SameEvents (is_of part_of own) history other
    → entry_after n history (meant_next slices before line) ≡ entry_after n other (meant_next slices behind line)
own_line part_of slices own n before behind history other line mine same bound events =
    own_decided part_of slices own n before behind history other (book_of before) (book_of behind)
    (decided slices (book_of before) line) mine same bound events
    ∙ ap (λ b. entry_after n other (settled_by slices behind (meant slices (book_of behind) (decisions slices behind)
    (decided slices b line)))) same

own_or_replaced : (part_of : ℕ → ℕ) (slices part own n : ℕ) (before behind : List Line) (history also : Histories)
    (line other : Line)
    → IsFor part_of (book_of before) (decided slices (book_of before) line) part
    → (line ≡ other) ⊎ IsReplaced (book_of before) part own line other
    → part ≡ own → book_of before ≡ book_of behind
    → SameBound part_of slices own before behind → SameEvents (is_of part_of own) history also
    → entry_after n history (meant_next slices before line) ≡ entry_after n also (meant_next slices behind other)
own_or_replaced part_of slices part own n before behind history also line other meant (inl is) mine same bound events =
    own_line part_of slices own n before behind history also line
    (subst (IsFor part_of (book_of before) (decided slices (book_of before) line)) mine meant) same bound events
    ∙ ap (λ l. entry_after n also (meant_next slices behind l)) is
own_or_replaced part_of slices part own n before behind history also line other meant (inr replaced) mine same bound
    events = absurd (replaced.not_own mine)

-- one line's entries at its part's place
at_place : (part own : ℕ) (entry other : LineEntry) (entries others : List LineEntry)
    → (part ≡ own → entry ≡ other) → entries ≡ others
    → (if part == own then entry ∷ entries else entries) ≡ (if part == own then other ∷ others else others)
at_place part own entry other entries others one rest = elim (cases_Bool (part == own)) [
  | inl mine ↦ λ i. cond (part == own) (one (eqb-true part own mine) i ∷ rest i) (rest i)
  | inr apart ↦ ap (λ t. cond t (entry ∷ entries) entries) apart ∙ rest
      ∙ sym (ap (λ t. cond t (other ∷ others) others) apart)
]

-- of the lines for a part, the whole and the part tell the same, whatever is told behind them
module _ (part_of : ℕ → ℕ) (count slices own : ℕ) where
  pub those_same : (n : ℕ) (before behind : List Line) (history also : Histories)
      (lines : List Line) (parts : List ℕ) (others : List Line) (rest later : List LineEntry)
      → AreFor part_of count slices (book_of before) lines parts → IsPart own (book_of before) lines parts others
      → book_of before ≡ book_of behind
      → SameBound part_of slices own before behind → SameEvents (is_of part_of own) history also
      → those own parts (entries_from n history (meant_from slices before lines) ++ rest)
      ≡ those own parts (entries_from n also (meant_from slices behind others) ++ later)
  those_same n before behind history also [] [] others rest later meant is same bound events = refl
  those_same n before behind history also [] (part ∷ parts) others rest later meant is same bound events = absurd meant
  those_same n before behind history also (line ∷ lines) [] others rest later meant is same bound events = absurd meant
  those_same n before behind history also (line ∷ lines) (part ∷ parts) [] rest later meant is same bound events =
      absurd is
  those_same n before behind history also (line ∷ lines) (part ∷ parts) (other ∷ others) rest later meant is same bound
      events =
      let now = meant_next slices before line in
      let next = meant_next slices behind other in
      let alike = line_alike part_of count slices own part (book_of before) line other meant.0.1 is.0 in
      let told : List LineEntry =
      entries_from (n + 1) (behind_line history now) (meant_from slices (before ++ line ∷ []) lines) ++ rest in
      let also_told : List LineEntry =
      entries_from (n + 1) (behind_line also next) (meant_from slices (behind ++ other ∷ []) others) ++ later in
      at_place part own (entry_after n history now) (entry_after n also next) (those own parts told)
      (those own parts also_told)
      (λ mine. own_or_replaced part_of slices part own n before behind history also line other meant.0.1 is.0 mine same
      bound events)
      (those_same (n + 1) (before ++ line ∷ []) (behind ++ other ∷ [])
      (behind_line history now) (behind_line also next) lines parts others rest later
      (subst (λ b. AreFor part_of count slices b lines parts) (sym (book_of-push before line)) meant.1)
      (subst (λ b. IsPart own b lines parts others) (sym (book_of-push before line)) is.1)
      (book_next (is_of part_of own) slices before behind line other alike same)
      (bound_next part_of slices part own before behind line other meant.0.1 is.0 same bound)
      (same_behind (is_of part_of own) history also now next
      (alike_next (is_of part_of own) slices before behind line other alike same) events))

-- each line is for one of the parts
abbrev pub AllBelow : ℕ → List ℕ → Type 0
AllBelow count [] = Unit {0}
AllBelow count (part ∷ parts) = (part < count) × AllBelow count parts

pub parts_below : (part_of : ℕ → ℕ) (count slices : ℕ) (book : List (List ℕ)) (lines : List Line) (parts : List ℕ)
    → AreFor part_of count slices book lines parts → AllBelow count parts
parts_below part_of count slices book [] [] meant = tt
parts_below part_of count slices book [] (part ∷ parts) meant = absurd meant
parts_below part_of count slices book (line ∷ lines) [] meant = absurd meant
parts_below part_of count slices book (line ∷ lines) (part ∷ parts) meant =
    (meant.0.0, parts_below part_of count slices (book_after book line) lines parts meant.1)

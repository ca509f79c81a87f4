-- Lines under the slots that they are about.
use Rattle.std.proofs.Common.{◌≡◌, ℕ, zero, suc, ◌+◌, ◌==◌, ◌<◌, ◌≤◌, Bool, true, false, Option, Some, None, List, [], ◌∷◌, ◌++◌, length, get_or, map, take, cond, refl, sym, ap, ◌∙◌, subst, append-nil}
use Rattle.std.specs.Global.{Vec}
use Rattle.std.specs.List.{All, filter}
use Rattle.std.proofs.lemmas.List.{map-append, take_all, take_more}
use Rattle.std.proofs.lemmas.List.Elements.{All-cons, All-filter, All-get_or, All-head, All-map, All-nil, All-push, All-tail, filter-append}
use Rattle.demux.specs.Trace.{Meaning, command, packet, move, note}
use Rattle.lawful_run.specs.Telling.{counted}
use Rattle.audit_core.specs.Meant.{StandsTold, is_about, is_about_by, line_told, lines_of, share, slot_in}
use Rattle.audit_core.specs.Played.{StandInEach, keyed_by}
use Rattle.audit_core.specs.Sharing.{under, shares}
use Rattle.audit_core.specs.declared.sharing.Keyed.{Keyed}
use Rattle.audit_core.specs.declared.told_line.ToldLine.{ToldLine}
use Rattle.audit_core.proofs.SharingLemmas.{under_one}

-- under each slot stand the lines about it
abbrev pub KeyedBySlot : List (Keyed ToldLine) → List ToldLine → Type 0
KeyedBySlot keyed lines = (slot : ℕ) → lines_of (under slot keyed) ≡ share slot (lines_of lines)

about_own : (slot own : ℕ) (m : Meaning) → slot_in m ≡ Some own → is_about_by slot m ≡ (own == slot)
about_own slot own (command it c) is = let same : it ≡ own = cc in ap (λ s. s == slot) same
about_own slot own (packet it p) is = let same : it ≡ own = cc in ap (λ s. s == slot) same
about_own slot own (move it slice text) is = let same : it ≡ own = cc in ap (λ s. s == slot) same
about_own slot own (note text) is = cc

about_none : (slot : ℕ) (m : Meaning) → slot_in m ≡ None → is_about_by slot m ≡ false
about_none slot (command it c) is = cc
about_none slot (packet it p) is = cc
about_none slot (move it slice text) is = cc
about_none slot (note text) is = refl

lines_cond : (test : Bool) (told : ToldLine) → cond test (line_told told ∷ []) [] ≡ lines_of (cond test (told ∷ []) [])
lines_cond true told = refl
lines_cond false told = refl

items_cond : (test : Bool) (one : Keyed ToldLine)
    → map (λ (o : Keyed ToldLine). o.item) (cond test (one ∷ []) []) ≡ cond test (one.item ∷ []) []
items_cond true one = refl
items_cond false one = refl

-- the share with one line more
share_more : (slot : ℕ) (lines : List ToldLine) (told : ToldLine) (test : Bool) → is_about slot (line_told told) ≡ test
    → share slot (lines_of (lines ++ told ∷ [])) ≡ share slot (lines_of lines) ++ lines_of (cond test (told ∷ []) [])
share_more slot lines told test is =
    ap (share slot) (map-append line_told lines (told ∷ []))
    ∙ filter-append (is_about slot) (lines_of lines) (line_told told ∷ [])
    ∙ ap (λ t. share slot (lines_of lines) ++ cond t (line_told told ∷ []) []) is
    ∙ ap (λ rest. share slot (lines_of lines) ++ rest) (lines_cond test told)

with_own : (keyed : List (Keyed ToldLine)) (lines : List ToldLine) (one : Keyed ToldLine) → KeyedBySlot keyed lines
    → slot_in (line_told one.item).meaning ≡ Some one.key
    → KeyedBySlot (keyed ++ one ∷ []) (lines ++ one.item ∷ [])
with_own keyed lines one before own slot =
    ap lines_of (under_one keyed one slot (one.key == slot) refl)
    ∙ map-append line_told (under slot keyed) (map (λ (o : Keyed ToldLine). o.item) (cond (one.key == slot) (one ∷ []) []))
    ∙ (λ i. before slot i ++ lines_of (items_cond (one.key == slot) one i))
    ∙ sym (share_more slot lines one.item (one.key == slot) (about_own slot one.key (line_told one.item).meaning own))

with_none : (keyed : List (Keyed ToldLine)) (lines : List ToldLine) (told : ToldLine) → KeyedBySlot keyed lines
    → slot_in (line_told told).meaning ≡ None → KeyedBySlot keyed (lines ++ told ∷ [])
with_none keyed lines told before none slot =
    before slot
    ∙ sym (share_more slot lines told false (about_none slot (line_told told).meaning none)
    ∙ append-nil (share slot (lines_of lines)))

-- the packet of each stands among the octets
abbrev pub StandUnder : List (Keyed ToldLine) → Type 0
StandUnder keyed = All (λ (one : Keyed ToldLine). StandsTold one.item) keyed

-- the steps of the loop
module _ (keyed : List (Keyed ToldLine)) (lines : List ToldLine) (i : ℕ) (told : ToldLine) (within : i < length lines)
    (is : told ≡ get_or lines i told) where
  next_own : (own : ℕ) → KeyedBySlot keyed (take i lines) → slot_in (line_told told).meaning ≡ Some own
      → KeyedBySlot (keyed ++ record { key = own; item = told } ∷ []) (take (i + 1) lines)
  next_own own before about =
      subst (KeyedBySlot (keyed ++ record { key = own; item = told } ∷ []))
      (ap (λ x. take i lines ++ x ∷ []) is ∙ sym (take_more lines i told within))
      (with_own keyed (take i lines) (record { key = own; item = told }) before about)

  next_none : KeyedBySlot keyed (take i lines) → slot_in (line_told told).meaning ≡ None
      → KeyedBySlot keyed (take (i + 1) lines)
  next_none before about =
      subst (KeyedBySlot keyed) (ap (λ x. take i lines ++ x ∷ []) is ∙ sym (take_more lines i told within))
      (with_none keyed (take i lines) told before about)

  next_by : (own : Option ℕ) → slot_in (line_told told).meaning ≡ own → KeyedBySlot keyed (take i lines)
      → KeyedBySlot (keyed ++ keyed_by own told) (take (i + 1) lines)
  next_by None about before =
      subst (λ its. KeyedBySlot its (take (i + 1) lines)) (sym (append-nil keyed)) (next_none before about)
  next_by (Some own) about before = next_own own before about

  pub next_keyed : (all : List (Keyed ToldLine)) → all ≡ keyed ++ keyed_by (slot_in (line_told told).meaning) told
      → KeyedBySlot keyed (take i lines) → KeyedBySlot all (take (i + 1) lines)
  next_keyed all are before =
      subst (λ its. KeyedBySlot its (take (i + 1) lines)) (sym are)
      (next_by (slot_in (line_told told).meaning) refl before)

  stands_by : (own : Option ℕ) → All StandsTold lines → StandUnder keyed → StandUnder (keyed ++ keyed_by own told)
  stands_by None all before = subst StandUnder (sym (append-nil keyed)) before
  stands_by (Some own) all before =
      All-push (λ (one : Keyed ToldLine). StandsTold one.item) keyed (record { key = own; item = told }) before
      (subst StandsTold (sym is) (All-get_or StandsTold lines i told within all))

  pub next_stands : (all : List (Keyed ToldLine)) → all ≡ keyed ++ keyed_by (slot_in (line_told told).meaning) told
      → All StandsTold lines → StandUnder keyed → StandUnder all
  next_stands all are each before =
      subst StandUnder (sym are) (stands_by (slot_in (line_told told).meaning) each before)

-- the shares of all slots
shares_from : (keyed : List (Keyed ToldLine)) (lines : List ToldLine) → KeyedBySlot keyed lines → (first n : ℕ)
    → map lines_of (map (λ k. under k keyed) (counted first n))
    ≡ map (λ slot. share slot (lines_of lines)) (counted first n)
shares_from keyed lines by_slot first zero = refl
shares_from keyed lines by_slot first (suc n) = (λ i. by_slot first i ∷ shares_from keyed lines by_slot (first + 1) n i)

together : (vs : List (Vec ToldLine)) → map (λ (v : Vec ToldLine). lines_of v.items) vs
    ≡ map lines_of (map (λ (v : Vec ToldLine). v.items) vs)
together [] = refl
together (v ∷ vs) = ap (λ rest. lines_of v.items ∷ rest) (together vs)

pub all_shares : (vs : List (Vec ToldLine)) (slots i : ℕ) (keyed : List (Keyed ToldLine)) (lines : List ToldLine)
    → length lines ≤ i → KeyedBySlot keyed (take i lines)
    → map (λ (v : Vec ToldLine). v.items) vs ≡ shares slots keyed
    → map (λ (v : Vec ToldLine). lines_of v.items) vs ≡ map (λ slot. share slot (lines_of lines)) (counted 0 slots)
all_shares vs slots i keyed lines past by_slot are =
    together vs ∙ ap (map lines_of) are
    ∙ shares_from keyed lines (subst (KeyedBySlot keyed) (take_all i lines past) by_slot) 0 slots

stand_under : (keyed : List (Keyed ToldLine)) (k : ℕ) → StandUnder keyed → All StandsTold (under k keyed)
stand_under keyed k all =
    All-map StandsTold (λ (one : Keyed ToldLine). one.item) (filter (λ (one : Keyed ToldLine). one.key == k) keyed)
    (All-filter (λ (one : Keyed ToldLine). one.key == k) (λ (one : Keyed ToldLine). StandsTold one.item) keyed all)

shares_stand : (keyed : List (Keyed ToldLine)) (first n : ℕ) → StandUnder keyed
    → All (All StandsTold) (map (λ k. under k keyed) (counted first n))
shares_stand keyed first zero all = All-nil (All StandsTold)
shares_stand keyed first (suc n) all =
    All-cons (All StandsTold) (under first keyed) (map (λ k. under k keyed) (counted (first + 1) n))
    (stand_under keyed first all) (shares_stand keyed (first + 1) n all)

each_stands : (vs : List (Vec ToldLine)) → All (All StandsTold) (map (λ (v : Vec ToldLine). v.items) vs)
    → StandInEach vs
each_stands [] all = All-nil (λ (v : Vec ToldLine). All StandsTold v.items)
each_stands (v ∷ vs) all =
    let rest = map (λ (w : Vec ToldLine). w.items) vs in
    All-cons (λ (w : Vec ToldLine). All StandsTold w.items) v vs (All-head (All StandsTold) v.items rest all)
    (each_stands vs (All-tail (All StandsTold) v.items rest all))

pub all_stand : (vs : List (Vec ToldLine)) (slots : ℕ) (keyed : List (Keyed ToldLine)) → StandUnder keyed
    → map (λ (v : Vec ToldLine). v.items) vs ≡ shares slots keyed → StandInEach vs
all_stand vs slots keyed all are =
    each_stands vs (subst (All (All StandsTold)) (sym are) (shares_stand keyed 0 slots all))

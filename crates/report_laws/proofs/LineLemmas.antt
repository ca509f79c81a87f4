-- Lines that are alike to some slots mean the same to them.
use Rattle.std.proofs.Common.{◌⊎◌, ◌≡◌, ℕ, ◌==◌, Bool, true, false, if◌then◌else◌, List, [], ◌∷◌, ◌++◌, refl, sym, ap, subst, ◌∙◌, inl, inr}
use Rattle.std.specs.Prelude.{codes, fold}
use Rattle.std.proofs.lemmas.Bool.{cases_Bool, true≢false}
use Rattle.trace_lines.specs.Line.{Line}
use Rattle.demux.specs.Asked.{note}
use Rattle.demux.specs.Line.{asked}
use Rattle.demux.specs.Resolved.{decided, book_after, booked, slot_of}
use Rattle.demux.specs.Resolved as resolving
use Rattle.demux.specs.Trace.{move, book_of, decisions, destination_after, meant}
use Rattle.demux.specs.Trace as trace
use Rattle.demux.specs.Tunnel as tunnels
use Rattle.demux.specs.declared.decision.Decision.{Decision}
use Rattle.demux.specs.declared.decision.Decision.TheVariants.{Command, Packet, Move, Note}
use Rattle.demux.proofs.TraceLemmas.{book_of-push}
use Rattle.lawful_run.specs.Trace.{settled_by, meant_next, meant_from}
use Rattle.report_laws.specs.Lines.{is_for, AreOthers, AreAlike, stand_in}
use Rattle.report_laws.specs.Neighbours.{MayBeReplaced}
use Rattle.report_laws.proofs.Meanings.{is_meant, Alike, AllAlike}

-- a move is none of a slot's commands and packets, settled or not
moved : (own : ℕ → Bool) (test : Bool) (slot slice : ℕ) (text : List ℕ)
    → is_meant own (if test then trace.note text else move slot slice text) ≡ false
moved own true slot slice text = refl
moved own false slot slice text = refl

meant_for : (own : ℕ → Bool) (slices : ℕ) (before : List Line) (book : List (List ℕ)) (done : List Decision)
    (now : Decision) → is_meant own (settled_by slices before (meant slices book done now)) ≡ is_for own book now
meant_for own slices before book done (Command whose asks) = refl
meant_for own slices before book done (Packet at lent) = refl
meant_for own slices before book done (Move at slice) =
    moved own (slice == destination_after slices at before) at slice _
meant_for own slices before book done (Note text) = refl

-- one decision, by one book
alike_decided : (own : ℕ → Bool) (slices : ℕ) (before other : List Line) (book also : List (List ℕ))
    (done more : List Decision) (now : Decision) → book ≡ also
    → Alike own (settled_by slices before (meant slices book done now))
    (settled_by slices other (meant slices also more now))
alike_decided own slices before other book also done more (Command whose asks) same =
    inl (ap (λ b. trace.command (slot_of b whose) asks) same)
alike_decided own slices before other book also done more (Packet at lent) same = inl refl
alike_decided own slices before other book also done more (Move at slice) same = inr (
  meant_for own slices before book done (Move at slice),
  meant_for own slices other also more (Move at slice),
)
alike_decided own slices before other book also done more (Note text) same = inl refl

alike_same : (own : ℕ → Bool) (slices : ℕ) (before other : List Line) (line : Line) → book_of before ≡ book_of other
    → Alike own (meant_next slices before line) (meant_next slices other line)
alike_same own slices before other line same =
    subst (λ d. Alike own (meant_next slices before line)
    (settled_by slices other (meant slices (book_of other) (decisions slices other) d)))
    (ap (λ b. decided slices b line) same)
    (alike_decided own slices before other (book_of before) (book_of other) (decisions slices before)
    (decisions slices other) (decided slices (book_of before) line) same)

-- the next line of both
pub alike_next : (own : ℕ → Bool) (slices : ℕ) (before behind : List Line) (line other : Line)
    → (line ≡ other) ⊎ AreOthers own slices (book_of before) line other → book_of before ≡ book_of behind
    → Alike own (meant_next slices before line) (meant_next slices behind other)
alike_next own slices before behind line other (inl is) same =
    subst (λ l. Alike own (meant_next slices before line) (meant_next slices behind l)) is
    (alike_same own slices before behind line same)
alike_next own slices before behind line other (inr others) same = inr (
  meant_for own slices before (book_of before) (decisions slices before) (decided slices (book_of before) line)
      ∙ others.foreign,
  meant_for own slices behind (book_of behind) (decisions slices behind) (decided slices (book_of behind) other)
      ∙ subst (λ b. is_for own b (decided slices b other) ≡ false) same others.other_foreign,
)

pub book_next : (own : ℕ → Bool) (slices : ℕ) (before behind : List Line) (line other : Line)
    → (line ≡ other) ⊎ AreOthers own slices (book_of before) line other → book_of before ≡ book_of behind
    → book_of (before ++ line ∷ []) ≡ book_of (behind ++ other ∷ [])
book_next own slices before behind line other (inl is) same =
    book_of-push before line ∙ (λ i. book_after (same i) (is i)) ∙ sym (book_of-push behind other)
book_next own slices before behind line other (inr others) same =
    book_of-push before line ∙ others.admits ∙ ap (λ b. book_after b other) same ∙ sym (book_of-push behind other)

pub all_alike : (own : ℕ → Bool) (slices : ℕ) (before behind lines others : List Line)
    → AreAlike own slices (book_of before) lines others → book_of before ≡ book_of behind
    → AllAlike own (meant_from slices before lines) (meant_from slices behind others)
all_alike own slices before behind [] [] alike same = tt
all_alike own slices before behind [] (other ∷ others) alike same = absurd alike
all_alike own slices before behind (line ∷ lines) [] alike same = absurd alike
all_alike own slices before behind (line ∷ lines) (other ∷ others) alike same = (
  alike_next own slices before behind line other alike.0 same,
  all_alike own slices (before ++ line ∷ []) (behind ++ other ∷ []) lines others
      (subst (λ b. AreAlike own slices b lines others) (sym (book_of-push before line)) alike.1)
      (book_next own slices before behind line other alike.0 same),
)

-- the book behind all of them
after_both : (own : ℕ → Bool) (slices : ℕ) (book : List (List ℕ)) (line other : Line)
    → (line ≡ other) ⊎ AreOthers own slices book line other → book_after book line ≡ book_after book other
after_both own slices book line other (inl is) = ap (book_after book) is
after_both own slices book line other (inr others) = others.admits

pub one_book : (own : ℕ → Bool) (slices : ℕ) (book : List (List ℕ)) (lines others : List Line)
    → AreAlike own slices book lines others → fold book_after book lines ≡ fold book_after book others
one_book own slices book [] [] alike = refl
one_book own slices book [] (other ∷ others) alike = absurd alike
one_book own slices book (line ∷ lines) [] alike = absurd alike
one_book own slices book (line ∷ lines) (other ∷ others) alike =
    one_book own slices (book_after book line) lines others alike.1
    ∙ ap (λ b. fold book_after b others) (after_both own slices book line other alike.0)

-- a noted line
pub noted_decided : (slices : ℕ) (book : List (List ℕ)) (line : Line) (text : List ℕ) → asked line ≡ note text
    → decided slices book line ≡ Note text
unfolding resolving.resolved
noted_decided slices book line text is = ap (resolving.resolved slices book) is

pub noted_book : (book : List (List ℕ)) (line : Line) (text : List ℕ) → asked line ≡ note text
    → book_after book line ≡ book
noted_book book line text is = ap (booked book) is

pub noted_foreign : (own : ℕ → Bool) (slices : ℕ) (book : List (List ℕ)) (line : Line) (text : List ℕ)
    → asked line ≡ note text → is_for own book (decided slices book line) ≡ false
noted_foreign own slices book line text is = ap (is_for own book) (noted_decided slices book line text is)

-- a stand-in is noted
stand_in_noted : (line : Line) → asked (stand_in line) ≡ note (codes "s1u short")
unfolding asked tunnels.tunnel_asked
stand_in_noted line = refl

pub may_be_replaced : MayBeReplaced
may_be_replaced own slices book line none foreign = record {
  admits = none ∙ sym (noted_book book (stand_in line) (codes "s1u short") (stand_in_noted line));
  foreign = foreign;
  other_foreign = noted_foreign own slices book (stand_in line) (codes "s1u short") (stand_in_noted line);
}

-- what is alike to some slots is alike to fewer
out : (own fewer : ℕ → Bool) (s : ℕ) → ((s : ℕ) → fewer s ≡ true → own s ≡ true) → own s ≡ false → fewer s ≡ false
out own fewer s among foreign = elim (cases_Bool (fewer s)) [
  | inl is ↦ absurd (true≢false (sym (among s is) ∙ foreign))
  | inr is ↦ is
]

for_fewer : (own fewer : ℕ → Bool) (book : List (List ℕ)) (now : Decision)
    → ((s : ℕ) → fewer s ≡ true → own s ≡ true) → is_for own book now ≡ false → is_for fewer book now ≡ false
for_fewer own fewer book (Command whose asks) among foreign = out own fewer (slot_of book whose) among foreign
for_fewer own fewer book (Packet at lent) among foreign = out own fewer at among foreign
for_fewer own fewer book (Move at slice) among foreign = refl
for_fewer own fewer book (Note text) among foreign = refl

fewer_line : (own fewer : ℕ → Bool) (slices : ℕ) (book : List (List ℕ)) (line other : Line)
    → ((s : ℕ) → fewer s ≡ true → own s ≡ true) → (line ≡ other) ⊎ AreOthers own slices book line other
    → (line ≡ other) ⊎ AreOthers fewer slices book line other
fewer_line own fewer slices book line other among (inl is) = inl is
fewer_line own fewer slices book line other among (inr others) = inr (record {
  admits = others.admits;
  foreign = for_fewer own fewer book (decided slices book line) among others.foreign;
  other_foreign = for_fewer own fewer book (decided slices book other) among others.other_foreign;
})

pub alike_to_fewer : (own fewer : ℕ → Bool) (slices : ℕ) (book : List (List ℕ)) (lines others : List Line)
    → ((s : ℕ) → fewer s ≡ true → own s ≡ true) → AreAlike own slices book lines others
    → AreAlike fewer slices book lines others
alike_to_fewer own fewer slices book [] [] among alike = tt
alike_to_fewer own fewer slices book [] (other ∷ others) among alike = absurd alike
alike_to_fewer own fewer slices book (line ∷ lines) [] among alike = absurd alike
alike_to_fewer own fewer slices book (line ∷ lines) (other ∷ others) among alike = (
  fewer_line own fewer slices book line other among alike.0,
  alike_to_fewer own fewer slices (book_after book line) lines others among alike.1,
)

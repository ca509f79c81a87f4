-- What a writer has written, one line more.
use Rattle.std.proofs.Common.{◌≡◌, ◌≢◌, ℕ, ◌+◌, ◌<◌, ◌==◌, true, false, nat_lt, if◌then◌else◌, List, [], ◌∷◌, ◌++◌, None, Some, inl, inr, length, map, get_or, set, take, refl, sym, ap, ◌∙◌, subst, arith, append_assoc, append-nil, get_or-set_same, get_or-set_other}
use Rattle.std.specs.List.{All, AllPairs, Any, position_or_len}
use Rattle.std.specs.Prelude.{codes, Result, Ok, Err, OnOk}
use Rattle.std.specs.Str.{bytes_eq}
use Rattle.std.proofs.lemmas.Bool.{cases_eq, cond-true, eq-eqb, false_from_ne_true, lt-ltb, ne_eqb}
use Rattle.std.proofs.lemmas.Grind.{flat_map-append}
use Rattle.std.proofs.lemmas.List.{map_push, take_more}
use Rattle.std.proofs.lemmas.List.Sums.{fold_push, position_or_len_is}
use Rattle.std.proofs.lemmas.Map.Made.{AllPairs-from_IsDistinct}
use Rattle.std.proofs.lemmas.Slice.Eq.{bytes_eq-Decides}
use Rattle.address_book.specs.Book.{IsBook, slot_in}
use Rattle.demux.specs.Asked.{move}
use Rattle.demux.specs.Destinations.{bound_for}
use Rattle.demux.specs.Line.{asked}
use Rattle.demux.specs.Resolved.{book_after, book_behind, decided, granted, resolved, wished_by}
use Rattle.demux.specs.Trace.{book_of, destination_after}
use Rattle.demux.specs.declared.decision.Decision.{Decision}
use Rattle.demux.specs.declared.decision.Decision.TheVariants as decision
use Rattle.demux.proofs.ResolvedLemmas.{book_resolved}
use Rattle.demux.proofs.TraceLemmas.{book_of-push, destination_after-push}
use Rattle.balance_plan.specs.Laws.{IsOf}
use Rattle.balance_plan.specs.declared.load.Load.{Load}
use Rattle.balance_plan.specs.declared.load.Planned.{Planned}
use Rattle.report_lines.specs.declared.entry.Entry.{Entry}
use Rattle.trace_lines.specs.Epochs.{is_fence}
use Rattle.trace_lines.specs.Line.{Line}
use Rattle.balance_plan.specs.Balance.{Balance, balance_of, nothing, with_given, with_line}
use Rattle.balance_plan.specs.Plans.{move_line, moves_at}
use Rattle.balance_plan.specs.Written.{Written, given, line_of, lines_of, planned, text_of, written_text}
use Rattle.balance_plan.specs.Writing.{HasWritten, IsStep, Stands}
use Rattle.balance_plan.specs.declared.writing.Writer.{Writer}

-- a slot that is bound for another slice now
pub bound_set : (bound : List ℕ) (own slice slot : ℕ) → own < length bound
    → get_or (set bound own slice) slot 0 ≡ (if own == slot then slice else get_or bound slot 0)
bound_set bound own slice slot within = elim (cases_eq own slot) [
  | inl same ↦
      ap (λ k. get_or (set bound own slice) k 0) (sym same)
      ∙ get_or-set_same bound own slice 0 within
      ∙ sym (ap (λ test. if test then slice else get_or bound slot 0) (eq-eqb own slot same))
  | inr other ↦
      get_or-set_other bound own slot slice 0 (λ is. other (sym is))
      ∙ sym (ap (λ test. if test then slice else get_or bound slot 0) (ne_eqb own slot other))
]

-- what is written, one line more
pub text-push : (written : List Written) (one : Written)
    → text_of (written ++ one ∷ []) ≡ text_of written ++ written_text one
text-push written one =
    flat_map-append written_text written (one ∷ []) ∙ ap (λ t. text_of written ++ t) (append-nil (written_text one))

pub stands_next : (old new : Writer) (written : List Written) (one : Written) (made : Decision) → Stands old written
    → made ≡ decided old.slices old.book (line_of one) → book_behind old.book made ≡ book_after old.book (line_of one)
    → new.slices ≡ old.slices → new.book ≡ book_behind old.book made
    → ((slot : ℕ) → slot < 65533
    → get_or new.bound.items slot 0 ≡ bound_for slot (get_or old.bound.items slot 0) made)
    → new.text ≡ old.text ++ written_text one → Stands new (written ++ one ∷ [])
stands_next old new written one made stands is behind slices book bound text =
    let lines : lines_of (written ++ one ∷ []) ≡ lines_of written ++ line_of one ∷ [] = map_push line_of written one in
    let so : made ≡ decided old.slices (book_of (lines_of written)) (line_of one) =
    is ∙ ap (λ b. decided old.slices b (line_of one)) stands.book in
    record {
      book = book ∙ behind ∙ ap (λ b. book_after b (line_of one)) stands.book
          ∙ sym (ap book_of lines ∙ book_of-push (lines_of written) (line_of one));
      bound = λ slot below.
          bound slot below
          ∙ (λ i. bound_for slot (stands.bound slot below i) (so i))
          ∙ sym (destination_after-push old.slices slot (lines_of written) (line_of one))
          ∙ (λ i. destination_after (sym slices i) slot (sym lines i));
      text = text ∙ ap (λ t. t ++ written_text one) stands.text ∙ sym (text-push written one);
    }

-- a planned move is a move of its slot
slot_found : (book : List (List ℕ)) (slot : ℕ) → IsBook book → slot < length book
    → slot_in book (get_or book slot []) ≡ Some slot
slot_found book slot is below =
    let apart : AllPairs (λ x y. x ≢ y) book = AllPairs-from_IsDistinct bytes_eq-Decides book is.distinct in
    let at : position_or_len (bytes_eq (get_or book slot [])) book ≡ slot =
    position_or_len_is (bytes_eq (get_or book slot [])) book slot [] (omega (arith, below))
    (λ k before. false_from_ne_true (bytes_eq (get_or book slot []) (get_or book k []))
    (λ same. apart k slot [] before below
    (sym ((bytes_eq-Decides (get_or book slot []) (get_or book k [])).0 same))))
    (λ within. (bytes_eq-Decides (get_or book slot []) (get_or book slot [])).1 refl) in
    ap (λ n. if nat_lt n (length book) then Some n else None) at
    ∙ cond-true (nat_lt slot (length book)) (Some slot) None (lt-ltb slot (length book) below)

granted_move : (slices slot slice : ℕ) → slice < slices → granted slices slot (move slice) ≡ decision.Move slot slice
granted_move slices slot slice below = cond-true (nat_lt slice slices) _ _ (lt-ltb slice slices below)

pub move_decided : (slices : ℕ) (book : List (List ℕ)) (fence : Line) (step : Planned) → IsBook book
    → step.slot < length book → step.slice < slices
    → decision.Move step.slot step.slice ≡ decided slices book (move_line fence book step)
unfolding asked resolved
move_decided slices book fence step is slot slice =
    sym (ap (λ found. wished_by slices found (move step.slice) (codes "noimsi")) (slot_found book step.slot is slot)
    ∙ granted_move slices step.slot step.slice slice)

pub move_keeps : (slices : ℕ) (book : List (List ℕ)) (fence : Line) (step : Planned) → IsBook book
    → step.slot < length book → step.slice < slices → book ≡ book_after book (move_line fence book step)
move_keeps slices book fence step is slot slice =
    ap (book_behind book) (move_decided slices book fence step is slot slice)
    ∙ book_resolved slices book (asked (move_line fence book step))

-- the trace that is written, one line more
balance-push : (slices most : ℕ) (entries : List Entry) (done : List Line) (line : Line)
    → balance_of slices most entries (done ++ line ∷ [])
    ≡ with_line slices most entries (balance_of slices most entries done) line
unfolding balance_of
balance-push slices most entries done line = fold_push (with_line slices most entries) nothing done line

module _ (old new : Writer) (entries : List Entry) (done : List Line) (line : Line) (has : HasWritten old entries done)
    (slices : new.slices ≡ old.slices) (most : new.most ≡ old.most) (lines : new.lines ≡ old.lines + 1) where
  abbrev before : Balance
  before = balance_of old.slices old.most entries done

  more : balance_of new.slices new.most entries (done ++ line ∷ [])
      ≡ with_line old.slices old.most entries before line
  more =
      (λ i. balance_of (slices i) (most i) entries (done ++ line ∷ []))
      ∙ balance-push old.slices old.most entries done line

  pub written_on : is_fence line.kind ≡ false → new.fence ≡ old.fence
      → Stands new (before.written ++ given line ∷ []) → HasWritten new entries (done ++ line ∷ [])
  written_on other fence stands = record {
    stands = subst (Stands new) (sym (ap (λ (b : Balance). b.written) more
        ∙ ap (λ t. with_given before line ++ map planned (if t then
        moves_at old.slices old.most before.fence (before.lines + 1) entries (lines_of (with_given before line)) line
        else [])) other
        ∙ append-nil (with_given before line))) stands;
    lines = lines ∙ ap (λ n. n + 1) has.lines ∙ sym (ap (λ (b : Balance). b.lines) more);
    fence = fence ∙ has.fence
        ∙ sym (ap (λ (b : Balance). b.fence) more
        ∙ ap (λ t. if t then before.lines + 1 else before.fence) other);
  }

  pub written_fence : is_fence line.kind ≡ true → new.fence ≡ new.lines
      → Stands new ((before.written ++ given line ∷ []) ++ map planned (moves_at old.slices old.most old.fence new.lines
      entries (lines_of (before.written ++ given line ∷ [])) line))
      → HasWritten new entries (done ++ line ∷ [])
  written_fence is fence stands =
      let count : new.lines ≡ before.lines + 1 = lines ∙ ap (λ n. n + 1) has.lines in
      record {
        stands = subst (Stands new) (
            (λ i. with_given before line ++ map planned
            (moves_at old.slices old.most (has.fence i) (count i) entries (lines_of (with_given before line)) line))
            ∙ sym (ap (λ (b : Balance). b.written) more
            ∙ ap (λ t. with_given before line ++ map planned (if t then
            moves_at old.slices old.most before.fence (before.lines + 1) entries (lines_of (with_given before line)) line
            else [])) is)) stands;
        lines = count ∙ sym (ap (λ (b : Balance). b.lines) more);
        fence = fence ∙ count
            ∙ sym (ap (λ (b : Balance). b.fence) more
            ∙ ap (λ t. if t then before.lines + 1 else before.fence) is);
      }

-- what is planned from loads of slots is of those slots
of_slot : (slots own : ℕ) (loads : List Load) → All (λ (load : Load). load.slot < slots) loads
    → Any (λ (load : Load). load.slot ≡ own) loads → own < slots
of_slot slots own loads small any =
    omega (
      arith,
      any.4,
      ap (λ (load : Load). load.slot) any.3,
      small any.0 any.1 any.2,
    )

pub steps_of : (slots slices : ℕ) (loads : List Load) (steps : List Planned)
    → All (λ (load : Load). load.slot < slots) loads → All (IsOf slices loads) steps → All (IsStep slots slices) steps
steps_of slots slices loads steps small are i none within = record {
  slot = of_slot slots (get_or steps i none).slot loads small (are i none within).slot;
  slice = (are i none within).slice;
}

-- moves, one more
pub moves_more : (written : List Written) (fence : Line) (book : List (List ℕ)) (steps : List Planned) (i : ℕ)
    (step : Planned) → i < length steps → step ≡ get_or steps i step
    → (written ++ map planned (map (move_line fence book) (take i steps))) ++ planned (move_line fence book step) ∷ []
    ≡ written ++ map planned (map (move_line fence book) (take (i + 1) steps))
moves_more written fence book steps i step within is =
    append_assoc written (map planned (map (move_line fence book) (take i steps)))
    (planned (move_line fence book step) ∷ [])
    ∙ ap (λ ws. written ++ ws) (sym (ap (λ ss. map planned (map (move_line fence book) ss)) (take_more steps i step within
    ∙ ap (λ s. take i steps ++ s ∷ []) (sym is))
    ∙ ap (map planned) (map_push (move_line fence book) (take i steps) step)
    ∙ map_push planned (map (move_line fence book) (take i steps)) (move_line fence book step)))

-- on success something stronger holds too
pub on_ok : {A E : Type 0} (P Q : Type 0) (answer : Result A E) → (P → Q) → OnOk answer P → OnOk answer Q
on_ok P Q (Ok a) step holds = step holds
on_ok P Q (Err e) step holds = tt

-- What lines say with one more.
use Rattle.std.proofs.Common.{◌≡◌, ◌≢◌, ℕ, ◌<◌, ◌≤◌, true, false, cond, List, [], ◌∷◌, ◌++◌, length, Option, Some, None, refl, sym, ap, ◌∙◌, inl, inr, ◌⊎◌}
use Rattle.std.specs.Prelude.{unwrap_or, bytes_eq}
use Rattle.std.specs.Option.{is_some}
use Rattle.std.proofs.lemmas.Bool.{both_ways, not-true, not-false, not_from_true, not_from_false}
use Rattle.std.proofs.lemmas.Slice.Eq.{bytes_eq-Decides}
use Rattle.pc_outside.specs.Texts.{Text}
use Rattle.record_codec.specs.Saved.{FileState, IsFile}
use Rattle.record_codec.specs.Spelling.{state}
use Rattle.record_codec.specs.declared.state_lines.StateLines.{StateLines}
use Rattle.record_codec.specs.StateText.{piece_len, trace_word, joined, are_pieces}
use Rattle.record_codec.specs.StateLines.{piece_in, pieces_in, others_in, last_len, SaysState, SaysNone, HasHeard}
use Rattle.record_codec.proofs.PieceLists.{push_whole, push_broken, push_late, push_long, last_len-push, joined-push}

-- one line of a state more behind such lines: its piece, and no other line
pub pushed : (texts : List Text) (text : Text) (piece : List ℕ) → others_in texts ≡ [] → piece_in text ≡ Some piece
    → (pieces_in (texts ++ text ∷ []) ≡ pieces_in texts ++ piece ∷ []) × (others_in (texts ++ text ∷ []) ≡ [])
pushed [] text piece each is = (rw is refl, rw is refl)
pushed (first ∷ texts) text piece each is = by_first (piece_in first) (λ e. pushed texts text piece e is) each
  where
    by_first : (o : Option (List ℕ))
        → (others_in texts ≡ [] → (pieces_in (texts ++ text ∷ []) ≡ pieces_in texts ++ piece ∷ [])
        × (others_in (texts ++ text ∷ []) ≡ []))
        → cond (is_some o) (others_in texts) (first ∷ texts) ≡ []
        → (cond (is_some o) (unwrap_or o [] ∷ pieces_in (texts ++ text ∷ [])) []
        ≡ cond (is_some o) (unwrap_or o [] ∷ pieces_in texts) [] ++ piece ∷ [])
        × (cond (is_some o) (others_in (texts ++ text ∷ [])) (first ∷ texts ++ text ∷ []) ≡ [])
    by_first None behind e = absurd cc
    by_first (Some octets) behind e = let h = behind e in (ap (λ ps. octets ∷ ps) h.0, h.1)

-- another line behind such lines: no piece more, and it is the first other line
pub stopped : (texts : List Text) (text : Text) (behind : List Text) → others_in texts ≡ [] → piece_in text ≡ None
    → (pieces_in (texts ++ text ∷ behind) ≡ pieces_in texts) × (others_in (texts ++ text ∷ behind) ≡ text ∷ behind)
stopped [] text behind each is = (rw is refl, rw is refl)
stopped (first ∷ texts) text behind each is = by_first (piece_in first) (λ e. stopped texts text behind e is) each
  where
    by_first : (o : Option (List ℕ))
        → (others_in texts ≡ [] → (pieces_in (texts ++ text ∷ behind) ≡ pieces_in texts)
        × (others_in (texts ++ text ∷ behind) ≡ text ∷ behind))
        → cond (is_some o) (others_in texts) (first ∷ texts) ≡ []
        → (cond (is_some o) (unwrap_or o [] ∷ pieces_in (texts ++ text ∷ behind)) []
        ≡ cond (is_some o) (unwrap_or o [] ∷ pieces_in texts) [])
        × (cond (is_some o) (others_in (texts ++ text ∷ behind)) (first ∷ texts ++ text ∷ behind) ≡ text ∷ behind)
    by_first None rest e = absurd cc
    by_first (Some octets) rest e = let h = rest e in (ap (λ ps. octets ∷ ps) h.0, h.1)

-- ---- a line of a state is heard

-- one is kept
pub goes_on : (old new : StateLines) (texts : List Text) (text : Text) (piece : List ℕ) → HasHeard old texts
    → piece_in text ≡ Some piece → old.broken ≡ false → old.last ≡ piece_len → length piece ≤ piece_len
    → new.broken ≡ false → new.octets.items ≡ old.octets.items ++ piece → new.last ≡ length piece
    → HasHeard new (texts ++ text ∷ [])
goes_on old new texts text piece heard is broken last fits still octets len =
    let p = pushed texts text piece heard.each is in
    let so_far : are_pieces (pieces_in texts) ≡ true = not-false _ (sym heard.broken ∙ broken) in
    let whole = push_whole (pieces_in texts) piece so_far (sym (heard.last broken) ∙ last) fits in
    record {
      each = p.1;
      broken = still ∙ sym (not_from_true _ (ap are_pieces p.0 ∙ whole));
      octets = λ e. octets ∙ ap (λ (xs : List ℕ). xs ++ piece) (heard.octets broken)
          ∙ sym (joined-push (pieces_in texts) piece) ∙ ap joined (sym p.0);
      last = λ e. len ∙ sym (last_len-push (pieces_in texts) piece) ∙ ap last_len (sym p.0);
    }

-- or the lines are none of a state from here on
pub goes_broken : (old new : StateLines) (texts : List Text) (text : Text) (piece : List ℕ) → HasHeard old texts
    → piece_in text ≡ Some piece
    → (old.broken ≡ true) ⊎ ((old.broken ≡ false) × ((old.last ≢ piece_len) ⊎ (piece_len < length piece)))
    → new.broken ≡ true → HasHeard new (texts ++ text ∷ [])
goes_broken old new texts text piece heard is why broken =
    let p = pushed texts text piece heard.each is in
    let none : are_pieces (pieces_in texts ++ piece ∷ []) ≡ false = by_why why in
    record {
      each = p.1;
      broken = broken ∙ sym (not_from_false _ (ap are_pieces p.0 ∙ none));
      octets = λ e. absurd (both_ways new.broken e broken);
      last = λ e. absurd (both_ways new.broken e broken);
    }
  where
    by_why : (old.broken ≡ true) ⊎ ((old.broken ≡ false) × ((old.last ≢ piece_len) ⊎ (piece_len < length piece)))
        → are_pieces (pieces_in texts ++ piece ∷ []) ≡ false
    by_why (inl is_broken) = push_broken (pieces_in texts) piece (not-true _ (sym heard.broken ∙ is_broken))
    by_why (inr h) = by_one h.0 h.1
      where
        by_one : old.broken ≡ false → (old.last ≢ piece_len) ⊎ (piece_len < length piece)
            → are_pieces (pieces_in texts ++ piece ∷ []) ≡ false
        by_one sound (inl late) =
            push_late (pieces_in texts) piece
            (λ (e : last_len (pieces_in texts) ≡ piece_len). late (heard.last sound ∙ e))
        by_one sound (inr long) = push_long (pieces_in texts) piece long

-- ---- another line ends the state

-- the state that it ends
pub state_found : (lines_heard : StateLines) (texts : List Text) (text : Text) (file : FileState) → HasHeard lines_heard texts
    → piece_in text ≡ None → bytes_eq text trace_word ≡ true → lines_heard.broken ≡ false → lines_heard.octets.items ≡ state file → IsFile file
    → SaysState (texts ++ text ∷ []) file
state_found lines_heard texts text file heard is trace broken octets kept =
    let s = stopped texts text [] heard.each is in
    record {
      whole = ap are_pieces s.0 ∙ not-false _ (sym heard.broken ∙ broken);
      kept = kept;
      octets = ap joined s.0 ∙ sym (heard.octets broken) ∙ octets;
      trace = s.1 ∙ ap (λ (t : Text). t ∷ []) ((bytes_eq-Decides text trace_word).0 trace);
    }

heads : (one other : Text) → one ∷ [] ≡ other ∷ [] → one ≡ other
heads one other same = cc

-- none: the line isn't `TRACE`
pub no_trace : (texts : List Text) (text : Text) → others_in texts ≡ [] → piece_in text ≡ None
    → bytes_eq text trace_word ≡ false → SaysNone (texts ++ text ∷ [])
no_trace texts text each is other =
    let s = stopped texts text [] each is in
    record {
      other = text;
      last = s.1;
      none = λ file says. both_ways (bytes_eq text trace_word) other
          ((bytes_eq-Decides text trace_word).1 (heads text trace_word (sym s.1 ∙ says.trace)));
    }

-- the pieces aren't whole
pub no_pieces : (lines_heard : StateLines) (texts : List Text) (text : Text) → HasHeard lines_heard texts → piece_in text ≡ None
    → lines_heard.broken ≡ true → SaysNone (texts ++ text ∷ [])
no_pieces lines_heard texts text heard is broken =
    let s = stopped texts text [] heard.each is in
    record {
      other = text;
      last = s.1;
      none = λ file says. both_ways (are_pieces (pieces_in texts)) (not-true _ (sym heard.broken ∙ broken))
          (sym (ap are_pieces s.0) ∙ says.whole);
    }

-- the octets are no file's state
pub no_state : (lines_heard : StateLines) (texts : List Text) (text : Text) → HasHeard lines_heard texts → piece_in text ≡ None
    → lines_heard.broken ≡ false → ((file : FileState) → IsFile file → lines_heard.octets.items ≡ state file → ⊥)
    → SaysNone (texts ++ text ∷ [])
no_state lines_heard texts text heard is broken none =
    let s = stopped texts text [] heard.each is in
    record {
      other = text;
      last = s.1;
      none = λ file says. none file says.kept (heard.octets broken ∙ sym (ap joined s.0) ∙ says.octets);
    }

-- Lines that are decided one after another.
use Rattle.std.proofs.Common.{◌≡◌, ℕ, ◌≤◌, List, [], ◌∷◌, ◌++◌, length, refl, sym, ap, subst, ◌∙◌, arith, append_assoc, append-nil}
use Rattle.std.specs.List.{All}
use Rattle.std.proofs.lemmas.List.Elements.{All-nil, All-push, All-weaker}
use Rattle.trace_lines.specs.Line.{Line}
use Rattle.demux.specs.Meant.{meaning_of}
use Rattle.demux.specs.Trace.{Meaning, command, packet, move, note}
use Rattle.demux.specs.declared.meant.Meant.{Meant}
use Rattle.lawful_run.specs.Trace.{meant_from}
use Rattle.lawful_run.proofs.CutEpochs.{meant_from-append}
use Rattle.subscriber.specs.Standing.{SubscriberState}
use Rattle.at_rest.specs.Meant.{HasItsMoment, IsWithin, Stand, Turned}
use Rattle.epoch_drive.specs.Turned.{HaveMoments, TurnedAll}

-- slots that are within so many are within more
within_more : (few many : ℕ) (it : Meaning) → few ≤ many → IsWithin few it → IsWithin many it
within_more few many (command slot c) le low = omega (arith, le, low)
within_more few many (packet slot p) le low = omega (arith, le, low)
within_more few many (move slot slice text) le low = tt
within_more few many (note text) le low = tt

all_within : (few many : ℕ) (made : List Meaning) (it : Meaning) → few ≤ many → All (IsWithin few) made
    → IsWithin many it → All (IsWithin many) (made ++ it ∷ [])
all_within few many made it le all own =
    All-push (IsWithin many) made it
    (All-weaker (IsWithin few) (IsWithin many) (λ x. within_more few many x le) made all) own

-- no line yet
pub turned_none : (slices : ℕ) (book : List (List ℕ)) (subscribers : List SubscriberState)
    → length subscribers ≡ length book → TurnedAll slices book subscribers [] [] book subscribers
turned_none slices book subscribers many = record {
  many = many;
  within = All-nil (IsWithin (length subscribers));
  moments = tt;
  means = λ prior stand. refl;
  stand = λ prior stand. subst (Stand slices book subscribers) (sym (append-nil prior)) stand;
  keep = λ before standing. standing;
  rest = λ count latest rest. rest;
}

-- and one more
moments-push : (lines : List Line) (made : List Meaning) (line : Line) (it : Meaning) → HaveMoments lines made
    → HasItsMoment line.moment it → HaveMoments (lines ++ line ∷ []) (made ++ it ∷ [])
moments-push [] [] line it have own = (own, tt)
moments-push [] (m ∷ made) line it have own = absurd have
moments-push (l ∷ lines) [] line it have own = absurd have
moments-push (l ∷ lines) (m ∷ made) line it have own = (have.0, moments-push lines made line it have.1 own)

pub turned_more : (slices : ℕ) (book mid after : List (List ℕ)) (subscribers between behind : List SubscriberState)
    (lines : List Line) (line : Line) (made : List Meaning) (it : Meant)
    → TurnedAll slices book subscribers lines made mid between
    → Turned slices mid between line it after behind
    → TurnedAll slices book subscribers (lines ++ line ∷ []) (made ++ meaning_of it ∷ []) after behind
turned_more slices book mid after subscribers between behind lines line made it all one = record {
  many = one.many;
  within = all_within (length between) (length behind) made (meaning_of it) one.more all.within one.within;
  moments = moments-push lines made line (meaning_of it) all.moments one.moment;
  means = λ prior stand.
      ap (λ ms. ms ++ meaning_of it ∷ []) (all.means prior stand)
      ∙ ap (λ m. meant_from slices prior lines ++ m ∷ []) (one.means (prior ++ lines) (all.stand prior stand))
      ∙ sym (meant_from-append slices prior lines (line ∷ []));
  stand = λ prior stand.
      subst (Stand slices after behind) (append_assoc prior lines (line ∷ []))
      (one.stand (prior ++ lines) (all.stand prior stand));
  keep = λ before standing. one.keep before (all.keep before standing);
  rest = λ count latest rest. one.rest count latest (all.rest count latest rest);
}

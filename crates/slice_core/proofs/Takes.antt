-- Lines that were taken, and one more.
use Rattle.std.proofs.Common.{◌≡◌, ℕ, ◌+◌, List, [], ◌∷◌, ◌++◌}
use Rattle.std.proofs.lemmas.List.{length_push}
use Rattle.std.proofs.Common.{refl, sym, ap, subst, ◌∙◌, arith, append_assoc, append-nil}
use Rattle.trace_lines.specs.Line.{Line}
use Rattle.at_rest.proofs.Coming.{latest-push}
use Rattle.front_core.specs.declared.front.Front.{Front}
use Rattle.front_core.specs.declared.taken.Taken.{Taken}
use Rattle.front_core.specs.declared.took.Took.{Took}
use Rattle.front_core.specs.Counting.{TookTries}
use Rattle.front_core.specs.Entries.{lines_of}
use Rattle.front_core.specs.Words.{IsWhole, opened_of, entries_in, taken_by, lines_in, latest_in, fulls_in}
use Rattle.front_core.specs.Words.{control_lanes, data_lanes, TakesAtOnce}
use Rattle.slice_core.specs.Lines.{Counted, Pumps, TakesAll, fulls_among, in_among}
use Rattle.slice_core.proofs.Rising.{counted_none, fulls_rise}

-- none yet
pub takes_none : (tries : ℕ) (front : Front) → IsWhole front → TakesAll tries [] front front
takes_none tries front whole = record {
  whole = whole;
  opened = refl;
  taken = sym (append-nil (taken_by front));
  count = omega arith;
  latest = refl;
  control = refl;
  data_half = refl;
  entries = [];
  entries_are = sym (append-nil (entries_in front));
  fulls = counted_none tries (fulls_in front);
}

pub takes_more : (tries : ℕ) (xs : List Line) (line : Line) (old mid new : Front) (took : Took)
    → TakesAll tries xs old mid → IsWhole new → opened_of new ≡ opened_of mid
    → taken_by new ≡ taken_by mid ++ line ∷ [] → (lines_in new ≡ lines_in mid + 1) × (latest_in new ≡ line.moment)
    → (control_lanes new ≡ control_lanes mid) × (data_lanes new ≡ data_lanes mid) → TakesAtOnce line tries took mid new
    → TookTries tries took (fulls_in mid) (fulls_in new) → TakesAll tries (xs ++ line ∷ []) old new
takes_more tries xs line old mid new took before whole opened taken counts lanes takes tried = record {
  whole = whole;
  opened = opened ∙ before.opened;
  taken = taken ∙ (ap (λ (ts : List Line). ts ++ line ∷ []) before.taken
      ∙ append_assoc (taken_by old) xs (line ∷ []));
  count = omega (arith, counts.0, before.count, length_push xs line);
  latest = counts.1 ∙ sym (latest-push (latest_in old) xs line);
  control = lanes.0 ∙ before.control;
  data_half = lanes.1 ∙ before.data_half;
  entries = before.entries ++ takes.taken ∷ [];
  entries_are = takes.entries ∙ (ap (λ (es : List Taken). es ++ takes.taken ∷ []) before.entries_are
      ∙ append_assoc (entries_in old) before.entries (takes.taken ∷ []));
  fulls = fulls_rise tries before.entries takes.taken (fulls_in old) (fulls_in mid) (fulls_in new) before.fulls
      (subst (λ (t : Took). TookTries tries t (fulls_in mid) (fulls_in new)) takes.took_is tried);
}

pub pumps_again : (old mid new : Front) → Pumps old mid → Pumps mid new → Pumps old new
pumps_again old mid new before pumps = record {
  whole = λ whole. pumps.whole (before.whole whole);
  opened = pumps.opened ∙ before.opened;
  entries = pumps.entries ∙ before.entries;
  count = pumps.count ∙ before.count;
  latest = pumps.latest ∙ before.latest;
  fulls = pumps.fulls ∙ before.fulls;
  control = pumps.control ∙ before.control;
  data_half = pumps.data_half ∙ before.data_half;
}

-- behind the last line the front is only pumped
pub takes_pumped : (tries : ℕ) (xs : List Line) (old mid new : Front) → TakesAll tries xs old mid → Pumps mid new
    → TakesAll tries xs old new
takes_pumped tries xs old mid new before pumps = record {
  whole = pumps.whole before.whole;
  opened = pumps.opened ∙ before.opened;
  taken = ap lines_of pumps.entries ∙ before.taken;
  count = pumps.count ∙ before.count;
  latest = pumps.latest ∙ before.latest;
  control = pumps.control ∙ before.control;
  data_half = pumps.data_half ∙ before.data_half;
  entries = before.entries;
  entries_are = pumps.entries ∙ before.entries_are;
  fulls = subst (λ n. Counted tries (fulls_among before.entries) (in_among before.entries) (fulls_in old) n)
      (sym pumps.fulls) before.fulls;
}

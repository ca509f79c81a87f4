-- A line at a place, and the entries that were found of it.
use Rattle.std.proofs.Common.{◌≡◌, ℕ, ◌+◌, ◌<◌, Some, None, List, [], ◌∷◌, drop, get_or, length, sym, ap, ◌∙◌, subst, arith}
use Rattle.std.specs.Borrow.{Bor}
use Rattle.std.proofs.lemmas.List.{get_or-map, length-map}
use Rattle.report_lines.specs.declared.entry.LineEntry.{LineEntry}
use Rattle.slot_execution.specs.Kept.{IsPlaced, meaning_in}
use Rattle.audit_core.specs.Kept.{ArePlaced, meanings_in}
use Rattle.audit_core.specs.Matched.{AreFound, IsFound, lent_entry, of_number}
use Rattle.audit_core.specs.Places.{first_of}
use Rattle.slot_execution.specs.declared.kept.KeptMeaning.{KeptMeaning}
use Rattle.audit_core.specs.declared.matching.FoundEntry.{FoundEntry}
use Rattle.audit_core.proofs.MetLemmas.{none_over, some_over}

module _ (octets : List ℕ) (lines : List KeptMeaning) (i : ℕ) (one : KeptMeaning) (within : i < length lines)
    (is : one ≡ get_or lines i one) where
  pub meant_at : meaning_in octets one ≡ get_or (meanings_in octets lines) i (meaning_in octets one)
  meant_at =
      ap (meaning_in octets) is ∙ sym (get_or-map (meaning_in octets) lines i one (meaning_in octets one) within)

  pub meant_within : i < length (meanings_in octets lines)
  meant_within = omega (arith, within, length-map lines (meaning_in octets))

  pub placed_at : ArePlaced octets lines → IsPlaced octets one
  placed_at placed = subst (IsPlaced octets) (sym is) (placed i one within)

module _ (first count : ℕ) (entries : List LineEntry) (all : List FoundEntry) (i : ℕ) (own : FoundEntry)
    (found : AreFound first entries all count) (low : i < count) (is : own ≡ get_or all i own) where
  found_here : IsFound (first + i) entries own
  found_here = subst (IsFound (first + i) entries) (sym is) (found.each i own low)

  pub none_here : own.first ≡ None → of_number (first + i) entries ≡ []
  none_here none = none_over (of_number (first + i) entries) (sym (ap lent_entry none) ∙ found_here.first)

  pub some_here : (e : Bor LineEntry) → own.first ≡ Some e
      → of_number (first + i) entries ≡ e.now ∷ drop 1 (of_number (first + i) entries)
  some_here e there =
      some_over (of_number (first + i) entries) e.now (sym (ap lent_entry there) ∙ found_here.first)

  pub second_here : lent_entry own.second ≡ first_of (drop 1 (of_number (first + i) entries))
  second_here = found_here.second

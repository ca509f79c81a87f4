-- A packet filter: its text, which is a template of it alone, and its reader.
use Rattle.std.proofs.Common.{◌≡◌, ℕ, ◌<◌, ◌^◌, true, List, [], ◌∷◌, ◌++◌, length, Option, Some, None, refl, sym, ap, subst, ◌∙◌, append_assoc, arith, inl, inr}
use Rattle.std.specs.Prelude.{slice_index, nat_eq, is_none}
use Rattle.std.specs.List.{IsDistinct}
use Rattle.std.specs.Option.{option_and_then}
use Rattle.std.proofs.lemmas.Bool.{cases_lt, ltb-true, lt-ltb, and_parts, eqb-true}
use Rattle.std.proofs.lemmas.List.{get_or_append_left, get_or_past, length-append}
use Rattle.tft_codec.specs.declared.filter.Filter.{Filter}
use Rattle.tft_codec.specs.declared.fault.TBad.{TBad}
use Rattle.tft_codec.specs.declared.tft.Tft.{Tft}
use Rattle.tft_codec.specs.declared.tft.Tft.TheVariants.{Create, Delete, Add, Replace, Remove, Nothing}
use Rattle.tft_codec.specs.Filter.{IsFilter, ArePacketFilters, ids}
use Rattle.tft_codec.specs.Spelling.{Spells, spelling, filter_octet, filter_body}
use Rattle.tft_codec.specs.Reading.{tft_at}
use Rattle.tft_codec.specs.Refusal.{first_fault}
use Rattle.tft_codec.proofs.TftLemmas.{tft_taken, tft_again, spelled_again}
use Rattle.tft_codec.specs.Component.{contents}
use Rattle.tft_codec.proofs.Bounds.{contents_bound}
use Rattle.record_codec.specs.Spelling.{u16, measured, filter_text}
use Rattle.record_codec.specs.Read.{such, measured_at, number_at, begins_one, is_filter, filter_of, filter_in, and_then, filter_at}
use Rattle.record_codec.proofs.Codecs.{AreOctets, octets_behind, IsCodec, bind_some, some_is, such_codec}
use Rattle.record_codec.proofs.Numbers.{codec_16, measured_codec}
use Rattle.std.specs.Int.{w16}

octets_before : (prefix rest : List ℕ) → AreOctets (prefix ++ rest) → AreOctets prefix
octets_before prefix rest small at =
    elim (cases_lt at (length prefix)) [
      | inl lt ↦ omega (arith, small at, get_or_append_left prefix rest 0 at lt)
      | inr le ↦ omega (arith, get_or_past prefix at 0 le)
    ]

none_is : (fault : Option TBad) → is_none fault ≡ true → fault ≡ None
none_is None e = refl
none_is (Some bad) e = absurd cc

-- octets that begin so and spell a template spell one filter alone, with its spare bits 0
pub record IsAlone (octets : List ℕ) (t : Tft) : Type 0 where
  pub template : t ≡ Create (filter_of t ∷ [])
  pub text : octets ≡ spelling (Create (filter_of t ∷ []))
  pub filter : IsFilter (filter_of t)

first_octet_is : (octets : List ℕ) (first : ℕ) (rest : List ℕ) → octets ≡ first ∷ rest → slice_index octets 0 ≡ 33 →
    first ≡ 33
first_octet_is octets first rest is head = sym (ap (λ (all : List ℕ). slice_index all 0) is) ∙ head

pub alone : (octets : List ℕ) (t : Tft) → Spells octets t → slice_index octets 0 ≡ 33 → slice_index octets 1 < 64
    → IsAlone octets t
alone octets (Create []) s head spare = absurd (omega (arith, s.0.some))
alone octets (Create (filter ∷ [])) s head spare =
    let spelled = s.1.2 in
    let whole : octets ≡ 33 ∷ spelled.0 ∷ filter_body filter ++ spelled.1
    = s.1.1 ∙ ap (λ (rest : List ℕ). 33 ∷ rest) spelled.2 in
    let second : slice_index octets 1 ≡ spelled.0 = ap (λ (all : List ℕ). slice_index all 1) whole in
    let octet_is : spelled.0 ≡ filter_octet filter = omega (arith, spare, second, spelled.3) in
    record {
      template = refl;
      text = whole ∙ ap (λ (rest : List ℕ). 33 ∷ spelled.0 ∷ filter_body filter ++ rest) spelled.4
          ∙ ap (λ n. 33 ∷ n ∷ filter_body filter ++ []) octet_is;
      filter = s.0.filters.each.0;
    }
alone octets (Create (filter ∷ other ∷ filters)) s head spare =
    absurd (omega (arith, first_octet_is octets _ s.1.0 s.1.1 head))
alone octets Delete s head spare = absurd (omega (arith, first_octet_is octets _ [] s.1 head))
alone octets (Add filters) s head spare =
    absurd (omega (arith, first_octet_is octets _ s.1.0 s.1.1 head))
alone octets (Replace filters) s head spare =
    absurd (omega (arith, first_octet_is octets _ s.1.0 s.1.1 head))
alone octets (Remove ids) s head spare =
    absurd (omega (arith, first_octet_is octets _ s.1.0 s.1.1 head))
alone octets Nothing s head spare = absurd (omega (arith, first_octet_is octets _ [] s.1 head))

filter_alone : (octets : List ℕ) → AreOctets octets → is_filter octets ≡ true → IsAlone octets (tft_at octets)
filter_alone octets small e =
    let parts = and_parts (begins_one octets) (is_none (first_fault octets)) e in
    let head = and_parts (nat_eq (slice_index octets 0) 33) _ parts.0 in
    alone octets (tft_at octets) (tft_taken octets small (none_is (first_fault octets) parts.1))
    (eqb-true _ _ head.0) (ltb-true _ _ head.1)

pub one_filter : (filter : Filter) → IsFilter filter → ArePacketFilters (filter ∷ [])
unfolding IsDistinct
one_filter filter fits = record {
  filters = record { each = (fits, tt); differ = (tt, tt) };
  some = omega arith;
  few = omega arith;
}

filter_again : (filter : Filter) → IsFilter filter
    → (is_filter (spelling (Create (filter ∷ []))) ≡ true)
    × (filter_of (tft_at (spelling (Create (filter ∷ [])))) ≡ filter)
filter_again filter fits =
    let kept = one_filter filter fits in
    let read = tft_again (spelling (Create (filter ∷ []))) (Create (filter ∷ [])) (spelled_again (Create (filter ∷
    [])) kept) in
    let spare = lt-ltb (filter_octet filter) 64 (omega (arith, fits.id, fits.direction)) in
    (rw (spare, read.faultless) refl, ap filter_of read.value)

filter_short : (filter : Filter) → IsFilter filter → length (spelling (Create (filter ∷ []))) < 2 ^ 16
filter_short filter fits =
    omega (arith, contents_bound filter.components fits.components, length-append (contents filter.components) [])

template_codec : IsCodec (λ xs. (length xs < 2 ^ 16) × (is_filter xs ≡ true)) (measured u16)
    (such is_filter (measured_at (number_at w16)))
template_codec = such_codec is_filter (measured_codec codec_16)

pub filter_codec : IsCodec IsFilter filter_text filter_at
unfolding and_then filter_at
filter_codec = record { takes = taken; again = again_ }
  where
    taken : (octets : List ℕ) (filter : Filter) (rest : List ℕ) → AreOctets octets
        → filter_at octets ≡ Some (filter, rest) → (octets ≡ filter_text filter ++ rest) × IsFilter filter
    taken octets filter rest small e =
        let b = bind_some (such is_filter (measured_at (number_at w16)) octets) (λ a. filter_in a.0 a.1) (
          filter,
          rest,
        ) e in
        let t = template_codec.takes octets b.0.0 b.0.1 small b.1 in
        let parted : octets ≡ u16 (length b.0.0) ++ (b.0.0 ++ b.0.1)
        = t.0 ∙ append_assoc (u16 (length b.0.0)) b.0.0 b.0.1 in
        let inner : AreOctets b.0.0
        = octets_before b.0.0 b.0.1 (octets_behind octets (u16 (length b.0.0)) (b.0.0 ++ b.0.1) small parted) in
        let one = filter_alone b.0.0 inner t.1.1 in
        let found = some_is (filter_of (tft_at b.0.0), b.0.1) (filter, rest) b.2 in
        let filter_is : filter_of (tft_at b.0.0) ≡ filter = ap (λ p. p.0) found in
        let rest_is : b.0.1 ≡ rest = ap (λ p. p.1) found in
        let whole : octets ≡ filter_text (filter_of (tft_at b.0.0)) ++ rest
        = t.0 ∙ ap (λ (inside : List ℕ). measured u16 inside ++ b.0.1) one.text
        ∙ ap (λ (left : List ℕ). filter_text (filter_of (tft_at b.0.0)) ++ left) rest_is in
        subst (λ (f : Filter). (octets ≡ filter_text f ++ rest) × IsFilter f) filter_is (whole, one.filter)

    again_ : (filter : Filter) (rest : List ℕ) → IsFilter filter
        → filter_at (filter_text filter ++ rest) ≡ Some (filter, rest)
    again_ filter rest fits =
        let a = filter_again filter fits in
        ap (λ o. option_and_then (λ a. filter_in a.0 a.1) o)
        (template_codec.again (spelling (Create (filter ∷ []))) rest (filter_short filter fits, a.0))
        ∙ ap (λ f. Some (f, rest)) a.1

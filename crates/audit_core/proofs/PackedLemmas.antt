-- Texts that are kept in fewer octets stand there one behind another, and are read again.
use Rattle.std.proofs.Common.{◌≡◌, ℕ, ◌+◌, ◌*◌, ◌-◌, ◌<◌, ◌≤◌, ◌^◌, Some, List, [], ◌∷◌, ◌++◌, map, length, get_or, take, drop, slice_range, refl, sym, ap, subst, ◌∙◌, append_assoc, arith, length-append, append-nil}
use Rattle.std.specs.Prelude.{slice_index}
use Rattle.std.specs.List.{All, flat_map}
use Rattle.std.proofs.lemmas.List.{drop-drop, drop_at, drop_more, flat_map_more, get_or-append-add, length-drop, length-take-le, map_push, take-append-drop, take_all, take_at}
use Rattle.std.proofs.lemmas.List.Elements.{All-head, All-nil, All-push, All-tail}
use Rattle.hex.specs.Hex.{encode_lower, lower_digits}
use Rattle.hex.proofs.HexLemmas.{length-encode_with}
use Rattle.text_fields.specs.Hexadecimal.{lower_octets_of}
use Rattle.text_fields.proofs.LowerLemmas.{lower_octets_only}
use Rattle.wire_octets.specs.Numbers.{be24_at, be24_octets}
use Rattle.audit_core.specs.Packed.{IsShort, KeepsFrom, Pack, field_of, lengths_of, octets_of, text_of}

pub keeps_none : KeepsFrom [] 0 []
keeps_none = record {
  packs = [];
  before = [];
  parts = refl;
  behind = refl;
  short = All-nil IsShort;
  are = refl;
}

pub keeps_end : (octets : List ℕ) (at : ℕ) → length octets ≡ at → KeepsFrom octets at []
keeps_end octets at end = record {
  packs = [];
  before = octets;
  parts = sym (append-nil octets);
  behind = end;
  short = All-nil IsShort;
  are = refl;
}

-- four lists behind another
join4 : (x a b c d : List ℕ) → x ++ (a ++ b ++ c ++ d) ≡ x ++ a ++ b ++ c ++ d
join4 x a b c d =
    sym (append_assoc x (a ++ b ++ c) d)
    ∙ ap (λ l. l ++ d) (sym (append_assoc x (a ++ b) c) ∙ ap (λ l. l ++ c) (sym (append_assoc x a b)))

join3 : (x a b c : List ℕ) → x ++ (a ++ b ++ c) ≡ x ++ a ++ b ++ c
join3 x a b c = sym (append_assoc x (a ++ b) c) ∙ ap (λ l. l ++ c) (sym (append_assoc x a b))

-- one text more
pub keeps_more : (old new : List ℕ) (at : ℕ) (texts : List (List ℕ)) (pack : Pack) (text : List ℕ) → IsShort pack
    → text ≡ text_of pack
    → new ≡ old ++ be24_octets (length pack.head) ++ be24_octets (length pack.octets) ++ be24_octets (length pack.tail)
    ++ pack.head ++ pack.octets ++ pack.tail
    → KeepsFrom old at texts → KeepsFrom new at (texts ++ text ∷ [])
keeps_more old new at texts pack text short is grown keeps =
    let lengths : old ++ be24_octets (length pack.head) ++ be24_octets (length pack.octets)
    ++ be24_octets (length pack.tail) ≡ old ++ lengths_of pack =
    sym (join3 old (be24_octets (length pack.head)) (be24_octets (length pack.octets)) (be24_octets (length pack.tail)))
    in
    let whole : new ≡ old ++ octets_of pack =
    grown ∙ ap (λ l. l ++ pack.head ++ pack.octets ++ pack.tail) lengths
    ∙ sym (join4 old (lengths_of pack) pack.head pack.octets pack.tail) in
    record {
      packs = keeps.packs ++ pack ∷ [];
      before = keeps.before;
      parts = whole ∙ ap (λ l. l ++ octets_of pack) keeps.parts
          ∙ flat_map_more octets_of keeps.before keeps.packs pack;
      behind = keeps.behind;
      short = All-push IsShort keeps.packs pack keeps.short short;
      are = map_push text_of keeps.packs pack ∙ ap (λ l. l ++ text_of pack ∷ []) keeps.are
          ∙ ap (λ t. texts ++ t ∷ []) (sym is);
    }

-- a number of three octets behind others
be24_behind : (before text : List ℕ) (k n : ℕ) → be24_at text k ≡ n → be24_at (before ++ text) (length before + k) ≡ n
be24_behind before text k n is =
    let one : length before + k + 1 ≡ length before + (k + 1) = omega arith in
    let two : length before + k + 1 + 1 ≡ length before + (k + 1 + 1) = omega arith in
    let first : get_or (before ++ text) (length before + k) 0 ≡ get_or text k 0 = get_or-append-add before text k 0 in
    let second : get_or (before ++ text) (length before + k + 1) 0 ≡ get_or text (k + 1) 0 =
    ap (λ at. get_or (before ++ text) at 0) one ∙ get_or-append-add before text (k + 1) 0 in
    let third : get_or (before ++ text) (length before + k + 1 + 1) 0 ≡ get_or text (k + 1 + 1) 0 =
    ap (λ at. get_or (before ++ text) at 0) two ∙ get_or-append-add before text (k + 1 + 1) 0 in
    omega (arith, first, second, third, is)

-- a part of octets
part_at : (octets before part later : List ℕ) (from to : ℕ) → octets ≡ before ++ (part ++ later)
    → length before ≡ from → from + length part ≡ to → slice_range octets from to ≡ part
part_at octets before part later from to is prefix len =
    ap (λ l. slice_range l from to) is ∙ ap (take (to - from)) (drop_at before (part ++ later) from prefix)
    ∙ take_at part later (to - from) (omega (arith, len))

-- What stands at the place of a text.
pub record Laid (octets : List ℕ) (at : ℕ) (own : List ℕ) (later : List (List ℕ)) : Type 0 where
  pub pack : Pack
  pub head_len : be24_at octets at ≡ length pack.head
  pub octets_len : be24_at octets (at + 3) ≡ length pack.octets
  pub tail_len : be24_at octets (at + 6) ≡ length pack.tail
  pub within : at + 9 + length pack.head + length pack.octets + length pack.tail ≤ length octets
  pub head_is : slice_range octets (at + 9) (at + 9 + length pack.head) ≡ pack.head
  pub octets_is : slice_range octets (at + 9 + length pack.head)
      (at + 9 + length pack.head + length pack.octets) ≡ pack.octets
  pub tail_is : slice_range octets (at + 9 + length pack.head + length pack.octets)
      (at + 9 + length pack.head + length pack.octets + length pack.tail) ≡ pack.tail
  pub text : text_of pack ≡ own
  pub next : KeepsFrom octets (at + 9 + length pack.head + length pack.octets + length pack.tail) later

laid_pack : (octets before : List ℕ) (at : ℕ) (pack : Pack) (packs : List Pack)
    → octets ≡ before ++ (octets_of pack ++ flat_map octets_of packs) → length before ≡ at → All IsShort (pack ∷ packs)
    → Laid octets at (text_of pack) (map text_of packs)
laid_pack octets before at pack packs parts behind short =
    let h = pack.head in
    let o = pack.octets in
    let t = pack.tail in
    let l = lengths_of pack in
    let rest = flat_map octets_of packs in
    let fits = All-head IsShort pack packs short in
    let to_rest : octets ≡ before ++ l ++ h ++ o ++ t ++ rest =
    parts ∙ sym (append_assoc before (octets_of pack) rest) ∙ ap (λ x. x ++ rest) (join4 before l h o t) in
    let to_tail : octets ≡ before ++ l ++ h ++ o ++ (t ++ rest) =
    to_rest ∙ append_assoc (before ++ l ++ h ++ o) t rest in
    let to_octets : octets ≡ before ++ l ++ h ++ (o ++ (t ++ rest)) =
    to_tail ∙ append_assoc (before ++ l ++ h) o (t ++ rest) in
    let to_head : octets ≡ before ++ l ++ (h ++ (o ++ (t ++ rest))) =
    to_octets ∙ append_assoc (before ++ l) h (o ++ (t ++ rest)) in
    let to_lengths : octets ≡ before ++ (l ++ (h ++ (o ++ (t ++ rest)))) =
    to_head ∙ append_assoc before l (h ++ (o ++ (t ++ rest))) in
    let len_l : length (before ++ l) ≡ at + 9 = length-append before l ∙ omega (arith, behind) in
    let len_h : length (before ++ l ++ h) ≡ at + 9 + length h = omega (arith, len_l, length-append (before ++ l) h) in
    let len_o : length (before ++ l ++ h ++ o) ≡ at + 9 + length h + length o =
    omega (arith, len_h, length-append (before ++ l ++ h) o) in
    let len_t : length (before ++ l ++ h ++ o ++ t) ≡ at + 9 + length h + length o + length t =
    omega (arith, len_o, length-append (before ++ l ++ h ++ o) t) in
    let all : length octets ≡ length (before ++ l ++ h ++ o ++ t) + length rest =
    ap length to_rest ∙ length-append (before ++ l ++ h ++ o ++ t) rest in
    record {
      pack = pack;
      head_len = subst (λ x. be24_at x at ≡ length h) (sym to_lengths)
          (subst (λ x. be24_at (before ++ (l ++ (h ++ (o ++ (t ++ rest))))) x ≡ length h)
          (omega (arith, behind))
          (be24_behind before (l ++ (h ++ (o ++ (t ++ rest)))) 0 (length h) (omega (arith, fits.head))));
      octets_len = subst (λ x. be24_at x (at + 3) ≡ length o) (sym to_lengths)
          (subst (λ x. be24_at (before ++ (l ++ (h ++ (o ++ (t ++ rest))))) x ≡ length o)
          (omega (arith, behind))
          (be24_behind before (l ++ (h ++ (o ++ (t ++ rest)))) 3 (length o) (omega (arith, fits.octets))));
      tail_len = subst (λ x. be24_at x (at + 6) ≡ length t) (sym to_lengths)
          (subst (λ x. be24_at (before ++ (l ++ (h ++ (o ++ (t ++ rest))))) x ≡ length t)
          (omega (arith, behind))
          (be24_behind before (l ++ (h ++ (o ++ (t ++ rest)))) 6 (length t) (omega (arith, fits.tail))));
      within = omega (arith, all, len_t);
      head_is = part_at octets (before ++ l) h (o ++ (t ++ rest)) (at + 9) (at + 9 + length h) to_head len_l refl;
      octets_is = part_at octets (before ++ l ++ h) o (t ++ rest) (at + 9 + length h)
          (at + 9 + length h + length o) to_octets len_h refl;
      tail_is = part_at octets (before ++ l ++ h ++ o) t rest (at + 9 + length h + length o)
          (at + 9 + length h + length o + length t) to_tail len_o refl;
      text = refl;
      next = record {
        packs = packs;
        before = before ++ l ++ h ++ o ++ t;
        parts = to_rest;
        behind = len_t;
        short = All-tail IsShort pack packs short;
        are = refl;
      };
    }

laid_by : (octets before : List ℕ) (at : ℕ) (packs : List Pack) (own : List ℕ) (later : List (List ℕ))
    → octets ≡ before ++ flat_map octets_of packs → length before ≡ at → All IsShort packs
    → map text_of packs ≡ own ∷ later → Laid octets at own later
laid_by octets before at [] own later parts behind short are = absurd (cc)
laid_by octets before at (pack ∷ packs) own later parts behind short are =
    let laid = laid_pack octets before at pack packs parts behind short in
    let first : text_of pack ≡ own = cc in
    let others : map text_of packs ≡ later = cc in
    subst (λ t. Laid octets at t later) first (subst (λ ts. Laid octets at (text_of pack) ts) others laid)

pub laid : (octets : List ℕ) (at : ℕ) (own : List ℕ) (later : List (List ℕ)) → KeepsFrom octets at (own ∷ later)
    → Laid octets at own later
laid octets at own later keeps =
    laid_by octets keeps.before at keeps.packs own later keeps.parts keeps.behind keeps.short keeps.are

-- a field of octets, where there are some, and where there are none
pub field_some : (octets : List ℕ) → 0 < length octets → 32 ∷ encode_lower octets ≡ field_of octets
field_some [] some = absurd (omega (arith, some))
field_some (octet ∷ octets) some = refl

pub field_none : (octets : List ℕ) → length octets ≤ 0 → [] ≡ field_of octets
field_none [] none = refl
field_none (octet ∷ octets) none = absurd (omega (arith, none))

-- The same where these octets are lent, and its lengths were read of them.
pub record LaidAt (octets lent : List ℕ) (at h o t : ℕ) (own : List ℕ) (later : List (List ℕ)) : Type 0 where
  pub pack : Pack
  pub within : at + 9 + h + o + t ≤ length lent
  pub len : length pack.octets ≡ o
  pub head : slice_range lent (at + 9) (at + 9 + h) ≡ pack.head
  pub field : slice_range lent (at + 9 + h) (at + 9 + h + o) ≡ pack.octets
  pub tail : slice_range lent (at + 9 + h + o) (at + 9 + h + o + t) ≡ pack.tail
  pub text : text_of pack ≡ own
  pub next : KeepsFrom octets (at + 9 + h + o + t) later

pub laid_at : (octets lent : List ℕ) (at h o t : ℕ) (own : List ℕ) (later : List (List ℕ)) → lent ≡ octets
    → h ≡ be24_at lent at → o ≡ be24_at lent (at + 3) → t ≡ be24_at lent (at + 6) → KeepsFrom octets at (own ∷ later)
    → LaidAt octets lent at h o t own later
laid_at octets lent at h o t own later same head_so octets_so tail_so keeps =
    let there = laid octets at own later keeps in
    let p = there.pack in
    let one : length p.head ≡ h = sym (head_so ∙ ap (λ l. be24_at l at) same ∙ there.head_len) in
    let two : length p.octets ≡ o = sym (octets_so ∙ ap (λ l. be24_at l (at + 3)) same ∙ there.octets_len) in
    let three : length p.tail ≡ t = sym (tail_so ∙ ap (λ l. be24_at l (at + 6)) same ∙ there.tail_len) in
    record {
      pack = p;
      within = omega (arith, there.within, ap length same, one, two, three);
      len = two;
      head = subst (λ l. slice_range l (at + 9) (at + 9 + h) ≡ p.head) (sym same)
          (subst (λ k. slice_range octets (at + 9) (at + 9 + k) ≡ p.head) one there.head_is);
      field = subst (λ l. slice_range l (at + 9 + h) (at + 9 + h + o) ≡ p.octets) (sym same)
          (subst (λ k. slice_range octets (at + 9 + h) (at + 9 + h + k) ≡ p.octets) two
          (subst (λ k. slice_range octets (at + 9 + k) (at + 9 + k + length p.octets) ≡ p.octets) one there.octets_is));
      tail = subst (λ l. slice_range l (at + 9 + h + o) (at + 9 + h + o + t) ≡ p.tail) (sym same)
          (subst (λ k. slice_range octets (at + 9 + h + o) (at + 9 + h + o + k) ≡ p.tail) three
          (subst (λ k. slice_range octets (at + 9 + h + k) (at + 9 + h + k + length p.tail) ≡ p.tail) two
          (subst (λ k. slice_range octets (at + 9 + k + length p.octets) (at + 9 + k + length p.octets + length p.tail)
          ≡ p.tail) one there.tail_is)));
      text = there.text;
      next = subst (λ k. KeepsFrom octets (at + 9 + h + o + k) later) three
          (subst (λ k. KeepsFrom octets (at + 9 + h + k + length p.tail) later) two
          (subst (λ k. KeepsFrom octets (at + 9 + k + length p.octets + length p.tail) later) one there.next));
    }

-- what is written of a text, part by part
pub unpacked : (pack : Pack) (own none first second whole : List ℕ) → text_of pack ≡ own → none ≡ []
    → first ≡ none ++ pack.head → second ≡ first ++ field_of pack.octets → whole ≡ second ++ pack.tail → whole ≡ own
unpacked pack own none first second whole is empty one two three =
    three
    ∙ ap (λ l. l ++ pack.tail) (two ∙ ap (λ l. l ++ field_of pack.octets) (one ∙ ap (λ l. l ++ pack.head) empty))
    ∙ is

-- a text whose field is octets, in its parts
pub field_apart : (text octets : List ℕ) (from to : ℕ) → 0 < from → from ≤ to → to ≤ length text
    → slice_index text (from - 1) ≡ 32 → lower_octets_of (slice_range text from to) ≡ Some octets
    → text ≡ take (from - 1) text ++ field_of octets ++ take (length text - to) (drop to text)
field_apart text octets from to some ordered within space read =
    let digits = lower_octets_only (slice_range text from to) octets read in
    let at : from - 1 + 1 ≡ from = omega (arith, some) in
    let behind : drop (to - from) (drop from text) ≡ drop to text =
    drop-drop (to - from) from text ∙ ap (λ k. drop k text) (omega (arith, ordered)) in
    let rest : drop from text ≡ encode_lower octets ++ drop to text =
    sym (take-append-drop (to - from) (drop from text)) ∙ ap (λ l. l ++ drop (to - from) (drop from text)) digits.0
    ∙ ap (λ l. encode_lower octets ++ l) behind in
    let tail : take (length text - to) (drop to text) ≡ drop to text =
    take_all (length text - to) (drop to text) (omega (arith, length-drop to text)) in
    let spaced : drop (from - 1) text ≡ 32 ∷ drop from text =
    drop_more text (from - 1) 0 (omega (arith, some, ordered, within))
    ∙ ap (λ x. x ∷ drop (from - 1 + 1) text) space ∙ ap (λ k. 32 ∷ drop k text) at in
    sym (take-append-drop (from - 1) text)
    ∙ ap (λ l. take (from - 1) text ++ l) (spaced ∙ ap (λ l. 32 ∷ l) rest)
    ∙ ap (λ l. take (from - 1) text ++ (l ++ drop to text)) (field_some octets digits.1)
    ∙ sym (append_assoc (take (from - 1) text) (field_of octets) (drop to text))
    ∙ ap (λ l. take (from - 1) text ++ field_of octets ++ l) (sym tail)

pub octets_short : (text octets : List ℕ) (from to : ℕ) → from ≤ to → to ≤ length text
    → lower_octets_of (slice_range text from to) ≡ Some octets → length octets ≤ length text
octets_short text octets from to ordered within read =
    let digits = lower_octets_only (slice_range text from to) octets read in
    let len : length (slice_range text from to) ≡ 2 * length octets =
    ap length digits.0 ∙ length-encode_with lower_digits octets in
    let part : length (slice_range text from to) ≡ to - from =
    length-take-le (to - from) (drop from text) (omega (arith, ordered, within, length-drop from text)) in
    omega (arith, len, part, ordered, within)

-- the parts of a short text are short
pub short_parts : (text : List ℕ) (pack : Pack) → text ≡ text_of pack → length text < 2 ^ 24
    → length pack.octets ≤ length text → IsShort pack
short_parts text pack is short octets =
    let all = length-append (pack.head ++ field_of pack.octets) pack.tail in
    let prefix = length-append pack.head (field_of pack.octets) in
    let len = ap length is in
    record {
      head = omega (arith, len, all, prefix, short);
      octets = omega (arith, octets, short);
      tail = omega (arith, len, all, prefix, short);
    }

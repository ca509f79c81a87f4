-- A subscriber and a whole file: their text and their reader.
use Rattle.std.proofs.Common.{◌≡◌, ℕ, zero, suc, ◌+◌, ◌<◌, ◌≤◌, ◌^◌, true, false, leb, cond, List, [], ◌∷◌, ◌++◌, length, Option, Some, None, refl, sym, ap, subst, ◌∙◌, append_assoc, arith}
use Rattle.std.specs.Prelude.{map, nat_eq, is_none}
use Rattle.std.specs.Bool.{Decides}
use Rattle.std.specs.List.{AllByRecursion, IsDistinct, flat_map, list_all, position_from}
use Rattle.std.specs.Str.{bytes_eq}
use Rattle.std.specs.Option.{option_and_then}
use Rattle.std.specs.Char.{IsAsciiDigit, is_ascii_digit}
use Rattle.std.specs.Int.{w32}
use Rattle.std.proofs.lemmas.Bool.{leb-true, le-leb, eqb-true, eq-eqb, ne_eqb, and_parts, and_from}
use Rattle.std.proofs.lemmas.Option.{none-some}
use Rattle.std.proofs.lemmas.Bool.Decides.{Decides-like, Decides-and, Decides-by_and}
use Rattle.std.proofs.lemmas.Cmp.{nat_list_eq_equiv}
use Rattle.std.proofs.lemmas.Iterator.Adapters.{position_from-zero}
use Rattle.std.proofs.lemmas.List.{append-nil, length-append, length-map}
use Rattle.pc_base.specs.Imsi.{IsImsi}
use Rattle.bearer_state.specs.Session.{SessionState}
use Rattle.bearer_state.specs.Version.{version_of, actives}
use Rattle.address_book.specs.Book.{IsBook, slot_in}
use Rattle.address_book.proofs.BookLemmas.{is_book-push}
use Rattle.record_codec.specs.Saved.{SavedSubscriber, FileState, IsCount, IsSaved, AreSaved, IsFile, imsi_of}
use Rattle.record_codec.specs.Spelling.{u8, u32, measured, subscriber_text, format_version, state}
use Rattle.record_codec.specs.Read.{and_then, done, such, octet_at, number_at, is_slice, is_imsi, imsi_at, counters_fit, subscriber_at, subscribers_at, are_new, imsis_differ, is_version, is_pool, fields_at, whole, file_at}
use Rattle.record_codec.proofs.Codecs.{AreOctets, octets_behind, IsCodec, bind_some, some_is, like, under, field, last_field, such_codec, octet_codec}
use Rattle.record_codec.proofs.Numbers.{codec_32, measured_codec, count_codec}
use Rattle.record_codec.proofs.SessionCodecs.{session_codec}
use Rattle.record_codec.proofs.CounterCodecs.{ArePartsText, counters_codec, parts_saved, parts_text}

digit_decides : (digit : ℕ) → Decides (is_ascii_digit digit) (IsAsciiDigit digit)
digit_decides digit =
    Decides-and (leb 48 digit) (leb digit 57) (leb-true 48 digit, le-leb 48 digit) (leb-true digit 57, le-leb digit 57)

pub imsi_decides : (digits : List ℕ) → Decides (is_imsi digits) (IsImsi digits)
imsi_decides digits =
    Decides-like (is_imsi digits) (λ p. (p.0, p.1.0, p.1.1)) (λ p. (p.0, (p.1, p.2)))
    (Decides-and (leb 6 (length digits)) _ (leb-true 6 (length digits), le-leb 6 (length digits))
    (Decides-and (leb (length digits) 15) (list_all is_ascii_digit digits)
    (leb-true (length digits) 15, le-leb (length digits) 15)
    (Decides-by_and is_ascii_digit IsAsciiDigit (list_all is_ascii_digit) digit_decides refl (λ _ _. refl) digits)))

imsi_codec : IsCodec IsImsi (measured u8) imsi_at
imsi_codec =
    like (such_codec is_imsi (measured_codec octet_codec)) (λ digits h. (imsi_decides digits).0 h.1)
    (λ digits f. (omega (arith, f.1), (imsi_decides digits).1 f))

slice_codec : IsCodec (λ n. n ≤ 63) u8 (such is_slice octet_at)
slice_codec =
    like (such_codec is_slice octet_codec) (λ n h. leb-true n 63 h.1) (λ n f. (omega (arith, f), le-leb n 63 f))

subscriber_codec : (moment slot : ℕ) → moment < 2 ^ 50
    → IsCodec (IsSaved moment slot) subscriber_text (subscriber_at moment slot)
unfolding subscriber_at
subscriber_codec moment slot early =
    like (such_codec counters_fit (field {C = λ s. Unit {0}} (λ (r : SavedSubscriber). r.imsi) imsi_codec (λ imsi
    imsi_fits.
    field (λ (r : SavedSubscriber). r.session) (session_codec slot) (λ session session_fits.
    field (λ (r : SavedSubscriber). r.commands) count_codec (λ commands commands_fits.
    field (λ (r : SavedSubscriber). r.packets) count_codec (λ packets packets_fits.
    field (λ (r : SavedSubscriber). r.destination) slice_codec (λ destination destination_fits.
    under (λ (r : SavedSubscriber). ArePartsText r.packets moment (actives r.session.bearers) r.counters)
    (last_field (λ (r : SavedSubscriber). r.counters)
    (λ counters. record {
      imsi = imsi;
      session = session;
      commands = commands;
      packets = packets;
      destination =
          destination;
      counters = counters;
    })
    (counters_codec packets moment packets_fits early (actives session.bearers))
    (λ counters fits. ((((((tt, refl), refl), refl), refl), refl), refl))
    (λ r is fits.
    let same : ◌≡◌ {A = SavedSubscriber} (record {
      imsi = imsi;
      session = session;
      commands = commands;
      packets =
          packets;
      destination = destination;
      counters = r.counters;
    }) (record {
      imsi = r.imsi;
      session = r.session;
      commands = r.commands;
      packets = r.packets;
      destination = r.destination;
      counters = r.counters;
    }) = cc in same))
    (λ r is fits.
    subst (λ n. ArePartsText n moment (actives r.session.bearers) r.counters) (sym is.0.1)
    (subst (λ (s : SessionState). ArePartsText packets moment (actives s.bearers) r.counters) (sym is.0.0.0.1) fits))
    (λ r is fits.
    subst (λ n. ArePartsText n moment (actives session.bearers) r.counters) is.0.1
    (subst (λ (s : SessionState). ArePartsText r.packets moment (actives s.bearers) r.counters) is.0.0.0.1 fits)))))))))
    (λ r h.
    let f = h.0.1 in
    record {
      imsi = f.0;
      slot_is = f.1.0.slot_is;
      session = f.1.0.saved;
      commands = f.1.1.0;
      packets = f.1.1.1.0;
      destination = f.1.1.1.1.0;
      counters = parts_saved r.packets moment (actives r.session.bearers) r.counters f.1.1.1.1.1;
      fits = h.1;
    })
    (λ r k. (
      (
        tt,
        (
          k.imsi,
          (
            record { slot_is = k.slot_is; saved = k.session },
            (
              k.commands,
              (
                k.packets,
                (
                  k.destination,
                  parts_text (version_of r.session r.commands) r.packets moment r.counters k.fits k.counters,
                ),
              ),
            ),
          ),
        ),
      ),
      k.fits,
    ))

subscribers_codec : (moment : ℕ) → moment < 2 ^ 50 → (slot n : ℕ)
    → IsCodec (λ xs. (length xs ≡ n) × AreSaved moment slot xs) (flat_map subscriber_text) (subscribers_at moment
    slot n)
unfolding and_then
subscribers_codec moment early slot n = record { takes = taken n slot; again = again_ n slot }
  where
    taken : (n slot : ℕ) (octets : List ℕ) (xs : List SavedSubscriber) (rest : List ℕ) → AreOctets octets
        → subscribers_at moment slot n octets ≡ Some (xs, rest)
        → (octets ≡ flat_map subscriber_text xs ++ rest) × ((length xs ≡ n) × AreSaved moment slot xs)
    taken zero slot octets xs rest small e =
        let found = some_is ([], octets) (xs, rest) e in
        let none_is : [] ≡ xs = ap (λ p. p.0) found in
        let rest_is : octets ≡ rest = ap (λ p. p.1) found in
        subst (λ (v : List SavedSubscriber). (octets ≡ flat_map subscriber_text v ++ rest) × ((length v ≡ 0) ×
        AreSaved moment slot v))
        none_is (rest_is, (refl, tt))
    taken (suc n) slot octets xs rest small e =
        let b = bind_some (subscriber_at moment slot octets)
        (λ a. and_then (subscribers_at moment (slot + 1) n) (λ ys. done (a.0 ∷ ys)) a.1) (xs, rest) e in
        let t = (subscriber_codec moment slot early).takes octets b.0.0 b.0.1 small b.1 in
        let d = bind_some (subscribers_at moment (slot + 1) n b.0.1) (λ a. done (b.0.0 ∷ a.0) a.1) (xs, rest) b.2 in
        let u = taken n (slot + 1) b.0.1 d.0.0 d.0.1 (octets_behind octets (subscriber_text b.0.0) b.0.1 small t.0)
        d.1 in
        let found = some_is (b.0.0 ∷ d.0.0, d.0.1) (xs, rest) d.2 in
        let all_is : b.0.0 ∷ d.0.0 ≡ xs = ap (λ p. p.0) found in
        let rest_is : d.0.1 ≡ rest = ap (λ p. p.1) found in
        let whole_is : octets ≡ flat_map subscriber_text (b.0.0 ∷ d.0.0) ++ rest
        = t.0 ∙ ap (λ (left : List ℕ). subscriber_text b.0.0 ++ left)
        (u.0 ∙ ap (λ (left : List ℕ). flat_map subscriber_text d.0.0 ++ left) rest_is)
        ∙ sym (append_assoc (subscriber_text b.0.0) (flat_map subscriber_text d.0.0) rest) in
        subst (λ (v : List SavedSubscriber).
        (octets ≡ flat_map subscriber_text v ++ rest) × ((length v ≡ suc n) × AreSaved moment slot v)) all_is
        (whole_is, (ap suc u.1.0, (t.1, u.1.1)))

    again_ : (n slot : ℕ) (xs : List SavedSubscriber) (rest : List ℕ) → (length xs ≡ n) × AreSaved moment slot xs
        → subscribers_at moment slot n (flat_map subscriber_text xs ++ rest) ≡ Some (xs, rest)
    again_ zero slot [] rest fits = refl
    again_ zero slot (x ∷ xs) rest fits = absurd cc
    again_ (suc n) slot [] rest fits = absurd cc
    again_ (suc n) slot (x ∷ xs) rest fits =
        let len : length xs ≡ n = cc in
        ap (λ (all : List ℕ). option_and_then
        (λ a. and_then (subscribers_at moment (slot + 1) n) (λ ys. done (a.0 ∷ ys)) a.1) (subscriber_at moment slot
        all))
        (append_assoc (subscriber_text x) (flat_map subscriber_text xs) rest)
        ∙ ap (λ o. option_and_then (λ a. and_then (subscribers_at moment (slot + 1) n) (λ ys. done (a.0 ∷ ys)) a.1) o)
        ((subscriber_codec moment slot early).again x (flat_map subscriber_text xs ++ rest) fits.1.0)
        ∙ ap (λ o. option_and_then (λ a. done (x ∷ a.0) a.1) o) (again_ n (slot + 1) xs rest (len, fits.1.1))

-- ---- no two IMSIs

is_none_at : (slot : Option ℕ) → is_none slot ≡ true → slot ≡ None
is_none_at None e = refl
is_none_at (Some slot) e = absurd cc

book_from : (book imsis : List (List ℕ)) → IsBook book → length book + length imsis ≤ 65533 → are_new book imsis ≡ true
    → IsBook (book ++ imsis)
book_from book [] kept room e = subst IsBook (sym (append-nil book)) kept
book_from book (imsi ∷ imsis) kept room e =
    let parts = and_parts (is_none (slot_in book imsi)) (are_new (book ++ imsi ∷ []) imsis) e in
    let more = is_book-push book imsi kept (is_none_at (slot_in book imsi) parts.0) (omega (arith, room)) in
    let long : length (book ++ imsi ∷ []) ≡ length book + 1 = length-append book (imsi ∷ []) in
    subst IsBook (append_assoc book (imsi ∷ []) imsis)
    (book_from (book ++ imsi ∷ []) imsis more (omega (arith, room, long)) parts.1)

not_from : (imsi : List ℕ) (i : ℕ) (book : List (List ℕ)) → AllByRecursion (λ other. bytes_eq other imsi ≡ false) book
    → position_from (bytes_eq imsi) i book ≡ None
not_from imsi i [] apart = refl
not_from imsi i (other ∷ book) apart =
    let first : bytes_eq imsi other ≡ false = nat_list_eq_equiv.symm imsi other ∙ apart.0 in
    rw first (not_from imsi (i + 1) book apart.1)

middle : (P : List ℕ → Type 0) (xs : List (List ℕ)) (y : List ℕ) (ys : List (List ℕ)) → AllByRecursion P (xs ++ y ∷ ys)
    → P y
middle P [] y ys all = all.0
middle P (x ∷ xs) y ys all = middle P xs y ys all.1

apart_before : (before : List (List ℕ)) (imsi : List ℕ) (imsis : List (List ℕ)) → IsDistinct bytes_eq (before ++ imsi
    ∷ imsis)
    → AllByRecursion (λ other. bytes_eq other imsi ≡ false) before
unfolding IsDistinct
apart_before [] imsi imsis distinct = tt
apart_before (other ∷ before) imsi imsis distinct =
    (middle (λ y. bytes_eq other y ≡ false) before imsi imsis distinct.0, apart_before before imsi imsis distinct.1)

new_from : (before imsis : List (List ℕ)) → IsDistinct bytes_eq (before ++ imsis) → are_new before imsis ≡ true
new_from before [] distinct = refl
new_from before (imsi ∷ imsis) distinct =
    let absent : slot_in before imsi ≡ None
    = position_from-zero (bytes_eq imsi) before ∙ not_from imsi 0 before (apart_before before imsi imsis distinct) in
    let others = new_from (before ++ imsi ∷ []) imsis
    (subst (IsDistinct bytes_eq) (sym (append_assoc before (imsi ∷ []) imsis)) distinct) in
    and_from (is_none (slot_in before imsi)) (are_new (before ++ imsi ∷ []) imsis) (ap is_none absent) others

no_imsis : IsBook []
unfolding IsDistinct
no_imsis = record { distinct = tt; short = omega arith }

-- ---- the whole file

-- what the octets of a file have
pub record HasFields (file : FileState) : Type 0 where
  pub lines : IsCount file.lines
  pub moment : IsCount file.moment
  pub few : length file.subscribers ≤ 65533
  pub subscribers : AreSaved file.moment 0 file.subscribers
  pub differ : imsis_differ file.subscribers ≡ true

version_codec : IsCodec (λ n. n ≡ 1) u8 (such is_version octet_at)
version_codec =
    like (such_codec is_version octet_codec) (λ n h. eqb-true n 1 h.1) (λ n f. (omega (arith, f), eq-eqb n 1 f))

pool_codec : IsCodec (λ n. n ≤ 65533) u32 (such is_pool (number_at w32))
pool_codec =
    like (such_codec is_pool codec_32) (λ n h. leb-true n 65533 h.1) (λ n f. (omega (arith, f), le-leb n 65533 f))

fields_codec : IsCodec HasFields state fields_at
unfolding fields_at
fields_codec =
    like (field {C = λ file. Unit {0}} (λ (r : FileState). format_version) version_codec (λ version version_fits.
    field (λ (r : FileState). r.lines) count_codec (λ lines lines_fits.
    field (λ (r : FileState). r.moment) count_codec (λ moment moment_fits.
    field (λ (r : FileState). length r.subscribers) pool_codec (λ count count_fits.
    under (λ (r : FileState). AreSaved r.moment 0 r.subscribers × (imsis_differ r.subscribers ≡ true))
    (last_field (λ (r : FileState). r.subscribers)
    (λ subscribers. record { lines = lines; moment = moment; subscribers = subscribers })
    (such_codec imsis_differ (subscribers_codec moment moment_fits 0 count))
    (λ subscribers fits. (((((tt, sym version_fits), refl), refl), fits.0.0), refl))
    (λ r is fits.
    let same : ◌≡◌ {A = FileState} (record { lines = lines; moment = moment; subscribers = r.subscribers })
    (record { lines = r.lines; moment = r.moment; subscribers = r.subscribers }) = cc in same))
    (λ r is fits. (subst (λ m. AreSaved m 0 r.subscribers) (sym is.0.1) fits.0.1, fits.1))
    (λ r is fits. ((is.1, subst (λ m. AreSaved m 0 r.subscribers) is.0.1 fits.0), fits.1)))))))
    (λ r h. record {
      lines = h.1.1.0;
      moment = h.1.1.1.0;
      few = h.1.1.1.1.0;
      subscribers = h.1.1.1.1.1.0;
      differ =
          h.1.1.1.1.1.1;
    })
    (λ r f. (tt, (refl, (f.lines, (f.moment, (f.few, (f.subscribers, f.differ)))))))

file_from_fields : (file : FileState) → HasFields file → IsFile file
file_from_fields file fields = record {
  lines = fields.lines;
  moment = fields.moment;
  book = book_from [] (map imsi_of file.subscribers) no_imsis
      (omega (arith, fields.few, length-map file.subscribers imsi_of)) fields.differ;
  subscribers = fields.subscribers;
}

fields_from_file : (file : FileState) → IsFile file → HasFields file
fields_from_file file kept = record {
  lines = kept.lines;
  moment = kept.moment;
  few = omega (arith, kept.book.short, length-map file.subscribers imsi_of);
  subscribers = kept.subscribers;
  differ = new_from [] (map imsi_of file.subscribers) kept.book.distinct;
}

whole_is : (found : FileState × List ℕ) (file : FileState) → whole found ≡ Some file → (found.1 ≡ []) × (found.0 ≡ file)
whole_is found file e = by_length found.1 e
  where
    by_length : (rest : List ℕ) → cond (nat_eq (length rest) 0) (Some found.0) None ≡ Some file
        → (rest ≡ []) × (found.0 ≡ file)
    by_length [] e = (refl, some_is found.0 file e)
    by_length (octet ∷ rest) e =
        let some_left : nat_eq (length (octet ∷ rest)) 0 ≡ false
        = ne_eqb (length (octet ∷ rest)) 0 (λ none. omega (arith, none)) in
        absurd (none-some file (rw some_left at e))

-- what is read is the state of a file, and the state of a file is read as it
pub file_taken : (octets : List ℕ) (file : FileState) → AreOctets octets → file_at octets ≡ Some file
    → (octets ≡ state file) × IsFile file
unfolding file_at
file_taken octets file small e =
    let b = bind_some (fields_at octets) whole file e in
    let t = fields_codec.takes octets b.0.0 b.0.1 small b.1 in
    let w = whole_is b.0 file b.2 in
    let text : octets ≡ state b.0.0
    = t.0 ∙ ap (λ (rest : List ℕ). state b.0.0 ++ rest) w.0 ∙ append-nil (state b.0.0) in
    subst (λ (f : FileState). (octets ≡ state f) × IsFile f) w.1 (text, file_from_fields b.0.0 t.1)

pub file_again : (file : FileState) → IsFile file → file_at (state file) ≡ Some file
unfolding file_at
file_again file kept =
    ap (λ (all : List ℕ). option_and_then whole (fields_at all)) (sym (append-nil (state file)))
    ∙ ap (λ o. option_and_then whole o) (fields_codec.again file [] (fields_from_file file kept))

pub one_file : (file other : FileState) → IsFile file → IsFile other → state file ≡ state other → file ≡ other
one_file file other kept other_kept same =
    some_is file other (sym (file_again file kept) ∙ ap file_at same ∙ file_again other other_kept)

-- What lines leave may be saved as a file.
use Rattle.std.proofs.Common.{◌≡◌, ℕ, zero, suc, ◌+◌, ◌<◌, ◌≤◌, ◌^◌, ◌==◌, Bool, true, false, if◌then◌else◌, Some, List, [], ◌∷◌, All, length, fold, map, refl, sym, ap, ◌∙◌, subst, arith}
use Rattle.std.specs.Prelude.{slice_get}
use Rattle.std.specs.List.{AllByRecursion}
use Rattle.std.proofs.lemmas.List.Elements.{recursion_from_All}
use Rattle.address_book.specs.Book.{IsBook}
use Rattle.at_rest.specs.Coming.{latest_behind}
use Rattle.demux.specs.Destinations.{bound_for, start_slice}
use Rattle.demux.specs.Line.{asked}
use Rattle.demux.specs.Resolved.{IsDecision, book_after, decided}
use Rattle.demux.specs.Trace.{book_of, decisions_from, destination_after}
use Rattle.demux.specs.declared.decision.Decision.{Decision}
use Rattle.demux.specs.declared.decision.Decision.TheVariants.{Command, Move, Note, Packet}
use Rattle.demux.proofs.ResolvedLemmas.{is_decision}
use Rattle.pc_base.specs.Imsi.{IsImsi}
use Rattle.trace_lines.specs.Line.{IsLine, Line}
use Rattle.record_codec.specs.Saved.{AreSaved, IsFile, IsResting, IsSaved, all_saved, imsi_of, saved}
use Rattle.subscriber.specs.Standing.{SubscriberState}
use Rattle.solo_command.specs.declared.solo.Solo.{Solo}
use Rattle.solo_command.specs.Standing.{SlotStands, Stands, story_of}
use Rattle.save_command.specs.Known.{IsKnown}
use Rattle.save_command.specs.Left.{HasTaken, histories}
use Rattle.save_command.specs.declared.saver.Saver.{Saver}
use Rattle.save_command.proofs.Kept.{IsLeftAt, rests, saved_is}
use Rattle.save_command.proofs.LineEvents.{line_events_are}

-- a slot is bound for one of the slices
by_slot : (slices before slice : ℕ) (own : Bool) → slice < slices → before < slices
    → (if own then slice else before) < slices
by_slot slices before slice true first second = first
by_slot slices before slice false first second = second

bound_low : (slices slot before : ℕ) (book : List (List ℕ)) (made : Decision) → IsDecision slices book made
    → before < slices → bound_for slot before made < slices
bound_low slices slot before book (Command whose asks) is low = low
bound_low slices slot before book (Packet at given) is low = low
bound_low slices slot before book (Move at slice) is low = by_slot slices before slice (at == slot) is.1 low
bound_low slices slot before book (Note text) is low = low

destination_low : (slices slot before : ℕ) (book : List (List ℕ)) (lines : List Line) → before < slices
    → fold (bound_for slot) before (decisions_from slices book lines) < slices
destination_low slices slot before book [] low = low
destination_low slices slot before book (line ∷ lines) low =
    destination_low slices slot (bound_for slot before (decided slices book line)) (book_after book line) lines
    (bound_low slices slot before book (decided slices book line) (is_decision slices book (asked line)) low)

home_low : (slot : ℕ) → start_slice 64 slot < 64
home_low slot = omega arith

bound_most : (slot : ℕ) (lines : List Line) → destination_after 64 slot lines ≤ 63
bound_most slot lines =
    let low : destination_after 64 slot lines < 64 =
    destination_low 64 slot (start_slice 64 slot) [] lines (home_low slot) in
    omega (arith, low)

-- no moment of a line is 2^50 or more
early_behind : (least : ℕ) (lines : List Line) → least < 2 ^ 50 → AllByRecursion IsLine lines
    → latest_behind least lines < 2 ^ 50
early_behind least [] early valid = early
early_behind least (line ∷ lines) early valid = early_behind line.moment lines valid.0.moment valid.1

-- places of lists
within : {X : Type 0} (xs : List X) (k : ℕ) (x : X) → slice_get xs k ≡ Some x → k < length xs
within [] k x found = absurd (cc)
within (y ∷ xs) zero x found = omega arith
within (y ∷ xs) (suc k) x found = omega (arith, within xs k x found)

holds_at : {X : Type 0} (P : X → Type 0) (xs : List X) (k : ℕ) (x : X) → AllByRecursion P xs
    → slice_get xs k ≡ Some x → P x
holds_at P [] k x all found = absurd (cc)
holds_at P (y ∷ xs) zero x all found = let same : y ≡ x = cc in subst P same all.0
holds_at P (y ∷ xs) (suc k) x all found = holds_at P xs k x all.1 found

each_saved : (moment slot : ℕ) (imsis : List (List ℕ)) (subscribers : List SubscriberState)
    → ((k : ℕ) (imsi : List ℕ) (one : SubscriberState) → slice_get imsis k ≡ Some imsi
    → slice_get subscribers k ≡ Some one → IsSaved moment (slot + k) (saved imsi one))
    → AreSaved moment slot (all_saved imsis subscribers)
each_saved moment slot [] subscribers each = tt
each_saved moment slot (imsi ∷ imsis) [] each = tt
each_saved moment slot (imsi ∷ imsis) (one ∷ subscribers) each =
    let here : slot + 0 ≡ slot = omega arith in (
      subst (λ (n : ℕ). IsSaved moment n (saved imsi one)) here (each 0 imsi one refl refl),
      each_saved moment (slot + 1) imsis subscribers (λ k i o first second.
          let next : slot + suc k ≡ slot + 1 + k = omega arith in
          subst (λ (n : ℕ). IsSaved moment n (saved i o)) next (each (suc k) i o first second)),
    )

each_rests : (subscribers : List SubscriberState)
    → ((k : ℕ) (one : SubscriberState) → slice_get subscribers k ≡ Some one → IsResting one)
    → AllByRecursion IsResting subscribers
each_rests [] each = tt
each_rests (one ∷ subscribers) each =
    (each 0 one refl, each_rests subscribers (λ k o found. each (suc k) o found))

imsis_kept : (imsis : List (List ℕ)) (subscribers : List SubscriberState) → length imsis ≡ length subscribers
    → map imsi_of (all_saved imsis subscribers) ≡ imsis
imsis_kept [] subscribers long = refl
imsis_kept (imsi ∷ imsis) [] long = absurd (omega (arith, long))
imsis_kept (imsi ∷ imsis) (one ∷ subscribers) long =
    let others : length imsis ≡ length subscribers = omega (arith, long) in
    ap (λ (rest : List (List ℕ)). imsi ∷ rest) (imsis_kept imsis subscribers others)

-- What a run of lines left: the gateway represents their events, and what its types keep is known.
pub record LeavesFile (solo : Solo) (done : List Line) (latest : ℕ) : Type 0 where
  pub stands : Stands solo (story_of done latest (histories done) [])
  pub valid : AllByRecursion IsLine done
  pub latest_is : latest ≡ latest_behind 0 done
  pub few : length done ≤ 2 ^ 39
  pub book : IsBook solo.book
  pub imsis : All IsImsi solo.book
  pub known : All IsKnown solo.subscribers.items

pub leaves_file : (saver : Saver) (done : List Line) (latest : ℕ) → HasTaken saver done latest
    → length done ≤ 2 ^ 39 → IsBook saver.solo.book → All IsImsi saver.solo.book
    → All IsKnown saver.solo.subscribers.items → LeavesFile saver.solo done latest
leaves_file saver done latest taken few book imsis known = record {
  stands = taken.stands;
  valid = taken.valid;
  latest_is = taken.latest_is;
  few = few;
  book = book;
  imsis = imsis;
  known = known;
}

early : (solo : Solo) (done : List Line) (latest : ℕ) → LeavesFile solo done latest → latest < 2 ^ 50
early solo done latest leaves =
    subst (λ (n : ℕ). n < 2 ^ 50) (sym leaves.latest_is) (early_behind 0 done (omega arith) leaves.valid)

pub places : (solo : Solo) (done : List Line) (latest : ℕ) → LeavesFile solo done latest
    → length solo.subscribers.items ≡ length solo.book
places solo done latest leaves =
    leaves.stands.places ∙ ap (λ (book : List (List ℕ)). length book) (sym leaves.stands.same_book)

left_at : (solo : Solo) (done : List Line) (latest slot : ℕ) (one : SubscriberState) → LeavesFile solo done latest
    → slice_get solo.subscribers.items slot ≡ Some one → IsLeftAt latest slot one (histories done slot)
left_at solo done latest slot one leaves found =
    let stands = leaves.stands in
    let inside : slot < length (book_of done) =
    omega (arith, within solo.subscribers.items slot one found, stands.places) in
    let has = stands.each slot inside in
    let same : has.value ≡ one = cc (has.found, found) in
    let own : SlotStands one slot (destination_after 64 slot done) latest (histories done slot) =
    subst (λ (x : SubscriberState). SlotStands x slot (destination_after 64 slot done) latest (histories done slot)) same
    has.holds in
    record {
      stands = own.stands;
      are = line_events_are 64 slot done leaves.valid (omega (arith, leaves.few));
      few = omega (arith, stands.few slot, leaves.few);
      bound = omega (arith, own.bound_for, bound_most slot done);
      late = own.in_order;
      early = early solo done latest leaves;
    }

known_at : (solo : Solo) (done : List Line) (latest slot : ℕ) (one : SubscriberState) → LeavesFile solo done latest
    → slice_get solo.subscribers.items slot ≡ Some one → IsKnown one
known_at solo done latest slot one leaves found =
    holds_at IsKnown solo.subscribers.items slot one (recursion_from_All IsKnown solo.subscribers.items leaves.known)
    found

pub file_kept : (solo : Solo) (done : List Line) (lines moment latest : ℕ) → LeavesFile solo done latest
    → lines ≡ length done → moment ≡ latest
    → IsFile (record {
      lines = lines;
      moment = moment;
      subscribers = all_saved solo.book solo.subscribers.items;
    })
file_kept solo done lines moment latest leaves count now =
    let subscribers : List SubscriberState = solo.subscribers.items in
    let each : (k : ℕ) (imsi : List ℕ) (one : SubscriberState) → slice_get solo.book k ≡ Some imsi
    → slice_get subscribers k ≡ Some one → IsSaved latest (0 + k) (saved imsi one) = λ k imsi one first second.
    let same : k ≡ 0 + k = omega arith in
    subst (λ (n : ℕ). IsSaved latest n (saved imsi one)) same
    (saved_is latest k imsi one (histories done k)
    (holds_at IsImsi solo.book k imsi (recursion_from_All IsImsi solo.book leaves.imsis) first)
    (left_at solo done latest k one leaves second) (known_at solo done latest k one leaves second)) in
    let soon : latest < 2 ^ 50 = early solo done latest leaves in
    record {
      lines = omega (arith, count, leaves.few);
      moment = omega (arith, now, soon);
      book = subst IsBook (sym (imsis_kept solo.book subscribers (sym (places solo done latest leaves)))) leaves.book;
      subscribers = subst (λ (m : ℕ). AreSaved m 0 (all_saved solo.book subscribers)) (sym now)
          (each_saved latest 0 solo.book subscribers each);
    }

pub file_rests : (solo : Solo) (done : List Line) (latest : ℕ) → LeavesFile solo done latest
    → AllByRecursion IsResting solo.subscribers.items
file_rests solo done latest leaves =
    each_rests solo.subscribers.items (λ k one found.
    rests latest k one (histories done k) (left_at solo done latest k one leaves found)
    (known_at solo done latest k one leaves found))

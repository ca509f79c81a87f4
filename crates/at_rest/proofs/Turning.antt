-- A line that is decided.
use Rattle.std.proofs.Common.{◌≡◌, ℕ, zero, suc, ◌+◌, ◌==◌, ◌<◌, ◌≤◌, Bool, true, false, cond, Some, List, [], ◌∷◌, ◌++◌, length, get_or, set, slice_get, get_or-set_same, get_or-set_other, length-set, refl, sym, ap, subst, ◌∙◌, inl, inr, arith, length-append}
use Rattle.std.proofs.lemmas.Bool.{cases_eq, cases_lt, eq-eqb, ne_eqb}
use Rattle.std.proofs.lemmas.Nat.{mod_below}
use Rattle.std.proofs.lemmas.Option.{slice_get-get_or, slice_get_past}
use Rattle.std.proofs.Math.Logic.{∥∥₁_map}
use Rattle.trace_lines.specs.Line.{Line}
use Rattle.demux.specs.declared.decision.Decision.{Decision}
use Rattle.demux.specs.declared.decision.Decision.TheVariants as decision
use Rattle.demux.specs.declared.decision.Whose.{Whose}
use Rattle.demux.specs.declared.decision.Whose.TheVariants.{Known, New}
use Rattle.demux.specs.declared.meant.Meant.{Meant}
use Rattle.demux.specs.declared.meant.Meant.TheVariants as now
use Rattle.demux.specs.declared.packet.LentPacket.{LentPacket}
use Rattle.demux.specs.Destinations.{bound_for, start_slice}
use Rattle.demux.specs.Meant.{meaning_of}
use Rattle.demux.specs.Resolved.{IsDue, book_after, book_behind, book_with, decided, slot_of}
use Rattle.demux.specs.Texts.{move_note}
use Rattle.demux.specs.Trace.{Meaning, command, move, note, book_of, decisions, destination_after, meant}
use Rattle.demux.proofs.TraceLemmas.{book_of-push, destination_after-push}
use Rattle.control_steps.specs.declared.command.CommandKind.{CommandKind}
use Rattle.lawful_run.specs.Merging.{Histories}
use Rattle.lawful_run.specs.Trace.{meant_next, settled_by}
use Rattle.gate_model.specs.declared.event.Event.{Event}
use Rattle.subscriber.specs.Standing.{SubscriberState, StandsFor, Represents}
use Rattle.at_rest.specs.Rest.{AreAtRest, HasEvents, IsAtRest, NewOneIsAtRest, destination_or}
use Rattle.at_rest.specs.Meant.{Admits, AreStanding, GoesOrStays, HasItsMoment, IsAdmitted, IsWithin, Moves, Stand, Stays, Turned, bound_of}
use Rattle.at_rest.proofs.Places.{AllAt, all_pushed, all_set}

-- what a decision means
abbrev pub meant_by : ℕ → List Line → Decision → Meaning
meant_by slices prior made = settled_by slices prior (meant slices (book_of prior) (decisions slices prior) made)

-- the decision on a line by this book
pub record IsDecided (slices : ℕ) (book : List (List ℕ)) (line : Line) (made : Decision) : Type 0 where
  pub decision : made ≡ decided slices book line
  pub behind : book_behind book made ≡ book_after book line

means_so : (slices : ℕ) (book : List (List ℕ)) (prior : List Line) (line : Line) (made : Decision)
    → IsDecided slices book line made → book ≡ book_of prior → meant_by slices prior made ≡ meant_next slices prior line
means_so slices book prior line made is same =
    ap (meant_by slices prior) (is.decision ∙ ap (λ b. decided slices b line) same)

-- what stands behind the line
stand_so : (slices : ℕ) (book : List (List ℕ)) (subscribers : List SubscriberState) (line : Line) (made : Decision)
    (book_now : List (List ℕ)) (subscribers_now : List SubscriberState)
    → IsDecided slices book line made → book_now ≡ book_behind book made
    → ((slot : ℕ) → bound_of slices subscribers_now slot ≡ bound_for slot (bound_of slices subscribers slot) made)
    → (prior : List Line) → Stand slices book subscribers prior
    → Stand slices book_now subscribers_now (prior ++ line ∷ [])
stand_so slices book subscribers line made book_now subscribers_now is behind bounds prior stand = record {
  book_is = behind ∙ is.behind ∙ ap (λ b. book_after b line) stand.book_is ∙ sym (book_of-push prior line);
  bounds = λ slot.
      bounds slot ∙ ap (λ k. bound_for slot k made) (stand.bounds slot)
      ∙ ap (bound_for slot (destination_after slices slot prior)) (is.decision ∙ ap (λ b. decided slices b line) stand.book_is)
      ∙ sym (destination_after-push slices slot prior line);
}

-- a line that leaves the book and the subscribers as they are
stays_turned : (slices : ℕ) (book : List (List ℕ)) (subscribers : List SubscriberState) (line : Line) (made : Decision)
    (it : Meant) → length subscribers ≡ length book → IsDecided slices book line made
    → book_behind book made ≡ book
    → ((slot : ℕ) → bound_of slices subscribers slot ≡ bound_for slot (bound_of slices subscribers slot) made)
    → ((prior : List Line) → Stand slices book subscribers prior → meaning_of it ≡ meant_by slices prior made)
    → IsWithin (length subscribers) (meaning_of it) → HasItsMoment line.moment (meaning_of it)
    → Turned slices book subscribers line it book subscribers
stays_turned slices book subscribers line made it many is same bounds means within moment = record {
  many = many;
  more = omega arith;
  within = within;
  moment = moment;
  means = λ prior stand. means prior stand ∙ means_so slices book prior line made is stand.book_is;
  stand = stand_so slices book subscribers line made book subscribers is (sym same) bounds;
  keep = λ before standing. standing;
  rest = λ lines latest rest. rest;
}

pub turned_note : (slices : ℕ) (book : List (List ℕ)) (subscribers : List SubscriberState) (line : Line)
    (text : List ℕ) → length subscribers ≡ length book → IsDecided slices book line (decision.Note text)
    → Turned slices book subscribers line (now.Note text) book subscribers
turned_note slices book subscribers line text many is =
    stays_turned slices book subscribers line (decision.Note text) (now.Note text) many is refl (λ slot. refl)
    (λ prior stand. refl) tt tt

pub turned_packet : (slices : ℕ) (book : List (List ℕ)) (subscribers : List SubscriberState) (line : Line) (slot : ℕ)
    (p : LentPacket) → length subscribers ≡ length book → IsDecided slices book line (decision.Packet slot p)
    → slot < length book → p.moment ≡ line.moment
    → Turned slices book subscribers line (now.Packet slot p) book subscribers
turned_packet slices book subscribers line slot p many is low moment =
    stays_turned slices book subscribers line (decision.Packet slot p) (now.Packet slot p) many is refl (λ own. refl)
    (λ prior stand. refl) (omega (arith, low, many)) moment

-- one subscriber more, bound for its start slice
push_bound : (old : List SubscriberState) (s : SubscriberState) (slot start : ℕ)
    → (slot ≡ length old → s.destination ≡ start)
    → destination_or start (slice_get (old ++ s ∷ []) slot) ≡ destination_or start (slice_get old slot)
push_bound [] s zero start own = own refl
push_bound [] s (suc slot) start own = refl
push_bound (x ∷ old) s zero start own = refl
push_bound (x ∷ old) s (suc slot) start own = push_bound old s slot start (λ same. own (ap suc same))

admitted_standing : (slices slot : ℕ) (old new : List SubscriberState) (before : Histories)
    → slot ≡ length old → IsAdmitted slices slot old new → AreStanding old before → AreStanding new before
admitted_standing slices slot old new before at is standing =
    let fresh : before (length old) ≡ [] = standing.beyond (length old) (omega arith) in
    let count : length new ≡ length old + 1 =
    ap length is.pushed ∙ length-append old (is.subscriber ∷ []) in
    let represents : Represents is.subscriber (length old) (before (length old)) =
    subst (λ (events : List Event). Represents is.subscriber (length old) events) (sym fresh)
    (subst (λ k. StandsFor is.subscriber k [] 0) at is.represents) in
    record {
      each = subst (AllAt (λ k s. Represents s k (before k))) (sym is.pushed)
          (all_pushed (λ k s. Represents s k (before k)) old is.subscriber standing.each represents);
      beyond = λ k past. standing.beyond k (omega (arith, past, count));
    }

home_low : (slices slot : ℕ) → 1 ≤ slices → start_slice slices slot < slices
home_low slices slot some = mod_below slot slices (omega (arith, some))

admitted_rest : NewOneIsAtRest → (slices slot : ℕ) (old new : List SubscriberState) (lines latest : ℕ) → 1 ≤ slices
    → slot ≡ length old → IsAdmitted slices slot old new → AreAtRest slices lines latest old
    → AreAtRest slices lines latest new
admitted_rest fresh slices slot old new lines latest some at is rest =
    let bound : is.subscriber.destination < slices =
    subst (λ d. d < slices) (sym is.destination) (home_low slices slot some) in
    let own : IsAtRest slices lines latest (length old) is.subscriber =
    subst (λ k. IsAtRest slices lines latest k is.subscriber) at
    (fresh slices lines latest slot is.subscriber is.represents bound is.last) in
    subst (AllAt (λ k s. IsAtRest slices lines latest k s)) (sym is.pushed)
    (all_pushed (λ k s. IsAtRest slices lines latest k s) old is.subscriber rest own)

pub turned_command : NewOneIsAtRest → (slices : ℕ) (book : List (List ℕ)) (subscribers : List SubscriberState)
    (line : Line) (whose : Whose) (c : CommandKind) (slot : ℕ) (book_now : List (List ℕ))
    (subscribers_now : List SubscriberState)
    → 1 ≤ slices → length subscribers ≡ length book → IsDecided slices book line (decision.Command whose c)
    → IsDue book whose → slot ≡ slot_of book whose → book_now ≡ book_with book whose
    → Admits slices book whose subscribers subscribers_now
    → Turned slices book subscribers line (now.Command slot c) book_now subscribers_now
turned_command fresh slices book subscribers line (Known at) c slot book_now subscribers_now some many is due at_is
    book_is admits = record {
      many = ap length admits ∙ many ∙ sym (ap length book_is);
      more = omega (arith, ap length admits);
      within = subst (λ (s : List SubscriberState). slot < length s) (sym admits) (omega (arith, due, at_is, many));
      moment = tt;
      means = λ prior stand.
          ap (λ k. command k c) at_is ∙ means_so slices book prior line (decision.Command (Known at) c) is stand.book_is;
      stand = stand_so slices book subscribers line (decision.Command (Known at) c) book_now subscribers_now is book_is
          (λ own. ap (λ s. bound_of slices s own) admits);
      keep = λ before standing. subst (λ s. AreStanding s before) (sym admits) standing;
      rest = λ lines latest rest. subst (AreAtRest slices lines latest) (sym admits) rest;
    }
turned_command fresh slices book subscribers line (New imsi) c slot book_now subscribers_now some many is due at_is
    book_is admits =
    let next : slot ≡ length subscribers = at_is ∙ sym many in
    let count : length subscribers_now ≡ length subscribers + 1 =
    ap length admits.pushed ∙ length-append subscribers (admits.subscriber ∷ []) in
    let books : length book_now ≡ length book + 1 = ap length book_is ∙ length-append book (imsi ∷ []) in
    record {
      many = omega (arith, count, books, many);
      more = omega (arith, count);
      within = omega (arith, next, count);
      moment = tt;
      means = λ prior stand.
          ap (λ k. command k c) (at_is ∙ ap length stand.book_is)
          ∙ means_so slices book prior line (decision.Command (New imsi) c) is stand.book_is;
      stand = stand_so slices book subscribers line (decision.Command (New imsi) c) book_now subscribers_now is book_is
          (λ own.
          ap (λ s. bound_of slices s own) admits.pushed
          ∙ push_bound subscribers admits.subscriber own (start_slice slices own)
          (λ same. admits.destination ∙ ap (start_slice slices) (sym many ∙ sym same)));
      keep = λ before standing.
          admitted_standing slices (length book) subscribers subscribers_now before (sym many) admits standing;
      rest = λ lines latest rest.
          admitted_rest fresh slices (length book) subscribers subscribers_now lines latest some (sym many) admits rest;
    }

-- a value that is set is at its place alone
slice_get-set_other : {X : Type 0} (xs : List X) (i k : ℕ) (x : X) → (i ≡ k → ⊥) → slice_get (set xs i x) k ≡ slice_get xs k
slice_get-set_other xs i k x other =
    elim (cases_lt k (length xs)) [
      | inl less ↦
          slice_get-get_or (set xs i x) k x (omega (arith, less, length-set xs i x))
          ∙ ap Some (get_or-set_other xs i k x x (λ same. other (sym same)))
          ∙ sym (slice_get-get_or xs k x less)
      | inr most ↦
          slice_get_past (set xs i x) k (omega (arith, most, length-set xs i x)) ∙ sym (slice_get_past xs k most)
    ]

-- a subscriber that is bound for another slice
sent_represents : (s : SubscriberState) (slice slot : ℕ) (events : List Event) → Represents s slot events
    → Represents (record s { destination = slice }) slot events
sent_represents s slice slot events is = record {
  session = is.session;
  version = is.version;
  counters = is.counters;
  commands = is.commands;
  packets = is.packets;
}

sent_rests : (slices lines latest slot slice : ℕ) (s : SubscriberState) → slice < slices
    → IsAtRest slices lines latest slot s → IsAtRest slices lines latest slot (record s { destination = slice })
sent_rests slices lines latest slot slice s low is = record {
  own = is.own;
  bound = low;
  late = is.late;
  has_events = ∥∥₁_map is.has_events (λ (has : HasEvents slot lines s). record {
    events = has.events;
    represents = sent_represents s slice slot has.events has.represents;
    few = has.few;
  });
}

bound_there : (slices : ℕ) (subscribers : List SubscriberState) (slot : ℕ) (s : SubscriberState)
    → slot < length subscribers → s ≡ get_or subscribers slot s → bound_of slices subscribers slot ≡ s.destination
bound_there slices subscribers slot s low is =
    ap (destination_or (start_slice slices slot)) (slice_get-get_or subscribers slot s low)
    ∙ ap (λ (x : SubscriberState). x.destination) (sym is)

if_true : {X : Type 0} (test : Bool) (x y : X) → test ≡ true → cond test x y ≡ x
if_true test x y is = ap (λ t. cond t x y) is

if_false : {X : Type 0} (test : Bool) (x y : X) → test ≡ false → cond test x y ≡ y
if_false test x y is = ap (λ t. cond t x y) is

pub turned_stay : (slices : ℕ) (book : List (List ℕ)) (subscribers : List SubscriberState) (line : Line)
    (slot slice : ℕ) (it : Meant) (subscribers_now : List SubscriberState) → length subscribers ≡ length book
    → IsDecided slices book line (decision.Move slot slice) → slot < length book
    → Stays subscribers subscribers_now slot slice it
    → Turned slices book subscribers line it book subscribers_now
turned_stay slices book subscribers line slot slice it subscribers_now many is low stays =
    let within : slot < length subscribers = omega (arith, low, many) in
    let bound : bound_of slices subscribers slot ≡ stays.subscriber.destination =
    bound_there slices subscribers slot stays.subscriber within stays.found in
    let text : List ℕ = move_note stays.subscriber.destination slot slice in
    let turned = stays_turned slices book subscribers line (decision.Move slot slice) (now.Note text) many is refl
    (λ own. elim (cases_eq slot own) [
      | inl same ↦
          sym (if_true (slot == own) slice (bound_of slices subscribers own) (eq-eqb slot own same)
          ∙ stays.bound ∙ sym bound ∙ ap (bound_of slices subscribers) same)
      | inr other ↦ sym (if_false (slot == own) slice (bound_of slices subscribers own) (ne_eqb slot own other))
    ])
    (λ prior stand.
    let at : stays.subscriber.destination ≡ destination_after slices slot prior = sym bound ∙ stand.bounds slot in
    let told : List ℕ = move_note (destination_after slices slot prior) slot slice in
    ap (λ d. note (move_note d slot slice)) at
    ∙ sym (if_true (slice == destination_after slices slot prior) (note told) (move slot slice told)
    (eq-eqb slice (destination_after slices slot prior) (stays.bound ∙ at)))) tt tt in
    subst (λ s. Turned slices book subscribers line it book s) (sym stays.same)
    (subst (λ m. Turned slices book subscribers line m book subscribers) (sym stays.means) turned)

pub turned_move : (slices : ℕ) (book : List (List ℕ)) (subscribers : List SubscriberState) (line : Line)
    (slot slice : ℕ) (it : Meant) (subscribers_now : List SubscriberState) → length subscribers ≡ length book
    → IsDecided slices book line (decision.Move slot slice) → slot < length book → slice < slices
    → Moves subscribers subscribers_now slot slice it
    → Turned slices book subscribers line it book subscribers_now
turned_move slices book subscribers line slot slice it subscribers_now many is low low_slice moves =
    let within : slot < length subscribers = omega (arith, low, many) in
    let s : SubscriberState = moves.subscriber in
    let sent : SubscriberState = record s { destination = slice } in
    let bound : bound_of slices subscribers slot ≡ s.destination =
    bound_there slices subscribers slot s within moves.found in
    let text : List ℕ = move_note s.destination slot slice in
    let count : length (set subscribers slot sent) ≡ length subscribers = length-set subscribers slot sent in
    let turned : Turned slices book subscribers line (now.Move slot slice text) book (set subscribers slot sent) =
    record {
      many = count ∙ many;
      more = omega (arith, count);
      within = tt;
      moment = tt;
      means = λ prior stand.
          let at : s.destination ≡ destination_after slices slot prior = sym bound ∙ stand.bounds slot in
          let told : List ℕ = move_note (destination_after slices slot prior) slot slice in
          ap (λ d. move slot slice (move_note d slot slice)) at
          ∙ sym (if_false (slice == destination_after slices slot prior) (note told) (move slot slice told)
          (ne_eqb slice (destination_after slices slot prior) (λ same. moves.bound (same ∙ sym at))))
          ∙ means_so slices book prior line (decision.Move slot slice) is stand.book_is;
      stand = stand_so slices book subscribers line (decision.Move slot slice) book (set subscribers slot sent) is refl
          (λ own. elim (cases_eq slot own) [
            | inl same ↦
                ap (bound_of slices (set subscribers slot sent)) (sym same)
                ∙ bound_there slices (set subscribers slot sent) slot sent (omega (arith, within, count))
                (sym (get_or-set_same subscribers slot sent sent within))
                ∙ sym (if_true (slot == own) slice (bound_of slices subscribers own) (eq-eqb slot own same))
            | inr other ↦
                ap (destination_or (start_slice slices own)) (slice_get-set_other subscribers slot own sent other)
                ∙ sym (if_false (slot == own) slice (bound_of slices subscribers own) (ne_eqb slot own other))
          ]);
      keep = λ before standing. record {
        each = all_set (λ k x. Represents x k (before k)) subscribers slot sent standing.each
            (λ here. sent_represents s slice slot (before slot)
            (subst (λ x. Represents x slot (before slot)) (sym moves.found) (standing.each slot s within)));
        beyond = λ k past. standing.beyond k (omega (arith, past, count));
      };
      rest = λ lines latest rest.
          all_set (λ k x. IsAtRest slices lines latest k x) subscribers slot sent rest
          (λ here. sent_rests slices lines latest slot slice s low_slice
          (subst (λ x. IsAtRest slices lines latest slot x) (sym moves.found) (rest slot s within)));
    } in
    subst (λ x. Turned slices book subscribers line it book x) (sym moves.moved)
    (subst (λ m. Turned slices book subscribers line m book (set subscribers slot sent)) (sym moves.means) turned)

pub turned_order : (slices : ℕ) (book : List (List ℕ)) (subscribers : List SubscriberState) (line : Line)
    (slot slice : ℕ) (it : Meant) (subscribers_now : List SubscriberState) → length subscribers ≡ length book
    → IsDecided slices book line (decision.Move slot slice) → slot < length book → slice < slices
    → GoesOrStays subscribers subscribers_now slot slice it
    → Turned slices book subscribers line it book subscribers_now
turned_order slices book subscribers line slot slice it subscribers_now many is low low_slice does =
    elim does [
      | inl stays ↦ turned_stay slices book subscribers line slot slice it subscribers_now many is low stays
      | inr moves ↦ turned_move slices book subscribers line slot slice it subscribers_now many is low low_slice moves
    ]

-- What a front keeps when it is opened.
use Rattle.std.proofs.Common.{◌≡◌, ℕ, ◌+◌, ◌^◌, ◌≤◌, false, true≢false, is_some, List, [], length, replicate, refl, sym, ap, subst, ◌∙◌, arith, append-nil}
use Rattle.std.specs.Prelude.{Option, None, count_by}
use Rattle.std.specs.List.{sum_by}
use Rattle.std.proofs.lemmas.List.{length-map}
use Rattle.trace_lines.specs.Line.{Line}
use Rattle.lawful_run.specs.Merging.{Histories}
use Rattle.subscriber.specs.Standing.{SubscriberState}
use Rattle.worker_core.specs.Desks.{lanes_of}
use Rattle.worker_core.specs.Workers.{desk_lanes}
use Rattle.at_rest.specs.Meant.{Stand}
use Rattle.at_rest.specs.Rest.{AreAtRest, IsBehind, RepresentsAll, Rest}
use Rattle.front_core.specs.Kept.{LinesKept, Load, Part, no_load, no_part}
use Rattle.front_core.proofs.Keeps.{no_line}
use Rattle.migration.specs.declared.place.ControlPlace.{ControlPlace}
use Rattle.migration.specs.Places as control_place
use Rattle.migration.specs.declared.data_place.DataPlace.{DataPlace}
use Rattle.migration.specs.DataPlaces as data_place
use Rattle.migration.specs.DataWords as data_words
use Rattle.control_half.specs.Half as control_half
use Rattle.counter_half.specs.Half as counter_half
use Rattle.counter_half.specs.Named as data_named
use Rattle.control_half.specs.declared.half.ControlHalf.{ControlHalf}
use Rattle.counter_half.specs.declared.half.DataHalf.{DataHalf}
use Rattle.counter_half.specs.declared.items.DataItem.{DataItem}
use Rattle.front_core.specs.declared.halves.Halves.{Halves}
use Rattle.front_core.specs.declared.lot.Lot.{Lot}
use Rattle.front_core.specs.Lots.{lot_of}
use Rattle.front_core.specs.Views.{both, lane_rooms, load_of, moved_by, own_of, parts_of, view_at}
use Rattle.front_core.specs.declared.taken.Taken.{Taken}
use Rattle.front_core.specs.Keeping.{AreStarts, FrontKeeps, HalvesKeep, LotKeeps, ViewKeeps, start_in, starts_of}

-- nothing is split, and sides have no places
module _ (slices room lane latest : ℕ) (halves : Halves) (lots : halves.lots.items ≡ [])
    (controls : (both halves).control_places ≡ []) (datas : (both halves).places ≡ []) where
  no_lot : (slot : ℕ) → (view_at halves slot).lot ≡ None
  no_lot slot = ap (λ (l : List (Option Lot)). lot_of l slot) lots

  no_parks : (slot : ℕ) → (view_at halves slot).parks ≡ false
  no_parks slot = ap (λ (ps : List (Option (DataPlace DataHalf DataItem))). data_place.parks_at
      (data_place.place_at ps slot)) datas

  no_view : (slot : ℕ) → ViewKeeps slot 0 latest (view_at halves slot)
  no_view slot = subst (λ (l : Option Lot). LotKeeps slot 0 latest l (view_at halves slot)) (sym (no_lot slot)) (record {
    no_control = ap (λ (ps : List (Option (ControlPlace ControlHalf))). control_place.name_at control_half.name_of
        (control_place.place_at ps slot)) controls;
    no_data = ap (λ (ps : List (Option (DataPlace DataHalf DataItem))). data_place.name_at counter_half.name_of
        (data_place.place_at ps slot)) datas;
    no_parks = no_parks slot;
  })

  no_parts : parts_of halves ≡ (λ (slot : ℕ). no_part)
  no_parts = λ i slot. record {
    own = own_of (no_lot slot i) (view_at halves slot).accepted;
    moved = moved_by (no_lot slot i) (view_at halves slot).moved;
    parks = no_parks slot i;
  }

  no_loads : (both halves).asked ≡ 0 → load_of halves ≡ no_load
  no_loads asked = λ i. record {
    accepted = sum_by (λ (items : List DataItem). length items) (data_words.accepts_of (datas i));
    admitted = count_by (λ (name : Option data_named.Named). is_some name)
        (data_place.names_of counter_half.name_of (datas i));
    asked = asked i;
  }

  no_starts : starts_of halves ≡ (λ (slot : ℕ). None)
  no_starts = λ i slot. start_in (no_lot slot i)

  pub halves_open : (slots : ℕ) → length (lanes_of (both halves).control_desks) ≡ slices
      → lane_rooms halves ≡ replicate slices lane → (both halves).queue_room ≡ room → halves.room ≡ room
      → (both halves).control_asked ≡ 0 → (both halves).asked ≡ 0
      → HalvesKeep slices room lane slots 0 latest 0 halves
  halves_open slots control_count rooms queues room_is control_asked asked = record {
    views = no_view;
    within = λ slot past. no_lot slot;
    lots_few = (let none = ap (λ (l : List (Option Lot)). length l) lots in omega (arith, none));
    controls_are = control_count;
    lanes_are = rooms;
    queues_are = queues;
    room_is = room_is;
    rooms = λ slot end split.
        absurd (true≢false (sym (ap is_some (sym (no_lot slot) ∙ split))));
    control_asked = omega (arith, control_asked);
    asked = omega (arith, asked);
  }

-- a front that is opened
pub front_opens : (rest : Rest) (halves : Halves) (prior : List Line) (before : Histories) → IsBehind rest prior
    → RepresentsAll rest before → (1 ≤ rest.slices) × (rest.slices ≤ 64)
    → (1 ≤ rest.room) × (rest.room ≤ 256) → (1 ≤ rest.lane) × (rest.lane ≤ 16384)
    → length rest.subscribers ≡ length rest.book → rest.lines ≤ 2 ^ 39
    → AreAtRest rest.slices rest.lines rest.latest rest.subscribers
    → halves.lots.items ≡ [] → (both halves).control_places ≡ [] → (both halves).places ≡ []
    → length (lanes_of (both halves).control_desks) ≡ rest.slices
    → lane_rooms halves ≡ replicate rest.slices rest.lane → (both halves).queue_room ≡ rest.room
    → halves.room ≡ rest.room → (both halves).control_asked ≡ 0 → (both halves).asked ≡ 0
    → FrontKeeps rest rest.slices rest.lane rest.lines rest.latest rest.book rest.subscribers halves []
front_opens rest halves prior before behind represents slices_few roomy lane_roomy many few at_rest lots controls datas
    control_count rooms queues room_is control_asked asked = record {
      slices_are = refl;
      lane_is = refl;
      slices_few = slices_few;
      roomy = roomy;
      lane_roomy = lane_roomy;
      as_many = many;
      counted = omega arith;
      few = few;
      at_rest = at_rest;
      first = prior;
      behind = record { book_is = behind.book; bounds = behind.bounds };
      history = before;
      represents = record { each = represents.each; beyond = represents.beyond };
      events_few = represents.few;
      stand = λ lines stand.
          subst (λ (l : List Line). Stand rest.slices rest.book rest.subscribers l) (sym (append-nil lines)) stand;
      starts = λ history standing.
          subst (λ (s : ℕ → Option SubscriberState). AreStarts rest.subscribers s history)
          (sym (no_starts rest.slices rest.room rest.lane rest.latest halves lots controls datas)) (record {
            standing = standing;
            split = λ slot start is. absurd (true≢false (sym (ap is_some is)));
          });
      halves_keep = halves_open rest.slices rest.room rest.lane rest.latest halves lots controls datas
          (length rest.subscribers) control_count rooms queues room_is control_asked asked;
      lines_keep = λ lines stand.
          subst (λ (p : ℕ → Part). LinesKept rest.slices rest.room rest.lane (rest.lines + 1) [] [] p (load_of halves))
          (sym (no_parts rest.slices rest.room rest.lane rest.latest halves lots controls datas))
          (subst (λ (l : Load). LinesKept rest.slices rest.room rest.lane (rest.lines + 1) [] [] (λ (slot : ℕ). no_part) l)
          (sym (no_loads rest.slices rest.room rest.lane rest.latest halves lots controls datas asked))
          (no_line rest.slices rest.room rest.lane (rest.lines + 1)));
    }

-- by what the body of `open` has of it
pub opened_so : (given rest opened : Rest) (halves : Halves) (entries : List Taken) (prior : List Line)
    (before : Histories) → rest ≡ given → opened ≡ given → entries ≡ [] → IsBehind given prior
    → RepresentsAll given before → (1 ≤ rest.slices) × (rest.slices ≤ 64)
    → (1 ≤ rest.room) × (rest.room ≤ 256) → (1 ≤ rest.lane) × (rest.lane ≤ 16384)
    → length rest.subscribers ≡ length rest.book → rest.lines ≤ 2 ^ 39
    → AreAtRest rest.slices rest.lines rest.latest rest.subscribers
    → halves.lots.items ≡ [] → (both halves).control_places ≡ [] → (both halves).places ≡ []
    → length (both halves).control_desks ≡ rest.slices
    → lane_rooms halves ≡ replicate rest.slices rest.lane → (both halves).queue_room ≡ rest.room
    → halves.room ≡ rest.room → (both halves).control_asked ≡ 0 → (both halves).asked ≡ 0
    → FrontKeeps opened rest.slices rest.lane rest.lines rest.latest rest.book rest.subscribers halves entries
opened_so given rest opened halves entries prior before is opened_is none behind represents slices_few roomy lane_roomy
    many few at_rest lots controls datas control_count rooms queues room_is control_asked asked =
    let kept = front_opens rest halves prior before (subst (λ (r : Rest). IsBehind r prior) (sym is) behind)
    (subst (λ (r : Rest). RepresentsAll r before) (sym is) represents) slices_few roomy lane_roomy many few at_rest lots
    controls datas (length-map (both halves).control_desks desk_lanes ∙ control_count) rooms queues room_is control_asked
    asked in
    subst (λ (o : Rest). FrontKeeps o rest.slices rest.lane rest.lines rest.latest rest.book rest.subscribers halves
    entries) (is ∙ sym opened_is)
    (subst (λ (e : List Taken). FrontKeeps rest rest.slices rest.lane rest.lines rest.latest rest.book rest.subscribers
    halves e) (sym none) kept)

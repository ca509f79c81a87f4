-- The events of an epoch, one after another: the commands before each packet, the packet, and at last the commands that
-- are left. Whoever handles them says what holds behind each.
use Rattle.std.proofs.Common.{◌≡◌, ℕ, ◌+◌, ◌-◌, ◌^◌, ◌<◌, ◌≤◌, List, [], ◌∷◌, ◌++◌, map, min, length, get_or, take, drop, refl, sym, ap, ◌∙◌, subst, arith, append_assoc, append-nil, length-append}
use Rattle.std.specs.Borrow.{Bor}
use Rattle.std.proofs.lemmas.List.{length-map, length-drop, length-take-le, take-append-drop, take-map, drop-map, drop-drop, drop_all, drop_more, take_min, take_rest, drop_min}
use Rattle.std.proofs.lemmas.List.Elements.{filter_map-append}
use Rattle.control_steps.specs.declared.command.CommandKind.{CommandKind}
use Rattle.demux.specs.Packets.{numbered}
use Rattle.gate_model.specs.Events.{commands_of, packets_of}
use Rattle.gate_model.specs.declared.event.Event.{Event}
use Rattle.gate_model.specs.declared.event.Event.TheVariants as event
use Rattle.lawful_run.specs.Accepted.{Placed}
use Rattle.lawful_run.specs.Merging.{CanGo, commands_lent, events_of, merged}
use Rattle.lawful_run.proofs.Counting.{packets-packet}

-- the events in order are as many as commands and packets
pub ordered_length : (done next : ℕ) (commands : List CommandKind) (packets : List Placed)
    → length (merged done next commands packets) ≡ length commands + length packets
ordered_length done next commands [] = length-map commands event.Command ∙ (omega arith)
ordered_length done next commands (p ∷ packets) =
    let k = p.commands - done in
    let prefix : length (map event.Command (take k commands)) ≡ length (take k commands) =
    length-map (take k commands) event.Command in
    let both : length (take k commands) + length (drop k commands) ≡ length commands =
    sym (length-append (take k commands) (drop k commands)) ∙ ap length (take-append-drop k commands) in
    let later = ordered_length p.commands (next + 1) (drop k commands) packets in
    length-append (map event.Command (take k commands))
    (event.Packet (numbered next p.packet) ∷ merged p.commands (next + 1) (drop k commands) packets)
    ∙ omega (arith, prefix, both, later)

-- commands add no packets
no_packets : (commands : List CommandKind) → packets_of (map event.Command commands) ≡ []
no_packets [] = refl
no_packets (c ∷ commands) = no_packets commands

packets_stay : (before now : List Event) (commands : List CommandKind)
    → length (packets_of (before ++ (now ++ map event.Command commands))) ≡ length (packets_of (before ++ now))
packets_stay before now commands =
    let whole : before ++ (now ++ map event.Command commands) ≡ (before ++ now) ++ map event.Command commands =
    sym (append_assoc before now (map event.Command commands)) in
    let parts : packets_of ((before ++ now) ++ map event.Command commands) ≡ packets_of (before ++ now) =
    filter_map-append _ (before ++ now) (map event.Command commands)
    ∙ ap (λ ps. packets_of (before ++ now) ++ ps) (no_packets commands) ∙ append-nil (packets_of (before ++ now)) in
    ap (λ (es : List Event). length (packets_of es)) whole ∙ ap length parts

-- the events so far, of which this holds, and those that are left of all
pub record Goes (Holds : List Event → Type 0) (before all : List Event) (done : ℕ) (left : List CommandKind)
    (packets : List Placed) : Type 0 where
  pub now : List Event
  pub holds : Holds now
  pub rest : now ++ merged done (length (packets_of (before ++ now))) left packets ≡ all

-- at the start
pub goes_start : (Holds : List Event → Type 0) (before : List Event) (done : ℕ) (commands : List CommandKind)
    (packets : List Placed) → done ≡ length (commands_of before) → Holds []
    → Goes Holds before (events_of before commands packets) done commands packets
goes_start Holds before done commands packets is holds = record {
  now = [];
  holds = holds;
  rest = ap (λ n. merged n (length (packets_of (before ++ []))) commands packets) is
      ∙ ap (λ (es : List Event). merged (length (commands_of before)) (length (packets_of es)) commands packets)
      (append-nil before);
}

goes_on : (Old New : List Event → Type 0) (before all : List Event) (number done : ℕ) (left : List CommandKind)
    (p : Placed) (packets : List Placed) → (goes : Goes Old before all done left (p ∷ packets))
    → number ≡ length (packets_of (before ++ (goes.now ++ map event.Command (take (p.commands - done) left))))
    → New ((goes.now ++ map event.Command (take (p.commands - done) left))
    ++ event.Packet (numbered number p.packet) ∷ [])
    → Goes New before all p.commands (drop (p.commands - done) left) packets
goes_on Old New before all number done left p packets goes is holds =
    let k = p.commands - done in
    let prefix : List Event = goes.now ++ map event.Command (take k left) in
    let next : ℕ = length (packets_of (before ++ goes.now)) in
    let same : number ≡ next = is ∙ packets_stay before goes.now (take k left) in
    let e : Event = event.Packet (numbered number p.packet) in
    let more : length (packets_of (before ++ (prefix ++ e ∷ []))) ≡ next + 1 =
    ap (λ (es : List Event). length (packets_of es)) (sym (append_assoc before prefix (e ∷ [])))
    ∙ packets-packet (before ++ prefix) (numbered number p.packet)
    ∙ ap (λ n. n + 1) (packets_stay before goes.now (take k left)) in
    let rest : ℕ → List Event = λ n. merged p.commands n (drop k left) packets in
    record {
      now = prefix ++ e ∷ [];
      holds = holds;
      rest = ap (λ n. (prefix ++ e ∷ []) ++ rest n) more
          ∙ ap (λ n. (prefix ++ event.Packet (numbered n p.packet) ∷ []) ++ rest (next + 1)) same
          ∙ append_assoc prefix (event.Packet (numbered next p.packet) ∷ []) (rest (next + 1))
          ∙ append_assoc goes.now (map event.Command (take k left))
          (event.Packet (numbered next p.packet) ∷ rest (next + 1))
          ∙ goes.rest;
    }

-- how many are left
goes_length : (Holds : List Event → Type 0) (before all : List Event) (done : ℕ) (left : List CommandKind)
    (packets : List Placed) → (goes : Goes Holds before all done left packets)
    → length (before ++ goes.now) + (length left + length packets) ≡ length before + length all
goes_length Holds before all done left packets goes =
    let whole : length goes.now + (length left + length packets) ≡ length all =
    ap (λ n. length goes.now + n) (sym (ordered_length done (length (packets_of (before ++ goes.now))) left packets))
    ∙ sym (length-append goes.now (merged done (length (packets_of (before ++ goes.now))) left packets))
    ∙ ap length goes.rest in
    omega (arith, whole, length-append before goes.now)

both_parts : {X : Type 0} (k : ℕ) (xs : List X) → length (take k xs) + length (drop k xs) ≡ length xs
both_parts k xs = sym (length-append (take k xs) (drop k xs)) ∙ ap length (take-append-drop k xs)

-- The commands from a place on: so many of them, and those behind them.
module _ {X Y : Type 0} (f : X → Y) (xs : List X) (from to k : ℕ) (is : to ≡ from + min k (length xs - from)) where
  as_long : length (drop from (map f xs)) ≡ length xs - from
  as_long = length-drop from (map f xs) ∙ ap (λ n. n - from) (length-map xs f)

  first_part : map f (take (to - from) (drop from xs)) ≡ take k (drop from (map f xs))
  first_part =
      let many : to - from ≡ min k (length (drop from (map f xs))) = omega (arith, is, as_long) in
      sym (take-map f (to - from) (drop from xs)) ∙ ap (take (to - from)) (sym (drop-map f from xs))
      ∙ ap (λ n. take n (drop from (map f xs))) many ∙ take_min k (drop from (map f xs))

  later_part : drop to (map f xs) ≡ drop k (drop from (map f xs))
  later_part =
      let many : to ≡ from + min k (length (drop from (map f xs))) = omega (arith, is, as_long) in
      ap (λ n. drop n (map f xs)) many
      ∙ sym (drop-drop (min k (length (drop from (map f xs)))) from (map f xs))
      ∙ drop_min k (drop from (map f xs))

-- within commands alone
pub command_rises : (Holds : ℕ → List Event → List Event → Type 0) (slot : ℕ) (before now : List Event)
    (commands : List (Bor CommandKind)) (k : ℕ) → k < length commands
    → length (before ++ now) + length commands < 2 ^ 40
    → Holds slot before (now ++ map event.Command (commands_lent (take k commands))) → CanGo Holds 1
command_rises Holds slot before now commands k within few holds =
    let prefix : List Event = map event.Command (commands_lent (take k commands)) in
    let long : length (before ++ (now ++ prefix)) ≡ length (before ++ now) + k =
    ap length (sym (append_assoc before now prefix)) ∙ length-append (before ++ now) prefix
    ∙ ap (λ n. length (before ++ now) + n) (length-map (commands_lent (take k commands)) event.Command
    ∙ length-map (take k commands) (λ (command : Bor CommandKind). command.now)
    ∙ length-take-le k commands (omega (arith, within))) in
    record {
      slot = slot;
      before = before;
      now = now ++ prefix;
      holds = holds;
      few = omega (arith, long, within, few);
    }

-- The packets one after another, and the commands before each: all that commands and packets of an epoch lead to.
module _ {X : Type 0} (placed : X → Placed) (commands : List (Bor CommandKind)) (packets : List X)
    (before : List Event) where
  abbrev all_events : List Event
  all_events = events_of before (commands_lent commands) (map placed packets)

  pub all_counted : length (before ++ events_of before (commands_lent commands) (map placed packets))
      ≡ length before + (length commands + length packets)
  all_counted =
      let counted : length all_events ≡ length (commands_lent commands) + length (map placed packets) =
      ordered_length (length (commands_of before)) (length (packets_of before)) (commands_lent commands)
      (map placed packets) in
      let cs : length (commands_lent commands) ≡ length commands =
      length-map commands (λ (command : Bor CommandKind). command.now) in
      let ps : length (map placed packets) ≡ length packets = length-map packets placed in
      omega (arith, length-append before all_events, counted, cs, ps)

  all_few : length before + (length commands + length packets) < 2 ^ 40 → length before + length all_events < 2 ^ 40
  all_few few = omega (arith, all_counted, few, length-append before all_events)

  next_packet : (index : ℕ) (x : X) → index < length packets → x ≡ get_or packets index x
      → drop index (map placed packets) ≡ placed x ∷ drop (index + 1) (map placed packets)
  next_packet index x within is =
      drop-map placed index packets ∙ ap (map placed) (drop_more packets index x within)
      ∙ ap (λ y. placed y ∷ map placed (drop (index + 1) packets)) (sym is)
      ∙ ap (λ rest. placed x ∷ rest) (sym (drop-map placed (index + 1) packets))

  -- behind so many commands and packets
  abbrev pub GoesAt : (List Event → Type 0) → ℕ → ℕ → ℕ → Type 0
  GoesAt Holds done from index =
      Goes Holds before (events_of before (commands_lent commands) (map placed packets)) done
      (drop from (commands_lent commands)) (drop index (map placed packets))

  at_packet : (Holds : List Event → Type 0) (done from index : ℕ) (x : X) → index < length packets
      → x ≡ get_or packets index x → GoesAt Holds done from index
      → Goes Holds before all_events done (drop from (commands_lent commands))
      (placed x ∷ drop (index + 1) (map placed packets))
  at_packet Holds done from index x within is goes =
      subst (Goes Holds before all_events done (drop from (commands_lent commands))) (next_packet index x within is) goes

  pub part_rises : (Holds : ℕ → List Event → List Event → Type 0) (slot done from to k index : ℕ)
      → length before + (length commands + length packets) < 2 ^ 40 → to ≡ from + min k (length commands - from)
      → GoesAt (Holds slot before) done from index
      → CanGo Holds (length (take (to - from) (drop from commands)))
  part_rises Holds slot done from to k index few is goes =
      let left : List CommandKind = drop from (commands_lent commands) in
      let same : length (take k left) ≡ length (take (to - from) (drop from commands)) =
      ap length (sym (first_part (λ (command : Bor CommandKind). command.now) commands from to k is))
      ∙ length-map (take (to - from) (drop from commands)) (λ (command : Bor CommandKind). command.now) in
      record {
        slot = slot;
        before = before;
        now = goes.now;
        holds = goes.holds;
        few = omega (
          arith,
          goes_length (Holds slot before) before all_events done left (drop index (map placed packets)) goes,
          both_parts k left,
          same,
          all_few few,
        );
      }

  -- the commands before a packet
  abbrev pub BringsPart : (List Event → Type 0) → (List Event → Type 0) → ℕ → ℕ → Type 0
  BringsPart Old Mid from to =
      (now : List Event) → Old now
      → Mid (now ++ map event.Command (commands_lent (take (to - from) (drop from commands))))

  part_brought : (Old Mid : List Event → Type 0) (from to k : ℕ) (now : List Event)
      → to ≡ from + min k (length commands - from) → BringsPart Old Mid from to → Old now
      → Mid (now ++ map event.Command (take k (drop from (commands_lent commands))))
  part_brought Old Mid from to k now is part holds =
      subst (λ (cs : List CommandKind). Mid (now ++ map event.Command cs))
      (first_part (λ (command : Bor CommandKind). command.now) commands from to k is) (part now holds)

  pub packet_rises : (Old : List Event → Type 0) (Mid : ℕ → List Event → List Event → Type 0)
      (slot done from to index : ℕ) (x : X) → length before + (length commands + length packets) < 2 ^ 40
      → to ≡ from + min ((placed x).commands - done) (length commands - from) → index < length packets
      → x ≡ get_or packets index x → GoesAt Old done from index → BringsPart Old (Mid slot before) from to → CanGo Mid 1
  packet_rises Old Mid slot done from to index x few is within item goes part =
      let here = at_packet Old done from index x within item goes in
      let k = (placed x).commands - done in
      let left : List CommandKind = drop from (commands_lent commands) in
      let prefix : List Event = map event.Command (take k left) in
      let long : length (before ++ (here.now ++ prefix)) ≡ length (before ++ here.now) + length (take k left) =
      ap length (sym (append_assoc before here.now prefix)) ∙ length-append (before ++ here.now) prefix
      ∙ ap (λ n. length (before ++ here.now) + n) (length-map (take k left) event.Command) in
      record {
        slot = slot;
        before = before;
        now = here.now ++ prefix;
        holds = part_brought Old (Mid slot before) from to k here.now is part here.holds;
        few = omega (
          arith,
          goes_length Old before all_events done left (placed x ∷ drop (index + 1) (map placed packets)) here,
          both_parts k left,
          long,
          all_few few,
        );
      }

  pub goes_step : (Old Mid New : List Event → Type 0) (number done from to index : ℕ) (x : X)
      → to ≡ from + min ((placed x).commands - done) (length commands - from) → index < length packets
      → x ≡ get_or packets index x → GoesAt Old done from index → BringsPart Old Mid from to
      → ((now : List Event) → Mid now → number ≡ length (packets_of (before ++ now)))
      → ((now : List Event) → Mid now → New (now ++ event.Packet (numbered number (placed x).packet) ∷ []))
      → GoesAt New (placed x).commands to (index + 1)
  goes_step Old Mid New number done from to index x is within item goes part next packet =
      let here = at_packet Old done from index x within item goes in
      let k = (placed x).commands - done in
      let left : List CommandKind = drop from (commands_lent commands) in
      let now : List Event = here.now ++ map event.Command (take k left) in
      let mid : Mid now = part_brought Old Mid from to k here.now is part here.holds in
      subst (λ (rest : List CommandKind). Goes New before all_events (placed x).commands rest
      (drop (index + 1) (map placed packets)))
      (sym (later_part (λ (command : Bor CommandKind). command.now) commands from to k is))
      (goes_on Old New before all_events number done left (placed x) (drop (index + 1) (map placed packets)) here
      (next now mid) (packet now mid))

  -- behind all packets
  no_packet : (Holds : List Event → Type 0) (done from index : ℕ) → length packets ≤ index
      → GoesAt Holds done from index → Goes Holds before all_events done (commands_lent (drop from commands)) []
  no_packet Holds done from index over goes =
      let none : drop index (map placed packets) ≡ [] =
      drop_all index (map placed packets) (omega (arith, length-map packets placed, over)) in
      subst (λ (left : List CommandKind). Goes Holds before all_events done left [])
      (drop-map (λ (command : Bor CommandKind). command.now) from commands)
      (subst (Goes Holds before all_events done (drop from (commands_lent commands))) none goes)

  pub rest_rises : (Holds : ℕ → List Event → List Event → Type 0) (slot done from index : ℕ)
      → length before + (length commands + length packets) < 2 ^ 40 → length packets ≤ index
      → GoesAt (Holds slot before) done from index
      → CanGo Holds (length (take (length commands - from) (drop from commands)))
  rest_rises Holds slot done from index few over goes =
      let last = no_packet (Holds slot before) done from index over goes in
      let same : length (commands_lent (drop from commands))
      ≡ length (take (length commands - from) (drop from commands)) =
      length-map (drop from commands) (λ (command : Bor CommandKind). command.now)
      ∙ ap length (sym (take_rest commands from)) in
      record {
        slot = slot;
        before = before;
        now = last.now;
        holds = last.holds;
        few = omega (
          arith,
          goes_length (Holds slot before) before all_events done (commands_lent (drop from commands)) [] last,
          same,
          all_few few,
        );
      }

  -- the commands that are left end it
  pub goes_over : (Old New : List Event → Type 0) (done from index : ℕ) → length packets ≤ index
      → GoesAt Old done from index → BringsPart Old New from (length commands)
      → New (events_of before (commands_lent commands) (map placed packets))
  goes_over Old New done from index over goes rest =
      let last = no_packet Old done from index over goes in
      subst New last.rest
      (subst (λ (cs : List (Bor CommandKind)). New (last.now ++ map event.Command (commands_lent cs)))
      (take_rest commands from) (rest last.now last.holds))

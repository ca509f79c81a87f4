-- Floors behind a move are no lower than what was accepted before it. So a packet whose commands wait for none behind
-- it has no command before it that was accepted behind its slot's next move.
use Rattle.std.proofs.Common.{◌≡◌, ℕ, zero, suc, ◌+◌, ◌<◌, ◌≤◌, ◌||◌, Bool, true, false, Option, Some, None, List, [], ◌∷◌, ◌++◌, length, take, cond, refl, sym, ap, subst, ◌∙◌, arith, true≢false, append_assoc, append-nil, length-append}
use Rattle.std.specs.List.{cons_option, AllByRecursion}
use Rattle.std.proofs.lemmas.List.Elements.{filter_map-append}
use Rattle.demux.specs.Trace.{Meaning, command, packet, move, note}
use Rattle.lawful_run.specs.Accepted.{accepted_command, accepted_packet, commands_accepted, packets_accepted, command_count, command_for, is_refused}
use Rattle.lawful_run.specs.LinesTold.{LineTold}
use Rattle.lawful_run.specs.Moves.{moves_by, moves, is_moved, before_last_move, before_next_move}
use Rattle.lawful_run.specs.Floors.{command_floor, floor_for, command_floors}

-- moves among more lines
or_true : (test : Bool) → (test || true) ≡ true
or_true true = refl
or_true false = refl

pub is_moved-behind : (slot : ℕ) (before lines : List LineTold) → is_moved slot lines ≡ true
    → is_moved slot (before ++ lines) ≡ true
is_moved-behind slot [] lines moved = moved
is_moved-behind slot (now ∷ before) lines moved =
    ap (λ rest. moves slot now || rest) (is_moved-behind slot before lines moved) ∙ or_true (moves slot now)

is_moved-or : (test : Bool) (prefix back : Bool) → (prefix ≡ true → back ≡ true) → (test || prefix) ≡ true
    → (test || back) ≡ true
is_moved-or true prefix back more moved = refl
is_moved-or false prefix back more moved = more moved

pub is_moved-prefix : (slot : ℕ) (lines more : List LineTold) → is_moved slot lines ≡ true
    → is_moved slot (lines ++ more) ≡ true
is_moved-prefix slot [] more moved = absurd (true≢false (sym moved))
is_moved-prefix slot (now ∷ lines) more moved =
    is_moved-or (moves slot now) (is_moved slot lines) (is_moved slot (lines ++ more))
    (is_moved-prefix slot lines more) moved

pub before_last_move-behind : (slot : ℕ) (before lines : List LineTold) → is_moved slot lines ≡ true
    → before_last_move slot (before ++ lines) ≡ before ++ before_last_move slot lines
before_last_move-behind slot [] lines moved = refl
before_last_move-behind slot (now ∷ before) lines moved =
    ap (λ test. cond test (now ∷ before_last_move slot (before ++ lines)) []) (is_moved-behind slot before lines moved)
    ∙ ap (λ rest. now ∷ rest) (before_last_move-behind slot before lines moved)

pub packets_accepted-append : (slot : ℕ) (lines more : List LineTold)
    → length (packets_accepted slot (lines ++ more))
    ≡ length (packets_accepted slot lines) + length (packets_accepted slot more)
packets_accepted-append slot lines more =
    ap length (filter_map-append (accepted_packet slot) lines more)
    ∙ length-append (packets_accepted slot lines) (packets_accepted slot more)

pub command_count-append : (slot : ℕ) (lines more : List LineTold)
    → command_count slot (lines ++ more) ≡ command_count slot lines + command_count slot more
command_count-append slot lines more =
    ap length (filter_map-append (accepted_command slot) lines more)
    ∙ length-append (commands_accepted slot lines) (commands_accepted slot more)

-- what holds of a floor and of others holds of all
all_with : {X : Type 0} (P : ℕ → Type 0) (own : Option X) (floor : ℕ) (floors : List ℕ) → P floor
    → AllByRecursion P floors → AllByRecursion P (cons_option (floor_for own floor) floors)
all_with P None floor floors here rest = rest
all_with P (Some x) floor floors here rest = (here, rest)

-- commands behind a move of their slot wait for all packets before it
pub late_floors : (slot packets : ℕ) (prefix middle later : List LineTold) → is_moved slot middle ≡ true
    → AllByRecursion (λ floor. packets + length (packets_accepted slot prefix) ≤ floor)
    (command_floors slot packets (prefix ++ middle) later)
late_floors slot packets prefix middle [] moved = tt
late_floors slot packets prefix middle (now ∷ later) moved =
    let parts = packets_accepted-append slot prefix (before_last_move slot middle) in
    let before = ap (λ lines. length (packets_accepted slot lines)) (before_last_move-behind slot prefix middle moved) in
    let here : packets + length (packets_accepted slot prefix) ≤ command_floor slot packets (prefix ++ middle) =
    omega (arith, parts, before) in
    let rest = late_floors slot packets prefix (middle ++ now ∷ []) later (is_moved-prefix slot middle (now ∷ []) moved) in
    all_with (λ floor. packets + length (packets_accepted slot prefix) ≤ floor) (accepted_command slot now)
    (command_floor slot packets (prefix ++ middle)) (command_floors slot packets ((prefix ++ middle) ++ now ∷ []) later)
    here
    (subst (λ lines. AllByRecursion (λ floor. packets + length (packets_accepted slot prefix) ≤ floor)
    (command_floors slot packets lines later)) (sym (append_assoc prefix middle (now ∷ []))) rest)

-- floors of lines one behind the other
pub cons_option-append : {X : Type 0} (own : Option X) (xs ys : List X)
    → cons_option own (xs ++ ys) ≡ cons_option own xs ++ ys
cons_option-append None xs ys = refl
cons_option-append (Some x) xs ys = refl

pub command_floors-append : (slot packets : ℕ) (before lines more : List LineTold)
    → command_floors slot packets before (lines ++ more)
    ≡ command_floors slot packets before lines ++ command_floors slot packets (before ++ lines) more
command_floors-append slot packets before [] more =
    ap (λ lines. command_floors slot packets lines more) (sym (append-nil before))
command_floors-append slot packets before (now ∷ lines) more =
    let own = floor_for (accepted_command slot now) (command_floor slot packets before) in
    ap (cons_option own) (command_floors-append slot packets (before ++ now ∷ []) lines more
    ∙ ap (λ prefix. command_floors slot packets (before ++ now ∷ []) lines ++ command_floors slot packets prefix more)
    (append_assoc before (now ∷ []) lines))
    ∙ cons_option-append own (command_floors slot packets (before ++ now ∷ []) lines)
    (command_floors slot packets (before ++ now ∷ lines) more)

length-floor : {X : Type 0} (own : Option X) (floor : ℕ) (floors : List ℕ) (xs : List X) → length floors ≡ length xs
    → length (cons_option (floor_for own floor) floors) ≡ length (cons_option own xs)
length-floor None floor floors xs same = same
length-floor (Some x) floor floors xs same = omega (arith, same)

pub length-command_floors : (slot packets : ℕ) (before lines : List LineTold)
    → length (command_floors slot packets before lines) ≡ command_count slot lines
length-command_floors slot packets before [] = refl
length-command_floors slot packets before (now ∷ lines) =
    length-floor (accepted_command slot now) (command_floor slot packets before)
    (command_floors slot packets (before ++ now ∷ []) lines) (commands_accepted slot lines)
    (length-command_floors slot packets (before ++ now ∷ []) lines)

-- the first numbers that aren't above one end where those that are begin
none_of_late : (early late : List ℕ) (n number least : ℕ)
    → n ≤ length (early ++ late)
    → AllByRecursion (λ floor. floor ≤ number) (take n (early ++ late))
    → AllByRecursion (λ floor. least ≤ floor) late
    → number < least
    → n ≤ length early
none_of_late [] late zero number least within some above below = omega arith
none_of_late [] [] (suc n) number least within some above below = within
none_of_late [] (floor ∷ late) (suc n) number least within some above below =
    let low = some.0 in
    let high = above.0 in
    absurd (omega (arith, low, high, below))
none_of_late (floor ∷ early) late zero number least within some above below = omega arith
none_of_late (floor ∷ early) late (suc n) number least within some above below =
    let rest = none_of_late early late n number least (omega (arith, within)) some.1 above below in
    omega (arith, rest)

-- a move brings no command
no_command : (slot : ℕ) (meaning : Meaning) → moves_by slot meaning ≡ true → command_for slot meaning ≡ None
no_command slot (command own c) moved = absurd (true≢false (sym moved))
no_command slot (packet own p) moved = refl
no_command slot (move own slice text) moved = refl
no_command slot (note text) moved = refl

none_either : {X : Type 0} (test : Bool) (own : Option X) → own ≡ None → cond test None own ≡ None
none_either true own none = refl
none_either false own none = none

pub move_alone : (slot : ℕ) (now : LineTold) → moves slot now ≡ true → accepted_command slot now ≡ None
move_alone slot now moved =
    none_either (is_refused now.entry) (command_for slot now.meaning) (no_command slot now.meaning moved)

-- A packet with a number among those accepted so far, whose commands wait for no later one, has no command behind its
-- slot's next move before it. Lines before are a prefix, whose packets count, and others behind it.
ceiling_by : (test : Bool) (slot packets number n : ℕ) (prefix middle : List LineTold) (now : LineTold)
    (later : List LineTold)
    → moves slot now ≡ test
    → n ≤ length (command_floors slot packets [] ((prefix ++ middle) ++ now ∷ later))
    → AllByRecursion (λ floor. floor ≤ number)
    (take n (command_floors slot packets [] ((prefix ++ middle) ++ now ∷ later)))
    → number < packets + length (packets_accepted slot prefix)
    → n ≤ command_count slot (((prefix ++ middle) ++ now ∷ []) ++ before_next_move slot later)
    → n ≤ command_count slot ((prefix ++ middle) ++ cond test [] (now ∷ before_next_move slot later))
ceiling_by false slot packets number n prefix middle now later is within some below bound =
    subst (λ lines. n ≤ command_count slot lines)
    (append_assoc (prefix ++ middle) (now ∷ []) (before_next_move slot later)) bound
ceiling_by true slot packets number n prefix middle now later is within some below others =
    let early = command_floors slot packets [] (prefix ++ middle) in
    let late = command_floors slot packets (prefix ++ middle) (now ∷ later) in
    let parts = command_floors-append slot packets [] (prefix ++ middle) (now ∷ later) in
    let only : late ≡ command_floors slot packets ((prefix ++ middle) ++ now ∷ []) later =
    ap (λ own. cons_option (floor_for own (command_floor slot packets (prefix ++ middle)))
    (command_floors slot packets ((prefix ++ middle) ++ now ∷ []) later)) (move_alone slot now is) in
    let moved : is_moved slot (middle ++ now ∷ []) ≡ true =
    is_moved-behind slot middle (now ∷ []) (ap (λ test. test || false) is) in
    let above = subst (AllByRecursion (λ floor. packets + length (packets_accepted slot prefix) ≤ floor))
    (ap (λ lines. command_floors slot packets lines later) (sym (append_assoc prefix middle (now ∷ []))) ∙ sym only)
    (late_floors slot packets prefix (middle ++ now ∷ []) later moved) in
    let bound = none_of_late early late n number (packets + length (packets_accepted slot prefix))
    (subst (λ floors. n ≤ length floors) parts within)
    (subst (λ floors. AllByRecursion (λ floor. floor ≤ number) (take n floors)) parts some) above below in
    let count = length-command_floors slot packets [] (prefix ++ middle) in
    let ends = ap (command_count slot) (append-nil (prefix ++ middle)) in
    omega (arith, bound, count, ends)

ceiling_from : (slot packets number n : ℕ) (prefix middle later : List LineTold)
    → n ≤ length (command_floors slot packets [] ((prefix ++ middle) ++ later))
    → AllByRecursion (λ floor. floor ≤ number) (take n (command_floors slot packets [] ((prefix ++ middle) ++ later)))
    → number < packets + length (packets_accepted slot prefix)
    → n ≤ command_count slot ((prefix ++ middle) ++ before_next_move slot later)
ceiling_from slot packets number n prefix middle [] within some below =
    let count = length-command_floors slot packets [] ((prefix ++ middle) ++ []) in omega (arith, within, count)
ceiling_from slot packets number n prefix middle (now ∷ later) within some below =
    let regroup : (prefix ++ middle) ++ now ∷ later ≡ (prefix ++ (middle ++ now ∷ [])) ++ later =
    sym (append_assoc (prefix ++ middle) (now ∷ []) later)
    ∙ ap (λ lines. lines ++ later) (append_assoc prefix middle (now ∷ [])) in
    let rest = ceiling_from slot packets number n prefix (middle ++ now ∷ []) later
    (subst (λ lines. n ≤ length (command_floors slot packets [] lines)) regroup within)
    (subst (λ lines. AllByRecursion (λ floor. floor ≤ number) (take n (command_floors slot packets [] lines))) regroup
    some) below in
    let bound : n ≤ command_count slot (((prefix ++ middle) ++ now ∷ []) ++ before_next_move slot later) =
    subst (λ lines. n ≤ command_count slot (lines ++ before_next_move slot later))
    (sym (append_assoc prefix middle (now ∷ []))) rest in
    ceiling_by (moves slot now) slot packets number n prefix middle now later refl within some below bound

-- at a packet's line
pub ceiling_holds : (slot packets number n : ℕ) (prefix : List LineTold) (now : LineTold) (later : List LineTold)
    → accepted_command slot now ≡ None
    → number < packets + length (packets_accepted slot (prefix ++ now ∷ []))
    → n ≤ length (command_floors slot packets [] (prefix ++ now ∷ later))
    → AllByRecursion (λ floor. floor ≤ number) (take n (command_floors slot packets [] (prefix ++ now ∷ later)))
    → n ≤ command_count slot (prefix ++ before_next_move slot later)
ceiling_holds slot packets number n prefix now later none below within some =
    let regroup : prefix ++ now ∷ later ≡ ((prefix ++ now ∷ []) ++ []) ++ later =
    sym (append_assoc prefix (now ∷ []) later)
    ∙ ap (λ lines. lines ++ later) (sym (append-nil (prefix ++ now ∷ []))) in
    let bound = ceiling_from slot packets number n (prefix ++ now ∷ []) [] later
    (subst (λ lines. n ≤ length (command_floors slot packets [] lines)) regroup within)
    (subst (λ lines. AllByRecursion (λ floor. floor ≤ number) (take n (command_floors slot packets [] lines))) regroup
    some) below in
    let whole = command_count-append slot ((prefix ++ now ∷ []) ++ []) (before_next_move slot later) in
    let prefix_now = ap (command_count slot) (append-nil (prefix ++ now ∷ [])) in
    let two = command_count-append slot prefix (now ∷ []) in
    let alone : command_count slot (now ∷ []) ≡ 0 = ap (λ own. length (cons_option own [])) none in
    let parts = command_count-append slot prefix (before_next_move slot later) in
    omega (arith, bound, whole, prefix_now, two, alone, parts)

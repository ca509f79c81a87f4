-- The numbers of a job are in the ranges of its options.
use Rattle.std.proofs.Common.{◌≡◌, ◌*◌, ◌<◌, ◌≤◌, ◌&&◌, ℕ, suc, ap, arith, All, length, Bool, true, false, cond, refl, sym, subst, IsTrue, List, [], ◌∷◌, Option, Some, None, IfSome, find, nat_le, leb-true, option_and_then, option_map, codes, lit≤}
use Rattle.std.proofs.lemmas.List.Elements.{All-cons, All-nil, All-weaker}
use Rattle.std.specs.Option.{option_map_or}
use Rattle.std.specs.Str.Parse.{digits_value}
use Rattle.text_fields.specs.Fields.{pieces}
use Rattle.text_fields.specs.Number.{is_decimal, number_in}
use Rattle.command_words.specs.Job.{Command, IsInRange, LanesInRange, TurnsInRange, audit_job, audit_of, balance_job, commands, drive_job, has_number, job_of, lanes_audit, lanes_by, lanes_of, make_job, number_of, number_or, replay_job, solo_audit, solo_lanes, turns_of}
use Rattle.command_words.specs.Options.{Given, given_once, has_flag, value_of}
use Rattle.command_words.specs.Turns.{comma, last_worker, most_turns, numbers_in, turns_asked, turns_in}
use Rattle.command_words.specs.Words.{Text}
use Rattle.command_words.specs.declared.jobs.Lanes.{Lanes}
use Rattle.command_words.specs.declared.turns.AskedTurns.{AskedTurns}
use Rattle.command_words.specs.declared.turns.AskedTurns.TheVariants as asked
use Rattle.command_words.specs.declared.jobs.Job.{Job}
use Rattle.command_words.specs.declared.jobs.Job.TheVariants as job
use Rattle.command_words.proofs.Emptiness.{both}
use Rattle.command_words.proofs.Parsed.{named_so}

abbrev the_lanes : ℕ → ℕ → ℕ → Lanes
the_lanes slices room lane = record { slices = slices; room = room; lane = lane }

abbrev IsWithin : ℕ → ℕ → ℕ → Type 0
IsWithin least last n = (least ≤ n) × (n ≤ last)

passes_within : (least last value n : ℕ) (is_number b : Bool)
    → (is_number && (nat_le least value && nat_le value last)) ≡ b
    → cond b (Some value) None ≡ Some n → IsWithin least last n
passes_within least last value n is_number false passes e = absurd (cc)
passes_within least last value n is_number true passes e =
    let ends = both (nat_le least value) (nat_le value last) (both is_number (nat_le least value && nat_le value last)
    passes).1 in
    let same : value ≡ n = cc in
    subst (IsWithin least last) same (leb-true least value ends.0, leb-true value last ends.1)

text_within : (least last : ℕ) (text : Text) (n : ℕ) → number_in least last text ≡ Some n → IsWithin least last n
text_within least last text n is = passes_within least last (digits_value 10 text) n (is_decimal text) _ refl is

number_within : (name : Text) (least last default : ℕ) (given : List Given) (n : ℕ) → IsWithin least last default
    → number_of name least last default given ≡ Some n
    → IsWithin least last n
number_within name least last default given n own is = go (value_of name given) is
  where
    go : (o : Option Text) → option_map_or (number_in least last) o (Some default) ≡ Some n → IsWithin least last n
    go None e = let same : default ≡ n = cc in subst (IsWithin least last) same own
    go (Some text) e = text_within least last text n e

-- a command's jobs are in their ranges
abbrev Keeps : Command → Type 0
Keeps command = (given : List Given) (asked : Job) → command.job given ≡ Some asked → IsInRange asked

make_keeps : (given : List Given) (asked : Job) → make_job given ≡ Some asked → IsInRange asked
make_keeps given asked is =
    go (number_of (codes "seed") 0 18446744073709551615 1 given) (number_of (codes "subs") 1 65533 10 given)
    (number_of (codes "lines") 0 100000 1000 given)
    (λ n e. number_within (codes "subs") 1 65533 10 given n (lit≤ tt, lit≤ tt) e)
    (λ n e. number_within (codes "lines") 0 100000 1000 given n (lit≤ tt, lit≤ tt) e) is
  where
    go : (seed subs lines : Option ℕ) → ((n : ℕ) → subs ≡ Some n → IsWithin 1 65533 n)
        → ((n : ℕ) → lines ≡ Some n → IsWithin 0 100000 n)
        → option_and_then (λ s. option_and_then
        (λ m. option_map (λ l. job.Make s m l (has_flag (codes "summary") given)) lines) subs) seed ≡ Some asked
        → IsInRange asked
    go None subs lines some few e = absurd (cc)
    go (Some s) None lines some few e = absurd (cc)
    go (Some s) (Some m) None some few e = absurd (cc)
    go (Some s) (Some m) (Some l) some few e =
        let same : job.Make s m l (has_flag (codes "summary") given) ≡ asked = cc in
        subst IsInRange same ((some m refl).0, (some m refl).1, (few l refl).1)

-- an audit keeps the ranges of its lanes, whether it goes along or not
audit_within : (given : List Given) (solo : Bool) (lanes : Lanes) → LanesInRange lanes → (IsTrue solo → lanes.slices ≡ 64)
    → IsInRange (audit_of given solo lanes)
audit_within given solo lanes range alone = go (has_flag (codes "along") given)
  where
    go : (along : Bool) → IsInRange (cond along
        (job.Along solo lanes.slices lanes.room lanes.lane (has_flag (codes "why") given))
        (job.Audit solo lanes.slices lanes.room lanes.lane (has_flag (codes "why") given)))
    go true = (range.0, range.1, alone, range.2, range.3, range.4, range.5)
    go false = (range.0, range.1, alone, range.2, range.3, range.4, range.5)

solo_keeps : (given : List Given) (asked : Job) → solo_audit given ≡ Some asked → IsInRange asked
solo_keeps given asked is = go (has_number given) is
  where
    go : (numbered : Bool) → cond numbered None (Some (audit_of given true solo_lanes)) ≡ Some asked → IsInRange asked
    go true e = absurd (cc)
    go false e =
        let same : audit_of given true solo_lanes ≡ asked = cc in
        subst IsInRange same (audit_within given true solo_lanes
        (lit≤ tt, lit≤ tt, lit≤ tt, lit≤ tt, lit≤ tt, lit≤ tt) (λ yes. refl))

number_or_within : (least last default : ℕ) (text : Option Text) (n : ℕ) → IsWithin least last default
    → number_or least last default text ≡ Some n → IsWithin least last n
number_or_within least last default None n own e = let same : default ≡ n = cc in subst (IsWithin least last) same own
number_or_within least last default (Some text) n own e = text_within least last text n e

pub lanes_within : (slices room lane : Option Text) (lanes : Lanes) → lanes_by slices room lane ≡ Some lanes
    → LanesInRange lanes
lanes_within slices room lane lanes is =
    go (number_or 1 64 2 slices) (number_or 1 256 64 room) (number_or 1 16384 1024 lane)
    (λ n e. number_or_within 1 64 2 slices n (lit≤ tt, lit≤ tt) e)
    (λ n e. number_or_within 1 256 64 room n (lit≤ tt, lit≤ tt) e)
    (λ n e. number_or_within 1 16384 1024 lane n (lit≤ tt, lit≤ tt) e) is
  where
    go : (s r l : Option ℕ) → ((n : ℕ) → s ≡ Some n → IsWithin 1 64 n) → ((n : ℕ) → r ≡ Some n → IsWithin 1 256 n)
        → ((n : ℕ) → l ≡ Some n → IsWithin 1 16384 n)
        → option_and_then (λ s. option_and_then (λ r. option_map (λ l. the_lanes s r l) l) r) s ≡ Some lanes
        → LanesInRange lanes
    go None r l few small short e = absurd (cc)
    go (Some s) None l few small short e = absurd (cc)
    go (Some s) (Some r) None few small short e = absurd (cc)
    go (Some s) (Some r) (Some l) few small short e =
        let same : the_lanes s r l ≡ lanes = cc in
        subst LanesInRange same ((few s refl).0, (few s refl).1, (small r refl).0, (small r refl).1, (short l refl).0, (short l refl).1)

lanes_keep : (given : List Given) (asked : Job) → lanes_audit given ≡ Some asked → IsInRange asked
lanes_keep given asked is = go (lanes_of given) refl is
  where
    go : (found : Option Lanes) → lanes_of given ≡ found
        → option_map (audit_of given false) found ≡ Some asked → IsInRange asked
    go None known e = absurd (cc)
    go (Some lanes) known e =
        let range = lanes_within (value_of (codes "slices") given) (value_of (codes "room") given)
        (value_of (codes "lane") given) lanes known in
        let same : audit_of given false lanes ≡ asked = cc in
        subst IsInRange same (audit_within given false lanes range (λ is. absurd (cc)))

-- ---- turns

-- so many numbers, none above the last
record AreNumbers (last many : ℕ) (turns : List ℕ) : Type 0 where
  pub counted : length turns ≡ many
  pub low : All (λ turn. turn ≤ last) turns

numbers_are : (last : ℕ) (texts : List Text) (turns : List ℕ) → numbers_in last texts ≡ Some turns
    → AreNumbers last (length texts) turns
numbers_are last [] turns is = let same : [] ≡ turns = cc in subst (AreNumbers last 0) same (record { counted = refl; low = All-nil (λ turn. turn ≤ last) })
numbers_are last (text ∷ texts) turns is =
    go (number_in 0 last text) (numbers_in last texts) refl (numbers_are last texts) is
  where
    go : (first : Option ℕ) (more : Option (List ℕ)) → number_in 0 last text ≡ first
        → ((turns : List ℕ) → more ≡ Some turns → AreNumbers last (length texts) turns)
        → option_and_then (λ number. option_map (λ more. number ∷ more) more) first ≡ Some turns
        → AreNumbers last (length (text ∷ texts)) turns
    go None more first_is more_are e = absurd (cc)
    go (Some number) None first_is more_are e = absurd (cc)
    go (Some number) (Some more) first_is more_are e =
        let same : number ∷ more ≡ turns = cc in
        let others = more_are more refl in
        subst (AreNumbers last (length (text ∷ texts))) same (record {
          counted = ap suc others.counted;
          low = All-cons (λ turn. turn ≤ last) number more (text_within 0 last text number first_is).1 others.low;
        })

below_twice : (slices : ℕ) (turns : List ℕ) → 1 ≤ slices → All (λ turn. turn ≤ last_worker slices) turns
    → All (λ turn. turn < 2 * slices) turns
below_twice slices turns some =
    All-weaker (λ turn. turn ≤ last_worker slices) (λ turn. turn < 2 * slices) (λ turn low. omega arith) turns

listed_range : (slices : ℕ) (text : Text) (turns : List ℕ) → 1 ≤ slices → turns_in (last_worker slices) text ≡ Some turns
    → TurnsInRange slices (asked.Listed turns)
listed_range slices text turns some is = go (nat_le (length (pieces comma text)) most_turns) refl is
  where
    go : (few : Bool) → nat_le (length (pieces comma text)) most_turns ≡ few
        → cond few (numbers_in (last_worker slices) (pieces comma text)) None ≡ Some turns
        → TurnsInRange slices (asked.Listed turns)
    go false few e = absurd (cc)
    go true few e =
        let are = numbers_are (last_worker slices) (pieces comma text) turns e in
        let most : length (pieces comma text) ≤ 1024 = leb-true (length (pieces comma text)) 1024 few in
        let many : length turns ≡ length (pieces comma text) = are.counted in
        (omega arith, below_twice slices turns some are.low)

turns_range : (slices : ℕ) (turns seed per : Option Text) (found : AskedTurns) → 1 ≤ slices
    → turns_asked slices turns seed per ≡ Some found → TurnsInRange slices found
turns_range slices None None None found some is =
    let same : asked.NoTurns ≡ found = cc in subst (TurnsInRange slices) same tt
turns_range slices None None (Some per) found some is = absurd (cc)
turns_range slices None (Some seed) None found some is = absurd (cc)
turns_range slices None (Some seed) (Some per) found some is =
    go (number_in 0 18446744073709551615 seed) (number_in 0 64 per) (λ n e. text_within 0 64 per n e) is
  where
    go : (from each : Option ℕ) → ((n : ℕ) → each ≡ Some n → IsWithin 0 64 n)
        → option_and_then (λ from. option_map (λ each. asked.Drawn from each) each) from ≡ Some found
        → TurnsInRange slices found
    go None each few e = absurd (cc)
    go (Some from) None few e = absurd (cc)
    go (Some from) (Some each) few e =
        let same : asked.Drawn from each ≡ found = cc in subst (TurnsInRange slices) same (few each refl).1
turns_range slices (Some turns) None None found some is = go (turns_in (last_worker slices) turns) refl is
  where
    go : (listed : Option (List ℕ)) → turns_in (last_worker slices) turns ≡ listed
        → option_map asked.Listed listed ≡ Some found → TurnsInRange slices found
    go None known e = absurd (cc)
    go (Some list) known e =
        let same : asked.Listed list ≡ found = cc in
        subst (TurnsInRange slices) same (listed_range slices turns list some known)
turns_range slices (Some turns) None (Some per) found some is = absurd (cc)
turns_range slices (Some turns) (Some seed) None found some is = absurd (cc)
turns_range slices (Some turns) (Some seed) (Some per) found some is = absurd (cc)

drive_keeps : (given : List Given) (asked : Job) → drive_job given ≡ Some asked → IsInRange asked
drive_keeps given asked is = go (lanes_of given) refl is
  where
    by_turns : (lanes : Lanes) (turns : Option AskedTurns) → LanesInRange lanes → turns_of lanes.slices given ≡ turns
        → option_map (λ turns. job.Drive lanes turns (has_flag (codes "places") given)) turns ≡ Some asked
        → IsInRange asked
    by_turns lanes None range known e = absurd (cc)
    by_turns lanes (Some turns) range known e =
        let same : job.Drive lanes turns (has_flag (codes "places") given) ≡ asked = cc in
        subst IsInRange same (
          range,
          turns_range lanes.slices (value_of (codes "turns") given)
              (value_of (codes "seed") given) (value_of (codes "per") given) turns range.0 known,
        )

    go : (found : Option Lanes) → lanes_of given ≡ found
        → option_and_then (λ (lanes : Lanes). option_map (λ turns. job.Drive lanes turns (has_flag (codes "places") given))
        (turns_of lanes.slices given)) found ≡ Some asked → IsInRange asked
    go None known e = absurd (cc)
    go (Some lanes) known e =
        by_turns lanes (turns_of lanes.slices given) (lanes_within (value_of (codes "slices") given)
        (value_of (codes "room") given) (value_of (codes "lane") given) lanes known) refl e

replay_keeps : (given : List Given) (asked : Job) → replay_job given ≡ Some asked → IsInRange asked
replay_keeps given asked is =
    go (lanes_of given) (number_of (codes "patience") 0 1000000 10000 given)
    (number_of (codes "linger") 0 1000000 1000 given)
    (λ lanes e. lanes_within (value_of (codes "slices") given) (value_of (codes "room") given)
    (value_of (codes "lane") given) lanes e)
    (λ n e. number_within (codes "patience") 0 1000000 10000 given n (lit≤ tt, lit≤ tt) e)
    (λ n e. number_within (codes "linger") 0 1000000 1000 given n (lit≤ tt, lit≤ tt) e) is
  where
    go : (found : Option Lanes) (patience linger : Option ℕ)
        → ((lanes : Lanes) → found ≡ Some lanes → LanesInRange lanes)
        → ((n : ℕ) → patience ≡ Some n → IsWithin 0 1000000 n)
        → ((n : ℕ) → linger ≡ Some n → IsWithin 0 1000000 n)
        → option_and_then (λ (lanes : Lanes). option_and_then (λ p. option_map (λ l.
        job.Replay lanes p l (has_flag (codes "places") given)) linger) patience) found ≡ Some asked → IsInRange asked
    go None patience linger range patient lingers e = absurd (cc)
    go (Some lanes) None linger range patient lingers e = absurd (cc)
    go (Some lanes) (Some p) None range patient lingers e = absurd (cc)
    go (Some lanes) (Some p) (Some l) range patient lingers e =
        let same : job.Replay lanes p l (has_flag (codes "places") given) ≡ asked = cc in
        subst IsInRange same (range lanes refl, (patient p refl).1, (lingers l refl).1)

audit_keeps : (given : List Given) (asked : Job) → audit_job given ≡ Some asked → IsInRange asked
audit_keeps given asked is = go (has_flag (codes "solo") given) is
  where
    go : (solo : Bool) → cond solo (solo_audit given) (lanes_audit given) ≡ Some asked → IsInRange asked
    go true e = solo_keeps given asked e
    go false e = lanes_keep given asked e

balance_keeps : (given : List Given) (asked : Job) → balance_job given ≡ Some asked → IsInRange asked
balance_keeps given asked is =
    go (number_of (codes "slices") 1 64 2 given) (number_of (codes "most") 1 16 4 given)
    (λ n e. number_within (codes "slices") 1 64 2 given n (lit≤ tt, lit≤ tt) e)
    (λ n e. number_within (codes "most") 1 16 4 given n (lit≤ tt, lit≤ tt) e) is
  where
    go : (slices most : Option ℕ) → ((n : ℕ) → slices ≡ Some n → IsWithin 1 64 n)
        → ((n : ℕ) → most ≡ Some n → IsWithin 1 16 n)
        → option_and_then (λ s. option_map (λ m. job.Balance s m) most) slices ≡ Some asked → IsInRange asked
    go None most few small e = absurd (cc)
    go (Some s) None few small e = absurd (cc)
    go (Some s) (Some m) few small e =
        let same : job.Balance s m ≡ asked = cc in
        subst IsInRange same ((few s refl).0, (few s refl).1, (small m refl).0, (small m refl).1)

abbrev AllKeep : List Command → Type 0
AllKeep [] = Unit {0}
AllKeep (command ∷ rest) = Keeps command × AllKeep rest

bare_keeps : (is : Job) → IsInRange is → (given : List Given) (asked : Job) → Some is ≡ Some asked → IsInRange asked
bare_keeps is range given asked e = let same : is ≡ asked = cc in subst IsInRange same range

all_keep : AllKeep commands
all_keep = (
  bare_keeps job.Solo tt,
  (
    drive_keeps,
    (
      replay_keeps,
      (
        make_keeps,
        (
          bare_keeps job.Import tt,
          (
            bare_keeps job.Export tt,
            (audit_keeps, (balance_keeps, (bare_keeps job.Save tt, (bare_keeps job.Resume tt, tt)))),
          ),
        ),
      ),
    ),
  ),
)

found_keeps : (of : List Command) (word : Text) (command : Command) → AllKeep of
    → find (named_so word) of ≡ Some command → Keeps command
found_keeps [] word command all e = absurd (cc)
found_keeps (first ∷ rest) word command all e = go (named_so word first) (found_keeps rest word command all.1) e
  where
    go : (b : Bool) → (find (named_so word) rest ≡ Some command → Keeps command)
        → cond b (Some first) (find (named_so word) rest) ≡ Some command → Keeps command
    go true more is = let same : first ≡ command = cc in subst Keeps same all.0
    go false more is = more is

pub job_in_range : (words : List Text) (asked : Job) → job_of words ≡ Some asked → IsInRange asked
job_in_range [] asked is = absurd (cc)
job_in_range (word ∷ rest) asked is = go (find (named_so word) commands) refl is
  where
    by_given : (command : Command) → Keeps command → (given : Option (List Given))
        → option_and_then (λ (asking : Command × List Given). asking.0.job asking.1)
        (option_map (λ g. (command, g)) given) ≡ Some asked → IsInRange asked
    by_given command keeps None e = absurd (cc)
    by_given command keeps (Some given) e = keeps given asked e

    go : (found : Option Command) → find (named_so word) commands ≡ found
        → option_and_then (λ (asking : Command × List Given). asking.0.job asking.1)
        (option_and_then (λ (command : Command). option_map (λ given. (command, given)) (given_once command.forms rest))
        found) ≡ Some asked → IsInRange asked
    go None known e = absurd (cc)
    go (Some command) known e = by_given command (found_keeps commands word command all_keep known)
        (given_once command.forms rest) e

pub job_ranges : (words : List Text) (asked : Option Job) → asked ≡ job_of words → IfSome asked IsInRange
job_ranges words None is = tt
job_ranges words (Some asked) is = job_in_range words asked (sym is)

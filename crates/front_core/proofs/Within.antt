-- Each command and packet that was taken is of a slot that a line brought something of.
use Rattle.std.proofs.Common.{◌≡◌, ℕ, ◌+◌, ◌==◌, ◌≤◌, Bool, if◌then◌else◌, List, [], ◌∷◌, length, sym, ap, subst, ◌∙◌, inl, inr, arith}
use Rattle.std.specs.Prelude.{Option, Some, None, All}
use Rattle.std.specs.List.{cons_option}
use Rattle.std.specs.Option.{option_map}
use Rattle.std.proofs.lemmas.Bool.{cases_lt, eq-eqb}
use Rattle.std.proofs.lemmas.List.{get_or_past}
use Rattle.std.proofs.lemmas.List.Elements.{All-cons, All-nil}
use Rattle.control_steps.specs.declared.command.CommandKind.{CommandKind}
use Rattle.demux.specs.Trace.{Meaning, command, packet, move, note}
use Rattle.demux.specs.declared.packet.LentPacket.{LentPacket}
use Rattle.lawful_run.specs.Accepted.{Placed, commands_accepted, packets_accepted}
use Rattle.lawful_run.specs.Answers.{Answers, AnswersAll}
use Rattle.lawful_run.specs.LinesTold.{LineTold, lines_told}
use Rattle.lawful_run.specs.Trace.{meant_from}
use Rattle.subscriber.specs.Standing.{SubscriberState}
use Rattle.at_rest.specs.Rest.{Rest}
use Rattle.front_core.specs.Kept.{EndsTold, OwnTold, new_ends}
use Rattle.front_core.specs.declared.halves.Halves.{Halves}
use Rattle.front_core.specs.declared.lot.Lot.{Lot}
use Rattle.front_core.specs.Lots.{lot_of}
use Rattle.front_core.specs.Views.{own_of, view_at}
use Rattle.front_core.specs.declared.taken.OpenEntry.{OpenEntry}
use Rattle.front_core.specs.declared.taken.OpenEntry.TheVariants as entry
use Rattle.front_core.specs.declared.taken.Taken.{Taken}
use Rattle.front_core.specs.Entries.{lines_of, open_of, opens_of}
use Rattle.front_core.specs.Keeping.{FrontKeeps}
use Rattle.front_core.specs.Filled.{IsWithin}
use Rattle.front_core.proofs.Resting.{none_mapped}

-- nothing was accepted of slots from this number on
abbrev NoneFrom : ℕ → List LineTold → Type 0
NoneFrom slots told = (slot : ℕ) → slots ≤ slot
    → (commands_accepted slot told ≡ []) × (packets_accepted slot told ≡ [])

not_none : {X : Type 0} (x : X) (xs : List X) → x ∷ xs ≡ [] → {Y : Type 0} → Y
not_none x xs none = absurd (let count : length (x ∷ xs) ≡ 0 = ap length none in omega (arith, count))

none_behind : {X : Type 0} (first : Option X) (xs : List X) → cons_option first xs ≡ [] → xs ≡ []
none_behind None xs none = none
none_behind (Some x) xs none = not_none x xs none

-- a command or packet of such a slot would have been
some_command : (slot own : ℕ) (c : CommandKind) (rest : List CommandKind) → own ≡ slot
    → cons_option (if own == slot then Some c else None) rest ≡ c ∷ rest
some_command slot own c rest same =
    ap (λ (t : Bool). cons_option (if t then Some c else None) rest) (eq-eqb own slot same)

some_packet : (slot own : ℕ) (p : LentPacket) (place : LentPacket → Placed) (rest : List Placed) → own ≡ slot
    → cons_option (option_map place (if own == slot then Some p else None)) rest ≡ place p ∷ rest
some_packet slot own p place rest same =
    ap (λ (t : Bool). cons_option (option_map place (if t then Some p else None)) rest) (eq-eqb own slot same)

within_open : (n slots : ℕ) (open_ : OpenEntry) (now : Meaning) (later : List LineTold) → Answers n now (open_of n open_)
    → NoneFrom slots (record { meaning = now; entry = open_of n open_ } ∷ later) → IsWithin slots open_
within_open n slots (entry.Note text) now later answers none = tt
within_open n slots (entry.Full slot flag) now later answers none = tt
within_open n slots (entry.Command slot) (command own c) later answers none = elim (cases_lt slot slots) [
  | inl low ↦ low
  | inr past ↦
      not_none c (commands_accepted slot later)
      (sym (some_command slot own c (commands_accepted slot later) (sym answers.1)) ∙ (none slot past).0)
]
within_open n slots (entry.Command slot) (packet own p) later answers none = absurd answers
within_open n slots (entry.Command slot) (move own slice text) later answers none = absurd answers
within_open n slots (entry.Command slot) (note text) later answers none = absurd answers
within_open n slots (entry.Packet slot parked) (packet own p) later answers none = elim (cases_lt slot slots) [
  | inl low ↦ low
  | inr past ↦
      not_none (record { commands = 0; packet = p }) (packets_accepted slot later)
      (sym (some_packet slot own p (λ (q : LentPacket). record { commands = 0; packet = q })
      (packets_accepted slot later) (sym answers.1)) ∙ (none slot past).1)
]
within_open n slots (entry.Packet slot parked) (command own c) later answers none = absurd answers
within_open n slots (entry.Packet slot parked) (move own slice text) later answers none = absurd answers
within_open n slots (entry.Packet slot parked) (note text) later answers none = absurd answers

all_within : (n slots : ℕ) (made : List Meaning) (entries : List Taken) → AnswersAll n made (opens_of n entries)
    → NoneFrom slots (lines_told made (opens_of n entries)) → All (λ (taken : Taken). IsWithin slots taken.open) entries
all_within n slots made [] answers none = All-nil _
all_within n slots [] (taken ∷ entries) answers none = absurd answers
all_within n slots (now ∷ made) (taken ∷ entries) answers none =
    All-cons (λ (t : Taken). IsWithin slots t.open) taken entries
    (within_open n slots taken.open now (lines_told made (opens_of (n + 1) entries)) answers.0 none)
    (all_within (n + 1) slots made entries answers.1 (λ slot past. (
      none_behind _ (commands_accepted slot (lines_told made (opens_of (n + 1) entries))) (none slot past).0,
      none_behind _ (packets_accepted slot (lines_told made (opens_of (n + 1) entries))) (none slot past).1,
    )))

-- so those of a front are within its lots
module _ (opened : Rest) (slices lane lines latest : ℕ) (book : List (List ℕ)) (subs : List SubscriberState)
    (halves : Halves) (entries : List Taken)
    (keeps : FrontKeeps opened slices lane lines latest book subs halves entries) where
  abbrev made : List Meaning
  made = meant_from slices keeps.first (lines_of entries)

  abbrev told : List LineTold
  told = lines_told made (opens_of (opened.lines + 1) entries)

  none_from : NoneFrom (length halves.lots.items) told
  none_from slot past =
      let kept = keeps.lines_keep keeps.first keeps.behind in
      let lot : lot_of halves.lots.items slot ≡ None = get_or_past halves.lots.items slot None past in
      let own : (first_command first_packet : ℕ) → EndsTold slot (new_ends first_command first_packet) told =
      subst (λ (l : Option Lot). OwnTold slot (own_of l (view_at halves slot).accepted) told) lot
      (kept.slots slot).own_is in
      let ends = own 0 0 in (
        sym ends.commands_are,
        none_mapped (λ (p : Placed). p.packet) (packets_accepted slot told) ends.packets_are,
      )

  pub entries_within : All (λ (taken : Taken). IsWithin (length halves.lots.items) taken.open) entries
  entries_within = all_within (opened.lines + 1) (length halves.lots.items) made entries
      (keeps.lines_keep keeps.first keeps.behind).answered none_from

-- What control_half says of items, by their commands.
use Rattle.std.proofs.Common.{◌≡◌, ℕ, ◌+◌, List, [], ◌∷◌, map, length, refl, ap}
use Rattle.pc_base.specs.declared.reply.Reply.{Reply}
use Rattle.bearer_state.specs.Session.{SessionState}
use Rattle.bearer_state.specs.Version.{VersionState, version_of}
use Rattle.gate_model.specs.Versions.{controlled_by}
use Rattle.lawful_run.specs.Telling.{counted}
use Rattle.control_half.specs.declared.items.CommandItem.{CommandItem}
use Rattle.control_half.specs.declared.items.CommandDone.{CommandDone}
use Rattle.control_half.specs.Controlled.{session_behind, stepped, replied, replies_to, versions_left}
use Rattle.counter_half.specs.Tells.{versions_in, versions_behind}
use Rattle.split_record.specs.Finishing.{commands_in}
use Rattle.split_record.proofs.Orders.{replies_by}

pub session_of_items : (session : SessionState) (items : List CommandItem)
    → session_behind session items ≡ controlled_by session (commands_in items)
session_of_items session [] = refl
session_of_items session (item ∷ items) = session_of_items (stepped session item) items

pub versions_of_items : (number : ℕ) (session : SessionState) (items : List CommandItem)
    → versions_in (versions_left number session items) ≡ versions_behind number session (commands_in items)
versions_of_items number session [] = refl
versions_of_items number session (item ∷ items) =
    ap (λ (l : List VersionState). version_of (stepped session item) (number + 1) ∷ l)
    (versions_of_items (number + 1) (stepped session item) items)

pub replies_of_items : (number : ℕ) (session : SessionState) (items : List CommandItem)
    → map (λ (d : CommandDone). d.reply) (replies_to number session items) ≡ replies_by session (commands_in items)
replies_of_items number session [] = refl
replies_of_items number session (item ∷ items) =
    ap (λ (l : List Reply). (replied number session item).reply ∷ l)
    (replies_of_items (number + 1) (stepped session item) items)

pub numbers_of_items : (number : ℕ) (session : SessionState) (items : List CommandItem)
    → map (λ (d : CommandDone). d.number) (replies_to number session items) ≡ counted number (length items)
numbers_of_items number session [] = refl
numbers_of_items number session (item ∷ items) =
    ap (λ (l : List ℕ). number ∷ l) (numbers_of_items (number + 1) (stepped session item) items)

pub lines_of_items : (number : ℕ) (session : SessionState) (items : List CommandItem)
    → map (λ (d : CommandDone). d.line) (replies_to number session items) ≡ map (λ (c : CommandItem). c.line) items
lines_of_items number session [] = refl
lines_of_items number session (item ∷ items) =
    ap (λ (l : List ℕ). item.line ∷ l) (lines_of_items (number + 1) (stepped session item) items)

-- What a message must have, said of what is there: a message that is written reads back where it has
-- this, and what is read has it.
use Rattle.std.specs.Prelude.{◌≡◌, ℕ, ◌<◌, true, List, map, Option, Some, None, IsSome, ◌==◌}
use Rattle.std.specs.List.{list_any, AllByRecursion}
use Rattle.gtpv2_ie.specs.declared.context.Context.{Context}
use Rattle.gtpv2_ie.specs.declared.fteid.Fteid.{Fteid}
use Rattle.gtpv2_ie.specs.declared.kind.IeKind.{IeKind}
use Rattle.gtpv2_ie.specs.declared.kind.IeKind.TheVariants as kinds
use Rattle.gtpv2_ie.specs.Element.{Element}
use Rattle.gtpv2_ie.specs.Kind.{type_octet}
use Rattle.gtpv2_ie.specs.Spelling.{kind_of, context_elements}
use Rattle.gtpv2_msg.specs.declared.element.ReadIe.{ReadIe}
use Rattle.gtpv2_msg.specs.declared.table.Part.{Part}
use Rattle.gtpv2_msg.specs.declared.table.Part.TheVariants as parts
use Rattle.gtpv2_msg.specs.Lookup.{is_of, contexts_of}
use Rattle.gtpv2_msg.specs.Message.{Message}
use Rattle.gtpv2_msg.specs.Required.{RequiredIes, required}

-- an element of a kind and instance 0 is there; the elements of a message are inside their grammar
abbrev pub Has : List Element → IeKind → Type 0
Has ies kind = list_any (is_of kind 0) ies ≡ true

-- a Context has an element of a kind; of those in it only an F-TEID has an instance
abbrev pub ContextHas : Context → IeKind → Type 0
ContextHas context kinds.Ebi = IsSome context.ebi
ContextHas context kinds.Cause = IsSome context.cause
ContextHas context kinds.Tft = IsSome context.tft
ContextHas context kinds.Fteid = list_any (λ (fteid : ℕ × Fteid). fteid.0 == 0) context.fteids ≡ true
ContextHas context kinds.Qos = IsSome context.qos
ContextHas context _ = ⊥

-- an EBI is there, and it isn't 0
abbrev pub IsAssigned : Option ℕ → Type 0
IsAssigned None = ⊥
IsAssigned (Some ebi) = 0 < ebi

abbrev pub HasPart : Part → Context → Type 0
HasPart (parts.Ie kind) context = ContextHas context kind
HasPart parts.AssignedEbi context = IsAssigned context.ebi

-- elements have what a row asks for
pub record MeetsRow (row : RequiredIes) (ies : List Element) : Type 0 where
  pub before : AllByRecursion (Has ies) row.before
  pub context : row.must ≡ true → Has ies kinds.Context
  pub inside : AllByRecursion (λ part. AllByRecursion (HasPart part) (contexts_of ies)) row.inside
  pub after : AllByRecursion (Has ies) row.after

-- a message has what its type asks for
abbrev pub HasRequired : Message → Type 0
HasRequired message = MeetsRow (required message.kind) message.ies

-- An element as the table of faults sees it, and so each Context of instance 0, by the elements that
-- it is written as.
abbrev pub as_read : Element → ReadIe
as_read ie = record { kind = type_octet (kind_of ie.value); instance = ie.instance; element = Some ie }

abbrev pub context_as_read : Context → Option (List ReadIe)
context_as_read context = Some (map as_read (context_elements context))

abbrev pub contexts_as_read : List Element → List (Option (List ReadIe))
contexts_as_read ies = map context_as_read (contexts_of ies)

-- Versions move from the one that is due into the batch, and with it to the other half.
use Rattle.std.proofs.Common.{◌≡◌, ℕ, ◌+◌, List, [], ◌∷◌, ◌++◌, map, Option, Some, ap}
use Rattle.std.proofs.Common.{sym, ◌∙◌, append_assoc}
use Rattle.std.proofs.lemmas.List.{map-append}
use Rattle.pc_base.specs.declared.numbered.Numbered.{Ghosts}
use Rattle.bearer_state.specs.Session.{SessionState}
use Rattle.bearer_state.specs.Version.{VersionState, version_of}
use Rattle.control_half.specs.declared.batch.Batch.{Batch}
use Rattle.control_half.specs.Batch.{versions_of, floor_of}
use Rattle.control_half.specs.Consecutive.{IsNext}
use Rattle.control_half.specs.Applied.{in_due, NextOf}
use Rattle.control_half.specs.declared.items.CommandItem.{CommandItem}
use Rattle.control_half.specs.Controlled.{versions_left}
use Rattle.control_half.specs.Published.{Published, under, in_batch, in_batches, in_kept}
use Rattle.control_half.proofs.Applying.{numbered_on}

module _ {g : Ghosts VersionState} where
  -- it has the number after the last one's
  pub joins_next : (first : ℕ) (start : SessionState) (items : List CommandItem) (sent : List (Batch VersionState g))
      (batch : Batch VersionState g) (floor : ℕ) (version : VersionState)
      → in_batches sent ++ (in_batch batch ++ under floor version ∷ []) ≡ versions_left first start items
      → IsNext (λ (v : VersionState). v.number) (versions_of batch) version
  joins_next first start items sent batch floor version is before last last_is =
      let made = under (floor_of batch) in
      numbered_on first start items (in_batches sent ++ map made before) (made last) (under floor version) []
      (sym is ∙ ap (λ (l : List VersionState). in_batches sent ++ (map made l ++ under floor version ∷ [])) last_is
      ∙ ap (λ (l : List Published). in_batches sent ++ (l ++ under floor version ∷ []))
      (map-append made before (last ∷ []))
      ∙ ap (λ (l : List Published). in_batches sent ++ l)
      (append_assoc (map made before) (made last ∷ []) (under floor version ∷ []))
      ∙ sym (append_assoc (in_batches sent) (map made before) (made last ∷ under floor version ∷ [])))

  -- so the version that is due joins the batch that is kept
  pub due_is_next : (first : ℕ) (start : SessionState) (items : List CommandItem) (sent : List (Batch VersionState g))
      (kept taken : Option (Batch VersionState g))
      (due : Option ℕ) (floor : ℕ) (session : SessionState) (number : ℕ) (version : VersionState)
      → taken ≡ kept → due ≡ Some floor → version ≡ version_of session number
      → in_batches sent ++ (in_kept kept ++ in_due due session number) ≡ versions_left first start items
      → NextOf taken version
  due_is_next first start items sent kept taken due floor session number version same is made all batch is_kept =
      joins_next first start items sent batch floor version
      ((λ i. in_batches sent ++ (in_kept (sym (sym same ∙ is_kept) i) ++ under floor (made i) ∷ []))
      ∙ (λ i. in_batches sent ++ (in_kept kept ++ in_due (sym is i) session number)) ∙ all)

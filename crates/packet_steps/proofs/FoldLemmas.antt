-- What looking at held packets leaves as it was, and which of them wait on.
use Rattle.std.proofs.Common.{◌≡◌, ℕ, ◌&&◌, Bool, true, false, cond, List, [], ◌∷◌, ◌++◌, length, filter, Option, Some, None, is_none, is_some, unwrap_or, refl, sym, ◌∙◌, ap, append_assoc}
use Rattle.std.specs.List.{fold}
use Rattle.std.specs.Option.{option_and_then}
use Rattle.std.proofs.lemmas.List.{append-nil}
use Rattle.pc_base.specs.declared.effect.Effect.{Effect}
use Rattle.pc_base.specs.declared.effect.Fate.TheVariants as fate
use Rattle.pc_base.specs.declared.packet.Peer.{Peer}
use Rattle.bearer_state.specs.declared.version.ActiveBearer.{ActiveBearer}
use Rattle.bearer_state.specs.Version.{VersionState}
use Rattle.packet_steps.specs.Rows.{HeldRow}
use Rattle.packet_steps.specs.Messages.{gpdu}
use Rattle.packet_steps.specs.Past.{Past, moment_of, row_for, with_row, with_held}
use Rattle.packet_steps.specs.Policing.{passes}
use Rattle.packet_steps.specs.Change.{bearer_of, waits, fated, released_to, released_by, released}

-- one packet, by whether it passes
abbrev pub passed_or : Bool → Past × List Effect → HeldRow → ActiveBearer → Peer → Past × List Effect
passed_or b so_far row bearer peer =
    cond b (fated (with_row so_far.0 (row_for so_far.0 bearer false (length row.packet.octets)), so_far.1) row
    (fate.Down row.life peer.addr (gpdu peer row.packet.octets)))
    (fated so_far row (fate.Policed row.life))

-- what a function says of a past is kept by looking at packets, where it is by what a look does
module _ {X : Type 0} (f : Past → X)
    (rows_keep : (past : Past) (bearer : ActiveBearer) (octets : ℕ)
    → f (with_row past (row_for past bearer false octets)) ≡ f past)
    (held_keeps : (past : Past) (row : HeldRow) → f (with_held past row) ≡ f past) where
  kept_to : (so_far : Past × List Effect) (row : HeldRow) (bearer : ActiveBearer) (enb : Option Peer)
      → f (released_to so_far row bearer enb).0 ≡ f so_far.0
  kept_to so_far row bearer None = held_keeps so_far.0 row
  kept_to so_far row bearer (Some peer) =
      elim (passes so_far.0 bearer false (length row.packet.octets)) as
      (λ b. f (passed_or b so_far row bearer peer).0 ≡ f so_far.0) [
        | true ↦ rows_keep so_far.0 bearer (length row.packet.octets)
        | false ↦ refl
      ]

  kept_by : (so_far : Past × List Effect) (row : HeldRow) (found : Option ActiveBearer)
      → f (released_by so_far row found).0 ≡ f so_far.0
  kept_by so_far row None = refl
  kept_by so_far row (Some bearer) = kept_to so_far row bearer bearer.enb

  pub kept_all : (so_far : Past × List Effect) (rows : List HeldRow) → f (fold released so_far rows).0 ≡ f so_far.0
  kept_all so_far [] = refl
  kept_all so_far (row ∷ rows) = kept_all (released so_far row) rows
      ∙ kept_by so_far row (bearer_of so_far.0.version.bearers row.life)

pub version_kept : (so_far : Past × List Effect) (rows : List HeldRow)
    → (fold released so_far rows).0.version ≡ so_far.0.version
version_kept so_far rows = kept_all (λ (past : Past). past.version) (λ past bearer octets. refl)
    (λ past row. refl) so_far rows

pub last_kept : (so_far : Past × List Effect) (rows : List HeldRow) → (fold released so_far rows).0.last ≡ so_far.0.last
last_kept so_far rows = kept_all (λ (past : Past). past.last) (λ past bearer octets. refl)
    (λ past row. refl) so_far rows

pub moment_kept : (so_far : Past × List Effect) (rows : List HeldRow)
    → moment_of (fold released so_far rows).0 ≡ moment_of so_far.0
moment_kept so_far rows = ap (λ last. unwrap_or last 0) (last_kept so_far rows)

-- those wait on whose bearers have no eNodeB
held_to : (so_far : Past × List Effect) (row : HeldRow) (bearer : ActiveBearer) (enb : Option Peer)
    → (released_to so_far row bearer enb).0.held ≡ so_far.0.held ++ cond (is_none enb) (row ∷ []) []
held_to so_far row bearer None = refl
held_to so_far row bearer (Some peer) =
    elim (passes so_far.0 bearer false (length row.packet.octets)) as
    (λ b. (passed_or b so_far row bearer peer).0.held ≡ so_far.0.held ++ []) [
      | true ↦ sym (append-nil so_far.0.held)
      | false ↦ sym (append-nil so_far.0.held)
    ]

held_by : (so_far : Past × List Effect) (row : HeldRow) (found : Option ActiveBearer)
    → (released_by so_far row found).0.held ≡ so_far.0.held
    ++ cond (is_some found && is_none (option_and_then (λ (b : ActiveBearer). b.enb) found)) (row ∷ []) []
held_by so_far row None = sym (append-nil so_far.0.held)
held_by so_far row (Some bearer) = held_to so_far row bearer bearer.enb

pub held_all : (so_far : Past × List Effect) (rows : List HeldRow)
    → (fold released so_far rows).0.held ≡ so_far.0.held
    ++ filter (λ (row : HeldRow). waits so_far.0.version.bearers row.life) rows
held_all so_far [] = sym (append-nil so_far.0.held)
held_all so_far (row ∷ rows) =
    let bearers = so_far.0.version.bearers in
    let next = released so_far row in
    let one : next.0.held ≡ so_far.0.held
    ++ cond (waits bearers row.life) (row ∷ []) [] = held_by so_far row (bearer_of bearers row.life) in
    held_all next rows
    ∙ ap (λ (v : VersionState). next.0.held ++ filter (λ (r : HeldRow). waits v.bearers r.life) rows)
    (version_kept so_far (row ∷ []))
    ∙ ap (λ (held : List HeldRow). held ++ filter (λ (r : HeldRow). waits bearers r.life) rows) one
    ∙ append_assoc so_far.0.held (cond (waits bearers row.life) (row ∷ []) [])
    (filter (λ (r : HeldRow). waits bearers r.life) rows)
    ∙ ap (λ (held : List HeldRow). so_far.0.held ++ held) (prefix (waits bearers row.life))
  where
    prefix : (b : Bool) → cond b (row ∷ []) [] ++ filter (λ (r : HeldRow). waits so_far.0.version.bearers r.life) rows
        ≡ cond b (row ∷ filter (λ (r : HeldRow). waits so_far.0.version.bearers r.life) rows)
        (filter (λ (r : HeldRow). waits so_far.0.version.bearers r.life) rows)
    prefix true = refl
    prefix false = refl

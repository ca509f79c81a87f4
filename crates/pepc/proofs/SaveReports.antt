-- What a run of `save` wrote, by its status.
use Rattle.std.proofs.Common.{◌≡◌, ℕ, inl, inr, List, [], Option, None, Some, refl, sym, ◌∙◌, subst}
use Rattle.std.proofs.KnownBytes.{Appends-nil}
use Rattle.pc_outside.specs.WhereTold.{WhereTold}
use Rattle.trace_lines.specs.Input.{big, ended, input_of}
use Rattle.trace_run.specs.declared.status.Status.{Status}
use Rattle.trace_run.specs.declared.status.Status.TheVariants as status
use Rattle.trace_run.specs.Report.{IsBad, IsDone, IsLong}
use Rattle.save_command.specs.Saves.{Saves, SavesAs}

-- memory ran out before anything was read
pub nothing_saved : (start sink : Option (List ℕ)) → Saves status.NoMemory start start sink sink
nothing_saved start sink = record { text = []; written = Appends-nil sink; said = told start }
  where
    told : (start : Option (List ℕ)) → WhereTold start start (λ octets rest. SavesAs status.NoMemory octets rest [])
    told None = tt
    told (Some octets) = refl

-- Where the trace ends with its last line and nothing failed, memory alone can run out.
pub save_complete : (ending : Status) (source_failed sink_failed : Type 0) (octets : List ℕ)
    (start left old new : Option (List ℕ)) → start ≡ Some octets
    → (input_of octets).stop ≡ ended → (source_failed → ⊥) → (sink_failed → ⊥)
    → (ending ≡ status.ReadFault → source_failed) → (ending ≡ status.WriteFault → sink_failed)
    → Saves ending start left old new → IsDone ending
save_complete ending source_failed sink_failed octets start left old new is stop no_fault no_sink read_fault
    write_fault runs =
    by_left left (subst (λ s. WhereTold s left (λ o l. SavesAs ending o l runs.text)) is runs.said)
  where
    by_status : (s : Status) (l text : List ℕ) → SavesAs s octets l text → (s ≡ status.ReadFault → source_failed)
        → (s ≡ status.WriteFault → sink_failed) → IsDone s
    by_status status.Ok l text saves read write = inl refl
    by_status status.Usage l text saves read write = absurd saves
    by_status status.ReadFault l text saves read write = absurd (no_fault (read refl))
    by_status status.WriteFault l text saves read write = absurd (no_sink (write refl))
    by_status status.NoMemory l text saves read write = inr refl
    by_status status.BadLine l text saves read write = absurd (subst IsBad stop saves.0)
    by_status status.LineLong l text saves read write = absurd (subst IsLong stop saves.0)
    by_status status.TooLong l text saves read write = let clash : ended ≡ big = sym stop ∙ saves.0 in cc
    by_status status.Refuted l text saves read write = absurd saves
    by_status status.BadCapture l text saves read write = absurd saves
    by_status status.BadState l text saves read write = absurd saves
    by_status status.BadReport l text saves read write = absurd saves

    by_left : (l : Option (List ℕ)) → WhereTold (Some octets) l (λ o rest. SavesAs ending o rest runs.text)
        → IsDone ending
    by_left None told = absurd told
    by_left (Some rest) told = by_status ending rest runs.text told read_fault write_fault

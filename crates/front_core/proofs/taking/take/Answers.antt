use Rattle.std.proofs.Common.{◌+◌, refl, sym, subst}
use Rattle.demux.specs.Meant.{meaning_of}
use Rattle.demux.specs.declared.meant.Meant.{Meant}
use Rattle.front_core.proofs.Settling.{settles_none}
use Rattle.front_core.specs.Taking.{Takes}
use Rattle.front_core.specs.declared.taken.OpenEntry.TheVariants as entry
use Rattle.front_core.proofs.taking.take.Goals as goal

pub returns-in-Note-clause-takes : goal.returns-in-Note-clause-takes
returns-in-Note-clause-takes g c =
    subst (λ (m : Meant). Takes c.args.line (c.args.patience + 1) (meaning_of m) (entry.Note c.in-Note.text)
    c.args.subscribers.now c.args.subscribers.now c.args.halves.now c.args.halves.now) (sym c.in-Note.is)
    (record { is = refl; same = refl; still = settles_none c.args.halves.now })

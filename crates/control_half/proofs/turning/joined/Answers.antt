use Rattle.std.proofs.Common.{refl, sym, true≢false}
use Rattle.control_half.proofs.turning.joined.Goals as goal

pub unreachable-requires : goal.unreachable-requires
unreachable-requires c =
    let fits = c.requires.joins c.args.floor c.in-Some.batch refl c.in-Some.is in
    true≢false (sym (c.in-Err.ensures.added.1 (fits.1, sym fits.0)))

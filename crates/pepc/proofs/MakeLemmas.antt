-- What `make` leaves of a summary, by what was appended.
use Rattle.std.proofs.Common.{◌≡◌, ℕ, ◌+◌, true, List, Option, sym, ap, subst, ◌∙◌}
use Rattle.std.specs.Io.KnownBytes.{Appends}
use Rattle.report_lines.specs.Counts.{Counts}
use Rattle.report_lines.specs.Summary.{summary_text}
use Rattle.pc_outside.specs.Prefixes.{AppendsPrefix}
use Rattle.trace_maker.specs.Generated.{made}
use Rattle.trace_maker.proofs.ReadLemmas.{length-made}
use Rattle.trace_run.specs.declared.status.Status.TheVariants as status
use Rattle.pepc.specs.Make.{IsCounted, IsSummary, Makes}

pub is_summary : (seed subs lines : ℕ) (counts : Counts) (text : List ℕ) → IsCounted (made seed subs lines) counts
    → text ≡ summary_text (subs + lines) counts → IsSummary (made seed subs lines) text
is_summary seed subs lines counts text right told = record {
  counts = counts;
  right = right;
  told = told ∙ ap (λ n. summary_text n counts) (sym (length-made seed subs lines));
}

pub summary_whole : (seed subs lines : ℕ) (old new : Option (List ℕ)) (text : List ℕ)
    → IsSummary (made seed subs lines) text → Appends old new text → Makes seed subs lines true status.Ok old new
summary_whole seed subs lines old new text is sent = record { text = text; written = sent; is = is }

pub summary_cut : (seed subs lines : ℕ) (old new : Option (List ℕ)) (text : List ℕ)
    → IsSummary (made seed subs lines) text → AppendsPrefix old new text
    → Makes seed subs lines true status.WriteFault old new
summary_cut seed subs lines old new text is sent = record {
  text = sent.prefix;
  written = sent.appended;
  is = record {
    more = sent.rest;
    some_left = sent.some_left;
    whole = subst (IsSummary (made seed subs lines)) sent.parts is;
  };
}

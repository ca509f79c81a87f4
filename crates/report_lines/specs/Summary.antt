-- The text of a summary.
use Rattle.std.specs.Prelude.{ℕ, List, [], ◌∷◌, ◌++◌, codes, decimal}
use Rattle.report_lines.specs.Counts.{Counts}

-- one line: how many lines the trace has, and what its report counts
abbrev pub summary_text : ℕ → Counts → List ℕ
summary_text lines counts =
    codes "lines=" ++ decimal lines
    ++ (codes " N=" ++ decimal counts.notes)
    ++ (codes " C=" ++ decimal counts.commands)
    ++ (codes " P=" ++ decimal counts.packets)
    ++ (codes " F=" ++ decimal counts.refusals)
    ++ (codes " R=" ++ decimal counts.records)
    ++ (codes " O=" ++ decimal counts.opens)
    ++ (codes " up=" ++ decimal counts.up)
    ++ (codes " down=" ++ decimal counts.down)
    ++ 10 ∷ []

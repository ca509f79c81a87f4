-- Each line has one entry, in its words.
use Rattle.std.specs.Prelude.{◌≡◌, ℕ, ◌+◌, true, false, List, [], ◌∷◌}
use Rattle.demux.specs.Trace.{Meaning, command, packet, move, note}
use Rattle.report_lines.specs.declared.entry.LineEntry.{LineEntry}
use Rattle.report_lines.specs.declared.entry.LineEntry.TheVariants as line

-- The entry of the line of this number: a note or a move in its words, a command or packet of its slot with its
-- answer or its refusal.
abbrev pub Answers : ℕ → Meaning → LineEntry → Type 0
Answers n (note text) (line.N noted) = noted ≡ record { line = n; note = text }
Answers n (note text) (line.C answered) = ⊥
Answers n (note text) (line.P judged) = ⊥
Answers n (note text) (line.F refused) = ⊥
Answers n (move slot slice text) (line.N noted) = noted ≡ record { line = n; note = text }
Answers n (move slot slice text) (line.C answered) = ⊥
Answers n (move slot slice text) (line.P judged) = ⊥
Answers n (move slot slice text) (line.F refused) = ⊥
Answers n (command slot c) (line.N noted) = ⊥
Answers n (command slot c) (line.C answered) = (answered.line ≡ n) × (answered.slot ≡ slot)
Answers n (command slot c) (line.P judged) = ⊥
Answers n (command slot c) (line.F refused) = refused ≡ record { line = n; slot = slot; packet = false }
Answers n (packet slot p) (line.N noted) = ⊥
Answers n (packet slot p) (line.C answered) = ⊥
Answers n (packet slot p) (line.P judged) = (judged.line ≡ n) × (judged.slot ≡ slot)
Answers n (packet slot p) (line.F refused) = refused ≡ record { line = n; slot = slot; packet = true }

-- each line has one, in line order
abbrev pub AnswersAll : ℕ → List Meaning → List LineEntry → Type 0
AnswersAll n [] [] = Unit {0}
AnswersAll n [] (entry ∷ entries) = ⊥
AnswersAll n (meaning ∷ made) [] = ⊥
AnswersAll n (meaning ∷ made) (entry ∷ entries) = Answers n meaning entry × AnswersAll (n + 1) made entries

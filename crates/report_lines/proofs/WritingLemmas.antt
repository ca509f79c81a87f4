-- Fields behind one another, as a writer appends them.
use Rattle.std.proofs.Common.{◌≡◌, ℕ, Bool, true, false, List, [], ◌∷◌, ◌++◌, length, take, refl, sym, ap, ◌∙◌, append_assoc, append-nil, Result, Ok, Err}
use Rattle.std.proofs.Math.Seq.{take-append_seam}
use Rattle.std.specs.Prelude.{decimal, codes, OnOk, OnErr}
use Rattle.std.specs.declared.alloc.AllocError.{AllocError}
use Rattle.pc_base.specs.declared.packet.Verdict.{Verdict}
use Rattle.pc_base.specs.declared.packet.Verdict.TheVariants as verdict
use Rattle.text_fields.specs.Fields.{joined, behind}
use Rattle.report_lines.specs.declared.entry.LineEntry.TheVariants as line
use Rattle.report_lines.specs.Records.{PacketTold}
use Rattle.report_lines.specs.Text.{verdict_fields, place_fields, without_place, line_fields, line_shown}

pub joined-behind : (first : List ℕ) (texts : List (List ℕ)) → joined (first ∷ texts) ≡ first ++ behind texts
joined-behind first [] = sym (append-nil first)
joined-behind first (text ∷ texts) = ap (λ rest. first ++ 32 ∷ rest) (joined-behind text texts)

pub behind-append : (texts more : List (List ℕ)) → behind (texts ++ more) ≡ behind texts ++ behind more
behind-append [] more = refl
behind-append (text ∷ texts) more =
    ap (λ rest. 32 ∷ text ++ rest) (behind-append texts more)
    ∙ ap (λ rest. 32 ∷ rest) (sym (append_assoc text (behind texts) (behind more)))

verdict_fields-append : (told : Verdict) (more : List (List ℕ))
    → verdict_fields told more ≡ verdict_fields told [] ++ more
verdict_fields-append (verdict.Up life octets) more = refl
verdict_fields-append (verdict.Down life peer octets) more = refl
verdict_fields-append verdict.NoBearer more = refl
verdict_fields-append verdict.Spoof more = refl
verdict_fields-append (verdict.Idle life) more = refl
verdict_fields-append (verdict.Held life message) more = refl
verdict_fields-append (verdict.Policed life) more = refl

-- the numbers in front of a verdict
abbrev counted : PacketTold → List (List ℕ)
counted told = decimal told.line ∷ decimal told.slot ∷ decimal told.number ∷ decimal told.commands ∷ []

-- a judgement, and what stands behind its verdict
judged-behind : (told : PacketTold) (more : List (List ℕ))
    → joined (codes "P" ∷ decimal told.line ∷ decimal told.slot ∷ decimal told.number ∷ decimal told.commands
    ∷ verdict_fields told.verdict more)
    ≡ joined (line_fields (line.P (without_place told))) ++ behind more
judged-behind told more =
    joined-behind (codes "P") (counted told ++ verdict_fields told.verdict more)
    ∙ ap (λ fields. codes "P" ++ behind (counted told ++ fields)) (verdict_fields-append told.verdict more)
    ∙ ap (λ text. codes "P" ++ text) (behind-append (counted told ++ verdict_fields told.verdict []) more)
    ∙ ap (λ text. text ++ behind more) (sym (joined-behind (codes "P") (counted told
    ++ verdict_fields told.verdict [])))

judged_shown : (told : PacketTold) (places : Bool) → places ≡ true
    → joined (line_fields (line_shown places (line.P told)))
    ≡ joined (line_fields (line.P (without_place told))) ++ behind (place_fields told.place told.parked)
judged_shown told true is = judged-behind told (place_fields told.place told.parked)
judged_shown told false is = cc

judged_alone : (told : PacketTold) (places : Bool) → places ≡ false
    → joined (line_fields (line_shown places (line.P told))) ≡ joined (line_fields (line.P (without_place told)))
judged_alone told true is = cc
judged_alone told false is = refl

-- what was appended behind a judgement, or the judgement alone
pub shown_by : (told : PacketTold) (places : Bool) (answer : Result (Unit {0}) AllocError) (old mid new : List ℕ)
    (fields : List (List ℕ)) → places ≡ true
    → mid ≡ old ++ joined (line_fields (line.P (without_place told))) → fields ≡ place_fields told.place told.parked
    → OnOk answer (new ≡ mid ++ behind fields) → OnOk answer (new ≡ old
    ++ joined (line_fields (line_shown places (line.P told))))
shown_by told places (Ok done) old mid new fields is prefix same appended =
    let alone : List ℕ = joined (line_fields (line.P (without_place told))) in
    appended ∙ ap (λ text. text ++ behind fields) prefix ∙ append_assoc old alone (behind fields)
    ∙ ap (λ f. old ++ (alone ++ behind f)) same ∙ ap (λ text. old ++ text) (sym (judged_shown told places is))
shown_by told places (Err why) old mid new fields is prefix same appended = tt

pub alone_by : (told : PacketTold) (places : Bool) (old new : List ℕ) → places ≡ false
    → new ≡ old ++ joined (line_fields (line.P (without_place told)))
    → new ≡ old ++ joined (line_fields (line_shown places (line.P told)))
alone_by told places old new is prefix = prefix ∙ ap (λ text. old ++ text) (sym (judged_alone told places is))

-- what was appended behind a judgement without its place
pub placed_by : (told : PacketTold) (answer : Result (Unit {0}) AllocError) (old mid new : List ℕ)
    → mid ≡ old ++ joined (line_fields (line.P (without_place told)))
    → OnOk answer (new ≡ mid ++ behind (place_fields told.place told.parked))
    → OnOk answer (new ≡ old ++ joined (line_fields (line.P told)))
placed_by told answer old mid new prefix appended = shown_by told true answer old mid new _ refl prefix refl appended

-- what is cut back to where it began
pub cut_back : (answer : Result (Unit {0}) AllocError) (old mid new text : List ℕ) (start : ℕ)
    → start ≡ length old → mid ≡ old ++ text → OnErr answer (new ≡ take start mid) → OnErr answer (new ≡ old)
cut_back (Ok done) old mid new text start is prefix back = tt
cut_back (Err why) old mid new text start is prefix back =
    back ∙ ap (take start) prefix ∙ ap (λ n. take n (old ++ text)) is ∙ take-append_seam old text

-- Where a search for the newline came to, no octet ends a line.
use Rattle.std.proofs.Common.{◌≡◌, ◌≢◌, ℕ, ◌+◌, ◌<◌, ◌≤◌, List, ◌∷◌, ◌++◌, length, take, drop, get_or, slice_range, sym, ◌∙◌, ap, refl, arith, eq-eqb, length-take}
use Rattle.std.proofs.lemmas.List.{get_or-take, get_or-drop, get_or_default, get_or_append_left, get_or_at}
use Rattle.std.proofs.lemmas.List.Edits.{get_or-between, length-between}
use Rattle.std.proofs.lemmas.List.Elements.{All-append}
use Rattle.std.proofs.Math.Seq.{take-add}
use Rattle.memchr.specs.Find.{Nowhere, Passes, is_byte}
use Rattle.pc_outside.specs.Line.{NoNewline}

-- a search from some place of the octets on that found none before its place `count`
pub no_newline-searched : (octets : List ℕ) (seen stop count : ℕ) → stop ≤ length octets → seen + count ≤ stop
    → NoNewline (take seen octets) → Nowhere (Passes (is_byte 10) (slice_range octets seen stop)) 0 count
    → NoNewline (take (seen + count) octets)
no_newline-searched octets seen stop count within up_to before searched =
    rw (take-add seen count octets)
    (All-append (λ octet. octet ≢ 10) (take seen octets) (take count (drop seen octets)) before
    (λ k d in_range is.
    let below : k < count = omega (arith, length-take count (drop seen octets)) in
    let in_part : k < length (slice_range octets seen stop) = omega (arith, length-between octets seen stop within) in
    searched k (omega arith) below
    (eq-eqb _ _ (get_or_default (slice_range octets seen stop) k 0 d in_part
    ∙ get_or-between octets seen stop k d (omega arith)
    ∙ sym (get_or-drop seen octets k d)
    ∙ sym (get_or-take count (drop seen octets) k d below)
    ∙ is))))

-- a newline stands in no octets that have none
pub newline_within : (octets line rest prefix behind : List ℕ) → octets ≡ line ++ 10 ∷ rest → octets ≡ prefix ++ behind
    → length line < length prefix → NoNewline prefix → ⊥
newline_within octets line rest prefix behind ends begins within no_newline =
    no_newline (length line) 0 within
    (sym (get_or_append_left prefix behind 0 (length line) within)
    ∙ ap (λ xs. get_or xs (length line) 0) (sym begins ∙ ends)
    ∙ get_or_at line 10 rest 0 (length line) refl)

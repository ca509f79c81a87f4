-- What the search for a ends tells of the octets held.
use Rattle.std.proofs.Common.{◌≡◌, ℕ, ◌+◌, ◌-◌, ◌<◌, ◌≤◌, Bool, List, [], ◌∷◌, ◌++◌, length, take, drop, slice_range, sym, ◌∙◌, ap, subst, refl, arith, length-take}
use Rattle.std.proofs.lemmas.List.{take-append-drop, take_all, append-nil}
use Rattle.std.proofs.lemmas.List.Edits.{length-between}
use Rattle.pc_outside.specs.Limits.{newline, line_max, input_max}
use Rattle.pc_outside.specs.Line.{NoNewline, BeginsLong, FillsRoom}
use Rattle.pc_outside.specs.Held.{Held, IsUnfinished}
use Rattle.pc_outside.specs.Steps.{GivesWhole}
use Rattle.pc_outside.proofs.Parts.{part-start, part-behind}

-- a newline was found within a line's length
pub found_whole : (octets line : List ℕ) (from to len taken : ℕ) (last : Bool) → from ≤ to → to ≤ length octets
    → taken ≤ input_max
    → len < to - from → len ≤ line_max → NoNewline (take len (slice_range octets from to))
    → drop len (slice_range octets from to) ≡ newline ∷ drop (len + 1) (slice_range octets from to)
    → GivesWhole
    (record { line = line; last = last; buffered = slice_range octets from to; room = input_max + (to - from) - taken })
    (record {
      line = slice_range octets from (from + len);
      last = last;
      buffered = slice_range octets (from + len + 1) to;
      room = input_max + (to - (from + len + 1)) - taken;
    })
found_whole octets line from to len taken last ordered within bounded inside short no_newline ends =
    let buffered = slice_range octets from to in
    let given = slice_range octets from (from + len) in
    let is_start : given ≡ take len buffered = part-start octets from to len (omega arith) in
    let size : length given ≡ len = length-between octets from (from + len) (omega arith) ∙ omega arith in
    let next : from + (len + 1) ≡ from + len + 1 = omega arith in
    record {
      no_newline = subst (λ xs. NoNewline xs) (sym is_start) no_newline;
      short = omega arith;
      whole = record {
        parts = sym (take-append-drop len buffered) ∙ ap (λ xs. xs ++ drop len buffered) (sym is_start)
            ∙ ap (λ xs. given ++ xs) (ends ∙ ap (λ xs. newline ∷ xs) (part-behind octets from to (len + 1)
            ∙ ap (λ place. slice_range octets place to) next));
        given = omega arith;
      };
      last = refl;
    }

-- no ends within a line's length, and more octets than that
pub found_long : (buffered : List ℕ) (room : ℕ) → length buffered ≤ room → line_max < length buffered
    → NoNewline (take (line_max + 1) buffered) → BeginsLong room buffered
found_long buffered room held long no_newline =
    let size : length (take (line_max + 1) buffered) ≡ line_max + 1 = length-take (line_max + 1) buffered ∙ omega arith in
    record {
      prefix = take (line_max + 1) buffered;
      rest = drop (line_max + 1) buffered;
      parts = sym (take-append-drop (line_max + 1) buffered);
      no_newline = no_newline;
      long = omega arith;
      within = omega arith;
    }

-- no more may be taken
pub found_full : (buffered : List ℕ) (room : ℕ) → length buffered ≡ room → length buffered ≤ line_max
    → NoNewline (take (line_max + 1) buffered) → FillsRoom room buffered
found_full buffered room full short no_newline =
    record {
      prefix = buffered;
      rest = [];
      parts = sym (append-nil buffered);
      no_newline = subst (λ xs. NoNewline xs) (take_all (line_max + 1) buffered (omega arith)) no_newline;
      short = short;
      full = full;
    }

-- more may come
pub found_unfinished : (held : Held) → length held.buffered < held.room → length held.buffered ≤ line_max
    → NoNewline (take (line_max + 1) held.buffered) → IsUnfinished held
found_unfinished held more short no_newline =
    record {
      no_newline = subst (λ xs. NoNewline xs) (take_all (line_max + 1) held.buffered (omega arith)) no_newline;
      short = short;
      more = more;
    }

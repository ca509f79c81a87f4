use Rattle.std.proofs.Common.{◌≡◌, ℕ, Bool, List, ◌++◌, flat_map, map, take, drop, Result, Ok, IfOk, ap, sym, subst, ◌∙◌}
use Rattle.std.proofs.lemmas.Grind.{flat_map-append}
use Rattle.std.proofs.lemmas.List.{map-append, take-append-drop}
use Rattle.std.proofs.lemmas.Result.{IfOk-weaker}
use Rattle.front_core.specs.Filled.{FrontTold, entry_told}
use Rattle.trace_run.specs.Entries.{lines_text}
use Rattle.trace_run.proofs.EntryLemmas.{lines-append}
use Rattle.replay_command.proofs.text_blocks.+fn-told_by_blocks-join+arg2+fn-told_by_blocks-join+arg3+told_by_blocks.Goals as goal

told_so : {X E : Type 0} (told : Result X E) (texts : X) → told ≡ Ok texts → (P : X → Type 0) → IfOk told P → P texts
told_so told texts is P holds = subst (λ r. IfOk r P) is holds

-- the texts of both parts of entries are that of the whole
parts_told : (places : Bool) (at : ℕ) (entries prefix back : List FrontTold) (first second told : List (List ℕ))
    → prefix ≡ take at entries → back ≡ drop at entries
    → flat_map (λ (text : List ℕ). text) first ≡ lines_text places (map entry_told prefix)
    → flat_map (λ (text : List ℕ). text) second ≡ lines_text places (map entry_told back)
    → told ≡ first ++ second → flat_map (λ (text : List ℕ). text) told ≡ lines_text places (map entry_told entries)
parts_told places at entries prefix back first second told prefix_is back_is first_is second_is is =
    let whole : prefix ++ back ≡ entries =
    ap (λ (l : List FrontTold). l ++ back) prefix_is ∙ ap (λ (l : List FrontTold). take at entries ++ l) back_is
    ∙ take-append-drop at entries in
    ap (λ (l : List (List ℕ)). flat_map (λ (text : List ℕ). text) l) is ∙ flat_map-append (λ (text : List ℕ). text) first second
    ∙ ap (λ (l : List ℕ). l ++ flat_map (λ (text : List ℕ). text) second) first_is
    ∙ ap (λ (l : List ℕ). lines_text places (map entry_told prefix) ++ l) second_is
    ∙ sym (lines-append places (map entry_told prefix) (map entry_told back))
    ∙ ap (lines_text places) (sym (map-append entry_told prefix back))
    ∙ ap (λ (l : List FrontTold). lines_text places (map entry_told l)) whole

pub returns : goal.returns
returns g t c =
    let prefix : List FrontTold = c.split_off-2.new.self.items in
    let back : List FrontTold = c.in_ok-back.back.items in
    let first = told_so c.join-first.result.0 c.in_ok-first.field-0 c.in_ok-first.was
    (λ told. flat_map (λ (text : List ℕ). text) told.items ≡ lines_text c.args.places (map entry_told prefix))
    c.join-first.ensures.first in
    let second = told_so c.join-first.result.1 c.in_ok-second.field-0 c.in_ok-second.was
    (λ told. flat_map (λ (text : List ℕ). text) told.items ≡ lines_text c.args.places (map entry_told back))
    c.join-first.ensures.second in
    IfOk-weaker c.both.result (λ told. told.items ≡ c.in_ok-first.field-0.items ++ c.in_ok-second.field-0.items)
    (λ told. flat_map (λ (text : List ℕ). text) told.items ≡ lines_text c.args.places (map entry_told c.args.entries.items))
    (λ told is. parts_told c.args.places c.prefix_len.result c.args.entries.items prefix back
    c.in_ok-first.field-0.items c.in_ok-second.field-0.items told.items c.in_ok-back.ensures.items
    c.in_ok-back.ensures.tail first second is) c.both.ensures

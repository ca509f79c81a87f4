-- Options by their names, as clap looks for them.
use Rattle.std.proofs.Common.{◌≡◌, ◌||◌, ◌∙◌, ℕ, Bool, true, false, cond, refl, sym, ap, List, [], ◌∷◌, map, Option, Some, None, option_map}
use Rattle.std.specs.Str.{bytes_eq}
use Rattle.std.proofs.lemmas.Slice.Eq.{bytes_eq-Decides}
use Rattle.clap.specs.Walk.{arg_by_id, arg_by_index, arg_by_long}
use Rattle.command_words.specs.Options.{Form, form_named, with_value, without_value}
use Rattle.command_words.specs.Program.{built_rule}
use Rattle.command_words.specs.Words.{Text}

pub same_text : (text : Text) → bytes_eq text text ≡ true
same_text text = (bytes_eq-Decides text text).1 refl

-- what an option of a name is
pub data Formed : List Form → Text → Type 0 where
  unknown : (forms : List Form) (name : Text) → form_named name forms ≡ None → Formed forms name
  valued : (forms : List Form) (name : Text) → form_named name forms ≡ Some (with_value name) → Formed forms name
  flagged : (forms : List Form) (name : Text) → form_named name forms ≡ Some (without_value name) → Formed forms name

found_name : (forms : List Form) (name : Text) (form : Form) → form_named name forms ≡ Some form → form.name ≡ name
found_name [] name form e = absurd (cc)
found_name (first ∷ rest) name form e = go (bytes_eq first.name name) refl (found_name rest name form) e
  where
    go : (b : Bool) → bytes_eq first.name name ≡ b → (form_named name rest ≡ Some form → form.name ≡ name)
        → cond b (Some first) (form_named name rest) ≡ Some form → form.name ≡ name
    go true same more is = let one : first ≡ form = cc in ap (λ (f : Form). f.name) (sym one)
        ∙ (bytes_eq-Decides first.name name).0 same
    go false other more is = more is

by_value : (forms : List Form) (name : Text) (form : Form) (b : Bool) → form_named name forms ≡ Some form
    → form.name ≡ name → form.has_value ≡ b
    → Formed forms name
by_value forms name form true e same has =
    valued forms name (e ∙ λ i. Some (record { name = same i; has_value = has i }))
by_value forms name form false e same has =
    flagged forms name (e ∙ λ i. Some (record { name = same i; has_value = has i }))

by_form : (forms : List Form) (name : Text) (found : Option Form) → form_named name forms ≡ found → Formed forms name
by_form forms name None e = unknown forms name e
by_form forms name (Some form) e = by_value forms name form form.has_value e (found_name forms name form e) refl

pub formed : (forms : List Form) (name : Text) → Formed forms name
formed forms name = by_form forms name (form_named name forms) refl

pub by_long : (forms : List Form) (name : Text)
    → arg_by_long (map built_rule forms) name ≡ option_map built_rule (form_named name forms)
by_long [] name = refl
by_long (first ∷ rest) name = go (bytes_eq first.name name) (by_long rest name)
  where
    go : (b : Bool) → arg_by_long (map built_rule rest) name ≡ option_map built_rule (form_named name rest)
        → cond (b || false) (Some (built_rule first)) (arg_by_long (map built_rule rest) name) ≡ option_map built_rule
        (cond b (Some first) (form_named name rest))
    go true more = refl
    go false more = more

pub by_id : (forms : List Form) (name : Text)
    → arg_by_id (map built_rule forms) name ≡ option_map built_rule (form_named name forms)
by_id [] name = refl
by_id (first ∷ rest) name = go (bytes_eq first.name name) (by_id rest name)
  where
    go : (b : Bool) → arg_by_id (map built_rule rest) name ≡ option_map built_rule (form_named name rest)
        → cond b (Some (built_rule first)) (arg_by_id (map built_rule rest) name) ≡ option_map built_rule
        (cond b (Some first) (form_named name rest))
    go true more = refl
    go false more = more

-- none has a position
pub no_index : (forms : List Form) (i : ℕ) → arg_by_index (map built_rule forms) i ≡ None
no_index [] i = refl
no_index (first ∷ rest) i = no_index rest i

-- What a word is, and what clap sees in it.
use Rattle.std.proofs.Common.{◌≡◌, ◌==◌, ℕ, Bool, true, false, refl, sym, subst, eqb-true, [], ◌∷◌, Some, None}
use Rattle.std.specs.List.{after_first, before_first, list_any}
use Rattle.std.specs.Str.{bytes_eq}
use Rattle.clap.specs.Lexer.{long_of, short_of}
use Rattle.command_words.specs.Words.{Text, is_equals, named, paired, plain, stray, word_of}

abbrev pub dashes : Text
dashes = 45 ∷ 45 ∷ []

pub data Look : Text → Type 0 where
  is_named : (word name : Text) → word_of word ≡ named name → bytes_eq word dashes ≡ false
      → long_of word ≡ Some (name, None) → Look word
  is_paired : (word name text : Text) → word_of word ≡ paired name text → bytes_eq word dashes ≡ false
      → long_of word ≡ Some (name, Some text) → Look word
  is_plain : (word : Text) → word_of word ≡ plain word → bytes_eq word dashes ≡ false → long_of word ≡ None
      → short_of word ≡ None → Look word
  is_stray : (word : Text) → word_of word ≡ stray → Look word

look_name : (octet : ℕ) (rest : Text) (b : Bool) → list_any is_equals (octet ∷ rest) ≡ b → Look (45 ∷ 45 ∷ octet ∷ rest)
look_name octet rest true e =
    is_paired (45 ∷ 45 ∷ octet ∷ rest) (before_first is_equals (octet ∷ rest)) (after_first is_equals (octet ∷ rest))
    (rw e refl) refl (rw e refl)
look_name octet rest false e = is_named (45 ∷ 45 ∷ octet ∷ rest) (before_first is_equals (octet ∷ rest)) (rw e refl)
    refl (rw e refl)

look_long : (rest : Text) → Look (45 ∷ 45 ∷ rest)
look_long [] = is_stray (45 ∷ 45 ∷ []) refl
look_long (octet ∷ rest) = look_name octet rest (list_any is_equals (octet ∷ rest)) refl

look_hyphen : (octet : ℕ) (rest : Text) (b : Bool) → (octet == 45) ≡ b → Look (45 ∷ octet ∷ rest)
look_hyphen octet rest true e = subst (λ n. Look (45 ∷ n ∷ rest)) (sym (eqb-true octet 45 e)) (look_long rest)
look_hyphen octet rest false e = is_stray (45 ∷ octet ∷ rest) (rw e refl)

look_behind : (rest : Text) → Look (45 ∷ rest)
look_behind [] = is_stray (45 ∷ []) refl
look_behind (octet ∷ rest) = look_hyphen octet rest (octet == 45) refl

look_first : (octet : ℕ) (rest : Text) (b : Bool) → (octet == 45) ≡ b → Look (octet ∷ rest)
look_first octet rest true e = subst (λ n. Look (n ∷ rest)) (sym (eqb-true octet 45 e)) (look_behind rest)
look_first octet rest false e = is_plain (octet ∷ rest) (rw e refl) (rw e refl) (rw e refl) (rw e refl)

pub look : (word : Text) → Look word
look [] = is_plain [] refl refl refl refl
look (octet ∷ rest) = look_first octet rest (octet == 45) refl

-- Pieces, one behind another, and what is said of them.
use Rattle.std.proofs.Common.{◌≡◌, ◌≢◌, ℕ, ◌+◌, ◌==◌, ◌<◌, ◌≤◌, ◌⊎◌, nat_lt, if◌then◌else◌, true, false, Bool, IsTrue, IfNone, IfOk, IfSome, OnErr, OnOk, Result, Ok, Err, Option, None, Some, List, [], ◌∷◌, ◌++◌, All, count_by, length, bytes_eq, refl, sym, ap, subst, ◌∙◌, inl, inr, arith, append_assoc, append-nil, length-append}
use Rattle.std.specs.Io.KnownBytes.{Appends}
use Rattle.std.specs.List.{slice_split}
use Rattle.std.proofs.KnownBytes.{Appends-nil}
use Rattle.std.proofs.lemmas.Bool.{eqb-false, eqb-true, le-ltb, lt-ltb}
use Rattle.std.proofs.lemmas.Grind.{flat_map-append}
use Rattle.std.proofs.lemmas.List.Elements.{All-head, All-nil, All-push, All-tail}
use Rattle.std.proofs.lemmas.List.Splits.{length-slice_split, slice_split_at, slice_split_none}
use Rattle.pc_outside.specs.Prefixes.{AppendsPrefix}
use Rattle.pc_outside.specs.InputRead.{HasRead, Reached}
use Rattle.pc_outside.specs.Texts.{Text, Texts, texts_of}
use Rattle.pc_outside.specs.WhereTold.{WhereTold}
use Rattle.pc_outside.specs.declared.input_stop.InputStop.TheVariants as stopped
use Rattle.pc_outside.specs.declared.writing.WriteFault.{WriteFault}
use Rattle.pc_outside.proofs.KnownOctets.{appends_both}
use Rattle.trace_lines.specs.Input.{Input, ended}
use Rattle.report_lines.specs.declared.entry.Entry.{Entry}
use Rattle.lawful_run.specs.Setup.{Setup}
use Rattle.lawful_run.specs.Trace.{stop_noted}
use Rattle.audit_core.specs.Along.{AreLawfulSoFar, Behind, GoesAlong, IsLawfulNext, RefutesNext, SaysAny, SaysLawful, SaysNo, SaysSome, SaysYes, Tells, behind_next, is_last, last_lawful, last_text, lawful_text, none_behind, pieces_of, refuted_text, said_in, turn}
use Rattle.audit_core.specs.Along as along
use Rattle.audit_core.specs.Findings.{finding_text}
use Rattle.audit_core.specs.Following.{EndsSaying, Follows, GoesOnSo, HasNoTurn, HearsPiece, IsLetGo, StopsSo, TellsEnd, TellsLawful, TellsNo, TellsYes, with_turns}
use Rattle.audit_core.specs.Ranks.{number_of}
use Rattle.audit_core.specs.Setups.{setup_of}
use Rattle.audit_core.specs.declared.auditing.Audited.{Audited}
use Rattle.audit_core.specs.declared.auditing.Audited.TheVariants as audited
use Rattle.audit_core.specs.declared.pieces.Pieces.{Pieces}
use Rattle.audit_core.specs.declared.sentence.Refutation.{Refutation}
use Rattle.audit_core.specs.declared.telling.Break.{Break}

abbrev is_turn : Text → Bool
is_turn text = bytes_eq text turn

-- the lines of pieces are parted where they were joined
pub parted : (prefix : List (List Text)) (rest : List Text) → All HasNoTurn prefix
    → pieces_of (with_turns prefix ++ rest) ≡ prefix ++ pieces_of rest
parted [] rest turned = refl
parted (piece ∷ prefix) rest turned =
    ap pieces_of (append_assoc (piece ++ turn ∷ []) (with_turns prefix) rest
    ∙ append_assoc piece (turn ∷ []) (with_turns prefix ++ rest))
    ∙ slice_split_at is_turn piece turn (with_turns prefix ++ rest) (All-head HasNoTurn piece prefix turned) refl
    ∙ ap (λ l. piece ∷ l) (parted prefix rest (All-tail HasNoTurn piece prefix turned))

pub parts_now : (prefix : List (List Text)) (piece texts : List Text) → texts ≡ with_turns prefix ++ piece
    → All HasNoTurn prefix → HasNoTurn piece → pieces_of texts ≡ prefix ++ piece ∷ []
parts_now prefix piece texts is turned unturned =
    ap pieces_of is ∙ parted prefix piece turned
    ∙ ap (λ l. prefix ++ l) (slice_split_none is_turn piece unturned)

parts_turned : (prefix : List (List Text)) (piece texts later : List Text) → texts ≡ with_turns prefix ++ piece
    → All HasNoTurn prefix → HasNoTurn piece
    → pieces_of ((texts ++ turn ∷ []) ++ later) ≡ prefix ++ piece ∷ pieces_of later
parts_turned prefix piece texts later is turned unturned =
    ap pieces_of (append_assoc texts (turn ∷ []) later ∙ ap (λ t. t ++ turn ∷ later) is
    ∙ append_assoc (with_turns prefix) piece (turn ∷ later))
    ∙ parted prefix (piece ++ turn ∷ later) turned
    ∙ ap (λ l. prefix ++ l) (slice_split_at is_turn piece turn later unturned refl)

-- the last piece of some lines, with others behind it
parts_later : (prefix : List (List Text)) (piece texts later : List Text) → texts ≡ with_turns prefix ++ piece
    → All HasNoTurn prefix → pieces_of (texts ++ later) ≡ prefix ++ pieces_of (piece ++ later)
parts_later prefix piece texts later is turned =
    ap pieces_of (ap (λ t. t ++ later) is ∙ append_assoc (with_turns prefix) piece later)
    ∙ parted prefix (piece ++ later) turned

more_follow : (later : List Text) → is_last (pieces_of later) ≡ false
more_follow later =
    let many : length (pieces_of later) ≡ count_by is_turn later + 1 = length-slice_split is_turn later in
    by (pieces_of later) (omega (arith, many))
  where
    by : (pieces : List (List Text)) → 0 < length pieces → is_last pieces ≡ false
    by [] many = absurd (omega (arith, many))
    by (piece ∷ pieces) many = refl

turns_more : (prefix : List (List Text)) (piece texts : List Text) → texts ≡ with_turns prefix ++ piece
    → texts ++ turn ∷ [] ≡ with_turns (prefix ++ piece ∷ []) ++ []
turns_more prefix piece texts is =
    ap (λ t. t ++ turn ∷ []) is ∙ append_assoc (with_turns prefix) piece (turn ∷ [])
    ∙ ap (λ l. with_turns prefix ++ l) (sym (append-nil (piece ++ turn ∷ [])))
    ∙ sym (flat_map-append (λ (own : List Text). own ++ turn ∷ []) prefix (piece ∷ []))
    ∙ sym (append-nil (with_turns (prefix ++ piece ∷ [])))

-- what was told of the end of a piece
pub tells_lawful : (setup : Setup) (known : Behind) (piece : List Text) (text : List ℕ) (new : Pieces)
    → IsLetGo false setup known piece new → text ≡ lawful_text new.epochs new.lines
    → TellsLawful setup known piece text new
tells_lawful setup known piece text new go is =
    let stop : (said_in known piece).stop ≡ ended = go.lawful.one.1 in
    let lines : new.lines ≡ length known.lines + length (said_in known piece).lines =
    omega (arith, go.lines, ap (λ s. length (stop_noted s)) stop) in
    record {
      entries = go.entries;
      lawful = go.lawful;
      hears = go.hears refl;
      is = is ∙ (λ i. lawful_text (go.epochs i) (lines i));
    }

last_same : (epochs before n : ℕ)
    → (if nat_lt before (before + n) then lawful_text epochs (before + n) else [])
    ≡ (if n == 0 then [] else lawful_text epochs (before + n))
last_same epochs before n = by (n == 0) refl
  where
    by : (test : Bool) → (n == 0) ≡ test
        → (if nat_lt before (before + n) then lawful_text epochs (before + n) else [])
        ≡ (if test then [] else lawful_text epochs (before + n))
    by true is =
        let none : n ≡ 0 = eqb-true n 0 is in
        ap (λ b. if b then lawful_text epochs (before + n) else [])
        (le-ltb before (before + n) (omega (arith, none)))
    by false is =
        let some : n ≢ 0 = eqb-false n 0 is in
        ap (λ b. if b then lawful_text epochs (before + n) else [])
        (lt-ltb before (before + n) (omega (arith, some)))

pub tells_yes : (setup : Setup) (known : Behind) (piece : List Text) (text : List ℕ) (old new : Pieces)
    → old.lines ≡ length known.lines → IsLetGo true setup known piece new
    → text ≡ (if nat_lt old.lines new.lines then lawful_text new.epochs new.lines else []) ++ finding_text None
    → TellsYes setup known piece text
tells_yes setup known piece text old new before go is =
    let n = length (said_in known piece).lines + length (stop_noted (said_in known piece).stop) in
    let lines : new.lines ≡ length known.lines + n = omega (arith, go.lines) in
    record {
      entries = go.entries;
      lawful = go.lawful;
      is = is ∙ ap (λ l. l ++ finding_text None)
          ((λ i. if nat_lt (before i) (lines i) then lawful_text (go.epochs i) (lines i) else [])
          ∙ last_same (known.epochs + 1) (length known.lines) n);
    }

pub tells_no : (last why : Bool) (setup : Setup) (known : Behind) (piece : List Text) (text : List ℕ)
    (found : Refutation) → RefutesNext setup known last piece (number_of found.sentence) found.place
    → text ≡ refuted_text why (number_of found.sentence) found.place → TellsNo last why setup known piece text
tells_no last why setup known piece text found refuted is = record {
  k = number_of found.sentence;
  told = found.place;
  refuted = refuted;
  is = is;
}

-- `TRACE` behind a piece
module _ (setup : Setup) (old new : Pieces) (texts : List Text) (said : List ℕ) (follows : Follows setup old texts said)
    (why : Bool) (lawful : Bool) (text : List ℕ)
    (told : TellsEnd false why (setup_of old.setup) follows.known follows.piece lawful text new)
    (same : new.setup ≡ old.setup) where
  module _ (yes : lawful ≡ true) where
    its : TellsLawful setup follows.known follows.piece text new
    its =
        subst (λ s. TellsLawful s follows.known follows.piece text new) follows.setup_is
        (subst (λ b. TellsEnd false why (setup_of old.setup) follows.known follows.piece b text new) yes told)

    so_now : AreLawfulSoFar setup (follows.prefix ++ follows.piece ∷ [])
        (behind_next setup follows.known false follows.piece its.entries) (said ++ text)
    so_now =
        subst (λ t. AreLawfulSoFar setup (follows.prefix ++ follows.piece ∷ [])
        (behind_next setup follows.known false follows.piece its.entries) (said ++ t)) (sym its.is)
        (along.goes_on follows.prefix follows.known said follows.piece its.entries follows.so its.lawful)

    pub follows_next : Follows setup new (texts ++ turn ∷ []) (said ++ text)
    follows_next = record {
      prefix = follows.prefix ++ follows.piece ∷ [];
      known = behind_next setup follows.known false follows.piece its.entries;
      piece = [];
      setup_is = ap setup_of same ∙ follows.setup_is;
      parts = turns_more follows.prefix follows.piece texts follows.parts;
      turned = All-push HasNoTurn follows.prefix follows.piece follows.turned follows.unturned;
      unturned = All-nil (λ text. bytes_eq text turn ≡ false);
      so = so_now;
      hears = its.hears;
    }

    pub some_next : (later : List Text) → SaysSome setup ((texts ++ turn ∷ []) ++ later) (said ++ text)
    some_next later = record {
      prefix = follows.prefix ++ follows.piece ∷ [];
      later = pieces_of later;
      known = behind_next setup follows.known false follows.piece its.entries;
      parts = parts_turned follows.prefix follows.piece texts later follows.parts follows.turned follows.unturned
          ∙ sym (append_assoc follows.prefix (follows.piece ∷ []) (pieces_of later));
      so = so_now;
    }

  module _ (no : lawful ≡ false) where
    refused : TellsNo false why setup follows.known follows.piece text
    refused =
        subst (λ s. TellsNo false why s follows.known follows.piece text) follows.setup_is
        (subst (λ b. TellsEnd false why (setup_of old.setup) follows.known follows.piece b text new) no told)

    pub no_next : (later : List Text) → SaysNo why setup ((texts ++ turn ∷ []) ++ later) (said ++ text)
    no_next later = record {
      prefix = follows.prefix;
      piece = follows.piece;
      later = pieces_of later;
      known = follows.known;
      said = said;
      k = refused.k;
      told = refused.told;
      parts = parts_turned follows.prefix follows.piece texts later follows.parts follows.turned follows.unturned;
      so = follows.so;
      refuted = subst (λ b. RefutesNext setup follows.known b follows.piece refused.k refused.told)
          (sym (more_follow later)) refused.refuted;
      is = ap (λ t. said ++ t) refused.is;
    }

  -- what is said was written, or the sink failed
  pub any_next : (later : List Text) → SaysAny why setup ((texts ++ turn ∷ []) ++ later) (said ++ text)
  any_next later = by lawful refl
    where
      by : (held : Bool) → lawful ≡ held → SaysAny why setup ((texts ++ turn ∷ []) ++ later) (said ++ text)
      by true is = inl (some_next is later)
      by false is = inr (inr (no_next is later))

-- no more lines come
module _ (setup : Setup) (old new : Pieces) (texts : List Text) (said : List ℕ) (follows : Follows setup old texts said)
    (why : Bool) (lawful : Bool) (text : List ℕ)
    (told : TellsEnd true why (setup_of old.setup) follows.known follows.piece lawful text new) where
  parts_all : pieces_of texts ≡ follows.prefix ++ follows.piece ∷ []
  parts_all = parts_now follows.prefix follows.piece texts follows.parts follows.turned follows.unturned

  all_lawful : lawful ≡ true → TellsYes setup follows.known follows.piece text
  all_lawful is =
      subst (λ s. TellsYes s follows.known follows.piece text) follows.setup_is
      (subst (λ b. TellsEnd true why (setup_of old.setup) follows.known follows.piece b text new) is told)

  one_refuted : lawful ≡ false → TellsNo true why setup follows.known follows.piece text
  one_refuted is =
      subst (λ s. TellsNo true why s follows.known follows.piece text) follows.setup_is
      (subst (λ b. TellsEnd true why (setup_of old.setup) follows.known follows.piece b text new) is told)

  pub yes_last : lawful ≡ true → SaysYes setup texts (said ++ text)
  yes_last is = record {
    prefix = follows.prefix;
    piece = follows.piece;
    known = follows.known;
    said = said;
    entries = (all_lawful is).entries;
    parts = parts_all;
    so = follows.so;
    lawful = (all_lawful is).lawful;
    is = ap (λ t. said ++ t) (all_lawful is).is;
  }

  pub no_last : lawful ≡ false → SaysNo why setup texts (said ++ text)
  no_last is = record {
    prefix = follows.prefix;
    piece = follows.piece;
    later = [];
    known = follows.known;
    said = said;
    k = (one_refuted is).k;
    told = (one_refuted is).told;
    parts = parts_all;
    so = follows.so;
    refuted = (one_refuted is).refuted;
    is = ap (λ t. said ++ t) (one_refuted is).is;
  }

  pub any_last : SaysAny why setup texts (said ++ text)
  any_last = by lawful refl
    where
      by : (held : Bool) → lawful ≡ held → SaysAny why setup texts (said ++ text)
      by true is = inr (inl (yes_last is))
      by false is = inr (inr (no_last is))

-- what was said before stands, whatever comes
module _ (setup : Setup) (own : Pieces) (texts : List Text) (said : List ℕ) (follows : Follows setup own texts said)
  where
    pub some_said : (later : List Text) → SaysSome setup (texts ++ later) said
    some_said later = record {
      prefix = follows.prefix;
      later = pieces_of (follows.piece ++ later);
      known = follows.known;
      parts = parts_later follows.prefix follows.piece texts later follows.parts follows.turned;
      so = follows.so;
    }

    pub some_here : SaysSome setup texts said
    some_here = subst (λ t. SaysSome setup t said) (append-nil texts) (some_said [])

    pub lawful_said : SaysLawful setup texts said
    lawful_said = record {
      prefix = follows.prefix;
      piece = follows.piece;
      known = follows.known;
      parts = parts_now follows.prefix follows.piece texts follows.parts follows.turned follows.unturned;
      so = follows.so;
    }

    -- one line more of the piece
    pub follows_line : (new : Pieces) (text : Text) → bytes_eq text turn ≡ false → new.setup ≡ own.setup
        → HearsPiece new follows.known (follows.piece ++ text ∷ []) → Follows setup new (texts ++ text ∷ []) said
    follows_line new text other same hears = record {
      prefix = follows.prefix;
      known = follows.known;
      piece = follows.piece ++ text ∷ [];
      setup_is = ap setup_of same ∙ follows.setup_is;
      parts = ap (λ t. t ++ text ∷ []) follows.parts
          ∙ append_assoc (with_turns follows.prefix) follows.piece (text ∷ []);
      turned = follows.turned;
      unturned = All-push (λ t. bytes_eq t turn ≡ false) follows.piece text follows.unturned other;
      so = follows.so;
      hears = hears;
    }

-- nothing was heard yet
pub follows_none : (setup : Setup) (own : Pieces) → setup_of own.setup ≡ setup → HearsPiece own none_behind []
    → Follows setup own [] []
follows_none setup own is hears = record {
  prefix = [];
  known = none_behind;
  piece = [];
  setup_is = is;
  parts = refl;
  turned = All-nil HasNoTurn;
  unturned = All-nil (λ text. bytes_eq text turn ≡ false);
  so = along.begins;
  hears = hears;
}

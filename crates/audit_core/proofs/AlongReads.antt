-- An input in pieces, read line by line.
use Rattle.std.proofs.Common.{◌≡◌, ◌≢◌, ℕ, ◌+◌, ◌<◌, ◌≤◌, ◌^◌, true, false, Bool, IfNone, IfSome, Option, None, Some, List, [], ◌∷◌, ◌++◌, length, refl, sym, ap, subst, ◌∙◌, arith}
use Rattle.std.specs.Io.KnownBytes.{Appends, prepend_known}
use Rattle.pc_outside.specs.InputRead.{HasRead, Reached}
use Rattle.pc_outside.specs.Line.{HoldsLine}
use Rattle.pc_outside.specs.LineReads.{Reads as LineReads}
use Rattle.pc_outside.specs.Texts.{Text, texts_of}
use Rattle.pc_outside.specs.WhereTold.{WhereTold}
use Rattle.pc_outside.specs.declared.input_stop.InputStop.TheVariants as stopped
use Rattle.pc_outside.specs.declared.reading.LineRead.TheVariants as read
use Rattle.pc_outside.proofs.InputLemmas.{ends_last, read_more, room_of_last, room_of_whole, told_still}
use Rattle.pc_outside.proofs.KnownOctets.{appends_both}
use Rattle.lawful_run.specs.Setup.{Setup}
use Rattle.audit_core.specs.Following.{Follows, GoesOnSo, Reads, weight_of}
use Rattle.audit_core.specs.declared.pieces.Pieces.{Pieces}
use Rattle.audit_core.proofs.AlongTold.{ended_later, read_later}

-- whether it is the last one or not, a line takes some room
pub room_any : (room after : ℕ) (octets rest line : List ℕ) (last : Bool)
    → HoldsLine room after octets rest line last → length line + after ≤ room
room_any room after octets rest line true holds =
    let taken = room_of_last room after octets rest line true refl holds in omega (arith, taken.0)
room_any room after octets rest line false holds =
    let taken = room_of_whole room after octets rest line false refl holds in omega (arith, taken)

-- what the source tells behind a line, whether more lines come or not
pub line_later : (start a left : Option (List ℕ)) (room after : ℕ) (line : Text) (last : Bool) (prefix : List ℕ)
    (done : List Text) → WhereTold start a (λ octets rest. HasRead octets rest room done)
    → LineReads read.Line room after a (prepend_known prefix left) line last
    → WhereTold start left (λ octets rest. (later : List Text) × ((texts_of octets).lines ≡ (done ++ line ∷ []) ++ later))
line_later start a left room after line true prefix done before reads =
    ended_later start left (done ++ line ∷ [])
    (ends_last start a left room after line true prefix done refl before reads)
line_later start a left room after line false prefix done before reads =
    read_later start left prefix after (done ++ line ∷ [])
    (told_still start a left room after read.Line line false prefix done before reads)
    (read_more start a (prepend_known prefix left) room after line false done refl before reads)

-- the input goes on
pub reads_on : (setup : Setup) (old new : Pieces) (start a b : Option (List ℕ)) (room after : ℕ)
    (begun mid now : Option (List ℕ)) (line : Text) (reads : Reads setup old start a room begun mid)
    → room ≡ length line + 1 + after
    → WhereTold start b (λ octets rest. HasRead octets rest after (reads.done ++ line ∷ []))
    → GoesOnSo setup new (reads.done ++ line ∷ []) reads.said mid now
    → weight_of new ≤ weight_of old + length line + 1
    → Reads setup new start b after begun now
reads_on setup old new start a b room after begun mid now line reads taken told goes weight = record {
  done = reads.done ++ line ∷ [];
  said = reads.said ++ goes.more;
  read = told;
  follows = goes.follows;
  written = appends_both begun mid now reads.said goes.more reads.written goes.written;
  roomy = omega (arith, reads.roomy, weight, taken);
}

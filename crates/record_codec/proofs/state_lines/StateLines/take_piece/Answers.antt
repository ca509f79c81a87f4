use Rattle.std.proofs.Common.{◌≢◌, ◌<◌, ◌⊎◌, length, refl, inl, inr}
use Rattle.record_codec.specs.StateText.{piece_len}
use Rattle.record_codec.proofs.StateLineLemmas.{goes_on, goes_broken}
use Rattle.record_codec.proofs.state_lines.StateLines.take_piece.Goals as goal
use Rattle.record_codec.proofs.state_lines.StateLines.take_piece.Goals.{then-self-ne-PIECE_LEN-via-then-self-ne-PIECE_LEN, then-self-ne-PIECE_LEN-via-else-self-ne-PIECE_LEN+then-piece-gt-PIECE_LEN}

pub returns-then-self : goal.returns-then-self
returns-then-self c = λ texts text heard is.
    goes_broken c.args.self.now c.args.self.now texts text c.args.piece.now heard is (inl c.if-self.true) c.if-self.true

pub returns-then-self-ne-PIECE_LEN : goal.returns-then-self-ne-PIECE_LEN
returns-then-self-ne-PIECE_LEN c = λ texts text heard is.
    let why : (c.args.self.now.last ≢ piece_len) ⊎ (piece_len < length c.args.piece.now) =
    elim c.then-self-ne-PIECE_LEN.branch [
      | then-self-ne-PIECE_LEN-via-then-self-ne-PIECE_LEN w ↦ inl w.if-self-ne-PIECE_LEN.true
      | then-self-ne-PIECE_LEN-via-else-self-ne-PIECE_LEN+then-piece-gt-PIECE_LEN w ↦ inr w.if-piece-gt-PIECE_LEN.true
    ] in
    goes_broken c.args.self.now _ texts text c.args.piece.now heard is (inr (c.if-self.false, why)) refl

pub returns : goal.returns
returns c = λ texts text heard is.
    goes_on c.args.self.now _ texts text c.args.piece.now heard is c.if-self.false c.if-self-ne-PIECE_LEN.false
    c.if-piece-gt-PIECE_LEN.false c.if-self.false c.in_ok-extend_from_slice.ensures.items refl

-- What a line asks, without a look at the book.
use Rattle.std.specs.Prelude.{ℕ, List}
use Rattle.control_steps.specs.declared.command.CommandKind.{CommandKind}
use Rattle.demux.specs.declared.packet.LentPacket.{LentPacket}

-- whom it is for: the subscriber of an IMSI, or that of a slot
pub data Whom : Type 0 where
  imsi : (digits : List ℕ) → Whom
  slot : (number : ℕ) → Whom

-- what it is for a subscriber of the book: a command, a packet, a move to a slice, or a note alone
pub data Wish : Type 0 where
  command : CommandKind → Wish
  packet : LentPacket → Wish
  move : (slice : ℕ) → Wish
  noted : (text : List ℕ) → Wish

-- What a line asks: nothing but a note; a command that brings its IMSI into the book, or a note where no slot is left;
-- or a wish, and the note where the subscriber isn't in the book.
pub data Asked : Type 0 where
  note : (text : List ℕ) → Asked
  admission : (imsi : List ℕ) → CommandKind → (full : List ℕ) → Asked
  of : Whom → Wish → (missing : List ℕ) → Asked

-- What is always true of a line buffer's fields.
use Rattle.std.specs.Prelude.{◌-◌, ◌<◌, ◌≤◌, vec_len}
use Rattle.pc_outside.specs.declared.line_buffer.LineBuf.TheInside.{Inside}
use Rattle.pc_outside.specs.Limits.{line_max, input_max}

-- the longest line and more has room, both parts lie in the buffer, and what is held was taken
pub record IsSound (buf : Inside) : Type 0 where
  pub size : line_max < vec_len buf.octets
  pub buffered : buf.from ≤ buf.to
  pub buffered_end : buf.to ≤ vec_len buf.octets
  pub line : buf.line_from ≤ buf.line_to
  pub line_end : buf.line_to ≤ vec_len buf.octets
  pub held : buf.to - buf.from ≤ buf.taken
  pub taken : buf.taken ≤ input_max

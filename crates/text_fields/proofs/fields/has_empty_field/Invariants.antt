use Rattle.std.proofs.Common.{◌≡◌, length}
use Rattle.text_fields.specs.Fields.{has_empty_field}
use Rattle.text_fields.proofs.fields.has_empty_field.Given as goal

abbrev pub invariant-loop-rest : goal.invariant-loop-rest
invariant-loop-rest l = has_empty_field l.text ≡ has_empty_field l.left

abbrev pub decreases-loop-rest : goal.decreases-loop-rest
decreases-loop-rest l = length l.left

use Rattle.std.proofs.Common.{length}
use Rattle.migration.proofs.DataSides.{fits_most}
use Rattle.migration.proofs.data_side.DataSide.into_end.Goals as goal

pub invariant_of-result : goal.invariant_of-result
invariant_of-result g c = record {
  known = c.args.self.laid.known;
  balanced = c.args.self.laid.balanced;
  weighed = c.args.self.laid.weighed;
  slots = c.args.self.laid.slots;
  fits = fits_most (length c.args.self.desks.items) c.args.self.room c.args.self.places.items
      c.args.self.laid.room_few c.args.self.laid.fits;
}

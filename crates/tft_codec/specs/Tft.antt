-- What a traffic flow template holds.
use Rattle.tft_codec.specs.declared.tft.Tft.{Tft}
use Rattle.tft_codec.specs.declared.tft.Tft.TheVariants.{Create, Delete, Add, Replace, Remove, Nothing}
use Rattle.tft_codec.specs.Filter.{ArePacketFilters, AreIds}

abbrev pub IsTft : Tft → Type 0
IsTft (Create filters) = ArePacketFilters filters
IsTft Delete = Unit {0}
IsTft (Add filters) = ArePacketFilters filters
IsTft (Replace filters) = ArePacketFilters filters
IsTft (Remove ids) = AreIds ids
IsTft Nothing = Unit {0}

use Rattle.qrcode_layout.proofs.FormatPlaces.{format_copies_are_indexed, format_places_are_in_copies}
use Rattle.qrcode_layout.proofs.laws.format_copies.Goals as goal

pub returns-clause-copies : goal.returns-clause-copies
returns-clause-copies c = format_copies_are_indexed

pub returns-clause-places : goal.returns-clause-places
returns-clause-places c = format_places_are_in_copies

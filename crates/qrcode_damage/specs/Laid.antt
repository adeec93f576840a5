-- Squares turned and mirrored.
use Rattle.qrcode_reader.specs.declared.positions.Position.{Position}
use Rattle.qrcode_reader.specs.declared.positions.Position.TheVariants.{Upright, TurnedLeft, UpsideDown, TurnedRight, Mirrored, Flipped, Transposed, Antitransposed}

abbrev pub opposite : Position → Position  -- the position that leads back
opposite Upright = Upright
opposite TurnedLeft = TurnedRight
opposite UpsideDown = UpsideDown
opposite TurnedRight = TurnedLeft
opposite Mirrored = Mirrored
opposite Flipped = Flipped
opposite Transposed = Transposed
opposite Antitransposed = Antitransposed

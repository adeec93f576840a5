-- The picture of a ticket.
use Rattle.std.specs.Prelude.{◌≡◌, ℕ, pos, true, false, List, decimal}
use Rattle.qrcode_types.specs.declared.types.Version.TheVariants.{Micro}
use Rattle.qrcode_types.specs.declared.types.EcLevel.TheVariants.{L}
use Rattle.qrcode_types.specs.declared.types.Color.{Color}
use Rattle.qrcode_render.specs.Picture.{picture}
use Rattle.qrcode_render.specs.Texts.{dense_text}
use Rattle.qrcode.specs.Acceptance.{IsLeastSymbol}
use Rattle.qrcode.specs.Pictures.{layout_in}

pub record IsTicket (number : ℕ) (text : List ℕ) : Type 0 where  -- the symbol of a number in decimal, for light text on a dark background
  pub colors : List Color
  pub symbol : IsLeastSymbol (Micro (pos 2)) L (decimal number) colors
  pub drawn : text ≡ dense_text false true (picture (layout_in 1 (Micro (pos 2))) colors)

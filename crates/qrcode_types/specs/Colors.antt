-- Colours.
use Rattle.std.specs.Prelude.{Bool, true, false}
use Rattle.qrcode_types.specs.declared.types.Color.{Color}
use Rattle.qrcode_types.specs.declared.types.Color.TheVariants.{Light, Dark}

abbrev pub opposite : Color → Color  -- the other colour
opposite Light = Dark
opposite Dark = Light

abbrev pub select_of : {T : Type 0} → Color → T → T → T  -- the first of two values for Dark, the second for Light
select_of Dark dark light = dark
select_of Light dark light = light

abbrev pub is_dark : Color → Bool  -- the colour is dark
is_dark Dark = true
is_dark Light = false

abbrev pub color_of : Bool → Color  -- dark for true, light for false
color_of true = Dark
color_of false = Light

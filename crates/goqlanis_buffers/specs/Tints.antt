-- The colours that parts of a code have of their own.
use Rattle.std.specs.Prelude.{ℕ, ◌-◌, ◌/◌, ◌%◌, ◌^◌, ◌==◌, nat_le, nat_lt, ◌&&◌, ◌||◌, pos, is_some, Bool, true, List, [], ◌∷◌, flat_map, string_bytes, Option, Some, None, unwrap_or, if◌then◌else◌}
use Rattle.std.specs.List.{list_all}
use Rattle.qrcode_types.specs.declared.types.Color.{Color}
use Rattle.qrcode_types.specs.declared.types.Color.TheVariants.{Dark, Light}
use Rattle.qrcode_types.specs.declared.types.Version.{Version}
use Rattle.qrcode_types.specs.declared.types.Version.TheVariants.{Normal, Micro}
use Rattle.qrcode_sheets.specs.Formats.{row}
use Rattle.qrcode_sheets.specs.declared.formats.Colours.{Colours}
use Rattle.qrcode_sheets.specs.declared.formats.Colours.TheVariants.{Any, Opaque, Fixed}
use Rattle.qrcode_sheets.specs.declared.formats.Format.{Format}
use Rattle.qrcode_sheets.specs.Sheets.{Shade, shade_of}
use Rattle.qrcode_sheets.specs.declared.layers.PartInk.{PartInk}
use Rattle.qrcode_sheets.specs.declared.parts.CodePart.{CodePart}
use Rattle.qrcode_sheets.specs.declared.parts.CodePart.TheVariants.{Finder, Alignment, Timing, FormatWord, VersionWord, Data}
use Rattle.goqlanis_buffers.specs.Colours.{colour_shade, named_shade}
use Rattle.goqlanis_buffers.specs.declared.pictures.Drawing.{Drawing}
use Rattle.goqlanis_buffers.specs.declared.tints.NamedTint.{NamedTint}
use Rattle.goqlanis_buffers.specs.declared.tints.Tint.{Tint}

abbrev pub tints : Drawing → List Tint  -- the colours of a drawing, for the dark and the light modules of each part
tints d =
    record { part = Finder; tone = Dark; colour = d.finder_dark } ∷ record { part = Finder; tone = Light; colour = d.finder_light } ∷
    record { part = Alignment; tone = Dark; colour = d.alignment_dark } ∷ record { part = Alignment; tone = Light; colour = d.alignment_light } ∷
    record { part = Timing; tone = Dark; colour = d.timing_dark } ∷ record { part = Timing; tone = Light; colour = d.timing_light } ∷
    record { part = FormatWord; tone = Dark; colour = d.format_dark } ∷ record { part = FormatWord; tone = Light; colour = d.format_light } ∷
    record { part = VersionWord; tone = Dark; colour = d.version_dark } ∷ record { part = VersionWord; tone = Light; colour = d.version_light } ∷
    record { part = Data; tone = Dark; colour = d.data_dark } ∷ record { part = Data; tone = Light; colour = d.data_light } ∷ []

abbrev pub has_common_colour : Tint → Bool  -- the modules have the colour of all dark or light ones
has_common_colour t = t.colour == 0xffffffff

abbrev pub is_plain : Drawing → Bool  -- no part has a colour of its own
is_plain d = list_all has_common_colour (tints d)

abbrev pub may_be : Colours → Tint → Bool  -- a part may have this colour of its own, or it has none
may_be Any t = true
may_be Opaque t = nat_lt t.colour (2 ^ 24) || has_common_colour t
may_be Fixed t = has_common_colour t

abbrev pub have_tints : Format → Drawing → Bool  -- the format supports the colours that parts have of their own
have_tints f d = list_all (may_be (row f).parts) (tints d)

-- the version with so many modules along a side, if there is one
abbrev pub version_across : ℕ → Option Version
version_across width =
    if nat_le 21 width && nat_le width 177 && width % 4 == 1 then Some (Normal (pos ((width - 17) / 4)))
    else (if nat_le 11 width && nat_le width 17 && width % 2 == 1 then Some (Micro (pos ((width - 9) / 2))) else None)

abbrev pub version_for : ℕ → Version  -- likewise, or version 1
version_for width = unwrap_or (version_across width) (Normal (pos 1))

-- it is known which modules belong to parts, if any has a colour of its own
abbrev pub has_parts : ℕ → Drawing → Bool
has_parts width d = is_some (version_across width) || is_plain d

-- the colour of the dark or the light modules of a part
pub record Paint : Type 0 where
  pub part : CodePart
  pub tone : Color
  pub shade : Shade

abbrev pub ink_paint : PartInk → Paint
ink_paint k = record { part = k.part; tone = k.tone; shade = shade_of k.ink }

abbrev pub named_paint : NamedTint → Paint
named_paint n = record { part = n.tint.part; tone = n.tint.tone; shade = named_shade (string_bytes n.name) n.tint.colour }

abbrev pub paint_in : Tint → List Paint  -- the colour, if it is one of its own
paint_in t = if has_common_colour t then [] else record { part = t.part; tone = t.tone; shade = colour_shade t.colour } ∷ []

abbrev pub paints : Drawing → List Paint  -- the colours that parts have of their own, in order
paints d = flat_map paint_in (tints d)

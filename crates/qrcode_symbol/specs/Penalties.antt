-- The penalty of colours, and the first mask with the lowest penalty.
use Rattle.std.specs.Prelude.{ℕ, ◌*◌, ◌/◌, ◌%◌, ◌-◌, ◌<◌, ◌≤◌, not, Bool, List, map, slice_index_or, IsTrue, Some, None}
use Rattle.std.specs.List.{range_with_len}
use Rattle.qrcode_types.specs.Bits.{has_bit}
use Rattle.qrcode_types.specs.Colors.{is_dark, color_of}
use Rattle.qrcode_types.specs.Versions.{side}
use Rattle.qrcode_types.specs.declared.types.Version.{Version}
use Rattle.qrcode_types.specs.declared.types.Version.TheVariants.{Normal, Micro}
use Rattle.qrcode_types.specs.declared.types.EcLevel.{EcLevel}
use Rattle.qrcode_types.specs.declared.types.Color.{Color}
use Rattle.qrcode_types.specs.declared.types.Color.TheVariants.{Light}
use Rattle.qrcode_penalty.specs.Penalty.{same, normal_penalty, micro_penalty}
use Rattle.qrcode_penalty.specs.Rows.{inside}
use Rattle.qrcode_layout.specs.Masks.{turns, turned_if, exists_in, mask_number}
use Rattle.qrcode_layout.specs.Words.{format_word}
use Rattle.qrcode_layout.specs.Patterns.{format_index, pattern}
use Rattle.qrcode_layout.specs.Stream.{color_at}
use Rattle.qrcode_layout.specs.declared.masks.MaskPattern.{MaskPattern}

-- column x and row y are inside the symbol, and the module there is dark
abbrev pub is_dark_at : Version → List Color → ℕ → ℕ → Bool
is_dark_at v s = inside (side v) (λ x y. is_dark (color_at v s x y))

-- the penalty of a square of this version, given by which of its places are dark
abbrev pub penalty_of : Version → (ℕ → ℕ → Bool) → ℕ
penalty_of (Normal v) dark = normal_penalty (side (Normal v)) dark
penalty_of (Micro v) dark = micro_penalty (side (Micro v)) dark

-- the penalty of colours in row order
unfoldable pub penalty : Version → List Color → ℕ
penalty v s = penalty_of v (is_dark_at v s)

-- the colour of a place if the mask were j instead of k; `word` is the format word of j
unfoldable pub remasked_at : Version → ℕ → MaskPattern → MaskPattern → ℕ → ℕ → Color → Color
remasked_at v word k j x y c =
    elim (format_index v x y) [
      | Some i ↦ color_of (has_bit word (14 - i))
      | None ↦
          elim (pattern v x y) [
            | Some p ↦ c
            | None ↦ color_of (turned_if (not (same (turns k x y) (turns j x y))) (is_dark c))
          ]
    ]

-- all colours if the mask were j instead of k
unfoldable pub remasked : Version → EcLevel → MaskPattern → MaskPattern → List Color → List Color
remasked v l k j s =
    let word = format_word v l j in let w = side v in
    map (λ i. remasked_at v word k j (i % w) (i / w) (slice_index_or s i Light)) (range_with_len 0 (w * w))

-- s are colours under mask k; no mask of the version gives a lower penalty than k, and none before k gives the same one
pub record IsFirstLeast (v : Version) (l : EcLevel) (k : MaskPattern) (s : List Color) : Type 0 where
  pub least : (j : MaskPattern) → IsTrue (exists_in v j) → penalty v s ≤ penalty v (remasked v l k j s)
  pub first : (j : MaskPattern) → IsTrue (exists_in v j) → mask_number j < mask_number k → penalty v s < penalty v (remasked v l k j s)

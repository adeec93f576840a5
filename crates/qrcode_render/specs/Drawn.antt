-- What a canvas draws for the modules of a symbol, as a sequence of steps.
use Rattle.std.specs.Prelude.{ℕ, ◌+◌, ◌*◌, ◌/◌, ◌%◌, List, [], ◌∷◌, fold}
use Rattle.std.specs.List.{range_with_len}
use Rattle.qrcode_types.specs.declared.types.Color.{Color}
use Rattle.qrcode_types.specs.declared.types.Color.TheVariants.{Light, Dark}
use Rattle.qrcode_types.specs.Colors.{select_of}
use Rattle.qrcode_render.specs.Layout.{Layout}

-- the i-th module, drawn as a rectangle if it is dark
abbrev pub module_step : {D : Type 0} → (ℕ → ℕ → ℕ → ℕ → D → D) → Layout → ℕ → Color → D → D
module_step rect at i Light d = d
module_step rect at i Dark d = rect ((i % at.count + at.zone) * at.across) ((i / at.count + at.zone) * at.down) at.across at.down d

-- the dark modules from the i-th on, each drawn as a rectangle, in row order
abbrev pub drawn_from : {D : Type 0} → (ℕ → ℕ → ℕ → ℕ → D → D) → Layout → ℕ → List Color → D → D
drawn_from rect at i [] d = d
drawn_from rect at i (c ∷ content) d = drawn_from rect at (i + 1) content (module_step rect at i c d)

-- a drawing after the dark modules of the content were drawn on it
abbrev pub drawn : {D : Type 0} → (ℕ → ℕ → ℕ → ℕ → D → D) → Layout → List Color → D → D
drawn rect at content d = drawn_from rect at 0 content d

-- a rectangle, drawn pixel by pixel, row by row
abbrev pub filled : {D : Type 0} → (ℕ → ℕ → D → D) → ℕ → ℕ → ℕ → ℕ → D → D
filled pixel left top width height d = fold (λ e y. fold (λ f x. pixel x y f) e (range_with_len left width)) d (range_with_len top height)

-- the dark modules of a row, each drawn as a rectangle, the first in column `left` and row `top`
abbrev pub drawn_row : {D : Type 0} → (ℕ → ℕ → ℕ → ℕ → D → D) → ℕ → ℕ → ℕ → ℕ → List Color → D → D
drawn_row rect left top width height [] d = d
drawn_row rect left top width height (c ∷ line) d = drawn_row rect (left + width) top width height line (select_of c (rect left top width height d) d)

-- The text of PIC.
use Rattle.std.specs.Prelude.{ℕ, List, [], ◌++◌, codes, decimal}
use Rattle.qrcode_types.specs.declared.types.Color.{Color}
use Rattle.qrcode_render.specs.Drawn.{drawn}
use Rattle.qrcode_render.specs.Layout.{Layout, pixels_across, pixels_down}

-- the text before the first box
abbrev pub pic_start : ℕ → ℕ → List ℕ
pic_start w h =
    codes "maxpswid=" ++ (decimal w ++ (codes ";maxpsht=" ++ (decimal h ++ codes ";movewid=0;moveht=1;boxwid=1;boxht=1\ndefine p { box wid $3 ht $4 fill 1 with .nw at $1,-$2 }\nbox wid maxpswid ht maxpsht with .nw at 0,0\n")))

-- the text followed by the box of a rectangle
abbrev pub pic_rect : ℕ → ℕ → ℕ → ℕ → List ℕ → List ℕ
pic_rect left top width height text =
    text ++ (codes "p(" ++ (decimal left ++ (codes "," ++ (decimal top ++ (codes "," ++ (decimal width ++ (codes "," ++ (decimal height ++ codes ")\n"))))))))

-- nothing follows the last box
abbrev pub pic_end : List ℕ
pic_end = []

-- the picture of modules
abbrev pub pic_text : Layout → List Color → List ℕ
pic_text at content = drawn pic_rect at content (pic_start (pixels_across at) (pixels_down at)) ++ pic_end

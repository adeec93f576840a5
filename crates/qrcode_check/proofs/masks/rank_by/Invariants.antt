use Rattle.std.proofs.Common.{◌≡◌, map, take}
use Rattle.qrcode_layout.specs.Masks.{masks_of}
use Rattle.qrcode_symbol.specs.Penalties.{remasked}
use Rattle.qrcode_check.specs.Forms.{counted}
use Rattle.qrcode_check.proofs.masks.rank_by.Given as goal

abbrev pub invariant-loop-number : goal.invariant-loop-number
invariant-loop-number l = l.numbers.items ≡ map (λ j. counted l.by l.version (remasked l.version l.ec_level l.mask j l.modules)) (take l.number (masks_of l.version))

use Rattle.std.proofs.Common.{◌≡◌, map, take}
use Rattle.qrcode_gs1.specs.Items.{item}
use Rattle.goqlanis_buffers.specs.Elements.{items_of, AreTexts}
use Rattle.goqlanis_buffers.proofs.elements.elements_of.Given as goal

-- the elements so far are borrowed, and are UTF-8
abbrev pub invariant-loop-place : goal.invariant-loop-place
invariant-loop-place l = record { made : map item l.elements.items ≡ items_of (take l.place l.fn.parts); texts : AreTexts l.fn.parts l.place }

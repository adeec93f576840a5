use Rattle.std.proofs.Common.{◌≡◌, map, take}
use Rattle.qrcode_gs1.specs.Items.{item}
use Rattle.goqlanis_make.specs.Labels.{items_of}
use Rattle.goqlanis_make.proofs.elements.Elements.elements.Given as goal

-- so many elements are made
abbrev pub invariant-loop-identifier : goal.invariant-loop-identifier
invariant-loop-identifier l = map item l.elements.items ≡ items_of (take l.identifier-index l.self.items.items)

use Rattle.std.proofs.Common.{◌≡◌, ◌++◌, map, drop}
use Rattle.qrcode_gs1.specs.Items.{item}
use Rattle.qrcode_gs1.specs.Elements.{separator, element_string}
use Rattle.qrcode_gs1.proofs.elements.written.Given as goal

abbrev pub invariant-loop-element : goal.invariant-loop-element
invariant-loop-element l =
    l.bytes.items ++ (separator l.open (map item (drop l.element-index l.elements)) ++ element_string (map item (drop l.element-index l.elements)))
    ≡ element_string (map item l.elements)

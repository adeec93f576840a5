-- An element as its identifier and value.
use Rattle.qrcode_gs1.specs.declared.elements.Element.{Element}
use Rattle.qrcode_gs1.specs.Elements.{Item}

abbrev pub item : Element → Item
item element = (element.identifier.now, element.value.now)

use Rattle.std.proofs.Common.{◌≡◌, ℕ, ℤ, to_z, of_z, w16, ◌++◌, ◌∷◌, [], take, ◌+◌, ◌*◌, append-nil, get_or, sym, ap, ap₂, ◌∙◌, arith}
use Rattle.std.proofs.lemmas.List.{take_more_set}
use Rattle.qrcode_types.specs.declared.types.Color.TheVariants.{Light}
use Rattle.qrcode_types.specs.Colors.{is_dark}
use Rattle.qrcode_layout.specs.Masks.{turned_if}
use Rattle.qrcode_types.specs.Versions.{side}
use Rattle.qrcode_symbol.specs.Canvas.{Drawing, module_index, with_patterns, blank}
use Rattle.qrcode_symbol.specs.declared.canvas.Module.TheVariants.{Empty}
use Rattle.qrcode_reader.proofs.Walked.{no_bit, one_bit, signed}
use Rattle.qrcode_reader.proofs.walk.put_module.Goals as goal
use Rattle.qrcode_reader.proofs.walk.put_module.Goals.{After-get}

module_there : (c : After-get) → c.get.result ≡ get_or (with_patterns c.args.version (blank c.args.version)) (c.args.y * side c.args.version + c.args.x) Empty
module_there c =
    c.get.ensures
    ∙ ap (λ (d : Drawing). get_or d.modules (module_index d.version (to_z w16 (of_z w16 c.coordinate-column.result)) (to_z w16 (of_z w16 c.coordinate-row.result))) Empty) c.requires.patterns
    ∙ ap₂ (λ (a b : ℤ). get_or (with_patterns c.args.version (blank c.args.version)) (module_index c.args.version a b) Empty) (signed c.coordinate-column.result c.args.x c.coordinate-column.ensures c.coordinate-column.type_inv) (signed c.coordinate-row.result c.args.y c.coordinate-row.ensures c.coordinate-row.type_inv)

pub returns-in_default-clause-value : goal.returns-in_default-clause-value
returns-in_default-clause-value c =
    let k = (goal.at.returns-in_default-clause-value c).After-get in
    let front = take c.args.count c.args.bits.now in
    sym (ap (λ r. front ++ r) (no_bit c.args.version c.args.is_turned c.args.modules.now c.args.x c.args.y c.get.result c.requires.column c.requires.row (module_there k) c.in_default.not-Empty) ∙ append-nil front)

pub returns-clause-value : goal.returns-clause-value
returns-clause-value c =
    let k = (goal.at.returns-clause-value c).After-get in
    let front = take c.args.count c.args.bits.now in
    let one = one_bit c.args.version c.args.is_turned c.args.modules.now c.args.x c.args.y c.get.result c.requires.column c.requires.row (module_there k) c.in-Empty.is in
    let bit = c.bit_of.ensures ∙ ap (λ (w : ℕ). turned_if c.args.is_turned (is_dark (get_or c.args.modules.now (c.args.y * w + c.args.x) Light))) c.side.ensures.value in
    take_more_set c.args.bits.now c.args.count c.bit_of.result (omega arith) ∙ ap (λ r. front ++ r) (ap (λ b. b ∷ []) bit ∙ sym one)

use Rattle.std.proofs.Common.{List, subst, ◌∙◌}
use Rattle.std.proofs.lemmas.List.{length-map}
use Rattle.qrcode_types.specs.declared.types.Color.{Color}
use Rattle.qrcode_types.specs.declared.types.EcLevel.{EcLevel}
use Rattle.qrcode_layout.specs.declared.masks.MaskPattern.{MaskPattern}
use Rattle.qrcode_reader.specs.Formats.{HasFormat}
use Rattle.goqlanis_buffers.proofs.reading.format_of.Goals as goal

pub returns-clause-causes : goal.returns-clause-causes
returns-clause-causes c =
    let v = c.in-Some.version in
    let same = c.deref.ensures.value ∙ c.in_ok-colors.ensures.value in
    let none = subst (λ (s : List Color). (l : EcLevel) (k : MaskPattern) → ¬ HasFormat v s l k) same c.in-None.ensures.none in
    record { version = v; valid = c.in-Some.ensures.some.0; square = length-map c.args.modules.now _ ∙ c.in-Some.ensures.some.1; none = none }

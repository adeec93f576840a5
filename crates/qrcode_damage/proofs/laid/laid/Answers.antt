use Rattle.std.proofs.Common.{◌≡◌, ◌∙◌, ◌*◌, false, ap, ap₂, length, List, sym, arith}
use Rattle.std.proofs.lemmas.Result.{IfOk-weaker}
use Rattle.qrcode_types.specs.Versions.{side}
use Rattle.qrcode_types.specs.declared.types.Color.{Color}
use Rattle.qrcode_reader.specs.Positions.{seen}
use Rattle.qrcode_reader.proofs.Positioned.{length-seen}
use Rattle.qrcode_damage.specs.Laid.{opposite}
use Rattle.qrcode_damage.proofs.Turned.{laid_and_seen}
use Rattle.qrcode_damage.proofs.laid.laid.Goals as goal

pub returns-clause-seen : goal.returns-clause-seen
returns-clause-seen c =
    let w = side c.args.version in
    let s = c.args.modules.now in
    IfOk-weaker c.seen.result (λ colors. colors.items ≡ seen c.side.result c.opposite.result false s) (λ colors. seen w c.args.position false colors.items ≡ s)
    (λ colors is.
    ap (λ (t : List Color). seen w c.args.position false t)
    (is ∙ ap₂ (λ n p. seen n p false s) c.side.ensures.value c.opposite.ensures)
    ∙ laid_and_seen w c.args.position s (omega (arith, c.side.ensures.value, c.side.ensures.at_least)) c.requires.square)
    c.seen.ensures

pub returns-clause-square : goal.returns-clause-square
returns-clause-square c =
    let s = c.args.modules.now in
    IfOk-weaker c.seen.result (λ colors. colors.items ≡ seen c.side.result c.opposite.result false s) (λ colors. length colors.items ≡ length s)
    (λ colors is. ap length is ∙ length-seen c.side.result c.opposite.result false s ∙ ap (λ n. n * n) c.side.ensures.value ∙ sym c.requires.square)
    c.seen.ensures

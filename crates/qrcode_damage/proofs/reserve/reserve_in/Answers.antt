use Rattle.std.proofs.Common.{◌/◌, IfSome, subst, sym, ap, ◌∙◌, arith}
use Rattle.qrcode_types.specs.Blocks.{AreBlocks}
use Rattle.qrcode_damage.specs.Areas.{covers}
use Rattle.qrcode_damage.proofs.Bounds.{is_reserve, length_counts, some_block}
use Rattle.qrcode_damage.proofs.reserve.reserve_in.Goals as goal

pub greatest-worst-requires : goal.greatest-worst-requires
greatest-worst-requires c =
    let v = c.args.version in
    let l = c.args.ec_level in
    let are = subst (λ o. IfSome o (AreBlocks v l)) c.unwrap-blocks.ensures c.of.ensures.value in
    omega (arith, some_block v l c.unwrap-blocks.result are, length_counts v l (covers c.args.area.now) c.deref.result.now (c.deref.ensures.value ∙ c.in_ok-touched.ensures))

pub returns : goal.returns
returns c =
    let v = c.args.version in
    let l = c.args.ec_level in
    let are = subst (λ o. IfSome o (AreBlocks v l)) c.unwrap-blocks.ensures c.of.ensures.value in
    let g = c.greatest-worst.ensures in
    is_reserve v l (covers c.args.area.now) _ c.deref.result.now c.deref.ensures.value c.in_ok-touched.ensures g.inside g.value g.at_least g.earlier
    (ap (λ n. n / 2) (sym (ap (λ e. e.0) are))) c.touched_places.ensures c.touched_places-2.ensures

use Rattle.std.proofs.Common.{◌≡◌, ◌<◌, ◌∙◌, ℕ, List, length, get_or, refl, sym, subst, arith}
use Rattle.qrcode_types.specs.Versions.{side}
use Rattle.qrcode_damage.specs.Areas.{LeavesReserve, covers}
use Rattle.qrcode_damage.specs.Reserves.{IsReserve}
use Rattle.qrcode_damage.specs.declared.areas.Rectangle.{Rectangle}
use Rattle.qrcode_damage.proofs.Bounds.{agrees_along}
use Rattle.qrcode_damage.proofs.Shown.{area_is_read, area_keeps_bits}
use Rattle.goqlanis_buffers.specs.Areas.{covered_byte}
use Rattle.goqlanis_buffers.specs.Shades.{colors_of}
use Rattle.goqlanis_buffers.proofs.Covered.{agrees, may_not, may_show}
use Rattle.goqlanis_buffers.proofs.areas.cover.Goals as goal

pub returns-then-is_some : goal.returns-then-is_some
returns-then-is_some c =
    let f = c.in_ok-format.format in
    let named = c.in_ok-format.ensures in
    let area = covers c.args.rectangles.now in
    let h = subst (λ (a : List Rectangle). IsReserve f.version f.level (covers a) c.in-Ok.reserve) c.in-Some.ensures.value c.in-Ok.ensures in
    let left : LeavesReserve f.version f.level area 0 = λ b below. omega (arith, h.worst b below, h.most, h.allowed, c.if-reserve.false) in
    let over = may_not f.version f.level area c.excess.result (c.excess.ensures f.version f.level area h) (sym c.is_some.ensures ∙ c.if-is_some.true) in record {
      made = tt;
      unchanged = refl;
      causes = (
        f.version,
        (
          f.level,
          (
            record { named = record { square = named.square; mask = f.mask; format = named.named }; inside = sym c.in-Some.ensures.inside },
            (left, λ keeps. over (record { blocks = λ b below. omega (arith, left b below); format = keeps })),
          ),
        ),
      );
    }

pub returns : goal.returns
returns c =
    let f = c.in_ok-format.format in
    let v = f.version in
    let named = c.in_ok-format.ensures in
    let area = covers c.args.rectangles.now in
    let old = c.args.modules.now in
    let new = c.lighten.new.modules in
    let h = subst (λ (a : List Rectangle). IsReserve v f.level (covers a) c.in-Ok.reserve) c.in-Some.ensures.value c.in-Ok.ensures in
    let may = may_show v f.level area c.excess.result (c.excess.ensures v f.level area h) (sym c.is_some.ensures ∙ c.if-is_some.false) in
    let here = subst (λ (n : ℕ). (i : ℕ) → i < length old → get_or new i 0 ≡ covered_byte n (covers c.in-Some.area) old i) c.side.ensures.value c.lighten.ensures.each in
    let each = subst (λ (a : List Rectangle). (i : ℕ) → i < length old → get_or new i 0 ≡ covered_byte (side v) (covers a) old i) c.in-Some.ensures.value here in
    let shown = agrees_along v area (colors_of old) (colors_of new) in
    let light = agrees v area old new named.square c.lighten.ensures.length each in record {
      made = record {
        v = v;
        l = f.level;
        named = record { square = named.square; mask = f.mask; format = named.named };
        inside = sym c.in-Some.ensures.inside;
        may = may;
        same_length = c.lighten.ensures.length;
        each = each;
        read = λ bits bytes other encodes beside. area_is_read v f.level bits bytes area (colors_of old) other encodes may (shown other light beside);
        read_bits = λ bits other encodes beside. area_keeps_bits v f.level bits area (colors_of old) other encodes may (shown other light beside);
      };
      unchanged = tt;
      causes = tt;
    }

use Rattle.std.proofs.Common.{◌≡◌, ◌-◌, ◌*◌, ◌++◌, ℕ, sym, ap, ◌∙◌, arith}
use Rattle.qrcode_types.specs.Versions.{side}
use Rattle.qrcode_damage.specs.Areas.{covers}
use Rattle.qrcode_damage.specs.Counting.{mark_at, area_marks}
use Rattle.qrcode_damage.proofs.Steps.{none_marked, marked_more, all_marked}
use Rattle.qrcode_damage.proofs.marks.marks.Goals as goal

pub loop-t-init : goal.loop-t-init
loop-t-init c = c.new-found.ensures.items ∙ sym (none_marked c.args.version (covers c.args.area.now))

pub loop-t-preserved : goal.loop-t-preserved
loop-t-preserved c =
    let area = covers c.args.area.now in
    let v = c.args.version in
    let t = c.loop-t.t in
    c.in_ok-push_mark.ensures
    ∙ ap (λ xs. xs ++ mark_at v area c.place-x.result) c.loop-t.invariant
    ∙ ap (λ (p : ℕ × ℕ). area_marks v area t ++ mark_at v area p) c.place-x.ensures.value
    ∙ sym (marked_more v area t)

pub returns : goal.returns
returns c =
    let w = c.side-width.ensures.value in
    let same : c.side-width.result * (c.side-width.result - 1) ≡ side c.args.version * (side c.args.version - 1) = ap (λ n. n * (n - 1)) w in
    let all : c.loop-t.t ≡ side c.args.version * (side c.args.version - 1) = omega (arith, same) in
    c.loop-t.invariant ∙ all_marked c.args.version (covers c.args.area.now) c.loop-t.t all

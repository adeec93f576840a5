use Rattle.std.proofs.Common.{◌<◌, ◌≡◌, ◌+◌, ◌*◌, ◌++◌, take, ap, ◌∙◌, append-nil, mul-add, ◌-◌, arith}
use Rattle.qrcode_types.specs.Versions.{side}
use Rattle.qrcode_symbol.specs.Filling.{row_of_step}
use Rattle.qrcode_reader.specs.Streams.{bits_walked}
use Rattle.qrcode_reader.proofs.Walked.{row_more, written_behind}
use Rattle.qrcode_reader.proofs.walk.push_pair.Goals as goal

pub loop-step-init : goal.loop-step-init
loop-step-init c = record {
  at_most = omega arith;
  value = append-nil c.args.bits.now.items ∙ c.requires.walked ∙ ap (bits_walked c.args.version c.args.turned.now.mask c.args.modules.now) (let e : 2 * side c.args.version * c.args.pair ≡ 2 * side c.args.version * c.args.pair + 2 * 0 = omega arith in e);
}

pub loop-step-preserved : goal.loop-step-preserved
loop-step-preserved c =
    let v = c.args.version in
    let k = c.args.turned.now.mask in
    let s = c.args.modules.now in
    let w = c.side-width.ensures.value in
    let right = c.right_column-right.result in
    let row = c.row_of_step-row.result in
    let inside : row < c.args.turned.now.height = omega (arith, c.row_of_step-row.ensures.inside, w, c.requires.turned) in
    let bits = c.args.bits.now.items in
    let none = take c.loop-step.count c.loop-step.found in
    let one = take c.put_module-count.result c.put_module-count.new.bits in
    let two = take c.put_module-count-in-loop-step.result c.put_module-count-in-loop-step.new.bits in
    record {
      at_most = omega (arith, c.loop-step.invariant.at_most, c.put_module-count.ensures.at_most, c.put_module-count-in-loop-step.ensures.at_most);
      value =
          row_more v k s c.args.pair c.loop-step.step (bits ++ none) (bits ++ one) (bits ++ two) right row (rw (← w) c.loop-step-test.true) c.right_column-right.ensures.value
          (c.row_of_step-row.ensures.value ∙ ap (λ n. row_of_step n c.args.pair c.loop-step.step) w)
          c.loop-step.invariant.value
          (written_behind v k s right row _ bits none one (c.column-right_turned.ensures row inside) c.put_module-count.ensures.value)
          (written_behind v k s (right - 1) row _ bits one two (c.column-left_turned.ensures row inside) c.put_module-count-in-loop-step.ensures.value);
    }

pub returns : goal.returns
returns c =
    let w = 2 * side c.args.version in
    let step : c.loop-step.step ≡ side c.args.version = omega (arith, c.side-width.ensures.value) in
    let all : w * c.args.pair + 2 * c.loop-step.step ≡ w * (c.args.pair + 1) = omega (arith, step, mul-add w c.args.pair 1) in
    c.in_ok-extend_from_slice.ensures.items ∙ c.loop-step.invariant.value ∙ ap (bits_walked c.args.version c.args.turned.now.mask c.args.modules.now) all

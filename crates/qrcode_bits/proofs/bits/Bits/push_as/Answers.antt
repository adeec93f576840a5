use Rattle.std.proofs.Common.{◌≡◌, ◌≤◌, length, IsTrue, Ok, arith, sym, ap, subst, ◌∙◌}
use Rattle.qrcode_types.specs.Versions.{is_valid}
use Rattle.qrcode_bits.specs.BitList.{BitList}
use Rattle.qrcode_bits.specs.Manners.{has_front, modes_of}
use Rattle.qrcode_bits.specs.Cuts.{IsLeastCutIn}
use Rattle.qrcode_bits.specs.Pushes.{PushesAll}
use Rattle.qrcode_bits.specs.Refusals.{data_limit, StopsAt}
use Rattle.qrcode_bits.specs.TextPushes.{PushesText}
use Rattle.qrcode_bits.specs.Written.{pieces_of}
use Rattle.qrcode_bits.proofs.CutPieces.{cut_inside}
use Rattle.qrcode_bits.proofs.TextPushes.{long_text, unmarked_text, uncut_text, full_list, starved_text, refused_text, appended_text}
use Rattle.qrcode_bits.proofs.bits.Bits.push_as.Goals as goal
use Rattle.qrcode_bits.proofs.bits.Bits.push_as.Goals.{In_ok-chosen}

pub returns-then-text-gt-DATA_LIMIT : goal.returns-then-text-gt-DATA_LIMIT
returns-then-text-gt-DATA_LIMIT c = long_text c.args.manner c.args.text.now c.args.self.now (omega (arith, c.if-text-gt-DATA_LIMIT.true))

pub returns-then-not-has_front : goal.returns-then-not-has_front
returns-then-not-has_front c =
    unmarked_text c.args.manner c.args.text.now c.args.self.now c.self.inside.version (ap (λ (b : BitList). b.version) c.self.view_is) (omega (arith, c.if-text-gt-DATA_LIMIT.false))
    (sym c.has_front.ensures ∙ c.if-not-has_front.true)

pub returns-in_err-chosen : goal.returns-in_err-chosen
returns-in_err-chosen c =
    let e = c.in_err-chosen.field-0.0 in
    uncut_text c.args.manner c.args.text.now c.args.self.now c.self.inside.version e c.from_residual.result (ap (λ (b : BitList). b.version) c.self.view_is) (omega (arith, c.if-text-gt-DATA_LIMIT.false))
    (sym c.has_front.ensures ∙ c.if-not-has_front.false) c.in_err-chosen.ensures.refusals.causes (λ none. (let h = c.in_err-chosen.ensures.refusals.no_cut none in cc)) c.in_err-chosen.ensures.refusals.accepts c.from_residual.ensures

-- the version and bits of the list, as its fields say
version : (c : In_ok-chosen) → c.self.inside.version ≡ c.args.self.now.version
version c = ap (λ (b : BitList). b.version) c.self.view_is

valid : (c : In_ok-chosen) → IsTrue (is_valid c.args.self.now.version)
valid c = subst (λ v. IsTrue (is_valid v)) (version c) c.self.invariant.0

has : (c : In_ok-chosen) → IsTrue (has_front c.args.self.now.version c.args.manner)
has c = subst (λ v. IsTrue (has_front v c.args.manner)) (version c) (sym c.has_front.ensures ∙ c.if-not-has_front.false)

least : (c : In_ok-chosen) → IsLeastCutIn (modes_of c.args.manner) c.args.self.now.version c.args.text.now c.in_ok-chosen.chosen.segments.items
least c = subst (λ v. IsLeastCutIn (modes_of c.args.manner) v c.args.text.now c.in_ok-chosen.chosen.segments.items) (version c) c.in_ok-chosen.ensures.measured.least

short : (c : In_ok-chosen) → length c.args.text.now ≤ data_limit
short c = omega (arith, c.if-text-gt-DATA_LIMIT.false)

pub returns-then-len-front_length-gt-BIT_LIMIT : goal.returns-then-len-front_length-gt-BIT_LIMIT
returns-then-len-front_length-gt-BIT_LIMIT c =
    let k = (goal.at.returns-then-len-front_length-gt-BIT_LIMIT c).In_ok-chosen in
    full_list c.args.manner c.args.text.now c.args.self.now c.in_ok-chosen.chosen.segments.items (short k) (has k) (least k)
    (omega (arith, c.len.ensures.value, c.front_length.ensures.value, c.if-len-front_length-gt-BIT_LIMIT.true))

pub with_front-requires : goal.with_front-requires
with_front-requires c = record {
  exists = has (goal.at.with_front-requires c).In_ok-chosen;
  room = omega (arith, c.len.ensures.value, c.front_length.ensures.value, c.if-len-front_length-gt-BIT_LIMIT.false);
}

pub returns-in_err-longer : goal.returns-in_err-longer
returns-in_err-longer c =
    let k = (goal.at.returns-in_err-longer c).In_ok-chosen in
    starved_text c.args.manner c.args.text.now c.args.self.now c.in_ok-chosen.chosen.segments.items c.in_err-longer.field-0.0 c.from_residual-in_err-longer.result (short k) (has k) (least k)
    c.in_err-longer.ensures.memory c.from_residual-in_err-longer.ensures

pub push_all-requires : goal.push_all-requires
push_all-requires c =
    let k = (goal.at.push_all-requires c).In_ok-chosen in
    cut_inside c.args.self.now.version c.args.text.now c.in_ok-chosen.chosen.segments.items (least k).reached.cut

pub returns-in_err-push_all : goal.returns-in_err-push_all
returns-in_err-push_all c =
    let k = (goal.at.returns-in_err-push_all c).In_ok-chosen in
    let ss = c.in_ok-chosen.chosen.segments.items in
    let e = c.in_err-push_all.field-0.0 in
    let new = c.push_all.new.self.bits in
    let stop = subst (λ (b : BitList). StopsAt b.version b.bits (pieces_of c.args.text.now ss) e new) c.in_ok-longer.ensures.value c.in_err-push_all.ensures.stopped in
    refused_text c.args.manner c.args.text.now c.args.self.now ss new e c.from_residual-in_err-push_all.result (valid k) (short k) (has k) (least k)
    (omega (arith, c.len.ensures.value, c.front_length.ensures.value, c.if-len-front_length-gt-BIT_LIMIT.false)) stop c.from_residual-in_err-push_all.ensures

pub returns : goal.returns
returns c =
    let k = (goal.at.returns c).In_ok-chosen in
    let ss = c.in_ok-chosen.chosen.segments.items in
    let list = c.push_all.new.self in
    let pushed = subst (λ (b : BitList). PushesAll b.version b.bits c.args.text.now ss list.bits) c.in_ok-longer.ensures.value c.in_ok-push_all.ensures.pushed in
    let is = c.push_all.ensures.version ∙ ap (λ (b : BitList). b.version) c.in_ok-longer.ensures.value in
    subst (λ new. PushesText c.args.manner c.args.text.now c.args.self.now new (Ok tt)) (sym c.longer.view_is)
    (appended_text c.args.manner c.args.text.now c.args.self.now list ss (valid k) (has k) c.requires.text c.requires.utf8 (least k) pushed is)

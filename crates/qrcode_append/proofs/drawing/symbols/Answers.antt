use Rattle.std.proofs.Common.{◌≡◌, ◌-◌, ℕ, [], ◌∷◌, ◌++◌, length, length-append, sym, ap, subst, arith}
use Rattle.qrcode_types.specs.Versions.{capacity}
use Rattle.qrcode_bits.specs.StructuredAppend.{parity}
use Rattle.qrcode.specs.Code.{Code}
use Rattle.qrcode_append.specs.Division.{part}
use Rattle.qrcode_append.specs.Reading.{EachAt}
use Rattle.qrcode_append.specs.Symbols.{front_length, PartFits, IsPartSymbol}
use Rattle.qrcode_append.proofs.Parts.{each-push}
use Rattle.qrcode_append.proofs.drawing.symbols.Goals as goal

pub part_symbol-requires-clause-room : goal.part_symbol-requires-clause-room
part_symbol-requires-clause-room c =
    let m = c.args.wanted.manner in
    let v = c.args.wanted.version in
    subst (λ bytes. PartFits m v bytes (front_length (c.args.count - 1)) (capacity v c.args.wanted.ec_level)) (sym c.part-data.ensures.value) (c.requires.room c.loop-place.place (omega arith))

pub loop-place-preserved : goal.loop-place-preserved
loop-place-preserved c =
    let m = c.args.wanted.manner in
    let v = c.args.wanted.version in
    let l = c.args.wanted.ec_level in
    let last = c.args.count - 1 in
    let place = c.loop-place.place in
    let code = c.in_ok-part_symbol.field-0 in
    let old = c.loop-place.codes.items in
    let P : ℕ → Code → Type 0 = λ k code. IsPartSymbol m v l k last (parity c.args.bytes.now) (part m c.args.bytes.now c.args.count k) code in
    let first = subst (λ x. IsPartSymbol m v l place last x c.part-data.result.now code) c.parity_of-parity.ensures c.in_ok-part_symbol.ensures.symbol in
    let here : P place code = subst (λ bytes. IsPartSymbol m v l place last (parity c.args.bytes.now) bytes code) c.part-data.ensures.value first in
    let own : P (length old) code = subst (λ k. P k code) (sym c.loop-place.invariant.made) here in
    let items : c.push.new.self.items ≡ old ++ code ∷ [] = c.in_ok-push.ensures.items in
    record {
      made = omega (arith, ap length items, length-append old (code ∷ []), c.loop-place.invariant.made);
      symbols = subst (EachAt P) (sym items) (each-push P old code c.loop-place.invariant.symbols own);
    }

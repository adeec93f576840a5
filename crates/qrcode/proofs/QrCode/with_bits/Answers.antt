use Rattle.std.proofs.Common.{rules, ◌≡◌, ℕ, ◌*◌, ◌%◌, ◌-◌, ◌++◌, List, length, slice_index, IsTrue, sym, ap, ap₂, ◌∙◌, arith, subst}
use Rattle.qrcode_types.specs.Versions.{has_level, capacity, side}
use Rattle.qrcode_ec.specs.Blocks.{AreCodewords}
use Rattle.qrcode_symbol.specs.Carried.{HasZeroHalf}
use Rattle.qrcode.specs.Drawing.{IsBestDrawing}
use Rattle.qrcode.specs.Reading.{EncodesBits}
use Rattle.qrcode.proofs.HalfBlocks.{half_block}
use Rattle.qrcode.proofs.Symbols.{filled_bytes, half_is_high, best_drawing, encodes_drawn}
use Rattle.qrcode.proofs.QrCode.with_bits.Goals as goal
use Rattle.qrcode.proofs.QrCode.with_bits.Goals.{Else-len-room, In_ok-content}

-- the bits fill the symbol
full : (c : Else-len-room) → length c.args.bits.bits ≡ capacity c.version-version.result c.args.ec_level
full c =
    let l = c.args.ec_level in
    let e = c.version-version.ensures.value in
    let more = c.requires (subst (λ v. IsTrue (has_level v l)) e (sym c.in-Some.ensures.exists)) in
    omega (arith, c.len.ensures, c.if-len-room.false, c.in-Some.ensures.value, ap (λ v. capacity v l) e, more)

pub construct_codewords-requires : goal.construct_codewords-requires
construct_codewords-requires c = λ exists.
    let raw = c.into_bytes-bytes.ensures in
    let len = full (goal.at.construct_codewords-requires c).Else-len-room in
    ap length c.deref.ensures.value ∙ filled_bytes c.version-version.result c.args.ec_level c.args.bits.bits raw.0 c.into_bytes-bytes.result.items len raw.1 raw.2

-- what the codewords are, and what is drawn of them
known : (c : In_ok-content) → AreCodewords c.version-version.result c.args.ec_level c.into_bytes-bytes.result.items c.in_ok-data.data.items c.in_ok-data.ec.items
known c = subst (λ xs. AreCodewords c.version-version.result c.args.ec_level xs c.in_ok-data.data.items c.in_ok-data.ec.items) c.deref.ensures.value c.in_ok-data.ensures.value

drawn : (c : In_ok-content) → length c.args.bits.bits ≡ capacity c.version-version.result c.args.ec_level
    → IsBestDrawing c.version-version.result c.args.ec_level (c.in_ok-data.data.items ++ c.in_ok-data.ec.items) c.in_ok-content.content.items
drawn c len =
    let v = c.version-version.result in
    let l = c.args.ec_level in
    let bits = c.args.bits.bits in
    let raw = c.into_bytes-bytes.result.items in
    let colors = c.in_ok-content.content.items in
    let half : HasZeroHalf v l c.deref-2.result.now = λ has.
    let one = half_block v l has in
    let all = filled_bytes v l bits c.into_bytes-bytes.ensures.0 raw len c.into_bytes-bytes.ensures.1 c.into_bytes-bytes.ensures.2 in
    let same : c.deref-2.result.now ≡ raw = c.deref-2.ensures.value ∙ c.in_ok-data.ensures.one_block one.0 ∙ c.deref.ensures.value in
    ap (λ (xs : List ℕ). slice_index xs (length xs - 1) % 16) same ∙ half_is_high v l bits c.into_bytes-bytes.ensures.0 raw has one.1 len all c.into_bytes-bytes.ensures.2 in
    let joined : c.deref-2.result.now ++ c.deref-3.result.now ≡ c.in_ok-data.data.items ++ c.in_ok-data.ec.items =
    ap₂ (λ (a b : List ℕ). a ++ b) c.deref-2.ensures.value c.deref-3.ensures.value in
    subst (λ w. IsBestDrawing v l w colors) joined
    (best_drawing v l c.deref-2.result.now c.deref-3.result.now colors c.in_ok-content.ensures.best c.drawn_colors.ensures.carries
    (ap length c.deref-2.ensures.value ∙ (known c).data_long) (ap length c.deref-3.ensures.value ∙ (known c).ec_long) half)

squared : (len n w : ℕ) → len ≡ n * n → w ≡ n → len ≡ w * w
squared len n w is e = is ∙ ap (λ n. n * n) (sym e)

pub invariant_of-result : goal.invariant_of-result
invariant_of-result c =
    let k = goal.at.invariant_of-result c in
    let d = drawn k.In_ok-content (full k.Else-len-room) in
    (sym c.in-Some.ensures.exists, (search rules, (squared (length c.in_ok-content.content.items) (side c.version-version.result) _ d.carries.patterns.square (search rules), (d.mask, record { exists = d.mask_exists; patterns = d.carries.patterns; first_least = d.first_least }))))

pub returns-clause-symbol : goal.returns-clause-symbol
returns-clause-symbol c =
    let k = goal.at.returns-clause-symbol c in
    let len = full k.Else-len-room in
    let v = c.version-version.result in
    let l = c.args.ec_level in
    let bits = c.args.bits.bits in
    let colors = c.in_ok-content.content.items in
    let encodes = encodes_drawn v l bits c.into_bytes-bytes.ensures.0 c.into_bytes-bytes.result.items c.in_ok-data.data.items c.in_ok-data.ec.items colors
    (sym c.in-Some.ensures.exists) len c.into_bytes-bytes.ensures.2 (known k.In_ok-content) (drawn k.In_ok-content len) in
    subst (λ v. EncodesBits v l bits colors) c.version-version.ensures.value encodes

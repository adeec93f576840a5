use Rattle.std.proofs.Common.{length, take, subst, ap, ◌∙◌}
use Rattle.std.proofs.lemmas.Result.{err_from_is_err_and}
use Rattle.qrcode_types.specs.Bits.{bits_of}
use Rattle.qrcode_types.specs.Versions.{capacity, block_lengths}
use Rattle.qrcode_ec.specs.Blocks.{codewords}
use Rattle.qrcode_layout.specs.Stream.{stream}
use Rattle.qrcode_reader.specs.Corrected.{AreCorrected}
use Rattle.qrcode_reader.specs.Readings.{IsBitCause}
use Rattle.qrcode_reader.specs.declared.refusals.Unread.TheVariants.{NoFormat}
use Rattle.qrcode_reader.proofs.Refused.{only_memory, blocked, bit_reading, bits_given_back, bits_only_memory}
use Rattle.qrcode_reader.proofs.reading.read_bits.Goals as goal
use Rattle.qrcode_reader.proofs.reading.read_bits.Goals.{In_default-read_format, In_err-blocks, In_ok-blocks}

-- ---- no format
no_format : (c : In_default-read_format) → IsBitCause c.args.modules.now NoFormat
no_format c =
    let is = c.in-Some.ensures.some in
    record { version = c.in-Some.version; valid = is.0; square = is.1; none = c.in_default-read_format.ensures.none }

pub returns-in_default-read_format-clause-accepts : goal.returns-in_default-read_format-clause-accepts
returns-in_default-read_format-clause-accepts c = only_memory c.args.modules.now NoFormat (no_format (goal.at.returns-in_default-read_format-clause-accepts c).In_default-read_format)

pub returns-in_default-read_format-clause-gives_back : goal.returns-in_default-read_format-clause-gives_back
returns-in_default-read_format-clause-gives_back c =
    let k = (goal.at.returns-in_default-read_format-clause-gives_back c).In_default-read_format in
    λ v l bits symbol encodes damaged. (bits_only_memory c.args.modules.now NoFormat (no_format k) v l bits symbol encodes damaged, tt)

-- ---- blocks that cannot be corrected
cause : (c : In_err-blocks) → IsBitCause c.args.modules.now c.in_err-blocks.field-0.0
cause c =
    blocked c.args.modules.now c.in-Some.version c.in-Some-read_format.ec_level c.in-Some-read_format.mask c.deref-2.result.now _ c.in-Some.ensures.some.1 c.in-Some-read_format.ensures.some
    (c.deref-2.ensures.value ∙ c.in_ok-words.ensures.value ∙ ap (codewords c.in-Some.version c.in-Some-read_format.ec_level) (c.deref.ensures.value ∙ c.in_ok-walked.ensures)) c.in_err-blocks.ensures.refused

pub returns-in_err-blocks-clause-accepts : goal.returns-in_err-blocks-clause-accepts
returns-in_err-blocks-clause-accepts c =
    let k = (goal.at.returns-in_err-blocks-clause-accepts c).In_err-blocks in
    let p = err_from_is_err_and c.from_residual-in_err-blocks.result c.from_residual-in_err-blocks.ensures.1 in
    λ u m bits q. rw (p.1, p.2) (only_memory c.args.modules.now _ (cause k) u m bits q)

pub returns-in_err-blocks-clause-gives_back : goal.returns-in_err-blocks-clause-gives_back
returns-in_err-blocks-clause-gives_back c =
    let k = (goal.at.returns-in_err-blocks-clause-gives_back c).In_err-blocks in
    let p = err_from_is_err_and c.from_residual-in_err-blocks.result c.from_residual-in_err-blocks.ensures.1 in
    λ u m bits symbol encodes damaged. rw (p.1, p.2) (bits_only_memory c.args.modules.now _ (cause k) u m bits symbol encodes damaged, tt)

-- ---- a reading
corrected : (c : In_ok-blocks) →
    let v = c.in-Some.version in
    let l = c.in-Some-read_format.ec_level in
    let held = c.in_ok-blocks.blocks in
    AreCorrected v l (codewords v l (stream v c.in-Some-read_format.mask c.args.modules.now)) (length (block_lengths v l)) held.data.items held.wrong.items
corrected c =
    let v = c.in-Some.version in
    let l = c.in-Some-read_format.ec_level in
    let held = c.in_ok-blocks.blocks in
    subst (λ words. AreCorrected v l words (length (block_lengths v l)) held.data.items held.wrong.items)
    (c.deref-2.ensures.value ∙ c.in_ok-words.ensures.value ∙ ap (codewords v l) (c.deref.ensures.value ∙ c.in_ok-walked.ensures)) c.in_ok-blocks.ensures.value

pub returns-clause-value : goal.returns-clause-value
returns-clause-value c =
    let v = c.in-Some.version in
    let l = c.in-Some-read_format.ec_level in
    let held = c.in_ok-blocks.blocks in
    bit_reading c.args.modules.now v l c.in-Some-read_format.mask held.data.items held.wrong.items c.in_ok-bits.bits.items c.in-Some.ensures.some.1 c.in-Some-read_format.ensures.some
    (corrected (goal.at.returns-clause-value c).In_ok-blocks) (c.in_ok-bits.ensures.value ∙ ap (λ b. take (capacity v l) (bits_of b)) c.deref-3.ensures.value)

pub returns-clause-gives_back : goal.returns-clause-gives_back
returns-clause-gives_back c =
    let s = c.args.modules.now in
    let v = c.in-Some.version in
    let l = c.in-Some-read_format.ec_level in
    let k = c.in-Some-read_format.mask in
    let held = c.in_ok-blocks.blocks in
    let bits = c.in_ok-bits.bits.items in
    let is = bit_reading s v l k held.data.items held.wrong.items bits c.in-Some.ensures.some.1 c.in-Some-read_format.ensures.some
    (corrected (goal.at.returns-clause-gives_back c).In_ok-blocks) (c.in_ok-bits.ensures.value ∙ ap (λ b. take (capacity v l) (bits_of b)) c.deref-3.ensures.value) in
    λ u m others symbol encodes damaged. (tt, bits_given_back s v l k bits held.wrong.items is u m others symbol encodes damaged)

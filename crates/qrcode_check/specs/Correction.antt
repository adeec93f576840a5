-- How many codewords of each block are wrong, and what error correction is left.
use Rattle.std.specs.Prelude.{ℕ, ◌-◌, ◌*◌, ◌/◌, ◌==◌, nat_le, min, List, length, map, fold, count_by, if◌then◌else◌}
use Rattle.std.specs.List.{range_with_len}
use Rattle.qrcode_types.specs.Versions.{block_lengths, total_ec_length}
use Rattle.qrcode_types.specs.declared.types.Version.{Version}
use Rattle.qrcode_types.specs.declared.types.EcLevel.{EcLevel}
use Rattle.qrcode_ec.specs.Allowed.{misdecode_protection}
use Rattle.qrcode_reader.specs.declared.correction.WrongCodeword.{WrongCodeword}
use Rattle.qrcode_check.specs.declared.correction.Grade.{Grade}
use Rattle.qrcode_check.specs.declared.correction.Grade.TheVariants.{A, B, C, D, F}

-- how many of the wrong codewords are in block b
abbrev pub wrong_in_block : List WrongCodeword → ℕ → ℕ
wrong_in_block wrong b = count_by (λ w. w.block == b) wrong

abbrev pub wrong_codewords : Version → EcLevel → List WrongCodeword → List ℕ  -- how many are in each block
wrong_codewords v l wrong = map (wrong_in_block wrong) (range_with_len 0 (length (block_lengths v l)))

-- how many wrong codewords of a block the standard lets readers correct: half of those for error correction, without
-- the misdecode protection (6.5.1 and Table 9)
abbrev pub allowed_in_block : Version → EcLevel → ℕ
allowed_in_block v l = (total_ec_length v l - misdecode_protection v l) / 2 / length (block_lengths v l)

-- The unused error correction of a block (ISO/IEC 15415, 7.8.8) in hundredths, rounded down: 1 - 2e / capacity, at
-- least 0, for e wrong codewords, where the capacity is twice what is allowed. If none are allowed, it is 1 or, with
-- wrong ones, 0.
abbrev pub unused_in_block : ℕ → ℕ → ℕ
unused_in_block allowed wrong = if allowed == 0 then (if wrong == 0 then 100 else 0) else 100 * (allowed - wrong) / allowed

-- that of a symbol: the lowest of its blocks
abbrev pub unused_correction : ℕ → List ℕ → ℕ
unused_correction allowed counts = fold (λ least wrong. min least (unused_in_block allowed wrong)) 100 counts

abbrev pub grade : ℕ → Grade  -- the grade for these hundredths (ISO/IEC 15415, 7.8.8)
grade unused = if nat_le 62 unused then A else (if nat_le 50 unused then B else (if nat_le 37 unused then C else (if nat_le 25 unused then D else F)))

-- Blocks of codewords, and their corrections.
use Rattle.std.specs.Prelude.{◌≡◌, ◌+◌, ◌-◌, ◌<◌, ◌++◌, ◌==◌, ℕ, List, [], ◌∷◌, length, map, flat_map, take, slice_index, if◌then◌else◌}
use Rattle.std.specs.List.{range_with_len, AllZip}
use Rattle.qrcode_types.specs.Versions.{block_lengths, ec_length}
use Rattle.qrcode_types.specs.declared.types.Version.{Version}
use Rattle.qrcode_types.specs.declared.types.EcLevel.{EcLevel}
use Rattle.qrcode_ec.specs.Blocks.{block, data_bytes}
use Rattle.qrcode_ec.specs.Codes.{Corrects}
use Rattle.qrcode_reader.specs.declared.correction.WrongCodeword.{WrongCodeword}

-- place i of block b, as a wrong codeword, if r and its correction c differ there
abbrev pub wrong_at : ℕ → List ℕ → List ℕ → ℕ → List WrongCodeword
wrong_at b r c i = if slice_index r i == slice_index c i then [] else record { block = b; place = i } ∷ []

unfoldable pub wrong_of_block : ℕ → List ℕ → List ℕ → List WrongCodeword  -- all wrong codewords of block b
wrong_of_block b r c = flat_map (wrong_at b r c) (range_with_len 0 (length r))

-- all wrong codewords of the blocks, which are numbered from b on
abbrev pub wrong_from : ℕ → List (List ℕ) → List (List ℕ) → List WrongCodeword
wrong_from b [] cs = []
wrong_from b (r ∷ rs) [] = []
wrong_from b (r ∷ rs) (c ∷ cs) = wrong_of_block b r c ++ wrong_from (b + 1) rs cs

abbrev pub first_blocks : Version → EcLevel → List ℕ → ℕ → List (List ℕ)  -- the first count blocks
first_blocks v l words count = map (block v l words) (range_with_len 0 count)

-- the data bytes of the first count blocks after correction, and which of their codewords were wrong
pub record AreCorrected (v : Version) (l : EcLevel) (words : List ℕ) (count : ℕ) (bytes : List ℕ) (wrong : List WrongCodeword) : Type 0 where
  pub corrected : List (List ℕ)
  pub corrects : AllZip (λ r c. Corrects r (ec_length v l) c) (first_blocks v l words count) corrected
  pub holds : bytes ≡ data_bytes v l corrected
  pub places : wrong ≡ wrong_from 0 (first_blocks v l words count) corrected

-- the corrected data bytes of the block and its wrong codewords are appended
pub record AppendsBlock (n number : ℕ) (block old_bytes new_bytes : List ℕ) (old_wrong new_wrong : List WrongCodeword) : Type 0 where
  pub corrected : List ℕ
  pub corrects : Corrects block n corrected
  pub holds : new_bytes ≡ old_bytes ++ take (length corrected - n) corrected
  pub places : new_wrong ≡ old_wrong ++ wrong_of_block number block corrected

-- block b cannot be corrected, and each block before it can
pub record IsFirstDamaged (v : Version) (l : EcLevel) (words : List ℕ) (b : ℕ) : Type 0 where
  pub exists : b < length (block_lengths v l)
  pub before : (i : ℕ) → i < b → (c : List ℕ) × Corrects (block v l words i) (ec_length v l) c
  pub none : (c : List ℕ) → ¬ Corrects (block v l words b) (ec_length v l) c

-- The five bits of a format word determine what it names.
use Rattle.std.proofs.Common.{◌≡◌, ℕ, zero, suc, ◌+◌, ◌-◌, ◌*◌, pos, negsuc, refl, sym, ap, ◌∙◌, arith, IsTrue}
use Rattle.std.proofs.lemmas.Bool.Decides.{nat_tests}
use Rattle.qrcode_types.specs.Tables.{block_table}
use Rattle.qrcode_types.specs.Versions.{is_micro, level_number, blocks_entry, has_level}
use Rattle.qrcode_types.specs.declared.types.Version.{Version}
use Rattle.qrcode_types.specs.declared.types.Version.TheVariants.{Normal, Micro}
use Rattle.qrcode_types.specs.declared.types.EcLevel.{EcLevel}
use Rattle.qrcode_types.specs.declared.types.EcLevel.TheVariants.{L, M, Q, H}
use Rattle.qrcode_layout.specs.Words.{level_bits, format_bits, NameTheSame}
use Rattle.qrcode_layout.specs.Masks.{mask_number, micro_mask_number, exists_in, nth_mask}
use Rattle.qrcode_layout.specs.declared.masks.MaskPattern.{MaskPattern}
use Rattle.qrcode_layout.proofs.MaskLists.{nth_of_number}
use Rattle.qrcode_layout.proofs.Formats.{mask_number-lt, micro_mask, valid_of, within}

level_of_bits : ℕ → EcLevel
level_of_bits zero = M
level_of_bits (suc zero) = L
level_of_bits (suc (suc zero)) = H
level_of_bits _ = Q

level_of_bits-is : (l : EcLevel) → level_of_bits (level_bits l) ≡ l
unfolding level_of_bits
level_of_bits-is l = grind (arith, nat_tests)

-- the version and the level of Micro with this number
pair_of : ℕ → ℕ × EcLevel
pair_of zero = (1, L)
pair_of (suc zero) = (2, L)
pair_of (suc (suc zero)) = (2, M)
pair_of (suc (suc (suc zero))) = (3, L)
pair_of (suc (suc (suc (suc zero)))) = (3, M)
pair_of (suc (suc (suc (suc (suc zero))))) = (4, L)
pair_of (suc (suc (suc (suc (suc (suc zero)))))) = (4, M)
pair_of _ = (4, Q)

pair_of-is : (n : ℕ) (l : EcLevel) → IsTrue (has_level (Micro (pos n)) l) → pair_of (2 * n - 3 + level_number l) ≡ (n, l)
unfolding pair_of blocks_entry block_table
pair_of-is zero l h = cc
pair_of-is (suc zero) L h = refl
pair_of-is (suc zero) M h = cc
pair_of-is (suc zero) Q h = cc
pair_of-is (suc zero) H h = cc
pair_of-is (suc (suc zero)) L h = refl
pair_of-is (suc (suc zero)) M h = refl
pair_of-is (suc (suc zero)) Q h = cc
pair_of-is (suc (suc zero)) H h = cc
pair_of-is (suc (suc (suc zero))) L h = refl
pair_of-is (suc (suc (suc zero))) M h = refl
pair_of-is (suc (suc (suc zero))) Q h = cc
pair_of-is (suc (suc (suc zero))) H h = cc
pair_of-is (suc (suc (suc (suc zero)))) L h = refl
pair_of-is (suc (suc (suc (suc zero)))) M h = refl
pair_of-is (suc (suc (suc (suc zero)))) Q h = refl
pair_of-is (suc (suc (suc (suc zero)))) H h = cc
pair_of-is (suc (suc (suc (suc (suc n))))) l h = absurd (omega (arith, within (suc (suc (suc (suc (suc n))))) 4 (valid_of (Micro (pos (suc (suc (suc (suc (suc n))))))) l h)))

pub same_names : (u v : Version) (l m : EcLevel) (j k : MaskPattern) → is_micro u ≡ is_micro v → IsTrue (has_level u l) → IsTrue (has_level v m)
    → IsTrue (exists_in u j) → IsTrue (exists_in v k) → format_bits u l j ≡ format_bits v m k → NameTheSame u v l m j k
same_names (Normal u) (Normal v) l m j k same p q r s e =
    let one = mask_number-lt j in
    let two = mask_number-lt k in
    let levels : level_bits l ≡ level_bits m = omega arith in
    let masks : mask_number j ≡ mask_number k = omega arith in
    record {
      micro_version = λ is. absurd (cc);
      level = sym (level_of_bits-is l) ∙ ap level_of_bits levels ∙ level_of_bits-is m;
      mask = sym (nth_of_number (Normal u) j r) ∙ ap (nth_mask (Normal u)) masks ∙ nth_of_number (Normal v) k s;
    }
same_names (Micro (pos n)) (Micro (pos o)) l m j k same p q r s e =
    let one = micro_mask n j r in
    let two = micro_mask o k s in
    let pairs : 2 * n - 3 + level_number l ≡ 2 * o - 3 + level_number m = omega arith in
    let masks : micro_mask_number j ≡ micro_mask_number k = omega arith in
    let pair = sym (pair_of-is n l p) ∙ ap pair_of pairs ∙ pair_of-is o m q in
    record {
      micro_version = λ is. ap (λ t. Micro (pos t.0)) pair;
      level = ap (λ t. t.1) pair;
      mask = sym (nth_of_number (Micro (pos n)) j r) ∙ ap (nth_mask (Micro (pos n))) masks ∙ nth_of_number (Micro (pos o)) k s;
    }
same_names (Micro (negsuc n)) v l m j k same p q r s e = absurd (cc)
same_names (Micro (pos n)) (Micro (negsuc o)) l m j k same p q r s e = absurd (cc)
same_names (Normal u) (Micro v) l m j k same p q r s e = absurd (cc)
same_names (Micro (pos n)) (Normal v) l m j k same p q r s e = absurd (cc)

-- Blocks are corrected one after the other.
use Rattle.std.proofs.Common.{◌≡◌, ◌≢◌, ℕ, ◌+◌, ◌-◌, ◌<◌, cond, List, [], ◌∷◌, ◌++◌, length, get_or, slice_index, take, sym, ap, subst, ◌∙◌, arith, append-nil, append_assoc}
use Rattle.std.specs.List.{range_with_len, flat_map, AllZip}
use Rattle.std.proofs.lemmas.Bool.{eq-eqb, ne_eqb}
use Rattle.std.proofs.lemmas.List.{flat_map_more}
use Rattle.std.proofs.lemmas.List.Concat.{flat_map-append}
use Rattle.std.proofs.lemmas.List.Elements.{AllZip-push, AllZip-get_or, length_all_zip}
use Rattle.std.proofs.lemmas.List.FromFn.{map-range_with_len_more, length-map-range_with_len, get_or-map-range_with_len}
use Rattle.qrcode_types.specs.Versions.{block_lengths, ec_length}
use Rattle.qrcode_types.specs.declared.types.Version.{Version}
use Rattle.qrcode_types.specs.declared.types.EcLevel.{EcLevel}
use Rattle.qrcode_ec.specs.Blocks.{block, data_bytes}
use Rattle.qrcode_render.proofs.Grids.{range_append}
use Rattle.qrcode_ec.specs.Codes.{Corrects}
use Rattle.qrcode_reader.specs.Corrected.{wrong_at, wrong_of_block, wrong_from, first_blocks, AreCorrected, AppendsBlock, IsFirstDamaged}
use Rattle.qrcode_reader.specs.declared.correction.WrongCodeword.{WrongCodeword}

-- one more place
pub wrong_step : (b : ℕ) (r c : List ℕ) (i : ℕ) (old now new : List WrongCodeword) → now ≡ old ++ flat_map (wrong_at b r c) (range_with_len 0 i) → new ≡ now ++ wrong_at b r c i
    → new ≡ old ++ flat_map (wrong_at b r c) (range_with_len 0 (i + 1))
wrong_step b r c i old now new e f =
    let longer : range_with_len 0 (i + 1) ≡ range_with_len 0 i ++ i ∷ [] =
    range_append 0 i 1 ∙ ap (λ k. range_with_len 0 i ++ k ∷ []) (let z : 0 + i ≡ i = omega arith in z) in
    f ∙ ap (λ x. x ++ wrong_at b r c i) e ∙ flat_map_more (wrong_at b r c) old (range_with_len 0 i) i
    ∙ ap (λ places. old ++ flat_map (wrong_at b r c) places) (sym longer)

-- a place where the correction differs, and one where it does not
pub wrong_here : (b : ℕ) (r c : List ℕ) (i : ℕ) → slice_index r i ≢ slice_index c i → record { block = b; place = i } ∷ [] ≡ wrong_at b r c i
wrong_here b r c i differ = sym (ap (λ t. cond t [] (record { block = b; place = i } ∷ [])) (ne_eqb (slice_index r i) (slice_index c i) differ))

pub right_here : (b : ℕ) (r c : List ℕ) (i : ℕ) → slice_index r i ≡ slice_index c i → [] ≡ wrong_at b r c i
right_here b r c i same = sym (ap (λ t. cond t [] (record { block = b; place = i } ∷ [])) (eq-eqb (slice_index r i) (slice_index c i) same))

-- one more block
wrong_blocks_more : (b : ℕ) (rs cs : List (List ℕ)) (r c : List ℕ) → length rs ≡ length cs → wrong_from b (rs ++ r ∷ []) (cs ++ c ∷ []) ≡ wrong_from b rs cs ++ wrong_of_block (b + length rs) r c
wrong_blocks_more b [] [] r c h = let z : b ≡ b + 0 = omega arith in append-nil (wrong_of_block b r c) ∙ ap (λ n. wrong_of_block n r c) z
wrong_blocks_more b [] (y ∷ ys) r c h = absurd (omega (arith, h))
wrong_blocks_more b (x ∷ xs) [] r c h = absurd (omega (arith, h))
wrong_blocks_more b (x ∷ xs) (y ∷ ys) r c h =
    let z : b + 1 + length xs ≡ b + length (x ∷ xs) = omega arith in
    ap (λ t. wrong_of_block b x y ++ t) (wrong_blocks_more (b + 1) xs ys r c (omega (arith, h)) ∙ ap (λ n. wrong_from (b + 1) xs ys ++ wrong_of_block n r c) z)
    ∙ sym (append_assoc (wrong_of_block b x y) (wrong_from (b + 1) xs ys) (wrong_of_block (b + length (x ∷ xs)) r c))

pub none_corrected : (v : Version) (l : EcLevel) (words bytes : List ℕ) (wrong : List WrongCodeword) → bytes ≡ [] → wrong ≡ [] → AreCorrected v l words 0 bytes wrong
unfolding data_bytes
none_corrected v l words bytes wrong e f = record { corrected = []; corrects = tt; holds = e; places = f }

pub corrected_more : (v : Version) (l : EcLevel) (words : List ℕ) (n : ℕ) (old new : List ℕ) (wrong more : List WrongCodeword) → AreCorrected v l words n old wrong
    → AppendsBlock (ec_length v l) n (block v l words n) old new wrong more → AreCorrected v l words (n + 1) new more
unfolding data_bytes
corrected_more v l words n old new wrong more a b =
    let R = λ (r c : List ℕ). Corrects r (ec_length v l) c in
    let front = first_blocks v l words n in
    let longer : first_blocks v l words (n + 1) ≡ front ++ block v l words n ∷ [] = map-range_with_len_more (block v l words) 0 n n (omega arith) in
    let bytes_of_block = λ (c : List ℕ). take (length c - ec_length v l) c in
    let count : 0 + length front ≡ n = omega (arith, length-map-range_with_len (block v l words) 0 n) in
    record {
      corrected = a.corrected ++ b.corrected ∷ [];
      corrects = subst (λ rs. AllZip R rs (a.corrected ++ b.corrected ∷ [])) (sym longer) (AllZip-push R front a.corrected (block v l words n) b.corrected a.corrects b.corrects);
      holds =
          b.holds ∙ ap (λ x. x ++ bytes_of_block b.corrected) a.holds
          ∙ ap (λ x. flat_map bytes_of_block a.corrected ++ x) (sym (append-nil (bytes_of_block b.corrected)))
          ∙ sym (flat_map-append bytes_of_block a.corrected (b.corrected ∷ []));
      places =
          b.places ∙ ap (λ x. x ++ wrong_of_block n (block v l words n) b.corrected) a.places
          ∙ ap (λ m. wrong_from 0 front a.corrected ++ wrong_of_block m (block v l words n) b.corrected) (sym count)
          ∙ sym (wrong_blocks_more 0 front a.corrected (block v l words n) b.corrected (length_all_zip R front a.corrected a.corrects))
          ∙ ap (λ rs. wrong_from 0 rs (a.corrected ++ b.corrected ∷ [])) (sym longer);
    }

-- each block is corrected by the item at its place
pub corrects_at : (v : Version) (l : EcLevel) (words : List ℕ) (n : ℕ) (cs : List (List ℕ)) (i : ℕ) → AllZip (λ r c. Corrects r (ec_length v l) c) (first_blocks v l words n) cs → i < n
    → Corrects (block v l words i) (ec_length v l) (get_or cs i [])
corrects_at v l words n cs i all less =
    subst (λ r. Corrects r (ec_length v l) (get_or cs i [])) (get_or-map-range_with_len (block v l words) 0 n i i [] less (omega arith))
    (AllZip-get_or (λ (r c : List ℕ). Corrects r (ec_length v l) c) (first_blocks v l words n) cs i [] [] all (omega (arith, less, length-map-range_with_len (block v l words) 0 n)))

pub first_damaged : (v : Version) (l : EcLevel) (words : List ℕ) (n : ℕ) (bytes : List ℕ) (wrong : List WrongCodeword) → n < length (block_lengths v l) → AreCorrected v l words n bytes wrong
    → ((c : List ℕ) → ¬ Corrects (block v l words n) (ec_length v l) c) → IsFirstDamaged v l words n
first_damaged v l words n bytes wrong exists a none = record {
  exists = exists;
  before = λ i less. (get_or a.corrected i [], corrects_at v l words n a.corrected i a.corrects less);
  none = none;
}

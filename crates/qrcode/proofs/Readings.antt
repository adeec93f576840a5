-- A damaged symbol is read as its bits, and no square is read in two ways.
use Rattle.std.proofs.Common.{◌≡◌, ℕ, zero, suc, ◌/◌, ◌≤◌, Bool, List, [], ◌∷◌, length, map, refl, sym, ap, ap₂, ◌∙◌, arith, subst, IsTrue}
use Rattle.std.specs.List.{AllByRecursion, AllZip, range_with_len}
use Rattle.std.proofs.lemmas.List.{length-map}
use Rattle.std.proofs.lemmas.List.FromFn.{length-map-range_with_len}
use Rattle.qrcode_types.specs.Bits.{AreBytes, number_bits, bit_distance}
use Rattle.qrcode_types.specs.Versions.{has_level, side, ec_length}
use Rattle.qrcode_types.specs.declared.types.Version.{Version}
use Rattle.qrcode_types.specs.declared.types.Version.TheVariants.{Normal, Micro}
use Rattle.qrcode_types.specs.declared.types.EcLevel.{EcLevel}
use Rattle.qrcode_types.specs.declared.types.Color.{Color}
use Rattle.qrcode_ec.specs.Codes.{Corrects, Vanishes, distance}
use Rattle.qrcode_ec.specs.Blocks.{codewords, data_bits}
use Rattle.qrcode_ec.proofs.Distances.{distance_above}
use Rattle.qrcode_layout.specs.Masks.{exists_in}
use Rattle.qrcode_layout.specs.Words.{format_word}
use Rattle.qrcode_layout.specs.Patterns.{format_copies, first_format_place, micro_format_place}
use Rattle.qrcode_layout.specs.Stream.{stream}
use Rattle.qrcode_layout.specs.declared.masks.MaskPattern.{MaskPattern}
use Rattle.qrcode_layout.proofs.WordLaws.{format_words_are_apart}
use Rattle.qrcode_symbol.specs.Symbol.{bits_at, blocks_in, IsSymbol, IsDamaged}
use Rattle.qrcode_symbol.specs.Reading.{ReadsBits, ReadsBitsOnly}
use Rattle.qrcode_bits.specs.Spelling.{Spells}
use Rattle.qrcode_bits.proofs.Spellings.{one_text}
use Rattle.qrcode.specs.Reading.{Reads, ReadsOnly, BitsAreReadOneWay, BytesAreReadOneWay}
use Rattle.qrcode.proofs.BlockLists.{blocks-lengths, blocks-short}
use Rattle.qrcode.proofs.Distances.{bit_distance-turned, bit_distance-through, distance-turned, distance-through}
use Rattle.qrcode.proofs.Sides.{valid_of, same_version, same_root}

-- What a damaged symbol is read as.

corrects_all : (n : ℕ) (bs cs : List (List ℕ)) → AllByRecursion (λ b. Vanishes b n) bs → AllByRecursion AreBytes bs
    → AllZip (λ b c. length b ≡ length c) bs cs → AllZip (λ b c. distance b c ≤ n / 2) bs cs → AllZip (λ r c. Corrects r n c) cs bs
corrects_all n [] [] v a l d = tt
corrects_all n [] (c ∷ cs) v a l d = absurd l
corrects_all n (b ∷ bs) [] v a l d = absurd l
corrects_all n (b ∷ bs) (c ∷ cs) v a l d = (
  record { equal_length = sym l.0; bytes = a.0; vanishes = v.0; near = subst (λ x. x ≤ n / 2) (distance-turned b c) d.0 },
  corrects_all n bs cs v.1 a.1 l.1 d.1,
)

formats_near : (v : Version) (s other : List Color) (word : List Bool) (copies : List (List (ℕ × ℕ)))
    → AllByRecursion (λ places. bits_at v s places ≡ word) copies
    → AllByRecursion (λ places. bit_distance (bits_at v s places) (bits_at v other places) ≤ 3) copies
    → AllByRecursion (λ places. bit_distance (bits_at v other places) word ≤ 3) copies
formats_near v s other word [] e d = tt
formats_near v s other word (places ∷ copies) e d = (
  subst (λ w. bit_distance (bits_at v other places) w ≤ 3) e.0 (subst (λ x. x ≤ 3) (bit_distance-turned (bits_at v s places) (bits_at v other places)) d.0),
  formats_near v s other word copies e.1 d.1,
)

damaged : (v : Version) (l : EcLevel) (bits : List Bool) (k : MaskPattern) (s other : List Color) → IsTrue (has_level v l) → IsTrue (exists_in v k)
    → AllByRecursion AreBytes (blocks_in v l k s) → IsSymbol v l bits k s → IsDamaged v l k s other → ReadsBits other v l bits
damaged v l bits k s other p q are symbol damage = record {
  exists = p;
  square = damage.square ∙ symbol.patterns.square;
  mask = k;
  mask_exists = q;
  format = formats_near v s other (number_bits 15 (format_word v l k)) (format_copies v) symbol.patterns.format damage.format;
  corrected = blocks_in v l k s;
  corrects = corrects_all (ec_length v l) (blocks_in v l k s) (blocks_in v l k other) symbol.vanishes are
      (blocks-lengths v l (codewords v l (stream v k s)) (codewords v l (stream v k other))) damage.blocks;
  holds = symbol.holds;
}

-- One way to read.

length-number_bits : (count n : ℕ) → length (number_bits count n) ≡ count
unfolding number_bits
length-number_bits zero n = refl
length-number_bits (suc count) n = omega (arith, length-number_bits count n)

near_through : (v : Version) (s : List Color) (places : List (ℕ × ℕ)) (a b : List Bool) → length places ≡ 15 → length a ≡ 15 → length b ≡ 15
    → bit_distance (bits_at v s places) a ≤ 3 → bit_distance (bits_at v s places) b ≤ 3 → bit_distance a b ≤ 6
near_through v s places a b e f g p q =
    let w = bits_at v s places in
    let l : length w ≡ 15 = length-map places _ ∙ e in
    omega (arith, bit_distance-through a w b (f ∙ sym l) (l ∙ sym g), bit_distance-turned a w, p, q)

near_words : (v : Version) (s : List Color) (a b : List Bool) → length a ≡ 15 → length b ≡ 15
    → AllByRecursion (λ places. bit_distance (bits_at v s places) a ≤ 3) (format_copies v) → AllByRecursion (λ places. bit_distance (bits_at v s places) b ≤ 3) (format_copies v)
    → bit_distance a b ≤ 6
unfolding format_copies
near_words (Normal v) s a b f g p q = near_through (Normal v) s (map first_format_place (range_with_len 0 15)) a b (length-map-range_with_len first_format_place 0 15) f g p.0 q.0
near_words (Micro v) s a b f g p q = near_through (Micro v) s (map micro_format_place (range_with_len 0 15)) a b (length-map-range_with_len micro_format_place 0 15) f g p.0 q.0

-- format words near the same copies are of one level and mask
pub same_format : (v : Version) (s : List Color) (l m : EcLevel) (k j : MaskPattern) → IsTrue (has_level v l) → IsTrue (has_level v m) → IsTrue (exists_in v k) → IsTrue (exists_in v j)
    → AllByRecursion (λ places. bit_distance (bits_at v s places) (number_bits 15 (format_word v l k)) ≤ 3) (format_copies v)
    → AllByRecursion (λ places. bit_distance (bits_at v s places) (number_bits 15 (format_word v m j)) ≤ 3) (format_copies v) → (m ≡ l) × (j ≡ k)
same_format v s l m k j has other exists another near_l near_m =
    let a = number_bits 15 (format_word v m j) in
    let b = number_bits 15 (format_word v l k) in
    let near = near_words v s a b (length-number_bits 15 (format_word v m j)) (length-number_bits 15 (format_word v l k)) near_m near_l in
    let same = format_words_are_apart v v m l j k refl other has another exists (omega (arith, near)) in
    (same.level, same.mask)

same_words : (s : List Color) (v : Version) (l m : EcLevel) (bits others : List Bool) → (p : ReadsBits s v l bits) (q : ReadsBits s v m others) → (m ≡ l) × (q.mask ≡ p.mask)
same_words s v l m bits others p q = same_format v s l m p.mask q.mask p.exists q.exists p.mask_exists q.mask_exists p.format q.format

-- a block of at most 255 codewords has one correction
same_block : (n : ℕ) (r c d : List ℕ) → length r ≤ 255 → Corrects r n c → Corrects r n d → d ≡ c
same_block n r c d short p q =
    distance_above n c p.bytes (subst (λ m. m ≤ 255) p.equal_length short) p.vanishes d q.bytes (sym q.equal_length ∙ p.equal_length) q.vanishes
    (omega (arith, distance-through c r d (sym p.equal_length) q.equal_length, distance-turned c r, p.near, q.near))

same_corrected : (n : ℕ) (rs cs ds : List (List ℕ)) → AllByRecursion (λ r. length r ≤ 255) rs → AllZip (λ r c. Corrects r n c) rs cs → AllZip (λ r c. Corrects r n c) rs ds → ds ≡ cs
same_corrected n [] [] [] h p q = refl
same_corrected n [] [] (d ∷ ds) h p q = absurd q
same_corrected n [] (c ∷ cs) ds h p q = absurd p
same_corrected n (r ∷ rs) [] ds h p q = absurd p
same_corrected n (r ∷ rs) (c ∷ cs) [] h p q = absurd q
same_corrected n (r ∷ rs) (c ∷ cs) (d ∷ ds) h p q = ap₂ (λ (x : List ℕ) (xs : List (List ℕ)). x ∷ xs) (same_block n r c d h.0 p.0 q.0) (same_corrected n rs cs ds h.1 p.1 q.1)

same_bits : (s : List Color) (v : Version) (l : EcLevel) (bits others : List Bool) → (p : ReadsBits s v l bits) (q : ReadsBits s v l others) → q.mask ≡ p.mask → others ≡ bits
same_bits s v l bits others p q e =
    let short = blocks-short v l (codewords v l (stream v p.mask s)) p.exists in
    let corrects = subst (λ k. AllZip (λ r c. Corrects r (ec_length v l) c) (blocks_in v l k s) q.corrected) e q.corrects in
    sym q.holds ∙ ap (data_bits v l) (same_corrected (ec_length v l) (blocks_in v l p.mask s) p.corrected q.corrected short p.corrects corrects) ∙ p.holds

pub bits_are_read_one_way : BitsAreReadOneWay
bits_are_read_one_way s v u l m bits others p q =
    let e = same_version u v (valid_of u m q.exists) (valid_of v l p.exists) (same_root (side u) (side v) (sym q.square ∙ p.square)) in
    let r = subst (λ x. ReadsBits s x m others) e q in
    let f = (same_words s v l m bits others p r).0 in
    let t = subst (λ x. ReadsBits s v x others) f r in
    (e, f, same_bits s v l bits others p t (same_words s v l l bits others p t).1)

pub bytes_are_read_one_way : BytesAreReadOneWay
bytes_are_read_one_way s bytes others p q =
    let e = bits_are_read_one_way s p.version q.version p.level q.level p.bits q.bits p.read q.read in
    one_text p.version p.bits bytes others p.spelled (subst (λ b. Spells p.version b others) e.2 (subst (λ v. Spells v q.bits others) e.0 q.spelled))

-- a damaged symbol is read as its bits, and in no other way
pub reads_bits_only : (v : Version) (l : EcLevel) (bits : List Bool) (k : MaskPattern) (s : List Color) → IsTrue (has_level v l) → IsTrue (exists_in v k)
    → AllByRecursion AreBytes (blocks_in v l k s) → IsSymbol v l bits k s → (other : List Color) → IsDamaged v l k s other → ReadsBitsOnly other v l bits
reads_bits_only v l bits k s p q are symbol other damage =
    let found = damaged v l bits k s other p q are symbol damage in
    record { found = found; only = λ u m others. bits_are_read_one_way other v u l m bits others found }

-- a square that reads as bits decodes to the bytes that they spell, and to no others
pub reads_only : (s : List Color) (v : Version) (l : EcLevel) (bits : List Bool) (bytes : List ℕ) → ReadsBits s v l bits → Spells v bits bytes → ReadsOnly s bytes
reads_only s v l bits bytes read spelled =
    let found : Reads s bytes = record { version = v; level = l; bits = bits; read = read; spelled = spelled } in
    record { found = found; only = λ others. bytes_are_read_one_way s bytes others found }

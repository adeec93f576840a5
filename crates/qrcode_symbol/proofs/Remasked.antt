-- A symbol's colours under another mask are a symbol of the same bits.
use Rattle.std.proofs.Common.{◌≡◌, ℕ, ◌+◌, ◌-◌, ◌*◌, ◌/◌, ◌%◌, ◌<◌, Bool, false, not, List, map, drop, length, get_or, Option, Some, None, IfSome, IsTrue, refl, sym, ap, ap₂, ◌∙◌, arith, subst}
use Rattle.std.specs.List.{AllByRecursion, list_all}
use Rattle.std.proofs.lemmas.List.{ext_get_or, get_or-map, length-map}
use Rattle.std.proofs.lemmas.List.Elements.{All-weaker, All-from_recursion, recursion_from_All}
use Rattle.std.proofs.lemmas.List.FromFn.{get_or-map-range_with_len, length-map-range_with_len}
use Rattle.std.proofs.lemmas.Nat.{div-mul-add, mod-mul-add, mul-add-lt}
use Rattle.std.proofs.lemmas.Bool.Decides.{nat_tests}
use Rattle.qrcode_types.specs.Bits.{has_bit, number_bits}
use Rattle.qrcode_types.specs.Colors.{is_dark, color_of}
use Rattle.qrcode_types.specs.Versions.{side, is_valid, has_level, capacity, ec_length, total_ec_length}
use Rattle.qrcode_types.specs.declared.types.Version.{Version}
use Rattle.qrcode_types.specs.declared.types.EcLevel.{EcLevel}
use Rattle.qrcode_types.specs.declared.types.Color.{Color}
use Rattle.qrcode_types.specs.declared.types.Color.TheVariants.{Light}
use Rattle.qrcode_ec.specs.Codes.{Vanishes}
use Rattle.qrcode_ec.specs.Blocks.{codewords, blocks, data_bits}
use Rattle.qrcode_penalty.specs.Penalty.{same}
use Rattle.qrcode_layout.specs.Masks.{turns, turned_if}
use Rattle.qrcode_layout.specs.Words.{format_word}
use Rattle.qrcode_layout.specs.Patterns.{pattern, format_index, format_copies, is_functional_place}
use Rattle.qrcode_layout.specs.Stream.{color_at, free_places, stream}
use Rattle.qrcode_layout.specs.Laws.{IsFormatCopy}
use Rattle.qrcode_layout.specs.declared.masks.MaskPattern.{MaskPattern}
use Rattle.qrcode_layout.proofs.Formats.{valid_of}
use Rattle.qrcode_layout.proofs.FormatPlaces.{format_copies_are_indexed}
use Rattle.qrcode_symbol.specs.Penalties.{remasked_at, remasked}
use Rattle.qrcode_symbol.specs.Symbol.{bits_at, HasPatterns, IsSymbol}
use Rattle.qrcode_symbol.proofs.BitLists.{length_number_bits, number_bits_at}
use Rattle.qrcode_symbol.proofs.Carried.{no_format, not_true, free_nothing, free_inside, free_free}
use Rattle.qrcode_symbol.proofs.MaskedSquares.{dark_color}
use Rattle.qrcode_symbol.proofs.Remasking.{remask_of}

-- a colour changed from the old mask to the new one, and read under the new one, gives the same bit
turned_again : (tk tj b : Bool) → turned_if tj (is_dark (color_of (turned_if (not (same tk tj)) b))) ≡ turned_if tk b
turned_again tk tj b = grind (arith, nat_tests)

module _ (v : Version) (l : EcLevel) (k j : MaskPattern) (s : List Color) where
  -- the colour of a place, by what is there
  color_is : (x y : ℕ) → x < side v → y < side v
      → color_at v (remasked v l k j s) x y ≡ remask_of (format_word v l j) (format_index v x y) (pattern v x y) (turns k x y) (turns j x y) (color_at v s x y)
  unfolding remasked remasked_at
  color_is x y xl yl =
      get_or-map-range_with_len (λ i. remasked_at v (format_word v l j) k j (i % side v) (i / side v) (get_or s i Light)) 0 (side v * side v) (y * side v + x) (y * side v + x) Light
      (mul-add-lt y (side v) x (side v) yl xl) (omega arith)
      ∙ rw (mod-mul-add y (side v) x xl, div-mul-add y (side v) x xl) refl

  patterns_stand : (x y : ℕ) → IsTrue (is_valid v) → x < side v → y < side v → IfSome (pattern v x y) (λ c. color_at v s x y ≡ c) → IfSome (pattern v x y) (λ c. color_at v (remasked v l k j s) x y ≡ c)
  patterns_stand x y valid xl yl stood = go (pattern v x y) refl where
    go : (p : Option Color) → pattern v x y ≡ p → IfSome p (λ c. color_at v (remasked v l k j s) x y ≡ c)
    go None e = tt
    go (Some c) e =
        color_is x y xl yl
        ∙ ap₂ (λ (o : Option ℕ) (p : Option Color). remask_of (format_word v l j) o p (turns k x y) (turns j x y) (color_at v s x y)) (no_format v x y c valid e) e
        ∙ subst (λ (p : Option Color). IfSome p (λ c. color_at v s x y ≡ c)) e stood

  format_stands : (places : List (ℕ × ℕ)) → IsFormatCopy v places → bits_at v (remasked v l k j s) places ≡ number_bits 15 (format_word v l j)
  format_stands places copy =
      let word = format_word v l j in
      let bit : ℕ × ℕ → Bool = λ p. is_dark (color_at v (remasked v l k j s) p.0 p.1) in
      ext_get_or false (map bit places) (number_bits 15 word) (length-map places bit ∙ copy.count ∙ sym (length_number_bits 15 word))
      (λ i h.
      let lt : i < 15 = omega (arith, length-map places bit, copy.count, h) in
      let p : ℕ × ℕ = get_or places i (0, 0) in
      let at = copy.inside i lt in
      get_or-map bit places i (0, 0) false (omega (arith, copy.count))
      ∙ ap is_dark (color_is p.0 p.1 at.0 at.1)
      ∙ ap (λ (o : Option ℕ). is_dark (remask_of word o (pattern v p.0 p.1) (turns k p.0 p.1) (turns j p.0 p.1) (color_at v s p.0 p.1))) (copy.index i lt)
      ∙ dark_color (has_bit word (14 - i))
      ∙ sym (number_bits_at 15 word i lt))

  has_patterns : IsTrue (is_valid v) → HasPatterns v l k s → HasPatterns v l j (remasked v l k j s)
  unfolding remasked
  has_patterns valid old = record {
    square = length-map-range_with_len (λ i. remasked_at v (format_word v l j) k j (i % side v) (i / side v) (get_or s i Light)) 0 (side v * side v);
    pattern = λ x y xl yl. patterns_stand x y valid xl yl (old.pattern x y xl yl);
    format = recursion_from_All _ (format_copies v) (All-weaker (IsFormatCopy v) _ format_stands (format_copies v)
        (All-from_recursion (IsFormatCopy v) (format_copies v) (format_copies_are_indexed v valid)));
  }

  -- the bits at the free places stay the same
  pub stream_stays : IsTrue (is_valid v) → stream v j (remasked v l k j s) ≡ stream v k s
  unfolding stream
  stream_stays valid =
      let places = free_places v in
      let new : ℕ × ℕ → Bool = λ p. turned_if (turns j p.0 p.1) (is_dark (color_at v (remasked v l k j s) p.0 p.1)) in
      let old : ℕ × ℕ → Bool = λ p. turned_if (turns k p.0 p.1) (is_dark (color_at v s p.0 p.1)) in
      ext_get_or false (map new places) (map old places) (length-map places new ∙ sym (length-map places old))
      (λ i h.
      let lt : i < length places = omega (arith, length-map places new, h) in
      let p : ℕ × ℕ = get_or places i (0, 0) in
      let at = free_inside v valid i (0, 0) lt in
      let free = free_nothing v p.0 p.1 (not_true (is_functional_place v p.0 p.1) (free_free v i (0, 0) lt)) in
      get_or-map new places i (0, 0) false lt
      ∙ ap (λ (c : Color). turned_if (turns j p.0 p.1) (is_dark c))
      (color_is p.0 p.1 at.0 at.1
      ∙ ap₂ (λ (o : Option ℕ) (q : Option Color). remask_of (format_word v l j) o q (turns k p.0 p.1) (turns j p.0 p.1) (color_at v s p.0 p.1)) free.1 free.0)
      ∙ turned_again (turns k p.0 p.1) (turns j p.0 p.1) (is_dark (color_at v s p.0 p.1))
      ∙ sym (get_or-map old places i (0, 0) false lt))

  pub is_symbol : (bits : List Bool) → IsTrue (has_level v l) → IsSymbol v l bits k s → IsSymbol v l bits j (remasked v l k j s)
  is_symbol bits level symbol =
      let valid = valid_of v l level in
      let same = sym (stream_stays valid) in
      record {
        patterns = has_patterns valid symbol.patterns;
        holds = subst (λ (t : List Bool). data_bits v l (blocks v l (codewords v l t)) ≡ bits) same symbol.holds;
        vanishes = subst (λ (t : List Bool). AllByRecursion (λ b. Vanishes b (ec_length v l)) (blocks v l (codewords v l t))) same symbol.vanishes;
        remainder = subst (λ (t : List Bool). IsTrue (list_all not (drop (capacity v l + 8 * total_ec_length v l) t))) same symbol.remainder;
      }

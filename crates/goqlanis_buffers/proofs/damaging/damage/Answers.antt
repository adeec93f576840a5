use Rattle.std.proofs.Common.{◌≡◌, ◌↔◌, ◌∙◌, ℕ, Bool, true, false, true≢false, List, IsTrue, refl, sym, subst, arith}
use Rattle.std.specs.Int.{from_bool}
use Rattle.qrcode_types.specs.declared.types.Color.{Color}
use Rattle.qrcode_layout.specs.declared.masks.MaskPattern.{MaskPattern}
use Rattle.qrcode_symbol.specs.Reading.{ReadsBitsOnly}
use Rattle.qrcode.specs.Reading.{EncodesBits, EncodesBytes, ReadsOnly}
use Rattle.qrcode_damage.specs.Damage.{IsPromised, IsWrongBy}
use Rattle.qrcode_damage.specs.declared.damage.Damage.{Damage}
use Rattle.goqlanis_buffers.specs.Damaging.{wanted}
use Rattle.goqlanis_buffers.specs.Outputs.{module_bytes, IsFilled}
use Rattle.goqlanis_buffers.specs.Shades.{colors_of}
use Rattle.goqlanis_buffers.proofs.damaging.damage.Goals as goal

-- 1 says that a fact holds, and 0 that it does not
told : (b : Bool) (P : Type 0) → (IsTrue b ↔ P) → ((from_bool b ≡ 1) ↔ P) × ((from_bool b ≡ 0) ↔ (¬ P))
told true P h = ((λ one. h.0 refl, λ p. refl), (λ none. absurd (omega (arith, none)), λ not. absurd (not (h.0 refl))))
told false P h = ((λ one. absurd (omega (arith, one)), λ p. absurd (true≢false (sym (h.1 p)))), (λ none p. true≢false (sym (h.1 p)), λ not. refl))

pub returns : goal.returns
returns c =
    let f = c.in_ok-format.format in
    let v = f.version in
    let l = f.level in
    let made = c.in-Ok.made.items in
    let old = c.args.modules.now in
    let given = c.deref.ensures.value ∙ c.in_ok-colors.ensures.value in
    let damage = λ (F : Damage → List Color → Type 0) (it : F c.wanted-asked.result c.deref.result.now).
    subst (λ (d : Damage). F d (colors_of old)) c.wanted-asked.ensures (subst (F c.wanted-asked.result) given it) in
    let said = told c.is_promised.result (IsPromised v l (wanted c.args.wrong.now))
    (subst (λ (d : Damage). IsTrue c.is_promised.result ↔ IsPromised v l d) c.wanted-asked.ensures c.is_promised.ensures) in
    record {
      made = record {
        size = omega (arith, c.if-wrong-ne-SIZE.false);
        v = v;
        l = l;
        named = record { square = c.in_ok-format.ensures.square; mask = f.mask; format = c.in_ok-format.ensures.named };
        colors = made;
        filled = subst (λ (s : List Color). IsFilled old c.fill_modules.new.out (module_bytes s)) c.deref-2.ensures.value c.fill_modules.ensures.filled;
        wrong = damage (λ d s. (mask : MaskPattern) → IsWrongBy v l mask d s made) c.in-Ok.ensures.wrong;
        read = damage (λ d s. IsPromised v l d → (bits : List Bool) (bytes : List ℕ) → EncodesBytes v l bits bytes s → ReadsOnly made bytes) c.in-Ok.ensures.read;
        read_bits = damage (λ d s. IsPromised v l d → (bits : List Bool) → EncodesBits v l bits s → ReadsBitsOnly made v l bits) c.in-Ok.ensures.read_bits;
        most = c.most_codewords.ensures;
        within = said.0;
        beyond = said.1;
      };
      unchanged = tt;
      causes = tt;
    }

-- Colours that parts of a code have of their own.
use Rattle.std.proofs.Common.{◌≡◌, ◌&&◌, ◌||◌, Bool, true, false, true≢false, IsTrue, suc, List, [], ◌∷◌, flat_map, length, map, refl, sym, ap, subst, ◌∙◌, arith}
use Rattle.std.proofs.lemmas.Bool.{ne_eqb}
use Rattle.std.proofs.lemmas.Bool.Decides.{nat_tests}
use Rattle.std.specs.List.{list_all}
use Rattle.qrcode_sheets.specs.Formats.{row}
use Rattle.qrcode_sheets.specs.declared.formats.Colours.{Colours}
use Rattle.qrcode_sheets.specs.declared.formats.Colours.TheVariants.{Fixed}
use Rattle.qrcode_sheets.specs.declared.formats.Format.{Format}
use Rattle.goqlanis_buffers.specs.Colours.{has_colours}
use Rattle.goqlanis_buffers.specs.Drawings.{has_density, is_sayable}
use Rattle.qrcode_sheets.specs.Drawn.{are_own, takes_parts}
use Rattle.qrcode_sheets.specs.declared.layers.PartInk.{PartInk}
use Rattle.goqlanis_buffers.specs.Tints.{ink_paint, has_common_colour, have_tints, may_be, paint_in, paints, tints}
use Rattle.goqlanis_buffers.specs.declared.pictures.Drawing.{Drawing}
use Rattle.goqlanis_buffers.specs.declared.tints.Tint.{Tint}

-- if no colour is one of its own, none is drawn
none_of : (test : Tint → Bool) → ((t : Tint) → test t ≡ has_common_colour t) → (ts : List Tint) → list_all test ts ≡ true → flat_map paint_in ts ≡ []
none_of test same [] all = refl
none_of test same (t ∷ ts) all =
    elim (has_common_colour t) as (λ b. has_common_colour t ≡ b → (b && list_all test ts) ≡ true → flat_map paint_in (t ∷ ts) ≡ []) [
      | true ↦ λ is rest. rw is (none_of test same ts rest)
      | false ↦ λ is rest. absurd (true≢false (sym rest))
    ] refl (ap (λ b. b && list_all test ts) (sym (same t)) ∙ all)

third : (a b c : Bool) → IsTrue (a && b && c) → c ≡ true
third a b c is = grind (arith, nat_tests, is)

-- a format without colours of parts draws none
pub no_paints : (f : Format) (d : Drawing) → (row f).parts ≡ Fixed → IsTrue (is_sayable f d) → paints d ≡ []
no_paints f d fixed is =
    none_of (may_be (row f).parts) (λ t. ap (λ c. may_be c t) fixed) (tints d) (third (has_density f d.dpi) (has_colours f d.dark d.light) (have_tints f d) is)

-- a format draws the colours of parts that it supports
pub are_taken : (f : Format) (d : Drawing) (inks : List PartInk) → IsTrue (is_sayable f d) → map ink_paint inks ≡ paints d → IsTrue (takes_parts f inks)
are_taken f d [] sayable same = refl
are_taken f d (k ∷ inks) sayable same =
    subst (λ b. IsTrue (b || are_own (row f).parts)) (sym (ne_eqb (suc (length inks)) 0 (λ e. absurd (omega (arith, e))))) (go (row f).parts refl) where
      go : (c : Colours) → (row f).parts ≡ c → IsTrue (are_own c)
      go Fixed is =
          let none : suc (length (map ink_paint inks)) ≡ 0 = ap length (same ∙ no_paints f d is sayable) in
          absurd (omega (arith, none))
      go c is = refl

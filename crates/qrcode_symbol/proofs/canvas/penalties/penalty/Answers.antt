use Rattle.std.proofs.Common.{◌≡◌, ℕ, zero, suc, ◌+◌, ◌*◌, Bool, List, [], ◌∷◌, map, slice_index_or, refl, ap, sym, subst, ◌∙◌, arith}
use Rattle.std.proofs.lemmas.List.{take_at}
use Rattle.qrcode_types.specs.Colors.{is_dark}
use Rattle.qrcode_types.specs.Versions.{side}
use Rattle.qrcode_types.specs.declared.types.Color.{Color}
use Rattle.qrcode_types.specs.declared.types.Color.TheVariants.{Light}
use Rattle.qrcode_types.specs.declared.types.Version.{Version}
use Rattle.qrcode_penalty.specs.Rows.{PackedRows, Shows, inside, dark_in}
use Rattle.qrcode_symbol.specs.declared.canvas.Module.{Module}
use Rattle.qrcode_symbol.specs.declared.canvas.Module.TheVariants.{Empty, Masked}
use Rattle.qrcode_symbol.specs.Masking.{is_dark_module, ShowsModules}
use Rattle.qrcode_symbol.specs.Penalties.{penalty, penalty_of, is_dark_at}
use Rattle.qrcode_symbol.proofs.canvas.penalties.penalty.Goals as goal

-- a finished module is as dark as its colour
dark_at : (s : List Color) (k : ℕ) → is_dark (slice_index_or s k Light) ≡ is_dark_module (slice_index_or (map Masked s) k Empty)
dark_at [] k = refl
dark_at (c ∷ s) zero = refl
dark_at (c ∷ s) (suc k) = dark_at s k

-- what is counted on packed rows of finished modules is counted on their colours
counted : {A : Type 0} (bits : A → ℕ) (v : Version) (s : List Color) (w p : ℕ) (modules : List Module) (dark rows : List A) (square : PackedRows)
    → w ≡ side v → modules ≡ map Masked s → rows ≡ dark → square ≡ record { width = w; rows = map bits rows } → ShowsModules is_dark_module w modules (map bits dark)
    → ((dark : ℕ → ℕ → Bool) → Shows square.width square.rows dark → p ≡ penalty_of v (inside square.width dark)) → p ≡ penalty_of v (is_dark_at v s)
counted bits v s w p modules dark rows square e made same is shows counts =
    let dark_of = λ (n x y : ℕ). is_dark (slice_index_or s (y * n + x) Light) in
    subst (λ (q : PackedRows). (dark : ℕ → ℕ → Bool) → Shows q.width q.rows dark → p ≡ penalty_of v (inside q.width dark)) is counts (dark_of w) (λ x y h l.
    dark_at s (y * w + x) ∙ ap (λ (ms : List Module). is_dark_module (slice_index_or ms (y * w + x) Empty)) (sym made)
    ∙ shows x y h l ∙ ap (λ rs. dark_in (map bits rs) x y) (sym same))
    ∙ ap (λ (n : ℕ). penalty_of v (inside n (dark_of n))) e

pub square_penalty-requires : goal.square_penalty-requires
square_penalty-requires c = ap (λ (s : PackedRows). s.width) c.new-square.ensures ∙ c.side-width.ensures.value

pub returns-clause-value : goal.returns-clause-value
unfolding penalty
returns-clause-value c =
    counted _ c.args.version c.args.colors.now c.side-width.result c.square_penalty.result c.deref.result.now c.pack_rows.new.dark c.deref-2.result.now c.new-square.result c.side-width.ensures.value (c.deref.ensures.value ∙ c.in_ok-modules.ensures)
    (c.deref-2.ensures.value ∙ take_at c.pack_rows.new.dark _ _ (omega arith)) c.new-square.ensures c.pack_rows.ensures.dark c.square_penalty.ensures.shown

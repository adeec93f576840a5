use Rattle.std.proofs.Common.{◌≡◌, ap, ap₂, sym, ◌∙◌, ◌-◌, ◌*◌, arith, if◌then◌else◌}
use Rattle.qrcode_types.specs.Versions.{capacity, has_half_codeword}
use Rattle.qrcode_types.proofs.BlockTable.{capacity-le}
use Rattle.qrcode_types.proofs.tables.capacity.Goals as goal
use Rattle.qrcode_types.proofs.tables.capacity.Goals.{then-has_half_codeword, else-has_half_codeword}

pub returns-clause-value : goal.returns-clause-value
unfolding capacity
returns-clause-value c =
    let bytes = c.data_length.ensures.of_version c.args.version c.args.ec_level c.in_ok-blocks.ensures.value in
    let half : c.if-has_half_codeword.half ≡ (if has_half_codeword c.args.version c.args.ec_level then 4 else 0) =
    elim c.if-has_half_codeword.branch [
      | then-has_half_codeword w ↦ w.half-is ∙ ap (λ b. if b then 4 else 0) (sym w.if-has_half_codeword.true ∙ c.has_half_codeword.ensures)
      | else-has_half_codeword w ↦ w.half-is ∙ ap (λ b. if b then 4 else 0) (sym w.if-has_half_codeword.false ∙ c.has_half_codeword.ensures)
    ] in
    ap₂ (λ n b. 8 * n - b) bytes half

pub returns-clause-at_most : goal.returns-clause-at_most
returns-clause-at_most c =
    omega (arith, returns-clause-value c, capacity-le c.args.version c.args.ec_level (sym c.in_ok-blocks.ensures.exists))

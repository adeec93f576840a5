use Rattle.std.proofs.Common.{length, List, Bool, ap, subst, ◌∙◌, arith}
use Rattle.qrcode.proofs.Sides.{valid_of}
use Rattle.qrcode_check.specs.Checks.{IsContentOf}
use Rattle.qrcode_check.specs.Correction.{unused_correction, wrong_codewords}
use Rattle.qrcode_check.specs.Forms.{IsReadRank}
use Rattle.qrcode_check.specs.declared.forms.FormReading.{FormReading}
use Rattle.qrcode_check.proofs.Allowances.{few_allowed}
use Rattle.qrcode_check.proofs.Sound.{level_exists, short_bits}
use Rattle.qrcode_check.proofs.checking.check_square.Goals as goal

pub unused_correction-unused-requires : goal.unused_correction-unused-requires
unused_correction-unused-requires c =
    let r = c.in_ok-read.read in
    omega (
      arith,
      c.allowed_in_block-allowed.ensures,
      few_allowed r.version r.ec_level (level_exists c.args.modules.now r.version r.ec_level r.mask r.bits.items r.wrong.items c.in_ok-read.ensures.value),
    )

pub content_of-requires-clause-valid : goal.content_of-requires-clause-valid
content_of-requires-clause-valid c =
    let r = c.in_ok-read.read in
    valid_of r.version r.ec_level (level_exists c.args.modules.now r.version r.ec_level r.mask r.bits.items r.wrong.items c.in_ok-read.ensures.value)

pub content_of-requires-clause-room : goal.content_of-requires-clause-room
content_of-requires-clause-room c =
    let r = c.in_ok-read.read in
    omega (arith, ap length c.deref-3.ensures.value, short_bits c.args.modules.now r.version r.ec_level r.mask r.bits.items r.wrong.items c.in_ok-read.ensures.value)

pub returns-clause-value : goal.returns-clause-value
returns-clause-value c =
    let r = c.in_ok-read.read in
    let s = c.args.modules.now in
    record {
      bits = r.bits.items;
      wrong = r.wrong.items;
      read = c.in_ok-read.ensures.value;
      counts = c.in_ok-wrong.ensures ∙ ap (wrong_codewords r.version r.ec_level) c.deref.ensures.value;
      allowed = c.allowed_in_block-allowed.ensures;
      unused = c.unused_correction-unused.ensures.value ∙ ap (unused_correction c.allowed_in_block-allowed.result) c.deref-2.ensures.value;
      modules = c.in_ok-wrong_modules.ensures;
      own = c.in_ok-rank_by.ensures;
      stepped = c.in_ok-rank_by-2.ensures;
      narrow = subst (λ (by : FormReading). IsReadRank by r.version r.ec_level r.mask s c.in_ok-rank_by-3.field-0) c.reading-narrow.ensures c.in_ok-rank_by-3.ensures;
      inside = subst (λ (by : FormReading). IsReadRank by r.version r.ec_level r.mask s c.in_ok-rank_by-4.field-0) c.reading-inside.ensures c.in_ok-rank_by-4.ensures;
      narrow_inside = subst (λ (by : FormReading). IsReadRank by r.version r.ec_level r.mask s c.in_ok-rank_by-5.field-0) c.reading-both.ensures c.in_ok-rank_by-5.ensures;
      content = subst (λ (bits : List Bool). IsContentOf r.version bits c.in_ok-content_of.field-0) c.deref-3.ensures.value c.in_ok-content_of.ensures;
    }

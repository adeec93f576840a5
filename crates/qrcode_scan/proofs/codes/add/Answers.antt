use Rattle.std.proofs.Common.{◌≡◌, Some, inl, refl, rules, subst}
use Rattle.qrcode_scan.specs.Codes.{IsCodeFound, IsCodeIn, IsFoundBy}
use Rattle.qrcode_scan.proofs.Read.{any_inserted, any_kept, code_added, missed_added, shared_any}
use Rattle.qrcode_scan.proofs.codes.add.Goals as goal

pub returns-then-has_read-clause-whole : goal.returns-then-has_read-clause-whole
returns-then-has_read-clause-whole c = λ w shows at. shared_any w c.args.grid.now c.args.codes.now.scans.items at (c.if-has_read.ensures.some (search rules))

pub returns-in_ok-insert_code-in-Code-clause-codes : goal.returns-in_ok-insert_code-in-Code-clause-codes
returns-in_ok-insert_code-in-Code-clause-codes c =
    let b = c.args.pixels.now in
    let x = c.in-Code.scan in
    let code : IsCodeIn b c.args.is_inverted x = search rules in
    let grid : x.grid ≡ Some c.args.grid.now = search rules in
    code_added b c.args.is_inverted c.args.codes.now _ x c.args.grid.now c.in_ok-insert_code-in-Code.ensures refl code grid (c.if-has_read.ensures.none (search rules)) c.requires.codes

pub returns-in_ok-insert_code-in-Code-clause-kept : goal.returns-in_ok-insert_code-in-Code-clause-kept
returns-in_ok-insert_code-in-Code-clause-kept c = λ w any.
    any_kept (IsFoundBy w) c.args.codes.now.scans.items c.insert_code.new.scans.items c.in-Code.scan c.in_ok-insert_code-in-Code.ensures any

pub returns-in_ok-insert_code-in-Code-clause-whole : goal.returns-in_ok-insert_code-in-Code-clause-whole
returns-in_ok-insert_code-in-Code-clause-whole c = λ w shows at.
    any_inserted (IsFoundBy w) c.args.codes.now.scans.items c.insert_code.new.scans.items c.in-Code.scan c.in_ok-insert_code-in-Code.ensures (inl (subst (IsCodeFound w) c.in-Code.is (c.in_ok-scan.ensures.whole w shows at)))

pub returns-in_ok-push_missed-in-Missed-clause-codes : goal.returns-in_ok-push_missed-in-Missed-clause-codes
returns-in_ok-push_missed-in-Missed-clause-codes c =
    missed_added c.args.pixels.now c.args.is_inverted c.args.codes.now _ c.in-Missed.missed c.in_ok-push_missed-in-Missed.ensures refl (search rules) c.requires.codes

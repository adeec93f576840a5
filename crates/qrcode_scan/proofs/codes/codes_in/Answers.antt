use Rattle.std.proofs.Common.{◌≡◌, length, inr, rules}
use Rattle.qrcode_scan.proofs.Read.{clean_whole, whole_none}
use Rattle.qrcode_scan.proofs.codes.codes_in.Goals as goal

pub returns-in-Ok-clause-whole : goal.returns-in-Ok-clause-whole
returns-in-Ok-clause-whole c = clean_whole c.args.pixels.now c.in_ok-only-in-Ok.field-0.scans.items c.in-Ok.scan c.in_ok-only-in-Ok.ensures.scans c.in-Ok.ensures.clean

pub returns-then-is_empty-clause-none : goal.returns-then-is_empty-clause-none
returns-then-is_empty-clause-none c =
    let scans = c.in_ok-codes-in_default.codes.scans.items in
    let empty : length scans ≡ 0 = search rules in
    inr (whole_none c.args.pixels.now scans empty c.in_ok-codes-in_default.ensures.whole)

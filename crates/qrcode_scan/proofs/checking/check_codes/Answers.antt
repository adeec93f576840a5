use Rattle.std.proofs.Common.{◌∙◌, All, ap, sym, subst, arith, inl, inr}
use Rattle.std.specs.List.{AllZip}
use Rattle.std.specs.Prelude.{AllPairs}
use Rattle.std.proofs.lemmas.Slice.Zip.{AllZip-long}
use Rattle.qrcode_scan.specs.Checked.{IsCheckOfScan}
use Rattle.qrcode_scan.specs.Codes.{AreTwo}
use Rattle.qrcode_scan.specs.Scans.{IsScanOf, IsUnreadPicture}
use Rattle.qrcode_scan.specs.declared.codes.Codes.{Codes}
use Rattle.qrcode_scan.specs.declared.scanning.ScanError.TheVariants.{NoSymbol}
use Rattle.qrcode_scan.proofs.Checked.{have_squares}
use Rattle.qrcode_scan.proofs.checking.check_codes.Goals as goal

pub checked-requires : goal.checked-requires
checked-requires c = have_squares c.args.bytes.now c.in-Ok.codes.scans.items c.in-Ok.ensures.value

pub returns-in_ok-checked-in-Ok-clause-each : goal.returns-in_ok-checked-in-Ok-clause-each
returns-in_ok-checked-in-Ok-clause-each c =
    let found = c.in_ok-checked-in-Ok.field-0 in
    let same = sym c.in_ok-checked-in-Ok.ensures.codes in
    inl (record {
      read = subst (λ (codes : Codes). All (IsScanOf c.args.bytes.now) codes.scans.items) same c.in-Ok.ensures.value;
      said = subst (λ (codes : Codes). AllZip IsCheckOfScan codes.scans.items found.checks.items) same c.in_ok-checked-in-Ok.ensures.checks;
    })

pub returns-in_ok-checked-in-Ok-clause-once : goal.returns-in_ok-checked-in-Ok-clause-once
returns-in_ok-checked-in-Ok-clause-once c = subst (λ (codes : Codes). AllPairs AreTwo codes.scans.items) (sym c.in_ok-checked-in-Ok.ensures.codes) c.in-Ok.ensures.once

pub returns-in_ok-checked-in-Ok-clause-some : goal.returns-in_ok-checked-in-Ok-clause-some
returns-in_ok-checked-in-Ok-clause-some c =
    let long = AllZip-long IsCheckOfScan c.in-Ok.codes.scans.items c.in_ok-checked-in-Ok.field-0.checks.items c.in_ok-checked-in-Ok.ensures.checks in
    omega (arith, long, c.in-Ok.ensures.some)

pub returns-in_ok-only-in-Err-NoSymbol-default-NotSpelled-clause-each : goal.returns-in_ok-only-in-Err-NoSymbol-default-NotSpelled-clause-each
returns-in_ok-only-in-Err-NoSymbol-default-NotSpelled-clause-each c =
    let unread = c.in-Err-NoSymbol-default-NotSpelled in
    let check = c.in_ok-check-in-Err-NoSymbol-default-NotSpelled in
    let found = c.in_ok-only-in-Err-NoSymbol-default-NotSpelled.ensures in
    inr (record {
      count = unread.field-0-0;
      unread = subst (IsUnreadPicture c.args.bytes.now) (unread.field-0-is ∙ ap (NoSymbol unread.field-0-0) unread.field-0-1-is) unread.ensures.causes;
      none = found.scans;
      check = check.check;
      only = found.checks;
      said = check.ensures.check;
    })

pub returns-in_ok-only-in-Err-NoSymbol-default-NotSpelled-clause-whole : goal.returns-in_ok-only-in-Err-NoSymbol-default-NotSpelled-clause-whole
returns-in_ok-only-in-Err-NoSymbol-default-NotSpelled-clause-whole c =
    let unread = c.in-Err-NoSymbol-default-NotSpelled in
    let why = subst (IsUnreadPicture c.args.bytes.now) (unread.field-0-is ∙ ap (NoSymbol unread.field-0-0) unread.field-0-1-is) unread.ensures.causes in
    record { pixels = why.pixels; is_inverted = why.is_inverted; seen = why.seen; found = λ w shows. inl (why.none w shows) }

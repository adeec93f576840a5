use Rattle.std.proofs.Common.{length, refl, inr, rules}
use Rattle.goqlanis_buffers.specs.Scanning.{ExceedsRoom}
use Rattle.goqlanis_buffers.proofs.scanning.scan_into.Goals as goal

pub returns-then-codes-len : goal.returns-then-codes-len
returns-then-codes-len c =
    let told = c.in_ok-told.told in
    let exceeds : ExceedsRoom told (length c.args.codes.now) (length c.args.parts.now) (length c.args.bytes.now) = search rules in
    record { made = tt; codes_unchanged = refl; parts_unchanged = refl; bytes_unchanged = refl; causes = inr (refl, (told, (c.in_ok-told.ensures.told, exceeds))) }

pub returns : goal.returns
returns c = record {
  made = record { told = c.in_ok-told.told; read = c.in_ok-told.ensures.told; put = search rules };
  codes_unchanged = tt;
  parts_unchanged = tt;
  bytes_unchanged = tt;
  causes = tt;
}

use Rattle.qrcode_scan.specs.Codes.{AreCodesIn}
use Rattle.qrcode_scan.proofs.Read.{AreLookedAt}
use Rattle.qrcode_scan.proofs.codes.codes_found.Given as goal

abbrev pub invariant-loop-grid : goal.invariant-loop-grid
invariant-loop-grid l = record { codes : AreCodesIn l.pixels l.is_inverted l.codes; whole : AreLookedAt l.pixels l.grid-items l.codes.scans.items l.grid-index }

-- Checks of codes.
use Rattle.std.proofs.Common.{[], ◌∷◌, List, All, sym, subst, inl, inr, arith}
use Rattle.std.specs.List.{AllZip}
use Rattle.std.proofs.lemmas.List.Elements.{All-cons, All-nil}
use Rattle.std.specs.Prelude.{ℕ}
use Rattle.qrcode_types.specs.declared.types.Color.{Color}
use Rattle.qrcode_check.specs.Checks.{IsCheck}
use Rattle.qrcode_check.specs.declared.checking.Check.{Check}
use Rattle.qrcode_scan.specs.Checked.{AreChecksOf, IsCheckOfScan}
use Rattle.qrcode_scan.specs.declared.scanning.Scan.{Scan}
use Rattle.goqlanis_buffers.specs.Checking.{HasCheckLevel}

-- the version of a check has the level
pub level_exists : (s : List Color) (check : Check) → IsCheck s check → HasCheckLevel check
level_exists s check is = is.read.only.found.exists

-- the same for the codes in a picture
pub levels_exist : (picture : List ℕ) (scans : List Scan) (checks : List Check) → AreChecksOf picture scans checks → All HasCheckLevel checks
levels_exist picture scans checks are = elim are [
  | inl read ↦ each scans checks read.said
  | inr square ↦ subst (All HasCheckLevel) (sym square.only) (All-cons HasCheckLevel square.check [] (level_exists square.said.said.modules square.check square.said.said.said) (All-nil HasCheckLevel))
] where
  each : (scans : List Scan) (checks : List Check) → AllZip IsCheckOfScan scans checks → All HasCheckLevel checks
  each [] [] said = All-nil HasCheckLevel
  each (scan ∷ scans) (check ∷ checks) said = All-cons HasCheckLevel check checks (level_exists _ check said.0) (each scans checks said.1)
  each scans checks said = absurd said

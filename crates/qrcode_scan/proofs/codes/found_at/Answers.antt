use Rattle.std.specs.Prelude.{max}
use Rattle.std.proofs.Common.{◌≡◌, ◌∙◌, ◌*◌, ◌/◌, ◌⊎◌, ℕ, List, length, sym, ap, subst, inr, rules}
use Rattle.qrcode_types.specs.declared.types.Color.{Color}
use Rattle.qrcode_scan.specs.Grids.{IsSampled}
use Rattle.qrcode_scan.specs.declared.squares.Square.{Square}
use Rattle.qrcode_reader.specs.Positions.{IsFirstPartsReading}
use Rattle.qrcode_reader.specs.Readings.{IsPartsCause}
use Rattle.qrcode_reader.specs.declared.refusals.Unread as reading
use Rattle.qrcode_scan.proofs.Read.{missed_code, missed_told}
use Rattle.qrcode_scan.proofs.Sampled.{sampled_length}
use Rattle.qrcode_scan.proofs.WhyUnread.{HasNone}
use Rattle.qrcode_scan.proofs.WholeCodes.{code_of, reads_some}
use Rattle.qrcode_scan.proofs.codes.found_at.Goals as goal

pub scan_of-requires : goal.scan_of-requires
scan_of-requires c =
    let g = c.args.grid.now in
    let any = c.in-Ok.any in
    let sampled : IsSampled c.args.pixels.now g c.in-Some.modules.items = search rules in
    let same : c.deref.result.now ≡ c.in-Some.modules.items = search rules in
    subst
    (λ (m : List Color). IsFirstPartsReading g.count m any.position any.is_inverted any.reading.version any.reading.ec_level any.reading.mask any.reading.parts.bytes.items
    any.reading.parts.parts.items any.reading.wrong.items)
    same (c.in-Ok.ensures.value g.count (sampled_length c.args.pixels.now g c.in-Some.modules.items sampled ∙ ap length (sym same)))

abbrev Why : List Color → reading.Unread → Type 0
Why m e = (e ≡ reading.TheVariants.OutOfMemory) ⊎ (IsPartsCause m e × ((side : ℕ) → side * side ≡ length m → HasNone side m))

pub returns-in-Err-clause-found : goal.returns-in-Err-clause-found
returns-in-Err-clause-found c =
    let b = c.args.pixels.now in
    let g = c.args.grid.now in
    let e = c.in-Err.cause in
    let m = c.in-Some.modules.items in
    let told = c.in_ok-unread_at-in-Err.ensures in
    let sampled : IsSampled b g m = search rules in
    let same : c.deref.result.now ≡ m = search rules in
    (missed_told b c.args.is_inverted g (record { grid = g; cause = e }) c.in_ok-unread_at-in-Err.field-0
    (missed_code b g m e sampled told.memory (subst (λ (n : List Color). Why n e) same c.in-Err.ensures.causes)) told.missed).0

pub returns-in-Err-clause-whole : goal.returns-in-Err-clause-whole
returns-in-Err-clause-whole c =
    let b = c.args.pixels.now in
    let g = c.args.grid.now in
    let e = c.in-Err.cause in
    let m = c.in-Some.modules.items in
    let sampled : IsSampled b g m = search rules in
    let same : c.deref.result.now ≡ m = search rules in
    λ w shows at. absurd (reads_some b w g m e sampled c.in_ok-unread_at-in-Err.ensures.memory (subst (λ (n : List Color). Why n e) same c.in-Err.ensures.causes) shows at)

pub returns-clause-found : goal.returns-clause-found
returns-clause-found c =
    let b = c.args.pixels.now in
    let g = c.args.grid.now in
    let sampled : IsSampled b g c.in-Some.modules.items = search rules in
    let scan = c.in_ok-scan_of.ensures.square in
    let most : c.max.result ≡ max g.across g.fall = search rules in
    record {
      inverted = c.in_ok-scan_of.ensures.inverted;
      square = record {
        found = inr (
          (
            g,
            (
              scan.1,
              record {
                count = ap (λ (s : Square). s.count) scan.0;
                zone = ap (λ (s : Square). s.zone) scan.0;
                scale = ap (λ (s : Square). s.scale) scan.0 ∙ ap (λ (n : ℕ). n / g.parts) most;
                sampled = subst (λ (s : Square). IsSampled b g s.modules.items) (sym scan.0) sampled;
              },
            ),
          ),
          c.requires,
        );
      };
      read = c.in_ok-scan_of.ensures.read;
    }

pub returns-clause-whole : goal.returns-clause-whole
returns-clause-whole c =
    let b = c.args.pixels.now in
    let g = c.args.grid.now in
    let sampled : IsSampled b g c.in-Some.modules.items = search rules in
    let scan = c.in_ok-scan_of.ensures.square in
    λ w shows at. code_of b w g _ shows at scan.1 (subst (λ (s : Square). IsSampled b g s.modules.items) (sym scan.0) sampled)

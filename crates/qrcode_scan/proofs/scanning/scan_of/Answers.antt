use Rattle.std.proofs.Common.{◌≡◌, ◌∙◌, false, sym, subst, rules}
use Rattle.qrcode_gs1.specs.symbol.Reading.{ReadsMarkedOnly}
use Rattle.qrcode_reader.specs.Positions.{seen, IsFirstReading}
use Rattle.qrcode_scan.specs.HandedOn.{handed_on}
use Rattle.qrcode_scan.proofs.Marked.{read_marked}
use Rattle.qrcode_scan.proofs.Plain.{first_plain, plain_on}
use Rattle.qrcode_scan.proofs.scanning.scan_of.Goals as goal

pub returns-clause-read : goal.returns-clause-read
returns-clause-read c =
    let s = c.args.square in
    let any = c.args.any in
    let r = any.reading in
    let square = seen s.count any.position any.is_inverted s.modules.items in
    let handed : c.in_ok-data.data.items ≡ handed_on false r.parts.parts.items r.parts.bytes.items = search rules in
    record {
      bytes = r.parts.bytes.items;
      first = c.requires;
      handed = handed;
      plain = λ none.
          let same = handed ∙ plain_on square r.version r.ec_level r.mask r.parts.bytes.items r.parts.parts.items r.wrong.items none c.requires.read in
          subst (λ bytes. IsFirstReading s.count s.modules.items any.position any.is_inverted r.version r.ec_level r.mask bytes r.wrong.items) (sym same)
          (first_plain s.count s.modules.items any.position any.is_inverted r.version r.ec_level r.mask r.parts.bytes.items r.parts.parts.items r.wrong.items none c.requires);
      marked = λ p segments are none.
          subst (ReadsMarkedOnly square p) (sym handed)
          (read_marked square r.version r.ec_level r.mask r.parts.bytes.items r.parts.parts.items r.wrong.items p segments are none c.requires.read);
    }

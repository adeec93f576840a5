-- What a constructor that ends in `with_bits` promises about its data.
use Rattle.std.proofs.Common.{◌≡◌, ℕ, ◌≤◌, Bool, List, [], length, flat_map, length-append, ap, ◌∙◌, arith, Result, Ok, Err, IfOk, sym, subst}
use Rattle.std.specs.List.{AllByRecursion}
use Rattle.qrcode_types.specs.Versions.{capacity}
use Rattle.qrcode_types.specs.declared.types.Version.{Version}
use Rattle.qrcode_types.specs.declared.types.EcLevel.{EcLevel}
use Rattle.qrcode_types.specs.declared.types.Color.{Color}
use Rattle.qrcode_types.specs.declared.types.QrError.{QrError}
use Rattle.qrcode_bits.specs.BitList.{BitList}
use Rattle.qrcode_bits.specs.Encoded.{IsChosenList}
use Rattle.qrcode_bits.specs.Optimal.{PushesLeast}
use Rattle.qrcode_bits.specs.Segments.{total_cost}
use Rattle.qrcode_bits.specs.Spelling.{IsReadBack, Spells, SpellsOnly}
use Rattle.qrcode_bits.specs.Written.{Piece, written, ending, terminated, pieces_of}
use Rattle.qrcode_bits.specs.declared.optimize.Segment.{Segment}
use Rattle.qrcode.specs.Acceptance.{IsLeastSymbol, IsChosenSymbol}
use Rattle.qrcode.specs.Reading.{EncodesBits, EncodesBytes}
use Rattle.qrcode.specs.Code.{Code}
use Rattle.qrcode.proofs.Symbols.{encodes_bytes}

-- the symbol of the terminated bits of segments that spell the data
encodes_cut : (v : Version) (l : EcLevel) (bytes : List ℕ) (segments : List Segment) (bits : List Bool) (s : List Color) → bits ≡ terminated v l (written v (pieces_of bytes segments))
    → Spells v bits bytes → EncodesBits v l bits s → EncodesBytes v l (terminated v l (written v (pieces_of bytes segments))) bytes s
encodes_cut v l bytes segments bits s is spelled encodes = subst (λ b. EncodesBytes v l b bytes s) is (encodes_bytes v l bits s bytes encodes spelled)

-- the symbol of data in the version and segments that are chosen
pub chosen_symbol : (l : EcLevel) (bytes : List ℕ) (list : BitList) (code : Result Code QrError) → IsChosenList l bytes list → IfOk code (λ code. code.version ≡ list.version)
    → IfOk code (λ code. EncodesBits list.version l list.bits code.modules) → IfOk code (λ code. IsChosenSymbol code.version l bytes code.modules)
chosen_symbol l bytes list (Err e) held version encodes = tt
chosen_symbol l bytes list (Ok code) held version encodes =
    let made : IsChosenSymbol list.version l bytes code.modules = record {
      least_version = held.least_version;
      symbol = record {
        segments = held.segments;
        least = held.least;
        encodes = encodes_cut list.version l bytes held.segments list.bits code.modules held.terminated.bits held.terminated.spelled.found encodes;
      };
    } in
    subst (λ u. IsChosenSymbol u l bytes code.modules) (sym version) made

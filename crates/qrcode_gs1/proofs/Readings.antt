-- How squares of bytes after FNC1 are read, and their symbol.
use Rattle.std.proofs.Common.{◌≡◌, ℕ, ◌≤◌, ◌++◌, Bool, List, subst, ◌∙◌, Result, Ok, Err, IfOk}
use Rattle.std.specs.Prelude.{pos}
use Rattle.qrcode_types.specs.declared.types.Color.{Color}
use Rattle.qrcode_types.specs.declared.types.EcLevel.{EcLevel}
use Rattle.qrcode_types.specs.declared.types.Version.{Version}
use Rattle.qrcode_types.specs.declared.types.Version.TheVariants.{Normal}
use Rattle.qrcode_types.specs.declared.types.QrError.{QrError}
use Rattle.qrcode_symbol.specs.Reading.{ReadsBits}
use Rattle.qrcode_bits.specs.BitList.{BitList}
use Rattle.qrcode_bits.specs.Written.{written, terminated}
use Rattle.qrcode.specs.Code.{Code}
use Rattle.qrcode.specs.Reading.{EncodesBits}
use Rattle.qrcode.proofs.Readings.{bits_are_read_one_way}
use Rattle.qrcode_gs1.specs.symbol.Characters.{mark, marked_pieces}
use Rattle.qrcode_gs1.specs.symbol.Reading.{SpellsMarked, ReadsMarkedOnly}
use Rattle.qrcode_gs1.specs.symbol.Symbols.{HoldsMarked, IsMarkedList, IsMarkedSymbol}
use Rattle.qrcode_gs1.specs.declared.symbol.Fnc1.{Fnc1}
use Rattle.qrcode_gs1.proofs.Spelled.{one_marked}

-- a square decodes to only one list of bytes
pub reads_marked_only : (s : List Color) (v : Version) (l : EcLevel) (bits : List Bool) (p : Fnc1) (bytes : List ℕ) → ReadsBits s v l bits → SpellsMarked v bits p bytes → ReadsMarkedOnly s p bytes
reads_marked_only s v l bits p bytes read spelled = record {
  found = record { version = v; level = l; bits = bits; read = read; spelled = spelled };
  only = λ others r.
      let e = bits_are_read_one_way s v r.version l r.level bits r.bits read r.read in
      one_marked v bits p bytes others spelled (subst (λ u. SpellsMarked u bits p others) e.0 (subst (λ b. SpellsMarked r.version b p others) e.2 r.spelled));
}

-- the same for the symbol
pub symbol_of : (from : ℕ) (p : Fnc1) (n : ℕ) (l : EcLevel) (bytes : List ℕ) (list : BitList) (r : Result Code QrError) → from ≤ n → HoldsMarked p l bytes n → ((other : ℕ) → from ≤ other → HoldsMarked p l bytes other → n ≤ other)
    → IsMarkedList p (Normal (pos n)) l bytes list → IfOk r (λ code. code.version ≡ list.version) → IfOk r (λ code. code.level ≡ l) → IfOk r (λ code. EncodesBits list.version l list.bits code.modules)
    → IfOk r (IsMarkedSymbol from p l bytes)
symbol_of from p n l bytes list (Err e) above holds first made version level encodes = tt
symbol_of from p n l bytes list (Ok code) above holds first made version level encodes =
    let u = Normal (pos n) in
    let bits = terminated u l (mark p ++ written u (marked_pieces bytes made.segments)) in
    let own : EncodesBits u l bits code.modules = subst (λ b. EncodesBits u l b code.modules) made.bits (subst (λ x. EncodesBits x l list.bits code.modules) made.version encodes) in
    let spelled : SpellsMarked u bits p bytes = subst (λ b. SpellsMarked u b p bytes) made.bits made.spelled in
    record {
      number = n;
      at_least = above;
      version = version ∙ made.version;
      level = level;
      holds = holds;
      least_version = first;
      segments = made.segments;
      least = made.least;
      encodes = own;
      read = λ other damage. reads_marked_only other u l bits p bytes (own.read other damage).found spelled;
    }

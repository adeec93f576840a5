use Rattle.std.proofs.Common.{◌≤◌, ℕ, List, length, sym, ap, subst, arith}
use Rattle.std.specs.Prelude.{IfSome, IfNone}
use Rattle.std.specs.List.{AllByRecursion}
use Rattle.qrcode_reader.specs.declared.spell.parts.Part.{Part}
use Rattle.qrcode_reader.specs.spell.Parts.{byte_count}
use Rattle.qrcode_check.specs.Guesses.{AreGuesses}
use Rattle.qrcode_check.specs.Segments.{IsBitUse, NotComparable}
use Rattle.qrcode_check.proofs.Bounded.{few_parts, few_bytes, short_parts}
use Rattle.qrcode_check.proofs.checking.content_of.Goals as goal

pub bits_taken-requires-clause-length : goal.bits_taken-requires-clause-length
bits_taken-requires-clause-length c =
    let p = c.in-Ok.parts in
    omega (arith, ap length c.deref-2.ensures.value, few_bytes c.args.version c.args.bits.now p.bytes.items p.parts.items c.in-Ok.ensures.value, c.requires.room)

pub bits_taken-requires-clause-few : goal.bits_taken-requires-clause-few
bits_taken-requires-clause-few c =
    let p = c.in-Ok.parts in
    omega (arith, ap length c.deref.ensures.value, few_parts c.args.version c.args.bits.now p.bytes.items p.parts.items c.in-Ok.ensures.value, c.requires.room)

pub bits_taken-requires-clause-short : goal.bits_taken-requires-clause-short
bits_taken-requires-clause-short c =
    let p = c.in-Ok.parts in
    subst (AllByRecursion (λ p. byte_count p ≤ 100000)) (sym c.deref.ensures.value)
    (short_parts c.args.version c.args.bits.now p.bytes.items p.parts.items 100000 (omega (arith, c.requires.room)) c.in-Ok.ensures.value)

pub returns : goal.returns
returns c =
    let v = c.args.version in
    let p = c.in-Ok.parts in
    let t = c.in_ok-bits_taken.field-0 in
    record {
      bytes = p.bytes.items;
      parts = p.parts.items;
      parted = c.in-Ok.ensures.value;
      used = p.end;
      behind = c.in-Ok.ensures.end;
      ending = c.ending_behind.ensures;
      guesses = subst (λ (ps : List Part). AreGuesses ps p.bytes.items c.guesses_in.result) c.deref-3.ensures.value
          (subst (λ (bs : List ℕ). AreGuesses c.deref-3.result.now bs c.guesses_in.result) c.deref-4.ensures.value c.guesses_in.ensures);
      taken = subst (λ (ps : List Part). IfSome t (IsBitUse v p.bytes.items ps)) c.deref.ensures.value
          (subst (λ (bs : List ℕ). IfSome t (IsBitUse v bs c.deref.result.now)) c.deref-2.ensures.value c.in_ok-bits_taken.ensures.value);
      not_taken = subst (λ (ps : List Part). IfNone t (NotComparable v p.bytes.items ps)) c.deref.ensures.value
          (subst (λ (bs : List ℕ). IfNone t (NotComparable v bs c.deref.result.now)) c.deref-2.ensures.value c.in_ok-bits_taken.ensures.none);
    }

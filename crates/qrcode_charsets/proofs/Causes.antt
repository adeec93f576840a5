-- Why a text has no symbol.
use Rattle.std.proofs.Common.{◌≡◌, ℕ, ◌<◌, ◌≤◌, List, length, IsTrue, refl, sym, ap, subst, ◌∙◌, arith, inl, inr, true≢false, Result, Ok, Err, IfErr}
use Rattle.std.specs.Prelude.{IsUtf8, chars, IsErr, IsErrAnd, IsOkUnless}
use Rattle.std.proofs.lemmas.Bool.{false≢true}
use Rattle.std.proofs.lemmas.Str.{encodes-chars}
use Rattle.qrcode_types.specs.Versions.{is_valid}
use Rattle.qrcode_types.specs.declared.types.Version.{Version}
use Rattle.qrcode_types.specs.declared.types.EcLevel.{EcLevel}
use Rattle.qrcode_types.specs.declared.types.QrError.{QrError}
use Rattle.qrcode_types.specs.declared.types.QrError.TheVariants.{DataTooLong, UnsupportedCharacterSet, OutOfMemory}
use Rattle.qrcode_bits.specs.Manners.{rank}
use Rattle.qrcode_bits.specs.Refusals.{data_limit}
use Rattle.qrcode_bits.proofs.Shortness.{fitting_short}
use Rattle.qrcode_charsets.specs.Laid.{cut_bytes, HasRoom}
use Rattle.qrcode_charsets.specs.Shortest.{CanShow, NoneHas, IsTextRefused, NeedsText}
use Rattle.qrcode_charsets.specs.declared.sets.Charset.{Charset}
use Rattle.qrcode_charsets.proofs.Lists.{can_room}
use Rattle.qrcode_charsets.proofs.StandIns.{length-cut_bytes}
use Rattle.qrcode_charsets.proofs.Writings.{written_at_least}

-- a text that can be shown is short, and one of the sets has it
pub room_short : (sets : List Charset) (v : Version) (l : EcLevel) (utf8 : List ℕ) → IsUtf8 utf8 → HasRoom sets v l (chars utf8) → length utf8 ≤ 94592
room_short sets v l utf8 u room =
    let laid = room.held.laid in
    let short = fitting_short v l (cut_bytes room.set laid.bytes) (laid.segments, (laid.cut.cut, omega (arith, laid.length, room.held.room))) in
    omega (arith, short, length-cut_bytes room.set (chars utf8) laid.bytes laid.written, written_at_least room.set (chars utf8) laid.bytes laid.written, ap length (encodes-chars utf8 u))

pub can_has : (sets : List Charset) (v : Version) (l : EcLevel) (text : List ℕ) → CanShow sets v l text → ¬ NoneHas sets text
can_has sets v l text can none = let room = can_room sets v l text can in none room.place room.set room.at (room.held.laid.bytes, room.held.laid.written)

module _ {A : Type 0} (sets : List Charset) (from : Version) (l : EcLevel) (utf8 : List ℕ) where
  -- for a version that exists and a text within the limit, the causes are enough
  pub needs_by_causes : (r : Result A QrError) → IsTrue (is_valid from) → length utf8 ≤ data_limit → IfErr r (IsTextRefused sets from l (chars utf8)) → NeedsText sets from l utf8 r
  needs_by_causes (Ok x) valid short causes = record {
    no_version = λ no. absurd (true≢false (sym valid ∙ no));
    too_long = λ _ long. absurd (omega (arith, short, long));
    accepts = λ v _ above can. tt;
    causes = λ _ _. tt;
  }
  needs_by_causes (Err e) valid short causes = record {
    no_version = λ no. absurd (true≢false (sym valid ∙ no));
    too_long = λ _ long. absurd (omega (arith, short, long));
    accepts = λ v _ above can. elim causes [
      | inl lacks ↦ absurd (can_has sets v l (chars utf8) can lacks.0)
      | inr has ↦ elim (has.1) [
        | inl memory ↦ memory
        | inr none ↦ absurd (none.1 v above can)
      ]
    ];
    causes = λ _ _. causes;
  }

  -- none of the sets has the text
  pub needs_set : (r : Result A QrError) → IsTrue (is_valid from) → length utf8 ≤ data_limit → NoneHas sets (chars utf8) → r ≡ Err UnsupportedCharacterSet → NeedsText sets from l utf8 r
  needs_set r valid short none is = subst (NeedsText sets from l utf8) (sym is) (needs_by_causes (Err UnsupportedCharacterSet) valid short (inl (none, refl)))

  -- the text is too long
  pub needs_shorter : (r : Result A QrError) → IsTrue (is_valid from) → data_limit < length utf8 → IsUtf8 utf8 → r ≡ Err DataTooLong → NeedsText sets from l utf8 r
  needs_shorter r valid long u is = subst (NeedsText sets from l utf8) (sym is) (record {
    no_version = λ no. absurd (true≢false (sym valid ∙ no));
    too_long = λ _ _. refl;
    accepts = λ v _ above can. absurd (omega (arith, long, room_short sets v l utf8 u (can_room sets v l (chars utf8) can)));
    causes = λ _ short. absurd (omega (arith, long, short));
  })

module _ {A B : Type 0} (sets : List Charset) (from : Version) (l : EcLevel) (utf8 : List ℕ) where
  -- an error that a `?` passes on
  pub needs_handed_on : (e : QrError) (r : Result B QrError) → NeedsText {A = A} sets from l utf8 (Err e) → IsErr r × IsErrAnd r (λ x. x ≡ e) → NeedsText sets from l utf8 r
  needs_handed_on e (Ok y) needs is = absurd (false≢true is.0)
  needs_handed_on e (Err x) needs is = subst (λ e. NeedsText {A = B} sets from l utf8 (Err e)) (sym is.1) (record {
    no_version = λ no. (let h = needs.no_version no in cc);
    too_long = λ valid long. (let h = needs.too_long valid long in cc);
    accepts = needs.accepts;
    causes = needs.causes;
  })

  -- once a version is found, only memory can run out
  pub needs_found : (x : A) (r : Result B QrError) → NeedsText {A = A} sets from l utf8 (Ok x) → ¬ NoneHas sets (chars utf8) → IsOkUnless r OutOfMemory → NeedsText sets from l utf8 r
  needs_found x r needs has memory = record {
    no_version = λ no. (let h = needs.no_version no in cc);
    too_long = λ valid long. (let h = needs.too_long valid long in cc);
    accepts = λ v _ above can. memory;
    causes = λ _ _. if_refused r memory;
  } where
    if_refused : (r : Result B QrError) → IsOkUnless r OutOfMemory → IfErr r (IsTextRefused sets from l (chars utf8))
    if_refused (Ok y) want = tt
    if_refused (Err e) want = inr (has, inl want)

-- Why a given version has no symbol of a text.
use Rattle.std.proofs.Common.{◌≡◌, ◌⊎◌, ℕ, ◌<◌, ◌≤◌, List, length, IsTrue, sym, ◌∙◌, arith, inl, inr, true≢false}
use Rattle.std.specs.Prelude.{chars, IsUtf8}
use Rattle.qrcode_types.specs.Versions.{is_valid, has_level, capacity}
use Rattle.qrcode_types.specs.declared.types.Version.{Version}
use Rattle.qrcode_types.specs.declared.types.EcLevel.{EcLevel}
use Rattle.qrcode_types.specs.declared.types.QrError.{QrError}
use Rattle.qrcode_types.specs.declared.types.QrError.TheVariants.{DataTooLong, UnsupportedCharacterSet, OutOfMemory}
use Rattle.qrcode_bits.specs.Choice.{IfCause}
use Rattle.qrcode_bits.specs.Refusals.{data_limit}
use Rattle.qrcode_charsets.specs.Given.{IsRefusedIn}
use Rattle.qrcode_charsets.specs.Laid.{NoneLaid, IsLeastLaid, IsFitting, IsHeld, HasRoom}
use Rattle.qrcode_charsets.specs.Shortest.{CanShow, NoneHas}
use Rattle.qrcode_charsets.specs.declared.sets.Charset.{Charset}
use Rattle.qrcode_charsets.specs.declared.shortest.measuring.Measured.{Measured}
use Rattle.qrcode_bits.proofs.Manners.{valid_of}
use Rattle.qrcode_charsets.proofs.Causes.{room_short}
use Rattle.qrcode_charsets.proofs.Lists.{least_room, laid_of}

module _ (sets : List Charset) (v : Version) (l : EcLevel) (utf8 : List ℕ) where
  -- if the version exists, the text is short, a set has it and the version the level: the causes behind these
  pub refused_behind : IsTrue (is_valid v) → length utf8 ≤ data_limit → ¬ NoneHas sets (chars utf8) → IsTrue (has_level v l) → (e : QrError)
      → ((e ≡ OutOfMemory) ⊎ IfCause (NoneLaid sets v (chars utf8) (length sets)) (e ≡ UnsupportedCharacterSet) ((¬ CanShow sets v l (chars utf8)) × (e ≡ DataTooLong)))
      → IsRefusedIn sets v l utf8 e
  refused_behind valid short has exists e cause =
      inr ((λ no. true≢false (sym valid ∙ no)), inr ((λ long. omega (arith, short, long)), inr (has, inr ((λ no. true≢false (sym exists ∙ no)), cause))))

  -- a text that is laid in none of the sets, or takes more bits than there is room for, has no room
  pub none_room : NoneLaid sets v (chars utf8) (length sets) → ¬ HasRoom sets v l (chars utf8)
  none_room none room = none room.place room.held.used room.set room.at.0 room.at room.held.laid

  pub none_fits : (m : Measured) → IsLeastLaid sets v (chars utf8) (length sets) m → capacity v l < m.used → ¬ HasRoom sets v l (chars utf8)
  none_fits m least over room = omega (arith, over, least_room sets v l (chars utf8) m least room)

  pub some_laid : (m : Measured) → IsLeastLaid sets v (chars utf8) (length sets) m → ¬ NoneLaid sets v (chars utf8) (length sets)
  some_laid m least none = none least.place m.used m.set least.at.0 least.at (laid_of v (chars utf8) m least.measured)

  -- once the bits are found, only memory can run out
  pub memory_ran_out : (m : Measured) → IsFitting sets v l (chars utf8) m → IsUtf8 utf8 → (e : QrError) → e ≡ OutOfMemory → IsRefusedIn sets v l utf8 e
  memory_ran_out m fitting u e is =
      let least = fitting.least in
      let measured = least.measured in
      let held : IsHeld m.set v l (chars utf8) = record { exists = fitting.exists; used = m.used; laid = laid_of v (chars utf8) m measured; room = fitting.room } in
      let short = room_short sets v l utf8 u (record { place = least.place; set = m.set; at = least.at; held = held }) in
      let has : ¬ NoneHas sets (chars utf8) = λ none. none least.place m.set least.at (m.bytes.items, measured.written) in
      refused_behind (valid_of v l fitting.exists) (omega (arith, short)) has fitting.exists e (inl is)

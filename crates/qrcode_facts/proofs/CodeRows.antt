-- Published data with its error correction vanishes.
use Rattle.std.proofs.Common.{ℕ, List, [], ◌∷◌, ◌++◌, lit<, refl}
use Rattle.qrcode_types.specs.Bits.{AreBytes}
use Rattle.qrcode_ec.specs.Codes.{Vanishes}
use Rattle.qrcode_ec.proofs.Powers.{pow}
use Rattle.qrcode_ec.proofs.Products.{times_x}
use Rattle.qrcode_facts.specs.Data.{hello_data, normal_block, micro_block}
use Rattle.qrcode_facts.proofs.Values.{times, value, vanishes_by_values}

abbrev at_ten : List ℕ
at_ten = hello_data ++ (0x11 ∷ 0xEC ∷ 0x11 ∷ 0xC4 ∷ 0x23 ∷ 0x27 ∷ 0x77 ∷ 0xEB ∷ 0xD7 ∷ 0xE7 ∷ 0xE2 ∷ 0x5D ∷ 0x17 ∷ [])

abbrev at_thirteen : List ℕ
at_thirteen = hello_data ++ (0xA8 ∷ 0x48 ∷ 0x16 ∷ 0x52 ∷ 0xD9 ∷ 0x36 ∷ 0x9C ∷ 0x00 ∷ 0x2E ∷ 0x0F ∷ 0xB4 ∷ 0x7A ∷ 0x10 ∷ [])

pub ten : Vanishes at_ten 10
unfolding times value pow times_x
ten = vanishes_by_values at_ten 10 (lit< tt, (lit< tt, (lit< tt, (lit< tt, (lit< tt, (lit< tt, (lit< tt, (lit< tt, (lit< tt, (lit< tt, (lit< tt, (lit< tt, (lit< tt, (lit< tt, (lit< tt, (lit< tt, (lit< tt, (lit< tt, (lit< tt, (lit< tt, (lit< tt, (lit< tt, (lit< tt, (lit< tt, (lit< tt, (lit< tt, tt)))))))))))))))))))))))))) refl

pub thirteen : Vanishes at_thirteen 13
unfolding times value pow times_x
thirteen = vanishes_by_values at_thirteen 13 (lit< tt, (lit< tt, (lit< tt, (lit< tt, (lit< tt, (lit< tt, (lit< tt, (lit< tt, (lit< tt, (lit< tt, (lit< tt, (lit< tt, (lit< tt, (lit< tt, (lit< tt, (lit< tt, (lit< tt, (lit< tt, (lit< tt, (lit< tt, (lit< tt, (lit< tt, (lit< tt, (lit< tt, (lit< tt, (lit< tt, tt)))))))))))))))))))))))))) refl

-- The blocks of the printed symbols.

pub normal_bytes : AreBytes normal_block
normal_bytes = (lit< tt, (lit< tt, (lit< tt, (lit< tt, (lit< tt, (lit< tt, (lit< tt, (lit< tt, (lit< tt, (lit< tt, (lit< tt, (lit< tt, (lit< tt, (lit< tt, (lit< tt, (lit< tt, (lit< tt, (lit< tt, (lit< tt, (lit< tt, (lit< tt, (lit< tt, (lit< tt, (lit< tt, (lit< tt, (lit< tt, tt))))))))))))))))))))))))))

pub normal_vanishes : Vanishes normal_block 10
unfolding times value pow times_x
normal_vanishes = vanishes_by_values normal_block 10 normal_bytes refl

pub micro_bytes : AreBytes micro_block
micro_bytes = (lit< tt, (lit< tt, (lit< tt, (lit< tt, (lit< tt, (lit< tt, (lit< tt, (lit< tt, (lit< tt, (lit< tt, tt))))))))))

pub micro_vanishes : Vanishes micro_block 5
unfolding times value pow times_x
micro_vanishes = vanishes_by_values micro_block 5 micro_bytes refl

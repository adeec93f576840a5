use Rattle.std.proofs.Common.{◌≡◌, ◌+◌, ◌*◌, ◌-◌, ◌%◌, ◌<◌, ◌≤◌, ◌^◌, ◌++◌, vec_len, vec_capacity, refl, ap, arith, append_assoc}
use Rattle.std.proofs.lemmas.Nat.{shl_whole, pow_below, pow_pos, mod_below}
use Rattle.qrcode_types.specs.Bits.{number_bits, bits_of}
use Rattle.qrcode_bits.proofs.Packing.{number_bits-cat, number_bits-mod, joined-lt, low_bits}
use Rattle.qrcode_bits.proofs.bits.stream.Stream.push_number.Goals as goal
use Rattle.qrcode_bits.proofs.bits.stream.Stream.push_number.Goals.{After-self}

-- the shift loses no bit
whole : (c : After-self) → c.self.inside.rest * 2 ^ c.args.count % 2 ^ 64 ≡ c.self.inside.rest * 2 ^ c.args.count
whole c = shl_whole c.self.inside.rest c.self.inside.rest_len c.args.count 64 c.self.invariant.1 (omega (arith, c.self.invariant.0, c.requires.at_most))

room : (c : After-self) → 8 * vec_len c.self.inside.bytes + (c.self.inside.rest_len + c.args.count) ≤ 8 * vec_capacity c.self.inside.bytes
room c =
    let room : 8 * vec_capacity c.self.inside.bytes - (8 * vec_len c.self.inside.bytes + c.self.inside.rest_len) ≡ c.args.self.now.room = ap (λ v. v.room) c.self.view_is in
    omega (arith, c.self.invariant.2, c.requires.room, room)

pub overflow_add-all : goal.overflow_add-all
overflow_add-all c =
    let k = (goal.at.overflow_add-all c).After-self in
    let fits : c.self.inside.rest * 2 ^ c.args.count % 2 ^ 64 + c.args.number < 2 ^ (c.self.inside.rest_len + c.args.count) =
    rw (whole k) (joined-lt c.self.inside.rest c.self.inside.rest_len c.args.number c.args.count c.self.invariant.1 c.requires.fits) in
    record { fits = omega (arith, fits, pow_below (c.self.inside.rest_len + c.args.count) 64 (omega (arith, c.self.invariant.0, c.requires.at_most))) }

pub push_whole_bytes-self-inside-requires-clause-room : goal.push_whole_bytes-self-inside-requires-clause-room
push_whole_bytes-self-inside-requires-clause-room c = room (goal.at.push_whole_bytes-self-inside-requires-clause-room c).After-self

pub invariant_of-self : goal.invariant_of-self
invariant_of-self c =
    let left = c.push_whole_bytes-self-inside.result in
    let all = c.self.inside.rest * 2 ^ c.args.count % 2 ^ 64 + c.args.number in
    let few = c.push_whole_bytes-self-inside.ensures.at_most in (
      few,
      rw (low_bits all left (omega (arith, few))) (mod_below all (2 ^ left) (pow_pos left)),
      omega (arith, room (goal.at.invariant_of-self c).After-self, c.push_whole_bytes-self-inside.ensures.length, c.push_whole_bytes-self-inside.ensures.capacity_at_least),
    )

pub returns-clause-bits : goal.returns-clause-bits
returns-clause-bits c =
    let k = (goal.at.returns-clause-bits c).After-self in
    let left = c.push_whole_bytes-self-inside.result in
    let all = c.self.inside.rest * 2 ^ c.args.count % 2 ^ 64 + c.args.number in
    let bytes = bits_of c.self.inside.bytes.items in
    let rest = number_bits c.self.inside.rest_len c.self.inside.rest in
    let number = number_bits c.args.count c.args.number in
    let old : bytes ++ rest ≡ c.args.self.now.bits = ap (λ v. v.bits) c.self.view_is in
    rw (
      low_bits all left (omega (arith, c.push_whole_bytes-self-inside.ensures.at_most)),
      number_bits-mod left all,
      c.push_whole_bytes-self-inside.ensures.bits,
      whole k,
      number_bits-cat c.self.inside.rest_len c.args.count c.self.inside.rest c.args.number c.requires.fits,
      ← append_assoc bytes rest number,
      old,
    ) refl

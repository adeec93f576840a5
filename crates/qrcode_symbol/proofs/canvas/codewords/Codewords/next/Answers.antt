use Rattle.std.proofs.Common.{◌≡◌, ◌<◌, ◌/◌, ℕ, Bool, List, false, drop, get_or, length, slice_get, sym, ap, ◌∙◌, arith, inl, inr, ◌⊎◌}
use Rattle.std.proofs.lemmas.Bool.Decides.{nat_tests}
use Rattle.qrcode_symbol.proofs.NextBits.{bits_left, next_begun, begin_half, begin_whole, begin_ec, next_none, taken_rest}
use Rattle.qrcode_symbol.proofs.canvas.codewords.Codewords.next.Goals as goal
use Rattle.qrcode_symbol.proofs.canvas.codewords.Codewords.next.Goals.{then-self-eq0+then-not-is_empty+then-self+then-is_empty, then-self-eq0+then-not-is_empty+else-self, else-self-via-then-self+else-is_empty, else-self-via-else-self, then-self-eq0+else-not-is_empty+then-not-is_empty-2, else-self-eq0}

pub returns-else-not-is_empty-2-clause-value : goal.returns-else-not-is_empty-2-clause-value
returns-else-not-is_empty-2-clause-value c =
    let s = c.self.inside in
    let no_data : length s.bytes.now ≡ 0 = grind (arith, nat_tests) in
    let no_ec : length s.ec.now ≡ 0 = grind (arith, nat_tests) in
    sym (ap (λ (bits : List Bool). slice_get bits 0) (sym c.self.view_is ∙ next_none s.bits_left s.begun s.bytes.now s.has_half s.ec.now (grind (arith, nat_tests)) no_data no_ec))

pub returns-else-not-is_empty-2-clause-rest : goal.returns-else-not-is_empty-2-clause-rest
returns-else-not-is_empty-2-clause-rest c =
    let s = c.self.inside in
    let no_data : length s.bytes.now ≡ 0 = grind (arith, nat_tests) in
    let no_ec : length s.ec.now ≡ 0 = grind (arith, nat_tests) in
    let none = sym c.self.view_is ∙ next_none s.bits_left s.begun s.bytes.now s.has_half s.ec.now (grind (arith, nat_tests)) no_data no_ec in
    none ∙ sym (ap (λ (bits : List Bool). drop 1 bits) none)

-- once a byte is begun, the remaining bits are the same
begun : (c : goal.After-self-2-1) → let i = c.if-self-eq0.self-inside in (0 < i.bits_left) × (bits_left i.bits_left i.begun i.bytes.now i.has_half i.ec.now ≡ c.args.self.now)
begun c =
    let s = c.self.inside in
    elim c.if-self-eq0.branch [
      | then-self-eq0+then-not-is_empty+then-self+then-is_empty w ↦
          let some : 0 < length s.bytes.now = grind (arith, nat_tests) in
          let rest = taken_rest s.bytes.now in
          let last : length (drop 1 s.bytes.now) ≡ 0 = rw (← rest) (grind (arith, nat_tests)) in
          rw w.self-inside-is (
            omega arith,
            ap (λ (bytes : List ℕ). bits_left 4 (get_or s.bytes.now 0 0 / 16) bytes s.has_half s.ec.now) rest
                ∙ sym (begin_half s.bits_left s.begun s.bytes.now s.has_half s.ec.now w.if-self-eq0.true some w.if-self.true last) ∙ c.self.view_is,
          )
      | then-self-eq0+then-not-is_empty+else-self w ↦
          let some : 0 < length s.bytes.now = grind (arith, nat_tests) in
          let rest = taken_rest s.bytes.now in
          let more : s.has_half ≡ false ⊎ 0 < length (drop 1 s.bytes.now) = elim w.else-self.branch [
            | else-self-via-then-self+else-is_empty u ↦ inr (rw (← rest) (grind (arith, nat_tests)))
            | else-self-via-else-self u ↦ inl u.if-self.false
          ] in
          rw w.self-inside-is (
            omega arith,
            ap (λ (bytes : List ℕ). bits_left 8 (get_or s.bytes.now 0 0) bytes s.has_half s.ec.now) rest
                ∙ sym (begin_whole s.bits_left s.begun s.bytes.now s.has_half s.ec.now w.if-self-eq0.true some more) ∙ c.self.view_is,
          )
      | then-self-eq0+else-not-is_empty+then-not-is_empty-2 w ↦
          let no_data : length s.bytes.now ≡ 0 = grind (arith, nat_tests) in
          let some : 0 < length s.ec.now = grind (arith, nat_tests) in
          rw w.self-inside-is (
            omega arith,
            ap (bits_left 8 (get_or s.ec.now 0 0) s.bytes.now s.has_half) (taken_rest s.ec.now)
                ∙ sym (begin_ec s.bits_left s.begun s.bytes.now s.has_half s.ec.now w.if-self-eq0.true no_data some) ∙ c.self.view_is,
          )
      | else-self-eq0 w ↦ rw w.self-inside-is (grind (arith, nat_tests), c.self.view_is)
    ]

pub returns-clause-value : goal.returns-clause-value
returns-clause-value c =
    let i = c.if-self-eq0.self-inside in
    let b = begun c in
    sym (ap (λ (bits : List Bool). slice_get bits 0) (sym b.1 ∙ next_begun i.bits_left i.begun i.bytes.now i.has_half i.ec.now b.0))

pub returns-clause-rest : goal.returns-clause-rest
returns-clause-rest c =
    let i = c.if-self-eq0.self-inside in
    let b = begun c in
    sym (ap (λ (bits : List Bool). drop 1 bits) (sym b.1 ∙ next_begun i.bits_left i.begun i.bytes.now i.has_half i.ec.now b.0))

use Rattle.std.proofs.Common.{rules, ◌≡◌, ◌+◌, ◌-◌, ◌++◌, [], ◌⊎◌, length, take, inl, inr, subst, sym, ap, ap₂, ◌∙◌, arith}
use Rattle.std.proofs.lemmas.Bool.{cases_lt}
use Rattle.std.proofs.lemmas.List.{take-append-drop}
use Rattle.qrcode_types.specs.Bits.{AreBytes}
use Rattle.qrcode_ec.specs.Codes.{syndrome}
use Rattle.qrcode_ec.proofs.Bytes.{bytes_from, drop_bytes}
use Rattle.qrcode_reader.proofs.Remainders.{residue_syndrome, residue_bytes}
use Rattle.qrcode_reader.proofs.correct.residues.residue.Goals as goal

pub returns-clause-of_bytes : goal.returns-clause-of_bytes
returns-clause-of_bytes c = bytes_from c.args.block.now (λ k. omega (arith, c.type_inv.block k))

end_bytes : (c : goal.After-add_from) → AreBytes c.split_at.result.1.now
end_bytes c =
    subst AreBytes (sym c.split_at.ensures.back)
    (drop_bytes c.saturating_sub.result c.args.block.now (returns-clause-of_bytes c))

whole : (c : goal.After-add_from) → c.args.divider.now.degree - length c.split_at.result.1.now + length c.split_at.result.1.now ≡ c.args.divider.now.degree
whole c = omega (arith, c.split_at.ensures.back_len, c.saturating_sub.ensures)

pub returns-clause-bytes : goal.returns-clause-bytes
returns-clause-bytes c =
    let n = c.args.divider.now.degree in
    let end = c.split_at.result.1.now in
    residue_bytes n (n - length end) end c.remainder-residue.result c.add_from.new.row (whole c) (omega (arith, c.args.divider.now.at_most, c.add_from.array_long)) (end_bytes c)
    c.remainder-residue.ensures.bytes c.add_from.ensures.before c.add_from.ensures.value

pub returns-clause-value : goal.returns-clause-value
returns-clause-value c i less =
    let n = c.args.divider.now.degree in
    let block = c.args.block.now in
    let s = c.saturating_sub.result in
    let front = c.split_at.result.0.now in
    let end = c.split_at.result.1.now in
    let long : length c.remainder-residue.result ≡ 72 = search rules in
    let either : (n - length end ≡ 0) ⊎ (front ≡ []) = elim (cases_lt (length block) n) [
      | inl short ↦ inr (c.split_at.ensures.front ∙ ap (λ k. take k block) (let e : s ≡ 0 = omega (arith, c.saturating_sub.ensures, short) in e))
      | inr most ↦ inl (omega (arith, c.split_at.ensures.back_len, c.saturating_sub.ensures, most))
    ] in
    residue_syndrome n (n - length end) front end c.remainder-residue.result c.add_from.new.row (whole c) (omega (arith, c.args.divider.now.at_most, long))
    (c.add_from.array_long ∙ sym long) (end_bytes c) either c.remainder-residue.ensures.vanishes c.add_from.ensures.before c.add_from.ensures.value i less
    ∙ ap (syndrome i) (ap₂ (λ xs ys. xs ++ ys) c.split_at.ensures.front c.split_at.ensures.back ∙ take-append-drop s block)

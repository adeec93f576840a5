use Rattle.std.proofs.Common.{sym, ap, ◌∙◌, arith}
use Rattle.qrcode_types.proofs.BlockTable.{data_length-is, data_of}
use Rattle.qrcode_ec.proofs.Bytes.{bytes_from}
use Rattle.qrcode_ec.proofs.Interleavings.{IsInterleaved, are_codewords, one_block}
use Rattle.qrcode_ec.proofs.construct_codewords.Goals as goal

pub invariant_of-codewords : goal.invariant_of-codewords
invariant_of-codewords c =
    record { whole = c.requires (sym c.in-Some.ensures.exists) ∙ data_length-is c.args.version c.args.ec_level ∙ ap data_of c.in-Some.ensures.value }

interleaved : (c : goal.In_ok-words) → IsInterleaved c.args.version c.args.ec_level c.in-Some.blocks c.args.bytes.now c.in_ok-words.words.0.items
interleaved c =
    let all = data_length-is c.args.version c.args.ec_level ∙ ap data_of c.in-Some.ensures.value in
    record {
      entry = c.in-Some.ensures.value;
      whole = c.requires (sym c.in-Some.ensures.exists) ∙ all;
      as_long = c.in_ok-words.ensures.data_long;
      all = all;
      rows = c.in_ok-words.ensures.rows;
      ends = c.in_ok-words.ensures.ends;
    }

pub returns-clause-value : goal.returns-clause-value
returns-clause-value c =
    let are = c.in_ok-words.ensures in
    are_codewords c.args.version c.args.ec_level c.in-Some.blocks c.args.bytes.now c.in_ok-words.words.0.items c.in_ok-words.words.1.items (interleaved c)
    (bytes_from c.args.bytes.now (λ j. omega (arith, c.type_inv.bytes j))) are.data_bytes are.ec_bytes are.ec_long are.vanishes

pub returns-clause-one_block : goal.returns-clause-one_block
returns-clause-one_block c = one_block c.args.version c.args.ec_level c.in-Some.blocks c.args.bytes.now c.in_ok-words.words.0.items (interleaved c)

use Rattle.std.proofs.Common.{Vec, Global, sym, subst}
use Rattle.std.specs.Prelude.{IfOk}
use Rattle.qrcode_bits.specs.Cuts.{IsCutIn, NeedsCut}
use Rattle.qrcode_bits.specs.declared.optimize.Segment.{Segment}
use Rattle.qrcode_charsets.specs.Fronts.{charset_modes}
use Rattle.qrcode_charsets.specs.Laid.{IsBestCut, cut_bytes}
use Rattle.qrcode_charsets.specs.declared.sets.Charset.{Charset}
use Rattle.qrcode_charsets.proofs.Lists.{text_set, best_cuts}
use Rattle.qrcode_charsets.proofs.shortest.measuring.segments_of.Goals as goal

pub returns-in_default : goal.returns-in_default
returns-in_default c =
    let like = text_set c.args.set c.in_default.not-ShiftJis in
    record {
      best = best_cuts (λ (x : Vec Segment Global). x.items) c.args.set like.0 like.1 c.args.version c.args.bytes.now c.least_segments_in.result c.least_segments_in.ensures.least;
      refusals = subst (λ b. NeedsCut (IsCutIn (charset_modes c.args.set) c.args.version b) c.least_segments_in.result) (sym (like.1 c.args.bytes.now))
          (subst (λ set. NeedsCut (IsCutIn set c.args.version c.args.bytes.now) c.least_segments_in.result) (sym like.0) c.least_segments_in.ensures.refusals);
    }

pub returns-in-ShiftJis : goal.returns-in-ShiftJis
returns-in-ShiftJis c = record {
  best = subst (λ (d : Charset). IfOk c.pair_segments.result (λ segments. IsBestCut d c.args.version c.args.bytes.now segments.items)) (sym c.in-ShiftJis.is) c.pair_segments.ensures.best;
  refusals = subst (λ (d : Charset). NeedsCut (IsCutIn (charset_modes d) c.args.version (cut_bytes d c.args.bytes.now)) c.pair_segments.result) (sym c.in-ShiftJis.is) c.pair_segments.ensures.refusals;
}

use Rattle.std.proofs.Common.{rules, ◌≡◌, ◌<◌, ℕ, List, [], length, get_or, Ok, Err, arith, sym, ap, ◌∙◌, true≢false}
use Rattle.std.specs.Prelude.{slice_get}
use Rattle.std.proofs.lemmas.Bool.{cond-true, cond-false}
use Rattle.std.proofs.lemmas.Option.{slice_get-get_or}
use Rattle.qrcode_types.specs.Fetching.{IsEntry}
use Rattle.qrcode_types.specs.Versions.{row_of, level_number}
use Rattle.qrcode_types.specs.declared.types.Version.{Version}
use Rattle.qrcode_types.specs.declared.types.EcLevel.{EcLevel}
use Rattle.qrcode_types.specs.declared.types.QrError.TheVariants.{InvalidVersion}
use Rattle.qrcode_types.proofs.BlockTable.{level_number-lt}
use Rattle.qrcode_types.proofs.types.Version.fetch.Goals as goal

-- the item at that row and column of a table is the entry of the version and level
entry_at : {T : Type 0} (table : List (List T)) (v : Version) (l : EcLevel) (i j : ℕ) (d : T) → i ≡ row_of v → j ≡ level_number l → i < length table → 4 ≡ length (get_or table i []) → IsEntry table v l (get_or (get_or table i []) j d)
entry_at table v l i j d is_row is_level inside four =
    let within : j < length (get_or table i []) = omega (arith, is_level, level_number-lt l, four) in
    record {
      row = get_or table i [];
      found = ap (slice_get table) (sym is_row) ∙ slice_get-get_or table i [] inside;
      at_level = ap (slice_get (get_or table i [])) (sym is_level) ∙ slice_get-get_or (get_or table i []) j d within;
    }

pub returns-then-not-is_valid-clause-value : goal.returns-then-not-is_valid-clause-value
returns-then-not-is_valid-clause-value g c = λ valid. absurd (true≢false (sym valid ∙ sym c.is_valid.ensures ∙ c.if-not-is_valid.true))

pub returns-then-eq-clause-value : goal.returns-then-eq-clause-value
returns-then-eq-clause-value g c = λ valid.
    let entry = get_or (get_or c.args.table.now c.row.result []) c.number.result c.index-table-row.result in
    record {
      entry = entry;
      is_entry = entry_at c.args.table.now c.args.self c.args.ec_level c.row.result c.number.result c.index-table-row.result c.row.ensures.value c.number.ensures.value (omega (arith, c.requires, c.row.ensures.at_most)) (search rules);
      default = c.default.result;
      is_default = c.default.ensures;
      answer = sym (cond-true (g.T.PartialEq.eq entry c.default.result) (Err InvalidVersion) (Ok entry) (sym c.eq.ensures ∙ c.if-eq.true));
    }

pub returns-then-eq-clause-no_version : goal.returns-then-eq-clause-no_version
returns-then-eq-clause-no_version g c = λ no. absurd (true≢false (sym c.if-not-is_valid.false ∙ c.is_valid.ensures ∙ no))

pub returns-clause-entry : goal.returns-clause-entry
returns-clause-entry g c = entry_at c.args.table.now c.args.self c.args.ec_level c.row.result c.number.result c.index-table-row.result c.row.ensures.value c.number.ensures.value (omega (arith, c.requires, c.row.ensures.at_most)) (search rules)

pub returns-clause-value : goal.returns-clause-value
returns-clause-value g c = λ valid.
    let entry = get_or (get_or c.args.table.now c.row.result []) c.number.result c.index-table-row.result in
    record {
      entry = entry;
      is_entry = returns-clause-entry g c;
      default = c.default.result;
      is_default = c.default.ensures;
      answer = sym (cond-false (g.T.PartialEq.eq entry c.default.result) (Err InvalidVersion) (Ok entry) (sym c.eq.ensures ∙ c.if-eq.false));
    }

pub returns-clause-no_version : goal.returns-clause-no_version
returns-clause-no_version g c = λ no. absurd (true≢false (sym c.if-not-is_valid.false ∙ c.is_valid.ensures ∙ no))

use Rattle.std.proofs.Common.{◌+◌, ◌++◌, ◌∙◌, sym, arith, ap, take, drop}
use Rattle.row_format.specs.Rows.{IsRow}
use Rattle.sql_effect.specs.Insert.{inserts_refusal}
use Rattle.sql_effect.proofs.InsertLemmas.{row_passed}
use Rattle.sql_effect.proofs.ListLemmas.{all_more}
use Rattle.sql_effect.proofs.insert.check_inserts.Goals as goal

pub loop-i-preserved : goal.loop-i-preserved
loop-i-preserved c =
    let i = c.loop-i.i in
    let rows = c.args.rows.now in
    record {
      within = omega arith;
      room = omega arith;
      passed = all_more (IsRow c.args.schema.now) rows i c.index-rows-i.result (omega arith) c.index-rows-i.is c.loop-i.invariant.passed c.in_ok-check_insert.ensures.row;
      refusal =
          ap (λ n. inserts_refusal c.args.keeps c.args.schema.now (c.loop-i.held + n) (c.args.there.now ++ take (i + 1) rows) (drop (i + 1) rows)) c.image_len.ensures.value
          ∙ row_passed c.args.keeps c.args.schema.now c.loop-i.held c.args.there.now rows i c.index-rows-i.result (omega arith) c.index-rows-i.is (sym c.in_ok-check_insert.ensures.value)
          ∙ c.loop-i.invariant.refusal;
    }

use Rattle.std.proofs.Common.{◌+◌, sym, ◌∙◌, arith, take}
use Rattle.std.proofs.lemmas.List.{take_all, take_rest}
use Rattle.std.proofs.lemmas.List.Elements.{All-more, All-same}
use Rattle.sql_value.specs.Names.{IsName}
use Rattle.row_format.specs.declared.schema.Column.{Column}
use Rattle.row_format.proofs.SchemaLemmas.{distinct_step}
use Rattle.row_format.proofs.schema.are_different.Goals as goal

pub loop-i-preserved : goal.loop-i-preserved
loop-i-preserved c =
    let columns = c.args.columns.now in
    let i = c.loop-i.i in
    record {
      within = omega arith;
      so_far =
          sym (distinct_step columns _ i c.index-columns-i.result c.loop-i-test.true (take_rest columns (i + 1)) (sym c.is_taken.ensures.value ∙ c.if-is_taken.false))
          ∙ c.loop-i.invariant.so_far;
      named = All-more (λ (it : Column). IsName it.name) columns i c.index-columns-i.result c.loop-i-test.true c.loop-i.invariant.named c.is_taken.ensures.name;
    }

pub returns-clause-named : goal.returns-clause-named
returns-clause-named c = λ so. All-same (λ (it : Column). IsName it.name) c.args.columns.now (take c.loop-i.i c.args.columns.now) (sym (take_all c.loop-i.i c.args.columns.now c.loop-i-test.false)) c.loop-i.invariant.named

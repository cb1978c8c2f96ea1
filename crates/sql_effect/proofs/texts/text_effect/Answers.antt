use Rattle.std.proofs.Common.{Err, subst, sym}
use Rattle.sql_value.specs.declared.refusal.Refusal.{Refusal}
use Rattle.sql_text.specs.Statements.{Refuses}
use Rattle.sql_effect.specs.Effects.{effect_of}
use Rattle.sql_effect.specs.Texts.{IsEffect}
use Rattle.sql_effect.proofs.TextLemmas.{ok_told, err_told, read_effect, refused_effect}
use Rattle.sql_effect.proofs.texts.text_effect.Goals as goal

pub returns-in-Ok-clause-ok : goal.returns-in-Ok-clause-ok
returns-in-Ok-clause-ok c =
    ok_told (IsEffect c.args.shelf.now c.args.view.now c.args.sizes c.args.text.now) (effect_of c.args.shelf.now c.args.view.now c.args.sizes c.in-Ok.asks) c.effect_of.result
    (read_effect c.args.shelf.now c.args.view.now c.args.sizes c.args.text.now c.in-Ok.asks c.in-Ok.ensures.answer)
    c.effect_of.ensures.ok

pub returns-in-Ok-clause-err : goal.returns-in-Ok-clause-err
returns-in-Ok-clause-err c =
    err_told (IsEffect c.args.shelf.now c.args.view.now c.args.sizes c.args.text.now) (effect_of c.args.shelf.now c.args.view.now c.args.sizes c.in-Ok.asks) c.effect_of.result
    (read_effect c.args.shelf.now c.args.view.now c.args.sizes c.args.text.now c.in-Ok.asks c.in-Ok.ensures.answer)
    c.effect_of.ensures.err

pub returns-in-Err-Refused-clause-err : goal.returns-in-Err-Refused-clause-err
returns-in-Err-Refused-clause-err c =
    let told = refused_effect c.args.shelf.now c.args.view.now c.args.sizes c.args.text.now c.in-Err-Refused.refusal
    (subst (Refuses c.args.text.now) c.in-Err-Refused.field-0-is c.in-Err-Refused.ensures.answer) in
    subst (λ (it : Refusal). IsEffect c.args.shelf.now c.args.view.now c.args.sizes c.args.text.now (Err it)) (sym c.in-Err-Refused.refusal-is) told

use Rattle.sql_effect.proofs.EffectLemmas.{schema_allowed}
use Rattle.sql_effect.proofs.effects.planned_schema.Goals as goal

pub known_schema-requires : goal.known_schema-requires
known_schema-requires c = schema_allowed c.args.asks.now c.args.flags c.in-Ok.plan.schema c.in-Ok.ensures.ok.made.schema

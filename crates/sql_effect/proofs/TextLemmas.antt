-- The effect of a text, from what reading it tells.
use Rattle.std.proofs.Common.{◌≡◌, ◌≤◌, ◌<◌, ◌⊎◌, ℕ, List, length, Result, Ok, Err, IfOk, IfErr, inl, inr, sym, ap, ◌∙◌, arith}
use Rattle.sql_value.specs.declared.refusal.Refusal.{Refusal}
use Rattle.sql_value.specs.declared.refusal.Refusal.TheVariants.{Syntax}
use Rattle.sql_text.specs.declared.parser.ParseFault.{ParseFault}
use Rattle.sql_text.specs.declared.parser.ParseFault.TheVariants as parse
use Rattle.sql_text.specs.declared.statement.Statement.{Statement}
use Rattle.sql_text.specs.Statements.{Spells, Refuses}
use Rattle.sql_text.proofs.ParseLemmas.{one}
use Rattle.sql_text.proofs.PlaceLemmas.{one_place, refused_at}
use Rattle.sql_effect.specs.declared.shape.Effect.{Effect}
use Rattle.sql_effect.specs.declared.shape.EffectFault.{EffectFault}
use Rattle.sql_effect.specs.declared.shape.EffectFault.TheVariants as fault
use Rattle.sql_effect.specs.declared.shape.EngineFacts.{EngineFacts}
use Rattle.sql_effect.specs.declared.shape.Sizes.{Sizes}
use Rattle.sql_effect.specs.declared.shape.View.{View}
use Rattle.sql_effect.specs.Effects.{effect_of}
use Rattle.sql_effect.specs.Outcomes.{Fails}
use Rattle.sql_effect.specs.Texts.{IsEffect, Tells}

-- what holds of an outcome holds of an answer that gives it
pub ok_told : (P : Result Effect Refusal → Type 0) (outcome : Result Effect Refusal) (r : Result Effect EffectFault) → ((o : Result Effect Refusal) → outcome ≡ o → P o)
    → IfOk r (λ it. outcome ≡ Ok it) → IfOk r (λ it. P (Ok it))
ok_told P outcome (Ok it) each is = each (Ok it) is
ok_told P outcome (Err e) each is = tt

fault_told : (P : Result Effect Refusal → Type 0) (outcome : Result Effect Refusal) (e : EffectFault) → ((o : Result Effect Refusal) → outcome ≡ o → P o)
    → Fails e outcome → Tells P e
fault_told P outcome (fault.Refused refusal) each is = each (Err refusal) is
fault_told P outcome fault.Memory each is = tt

pub err_told : (P : Result Effect Refusal → Type 0) (outcome : Result Effect Refusal) (r : Result Effect EffectFault) → ((o : Result Effect Refusal) → outcome ≡ o → P o)
    → IfErr r (λ e. Fails e outcome) → IfErr r (λ e. Tells P e)
err_told P outcome (Ok it) each is = tt
err_told P outcome (Err e) each is = fault_told P outcome e each is

-- a text that was read
pub read_effect : (shelf : List EngineFacts) (view : View) (sizes : Sizes) (text : List ℕ) (asks : Statement) → (length text ≤ 65536) × Spells text asks
    → (o : Result Effect Refusal) → effect_of shelf view sizes asks ≡ o → IsEffect shelf view sizes text o
read_effect shelf view sizes text asks spelt o is = inr (inr (asks, spelt.0, spelt.1, sym is))

-- a text that was not read
pub refused_effect : (shelf : List EngineFacts) (view : View) (sizes : Sizes) (text : List ℕ) (refusal : Refusal) → Refuses text (parse.Refused refusal)
    → IsEffect shelf view sizes text (Err refusal)
refused_effect shelf view sizes text refusal (inl (is, long)) = inl (long, ap Err is)
refused_effect shelf view sizes text refusal (inr (at, is, within, has)) = inr (inl (at, within, has, ap Err is))

neither : (asks : Statement) (it : ParseFault) → (Ok asks ≡ Err it) ⊎ (Ok asks ≡ Err parse.Memory) → ⊥
neither asks it (inl e) = absurd cc
neither asks it (inr e) = absurd cc

apart : (n : ℕ) → n ≤ 65536 → 65536 < n → ⊥
apart n short long = omega arith

-- a text has one effect
pub one_effect : (shelf : List EngineFacts) (view : View) (sizes : Sizes) (text : List ℕ) (a b : Result Effect Refusal) → IsEffect shelf view sizes text a → IsEffect shelf view sizes text b → a ≡ b
one_effect shelf view sizes text a b (inl (long, is)) (inl (also, has)) = is ∙ sym has
one_effect shelf view sizes text a b (inl (long, is)) (inr (inl (at, short, faults, has))) = absurd (apart (length text) short long)
one_effect shelf view sizes text a b (inl (long, is)) (inr (inr (asks, short, spells, has))) = absurd (apart (length text) short long)
one_effect shelf view sizes text a b (inr (inl (at, short, faults, is))) (inl (long, has)) = absurd (apart (length text) short long)
one_effect shelf view sizes text a b (inr (inr (asks, short, spells, is))) (inl (long, has)) = absurd (apart (length text) short long)
one_effect shelf view sizes text a b (inr (inl (at, short, faults, is))) (inr (inl (other, also, too, has))) = is ∙ ap (λ (n : ℕ). Err (Syntax n)) (one_place text at other faults too) ∙ sym has
one_effect shelf view sizes text a b (inr (inl (at, short, faults, is))) (inr (inr (asks, also, spells, has))) = absurd (neither asks (parse.Refused (Syntax at)) (refused_at text (Ok asks) at short (short, spells) faults))
one_effect shelf view sizes text a b (inr (inr (asks, short, spells, is))) (inr (inl (at, also, faults, has))) = absurd (neither asks (parse.Refused (Syntax at)) (refused_at text (Ok asks) at short (short, spells) faults))
one_effect shelf view sizes text a b (inr (inr (asks, short, spells, is))) (inr (inr (other, also, too, has))) = is ∙ ap (effect_of shelf view sizes) (one text asks other spells too) ∙ sym has

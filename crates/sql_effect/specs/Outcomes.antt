-- What a call of the program answers, beside what the definition says. (This project.)
use Rattle.std.specs.Prelude.{◌≡◌, Option, Some, None, Bool, cond, Result, Ok, Err}
use Rattle.sql_value.specs.declared.refusal.Refusal.{Refusal}
use Rattle.sql_effect.specs.declared.shape.EffectFault.{EffectFault}
use Rattle.sql_effect.specs.declared.shape.EffectFault.TheVariants.{Refused, Memory}

-- a fault tells this refusal, or want of memory, which may come at any time
abbrev pub Fails : {A : Type 0} → EffectFault → Result A Refusal → Type 0
Fails (Refused refusal) outcome = outcome ≡ Err refusal
Fails Memory outcome = Unit {0}

-- a call answers this outcome, or finds no memory
abbrev pub Gives : {A : Type 0} → Result A EffectFault → Result A Refusal → Type 0
Gives (Ok it) outcome = outcome ≡ Ok it
Gives (Err e) outcome = Fails e outcome

-- a fault tells the refusal that there is, or want of memory
abbrev pub FailsFor : Option Refusal → EffectFault → Type 0
FailsFor refusal (Refused it) = refusal ≡ Some it
FailsFor refusal Memory = Unit {0}

-- what there is, where that is so
abbrev pub where_so : {A : Type 0} → Bool → A → Option A
where_so so it = cond so (Some it) None

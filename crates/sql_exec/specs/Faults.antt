-- Which faults a statement may answer. (This project.)
use Rattle.std.specs.Prelude.{◌≡◌, Option, Some}
use Rattle.sql_value.specs.declared.refusal.Refusal.{Refusal}
use Rattle.sql_exec.specs.declared.fault.ExecFault.{ExecFault}
use Rattle.sql_exec.specs.declared.fault.ExecFault.TheVariants.{Refused, Memory}

-- a fault tells the refusal that there is, or want of memory
abbrev pub FailsFor : Option Refusal → ExecFault → Type 0
FailsFor refusal (Refused it) = refusal ≡ Some it
FailsFor refusal Memory = Unit {0}
FailsFor refusal _ = ⊥

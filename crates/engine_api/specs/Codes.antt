-- The numbers of the handler codes. (MySQL Internals Manual, "Custom Engines"; the numbers are those of MySQL 5.7's handler.)
use Rattle.std.specs.Prelude.{ℕ}
use Rattle.engine_api.specs.declared.fault.Code.{Code}
use Rattle.engine_api.specs.declared.fault.Code.TheVariants.{KeyNotFound, Duplicate, Full, EndOfFile}

-- a code's number
abbrev pub code_number : Code → ℕ
code_number KeyNotFound = 120
code_number Duplicate = 121
code_number Full = 135
code_number EndOfFile = 137

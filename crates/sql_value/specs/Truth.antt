-- Conditions have three values.
-- (MySQL 5.7 Reference Manual, "Logical Operators" and "Working with NULL Values")
use Rattle.sql_value.specs.declared.truth.Truth.{Truth}
use Rattle.sql_value.specs.declared.truth.Truth.TheVariants.{Yes, No, Unknown}

-- both hold; Unknown where that hangs on an Unknown
abbrev pub truth_and : Truth → Truth → Truth
truth_and Yes t = t
truth_and No _ = No
truth_and Unknown No = No
truth_and Unknown _ = Unknown

-- one of the two holds; Unknown where that hangs on an Unknown
abbrev pub truth_or : Truth → Truth → Truth
truth_or Yes _ = Yes
truth_or No t = t
truth_or Unknown Yes = Yes
truth_or Unknown _ = Unknown

-- it does not hold; Unknown of an Unknown
abbrev pub truth_not : Truth → Truth
truth_not Yes = No
truth_not No = Yes
truth_not Unknown = Unknown

-- What is read with many lexemes.
use Rattle.std.proofs.Common.{◌≡◌, List, [], ◌∷◌, ◌++◌, Ok, Err, refl}
use Rattle.sql_text.specs.declared.lexeme.Lexeme.{Lexeme}
use Rattle.sql_text.specs.declared.reading.Reading.{Reading}
use Rattle.sql_text.specs.declared.reading.Reading.TheVariants.{Start, Done}
use Rattle.sql_text.specs.declared.statement.Statement.{Statement}
use Rattle.sql_text.specs.Reading.{next}
use Rattle.sql_text.specs.Steps.{Step}

-- a step, and then another where it reads
abbrev pub and_then : Step Reading → (Reading → Step Reading) → Step Reading
and_then (Ok reading) f = f reading
and_then (Err e) f = Err e

-- what has been read with all these lexemes, behind what had been read
abbrev pub read_all : Reading → List Lexeme → Step Reading
read_all reading [] = Ok reading
read_all reading (l ∷ ls) = and_then (next reading l) (λ following. read_all following ls)

-- these lexemes are read as this statement
abbrev pub AreRead : List Lexeme → Statement → Type 0
AreRead lexemes statement = read_all Start lexemes ≡ Ok (Done statement)

joined : (s : Step Reading) (xs ys : List Lexeme) → ((q : Reading) → read_all q (xs ++ ys) ≡ and_then (read_all q xs) (λ p. read_all p ys)) → and_then s (λ q. read_all q (xs ++ ys)) ≡ and_then (and_then s (λ q. read_all q xs)) (λ p. read_all p ys)
joined (Ok q) xs ys h = h q
joined (Err e) xs ys h = refl

pub read_all-append : (r : Reading) (xs ys : List Lexeme) → read_all r (xs ++ ys) ≡ and_then (read_all r xs) (λ p. read_all p ys)
read_all-append r [] ys = refl
read_all-append r (x ∷ xs) ys = joined (next r x) xs ys (λ q. read_all-append q xs ys)

use Rattle.std.proofs.Common.{arith}
use Rattle.sql_text.proofs.ParseLemmas.{one, parses, reads}
use Rattle.sql_text.proofs.PlaceLemmas.{one_place, refused_at}
use Rattle.sql_text.proofs.parser.parse.Goals as goal

pub returns-clause-answer : goal.returns-clause-answer
returns-clause-answer c = parses c.args.bytes.now c.read_text.result (omega arith) c.read_text.ensures

pub returns-clause-only : goal.returns-clause-only
returns-clause-only c = λ s short spells. reads c.args.bytes.now c.read_text.result s c.read_text.ensures spells

pub returns-clause-one : goal.returns-clause-one
returns-clause-one c = one c.args.bytes.now

pub returns-then-bytes-gt65536-clause-one : goal.returns-then-bytes-gt65536-clause-one
returns-then-bytes-gt65536-clause-one c = one c.args.bytes.now

pub returns-clause-syntax : goal.returns-clause-syntax
returns-clause-syntax c = λ at short has. refused_at c.args.bytes.now c.read_text.result at short (parses c.args.bytes.now c.read_text.result short c.read_text.ensures) has

pub returns-then-bytes-gt65536-clause-syntax : goal.returns-then-bytes-gt65536-clause-syntax
returns-then-bytes-gt65536-clause-syntax c = λ at short has. absurd (omega arith)

pub returns-clause-one_place : goal.returns-clause-one_place
returns-clause-one_place c = one_place c.args.bytes.now

pub returns-then-bytes-gt65536-clause-one_place : goal.returns-then-bytes-gt65536-clause-one_place
returns-then-bytes-gt65536-clause-one_place c = one_place c.args.bytes.now

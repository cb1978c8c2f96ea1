use Rattle.std.proofs.Common.{rules, arith}
use Rattle.std.proofs.lemmas.Grind.{common_steps}
use Rattle.outer_io.proofs.MemoryLemmas.{took_front}
use Rattle.outer_io.proofs.memory_source.MemorySourceSource.read.Goals as goal

pub returns-clause-took : goal.returns-clause-took
returns-clause-took c = took_front c.self.inside.bytes.items _ c.copy_from_slice.new.self _ c.self.inside.at c.min-n.result (search rules) (grind (arith, common_steps)) (grind (arith, common_steps))

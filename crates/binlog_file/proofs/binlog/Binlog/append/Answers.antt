use Rattle.std.proofs.Common.{refl, arith}
use Rattle.binlog_file.proofs.CallLemmas.{log_room, carried_fits, append_moments, append_is_log}
use Rattle.binlog_file.proofs.binlog.Binlog.append.Goals as goal

pub write_at-requires : goal.write_at-requires
write_at-requires g c = log_room c.args.self.now _ _ c.from.ensures c.requires.log

pub returns-in_err-write_at-clause-any_moment : goal.returns-in_err-write_at-clause-any_moment
returns-in_err-write_at-clause-any_moment g c = λ list more told count carries is.
    append_moments _ _ c.args.self.now _ _ _ list more c.from.ensures told carries is c.write_at.ensures

pub overflow_add-self : goal.overflow_add-self
overflow_add-self g c = let fits = carried_fits c.args.self.now _ _ c.requires.whole in omega arith

pub overflow_cast-self : goal.overflow_cast-self
overflow_cast-self g c = let fits = carried_fits c.args.self.now _ _ c.requires.whole in omega arith

pub overflow_add-self-2 : goal.overflow_add-self-2
overflow_add-self-2 g c = let fits = carried_fits c.args.self.now _ _ c.requires.whole in omega arith

pub invariant_of-self : goal.invariant_of-self
invariant_of-self g c = let fits = carried_fits c.args.self.now _ _ c.requires.whole in record { in_order = omega arith; counted = omega arith; fits = omega arith }

pub returns-clause-ok : goal.returns-clause-ok
returns-clause-ok g c = λ list more told count carries is.
    append_is_log _ _ c.args.self.now _ _ c.args.bytes.now list more _ c.from.ensures told (omega arith) (λ i. omega (arith, c.type_inv.bytes i)) carries is c.in_ok-write_at.ensures (omega arith) refl refl c.checksum_at_end.ensures

pub returns-clause-any_moment : goal.returns-clause-any_moment
returns-clause-any_moment g c = λ list more told count carries is.
    append_moments _ _ c.args.self.now _ _ _ list more c.from.ensures told carries is c.write_at.ensures

use Rattle.std.proofs.Common.{rules}
use Rattle.std.proofs.lemmas.List.Sorted.{IsPartitionPoint-from_clause}
use Rattle.live_tables.specs.Stored.{is_key_below}
use Rattle.live_tables.proofs.StoredLemmas.{rows_partitioned}
use Rattle.live_tables.proofs.stored.count_below.Goals as goal

pub returns-clause-parted : goal.returns-clause-parted
returns-clause-parted c = λ ordered.
    IsPartitionPoint-from_clause (is_key_below c.args.column c.args.key.now) c.args.rows.now c.partition_point.result c.partition_point.ensures.partitioned
    (rows_partitioned c.args.column c.args.key.now c.args.rows.now ordered) (λ a r f' q. search rules)

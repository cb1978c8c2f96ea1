use Rattle.std.proofs.Common.{rules}
use Rattle.std.proofs.lemmas.List.Sorted.{IsPartitionPoint-from_clause}
use Rattle.redo_journal.specs.Index.{is_key_below}
use Rattle.redo_journal.proofs.IndexLemmas.{places_partitioned}
use Rattle.redo_journal.proofs.index.count_below.Goals as goal

pub returns-clause-parted : goal.returns-clause-parted
returns-clause-parted c = λ rows are ordered.
    IsPartitionPoint-from_clause (is_key_below c.args.records.now c.args.column c.args.key.now) c.args.places.now c.partition_point.result c.partition_point.ensures.partitioned
    (places_partitioned c.args.records.now c.args.column c.args.key.now c.args.places.now rows are ordered) (λ a r f' q. search rules)

-- Values that are looked at where they stand. (This project.)
use Rattle.sql_value.specs.declared.value.Value.{Value}
use Rattle.sql_value.specs.declared.value.Value.TheVariants as value
use Rattle.sql_exec.specs.declared.seen.Seen.{Seen}
use Rattle.sql_exec.specs.declared.seen.Seen.TheVariants as seen

-- the value that is looked at
abbrev pub value_seen : Seen → Value
value_seen seen.Null = value.Null
value_seen (seen.Int n) = value.Int n
value_seen (seen.Text bytes) = value.Text bytes.now

-- How many bytes an engine may hold, and a transaction may have in the log. (This project.)
use Rattle.std.specs.Prelude.{ℕ, ◌+◌, ◌-◌, ◌==◌, List, length, Option, cond, nat_le, sum_by}
use Rattle.sql_value.specs.declared.refusal.Refusal.{Refusal}
use Rattle.sql_value.specs.declared.refusal.Refusal.TheVariants.{TableFull, TransactionTooLarge}
use Rattle.sql_value.specs.declared.value.Value.{Value}
use Rattle.row_format.specs.declared.change.Change.{Change}
use Rattle.row_format.specs.Spelling.{row_image}
use Rattle.frame_codec.specs.Frame.{size_of}
use Rattle.binlog_events.specs.Transaction.{events_of}
use Rattle.engine_api.specs.Live.{live_limit}
use Rattle.sql_plan.specs.Plans.{unless}

-- the bytes of a row
abbrev pub row_bytes : List Value → ℕ
row_bytes row = length (row_image row)

-- why an engine may not have so many live bytes
abbrev pub room_refusal : ℕ → Option Refusal
room_refusal live = unless (nat_le live live_limit) TableFull

-- the bytes of these changes in the log, as a transaction by themselves
abbrev pub logged_bytes : List Change → ℕ
logged_bytes changes = sum_by size_of (events_of (record { xid = 0; changes = changes }))

-- The bytes of a transaction with these changes, if it had so many bytes before. Its begin and its end have 55 bytes, which count once.
abbrev pub bytes_with : ℕ → List Change → ℕ
bytes_with before changes = cond (before == 0) (logged_bytes changes) (before + logged_bytes changes - 55)

-- the most bytes that one transaction has in the log
abbrev pub transaction_limit : ℕ
transaction_limit = 1048576

-- why these changes may not come to a transaction of so many bytes
abbrev pub size_refusal : ℕ → List Change → Option Refusal
size_refusal before changes = unless (nat_le (bytes_with before changes) transaction_limit) TransactionTooLarge

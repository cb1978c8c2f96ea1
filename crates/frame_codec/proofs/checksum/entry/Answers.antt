-- The tables are right, by computation; so each entry is.
use Rattle.std.proofs.Common.{◌≡◌, true, refl}
use Rattle.frame_codec.proofs.CrcLemmas.{entry-right}
use Rattle.frame_codec.specs.declared.tables.TheConstants.{TABLES}
use Rattle.frame_codec.specs.Tables.{shifted_bytes, are_tables}
use Rattle.frame_codec.proofs.checksum.entry.Goals as goal

tables_right : are_tables TABLES ≡ true
unfolding shifted_bytes
tables_right = refl

pub returns : goal.returns
returns c = record { value = entry-right TABLES c.args.above c.args.byte tables_right c.requires.above c.requires.byte }

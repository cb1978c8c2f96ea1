use Rattle.std.proofs.Common.{rules}
use Rattle.redo_journal.proofs.MakingLemmas.{cut_first, headed_settled, made_cut, made_headed, made_gated}
use Rattle.redo_journal.proofs.create.make_area.Goals as goal

pub cut_synced-requires-clause-within : goal.cut_synced-requires-clause-within
cut_synced-requires-clause-within g c = λ told. cut_first _

pub returns-in_err-cut_synced : goal.returns-in_err-cut_synced
returns-in_err-cut_synced g c = record { makes = made_cut _ _ _ _ _ _ (search rules) c.in_err-cut_synced.ensures.changes }

pub write_synced-requires-clause-settled : goal.write_synced-requires-clause-settled
write_synced-requires-clause-settled g c = headed_settled _ _ _ _ c.in_ok-cut_synced.ensures.changes

pub write_synced-requires-clause-within : goal.write_synced-requires-clause-within
write_synced-requires-clause-within g c = λ told. cut_first _

pub returns-in_err-write_synced : goal.returns-in_err-write_synced
returns-in_err-write_synced g c = record { makes = made_headed _ _ _ _ _ _ _ _ _ (search rules) c.header-closed.ensures c.in_ok-cut_synced.ensures.changes c.in_err-write_synced.ensures.changes }

pub returns : goal.returns
returns g c = record { makes = made_gated _ _ _ _ _ _ _ _ _ _ c.header-closed.ensures c.in_ok-cut_synced.ensures.changes c.in_ok-write_synced.ensures.changes c.write_synced-2.ensures.changes }

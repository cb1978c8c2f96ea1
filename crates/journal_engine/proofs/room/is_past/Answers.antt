use Rattle.std.proofs.Common.{ℕ, ◌+◌, ◌*◌, length, ap, sym, ◌∙◌, arith}
use Rattle.std.specs.Prelude.{nat_lt}
use Rattle.frame_codec.specs.Frame.{limit}
use Rattle.framed_file.specs.Framed.{header_len}
use Rattle.binlog_events.specs.Items.{list_spelling}
use Rattle.redo_journal.specs.Replays.{end_of_records, commit_size}
use Rattle.journal_engine.proofs.RoomLemmas.{few_listed, many_past, past_same, prepare_len}
use Rattle.journal_engine.proofs.room.is_past.Goals as goal

pub returns-then-as_slice-gt-LIMIT : goal.returns-then-as_slice-gt-LIMIT
returns-then-as_slice-gt-LIMIT c records is =
    many_past (end_of_records header_len records) c.args.others c.args.share.now (omega (arith, c.if-as_slice-gt-LIMIT.true, ap length c.as_slice.ensures))

pub items_len-frame-requires : goal.items_len-frame-requires
items_len-frame-requires c = few_listed c.args.share.now.changes c.requires (omega (arith, c.if-as_slice-gt-LIMIT.false, ap length c.as_slice.ensures))

pub returns : goal.returns
returns c records is =
    let share = c.args.share.now in
    let others = c.args.others in
    past_same c.end_of.result c.items_len-frame.result others c.saturating_add.result c.saturating_mul-commits.result c.saturating_add-2.result c.saturating_add-3.result c.saturating_add.ensures c.saturating_mul-commits.ensures
    c.saturating_add-2.ensures c.saturating_add-3.ensures
    ∙ ap (λ (n : ℕ). nat_lt limit (c.end_of.result + (31 + n) + commit_size * (others + 1))) c.items_len-frame.ensures.value
    ∙ ap (λ (n : ℕ). nat_lt limit (n + (31 + length (list_spelling share.changes)) + commit_size * (others + 1))) (c.end_of.ensures records is)
    ∙ ap (λ (n : ℕ). nat_lt limit (n + commit_size * (others + 1))) (sym (prepare_len (end_of_records header_len records) share))

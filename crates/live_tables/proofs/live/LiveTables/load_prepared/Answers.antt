use Rattle.std.proofs.Common.{◌+◌, ◌∙◌, List, ap, length, subst, sym, sum_by}
use Rattle.row_format.specs.declared.change.Change.{Change}
use Rattle.log_tables.specs.declared.gist.Prepared.{Prepared}
use Rattle.live_tables.specs.Bytes.{capped}
use Rattle.live_tables.specs.Folds.{change_bytes}
use Rattle.live_tables.specs.Live.{Live, AreSound, AreCounted}
use Rattle.live_tables.proofs.LoadLemmas.{left_sound, left_counted}
use Rattle.live_tables.proofs.live.LiveTables.load_prepared.Goals as goal

pub invariant_of-self-2 : goal.invariant_of-self-2
invariant_of-self-2 c =
    let it = c.self.inside in
    let now = it.waiting + length c.as_slice-2.result.now in
    let len = c.changes_len-bytes.result in
    let is = ap (λ (l : Live). l.state) c.self.view_is in
    let more = ap (λ n. it.waiting + n) (ap length c.as_slice-2.ensures) in
    let own = c.changes_len-bytes.ensures ∙ ap (λ l. capped (sum_by change_bytes l)) c.as_slice.ensures in
    let sound = left_sound c.args.it it.tables.items it.done.items it.left.items it.pending.items it.last c.args.self.now.state c.self.invariant.0 is c.requires.idle c.requires.fresh in
    let counted = left_counted c.args.it it.tables.items it.done.items it.left.items it.pending.items it.committed it.opened it.waits it.waiting now len c.self.invariant.1 more own c.if-not-is_countable.ensures in (
      subst (λ (d : List Change). AreSound it.tables.items d c.push.new.self.items it.pending.items) (sym c.in_ok-reserve.ensures.items)
          (subst (λ (l : List Prepared). AreSound it.tables.items it.done.items l it.pending.items) (sym c.in_ok-push.ensures.items) sound),
      subst (λ (d : List Change). AreCounted it.tables.items d c.push.new.self.items it.pending.items it.committed it.opened (it.waits + len) now) (sym c.in_ok-reserve.ensures.items)
          (subst (λ (l : List Prepared). AreCounted it.tables.items it.done.items l it.pending.items it.committed it.opened (it.waits + len) now) (sym c.in_ok-push.ensures.items) counted),
      c.in_ok-reserve.ensures.ok,
    )

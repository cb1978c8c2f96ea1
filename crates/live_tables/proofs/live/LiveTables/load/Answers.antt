use Rattle.std.proofs.Common.{◌∙◌, ◌∷◌, ◌++◌, [], ap, arith}
use Rattle.live_tables.specs.Live.{Live}
use Rattle.live_tables.proofs.LoadLemmas.{load_sound, load_counted, load_state}
use Rattle.live_tables.proofs.live.LiveTables.load.Goals as goal

pub invariant_of-self-2 : goal.invariant_of-self-2
invariant_of-self-2 c =
    let it = c.self.inside in
    let behind = c.push_reserved.new.self.items in
    let is = ap (λ (l : Live). l.state) c.self.view_is in
    let appended = c.push_reserved.ensures.items ∙ ap (λ l. l ++ c.args.change ∷ []) c.in_ok-reserve.ensures.items in (
      load_sound c.args.change it.tables.items it.done.items behind it.left.items it.pending.items it.last c.args.self.now.state c.self.invariant.0 is c.requires.idle c.requires.applies appended,
      load_counted c.args.change it.tables.items it.done.items behind it.left.items it.pending.items it.committed it.opened it.waits it.waiting c.change_len-len.result
          c.self.invariant.1 c.change_len-len.ensures c.if-not-is_countable.ensures appended,
      omega (arith, c.push_reserved.ensures.len, c.push_reserved.ensures.capacity, c.in_ok-reserve.ensures.ok, c.in_ok-reserve.ensures.len),
    )

pub returns-clause-ok : goal.returns-clause-ok
returns-clause-ok c =
    let it = c.self.inside in
    let is = ap (λ (l : Live). l.state) c.self.view_is in
    let appended = c.push_reserved.ensures.items ∙ ap (λ l. l ++ c.args.change ∷ []) c.in_ok-reserve.ensures.items in
    c.settle.ensures
    ∙ load_state c.args.change it.tables.items it.done.items c.push_reserved.new.self.items it.left.items it.pending.items it.last c.args.self.now.state is c.requires.idle appended

use Rattle.std.proofs.Common.{rules, refl, sym, ap, subst, Option}
use Rattle.std.specs.declared.vec.Vec.{Vec}
use Rattle.std.specs.declared.alloc.Global.{Global}
use Rattle.disk_model.specs.Object.{object}
use Rattle.engine_api.specs.Many.{Working}
use Rattle.plugd.specs.declared.ack.Ack.{Ack}
use Rattle.plugd.specs.declared.reply.HaltCause.{HaltCause}
use Rattle.plugd.specs.Session.{World, world}
use Rattle.plugd.specs.Run.{IsPlay, IsStatus, usage, refused, played}
use Rattle.plugd.proofs.BeginLemmas.{fresh, on_any, on_first}
use Rattle.plugd.proofs.CoordinatorLemmas.{begun_same}
use Rattle.plugd.proofs.ShelfLemmas.{ends_by, base_by, other_end}
use Rattle.plugd.proofs.run.run_over.Goals as goal

pub returns-then-not-is_play : goal.returns-then-not-is_play
returns-then-not-is_play g c =
    let other : (IsPlay c.args.words.now → ⊥) = search rules in
    record { ended = on_any _ _ c.args.shelf.items _ c.requires.shelf (λ w. usage other refl c.new-acks.ensures.items refl) }

pub returns-in-Err : goal.returns-in-Err
returns-in-Err g c =
    let asks : IsPlay c.args.words.now = search rules in
    record {
      ended = on_first _ _ c.args.shelf.items c.remove-engine.result _ c.requires.shelf c.remove-engine.ensures.value
          (refused asks c.in-Err.refusal.fault c.status_of_fault-status.ensures c.new-acks-in-Err.ensures.items _ c.in-Err.ensures.refused refl);
    }

pub play_all-ending-requires-clause-reading : goal.play_all-ending-requires-clause-reading
play_all-ending-requires-clause-reading g c =
    let so = c.in-Ok.ensures.begins in
    let start : World = world ((goal.Storage-dyn g (object c.args.volume.storage)).disk c.args.volume.storage.value) (g.S.Source.left c.args.source.now) (g.S.Source.source_faults c.args.source.now) (g.K.Sink.held c.args.sink.now) (g.K.Sink.sink_faults c.args.sink.now) in
    (so.0, start, fresh so.0 start _ c.in-Ok.kernel c.new-session.result so.2 c.new-session.ensures.core c.new-session.ensures.front c.new-session.ensures.replies)

pub returns : goal.returns
returns g c =
    let asks : IsPlay c.args.words.now = search rules in
    let so = c.in-Ok.ensures.begins in
    let same_disk = sym (ap (λ b. (goal.Storage-dyn g (object b)).disk b.value) c.close-volume.ensures.volume) in
    let first = c.remove-engine.result in
    let e1 = goal.Engine-dyn g (object first) in
    let engine : Working = record { kind = e1.kind first.value; reading = e1.reading first.value; state = e1.state first.value; holds = e1.holds first.value } in
    let begun = c.in-Ok.kernel.engine in
    let e2 = goal.Engine-dyn g (object begun) in
    let last = c.play_all-ending.new.session.core.engine in
    let e3 = goal.Engine-dyn g (object last) in
    let same = begun_same
    (λ k. record { kind = (goal.Engine-dyn g (object k.engine)).kind k.engine.value; reading = (goal.Engine-dyn g (object k.engine)).reading k.engine.value })
    (λ s. s.core) (record { kind = engine.kind; reading = engine.reading }) c.in-Ok.kernel c.new-session.result c.play_all-ending.new.session c.in-Ok.ensures.same c.new-session.ensures.core c.play_all-ending.ensures.same in
    record {
      ended = on_first _ _ c.args.shelf.items first _ c.requires.shelf c.remove-engine.ensures.value
          (other_end c.args.limit c.args.words.now engine _ c.status_of-status.result c.close-volume.result.1.items _ _ _ _ _ _ same_disk
          (played asks so.0 (base_by c.args.limit engine (e2.kind begun.value) (e2.reading begun.value) (e2.state begun.value) (e2.holds begun.value) _ so.0 c.in-Ok.ensures.same so.1)
          c.play_all-ending.result c.play_all-ending.new.session.core.server
          (ends_by so.0 engine c.play_all-ending.new.session.core.server (e3.kind last.value) (e3.reading last.value) (e3.state last.value) (e3.holds last.value) _ c.play_all-ending.result _ same
          (c.play_all-ending.ensures.plays.ends so.0 _ (fresh so.0 _ _ c.in-Ok.kernel c.new-session.result so.2 c.new-session.ensures.core c.new-session.ensures.front c.new-session.ensures.replies)))
          (ap (λ (v : Vec Ack Global). v.items) c.close-volume.ensures.acks)
          (subst (λ (h : Option HaltCause). IsStatus c.play_all-ending.result h c.status_of-status.result) c.halted.ensures c.status_of-status.ensures)));
    }

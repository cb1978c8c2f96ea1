use Rattle.std.proofs.Common.{◌≤◌, ℕ, List, All, Err, sym, ◌∙◌, ap, subst}
use Rattle.disk_model.specs.Object.{object}
use Rattle.engine_api.specs.States.{Kind}
use Rattle.engine_api.specs.Many.{Working}
use Rattle.xid_recovery.specs.declared.report.OpenFault.{OpenFault}
use Rattle.xid_recovery.specs.Pairs.{ArePairsOf}
use Rattle.xid_recovery.specs.Recovers.{IsBrought, TellsOnly}
use Rattle.plugd.specs.Open.{Begins, Refused}
use Rattle.plugd.proofs.OpeningLemmas.{LogOpens, opened_begins}
use Rattle.plugd.proofs.RefusedLemmas.{memory_refused, log_refused, engine_refused}
use Rattle.plugd.proofs.kernel.Kernel.open.Goals as goal

pub returns-in_default-clause-refused : goal.returns-in_default-clause-refused
returns-in_default-clause-refused g c =
    let w = goal.Engine-dyn g (object c.args.engine) in
    let was : Working = record { kind = w.kind c.args.engine.value; reading = w.reading c.args.engine.value; state = w.state c.args.engine.value; holds = w.holds c.args.engine.value } in
    let s0 = goal.Storage-dyn g (object c.args.volume.storage) in
    memory_refused was (s0.disk c.args.volume.storage.value) c.requires.journal.apart

pub returns-in-Err-clause-refused : goal.returns-in-Err-clause-refused
returns-in-Err-clause-refused g c =
    let w = goal.Engine-dyn g (object c.args.engine) in
    let was : Working = record { kind = w.kind c.args.engine.value; reading = w.reading c.args.engine.value; state = w.state c.args.engine.value; holds = w.holds c.args.engine.value } in
    let s0 = goal.Storage-dyn g (object c.args.volume.storage) in
    let s1 = goal.Storage-dyn g (object c.open_log.new.storage) in
    let start = s0.disk c.args.volume.storage.value in
    let mid = s1.disk c.open_log.new.storage.value in
    subst (λ (f : OpenFault). Refused was start f mid) (sym c.open_fault-fault.ensures)
    (log_refused was start mid c.in-Err.fault c.requires.journal.apart c.in-Err.ensures.device (λ file is. c.in-Err.ensures.not_a_volume file (ap Err is)) c.in-Err.ensures.any_moment)

pub returns-in-Ok-bring-clause-begins : goal.returns-in-Ok-bring-clause-begins
returns-in-Ok-bring-clause-begins g c =
    let w = goal.Engine-dyn g (object c.args.engine) in
    let was : Working = record { kind = w.kind c.args.engine.value; reading = w.reading c.args.engine.value; state = w.state c.args.engine.value; holds = w.holds c.args.engine.value } in
    let s0 = goal.Storage-dyn g (object c.args.volume.storage) in
    let s1 = goal.Storage-dyn g (object c.open_log.new.storage) in
    let start = s0.disk c.args.volume.storage.value in
    let mid = s1.disk c.open_log.new.storage.value in
    let o : LogOpens start mid c.in-Ok.found c.open_log.new.found c.in-Ok-open_log.opened.log c.in-Ok-open_log.opened.cut = record {
      on = record { told = c.in-Ok-open_log.ensures.device.told; later = c.in-Ok-open_log.ensures.device.later; no_fewer = c.in-Ok-open_log.ensures.device.no_fewer };
      none_is = c.in-Ok.ensures;
      opened = c.in-Ok-open_log.ensures.opened;
      given = c.in-Ok-open_log.ensures.visited;
      moments = c.in-Ok-open_log.ensures.any_moment;
    } in
    let flushed = c.flushed-logged.ensures in
    let s2 = goal.Storage-dyn g (object c.bring.new.storage) in
    let end = s2.disk c.bring.new.storage.value in
    let e = goal.Engine-dyn g (object c.bring.new.engine) in
    let v = c.bring.new.engine.value in
    let kind_is = c.in-Ok-bring.ensures.same.kind in
    let pairs_are = c.deref.ensures.value in
    subst (λ (k : Kind). Begins c.args.limit start (record { server = c.new.result; engine = record { kind = k; reading = e.reading v; state = e.state v; holds = e.holds v }; disk = end })) (sym kind_is)
    (opened_begins was (e.reading v) (e.state v) (e.holds v) c.in-Ok-bring.field-0 start mid end c.in-Ok.found c.open_log.new.found c.in-Ok-open_log.opened.log c.in-Ok-open_log.opened.cut c.args.limit c.new.result c.requires.journal c.requires.limit o (record {
      on = record { told = c.in-Ok-bring.ensures.device.told; later = c.in-Ok-bring.ensures.device.later; no_fewer = c.in-Ok-bring.ensures.device.no_fewer };
      same = c.in-Ok-bring.ensures.same.reading;
      brought = subst (λ (k : Kind). IsBrought (record { kind = k; reading = e.reading v; state = e.state v; holds = e.holds v }) end) kind_is c.in-Ok-bring.ensures.brought;
      last = λ all.
          subst (λ (n : ℕ). (e.state v).gist.last ≤ n) flushed
          (c.in-Ok-bring.ensures.last (subst (λ (l : List (ℕ × ℕ)). All (λ (pair : ℕ × ℕ). pair.1 ≤ c.flushed-logged.result) l) (sym pairs_are) (subst (λ (n : ℕ). All (λ (pair : ℕ × ℕ). pair.1 ≤ n) c.open_log.new.found.pairs.items) (sym flushed) all)));
      recovers = λ list distinct pairs count told at. c.in-Ok-bring.ensures.recovers list distinct (subst (ArePairsOf list) (sym pairs_are) pairs) (flushed ∙ count) told at;
      others = c.in-Ok-bring.ensures.others;
    }) (record { log_is = c.new.ensures.log; xids_are = c.new.ensures.xids; dictionary_is = c.new.ensures.dictionary; limit_is = c.new.ensures.limit; lines = c.new.ensures.lines; acks = c.new.ensures.acks; halted = c.new.ensures.halted }))

pub returns-in-Err-bring-clause-refused : goal.returns-in-Err-bring-clause-refused
returns-in-Err-bring-clause-refused g c =
    let w = goal.Engine-dyn g (object c.args.engine) in
    let was : Working = record { kind = w.kind c.args.engine.value; reading = w.reading c.args.engine.value; state = w.state c.args.engine.value; holds = w.holds c.args.engine.value } in
    let s0 = goal.Storage-dyn g (object c.args.volume.storage) in
    let s1 = goal.Storage-dyn g (object c.open_log.new.storage) in
    let start = s0.disk c.args.volume.storage.value in
    let mid = s1.disk c.open_log.new.storage.value in
    let o : LogOpens start mid c.in-Ok.found c.open_log.new.found c.in-Ok-open_log.opened.log c.in-Ok-open_log.opened.cut = record {
      on = record { told = c.in-Ok-open_log.ensures.device.told; later = c.in-Ok-open_log.ensures.device.later; no_fewer = c.in-Ok-open_log.ensures.device.no_fewer };
      none_is = c.in-Ok.ensures;
      opened = c.in-Ok-open_log.ensures.opened;
      given = c.in-Ok-open_log.ensures.visited;
      moments = c.in-Ok-open_log.ensures.any_moment;
    } in
    let flushed = c.flushed-logged.ensures in
    let s2 = goal.Storage-dyn g (object c.bring.new.storage) in
    let end = s2.disk c.bring.new.storage.value in
    let e = goal.Engine-dyn g (object c.bring.new.engine) in
    let v = c.bring.new.engine.value in
    let pairs_are = c.deref.ensures.value in
    engine_refused was (e.state v) start mid end c.in-Ok.found c.open_log.new.found c.in-Ok-open_log.opened.log c.in-Ok-open_log.opened.cut c.in-Err-bring.fault c.requires.journal.apart o c.in-Err-bring.ensures.device
    (subst (λ (n : ℕ). TellsOnly was.kind was.reading mid n (Err c.in-Err-bring.fault)) flushed c.in-Err-bring.ensures.tells)
    (λ list distinct pairs count told at. c.in-Err-bring.ensures.recovers list distinct (subst (ArePairsOf list) (sym pairs_are) pairs) (flushed ∙ count) told at)
    c.in-Err-bring.ensures.others

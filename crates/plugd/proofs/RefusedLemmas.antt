-- An opening that was refused: by the log, or by the engine.
use Rattle.std.proofs.Common.{◌≡◌, inl, inr, ⊎_elim, ℕ, List, [], ◌∷◌, ◌++◌, length, map, Result, Err, IsTrue, refl, sym, ◌∙◌, ap, subst, arith, append_assoc}
use Rattle.std.specs.Prelude.{Contains, IsErrOf}
use Rattle.disk_model.specs.File.{File}
use Rattle.disk_model.specs.Disk.{Disk, now, contents, Keeps, Only, HasCause}
use Rattle.disk_model.proofs.Moments.{started, both, weaker}
use Rattle.row_format.specs.declared.change.Transaction.{Transaction}
use Rattle.binlog_file.specs.declared.binlog.Binlog.{Binlog}
use Rattle.binlog_file.specs.declared.fault.BinlogFault.{BinlogFault}
use Rattle.binlog_file.specs.declared.fault.BinlogFault.TheVariants as log
use Rattle.frame_codec.specs.Chain.{chain_of}
use Rattle.framed_file.specs.Framed.{header_len}
use Rattle.binlog_file.specs.Logged.{IsLogged, IsNoLog, log_header, header_checksum, all_events}
use Rattle.binlog_file.specs.Binlog.{flushed_of}
use Rattle.binlog_file.specs.Opening.{IsSafe}
use Rattle.engine_api.specs.States.{EngineState}
use Rattle.engine_api.specs.Many.{Working}
use Rattle.engine_api.specs.Reads.{bytes_in, OnlyIn}
use Rattle.xid_recovery.specs.declared.report.EngineReport.{EngineReport}
use Rattle.xid_recovery.specs.declared.report.OpenFault.{OpenFault}
use Rattle.xid_recovery.specs.declared.report.OpenFault.TheVariants.{Device, NotAVolume, EngineMissing, Ahead, Memory}
use Rattle.xid_recovery.specs.Pairs.{ArePairsOf}
use Rattle.xid_recovery.specs.Recovers.{EachGoes, IsDeviceFault, IsDoneOrOutside, IsRecoverableIn, Recovers, TellsOnly}
use Rattle.recovery_rules.specs.Places.{IsDistinct}
use Rattle.volume_rules.specs.Images.{EachRecoverable, IsRecoverableVolume}
use Rattle.volume_rules.proofs.OpenLemmas.{open_moments, bring_moments, EachTrails}
use Rattle.plugd.specs.declared.found.Found.{Found}
use Rattle.plugd.specs.Crash.{OthersStay}
use Rattle.plugd.specs.Open.{as_opening, IsOutside, Refused}
use Rattle.plugd.specs.Serve.{reader_of, shelf_of}
use Rattle.plugd.proofs.LogLemmas.{durable_holds}
use Rattle.plugd.proofs.OpeningLemmas.{LogOpens, contents_of, may_contents, engine_files, recoverable_in, log_fits, found_pairs}

-- bytes that have a logged list are a log
not_no_log : (bytes : List ℕ) (list : List Transaction) → IsLogged bytes list → IsNoLog bytes → ⊥
not_no_log bytes list logged none = ⊎_elim
    (λ headed. none.no_header (chain_of header_checksum header_len (all_events list) ++ headed.rest, headed.stands ∙ append_assoc log_header (chain_of header_checksum header_len (all_events list)) headed.rest))
    (λ headless. let short = headless.short in let long = none.long in omega (arith, short, long)) logged

-- The log was not opened.
pub log_refused : (was : Working) (start end : Disk) {T : Type 0} (fault : BinlogFault) → (Contains was.kind.files 0 → ⊥)
    → HasCause (λ (r : Result T BinlogFault). IsErrOf r log.Device) (Err fault) start end
    → ((file : ℕ) → fault ≡ log.NotAVolume file → (file ≡ 0) × (IsTrue start.told → IsNoLog (contents start 0)))
    → (IsTrue start.told → Keeps start end (Only 0 (now start) (IsSafe (now start 0)))) → Refused was start (as_opening fault) end
log_refused was start end fault apart cause none run = record {
  told = cause.told;
  later = cause.later;
  no_fewer = cause.no_fewer;
  device = λ is. cause.cause (ap (λ (f : BinlogFault). Err f) (is_device fault is));
  not_a_volume = λ file is. inl (none file (is_none fault file is));
  ahead = λ name last log_last is. absurd (not_ahead fault name last log_last is);
  none_missing = λ name is. not_missing fault name is;
  outside = λ told could. outside fault told could none;
  sound = λ told could. open_moments (shelf_of was) (reader_of was ∷ []) start end (apart, tt) could (run told);
  log_safe = λ told. weaker start end (Only 0 (now start) (IsSafe (now start 0))) (λ files. IsSafe (now start 0) (files 0)) (λ files p. p.1) (run told);
  others = λ told. weaker start end (Only 0 (now start) (IsSafe (now start 0))) (OthersStay was.kind (now start)) (λ files p. (λ f no not. p.0 f no)) (run told);
}
  where
    is_device : (f : BinlogFault) → as_opening f ≡ Device → f ≡ log.Device
    is_device log.Device is = refl
    is_device (log.NotAVolume file) is = cc
    is_device log.Memory is = cc

    is_none : (f : BinlogFault) (file : ℕ) → as_opening f ≡ NotAVolume file → f ≡ log.NotAVolume file
    is_none log.Device file is = cc
    is_none (log.NotAVolume other) file is = cc
    is_none log.Memory file is = cc

    not_ahead : (f : BinlogFault) (name : List ℕ) (last log_last : ℕ) → as_opening f ≡ Ahead name last log_last → ⊥
    not_ahead log.Device name last log_last is = cc
    not_ahead (log.NotAVolume other) name last log_last is = cc
    not_ahead log.Memory name last log_last is = cc

    not_missing : (f : BinlogFault) (name : List ℕ) → as_opening f ≡ EngineMissing name → ⊥
    not_missing log.Device name is = cc
    not_missing (log.NotAVolume other) name is = cc
    not_missing log.Memory name is = cc

    outside : (f : BinlogFault) → IsTrue start.told → IsRecoverableVolume (shelf_of was) (reader_of was ∷ []) start
        → ((file : ℕ) → f ≡ log.NotAVolume file → (file ≡ 0) × (IsTrue start.told → IsNoLog (contents start 0))) → IsOutside (as_opening f)
    outside log.Device told could is_none = tt
    outside (log.NotAVolume file) told could is_none =
        let whole = could (now start 0).bytes (contents_of was start ∷ []) (inl refl) (may_contents was start, tt) in
        absurd (not_no_log (contents start 0) whole.0 whole.1.logged ((is_none file refl).1 told))
    outside log.Memory told could is_none = tt

not_device : (r : Result Unit BinlogFault) → r ≡ Err log.Memory → r ≡ Err log.Device → ⊥
not_device r is other = cc

-- No memory was left before anything was read.
pub memory_refused : (was : Working) (start : Disk) → (Contains was.kind.files 0 → ⊥) → Refused was start Memory start
memory_refused was start apart =
    log_refused was start start {T = Unit} log.Memory apart (record { told = refl; later = omega arith; no_fewer = omega arith; cause = λ is. absurd (not_device (Err log.Memory) refl is) }) (λ file is. cc)
    (λ told. started start (Only 0 (now start) (IsSafe (now start 0))) ((λ f none. refl), inl refl))

-- The engine was not brought to the log.
pub engine_refused : (was : Working) (state : EngineState) (start mid end : Disk) (none found : Found) (log : Binlog) (cut : ℕ) (fault : OpenFault) → (Contains was.kind.files 0 → ⊥)
    → (o : LogOpens start mid none found log cut) → HasCause {T = EngineReport} {E = OpenFault} IsDeviceFault (Err fault) mid end
    → TellsOnly was.kind was.reading mid (flushed_of log) (Err fault)
    → ((list : List Transaction) → IsDistinct list → ArePairsOf list found.pairs.items → flushed_of log ≡ length list → IsTrue mid.told → IsRecoverableIn was.kind was.reading list mid
    → Recovers was.kind was.reading list (Err fault) state mid end)
    → (IsTrue mid.told → Keeps mid end (OnlyIn was.kind.files (now mid) (λ files. Unit {0})))
    → Refused was start fault end
engine_refused was state start mid end none found log cut fault apart o cause tells recovers others = record {
  told = cause.told ∙ o.on.told;
  later = let one = o.on.later in let two = cause.later in omega (arith, one, two);
  no_fewer = let one = o.on.no_fewer in let two = cause.no_fewer in omega (arith, one, two);
  device = λ is. let rose = cause.cause (ap (λ (f : OpenFault). Err f) is) in let less = o.on.no_fewer in omega (arith, rose, less);
  not_a_volume = λ file is.
      let why = tells.not_a_volume file (ap (λ (f : OpenFault). Err f) is) in
      inr (why.0, λ told gist stands. why.1 (mid_told told) gist (subst (λ (l : List (List ℕ)). was.reading.stands l gist) (sym (bytes_same told)) stands));
  ahead = λ name last log_last is.
      let a = tells.ahead name last log_last (ap (λ (f : OpenFault). Err f) is) in
      record {
        name_is = a.name_is;
        ahead = let more = a.ahead in omega (arith, more, a.last_is, a.log_last_is);
        log_is = λ told. ((o.opened told).list, (o.opened told).opens.logged, a.log_last_is ∙ (o.opened told).opens.is_log.flushed);
        last_is = λ told. (a.gist, subst (λ (l : List (List ℕ)). was.reading.stands l a.gist) (bytes_same told) (a.found (mid_told told)), a.last_is);
      };
  none_missing = λ name is. tells.none_missing name (ap (λ (f : OpenFault). Err f) is);
  outside = λ told could. is_outside fault (recovered told could).answers;
  sound = sound_now;
  log_safe = λ told.
      let first = o.moments told in
      both start mid end (λ files. IsSafe (now start 0) (files 0))
      (weaker start mid (Only 0 (now start) (IsSafe (now start 0))) (λ files. IsSafe (now start 0) (files 0)) (λ files p. p.1) first)
      (weaker mid end (OnlyIn was.kind.files (now mid) (λ files. Unit {0})) (λ files. IsSafe (now start 0) (files 0))
      (λ files p. subst (IsSafe (now start 0)) (sym (p.0 0 apart)) (first.each mid.calls first.later (omega arith)).1) (others (mid_told told)));
  others = λ told.
      let first = o.moments told in
      both start mid end (OthersStay was.kind (now start))
      (weaker start mid (Only 0 (now start) (IsSafe (now start 0))) (OthersStay was.kind (now start)) (λ files p. (λ f no not. p.0 f no)) first)
      (weaker mid end (OnlyIn was.kind.files (now mid) (λ files. Unit {0})) (OthersStay was.kind (now start))
      (λ files p. (λ f no not. p.0 f not ∙ (first.each mid.calls first.later (omega arith)).0 f no)) (others (mid_told told)));
}
  where
    mid_told : IsTrue start.told → IsTrue mid.told
    mid_told told = subst IsTrue (sym o.on.told) told

    bytes_same : IsTrue start.told → bytes_in was.kind.files mid ≡ bytes_in was.kind.files start
    bytes_same told =
        sym (of_files was.kind.files (now mid)) ∙ ap (map (λ (file : File). file.bytes)) (engine_files was start mid none found log cut apart o told) ∙ of_files was.kind.files (now start)
      where
        of_files : (numbers : List ℕ) (files : ℕ → File) → map (λ (file : File). file.bytes) (map files numbers) ≡ map (λ f. (files f).bytes) numbers
        of_files [] files = refl
        of_files (n ∷ numbers) files = ap (λ (l : List (List ℕ)). (files n).bytes ∷ l) (of_files numbers files)

    recovered : (told : IsTrue start.told) → IsRecoverableVolume (shelf_of was) (reader_of was ∷ []) start → Recovers was.kind was.reading (o.opened told).list (Err fault) state mid end
    recovered told could =
        recovers (o.opened told).list (log_fits was start mid none found log cut o told could).0 (found_pairs start mid none found log cut o told).pairs (o.opened told).opens.is_log.flushed
        (mid_told told) (recoverable_in was start mid none found log cut apart o told could)

    is_outside : (f : OpenFault) → IsDoneOrOutside {T = EngineReport} (Err f) → IsOutside f
    is_outside Device is = tt
    is_outside (NotAVolume file) is = is
    is_outside (EngineMissing name) is = is
    is_outside (Ahead name last log_last) is = is
    is_outside Memory is = tt

    sound_now : (told : IsTrue start.told) → IsRecoverableVolume (shelf_of was) (reader_of was ∷ []) start → Keeps start end (EachRecoverable (shelf_of was) (reader_of was ∷ []))
    sound_now told could =
        let list = (o.opened told).list in
        let fits = log_fits was start mid none found log cut o told could in
        both start mid end (EachRecoverable (shelf_of was) (reader_of was ∷ []))
        (open_moments (shelf_of was) (reader_of was ∷ []) start mid (apart, tt) could (o.moments told))
        (bring_moments (shelf_of was) (reader_of was) list mid end apart
        (durable_holds log list mid (record { is_log = (o.opened told).opens.is_log; durable = (o.opened told).opens.durable })) fits.0 fits.1
        (weaker mid end (OnlyIn was.kind.files (now mid) (EachGoes was.kind list was.reading)) (OnlyIn was.kind.files (now mid) (EachTrails (reader_of was) list))
        (λ files p. (p.0, λ images faithful. let g = p.1 images faithful in (g.0, g.1.trails, g.1.suits, g.2)))
        (recovered told could).moments))

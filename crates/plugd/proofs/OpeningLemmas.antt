-- An opening: the log is opened, the engine is brought to it, and the session begins.
use Rattle.std.proofs.Common.{◌≡◌, inl, inr, ⊎_elim, ℕ, zero, suc, ◌<◌, ◌≤◌, List, [], ◌∷◌, ◌++◌, length, map, Some, None, Bool, true, false, Ok, IsTrue, refl, sym, ◌∙◌, ap, subst, arith}
use Rattle.std.specs.Prelude.{Contains, All, slice_get}
use Rattle.std.proofs.lemmas.List.{append-nil}
use Rattle.std.proofs.lemmas.List.Elements.{All-nil, All-cons, All-head}
use Rattle.disk_model.specs.File.{File}
use Rattle.disk_model.specs.Disk.{Disk, now, contents, Keeps, Only}
use Rattle.disk_model.proofs.Moments.{both, weaker}
use Rattle.row_format.specs.declared.change.Transaction.{Transaction}
use Rattle.binlog_file.specs.declared.binlog.Binlog.{Binlog}
use Rattle.binlog_file.specs.Logged.{IsLogged, Holds, log_end}
use Rattle.binlog_file.specs.Binlog.{flushed_of, end_in}
use Rattle.binlog_file.specs.Opening.{IsSafe, OpensFor, IsGiven}
use Rattle.binlog_file.proofs.UniqueLemmas.{one_logged}
use Rattle.log_tables.specs.declared.gist.Gist.{Gist}
use Rattle.log_tables.specs.Tables.{part_of}
use Rattle.log_tables.specs.Changes.{tables_after}
use Rattle.dictionary.specs.Dictionary.{DictionaryState, Tells, changes_of, definitions_of}
use Rattle.dictionary.proofs.TellsLemmas.{after_changes-changes_of}
use Rattle.engine_api.specs.States.{EngineState}
use Rattle.engine_api.specs.Many.{Working}
use Rattle.engine_api.specs.Reads.{Reading, SameReading, EachReads, AreAtStart, OnlyIn, files_in}
use Rattle.engine_api.proofs.ManyLemmas.{same_files}
use Rattle.recovery_rules.specs.Places.{IsDistinct}
use Rattle.recovery_rules.specs.Trails.{Trails, IsAtLog}
use Rattle.recovery_rules.specs.Recovery.{ShelfEngine, SafeEngine, Suits, IsRecovered}
use Rattle.xid_recovery.specs.declared.report.EngineReport.{EngineReport}
use Rattle.xid_recovery.specs.Pairs.{ArePairsOf}
use Rattle.xid_recovery.specs.Recovers.{EachGoes, IsRecoverableIn, IsBrought, Recovers}
use Rattle.volume_rules.specs.Readers.{with_gist}
use Rattle.volume_rules.specs.Images.{EachRecoverable, EachRecovered, IsRecoverableVolume}
use Rattle.volume_rules.proofs.ListLemmas.{of_one}
use Rattle.volume_rules.proofs.StepLemmas.{alone, trails_of, tables_of}
use Rattle.volume_rules.proofs.ImageLemmas.{rests_recovered}
use Rattle.volume_rules.proofs.OpenLemmas.{open_moments, start_goes, bring_moments, EachTrails}
use Rattle.volume_rules.proofs.SameLemmas.{read_by, same_back, recoverable_same, volume_same}
use Rattle.plugd.specs.declared.ack.Ack.{Ack}
use Rattle.plugd.specs.declared.found.Found.{Found}
use Rattle.plugd.specs.declared.xids.XidSet.{XidSet}
use Rattle.plugd.specs.XidSet.{Knows}
use Rattle.plugd.specs.Xids.{xids_of}
use Rattle.plugd.specs.declared.server.Server.{Server}
use Rattle.plugd.specs.Asked.{engine_name}
use Rattle.plugd.specs.Crash.{StaysRecoverable, StandsIn, OthersStay, Safe}
use Rattle.plugd.specs.Found.{IsFound}
use Rattle.plugd.specs.LogOne.{IsDurable}
use Rattle.plugd.specs.Open.{IsBase, Begins}
use Rattle.plugd.specs.Play.{State}
use Rattle.plugd.specs.Noting.{AreSound}
use Rattle.plugd.proofs.DictionaryLemmas.{told_catalog}
use Rattle.plugd.proofs.SoundLemmas.{sound_first}
use Rattle.plugd.specs.Serve.{Base, Core, reader_of, shelf_of, IsJournal, IsIdle, IsAtRest, IsCatalogOf, Serving}
use Rattle.plugd.proofs.AheadLemmas.{GoesOn}
use Rattle.plugd.proofs.LogLemmas.{durable_holds}
use Rattle.plugd.proofs.WayLemmas.{durable_called}
use Rattle.plugd.proofs.EndLemmas.{rest_logged}

-- What the opening of the log tells.
pub record LogOpens (start mid : Disk) (none found : Found) (log : Binlog) (cut : ℕ) : Type 0 where
  pub on : GoesOn start mid
  pub none_is : IsFound [] none
  pub opened : IsTrue start.told → OpensFor (λ l. IsFound l none) (λ l. IsFound l found) start mid log cut
  pub given : IsGiven (λ l. IsFound l none) (λ l. IsFound l found) (flushed_of log)
  pub moments : IsTrue start.told → Keeps start mid (Only 0 (now start) (IsSafe (now start 0)))

-- What is told of an engine that was brought to the log.
pub record Brings (was : Working) (reading : Reading) (state : EngineState) (holds : List File → Type 0) (report : EngineReport) (pairs : List (ℕ × ℕ)) (logged : ℕ) (mid end : Disk) : Type 0 where
  pub on : GoesOn mid end
  pub same : SameReading was.reading reading
  pub brought : IsBrought (record { kind = was.kind; reading = reading; state = state; holds = holds }) end
  pub last : All (λ (pair : ℕ × ℕ). pair.1 ≤ logged) pairs → state.gist.last ≤ logged
  pub recovers : (log : List Transaction) → IsDistinct log → ArePairsOf log pairs → logged ≡ length log → IsTrue mid.told → IsRecoverableIn was.kind was.reading log mid → Recovers was.kind was.reading log (Ok report) state mid end
  pub others : IsTrue mid.told → Keeps mid end (OnlyIn was.kind.files (now mid) (λ files. Unit {0}))

-- the engine's files are as they were while the log was opened
pub engine_files : (was : Working) (start mid : Disk) (none found : Found) (log : Binlog) (cut : ℕ) → (Contains was.kind.files 0 → ⊥) → LogOpens start mid none found log cut → IsTrue start.told
    → files_in was.kind.files mid ≡ files_in was.kind.files start
engine_files was start mid none found log cut apart o told =
    let run = o.moments told in
    same_files was.kind.files (now mid) (now start) (λ f here. (run.each mid.calls run.later (omega arith)).0 f (λ zero. apart (subst (Contains was.kind.files) zero here)))

-- the log's file is as it was while the engine was brought to it
log_file : (was : Working) (mid end : Disk) (files : ℕ → File) → (Contains was.kind.files 0 → ⊥) → OnlyIn was.kind.files (now mid) (λ files. Unit {0}) files → files 0 ≡ now mid 0
log_file was mid end files apart only = only.0 0 apart

-- of a volume that could be recovered the engine's files are recoverable to the log that was found
pub recoverable_in : (was : Working) (start mid : Disk) (none found : Found) (log : Binlog) (cut : ℕ) → (Contains was.kind.files 0 → ⊥) → (o : LogOpens start mid none found log cut) → (told : IsTrue start.told)
    → IsRecoverableVolume (shelf_of was) (reader_of was ∷ []) start → IsRecoverableIn was.kind was.reading (o.opened told).list mid
recoverable_in was start mid none found log cut apart o told could = record {
  images = λ images at.
      let g = start_goes (shelf_of was) (reader_of was) start (o.opened told).list images could (o.opened told).opens.logged
      (subst (λ (l : List File). AreAtStart was.reading 0 l images) (engine_files was start mid none found log cut apart o told) at) in
      (g.gist, record { trails = trails_of (shelf_of was) (o.opened told).list (reader_of was) g.gist g.recoverable; suits = All-head (λ (x : SafeEngine). All (λ p. Suits x.engine x.allows p.changes) x.gist.prepared) (with_gist (reader_of was) g.gist) [] g.recoverable.prepared_suits }, g.stand);
}

-- what a read of the engine's files gives
abbrev pub contents_of : Working → Disk → List (List ℕ)
contents_of was disk = map (λ (file : File). file.bytes) (map (now disk) was.kind.files)

-- it is of what a start may have
pub may_contents : (was : Working) (disk : Disk) → AreAtStart was.reading 0 (map (now disk) was.kind.files) (contents_of was disk)
may_contents was disk = each 0 (map (now disk) was.kind.files)
  where
    each : (place : ℕ) (files : List File) → AreAtStart was.reading place files (map (λ (file : File). file.bytes) files)
    each place [] = tt
    each place (file ∷ files) = (inl refl, each (suc place) files)

-- its xids differ, and the flags allow what it makes
pub log_fits : (was : Working) (start mid : Disk) (none found : Found) (log : Binlog) (cut : ℕ) → (o : LogOpens start mid none found log cut) → (told : IsTrue start.told)
    → IsRecoverableVolume (shelf_of was) (reader_of was ∷ []) start → IsDistinct (o.opened told).list × All (λ (x : ShelfEngine). All (λ t. Suits x.engine x.allows t.changes) (o.opened told).list) (shelf_of was)
log_fits was start mid none found log cut o told could =
    let g = start_goes (shelf_of was) (reader_of was) start (o.opened told).list (contents_of was start) could (o.opened told).opens.logged (may_contents was start) in
    (g.recoverable.distinct, g.recoverable.log_suits)

-- the pairs that were found are those of the log
pub found_pairs : (start mid : Disk) (none found : Found) (log : Binlog) (cut : ℕ) → (o : LogOpens start mid none found log cut) → (told : IsTrue start.told) → IsFound (o.opened told).list found
found_pairs start mid none found log cut o told = (o.opened told).visited [] o.none_is

-- what the recovery did, of a volume that could be recovered
recovered_to : (was : Working) (reading : Reading) (state : EngineState) (holds : List File → Type 0) (report : EngineReport) (start mid end : Disk) (none found : Found) (log : Binlog) (cut : ℕ) → (Contains was.kind.files 0 → ⊥)
    → (o : LogOpens start mid none found log cut) → Brings was reading state holds report found.pairs.items (flushed_of log) mid end → (told : IsTrue start.told)
    → IsRecoverableVolume (shelf_of was) (reader_of was ∷ []) start → Recovers was.kind was.reading (o.opened told).list (Ok report) state mid end
recovered_to was reading state holds report start mid end none found log cut apart o b told could =
    b.recovers (o.opened told).list (log_fits was start mid none found log cut o told could).0 (found_pairs start mid none found log cut o told).pairs (o.opened told).opens.is_log.flushed
    (subst IsTrue (sym o.on.told) told) (recoverable_in was start mid none found log cut apart o told could)

-- the log is durable behind the opening, and behind the recovery
opened_durable : (was : Working) (reading : Reading) (state : EngineState) (holds : List File → Type 0) (report : EngineReport) (start mid end : Disk) (none found : Found) (log : Binlog) (cut : ℕ) → (Contains was.kind.files 0 → ⊥)
    → (o : LogOpens start mid none found log cut) → Brings was reading state holds report found.pairs.items (flushed_of log) mid end → (told : IsTrue start.told) → IsDurable log (o.opened told).list end
opened_durable was reading state holds report start mid end none found log cut apart o b told =
    let run = b.others (subst IsTrue (sym o.on.told) told) in
    durable_called log (o.opened told).list mid end (log_file was mid end (now end) apart (run.each end.calls run.later (omega arith)))
    (record { is_log = (o.opened told).opens.is_log; durable = (o.opened told).opens.durable })

-- At each moment of it all each image is recoverable.
opened_sound : (was : Working) (reading : Reading) (state : EngineState) (holds : List File → Type 0) (report : EngineReport) (start mid end : Disk) (none found : Found) (log : Binlog) (cut : ℕ) → (Contains was.kind.files 0 → ⊥)
    → LogOpens start mid none found log cut → Brings was reading state holds report found.pairs.items (flushed_of log) mid end
    → StaysRecoverable (shelf_of was) (read_by was.kind reading) start end
opened_sound was reading state holds report start mid end none found log cut apart o b told could =
    let could₂ = volume_same (shelf_of was) was.kind reading was.reading start (same_back was.reading reading b.same) could in
    let fits = log_fits was start mid none found log cut o told could₂ in
    let list = (o.opened told).list in
    weaker start end (EachRecoverable (shelf_of was) (read_by was.kind was.reading)) (EachRecoverable (shelf_of was) (read_by was.kind reading))
    (λ files each. recoverable_same (shelf_of was) was.kind was.reading reading files b.same each)
    (both start mid end (EachRecoverable (shelf_of was) (reader_of was ∷ []))
    (open_moments (shelf_of was) (reader_of was ∷ []) start mid (apart, tt) could₂ (o.moments told))
    (bring_moments (shelf_of was) (reader_of was) list mid end apart
    (durable_holds log list mid (record { is_log = (o.opened told).opens.is_log; durable = (o.opened told).opens.durable })) fits.0 fits.1
    (weaker mid end (OnlyIn was.kind.files (now mid) (EachGoes was.kind list was.reading)) (OnlyIn was.kind.files (now mid) (EachTrails (reader_of was) list))
    (λ files p. (p.0, λ images faithful. let g = p.1 images faithful in (g.0, g.1.trails, g.1.suits, g.2)))
    (recovered_to was reading state holds report start mid end none found log cut apart o b told could₂).moments)))

-- Behind it the engine is at the log.
opened_at_log : (was : Working) (reading : Reading) (state : EngineState) (holds : List File → Type 0) (report : EngineReport) (start mid end : Disk) (none found : Found) (log : Binlog) (cut : ℕ) → (Contains was.kind.files 0 → ⊥)
    → (o : LogOpens start mid none found log cut) → Brings was reading state holds report found.pairs.items (flushed_of log) mid end → (told : IsTrue start.told)
    → IsRecoverableVolume (shelf_of was) (read_by was.kind reading) start → IsRecovered (shelf_of was) (o.opened told).list (alone (record { kind = was.kind; reading = reading }) state.gist)
opened_at_log was reading state holds report start mid end none found log cut apart o b told could =
    let could₂ = volume_same (shelf_of was) was.kind reading was.reading start (same_back was.reading reading b.same) could in
    let fits = log_fits was start mid none found log cut o told could₂ in
    let r = recovered_to was reading state holds report start mid end none found log cut apart o b told could₂ in
    let it : SafeEngine = with_gist (reader_of was) state.gist in
    let list = (o.opened told).list in
    record {
      recoverable = record {
        distinct = fits.0;
        trails = of_one (λ (x : SafeEngine). Trails x.engine list x.gist) it r.goes.trails;
        log_suits = fits.1;
        prepared_suits = of_one (λ (x : SafeEngine). All (λ p. Suits x.engine x.allows p.changes) x.gist.prepared) it r.goes.suits;
      };
      at_log = of_one (λ (x : SafeEngine). IsAtLog x.engine list x.gist) it r.at_log;
    }

-- it is recovered behind the opening
opened_recovered : (was : Working) (reading : Reading) (state : EngineState) (holds : List File → Type 0) (report : EngineReport) (start mid end : Disk) (none found : Found) (log : Binlog) (cut : ℕ) → (Contains was.kind.files 0 → ⊥)
    → (o : LogOpens start mid none found log cut) → Brings was reading state holds report found.pairs.items (flushed_of log) mid end → (told : IsTrue start.told)
    → IsRecoverableVolume (shelf_of was) (read_by was.kind reading) start → EachRecovered (shelf_of was) (read_by was.kind reading) (o.opened told).list (now end)
opened_recovered was reading state holds report start mid end none found log cut apart o b told could =
    let list = (o.opened told).list in
    let told₂ = subst IsTrue (sym b.on.told) (subst IsTrue (sym o.on.told) told) in
    rests_recovered (shelf_of was) (read_by was.kind reading) list (state.gist ∷ []) (now end) (record {
      holds = durable_holds log list end (opened_durable was reading state holds report start mid end none found log cut apart o b told);
      engines = ((b.brought.idle.files told₂).1, tt);
      recovered = opened_at_log was reading state holds report start mid end none found log cut apart o b told could;
    })

-- the volume stays safe over it
opened_safe : (was : Working) (reading : Reading) (state : EngineState) (holds : List File → Type 0) (report : EngineReport) (start mid end : Disk) (none found : Found) (log : Binlog) (cut : ℕ) → (Contains was.kind.files 0 → ⊥)
    → (o : LogOpens start mid none found log cut) → Brings was reading state holds report found.pairs.items (flushed_of log) mid end → (told : IsTrue start.told)
    → Safe was.kind start (o.opened told).list (o.opened told).list [] end
opened_safe was reading state holds report start mid end none found log cut apart o b told = record {
  moments = both start mid end P
      (weaker start mid (Only 0 (now start) (IsSafe (now start 0))) P (λ files p. stood (files 0) p.1) first)
      (weaker mid end Q P (λ files p. subst (StandsIn (now start 0) list list) (sym (p.0 0 apart)) (stood (now mid 0) (first.each mid.calls first.later (omega arith)).1)) second);
  others = both start mid end O
      (weaker start mid (Only 0 (now start) (IsSafe (now start 0))) O (λ files p. (λ f no not. p.0 f no)) first)
      (weaker mid end Q O (λ files p. (λ f no not. p.0 f not ∙ (first.each mid.calls first.later (omega arith)).0 f no)) second);
  acks_kept = tt;
}
  where
    list : List Transaction
    list = (o.opened told).list

    P : (ℕ → File) → Type 0
    P = λ files. StandsIn (now start 0) list list (files 0)

    O : (ℕ → File) → Type 0
    O = OthersStay was.kind (now start)

    Q : (ℕ → File) → Type 0
    Q = OnlyIn was.kind.files (now mid) (λ files. Unit {0})

    first : Keeps start mid (Only 0 (now start) (IsSafe (now start 0)))
    first = o.moments told

    second : Keeps mid end Q
    second = b.others (subst IsTrue (sym o.on.told) told)

    stood : (file : File) → IsSafe (now start 0) file → StandsIn (now start 0) list list file
    stood file safe = ⊎_elim (λ same. inl same) (λ some. inr (subst (λ (l : List Transaction). Holds l l file) (one_logged (contents start 0) some.0 list some.1 (o.opened told).opens.logged) some.2)) safe

-- the first state of a session
abbrev pub first_of : Server → EngineState → State
first_of server state = record { line = 0; count = flushed_of server.log; len = end_in server.log; catalog = record { definitions = server.dictionary.definitions; installed = server.dictionary.installed; live = state.gist.tables }; given = []; asked = []; halted = None; met = None }

-- what it begins with
abbrev pub base_of : Disk → List Transaction → ℕ → Server → EngineState → Disk → Base
base_of start found limit server state end = record { start = start; found = found; limit = limit; opened = end.calls; first = first_of server state }

-- a server that has played nothing
pub record IsNew (limit : ℕ) (log : Binlog) (found : Found) (server : Server) : Type 0 where
  pub log_is : server.log ≡ log
  pub xids_are : server.xids ≡ found.xids
  pub dictionary_is : server.dictionary ≡ found.dictionary
  pub limit_is : server.limit ≡ limit
  pub lines : server.lines ≡ 0
  pub acks : server.acks.items ≡ []
  pub halted : server.halted ≡ None

-- its catalog is that of the log that was found
catalog_first : (list : List Transaction) (server : Server) (state : EngineState) (log : Binlog) (found : Found) (limit : ℕ) → IsNew limit log found server → IsFound list found → IsCatalogOf list (first_of server state).catalog
catalog_first list server state log found limit new f =
    told_catalog list server.dictionary state.gist.tables (subst (λ (d : DictionaryState). Tells (changes_of list) d) (sym new.dictionary_is) f.dictionary)

-- its definitions are sound
sound_found : (list : List Transaction) (server : Server) (log : Binlog) (found : Found) (limit : ℕ) → IsNew limit log found server → IsFound list found → AreSound server.dictionary.definitions
sound_found list server log found limit new f =
    subst AreSound (sym (ap (λ (d : DictionaryState). d.definitions) new.dictionary_is ∙ f.dictionary.definitions ∙ ap definitions_of (after_changes-changes_of list []))) (sound_first list f.fit)

-- what a place of a list has
there : {X : Type 0} (xs : List X) (i : ℕ) → i < length xs → (x : X) × (slice_get xs i ≡ Some x)
there [] i lt = absurd (omega (arith, lt))
there (x ∷ xs) zero lt = (x, refl)
there (x ∷ xs) (suc i) lt = there xs i (omega (arith, lt))

within_list : {X : Type 0} (xs : List X) (i : ℕ) (x : X) → slice_get xs i ≡ Some x → i < length xs
within_list [] i x at = cc
within_list (y ∷ xs) zero x at = omega arith
within_list (y ∷ xs) (suc i) x at = let less = within_list xs i x at in omega (arith, less)

some_same : {X : Type 0} {x y : X} → Some x ≡ Some y → x ≡ y
some_same e = cc

-- no number is above that of the last transaction
pairs_within : (log : List Transaction) (pairs : List (ℕ × ℕ)) (bound : ℕ) → ArePairsOf log pairs → length log ≤ bound → All (λ (pair : ℕ × ℕ). pair.1 ≤ bound) pairs
pairs_within log pairs bound are within = all pairs number
  where
    number : (place : ℕ) (pair : ℕ × ℕ) → slice_get pairs place ≡ Some pair → pair.1 ≤ bound
    number place pair at =
        let less = within_list pairs place pair at in
        let it = there log place (omega (arith, less, are.as_many)) in
        let same : (it.0.xid, suc place) ≡ pair = some_same (sym (are.pair place it.0 it.1) ∙ at) in
        subst (λ (p : ℕ × ℕ). p.1 ≤ bound) same (omega (arith, less, are.as_many, within))

    all : (rest : List (ℕ × ℕ)) → ((place : ℕ) (pair : ℕ × ℕ) → slice_get rest place ≡ Some pair → pair.1 ≤ bound) → All (λ (pair : ℕ × ℕ). pair.1 ≤ bound) rest
    all [] each = All-nil (λ (pair : ℕ × ℕ). pair.1 ≤ bound)
    all (x ∷ rest) each = All-cons (λ (pair : ℕ × ℕ). pair.1 ≤ bound) x rest (each 0 x refl) (all rest (λ place pair at. each (suc place) pair at))

-- the engine's last number is none above the log's count
opened_last : (was : Working) (reading : Reading) (state : EngineState) (holds : List File → Type 0) (report : EngineReport) (start mid end : Disk) (none found : Found) (log : Binlog) (cut : ℕ)
    → LogOpens start mid none found log cut → Brings was reading state holds report found.pairs.items (flushed_of log) mid end → state.gist.last ≤ flushed_of log
opened_last was reading state holds report start mid end none found log cut o b =
    b.last (pairs_within o.given.list found.pairs.items (flushed_of log) (o.given.given [] o.none_is).pairs (omega (arith, o.given.counted)))

-- the engine is between two lines
opened_idle : (was : Working) (reading : Reading) (state : EngineState) (holds : List File → Type 0) (report : EngineReport) (start mid end : Disk) (none found : Found) (log : Binlog) (cut limit : ℕ) (server : Server)
    → LogOpens start mid none found log cut → Brings was reading state holds report found.pairs.items (flushed_of log) mid end → IsNew limit log found server → IsIdle state (first_of server state)
opened_idle was reading state holds report start mid end none found log cut limit server o b new = record {
  pending = ap (λ (s : EngineState). s.pending) b.brought.idle.begun;
  kept = ap (λ (s : EngineState). s.kept) b.brought.idle.begun;
  none_prepared = b.brought.none_prepared;
  live = refl;
  last = let last = opened_last was reading state holds report start mid end none found log cut o b in omega (arith, last, ap flushed_of new.log_is);
}

-- The session serves.
pub opened_serving : (was : Working) (reading : Reading) (state : EngineState) (holds : List File → Type 0) (report : EngineReport) (start mid end : Disk) (none found : Found) (log : Binlog) (cut limit : ℕ) (server : Server) (list : List Transaction)
    → IsJournal was.kind → limit ≤ 2147483647 → (o : LogOpens start mid none found log cut) → Brings was reading state holds report found.pairs.items (flushed_of log) mid end → IsNew limit log found server
    → ((told : IsTrue start.told) → (o.opened told).list ≡ list)
    → Serving (base_of start list limit server state end) [] [] (record { server = server; engine = record { kind = was.kind; reading = reading; state = state; holds = holds }; disk = end })
opened_serving was reading state holds report start mid end none found log cut limit server list journal small o b new list_is = record {
  state = first_of server state;
  fixed = record { kind = journal; limit = new.limit_is; small = small };
  line = refl;
  stopped = record {
    secure = record {
      told = b.on.told ∙ o.on.told;
      later = let one = o.on.later in let two = b.on.later in omega (arith, one, two);
      no_fewer = let one = o.on.no_fewer in let two = b.on.no_fewer in omega (arith, one, two);
      safe = λ told.
          subst (λ (all : List Transaction). Safe was.kind start list all server.acks.items end) (sym (append-nil list))
          (subst (λ (acks : List Ack). Safe was.kind start list list acks end) (sym new.acks)
          (subst (λ (l : List Transaction). Safe was.kind start l l [] end) (list_is told) (opened_safe was reading state holds report start mid end none found log cut journal.apart o b told)));
      sound = opened_sound was reading state holds report start mid end none found log cut journal.apart o b;
      in_time = (let one = o.on.later in let two = b.on.later in omega (arith, one, two), omega arith);
      opened = λ told could. subst (λ (l : List Transaction). EachRecovered (shelf_of was) (read_by was.kind reading) l (now end)) (list_is told) (opened_recovered was reading state holds report start mid end none found log cut journal.apart o b told could);
    };
    plays = (refl, refl);
    numbers = ap (map (λ (a : Ack). a.number)) new.acks;
    cause = λ cause some. absurd (no_some some);
    count = λ told. let flushed = (o.opened told).opens.is_log.flushed in omega (arith, ap flushed_of new.log_is, flushed, ap length (list_is told));
    whole = λ told none_met. subst (IsLogged (contents end 0)) (list_is told ∙ sym (append-nil list)) (rest_logged log (o.opened told).list (now end 0) (opened_durable was reading state holds report start mid end none found log cut journal.apart o b told).is_log);
  };
  shows = record { line = new.lines; halted = new.halted; catalog = λ none_halted. record { definitions = refl; installed = refl }; count = λ none_halted. refl; len = λ none_halted. refl };
  met = λ none_halted. refl;
  sound = sound_found o.given.list server log found limit new (o.given.given [] o.none_is);
  idle = λ none_halted. opened_idle was reading state holds report start mid end none found log cut limit server o b new;
  rest = λ told none_halted. rest_now told;
}
  where
    core : Core
    core = record { server = server; engine = record { kind = was.kind; reading = reading; state = state; holds = holds }; disk = end }

    rest_now : IsTrue start.told → IsAtRest (base_of start list limit server state end) core state.gist (first_of server state) []
    rest_now told =
        let f = found_pairs start mid none found log cut o told in
        let told₂ = subst IsTrue (sym b.on.told) (subst IsTrue (sym o.on.told) told) in
        let files = b.brought.idle.files told₂ in
        let grown = sym (append-nil list) in
        record {
          durable = subst (λ (l : Binlog). IsDurable l (list ++ []) end) (sym new.log_is) (subst (λ (l : List Transaction). IsDurable log l end) (list_is told ∙ grown) (opened_durable was reading state holds report start mid end none found log cut journal.apart o b told));
          knows = subst (λ (set : XidSet). Knows set (xids_of list ++ [])) (sym new.xids_are) (subst (Knows found.xids) (ap xids_of (list_is told) ∙ sym (append-nil (xids_of list))) f.knows);
          asked_given = λ xid on. on;
          catalog = subst (λ (l : List Transaction). IsCatalogOf l (first_of server state).catalog) (list_is told ∙ grown) (catalog_first (o.opened told).list server state log found limit new f);
          at_work = record { holds = files.0; reads = subst (λ (l : List Gist). EachReads reading l (files_in was.kind.files end)) (sym (ap (λ (s : EngineState). s.kept) b.brought.idle.begun)) files.1 };
          recovered = λ could. subst (λ (l : List Transaction). IsRecovered (shelf_of was) l (alone (record { kind = was.kind; reading = reading }) state.gist)) (list_is told ∙ grown) (opened_at_log was reading state holds report start mid end none found log cut journal.apart o b told could);
        }

    no_some : {X : Type 0} {x : X} → None ≡ Some x → ⊥
    no_some e = cc

by_told : (b : Bool) (P : Type 0) → (b ≡ true → P) → (b ≡ false → P) → P
by_told true P if_told if_not = if_told refl
by_told false P if_told if_not = if_not refl

not_told : {P : Type 0} (b : Bool) → b ≡ false → IsTrue b → P
not_told b is told = absurd (let e = is in cc)

-- A session begins.
pub opened_begins : (was : Working) (reading : Reading) (state : EngineState) (holds : List File → Type 0) (report : EngineReport) (start mid end : Disk) (none found : Found) (log : Binlog) (cut limit : ℕ) (server : Server)
    → IsJournal was.kind → limit ≤ 2147483647 → LogOpens start mid none found log cut → Brings was reading state holds report found.pairs.items (flushed_of log) mid end → IsNew limit log found server
    → Begins limit start (record { server = server; engine = record { kind = was.kind; reading = reading; state = state; holds = holds }; disk = end })
opened_begins was reading state holds report start mid end none found log cut limit server journal small o b new =
    by_told start.told (Begins limit start core)
    (λ told. (
      base_of start (o.opened told).list limit server state end,
      base (o.opened told).list (λ again. same told again),
      opened_serving was reading state holds report start mid end none found log cut limit server (o.opened told).list journal small o b new (λ again. same told again),
    ))
    (λ untold. (
      base_of start [] limit server state end,
      base [] (λ told. not_told start.told untold told),
      opened_serving was reading state holds report start mid end none found log cut limit server [] journal small o b new (λ told. not_told start.told untold told),
    ))
  where
    core : Core
    core = record { server = server; engine = record { kind = was.kind; reading = reading; state = state; holds = holds }; disk = end }

    same : (told again : IsTrue start.told) → (o.opened again).list ≡ (o.opened told).list
    same told again = one_logged (contents start 0) (o.opened again).list (o.opened told).list (o.opened again).opens.logged (o.opened told).opens.logged

    base : (list : List Transaction) → ((told : IsTrue start.told) → (o.opened told).list ≡ list) → IsBase limit core.engine start (base_of start list limit server state end)
    base list list_is = record {
      start = refl;
      limit_is = refl;
      line = refl;
      given = refl;
      asked = refl;
      halted = refl;
      met = refl;
      found = λ told.
          let opens = (o.opened told).opens in (
            subst (IsLogged (contents start 0)) (list_is told) opens.logged,
            ap flushed_of new.log_is ∙ opens.is_log.flushed ∙ ap length (list_is told),
            ap end_in new.log_is ∙ opens.is_log.len ∙ ap log_end (list_is told),
          );
      catalog = λ told.
          let f = found_pairs start mid none found log cut o told in
          subst (λ (l : List Transaction). IsCatalogOf l (first_of server state).catalog) (list_is told) (catalog_first (o.opened told).list server state log found limit new f);
      live = λ told could.
          (tables_of (shelf_of was) (o.opened told).list (record { kind = was.kind; reading = reading }) state.gist (opened_at_log was reading state holds report start mid end none found log cut journal.apart o b told could)).tables
          ∙ ap (λ (name : List ℕ). part_of name (tables_after (o.opened told).list)) journal.name ∙ ap (λ (l : List Transaction). part_of engine_name (tables_after l)) (list_is told);
    }

-- What a run leaves of a volume that could be recovered.
use Rattle.std.proofs.Common.{◌≡◌, ◌⊎◌, inl, inr, ⊎_elim, ℕ, suc, ◌≤◌, Bool, true, false, List, [], ◌∷◌, length, map, Option, Some, None, IsTrue, refl, sym, ◌∙◌, ap, subst, arith, length-append}
use Rattle.std.specs.declared.alloc.Global.{Global}
use Rattle.std.specs.declared.string.String.{String}
use Rattle.fault_counts.specs.Rose.{Rose}
use Rattle.disk_model.specs.File.{File}
use Rattle.disk_model.specs.Disk.{Disk, now}
use Rattle.disk_model.proofs.Moments.{started}
use Rattle.engine_api.specs.Many.{Working}
use Rattle.engine_api.specs.Reads.{Reading, AreFaithful, AreAtStart}
use Rattle.recovery_rules.specs.Recovery.{ShelfEngine}
use Rattle.volume_rules.specs.Readers.{Reader}
use Rattle.volume_rules.specs.Images.{AreImages, AreAllAtStart, EachRecoverable, IsRecoverableVolume}
use Rattle.xid_recovery.specs.declared.report.OpenFault.{OpenFault}
use Rattle.xid_recovery.specs.declared.report.OpenFault.TheVariants as fault
use Rattle.plugd.specs.declared.ack.Ack.{Ack}
use Rattle.plugd.specs.declared.play.Ending.{Ending}
use Rattle.plugd.specs.declared.play.Ending.TheVariants.{EndOfInput, SourceFailed, SinkFailed, TooLong, OutOfMemory}
use Rattle.plugd.specs.declared.reply.HaltCause.{HaltCause}
use Rattle.plugd.specs.declared.reply.HaltCause.TheVariants as cause
use Rattle.plugd.specs.declared.run.Status.{Status}
use Rattle.plugd.specs.declared.run.Status.TheVariants as status
use Rattle.plugd.specs.declared.server.Server.{Server}
use Rattle.plugd.specs.Crash.{StaysRecoverable}
use Rattle.plugd.specs.Open.{Refused}
use Rattle.plugd.specs.Run.{Ended, Ends, Runs, IsComplete, IsSound, IsStatus, plain_status, fault_status, usage, refused, played}
use Rattle.plugd.specs.Serve.{Base, IsCause, reader_of, shelf_of}
use Rattle.plugd.specs.Session.{input_limit, World}

faithful_at_start : (reading : Reading) (place : ℕ) (files : List File) (images : List (List ℕ)) → AreFaithful reading place files images → AreAtStart reading place files images
faithful_at_start reading place [] [] are = tt
faithful_at_start reading place [] (image ∷ images) are = are
faithful_at_start reading place (file ∷ files) [] are = are
faithful_at_start reading place (file ∷ files) (image ∷ images) are = (inr are.0, faithful_at_start reading (suc place) files images are.1)

images_at_start : (readers : List Reader) (files : ℕ → File) (images : List (List (List ℕ))) → AreImages readers files images → AreAllAtStart readers files images
images_at_start [] files [] are = tt
images_at_start [] files (one ∷ images) are = are
images_at_start (it ∷ rest) files [] are = are
images_at_start (it ∷ rest) files (one ∷ images) are = (faithful_at_start it.reading 0 (map files it.kind.files) one are.0, images_at_start rest files images are.1)

-- a crash before the first call leaves a recoverable volume
unmoved : (shelf : List ShelfEngine) (readers : List Reader) (start : Disk) → StaysRecoverable shelf readers start start
unmoved shelf readers start told could = started start (EachRecoverable shelf readers) (λ image images within faithful are. could image images (inr (within, faithful)) (images_at_start readers (now start) images are))

-- at each moment of a run
pub recoverable : (limit : ℕ) (words : List (String Global)) (engine : Working) (start end : World) (answer : Status) (acks : List Ack) → Ended limit words engine start answer acks end → IsSound start end engine
recoverable limit words engine start end answer acks (usage words_are answer_is acks_are same) =
    subst (λ (w : World). IsSound start w engine) (sym same) (unmoved (shelf_of engine) (reader_of engine ∷ []) start.disk)
recoverable limit words engine start end answer acks (refused words_are refusal answer_is acks_are disk is same) =
    subst (λ (w : World). IsSound start w engine) (sym same) is.sound
recoverable limit words engine start end answer acks (played words_are base is ending server ends acks_are answer_is) =
    subst (λ (d : Disk). StaysRecoverable (shelf_of engine) (reader_of engine ∷ []) d end.disk) is.start ends.halts.stopped.secure.sound

-- an opening of such a volume, where the device did not fail
complete_refused : (engine : Working) (start disk : Disk) (refusal : OpenFault) → Refused engine start refusal disk → IsTrue start.told → IsRecoverableVolume (shelf_of engine) (reader_of engine ∷ []) start
    → (Rose start.faults disk.faults → ⊥) → refusal ≡ fault.Memory
complete_refused engine start disk fault.Memory is told could none = refl
complete_refused engine start disk fault.Device is told could none = absurd (none (is.device refl))
complete_refused engine start disk (fault.NotAVolume file) is told could none = absurd (is.outside told could)
complete_refused engine start disk (fault.EngineMissing name) is told could none = absurd (is.outside told could)
complete_refused engine start disk (fault.Ahead name last log_last) is told could none = absurd (is.outside told could)

complete_ending : (base : Base) (engine : Working) (start end : World) (ending : Ending) (server : Server) (xs : List ℕ) → Ends base engine start ending server end → start.left ≡ Some xs → length xs ≤ input_limit
    → (Rose start.source_faults end.source_faults → ⊥) → (Rose start.sink_faults end.sink_faults → ⊥) → (plain_status ending ≡ status.Ok) ⊎ (plain_status ending ≡ status.NoMemory)
complete_ending base engine start end EndOfInput server xs ends left short source sink = inl refl
complete_ending base engine start end SourceFailed server xs ends left short source sink = absurd (source ends.reason)
complete_ending base engine start end SinkFailed server xs ends left short source sink = absurd (sink ends.reason)
complete_ending base engine start end OutOfMemory server xs ends left short source sink = inr refl
complete_ending base engine start end TooLong server xs ends left short source sink =
    let took = ends.took.told xs left in
    absurd (omega (arith, ends.played.0, short, ap length took.2, length-append ends.read took.0))

not_told : (b : Bool) → b ≡ false → IsTrue b → ⊥
not_told true is told = absurd (let e = is in cc)
not_told false is told = absurd (let e = told in cc)

-- no cause halts a run where contents are told and the device does not fail
no_cause : (base : Base) (engine : Working) (start end : Disk) (found : HaltCause) → base.start ≡ start → IsTrue start.told → (Rose start.faults end.faults → ⊥) → IsCause base engine.kind end found → ⊥
no_cause base engine start end cause.Device same told none is = none (subst (λ (d : Disk). Rose d.faults end.faults) same is)
no_cause base engine start end (cause.NotAVolume file) same told none is = not_told base.start.told is.0 (subst (λ (d : Disk). IsTrue d.told) (sym same) told)

-- the answer of a run that met no cause
complete_answer : (ending : Ending) (halted : Option HaltCause) (answer : Status) → IsStatus ending halted answer → ((found : HaltCause) → halted ≡ Some found → ⊥) → answer ≡ plain_status ending
complete_answer ending None answer is none = is.plain refl
complete_answer ending (Some found) answer is none = absurd (none found refl)

pub complete : (limit : ℕ) (words : List (String Global)) (engine : Working) (start end : World) (answer : Status) (acks : List Ack) → Ended limit words engine start answer acks end → IsComplete words start end answer engine
complete limit words engine start end answer acks (usage other answer_is acks_are same) = λ asks told could xs left short disk_none source_none sink_none. absurd (other asks)
complete limit words engine start end answer acks (refused words_are refusal answer_is acks_are disk is same) = λ asks told could xs left short disk_none source_none sink_none.
    inr (answer_is ∙ ap fault_status (complete_refused engine start.disk disk refusal is told could (λ rose. disk_none (subst (λ (w : World). Rose start.disk.faults w.disk.faults) (sym same) rose))))
complete limit words engine start end answer acks (played words_are base is ending server ends acks_are answer_is) = λ asks told could xs left short disk_none source_none sink_none.
    let h = ends.halts in
    let plain = complete_answer ending server.halted answer answer_is (λ found set. no_cause base engine start.disk end.disk found is.start told disk_none (h.stopped.cause found (sym h.halted ∙ set))) in
    ⊎_elim (λ ok. inl (plain ∙ ok)) (λ memory. inr (plain ∙ memory)) (complete_ending base engine start end ending server xs ends left short source_none sink_none)

-- all of it
pub runs : (limit : ℕ) (words : List (String Global)) (start end : World) (answer : Status) (acks : List Ack) (engine : Working) → Ended limit words engine start answer acks end → Runs limit words start answer acks end engine
runs limit words start end answer acks engine ended = record {
  ended = ended;
  complete = complete limit words engine start end answer acks ended;
  recoverable = recoverable limit words engine start end answer acks ended;
}

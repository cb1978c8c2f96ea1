-- Where a session stands after some bytes of the input, and how it ends. (This project.)
use Rattle.std.specs.Prelude.{◌≡◌, ◌⊎◌, ◌≤◌, ◌<◌, ◌+◌, ℕ, List, [], ◌++◌, length, take, flat_map, Option, Some, Result, OnOk, OnErr}
use Rattle.std.specs.declared.alloc.AllocError.{AllocError}
use Rattle.fault_counts.specs.Rose.{Rose}
use Rattle.disk_model.specs.Disk.{Disk}
use Rattle.outer_io.specs.Ends.{Took, Put, PutFront}
use Rattle.plugd.specs.declared.play.Ending.{Ending}
use Rattle.plugd.specs.declared.play.Ending.TheVariants.{EndOfInput, SourceFailed, SinkFailed, TooLong, OutOfMemory}
use Rattle.plugd.specs.declared.reply.Reply.{Reply}
use Rattle.plugd.specs.declared.session.Session.{Session}
use Rattle.plugd.specs.Lines.{Splits, AreAll, AreFirst, AreFirstOfAll, front_of}
use Rattle.plugd.specs.Reply.{text_of}
use Rattle.plugd.specs.Coordinator.{Telling}
use Rattle.plugd.specs.Serve.{Base}

-- the longest input, in bytes
abbrev pub input_limit : ℕ
input_limit = 16777216

-- Each whole line of what was taken was played, the first bytes of the open one are kept, and the texts of the replies are what was
-- spoken and what is still to be.
pub record Standing {C : Type 0} (serves : Telling C) (base : Base) (taken spoken : List ℕ) (session : Session C) : Type 0 where
  pub lines : List (List ℕ)
  pub rest : List ℕ
  pub replies : List Reply
  pub splits : Splits taken lines rest
  pub front : session.front.items ≡ front_of rest
  pub serving : serves session.core base lines replies
  pub texts : flat_map text_of replies ≡ spoken ++ session.replies.items

-- There was no memory to go on: first lines of what was taken were played, and the first texts are there.
pub record Starved {C : Type 0} (rests : Telling C) (base : Base) (taken spoken : List ℕ) (session : Session C) : Type 0 where
  pub lines : List (List ℕ)
  pub replies : List Reply
  pub first : AreFirst taken lines
  pub halts : rests session.core base lines replies
  pub untold : List ℕ
  pub texts : flat_map text_of replies ≡ (spoken ++ session.replies.items) ++ untold

-- it stands after some bytes, and there is room for so many more
abbrev pub IsStanding : {C : Type 0} → Telling C → Session C → ℕ → Type 0
IsStanding serves session room = (base : Base) × (taken : List ℕ) × (spoken : List ℕ) × Standing serves base taken spoken session × (length taken + room < 4294967296)

-- it took these bytes
pub record Takes {C : Type 0} (serves rests : Telling C) (bytes : List ℕ) (old new : Session C) (result : Result Unit AllocError) : Type 0 where
  pub ok : (base : Base) (taken spoken : List ℕ) → Standing serves base taken spoken old → OnOk result (Standing serves base (taken ++ bytes) spoken new)
  pub err : (base : Base) (taken spoken : List ℕ) → Standing serves base taken spoken old → OnErr result (Starved rests base (taken ++ bytes) spoken new)

-- the outside: the disk, what is left to read and what was written, where that is told, and the counts of faults
pub record World : Type 0 where
  pub disk : Disk
  pub left : Option (List ℕ)
  pub held : Option (List ℕ)
  pub source_faults : ℕ
  pub sink_faults : ℕ

-- the outside as it tells itself: the disk; of the source what is left and its faults; of the sink what it holds and its faults
abbrev pub world : Disk → Option (List ℕ) → ℕ → Option (List ℕ) → ℕ → World
world disk left source_faults held sink_faults = record { disk = disk; left = left; held = held; source_faults = source_faults; sink_faults = sink_faults }

-- the counts of faults of source and sink go on
pub record FaultsGoOn (old new : World) : Type 0 where
  pub source : old.source_faults ≤ new.source_faults
  pub sink : old.sink_faults ≤ new.sink_faults

-- a session that has read these bytes since the start, played them and written all replies
pub record Reading {C : Type 0} (serves : Telling C) (base : Base) (start : World) (taken : List ℕ) (session : Session C) (now : World) : Type 0 where
  pub spoken : List ℕ
  pub standing : Standing serves base taken spoken session
  pub all_told : session.replies.items ≡ []
  pub took : Took taken start.left now.left
  pub put : Put spoken start.held now.held
  pub faults : FaultsGoOn start now

-- nothing is left to read, where that is told
abbrev pub IsEnd : Option (List ℕ) → Option (List ℕ) → Type 0
IsEnd old new = (xs : List ℕ) → old ≡ Some xs → new ≡ Some []

-- first lines of what was read, up to the limit; or of all of it, where the input came to its end
abbrev pub AreSome : Option (List ℕ) → Option (List ℕ) → List ℕ → List (List ℕ) → Type 0
AreSome old new read lines = AreFirst (take input_limit read) lines ⊎ (IsEnd old new × (length read ≤ input_limit) × AreFirstOfAll read lines)

-- which lines of the input were played, by how the run ended
abbrev pub Played : Ending → Option (List ℕ) → Option (List ℕ) → List ℕ → List (List ℕ) → Type 0
Played EndOfInput old new read lines = (length read ≤ input_limit) × AreAll read lines
Played SourceFailed old new read lines = (length read ≤ input_limit) × (rest : List ℕ) × Splits read lines rest
Played SinkFailed old new read lines = AreSome old new read lines
Played TooLong old new read lines = (input_limit < length read) × (rest : List ℕ) × Splits (take input_limit read) lines rest
Played OutOfMemory old new read lines = AreSome old new read lines

-- which texts were written
abbrev pub Told : Ending → List ℕ → Option (List ℕ) → Option (List ℕ) → Type 0
Told EndOfInput texts old new = Put texts old new
Told SourceFailed texts old new = Put texts old new
Told SinkFailed texts old new = PutFront texts old new
Told TooLong texts old new = Put texts old new
Told OutOfMemory texts old new = PutFront texts old new

-- why it ended
abbrev pub HasReason : Ending → World → World → Type 0
HasReason EndOfInput old new = IsEnd old.left new.left
HasReason SourceFailed old new = Rose old.source_faults new.source_faults
HasReason SinkFailed old new = Rose old.sink_faults new.sink_faults
HasReason TooLong old new = Unit {0}
HasReason OutOfMemory old new = Unit {0}

-- the end of the input, or of what could be played of it, with P of the lines that were played and of their replies
pub record EndsIn (P : List (List ℕ) → List Reply → Type 0) (start : World) (ending : Ending) (end : World) : Type 0 where
  pub read : List ℕ
  pub lines : List (List ℕ)
  pub replies : List Reply
  pub took : Took read start.left end.left
  pub played : Played ending start.left end.left read lines
  pub halts : P lines replies
  pub told : Told ending (flat_map text_of replies) start.held end.held
  pub reason : HasReason ending start end
  pub faults : FaultsGoOn start end

-- it reads on, and the input may have so many bytes more
abbrev pub IsReading : {C : Type 0} → Telling C → Session C → World → ℕ → Type 0
IsReading serves session now room = (base : Base) × (start : World) × (taken : List ℕ) × Reading serves base start taken session now × (length taken + room ≡ input_limit)

-- it has read nothing yet
abbrev pub IsFresh : {C : Type 0} → Telling C → Session C → World → Type 0
IsFresh serves session now = (base : Base) × (start : World) × Reading serves base start [] session now

-- What one piece of the input does. (This project.)
use Rattle.std.specs.Prelude.{◌≡◌, ◌⊎◌, ◌≤◌, ◌<◌, ◌+◌, ℕ, List, [], ◌++◌, length, flat_map, Option, Result, Ok, Err}
use Rattle.fault_counts.specs.Rose.{Rose}
use Rattle.outer_io.specs.Ends.{Put, PutFront}
use Rattle.plugd.specs.declared.play.Ending.{Ending}
use Rattle.plugd.specs.declared.play.Ending.TheVariants.{SinkFailed, OutOfMemory}
use Rattle.plugd.specs.declared.reply.Reply.{Reply}
use Rattle.plugd.specs.declared.session.Session.{Session}
use Rattle.plugd.specs.Lines.{closing, AreAll, AreFirst}
use Rattle.plugd.specs.Reply.{text_of}
use Rattle.plugd.specs.Coordinator.{Telling}
use Rattle.plugd.specs.Serve.{Base}
use Rattle.plugd.specs.Session.{input_limit, Standing, World, Reading, EndsIn}

-- a sink over a call: what it held, where that is told, and its count of faults
pub record Written : Type 0 where
  pub before : Option (List ℕ)
  pub after : Option (List ℕ)
  pub faults : ℕ
  pub faults_after : ℕ

-- the sink as it tells itself: what it held and its faults, before and after
abbrev pub wrote : Option (List ℕ) → ℕ → Option (List ℕ) → ℕ → Written
wrote before faults after faults_after = record { before = before; after = after; faults = faults; faults_after = faults_after }

-- a sink failed, or there was no memory: first lines of what was taken were played, with P of them and of their replies, and first texts
-- were written
pub record Broken (P : List (List ℕ) → List Reply → Type 0) (taken spoken : List ℕ) (ending : Ending) (w : Written) : Type 0 where
  pub lines : List (List ℕ)
  pub replies : List Reply
  pub first : AreFirst taken lines
  pub halts : P lines replies
  pub fresh : List ℕ
  pub texts : flat_map text_of replies ≡ spoken ++ fresh
  pub put : PutFront fresh w.before w.after
  pub reason : ((ending ≡ SinkFailed) × Rose w.faults w.faults_after) ⊎ (ending ≡ OutOfMemory)

-- these bytes were played, and all replies were written
pub record PlaysBytes {C : Type 0} (serves rests : Telling C) (bytes : List ℕ) (old new : Session C) (result : Result Unit Ending) (w : Written) : Type 0 where
  pub no_fewer : w.faults ≤ w.faults_after
  pub ok : (base : Base) (taken spoken : List ℕ) → Standing serves base taken spoken old → old.replies.items ≡ [] → result ≡ Ok tt
      → (fresh : List ℕ) × Standing serves base (taken ++ bytes) (spoken ++ fresh) new × (new.replies.items ≡ []) × Put fresh w.before w.after
  pub err : (base : Base) (taken spoken : List ℕ) → Standing serves base taken spoken old → old.replies.items ≡ [] → (ending : Ending) → result ≡ Err ending
      → Broken (rests new.core base) (taken ++ bytes) spoken ending w

-- the open line was played
pub record Closes {C : Type 0} (serves rests : Telling C) (old new : Session C) (result : Result Unit Ending) (w : Written) : Type 0 where
  pub no_fewer : w.faults ≤ w.faults_after
  pub ok : (base : Base) (taken spoken : List ℕ) → Standing serves base taken spoken old → old.replies.items ≡ [] → result ≡ Ok tt
      → (lines : List (List ℕ)) × (replies : List Reply) × (fresh : List ℕ) × AreAll taken lines × rests new.core base lines replies
      × (flat_map text_of replies ≡ spoken ++ fresh) × Put fresh w.before w.after
  pub err : (base : Base) (taken spoken : List ℕ) → (s : Standing serves base taken spoken old) → old.replies.items ≡ [] → (ending : Ending) → result ≡ Err ending
      → Broken (rests new.core base) (taken ++ closing s.rest) spoken ending w

-- a piece of the input was played, and the input may have so many bytes more
pub record PlaysPiece {C : Type 0} (serves rests : Telling C) (room : ℕ) (old new : Session C) (result : Result ℕ Ending) (before after : World) : Type 0 where
  pub ok : (base : Base) (start : World) (taken : List ℕ) → Reading serves base start taken old before → length taken + room ≡ input_limit → (n : ℕ) → result ≡ Ok n
      → (0 < n) × (n ≤ room) × ((more : List ℕ) × (length more ≡ n) × Reading serves base start (taken ++ more) new after)
  pub err : (base : Base) (start : World) (taken : List ℕ) → Reading serves base start taken old before → length taken + room ≡ input_limit → (ending : Ending) → result ≡ Err ending
      → EndsIn (rests new.core base) start ending after

-- the whole input was played, or what could be
pub record PlaysAll {C : Type 0} (serves rests : Telling C) (old new : Session C) (ending : Ending) (before after : World) : Type 0 where
  pub ends : (base : Base) (start : World) → Reading serves base start [] old before → EndsIn (rests new.core base) start ending after

-- The calls on a storage in memory: what each makes of its file, and of all files. (This project.)
use Rattle.std.specs.Prelude.{◌≡◌, ℕ, max, Bool, true, List, [], ◌∷◌, ◌++◌, take, length, ◌==◌, ◌&&◌, nat_lt, nat_le, if◌then◌else◌}
use Rattle.disk_model.specs.declared.past.Kind.{Kind}
use Rattle.disk_model.specs.declared.past.Kind.TheVariants.{Write, Cut, Sync}
use Rattle.disk_model.specs.declared.past.Call.{Call}
use Rattle.disk_model.specs.File.{File, Wrote, CutTo, written}
use Rattle.disk_model.specs.Held.{bytes_in, put_in, cut_in}

-- the greatest number of a call
abbrev pub newest : List Call → ℕ
newest [] = 0
newest (call ∷ past) = max call.number (newest past)

-- the calls up to a moment
abbrev pub until : ℕ → List Call → List Call
until moment [] = []
until moment (call ∷ past) = if nat_lt moment call.number then [] else call ∷ until moment past

-- a file after a write that was done
abbrev pub write_step : ℕ → List ℕ → File → File
write_step at bytes old = record { bytes = written at bytes old.bytes; synced = old.synced; steps = Wrote at bytes ∷ old.steps }

-- a file after a cut that was done
abbrev pub cut_step : ℕ → File → File
cut_step len old = record { bytes = take len old.bytes; synced = old.synced; steps = CutTo len ∷ old.steps }

-- a file after a sync that was done
abbrev pub sync_step : File → File
sync_step old = record { bytes = old.bytes; synced = old.bytes; steps = [] }

-- a file after a call of this kind
abbrev pub step_of : Kind → File → File
step_of (Write at bytes) old = write_step at bytes.items old
step_of (Cut len) old = cut_step len old
step_of Sync old = sync_step old

-- one file after these calls
abbrev pub replayed : ℕ → File → List Call → File
replayed file old [] = old
replayed file old (call ∷ past) = replayed file (if call.file == file then step_of call.kind old else old) past

-- all files after a call of this kind on one of them
abbrev pub after_call : ℕ → Kind → List (ℕ × List ℕ) → List (ℕ × List ℕ)
after_call file (Write at bytes) files = put_in file (written at bytes.items (bytes_in files file)) files
after_call file (Cut len) files = cut_in file len files
after_call file Sync files = files

-- all files after these calls
abbrev pub after_calls : List (ℕ × List ℕ) → List Call → List (ℕ × List ℕ)
after_calls files [] = files
after_calls files (call ∷ past) = after_calls (after_call call.file call.kind files) past

-- a write begins at the file's end or before it
abbrev pub fits : ℕ → Kind → List (ℕ × List ℕ) → Bool
fits file (Write at bytes) files = nat_le at (length (bytes_in files file))
fits file (Cut len) files = true
fits file Sync files = true

-- the call does
abbrev pub call_fits : Call → List (ℕ × List ℕ) → Bool
call_fits call files = fits call.file call.kind files

-- each write did
abbrev pub all_fit : List (ℕ × List ℕ) → List Call → Bool
all_fit files [] = true
all_fit files (call ∷ past) = fits call.file call.kind files && all_fit (after_call call.file call.kind files) past

-- one call more on a file, which does this step
pub record AddsCall (number file : ℕ) (step : File → File) (old new : List Call) : Type 0 where
  pub call : Call
  pub is : new ≡ old ++ call ∷ []
  pub number_is : call.number ≡ number
  pub file_is : call.file ≡ file
  pub step_is : (f : File) → step_of call.kind f ≡ step f

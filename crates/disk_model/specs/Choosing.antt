-- Which of the calls up to a moment a crash image keeps, and how much of each. (This project.)
use Rattle.std.specs.Prelude.{ℕ, ◌+◌, ◌-◌, min, Bool, true, false, List, [], ◌∷◌, take, length, ◌==◌, ◌||◌, nat_lt, if◌then◌else◌}
use Rattle.disk_model.specs.declared.choice.Choice.{Choice}
use Rattle.disk_model.specs.declared.choice.Choice.TheVariants.{Whole, Synced, FirstBytes}
use Rattle.disk_model.specs.declared.past.Kind.{Kind}
use Rattle.disk_model.specs.declared.past.Kind.TheVariants.{Write, Cut, Sync}
use Rattle.disk_model.specs.declared.past.Call.{Call}
use Rattle.disk_model.specs.File.{written}
use Rattle.disk_model.specs.Held.{bytes_in, put_in, cut_in}

-- the call is a sync of this file
abbrev pub syncs : ℕ → ℕ → Kind → Bool
syncs file other (Write at bytes) = false
syncs file other (Cut len) = false
syncs file other Sync = other == file

-- one of the calls is
abbrev pub is_synced : ℕ → List Call → Bool
is_synced file [] = false
is_synced file (call ∷ past) = syncs file call.file call.kind || is_synced file past

-- how many bytes are done of a write of so many
abbrev pub granted : Choice → ℕ → ℕ
granted Whole asked = asked
granted Synced asked = 0
granted (FirstBytes left) asked = min left asked

-- what is still to be done after it
abbrev pub spent : Choice → ℕ → Choice
spent Whole asked = Whole
spent Synced asked = Synced
spent (FirstBytes left) asked = FirstBytes (left - asked)

-- more is to be done
abbrev pub goes_on : Choice → Bool
goes_on Whole = true
goes_on Synced = false
goes_on (FirstBytes left) = nat_lt 0 left

-- how many bytes a call writes
abbrev pub asked_by : Kind → ℕ
asked_by (Write at bytes) = length bytes.items
asked_by (Cut len) = 0
asked_by Sync = 0

-- how many bytes these calls write
abbrev pub asked_in : List Call → ℕ
asked_in [] = 0
asked_in (call ∷ past) = asked_by call.kind + asked_in past

-- all files after a call that is done as far as the choice goes
abbrev pub part_call : Choice → ℕ → Kind → List (ℕ × List ℕ) → List (ℕ × List ℕ)
part_call choice file (Write at bytes) files =
    if goes_on choice then put_in file (written at (take (granted choice (length bytes.items)) bytes.items) (bytes_in files file)) files else files
part_call choice file (Cut len) files = if goes_on choice then cut_in file len files else files
part_call choice file Sync files = files

-- What is still to be done after a call: a call on a file that is synced by a later one does not count.
abbrev pub choice_next : Choice → Call → List Call → Choice
choice_next choice call past = if is_synced call.file past then choice else spent choice (asked_by call.kind)

-- All files after a call: it is done whole where its file is synced by a later one, and else as far as the choice goes.
abbrev pub after_next : Choice → Call → List Call → List (ℕ × List ℕ) → List (ℕ × List ℕ)
after_next choice call past files = if is_synced call.file past then part_call Whole call.file call.kind files else part_call choice call.file call.kind files

-- all files in the image, by the calls up to its moment
abbrev pub image_of : Choice → List (ℕ × List ℕ) → List Call → List (ℕ × List ℕ)
image_of choice files [] = files
image_of choice files (call ∷ past) = image_of (choice_next choice call past) (after_next choice call past files) past

-- What the layers above a coordinator know of it. (This project.)
use Rattle.std.specs.Prelude.{◌<◌, ℕ, List, length}
use Rattle.engine_api.specs.Calls.{IsSame}
use Rattle.volume_rules.specs.Readers.{Reader}
use Rattle.plugd.specs.declared.reply.Reply.{Reply}
use Rattle.plugd.specs.Serve.{Base}

-- what is told of a coordinator that played some lines since a beginning, with some replies
abbrev pub Telling : Type 0 → Type 1
Telling C = C → Base → List (List ℕ) → List Reply → Type 0

-- it goes on from some beginning, and may count one line more
abbrev pub GoesOn : (Base → List (List ℕ) → List Reply → Type 0) → Type 0
GoesOn serves = (base : Base) × (lines : List (List ℕ)) × (replies : List Reply) × serves base lines replies × (length lines < 4294967296)

-- what goes on can be ended
abbrev pub MayRest : {C : Type 0} → Telling C → Telling C → Type 0
MayRest {C} serves rests = (core : C) (base : Base) (lines : List (List ℕ)) (replies : List Reply) → serves core base lines replies → rests core base lines replies

-- the same engine, with the same reading of its files
abbrev pub SameReader : Reader → Reader → Type 0
SameReader old new = IsSame old.kind new.kind old.reading new.reading

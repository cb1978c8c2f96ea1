-- Crash-safe engines, and what their files stand for. (This project.)
use Rattle.std.specs.Prelude.{List, [], ◌∷◌, map}
use Rattle.log_tables.specs.declared.gist.Gist.{Gist}
use Rattle.engine_api.specs.States.{Kind}
use Rattle.engine_api.specs.Live.{allows}
use Rattle.engine_api.specs.Reads.{Reading}
use Rattle.recovery_rules.specs.Recovery.{ShelfEngine, SafeEngine}

-- a crash-safe engine, and how its files are read
pub record Reader : Type 1 where
  pub kind : Kind
  pub reading : Reading

-- the engine, with files that stand for this gist
abbrev pub with_gist : Reader → Gist → SafeEngine
with_gist it gist = record { engine = it.kind.name; allows = allows it.kind.flags; gist = gist }

-- the engines, each with its gist
abbrev pub with_gists : List Reader → List Gist → List SafeEngine
with_gists [] gists = []
with_gists (it ∷ rest) [] = []
with_gists (it ∷ rest) (gist ∷ gists) = with_gist it gist ∷ with_gists rest gists

-- the engines, on the shelf
abbrev pub on_shelf : List Reader → List ShelfEngine
on_shelf readers = map (λ it. record { engine = it.kind.name; allows = allows it.kind.flags }) readers

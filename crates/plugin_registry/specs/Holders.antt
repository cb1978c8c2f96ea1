-- Who refers to a slot? (This project.)
use Rattle.std.specs.Prelude.{nat_eq, List, [], ◌∷◌, ◌++◌, Bool, false, not, if◌then◌else◌, filter}
use Rattle.std.specs.List.{list_any}
use Rattle.std.specs.Str.{bytes_eq}
use Rattle.plugin_registry.specs.declared.holder.Holder.{Holder}
use Rattle.plugin_registry.specs.declared.holder.Holder.TheVariants.{Session, Idle}

-- the two are one holder: sessions of one number, or idle handlers of one table
abbrev pub same_holder : Holder → Holder → Bool
same_holder (Session a) (Session b) = nat_eq a b
same_holder (Idle a) (Idle b) = bytes_eq a b
same_holder (Session a) (Idle b) = false
same_holder (Idle a) (Session b) = false

-- the holder stands among these
abbrev pub refers : Holder → List Holder → Bool
refers holder holders = list_any (same_holder holder) holders

-- these with the holder, which comes to the end unless it stands among them
abbrev pub with_holder : Holder → List Holder → List Holder
with_holder holder holders = if refers holder holders then holders else holders ++ holder ∷ []

-- these without the holder
abbrev pub without_holder : Holder → List Holder → List Holder
without_holder holder holders = filter (λ it. not (same_holder holder it)) holders

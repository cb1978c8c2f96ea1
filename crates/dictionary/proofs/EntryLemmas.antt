-- What the entries of the map tell of the definitions.
use Rattle.std.proofs.Common.{◌≡◌, ℕ, zero, suc, subst, slice_get, is_some, true≢false, List, [], ◌∷◌, ◌++◌, Option, Some, None, Bool, true, false, cond, refl, sym, ap, ◌∙◌}
use Rattle.std.specs.Str.{bytes_eq}
use Rattle.std.specs.Cmp.Lexicographic.{nat_list_eq_equiv}
use Rattle.std.specs.Map.{lookup, values_of, remove_entry}
use Rattle.log_tables.specs.declared.table.Definition.{Definition}
use Rattle.dictionary.specs.Dictionary.{is_definition_of, definition_named}
use Rattle.dictionary.specs.Inside.{Key, is_key, AreKeyed}
use Rattle.indexmap.specs.IndexMap.{IndexMap, insert_entry}
use Rattle.indexmap.proofs.CallerLemmas.{insert_entry-new}
use Rattle.dictionary.proofs.DefinitionLemmas.{without_definition}

-- a key's test is that of the definition under it
is_key-keyed : (name : List ℕ) (k : Key) (d : Definition) → k.items ≡ d.table → is_key name k ≡ is_definition_of name d
is_key-keyed name k d e = ap (bytes_eq name) e ∙ nat_list_eq_equiv.symm name d.table

-- a look-up finds the definition of the name
pub lookup-keyed : (name : List ℕ) (es : List (Key × Definition)) → AreKeyed es → lookup (is_key name) es ≡ definition_named name (values_of es)
lookup-keyed name [] h = refl
lookup-keyed name (e ∷ es) h =
    ap (λ b. cond b (Some e.1) (lookup (is_key name) es)) (is_key-keyed name e.0 e.1 h.0)
    ∙ ap (cond (is_definition_of name e.1) (Some e.1)) (lookup-keyed name es h.1)

-- the first entry of a key is taken out
pub values_of-remove_entry : (name : List ℕ) (es : List (Key × Definition)) → AreKeyed es → values_of (remove_entry (is_key name) es) ≡ without_definition name (values_of es)
values_of-remove_entry name [] h = refl
values_of-remove_entry name (e ∷ es) h =
    both (is_key name e.0)
    ∙ ap (λ b. cond b (values_of es) (e.1 ∷ values_of (remove_entry (is_key name) es))) (is_key-keyed name e.0 e.1 h.0)
    ∙ ap (λ xs. cond (is_definition_of name e.1) (values_of es) (e.1 ∷ xs)) (values_of-remove_entry name es h.1)
  where
    both : (b : Bool) → values_of (cond b es (e ∷ remove_entry (is_key name) es)) ≡ cond b (values_of es) (e.1 ∷ values_of (remove_entry (is_key name) es))
    both true = refl
    both false = refl

pub AreKeyed-remove_entry : (name : List ℕ) (es : List (Key × Definition)) → AreKeyed es → AreKeyed (remove_entry (is_key name) es)
AreKeyed-remove_entry name [] h = tt
AreKeyed-remove_entry name (e ∷ es) h = both (is_key name e.0) (AreKeyed-remove_entry name es h.1)
  where
    both : (b : Bool) → AreKeyed (remove_entry (is_key name) es) → AreKeyed (cond b es (e ∷ remove_entry (is_key name) es))
    both true rest = h.1
    both false rest = (h.0, rest)

-- an entry is put at the end
pub values_of-push : (es : List (Key × Definition)) (k : Key) (d : Definition) → values_of (es ++ (k, d) ∷ []) ≡ values_of es ++ d ∷ []
values_of-push [] k d = refl
values_of-push (e ∷ es) k d = ap (λ xs. e.1 ∷ xs) (values_of-push es k d)

pub AreKeyed-push : (es : List (Key × Definition)) (k : Key) (d : Definition) → AreKeyed es → k.items ≡ d.table → AreKeyed (es ++ (k, d) ∷ [])
AreKeyed-push [] k d h e = (e, tt)
AreKeyed-push (it ∷ es) k d h e = (h.0, AreKeyed-push es k d h.1 e)

-- a definition whose name is free goes last
pub record GoesLast (es new : List (Key × Definition)) (d : Definition) : Type 0 where
  pub keyed : AreKeyed new
  pub last : values_of new ≡ values_of es ++ d ∷ []

pub insert_entry-free : {S : Type 0} (m : IndexMap Key Definition S) (k : Key) (d : Definition) (new : List (Key × Definition)) → AreKeyed m.entries → k.items ≡ d.table
    → is_some (definition_named d.table (values_of m.entries)) ≡ false → new ≡ insert_entry (λ (x : Key) (y : Key). bytes_eq x.items y.items) m.entries k d → GoesLast m.entries new d
insert_entry-free m k d new h same free is =
    let absent = ap is_some (ap (λ n. lookup (is_key n) m.entries) same ∙ lookup-keyed d.table m.entries h) ∙ free in
    let at_end = is ∙ insert_entry-new (λ (x : Key) (y : Key). bytes_eq x.items y.items) m k d (nothing (lookup (is_key k.items) m.entries) absent) in
    record {
      keyed = subst AreKeyed (sym at_end) (AreKeyed-push m.entries k d h same);
      last = ap values_of at_end ∙ values_of-push m.entries k d;
    }
  where
    nothing : (r : Option Definition) → is_some r ≡ false → r ≡ None
    nothing None h = refl
    nothing (Some x) h = absurd (true≢false h)

pub AreKeyed-removed : (name : List ℕ) (es new : List (Key × Definition)) → AreKeyed es → new ≡ remove_entry (is_key name) es → AreKeyed new
AreKeyed-removed name es new h is = subst AreKeyed (sym is) (AreKeyed-remove_entry name es h)

-- the definition of a name is left out, and told
pub record Drops (name : List ℕ) (es new : List (Key × Definition)) (taken : Option Definition) : Type 0 where
  pub left : values_of new ≡ without_definition name (values_of es)
  pub told : is_some (definition_named name (values_of es)) ≡ is_some taken

pub remove_entry-drops : (name : List ℕ) (es new : List (Key × Definition)) (taken : Option Definition) → AreKeyed es → new ≡ remove_entry (is_key name) es
    → taken ≡ lookup (is_key name) es → Drops name es new taken
remove_entry-drops name es new taken h is found =
    record {
      left = ap values_of is ∙ values_of-remove_entry name es h;
      told = ap is_some (sym (lookup-keyed name es h) ∙ sym found);
    }

-- an entry at a place stands under the name of its table
AreKeyed-at : (es : List (Key × Definition)) (i : ℕ) (k : Key) (d : Definition) → AreKeyed es → slice_get es i ≡ Some (k, d) → k.items ≡ d.table
AreKeyed-at [] i k d h at = absurd (cc)
AreKeyed-at (e ∷ es) zero k d h at = let same : e ≡ (k, d) = cc in subst (λ (p : Key × Definition). p.0.items ≡ p.1.table) same h.0
AreKeyed-at (e ∷ es) (suc i) k d h at = AreKeyed-at es i k d h.1 at

-- the definition at a place is the one that its name finds
pub definition_named-at : (es : List (Key × Definition)) (i : ℕ) (k : Key) (d : Definition) → AreKeyed es → slice_get es i ≡ Some (k, d) → lookup (is_key k.items) es ≡ Some d
    → definition_named d.table (values_of es) ≡ Some d
definition_named-at es i k d h at found =
    sym (lookup-keyed d.table es h) ∙ ap (λ n. lookup (is_key n) es) (sym (AreKeyed-at es i k d h at)) ∙ found

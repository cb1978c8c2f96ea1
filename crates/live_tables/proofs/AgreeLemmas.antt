-- Tables that agree do so after the same changes, which apply to both or to none.
use Rattle.std.proofs.Common.{◌≡◌, List, [], ◌∷◌, ◌&&◌, is_some, is_none, refl, sym, ap, ◌∙◌}
use Rattle.row_format.specs.declared.change.Change.{Change}
use Rattle.row_format.specs.declared.change.Change.TheVariants.{Install, Uninstall, Create, Drop, Insert, Update, Delete}
use Rattle.log_tables.specs.declared.table.Table.{Table}
use Rattle.log_tables.specs.Changes.{after_change, after_changes, all_apply, takes, applies}
use Rattle.live_tables.specs.Folds.{AreMade, found_after, Agree}
use Rattle.live_tables.proofs.NameLemmas.{named_after}
use Rattle.live_tables.proofs.MadeLemmas.{made_after}

pub agree_itself : (ts : List Table) → Agree ts ts
agree_itself ts n = refl

pub agree_trans : (ts us vs : List Table) → Agree ts us → Agree us vs → Agree ts vs
agree_trans ts us vs h k n = h n ∙ k n

-- A change applies to tables as it does to those that agree.
pub agree_applies : (c : Change) (ts us : List Table) → Agree ts us → applies c ts ≡ applies c us
agree_applies (Create m e s) ts us h = ap is_none (h m)
agree_applies (Drop m) ts us h = ap is_some (h m)
agree_applies (Insert map row) ts us h = ap (takes (Insert map row)) (h map.table)
agree_applies (Update map place before after) ts us h = ap (takes (Update map place before after)) (h map.table)
agree_applies (Delete map place before) ts us h = ap (takes (Delete map place before)) (h map.table)
agree_applies (Install e) ts us h = refl
agree_applies (Uninstall e) ts us h = refl

-- Tables that agree do so after a change.
pub agree_after : (c : Change) (ts us : List Table) → AreMade ts → AreMade us → Agree ts us → Agree (after_change c ts) (after_change c us)
agree_after c ts us of_ts of_us h n = named_after n c ts of_ts.names ∙ ap (found_after n c) (h n) ∙ sym (named_after n c us of_us.names)

-- And so of a list of changes.
pub agree_all_apply : (cs : List Change) (ts us : List Table) → AreMade ts → AreMade us → Agree ts us → all_apply cs ts ≡ all_apply cs us
agree_all_apply [] ts us of_ts of_us h = refl
agree_all_apply (c ∷ cs) ts us of_ts of_us h =
    ap (λ b. b && all_apply cs (after_change c ts)) (agree_applies c ts us h)
    ∙ ap (λ b. applies c us && b) (agree_all_apply cs (after_change c ts) (after_change c us) (made_after c ts of_ts) (made_after c us of_us) (agree_after c ts us of_ts of_us h))

pub agree_changes : (cs : List Change) (ts us : List Table) → AreMade ts → AreMade us → Agree ts us → Agree (after_changes cs ts) (after_changes cs us)
agree_changes [] ts us of_ts of_us h = h
agree_changes (c ∷ cs) ts us of_ts of_us h =
    agree_changes cs (after_change c ts) (after_change c us) (made_after c ts of_ts) (made_after c us of_us) (agree_after c ts us of_ts of_us h)

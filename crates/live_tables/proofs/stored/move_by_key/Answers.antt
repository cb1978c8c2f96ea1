use Rattle.std.proofs.Common.{◌<◌, length, arith, Some, None, subst}
use Rattle.log_tables.specs.Keys.{key_in, IsInKeyOrder}
use Rattle.live_tables.specs.Stored.{Finds}
use Rattle.live_tables.proofs.StoredLemmas.{moved_to, moved_back}
use Rattle.live_tables.proofs.stored.move_by_key.Goals as goal

pub returns-in-Some : goal.returns-in-Some
returns-in-Some c = λ ordered.
    let rows = c.args.rows.now.items in
    let rest = c.remove-before.new.self.items in
    let within : c.args.i < length rows = omega (arith, c.requires) in
    moved_to c.args.column c.args.after rows c.args.i c.in-Some.j rest c.insert_reserved.new.rows.items ordered within c.remove-before.ensures.items
    (subst (λ l. IsInKeyOrder c.args.column l → Finds c.args.column (key_in c.args.column c.args.after) l (Some c.in-Some.j)) c.deref.ensures.value c.in-Some.ensures.found)
    c.insert_reserved.ensures.items

pub returns-in-None : goal.returns-in-None
returns-in-None c = λ ordered.
    let rows = c.args.rows.now.items in
    let rest = c.remove-before.new.self.items in
    let within : c.args.i < length rows = omega (arith, c.requires) in
    moved_back c.args.column c.remove-before.result c.args.after rows c.args.i rest c.insert_reserved-in-None.new.rows.items ordered within c.remove-before.ensures.items
    (subst (λ l. IsInKeyOrder c.args.column l → Finds c.args.column (key_in c.args.column c.args.after) l None) c.deref.ensures.value c.in-None.ensures.found)
    c.remove-before.ensures.value c.insert_reserved-in-None.ensures.items

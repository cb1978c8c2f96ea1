use Rattle.std.proofs.Common.{ℕ, List, ◌≤◌, length, sym, subst, rules}
use Rattle.std.proofs.lemmas.Result.{on_ok_weaker, on_err_weaker}
use Rattle.disk_model.proofs.HeldLemmas.{found, not_found, bytes_there, put_there, same_there, put_new}
use Rattle.std.proofs.Common.{refl}
use Rattle.disk_model.proofs.files.put.Goals as goal

pub write_over-requires : goal.write_over-requires
write_over-requires c =
    let stands = found _ _ _ _ _ c.place_of.ensures.place c.deref.ensures.value c.in-Some.is in
    subst (λ (l : List ℕ). c.args.at ≤ length l) (sym (bytes_there _ _ _ stands _ c.index_mut.result.now c.index_mut.ensures.value)) c.requires

pub returns-in-Some-clause-ok : goal.returns-in-Some-clause-ok
returns-in-Some-clause-ok c =
    let stands = found _ _ _ _ _ c.place_of.ensures.place c.deref.ensures.value c.in-Some.is in
    on_ok_weaker c.write_over.result (λ made. put_there _ _ _ stands _ _ c.index_mut.ensures.value c.args.at c.args.bytes.now refl made) c.write_over.ensures.ok

pub returns-in-Some-clause-err : goal.returns-in-Some-clause-err
returns-in-Some-clause-err c =
    let stands = found _ _ _ _ _ c.place_of.ensures.place c.deref.ensures.value c.in-Some.is in
    on_err_weaker c.write_over.result (λ made. same_there _ _ _ stands _ _ c.index_mut.ensures.value refl made) c.write_over.ensures.err

pub returns-in_ok-push-in-None-clause-ok : goal.returns-in_ok-push-in-None-clause-ok
returns-in_ok-push-in-None-clause-ok c =
    put_new _ c.args.at c.args.bytes.now _ _ _ (not_found _ _ _ _ c.place_of.ensures.place c.deref.ensures.value c.in-None.is) c.requires refl (search rules) c.in_ok-push-in-None.ensures.items

use Rattle.std.proofs.Common.{refl, sym}
use Rattle.disk_model.proofs.HeldLemmas.{found, not_found, cut_there, cut_none}
use Rattle.disk_model.proofs.files.cut.Goals as goal

pub returns-in-Some : goal.returns-in-Some
returns-in-Some c =
    let stands = found _ _ _ _ _ c.place_of.ensures.place c.deref.ensures.value c.in-Some.is in
    cut_there _ _ _ stands _ _ c.index_mut.ensures.value c.args.len refl c.truncate.ensures.items

pub returns-in_default : goal.returns-in_default
returns-in_default c = sym (cut_none _ 0 c.args.len _ (not_found _ _ _ _ c.place_of.ensures.place c.deref.ensures.value c.in_default.is))

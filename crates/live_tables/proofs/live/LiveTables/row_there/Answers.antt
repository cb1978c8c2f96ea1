use Rattle.std.proofs.Common.{◌≡◌, ◌∙◌, ◌++◌, List, [], refl, ap, sym}
use Rattle.std.specs.Option.{option_copied}
use Rattle.row_format.specs.declared.change.Change.{Change}
use Rattle.engine_api.specs.States.{changes_in}
use Rattle.live_tables.specs.Folds.{row_in}
use Rattle.live_tables.specs.Live.{Live}
use Rattle.live_tables.specs.Places.{found_behind, Tells}
use Rattle.live_tables.proofs.TrailLemmas.{told_on}
use Rattle.live_tables.proofs.ScanLemmas.{tells_at, back_at, row_live}
use Rattle.live_tables.proofs.live.LiveTables.row_there.Goals as goal

pub returns-in-Ok : goal.returns-in-Ok
returns-in-Ok c =
    let it = c.self.inside in
    let n = c.args.table.now in
    let ts = it.tables.items in
    let done = it.done.items in
    let ps = it.pending.items in
    let row = option_copied c.in-Ok.found in
    let changes : c.deref-2.result.now ++ changes_in c.deref-3.result.now ≡ done ++ changes_in ps = ap (λ l. l ++ changes_in c.deref-3.result.now) c.deref-2.ensures.value ∙ ap (λ l. done ++ changes_in l) c.deref-3.ensures.value in
    let tells = tells_at n ts c.deref.result.now (done ++ changes_in ps) (c.deref-2.result.now ++ changes_in c.deref-3.result.now) c.key-key.result c.args.place row c.deref.ensures.value changes c.in-Ok.ensures.told in
    row_live n ts done it.left.items ps it.last c.args.self.now.state c.key-key.result c.args.place row c.self.invariant.0 (ap (λ (l : Live). l.state) c.self.view_is) c.key-key.ensures tells

pub returns-in-Ok-walk_back : goal.returns-in-Ok-walk_back
returns-in-Ok-walk_back c =
    let it = c.self.inside in
    let n = c.args.table.now in
    let ts = it.tables.items in
    let done = it.done.items in
    let ps = it.pending.items in
    let key = c.key-key.result in
    let row = option_copied c.in-Ok-walk_back.found in
    let changes : c.deref-2.result.now ++ changes_in c.deref-3.result.now ≡ done ++ changes_in ps = ap (λ l. l ++ changes_in c.deref-3.result.now) c.deref-2.ensures.value ∙ ap (λ l. done ++ changes_in l) c.deref-3.ensures.value in
    let first = back_at n ts c.deref.result.now (done ++ changes_in ps) (c.deref-2.result.now ++ changes_in c.deref-3.result.now) done c.deref-2.result.now key c.args.place c.in-Err.before c.deref.ensures.value changes
    c.deref-2.ensures.value c.in-Err.ensures.stood in
    let second : Tells n ts done key c.in-Err.before row = tells_at n ts c.deref-4.result.now done c.deref-5.result.now key c.in-Err.before row c.deref-4.ensures.value c.deref-5.ensures.value c.in-Ok-walk_back.ensures.told in
    row_live n ts done it.left.items ps it.last c.args.self.now.state key c.args.place row c.self.invariant.0 (ap (λ (l : Live). l.state) c.self.view_is) c.key-key.ensures
    (told_on n ts (done ++ changes_in ps) done (changes_in ps) key c.args.place c.in-Err.before row refl first second)

pub returns-in-Err-walk_back : goal.returns-in-Err-walk_back
returns-in-Err-walk_back c =
    let it = c.self.inside in
    let n = c.args.table.now in
    let ts = it.tables.items in
    let done = it.done.items in
    let ps = it.pending.items in
    let key = c.key-key.result in
    let row = option_copied c.row_at.result in
    let changes : c.deref-2.result.now ++ changes_in c.deref-3.result.now ≡ done ++ changes_in ps = ap (λ l. l ++ changes_in c.deref-3.result.now) c.deref-2.ensures.value ∙ ap (λ l. done ++ changes_in l) c.deref-3.ensures.value in
    let first = back_at n ts c.deref.result.now (done ++ changes_in ps) (c.deref-2.result.now ++ changes_in c.deref-3.result.now) done c.deref-2.result.now key c.args.place c.in-Err.before c.deref.ensures.value changes
    c.deref-2.ensures.value c.in-Err.ensures.stood in
    let none : List Change = [] in
    let second = back_at n ts c.deref-4.result.now done c.deref-5.result.now none none key c.in-Err.before c.in-Err-walk_back.before c.deref-4.ensures.value c.deref-5.ensures.value refl c.in-Err-walk_back.ensures.stood in
    let there : row_in c.in-Err-walk_back.before (found_behind n ts none) ≡ row = ap (λ l. row_in c.in-Err-walk_back.before (found_behind n l none)) (sym c.deref-in-Err-walk_back.ensures.value) ∙ sym c.row_at.ensures in
    let told : Tells n ts done key c.in-Err.before row = λ applied keyed. (second applied keyed).0 ∙ there in
    row_live n ts done it.left.items ps it.last c.args.self.now.state key c.args.place row c.self.invariant.0 (ap (λ (l : Live). l.state) c.self.view_is) c.key-key.ensures
    (told_on n ts (done ++ changes_in ps) done (changes_in ps) key c.args.place c.in-Err.before row refl first told)

-- A statement that was executed is prepared, logged, committed and acknowledged.
use Rattle.std.proofs.Common.{◌≡◌, ℕ, suc, ◌<◌, List, [], ◌∷◌, ◌++◌, length, Bool, true, IsTrue, sym, ◌∙◌, ap, subst, arith}
use Rattle.row_format.specs.declared.change.Change.{Change}
use Rattle.row_format.specs.declared.change.Transaction.{Transaction}
use Rattle.log_tables.specs.declared.table.Table.{Table}
use Rattle.log_tables.specs.declared.gist.Prepared.{Prepared}
use Rattle.log_tables.specs.declared.gist.Gist.{Gist}
use Rattle.log_tables.specs.Tables.{part_of}
use Rattle.log_tables.specs.Gists.{after_prepare, after_commit}
use Rattle.log_tables.specs.Changes.{changes_on, tables_after, EachApplies}
use Rattle.engine_api.specs.States.{EngineState, prepared_state}
use Rattle.engine_api.specs.Live.{allows}
use Rattle.recovery_rules.specs.Places.{Touches, IsNew}
use Rattle.recovery_rules.specs.Recovery.{ShelfEngine, Suits, IsRecoverable, IsRecovered}
use Rattle.volume_rules.specs.Readers.{Reader}
use Rattle.volume_rules.proofs.ListLemmas.{of_one}
use Rattle.volume_rules.proofs.StepLemmas.{alone, tables_of, tables_end, share_next, prepared_is, logged_is, committed_is}
use Rattle.plugd.specs.Serve.{session}
use Rattle.plugd.specs.Asked.{Work, engine_name, is_prepared_for}
use Rattle.plugd.specs.Play.{IsNextGiven}
use Rattle.plugd.specs.Serve.{Core, rules_of, reader_of, shelf_of, CouldRecover, IsAtRest, IsJournal}
use Rattle.sql_exec.specs.Changes.{with_changes}
use Rattle.sql_step.specs.Logs.{AreOwn}
use Rattle.plugd.specs.Way.{Past, IsOnWay, changed_if, IsGranted, IsExecuted}
use Rattle.plugd.proofs.CallsLemmas.{idle_is, new_xid}
use Rattle.plugd.proofs.ChangedLemmas.{changed_state, with_changes-begun}
use Rattle.plugd.proofs.SpellLemmas.{of_changes}

-- the log so far
abbrev pub so_far : Past → List Transaction
so_far past = past.base.found ++ past.state.asked

-- what the engine prepares of changes that are all its own
abbrev pub share : ℕ → List Change → Prepared
share xid changes = record { xid = xid; changes = changes }

-- a statement of the engine leaves this state of one that was idle
pub executed_is : (past : Past) (idle : EngineState) (asks : Work) (changes : List Change) (given : List ℕ) (core : Core) → is_prepared_for asks ≡ true → IsExecuted past idle asks changes given core
    → core.engine.state ≡ changed_state session changes idle.gist
executed_is past idle asks changes given core touches is =
    is.state ∙ ap (λ (b : Bool). changed_if b changes idle) touches ∙ ap (with_changes session changes) (idle_is idle past.state is.way.was_idle)
    ∙ with_changes-begun session changes idle.gist is.granted.makes.some

-- its images read as the gist that it had
pub executed_kept : (past : Past) (idle : EngineState) (asks : Work) (changes : List Change) (given : List ℕ) (core : Core) → is_prepared_for asks ≡ true → IsExecuted past idle asks changes given core → core.engine.state.kept ≡ idle.gist ∷ []
executed_kept past idle asks changes given core touches is = ap (λ (s : EngineState). s.kept) (executed_is past idle asks changes given core touches is)

-- behind a prepare they read as the gist with the share
pub prepared_kept : (past : Past) (idle : EngineState) (asks : Work) (changes : List Change) (given : List ℕ) (core : Core) (xid : ℕ) → is_prepared_for asks ≡ true → IsExecuted past idle asks changes given core
    → (prepared_state session xid core.engine.state).kept ≡ after_prepare (share xid changes) idle.gist ∷ []
prepared_kept past idle asks changes given core xid touches is = ap (λ (s : EngineState). (prepared_state session xid s).kept) (executed_is past idle asks changes given core touches is)

-- What is known of a statement of the engine that is granted, over a volume that could be recovered.
pub record IsFit (past : Past) (core : Core) (gist : Gist) (changes : List Change) (xid : ℕ) : Type 0 where
  pub recovered : IsRecovered (shelf_of core.engine) (so_far past) (alone (reader_of core.engine) gist)
  pub new : IsNew xid (so_far past)
  pub suits : Suits core.engine.kind.name (allows core.engine.kind.flags) changes
  pub some : 0 < length changes
  pub own : changes_on core.engine.kind.name changes (tables_after (so_far past)) ≡ changes
  pub apply : EachApplies core.engine.kind.name changes (tables_after (so_far past))

pub is_fit : (past : Past) (idle : EngineState) (asks : Work) (changes : List Change) (given : List ℕ) (core : Core) (xid : ℕ) → is_prepared_for asks ≡ true → IsOnWay past idle given core → IsGranted past asks changes
    → IsNextGiven (rules_of past.base) past.state xid → IsTrue past.base.start.told → CouldRecover past.base core.engine → IsFit past core idle.gist changes xid
is_fit past idle asks changes given core xid touches way granted next told could = record {
  recovered = r.recovered could;
  new = new_xid past.base.found past.state.asked past.state.given xid r.asked_given (next told);
  suits = granted.can.suits core.engine.kind kind;
  some = granted.makes.some;
  own = subst (λ (name : List ℕ). changes_on name changes (tables_after (so_far past)) ≡ changes) (sym kind.name) are.own;
  apply = subst (λ (name : List ℕ). EachApplies name changes (tables_after (so_far past))) (sym kind.name) are.apply;
}
  where
    r : IsAtRest past.base core idle.gist past.state given
    r = way.rest told

    kind : IsJournal core.engine.kind
    kind = way.ahead.fixed.kind

    live : past.state.catalog.live ≡ part_of engine_name (tables_after (so_far past))
    live = sym way.was_idle.live ∙ (tables_of (shelf_of core.engine) (so_far past) (reader_of core.engine) idle.gist (r.recovered could)).tables ∙ ap (λ (name : List ℕ). part_of name (tables_after (so_far past))) kind.name

    are : AreOwn engine_name changes (tables_after (so_far past))
    are = granted.can.own touches (so_far past) r.catalog live

-- the engine's share of them is all
share_of_all : (past : Past) (core : Core) (gist : Gist) (changes : List Change) (xid : ℕ) → IsFit past core gist changes xid → share_next (reader_of core.engine) (so_far past) (of_changes xid changes) ≡ share xid changes
share_of_all past core gist changes xid fit =
    ap (λ (ts : List Table). record { xid = xid; changes = changes_on core.engine.kind.name changes ts }) (tables_end (so_far past))
    ∙ ap (λ (cs : List Change). record { xid = xid; changes = cs }) fit.own

-- prepared, it goes with the log
pub fit_prepared : (past : Past) (core : Core) (gist : Gist) (changes : List Change) (xid : ℕ) → IsFit past core gist changes xid → IsRecoverable (shelf_of core.engine) (so_far past) (alone (reader_of core.engine) (after_prepare (share xid changes) gist))
fit_prepared past core gist changes xid fit = prepared_is (shelf_of core.engine) (so_far past) (reader_of core.engine) gist (share xid changes) fit.recovered.recoverable fit.new fit.suits

-- and with the log that has it
pub fit_logged : (past : Past) (core : Core) (gist : Gist) (changes : List Change) (xid : ℕ) → IsFit past core gist changes xid
    → IsRecoverable (shelf_of core.engine) (so_far past ++ of_changes xid changes ∷ []) (alone (reader_of core.engine) (after_prepare (share xid changes) gist))
fit_logged past core gist changes xid fit =
    subst (λ (p : Prepared). IsRecoverable shelf (so_far past ++ t ∷ []) (alone it_reader (after_prepare p gist))) same
    (logged_is shelf (so_far past) it_reader gist t fit.recovered fit.new touches fit.apply
    (subst (λ (p : Prepared). Suits core.engine.kind.name (allows core.engine.kind.flags) p.changes) (sym same) fit.suits)
    (of_one (λ (x : ShelfEngine). Suits x.engine x.allows t.changes) (record { engine = core.engine.kind.name; allows = allows core.engine.kind.flags }) fit.suits))
  where
    shelf : List ShelfEngine
    shelf = shelf_of core.engine

    it_reader : Reader
    it_reader = reader_of core.engine

    t : Transaction
    t = of_changes xid changes

    same : share_next it_reader (so_far past) t ≡ share xid changes
    same = share_of_all past core gist changes xid fit

    touches : Touches core.engine.kind.name (so_far past) (length (so_far past)) t
    touches none = let no : length changes ≡ 0 = ap (λ (p : Prepared). length p.changes) (sym same) ∙ ap length none in omega (arith, no, fit.some)

-- committed, the engine is at that log
pub fit_committed : (past : Past) (core : Core) (gist : Gist) (changes : List Change) (xid : ℕ) → IsFit past core gist changes xid
    → IsRecovered (shelf_of core.engine) (so_far past ++ of_changes xid changes ∷ []) (alone (reader_of core.engine) (after_commit (share xid changes) (suc (length (so_far past))) (after_prepare (share xid changes) gist)))
fit_committed past core gist changes xid fit =
    subst (λ (p : Prepared). IsRecovered (shelf_of core.engine) (so_far past ++ of_changes xid changes ∷ []) (alone (reader_of core.engine) (after_commit p (suc (length (so_far past))) (after_prepare p gist)))) same
    (committed_is (shelf_of core.engine) (so_far past) (reader_of core.engine) gist (of_changes xid changes) fit.recovered
    (subst (λ (p : Prepared). IsRecoverable (shelf_of core.engine) (so_far past ++ of_changes xid changes ∷ []) (alone (reader_of core.engine) (after_prepare p gist))) (sym same) (fit_logged past core gist changes xid fit)))
  where
    same : share_next (reader_of core.engine) (so_far past) (of_changes xid changes) ≡ share xid changes
    same = share_of_all past core gist changes xid fit

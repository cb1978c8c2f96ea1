use Rattle.std.proofs.Common.{inl, inr, refl, Ok, ap}
use Rattle.plugd.proofs.CommitLemmas.{commits_ok, commits_err, ends_ungiven, ends_unspelt, to_prepare, ready_spelt, catalog_as, noted_now, unnoted_now, halted_as, room_now, spent_now}
use Rattle.plugd.proofs.PlayLemmas.{changed_as}
use Rattle.plugd.proofs.kernel.Kernel.commit_prepared.Goals as goal

pub returns-in_err-xid-clause-commits : goal.returns-in_err-xid-clause-commits
returns-in_err-xid-clause-commits g c = λ text.
    let work = changed_as text c.args.count c.args.changes in
    commits_err c.from_residual.result c.from_residual.ensures.0 work c.args.changes _ _ (ends_ungiven work c.args.changes _ c.give.new.self)

pub prepare-requires : goal.prepare-requires
prepare-requires g c =
    let text = c.requires.executed.0 in
    let r = c.requires.executed.1 in
    let work = changed_as text c.args.count c.args.changes in
    let ready = to_prepare work c.args.changes _ c.give.new.self c.in_ok-xid.xid refl c.in_ok-xid.ensures.given in
    record { ready = (r.0, r.1, work, c.args.changes, ready r.0 r.1 r.2) }

pub returns-in_err-prepare-clause-commits : goal.returns-in_err-prepare-clause-commits
returns-in_err-prepare-clause-commits g c = λ text.
    let work = changed_as text c.args.count c.args.changes in
    let ready = to_prepare work c.args.changes _ c.give.new.self c.in_ok-xid.xid refl c.in_ok-xid.ensures.given in
    commits_err c.from_residual-in_err-prepare.result c.from_residual-in_err-prepare.ensures.0 work c.args.changes _ _
    (λ past idle is. c.in_err-prepare.ensures.prepares.err past idle work c.args.changes (ready past idle is))

pub undo-requires : goal.undo-requires
undo-requires g c =
    let text = c.requires.executed.0 in
    let r = c.requires.executed.1 in
    let work = changed_as text c.args.count c.args.changes in
    let ready = to_prepare work c.args.changes _ c.give.new.self c.in_ok-xid.xid refl c.in_ok-xid.ensures.given in
    record { ready = (r.0, r.1, work, c.args.changes, c.in_ok-xid.xid, inl (c.in_ok-prepare.ensures.prepares.full r.0 r.1 work c.args.changes (ready r.0 r.1 r.2) (ap Ok c.in-Full.is))) }

pub returns-in-Full-clause-commits : goal.returns-in-Full-clause-commits
returns-in-Full-clause-commits g c = λ text.
    let work = changed_as text c.args.count c.args.changes in
    let ready = to_prepare work c.args.changes _ c.give.new.self c.in_ok-xid.xid refl c.in_ok-xid.ensures.given in
    commits_ok work c.args.changes _ _ c.undo.result (λ past idle is.
    c.undo.ensures.undoes.ok past idle work c.args.changes c.in_ok-xid.xid refl
    (inl (c.in_ok-prepare.ensures.prepares.full past idle work c.args.changes (ready past idle is) (ap Ok c.in-Full.is)))
    (catalog_as past _ _ c.in_ok-prepare.ensures.server is.catalog) tt)

pub returns-in-Halted-clause-commits : goal.returns-in-Halted-clause-commits
returns-in-Halted-clause-commits g c = λ text.
    let work = changed_as text c.args.count c.args.changes in
    let ready = to_prepare work c.args.changes _ c.give.new.self c.in_ok-xid.xid refl c.in_ok-xid.ensures.given in
    commits_ok work c.args.changes _ _ c.halt.result (λ past idle is.
    halted_as past _ c.in-Halted.cause text c.halt.new.self c.halt.result c.halt.ensures.server c.halt.ensures.reply
    (c.in_ok-prepare.ensures.prepares.halted past idle work c.args.changes (ready past idle is) c.in-Halted.cause (ap Ok c.in-Halted.is)))

pub returns-in_err-spell-clause-commits : goal.returns-in_err-spell-clause-commits
returns-in_err-spell-clause-commits g c = λ text.
    let work = changed_as text c.args.count c.args.changes in
    let ready = to_prepare work c.args.changes _ c.give.new.self c.in_ok-xid.xid refl c.in_ok-xid.ensures.given in
    let done = c.in_ok-prepare.ensures.prepares.done in
    commits_err c.from_residual-in_err-spell.result c.from_residual-in_err-spell.ensures.0 work c.args.changes _ _
    (λ past idle is.
    ends_unspelt past _ c.spell.new.self c.in_err-spell.ensures.spells.same (done past idle work c.args.changes (ready past idle is) (ap Ok c.in-Done.is)).way.ahead)

pub undo-requires-then-not-branch : goal.undo-requires-then-not-branch
undo-requires-then-not-branch g c =
    let text = c.requires.executed.0 in
    let r = c.requires.executed.1 in
    let work = changed_as text c.args.count c.args.changes in
    let ready = to_prepare work c.args.changes _ c.give.new.self c.in_ok-xid.xid refl c.in_ok-xid.ensures.given in
    let done = c.in_ok-prepare.ensures.prepares.done r.0 r.1 work c.args.changes (ready r.0 r.1 r.2) (ap Ok c.in-Done.is) in
    record {
      ready = (
        r.0,
        r.1,
        work,
        c.args.changes,
        c.in_ok-xid.xid,
        inr (ready_spelt r.0 r.1 work c.args.changes c.in_ok-xid.xid _ c.spell.new.self c.in_ok-spell.ensures.spells.same done),
      );
    }

pub returns-then-not-branch-clause-commits : goal.returns-then-not-branch-clause-commits
returns-then-not-branch-clause-commits g c = λ text.
    let work = changed_as text c.args.count c.args.changes in
    let ready = to_prepare work c.args.changes _ c.give.new.self c.in_ok-xid.xid refl c.in_ok-xid.ensures.given in
    let spells = c.in_ok-spell.ensures.spells in
    let not = ap Ok c.if-not-branch.true in
    commits_ok work c.args.changes _ _ c.undo-then-not-branch.result (λ past idle is.
    let done = c.in_ok-prepare.ensures.prepares.done past idle work c.args.changes (ready past idle is) (ap Ok c.in-Done.is) in
    c.undo-then-not-branch.ensures.undoes.ok past idle work c.args.changes c.in_ok-xid.xid refl
    (inr (ready_spelt past idle work c.args.changes c.in_ok-xid.xid _ c.spell.new.self spells.same done))
    (unnoted_now past _ _ (catalog_as past _ _ c.in_ok-prepare.ensures.server is.catalog) (spells.unnoted not))
    (spent_now past idle _ c.args.changes _ done.way (spells.spent not)))

pub finish-requires : goal.finish-requires
finish-requires g c =
    let text = c.requires.executed.0 in
    let r = c.requires.executed.1 in
    let work = changed_as text c.args.count c.args.changes in
    let ready = to_prepare work c.args.changes _ c.give.new.self c.in_ok-xid.xid refl c.in_ok-xid.ensures.given in
    let fits = ap Ok c.if-not-branch.false in
    let spells = c.in_ok-spell.ensures.spells in
    let done = c.in_ok-prepare.ensures.prepares.done r.0 r.1 work c.args.changes (ready r.0 r.1 r.2) (ap Ok c.in-Done.is) in
    record {
      ready = (
        r.0,
        r.1,
        work,
        c.args.changes,
        refl,
        ready_spelt r.0 r.1 work c.args.changes c.in_ok-xid.xid _ c.spell.new.self spells.same done,
        spells.spelt fits,
        noted_now r.0 c.args.changes _ _ (catalog_as r.0 _ _ c.in_ok-prepare.ensures.server r.2.catalog) (spells.noted fits),
        room_now r.0 r.1 _ c.args.changes _ done.way (spells.fits fits),
        spells.room fits,
      );
    }

pub returns-clause-commits : goal.returns-clause-commits
returns-clause-commits g c = λ text.
    let work = changed_as text c.args.count c.args.changes in
    let ready = to_prepare work c.args.changes _ c.give.new.self c.in_ok-xid.xid refl c.in_ok-xid.ensures.given in
    let fits = ap Ok c.if-not-branch.false in
    let spells = c.in_ok-spell.ensures.spells in
    commits_ok work c.args.changes _ _ c.finish.result (λ past idle is.
    let done = c.in_ok-prepare.ensures.prepares.done past idle work c.args.changes (ready past idle is) (ap Ok c.in-Done.is) in
    c.finish.ensures.finishes.ok past idle work c.args.changes refl
    (ready_spelt past idle work c.args.changes c.in_ok-xid.xid _ c.spell.new.self spells.same done)
    (spells.spelt fits)
    (noted_now past c.args.changes _ _ (catalog_as past _ _ c.in_ok-prepare.ensures.server is.catalog) (spells.noted fits))
    (room_now past idle _ c.args.changes _ done.way (spells.fits fits)))

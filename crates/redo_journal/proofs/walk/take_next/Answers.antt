-- A frame is read, then its record, and then the index takes it.
use Rattle.std.proofs.Common.{List, refl, ◌∙◌, subst, arith}
use Rattle.std.specs.Prelude.{slice_range}
use Rattle.redo_journal.specs.declared.record.Record.{Record}
use Rattle.redo_journal.specs.Replays.{after_record}
use Rattle.redo_journal.specs.Index.{IsReplay, IsOffered}
use Rattle.redo_journal.specs.Reading.{event_with, told, Tells, TellsNone}
use Rattle.redo_journal.proofs.TakeLemmas.{some_is, none_is}
use Rattle.redo_journal.proofs.WalkLemmas.{no_record, no_fit, taken_off, offered, step_taken}
use Rattle.redo_journal.proofs.walk.take_next.Goals as goal

pub returns-in_default-2 : goal.returns-in_default-2
returns-in_default-2 c =
    let frame = c.in-Some.frame in
    let body = slice_range c.args.bytes.now frame.body_start frame.body_end in
    let none : TellsNone (told c.args.scan.now.records.items) (event_with frame.kind body) =
    subst (λ (l : List Record). TellsNone (told l) (event_with frame.kind body)) c.deref.ensures.value (none_is _ _ c.in_default-2.is c.in_ok-record.ensures.none) in
    record { found = (record { records = refl; len = refl; crc = refl }, no_record _ _ _ _ body frame c.in-Some.ensures.some refl none) }

pub returns-then-not-branch : goal.returns-then-not-branch
returns-then-not-branch c =
    let frame = c.in-Some.frame in
    let records = c.args.scan.now.records.items in
    let body = slice_range c.args.bytes.now frame.body_start frame.body_end in
    let it = c.in-Some-2.record in
    let tells : Tells (told records) (event_with frame.kind body) it =
    subst (λ (l : List Record). Tells (told l) (event_with frame.kind body) it) c.deref.ensures.value (some_is _ _ _ c.in-Some-2.is c.in_ok-record.ensures.found) in
    let pushed = c.in_ok-push.ensures.items in
    let is_offered : IsOffered c.args.index.now c.deref-2.result.now records it (told records) c.args.scan.now.len frame.end = offered _ _ _ _ _ _ body frame it c.in-Some.ensures.some refl (c.deref-2.ensures.value ∙ pushed) c.requires.follows tells in
    let left = taken_off records _ _ it _ pushed (omega arith) c.pop.ensures.rest in
    record {
      found = (
        record { records = left; len = refl; crc = refl },
        no_fit _ _ records _ body frame it c.in-Some.ensures.some refl c.requires.fit tells (c.in_ok-take.ensures.unfit records it (told records) c.args.scan.now.len is_offered c.if-not-branch.true),
      );
    }

pub returns : goal.returns
returns c =
    let frame = c.in-Some.frame in
    let records = c.args.scan.now.records.items in
    let body = slice_range c.args.bytes.now frame.body_start frame.body_end in
    let it = c.in-Some-2.record in
    let tells : Tells (told records) (event_with frame.kind body) it =
    subst (λ (l : List Record). Tells (told l) (event_with frame.kind body) it) c.deref.ensures.value (some_is _ _ _ c.in-Some-2.is c.in_ok-record.ensures.found) in
    let pushed = c.in_ok-push.ensures.items in
    let is_offered : IsOffered c.args.index.now c.deref-2.result.now records it (told records) c.args.scan.now.len frame.end = offered _ _ _ _ _ _ body frame it c.in-Some.ensures.some refl (c.deref-2.ensures.value ∙ pushed) c.requires.follows tells in
    let taken = c.in_ok-take.ensures.fits records it (told records) c.args.scan.now.len is_offered c.if-not-branch.false in
    let follows = subst (λ (l : List Record). IsReplay c.take.new.self l (after_record it (told records))) c.deref-2.ensures.value taken.1 in
    record { found = step_taken _ _ c.take.new.self _ body _ frame it c.in-Some.ensures.some refl tells (taken.0, follows) pushed refl refl refl }

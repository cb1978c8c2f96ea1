use Rattle.std.proofs.Common.{◌≡◌, ◌++◌, ◌∷◌, [], ◌+◌, List, None, Option, refl, sym, ap, ◌∙◌, subst, arith, append_assoc, drop}
use Rattle.std.specs.Prelude.{Ok}
use Rattle.std.specs.Option.{option_copied}
use Rattle.frame_codec.specs.Frame.{Event}
use Rattle.frame_codec.specs.Chain.{EndsWithin}
use Rattle.row_format.specs.declared.change.TableMap.{TableMap}
use Rattle.binlog_events.specs.Changes.{map_events, change_event, map_of, change_events}
use Rattle.binlog_events.proofs.WriteLemmas.{chains_none, chains_then, ends_front, ends_back, changes_split, fit_rest}
use Rattle.binlog_events.proofs.log.put_changes.Goals as goal

pub loop-i-init : goal.loop-i-init
loop-i-init c = record { within = omega arith; fit = c.requires.fit; done = ([], chains_none c.args.start c.args.out.now.items, refl) }

pub put_change-requires-clause-ends : goal.put_change-requires-clause-ends
put_change-requires-clause-ends c =
    let before = option_copied c.loop-i.before in
    let change = c.index-changes-i.result in
    let own = map_events before change ++ change_event change ∷ [] in
    let more = change_events (map_of change) (drop (c.loop-i.i + 1) c.args.changes.now) in
    let done = c.loop-i.invariant.done in
    let all : done.0 ++ (own ++ more) ≡ change_events None c.args.changes.now =
    ap (λ (l : List Event). done.0 ++ l) (sym (changes_split before c.args.changes.now c.loop-i.i change c.loop-i-test.true c.index-changes-i.is)) ∙ done.2 in
    ends_front c.loop-i.end.at own more
    (ends_back c.args.start.at c.loop-i.end.at done.0 (own ++ more) done.1.1 (subst (λ (l : List Event). EndsWithin c.args.start.at l) (sym all) c.requires.ends))

pub loop-i-preserved : goal.loop-i-preserved
loop-i-preserved c =
    let before = option_copied c.loop-i.before in
    let change = c.index-changes-i.result in
    let own = map_events before change ++ change_event change ∷ [] in
    let more = change_events (map_of change) (drop (c.loop-i.i + 1) c.args.changes.now) in
    let done = c.loop-i.invariant.done in
    let all : done.0 ++ (own ++ more) ≡ change_events None c.args.changes.now =
    ap (λ (l : List Event). done.0 ++ l) (sym (changes_split before c.args.changes.now c.loop-i.i change c.loop-i-test.true c.index-changes-i.is)) ∙ done.2 in
    record {
      within = omega arith;
      fit = fit_rest c.args.changes.now c.loop-i.i change c.loop-i-test.true c.index-changes-i.is c.loop-i.invariant.fit;
      done = (
        done.0 ++ own,
        chains_then (Ok c.in_ok-end.end) c.args.start c.loop-i.end c.args.out.now.items c.loop-i.out.items c.put_change.new.out.items done.0 own done.1 c.in_ok-end.ensures.chains,
        ap (λ (o : Option TableMap). (done.0 ++ own) ++ change_events o (drop (c.loop-i.i + 1) c.args.changes.now)) c.own_map-before.ensures.value ∙ append_assoc done.0 own more ∙ all,
      );
    }

use Rattle.std.proofs.Common.{max, ap, refl, ◌∙◌}
use Rattle.plugd.specs.declared.xids.XidSet.{XidSet}
use Rattle.plugd.specs.XidSet.{Knows}
use Rattle.plugd.proofs.XidSetLemmas.{on_err, knows_same, knows_extended, knows_pushed}
use Rattle.plugd.proofs.xids.XidSet.add.Goals as goal
use Rattle.plugd.proofs.xids.XidSet.add.Goals.{then-self-lt18446744073709551615+then-xid-self, else-self-lt18446744073709551615+in_ok-push}

pub returns-in_err-push-clause-kept : goal.returns-in_err-push-clause-kept
returns-in_err-push-clause-kept c = λ used k.
    let b : XidSet = record { past = c.push.new.self; current = c.args.self.now.current; greatest = c.args.self.now.greatest } in
    on_err c.from_residual.result (Knows b used) (knows_same c.args.self.now b used c.in_err-push.ensures.items refl refl k)

pub returns-clause-added : goal.returns-clause-added
returns-clause-added c = λ used k.
    let b : XidSet = record { past = c.if-self-lt18446744073709551615.self.past; current = c.if-self-lt18446744073709551615.self.current; greatest = c.max-self.result } in
    elim c.if-self-lt18446744073709551615.branch [
      | then-self-lt18446744073709551615+then-xid-self w ↦
          knows_extended c.args.self.now b used c.args.xid k
          (ap (λ (s : XidSet). s.past.items) w.self-is)
          (ap (λ (s : XidSet). s.current.first) w.self-is)
          (ap (λ (s : XidSet). s.current.last) w.self-is)
          w.if-xid-self.true
          (c.max-self.ensures ∙ ap (λ (s : XidSet). max s.greatest c.args.xid) w.self-is)
      | else-self-lt18446744073709551615+in_ok-push w ↦
          knows_pushed c.args.self.now b used c.args.xid k
          (ap (λ (s : XidSet). s.past.items) w.self-is ∙ w.in_ok-push.ensures.items)
          (ap (λ (s : XidSet). s.current.first) w.self-is)
          (ap (λ (s : XidSet). s.current.last) w.self-is)
          (c.max-self.ensures ∙ ap (λ (s : XidSet). max s.greatest c.args.xid) w.self-is)
    ]

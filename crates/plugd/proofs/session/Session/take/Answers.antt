use Rattle.std.proofs.Common.{rules, ◌<◌, ◌≤◌, [], ◌∷◌, length, refl, ◌∙◌, arith}
use Rattle.plugd.proofs.LineLemmas.{front_short, front_full}
use Rattle.plugd.proofs.CoordinatorLemmas.{is_same}
use Rattle.plugd.proofs.SessionLemmas.{takes_ok, takes_err, starved_at, byte_taken}
use Rattle.plugd.proofs.session.Session.take.Goals as goal

pub returns-in_err-push : goal.returns-in_err-push
returns-in_err-push g c =
    record {
      same = is_same _;
      takes = takes_err (c.args.byte ∷ []) c.args.self.now _ _ (search rules) (λ base taken spoken s.
          starved_at base taken spoken c.args.self.now _ s c.args.byte (g.met.C.Coordinator.may_rest c.args.self.now.core base s.lines s.replies s.serving) refl);
    }

pub returns-in_ok-push : goal.returns-in_ok-push
returns-in_ok-push g c =
    let short : length c.args.self.now.front.items < 65542 = omega (arith, c.len.ensures, c.if-len-lt-MAX_LINE.true) in
    record {
      same = is_same _;
      takes = takes_ok (c.args.byte ∷ []) c.args.self.now _ (λ base taken spoken s. byte_taken base taken spoken c.args.self.now _ s c.args.byte c.if-byte-eq10.false s.serving refl
          (c.in_ok-push.ensures.items ∙ front_short c.args.self.now.front.items s.rest c.args.byte s.front short));
    }

pub returns-else-len-lt-MAX_LINE : goal.returns-else-len-lt-MAX_LINE
returns-else-len-lt-MAX_LINE g c =
    let long : 65542 ≤ length c.args.self.now.front.items = omega (arith, c.len.ensures, c.if-len-lt-MAX_LINE.false) in
    record {
      same = is_same _;
      takes = takes_ok (c.args.byte ∷ []) c.args.self.now _ (λ base taken spoken s. byte_taken base taken spoken c.args.self.now _ s c.args.byte c.if-byte-eq10.false s.serving refl
          (front_full c.args.self.now.front.items s.rest c.args.byte s.front long));
    }

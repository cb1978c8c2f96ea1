use Rattle.std.proofs.Common.{rules, ◌++◌, take, refl, arith, length-append}
use Rattle.std.proofs.lemmas.List.{length-take-le}
use Rattle.plugd.proofs.CoordinatorLemmas.{stays_same}
use Rattle.plugd.proofs.SessionLemmas.{takes_err, starved_within}
use Rattle.plugd.proofs.session.Session.take_all.Goals as goal

pub take-requires : goal.take-requires
take-requires g c =
    let i = c.loop-byte.byte-index in
    let bytes = c.args.bytes.now in
    record {
      standing = (
        c.requires.standing.0,
        c.requires.standing.1 ++ take i bytes,
        c.requires.standing.2,
        c.loop-byte.invariant.0 c.requires.standing.0 c.requires.standing.1 c.requires.standing.2 c.requires.standing.3,
        omega (arith, c.loop-byte-test.true, c.requires.standing.4, length-append c.requires.standing.1 (take i bytes), length-take-le i bytes (omega (arith, c.loop-byte-test.true))),
      );
    }

pub returns-in_err-take : goal.returns-in_err-take
returns-in_err-take g c =
    let i = c.loop-byte.byte-index in
    let bytes = c.args.bytes.now in
    record {
      same = stays_same _ _ _ c.loop-byte.invariant.1 c.in_err-take.ensures.same;
      takes = takes_err bytes c.args.self.now _ _ (search rules) (λ base taken spoken s.
          starved_within base taken bytes spoken i _ _ (omega (arith, c.loop-byte-test.true)) refl (c.in_err-take.ensures.takes.err base (taken ++ take i bytes) spoken (c.loop-byte.invariant.0 base taken spoken s)));
    }

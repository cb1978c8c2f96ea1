-- Each transaction that is found is the next one; then the piece ends, or cuts one off.
use Rattle.std.proofs.Common.{refl, rules, arith}
use Rattle.std.proofs.lemmas.List.{take_rest}
use Rattle.binlog_events.specs.Found.{Finds, NoTransactionAt}
use Rattle.binlog_file.proofs.WalkLemmas.{walk_first, walk_more, walk_end, walk_cut, found_fits, shorter, some_is}
use Rattle.binlog_file.proofs.PlainLemmas.{never_some}
use Rattle.binlog_file.proofs.walk.take_whole.Goals as goal

pub loop-found-init : goal.loop-found-init
loop-found-init g c = walk_first _ _ _

pub invariant_of-scan : goal.invariant_of-scan
invariant_of-scan g c =
    let finds = some_is _ c.in-Some.found (Finds c.loop-found.scan.crc c.loop-found.scan.len c.loop-found.rest.now) c.in-Some.is c.in_ok-found.ensures.found in
    let fits = found_fits _ _ _ _ finds in
    record { counted = omega (arith, fits.2, c.loop-found.scan.counted); fits = omega (arith, fits.0) }

pub slice_bounds-rest-count : goal.slice_bounds-rest-count
slice_bounds-rest-count g c =
    let finds = some_is _ c.in-Some.found (Finds c.loop-found.scan.crc c.loop-found.scan.len c.loop-found.rest.now) c.in-Some.is c.in_ok-found.ensures.found in
    (found_fits _ _ _ _ finds).1

pub slice_bounds-rest-start : goal.slice_bounds-rest-start
slice_bounds-rest-start g c =
    let finds = some_is _ c.in-Some.found (Finds c.loop-found.scan.crc c.loop-found.scan.len c.loop-found.rest.now) c.in-Some.is c.in_ok-found.ensures.found in
    let fits = found_fits _ _ _ _ finds in
    search rules

pub loop-found-smaller : goal.loop-found-smaller
loop-found-smaller g c =
    let finds = some_is _ c.in-Some.found (Finds c.loop-found.scan.crc c.loop-found.scan.len c.loop-found.rest.now) c.in-Some.is c.in_ok-found.ensures.found in
    let fits = found_fits _ _ _ _ finds in
    shorter c.loop-found.rest.now c.in-Some.found.len fits.2 fits.1

pub take-requires : goal.take-requires
take-requires g c =
    let finds = some_is _ c.in-Some.found (Finds c.loop-found.scan.crc c.loop-found.scan.len c.loop-found.rest.now) c.in-Some.is c.in_ok-found.ensures.found in
    record { fit = finds.here.fit }

pub loop-found-preserved : goal.loop-found-preserved
loop-found-preserved g c =
    let finds = some_is _ c.in-Some.found (Finds c.loop-found.scan.crc c.loop-found.scan.len c.loop-found.rest.now) c.in-Some.is c.in_ok-found.ensures.found in
    walk_more _ _ _ _ _ _ _ _ _ c.in-Some.found c.loop-found.invariant finds c.in_ok-take.ensures refl refl refl (take_rest c.loop-found.rest.now c.in-Some.found.len)

pub returns-then-is_last-clause-walks : goal.returns-then-is_last-clause-walks
returns-then-is_last-clause-walks g c =
    let none = never_some _ (NoTransactionAt c.loop-found.scan.crc c.loop-found.scan.len c.loop-found.rest.now) c.in_default.not-Some c.in_ok-found.ensures.none in
    walk_end _ _ _ _ _ _ _ c.loop-found.invariant none c.if-is_last.true

pub returns-clause-walks : goal.returns-clause-walks
returns-clause-walks g c = walk_cut _ _ _ _ _ _ _ _ c.loop-found.invariant c.if-is_last.false c.needed.ensures.some c.needed.ensures.none

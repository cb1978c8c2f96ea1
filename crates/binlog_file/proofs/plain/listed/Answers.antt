-- Each transaction that is found is the next of the list; where none is, the list is whole.
use Rattle.std.proofs.Common.{refl, sym, rules}
use Rattle.std.proofs.lemmas.List.{take_rest}
use Rattle.binlog_events.specs.Found.{Finds, NoTransactionAt}
use Rattle.binlog_file.proofs.LoggedLemmas.{header_checksum_is}
use Rattle.binlog_file.proofs.WalkLemmas.{found_fits, shorter, some_is}
use Rattle.binlog_file.proofs.PlainLemmas.{listing_first, listing_more, listing_end, header_long, never_some}
use Rattle.binlog_file.proofs.plain.listed.Goals as goal

pub slice_bounds-rest-count : goal.slice_bounds-rest-count
slice_bounds-rest-count c = header_long c.args.bytes.now c.requires

pub slice_bounds-rest-start : goal.slice_bounds-rest-start
slice_bounds-rest-start c = let long = header_long c.args.bytes.now c.requires in search rules

pub loop-list-init : goal.loop-list-init
loop-list-init c = listing_first _ _ _ c.args.bytes.now _ c.new-list.ensures.items c.requires refl (sym header_checksum_is) (take_rest c.args.bytes.now 32)

pub slice_bounds-rest-count-in-Some : goal.slice_bounds-rest-count-in-Some
slice_bounds-rest-count-in-Some c =
    let finds = some_is _ c.in-Some.found (Finds c.loop-list.crc c.loop-list.at c.loop-list.rest.now) c.in-Some.is c.in_ok-found.ensures.found in
    (found_fits _ _ _ _ finds).1

pub slice_bounds-rest-start-in-Some : goal.slice_bounds-rest-start-in-Some
slice_bounds-rest-start-in-Some c =
    let finds = some_is _ c.in-Some.found (Finds c.loop-list.crc c.loop-list.at c.loop-list.rest.now) c.in-Some.is c.in_ok-found.ensures.found in
    let fits = found_fits _ _ _ _ finds in
    search rules

pub loop-list-smaller : goal.loop-list-smaller
loop-list-smaller c =
    let finds = some_is _ c.in-Some.found (Finds c.loop-list.crc c.loop-list.at c.loop-list.rest.now) c.in-Some.is c.in_ok-found.ensures.found in
    let fits = found_fits _ _ _ _ finds in
    shorter c.loop-list.rest.now c.in-Some.found.len fits.2 fits.1

pub loop-list-preserved : goal.loop-list-preserved
loop-list-preserved c =
    let finds = some_is _ c.in-Some.found (Finds c.loop-list.crc c.loop-list.at c.loop-list.rest.now) c.in-Some.is c.in_ok-found.ensures.found in
    listing_more _ _ _ _ _ _ _ _ _ c.in-Some.found c.loop-list.invariant finds c.in_ok-push.ensures.items refl refl (take_rest c.loop-list.rest.now c.in-Some.found.len)

pub returns : goal.returns
returns c =
    listing_end _ _ _ _ _ c.loop-list.invariant (never_some _ (NoTransactionAt c.loop-list.crc c.loop-list.at c.loop-list.rest.now) c.in_default.not-Some c.in_ok-found.ensures.none)

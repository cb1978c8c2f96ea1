use Rattle.std.proofs.Common.{sym, refl}
use Rattle.binlog_file.proofs.LoggedLemmas.{header_checksum_is}
use Rattle.disk_model.proofs.LookingLemmas.{looks_none, looks_more}
use Rattle.binlog_file.proofs.OpenLemmas.{seen, header_moments, header_opens, given_none, was_read, finish_within, cut_moments, log_opens}
use Rattle.binlog_file.proofs.binlog.Binlog.open.Goals as goal

pub returns-in_err-put_header-clause-any_moment : goal.returns-in_err-put_header-clause-any_moment
returns-in_err-put_header-clause-any_moment g c =
    let saw = seen _ _ _ _ _ (looks_more 0 _ _ _ _ (looks_none _) c.len.ensures.0) c.in_ok-size.ensures.1 c.has_header.ensures.looks c.in_ok-headed.ensures.value in
    header_moments _ _ _ _ _ _ saw c.if-not-headed.true c.if-size-gt32.false c.in_err-put_header.ensures

pub returns-then-not-headed-clause-opened : goal.returns-then-not-headed-clause-opened
returns-then-not-headed-clause-opened g c =
    let saw = seen _ _ _ _ _ (looks_more 0 _ _ _ _ (looks_none _) c.len.ensures.0) c.in_ok-size.ensures.1 c.has_header.ensures.looks c.in_ok-headed.ensures.value in
    header_opens _ _ _ _ _ _ _ _ saw c.if-not-headed.true c.if-size-gt32.false c.in_ok-put_header.ensures refl refl refl (sym header_checksum_is)

pub returns-then-not-headed-clause-visited : goal.returns-then-not-headed-clause-visited
returns-then-not-headed-clause-visited g c = given_none _ _ refl

pub returns-then-not-headed-clause-any_moment : goal.returns-then-not-headed-clause-any_moment
returns-then-not-headed-clause-any_moment g c =
    let saw = seen _ _ _ _ _ (looks_more 0 _ _ _ _ (looks_none _) c.len.ensures.0) c.in_ok-size.ensures.1 c.has_header.ensures.looks c.in_ok-headed.ensures.value in
    header_moments _ _ _ _ _ _ saw c.if-not-headed.true c.if-size-gt32.false c.in_ok-put_header.ensures

pub finish-requires-clause-within : goal.finish-requires-clause-within
finish-requires-clause-within g c =
    let saw = seen _ _ _ _ _ (looks_more 0 _ _ _ _ (looks_none _) c.len.ensures.0) c.in_ok-size.ensures.1 c.has_header.ensures.looks c.in_ok-headed.ensures.value in
    let read = was_read _ _ _ _ _ _ _ _ saw c.if-not-headed.false c.read_all.ensures.looks c.in_ok-scan.ensures.walked in
    finish_within _ _ _ _ _ _ _ read c.from-len.ensures

pub returns-in_err-finish-clause-any_moment : goal.returns-in_err-finish-clause-any_moment
returns-in_err-finish-clause-any_moment g c =
    let saw = seen _ _ _ _ _ (looks_more 0 _ _ _ _ (looks_none _) c.len.ensures.0) c.in_ok-size.ensures.1 c.has_header.ensures.looks c.in_ok-headed.ensures.value in
    let read = was_read _ _ _ _ _ _ _ _ saw c.if-not-headed.false c.read_all.ensures.looks c.in_ok-scan.ensures.walked in
    cut_moments _ _ _ _ _ _ _ _ _ read c.from-len.ensures c.in_err-finish.ensures.changes

pub returns-clause-opened : goal.returns-clause-opened
returns-clause-opened g c =
    let saw = seen _ _ _ _ _ (looks_more 0 _ _ _ _ (looks_none _) c.len.ensures.0) c.in_ok-size.ensures.1 c.has_header.ensures.looks c.in_ok-headed.ensures.value in
    let read = was_read _ _ _ _ _ _ _ _ saw c.if-not-headed.false c.read_all.ensures.looks c.in_ok-scan.ensures.walked in
    log_opens _ _ _ _ _ _ _ _ _ _ _ read c.from-len.ensures c.in_ok-finish.ensures.changes refl refl refl refl c.saturating_sub.ensures

pub returns-clause-visited : goal.returns-clause-visited
returns-clause-visited g c = c.in_ok-scan.ensures.given

pub returns-clause-any_moment : goal.returns-clause-any_moment
returns-clause-any_moment g c =
    let saw = seen _ _ _ _ _ (looks_more 0 _ _ _ _ (looks_none _) c.len.ensures.0) c.in_ok-size.ensures.1 c.has_header.ensures.looks c.in_ok-headed.ensures.value in
    let read = was_read _ _ _ _ _ _ _ _ saw c.if-not-headed.false c.read_all.ensures.looks c.in_ok-scan.ensures.walked in
    cut_moments _ _ _ _ _ _ _ _ _ read c.from-len.ensures c.in_ok-finish.ensures.changes

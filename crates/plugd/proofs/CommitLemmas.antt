-- A statement that was executed is taken to its reply.
use Rattle.std.proofs.Common.{◌≡◌, ℕ, ◌+◌, ◌<◌, ◌≤◌, ◌^◌, List, [], ◌∷◌, ◌++◌, length, true, Result, Ok, sym, subst, arith}
use Rattle.std.specs.Prelude.{IsErr}
use Rattle.std.specs.declared.alloc.AllocError.{AllocError}
use Rattle.row_format.specs.declared.change.Change.{Change}
use Rattle.row_format.specs.Changes.{AreFitChanges}
use Rattle.dictionary.specs.Dictionary.{DictionaryState}
use Rattle.engine_api.specs.States.{EngineState}
use Rattle.plugd.specs.declared.reply.HaltCause.{HaltCause}
use Rattle.plugd.specs.declared.reply.Reply.{Reply}
use Rattle.plugd.specs.declared.reply.Reply.TheVariants.{Halted}
use Rattle.plugd.specs.declared.server.Server.{Server}
use Rattle.plugd.specs.declared.xids.XidSet.{XidSet}
use Rattle.plugd.specs.Asked.{Work, catalog_after, is_prepared_for}
use Rattle.plugd.specs.Noting.{dictionary_after, HasCatalog}
use Rattle.plugd.specs.Play.{logged_size}
use Rattle.plugd.specs.Serve.{Core}
use Rattle.plugd.specs.Spell.{IsSameBut, with_halt}
use Rattle.plugd.specs.Way.{Past, IsAhead, IsOnWay, IsExecuted, SomeExecuted, IsToPrepare, IsReadyToLog, Commits, PlaysTo, EndsAt, HaltsBy}
use Rattle.plugd.proofs.PlainLemmas.{noted_as, IsPlain}
use Rattle.plugd.proofs.StepLemmas.{by_err}
use Rattle.plugd.proofs.WayLemmas.{ends_now, halted_now}
use Rattle.plugd.proofs.GivenLemmas.{served_by, with_xids, like_given, like_spelt, ahead_like, Gave, given_next, given_way, spelt_way}
use Rattle.plugd.proofs.NotingLemmas.{has_noted}

-- what holds of each run that came to this
abbrev pub EachExecuted : Work → List Change → Core → (Past → EngineState → Type 0) → Type 0
EachExecuted asks changes core P = (past : Past) (idle : EngineState) → IsExecuted past idle asks changes past.state.given core → P past idle

-- it comes to this reply
pub commits_ok : (asks : Work) (changes : List Change) (old new : Core) (reply : Reply) → EachExecuted asks changes old (λ past idle. PlaysTo past asks.text reply new) → Commits asks changes old new (Ok reply)
commits_ok asks changes old new reply each = record {
  ok = λ past idle is r answer. let same : reply ≡ r = cc in subst (λ (x : Reply). PlaysTo past asks.text x new) same (each past idle is);
  err = λ past idle is. tt;
}

-- it comes to no reply
pub commits_err : (r : Result Reply AllocError) → IsErr r → (asks : Work) (changes : List Change) (old new : Core) → EachExecuted asks changes old (λ past idle. EndsAt past new) → Commits asks changes old new r
commits_err r is_err asks changes old new each =
    by_err (λ (r : Result Reply AllocError). Commits asks changes old new r) (λ e. record {
      ok = λ past idle is reply answer. cc;
      err = λ past idle is. each past idle is;
    }) r is_err

-- the changes can be spelt
pub some_changes : (asks : Work) (changes : List Change) (core : Core) → SomeExecuted asks changes core → (0 < length changes) × (length changes < 2 ^ 31) × AreFitChanges changes
some_changes asks changes core some = let granted = some.2.granted in (granted.makes.some, granted.few, granted.fit)

-- the log's limit is small
pub small_limit : (asks : Work) (changes : List Change) (core : Core) → SomeExecuted asks changes core → core.server.limit ≤ 2147483647
small_limit asks changes core some = let f = some.2.way.ahead.fixed in let is = f.limit in let small = f.small in omega (arith, is, small)

-- no xid was left
pub ends_ungiven : (asks : Work) (changes : List Change) (core : Core) (xids : XidSet) → EachExecuted asks changes core (λ past idle. EndsAt past (served_by (with_xids xids core.server) core))
ends_ungiven asks changes core xids past idle is =
    ends_now past (served_by (with_xids xids core.server) core) (ahead_like past core (with_xids xids core.server) (like_given xids core.server) is.way.ahead)

-- it was not spelt, or not noted
pub ends_unspelt : (past : Past) (core : Core) (server : Server) → IsSameBut core.server server → IsAhead past core → EndsAt past (served_by server core)
ends_unspelt past core server same ahead = ends_now past (served_by server core) (ahead_like past core server (like_spelt core.server server same) ahead)

-- it is to be prepared under the xid that was given
pub to_prepare : (asks : Work) (changes : List Change) (core : Core) (xids : XidSet) (xid : ℕ) → is_prepared_for asks ≡ true → Gave core.server.xids xids xid
    → EachExecuted asks changes core (λ past idle. IsToPrepare past idle asks changes xid (served_by (with_xids xids core.server) core))
to_prepare asks changes core xids xid touches gave past idle is = record {
  touches = touches;
  executed = record { way = given_way past idle core xids xid is.way gave; catalog = is.catalog; granted = is.granted; state = is.state };
  next = given_next past idle core xids xid is.way gave;
}

-- it is prepared, and then spelt
pub ready_spelt : (past : Past) (idle : EngineState) (asks : Work) (changes : List Change) (xid : ℕ) (core : Core) (server : Server) → IsSameBut core.server server
    → IsReadyToLog past idle asks changes xid core → IsReadyToLog past idle asks changes xid (served_by server core)
ready_spelt past idle asks changes xid core server same is = record {
  touches = is.touches;
  way = spelt_way past idle (past.state.given ++ xid ∷ []) core server same is.way;
  granted = is.granted;
  next = is.next;
  state = is.state;
}

-- the catalog is that of the dictionary of the same server
pub catalog_as : (past : Past) (old new : Server) → new ≡ old → HasCatalog old.dictionary past.state.catalog → HasCatalog new.dictionary past.state.catalog
catalog_as past old new same has = subst (λ (s : Server). HasCatalog s.dictionary past.state.catalog) (sym same) has

-- its changes are noted
pub noted_now : (past : Past) (changes : List Change) (old new : DictionaryState) → HasCatalog old past.state.catalog → new ≡ dictionary_after changes old → HasCatalog new (catalog_after changes past.state.catalog)
noted_now past changes old new has noted =
    subst (λ (d : DictionaryState). HasCatalog d (catalog_after changes past.state.catalog)) (sym noted) (has_noted changes old past.state.catalog has)

-- they are not
pub unnoted_now : (past : Past) (old new : DictionaryState) → HasCatalog old past.state.catalog → new ≡ old → HasCatalog new past.state.catalog
unnoted_now past old new has same = subst (λ (d : DictionaryState). HasCatalog d past.state.catalog) (sym same) has

-- the log has room for it
pub room_now : (past : Past) (idle : EngineState) (given : List ℕ) (changes : List Change) (core : Core) → IsOnWay past idle given core → core.server.log.len + logged_size changes ≤ core.server.limit
    → past.state.len + logged_size changes ≤ past.base.limit
room_now past idle given changes core way fits =
    let limit = way.ahead.fixed.limit in
    let len = way.len in
    omega (arith, fits, limit, len)

-- the log has none
pub spent_now : (past : Past) (idle : EngineState) (given : List ℕ) (changes : List Change) (core : Core) → IsOnWay past idle given core → core.server.limit < core.server.log.len + logged_size changes
    → past.base.limit < past.state.len + logged_size changes
spent_now past idle given changes core way spent =
    let limit = way.ahead.fixed.limit in
    let len = way.len in
    omega (arith, spent, limit, len)

-- it is halted before anything was logged
pub halted_as : (past : Past) (core : Core) (cause : HaltCause) (text : List ℕ) (server : Server) (reply : Reply) → server ≡ with_halt cause core.server → reply ≡ Halted cause
    → HaltsBy past core cause → PlaysTo past text reply (served_by server core)
halted_as past core cause text server reply server_is reply_is by =
    subst (λ (r : Reply). PlaysTo past text r (served_by server core)) (sym reply_is)
    (subst (λ (s : Server). PlaysTo past text (Halted cause) (served_by s core)) (sym server_is)
    (halted_now past core cause text by))

-- an INSTALL has its xid
pub plain_given : (text : List ℕ) (changes : List Change) (core : Core) (xids : XidSet) (xid : ℕ) → Gave core.server.xids xids xid
    → EachExecuted (noted_as text changes) changes core (λ past idle. IsPlain past idle text changes xid (served_by (with_xids xids core.server) core))
plain_given text changes core xids xid gave past idle is = record {
  way = given_way past idle core xids xid is.way gave;
  granted = is.granted;
  next = given_next past idle core xids xid is.way gave;
  state = is.state;
}

-- and is spelt
pub plain_spelt : (past : Past) (idle : EngineState) (text : List ℕ) (changes : List Change) (xid : ℕ) (core : Core) (server : Server) → IsSameBut core.server server → IsPlain past idle text changes xid core → IsPlain past idle text changes xid (served_by server core)
plain_spelt past idle text changes xid core server same is = record {
  way = spelt_way past idle (past.state.given ++ xid ∷ []) core server same is.way;
  granted = is.granted;
  next = is.next;
  state = is.state;
}

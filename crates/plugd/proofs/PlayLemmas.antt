-- A text is played: executed, then taken to its reply.
use Rattle.std.proofs.Common.{◌≡◌, ℕ, List, [], ◌∷◌, ◌++◌, Result, Ok, refl, sym, subst, ◌∙◌, ap}
use Rattle.std.specs.Prelude.{IsErr}
use Rattle.std.specs.declared.alloc.AllocError.{AllocError}
use Rattle.sql_value.specs.declared.refusal.Refusal.{Refusal}
use Rattle.sql_value.specs.declared.value.Value.{Value}
use Rattle.row_format.specs.declared.change.Change.{Change}
use Rattle.engine_api.specs.States.{EngineState}
use Rattle.sql_step.specs.declared.outcome.Outcome.{Outcome}
use Rattle.sql_step.specs.declared.outcome.Outcome.TheVariants as outcome
use Rattle.plugd.specs.declared.reply.HaltCause.{HaltCause}
use Rattle.plugd.specs.declared.reply.Reply.{Reply}
use Rattle.plugd.specs.declared.reply.Reply.TheVariants.{Refused, Rows, Halted}
use Rattle.plugd.specs.declared.server.Server.{Server}
use Rattle.plugd.specs.declared.statement.Executed.{Executed}
use Rattle.plugd.specs.declared.statement.Executed.TheVariants as executed
use Rattle.plugd.specs.Asked.{Work}
use Rattle.plugd.specs.Play.{Turn, next_line, numbers_of, refused, answered}
use Rattle.plugd.specs.Serve.{Core, rules_of, IsIdle, IsAtRest, Serving}
use Rattle.plugd.specs.Spell.{with_halt}
use Rattle.plugd.specs.Way.{Past, SomeOnWay, SomeExecuted, IsBegun, IsUntouched, Executes, Commits, PlaysOne, PlaysTo, EndsAt}
use Rattle.plugd.proofs.StepLemmas.{by_err}
use Rattle.plugd.proofs.WayLemmas.{halted_now, refused_now}
use Rattle.plugd.proofs.ExecuteLemmas.{EachWay}
use Rattle.plugd.proofs.GivenLemmas.{served_by}
use Rattle.plugd.proofs.TextLemmas.{given_comes, given_refused}

-- what became of the execution, under its name
pub executes_as : (text : List ℕ) (old new : Core) (a b : Executed) → a ≡ b → Executes text old new (Ok a) → Executes text old new (Ok b)
executes_as text old new a b is executes = subst (λ (e : Executed). Executes text old new (Ok e)) is executes

-- what it came to, under its name
pub executes_to : (text : List ℕ) (old new : Core) (a : Executed) (o p : Outcome) → a ≡ executed.Done o → o ≡ p → Executes text old new (Ok a) → Executes text old new (Ok (executed.Done p))
executes_to text old new a o p is same executes = executes_as text old new a (executed.Done p) (is ∙ ap (λ (x : Outcome). executed.Done x) same) executes

-- it comes to this reply
pub plays_ok : (text : List ℕ) (old new : Core) (reply : Reply) → EachWay old (λ past. PlaysTo past text reply new) → PlaysOne text old new (Ok reply)
plays_ok text old new reply each = record {
  ok = λ past begun r answer. let same : reply ≡ r = cc in subst (λ (x : Reply). PlaysTo past text x new) same (each past begun);
  err = λ past begun. tt;
}

-- it comes to none
pub plays_err : (r : Result Reply AllocError) → IsErr r → (text : List ℕ) (old new : Core) → EachWay old (λ past. EndsAt past new) → PlaysOne text old new r
plays_err r is_err text old new each =
    by_err (λ (r : Result Reply AllocError). PlaysOne text old new r) (λ e. record { ok = λ past begun reply answer. cc; err = λ past begun. each past begun }) r is_err

-- nothing was done of it
untouched_now : (past : Past) (old new : Core) (reply : Reply) (line : List ℕ) → IsBegun past old → IsUntouched past old.engine.state new → numbers_of (reply ∷ []) ≡ []
    → Turn (rules_of past.base) line past.state (reply ∷ []) (next_line past.state) → Serving past.base (past.lines ++ line ∷ []) (past.replies ++ reply ∷ []) new
untouched_now past old new reply line begun u none turn =
    refused_now past old.engine.state past.state.given new reply line u.way u.catalog none
    (subst (λ (s : EngineState). IsIdle s past.state) (sym u.state) begun.way.was_idle) (λ x on. on)
    (λ told. subst (λ (s : EngineState). IsAtRest past.base new s.gist past.state past.state.given) (sym u.state) (u.way.rest told))
    turn

-- it is refused
pub plays_refused : (text : List ℕ) (old new : Core) (refusal : Refusal) → Executes text old new (Ok (executed.Refused refusal)) → PlaysOne text old new (Ok (Refused refusal))
plays_refused text old new refusal executes = plays_ok text old new (Refused refusal) (λ past begun line gives.
    let by = executes.refused past begun refusal refl in
    let why = given_refused past.state.catalog text line refusal gives by.0 in
    untouched_now past old new (Refused refusal) line begun by.1 refl
    (refused why.0 (record { gives = why.1; serves = begun.way.ahead.is_serving }) refusal why.2 refl refl))

-- rows are answered
pub plays_answered : (text : List ℕ) (old new : Core) (rows : List (List Value)) → Executes text old new (Ok (executed.Done (outcome.Rows rows))) → PlaysOne text old new (Ok (Rows rows))
plays_answered text old new rows executes = plays_ok text old new (Rows rows) (λ past begun line gives.
    let by = executes.done past begun (outcome.Rows rows) refl in
    untouched_now past old new (Rows rows) line begun by.1 refl
    (answered text (record { gives = given_comes text line past.state.catalog (outcome.Rows rows) gives by.0; serves = begun.way.ahead.is_serving }) rows by.0 refl refl))

-- a call of the engine halts the run
pub plays_halted : (text : List ℕ) (old new : Core) (cause : HaltCause) (server : Server) (reply : Reply) → Executes text old new (Ok (executed.Halted cause))
    → server ≡ with_halt cause new.server → reply ≡ Halted cause → PlaysOne text old (served_by server new) (Ok reply)
plays_halted text old new cause server reply executes server_is reply_is = plays_ok text old (served_by server new) reply (λ past begun.
    subst (λ (r : Reply). PlaysTo past text r (served_by server new)) (sym reply_is)
    (subst (λ (s : Server). PlaysTo past text (Halted cause) (served_by s new)) (sym server_is)
    (halted_now past new cause text (executes.halted past begun cause refl))))

-- what an engine has of a text
abbrev pub changed_as : List ℕ → ℕ → List Change → Work
changed_as text count changes = record { text = text; outcome = outcome.Changed count changes }

-- what none has
abbrev pub noted_so : List ℕ → List Change → Work
noted_so text changes = record { text = text; outcome = outcome.Noted changes }

-- it was executed, and can be taken to its reply
pub some_changed : (text : List ℕ) (old new : Core) (count : ℕ) (changes : List Change) → Executes text old new (Ok (executed.Done (outcome.Changed count changes))) → SomeOnWay old
    → (it : List ℕ) × SomeExecuted (changed_as it count changes) changes new
some_changed text old new count changes executes some = (text, (some.0, old.engine.state, executes.done some.0 some.1 (outcome.Changed count changes) refl))

pub some_noted : (text : List ℕ) (old new : Core) (changes : List Change) → Executes text old new (Ok (executed.Done (outcome.Noted changes))) → SomeOnWay old
    → (it : List ℕ) × SomeExecuted (noted_so it changes) changes new
some_noted text old new changes executes some = (text, (some.0, old.engine.state, executes.done some.0 some.1 (outcome.Noted changes) refl))

-- so it is
pub plays_changed : (text : List ℕ) (old mid new : Core) (count : ℕ) (changes : List Change) (r : Result Reply AllocError) → Executes text old mid (Ok (executed.Done (outcome.Changed count changes)))
    → Commits (changed_as text count changes) changes mid new r → PlaysOne text old new r
plays_changed text old mid new count changes r executes commits = record {
  ok = λ past begun reply answer. commits.ok past old.engine.state (executes.done past begun (outcome.Changed count changes) refl) reply answer;
  err = λ past begun. commits.err past old.engine.state (executes.done past begun (outcome.Changed count changes) refl);
}

pub plays_noted : (text : List ℕ) (old mid new : Core) (changes : List Change) (r : Result Reply AllocError) → Executes text old mid (Ok (executed.Done (outcome.Noted changes)))
    → Commits (noted_so text changes) changes mid new r → PlaysOne text old new r
plays_noted text old mid new changes r executes commits = record {
  ok = λ past begun reply answer. commits.ok past old.engine.state (executes.done past begun (outcome.Noted changes) refl) reply answer;
  err = λ past begun. commits.err past old.engine.state (executes.done past begun (outcome.Noted changes) refl);
}

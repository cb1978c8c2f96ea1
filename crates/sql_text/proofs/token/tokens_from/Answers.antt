use Rattle.std.proofs.Common.{sym, ap, ◌∙◌, ◌++◌, ◌∷◌, ◌+◌, [], drop, append_assoc, rules}
use Rattle.std.proofs.lemmas.List.{take_rest}
use Rattle.sql_text.specs.Tokens.{token, tokens_from, ending}
use Rattle.sql_text.proofs.TokenLemmas.{tokens_none, tokens_last, tokens_more}
use Rattle.sql_text.proofs.token.tokens_from.Goals as goal

pub returns-then-is_last : goal.returns-then-is_last
returns-then-is_last c =
    let rest = c.loop-rest.rest.now in
    let last = tokens_last (ending c.args.is_whole) c.loop-rest.at rest c.in_ok-lexeme.lexeme c.in_ok-lexeme.len c.in-len1-up.len_at_least (cc) (sym c.in_ok-lexeme.ensures.value) (cc) in
    c.in_ok-push.ensures.items ∙ ap (λ ts. c.loop-rest.tokens.items ++ ts) (sym last) ∙ c.loop-rest.invariant.0

pub loop-rest-preserved : goal.loop-rest-preserved
loop-rest-preserved c =
    let rest = c.loop-rest.rest.now in
    let here = token c.loop-rest.at c.in_ok-lexeme.lexeme in
    let len = c.in_ok-lexeme.len in
    let front = c.loop-rest.tokens.items in
    let more = tokens_more (ending c.args.is_whole) c.loop-rest.at rest c.in_ok-lexeme.lexeme len c.in-len1-up.len_at_least (cc) (sym c.in_ok-lexeme.ensures.value) (cc) c.in_ok-lexeme.ensures.moves c.in_ok-lexeme.ensures.within in
    let behind = tokens_from (ending c.args.is_whole) 0 (c.loop-rest.at + len) (drop len rest) in
    let read = append_assoc front (here ∷ []) behind ∙ ap (λ ts. front ++ ts) (sym more) ∙ c.loop-rest.invariant.0 in
    (rw (take_rest rest len, c.in_ok-push.ensures.items) read, search rules)

pub returns : goal.returns
returns c =
    let none = tokens_none (ending c.args.is_whole) c.loop-rest.at c.loop-rest.rest.now c.in_default.len_below in
    c.in_ok-push-2.ensures.items ∙ ap (λ l. c.loop-rest.tokens.items ++ token c.loop-rest.at l ∷ []) c.ending-lexeme.ensures ∙ ap (λ ts. c.loop-rest.tokens.items ++ ts) (sym none) ∙ c.loop-rest.invariant.0

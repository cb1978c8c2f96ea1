use Rattle.std.proofs.Common.{rules, [], ◌∷◌, ◌++◌, refl, ◌∙◌}
use Rattle.std.specs.Prelude.{option_to_list}
use Rattle.plugd.proofs.SessionLemmas.{goes_on, takes_ok, takes_err, line_ended, line_untold, starved_at, told_some, told_none}
use Rattle.plugd.proofs.session.Session.end_line.Goals as goal

pub answer-requires : goal.answer-requires
answer-requires g c = record { serving = goes_on c.args.self.now 1 c.requires.standing }

pub returns-in_err-reply-clause-takes : goal.returns-in_err-reply-clause-takes
returns-in_err-reply-clause-takes g c =
    takes_err (10 ∷ []) c.args.self.now _ _ (search rules) (λ base taken spoken s. starved_at base taken spoken c.args.self.now _ s 10 (c.in_err-reply.ensures.err base s.lines s.replies s.serving) refl)

pub returns-in_err-put_reply-clause-takes : goal.returns-in_err-put_reply-clause-takes
returns-in_err-put_reply-clause-takes g c =
    takes_err (10 ∷ []) c.args.self.now _ _ (search rules) (λ base taken spoken s. line_untold base taken spoken c.args.self.now _ s c.in_ok-reply.reply
    (g.met.C.Coordinator.may_rest _ base (s.lines ++ s.rest ∷ []) (s.replies ++ option_to_list c.in_ok-reply.reply) (c.in_ok-reply.ensures.ok base s.lines s.replies s.rest (c.deref.ensures.value ∙ s.front) s.serving)) c.in_err-put_reply.ensures.err)

pub returns-in_ok-put_reply-clause-takes : goal.returns-in_ok-put_reply-clause-takes
returns-in_ok-put_reply-clause-takes g c =
    takes_ok (10 ∷ []) c.args.self.now _ (λ base taken spoken s. line_ended base taken spoken c.args.self.now _ s c.in_ok-reply.reply
    (c.in_ok-reply.ensures.ok base s.lines s.replies s.rest (c.deref.ensures.value ∙ s.front) s.serving) c.clear.ensures.items
    (told_some c.in_ok-reply.reply c.in-Some.reply c.args.self.now.replies.items _ c.in-Some.is c.in_ok-put_reply.ensures.ok))

pub returns-in_default-clause-takes : goal.returns-in_default-clause-takes
returns-in_default-clause-takes g c =
    takes_ok (10 ∷ []) c.args.self.now _ (λ base taken spoken s. line_ended base taken spoken c.args.self.now _ s c.in_ok-reply.reply
    (c.in_ok-reply.ensures.ok base s.lines s.replies s.rest (c.deref.ensures.value ∙ s.front) s.serving) c.clear.ensures.items
    (told_none c.in_ok-reply.reply c.args.self.now.replies.items c.in_default.not-Some))

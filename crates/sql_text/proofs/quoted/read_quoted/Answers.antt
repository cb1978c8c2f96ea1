use Rattle.std.proofs.Common.{◌+◌, sym, ap, ◌∙◌, drop, add-zero, rules}
use Rattle.std.proofs.lemmas.List.{take_rest, append-nil}
use Rattle.sql_text.specs.declared.quoted.Quoted.TheVariants.{Closed, Faulty}
use Rattle.sql_text.specs.Quoted.{quoted_at, quoted_from}
use Rattle.sql_text.proofs.QuotedLemmas.{with_front, with_front-with_byte, quoted_byte, quoted_end, quoted_fault}
use Rattle.sql_text.proofs.quoted.read_quoted.Goals as goal

pub loop-byte-preserved : goal.loop-byte-preserved
loop-byte-preserved c =
    let rest = c.loop-byte.rest.now in
    let front = c.loop-byte.text.items in
    let piece = quoted_byte rest c.in-Byte.byte c.in-Byte.len (sym c.in-Byte.ensures.value) c.in-Byte.ensures.moves in
    let behind = quoted_from 0 (drop c.in-Byte.len rest) in
    let joined = with_front-with_byte front c.loop-byte.before c.in-Byte.byte c.in-Byte.len behind in
    let read = sym joined ∙ ap (with_front front c.loop-byte.before) (sym piece) ∙ c.loop-byte.invariant.0 in
    (rw (take_rest rest c.in-Byte.len, c.in_ok-push-in-Byte.ensures.items) read, search rules)

pub returns-in-End-clause-value : goal.returns-in-End-clause-value
unfolding quoted_at
returns-in-End-clause-value c =
    let front = c.loop-byte.text.items in
    let end = quoted_end c.loop-byte.rest.now (sym c.in-End.ensures.value) in
    ap (λ t. Closed t (c.loop-byte.before + 1)) (c.new.ensures ∙ sym (append-nil front))
    ∙ ap (with_front front c.loop-byte.before) (sym end) ∙ c.loop-byte.invariant.0

pub returns-in-Fault-clause-value : goal.returns-in-Fault-clause-value
unfolding quoted_at
returns-in-Fault-clause-value c =
    let front = c.loop-byte.text.items in
    let fault = quoted_fault c.loop-byte.rest.now (sym c.in-Fault.ensures.value) in
    ap Faulty (sym (add-zero c.loop-byte.before))
    ∙ ap (with_front front c.loop-byte.before) (sym fault) ∙ c.loop-byte.invariant.0

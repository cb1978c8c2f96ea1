use Rattle.std.proofs.Common.{◌++◌, List, ℕ, sym, ◌∙◌, ap, arith}
use Rattle.frame_codec.specs.Frame.{Event}
use Rattle.binlog_events.proofs.WriteLemmas.{chain_of_one}
use Rattle.binlog_events.proofs.log.put_event.Goals as goal

pub returns : goal.returns
returns c =
    let event : Event = record { kind = c.args.kind; body = c.args.body.now } in
    (c.in_ok-crc.ensures.ok ∙ ap (λ (l : List ℕ). c.args.out.now.items ++ l) (sym (chain_of_one c.args.start.crc c.args.start.at event)), omega arith, c.in_ok-crc.ensures.value)

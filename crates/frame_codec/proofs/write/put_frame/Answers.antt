-- What was begun, given the body and ended is the frame.
use Rattle.std.proofs.Common.{◌≡◌, ◌++◌, ◌∙◌, length, Result, Ok, Err, refl, arith}
use Rattle.std.specs.Prelude.{OnOk, IfOk}
use Rattle.std.proofs.lemmas.Grind.{common_steps}
use Rattle.frame_codec.specs.Frame.{Event, front_of}
use Rattle.frame_codec.proofs.LayoutLemmas.{front_put, checksum_put, frame_put}
use Rattle.frame_codec.proofs.write.put_frame.Goals as goal

ok_then : {T E : Type 0} {P Q : Type 0} (r : Result T E) → (P → Q) → OnOk r P → OnOk r Q
ok_then (Ok x) then is = then is
ok_then (Err e) then is = is

value_then : {T E : Type 0} {P Q : T → Type 0} (r : Result T E) → ((x : T) → P x → Q x) → IfOk r P → IfOk r Q
value_then (Ok x) then is = then x is
value_then (Err e) then is = is

pub returns : goal.returns
returns c =
    let event : Event = record { kind = c.args.kind; body = c.args.body.now } in
    let old = c.args.out.now.items in
    let filled = c.extend_from_slice.new.self.items in
    let at_end : c.len-start.result ≡ length old = omega (arith, c.len-start.ensures) in
    let front : filled ≡ old ++ front_of c.args.at event =
    front_put c.args.at (length event.body) event old c.open_frame.new.out.items filled refl c.in_ok-open_frame.ensures.ok c.in_ok-extend_from_slice.ensures.items in
    record {
      ok = ok_then c.close_frame.result (frame_put c.args.prev c.args.at c.len-start.result event old filled c.close_frame.new.out.items at_end front) c.close_frame.ensures.ok;
      value = value_then c.close_frame.result (λ sum is. is ∙ checksum_put c.args.prev c.args.at c.len-start.result event old filled at_end front) c.close_frame.ensures.value;
      err = grind (arith, common_steps);
    }

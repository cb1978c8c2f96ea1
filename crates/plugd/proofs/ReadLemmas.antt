-- How a run reads on, and how it ends.
use Rattle.std.proofs.Common.{◌≡◌, inl, inr, ⊎_elim, ℕ, min, ◌+◌, ◌-◌, ◌<◌, ◌≤◌, List, [], ◌++◌, length, take, drop, flat_map, Option, Some, Ok, Err, refl, sym, ◌∙◌, ap, subst, arith, append_assoc, length-append, take-append-drop}
use Rattle.std.proofs.lemmas.List.{append-nil, take_at, length-take, length-take-le, take-take}
use Rattle.std.proofs.Math.Seq.{take-append-add}
use Rattle.fault_counts.specs.Rose.{Rose}
use Rattle.disk_model.specs.Disk.{Disk}
use Rattle.outer_io.specs.Ends.{Took, Put, PutFront}
use Rattle.plugd.specs.declared.play.Ending.{Ending}
use Rattle.plugd.specs.declared.play.Ending.TheVariants.{EndOfInput, SourceFailed, TooLong}
use Rattle.plugd.specs.declared.reply.Reply.{Reply}
use Rattle.plugd.specs.declared.session.Session.{Session}
use Rattle.plugd.specs.Lines.{Splits, closing, AreFirst}
use Rattle.plugd.specs.Reply.{text_of}
use Rattle.plugd.specs.Coordinator.{Telling, MayRest}
use Rattle.plugd.specs.Serve.{Base}
use Rattle.plugd.specs.Session.{input_limit, World, world, FaultsGoOn, Reading, IsEnd, AreSome, EndsIn}
use Rattle.plugd.specs.Piece.{Written, Broken, PlaysBytes, Closes, PlaysPiece}
use Rattle.plugd.proofs.LineLemmas.{first_more}

took_more : (xs ys : List ℕ) (a b c : Option (List ℕ)) → Took xs a b → Took ys b c → Took (xs ++ ys) a c
took_more xs ys a b c first second = record {
  told = λ all is.
      let one = first.told all is in
      let two = second.told one.0 one.1 in
      (two.0, two.1, one.2 ∙ ap (λ (l : List ℕ). xs ++ l) two.2 ∙ sym (append_assoc xs ys two.0));
}

took_same : (xs : List ℕ) (a b c : Option (List ℕ)) → Took xs a b → c ≡ b → Took xs a c
took_same xs a b c took same = subst (λ (o : Option (List ℕ)). Took xs a o) (sym same) took

puts_more : (xs ys : List ℕ) (a b c : Option (List ℕ)) → Put xs a b → Put ys b c → Put (xs ++ ys) a c
puts_more xs ys a b c first second = record { told = λ all is. second.told (all ++ xs) (first.told all is) ∙ ap (λ (l : List ℕ). Some l) (append_assoc all xs ys) }

fronts_more : (xs ys : List ℕ) (a b c : Option (List ℕ)) → Put xs a b → PutFront ys b c → PutFront (xs ++ ys) a c
fronts_more xs ys a b c first second =
    (xs ++ second.0, second.1, ap (λ (l : List ℕ). xs ++ l) second.2 ∙ sym (append_assoc xs second.0 second.1), puts_more xs second.0 a b c first second.3)

-- all texts were spoken
spoken_are : {C : Type 0} {serves : Telling C} (base : Base) (start : World) (taken : List ℕ) (session : Session C) (w : World) → (r : Reading serves base start taken session w) → Put (flat_map text_of r.standing.replies) start.held w.held
spoken_are base start taken session w r =
    subst (λ (l : List ℕ). Put l start.held w.held) (sym (r.standing.texts ∙ ap (λ (l : List ℕ). r.spoken ++ l) r.all_told ∙ append-nil r.spoken)) r.put

-- a read failed
pub source_failed : {C : Type 0} {serves rests : Telling C} (ends : MayRest serves rests) (room : ℕ) (base : Base) (start : World) (taken : List ℕ) (session : Session C) (w : World) (left : Option (List ℕ)) (faults : ℕ) → Reading serves base start taken session w
    → length taken + room ≡ input_limit → left ≡ w.left → Rose w.source_faults faults → w.source_faults ≤ faults
    → EndsIn (rests session.core base) start SourceFailed (world w.disk left faults w.held w.sink_faults)
source_failed ends room base start taken session w left faults r full same rose more = record {
  read = taken;
  lines = r.standing.lines;
  replies = r.standing.replies;
  took = took_same taken start.left w.left left r.took same;
  played = (omega (arith, full), r.standing.rest, r.standing.splits);
  halts = ends session.core base r.standing.lines r.standing.replies r.standing.serving;
  told = spoken_are base start taken session w r;
  reason = let before = r.faults.source in omega (arith, before, rose);
  faults = record { source = let before = r.faults.source in omega (arith, before, more); sink = r.faults.sink };
}

-- nothing was left where a read gave nothing
at_end : {C : Type 0} {serves : Telling C} (base : Base) (start : World) (taken : List ℕ) (session : Session C) (w : World) (left : Option (List ℕ)) → Reading serves base start taken session w → Took [] w.left left
    → ((xs : List ℕ) → w.left ≡ Some xs → xs ≡ []) → IsEnd start.left left
at_end base start taken session w left r took none xs is =
    let one = r.took.told xs is in
    let two = took.told one.0 one.1 in
    two.1 ∙ ap (λ (l : List ℕ). Some l) (sym two.2 ∙ none one.0 one.1)

-- the input came to its end
pub input_ended : {C : Type 0} {serves rests : Telling C} (room : ℕ) (base : Base) (start : World) (taken : List ℕ) (old new : Session C) (w : World) (left : Option (List ℕ)) (faults : ℕ) (end : Disk) (written : Written) → Reading serves base start taken old w
    → length taken + room ≡ input_limit → Took [] w.left left → w.source_faults ≤ faults → ((xs : List ℕ) → w.left ≡ Some xs → xs ≡ []) → Closes serves rests old new (Ok tt) written → written.before ≡ w.held → written.faults ≡ w.sink_faults
    → EndsIn (rests new.core base) start EndOfInput (world end left faults written.after written.faults_after)
input_ended room base start taken old new w left faults end written r full took more none closes held sink =
    let so = closes.ok base taken r.spoken r.standing r.all_told refl in
    record {
      read = taken;
      lines = so.0;
      replies = so.1;
      took = subst (λ (l : List ℕ). Took l start.left left) (append-nil taken) (took_more taken [] start.left w.left left r.took took);
      played = (omega (arith, full), so.3);
      halts = so.4;
      told = subst (λ (l : List ℕ). Put l start.held written.after) (sym so.5) (puts_more r.spoken so.2 start.held w.held written.after r.put (subst (λ (h : Option (List ℕ)). Put so.2 h written.after) held so.6));
      reason = at_end base start taken old w left r took none;
      faults = record { source = let before = r.faults.source in omega (arith, before, more); sink = let before = r.faults.sink in let step = closes.no_fewer in omega (arith, before, step, sink) };
    }

-- the sink failed, or there was no memory
pub broken_ends : {C : Type 0} {serves : Telling C} (P : List (List ℕ) → List Reply → Type 0) (base : Base) (start : World) (taken read played : List ℕ) (old : Session C) (ending : Ending) (w : World) (left : Option (List ℕ)) (faults : ℕ) (end : Disk) (written : Written)
    → (r : Reading serves base start taken old w) → Took read start.left left → w.source_faults ≤ faults → Broken P played r.spoken ending written → ((lines : List (List ℕ)) → AreFirst played lines → AreSome start.left left read lines)
    → written.before ≡ w.held → written.faults ≡ w.sink_faults → written.faults ≤ written.faults_after
    → EndsIn P start ending (world end left faults written.after written.faults_after)
broken_ends P base start taken read played old ending w left faults end written r took more broken some held sink step =
    ⊎_elim (λ sinks. subst (λ (e : Ending). EndsIn P start e after) (sym sinks.0) (record {
      read = read;
      lines = broken.lines;
      replies = broken.replies;
      took = took;
      played = first;
      halts = broken.halts;
      told = told;
      reason = let before = r.faults.sink in let rose = sinks.1 in omega (arith, before, rose, sink);
      faults = faults_on;
    }))
    (λ memory. subst (λ (e : Ending). EndsIn P start e after) (sym memory) (record {
      read = read;
      lines = broken.lines;
      replies = broken.replies;
      took = took;
      played = first;
      halts = broken.halts;
      told = told;
      reason = tt;
      faults = faults_on;
    })) broken.reason
  where
    after : World
    after = world end left faults written.after written.faults_after

    first : AreSome start.left left read broken.lines
    first = some broken.lines broken.first

    told : PutFront (flat_map text_of broken.replies) start.held written.after
    told = subst (λ (l : List ℕ). PutFront l start.held written.after) (sym broken.texts)
        (fronts_more r.spoken broken.fresh start.held w.held written.after r.put (subst (λ (h : Option (List ℕ)). PutFront broken.fresh h written.after) held broken.put))

    faults_on : FaultsGoOn start after
    faults_on = record { source = let before = r.faults.source in omega (arith, before, more); sink = let before = r.faults.sink in omega (arith, before, step, sink) }

-- the piece was played
pub reads_on : {C : Type 0} {serves rests : Telling C} (base : Base) (start : World) (taken bytes : List ℕ) (old new : Session C) (w : World) (left : Option (List ℕ)) (faults : ℕ) (end : Disk) (written : Written) → Reading serves base start taken old w
    → Took bytes w.left left → w.source_faults ≤ faults → PlaysBytes serves rests bytes old new (Ok tt) written → written.before ≡ w.held → written.faults ≡ w.sink_faults
    → Reading serves base start (taken ++ bytes) new (world end left faults written.after written.faults_after)
reads_on base start taken bytes old new w left faults end written r took more plays held sink =
    let so = plays.ok base taken r.spoken r.standing r.all_told refl in
    record {
      spoken = r.spoken ++ so.0;
      standing = so.1;
      all_told = so.2;
      took = took_more taken bytes start.left w.left left r.took took;
      put = puts_more r.spoken so.0 start.held w.held written.after r.put (subst (λ (h : Option (List ℕ)). Put so.0 h written.after) held so.3);
      faults = record { source = let before = r.faults.source in omega (arith, before, more); sink = let before = r.faults.sink in let step = plays.no_fewer in omega (arith, before, step, sink) };
    }

-- the input is too long
pub too_long : {C : Type 0} {serves rests : Telling C} (ends : MayRest serves rests) (base : Base) (start : World) (taken bytes others : List ℕ) (old new : Session C) (w : World) (left : Option (List ℕ)) (faults : ℕ) (end : Disk) (written : Written)
    → Reading serves base start taken old w → Took (bytes ++ others) w.left left → w.source_faults ≤ faults → PlaysBytes serves rests bytes old new (Ok tt) written → written.before ≡ w.held → written.faults ≡ w.sink_faults
    → length taken + length bytes ≡ input_limit → 0 < length others
    → EndsIn (rests new.core base) start TooLong (world end left faults written.after written.faults_after)
too_long ends base start taken bytes others old new w left faults end written r took more plays held sink full some =
    let so = plays.ok base taken r.spoken r.standing r.all_told refl in
    let n = so.1 in
    record {
      read = (taken ++ bytes) ++ others;
      lines = n.lines;
      replies = n.replies;
      took = subst (λ (l : List ℕ). Took l start.left left) (sym (append_assoc taken bytes others)) (took_more taken (bytes ++ others) start.left w.left left r.took took);
      played = (
        omega (arith, full, some, length-append (taken ++ bytes) others, length-append taken bytes),
        n.rest,
        subst (λ (l : List ℕ). Splits l n.lines n.rest) (sym (take_at (taken ++ bytes) others input_limit (omega (arith, full, length-append taken bytes)))) n.splits,
      );
      halts = ends new.core base n.lines n.replies n.serving;
      told = subst (λ (l : List ℕ). Put l start.held written.after) (sym (n.texts ∙ ap (λ (l : List ℕ). (r.spoken ++ so.0) ++ l) so.2 ∙ append-nil (r.spoken ++ so.0)))
          (puts_more r.spoken so.0 start.held w.held written.after r.put (subst (λ (h : Option (List ℕ)). Put so.0 h written.after) held so.3));
      reason = tt;
      faults = record { source = let before = r.faults.source in omega (arith, before, more); sink = let before = r.faults.sink in let step = plays.no_fewer in omega (arith, before, step, sink) };
    }

-- the piece's two answers
pub piece_err : {C : Type 0} {serves rests : Telling C} (room : ℕ) (old new : Session C) (e : Ending) (before after : World)
    → ((base : Base) (start : World) (taken : List ℕ) → Reading serves base start taken old before → length taken + room ≡ input_limit → EndsIn (rests new.core base) start e after)
    → PlaysPiece serves rests room old new (Err e) before after
piece_err {rests = rests} room old new e before after does = record {
  ok = λ base start taken r size n is. let no = is in cc;
  err = λ base start taken r size ending is. subst (λ (x : Ending). EndsIn (rests new.core base) start x after) (let same = is in cc) (does base start taken r size);
}

pub piece_ok : {C : Type 0} {serves rests : Telling C} (room : ℕ) (old new : Session C) (n : ℕ) (bytes : List ℕ) (before after : World) → 0 < n → n ≤ room → length bytes ≡ n
    → ((base : Base) (start : World) (taken : List ℕ) → Reading serves base start taken old before → length taken + room ≡ input_limit → Reading serves base start (taken ++ bytes) new after)
    → PlaysPiece serves rests room old new (Ok n) before after
piece_ok room old new n bytes before after some fits size does = record {
  ok = λ base start taken r full m is.
      let same : n ≡ m = let e = is in cc in
      (omega (arith, same, some), omega (arith, same, fits), (bytes, omega (arith, same, size), does base start taken r full));
  err = λ base start taken r full ending is. let no = is in cc;
}

-- nothing was read
pub nothing_read : (buf : List ℕ) (n : ℕ) (a b : Option (List ℕ)) → n ≡ 0 → Took (take n buf) a b → Took [] a b
nothing_read buf n a b none took = subst (λ (m : ℕ). Took (take m buf) a b) none took

-- the first part of what was read
pub first_bytes : (buf : List ℕ) (n kept : ℕ) → kept ≤ n → take n buf ≡ take kept buf ++ drop kept (take n buf)
first_bytes buf n kept le = sym (take-append-drop kept (take n buf)) ∙ ap (λ (l : List ℕ). l ++ drop kept (take n buf)) (take-take kept n buf le)

-- what was read up to the limit begins with what was played, which is no longer
up_to_limit : (old new : Option (List ℕ)) (played others : List ℕ) (lines : List (List ℕ)) → length played ≤ input_limit → AreFirst played lines → AreSome old new (played ++ others) lines
up_to_limit old new played others lines short first =
    let rest = input_limit - length played in
    let size : length played + rest ≡ input_limit = omega (arith, short) in
    inl (subst (λ (l : List ℕ). AreFirst l lines) (sym (take-append-add played others rest) ∙ ap (λ (n : ℕ). take n (played ++ others)) size) (first_more played (take rest others) lines first))

-- it broke in the middle of a piece
pub broken_piece : {C : Type 0} {serves rests : Telling C} (room : ℕ) (base : Base) (start : World) (taken buf : List ℕ) (n kept : ℕ) (old new : Session C) (ending : Ending) (w : World) (left : Option (List ℕ)) (faults : ℕ) (end : Disk) (written : Written)
    → (r : Reading serves base start taken old w) → length taken + room ≡ input_limit → kept ≤ room → kept ≤ n → Took (take n buf) w.left left → w.source_faults ≤ faults → PlaysBytes serves rests (take kept buf) old new (Err ending) written
    → written.before ≡ w.held → written.faults ≡ w.sink_faults
    → EndsIn (rests new.core base) start ending (world end left faults written.after written.faults_after)
broken_piece {rests = rests} room base start taken buf n kept old new ending w left faults end written r full fits le took more plays held sink =
    broken_ends (rests new.core base) base start taken (played ++ others) played old ending w left faults end written r
    (subst (λ (l : List ℕ). Took l start.left left) (ap (λ (l : List ℕ). taken ++ l) (first_bytes buf n kept le) ∙ sym (append_assoc taken (take kept buf) others)) (took_more taken (take n buf) start.left w.left left r.took took))
    more (plays.err base taken r.spoken r.standing r.all_told ending refl)
    (λ lines first. up_to_limit start.left left played others lines (omega (arith, full, fits, length-append taken (take kept buf), length-take kept buf)) first) held sink plays.no_fewer
  where
    played : List ℕ
    played = taken ++ take kept buf

    others : List ℕ
    others = drop kept (take n buf)

-- it broke at the open line
pub broken_close : {C : Type 0} {serves rests : Telling C} (room : ℕ) (base : Base) (start : World) (taken : List ℕ) (old new : Session C) (ending : Ending) (w : World) (left : Option (List ℕ)) (faults : ℕ) (end : Disk) (written : Written)
    → (r : Reading serves base start taken old w) → length taken + room ≡ input_limit → Took [] w.left left → w.source_faults ≤ faults → ((xs : List ℕ) → w.left ≡ Some xs → xs ≡ []) → Closes serves rests old new (Err ending) written
    → written.before ≡ w.held → written.faults ≡ w.sink_faults
    → EndsIn (rests new.core base) start ending (world end left faults written.after written.faults_after)
broken_close {rests = rests} room base start taken old new ending w left faults end written r full took more none closes held sink =
    let s = r.standing in
    broken_ends (rests new.core base) base start taken taken (taken ++ closing s.rest) old ending w left faults end written r
    (subst (λ (l : List ℕ). Took l start.left left) (append-nil taken) (took_more taken [] start.left w.left left r.took took))
    more (closes.err base taken r.spoken s r.all_told ending refl)
    (λ lines first. inr (at_end base start taken old w left r took none, omega (arith, full), record { ended = s.lines; rest = s.rest; splits = s.splits; first = first })) held sink closes.no_fewer

-- the input is too long, in a piece
pub long_piece : {C : Type 0} {serves rests : Telling C} (ends : MayRest serves rests) (base : Base) (start : World) (taken buf : List ℕ) (n kept room : ℕ) (old new : Session C) (w : World) (left : Option (List ℕ)) (faults : ℕ) (end : Disk) (written : Written)
    → Reading serves base start taken old w → kept < n → kept ≡ min n room → n ≤ length buf → Took (take n buf) w.left left → w.source_faults ≤ faults → PlaysBytes serves rests (take kept buf) old new (Ok tt) written
    → written.before ≡ w.held → written.faults ≡ w.sink_faults → length taken + room ≡ input_limit
    → EndsIn (rests new.core base) start TooLong (world end left faults written.after written.faults_after)
long_piece ends base start taken buf n kept room old new w left faults end written r lt is fits took more plays held sink full =
    let all = length-take-le n buf fits in
    let front = length-take-le kept buf (omega (arith, lt, fits)) in
    too_long ends base start taken (take kept buf) (drop kept (take n buf)) old new w left faults end written r
    (subst (λ (l : List ℕ). Took l w.left left) (first_bytes buf n kept (omega (arith, lt))) took) more plays held sink
    (omega (arith, full, is, lt, front)) (omega (arith, lt, all, front, ap length (first_bytes buf n kept (omega (arith, lt))), length-append (take kept buf) (drop kept (take n buf))))

-- the piece was played whole
pub reads_piece : {C : Type 0} {serves rests : Telling C} (base : Base) (start : World) (taken buf : List ℕ) (n kept : ℕ) (old new : Session C) (w : World) (left : Option (List ℕ)) (faults : ℕ) (end : Disk) (written : Written) → Reading serves base start taken old w
    → kept ≡ n → Took (take n buf) w.left left → w.source_faults ≤ faults → PlaysBytes serves rests (take kept buf) old new (Ok tt) written → written.before ≡ w.held → written.faults ≡ w.sink_faults
    → Reading serves base start (taken ++ take n buf) new (world end left faults written.after written.faults_after)
reads_piece {serves = serves} {rests = rests} base start taken buf n kept old new w left faults end written r same took more plays held sink =
    reads_on base start taken (take n buf) old new w left faults end written r took more (subst (λ (k : ℕ). PlaysBytes serves rests (take k buf) old new (Ok tt) written) same plays) held sink

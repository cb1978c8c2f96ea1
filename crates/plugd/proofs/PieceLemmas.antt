-- What one piece of the input does.
use Rattle.std.proofs.Common.{◌≡◌, inl, inr, ℕ, ◌<◌, ◌≤◌, List, [], ◌∷◌, ◌++◌, length, Option, Some, Result, Ok, Err, OnOk, OnErr, IsErr, refl, sym, ◌∙◌, ap, subst, arith, append_assoc}
use Rattle.std.specs.declared.vec.Vec.{Vec}
use Rattle.std.specs.declared.alloc.Global.{Global}
use Rattle.std.proofs.lemmas.List.{append-nil}
use Rattle.fault_counts.specs.Rose.{Rose}
use Rattle.outer_io.specs.Ends.{Put, PutFront}
use Rattle.outer_io.specs.declared.ends.Failed.{Failed}
use Rattle.plugd.specs.declared.play.Ending.{Ending}
use Rattle.plugd.specs.declared.play.Ending.TheVariants.{SinkFailed, OutOfMemory}
use Rattle.plugd.specs.declared.session.Session.{Session}
use Rattle.plugd.proofs.LineLemmas.{all_closed, all_ended, take_none, closing_some, first_ended}
use Rattle.plugd.specs.Coordinator.{Telling, MayRest}
use Rattle.plugd.specs.Lines.{front_of}
use Rattle.plugd.specs.Serve.{Base}
use Rattle.std.specs.declared.alloc.AllocError.{AllocError}
use Rattle.plugd.specs.Session.{Standing, Starved, Takes}
use Rattle.plugd.specs.Piece.{Written, wrote, Broken, PlaysBytes, Closes}

-- the replies were written
pub spoken_all : {C : Type 0} {serves : Telling C} (base : Base) (taken spoken : List ℕ) (mid new : Session C) → Standing serves base taken spoken mid → new.core ≡ mid.core → new.front ≡ mid.front → new.replies.items ≡ []
    → Standing serves base taken (spoken ++ mid.replies.items) new
spoken_all {C} {serves} base taken spoken mid new s core front none = record {
  lines = s.lines;
  rest = s.rest;
  replies = s.replies;
  splits = s.splits;
  front = ap (λ (v : Vec ℕ Global). v.items) front ∙ s.front;
  serving = subst (λ (v : C). serves v base s.lines s.replies) (sym core) s.serving;
  texts = s.texts ∙ sym (append-nil (spoken ++ mid.replies.items)) ∙ ap (λ (l : List ℕ). (spoken ++ mid.replies.items) ++ l) (sym none);
}

-- the sink failed over the replies
pub broken_sink : {C : Type 0} {serves rests : Telling C} (ends : MayRest serves rests) (base : Base) (taken spoken : List ℕ) (mid new : Session C) (w : Written) → Standing serves base taken spoken mid → new.core ≡ mid.core
    → PutFront mid.replies.items w.before w.after → Rose w.faults w.faults_after → Broken (rests new.core base) taken spoken SinkFailed w
broken_sink {C} {serves} {rests} ends base taken spoken mid new w s core put rose = record {
  lines = s.lines;
  replies = s.replies;
  first = first_ended taken s.lines s.rest s.splits;
  halts = subst (λ (v : C). rests v base s.lines s.replies) (sym core) (ends mid.core base s.lines s.replies s.serving);
  fresh = mid.replies.items;
  texts = s.texts;
  put = put;
  reason = inl (refl, rose);
}

-- there was no memory, and what was ready was written as far as the sink took it
pub broken_memory : {C : Type 0} {rests : Telling C} (base : Base) (taken spoken : List ℕ) (mid new : Session C) (w : Written) → Starved rests base taken spoken mid → new.core ≡ mid.core
    → PutFront mid.replies.items w.before w.after → Broken (rests new.core base) taken spoken OutOfMemory w
broken_memory {C} {rests} base taken spoken mid new w s core put = record {
  lines = s.lines;
  replies = s.replies;
  first = s.first;
  halts = subst (λ (v : C). rests v base s.lines s.replies) (sym core) s.halts;
  fresh = mid.replies.items ++ s.untold;
  texts = s.texts ∙ append_assoc spoken mid.replies.items s.untold;
  put = (put.0, put.1 ++ s.untold, ap (λ (l : List ℕ). l ++ s.untold) put.2 ∙ append_assoc put.0 put.1 s.untold, put.3);
  reason = inr refl;
}

-- whatever the sink did, some first part was taken
pub some_put : (result : Result Unit Failed) (bytes : List ℕ) (before after : Option (List ℕ)) → OnOk result (Put bytes before after) → OnErr result (PutFront bytes before after) → PutFront bytes before after
some_put (Ok v) bytes before after put front = (bytes, [], sym (append-nil bytes), put)
some_put (Err e) bytes before after put front = front

pub is_ok_or : {T E : Type 0} (r : Result T E) (P : Type 0) → (IsErr r → ⊥) → OnOk r P → P
is_ok_or (Ok v) P not is = is
is_ok_or (Err e) P not is = absurd (not cc)

pub is_err_so : {T E : Type 0} (r : Result T E) (P : Type 0) → IsErr r → OnErr r P → P
is_err_so (Ok v) P is so = absurd cc
is_err_so (Err e) P is so = so

-- the three ways through
pub played_bytes : {C : Type 0} {serves rests : Telling C} (bytes : List ℕ) (old mid new : Session C) (taking : Result Unit AllocError) (w : Written) → w.faults ≤ w.faults_after → Takes serves rests bytes old mid taking → (IsErr taking → ⊥)
    → new.core ≡ mid.core → new.front ≡ mid.front → new.replies.items ≡ [] → Put mid.replies.items w.before w.after → PlaysBytes serves rests bytes old new (Ok tt) w
played_bytes bytes old mid new taking w counts takes not core front none put = record {
  no_fewer = counts;
  ok = λ base taken spoken s told is.
      let so = is_ok_or taking _ not (takes.ok base taken spoken s) in
      (mid.replies.items, spoken_all base (taken ++ bytes) spoken mid new so core front none, none, put);
  err = λ base taken spoken s told ending is. let e = is in cc;
}

pub sink_broke : {C : Type 0} {serves rests : Telling C} (ends : MayRest serves rests) (bytes : List ℕ) (old mid new : Session C) (taking : Result Unit AllocError) (w : Written) → w.faults ≤ w.faults_after → Takes serves rests bytes old mid taking → (IsErr taking → ⊥)
    → new.core ≡ mid.core → PutFront mid.replies.items w.before w.after → Rose w.faults w.faults_after → PlaysBytes serves rests bytes old new (Err SinkFailed) w
sink_broke {rests = rests} ends bytes old mid new taking w counts takes not core put rose = record {
  no_fewer = counts;
  ok = λ base taken spoken s told is. let e = is in cc;
  err = λ base taken spoken s told ending is.
      let so = is_ok_or taking _ not (takes.ok base taken spoken s) in
      subst (λ (e : Ending). Broken (rests new.core base) (taken ++ bytes) spoken e w) (let e = is in cc) (broken_sink ends base (taken ++ bytes) spoken mid new w so core put rose);
}

pub memory_spent : {C : Type 0} {serves rests : Telling C} (bytes : List ℕ) (old mid new : Session C) (taking : Result Unit AllocError) (w : Written) → w.faults ≤ w.faults_after → Takes serves rests bytes old mid taking → IsErr taking
    → new.core ≡ mid.core → PutFront mid.replies.items w.before w.after → PlaysBytes serves rests bytes old new (Err OutOfMemory) w
memory_spent {rests = rests} bytes old mid new taking w counts takes is_err core put = record {
  no_fewer = counts;
  ok = λ base taken spoken s told is. let e = is in cc;
  err = λ base taken spoken s told ending is.
      let so = is_err_so taking _ is_err (takes.err base taken spoken s) in
      subst (λ (e : Ending). Broken (rests new.core base) (taken ++ bytes) spoken e w) (let e = is in cc) (broken_memory base (taken ++ bytes) spoken mid new w so core put);
}

-- the open line was played, and there was none
pub closed : {C : Type 0} {serves rests : Telling C} (ends : MayRest serves rests) (old new : Session C) (result : Result Unit Ending) (w : Written) → 0 < length old.front.items → PlaysBytes serves rests (13 ∷ 10 ∷ []) old new result w
    → Closes serves rests old new result w
closed {serves = serves} {rests = rests} ends old new result w some plays = record {
  no_fewer = plays.no_fewer;
  ok = λ base taken spoken s told is.
      let so = plays.ok base taken spoken s told is in
      let n = so.1 in (
        n.lines,
        n.replies,
        so.0,
        all_closed taken s.lines n.lines s.rest n.rest s.splits (open_some s) n.splits,
        ends new.core base n.lines n.replies n.serving,
        n.texts ∙ ap (λ (l : List ℕ). (spoken ++ so.0) ++ l) so.2 ∙ append-nil (spoken ++ so.0),
        so.3,
      );
  err = λ base taken spoken s told ending is.
      subst (λ (l : List ℕ). Broken (rests new.core base) (taken ++ l) spoken ending w) (sym (closing_some s.rest (open_some s))) (plays.err base taken spoken s told ending is);
}
  where
    -- the line that is open is not empty
    open_some : {base : Base} {taken spoken : List ℕ} → (s : Standing serves base taken spoken old) → s.rest ≡ [] → ⊥
    open_some s none = omega (arith, some, ap length (s.front ∙ ap front_of none))

pub closed_none : {C : Type 0} {serves rests : Telling C} (ends : MayRest serves rests) (session : Session C) (held : Option (List ℕ)) (faults : ℕ) → length session.front.items ≡ 0
    → Closes serves rests session session (Ok tt) (wrote held faults held faults)
closed_none ends session held faults none = record {
  no_fewer = omega arith;
  ok = λ base taken spoken s told is. (
    s.lines,
    s.replies,
    [],
    all_ended taken s.lines s.rest s.splits (take_none s.rest (nil_of session.front.items none ∙ s.front)),
    ends session.core base s.lines s.replies s.serving,
    s.texts ∙ ap (λ (l : List ℕ). spoken ++ l) told,
    put_none held,
  );
  err = λ base taken spoken s told ending is. let e = is in cc;
}
  where
    nil_of : (xs : List ℕ) → length xs ≡ 0 → [] ≡ xs
    nil_of [] is = refl
    nil_of (x ∷ xs) is = absurd (omega (arith, is))

    put_none : (h : Option (List ℕ)) → Put [] h h
    put_none h = record { told = λ xs is. is ∙ ap (λ (l : List ℕ). Some l) (sym (append-nil xs)) }

-- Files by the calls that were made, and the answer of a whole call on a storage in memory.
use Rattle.std.proofs.Common.{◌≡◌, ◌≢◌, ◌⊎◌, inl, inr, ⊎_elim, ℕ, ◌+◌, ◌<◌, ◌≤◌, max, Bool, true, false, nat_lt, nat_le, ◌==◌, ◌&&◌, List, [], ◌∷◌, ◌++◌, take, drop, length, min, if◌then◌else◌, Result, Ok, IsErr, refl, sym, ◌∙◌, ap, subst, arith}
use Rattle.std.proofs.lemmas.Bool.Decides.{nat_tests}
use Rattle.std.proofs.lemmas.List.{length-drop}
use Rattle.disk_model.specs.declared.storage.Failed.{Failed}
use Rattle.disk_model.specs.declared.past.Call.{Call}
use Rattle.disk_model.specs.declared.past.Kind.{Kind}
use Rattle.disk_model.specs.declared.past.Kind.TheVariants.{Write, Cut, Sync}
use Rattle.disk_model.specs.declared.memory.MemoryStorage.{MemoryStorage}
use Rattle.disk_model.specs.declared.past.FileBytes.{FileBytes}
use Rattle.disk_model.specs.File.{File, Stays, written}
use Rattle.disk_model.specs.Disk.{now, contents, Does, Called, Fills}
use Rattle.disk_model.specs.Held.{held, bytes_in}
use Rattle.fault_counts.specs.Rose.{last}
use Rattle.disk_model.specs.Counting.{FailsExactly, Counted, Faulted, SameBut}
use Rattle.disk_model.specs.Past.{newest, until, step_of, replayed, after_call, after_calls, fits, all_fit, AddsCall}
use Rattle.disk_model.specs.Start.{first_file}
use Rattle.disk_model.specs.Memory.{memory_disk}
use Rattle.disk_model.proofs.HeldLemmas.{bool_cases, bytes_put_here, bytes_put_other, bytes_cut_here, bytes_cut_other}

-- One call more, in each of the recursions.

pub replayed-push : (file : ℕ) (old : File) (past : List Call) (call : Call) → replayed file old (past ++ call ∷ []) ≡ replayed file (replayed file old past) (call ∷ [])
replayed-push file old [] call = refl
replayed-push file old (c ∷ past) call = replayed-push file (if c.file == file then step_of c.kind old else old) past call

pub newest-push : (past : List Call) (call : Call) → newest (past ++ call ∷ []) ≡ max (newest past) call.number
newest-push [] call = omega arith
newest-push (c ∷ past) call = omega (arith, newest-push past call)

pub after_calls-push : (files : List (ℕ × List ℕ)) (past : List Call) (call : Call) → after_calls files (past ++ call ∷ []) ≡ after_call call.file call.kind (after_calls files past)
after_calls-push files [] call = refl
after_calls-push files (c ∷ past) call = after_calls-push (after_call c.file c.kind files) past call

pub both_true : (a b : Bool) → a ≡ true → b ≡ true → (a && b) ≡ true
both_true a b p q = rw (p, q) refl

pub first_true : (a b : Bool) → (a && b) ≡ true → a ≡ true
first_true true b p = refl
first_true false b p = p

pub second_true : (a b : Bool) → (a && b) ≡ true → b ≡ true
second_true true b p = p
second_true false b p = absurd (cc)

pub all_fit-push : (files : List (ℕ × List ℕ)) (past : List Call) (call : Call) → all_fit files past ≡ true → fits call.file call.kind (after_calls files past) ≡ true → all_fit files (past ++ call ∷ []) ≡ true
all_fit-push files [] call all one = both_true _ true one refl
all_fit-push files (c ∷ past) call all one =
    both_true (fits c.file c.kind files) _ (first_true _ _ all) (all_fit-push (after_call c.file c.kind files) past call (second_true (fits c.file c.kind files) _ all) one)

-- The calls up to a moment.

-- all of them, from the newest on
pub until_all : (moment : ℕ) (past : List Call) → newest past ≤ moment → until moment past ≡ past
until_all moment [] le = refl
until_all moment (c ∷ past) le =
    let counts : nat_lt moment c.number ≡ false = grind (arith, nat_tests, le) in
    rw counts (ap (λ (l : List Call). c ∷ l) (until_all moment past (omega arith)))

-- a later call does not matter
pub until_push : (moment : ℕ) (past : List Call) (call : Call) → moment < call.number → until moment (past ++ call ∷ []) ≡ until moment past
until_push moment [] call lt = let late : nat_lt moment call.number ≡ true = grind (arith, nat_tests) in rw late refl
until_push moment (c ∷ past) call lt = elim (bool_cases (nat_lt moment c.number)) [
  | inl late ↦ rw late refl
  | inr counts ↦ rw counts (ap (λ (l : List Call). c ∷ l) (until_push moment past call lt))
]

-- The bytes that are held are those that the calls make.

-- of the file that is called
pub call_bytes_here : (file : ℕ) (kind : Kind) (files : List (ℕ × List ℕ)) (g : File) → g.bytes ≡ bytes_in files file → (step_of kind g).bytes ≡ bytes_in (after_call file kind files) file
call_bytes_here file (Write at bytes) files g is =
    ap (λ (l : List ℕ). written at bytes.items l) is ∙ sym (bytes_put_here file (written at bytes.items (bytes_in files file)) files)
call_bytes_here file (Cut len) files g is = ap (λ (l : List ℕ). take len l) is ∙ sym (bytes_cut_here file len files)
call_bytes_here file Sync files g is = is

-- of the others
pub call_bytes_other : (file other : ℕ) (kind : Kind) (files : List (ℕ × List ℕ)) → other ≢ file → bytes_in (after_call file kind files) other ≡ bytes_in files other
call_bytes_other file other (Write at bytes) files not = bytes_put_other file other (written at bytes.items (bytes_in files file)) files not
call_bytes_other file other (Cut len) files not = bytes_cut_other file other len files not
call_bytes_other file other Sync files not = refl

-- of each, after one call
pub call_bytes : (file : ℕ) (call : Call) (files : List (ℕ × List ℕ)) (g : File) → g.bytes ≡ bytes_in files file
    → (if call.file == file then step_of call.kind g else g).bytes ≡ bytes_in (after_call call.file call.kind files) file
call_bytes file call files g is = elim (bool_cases (call.file == file)) [
  | inl here ↦
      let same : call.file ≡ file = grind (arith, nat_tests, here) in
      rw here (call_bytes_here file call.kind files g is ∙ ap (λ (n : ℕ). bytes_in (after_call n call.kind files) file) (sym same))
  | inr other ↦
      let differs : file ≢ call.file = λ same. (let yes : (call.file == file) ≡ true = grind (arith, nat_tests, same) in cc) in
      rw other (is ∙ sym (call_bytes_other call.file file call.kind files differs))
]

-- of each, after all of them
pub replayed_bytes : (file : ℕ) (g : File) (files : List (ℕ × List ℕ)) (past : List Call) → g.bytes ≡ bytes_in files file → (replayed file g past).bytes ≡ bytes_in (after_calls files past) file
replayed_bytes file g files [] is = is
replayed_bytes file g files (c ∷ past) is = replayed_bytes file (if c.file == file then step_of c.kind g else g) (after_call c.file c.kind files) past (call_bytes file c files g is)

-- a file as it is now, by all of the calls
pub file_now : (m : MemoryStorage) (file : ℕ) → now (memory_disk m) file ≡ replayed file (first_file (held m.start.items) file) m.past.items
file_now m file = ap (λ (l : List Call). replayed file (first_file (held m.start.items) file) l) (until_all m.calls m.past.items m.numbered)

-- what a read gives is what is held
pub kept_bytes : (m : MemoryStorage) (file : ℕ) → bytes_in (held m.files.items) file ≡ contents (memory_disk m) file
kept_bytes m file =
    ap (λ (l : List (ℕ × List ℕ)). bytes_in l file) (sym m.replays)
    ∙ sym (replayed_bytes file (first_file (held m.start.items) file) (held m.start.items) m.past.items refl)
    ∙ ap (λ (f : File). f.bytes) (sym (file_now m file))

abbrev files_by : List FileBytes → List Call → ℕ → File
files_by start calls = λ file. replayed file (first_file (held start) file) calls

-- a call on a file that did its step
pub does_step : {T : Type 0} (old new : MemoryStorage) (file : ℕ) (step : File → File) (rel : File → File → Type 0) (result : Result T Failed) → new.start.items ≡ old.start.items → new.calls ≡ old.calls + 1
    → AddsCall new.calls file step old.past.items new.past.items → ((f : File) → rel f (step f)) → Does file rel result (memory_disk old) (memory_disk new)
does_step old new file step rel result start calls adds did = record {
  past = λ m le. ap (λ (l : List FileBytes). files_by l (until m new.past.items)) start
      ∙ ap (λ (l : List Call). files_by old.start.items (until m l)) adds.is
      ∙ ap (λ (l : List Call). files_by old.start.items l) (until_push m old.past.items adds.call (omega (arith, adds.number_is, le)));
  others = λ f not. pushed f ∙ rw (differ f not) (sym (file_now old f));
  here = inl (subst (λ (f : File). rel (now (memory_disk old) file) f) (sym made) (did (now (memory_disk old) file)));
}
  where
    pushed : (f : ℕ) → now (memory_disk new) f ≡ replayed f (replayed f (first_file (held old.start.items) f) old.past.items) (adds.call ∷ [])
    pushed f = file_now new f
        ∙ ap (λ (l : List FileBytes). files_by l new.past.items f) start
        ∙ ap (λ (l : List Call). files_by old.start.items l f) adds.is
        ∙ replayed-push f (first_file (held old.start.items) f) old.past.items adds.call

    differ : (f : ℕ) → f ≢ file → (adds.call.file == f) ≡ false
    differ f not = grind (arith, nat_tests, adds.file_is)

    same : (adds.call.file == file) ≡ true
    same = grind (arith, nat_tests, adds.file_is)

    made : now (memory_disk new) file ≡ step (now (memory_disk old) file)
    made = pushed file ∙ rw same (adds.step_is (files_by old.start.items old.past.items file)) ∙ ap step (sym (file_now old file))

-- a call that changed nothing
module _ (old new : MemoryStorage) (start : new.start.items ≡ old.start.items) (past : new.past.items ≡ old.past.items) where
  same_at : (m : ℕ) → (memory_disk new).at m ≡ (memory_disk old).at m
  same_at m = ap (λ (l : List FileBytes). files_by l (until m new.past.items)) start ∙ ap (λ (l : List Call). files_by old.start.items (until m l)) past

  pub same_now : (f : ℕ) → now (memory_disk new) f ≡ now (memory_disk old) f
  same_now f = file_now new f ∙ ap (λ (l : List FileBytes). files_by l new.past.items f) start ∙ ap (λ (l : List Call). files_by old.start.items l f) past ∙ sym (file_now old f)

module _ {T : Type 0} (old new : MemoryStorage) (file : ℕ) (rel : File → File → Type 0) (result : Result T Failed) (start : new.start.items ≡ old.start.items) (past : new.past.items ≡ old.past.items) where
  pub does_nothing : IsErr result → Does file rel result (memory_disk old) (memory_disk new)
  does_nothing err = record { past = λ m le. same_at old new start past m; others = λ f not. same_now old new start past f; here = inr (err, same_now old new start past file) }

  pub does_stays : Does file Stays result (memory_disk old) (memory_disk new)
  does_stays = record { past = λ m le. same_at old new start past m; others = λ f not. same_now old new start past f; here = inl (same_now old new start past file) }

-- The answer of a whole call.

-- it failed as it was counted
pub called_failed : {T U : Type 0} (old new : MemoryStorage) (file : ℕ) (rel : File → File → Type 0) (r : Result U Failed) (result : Result T Failed) → IsErr r → IsErr result
    → Counted r old new → Called file rel result (memory_disk old) (memory_disk new)
called_failed old new file rel r result is_err err counts = record {
  told = refl;
  later = counts.later;
  counted = counts.counted;
  spent = λ all. ((counts.spent all).0, err);
  no_fewer = counts.no_fewer;
  cause = λ is. counts.cause is_err;
  does = λ told. does_nothing old new file rel result counts.same.start counts.same.past err;
}

-- it changed nothing
pub called_stays : {T U : Type 0} (old new : MemoryStorage) (file : ℕ) (u : U) (v : T) → Counted {T = U} (Ok u) old new → Called {T = T} file Stays (Ok v) (memory_disk old) (memory_disk new)
called_stays {T} old new file u v counts = record {
  told = refl;
  later = counts.later;
  counted = counts.counted;
  spent = λ all. let is = (counts.spent all).1 in cc;
  no_fewer = counts.no_fewer;
  cause = λ is. cc;
  does = λ told. does_stays old new file (λ a b. a ≡ b) (Ok v) counts.same.start counts.same.past;
}

-- it did its step
pub called_step : {T U : Type 0} (old mid new : MemoryStorage) (file : ℕ) (step : File → File) (rel : File → File → Type 0) (u : U) (v : T) → Counted {T = U} (Ok u) old mid → SameBut mid new
    → AddsCall mid.calls file step mid.past.items new.past.items → ((f : File) → rel f (step f)) → Called {T = T} file rel (Ok v) (memory_disk old) (memory_disk new)
called_step old mid new file step rel u v counts same adds did = record {
  told = refl;
  later = omega (arith, counts.later, same.calls);
  counted = λ room. omega (arith, counts.counted room, same.calls);
  spent = λ all. let is = (counts.spent all).1 in cc;
  no_fewer = omega (arith, counts.no_fewer, same.faults);
  cause = λ is. cc;
  does = λ told. ⊎_elim (λ room. does_step old new file step rel (Ok v) (same.start ∙ counts.same.start) (same.calls ∙ counts.counted room) whole did) (λ all. let is = (counts.spent all).1 in cc) (split old.calls);
}
  where
    split : (c : ℕ) → (c < last) ⊎ (last ≤ c)
    split c = grind arith

    whole : AddsCall new.calls file step old.past.items new.past.items
    whole = record {
      call = adds.call;
      is = adds.is ∙ ap (λ (l : List Call). l ++ adds.call ∷ []) counts.same.past;
      number_is = adds.number_is ∙ sym same.calls;
      file_is = adds.file_is;
      step_is = adds.step_is;
    }

-- there was no memory to note it
pub called_starved : {T U : Type 0} (old mid low new : MemoryStorage) (file : ℕ) (rel : File → File → Type 0) (u : U) (result : Result T Failed) → IsErr result → Counted {T = U} (Ok u) old mid → SameBut mid low → low.past.items ≡ mid.past.items
    → Faulted low new → mid.faults ≡ old.faults → Called file rel result (memory_disk old) (memory_disk new)
called_starved old mid low new file rel u result err counted same past fault same_faults = record {
  told = refl;
  later = omega (arith, counted.later, same.calls, fault.calls);
  counted = λ room. omega (arith, counted.counted room, same.calls, fault.calls);
  spent = λ all. let is = (counted.spent all).1 in cc;
  no_fewer = omega (arith, same_faults, same.faults, fault.no_fewer);
  cause = λ is. omega (arith, same_faults, same.faults, fault.cause);
  does = λ told. does_nothing old new file rel result (fault.same.start ∙ same.start ∙ counted.same.start) (fault.same.past ∙ past ∙ counted.same.past) err;
}

-- Which calls fail, and that they do nothing.

-- it failed as it was counted
pub fails_counted : {T U : Type 0} (old new : MemoryStorage) (r : Result U Failed) (result : Result T Failed) → IsErr r → IsErr result → Counted r old new → FailsExactly result old new
fails_counted old new r result is_err err counts = record {
  exactly = (λ is. ⊎_elim (λ given. inl given) (λ all. inr (inr all)) (counts.exactly.0 is_err), λ any. err);
  starved = omega (arith, counts.starved);
  failing = counts.same.failing;
  nothing = λ is. same_now old new counts.same.start counts.same.past;
}

-- there was no memory to note it
pub fails_starved : {T U : Type 0} (old mid low new : MemoryStorage) (u : U) (result : Result T Failed) → IsErr result → Counted {T = U} (Ok u) old mid → SameBut mid low → low.past.items ≡ mid.past.items
    → Faulted low new → new.starved ≡ low.starved + 1 → FailsExactly result old new
fails_starved old mid low new u result err counted same past fault starved = record {
  exactly = (λ is. inr (inl (omega (arith, starved, same.starved, counted.starved))), λ any. err);
  starved = omega (arith, starved, same.starved, counted.starved);
  failing = fault.same.failing ∙ same.failing ∙ counted.same.failing;
  nothing = λ is. same_now old new (fault.same.start ∙ same.start ∙ counted.same.start) (fault.same.past ∙ past ∙ counted.same.past);
}

-- What is read.

-- what is held after the count is what was read before it
pub counted_bytes : {U : Type 0} (old new : MemoryStorage) (file : ℕ) (r : Result U Failed) → Counted r old new → bytes_in (held new.files.items) file ≡ contents (memory_disk old) file
counted_bytes old new file r counted = ap (λ (l : List FileBytes). bytes_in (held l) file) counted.same.files ∙ kept_bytes old file

-- what the walk over the files found is that
pub read_bytes : (file : ℕ) (walked files : List FileBytes) (bytes want : List ℕ) → bytes ≡ bytes_in (held walked) file → walked ≡ files → bytes_in (held files) file ≡ want → bytes ≡ want
read_bytes file walked files bytes want is same e = is ∙ ap (λ (l : List FileBytes). bytes_in (held l) file) same ∙ e

-- a read from the end on
pub fits_none : (bytes want buf : List ℕ) (at : ℕ) → bytes ≡ want → length bytes ≤ at → Fills want at buf 0 buf
fits_none bytes want buf at same le = record { count = omega (arith, ap length same, le); bytes_are = refl }

-- a read before it
pub fits_some : (bytes want rest buf copied : List ℕ) (at n : ℕ) → bytes ≡ want → rest ≡ drop at bytes → n ≡ min (length rest) (length buf) → copied ≡ take n rest → Fills want at buf n (copied ++ drop n buf)
fits_some bytes want rest buf copied at n same rest_is n_is copied_is =
    let tail : rest ≡ drop at want = rest_is ∙ ap (λ (l : List ℕ). drop at l) same in
    record {
      count = omega (arith, n_is, ap length tail, length-drop at want);
      bytes_are = ap (λ (l : List ℕ). l ++ drop n buf) (copied_is ∙ ap (λ (l : List ℕ). take n l) tail);
    }

-- What a storage keeps of itself.

-- the invariant of a storage, over its parts
pub record Holds (start : List FileBytes) (past : List Call) (files : List FileBytes) (calls : ℕ) : Type 0 where
  pub numbered : newest past ≤ calls
  pub replays : after_calls (held start) past ≡ held files
  pub within : all_fit (held start) past ≡ true

-- it stands once a call was noted and done
pub holds_more : (start : List FileBytes) (past more : List Call) (files done : List FileBytes) (calls : ℕ) (call : Call) → Holds start past files calls → more ≡ past ++ call ∷ [] → call.number ≡ calls
    → fits call.file call.kind (held files) ≡ true → held done ≡ after_call call.file call.kind (held files) → Holds start more done calls
holds_more start past more files done calls call holds is number fit made = record {
  numbered = omega (arith, ap newest is, newest-push past call, holds.numbered, number);
  replays = ap (λ (l : List Call). after_calls (held start) l) is ∙ after_calls-push (held start) past call ∙ ap (λ (l : List (ℕ × List ℕ)). after_call call.file call.kind l) holds.replays ∙ sym made;
  within = ap (λ (l : List Call). all_fit (held start) l) is ∙ all_fit-push (held start) past call holds.within (ap (λ (l : List (ℕ × List ℕ)). fits call.file call.kind l) holds.replays ∙ fit);
}

-- it stands whether there was memory to note a call that does nothing to the bytes, or not
pub holds_either : (noted : Bool) (start : List FileBytes) (past more : List Call) (files : List FileBytes) (calls : ℕ) (call : Call) → Holds start past files calls → more ≡ (if noted then past ++ call ∷ [] else past) → call.number ≡ calls
    → fits call.file call.kind (held files) ≡ true → held files ≡ after_call call.file call.kind (held files) → Holds start more files calls
holds_either true start past more files calls call holds is number fit made = holds_more start past more files files calls call holds is number fit made
holds_either false start past more files calls call holds is number fit made = subst (λ (l : List Call). Holds start l files calls) (sym is) holds

-- the test of a write's place
pub fits_within : (at : ℕ) (bytes : List ℕ) → at ≤ length bytes → nat_le at (length bytes) ≡ true
fits_within at bytes le = grind (arith, nat_tests)

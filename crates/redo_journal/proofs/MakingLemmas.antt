-- Making an area: the calls, and what a crash leaves at each moment of them.
use Rattle.std.proofs.Common.{◌≡◌, ◌≢◌, ◌⊎◌, inl, inr, ⊎_elim, ℕ, zero, suc, ◌+◌, ◌<◌, ◌≤◌, ◌^◌, Bool, true, false, cond, nat_le, Option, Some, None, List, [], ◌∷◌, ◌++◌, length, take, drop, get_or, Result, Ok, Err, OnOk, IsErr, IsTrue, refl, sym, ◌∙◌, ap, subst, arith, length-append, take-append-drop}
use Rattle.std.proofs.lemmas.Bool.{cases_eq}
use Rattle.std.proofs.lemmas.List.{append-nil, drop_all}
use Rattle.disk_model.specs.declared.storage.Failed.{Failed}
use Rattle.disk_model.specs.File.{File, Step, Wrote, CutTo, written, after_step, IsMeant, least, greatest, IsWritten, IsImage, IsSettled}
use Rattle.disk_model.specs.Start.{settled}
use Rattle.disk_model.specs.Disk.{Disk, now, contents, Keeps, Only}
use Rattle.disk_model.specs.Staged.{IsChanging, as_was, synced, stepping, changed, Changes}
use Rattle.disk_model.proofs.Moments.{both, weaker}
use Rattle.disk_model.proofs.StagedLemmas.{is_settled, settled_image, cut_short, rose_on, err_ok}
use Rattle.framed_file.specs.Framed.{IsPrefix, header_len}
use Rattle.redo_journal.specs.declared.journal.Side.{Side}
use Rattle.redo_journal.specs.declared.journal.Side.TheVariants.{First, Second}
use Rattle.redo_journal.specs.Areas.{area_header, area_checksum, gate_place, open_sequence, IsArea}
use Rattle.redo_journal.specs.Journals.{has_sequence, chosen, side_read, IsFresh, StandsOn, Stands, IsFaithfulImage}
use Rattle.redo_journal.specs.Making.{IsMaking, emptying, heading, gating, Makes}
use Rattle.redo_journal.proofs.HeaderLemmas.{length-area_header, gate_opened, open_header, open_told, option_cases, open_front, short_closed, header_gate, other_gate, gate_alone}
use Rattle.redo_journal.proofs.AreaLemmas.{empty_area}

-- The calls.

pub cut_first : (bytes : List ℕ) → 0 ≤ length bytes
cut_first bytes = omega arith

module _ (file sequence : ℕ) where
  -- a step of the making, behind those before it
  stage : (step : Step) (a b c : Disk) (result : Result Unit Failed) → Changes file step result b c → IsTrue b.told → ((f : ℕ) → f ≢ file → now b f ≡ now a f)
      → ((it : File) → IsChanging step (now b file) it → IsMaking sequence (now a file) it) → Keeps b c (Only file (now a) (IsMaking sequence (now a file)))
  stage step a b c result changes told others making = weaker b c (Only file (now b) (IsChanging step (now b file))) (Only file (now a) (IsMaking sequence (now a file)))
      (λ files p. (λ f not. p.0 f not ∙ others f not, making (files file) p.1)) (changes.way.moments told)

  -- the other files after a change
  others_after : (step : Step) (a b : Disk) (result : Result Unit Failed) → Changes file step result a b → IsTrue a.told → (f : ℕ) → f ≢ file → now b f ≡ now a f
  others_after step a b result changes told = ((changes.way.moments told).each b.calls changes.way.later (omega arith)).0

  -- the calls so far
  record SoFar (a b : Disk) (bytes : List ℕ) : Type 0 where
    told : b.told ≡ a.told
    later : a.calls ≤ b.calls
    no_fewer : a.faults ≤ b.faults
    moments : IsTrue a.told → Keeps a b (Only file (now a) (IsMaking sequence (now a file)))
    at : IsTrue a.told → now b file ≡ settled bytes

  -- one change more
  more : (step : Step) (a b c : Disk) (bytes : List ℕ) (result : Result Unit Failed) → SoFar a b bytes → Changes file step result b c
      → ((it : File) → IsChanging step (settled bytes) it → IsMaking sequence (now a file) it) → IsTrue a.told → Keeps a c (Only file (now a) (IsMaking sequence (now a file)))
  more step a b c bytes result so changes making told =
      both a b c (Only file (now a) (IsMaking sequence (now a file))) (so.moments told)
      (stage step a b c result changes (subst IsTrue (sym so.told) told) (((so.moments told).each b.calls so.later (omega arith)).0)
      (λ it changing. making it (subst (λ (was : File). IsChanging step was it) (so.at told) changing)))

  ends : (step : Step) (a b c : Disk) (bytes : List ℕ) (result : Result Unit Failed) → SoFar a b bytes → Changes file step result b c
      → ((it : File) → IsChanging step (settled bytes) it → IsMaking sequence (now a file) it) → (IsTrue a.told → OnOk result (now c file ≡ settled (area_header sequence 1))) → Makes file sequence result a c
  ends step a b c bytes result so changes making ok = record {
    told = changes.way.told ∙ so.told;
    later = omega (arith, so.later, changes.way.later);
    no_fewer = omega (arith, so.no_fewer, changes.way.no_fewer);
    cause = λ is. rose_on a.faults b.faults c.faults so.no_fewer (changes.cause is);
    moments = more step a b c bytes result so changes making;
    ok = ok;
  }

  goes : (step : Step) (a b c : Disk) (bytes : List ℕ) (v : Unit) → SoFar a b bytes → Changes file step (Ok v) b c
      → ((it : File) → IsChanging step (settled bytes) it → IsMaking sequence (now a file) it) → SoFar a c (after_step step bytes)
  goes step a b c bytes v so changes making = record {
    told = changes.way.told ∙ so.told;
    later = omega (arith, so.later, changes.way.later);
    no_fewer = omega (arith, so.no_fewer, changes.way.no_fewer);
    moments = more step a b c bytes (Ok v) so changes making;
    at = λ told. changes.ok (subst IsTrue (sym so.told) told) ∙ ap (λ (f : File). settled (after_step step f.bytes)) (so.at told);
  }

  -- the header over nothing
  pub over_nothing : (bytes : List ℕ) → written 0 (area_header sequence 0) (take 0 bytes) ≡ area_header sequence 0
  over_nothing bytes = ap (λ (l : List ℕ). area_header sequence 0 ++ l) (drop_all (0 + length (area_header sequence 0)) (take 0 bytes) (omega arith)) ∙ append-nil (area_header sequence 0)

  emptied : (a b : Disk) (v : Unit) → Changes file (CutTo 0) (Ok v) a b → SoFar a b []
  emptied a b v changes = record {
    told = changes.way.told;
    later = changes.way.later;
    no_fewer = changes.way.no_fewer;
    moments = λ told. stage (CutTo 0) a a b (Ok v) changes told (λ f not. refl) (λ it changing. emptying changing);
    at = λ told. changes.ok told;
  }

  headed : (a b c : Disk) (v w : Unit) → Changes file (CutTo 0) (Ok v) a b → Changes file (Wrote 0 (area_header sequence 0)) (Ok w) b c → SoFar a c (area_header sequence 0)
  headed a b c v w first second = subst (λ (l : List ℕ). SoFar a c l) (over_nothing []) (goes (Wrote 0 (area_header sequence 0)) a b c [] w (emptied a b v first) second (λ it changing. heading changing))

  pub made_cut : (a b : Disk) (e : Failed) (result : Result Unit Failed) → IsErr result → Changes file (CutTo 0) (Err e) a b → Makes file sequence result a b
  made_cut a b e result is_err changes = record {
    told = changes.way.told;
    later = changes.way.later;
    no_fewer = changes.way.no_fewer;
    cause = λ is. changes.cause refl;
    moments = λ told. stage (CutTo 0) a a b (Err e) changes told (λ f not. refl) (λ it changing. emptying changing);
    ok = λ told. err_ok result _ is_err;
  }

  pub made_headed : (a b c : Disk) (header : List ℕ) (v : Unit) (e : Failed) (result : Result Unit Failed) → IsErr result → header ≡ area_header sequence 0 → Changes file (CutTo 0) (Ok v) a b
      → Changes file (Wrote 0 header) (Err e) b c → Makes file sequence result a c
  made_headed a b c header v e result is_err is first changes =
      let so = ends (Wrote 0 (area_header sequence 0)) a b c [] (Err e) (emptied a b v first) (subst (λ (l : List ℕ). Changes file (Wrote 0 l) (Err e) b c) is changes) (λ it changing. heading changing) (λ told. tt) in
      record { told = so.told; later = so.later; no_fewer = so.no_fewer; cause = λ is. so.cause refl; moments = so.moments; ok = λ told. err_ok result _ is_err }

  pub made_gated : (a b c d : Disk) (header : List ℕ) (v w : Unit) (result : Result Unit Failed) → header ≡ area_header sequence 0 → Changes file (CutTo 0) (Ok v) a b
      → Changes file (Wrote 0 header) (Ok w) b c → Changes file (Wrote gate_place (1 ∷ [])) result c d → Makes file sequence result a d
  made_gated a b c d header v w result is first second changes =
      let so = headed a b c v w first (subst (λ (l : List ℕ). Changes file (Wrote 0 l) (Ok w) b c) is second) in
      ends (Wrote gate_place (1 ∷ [])) a c d (area_header sequence 0) result so changes (λ it changing. gating changing)
      (λ told. ok result (changes.ok (subst IsTrue (sym so.told) told)) (ap (λ (f : File). f.bytes) (so.at told)))
    where
      ok : (r : Result Unit Failed) → OnOk r (now d file ≡ settled (written gate_place (1 ∷ []) (contents c file))) → contents c file ≡ area_header sequence 0 → OnOk r (now d file ≡ settled (area_header sequence 1))
      ok (Ok v) at bytes = at ∙ ap (λ (l : List ℕ). settled (written gate_place (1 ∷ []) l)) bytes ∙ ap (λ (l : List ℕ). settled l) (gate_opened sequence)
      ok (Err e) at bytes = tt

-- What the calls need.

pub headed_settled : (file : ℕ) (a b : Disk) (v : Unit) → Changes file (CutTo 0) (Ok v) a b → IsTrue b.told → IsSettled (now b file)
headed_settled file a b v changes told = is_settled (now b file) [] (changes.ok (subst IsTrue changes.way.told told))

pub gated_at : (file sequence : ℕ) (a b c : Disk) (header : List ℕ) (v w : Unit) → header ≡ area_header sequence 0 → Changes file (CutTo 0) (Ok v) a b → Changes file (Wrote 0 header) (Ok w) b c → IsTrue c.told
    → now c file ≡ settled (area_header sequence 0)
gated_at file sequence a b c header v w is first second told =
    let told_b = subst IsTrue second.way.told told in
    second.ok told_b ∙ ap (λ (f : File). settled (written 0 header f.bytes)) (first.ok (subst IsTrue first.way.told told_b)) ∙ ap (λ (l : List ℕ). settled (written 0 l [])) is ∙ ap (λ (l : List ℕ). settled l) (over_nothing file sequence [])

pub gated_settled : (file sequence : ℕ) (a b c : Disk) (header : List ℕ) (v w : Unit) → header ≡ area_header sequence 0 → Changes file (CutTo 0) (Ok v) a b → Changes file (Wrote 0 header) (Ok w) b c → IsTrue c.told → IsSettled (now c file)
gated_settled file sequence a b c header v w is first second told = is_settled (now c file) (area_header sequence 0) (gated_at file sequence a b c header v w is first second told)

pub gated_within : (file sequence : ℕ) (a b c : Disk) (header : List ℕ) (v w : Unit) → header ≡ area_header sequence 0 → Changes file (CutTo 0) (Ok v) a b → Changes file (Wrote 0 header) (Ok w) b c → IsTrue c.told → 27 ≤ length (contents c file)
gated_within file sequence a b c header v w is first second told =
    omega (arith, ap (λ (f : File). length f.bytes) (gated_at file sequence a b c header v w is first second told), length-area_header sequence 0)

-- What a crash leaves.

-- an image with no area, or with that which was there, and no longer than it may be
record Blank (was image : List ℕ) : Type 0 where
  closed : (open_sequence image ≡ None) ⊎ (open_sequence image ≡ open_sequence was)
  short : (length image ≤ header_len) ⊎ (length image ≤ length was)

blank_short : (was image : List ℕ) → length image < header_len → Blank was image
blank_short was image short = record { closed = inl (short_closed image short); short = inl (omega (arith, short)) }

blank_closed : (was image : List ℕ) (sequence gate : ℕ) → gate ≢ 1 → image ≡ area_header sequence gate → Blank was image
blank_closed was image sequence gate not is = record {
  closed = inl (ap (λ (l : List ℕ). open_sequence l) (is ∙ sym (append-nil (area_header sequence gate))) ∙ other_gate sequence gate [] not);
  short = inl (omega (arith, ap length is, length-area_header sequence gate));
}

empty_image : (was : List ℕ) (file : File) (image : List ℕ) → IsChanging (CutTo 0) (settled was) file → IsImage file image → Blank was image
empty_image was file image (as_was at) is = let same = settled_image file was image at is in record { closed = inr (ap (λ (l : List ℕ). open_sequence l) same); short = inr (omega (arith, ap length same)) }
empty_image was file image (synced at) is = let same = settled_image file was image at is in record { closed = inr (ap (λ (l : List ℕ). open_sequence l) same); short = inr (omega (arith, ap length same)) }
empty_image was file image (changed at) is = let same = settled_image file [] image at is in blank_short was image (omega (arith, ap length same))
empty_image was file image (stepping at steps) is =
    let part = cut_short file was image 0 at steps (omega arith) is in
    let front : IsPrefix image was = (drop (length image) was, sym (take-append-drop (length image) was) ∙ ap (λ (l : List ℕ). l ++ drop (length image) was) (sym part.0)) in
    record {
      closed = ⊎_elim (λ none. inl none) (λ some. inr (some.1 ∙ sym (open_front image was some.0 some.1 front))) (option_cases (open_sequence image));
      short = inr (omega (arith, ap length front.1, length-append image front.0));
    }

-- a header that stands in an image was meant
meant_gate : (sequence s : ℕ) (state : List ℕ) → IsMeant [] (Wrote 0 (area_header sequence 0) ∷ []) state → IsPrefix (area_header s 1) state → ⊥
meant_gate sequence s state is front = ⊎_elim
    (λ at. let e = header_gate s sequence 1 0 front.0 [] (sym front.1 ∙ at ∙ over_nothing 0 sequence [] ∙ sym (append-nil (area_header sequence 0))) in omega (arith, e))
    (λ at. omega (arith, ap length at, ap length front.1, length-append (area_header s 1) front.0, length-area_header s 1)) is

head_image : (was : List ℕ) (sequence : ℕ) (file : File) (image : List ℕ) → IsChanging (Wrote 0 (area_header sequence 0)) (settled []) file → IsFaithfulImage file image → Blank was image
head_image was sequence file image (as_was at) is = let same = settled_image file [] image at is.0 in blank_short was image (omega (arith, ap length same))
head_image was sequence file image (synced at) is = let same = settled_image file [] image at is.0 in blank_short was image (omega (arith, ap length same))
head_image was sequence file image (changed at) is =
    blank_closed was image sequence 0 (λ e. omega (arith, e)) (settled_image file (written 0 (area_header sequence 0) []) image at is.0 ∙ over_nothing 0 sequence [])
head_image was sequence file image (stepping at steps) is = record {
  closed = ⊎_elim (λ none. inl none) (λ some. absurd (torn some.0 (open_told image some.0 some.1))) (option_cases (open_sequence image));
  short = inl (omega (arith, (is.0).no_longer, ap (λ (s : List Step). greatest file.synced s) steps, ap length at, length-area_header sequence 0));
}
  where
    torn : (s : ℕ) → (image ≡ area_header s 1 ++ drop header_len image) × (s < 2 ^ 64) → ⊥
    torn s told =
        let found = (is.1).header_meant (area_header s 1) (area_checksum s) (record { sequence = s; gate = 1; small = told.1; is = refl; sum = refl }) (drop header_len image, told.0) in
        meant_gate sequence s found.0 (subst (λ (l : List ℕ). IsMeant l (Wrote 0 (area_header sequence 0) ∷ []) found.0) at (subst (λ (s : List Step). IsMeant file.synced s found.0) steps found.1)) found.2

gate_image : (was : List ℕ) (sequence : ℕ) (file : File) (image : List ℕ) → IsChanging (Wrote gate_place (1 ∷ [])) (settled (area_header sequence 0)) file → IsImage file image
    → Blank was image ⊎ (image ≡ area_header sequence 1)
gate_image was sequence file image (as_was at) is = inl (blank_closed was image sequence 0 (λ e. omega (arith, e)) (settled_image file (area_header sequence 0) image at is))
gate_image was sequence file image (synced at) is = inl (blank_closed was image sequence 0 (λ e. omega (arith, e)) (settled_image file (area_header sequence 0) image at is))
gate_image was sequence file image (changed at) is = inr (settled_image file (written gate_place (1 ∷ []) (area_header sequence 0)) image at is ∙ gate_opened sequence)
gate_image was sequence file image (stepping at steps) is = ⊎_elim (λ one. inr (alone ∙ ap (λ (g : ℕ). area_header sequence g) one)) (λ not. inl (blank_closed was image sequence (get_or image 27 0) not alone)) (cases_eq (get_or image 27 0) 1)
  where
    long : length file.synced ≡ header_len
    long = ap length at ∙ length-area_header sequence 0

    size : length image ≡ header_len
    size = omega (arith, is.no_shorter, is.no_longer, ap (λ (s : List Step). greatest file.synced s) steps, ap (λ (s : List Step). least file.synced s) steps, long)

    away : (i : ℕ) → i ≢ 27 → IsWritten file.steps i → ⊥
    away i not written = ⊎_elim (λ here. not (omega (arith, here.0, here.1))) (λ none. none) (subst (λ (s : List Step). IsWritten s i) steps written)

    alone : image ≡ area_header sequence (get_or image 27 0)
    alone = gate_alone sequence 0 image size (λ i lt not. is.kept i (omega (arith, lt, size)) (omega (arith, lt, long)) (away i not) ∙ ap (λ (l : List ℕ). get_or l i 0) at)

-- an image of the file in which an area is made has no area, or that which was there, or the new one, without records
making_image : (was : List ℕ) (sequence : ℕ) (file : File) (image : List ℕ) → IsMaking sequence (settled was) file → IsFaithfulImage file image → Blank was image ⊎ (image ≡ area_header sequence 1)
making_image was sequence file image (emptying at) is = inl (empty_image was file image at is.0)
making_image was sequence file image (heading at) is = inl (head_image was sequence file image at is)
making_image was sequence file image (gating at) is = gate_image was sequence file image at is.0

-- Which side is read meanwhile.

rest_none : (b : Bool) (x : Side) (rest : Option Side) → cond b (Some x) rest ≡ None → rest ≡ None
rest_none true x rest is = absurd (cc)
rest_none false x rest is = is

one_of_two : (b : Bool) → cond b (Some First) (Some Second) ≡ None → ⊥
one_of_two true is = cc
one_of_two false is = cc

-- with the first area gone there is still none to be read
none_still : (wanted a b : Option ℕ) → chosen wanted a b ≡ None → chosen wanted None b ≡ None
none_still None None b is = is
none_still None (Some a) None is = refl
none_still None (Some a) (Some b) is = absurd (one_of_two (nat_le b a) is)
none_still (Some s) a b is = rest_none (has_sequence s a) First (cond (has_sequence s b) (Some Second) None) is

-- the first area of all is read
pub first_chosen : (wanted a b : Option ℕ) (first : List ℕ) → chosen wanted a b ≡ None → IsFresh wanted first → chosen wanted (Some 0) b ≡ Some First
first_chosen None None None first is fresh = refl
first_chosen None None (Some b) first is fresh = absurd (cc)
first_chosen None (Some a) None first is fresh = absurd (cc)
first_chosen None (Some a) (Some b) first is fresh = absurd (one_of_two (nat_le b a) is)
first_chosen (Some zero) a b first is fresh = refl
first_chosen (Some (suc n)) a b first is fresh = absurd fresh

still_fresh : (wanted : Option ℕ) (was image : List ℕ) → IsFresh wanted was → Blank was image → IsFresh wanted image
still_fresh None was image fresh blank = ⊎_elim (λ le. le) (λ le. omega (arith, le, fresh)) blank.short
still_fresh (Some zero) was image fresh blank = tt
still_fresh (Some (suc n)) was image fresh blank = fresh

-- with no area to be read before, and none but the first made, the two files stand for no records
pub making_stands : (wanted : Option ℕ) (was other image : List ℕ) (file : File) → side_read wanted was other ≡ None → IsFresh wanted was → IsMaking 0 (settled was) file → IsFaithfulImage file image
    → Stands wanted image other []
making_stands wanted was other image file none fresh making is = ⊎_elim blank made (making_image was 0 file image making is)
  where
    still : Blank was image → side_read wanted image other ≡ None
    still b = ⊎_elim
        (λ closed. ap (λ (o : Option ℕ). chosen wanted o (open_sequence other)) closed ∙ none_still wanted (open_sequence was) (open_sequence other) none)
        (λ same. ap (λ (o : Option ℕ). chosen wanted o (open_sequence other)) same ∙ none) b.closed

    blank : Blank was image → Stands wanted image other []
    blank b = subst (λ (s : Option Side). StandsOn s wanted image other []) (sym (still b)) (still_fresh wanted was image fresh b, refl)

    made : image ≡ area_header 0 1 → Stands wanted image other []
    made at =
        let opened : open_sequence image ≡ Some 0 = ap (λ (l : List ℕ). open_sequence l) (at ∙ sym (append-nil (area_header 0 1))) ∙ open_header 0 [] (omega arith) in
        let read = ap (λ (o : Option ℕ). chosen wanted o (open_sequence other)) opened ∙ first_chosen wanted (open_sequence was) (open_sequence other) was none fresh in
        subst (λ (s : Option Side). StandsOn s wanted image other []) (sym read) (0, opened, subst (λ (l : List ℕ). IsArea 0 l []) (sym at) (empty_area 0))

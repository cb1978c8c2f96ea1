-- A file that is synced, changed by one step, and synced again.
use Rattle.std.proofs.Common.{◌≡◌, ◌⊎◌, inl, inr, ⊎_elim, ℕ, ◌≤◌, List, [], ◌∷◌, length, take, get_or, Result, Ok, Err, OnOk, IsErr, IsTrue, refl, sym, ◌∙◌, ap, subst, arith}
use Rattle.std.proofs.lemmas.List.{take_all, ext_get_or, get_or-take, length-take-le}
use Rattle.fault_counts.specs.Rose.{Rose}
use Rattle.disk_model.specs.declared.storage.Failed.{Failed}
use Rattle.disk_model.specs.File.{File, Step, Wrote, CutTo, after_step, least, greatest, IsWritten, IsImage, IsSettled, Writes, Cuts, Syncs}
use Rattle.disk_model.specs.Start.{settled}
use Rattle.disk_model.specs.Disk.{Disk, now, contents, Called, Only}
use Rattle.disk_model.specs.Staged.{IsChanging, as_was, synced, stepping, changed, IsOnWay, Changes}
use Rattle.disk_model.proofs.Moments.{started, goes_on_file, done_ok}

-- A synced file.

pub settled_is : (file : File) → IsSettled file → file ≡ settled file.bytes
settled_is file is = ap (λ (l : List ℕ). record { bytes = file.bytes; synced = l; steps = file.steps }) is.synced ∙ ap (λ (s : List Step). record { bytes = file.bytes; synced = file.bytes; steps = s }) is.steps

pub is_settled : (file : File) (bytes : List ℕ) → file ≡ settled bytes → IsSettled file
is_settled file bytes is = record { synced = ap (λ (f : File). f.synced) is ∙ sym (ap (λ (f : File). f.bytes) is); steps = ap (λ (f : File). f.steps) is }

-- nothing was written since the sync, and no more than that stands there: an image is a first part
pub first_part : (file : File) (bytes image : List ℕ) → file.synced ≡ bytes → ((i : ℕ) → IsWritten file.steps i → ⊥) → greatest file.synced file.steps ≤ length bytes → IsImage file image → image ≡ take (length image) bytes
first_part file bytes image at none top is =
    let short : length image ≤ length bytes = omega (arith, is.no_longer, top) in
    ext_get_or 0 image (take (length image) bytes) (sym (length-take-le (length image) bytes short))
    (λ i lt. is.kept i lt (omega (arith, ap length at, short)) (none i) ∙ ap (λ (l : List ℕ). get_or l i 0) at ∙ sym (get_or-take (length image) bytes i 0 lt))

-- an image of a synced file is what a read gives
pub settled_image : (file : File) (bytes image : List ℕ) → file ≡ settled bytes → IsImage file image → image ≡ bytes
settled_image file bytes image is image_is =
    let at = subst (λ (f : File). IsImage f image) is image_is in
    let size : length image ≡ length bytes = omega (arith, at.no_shorter, at.no_longer) in
    first_part (settled bytes) bytes image refl (λ i written. written) (omega arith) at ∙ take_all (length image) bytes (omega (arith, size))

-- an image of a file that is being cut is a first part of it, not shorter than what is left
pub cut_short : (file : File) (bytes image : List ℕ) (len : ℕ) → file.synced ≡ bytes → file.steps ≡ CutTo len ∷ [] → len ≤ length bytes → IsImage file image
    → (image ≡ take (length image) bytes) × (len ≤ length image)
cut_short file bytes image len at steps room is = (
  first_part file bytes image at (λ i written. subst (λ (s : List Step). IsWritten s i) steps written) (omega (arith, ap (λ (s : List Step). greatest file.synced s) steps, ap length at)) is,
  omega (arith, is.no_shorter, ap (λ (s : List Step). least file.synced s) steps, ap length at, room),
)

-- Calls of a change.

module _ (file : ℕ) (step : Step) where
  pub way_none : (d : Disk) → IsOnWay file step d d
  way_none d = record {
    told = refl;
    later = omega arith;
    no_fewer = omega arith;
    moments = λ told. started d (Only file (now d) (IsChanging step (now d file))) (λ f not. refl, as_was refl);
  }

  -- one call more
  way_more : (start old new : Disk) (S : File → File → Type 0) (result : Result Unit Failed) → IsOnWay file step start old → Called file S result old new
      → (IsTrue start.told → S (now old file) (now new file) → IsChanging step (now start file) (now new file)) → IsOnWay file step start new
  way_more start old new S result way called stands = record {
    told = called.told ∙ way.told;
    later = omega (arith, way.later, called.later);
    no_fewer = omega (arith, way.no_fewer, called.no_fewer);
    moments = λ told. goes_on_file start old new file (IsChanging step (now start file)) S result (subst IsTrue (sym way.told) told) (way.moments told) called (stands told);
  }

-- a sync that failed, or did not
pub sync_cases : (result : Result Unit Failed) (old new : File) → Syncs result old new → (new ≡ settled old.bytes) ⊎ (new ≡ old)
sync_cases (Ok v) old new did = inl did.ok
sync_cases (Err e) old new did = inr did.err

pub err_ok : {T E : Type 0} (r : Result T E) (P : Type 0) → IsErr r → OnOk r P
err_ok (Ok v) P is = cc
err_ok (Err e) P is = tt

pub rose_on : (first before after : ℕ) → first ≤ before → Rose before after → Rose first after
rose_on first before after le rose = omega (arith, le, rose)

module _ (file : ℕ) (step : Step) (start : Disk) where
  pub way_synced : (new : Disk) (result : Result Unit Failed) → Called file (Syncs result) result start new → IsOnWay file step start new
  way_synced new result called = way_more file step start start new (Syncs result) result (way_none file step start) called
      (λ told did. ⊎_elim (λ is. synced is) (λ is. as_was is) (sync_cases result (now start file) (now new file) did))

  -- after a sync that answered Ok
  pub settled_first : (new : Disk) (v : Unit) → IsTrue start.told → Called {T = Unit} file (Syncs (Ok v)) (Ok v) start new → now new file ≡ settled (contents start file)
  settled_first new v told called = (done_ok start new file (Syncs (Ok v)) v told called).ok

  -- the step, asked for of a file that was synced
  pub way_stepped : (old new : Disk) (S : File → File → Type 0) (result : Result Unit Failed) → IsOnWay file step start old → (IsTrue start.told → now old file ≡ settled (contents start file))
      → Called file S result old new → ((was now_is : File) → S was now_is → (now_is.synced ≡ was.synced) × (now_is.steps ≡ step ∷ was.steps)) → IsOnWay file step start new
  way_stepped old new S result way at called noted = way_more file step start old new S result way called
      (λ told did. let both = noted (now old file) (now new file) did in
      stepping (both.0 ∙ ap (λ (f : File). f.synced) (at told)) (both.1 ∙ ap (λ (f : File). step ∷ f.steps) (at told)))

  -- the file after the step, before the last sync
  abbrev pub Stepped : Disk → Type 0
  Stepped d = IsTrue start.told → (now d file).bytes ≡ after_step step (contents start file) × ((now d file).synced ≡ contents start file) × ((now d file).steps ≡ step ∷ [])

  way_last : (old new : Disk) (result : Result Unit Failed) → IsOnWay file step start old → Stepped old → Called file (Syncs result) result old new → IsOnWay file step start new
  way_last old new result way stepped called = way_more file step start old new (Syncs result) result way called
      (λ told did. let at = stepped told in ⊎_elim
      (λ is. changed (is ∙ ap (λ (l : List ℕ). settled l) at.0))
      (λ is. stepping (ap (λ (f : File). f.synced) is ∙ at.1) (ap (λ (f : File). f.steps) is ∙ at.2))
      (sync_cases result (now old file) (now new file) did))

  -- the last sync
  pub changes_last : (old new : Disk) (result : Result Unit Failed) → IsOnWay file step start old → Stepped old → Called file (Syncs result) result old new → Changes file step result start new
  changes_last old new result way stepped called = record {
    way = way_last old new result way stepped called;
    cause = λ is. rose_on start.faults old.faults new.faults way.no_fewer (called.cause is);
    ok = λ told. ends result called told;
  }
    where
      ends : (r : Result Unit Failed) → Called file (Syncs r) r old new → IsTrue start.told → OnOk r (now new file ≡ settled (after_step step (contents start file)))
      ends (Ok v) made told = (done_ok old new file (Syncs (Ok v)) v (subst IsTrue (sym way.told) told) made).ok ∙ ap (λ (l : List ℕ). settled l) (stepped told).0
      ends (Err e) made told = tt

-- The exits of a change of a file that is synced already: the step, and a sync.

module _ (file : ℕ) (start : Disk) (at : IsTrue start.told → IsSettled (now start file)) where
  is_at : IsTrue start.told → now start file ≡ settled (contents start file)
  is_at told = settled_is (now start file) (at told)

  pub cut_failed : (new : Disk) (len : ℕ) (e : Failed) (result : Result Unit Failed) → IsErr result → Called {T = Unit} file (Cuts len (Err e)) (Err e) start new → Changes file (CutTo len) result start new
  cut_failed new len e result is_err called = record {
    way = way_stepped file (CutTo len) start start new (Cuts len (Err e)) (Err e) (way_none file (CutTo len) start) is_at called (λ was now_is did. (did.synced, did.steps));
    cause = λ is. called.cause refl;
    ok = λ told. err_ok result _ is_err;
  }

  pub write_failed : (new : Disk) (place : ℕ) (bytes : List ℕ) (e : Failed) (result : Result Unit Failed) → IsErr result → Called {T = Unit} file (Writes place bytes (Err e)) (Err e) start new
      → Changes file (Wrote place bytes) result start new
  write_failed new place bytes e result is_err called = record {
    way = way_stepped file (Wrote place bytes) start start new (Writes place bytes (Err e)) (Err e) (way_none file (Wrote place bytes) start) is_at called (λ was now_is did. (did.synced, did.steps));
    cause = λ is. called.cause refl;
    ok = λ told. err_ok result _ is_err;
  }

  pub cut_synced : (old new : Disk) (len : ℕ) (v : Unit) (result : Result Unit Failed) → Called {T = Unit} file (Cuts len (Ok v)) (Ok v) start old → Called file (Syncs result) result old new
      → Changes file (CutTo len) result start new
  cut_synced old new len v result first called = changes_last file (CutTo len) start old new result
      (way_stepped file (CutTo len) start start old (Cuts len (Ok v)) (Ok v) (way_none file (CutTo len) start) is_at first (λ was now_is did. (did.synced, did.steps)))
      (λ told. let did = done_ok start old file (Cuts len (Ok v)) v told first in
      (did.ok, did.synced ∙ ap (λ (f : File). f.synced) (is_at told), did.steps ∙ ap (λ (f : File). CutTo len ∷ f.steps) (is_at told))) called

  pub write_synced : (old new : Disk) (place : ℕ) (bytes : List ℕ) (v : Unit) (result : Result Unit Failed) → Called {T = Unit} file (Writes place bytes (Ok v)) (Ok v) start old → Called file (Syncs result) result old new
      → Changes file (Wrote place bytes) result start new
  write_synced old new place bytes v result first called = changes_last file (Wrote place bytes) start old new result
      (way_stepped file (Wrote place bytes) start start old (Writes place bytes (Ok v)) (Ok v) (way_none file (Wrote place bytes) start) is_at first (λ was now_is did. (did.synced, did.steps)))
      (λ told. let did = done_ok start old file (Writes place bytes (Ok v)) v told first in
      (did.ok, did.synced ∙ ap (λ (f : File). f.synced) (is_at told), did.steps ∙ ap (λ (f : File). Wrote place bytes ∷ f.steps) (is_at told))) called

  -- nothing stands behind the length
  pub cut_none : (len : ℕ) (v : Unit) → (IsTrue start.told → length (contents start file) ≤ len) → Changes file (CutTo len) (Ok v) start start
  cut_none len v le = record {
    way = way_none file (CutTo len) start;
    cause = λ is. cc;
    ok = λ told. is_at told ∙ ap (λ (l : List ℕ). settled l) (sym (take_all len (contents start file) (le told)));
  }

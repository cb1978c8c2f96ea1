-- Crash images by the calls up to a moment.
use Rattle.std.proofs.Common.{◌≡◌, ◌≢◌, ◌⊎◌, inl, inr, ⊎_elim, ℕ, ◌+◌, ◌-◌, ◌<◌, ◌≤◌, Bool, true, false, nat_lt, nat_le, ◌==◌, ◌||◌, List, [], ◌∷◌, ◌++◌, length, min, take, drop, get_or, if◌then◌else◌, refl, sym, ◌∙◌, ap, subst, arith}
use Rattle.std.proofs.lemmas.Bool.Decides.{nat_tests}
use Rattle.std.proofs.lemmas.List.{take_all, take_min, length-take, drop_more, drop_all, take_more}
use Rattle.disk_model.specs.declared.choice.Choice.{Choice}
use Rattle.disk_model.specs.declared.choice.Choice.TheVariants.{Whole, Synced, FirstBytes}
use Rattle.disk_model.specs.declared.past.Call.{Call}
use Rattle.disk_model.specs.declared.past.FileBytes.{FileBytes}
use Rattle.disk_model.specs.declared.past.Kind.{Kind}
use Rattle.disk_model.specs.declared.past.Kind.TheVariants.{Write, Cut, Sync}
use Rattle.disk_model.specs.File.{File, IsImage, IsSettled, written}
use Rattle.disk_model.specs.Disk.{now, contents}
use Rattle.disk_model.specs.Memory.{memory_disk}
use Rattle.disk_model.specs.Start.{first_file}
use Rattle.disk_model.specs.Fresh.{Holding}
use Rattle.disk_model.specs.declared.memory.MemoryStorage.{MemoryStorage}
use Rattle.disk_model.specs.Held.{held, bytes_in, put_in}
use Rattle.disk_model.specs.Past.{until, step_of, replayed, after_call, after_calls, fits, all_fit}
use Rattle.disk_model.specs.Choosing.{syncs, is_synced, granted, spent, goes_on, asked_by, asked_in, part_call, choice_next, after_next, image_of}
use Rattle.disk_model.proofs.HeldLemmas.{bool_cases, same_number, number_is, bytes_put_here, bytes_put_other, bytes_cut_here, bytes_cut_other}
use Rattle.disk_model.proofs.Replay.{both_true, first_true, second_true, replayed_bytes, call_bytes, call_bytes_here, call_bytes_other, after_calls-push}
use Rattle.disk_model.proofs.Contents.{settled_contents, part_written, write_skipped, cut_image}

-- where each write began within its file, each did up to any moment
pub until_fits : (moment : ℕ) (files : List (ℕ × List ℕ)) (past : List Call) → all_fit files past ≡ true → all_fit files (until moment past) ≡ true
until_fits moment files [] all = refl
until_fits moment files (c ∷ past) all = elim (bool_cases (nat_lt moment c.number)) [
  | inl late ↦ rw late refl
  | inr counts ↦ rw counts (both_true (fits c.file c.kind files) _ (first_true _ _ all) (until_fits moment (after_call c.file c.kind files) past (second_true (fits c.file c.kind files) _ all)))
]

either_true : (a b : Bool) → a ≡ true → (a || b) ≡ true
either_true a b p = rw p refl

or_true : (a b : Bool) → b ≡ true → (a || b) ≡ true
or_true true b p = refl
or_true false b p = p

which_true : (a b : Bool) → (a || b) ≡ true → (a ≡ true) ⊎ (b ≡ true)
which_true true b p = inl refl
which_true false b p = inr p

-- a call of which all is granted is done whole
part_full : (choice : Choice) (file : ℕ) (kind : Kind) (files : List (ℕ × List ℕ)) → goes_on choice ≡ true → granted choice (asked_by kind) ≡ asked_by kind → part_call choice file kind files ≡ after_call file kind files
part_full choice file (Write at bytes) files on all = rw on (ap (λ (l : List ℕ). put_in file (written at l (bytes_in files file)) files)
    (ap (λ (n : ℕ). take n bytes.items) all ∙ take_all (length bytes.items) bytes.items (omega arith)))
part_full choice file (Cut len) files on all = rw on refl
part_full choice file Sync files on all = refl

part_whole : (file : ℕ) (kind : Kind) (files : List (ℕ × List ℕ)) → part_call Whole file kind files ≡ after_call file kind files
part_whole file kind files = part_full Whole file kind files refl refl

-- where more is to be done, all was granted
still_on : (choice : Choice) (asked : ℕ) → goes_on (spent choice asked) ≡ true → (goes_on choice ≡ true) × (granted choice asked ≡ asked)
still_on Whole asked on = (refl, refl)
still_on Synced asked on = absurd (cc)
still_on (FirstBytes left) asked on =
    let more : 0 < left - asked = grind (arith, nat_tests, on) in
    let some : nat_lt 0 left ≡ true = grind (arith, nat_tests, more) in
    (some, omega (arith, more))

-- a call on another file
part_other : (choice : Choice) (file other : ℕ) (kind : Kind) (files : List (ℕ × List ℕ)) → other ≢ file → bytes_in (part_call choice file kind files) other ≡ bytes_in files other
part_other choice file other (Write at bytes) files not = elim (bool_cases (goes_on choice)) [
  | inl on ↦ rw on (bytes_put_other file other (written at (take (granted choice (length bytes.items)) bytes.items) (bytes_in files file)) files not)
  | inr off ↦ rw off refl
]
part_other choice file other (Cut len) files not = elim (bool_cases (goes_on choice)) [
  | inl on ↦ rw on (bytes_cut_other file other len files not)
  | inr off ↦ rw off refl
]
part_other choice file other Sync files not = refl

-- what a call makes of a file depends on its bytes alone
after_here : (file : ℕ) (kind : Kind) (one other : List (ℕ × List ℕ)) → bytes_in one file ≡ bytes_in other file → bytes_in (after_call file kind one) file ≡ bytes_in (after_call file kind other) file
after_here file (Write at bytes) one other same =
    bytes_put_here file (written at bytes.items (bytes_in one file)) one ∙ ap (λ (l : List ℕ). written at bytes.items l) same ∙ sym (bytes_put_here file (written at bytes.items (bytes_in other file)) other)
after_here file (Cut len) one other same = bytes_cut_here file len one ∙ ap (λ (l : List ℕ). take len l) same ∙ sym (bytes_cut_here file len other)
after_here file Sync one other same = same

-- As the calls are gone through: the files as they were, and the image so far, which has the same bytes for a file of which more is to be
-- done.
pub record Goes (choice : Choice) (rest : List Call) (files image : List (ℕ × List ℕ)) : Type 0 where
  pub fit : all_fit files rest ≡ true
  pub close : (file : ℕ) → (is_synced file rest || goes_on choice) ≡ true → bytes_in image file ≡ bytes_in files file

-- at first
pub goes_first : (choice : Choice) (rest : List Call) (files : List (ℕ × List ℕ)) → all_fit files rest ≡ true → Goes choice rest files files
goes_first choice rest files fit = record { fit = fit; close = λ file on. refl }

same_or_other : (file other : ℕ) → (file ≡ other) ⊎ ((other ≢ file) × ((file == other) ≡ false))
same_or_other file other = elim (bool_cases (file == other)) [
  | inl is ↦ inl (number_is file other is)
  | inr differs ↦ inr (λ same. (let yes : (file == other) ≡ true = grind (arith, nat_tests, same) in cc), differs)
]

-- a later call on it, or one on another file, leaves open what is to be done of a file
earlier : (choice : Choice) (file : ℕ) (call : Call) (rest : List Call) → (is_synced file rest || goes_on (choice_next choice call rest)) ≡ true → (is_synced file (call ∷ rest) || goes_on choice) ≡ true
earlier choice file call rest on = ⊎_elim
    (λ synced. either_true (is_synced file (call ∷ rest)) (goes_on choice) (or_true (syncs file call.file call.kind) (is_synced file rest) synced))
    (λ more. or_true (is_synced file (call ∷ rest)) (goes_on choice) (elim (bool_cases (is_synced call.file rest)) [
      | inl whole ↦ rw whole at more
      | inr part ↦ (still_on choice (asked_by call.kind) (rw part at more)).0
    ]))
    (which_true (is_synced file rest) (goes_on (choice_next choice call rest)) on)

-- a call on another file, by what follows it
next_other : (choice : Choice) (call : Call) (rest : List Call) (image : List (ℕ × List ℕ)) (file : ℕ) → file ≢ call.file → bytes_in (after_next choice call rest image) file ≡ bytes_in image file
next_other choice call rest image file not = elim (bool_cases (is_synced call.file rest)) [
  | inl whole ↦ rw whole (part_other Whole call.file file call.kind image not)
  | inr part ↦ rw part (part_other choice call.file file call.kind image not)
]

-- one call on
pub goes_more : (choice : Choice) (call : Call) (rest : List Call) (files image : List (ℕ × List ℕ)) → Goes choice (call ∷ rest) files image
    → Goes (choice_next choice call rest) rest (after_call call.file call.kind files) (after_next choice call rest image)
goes_more choice call rest files image goes = record {
  fit = second_true (fits call.file call.kind files) _ goes.fit;
  close = λ file on. ⊎_elim
      (λ same. subst (λ (n : ℕ). bytes_in (after_next choice call rest image) n ≡ bytes_in (after_call call.file call.kind files) n) same
      (here (subst (λ (n : ℕ). (is_synced n rest || goes_on (choice_next choice call rest)) ≡ true) (sym same) on)))
      (λ other. next_other choice call rest image file other.0 ∙ goes.close file (earlier choice file call rest on) ∙ sym (call_bytes_other call.file file call.kind files other.0))
      (same_or_other call.file file);
}
  where
    here : (is_synced call.file rest || goes_on (choice_next choice call rest)) ≡ true → bytes_in (after_next choice call rest image) call.file ≡ bytes_in (after_call call.file call.kind files) call.file
    here on = let close = goes.close call.file (earlier choice call.file call rest on) in
        elim (bool_cases (is_synced call.file rest)) [
          | inl whole ↦ rw whole (ap (λ (l : List (ℕ × List ℕ)). bytes_in l call.file) (part_whole call.file call.kind image) ∙ after_here call.file call.kind image files close)
          | inr part ↦
              let more = still_on choice (asked_by call.kind) (rw part at on) in
              rw part (ap (λ (l : List (ℕ × List ℕ)). bytes_in l call.file) (part_full choice call.file call.kind image more.0 more.1) ∙ after_here call.file call.kind image files close)
        ]

-- The image of each file is one of its crash images.

-- a file as it was, by its own calls and among all files, and what the image has of it so far
pub record Told (file : ℕ) (g : File) (files image : List (ℕ × List ℕ)) : Type 0 where
  pub bytes : g.bytes ≡ bytes_in files file
  pub own : IsImage g g.bytes
  pub kept : IsImage g (bytes_in image file)

fits_le : (at : ℕ) (bytes : List ℕ) → nat_le at (length bytes) ≡ true → at ≤ length bytes
fits_le at bytes is = grind (arith, nat_tests, is)

-- the first of a list, by its own length
taken : (len : ℕ) (bytes : List ℕ) → take (length (take len bytes)) bytes ≡ take len bytes
taken len bytes = ap (λ (n : ℕ). take n bytes) (length-take len bytes) ∙ take_min len bytes

-- a step done whole, on the contents
own_step : (file : ℕ) (kind : Kind) (g : File) (files : List (ℕ × List ℕ)) → g.bytes ≡ bytes_in files file → fits file kind files ≡ true → IsImage g g.bytes → IsImage (step_of kind g) (step_of kind g).bytes
own_step file (Write at bytes) g files is fit own =
    part_written g (step_of (Write at bytes) g) at bytes.items bytes.items (omega (arith, fits_le at (bytes_in files file) fit, ap length is)) (omega arith) own refl refl
own_step file (Cut len) g files is fit own =
    cut_image g (step_of (Cut len) g) len g.bytes (take len g.bytes) own refl refl (omega (arith, length-take len g.bytes)) (taken len g.bytes)
own_step file Sync g files is fit own = settled_contents (step_of Sync g) (record { synced = refl; steps = refl })

-- a step done as far as the choice goes
part_step : (choice : Choice) (file : ℕ) (kind : Kind) (g : File) (files image : List (ℕ × List ℕ)) → fits file kind files ≡ true → Told file g files image
    → (goes_on choice ≡ true → bytes_in image file ≡ bytes_in files file) → (syncs file file kind ≡ true → bytes_in image file ≡ bytes_in files file) → IsImage (step_of kind g) (bytes_in (part_call choice file kind image) file)
part_step choice file (Write at bytes) g files image fit told on sync = elim (bool_cases (goes_on choice)) [
  | inl more ↦
      let some : List ℕ = take (granted choice (length bytes.items)) bytes.items in
      let whole : bytes_in image file ≡ g.bytes = on more ∙ sym told.bytes in
      let done : IsImage (step_of (Write at bytes) g) (written at some g.bytes) =
      part_written g (step_of (Write at bytes) g) at bytes.items some (omega (arith, fits_le at (bytes_in files file) fit, ap length told.bytes)) (omega (arith, length-take (granted choice (length bytes.items)) bytes.items)) told.own refl refl in
      rw more (subst (λ (l : List ℕ). IsImage (step_of (Write at bytes) g) l) (sym (bytes_put_here file (written at some (bytes_in image file)) image ∙ ap (λ (l : List ℕ). written at some l) whole)) done)
  | inr none ↦ rw none (write_skipped g (step_of (Write at bytes) g) at bytes.items (bytes_in image file) told.kept refl refl)
]
part_step choice file (Cut len) g files image fit told on sync = elim (bool_cases (goes_on choice)) [
  | inl more ↦
      let some : List ℕ = take len (bytes_in image file) in
      let done : IsImage (step_of (Cut len) g) some = cut_image g (step_of (Cut len) g) len (bytes_in image file) some told.kept refl refl (omega (arith, length-take len (bytes_in image file))) (taken len (bytes_in image file)) in
      rw more (subst (λ (l : List ℕ). IsImage (step_of (Cut len) g) l) (sym (bytes_cut_here file len image)) done)
  | inr none ↦ rw none (cut_image g (step_of (Cut len) g) len (bytes_in image file) (bytes_in image file) told.kept refl refl (omega arith) (take_all (length (bytes_in image file)) (bytes_in image file) (omega arith)))
]
part_step choice file Sync g files image fit told on sync =
    subst (λ (l : List ℕ). IsImage (step_of Sync g) l) (told.bytes ∙ sym (sync (same_number file))) (settled_contents (step_of Sync g) (record { synced = refl; steps = refl }))

-- one call on, of the file that is called
told_here : (choice : Choice) (g : File) (call : Call) (rest : List Call) (files image : List (ℕ × List ℕ)) → Goes choice (call ∷ rest) files image → Told call.file g files image
    → Told call.file (if call.file == call.file then step_of call.kind g else g) (after_call call.file call.kind files) (after_next choice call rest image)
told_here choice g call rest files image goes told = rw (same_number call.file) (record {
  bytes = call_bytes_here call.file call.kind files g told.bytes;
  own = own_step call.file call.kind g files told.bytes fit told.own;
  kept = elim (bool_cases (is_synced call.file rest)) [
    | inl whole ↦ rw whole (part_step Whole call.file call.kind g files image fit told (λ on. close (or_true (syncs call.file call.file call.kind) (is_synced call.file rest) whole)) (λ is. close (either_true (syncs call.file call.file call.kind) (is_synced call.file rest) is)))
    | inr part ↦ rw part (part_step choice call.file call.kind g files image fit told (λ on. goes.close call.file (or_true (is_synced call.file (call ∷ rest)) (goes_on choice) on)) (λ is. close (either_true (syncs call.file call.file call.kind) (is_synced call.file rest) is)))
  ];
})
  where
    fit : fits call.file call.kind files ≡ true
    fit = first_true _ _ goes.fit

    close : is_synced call.file (call ∷ rest) ≡ true → bytes_in image call.file ≡ bytes_in files call.file
    close is = goes.close call.file (either_true (is_synced call.file (call ∷ rest)) (goes_on choice) is)

-- one call on
told_more : (choice : Choice) (file : ℕ) (g : File) (call : Call) (rest : List Call) (files image : List (ℕ × List ℕ)) → Goes choice (call ∷ rest) files image → Told file g files image
    → Told file (if call.file == file then step_of call.kind g else g) (after_call call.file call.kind files) (after_next choice call rest image)
told_more choice file g call rest files image goes told = ⊎_elim here elsewhere (same_or_other call.file file)
  where
    fit : fits call.file call.kind files ≡ true
    fit = first_true _ _ goes.fit

    elsewhere : (file ≢ call.file) × ((call.file == file) ≡ false) → Told file (if call.file == file then step_of call.kind g else g) (after_call call.file call.kind files) (after_next choice call rest image)
    elsewhere other = rw other.1 (record {
      bytes = told.bytes ∙ sym (call_bytes_other call.file file call.kind files other.0);
      own = told.own;
      kept = subst (λ (l : List ℕ). IsImage g l) (sym (next_other choice call rest image file other.0)) told.kept;
    })

    here : call.file ≡ file → Told file (if call.file == file then step_of call.kind g else g) (after_call call.file call.kind files) (after_next choice call rest image)
    here same = subst (λ (n : ℕ). Told n (if call.file == n then step_of call.kind g else g) (after_call call.file call.kind files) (after_next choice call rest image)) same
        (told_here choice g call rest files image goes (subst (λ (n : ℕ). Told n g files image) (sym same) told))

-- after all of them
pub told_image : (choice : Choice) (file : ℕ) (g : File) (past : List Call) (files image : List (ℕ × List ℕ)) → Goes choice past files image → Told file g files image → IsImage (replayed file g past) (bytes_in (image_of choice image past) file)
told_image choice file g [] files image goes told = told.kept
told_image choice file g (call ∷ rest) files image goes told =
    told_image (choice_next choice call rest) file (if call.file == file then step_of call.kind g else g) rest (after_call call.file call.kind files) (after_next choice call rest image)
    (goes_more choice call rest files image goes) (told_more choice file g call rest files image goes told)

-- all that was asked for
pub image_whole : (files : List (ℕ × List ℕ)) (past : List Call) → image_of Whole files past ≡ after_calls files past
image_whole files [] = refl
image_whole files (call ∷ rest) = elim (bool_cases (is_synced call.file rest)) [
  | inl whole ↦ rw whole (ap (λ (l : List (ℕ × List ℕ)). image_of Whole l rest) (part_whole call.file call.kind files) ∙ image_whole (after_call call.file call.kind files) rest)
  | inr part ↦ rw part (ap (λ (l : List (ℕ × List ℕ)). image_of Whole l rest) (part_whole call.file call.kind files) ∙ image_whole (after_call call.file call.kind files) rest)
]

still_synced : (call : Call) (rest : List Call) → choice_next Synced call rest ≡ Synced
still_synced call rest = elim (bool_cases (is_synced call.file rest)) [ inl whole ↦ rw whole refl | inr part ↦ rw part refl ]

part_none : (file : ℕ) (kind : Kind) (files : List (ℕ × List ℕ)) → part_call Synced file kind files ≡ files
part_none file (Write at bytes) files = refl
part_none file (Cut len) files = refl
part_none file Sync files = refl

-- The first bytes, where they are none and where they are all.

part_no_byte : (file : ℕ) (kind : Kind) (files : List (ℕ × List ℕ)) → part_call (FirstBytes 0) file kind files ≡ files
part_no_byte file (Write at bytes) files = refl
part_no_byte file (Cut len) files = refl
part_no_byte file Sync files = refl

still_no_byte : (call : Call) (rest : List Call) → choice_next (FirstBytes 0) call rest ≡ FirstBytes 0
still_no_byte call rest = elim (bool_cases (is_synced call.file rest)) [ inl whole ↦ rw whole refl | inr part ↦ rw part (ap (λ (n : ℕ). FirstBytes n) (let none : 0 - asked_by call.kind ≡ 0 = omega arith in none)) ]

next_no_byte : (call : Call) (rest : List Call) (files : List (ℕ × List ℕ)) → after_next (FirstBytes 0) call rest files ≡ after_next Synced call rest files
next_no_byte call rest files = elim (bool_cases (is_synced call.file rest)) [
  | inl whole ↦ rw whole refl
  | inr part ↦ rw part (part_no_byte call.file call.kind files ∙ sym (part_none call.file call.kind files))
]

-- no byte is what was synced
pub image_no_byte : (files : List (ℕ × List ℕ)) (past : List Call) → image_of (FirstBytes 0) files past ≡ image_of Synced files past
image_no_byte files [] = refl
image_no_byte files (call ∷ rest) =
    let after = after_next Synced call rest files in
    ap (λ (ch : Choice). image_of ch (after_next (FirstBytes 0) call rest files) rest) (still_no_byte call rest)
    ∙ ap (λ (l : List (ℕ × List ℕ)). image_of (FirstBytes 0) l rest) (next_no_byte call rest files)
    ∙ image_no_byte after rest ∙ ap (λ (ch : Choice). image_of ch after rest) (sym (still_synced call rest))

-- more bytes than are written are all that was asked for
pub image_each_byte : (left : ℕ) (files : List (ℕ × List ℕ)) (past : List Call) → asked_in past < left → image_of (FirstBytes left) files past ≡ image_of Whole files past
image_each_byte left files [] less = refl
image_each_byte left files (call ∷ rest) less = elim (bool_cases (is_synced call.file rest)) [
  | inl whole ↦ rw whole (image_each_byte left (part_call Whole call.file call.kind files) rest (omega (arith, less)))
  | inr part ↦
      let asked = asked_by call.kind in
      let on : nat_lt 0 left ≡ true = grind (arith, nat_tests, less) in
      let granted_all : min left asked ≡ asked = omega (arith, less) in
      rw part (ap (λ (l : List (ℕ × List ℕ)). image_of (FirstBytes (left - asked)) l rest) (part_full (FirstBytes left) call.file call.kind files on granted_all ∙ sym (part_whole call.file call.kind files))
      ∙ image_each_byte (left - asked) (part_call Whole call.file call.kind files) rest (omega (arith, less)))
]

-- what a step leaves synced, where no later call syncs the file
kept_here : (file : ℕ) (kind : Kind) (g : File) (files image : List (ℕ × List ℕ)) (later : Bool) → later ≡ false → g.bytes ≡ bytes_in files file
    → ((syncs file file kind || later) ≡ true → bytes_in image file ≡ bytes_in files file) → ((syncs file file kind || later) ≡ false → bytes_in image file ≡ g.synced) → bytes_in image file ≡ (step_of kind g).synced
kept_here file (Write at bytes) g files image later none is close kept = kept none
kept_here file (Cut len) g files image later none is close kept = kept none
kept_here file Sync g files image later none is close kept = close (either_true (file == file) later (same_number file)) ∙ sym is

syncs_other : (file other : ℕ) (kind : Kind) → (other == file) ≡ false → syncs file other kind ≡ false
syncs_other file other (Write at bytes) differs = refl
syncs_other file other (Cut len) differs = refl
syncs_other file other Sync differs = differs

-- what was synced of a file
pub synced_image : (file : ℕ) (g : File) (files image : List (ℕ × List ℕ)) (past : List Call) → Goes Synced past files image → g.bytes ≡ bytes_in files file → (is_synced file past ≡ false → bytes_in image file ≡ g.synced)
    → bytes_in (image_of Synced image past) file ≡ (replayed file g past).synced
synced_image file g files image [] goes is kept = kept refl
synced_image file g files image (call ∷ rest) goes is kept =
    ap (λ (ch : Choice). bytes_in (image_of ch (after_next Synced call rest image) rest) file) (still_synced call rest)
    ∙ synced_image file (if call.file == file then step_of call.kind g else g) (after_call call.file call.kind files) (after_next Synced call rest image) rest
    (subst (λ (ch : Choice). Goes ch rest (after_call call.file call.kind files) (after_next Synced call rest image)) (still_synced call rest) (goes_more Synced call rest files image goes))
    (call_bytes file call files g is)
    (λ none. ⊎_elim
    (λ same. here same none)
    (λ other. next_other Synced call rest image file other.0 ∙ kept (rw (syncs_other file call.file call.kind other.1) none) ∙ rw other.1 refl)
    (same_or_other call.file file))
  where
    here : call.file ≡ file → is_synced file rest ≡ false → bytes_in (after_next Synced call rest image) file ≡ (if call.file == file then step_of call.kind g else g).synced
    here same none =
        let here_is : (call.file == file) ≡ true = grind (arith, nat_tests, same) in
        let none_here : is_synced call.file rest ≡ false = ap (λ (n : ℕ). is_synced n rest) same ∙ none in
        rw here_is (rw none_here (ap (λ (l : List (ℕ × List ℕ)). bytes_in l file) (part_none call.file call.kind image)
        ∙ kept_here file call.kind g files image (is_synced file rest) none is
        (λ yes. goes.close file (either_true (is_synced file (call ∷ rest)) false (ap (λ (n : ℕ). syncs file n call.kind || is_synced file rest) same ∙ yes)))
        (λ not_yet. kept (ap (λ (n : ℕ). syncs file n call.kind || is_synced file rest) same ∙ not_yet))))

-- The loop over the calls.

-- the image so far, and what is still to be done
pub record SoFar (start : List (ℕ × List ℕ)) (calls : List Call) (first left : Choice) (place : ℕ) (image : List (ℕ × List ℕ)) : Type 0 where
  pub whole : image_of left image (drop place calls) ≡ image_of first start calls
  pub goes : Goes left (drop place calls) (after_calls start (take place calls)) image

-- one call on
pub so_far_more : (start : List (ℕ × List ℕ)) (calls later : List Call) (first left next : Choice) (place : ℕ) (image done : List (ℕ × List ℕ)) (call : Call) → SoFar start calls first left place image → place < length calls → call ≡ get_or calls place call
    → later ≡ drop (place + 1) calls → done ≡ after_next left call later image → next ≡ choice_next left call later → SoFar start calls first next (place + 1) done
so_far_more start calls later first left next place image done call so_far lt item rest files choice = record {
  whole =
      ap (λ (ch : Choice). image_of ch done (drop (place + 1) calls)) (choice ∙ ap (λ (l : List Call). choice_next left call l) rest)
      ∙ ap (λ (l : List (ℕ × List ℕ)). image_of (choice_next left call (drop (place + 1) calls)) l (drop (place + 1) calls)) (files ∙ ap (λ (l : List Call). after_next left call l image) rest)
      ∙ ap (λ (l : List Call). image_of left image l) (sym split) ∙ so_far.whole;
  goes = subst (λ (ch : Choice). Goes ch (drop (place + 1) calls) (after_calls start (take (place + 1) calls)) done) (sym (choice ∙ ap (λ (l : List Call). choice_next left call l) rest))
      (subst (λ (l : List (ℕ × List ℕ)). Goes (choice_next left call (drop (place + 1) calls)) (drop (place + 1) calls) (after_calls start (take (place + 1) calls)) l) (sym (files ∙ ap (λ (l : List Call). after_next left call l image) rest))
      (subst (λ (l : List (ℕ × List ℕ)). Goes (choice_next left call (drop (place + 1) calls)) (drop (place + 1) calls) l (after_next left call (drop (place + 1) calls) image)) (sym front)
      (goes_more left call (drop (place + 1) calls) (after_calls start (take place calls)) image (subst (λ (l : List Call). Goes left l (after_calls start (take place calls)) image) split so_far.goes))));
}
  where
    split : drop place calls ≡ call ∷ drop (place + 1) calls
    split = drop_more calls place call lt ∙ ap (λ (c : Call). c ∷ drop (place + 1) calls) (sym item)

    front : after_calls start (take (place + 1) calls) ≡ after_call call.file call.kind (after_calls start (take place calls))
    front = ap (λ (l : List Call). after_calls start l) (take_more calls place call lt ∙ ap (λ (c : Call). take place calls ++ c ∷ []) (sym item)) ∙ after_calls-push start (take place calls) call

-- whether a call is within its file depends on the file's bytes alone
fits_same : (file : ℕ) (kind : Kind) (one other : List (ℕ × List ℕ)) → bytes_in one file ≡ bytes_in other file → fits file kind one ≡ true → fits file kind other ≡ true
fits_same file (Write at bytes) one other same fit = ap (λ (l : List ℕ). nat_le at (length l)) (sym same) ∙ fit
fits_same file (Cut len) one other same fit = refl
fits_same file Sync one other same fit = refl

-- a call that is done is within its file
pub call_fits : (start : List (ℕ × List ℕ)) (calls later : List Call) (first left : Choice) (place : ℕ) (image : List (ℕ × List ℕ)) (call : Call) → SoFar start calls first left place image → place < length calls → call ≡ get_or calls place call
    → later ≡ drop (place + 1) calls → (is_synced call.file later || goes_on left) ≡ true → fits call.file call.kind image ≡ true
call_fits start calls later first left place image call so_far lt item rest on =
    fits_same call.file call.kind (after_calls start (take place calls)) image (sym (goes.close call.file more)) (first_true _ _ goes.fit)
  where
    split : drop place calls ≡ call ∷ drop (place + 1) calls
    split = drop_more calls place call lt ∙ ap (λ (c : Call). c ∷ drop (place + 1) calls) (sym item)

    goes : Goes left (call ∷ drop (place + 1) calls) (after_calls start (take place calls)) image
    goes = subst (λ (l : List Call). Goes left l (after_calls start (take place calls)) image) split so_far.goes

    more : (is_synced call.file (call ∷ drop (place + 1) calls) || goes_on left) ≡ true
    more = ⊎_elim
        (λ synced. either_true (is_synced call.file (call ∷ drop (place + 1) calls)) (goes_on left) (or_true (syncs call.file call.file call.kind) (is_synced call.file (drop (place + 1) calls)) (ap (λ (l : List Call). is_synced call.file l) (sym rest) ∙ synced)))
        (λ is. or_true (is_synced call.file (call ∷ drop (place + 1) calls)) (goes_on left) is)
        (which_true (is_synced call.file later) (goes_on left) on)

-- before the first
pub so_far_first : (start image : List (ℕ × List ℕ)) (calls : List Call) (first : Choice) → all_fit start calls ≡ true → image ≡ start → SoFar start calls first first 0 image
so_far_first start image calls first fit same = subst (λ (l : List (ℕ × List ℕ)). SoFar start calls first first 0 l) (sym same) (record { whole = refl; goes = goes_first first calls start fit })

-- behind the last
pub so_far_all : (start image : List (ℕ × List ℕ)) (calls : List Call) (first left : Choice) (place : ℕ) → SoFar start calls first left place image → length calls ≤ place → image ≡ image_of first start calls
so_far_all start image calls first left place so_far le = ap (λ (l : List Call). image_of left image l) (sym (drop_all place calls le)) ∙ so_far.whole

-- What an image has of each file.

abbrev start_of : MemoryStorage → List (ℕ × List ℕ)
start_of m = held m.start.items

abbrev calls_of : MemoryStorage → ℕ → List Call
calls_of m moment = until moment m.past.items

fitting : (m : MemoryStorage) (moment : ℕ) → all_fit (start_of m) (calls_of m moment) ≡ true
fitting m moment = until_fits moment (start_of m) m.past.items m.within

at_start : (start : List (ℕ × List ℕ)) (file : ℕ) → Told file (first_file start file) start start
at_start start file = record {
  bytes = refl;
  own = settled_contents (first_file start file) (record { synced = refl; steps = refl });
  kept = settled_contents (first_file start file) (record { synced = refl; steps = refl });
}

-- one of its crash images
pub image_is : (m : MemoryStorage) (moment : ℕ) (choice : Choice) (file : ℕ) → IsImage ((memory_disk m).at moment file) (bytes_in (image_of choice (start_of m) (calls_of m moment)) file)
image_is m moment choice file =
    told_image choice file (first_file (start_of m) file) (calls_of m moment) (start_of m) (start_of m) (goes_first choice (calls_of m moment) (start_of m) (fitting m moment)) (at_start (start_of m) file)

-- by `Whole` what a read gave
pub whole_is : (m : MemoryStorage) (moment : ℕ) (file : ℕ) → bytes_in (image_of Whole (start_of m) (calls_of m moment)) file ≡ ((memory_disk m).at moment file).bytes
whole_is m moment file =
    ap (λ (l : List (ℕ × List ℕ)). bytes_in l file) (image_whole (start_of m) (calls_of m moment))
    ∙ sym (replayed_bytes file (first_file (start_of m) file) (start_of m) (calls_of m moment) refl)

-- by `Synced` what was synced
pub synced_is : (m : MemoryStorage) (moment : ℕ) (file : ℕ) → bytes_in (image_of Synced (start_of m) (calls_of m moment)) file ≡ ((memory_disk m).at moment file).synced
synced_is m moment file =
    synced_image file (first_file (start_of m) file) (start_of m) (start_of m) (calls_of m moment) (goes_first Synced (calls_of m moment) (start_of m) (fitting m moment)) refl (λ none. refl)

-- by no byte what was synced
pub no_byte_is : (m : MemoryStorage) (moment : ℕ) (file : ℕ) → bytes_in (image_of (FirstBytes 0) (start_of m) (calls_of m moment)) file ≡ ((memory_disk m).at moment file).synced
no_byte_is m moment file = ap (λ (l : List (ℕ × List ℕ)). bytes_in l file) (image_no_byte (start_of m) (calls_of m moment)) ∙ synced_is m moment file

-- by more bytes than were written what a read gave
pub each_byte_is : (m : MemoryStorage) (moment n : ℕ) (file : ℕ) → asked_in (calls_of m moment) < n → bytes_in (image_of (FirstBytes n) (start_of m) (calls_of m moment)) file ≡ ((memory_disk m).at moment file).bytes
each_byte_is m moment n file less = ap (λ (l : List (ℕ × List ℕ)). bytes_in l file) (image_each_byte n (start_of m) (calls_of m moment) less) ∙ whole_is m moment file

-- the contents of what holds them
pub holding_bytes : (files want : List (ℕ × List ℕ)) (made : MemoryStorage) (file : ℕ) → Holding files made → files ≡ want → contents (memory_disk made) file ≡ bytes_in want file
holding_bytes files want made file holding same = ap (λ (f : File). f.bytes) (holding.each file) ∙ ap (λ (l : List (ℕ × List ℕ)). bytes_in l file) same

-- the contents of an image, by its choice
pub chosen_bytes : (m : MemoryStorage) (moment : ℕ) (choice one : Choice) (files : List (ℕ × List ℕ)) (made : MemoryStorage) (file : ℕ) (want : List ℕ) → choice ≡ one → Holding files made → files ≡ image_of choice (start_of m) (calls_of m moment)
    → bytes_in (image_of one (start_of m) (calls_of m moment)) file ≡ want → contents (memory_disk made) file ≡ want
chosen_bytes m moment choice one files made file want is holding chosen bytes =
    holding_bytes files (image_of choice (start_of m) (calls_of m moment)) made file holding chosen
    ∙ ap (λ (ch : Choice). bytes_in (image_of ch (start_of m) (calls_of m moment)) file) is ∙ bytes

-- and nothing is pending
pub holding_settled : (files : List (ℕ × List ℕ)) (made : MemoryStorage) (file : ℕ) → Holding files made → IsSettled (now (memory_disk made) file)
holding_settled files made file holding = subst IsSettled (sym (holding.each file)) (record { synced = refl; steps = refl })

module _ (m : MemoryStorage) (moment : ℕ) (given : List FileBytes) (walked calls : List Call) (start_is : given ≡ m.start.items) (past_is : walked ≡ m.past.items) (calls_are : calls ≡ until moment walked) where
  -- the calls that were taken
  taken_calls : calls ≡ calls_of m moment
  taken_calls = calls_are ∙ ap (λ (l : List Call). until moment l) past_is

  pub fitting_for : all_fit (held given) calls ≡ true
  fitting_for = ap (λ (l : List FileBytes). all_fit (held l) calls) start_is ∙ ap (λ (l : List Call). all_fit (start_of m) l) taken_calls ∙ fitting m moment

  pub chosen_for : (choice : Choice) (files : List (ℕ × List ℕ)) → files ≡ image_of choice (held given) calls → files ≡ image_of choice (start_of m) (calls_of m moment)
  chosen_for choice files is = is ∙ ap (λ (l : List FileBytes). image_of choice (held l) calls) start_is ∙ ap (λ (l : List Call). image_of choice (start_of m) l) taken_calls

-- What a read gives of a file is one of its crash images, as long as each write began at its end or before it.
use Rattle.std.proofs.Common.{◌≡◌, ◌⊎◌, inl, inr, ⊎_elim, ℕ, ◌+◌, ◌-◌, ◌<◌, ◌≤◌, min, max, List, ◌∷◌, ◌++◌, length, take, drop, get_or, Result, Ok, Err, sym, ◌∙◌, ap, subst, arith, length-append}
use Rattle.std.proofs.lemmas.List.{length-take, length-drop, length-take-le, get_or-take, get_or-drop, get_or_append_left, get_or-append_right}
use Rattle.disk_model.specs.declared.storage.Failed.{Failed}
use Rattle.disk_model.specs.File.{File, Step, Wrote, CutTo, written, least, greatest, IsWritten, IsImage, IsSettled, Torn, Writes, Cuts, Syncs}

-- the length after a write
pub length-written : (at : ℕ) (bytes old : List ℕ) → at ≤ length old → length (written at bytes old) ≡ max (length old) (at + length bytes)
length-written at bytes old le =
    omega (arith, length-append (take at old ++ bytes) (drop (at + length bytes) old), length-append (take at old) bytes, length-take-le at old le, length-drop (at + length bytes) old)

-- what lies before it stays
pub written_before : (at i : ℕ) (bytes old : List ℕ) → at ≤ length old → i < at → get_or (written at bytes old) i 0 ≡ get_or old i 0
written_before at i bytes old le lt =
    let front : length (take at old) ≡ at = length-take-le at old le in
    get_or_append_left (take at old ++ bytes) (drop (at + length bytes) old) 0 i (omega (arith, front, length-append (take at old) bytes))
    ∙ get_or_append_left (take at old) bytes 0 i (omega (arith, front)) ∙ get_or-take at old i 0 lt

-- what lies behind it stays
pub written_behind : (at i : ℕ) (bytes old : List ℕ) → at ≤ length old → at + length bytes ≤ i → get_or (written at bytes old) i 0 ≡ get_or old i 0
written_behind at i bytes old le past =
    let front : length (take at old ++ bytes) ≡ at + length bytes = omega (arith, length-append (take at old) bytes, length-take-le at old le) in
    get_or-append_right (take at old ++ bytes) (drop (at + length bytes) old) (at + length bytes) i 0 front past
    ∙ get_or-drop (at + length bytes) old (i - (at + length bytes)) 0
    ∙ ap (λ (n : ℕ). get_or old n 0) (omega arith)

-- a place is before a range, in it or behind it
sides : (at n i : ℕ) → (i < at) ⊎ (((at ≤ i) × (i < at + n)) ⊎ (at + n ≤ i))
sides at n i = grind arith

-- before the first call
pub settled_contents : (file : File) → IsSettled file → IsImage file file.bytes
settled_contents file is = record {
  no_shorter = omega (arith, ap length is.synced, ap (λ (l : List Step). least file.synced l) is.steps);
  no_longer = omega (arith, ap length is.synced, ap (λ (l : List Step). greatest file.synced l) is.steps);
  kept = λ i lt below not_written. ap (λ (l : List ℕ). get_or l i 0) (sym is.synced);
}

-- A write of which a first part was done, on the contents: an image.
pub part_written : (file new : File) (at : ℕ) (bytes some : List ℕ) → at ≤ length file.bytes → length some ≤ length bytes → IsImage file file.bytes → new.synced ≡ file.synced → new.steps ≡ Wrote at bytes ∷ file.steps
    → IsImage new (written at some file.bytes)
part_written file new at bytes some le part is synced steps = record {
  no_shorter = omega (arith, long, is.no_shorter, ap (λ (l : List ℕ). least l new.steps) synced, ap (λ (l : List Step). least file.synced l) steps);
  no_longer = omega (arith, long, is.no_longer, part, ap (λ (l : List ℕ). greatest l new.steps) synced, ap (λ (l : List Step). greatest file.synced l) steps);
  kept = λ i lt below not_written.
      let away : ¬ (IsWritten (Wrote at bytes ∷ file.steps) i) = λ one. not_written (subst (λ (l : List Step). IsWritten l i) (sym steps) one) in
      let old_below : i < length file.synced = omega (arith, below, ap length synced) in
      ⊎_elim
      (λ before. written_before at i some file.bytes le before ∙ is.kept i (omega (arith, le, before)) old_below (λ older. away (inr older)) ∙ ap (λ (l : List ℕ). get_or l i 0) (sym synced))
      (λ rest. ⊎_elim (λ within. absurd (away (inl within)))
      (λ behind. written_behind at i some file.bytes le (omega (arith, behind, part)) ∙ is.kept i (omega (arith, lt, long, behind, part)) old_below (λ older. away (inr older)) ∙ ap (λ (l : List ℕ). get_or l i 0) (sym synced))
      rest)
      (sides at (length bytes) i);
}
  where
    long : length (written at some file.bytes) ≡ max (length file.bytes) (at + length some)
    long = length-written at some file.bytes le

-- A write of which nothing was done leaves an image one.
pub write_skipped : (file new : File) (at : ℕ) (bytes image : List ℕ) → IsImage file image → new.synced ≡ file.synced → new.steps ≡ Wrote at bytes ∷ file.steps → IsImage new image
write_skipped file new at bytes image is synced steps = record {
  no_shorter = omega (arith, is.no_shorter, ap (λ (l : List ℕ). least l new.steps) synced, ap (λ (l : List Step). least file.synced l) steps);
  no_longer = omega (arith, is.no_longer, ap (λ (l : List ℕ). greatest l new.steps) synced, ap (λ (l : List Step). greatest file.synced l) steps);
  kept = λ i lt below not_written. is.kept i lt (omega (arith, below, ap length synced)) (λ older. not_written (subst (λ (l : List Step). IsWritten l i) (sym steps) (inr older))) ∙ ap (λ (l : List ℕ). get_or l i 0) (sym synced);
}

-- A cut, done or not or in part, leaves an image one.
pub cut_image : (file new : File) (len : ℕ) (image kept : List ℕ) → IsImage file image → new.synced ≡ file.synced → new.steps ≡ CutTo len ∷ file.steps
    → min len (length image) ≤ length kept → take (length kept) image ≡ kept → IsImage new kept
cut_image file new len image kept is synced steps long front = record {
  no_shorter = omega (arith, long, is.no_shorter, ap (λ (l : List ℕ). least l new.steps) synced, ap (λ (l : List Step). least file.synced l) steps);
  no_longer = omega (arith, short, is.no_longer, ap (λ (l : List ℕ). greatest l new.steps) synced, ap (λ (l : List Step). greatest file.synced l) steps);
  kept = λ i lt below not_written.
      ap (λ (l : List ℕ). get_or l i 0) (sym front) ∙ get_or-take (length kept) image i 0 lt
      ∙ is.kept i (omega (arith, lt, short)) (omega (arith, below, ap length synced)) (λ older. not_written (subst (λ (l : List Step). IsWritten l i) (sym steps) older)) ∙ ap (λ (l : List ℕ). get_or l i 0) (sym synced);
}
  where
    short : length kept ≤ length image
    short = omega (arith, ap length front, length-take (length kept) image)

-- A write that failed, on the contents: an image.
torn_write : (file new : File) (at : ℕ) (bytes : List ℕ) → at ≤ length file.bytes → IsImage file file.bytes → new.synced ≡ file.synced → new.steps ≡ Wrote at bytes ∷ file.steps → Torn at (length bytes) file.bytes new.bytes → IsImage new new.bytes
torn_write file new at bytes le is synced steps torn = record {
  no_shorter = omega (arith, torn.no_shorter, is.no_shorter, ap (λ (l : List ℕ). least l new.steps) synced, ap (λ (l : List Step). least file.synced l) steps);
  no_longer = omega (arith, torn.no_longer, is.no_longer, ap (λ (l : List ℕ). greatest l new.steps) synced, ap (λ (l : List Step). greatest file.synced l) steps);
  kept = λ i lt below not_written.
      let away : ¬ (IsWritten (Wrote at bytes ∷ file.steps) i) = λ one. not_written (subst (λ (l : List Step). IsWritten l i) (sym steps) one) in
      let old_below : i < length file.synced = omega (arith, below, ap length synced) in
      ⊎_elim
      (λ before. same_before i before ∙ is.kept i (omega (arith, le, before)) old_below (λ older. away (inr older)) ∙ ap (λ (l : List ℕ). get_or l i 0) (sym synced))
      (λ rest. ⊎_elim (λ within. absurd (away (inl within)))
      (λ behind. same_behind i behind ∙ is.kept i (omega (arith, lt, behind, torn.no_longer)) old_below (λ older. away (inr older)) ∙ ap (λ (l : List ℕ). get_or l i 0) (sym synced))
      rest)
      (sides at (length bytes) i);
}
  where
    same_before : (i : ℕ) → i < at → get_or new.bytes i 0 ≡ get_or file.bytes i 0
    same_before i lt = sym (get_or-take at new.bytes i 0 lt) ∙ ap (λ (l : List ℕ). get_or l i 0) torn.before ∙ get_or-take at file.bytes i 0 lt

    same_behind : (i : ℕ) → at + length bytes ≤ i → get_or new.bytes i 0 ≡ get_or file.bytes i 0
    same_behind i le =
        let place : at + length bytes + (i - (at + length bytes)) ≡ i = omega (arith, le) in
        ap (λ (n : ℕ). get_or new.bytes n 0) (sym place) ∙ sym (get_or-drop (at + length bytes) new.bytes (i - (at + length bytes)) 0)
        ∙ ap (λ (l : List ℕ). get_or l (i - (at + length bytes)) 0) torn.after
        ∙ get_or-drop (at + length bytes) file.bytes (i - (at + length bytes)) 0 ∙ ap (λ (n : ℕ). get_or file.bytes n 0) place

-- For callers: the contents stay a crash image over a write from the end or before it, over a cut and over a sync, whatever they answer.
pub write_stays_image : (at : ℕ) (bytes : List ℕ) (result : Result Unit Failed) (old new : File) → at ≤ length old.bytes → IsImage old old.bytes → Writes at bytes result old new → IsImage new new.bytes
write_stays_image at bytes (Ok done) old new le is writes =
    subst (λ (l : List ℕ). IsImage new l) (sym writes.ok) (part_written old new at bytes bytes le (omega arith) is writes.synced writes.steps)
write_stays_image at bytes (Err failed) old new le is writes = torn_write old new at bytes le is writes.synced writes.steps writes.err

pub cut_stays_image : (len : ℕ) (result : Result Unit Failed) (old new : File) → len ≤ length old.bytes → IsImage old old.bytes → Cuts len result old new → IsImage new new.bytes
cut_stays_image len (Ok done) old new le is cuts =
    cut_image old new len old.bytes new.bytes is cuts.synced cuts.steps (omega (arith, ap length cuts.ok, length-take len old.bytes))
    (ap (λ (l : List ℕ). take (length l) old.bytes) cuts.ok ∙ ap (λ (n : ℕ). take n old.bytes) (length-take-le len old.bytes le) ∙ sym cuts.ok)
cut_stays_image len (Err failed) old new le is cuts =
    cut_image old new len old.bytes new.bytes is cuts.synced cuts.steps (omega (arith, cuts.err.no_shorter)) cuts.err.front

pub sync_stays_image : (result : Result Unit Failed) (old new : File) → IsImage old old.bytes → Syncs result old new → IsImage new new.bytes
sync_stays_image (Ok done) old new is syncs =
    settled_contents new (record { synced = ap (λ (f : File). f.synced) syncs.ok ∙ sym (ap (λ (f : File). f.bytes) syncs.ok); steps = ap (λ (f : File). f.steps) syncs.ok })
sync_stays_image (Err failed) old new is syncs = subst (λ (f : File). IsImage f f.bytes) (sym syncs.err) is

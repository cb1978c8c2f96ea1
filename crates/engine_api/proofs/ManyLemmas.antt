-- One engine of a list syncs, and the others stay.
use Rattle.std.proofs.Common.{◌≡◌, ◌⊎◌, inl, inr, ⊎_elim, ℕ, zero, suc, ◌<◌, ◌≤◌, List, [], ◌∷◌, map, set, get_or, length, take, refl, sym, ap, subst, ◌∙◌, arith}
use Rattle.std.specs.Prelude.{Contains, All}
use Rattle.std.proofs.lemmas.List.Elements.{Contains-append_left, Contains-append_right}
use Rattle.disk_model.specs.File.{File, IsSettled}
use Rattle.log_tables.specs.declared.gist.Gist.{Gist}
use Rattle.engine_api.specs.States.{Kind, EngineState, synced_state}
use Rattle.engine_api.specs.Reads.{Reading, SameReading, AreFaithful, EachReads}
use Rattle.engine_api.specs.Calls.{IsSame}
use Rattle.engine_api.specs.Many.{Working, AreApart, IsApartFrom, AllApart, IsAtWork, AllAtWork, IsFileOf, while_syncing, AllRead, SyncedUpTo, AllSynced, AllSettled}

pub first_of : (x : ℕ) (xs : List ℕ) → Contains (x ∷ xs) x
first_of x xs = (0, omega arith, refl)

later_of : (x y : ℕ) (xs : List ℕ) → Contains xs y → Contains (x ∷ xs) y
later_of x y xs h = let lt = h.1 in (suc h.0, omega arith, h.2)

-- files that agree on some numbers are the same there
pub same_files : (numbers : List ℕ) (files was : ℕ → File) → ((f : ℕ) → Contains numbers f → files f ≡ was f) → map files numbers ≡ map was numbers
same_files [] files was h = refl
same_files (x ∷ xs) files was h = ap (λ y. y ∷ map files xs) (h x (first_of x xs)) ∙ ap (λ ys. was x ∷ ys) (same_files xs files was (λ f there. h f (later_of x f xs there)))

-- a call that touches the files of one engine leaves those of another
pub others_same : (these those : List ℕ) (files was : ℕ → File) → AreApart these those → ((f : ℕ) → (Contains these f → ⊥) → files f ≡ was f) → map files those ≡ map was those
others_same these those files was apart h = same_files those files was (λ f there. h f (λ here. apart f here there))

-- faithful images are faithful by the same reading
pub faithful_as : (old new : Reading) (place : ℕ) (files : List File) (images : List (List ℕ)) → SameReading old new → AreFaithful old place files images → AreFaithful new place files images
faithful_as old new place [] [] same h = tt
faithful_as old new place [] (image ∷ images) same h = absurd h
faithful_as old new place (file ∷ files) [] same h = absurd h
faithful_as old new place (file ∷ files) (image ∷ images) same h = (same.faithful_back place file image h.0, faithful_as old new (suc place) files images same h.1)

-- images that read by a reading as some gists read so by the same one as more
pub reads_as : (old new : Reading) (few more : List Gist) (files : List File) → SameReading old new → ((g : Gist) → Contains few g → Contains more g)
    → EachReads new few files → EachReads old more files
reads_as old new few more files same wider reads images faithful =
    let it = reads images (faithful_as old new 0 files images same faithful) in
    (it.0, wider it.0 it.1, same.stands images it.0 it.2)

-- what is said of an engine that is as it was, or has synced, is said of it as it was
come_reads : (old new : Working) (files : List File) → IsSame old.kind new.kind old.reading new.reading
    → (new.state ≡ old.state) ⊎ (new.state ≡ synced_state old.state) → EachReads new.reading new.state.kept files → EachReads old.reading (while_syncing old.state) files
come_reads old new files same is reads = ⊎_elim
    (λ e. reads_as old.reading new.reading new.state.kept (while_syncing old.state) files same.reading
    (λ g h. Contains-append_left old.state.kept (old.state.gist ∷ []) g (subst (λ (s : EngineState). Contains s.kept g) e h)) reads)
    (λ e. reads_as old.reading new.reading new.state.kept (while_syncing old.state) files same.reading
    (λ g h. Contains-append_right old.state.kept (old.state.gist ∷ []) g (subst (λ (s : EngineState). Contains s.kept g) e h)) reads)
    is

-- The lists of this file are of any X, with what each X tells: boxes are such.

abbrev pub kinds_of : {X : Type 0} → (X → Working) → List X → List Kind
kinds_of tells xs = map (λ x. (tells x).kind) xs

-- the engine at a place has a kind, and is apart from each engine at another
apart_at : {X : Type 0} (tells : X → Working) (kind : Kind) (xs : List X) (n : ℕ) (d : X) → n < length xs → IsApartFrom kind (kinds_of tells xs) → AreApart kind.files (tells (get_or xs n d)).kind.files
apart_at tells kind [] n d lt h = absurd (omega (arith, lt))
apart_at tells kind (x ∷ xs) zero d lt h = h.0
apart_at tells kind (x ∷ xs) (suc n) d lt h = apart_at tells kind xs n d (omega (arith, lt)) h.1

turned : (these those : List ℕ) → AreApart these those → AreApart those these
turned these those h f one other = h f other one

-- an engine whose files stay is at work as before
stays_at_work : (it : Working) (these : List ℕ) (files was : ℕ → File) → AreApart these it.kind.files → ((f : ℕ) → (Contains these f → ⊥) → files f ≡ was f) → IsAtWork it was → IsAtWork it files
stays_at_work it these files was apart others h =
    let same = sym (others_same these it.kind.files files was apart others) in
    record { holds = subst it.holds same h.holds; reads = subst (EachReads it.reading it.state.kept) same h.reads }

-- and so are all engines that are apart from these files
stay_at_work : {X : Type 0} (tells : X → Working) (kind : Kind) (xs : List X) (files was : ℕ → File) → IsApartFrom kind (kinds_of tells xs)
    → ((f : ℕ) → (Contains kind.files f → ⊥) → files f ≡ was f) → AllAtWork (map tells xs) was → AllAtWork (map tells xs) files
stay_at_work tells kind [] files was apart others h = tt
stay_at_work tells kind (x ∷ xs) files was apart others h =
    (stays_at_work (tells x) kind.files files was apart.0 others h.0, stay_at_work tells kind xs files was apart.1 others h.1)

-- One engine turned: each is at work.
pub work_after : {X : Type 0} (tells : X → Working) (xs : List X) (n : ℕ) (y d : X) (files was : ℕ → File) → n < length xs → AllApart (kinds_of tells xs)
    → ((f : ℕ) → (Contains (tells (get_or xs n d)).kind.files f → ⊥) → files f ≡ was f) → AllAtWork (map tells xs) was → IsAtWork (tells y) files → AllAtWork (map tells (set xs n y)) files
work_after tells [] n y d files was lt apart others h here = absurd (omega (arith, lt))
work_after tells (x ∷ xs) zero y d files was lt apart others h here = (here, stay_at_work tells (tells x).kind xs files was apart.0 others h.1)
work_after tells (x ∷ xs) (suc n) y d files was lt apart others h here =
    let within : n < length xs = omega (arith, lt) in
    let away = turned (tells x).kind.files (tells (get_or xs n d)).kind.files (apart_at tells (tells x).kind xs n d within apart.0) in
    (stays_at_work (tells x) (tells (get_or xs n d)).kind.files files was away others h.0, work_after tells xs n y d files was within apart.1 others h.1 here)

-- One engine synced: its files are settled, and those of the ones before it stay so.
pub settled_after : {X : Type 0} (tells : X → Working) (xs : List X) (n : ℕ) (d : X) (files was : ℕ → File) → n < length xs → AllApart (kinds_of tells xs)
    → ((f : ℕ) → (Contains (tells (get_or xs n d)).kind.files f → ⊥) → files f ≡ was f) → AllSettled (take n (kinds_of tells xs)) was
    → All IsSettled (map files (tells (get_or xs n d)).kind.files) → AllSettled (take (suc n) (kinds_of tells xs)) files
settled_after tells [] n d files was lt apart others h here = absurd (omega (arith, lt))
settled_after tells (x ∷ xs) zero d files was lt apart others h here = (here, tt)
settled_after tells (x ∷ xs) (suc n) d files was lt apart others h here =
    let within : n < length xs = omega (arith, lt) in
    let away = turned (tells x).kind.files (tells (get_or xs n d)).kind.files (apart_at tells (tells x).kind xs n d within apart.0) in
    let same = sym (others_same (tells (get_or xs n d)).kind.files (tells x).kind.files files was away others) in
    (subst (All IsSettled) same h.0, settled_after tells xs n d files was within apart.1 others h.1 here)

-- an engine that came from one and whose files are the same reads as that one may
one_reads : (old new : Working) (files was : ℕ → File) → IsSame old.kind new.kind old.reading new.reading → (new.state ≡ old.state) ⊎ (new.state ≡ synced_state old.state)
    → map files new.kind.files ≡ map was new.kind.files → IsAtWork new was → EachReads old.reading (while_syncing old.state) (map files old.kind.files)
one_reads old new files was same is stay work =
    let at : map files old.kind.files ≡ map was new.kind.files = ap (λ (k : Kind). map files k.files) (sym same.kind) ∙ stay in
    subst (EachReads old.reading (while_syncing old.state)) (sym at) (come_reads old new (map was new.kind.files) same is work.reads)

-- engines apart from some files read as they may
others_read : {X : Type 0} (tells : X → Working) (kind : Kind) (os xs : List X) (files was : ℕ → File) → IsApartFrom kind (kinds_of tells xs)
    → ((f : ℕ) → (Contains kind.files f → ⊥) → files f ≡ was f) → SyncedUpTo 0 (map tells os) (map tells xs) → AllAtWork (map tells xs) was → AllRead (map tells os) files
others_read tells kind [] [] files was apart others far h = tt
others_read tells kind [] (x ∷ xs) files was apart others far h = absurd far
others_read tells kind (o ∷ os) [] files was apart others far h = absurd far
others_read tells kind (o ∷ os) (x ∷ xs) files was apart others far h = (
  one_reads (tells o) (tells x) files was far.0 (inl far.1) (others_same kind.files (tells x).kind.files files was apart.0 others) h.0,
  others_read tells kind os xs files was apart.1 others far.2 h.1,
)

-- While one engine turns, each reads as it may.
pub read_while : {X : Type 0} (tells : X → Working) (os xs : List X) (n : ℕ) (d : X) (files was : ℕ → File) → n < length xs → AllApart (kinds_of tells xs)
    → ((f : ℕ) → (Contains (tells (get_or xs n d)).kind.files f → ⊥) → files f ≡ was f) → SyncedUpTo n (map tells os) (map tells xs) → AllAtWork (map tells xs) was
    → EachReads (tells (get_or xs n d)).reading (while_syncing (tells (get_or xs n d)).state) (map files (tells (get_or xs n d)).kind.files) → AllRead (map tells os) files
read_while tells os [] n d files was lt apart others far h here = absurd (omega (arith, lt))
read_while tells [] (x ∷ xs) n d files was lt apart others far h here = absurd far
read_while tells (o ∷ os) (x ∷ xs) zero d files was lt apart others far h here =
    let one = tells o in
    let other = tells x in
    let at : map files one.kind.files ≡ map files other.kind.files = ap (λ (k : Kind). map files k.files) (sym far.0.kind) in (
      subst (EachReads one.reading (while_syncing one.state)) (sym at)
          (reads_as one.reading other.reading (while_syncing other.state) (while_syncing one.state) (map files other.kind.files) far.0.reading (λ g h. subst (λ (s : EngineState). Contains (while_syncing s) g) far.1 h) here),
      others_read tells other.kind os xs files was apart.0 others far.2 h.1,
    )
read_while tells (o ∷ os) (x ∷ xs) (suc n) d files was lt apart others far h here =
    let within : n < length xs = omega (arith, lt) in
    let away = turned (tells x).kind.files (tells (get_or xs n d)).kind.files (apart_at tells (tells x).kind xs n d within apart.0) in (
      one_reads (tells o) (tells x) files was far.0 (inr far.1) (others_same (tells (get_or xs n d)).kind.files (tells x).kind.files files was away others) h.0,
      read_while tells os xs n d files was within apart.1 others far.2 h.1 here,
    )

pub same_reading : (a b c : Reading) → SameReading a b → SameReading b c → SameReading a c
same_reading a b c p q = record {
  faithful = λ k f i h. p.faithful k f i (q.faithful k f i h);
  faithful_back = λ k f i h. q.faithful_back k f i (p.faithful_back k f i h);
  stands = λ i g h. p.stands i g (q.stands i g h);
  stands_back = λ i g h. q.stands_back i g (p.stands_back i g h);
}

pub same_itself : (r : Reading) → SameReading r r
same_itself r = record { faithful = λ k f i h. h; faithful_back = λ k f i h. h; stands = λ i g h. h; stands_back = λ i g h. h }

-- One engine more has synced.
pub one_more : {X : Type 0} (tells : X → Working) (os xs : List X) (n : ℕ) (y d : X) → n < length xs → SyncedUpTo n (map tells os) (map tells xs)
    → IsSame (tells (get_or xs n d)).kind (tells y).kind (tells (get_or xs n d)).reading (tells y).reading → (tells y).state ≡ synced_state (tells (get_or xs n d)).state
    → SyncedUpTo (suc n) (map tells os) (map tells (set xs n y))
one_more tells os [] n y d lt far same is = absurd (omega (arith, lt))
one_more tells [] (x ∷ xs) n y d lt far same is = absurd far
one_more tells (o ∷ os) (x ∷ xs) zero y d lt far same is =
    (record { kind = same.kind ∙ far.0.kind; reading = same_reading (tells o).reading (tells x).reading (tells y).reading far.0.reading same.reading }, is ∙ ap synced_state far.1, far.2)
one_more tells (o ∷ os) (x ∷ xs) (suc n) y d lt far same is = (far.0, far.1, one_more tells os xs n y d (omega (arith, lt)) far.2 same is)

-- None has synced yet.
pub none_yet : {X : Type 0} (tells : X → Working) (xs : List X) → SyncedUpTo 0 (map tells xs) (map tells xs)
none_yet tells [] = tt
none_yet tells (x ∷ xs) = (record { kind = refl; reading = same_itself (tells x).reading }, refl, none_yet tells xs)

-- All have.
pub all_have : {X : Type 0} (tells : X → Working) (os xs : List X) (n : ℕ) → length xs ≤ n → SyncedUpTo n (map tells os) (map tells xs) → AllSynced (map tells os) (map tells xs)
all_have tells [] [] n le far = tt
all_have tells [] (x ∷ xs) n le far = absurd far
all_have tells (o ∷ os) [] n le far = absurd far
all_have tells (o ∷ os) (x ∷ xs) zero le far = absurd (omega (arith, le))
all_have tells (o ∷ os) (x ∷ xs) (suc n) le far = (far.0, far.1, all_have tells os xs n (omega (arith, le)) far.2)

-- The files of all are settled.
pub all_settled : {X : Type 0} (tells : X → Working) (os xs : List X) (n : ℕ) (files : ℕ → File) → length xs ≤ n → SyncedUpTo n (map tells os) (map tells xs)
    → AllSettled (take n (map (λ it. it.kind) (map tells os))) files → AllSettled (kinds_of tells os) files
all_settled tells [] xs n files le far h = tt
all_settled tells (o ∷ os) [] n files le far h = absurd far
all_settled tells (o ∷ os) (x ∷ xs) zero files le far h = absurd (omega (arith, le))
all_settled tells (o ∷ os) (x ∷ xs) (suc n) files le far h = (h.0, all_settled tells os xs n files (omega (arith, le)) far.2 h.1)

-- the kinds are what they were
pub same_kinds : {X : Type 0} (tells : X → Working) (os xs : List X) (n : ℕ) → SyncedUpTo n (map tells os) (map tells xs) → kinds_of tells xs ≡ kinds_of tells os
same_kinds tells [] [] n far = refl
same_kinds tells [] (x ∷ xs) n far = absurd far
same_kinds tells (o ∷ os) [] n far = absurd far
same_kinds tells (o ∷ os) (x ∷ xs) zero far = ap (λ k. k ∷ kinds_of tells xs) far.0.kind ∙ ap (λ ks. (tells o).kind ∷ ks) (same_kinds tells os xs zero far.2)
same_kinds tells (o ∷ os) (x ∷ xs) (suc n) far = ap (λ k. k ∷ kinds_of tells xs) far.0.kind ∙ ap (λ ks. (tells o).kind ∷ ks) (same_kinds tells os xs n far.2)

-- the kinds of what is told
pub told_kinds : {X : Type 0} (tells : X → Working) (xs : List X) → map (λ it. it.kind) (map tells xs) ≡ kinds_of tells xs
told_kinds tells [] = refl
told_kinds tells (x ∷ xs) = ap (λ ks. (tells x).kind ∷ ks) (told_kinds tells xs)

-- a file of the engine at a place is one of the engines'
pub file_at : {X : Type 0} (tells : X → Working) (xs : List X) (n : ℕ) (d : X) (f : ℕ) → n < length xs → Contains (tells (get_or xs n d)).kind.files f → IsFileOf (kinds_of tells xs) f
file_at tells [] n d f lt h = absurd (omega (arith, lt))
file_at tells (x ∷ xs) zero d f lt h = inl h
file_at tells (x ∷ xs) (suc n) d f lt h = inr (file_at tells xs n d f (omega (arith, lt)) h)

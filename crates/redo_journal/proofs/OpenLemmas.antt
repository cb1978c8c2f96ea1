-- An opening: what was read, and what a crash leaves at each moment of it.
use Rattle.std.proofs.Common.{◌≡◌, inl, inr, ⊎_elim, ℕ, ◌+◌, ◌<◌, ◌≤◌, Option, Some, None, List, [], ◌++◌, length, take, drop, Result, Ok, Err, OnOk, IsErr, IsTrue, refl, sym, ◌∙◌, ap, subst, arith, length-append}
use Rattle.std.proofs.lemmas.List.{append-nil, take_all, drop_all}
use Rattle.disk_model.specs.declared.storage.Failed.{Failed}
use Rattle.disk_model.specs.File.{File, CutTo, IsImage, IsSettled, Syncs, Stays}
use Rattle.disk_model.specs.Start.{settled}
use Rattle.disk_model.specs.Disk.{Disk, now, contents, Called, Fills, Keeps}
use Rattle.disk_model.specs.Looking.{IsUntouched, LooksOnly}
use Rattle.disk_model.specs.Staged.{IsChanging, as_was, synced, stepping, changed, Changes}
use Rattle.disk_model.proofs.Moments.{started, goes_on, both, weaker, done_ok, still_told}
use Rattle.disk_model.proofs.LookingLemmas.{looks_more, looked, looked_contents, looks_told}
use Rattle.disk_model.proofs.StagedLemmas.{is_settled, settled_image, cut_short, sync_cases, rose_on, err_ok}
use Rattle.framed_file.specs.Framed.{IsPrefix, header_len}
use Rattle.redo_journal.specs.declared.record.Record.{Record}
use Rattle.redo_journal.specs.declared.choose.Found.{Found}
use Rattle.redo_journal.specs.declared.scan.Scan.{Scan}
use Rattle.redo_journal.specs.Reading.{Reached}
use Rattle.redo_journal.specs.Records.{record_events}
use Rattle.frame_codec.specs.Chain.{last_checksum}
use Rattle.redo_journal.specs.declared.journal.Area.{Area}
use Rattle.redo_journal.specs.declared.journal.Journal.{Journal}
use Rattle.redo_journal.specs.declared.journal.Side.{Side}
use Rattle.redo_journal.specs.declared.journal.Side.TheVariants.{First, Second}
use Rattle.redo_journal.specs.Replays.{start as no_records, end_of_records, AllFit}
use Rattle.redo_journal.specs.Areas.{area_checksum, area_header, open_sequence, area_of, area_crc, IsArea}
use Rattle.redo_journal.specs.Journals.{side_read, IsFresh, HasRecords, StandsOn, Stands, IsFaithfulImage, OnlyBoth, file_on, file_beside, IsBehind, IsJournalOn, HasNoArea, IsKeptIn, IsKeptOn, IsKept, IsAtStart, ReadsAs, IsSafe}
use Rattle.redo_journal.specs.Choosing.{on_side}
use Rattle.redo_journal.specs.Opening.{IsReadOf, MaySynced, BothMaySynced, SettlesBoth, Opens, StaysSafe}
use Rattle.redo_journal.proofs.HeaderLemmas.{open_told, short_closed, front_sequence}
use Rattle.redo_journal.proofs.WalkLemmas.{fit_ends}
use Rattle.redo_journal.proofs.AreaLemmas.{length-area_of, counted_within, one_has, part_area, cut_area, area_opened}
use Rattle.redo_journal.proofs.KeptLemmas.{journal_of, on_of, kept_settled}
use Rattle.redo_journal.proofs.SideLemmas.{off_side, sided, on_file, off_file, on_mapped, two_files, beside_differs, side_run, read_same, stands_on, stood_on}

-- What a crash leaves.

-- the bytes of an image of a file that was only synced
at_start : (was file : File) (image : List ℕ) → MaySynced was file → IsFaithfulImage file image → IsAtStart was image
at_start was file image may is = ⊎_elim
    (λ same. inr (subst (λ (f : File). IsFaithfulImage f image) same is))
    (λ at. inl (settled_image file was.bytes image at is.0)) may

reads_same : (wanted : Option ℕ) (first second : List ℕ) → ReadsAs wanted first second first second
reads_same wanted first second = record { stands = λ records is. is; none = λ is. is }

pub synced_safe : (wanted : Option ℕ) (one_was other_was one other : File) → BothMaySynced one_was other_was one other → IsSafe wanted one_was other_was one other
synced_safe wanted one_was other_was one other may = record {
  reads = λ first second of_one of_other. (first, second, at_start one_was one first may.0 of_one, at_start other_was other second may.1 of_other, reads_same wanted first second);
}

-- an image of a synced file that is being cut is a first part, not shorter than what is left
cut_image : (bytes image : List ℕ) (len : ℕ) (file : File) → len ≤ length bytes → IsChanging (CutTo len) (settled bytes) file → IsImage file image → (n : ℕ) × (len ≤ n) × (image ≡ take n bytes)
cut_image bytes image len file room (as_was at) is = (length bytes, room, settled_image file bytes image at is ∙ sym (take_all (length bytes) bytes (omega arith)))
cut_image bytes image len file room (synced at) is = (length bytes, room, settled_image file bytes image at is ∙ sym (take_all (length bytes) bytes (omega arith)))
cut_image bytes image len file room (stepping at steps) is = let part = cut_short file bytes image len at steps room is in (length image, part.1, part.0)
cut_image bytes image len file room (changed at) is = (len, omega arith, settled_image file (take len bytes) image at is)

-- the first part of an area has its sequence
part_opened : (sequence : ℕ) (bytes : List ℕ) (records : List Record) (n : ℕ) → open_sequence bytes ≡ Some sequence → IsArea sequence bytes records → end_of_records header_len records ≤ n → open_sequence (take n bytes) ≡ Some sequence
part_opened sequence bytes records n opened area long =
    let part = part_area sequence bytes records n area long in
    ap (λ (l : List ℕ). open_sequence l) part.stands ∙ area_opened sequence records part.rest (open_told bytes sequence opened).1

-- one side is a first part with all its records, the other as it was
reads_part : (side : Side) (wanted : Option ℕ) (b1 b2 i1 i2 : List ℕ) (sequence : ℕ) (records : List Record) (n : ℕ) → side_read wanted b1 b2 ≡ Some side → open_sequence (on_side side b1 b2) ≡ Some sequence
    → IsArea sequence (on_side side b1 b2) records → end_of_records header_len records ≤ n → on_side side i1 i2 ≡ take n (on_side side b1 b2) → off_side side i1 i2 ≡ off_side side b1 b2 → ReadsAs wanted i1 i2 b1 b2
reads_part side wanted b1 b2 i1 i2 sequence records n read opened area long mine beside = record {
  stands = λ others is.
      let has = stood_on side wanted b1 b2 others read is in
      stands_on side wanted i1 i2 others (read_same side wanted b1 b2 i1 i2 read (mine_opened ∙ sym opened) beside)
      (sequence, mine_opened, subst (λ (l : List Record). IsArea sequence (on_side side i1 i2) l) (same others has) (subst (λ (l : List ℕ). IsArea sequence l records) (sym mine) (part_area sequence (on_side side b1 b2) records n area long)));
  none = λ no. absurd (let e = sym no.0 ∙ read in cc);
}
  where
    mine_opened : open_sequence (on_side side i1 i2) ≡ Some sequence
    mine_opened = ap (λ (l : List ℕ). open_sequence l) mine ∙ part_opened sequence (on_side side b1 b2) records n opened area long

    same : (others : List Record) → HasRecords (on_side side b1 b2) others → records ≡ others
    same others has = one_has (on_side side b1 b2) records others (sequence, opened, area) has

-- the file of the area that is read is being cut
pub cut_safe : (side : Side) (wanted : Option ℕ) (one_was other_was : File) (sequence : ℕ) (records : List Record) (len : ℕ) (mine : File) → side_read wanted one_was.bytes other_was.bytes ≡ Some side
    → open_sequence (on_side side one_was.bytes other_was.bytes) ≡ Some sequence → IsArea sequence (on_side side one_was.bytes other_was.bytes) records → len ≡ end_of_records header_len records
    → len ≤ length (on_side side one_was.bytes other_was.bytes) → IsChanging (CutTo len) (settled (on_side side one_was.bytes other_was.bytes)) mine
    → sided side (IsSafe wanted one_was other_was) mine (settled (off_side side one_was.bytes other_was.bytes))
cut_safe First wanted one_was other_was sequence records len mine read opened area len_is room changing = record {
  reads = λ first second of_one of_other.
      let part = cut_image one_was.bytes first len mine room changing of_one.0 in
      let rest = settled_image (settled other_was.bytes) other_was.bytes second refl of_other.0 in
      (one_was.bytes, other_was.bytes, inl refl, inl refl, reads_part First wanted one_was.bytes other_was.bytes first second sequence records part.0 read opened area (omega (arith, len_is, part.1)) part.2 rest);
}
cut_safe Second wanted one_was other_was sequence records len mine read opened area len_is room changing = record {
  reads = λ first second of_one of_other.
      let part = cut_image other_was.bytes second len mine room changing of_other.0 in
      let rest = settled_image (settled one_was.bytes) one_was.bytes first refl of_one.0 in
      (one_was.bytes, other_was.bytes, inl refl, inl refl, reads_part Second wanted one_was.bytes other_was.bytes first second sequence records part.0 read opened area (omega (arith, len_is, part.1)) part.2 rest);
}

-- The calls.

-- the first sync of two
settling : (first : ℕ) (start new : Disk) (result : Result Unit Failed) → IsTrue start.told → Called first (Syncs result) result start new
    → Keeps start new (OnlyBoth first (now start) (BothMaySynced (now start first) (now start (first + 1))))
settling first start new result told called =
    let P = OnlyBoth first (now start) (BothMaySynced (now start first) (now start (first + 1))) in
    goes_on start start new P first (Syncs result) result told (started start P (λ f n m. refl, (inl refl, inl refl))) called
    (λ others did. (λ f n m. others f n, (⊎_elim (λ s. ⊎_elim (λ at. inr at) (λ same. inl same) (sync_cases result (now start first) (now new first) s)) (λ same. inl same) did, inl (others (first + 1) (two_files first)))))

pub settles_first : (first : ℕ) (start new : Disk) (e : Failed) (result : Result Unit Failed) → IsErr result → Called {T = Unit} first (Syncs (Err e)) (Err e) start new → SettlesBoth first result start new
settles_first first start new e result is_err called = record {
  told = called.told;
  later = called.later;
  no_fewer = called.no_fewer;
  cause = λ is. called.cause refl;
  moments = λ told. settling first start new (Err e) told called;
  ok = λ told. err_ok result _ is_err;
}

pub settles_both : (first second : ℕ) (start mid new : Disk) (v : Unit) (result : Result Unit Failed) → second ≡ first + 1 → Called {T = Unit} first (Syncs (Ok v)) (Ok v) start mid
    → Called second (Syncs result) result mid new → SettlesBoth first result start new
settles_both first second start mid new v result second_is one then = record {
  told = other.told ∙ one.told;
  later = omega (arith, one.later, other.later);
  no_fewer = omega (arith, one.no_fewer, other.no_fewer);
  cause = λ is. rose_on start.faults mid.faults new.faults one.no_fewer (other.cause is);
  moments = moments;
  ok = λ told. ends result told other;
}
  where
    other : Called (first + 1) (Syncs result) result mid new
    other = subst (λ (f : ℕ). Called f (Syncs result) result mid new) second_is then

    at_mid : IsTrue start.told → now mid (first + 1) ≡ now start (first + 1)
    at_mid told = (one.does told).others (first + 1) (two_files first)

    moments : IsTrue start.told → Keeps start new (OnlyBoth first (now start) (BothMaySynced (now start first) (now start (first + 1))))
    moments told =
        let P = OnlyBoth first (now start) (BothMaySynced (now start first) (now start (first + 1))) in
        let so_far = settling first start mid (Ok v) told one in
        let before = so_far.each mid.calls so_far.later (omega arith) in
        goes_on start mid new P (first + 1) (Syncs result) result (still_told start mid first (Syncs (Ok v)) (Ok v) told one) so_far other
        (λ others did. (
          λ f n m. others f m ∙ before.0 f n m,
          (
            subst (λ (f : File). MaySynced (now start first) f) (sym (others first (λ is. two_files first (sym is)))) before.1.0,
            ⊎_elim (λ s. ⊎_elim (λ at. inr (at ∙ ap (λ (f : File). settled f.bytes) (at_mid told))) (λ same. inl (same ∙ at_mid told)) (sync_cases result (now mid (first + 1)) (now new (first + 1)) s)) (λ same. inl (same ∙ at_mid told)) did,
          ),
        ))

    ends : (r : Result Unit Failed) → IsTrue start.told → Called (first + 1) (Syncs r) r mid new → OnOk r ((now new first ≡ settled (contents start first)) × (now new (first + 1) ≡ settled (contents start (first + 1))))
    ends (Err e) told called = tt
    ends (Ok w) told called =
        let told_mid = still_told start mid first (Syncs (Ok v)) (Ok v) told one in (
          (called.does told_mid).others first (λ is. two_files first (sym is)) ∙ (done_ok start mid first (Syncs (Ok v)) v told one).ok,
          (done_ok mid new (first + 1) (Syncs (Ok w)) w told_mid called).ok ∙ ap (λ (f : File). settled f.bytes) (at_mid told),
        )

-- What was read.

pub no_sequence : (all old new : List ℕ) (n : ℕ) → Fills all 0 old n new → length old ≡ 32 → n < 32 → None ≡ open_sequence all
no_sequence all old new n fills size short = sym (short_closed all (omega (arith, fills.count, size, short)))

pub some_sequence : (all old new : List ℕ) (n : ℕ) (it : Option ℕ) → Fills all 0 old n new → length old ≡ 32 → 32 ≤ n → it ≡ open_sequence new → it ≡ open_sequence all
some_sequence all old new n it fills size long is =
    let count : n ≡ 32 = omega (arith, fills.count, size, long) in
    let front : new ≡ take 32 all = fills.bytes_are ∙ ap (λ (k : ℕ). take k all ++ drop k old) count ∙ ap (λ (l : List ℕ). take 32 all ++ l) (drop_all 32 old (omega (arith, size))) ∙ append-nil (take 32 all) in
    is ∙ ap (λ (l : List ℕ). open_sequence l) front ∙ front_sequence all

-- A journal without an area.

-- what is told was told before
looks_was_told : (a b : Disk) → LooksOnly a b → IsTrue b.told → IsTrue a.told
looks_was_told a b looks told = subst IsTrue looks.told told

abbrev Safe : Option ℕ → ℕ → Disk → (ℕ → File) → Type 0
Safe wanted first a = OnlyBoth first (now a) (IsSafe wanted (now a first) (now a (first + 1)))

-- the calls that only looked
pub looks_safe : (wanted : Option ℕ) (first : ℕ) (a b : Disk) → LooksOnly a b → IsTrue a.told → StaysSafe wanted first a b
looks_safe wanted first a b looks told = weaker a b (IsUntouched a) (Safe wanted first a)
    (λ files p. (λ f n m. p f, synced_safe wanted (now a first) (now a (first + 1)) (files first) (files (first + 1)) (inl (p first), inl (p (first + 1))))) (looks.moments told)

-- and then the syncs
pub settle_safe : (wanted : Option ℕ) (first : ℕ) (a b c : Disk) (result : Result Unit Failed) → LooksOnly a b → SettlesBoth first result b c → IsTrue a.told → StaysSafe wanted first a c
settle_safe wanted first a b c result looks settles told =
    let at : (f : ℕ) → now b f ≡ now a f = looked a b looks told in
    both a b c (Safe wanted first a) (looks_safe wanted first a b looks told)
    (weaker b c (OnlyBoth first (now b) (BothMaySynced (now b first) (now b (first + 1)))) (Safe wanted first a)
    (λ files p. (
      λ f n m. p.0 f n m ∙ at f,
      synced_safe wanted (now a first) (now a (first + 1)) (files first) (files (first + 1))
          (subst (λ (f : File). MaySynced f (files first)) (at first) p.1.0, subst (λ (f : File). MaySynced f (files (first + 1))) (at (first + 1)) p.1.1),
    ))
    (settles.moments (looks_told a b looks told)))

-- both files are synced, with the bytes that they had
both_settled : (first : ℕ) (a b c : Disk) (v : Unit) → LooksOnly a b → SettlesBoth first (Ok v) b c → IsTrue a.told → (now c first ≡ settled (contents a first)) × (now c (first + 1) ≡ settled (contents a (first + 1)))
both_settled first a b c v looks settles told =
    let done = settles.ok (looks_told a b looks told) in
    (done.0 ∙ ap (λ (l : List ℕ). settled l) (looked_contents a b first looks told), done.1 ∙ ap (λ (l : List ℕ). settled l) (looked_contents a b (first + 1) looks told))

pub none_opens : (wanted : Option ℕ) (first : ℕ) (a b c : Disk) (v : Unit) (journal : Journal) (records : List Record) → journal.first_file ≡ first → journal.area ≡ None → records ≡ []
    → LooksOnly a b → SettlesBoth first (Ok v) b c → IsFresh wanted (contents a first) → IsTrue a.told → IsReadOf wanted (contents a first) (contents a (first + 1)) None → Opens wanted first a c journal records
none_opens wanted first a b c v journal records first_is none empty looks settles fresh told read =
    let at = both_settled first a b c v looks settles told in
    let has : HasNoArea wanted (now c first) (now c (first + 1)) = record {
      none = ap (λ (f : File). side_read wanted f.bytes (now c (first + 1)).bytes) at.0 ∙ ap (λ (f : File). side_read wanted (contents a first) f.bytes) at.1 ∙ read;
      fresh = subst (λ (f : File). IsFresh wanted f.bytes) (sym at.0) fresh;
      first_settled = is_settled (now c first) (contents a first) at.0;
      second_settled = is_settled (now c (first + 1)) (contents a (first + 1)) at.1;
    } in
    subst (λ (l : List Record). Opens wanted first a c journal l) (sym empty) (
      subst (λ (s : Option Side). StandsOn s wanted (contents a first) (contents a (first + 1)) []) (sym read) (fresh, refl),
      kept_none journal first first_is none has,
    )
  where
    kept_none : (journal : Journal) (first : ℕ) → journal.first_file ≡ first → journal.area ≡ None → HasNoArea wanted (now c first) (now c (first + 1)) → IsKept journal wanted [] [] (now c)
    kept_none journal first first_is none has = record {
      is = subst (λ (o : Option Area). IsJournalOn o []) (sym none) refl;
      kept = subst (λ (o : Option Area). IsKeptOn o wanted [] [] journal.first_file (now c)) (sym none) (subst (λ (n : ℕ). HasNoArea wanted (now c n) (now c (n + 1))) (sym first_is) has, refl);
    }

-- A journal whose area was read.

pub record AreaRead (first : ℕ) (side : Side) (sequence : ℕ) (a c : Disk) (file size : ℕ) (records : List Record) (len crc : ℕ) : Type 0 where
  pub looks : LooksOnly a c
  pub file_is : file ≡ file_on side first
  pub sized : IsTrue a.told → size ≡ length (contents a (file_on side first))
  pub opened : IsTrue a.told → open_sequence (contents a (file_on side first)) ≡ Some sequence
  pub area : IsTrue a.told → IsArea sequence (contents a (file_on side first)) records
  pub fit : AllFit header_len no_records records
  pub len_is : len ≡ end_of_records header_len records
  pub crc_is : crc ≡ area_crc sequence records

pub area_was_read : (first : ℕ) (side : Side) (sequence : ℕ) (a b c : Disk) (file size sum : ℕ) (scan : Scan) (result : Result ℕ Failed) → file ≡ file_on side first
    → (IsTrue a.told → open_sequence (contents a (file_on side first)) ≡ Some sequence) → LooksOnly a b → Called file Stays result b c → (IsTrue b.told → size ≡ length (contents b file)) → sum ≡ area_checksum sequence → Reached sum scan
    → (IsTrue a.told → (s : ℕ) → sum ≡ area_checksum s → IsPrefix (area_header s 1) (contents a file) → IsArea s (contents a file) scan.records.items)
    → AreaRead first side sequence a c file size scan.records.items scan.len scan.crc
area_was_read first side sequence a b c file size sum scan result file_is opened looks called sized sum_is reached read = record {
  looks = looks_more file a b c result looks called;
  file_is = file_is;
  sized = λ told. sized (looks_told a b looks told) ∙ ap length (looked_contents a b file looks told) ∙ ap (λ (f : ℕ). length (contents a f)) file_is;
  opened = opened;
  area = λ told.
      let front = open_told (contents a (file_on side first)) sequence (opened told) in
      subst (λ (f : ℕ). IsArea sequence (contents a f) scan.records.items) file_is
      (read told sequence sum_is (subst (λ (f : ℕ). IsPrefix (area_header sequence 1) (contents a f)) (sym file_is) (drop header_len (contents a (file_on side first)), front.0)));
  fit = reached.fit;
  len_is = reached.len;
  crc_is = reached.crc ∙ ap (λ (s : ℕ). last_checksum s header_len (record_events scan.records.items)) sum_is;
}

-- the file of one side, after the syncs
settled_on : (side : Side) (first : ℕ) (a d : Disk) → (now d first ≡ settled (contents a first)) × (now d (first + 1) ≡ settled (contents a (first + 1)))
    → (now d (file_on side first) ≡ settled (contents a (file_on side first))) × (now d (file_beside side first) ≡ settled (contents a (file_beside side first)))
settled_on First first a d both_at = both_at
settled_on Second first a d both_at = (both_at.1, both_at.0)

module _ (first : ℕ) (side : Side) (sequence : ℕ) (a c d : Disk) (file size : ℕ) (records : List Record) (len crc : ℕ) (v : Unit) (read : AreaRead first side sequence a c file size records len crc) (settles : SettlesBoth first (Ok v) c d) where
  told_first : IsTrue d.told → IsTrue a.told
  told_first told = looks_was_told a c read.looks (subst IsTrue settles.told told)

  told_last : IsTrue a.told → IsTrue d.told
  told_last told = subst IsTrue (sym settles.told) (looks_told a c read.looks told)

  at_end : IsTrue a.told → (now d (file_on side first) ≡ settled (contents a (file_on side first))) × (now d (file_beside side first) ≡ settled (contents a (file_beside side first)))
  at_end told = settled_on side first a d (both_settled first a c d v read.looks settles told)

  file_at : IsTrue a.told → now d file ≡ settled (contents a (file_on side first))
  file_at told = ap (λ (f : ℕ). now d f) read.file_is ∙ (at_end told).0

  area_room : IsTrue a.told → len ≤ length (contents a (file_on side first))
  area_room told = let area = read.area told in omega (arith, read.len_is, ap length area.stands, length-append (area_of sequence records) area.rest, length-area_of sequence records)

  -- what the cut needs
  pub torn_settled : IsTrue d.told → IsSettled (now d file)
  torn_settled told = is_settled (now d file) (contents a (file_on side first)) (file_at (told_first told))

  pub torn_within : (at : ℕ) → at ≡ len → IsTrue d.told → at ≤ length (contents d file)
  torn_within at at_is told = omega (arith, at_is, area_room (told_first told), ap (λ (f : File). length f.bytes) (file_at (told_first told)))

  pub torn_size : IsTrue d.told → size ≡ length (contents d file)
  torn_size told = read.sized (told_first told) ∙ sym (ap (λ (f : File). length f.bytes) (file_at (told_first told)))

  -- the cut
  pub torn_safe : (e : Disk) (at : ℕ) (result : Result Unit Failed) → at ≡ len → Changes file (CutTo at) result d e → (wanted : Option ℕ) → IsTrue a.told
      → side_read wanted (contents a first) (contents a (first + 1)) ≡ Some side → StaysSafe wanted first a e
  torn_safe e at result at_is changes wanted told side_is =
      let before = settle_safe wanted first a c d (Ok v) read.looks settles told in
      let at_d = (before.each d.calls before.later (omega arith)).0 in
      let here : Changes (file_on side first) (CutTo at) result d e = subst (λ (f : ℕ). Changes f (CutTo at) result d e) read.file_is changes in
      both a d e (Safe wanted first a) before
      (side_run side first d e (now a) (IsChanging (CutTo at) (now d (file_on side first))) (IsSafe wanted (now a first) (now a (first + 1))) at_d (here.way.moments (told_last told)) (safe at_is told side_is))
    where
      safe : at ≡ len → IsTrue a.told → side_read wanted (contents a first) (contents a (first + 1)) ≡ Some side → (mine : File) → IsChanging (CutTo at) (now d (file_on side first)) mine
          → sided side (IsSafe wanted (now a first) (now a (first + 1))) mine (now d (file_beside side first))
      safe at_is told side_is mine changing =
          let on : on_side side (contents a first) (contents a (first + 1)) ≡ contents a (file_on side first) = on_file side (now a) first in
          let off : off_side side (contents a first) (contents a (first + 1)) ≡ contents a (file_beside side first) = off_file side (now a) first in
          subst (λ (f : File). sided side (IsSafe wanted (now a first) (now a (first + 1))) mine f) (ap (λ (l : List ℕ). settled l) off ∙ sym (at_end told).1)
          (cut_safe side wanted (now a first) (now a (first + 1)) sequence records at mine side_is (ap (λ (l : List ℕ). open_sequence l) on ∙ read.opened told)
          (subst (λ (l : List ℕ). IsArea sequence l records) (sym on) (read.area told)) (at_is ∙ read.len_is) (omega (arith, at_is, ap length on, area_room told))
          (subst (λ (f : File). IsChanging (CutTo at) f mine) ((at_end told).0 ∙ ap (λ (l : List ℕ). settled l) (sym on)) changing))

  -- after it the journal is kept
  pub area_opens : (e : Disk) (at : ℕ) (w : Unit) (it : Area) (journal : Journal) → at ≡ len → Changes file (CutTo at) (Ok w) d e → journal.first_file ≡ first → journal.area ≡ Some it → it.side ≡ side → it.sequence ≡ sequence
      → it.len ≡ len → it.crc ≡ crc → it.records ≡ length records → (wanted : Option ℕ) → IsTrue a.told → side_read wanted (contents a first) (contents a (first + 1)) ≡ Some side → Opens wanted first a e journal records
  area_opens e at w it journal at_is changes first_is some side_eq sequence_is len_is crc_is count wanted told side_is =
      let on : on_side side (contents a first) (contents a (first + 1)) ≡ contents a (file_on side first) = on_file side (now a) first in
      let opened = ap (λ (l : List ℕ). open_sequence l) on ∙ read.opened told in
      let here : Changes (file_on side first) (CutTo at) (Ok w) d e = subst (λ (f : ℕ). Changes f (CutTo at) (Ok w) d e) read.file_is changes in
      let mine : now e (file_on side first) ≡ settled (area_of sequence records) =
      here.ok (told_last told) ∙ ap (λ (f : File). settled (take at f.bytes)) (at_end told).0 ∙ ap (λ (l : List ℕ). settled l) (cut_area sequence (contents a (file_on side first)) records at (read.area told) (at_is ∙ read.len_is)) in
      let beside : now e (file_beside side first) ≡ settled (contents a (file_beside side first)) =
      ((here.way.moments (told_last told)).each e.calls here.way.later (omega arith)).0 (file_beside side first) (beside_differs side first) ∙ (at_end told).1 in
      let small = (open_told (contents a (file_on side first)) sequence (read.opened told)).1 in
      let again : side_read wanted (contents e first) (contents e (first + 1)) ≡ Some side =
      read_same side wanted (contents a first) (contents a (first + 1)) (contents e first) (contents e (first + 1)) side_is
      (ap (λ (l : List ℕ). open_sequence l) (on_file side (now e) first ∙ ap (λ (f : File). f.bytes) mine ∙ sym (append-nil (area_of sequence records))) ∙ area_opened sequence records [] small ∙ sym opened)
      (off_file side (now e) first ∙ ap (λ (f : File). f.bytes) beside ∙ sym (off_file side (now a) first)) in
      let kept = kept_settled it side sequence wanted records first (now e) side_eq sequence_is again mine (is_settled (now e (file_beside side first)) (contents a (file_beside side first)) beside) in
      let behind : IsBehind it records = record { fit = read.fit; count = count; len = len_is ∙ read.len_is; crc = crc_is ∙ read.crc_is ∙ ap (λ (s : ℕ). area_crc s records) (sym sequence_is) } in (
        stands_on side wanted (contents a first) (contents a (first + 1)) records side_is (sequence, opened, subst (λ (l : List ℕ). IsArea sequence l records) (sym on) (read.area told)),
        record { is = journal_of journal.area it records some behind; kept = on_of journal.area it wanted records records journal.first_file (now e) some (subst (λ (n : ℕ). IsKeptIn it wanted records records n (now e)) (sym first_is) kept) },
      )

-- what was found tells which side is read, and its sequence
pub found_side : (wanted : Option ℕ) (first second : List ℕ) (found : Found) → IsReadOf wanted first second (Some found) → side_read wanted first second ≡ Some found.side
found_side wanted first second found is = is.side

pub found_opened : (wanted : Option ℕ) (first : ℕ) (d : Disk) (found : Found) → IsReadOf wanted (contents d first) (contents d (first + 1)) (Some found) → open_sequence (contents d (file_on found.side first)) ≡ Some found.sequence
found_opened wanted first d found is =
    ap (λ (l : List ℕ). open_sequence l) (sym (on_file found.side (now d) first)) ∙ sym (on_mapped found.side open_sequence (contents d first) (contents d (first + 1))) ∙ is.sequence

-- the count and the length of what was read
pub reached_bounds : (sum : ℕ) (scan : Scan) → Reached sum scan → (length scan.records.items ≤ scan.len) × (scan.len ≤ 2147483647)
reached_bounds sum scan reached = (
  omega (arith, reached.len, counted_within header_len scan.records.items),
  omega (arith, reached.len, fit_ends header_len no_records scan.records.items (omega arith) reached.fit),
)

-- Opening, behind the look at both headers.

pub safe_then : (wanted : Option ℕ) (first : ℕ) (a b c : Disk) → LooksOnly a b → IsTrue a.told → StaysSafe wanted first b c → StaysSafe wanted first a c
safe_then wanted first a b c looks told safe =
    let at : (f : ℕ) → now b f ≡ now a f = looked a b looks told in
    both a b c (Safe wanted first a) (looks_safe wanted first a b looks told)
    (weaker b c (Safe wanted first b) (Safe wanted first a)
    (λ files p. (
      λ f n m. p.0 f n m ∙ at f,
      subst (λ (f : File). IsSafe wanted f (now a (first + 1)) (files first) (files (first + 1))) (at first)
          (subst (λ (f : File). IsSafe wanted (now b first) f (files first) (files (first + 1))) (at (first + 1)) p.1),
    )) safe)

pub read_then : (wanted : Option ℕ) (first : ℕ) (a b : Disk) (was found : Option Found) → was ≡ found → LooksOnly a b → IsTrue a.told → IsReadOf wanted (contents a first) (contents a (first + 1)) was
    → IsReadOf wanted (contents b first) (contents b (first + 1)) found
read_then wanted first a b was found same looks told read =
    subst (λ (o : Option Found). IsReadOf wanted (contents b first) (contents b (first + 1)) o) same
    (read_before wanted first a b was looks told read)
  where
    read_before : (wanted : Option ℕ) (first : ℕ) (a b : Disk) (found : Option Found) → LooksOnly a b → IsTrue a.told → IsReadOf wanted (contents a first) (contents a (first + 1)) found
        → IsReadOf wanted (contents b first) (contents b (first + 1)) found
    read_before wanted first a b found looks told read =
        subst (λ (l : List ℕ). IsReadOf wanted l (contents b (first + 1)) found) (sym (looked_contents a b first looks told))
        (subst (λ (l : List ℕ). IsReadOf wanted (contents a first) l found) (sym (looked_contents a b (first + 1) looks told)) read)

pub opens_then : (wanted : Option ℕ) (first : ℕ) (a b c : Disk) (journal : Journal) (records : List Record) → LooksOnly a b → IsTrue a.told → Opens wanted first b c journal records → Opens wanted first a c journal records
opens_then wanted first a b c journal records looks told opens = (
  subst (λ (l : List ℕ). Stands wanted l (contents a (first + 1)) records) (looked_contents a b first looks told)
      (subst (λ (l : List ℕ). Stands wanted (contents b first) l records) (looked_contents a b (first + 1) looks told) opens.0),
  opens.1,
)

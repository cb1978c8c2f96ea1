-- What a journal's files hold, as records are added and made durable.
use Rattle.std.proofs.Common.{◌≡◌, ⊎_elim, ℕ, ◌+◌, ◌≤◌, Option, Some, None, List, [], ◌∷◌, ◌++◌, length, Result, Ok, IsTrue, refl, sym, ◌∙◌, ap, subst, arith, append_assoc, length-append}
use Rattle.disk_model.specs.declared.storage.Failed.{Failed}
use Rattle.disk_model.specs.File.{File, Step, Wrote, Writes, Syncs, IsSettled, written}
use Rattle.disk_model.specs.Start.{settled}
use Rattle.disk_model.specs.Disk.{Disk, now, Called, Keeps, Only}
use Rattle.disk_model.specs.Grew.{OnlyGrew}
use Rattle.disk_model.proofs.Moments.{started, goes_on_file, done_ok}
use Rattle.disk_model.proofs.Grew.{grew_none, grew_more, written_at_end}
use Rattle.disk_model.proofs.StagedLemmas.{settled_is, settled_image, sync_cases}
use Rattle.frame_codec.specs.Frame.{Event, size_of, checksum_of, frame_of}
use Rattle.frame_codec.specs.Chain.{chain_of, end_of, last_checksum}
use Rattle.frame_codec.proofs.FrameLemmas.{length-frame_of}
use Rattle.frame_codec.proofs.ChainLemmas.{chain_of-nil, chain_of-cons, chain_of-append, last_checksum-append}
use Rattle.framed_file.specs.Framed.{IsPrefix, header_len}
use Rattle.framed_file.proofs.PrefixLemmas.{prefix_refl, prefix_trans, prefix_push}
use Rattle.std.proofs.lemmas.List.{append-nil, map-append}
use Rattle.redo_journal.specs.declared.record.Record.{Record}
use Rattle.redo_journal.specs.declared.journal.Area.{Area}
use Rattle.redo_journal.specs.declared.journal.Side.{Side}
use Rattle.redo_journal.specs.declared.journal.Side.TheVariants.{First}
use Rattle.redo_journal.specs.Records.{record_event, record_events}
use Rattle.redo_journal.specs.Replays.{start, end_of_records, AllFit}
use Rattle.redo_journal.specs.Areas.{area_checksum, area_header, open_sequence, area_of, area_crc}
use Rattle.redo_journal.specs.Journals.{chosen, side_read, StandsOn, Stands, Holds, OnlyBoth, file_on, file_beside, IsBehind, IsJournalOn, HasNoArea, HasArea, IsKeptIn, IsKeptOn}
use Rattle.redo_journal.specs.Choosing.{on_side}
use Rattle.redo_journal.specs.Making.{IsMaking, Makes}
use Rattle.redo_journal.specs.Appending.{Spells, FitsBehind, with_one, IsFirst}
use Rattle.redo_journal.proofs.WalkLemmas.{end_of_records-append, AllFit-append}
use Rattle.redo_journal.proofs.AreaLemmas.{area_of-nil, ends_are, length-area_of, area_opened}
use Rattle.redo_journal.proofs.HeaderLemmas.{open_header}
use Rattle.redo_journal.proofs.MakingLemmas.{first_chosen, making_stands}
use Rattle.redo_journal.proofs.SideLemmas.{off_side, sided, sided_wider, unsided, two_files, on_file, off_file, beside_differs, side_run, read_same, holds_on, holds_wider}

-- A journal with an area.

pub behind_of : (area : Option Area) (it : Area) (records : List Record) → area ≡ Some it → IsJournalOn area records → IsBehind it records
behind_of area it records is on = subst (λ (o : Option Area). IsJournalOn o records) is on

pub kept_of : (area : Option Area) (it : Area) (wanted : Option ℕ) (synced records : List Record) (first : ℕ) (files : ℕ → File) → area ≡ Some it → IsKeptOn area wanted synced records first files → IsKeptIn it wanted synced records first files
kept_of area it wanted synced records first files is on = subst (λ (o : Option Area). IsKeptOn o wanted synced records first files) is on

pub journal_of : (area : Option Area) (it : Area) (records : List Record) → area ≡ Some it → IsBehind it records → IsJournalOn area records
journal_of area it records is on = subst (λ (o : Option Area). IsJournalOn o records) (sym is) on

pub on_of : (area : Option Area) (it : Area) (wanted : Option ℕ) (synced records : List Record) (first : ℕ) (files : ℕ → File) → area ≡ Some it → IsKeptIn it wanted synced records first files → IsKeptOn area wanted synced records first files
on_of area it wanted synced records first files is on = subst (λ (o : Option Area). IsKeptOn o wanted synced records first files) (sym is) on

module _ (it : Area) (wanted : Option ℕ) (synced records : List Record) (first : ℕ) (files : ℕ → File) (kept : IsKeptIn it wanted synced records first files) where
  -- the sequence of the area stands in its file
  pub kept_opened : open_sequence (on_side it.side (files first).bytes (files (first + 1)).bytes) ≡ Some it.sequence
  kept_opened = ap (λ (l : List ℕ). open_sequence l) (on_file it.side files first ∙ kept.area.bytes ∙ sym (append-nil (area_of it.sequence records))) ∙ area_opened it.sequence records [] it.small

  pub kept_beside : files (file_beside it.side first) ≡ settled (off_side it.side (files first).bytes (files (first + 1)).bytes)
  kept_beside = settled_is (files (file_beside it.side first)) kept.beside ∙ ap (λ (l : List ℕ). settled l) (sym (off_file it.side files first))

  -- a file of the area, with more records added since its sync
  pub more_holds : (low high : List Record) (mine : File) → AllFit header_len start high → IsPrefix low high → mine.synced ≡ area_of it.sequence low → OnlyGrew mine.synced mine.steps (area_of it.sequence high)
      → sided it.side (Holds wanted low high) mine (files (file_beside it.side first))
  more_holds low high mine fit part at grew =
      holds_on it.side wanted (files first).bytes (files (first + 1)).bytes it.sequence low high mine (files (file_beside it.side first)) kept.read kept_opened kept_beside it.small fit part at grew

  pub kept_sided : AllFit header_len start records → sided it.side (Holds wanted synced records) (files (file_on it.side first)) (files (file_beside it.side first))
  kept_sided fit =
      more_holds synced records (files (file_on it.side first)) fit kept.area.first_part kept.area.synced (subst (λ (l : List ℕ). OnlyGrew (files (file_on it.side first)).synced (files (file_on it.side first)).steps l) kept.area.bytes kept.area.grew)

  -- the journal as it is kept
  pub area_holds : AllFit header_len start records → Holds wanted synced records (files first) (files (first + 1))
  area_holds fit = unsided it.side (Holds wanted synced records) files first (kept_sided fit)

-- no area, and nothing pending
pub none_holds : (wanted : Option ℕ) (one other : File) → HasNoArea wanted one other → Holds wanted [] [] one other
none_holds wanted one other none first second of_one of_other =
    let a = settled_image one one.bytes first (settled_is one none.first_settled) of_one.0 in
    let b = settled_image other other.bytes second (settled_is other none.second_settled) of_other.0 in
    let stands : Stands wanted one.bytes other.bytes [] = subst (λ (s : Option Side). StandsOn s wanted one.bytes other.bytes []) (sym none.none) (none.fresh, refl) in
    record {
      records = [];
      stands = subst (λ (l : List ℕ). Stands wanted l second []) (sym a) (subst (λ (l : List ℕ). Stands wanted one.bytes l []) (sym b) stands);
      at_least = prefix_refl [];
      at_most = prefix_refl [];
    }

-- A crash of a kept journal leaves all records that were synced, and of the others a first part.
pub kept_holds : (area : Option Area) (wanted : Option ℕ) (synced records : List Record) (first : ℕ) (files : ℕ → File) → IsJournalOn area records → IsKeptOn area wanted synced records first files
    → Holds wanted synced records (files first) (files (first + 1))
kept_holds None wanted synced records first files is kept =
    holds_wider wanted synced [] [] records (files first) (files (first + 1)) (subst (λ (l : List Record). IsPrefix l []) (sym kept.1) (prefix_refl [])) (subst (λ (l : List Record). IsPrefix [] l) (sym is) (prefix_refl []))
    (none_holds wanted (files first) (files (first + 1)) kept.0)
kept_holds (Some it) wanted synced records first files is kept = area_holds it wanted synced records first files kept is.fit

-- The files after a change of the file of the area.

has_next : (area next : Area) (synced records : List Record) (file : File) → next.sequence ≡ area.sequence → HasArea area synced records file → HasArea next synced records file
has_next area next synced records file sequence has = record {
  bytes = has.bytes ∙ ap (λ (s : ℕ). area_of s records) (sym sequence);
  first_part = has.first_part;
  synced = has.synced ∙ ap (λ (s : ℕ). area_of s synced) (sym sequence);
  grew = has.grew;
}

kept_next : (area next : Area) (wanted : Option ℕ) (synced records : List Record) (first : ℕ) (old new : ℕ → File) → side_read wanted (old first).bytes (old (first + 1)).bytes ≡ Some area.side
    → open_sequence (on_side area.side (old first).bytes (old (first + 1)).bytes) ≡ Some area.sequence → IsSettled (old (file_beside area.side first)) → new (file_beside area.side first) ≡ old (file_beside area.side first)
    → HasArea area synced records (new (file_on area.side first)) → next.side ≡ area.side → next.sequence ≡ area.sequence → IsKeptIn next wanted synced records first new
kept_next area next wanted synced records first old new read opened at beside has side sequence = record {
  read = read_same area.side wanted (old first).bytes (old (first + 1)).bytes (new first).bytes (new (first + 1)).bytes read (mine ∙ sym opened)
      (off_file area.side new first ∙ ap (λ (f : File). f.bytes) beside ∙ sym (off_file area.side old first)) ∙ ap (λ (s : Side). Some s) (sym side);
  area = subst (λ (s : Side). HasArea next synced records (new (file_on s first))) (sym side) (has_next area next synced records (new (file_on area.side first)) sequence has);
  beside = subst (λ (s : Side). IsSettled (new (file_beside s first))) (sym side) (subst IsSettled (sym beside) at);
}
  where
    mine : open_sequence (on_side area.side (new first).bytes (new (first + 1)).bytes) ≡ Some area.sequence
    mine = ap (λ (l : List ℕ). open_sequence l) (on_file area.side new first ∙ has.bytes ∙ sym (append-nil (area_of area.sequence records))) ∙ area_opened area.sequence records [] area.small

-- an area that is synced whole
pub kept_settled : (it : Area) (side : Side) (sequence : ℕ) (wanted : Option ℕ) (records : List Record) (first : ℕ) (files : ℕ → File) → it.side ≡ side → it.sequence ≡ sequence
    → side_read wanted (files first).bytes (files (first + 1)).bytes ≡ Some side → files (file_on side first) ≡ settled (area_of sequence records) → IsSettled (files (file_beside side first)) → IsKeptIn it wanted records records first files
kept_settled it side sequence wanted records first files side_is sequence_is read mine beside =
    let bytes : area_of sequence records ≡ area_of it.sequence records = ap (λ (s : ℕ). area_of s records) (sym sequence_is) in
    let has : HasArea it records records (files (file_on side first)) = record {
      bytes = ap (λ (f : File). f.bytes) mine ∙ bytes;
      first_part = prefix_refl records;
      synced = ap (λ (f : File). f.synced) mine ∙ bytes;
      grew = subst (λ (f : File). OnlyGrew f.synced f.steps f.bytes) (sym mine) (grew_none (area_of sequence records));
    } in
    record {
      read = read ∙ ap (λ (s : Side). Some s) (sym side_is);
      area = subst (λ (s : Side). HasArea it records records (files (file_on s first))) (sym side_is) has;
      beside = subst (λ (s : Side). IsSettled (files (file_beside s first))) (sym side_is) beside;
    }

-- One record more.

one_end : (at : ℕ) (records : List Record) (entry : Record) → end_of_records at (with_one records entry) ≡ end_of_records at records + size_of (record_event entry)
one_end at records entry = end_of_records-append at records (entry ∷ [])

one_crc : (sequence : ℕ) (records : List Record) (entry : Record) → area_crc sequence (with_one records entry) ≡ checksum_of (area_crc sequence records) (end_of_records header_len records) (record_event entry)
one_crc sequence records entry =
    ap (λ (l : List Event). last_checksum (area_checksum sequence) header_len l) (map-append record_event records (entry ∷ []))
    ∙ last_checksum-append (area_checksum sequence) header_len (record_events records) (record_event entry ∷ [])
    ∙ ap (λ (n : ℕ). checksum_of (area_crc sequence records) n (record_event entry)) (sym (ends_are header_len records))

one_more : (sequence : ℕ) (records : List Record) (entry : Record) → area_of sequence (with_one records entry) ≡ area_of sequence records ++ frame_of (area_crc sequence records) (end_of_records header_len records) (record_event entry)
one_more sequence records entry =
    let event = record_event entry in
    let chain = chain_of (area_checksum sequence) header_len (record_events records) in
    let sum = area_crc sequence records in
    let end = end_of header_len (record_events records) in
    ap (λ (l : List Event). area_header sequence 1 ++ chain_of (area_checksum sequence) header_len l) (map-append record_event records (entry ∷ []))
    ∙ ap (λ (l : List ℕ). area_header sequence 1 ++ l) (chain_of-append (area_checksum sequence) header_len (record_events records) (event ∷ [])
    ∙ ap (λ (l : List ℕ). chain ++ l) (chain_of-cons sum end event [] ∙ ap (λ (l : List ℕ). frame_of sum end event ++ l) (chain_of-nil (checksum_of sum end event) (end + size_of event)) ∙ append-nil (frame_of sum end event)))
    ∙ sym (append_assoc (area_header sequence 1) chain (frame_of sum end event))
    ∙ ap (λ (n : ℕ). area_of sequence records ++ frame_of sum n event) (sym (ends_are header_len records))

one_fits : (records : List Record) (entry : Record) → AllFit header_len start records → FitsBehind records entry → AllFit header_len start (with_one records entry)
one_fits records entry fit one = AllFit-append header_len start records (entry ∷ []) fit (one, tt)

-- the size and the count of a record that is written
pub spelt_room : (area : Area) (records : List Record) (entry : Record) (bytes : List ℕ) (sum : ℕ) → IsBehind area records → FitsBehind records entry → Spells area.len area.crc entry bytes sum
    → (area.len + length bytes ≤ 2147483647) × (1 ≤ length bytes)
spelt_room area records entry bytes sum is fits spells =
    let size = ap length spells.frame ∙ length-frame_of area.crc area.len (record_event entry) in
    (omega (arith, size, is.len, fits.room), omega (arith, size))

-- the journal goes on behind it
pub next_behind : (area next : Area) (records : List Record) (entry : Record) (bytes : List ℕ) (sum : ℕ) → IsBehind area records → FitsBehind records entry → Spells area.len area.crc entry bytes sum
    → next.sequence ≡ area.sequence → next.len ≡ area.len + length bytes → next.crc ≡ sum → next.records ≡ area.records + 1 → IsBehind next (with_one records entry)
next_behind area next records entry bytes sum is fits spells sequence len crc count = record {
  fit = one_fits records entry is.fit fits;
  count = omega (arith, count, is.count, length-append records (entry ∷ []));
  len = omega (arith, len, is.len, one_end header_len records entry, ap length spells.frame, length-frame_of area.crc area.len (record_event entry));
  crc = crc ∙ spells.sum_is ∙ ap (λ (c : ℕ). checksum_of c area.len (record_event entry)) is.crc ∙ ap (λ (n : ℕ). checksum_of (area_crc area.sequence records) n (record_event entry)) is.len
      ∙ sym (one_crc area.sequence records entry) ∙ ap (λ (s : ℕ). area_crc s (with_one records entry)) (sym sequence);
}

module _ (area : Area) (wanted : Option ℕ) (synced records : List Record) (entry : Record) (bytes : List ℕ) (sum first : ℕ) (is : IsBehind area records) (fits : FitsBehind records entry) (spells : Spells area.len area.crc entry bytes sum) where
  spelt_is : bytes ≡ frame_of (area_crc area.sequence records) (end_of_records header_len records) (record_event entry)
  spelt_is = spells.frame ∙ ap (λ (c : ℕ). frame_of c area.len (record_event entry)) is.crc ∙ ap (λ (n : ℕ). frame_of (area_crc area.sequence records) n (record_event entry)) is.len

  -- where the record goes is the end of the file
  pub place_is : (file : File) → HasArea area synced records file → area.len ≡ length file.bytes
  place_is file has = omega (arith, is.len, ap length has.bytes, length-area_of area.sequence records)

  grew_one : (file : File) → HasArea area synced records file → OnlyGrew file.synced (Wrote area.len bytes ∷ file.steps) (area_of area.sequence (with_one records entry))
  grew_one file has =
      let whole : file.bytes ++ bytes ≡ area_of area.sequence (with_one records entry) = ap (λ (l : List ℕ). l ++ bytes) has.bytes ∙ ap (λ (l : List ℕ). area_of area.sequence records ++ l) spelt_is ∙ sym (one_more area.sequence records entry) in
      subst (λ (l : List ℕ). OnlyGrew file.synced (Wrote area.len bytes ∷ file.steps) l) whole
      (subst (λ (n : ℕ). OnlyGrew file.synced (Wrote n bytes ∷ file.steps) (file.bytes ++ bytes)) (sym (place_is file has)) (grew_more file.synced file.bytes bytes file.steps has.grew))

  grew_after : (result : Result Unit Failed) (old new : File) → HasArea area synced records old → Writes area.len bytes result old new → OnlyGrew new.synced new.steps (area_of area.sequence (with_one records entry))
  grew_after result old new has did = subst (λ (l : List ℕ). OnlyGrew l new.steps (area_of area.sequence (with_one records entry))) (sym did.synced)
      (subst (λ (s : List Step). OnlyGrew old.synced s (area_of area.sequence (with_one records entry))) (sym did.steps) (grew_one old has))

  -- one write at the end, whatever became of it, at each moment
  pub write_moments : (old new : Disk) (file at : ℕ) (result : Result Unit Failed) → IsTrue old.told → IsKeptIn area wanted synced records first (now old) → file ≡ file_on area.side first → at ≡ area.len
      → Called file (Writes at bytes result) result old new → Keeps old new (OnlyBoth first (now old) (Holds wanted synced (with_one records entry)))
  write_moments old new file at result told kept file_is at_is called =
      let mine = file_on area.side first in
      let beside = now old (file_beside area.side first) in
      let Q : File → Type 0 = λ f. sided area.side (Holds wanted synced (with_one records entry)) f beside in
      let part = prefix_trans synced records (with_one records entry) kept.area.first_part (prefix_push records entry) in
      let before : Q (now old mine) = sided_wider area.side (Holds wanted synced records) (Holds wanted synced (with_one records entry)) (now old mine) beside
      (λ one other holds. holds_wider wanted synced synced records (with_one records entry) one other (prefix_refl synced) (prefix_push records entry) holds)
      (kept_sided area wanted synced records first (now old) kept is.fit) in
      let here : Called mine (Writes area.len bytes result) result old new = subst (λ (f : ℕ). Called f (Writes area.len bytes result) result old new) file_is (subst (λ (n : ℕ). Called file (Writes n bytes result) result old new) at_is called) in
      side_run area.side first old new (now old) Q (Holds wanted synced (with_one records entry)) (λ f n m. refl)
      (goes_on_file old old new mine Q (Writes area.len bytes result) result told
      (started old (Only mine (now old) Q) (λ f not. refl, before)) here
      (λ did. more_holds area wanted synced records first (now old) kept synced (with_one records entry) (now new mine) (one_fits records entry is.fit fits) part (did.synced ∙ kept.area.synced) (grew_after result (now old mine) (now new mine) kept.area did)))
      (λ f q. q)

  -- after it the files hold the record too
  pub write_kept : (old new : Disk) (next : Area) (file at : ℕ) (v : Unit) → IsTrue old.told → IsKeptIn area wanted synced records first (now old) → file ≡ file_on area.side first → at ≡ area.len
      → Called {T = Unit} file (Writes at bytes (Ok v)) (Ok v) old new → next.side ≡ area.side → next.sequence ≡ area.sequence → IsKeptIn next wanted synced (with_one records entry) first (now new)
  write_kept old new next file at v told kept file_is at_is called side sequence =
      let mine = file_on area.side first in
      let here : Called {T = Unit} mine (Writes area.len bytes (Ok v)) (Ok v) old new = subst (λ (f : ℕ). Called {T = Unit} f (Writes area.len bytes (Ok v)) (Ok v) old new) file_is (subst (λ (n : ℕ). Called {T = Unit} file (Writes n bytes (Ok v)) (Ok v) old new) at_is called) in
      let did = done_ok old new mine (Writes area.len bytes (Ok v)) v told here in
      let bytes_are : (now new mine).bytes ≡ area_of area.sequence (with_one records entry) =
      did.ok ∙ ap (λ (n : ℕ). written n bytes (now old mine).bytes) (place_is (now old mine) kept.area) ∙ written_at_end (now old mine).bytes bytes
      ∙ ap (λ (l : List ℕ). l ++ bytes) kept.area.bytes ∙ ap (λ (l : List ℕ). area_of area.sequence records ++ l) spelt_is ∙ sym (one_more area.sequence records entry) in
      let has : HasArea area synced (with_one records entry) (now new mine) = record {
        bytes = bytes_are;
        first_part = prefix_trans synced records (with_one records entry) kept.area.first_part (prefix_push records entry);
        synced = did.synced ∙ kept.area.synced;
        grew = subst (λ (l : List ℕ). OnlyGrew (now new mine).synced (now new mine).steps l) (sym bytes_are) (grew_after (Ok v) (now old mine) (now new mine) kept.area did);
      } in
      kept_next area next wanted synced (with_one records entry) first (now old) (now new) kept.read (kept_opened area wanted synced records first (now old) kept) kept.beside
      ((here.does told).others (file_beside area.side first) (beside_differs area.side first)) has side sequence

-- A sync.

module _ (area : Area) (wanted : Option ℕ) (synced records : List Record) (first : ℕ) (is : IsBehind area records) where
  settled_grew : (old new : File) → HasArea area synced records old → new ≡ settled old.bytes → OnlyGrew new.synced new.steps (area_of area.sequence records)
  settled_grew old new has at = subst (λ (f : File). OnlyGrew f.synced f.steps (area_of area.sequence records)) (sym at) (subst (λ (l : List ℕ). OnlyGrew old.bytes [] l) has.bytes (grew_none old.bytes))

  pub sync_moments : (old new : Disk) (file : ℕ) (result : Result Unit Failed) → IsTrue old.told → IsKeptIn area wanted synced records first (now old) → file ≡ file_on area.side first
      → Called file (Syncs result) result old new → Keeps old new (OnlyBoth first (now old) (Holds wanted synced records))
  sync_moments old new file result told kept file_is called =
      let mine = file_on area.side first in
      let beside = now old (file_beside area.side first) in
      let Q : File → Type 0 = λ f. sided area.side (Holds wanted synced records) f beside in
      let here : Called mine (Syncs result) result old new = subst (λ (f : ℕ). Called f (Syncs result) result old new) file_is called in
      let before : Q (now old mine) = kept_sided area wanted synced records first (now old) kept is.fit in
      let after : now new mine ≡ settled (now old mine).bytes → Q (now new mine) =
      λ at. sided_wider area.side (Holds wanted records records) (Holds wanted synced records) (now new mine) beside
      (λ one other holds. holds_wider wanted synced records records records one other kept.area.first_part (prefix_refl records) holds)
      (more_holds area wanted synced records first (now old) kept records records (now new mine) is.fit (prefix_refl records) (ap (λ (f : File). f.synced) at ∙ kept.area.bytes) (settled_grew (now old mine) (now new mine) kept.area at)) in
      side_run area.side first old new (now old) Q (Holds wanted synced records) (λ f n m. refl)
      (goes_on_file old old new mine Q (Syncs result) result told (started old (Only mine (now old) Q) (λ f not. refl, before)) here
      (λ did. ⊎_elim after (λ same. subst Q (sym same) before) (sync_cases result (now old mine) (now new mine) did)))
      (λ f q. q)

  pub sync_kept : (old new : Disk) (file : ℕ) (v : Unit) → IsTrue old.told → IsKeptIn area wanted synced records first (now old) → file ≡ file_on area.side first
      → Called {T = Unit} file (Syncs (Ok v)) (Ok v) old new → IsKeptIn area wanted records records first (now new)
  sync_kept old new file v told kept file_is called =
      let mine = file_on area.side first in
      let here : Called {T = Unit} mine (Syncs (Ok v)) (Ok v) old new = subst (λ (f : ℕ). Called {T = Unit} f (Syncs (Ok v)) (Ok v) old new) file_is called in
      let at : now new mine ≡ settled (now old mine).bytes = (done_ok old new mine (Syncs (Ok v)) v told here).ok in
      let bytes_are : (now new mine).bytes ≡ area_of area.sequence records = ap (λ (f : File). f.bytes) at ∙ kept.area.bytes in
      let has : HasArea area records records (now new mine) = record {
        bytes = bytes_are;
        first_part = prefix_refl records;
        synced = ap (λ (f : File). f.synced) at ∙ kept.area.bytes;
        grew = subst (λ (l : List ℕ). OnlyGrew (now new mine).synced (now new mine).steps l) (sym bytes_are) (settled_grew (now old mine) (now new mine) kept.area at);
      } in
      kept_next area area wanted records records first (now old) (now new) kept.read (kept_opened area wanted synced records first (now old) kept) kept.beside
      ((here.does told).others (file_beside area.side first) (beside_differs area.side first)) has refl refl

-- The first area of a journal that has none.

pub begin_moments : (area : Option Area) (wanted : Option ℕ) (synced records : List Record) (first : ℕ) (old new : Disk) (result : Result Unit Failed) → area ≡ None → IsTrue old.told
    → IsJournalOn area records → IsKeptOn area wanted synced records first (now old) → Makes first 0 result old new → Keeps old new (OnlyBoth first (now old) (Holds wanted synced records))
begin_moments (Some it) wanted synced records first old new result none told is kept makes = absurd (cc)
begin_moments None wanted synced records first old new result none told is kept makes =
    side_run First first old new (now old) (IsMaking 0 (now old first)) (Holds wanted synced records) (λ f n m. refl) (makes.moments told)
    (λ mine making. holds_wider wanted synced [] [] records mine (now old (first + 1)) (subst (λ (l : List Record). IsPrefix l []) (sym kept.1) (prefix_refl [])) (subst (λ (l : List Record). IsPrefix [] l) (sym is) (prefix_refl []))
    (making_holds mine making))
  where
    making_holds : (mine : File) → IsMaking 0 (now old first) mine → Holds wanted [] [] mine (now old (first + 1))
    making_holds mine making first_image second_image of_one of_other =
        let was = (now old first).bytes in
        let other = (now old (first + 1)).bytes in
        let at = settled_image (now old (first + 1)) other second_image (settled_is (now old (first + 1)) kept.0.second_settled) of_other.0 in
        let stands = making_stands wanted was other first_image mine kept.0.none kept.0.fresh (subst (λ (f : File). IsMaking 0 f mine) (settled_is (now old first) kept.0.first_settled) making) of_one in
        record { records = []; stands = subst (λ (l : List ℕ). Stands wanted first_image l []) (sym at) stands; at_least = prefix_refl []; at_most = prefix_refl [] }

-- an area as it is made

pub begin_behind : (it : Area) (records : List Record) → IsFirst it → records ≡ [] → IsBehind it records
begin_behind it records first none = subst (λ (l : List Record). IsBehind it l) (sym none) (record {
  fit = tt;
  count = first.count;
  len = first.len;
  crc = first.crc ∙ ap (λ (s : ℕ). area_checksum s) (sym first.sequence);
})

begin_has : (it : Area) (file : File) → IsFirst it → file ≡ settled (area_header 0 1) → HasArea it [] [] file
begin_has it file first at =
    let bytes_are : (s : ℕ) → s ≡ 0 → area_header 0 1 ≡ area_of s [] = λ s zero_is. sym (area_of-nil 0) ∙ ap (λ (n : ℕ). area_of n []) (sym zero_is) in
    record {
      bytes = ap (λ (f : File). f.bytes) at ∙ bytes_are it.sequence first.sequence;
      first_part = prefix_refl [];
      synced = ap (λ (f : File). f.synced) at ∙ bytes_are it.sequence first.sequence;
      grew = subst (λ (f : File). OnlyGrew f.synced f.steps f.bytes) (sym at) (grew_none (area_header 0 1));
    }

pub begin_kept : (area : Option Area) (it : Area) (wanted : Option ℕ) (synced records : List Record) (first : ℕ) (old new : Disk) (v : Unit) → area ≡ None → IsTrue old.told
    → IsJournalOn area records → IsKeptOn area wanted synced records first (now old) → Makes first 0 (Ok v) old new → IsFirst it → IsKeptIn it wanted synced records first (now new)
begin_kept (Some that) it wanted synced records first old new v none told is kept makes made = absurd (cc)
begin_kept None it wanted synced records first old new v none told is kept makes made =
    let at = makes.ok told in
    let other : now new (first + 1) ≡ now old (first + 1) = ((makes.moments told).each new.calls makes.later (omega arith)).0 (first + 1) (two_files first) in
    let opened : open_sequence (now new first).bytes ≡ Some 0 =
    ap (λ (l : List ℕ). open_sequence l) (ap (λ (f : File). f.bytes) at ∙ sym (append-nil (area_header 0 1))) ∙ open_header 0 [] (omega arith) in
    let read : side_read wanted (now new first).bytes (now new (first + 1)).bytes ≡ Some First =
    ap (λ (o : Option ℕ). chosen wanted o (open_sequence (now new (first + 1)).bytes)) opened
    ∙ ap (λ (f : File). chosen wanted (Some 0) (open_sequence f.bytes)) other
    ∙ first_chosen wanted (open_sequence (now old first).bytes) (open_sequence (now old (first + 1)).bytes) (now old first).bytes kept.0.none kept.0.fresh in
    let has = subst (λ (l : List Record). HasArea it l records (now new first)) (sym kept.1) (subst (λ (l : List Record). HasArea it [] l (now new first)) (sym is) (begin_has it (now new first) made at)) in
    record {
      read = read ∙ ap (λ (s : Side). Some s) (sym made.side);
      area = subst (λ (s : Side). HasArea it synced records (now new (file_on s first))) (sym made.side) has;
      beside = subst (λ (s : Side). IsSettled (now new (file_beside s first))) (sym made.side) (subst IsSettled (sym other) kept.0.second_settled);
    }

-- what the making needs
pub begin_settled : (area : Option Area) (wanted : Option ℕ) (synced records : List Record) (first : ℕ) (files : ℕ → File) → area ≡ None → IsKeptOn area wanted synced records first files → IsSettled (files first)
begin_settled None wanted synced records first files none kept = kept.0.first_settled
begin_settled (Some it) wanted synced records first files none kept = absurd (cc)

-- Reading all records of an area, piece by piece.
use Rattle.std.proofs.Common.{◌≡◌, ℕ, ◌+◌, ◌-◌, ◌<◌, ◌≤◌, ◌^◌, Bool, true, false, nat_lt, max, ◌*◌, List, [], ◌++◌, length, take, drop, Option, Some, None, Result, Ok, Err, IsTrue, sym, ◌∙◌, ap, subst, arith, append_assoc, length-append, take-append-drop}
use Rattle.std.specs.Prelude.{IsErrAnd, IsErrOf}
use Rattle.std.proofs.lemmas.List.{append-nil, take_at, drop_at, drop_all, length-take}
use Rattle.std.proofs.lemmas.Bool.Decides.{nat_tests}
use Rattle.fault_counts.specs.Rose.{Rose}
use Rattle.disk_model.specs.Disk.{Disk, contents, Fills, HasCause}
use Rattle.disk_model.specs.Looking.{LooksOnly}
use Rattle.disk_model.proofs.LookingLemmas.{looked_contents, looks_told, rose_looking}
use Rattle.frame_codec.specs.Frame.{Event, limit}
use Rattle.frame_codec.specs.Chain.{chain_of, end_of, last_checksum}
use Rattle.frame_codec.proofs.ReadLemmas.{frame_whole}
use Rattle.frame_codec.proofs.ChainLemmas.{chain_of-nil, chain_of-append, last_checksum-append, length-chain_of}
use Rattle.framed_file.specs.Framed.{IsPrefix, header_len, framed}
use Rattle.redo_journal.specs.declared.record.Record.{Record}
use Rattle.redo_journal.specs.declared.replay.Replay.{Replay as Index}
use Rattle.redo_journal.specs.declared.scan.Scan.{Scan}
use Rattle.redo_journal.specs.declared.fault.JournalFault.{JournalFault}
use Rattle.redo_journal.specs.declared.fault.JournalFault.TheVariants.{Device, Memory}
use Rattle.redo_journal.specs.Records.{record_event, record_events}
use Rattle.redo_journal.specs.Replays.{start, end_of_records, AllFit}
use Rattle.redo_journal.specs.Areas.{area_header, area_checksum, IsArea}
use Rattle.redo_journal.specs.Reading.{told, Follows, NoRecordAt, Walked, Needs, Walks, Reached}
use Rattle.redo_journal.proofs.HeaderLemmas.{length-area_header}
use Rattle.redo_journal.proofs.TakeLemmas.{some_is}
use Rattle.redo_journal.proofs.WalkLemmas.{end_of_records-append, record_events-append, end_is, fit_ends, fit_more, walked_size}

-- ---- how far a reading has come

-- a reading comes further
pub reached_more : (checksum : ℕ) (old new : Scan) (bytes rest : List ℕ) → Reached checksum old → Walked old new bytes rest → Reached checksum new
reached_more checksum old new bytes rest reached walked = record {
  fit = fit_more old new bytes rest reached.fit reached.len walked;
  len = walked.len ∙ ap (λ (n : ℕ). end_of_records n walked.more) reached.len ∙ sym (end_of_records-append header_len old.records.items walked.more)
      ∙ ap (λ (l : List Record). end_of_records header_len l) (sym walked.records);
  crc = walked.crc ∙ ap (λ (c : ℕ). last_checksum c old.len (record_events walked.more)) reached.crc
      ∙ ap (λ (n : ℕ). last_checksum (last_checksum checksum header_len (record_events old.records.items)) n (record_events walked.more)) (reached.len ∙ sym (end_is header_len old.records.items))
      ∙ sym (last_checksum-append checksum header_len (record_events old.records.items) (record_events walked.more))
      ∙ ap (λ (l : List Event). last_checksum checksum header_len l) (sym (record_events-append old.records.items walked.more))
      ∙ ap (λ (l : List Record). last_checksum checksum header_len (record_events l)) (sym walked.records);
}

pub reached_within : (checksum : ℕ) (scan : Scan) → Reached checksum scan → scan.len ≤ limit
reached_within checksum scan reached = omega (arith, reached.len, fit_ends header_len start scan.records.items (omega arith) reached.fit)

-- where so many bytes are needed behind the records of a piece, the reading has come further, or the piece is too short
pub progress : (old new : Scan) (index : Index) (bytes : List ℕ) (is_last : Bool) (given : Option ℕ) (n : ℕ) → Walks old new index bytes is_last given → given ≡ Some n
    → (is_last ≡ false) × (n < 2 ^ 32) × (old.len ≤ new.len) × (old.len + length bytes < new.len + n)
progress old new index bytes is_last given n walks is =
    let goes_on = some_is given n (λ (k : ℕ). (is_last ≡ false) × Follows index new.records.items × Needs new walks.rest k) is walks.goes_on in
    let needs = goes_on.2 in
    let size = walked_size old new bytes walks.rest walks.walked in
    let shorter = ap length (walks.walked).spelt ∙ length-append (chain_of old.crc old.len (record_events (walks.walked).more)) walks.rest in
    (goes_on.0, needs.small, omega (arith, size, shorter), omega (arith, size, needs.more))

-- ---- the bytes of the file

-- the bytes of the header and the records go on
framed_more : (header : List ℕ) (checksum : ℕ) (old new : Scan) (bytes rest beyond : List ℕ) → Reached checksum old → Walked old new bytes rest
    → framed header checksum (record_events old.records.items) ++ (bytes ++ beyond) ≡ framed header checksum (record_events new.records.items) ++ (rest ++ beyond)
framed_more header checksum old new bytes rest beyond reached walked =
    let before = record_events old.records.items in
    let events = record_events walked.more in
    let sum = last_checksum checksum header_len before in
    let front = framed header checksum before in
    let place : old.len ≡ end_of header_len before = reached.len ∙ sym (end_is header_len old.records.items) in
    let chain : chain_of old.crc old.len events ≡ chain_of sum (end_of header_len before) events =
    ap (λ (c : ℕ). chain_of c old.len events) reached.crc ∙ ap (λ (n : ℕ). chain_of sum n events) place in
    let more = chain_of sum (end_of header_len before) events in
    let all : framed header checksum (record_events new.records.items) ≡ front ++ more =
    ap (λ (l : List Record). framed header checksum (record_events l)) walked.records ∙ ap (λ (l : List Event). framed header checksum l) (record_events-append old.records.items walked.more)
    ∙ ap (λ (l : List ℕ). header ++ l) (chain_of-append checksum header_len before events)
    ∙ sym (append_assoc header (chain_of checksum header_len before) more) in
    ap (λ (l : List ℕ). front ++ (l ++ beyond)) (walked.spelt ∙ ap (λ (l : List ℕ). l ++ rest) chain)
    ∙ ap (λ (l : List ℕ). front ++ l) (append_assoc more rest beyond)
    ∙ sym (append_assoc front more (rest ++ beyond))
    ∙ ap (λ (l : List ℕ). l ++ (rest ++ beyond)) (sym all)

-- where the header and the records end
length-framed : (header : List ℕ) (checksum : ℕ) (records : List Record) → length header ≡ header_len → length (framed header checksum (record_events records)) ≡ end_of_records header_len records
length-framed header checksum records size =
    omega (arith, size, length-append header (chain_of checksum header_len (record_events records)), length-chain_of checksum header_len (record_events records), end_is header_len records)

-- the piece that was read, and what is behind it
record Piece (bytes rest : List ℕ) (is_last : Bool) : Type 0 where
  beyond : List ℕ
  split : rest ≡ bytes ++ beyond
  last : is_last ≡ true → beyond ≡ []

piece_of : (all front rest old new bytes : List ℕ) (at n : ℕ) (is_last : Bool) → all ≡ front ++ rest → at ≡ length front → Fills all at old n new → length new ≡ length old → bytes ≡ take n new
    → is_last ≡ nat_lt n (length new) → Piece bytes rest is_last
piece_of all front rest old new bytes at n is_last all_is at_is fills same bytes_is last_is =
    let behind : drop at all ≡ rest = ap (λ (l : List ℕ). drop at l) all_is ∙ drop_at front rest at (sym at_is) in
    let size : length all ≡ at + length rest = omega (arith, ap length all_is, length-append front rest, at_is) in
    let front_is : bytes ≡ take n rest =
    bytes_is ∙ ap (λ (l : List ℕ). take n l) fills.bytes_are ∙ take_at (take n (drop at all)) (drop n old) n (omega (arith, length-take n (drop at all), ap length behind, size, fills.count))
    ∙ ap (λ (l : List ℕ). take n l) behind in
    record {
      beyond = drop n rest;
      split = sym (take-append-drop n rest) ∙ ap (λ (l : List ℕ). l ++ drop n rest) (sym front_is);
      last = λ is. drop_all n rest (let less : n < length new = grind (arith, nat_tests) in omega (arith, fills.count, size, same, less));
    }

-- where a reading of the file stands, behind a header of this checksum
pub record Reading (first : Disk) (file checksum : ℕ) (scan : Scan) : Type 0 where
  pub reached : Reached checksum scan
  pub stands : IsTrue first.told → (header : List ℕ) → length header ≡ header_len → IsPrefix header (contents first file)
      → (rest : List ℕ) × (contents first file ≡ framed header checksum (record_events scan.records.items) ++ rest)

pub reading_first : (first : Disk) (file checksum : ℕ) (scan : Scan) → scan.records.items ≡ [] → scan.len ≡ 32 → scan.crc ≡ checksum → Reading first file checksum scan
reading_first first file checksum scan none len crc = record {
  reached = record {
    fit = subst (λ (l : List Record). AllFit header_len start l) (sym none) tt;
    len = len ∙ ap (λ (l : List Record). end_of_records header_len l) (sym none);
    crc = crc ∙ ap (λ (l : List Record). last_checksum checksum header_len (record_events l)) (sym none);
  };
  stands = λ told header size headed. (
    headed.0,
    headed.1 ∙ ap (λ (l : List ℕ). l ++ headed.0) (sym (ap (λ (l : List Record). framed header checksum (record_events l)) none ∙ ap (λ (l : List ℕ). header ++ l) (chain_of-nil checksum header_len) ∙ append-nil header)),
  );
}

-- what a piece leaves behind its records
record Behind (first : Disk) (file checksum : ℕ) (scan : Scan) (rest : List ℕ) (is_last : Bool) (header : List ℕ) : Type 0 where
  beyond : List ℕ
  stands : contents first file ≡ framed header checksum (record_events scan.records.items) ++ (rest ++ beyond)
  last : is_last ≡ true → beyond ≡ []

-- a piece as it was read from the file at a place
pub record IsPiece (d : Disk) (file at n : ℕ) (old new bytes : List ℕ) (is_last : Bool) : Type 0 where
  pub fills : IsTrue d.told → Fills (contents d file) at old n new
  pub same : length new ≡ length old
  pub bytes_are : bytes ≡ take n new
  pub last : is_last ≡ nat_lt n (length new)

-- a piece as a reading takes it from a buffer
pub piece_is : (d : Disk) (file at n : ℕ) (old new held bytes : List ℕ) (len : ℕ) (is_last : Bool) → (IsTrue d.told → Fills (contents d file) at old n new) → length new ≡ length old
    → held ≡ new → len ≡ length new → bytes ≡ take n held → is_last ≡ nat_lt n len → IsPiece d file at n old new bytes is_last
piece_is d file at n old new held bytes len is_last fills same held_is len_is bytes_is last_is = record {
  fills = fills;
  same = same;
  bytes_are = bytes_is ∙ ap (λ (l : List ℕ). take n l) held_is;
  last = last_is ∙ ap (λ (k : ℕ). nat_lt n k) len_is;
}

behind_piece : (first d : Disk) (file checksum at n : ℕ) (scan new : Scan) (index : Index) (before after bytes : List ℕ) (is_last : Bool) (needs : Option ℕ)
    → LooksOnly first d → Reading first file checksum scan → at ≡ scan.len → IsPiece d file at n before after bytes is_last → (walks : Walks scan new index bytes is_last needs)
    → IsTrue first.told → (header : List ℕ) → length header ≡ header_len → IsPrefix header (contents first file) → Behind first file checksum new walks.rest is_last header
behind_piece first d file checksum at n scan new index before after bytes is_last needs looks reading at_is is_piece walks is_told header size headed =
    let so = reading.stands is_told header size headed in
    let here : contents d file ≡ framed header checksum (record_events scan.records.items) ++ so.0 = looked_contents first d file looks is_told ∙ so.1 in
    let place : at ≡ length (framed header checksum (record_events scan.records.items)) = at_is ∙ (reading.reached).len ∙ sym (length-framed header checksum scan.records.items size) in
    let piece = piece_of (contents d file) (framed header checksum (record_events scan.records.items)) so.0 before after bytes at n is_last here place (is_piece.fills (looks_told first d looks is_told)) is_piece.same is_piece.bytes_are is_piece.last in
    record {
      beyond = piece.beyond;
      stands = so.1 ∙ ap (λ (l : List ℕ). framed header checksum (record_events scan.records.items) ++ l) piece.split
          ∙ framed_more header checksum scan new bytes walks.rest piece.beyond reading.reached walks.walked;
      last = piece.last;
    }

-- a piece was read
pub reading_more : (first d : Disk) (file checksum at n : ℕ) (scan new : Scan) (index : Index) (before after bytes : List ℕ) (is_last : Bool) (needs : Option ℕ)
    → LooksOnly first d → Reading first file checksum scan → at ≡ scan.len → IsPiece d file at n before after bytes is_last → Walks scan new index bytes is_last needs
    → Reading first file checksum new
reading_more first d file checksum at n scan new index before after bytes is_last needs looks reading at_is is_piece walks = record {
  reached = reached_more checksum scan new bytes walks.rest reading.reached walks.walked;
  stands = λ is_told header size headed.
      let so = behind_piece first d file checksum at n scan new index before after bytes is_last needs looks reading at_is is_piece walks is_told header size headed in
      (walks.rest ++ so.beyond, so.stands);
}

-- the records that were read are those of the area
is_area : (sequence checksum : ℕ) (bytes rest : List ℕ) (scan : Scan) → Reached checksum scan → checksum ≡ area_checksum sequence
    → bytes ≡ framed (area_header sequence 1) checksum (record_events scan.records.items) ++ rest → NoRecordAt scan.crc scan.len (told scan.records.items) rest → IsArea sequence bytes scan.records.items
is_area sequence checksum bytes rest scan reached is stands none = record {
  fit = reached.fit;
  rest = rest;
  stands = stands ∙ ap (λ (c : ℕ). framed (area_header sequence 1) c (record_events scan.records.items) ++ rest) is;
  no_more = subst (λ (c : ℕ). NoRecordAt c (end_of_records header_len scan.records.items) (told scan.records.items) rest)
      (reached.crc ∙ ap (λ (c : ℕ). last_checksum c header_len (record_events scan.records.items)) is)
      (subst (λ (n : ℕ). NoRecordAt scan.crc n (told scan.records.items) rest) reached.len none);
}

-- and it was the end: no record that fits stands behind them
pub reading_end : (first d : Disk) (file checksum at n : ℕ) (scan new : Scan) (index : Index) (before after bytes : List ℕ) (is_last : Bool) (needs : Option ℕ)
    → LooksOnly first d → Reading first file checksum scan → at ≡ scan.len → IsPiece d file at n before after bytes is_last → Walks scan new index bytes is_last needs → needs ≡ None
    → IsTrue first.told → (sequence : ℕ) → checksum ≡ area_checksum sequence → IsPrefix (area_header sequence 1) (contents first file) → IsArea sequence (contents first file) new.records.items
reading_end first d file checksum at n scan new index before after bytes is_last needs looks reading at_is is_piece walks none is_told sequence is headed =
    let header = area_header sequence 1 in
    let so = behind_piece first d file checksum at n scan new index before after bytes is_last needs looks reading at_is is_piece walks is_told header (length-area_header sequence 1) headed in
    let reached = reached_more checksum scan new bytes walks.rest reading.reached walks.walked in
    is_area sequence checksum (contents first file) (walks.rest ++ so.beyond) new reached is so.stands (walks.none none so.beyond so.last)

-- or the file has fewer bytes behind them than a frame needs there
pub reading_short : (first d last : Disk) (file checksum at n needed : ℕ) (scan new : Scan) (index : Index) (before after bytes : List ℕ) (is_last : Bool) (needs : Option ℕ)
    → LooksOnly first d → LooksOnly first last → Reading first file checksum scan → at ≡ scan.len → IsPiece d file at n before after bytes is_last → Walks scan new index bytes is_last needs
    → needs ≡ Some needed
    → IsTrue first.told → length (contents last file) < new.len + needed
    → (sequence : ℕ) → checksum ≡ area_checksum sequence → IsPrefix (area_header sequence 1) (contents first file) → IsArea sequence (contents first file) new.records.items
reading_short first d last file checksum at n needed scan new index before after bytes is_last needs looks looks_last reading at_is is_piece walks some is_told short sequence is headed =
    let header = area_header sequence 1 in
    let size = length-area_header sequence 1 in
    let so = behind_piece first d file checksum at n scan new index before after bytes is_last needs looks reading at_is is_piece walks is_told header size headed in
    let reached = reached_more checksum scan new bytes walks.rest reading.reached walks.walked in
    let rest = walks.rest ++ so.beyond in
    let all : length (contents first file) ≡ new.len + length rest =
    omega (arith, ap length so.stands, length-append (framed header checksum (record_events new.records.items)) rest, length-framed header checksum new.records.items size, reached.len) in
    let goes_on = some_is needs needed (λ (k : ℕ). (is_last ≡ false) × Follows index new.records.items × Needs new walks.rest k) some walks.goes_on in
    let less : length rest < needed = omega (arith, all, short, ap length (looked_contents first last file looks_last is_told)) in
    is_area sequence checksum (contents first file) rest new reached is so.stands
    (λ it fits here. omega (arith, less, (goes_on.2).least (record_event it) so.beyond here, frame_whole new.crc new.len rest (record_event it) here))

-- the index still follows
pub follows_on : (old new : Scan) (index : Index) (bytes : List ℕ) (is_last : Bool) (needs : Option ℕ) (n : ℕ) → Walks old new index bytes is_last needs → needs ≡ Some n → Follows index new.records.items
follows_on old new index bytes is_last needs n walks some =
    (some_is needs n (λ (k : ℕ). (is_last ≡ false) × Follows index new.records.items × Needs new walks.rest k) some walks.goes_on).1

-- want of memory is no failure of the device
pub not_device : (answer : Result Scan JournalFault) → IsErrAnd answer (λ e. e ≡ Memory) → IsErrOf answer Device → ⊥
not_device (Ok scan) memory device = absurd memory
not_device (Err e) memory device = let first = memory in let second = device in cc

-- a reading that comes further, or whose piece grows, has less left
pub less_left : (old new piece bytes needed grown : ℕ) → new ≤ limit → old ≤ new → needed < 2 ^ 32 → piece ≤ 2 ^ 32 → bytes ≡ piece → old + bytes < new + needed → grown ≡ max piece needed
    → (limit - new) * 4294967297 + (4294967296 - grown) < (limit - old) * 4294967297 + (4294967296 - piece)
less_left old new piece bytes needed grown within later small piece_small all further grown_is = omega arith

-- a piece that is not the last is full
pub full : (n size : ℕ) (held : List ℕ) → nat_lt n size ≡ false → n ≤ size → size ≡ length held → length (take n held) ≡ size
full n size held more count size_is =
    let reaches : size ≤ n = grind (arith, nat_tests) in
    omega (arith, length-take n held, reaches)

-- an error that is passed on is the same one
pub same_fault : {T U : Type 0} (inner : Result T JournalFault) (outer : Result U JournalFault) (it : JournalFault) → inner ≡ Err it → IsErrAnd outer (λ e. e ≡ it)
    → (e : JournalFault) → outer ≡ Err e → inner ≡ Err e
same_fault inner (Ok value) it is same e of = absurd same
same_fault inner (Err x) it is same e of = let first = same in cc

-- a fault of the device behind calls that only looked is one since the first of them
pub rose_behind : {T : Type 0} (inner : Result T JournalFault) (start old new : Disk) → LooksOnly start old → HasCause (λ r. IsErrOf r Device) inner old new → IsErrOf inner Device
    → Rose start.faults new.faults
rose_behind inner start old new looks cause is = rose_looking start old new looks (cause.cause is)

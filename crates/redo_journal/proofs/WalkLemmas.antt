-- Reading the records at the front of a piece, one after the other.
use Rattle.std.proofs.Common.{◌≡◌, ℕ, ◌+◌, ◌-◌, ◌<◌, ◌≤◌, ◌^◌, Bool, true, false, List, [], ◌∷◌, ◌++◌, length, take, drop, get_or, Option, Some, None, IfSome, IfNone, refl, sym, ◌∙◌, ap, subst, arith, append_assoc, length-append, take-append-drop}
use Rattle.std.specs.Prelude.{slice_range}
use Rattle.std.proofs.lemmas.List.{append-nil, take_at, take-append-le, length-drop}
use Rattle.std.specs.Int.{w32, from_le_bytes}
use Rattle.frame_codec.specs.Frame.{Event, size_of, checksum_of, frame_of, limit, IsFrameAt}
use Rattle.frame_codec.specs.Chain.{chain_of, end_of, last_checksum}
use Rattle.frame_codec.specs.Read.{Reads}
use Rattle.frame_codec.specs.declared.read.Frame.{Frame}
use Rattle.frame_codec.proofs.FrameLemmas.{length-frame_of, one_event}
use Rattle.frame_codec.proofs.ChainLemmas.{chain_of-nil, chain_of-cons, chain_of-append, last_checksum-append, length-chain_of}
use Rattle.frame_codec.proofs.ReadLemmas.{size_read}
use Rattle.framed_file.specs.Framed.{header_len}
use Rattle.redo_journal.specs.declared.record.Record.{Record}
use Rattle.redo_journal.specs.declared.replay.Replay.{Replay as Index}
use Rattle.redo_journal.specs.declared.scan.Scan.{Scan}
use Rattle.redo_journal.specs.declared.walk.Next.TheVariants.{Taken, NoFrame, NoRecord}
use Rattle.redo_journal.specs.Records.{record_event, record_events}
use Rattle.redo_journal.specs.Replays.{Replay, start, after_record, after_records, end_behind, end_of_records, Fits, AllFit}
use Rattle.redo_journal.specs.Index.{IsReplay, IsOffered}
use Rattle.redo_journal.specs.Reading.{event_with, told, Follows, Tells, TellsNone, NoRecordAt, Steps, IsAsBefore, Found, Walked, Walks}
use Rattle.redo_journal.proofs.SoundLemmas.{told-sound}
use Rattle.redo_journal.proofs.UniqueLemmas.{one_record}

-- ---- records behind records

pub after_records-append : (xs ys : List Record) (replay : Replay) → after_records (xs ++ ys) replay ≡ after_records ys (after_records xs replay)
after_records-append [] ys replay = refl
after_records-append (x ∷ xs) ys replay = after_records-append xs ys (after_record x replay)

pub end_of_records-append : (at : ℕ) (xs ys : List Record) → end_of_records at (xs ++ ys) ≡ end_of_records (end_of_records at xs) ys
end_of_records-append at [] ys = refl
end_of_records-append at (x ∷ xs) ys = end_of_records-append (end_behind at x) xs ys

pub AllFit-append : (at : ℕ) (replay : Replay) (xs ys : List Record) → AllFit at replay xs → AllFit (end_of_records at xs) (after_records xs replay) ys → AllFit at replay (xs ++ ys)
AllFit-append at replay [] ys of_xs of_ys = of_ys
AllFit-append at replay (x ∷ xs) ys of_xs of_ys = (of_xs.0, AllFit-append (end_behind at x) (after_record x replay) xs ys of_xs.1 of_ys)

pub record_events-append : (xs ys : List Record) → record_events (xs ++ ys) ≡ record_events xs ++ record_events ys
record_events-append [] ys = refl
record_events-append (x ∷ xs) ys = ap (λ (l : List Event). record_event x ∷ l) (record_events-append xs ys)

-- the records' frames end where their events' do
pub end_is : (at : ℕ) (xs : List Record) → end_of at (record_events xs) ≡ end_of_records at xs
end_is at [] = refl
end_is at (x ∷ xs) = end_is (end_behind at x) xs

-- records that fit end within the limit
pub fit_ends : (at : ℕ) (replay : Replay) (xs : List Record) → at ≤ limit → AllFit at replay xs → end_of_records at xs ≤ limit
fit_ends at replay [] within fit = within
fit_ends at replay (x ∷ xs) within fit = fit_ends (end_behind at x) (after_record x replay) xs (omega (arith, (fit.0).room)) fit.1

-- ---- one step

-- a record's frame lies in the bytes that it was read from
pub step_fits : (old new : Scan) (bytes : List ℕ) (n : ℕ) → Steps old new bytes n → (n ≤ length bytes) × (0 < n)
step_fits old new bytes n step =
    let size = ap length step.spelt ∙ length-append (frame_of old.crc old.len (record_event step.it)) (drop n bytes) in
    let frame = length-frame_of old.crc old.len (record_event step.it) in
    let is = step.size in
    (omega (arith, size, frame, is), omega (arith, is))

-- what is left is shorter
pub walk_falls : (old new : Scan) (bytes rest : List ℕ) (n : ℕ) → Steps old new bytes n → rest ≡ drop n bytes → length rest < length bytes
walk_falls old new bytes rest n step rest_is =
    let fits = step_fits old new bytes n step in
    omega (arith, fits.0, fits.1, ap length rest_is, length-drop n bytes)

-- the event that was read, as its type and its body
read_event : (prev at : ℕ) (bytes body : List ℕ) (frame : Frame) (reads : Reads prev at bytes frame) → body ≡ slice_range bytes frame.body_start frame.body_end
    → reads.event ≡ event_with frame.kind body
read_event prev at bytes body frame reads body_is =
    ap (λ (k : ℕ). event_with k (reads.event).body) (sym reads.kind) ∙ ap (λ (l : List ℕ). event_with frame.kind l) (sym (body_is ∙ reads.body))

-- the event of a frame that stands there, whatever follows the bytes, is the one that was read
frame_is : (prev at : ℕ) (bytes body beyond : List ℕ) (frame : Frame) (event : Event) → Reads prev at bytes frame → body ≡ slice_range bytes frame.body_start frame.body_end
    → IsFrameAt prev at (bytes ++ beyond) event → event ≡ event_with frame.kind body
frame_is prev at bytes body beyond frame event reads body_is here =
    let there = reads.stands in
    (one_event prev at event reads.event here.rest (there.rest ++ beyond) here.ends there.ends
    (sym here.stands ∙ ap (λ (l : List ℕ). l ++ beyond) there.stands ∙ append_assoc (frame_of prev at reads.event) there.rest beyond)).0
    ∙ read_event prev at bytes body frame reads body_is

-- a frame stands there, of no record that is allowed
pub no_record : (prev at : ℕ) (replay : Replay) (bytes body : List ℕ) (frame : Frame) → Reads prev at bytes frame → body ≡ slice_range bytes frame.body_start frame.body_end
    → TellsNone replay (event_with frame.kind body) → (beyond : List ℕ) → NoRecordAt prev at replay (bytes ++ beyond)
no_record prev at replay bytes body frame reads body_is none beyond it fits here =
    none it fits.allowed (frame_is prev at bytes body beyond frame (record_event it) reads body_is here)

-- a frame stands there, of a record that does not fit
pub no_fit : (prev at : ℕ) (records : List Record) (bytes body : List ℕ) (frame : Frame) (it : Record) → Reads prev at bytes frame → body ≡ slice_range bytes frame.body_start frame.body_end
    → AllFit header_len start records → Tells (told records) (event_with frame.kind body) it → (Fits at (told records) it → ⊥)
    → (beyond : List ℕ) → NoRecordAt prev at (told records) (bytes ++ beyond)
no_fit prev at records bytes body frame it reads body_is fit tells not beyond other fits here =
    let same = tells.spelt ∙ sym (frame_is prev at bytes body beyond frame (record_event other) reads body_is here) in
    let one = one_record (told records) it other (told-sound header_len records fit) tells.form fits.allowed same in
    not (subst (λ (r : Record). Fits at (told records) r) (sym one) fits)

-- the last record was taken off again
pub taken_off : (old new left : List Record) (it : Record) (n : ℕ) → new ≡ old ++ it ∷ [] → n ≡ length new → left ≡ take (n - 1) new → left ≡ old
taken_off old new left it n new_is n_is left_is =
    left_is ∙ ap (λ (l : List Record). take (n - 1) l) new_is ∙ take_at old (it ∷ []) (n - 1) (omega (arith, n_is, ap length new_is, length-append old (it ∷ [])))

-- what was told of the last record
pub offered : (index : Index) (prev at : ℕ) (records before : List Record) (bytes body : List ℕ) (frame : Frame) (it : Record) → Reads prev at bytes frame → body ≡ slice_range bytes frame.body_start frame.body_end
    → records ≡ before ++ it ∷ [] → Follows index before → Tells (told before) (event_with frame.kind body) it → IsOffered index records before it (told before) at frame.end
offered index prev at records before bytes body frame it reads body_is last_is follows tells =
    let event : record_event it ≡ reads.event = tells.spelt ∙ sym (read_event prev at bytes body frame reads body_is) in
    record { last_is = last_is; stands = follows; form = tells.form; ends = reads.end ∙ ap (λ (e : Event). at + size_of e) (sym event) }

-- the record was taken
pub step_taken : (old new : Scan) (index : Index) (bytes body : List ℕ) (n : ℕ) (frame : Frame) (it : Record) → Reads old.crc old.len bytes frame
    → body ≡ slice_range bytes frame.body_start frame.body_end → Tells (told old.records.items) (event_with frame.kind body) it
    → Fits old.len (told old.records.items) it × IsReplay index new.records.items (after_record it (told old.records.items))
    → new.records.items ≡ old.records.items ++ it ∷ [] → new.len ≡ frame.end → new.crc ≡ frame.crc → n ≡ frame.body_end + 4
    → Found old new index bytes (Taken n)
step_taken old new index bytes body n frame it reads body_is tells fits records len crc n_is =
    let event : record_event it ≡ reads.event = tells.spelt ∙ sym (read_event old.crc old.len bytes body frame reads body_is) in
    let behind : (reads.stands).rest ≡ drop n bytes = reads.behind ∙ ap (λ (k : ℕ). drop k bytes) (sym n_is) in
    let size : n ≡ size_of reads.event = omega (arith, n_is, reads.body_end) in (
      record {
        it = it;
        fits = fits.0;
        ends = ap (λ (e : Event). old.len + size_of e) event ∙ sym reads.end ∙ sym len;
        records = records;
        spelt = (reads.stands).stands ∙ ap (λ (l : List ℕ). frame_of old.crc old.len reads.event ++ l) behind
            ∙ ap (λ (e : Event). frame_of old.crc old.len e ++ drop n bytes) (sym event);
        size = size ∙ ap size_of (sym event);
        crc = crc ∙ reads.crc ∙ ap (checksum_of old.crc old.len) (sym event);
      },
      subst (λ (r : Replay). IsReplay index new.records.items r)
          (sym (ap told records ∙ after_records-append old.records.items (it ∷ []) start)) fits.1,
    )

-- ---- steps, one after the other

pub walked_none : (scan : Scan) (bytes : List ℕ) → Walked scan scan bytes bytes
walked_none scan bytes = record {
  more = [];
  records = sym (append-nil scan.records.items);
  fit = tt;
  len = refl;
  crc = refl;
  spelt = sym (ap (λ (l : List ℕ). l ++ bytes) (chain_of-nil scan.crc scan.len));
}

chain_one : (prev at : ℕ) (event : Event) → chain_of prev at (event ∷ []) ≡ frame_of prev at event
chain_one prev at event =
    chain_of-cons prev at event [] ∙ ap (λ (l : List ℕ). frame_of prev at event ++ l) (chain_of-nil (checksum_of prev at event) (at + size_of event)) ∙ append-nil (frame_of prev at event)

-- the records that were told with some more
told_more : (old scan : Scan) (more : List Record) → scan.records.items ≡ old.records.items ++ more → told scan.records.items ≡ after_records more (told old.records.items)
told_more old scan more is = ap told is ∙ after_records-append old.records.items more start

-- what fits behind the records that were read
fits_behind : (old scan : Scan) (bytes rest : List ℕ) (it : Record) (walked : Walked old scan bytes rest) → Fits scan.len (told scan.records.items) it
    → Fits (end_of_records old.len walked.more) (after_records walked.more (told old.records.items)) it
fits_behind old scan bytes rest it walked fits =
    subst (λ (n : ℕ). Fits n (after_records walked.more (told old.records.items)) it) walked.len
    (subst (λ (r : Replay). Fits scan.len r it) (told_more old scan walked.more walked.records) fits)

-- the chain with one frame more
one_more : (prev at crc len : ℕ) (more : List Record) (it : Record) (rest : List ℕ) → crc ≡ last_checksum prev at (record_events more) → len ≡ end_of_records at more
    → chain_of prev at (record_events more) ++ (frame_of crc len (record_event it) ++ rest) ≡ chain_of prev at (record_events (more ++ it ∷ [])) ++ rest
one_more prev at crc len more it rest crc_is len_is =
    let front = chain_of prev at (record_events more) in
    let sum = last_checksum prev at (record_events more) in
    let end = end_of at (record_events more) in
    let frame : frame_of crc len (record_event it) ≡ chain_of sum end (record_event it ∷ []) =
    ap (λ (c : ℕ). frame_of c len (record_event it)) crc_is ∙ ap (λ (n : ℕ). frame_of sum n (record_event it)) (len_is ∙ sym (end_is at more)) ∙ sym (chain_one sum end (record_event it)) in
    ap (λ (l : List ℕ). front ++ (l ++ rest)) frame
    ∙ sym (append_assoc front (chain_of sum end (record_event it ∷ [])) rest)
    ∙ ap (λ (l : List ℕ). l ++ rest) (sym (chain_of-append prev at (record_events more) (record_event it ∷ [])))
    ∙ ap (λ (l : List Event). chain_of prev at l ++ rest) (sym (record_events-append more (it ∷ [])))

sum_more : (prev at crc len : ℕ) (more : List Record) (it : Record) → crc ≡ last_checksum prev at (record_events more) → len ≡ end_of_records at more
    → checksum_of crc len (record_event it) ≡ last_checksum prev at (record_events (more ++ it ∷ []))
sum_more prev at crc len more it crc_is len_is =
    let sum = last_checksum prev at (record_events more) in
    ap (λ (c : ℕ). checksum_of c len (record_event it)) crc_is ∙ ap (λ (n : ℕ). checksum_of sum n (record_event it)) (len_is ∙ sym (end_is at more))
    ∙ sym (last_checksum-append prev at (record_events more) (record_event it ∷ []))
    ∙ ap (λ (l : List Event). last_checksum prev at l) (sym (record_events-append more (it ∷ [])))

-- one record more was read
pub walked_more : (old scan new : Scan) (bytes rest rest' : List ℕ) (n : ℕ) → Walked old scan bytes rest → Steps scan new rest n → rest' ≡ drop n rest → Walked old new bytes rest'
walked_more old scan new bytes rest rest' n walked step rest_is = record {
  more = walked.more ++ step.it ∷ [];
  records = step.records ∙ ap (λ (l : List Record). l ++ step.it ∷ []) walked.records ∙ append_assoc old.records.items walked.more (step.it ∷ []);
  fit = AllFit-append old.len (told old.records.items) walked.more (step.it ∷ []) walked.fit (fits_behind old scan bytes rest step.it walked step.fits, tt);
  len = sym step.ends ∙ ap (λ (k : ℕ). k + size_of (record_event step.it)) walked.len ∙ sym (end_of_records-append old.len walked.more (step.it ∷ []));
  crc = step.crc ∙ sum_more old.crc old.len scan.crc scan.len walked.more step.it walked.crc walked.len;
  spelt = walked.spelt
      ∙ ap (λ (l : List ℕ). chain_of old.crc old.len (record_events walked.more) ++ l) (step.spelt ∙ ap (λ (l : List ℕ). frame_of scan.crc scan.len (record_event step.it) ++ l) (sym rest_is))
      ∙ one_more old.crc old.len scan.crc scan.len walked.more step.it rest' walked.crc walked.len;
}

-- a step that did nothing
walked_same : (old scan new : Scan) (bytes rest : List ℕ) → Walked old scan bytes rest → IsAsBefore scan new → Walked old new bytes rest
walked_same old scan new bytes rest walked same = record {
  more = walked.more;
  records = same.records ∙ walked.records;
  fit = walked.fit;
  len = same.len ∙ walked.len;
  crc = same.crc ∙ walked.crc;
  spelt = walked.spelt;
}

-- all of them fit from the first on
pub fit_more : (old scan : Scan) (bytes rest : List ℕ) → AllFit header_len start old.records.items → old.len ≡ end_of_records header_len old.records.items → Walked old scan bytes rest
    → AllFit header_len start scan.records.items
fit_more old scan bytes rest fit len walked =
    subst (λ (l : List Record). AllFit header_len start l) (sym walked.records)
    (AllFit-append header_len start old.records.items walked.more fit (subst (λ (n : ℕ). AllFit n (told old.records.items) walked.more) len walked.fit))

-- so many bytes were read
pub walked_size : (old new : Scan) (bytes rest : List ℕ) → Walked old new bytes rest → old.len + length bytes ≡ new.len + length rest
walked_size old new bytes rest walked =
    let chain = length-chain_of old.crc old.len (record_events walked.more) in
    let size = ap length walked.spelt ∙ length-append (chain_of old.crc old.len (record_events walked.more)) rest in
    omega (arith, chain, size, end_is old.len walked.more, walked.len)

-- ---- the end of a piece

-- the size of a frame that begins with 19 bytes stands in them
pub size_told : (prev at size : ℕ) (bytes beyond first : List ℕ) (event : Event) → 19 ≤ length bytes → first ≡ take 19 bytes
    → size ≡ from_le_bytes w32 (get_or first 9 0 ∷ get_or first 10 0 ∷ get_or first 11 0 ∷ get_or first 12 0 ∷ []) → IsFrameAt prev at (bytes ++ beyond) event → size ≡ size_of event
size_told prev at size bytes beyond first event long first_is size_is here =
    size_read prev at size (bytes ++ beyond) first event here (first_is ∙ sym (take-append-le 19 bytes beyond long)) size_is

-- a frame that lies within the first bytes stands in them
frame_within : (prev at : ℕ) (bytes beyond : List ℕ) (event : Event) → size_of event ≤ length bytes → IsFrameAt prev at (bytes ++ beyond) event → IsFrameAt prev at bytes event
frame_within prev at bytes beyond event fits here =
    let size = length-frame_of prev at event in
    let rest = drop (size_of event) bytes in
    let front : take (size_of event) bytes ≡ frame_of prev at event =
    sym (take-append-le (size_of event) bytes beyond fits) ∙ ap (λ (l : List ℕ). take (size_of event) l) here.stands ∙ take_at (frame_of prev at event) here.rest (size_of event) size in
    record { ends = here.ends; rest = rest; stands = sym (take-append-drop (size_of event) bytes) ∙ ap (λ (l : List ℕ). l ++ rest) front }

-- where no frame stands and the size that a frame would have is there, none stands whatever follows
pub none_beyond : (prev at size : ℕ) (rest : List ℕ) → ((event : Event) → IsFrameAt prev at rest event → ⊥) → size ≤ length rest
    → ((event : Event) (beyond : List ℕ) → IsFrameAt prev at (rest ++ beyond) event → size ≡ size_of event)
    → (beyond : List ℕ) (event : Event) → IsFrameAt prev at (rest ++ beyond) event → ⊥
none_beyond prev at size rest none fits sizes beyond event here =
    none event (frame_within prev at rest beyond event (omega (arith, sizes event beyond here)) here)

-- nothing follows
pub none_last : (prev at : ℕ) (rest beyond : List ℕ) → ((event : Event) → IsFrameAt prev at rest event → ⊥) → beyond ≡ [] → (event : Event) → IsFrameAt prev at (rest ++ beyond) event → ⊥
none_last prev at rest beyond none is event here =
    none event (subst (λ (l : List ℕ). IsFrameAt prev at l event) (ap (λ (l : List ℕ). rest ++ l) is ∙ append-nil rest) here)

no_record_same : (scan new : Scan) (bytes : List ℕ) → IsAsBefore scan new → NoRecordAt scan.crc scan.len (told scan.records.items) bytes → NoRecordAt new.crc new.len (told new.records.items) bytes
no_record_same scan new bytes same none =
    subst (λ (c : ℕ). NoRecordAt c new.len (told new.records.items) bytes) (sym same.crc)
    (subst (λ (n : ℕ). NoRecordAt scan.crc n (told new.records.items) bytes) (sym same.len)
    (subst (λ (l : List Record). NoRecordAt scan.crc scan.len (told l) bytes) (sym same.records) none))

-- a frame of no record that fits stands there
pub walks_end : (old scan new : Scan) (index : Index) (bytes rest : List ℕ) (is_last : Bool) → Walked old scan bytes rest → Found scan new index rest NoRecord → Walks old new index bytes is_last None
walks_end old scan new index bytes rest is_last walked found = record {
  rest = rest;
  walked = walked_same old scan new bytes rest walked found.0;
  none = λ is beyond last. no_record_same scan new (rest ++ beyond) found.0 (found.1 beyond);
  goes_on = tt;
}

-- no whole frame stands there: more is needed, or there is none
pub walks_needs : (old scan new : Scan) (index : Index) (bytes rest : List ℕ) (is_last : Bool) (o : Option ℕ) → Walked old scan bytes rest → Found scan new index rest NoFrame
    → IfSome o (λ n. (is_last ≡ false) × (length rest < n) × (n < 2 ^ 32) × ((prev at : ℕ) (event : Event) (beyond : List ℕ) → IsFrameAt prev at (rest ++ beyond) event → n ≤ size_of event))
    → ((prev at : ℕ) → ((event : Event) → IsFrameAt prev at rest event → ⊥)
    → IfNone o ((beyond : List ℕ) → (is_last ≡ true → beyond ≡ []) → (event : Event) → IsFrameAt prev at (rest ++ beyond) event → ⊥))
    → Walks old new index bytes is_last o
walks_needs old scan new index bytes rest is_last None walked found some none = record {
  rest = rest;
  walked = walked_same old scan new bytes rest walked found.0;
  none = λ is beyond last. no_record_same scan new (rest ++ beyond) found.0 (λ it fits here. none scan.crc scan.len found.2 beyond last (record_event it) here);
  goes_on = tt;
}
walks_needs old scan new index bytes rest is_last (Some n) walked found some none = record {
  rest = rest;
  walked = walked_same old scan new bytes rest walked found.0;
  none = λ is. let e = is in cc;
  goes_on = (some.0, found.1, record { more = some.1; small = some.2; least = λ event beyond here. some.3 new.crc new.len event beyond here });
}

-- What stands where a piece ends: a transaction that goes on behind it, or none?
use Rattle.std.proofs.Common.{◌≡◌, ⊎_elim, ℕ, ◌+◌, ◌-◌, ◌<◌, ◌≤◌, List, [], ◌∷◌, ◌++◌, length, take, drop, get_or, None, refl, sym, ◌∙◌, ap, arith, append_assoc, length-append, take-append-drop}
use Rattle.std.specs.Int.{w32, from_le_bytes}
use Rattle.std.proofs.lemmas.List.{append-nil, take_at, take-append-le}
use Rattle.frame_codec.specs.Frame.{Event, size_of, checksum_of, frame_of, limit, IsFrameAt}
use Rattle.frame_codec.specs.Chain.{chain_of, end_of, last_checksum}
use Rattle.frame_codec.specs.Read.{Reads as ReadsFrame}
use Rattle.frame_codec.specs.declared.read.Frame.{Frame}
use Rattle.frame_codec.proofs.FrameLemmas.{length-frame_of, one_event}
use Rattle.frame_codec.proofs.ChainLemmas.{chain_of-nil, chain_of-cons, chain_of-append, end_of-append, last_checksum-append, length-chain_of, end_of-le}
use Rattle.frame_codec.proofs.ReadLemmas.{size_read}
use Rattle.row_format.specs.declared.change.Transaction.{Transaction}
use Rattle.binlog_events.specs.Changes.{change_events}
use Rattle.binlog_events.specs.Transaction.{begin, xid_event, events_of, IsTransactionAt}
use Rattle.binlog_events.specs.Found.{NoTransactionAt}
use Rattle.binlog_events.proofs.XidLemmas.{NoXid, NoXid-append, no_xid_before_last, ends_there, not_among}
use Rattle.binlog_file.specs.Opening.{Needs, NeverAt}
use Rattle.binlog_file.proofs.MeetLemmas.{chains_meet}

-- ---- frames that were passed

-- whole frames, none of an XID, stand in front of these bytes, and the rest behind them
pub record Passed (prev at : ℕ) (bytes rest : List ℕ) (end crc : ℕ) : Type 0 where
  pub events : List Event
  pub no_xid : NoXid events
  pub stands : bytes ≡ chain_of prev at events ++ rest
  pub ends : end ≡ end_of at events
  pub sum : crc ≡ last_checksum prev at events
  pub within : end ≤ limit

pub passed_none : (prev at : ℕ) (bytes : List ℕ) → at ≤ limit → Passed prev at bytes bytes at prev
passed_none prev at bytes within = record {
  events = [];
  no_xid = tt;
  stands = sym (ap (λ (l : List ℕ). l ++ bytes) (chain_of-nil prev at));
  ends = refl;
  sum = refl;
  within = within;
}

-- one frame more behind frames
one_more : (prev at crc end : ℕ) (events : List Event) (it : Event) (rest : List ℕ) → crc ≡ last_checksum prev at events → end ≡ end_of at events
    → chain_of prev at events ++ (frame_of crc end it ++ rest) ≡ chain_of prev at (events ++ it ∷ []) ++ rest
one_more prev at crc end events it rest crc_is end_is =
    let sum = last_checksum prev at events in
    let place = end_of at events in
    let frame : frame_of crc end it ≡ chain_of sum place (it ∷ []) =
    ap (λ (c : ℕ). frame_of c end it) crc_is ∙ ap (λ (n : ℕ). frame_of sum n it) end_is
    ∙ sym (chain_of-cons sum place it [] ∙ ap (λ (l : List ℕ). frame_of sum place it ++ l) (chain_of-nil (checksum_of sum place it) (place + size_of it)) ∙ append-nil (frame_of sum place it)) in
    ap (λ (l : List ℕ). chain_of prev at events ++ (l ++ rest)) frame
    ∙ sym (append_assoc (chain_of prev at events) (chain_of sum place (it ∷ [])) rest)
    ∙ ap (λ (l : List ℕ). l ++ rest) (sym (chain_of-append prev at events (it ∷ [])))

pub passed_more : (prev at end crc : ℕ) (bytes rest rest' : List ℕ) (frame : Frame) → Passed prev at bytes rest end crc → ReadsFrame crc end rest frame
    → (frame.kind ≡ 16 → ⊥) → rest' ≡ drop (frame.body_end + 4) rest → Passed prev at bytes rest' frame.end frame.crc
passed_more prev at end crc bytes rest rest' frame passed reads other rest_is =
    let it = reads.event in
    let more = passed.events ++ it ∷ [] in
    record {
      events = more;
      no_xid = NoXid-append passed.events (it ∷ []) passed.no_xid (λ is. other (reads.kind ∙ is), tt);
      stands = passed.stands
          ∙ ap (λ (l : List ℕ). chain_of prev at passed.events ++ l) (reads.stands.stands ∙ ap (λ (l : List ℕ). frame_of crc end it ++ l) (reads.behind ∙ sym rest_is))
          ∙ one_more prev at crc end passed.events it rest' passed.sum passed.ends;
      ends = reads.end ∙ ap (λ (n : ℕ). n + size_of it) passed.ends ∙ sym (end_of-append at passed.events (it ∷ []));
      sum = reads.crc ∙ ap (λ (c : ℕ). checksum_of c end it) passed.sum ∙ ap (λ (n : ℕ). checksum_of (last_checksum prev at passed.events) n it) passed.ends
          ∙ sym (last_checksum-append prev at passed.events (it ∷ []));
      within = omega (arith, reads.end, reads.stands.ends);
    }

pub passed_falls : (end crc : ℕ) (rest rest' : List ℕ) (frame : Frame) → ReadsFrame crc end rest frame → rest' ≡ drop (frame.body_end + 4) rest → length rest' < length rest
passed_falls end crc rest rest' frame reads rest_is =
    let size = ap length (reads.stands.stands) ∙ length-append (frame_of crc end reads.event) reads.stands.rest in
    omega (arith, size, length-frame_of crc end reads.event, ap length (rest_is ∙ sym reads.behind))

-- ---- the transaction that goes on behind them

-- the events of a transaction go on behind some of them
record Behind (t : Transaction) (events : List Event) (end crc : ℕ) (bytes : List ℕ) : Type 0 where
  next : Event
  more : List Event
  is : events_of t ≡ events ++ next ∷ more
  frame : IsFrameAt crc end bytes next

goes_behind : (prev at end crc : ℕ) (bytes rest beyond : List ℕ) (t : Transaction) (passed : Passed prev at bytes rest end crc) → IsTransactionAt prev at (bytes ++ beyond) t
    → Behind t passed.events end crc (rest ++ beyond)
goes_behind prev at end crc bytes rest beyond t passed here = ⊎_elim
    (λ begins. further begins.more begins.is begins.behind)
    (λ begins. absurd (not_among t passed.events begins.more passed.no_xid begins.is))
    (chains_meet prev at passed.events (events_of t) (rest ++ beyond) here.rest (omega (arith, passed.ends, passed.within)) here.ends spelt)
  where
    spelt : chain_of prev at passed.events ++ (rest ++ beyond) ≡ chain_of prev at (events_of t) ++ here.rest
    spelt = sym (append_assoc (chain_of prev at passed.events) rest beyond) ∙ ap (λ (l : List ℕ). l ++ beyond) (sym passed.stands) ∙ here.stands

    further : (more : List Event) → events_of t ≡ passed.events ++ more → rest ++ beyond ≡ chain_of (last_checksum prev at passed.events) (end_of at passed.events) more ++ here.rest
        → Behind t passed.events end crc (rest ++ beyond)
    further [] is stands = absurd (not_among t passed.events [] passed.no_xid (sym (append-nil passed.events) ∙ sym is ∙ sym (append-nil (events_of t))))
    further (e ∷ more) is stands =
        let place = end_of-append at passed.events (e ∷ more) in
        let size = end_of-le (end_of at passed.events + size_of e) more in
        let whole = ap (λ (l : List Event). end_of at l) is in
        record {
          next = e;
          more = more;
          is = is;
          frame = record {
            ends = omega (arith, passed.ends, place, size, whole, here.ends);
            rest = chain_of (checksum_of crc end e) (end + size_of e) more ++ here.rest;
            stands = stands ∙ ap (λ (c : ℕ). chain_of c (end_of at passed.events) (e ∷ more) ++ here.rest) (sym passed.sum)
                ∙ ap (λ (n : ℕ). chain_of crc n (e ∷ more) ++ here.rest) (sym passed.ends)
                ∙ ap (λ (l : List ℕ). l ++ here.rest) (chain_of-cons crc end e more)
                ∙ append_assoc (frame_of crc end e) (chain_of (checksum_of crc end e) (end + size_of e) more) here.rest;
          };
        }

-- an XID ends the transaction: it stands in these bytes
pub xid_ends : (prev at end crc : ℕ) (bytes rest : List ℕ) (frame : Frame) → Passed prev at bytes rest end crc → ReadsFrame crc end rest frame → frame.kind ≡ 16
    → NoTransactionAt prev at bytes → NeverAt prev at bytes
xid_ends prev at end crc bytes rest frame passed reads kind none beyond t here =
    let behind = goes_behind prev at end crc bytes rest beyond t passed here in
    let there = reads.stands in
    let same = (one_event crc end behind.next reads.event behind.frame.rest (there.rest ++ beyond) behind.frame.ends there.ends
    (sym behind.frame.stands ∙ ap (λ (l : List ℕ). l ++ beyond) there.stands ∙ append_assoc (frame_of crc end reads.event) there.rest beyond)).0 in
    let nothing = ends_there (begin ∷ change_events None t.changes) passed.events behind.more (xid_event t.xid) behind.next (no_xid_before_last t here.fit)
    (ap (λ (e : Event). e.kind) same ∙ sym reads.kind ∙ kind) behind.is in
    let all : events_of t ≡ passed.events ++ reads.event ∷ [] =
    behind.is ∙ ap (λ (l : List Event). passed.events ++ behind.next ∷ l) nothing ∙ ap (λ (e : Event). passed.events ++ e ∷ []) same in
    none t (record {
      fit = here.fit;
      ends = here.ends;
      rest = there.rest;
      stands = passed.stands ∙ ap (λ (l : List ℕ). chain_of prev at passed.events ++ l) there.stands
          ∙ one_more prev at crc end passed.events reads.event there.rest passed.sum passed.ends
          ∙ ap (λ (l : List Event). chain_of prev at l ++ there.rest) (sym all);
    })

-- ---- the size of a frame that is cut off

-- the size of a frame that begins with 19 bytes stands in them
pub size_told : (prev at size : ℕ) (bytes beyond first : List ℕ) (event : Event) → 19 ≤ length bytes → first ≡ take 19 bytes
    → size ≡ from_le_bytes w32 (get_or first 9 0 ∷ get_or first 10 0 ∷ get_or first 11 0 ∷ get_or first 12 0 ∷ []) → IsFrameAt prev at (bytes ++ beyond) event → size ≡ size_of event
size_told prev at size bytes beyond first event long first_is size_is here =
    size_read prev at size (bytes ++ beyond) first event here (first_is ∙ sym (take-append-le 19 bytes beyond long)) size_is

-- a frame that lies within the first bytes stands in them
frame_within : (prev at : ℕ) (bytes beyond : List ℕ) (event : Event) → size_of event ≤ length bytes → IsFrameAt prev at (bytes ++ beyond) event → IsFrameAt prev at bytes event
frame_within prev at bytes beyond event fits here =
    let size = length-frame_of prev at event in
    let rest = drop (size_of event) bytes in
    let front : take (size_of event) bytes ≡ frame_of prev at event =
    sym (take-append-le (size_of event) bytes beyond fits) ∙ ap (λ (l : List ℕ). take (size_of event) l) here.stands ∙ take_at (frame_of prev at event) here.rest (size_of event) size in
    record { ends = here.ends; rest = rest; stands = sym (take-append-drop (size_of event) bytes) ∙ ap (λ (l : List ℕ). l ++ rest) front }

-- where a frame is no longer than the bytes that are there, none stands behind those that were passed
pub never_cut : (prev at end crc size : ℕ) (bytes rest : List ℕ) → Passed prev at bytes rest end crc → ((event : Event) → IsFrameAt crc end rest event → ⊥) → size ≤ length rest
    → ((event : Event) (beyond : List ℕ) → IsFrameAt crc end (rest ++ beyond) event → size ≡ size_of event) → NeverAt prev at bytes
never_cut prev at end crc size bytes rest passed none fits sizes beyond t here =
    let behind = goes_behind prev at end crc bytes rest beyond t passed here in
    none behind.next (frame_within crc end rest beyond behind.next (omega (arith, sizes behind.next beyond behind.frame)) behind.frame)

-- nor where it would end past the limit
pub never_past : (prev at end crc size : ℕ) (bytes rest : List ℕ) → Passed prev at bytes rest end crc → limit - end < size
    → ((event : Event) (beyond : List ℕ) → IsFrameAt crc end (rest ++ beyond) event → size ≤ size_of event) → NeverAt prev at bytes
never_past prev at end crc size bytes rest passed past sizes beyond t here =
    let behind = goes_behind prev at end crc bytes rest beyond t passed here in
    omega (arith, passed.within, sizes behind.next beyond behind.frame, behind.frame.ends)

passed_size : (prev at end crc : ℕ) (bytes rest : List ℕ) → Passed prev at bytes rest end crc → at + length bytes ≡ end + length rest
passed_size prev at end crc bytes rest passed =
    omega (arith, ap length passed.stands, length-append (chain_of prev at passed.events) rest, length-chain_of prev at passed.events, passed.ends)

pub passed_later : (prev at end crc : ℕ) (bytes rest : List ℕ) → Passed prev at bytes rest end crc → (length rest ≤ length bytes) × (end ≤ limit)
passed_later prev at end crc bytes rest passed =
    (omega (arith, passed_size prev at end crc bytes rest passed, passed.ends, end_of-le at passed.events), passed.within)

-- a transaction has at least the bytes of the frames that were passed, and of the one that is cut off
pub needs_cut : (prev at end crc size n : ℕ) (bytes rest : List ℕ) → Passed prev at bytes rest end crc → length rest < size → size ≤ limit - end
    → ((event : Event) (beyond : List ℕ) → IsFrameAt crc end (rest ++ beyond) event → size ≤ size_of event) → n ≡ (length bytes - length rest) + size → Needs prev at bytes n
needs_cut prev at end crc size n bytes rest passed more within sizes n_is =
    let all = passed_size prev at end crc bytes rest passed in
    let later = (passed_later prev at end crc bytes rest passed).0 in
    record {
      more = omega (arith, all, later, more, n_is);
      within = omega (arith, all, later, within, n_is, passed.within);
      least = λ t beyond here.
          let behind = goes_behind prev at end crc bytes rest beyond t passed here in
          let place = end_of-append at passed.events (behind.next ∷ behind.more) in
          let size_le = end_of-le (end_of at passed.events + size_of behind.next) behind.more in
          let whole = ap (λ (l : List Event). end_of at l) behind.is in
          omega (arith, all, later, n_is, passed.ends, sizes behind.next beyond behind.frame, place, size_le, whole);
    }

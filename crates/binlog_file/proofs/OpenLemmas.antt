-- The exits of an opening, and what a crash leaves at each moment of it.
use Rattle.std.proofs.Common.{◌≡◌, inl, inr, ⊎_elim, ℕ, zero, suc, ◌+◌, ◌-◌, ◌<◌, ◌≤◌, Bool, true, false, List, [], ◌∷◌, ◌++◌, length, take, drop, Result, Ok, IsTrue, refl, sym, ◌∙◌, ap, subst, arith, append_assoc, length-append, take-append-drop}
use Rattle.std.proofs.lemmas.List.{append-nil, take_at, take_all, drop_all}
use Rattle.fault_counts.specs.Rose.{Rose}
use Rattle.disk_model.specs.declared.storage.Failed.{Failed}
use Rattle.disk_model.specs.File.{File, Step, Wrote, CutTo, written, greatest}
use Rattle.disk_model.specs.Disk.{Disk, now, contents, Keeps, Only, HasCause}
use Rattle.disk_model.specs.Grew.{OnlyGrew}
use Rattle.disk_model.specs.Looking.{IsUntouched, LooksOnly}
use Rattle.disk_model.specs.Start.{settled}
use Rattle.disk_model.specs.Staged.{IsChanging, as_was, synced, stepping, changed, IsOnWay, Changes}
use Rattle.disk_model.proofs.Moments.{both, weaker}
use Rattle.disk_model.proofs.LookingLemmas.{looked, looked_contents, looks_both}
use Rattle.disk_model.proofs.StagedLemmas.{settled_image, is_settled, rose_on, cut_short}
use Rattle.disk_model.proofs.Grew.{grew_none}
use Rattle.frame_codec.specs.Chain.{chain_of}
use Rattle.frame_codec.proofs.ChainLemmas.{chain_of-nil, length-chain_of}
use Rattle.framed_file.specs.Framed.{IsPrefix, header_len}
use Rattle.framed_file.proofs.PrefixLemmas.{prefix_refl, starts_or_not}
use Rattle.binlog_file.specs.declared.binlog.Binlog.{Binlog}
use Rattle.binlog_file.specs.declared.scan.Scan.{Scan}
use Rattle.row_format.specs.declared.change.Transaction.{Transaction}
use Rattle.binlog_events.specs.Transaction.{events_of}
use Rattle.binlog_file.specs.Logged.{header_checksum, log_header, all_events, log_end, log_checksum, log_of, Headed, Headless, IsLogged, IsNoLog, Holds}
use Rattle.binlog_file.specs.Binlog.{IsLog}
use Rattle.binlog_events.specs.Found.{NoTransactionAt}
use Rattle.binlog_file.specs.Opening.{Reached, Walked, IsSafe, OpensFor, IsGiven}
use Rattle.binlog_file.proofs.LoggedLemmas.{some_bytes, length-log_header}
use Rattle.binlog_file.proofs.CallLemmas.{length-log_of}

-- What a crash leaves of a file that is cut, or gets its header.

pub settled_holds : (file : File) (bytes : List ℕ) (list : List Transaction) → file ≡ settled bytes → IsLogged bytes list → Holds list list file
settled_holds file bytes list is_at logged image is faithful = record {
  list = list;
  logged = subst (λ (l : List ℕ). IsLogged l list) (sym (settled_image file bytes image is_at is)) logged;
  at_least = prefix_refl list;
  at_most = prefix_refl list;
}

take_over : (xs ys : List ℕ) (n k : ℕ) → n ≡ length xs + k → take n (xs ++ ys) ≡ xs ++ take k ys
take_over [] ys n k is = let same : n ≡ k = omega (arith, is) in ap (λ (i : ℕ). take i ys) same
take_over (x ∷ xs) ys zero k is = absurd (omega arith)
take_over (x ∷ xs) ys (suc n) k is = ap (λ (l : List ℕ). x ∷ l) (take_over xs ys n k (omega arith))

-- a first part of a log that has its transactions has them, and no other
part_headed : (bytes : List ℕ) (list : List Transaction) (n : ℕ) → Headed bytes list → log_end list ≤ n → Headed (take n bytes) list
part_headed bytes list n headed long = record {
  fit = headed.fit;
  ends = headed.ends;
  rest = take k headed.rest;
  stands = ap (λ (l : List ℕ). take n l) headed.stands ∙ take_over (log_of list) headed.rest n k (omega (arith, long, length-log_of list));
  no_more = λ t at. headed.no_more t (record {
    fit = at.fit;
    ends = at.ends;
    rest = at.rest ++ drop k headed.rest;
    stands = sym (take-append-drop k headed.rest) ∙ ap (λ (l : List ℕ). l ++ drop k headed.rest) at.stands
        ∙ append_assoc (chain_of (log_checksum list) (log_end list) (events_of t)) at.rest (drop k headed.rest);
  });
}
  where
    k : ℕ
    k = n - log_end list

cutting_holds : (file was : File) (list : List Transaction) (len : ℕ) → Headed was.bytes list → len ≡ log_end list → file.synced ≡ was.bytes → file.steps ≡ CutTo len ∷ [] → Holds list list file
cutting_holds file was list len headed len_is at steps image is faithful =
    let room : log_end list ≤ length was.bytes = omega (arith, ap length headed.stands, length-append (log_of list) headed.rest, length-log_of list) in
    let part = cut_short file was.bytes image len at steps (omega (arith, room, len_is)) is in
    record {
      list = list;
      logged = inl (subst (λ (l : List ℕ). Headed l list) (sym part.0) (part_headed was.bytes list (length image) headed (omega (arith, part.1, len_is))));
      at_least = prefix_refl list;
      at_most = prefix_refl list;
    }

pub cut_bytes : (bytes : List ℕ) (list : List Transaction) (len : ℕ) → Headed bytes list → len ≡ log_end list → take len bytes ≡ log_of list
cut_bytes bytes list len headed len_is = ap (λ (l : List ℕ). take len l) headed.stands ∙ take_at (log_of list) headed.rest len (omega (arith, len_is, length-log_of list))

pub cut_safe : (was file : File) (list : List Transaction) (len : ℕ) → Headed was.bytes list → len ≡ log_end list → IsChanging (CutTo len) was file → IsSafe was file
cut_safe was file list len headed len_is (as_was is) = inl is
cut_safe was file list len headed len_is (synced is) = inr (list, inl headed, settled_holds file was.bytes list is (inl headed))
cut_safe was file list len headed len_is (stepping is steps) = inr (list, inl headed, cutting_holds file was list len headed len_is is steps)
cut_safe was file list len headed len_is (changed is) =
    inr (list, inl headed, settled_holds file (take len was.bytes) list is (inl (part_headed was.bytes list len headed (omega (arith, len_is)))))

log_of-nil : log_of [] ≡ log_header
log_of-nil = ap (λ (l : List ℕ). log_header ++ l) (chain_of-nil header_checksum header_len) ∙ append-nil log_header

-- a header alone has no transaction
pub nothing_stands : (prev at : ℕ) (bytes : List ℕ) → length bytes ≡ 0 → NoTransactionAt prev at bytes
nothing_stands prev at bytes none t here =
    absurd (omega (arith, none, ap length here.stands, length-append (chain_of prev at (events_of t)) here.rest, length-chain_of prev at (events_of t), some_bytes at t))

-- at most 32 bytes are an empty log, with a header or without
short_logged : (bytes : List ℕ) → length bytes ≤ header_len → IsLogged bytes []
short_logged bytes short = ⊎_elim
    (λ is. let size : length is.0 ≡ 0 = omega (arith, short, ap length is.1, length-append log_header is.0, length-log_header) in
    inl (record { fit = tt; ends = omega arith; rest = is.0; stands = is.1 ∙ ap (λ (l : List ℕ). l ++ is.0) (sym log_of-nil); no_more = nothing_stands header_checksum header_len is.0 size }))
    (λ not. inr (record { no_header = not; short = short; none = refl }))
    (starts_or_not log_header bytes)

header_holds : (file was : File) → length was.bytes ≤ header_len → file.synced ≡ was.bytes → file.steps ≡ Wrote 0 log_header ∷ [] → Holds [] [] file
header_holds file was short at steps image is faithful = record {
  list = [];
  logged = short_logged image (omega (arith, is.no_longer, ap (λ (s : List Step). greatest file.synced s) steps, ap length at, short, length-log_header));
  at_least = prefix_refl [];
  at_most = prefix_refl [];
}

-- the header over what was there
pub header_bytes_are : (bytes : List ℕ) → length bytes ≤ header_len → written 0 log_header bytes ≡ log_of []
header_bytes_are bytes short =
    ap (λ (l : List ℕ). log_header ++ l) (drop_all (0 + length log_header) bytes (omega (arith, short, length-log_header))) ∙ append-nil log_header ∙ sym log_of-nil

pub header_safe : (was file : File) → Headless was.bytes [] → IsChanging (Wrote 0 log_header) was file → IsSafe was file
header_safe was file headless (as_was is) = inl is
header_safe was file headless (synced is) = inr ([], inr headless, settled_holds file was.bytes [] is (inr headless))
header_safe was file headless (stepping is steps) = inr ([], inr headless, header_holds file was headless.short is steps)
header_safe was file headless (changed is) =
    inr (
      [],
      inr headless,
      settled_holds file (written 0 log_header was.bytes) [] is
          (short_logged (written 0 log_header was.bytes) (omega (arith, ap length (header_bytes_are was.bytes headless.short), length-log_of []))),
    )

-- Runs of calls.

abbrev Run : Disk → Disk → Type 0
Run a c = Keeps a c (Only 0 (now a) (IsSafe (now a 0)))

pub looks_safe : (a b : Disk) → LooksOnly a b → IsTrue a.told → Run a b
looks_safe a b looks told = weaker a b (IsUntouched a) (Only 0 (now a) (IsSafe (now a 0))) (λ files p. (λ f not. p f, inl (p 0))) (looks.moments told)

pub changes_safe : (step : Step) (a b c : Disk) → LooksOnly a b → IsOnWay 0 step b c → IsTrue a.told → ((file : File) → IsChanging step (now a 0) file → IsSafe (now a 0) file) → Run a c
changes_safe step a b c looks way told safe =
    both a b c (Only 0 (now a) (IsSafe (now a 0))) (looks_safe a b looks told)
    (weaker b c (Only 0 (now b) (IsChanging step (now b 0))) (Only 0 (now a) (IsSafe (now a 0)))
    (λ files p. (λ f not. p.0 f not ∙ looked a b looks told f, safe (files 0) (subst (λ (was : File). IsChanging step was (files 0)) (looked a b looks told 0) p.1)))
    (way.moments (subst IsTrue (sym looks.told) told)))

-- what the calls before the change have told
pub record Seen (a b : Disk) (size : ℕ) (headed : Bool) : Type 0 where
  pub looks : LooksOnly a b
  pub sized : IsTrue a.told → size ≡ length (contents a 0)
  pub yes : IsTrue a.told → headed ≡ true → IsPrefix log_header (contents a 0)
  pub no_ : IsTrue a.told → headed ≡ false → IsPrefix log_header (contents a 0) → ⊥

pub seen : (a b c : Disk) (size : ℕ) (headed : Bool) → LooksOnly a b → (IsTrue a.told → size ≡ length (contents a 0)) → LooksOnly b c
    → (IsTrue b.told → (IsTrue headed → IsPrefix log_header (contents b 0)) × (IsPrefix log_header (contents b 0) → IsTrue headed)) → Seen a c size headed
seen a b c size headed first size_is second value = record {
  looks = looks_both a b c first second;
  sized = size_is;
  yes = λ told is. subst (λ (l : List ℕ). IsPrefix log_header l) (looked_contents a b 0 first told) ((value (subst IsTrue (sym first.told) told)).0 is);
  no_ = λ told is at.
      let yes = (value (subst IsTrue (sym first.told) told)).1 (subst (λ (l : List ℕ). IsPrefix log_header l) (sym (looked_contents a b 0 first told)) at) in
      cc;
}

pub no_log : (a b : Disk) (size : ℕ) (headed : Bool) → Seen a b size headed → headed ≡ false → 32 < size → IsTrue a.told → IsNoLog (contents a 0)
no_log a b size headed saw is long told = record { no_header = saw.no_ told is; long = omega (arith, saw.sized told, long) }

headless_of : (a b : Disk) (size : ℕ) (headed : Bool) → Seen a b size headed → headed ≡ false → size ≤ 32 → IsTrue a.told → Headless (contents a 0) []
headless_of a b size headed saw is short told = record { no_header = saw.no_ told is; short = omega (arith, saw.sized told, short); none = refl }

pub header_moments : (a b c : Disk) (size : ℕ) (headed : Bool) (result : Result Unit Failed) → Seen a b size headed → headed ≡ false → size ≤ 32 → Changes 0 (Wrote 0 log_header) result b c → IsTrue a.told → Run a c
header_moments a b c size headed result saw is short changes told =
    changes_safe (Wrote 0 log_header) a b c saw.looks changes.way told (λ file changing. header_safe (now a 0) file (headless_of a b size headed saw is short told) changing)

settled_log : (log : Binlog) (list : List Transaction) (file : File) → file ≡ settled (log_of list) → (scan : Scan) → Reached scan list → log.flushed ≡ scan.count → log.durable ≡ scan.count → log.len ≡ scan.len → log.crc ≡ scan.crc → IsLog log list file
settled_log log list file is_at scan reached flushed durable len crc = record {
  fit = reached.fit;
  ends = reached.ends;
  bytes = ap (λ (f : File). f.bytes) is_at;
  flushed = flushed ∙ reached.count;
  durable = omega (arith, durable, reached.count);
  synced = ap (λ (f : File). f.synced) is_at ∙ ap log_of (sym (take_all log.durable list (omega (arith, durable, reached.count))));
  grew = subst (λ (f : File). OnlyGrew f.synced f.steps f.bytes) (sym is_at) (grew_none (log_of list));
  len = len ∙ reached.len;
  crc = crc ∙ reached.crc;
}

-- an empty log was made
pub header_opens : (before : List Transaction → Type 0) (a b c : Disk) (size : ℕ) (headed : Bool) (v : Unit) (log : Binlog) → Seen a b size headed → headed ≡ false → size ≤ 32
    → Changes 0 (Wrote 0 log_header) (Ok v) b c → log.flushed ≡ 0 → log.durable ≡ 0 → log.len ≡ 32 → log.crc ≡ header_checksum → IsTrue a.told → OpensFor before before a c log size
header_opens before a b c size headed v log saw is short changes flushed durable len crc told =
    let headless = headless_of a b size headed saw is short told in
    let after : now c 0 ≡ settled (written 0 log_header (contents b 0)) = changes.ok (subst IsTrue (sym (saw.looks).told) told) in
    let same = looked_contents a b 0 saw.looks told in
    let is_at : now c 0 ≡ settled (log_of []) =
    after ∙ ap (λ (l : List ℕ). settled (written 0 log_header l)) same ∙ ap (λ (l : List ℕ). settled l) (header_bytes_are (contents a 0) headless.short) in
    record {
      list = [];
      opens = record {
        logged = inr headless;
        is_log = record {
          fit = tt;
          ends = omega arith;
          bytes = ap (λ (f : File). f.bytes) is_at;
          flushed = flushed;
          durable = omega (arith, durable);
          synced = ap (λ (f : File). f.synced) is_at ∙ ap log_of (sym (take_all log.durable [] (omega arith)));
          grew = subst (λ (f : File). OnlyGrew f.synced f.steps f.bytes) (sym is_at) (grew_none (log_of []));
          len = len;
          crc = crc;
        };
        settled = is_settled (now c 0) (log_of []) is_at;
        durable = durable ∙ sym flushed;
        headed = λ at. absurd (headless.no_header (at.rest, at.stands ∙ ap (λ (l : List ℕ). l ++ at.rest) log_of-nil));
        headless = λ none. saw.sized told;
      };
      visited = λ some visited. subst before (sym (append-nil some)) visited;
    }

-- the visitor is as it was
pub given_none : (stands : List Transaction → Type 0) (count : ℕ) → count ≡ 0 → IsGiven stands stands count
given_none stands count none = record { list = []; counted = none; given = λ some before. subst stands (sym (append-nil some)) before }

-- a log was read

walked_at : (before after : List Transaction → Type 0) (a b : Disk) (scan : Scan) → LooksOnly a b → IsTrue a.told → Walked before after (contents b 0) scan → Walked before after (contents a 0) scan
walked_at before after a b scan looks told walked = subst (λ (l : List ℕ). Walked before after l scan) (looked_contents a b 0 looks told) walked

pub record Read (before after : List Transaction → Type 0) (a c : Disk) (size : ℕ) (scan : Scan) : Type 0 where
  pub looks : LooksOnly a c
  pub sized : IsTrue a.told → size ≡ length (contents a 0)
  pub walked : IsTrue a.told → Walked before after (contents a 0) scan

pub was_read : (before after : List Transaction → Type 0) (a b c : Disk) (size : ℕ) (headed : Bool) (scan : Scan) → Seen a b size headed → headed ≡ true → LooksOnly b c
    → (IsTrue b.told → IsPrefix log_header (contents b 0) → Walked before after (contents b 0) scan) → Read before after a c size scan
was_read before after a b c size headed scan saw is looks walked = record {
  looks = looks_both a b c saw.looks looks;
  sized = saw.sized;
  walked = λ told. walked_at before after a b scan saw.looks told
      (walked (subst IsTrue (sym (saw.looks).told) told) (subst (λ (l : List ℕ). IsPrefix log_header l) (sym (looked_contents a b 0 saw.looks told)) (saw.yes told is)));
}

pub finish_within : (before after : List Transaction → Type 0) (a c : Disk) (size len : ℕ) (scan : Scan) → Read before after a c size scan → len ≡ scan.len → IsTrue c.told → len ≤ length (contents c 0)
finish_within before after a c size len scan read len_is told =
    let told_a = subst IsTrue (read.looks).told told in
    let walked = read.walked told_a in
    omega (arith, len_is, (walked.reached).len, ap length (looked_contents a c 0 read.looks told_a), ap length (walked.headed).stands, length-append (log_of walked.list) (walked.headed).rest, length-log_of walked.list)

pub finish_size : (before after : List Transaction → Type 0) (a c : Disk) (size : ℕ) (scan : Scan) → Read before after a c size scan → IsTrue c.told → size ≡ length (contents c 0)
finish_size before after a c size scan read told =
    let told_a = subst IsTrue (read.looks).told told in
    read.sized told_a ∙ ap length (sym (looked_contents a c 0 read.looks told_a))

pub cut_moments : (before after : List Transaction → Type 0) (a c d : Disk) (size len : ℕ) (scan : Scan) (result : Result Unit Failed) → Read before after a c size scan → len ≡ scan.len
    → Changes 0 (CutTo len) result c d → IsTrue a.told → Run a d
cut_moments before after a c d size len scan result read len_is changes told =
    let walked = read.walked told in
    changes_safe (CutTo len) a c d read.looks changes.way told (λ file changing. cut_safe (now a 0) file walked.list len walked.headed (len_is ∙ (walked.reached).len) changing)

pub log_opens : (before after : List Transaction → Type 0) (a c d : Disk) (size len cut : ℕ) (scan : Scan) (v : Unit) (log : Binlog) → Read before after a c size scan → len ≡ scan.len
    → Changes 0 (CutTo len) (Ok v) c d → log.flushed ≡ scan.count → log.durable ≡ scan.count → log.len ≡ scan.len → log.crc ≡ scan.crc → cut ≡ size - len → IsTrue a.told → OpensFor before after a d log cut
log_opens before after a c d size len cut scan v log read len_is changes flushed durable log_len crc cut_is told =
    let walked = read.walked told in
    let headed = walked.headed in
    let reached = walked.reached in
    let is_at : now d 0 ≡ settled (log_of walked.list) =
    changes.ok (subst IsTrue (sym (read.looks).told) told) ∙ ap (λ (l : List ℕ). settled (take len l)) (looked_contents a c 0 read.looks told)
    ∙ ap (λ (l : List ℕ). settled l) (cut_bytes (contents a 0) walked.list len headed (len_is ∙ reached.len)) in
    let room = length-append (log_of walked.list) headed.rest in
    record {
      list = walked.list;
      opens = record {
        logged = inl headed;
        is_log = settled_log log walked.list (now d 0) is_at scan reached flushed durable log_len crc;
        settled = is_settled (now d 0) (log_of walked.list) is_at;
        durable = durable ∙ sym flushed;
        headed = λ at. omega (arith, cut_is, len_is, reached.len, read.sized told, ap length headed.stands, room, length-log_of walked.list);
        headless = λ none. absurd (none.no_header (
          chain_of header_checksum header_len (all_events walked.list) ++ headed.rest,
          headed.stands ∙ append_assoc log_header (chain_of header_checksum header_len (all_events walked.list)) headed.rest,
        ));
      };
      visited = walked.visited;
    }

pub read_volume : (before after : List Transaction → Type 0) (a c : Disk) (size : ℕ) (scan : Scan) → Read before after a c size scan → IsTrue a.told → IsNoLog (contents a 0) → ⊥
read_volume before after a c size scan read told no_log =
    let headed = (read.walked told).headed in
    no_log.no_header (chain_of header_checksum header_len (all_events (read.walked told).list) ++ headed.rest, headed.stands ∙ append_assoc log_header (chain_of header_checksum header_len (all_events (read.walked told).list)) headed.rest)

pub short_volume : (a b : Disk) (size : ℕ) (headed : Bool) → Seen a b size headed → size ≤ 32 → IsTrue a.told → IsNoLog (contents a 0) → ⊥
short_volume a b size headed saw short told no_log = absurd (omega (arith, saw.sized told, short, no_log.long))

-- the counts, and the cause
pub has_cause : {T E : Type 0} (IsDevice : Result T E → Type 0) (result : Result T E) (a b c : Disk) → LooksOnly a b → c.told ≡ b.told → b.calls ≤ c.calls → b.faults ≤ c.faults
    → (IsDevice result → Rose b.faults c.faults) → HasCause IsDevice result a c
has_cause IsDevice result a b c looks told later no_fewer cause = record {
  told = told ∙ looks.told;
  later = omega (arith, looks.later, later);
  no_fewer = omega (arith, looks.no_fewer, no_fewer);
  cause = λ is. rose_on a.faults b.faults c.faults looks.no_fewer (cause is);
}

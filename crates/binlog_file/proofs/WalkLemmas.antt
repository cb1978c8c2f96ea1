-- Reading the log piece by piece.
use Rattle.std.proofs.Common.{◌≡◌, ℕ, ◌+◌, ◌-◌, ◌<◌, ◌≤◌, ◌*◌, ◌^◌, max, Bool, true, false, nat_lt, List, [], ◌∷◌, ◌++◌, length, take, drop, Option, Some, None, IfSome, IfNone, Result, Ok, Err, IsTrue, refl, sym, ◌∙◌, ap, subst, arith, append_assoc, length-append, take-append-drop}
use Rattle.std.proofs.lemmas.List.{append-nil, take_at, drop_at, drop_all, length-drop, length-take}
use Rattle.std.proofs.lemmas.Bool.Decides.{nat_tests}
use Rattle.std.specs.Prelude.{IsErr, IsErrAnd, IsErrOf}
use Rattle.fault_counts.specs.Rose.{Rose}
use Rattle.disk_model.specs.declared.storage.Failed.{Failed}
use Rattle.disk_model.specs.File.{File, Stays}
use Rattle.disk_model.specs.Disk.{Disk, contents, Called, Fills, HasCause}
use Rattle.disk_model.specs.Looking.{LooksOnly}
use Rattle.disk_model.proofs.LookingLemmas.{looked, rose_looking}
use Rattle.frame_codec.specs.Frame.{Event, limit}
use Rattle.frame_codec.specs.Chain.{chain_of, end_of, last_checksum}
use Rattle.frame_codec.proofs.ChainLemmas.{chain_of-nil, chain_of-append, length-chain_of}
use Rattle.framed_file.specs.Framed.{IsPrefix, header_len}
use Rattle.binlog_events.specs.declared.events.Found.{Found}
use Rattle.binlog_file.specs.declared.scan.Scan.{Scan}
use Rattle.binlog_file.specs.declared.fault.BinlogFault.{BinlogFault}
use Rattle.binlog_file.specs.declared.fault.BinlogFault.TheVariants.{Device, Memory}
use Rattle.row_format.specs.declared.change.Transaction.{Transaction}
use Rattle.binlog_events.specs.Transaction.{events_of}
use Rattle.binlog_file.specs.Logged.{header_checksum, log_header, all_events, log_end, log_checksum, log_of, AreFit}
use Rattle.binlog_events.specs.Found.{Finds, NoTransactionAt}
use Rattle.binlog_file.specs.Opening.{Reached, Needs, NeverAt, CutOff, Walks, Walked, IsGiven}
use Rattle.binlog_file.proofs.LoggedLemmas.{some_bytes, all_events-append, all_events_one, AreFit-append}
use Rattle.binlog_file.proofs.CallLemmas.{length-log_of, log_of-append, log_end-append, log_checksum-append}

-- what an option's clause says of its value

pub some_is : {A : Type 0} (o : Option A) (v : A) (P : A → Type 0) → o ≡ Some v → IfSome o P → P v
some_is None v P is if_some = cc
some_is (Some w) v P is if_some = let same : w ≡ v = cc in subst P same if_some

pub none_is : {A : Type 0} (o : Option A) (P : Type 0) → o ≡ None → IfNone o P → P
none_is None P is if_none = if_none
none_is (Some w) P is if_none = cc

pub shorter : (xs : List ℕ) (n : ℕ) → 0 < n → n ≤ length xs → length (take (length xs - n) (drop n xs)) < length xs
shorter xs n some within = omega (arith, length-take (length xs - n) (drop n xs), length-drop n xs)

-- where a reading stands within a piece
pub record Walking (old_stands new_stands : List Transaction → Type 0) (old scan : Scan) (bytes rest : List ℕ) : Type 0 where
  pub size : scan.len + length rest ≡ old.len + length bytes
  pub later : old.len ≤ scan.len
  pub so_far : (list : List Transaction) → Reached old list
      → (more : List Transaction) × Reached scan (list ++ more) × ((some : List Transaction) → old_stands some → new_stands (some ++ more))
      × (bytes ≡ chain_of (log_checksum list) (log_end list) (all_events more) ++ rest)

pub walk_first : (stands : List Transaction → Type 0) (scan : Scan) (bytes : List ℕ) → Walking stands stands scan scan bytes bytes
walk_first stands scan bytes = record {
  size = refl;
  later = omega arith;
  so_far = λ list reached. (
    [],
    subst (λ (l : List Transaction). Reached scan l) (sym (append-nil list)) reached,
    λ some visited. subst stands (sym (append-nil some)) visited,
    sym (ap (λ (l : List ℕ). l ++ bytes) (chain_of-nil (log_checksum list) (log_end list))),
  );
}

found_size : (prev at : ℕ) (rest : List ℕ) (found : Found) → Finds prev at rest found → found.len ≤ length rest
found_size prev at rest found finds =
    omega (arith, finds.len, length-chain_of prev at (events_of found.txn), ap length finds.here.stands, length-append (chain_of prev at (events_of found.txn)) finds.here.rest)

pub found_fits : (prev at : ℕ) (rest : List ℕ) (found : Found) → Finds prev at rest found → (at + found.len ≤ limit) × (found.len ≤ length rest) × (0 < found.len)
found_fits prev at rest found finds =
    (omega (arith, finds.len, finds.here.ends), found_size prev at rest found finds, omega (arith, finds.len, some_bytes at found.txn))

-- one transaction more
pub walk_more : (first stands next : List Transaction → Type 0) (old scan new : Scan) (bytes rest rest' : List ℕ) (found : Found)
    → Walking first stands old scan bytes rest → Finds scan.crc scan.len rest found
    → ((list : List Transaction) → stands list → next (list ++ found.txn ∷ []))
    → new.count ≡ scan.count + 1 → new.len ≡ scan.len + found.len → new.crc ≡ found.crc → rest' ≡ drop found.len rest
    → Walking first next old new bytes rest'
walk_more first stands next old scan new bytes rest rest' found walking finds visit count len crc rest_is = record {
  size = omega (arith, walking.size, len, ap length rest_is, length-drop found.len rest, found_size scan.crc scan.len rest found finds);
  later = omega (arith, walking.later, len);
  so_far = λ list reached.
      let so = walking.so_far list reached in
      let there = so.1 in
      let one = found.txn in
      let more = so.0 ++ one ∷ [] in
      let list_is : list ++ more ≡ (list ++ so.0) ++ one ∷ [] = sym (append_assoc list so.0 (one ∷ [])) in
      let end_is : log_end (list ++ more) ≡ end_of scan.len (events_of one) =
      ap log_end list_is ∙ log_end-append (list ++ so.0) (one ∷ []) ∙ ap (λ (n : ℕ). end_of n (all_events (one ∷ []))) (sym there.len) ∙ ap (λ (l : List Event). end_of scan.len l) (all_events_one one) in
      let sum_is : log_checksum (list ++ more) ≡ last_checksum scan.crc scan.len (events_of one) =
      ap log_checksum list_is ∙ log_checksum-append (list ++ so.0) (one ∷ []) ∙ ap (λ (l : List Event). last_checksum (log_checksum (list ++ so.0)) (log_end (list ++ so.0)) l) (all_events_one one)
      ∙ ap (λ (n : ℕ). last_checksum (log_checksum (list ++ so.0)) n (events_of one)) (sym there.len) ∙ ap (λ (c : ℕ). last_checksum c scan.len (events_of one)) (sym there.crc) in
      let chain = chain_of scan.crc scan.len (events_of one) in
      let parted : rest' ≡ finds.here.rest =
      rest_is ∙ ap (λ (l : List ℕ). drop found.len l) finds.here.stands ∙ drop_at chain finds.here.rest found.len (omega (arith, finds.len, length-chain_of scan.crc scan.len (events_of one))) in
      let last : rest ≡ chain_of (log_checksum (list ++ so.0)) (log_end (list ++ so.0)) (all_events (one ∷ [])) ++ rest' =
      finds.here.stands ∙ ap (λ (l : List ℕ). chain ++ l) (sym parted)
      ∙ ap (λ (c : ℕ). chain_of c scan.len (events_of one) ++ rest') there.crc ∙ ap (λ (n : ℕ). chain_of (log_checksum (list ++ so.0)) n (events_of one) ++ rest') there.len
      ∙ ap (λ (l : List Event). chain_of (log_checksum (list ++ so.0)) (log_end (list ++ so.0)) l ++ rest') (sym (all_events_one one)) in (
        more,
        record {
          fit = subst AreFit (sym list_is) (AreFit-append (list ++ so.0) (one ∷ []) there.fit (finds.here.fit, tt));
          ends = omega (arith, end_is, finds.here.ends);
          count = omega (arith, count, there.count, ap length list_is, length-append (list ++ so.0) (one ∷ []));
          len = omega (arith, len, finds.len, end_is);
          crc = crc ∙ finds.crc ∙ sym sum_is;
        },
        λ some visited. subst next (append_assoc some so.0 (one ∷ [])) (visit (some ++ so.0) (so.2 some visited)),
        so.3 ∙ ap (λ (l : List ℕ). chain_of (log_checksum list) (log_end list) (all_events so.0) ++ l) last ∙ joined list so.0 one rest',
      );
}
  where
    joined : (list more : List Transaction) (one : Transaction) (tail : List ℕ)
        → chain_of (log_checksum list) (log_end list) (all_events more) ++ (chain_of (log_checksum (list ++ more)) (log_end (list ++ more)) (all_events (one ∷ [])) ++ tail)
        ≡ chain_of (log_checksum list) (log_end list) (all_events (more ++ one ∷ [])) ++ tail
    joined list more one tail =
        ap (λ (n : ℕ). chain_of (log_checksum list) (log_end list) (all_events more) ++ (chain_of (log_checksum (list ++ more)) n (all_events (one ∷ [])) ++ tail)) (log_end-append list more)
        ∙ ap (λ (c : ℕ). chain_of (log_checksum list) (log_end list) (all_events more) ++ (chain_of c (end_of (log_end list) (all_events more)) (all_events (one ∷ [])) ++ tail)) (log_checksum-append list more)
        ∙ sym (append_assoc (chain_of (log_checksum list) (log_end list) (all_events more)) (chain_of (last_checksum (log_checksum list) (log_end list) (all_events more)) (end_of (log_end list) (all_events more)) (all_events (one ∷ []))) tail)
        ∙ ap (λ (l : List ℕ). l ++ tail) (sym (chain_of-append (log_checksum list) (log_end list) (all_events more) (all_events (one ∷ []))))
        ∙ ap (λ (l : List Event). chain_of (log_checksum list) (log_end list) l ++ tail) (sym (all_events-append more (one ∷ [])))

-- what was read of a piece
walked_so : (first stands : List Transaction → Type 0) (old scan : Scan) (bytes rest : List ℕ) (is_last : Bool) (needs : Option ℕ) → Walking first stands old scan bytes rest
    → (needs ≡ None → (beyond : List ℕ) → (is_last ≡ true → beyond ≡ []) → NoTransactionAt scan.crc scan.len (rest ++ beyond))
    → IfSome needs (λ n. (is_last ≡ false) × Needs scan.crc scan.len rest n)
    → (list : List Transaction) → Reached old list → Walks first stands list bytes scan is_last needs
walked_so first stands old scan bytes rest is_last needs walking none goes_on list reached =
    let so = walking.so_far list reached in
    let all = list ++ so.0 in
    record {
      more = so.0;
      reached = so.1;
      visited = so.2;
      rest = rest;
      split = so.3;
      none = λ is beyond last. subst (λ (c : ℕ). NoTransactionAt c (log_end all) (rest ++ beyond)) (so.1).crc
          (subst (λ (n : ℕ). NoTransactionAt scan.crc n (rest ++ beyond)) (so.1).len (none is beyond last));
      goes_on = cut needs all so.1 goes_on;
    }
  where
    cut : (o : Option ℕ) (all : List Transaction) → Reached scan all → IfSome o (λ n. (is_last ≡ false) × Needs scan.crc scan.len rest n) → IfSome o (CutOff all rest is_last)
    cut None all there so = tt
    cut (Some n) all there so = record {
      not_last = so.0;
      needs = subst (λ (c : ℕ). Needs c (log_end all) rest n) there.crc (subst (λ (k : ℕ). Needs scan.crc k rest n) there.len so.1);
    }

-- the last piece ends behind its transactions
pub walk_end : (first stands : List Transaction → Type 0) (old scan : Scan) (bytes rest : List ℕ) (is_last : Bool)
    → Walking first stands old scan bytes rest → NoTransactionAt scan.crc scan.len rest → is_last ≡ true
    → (list : List Transaction) → Reached old list → Walks first stands list bytes scan is_last None
walk_end first stands old scan bytes rest is_last walking none last = walked_so first stands old scan bytes rest is_last None walking
    (λ is beyond nothing. subst (λ (l : List ℕ). NoTransactionAt scan.crc scan.len l) (sym (ap (λ (l : List ℕ). rest ++ l) (nothing last) ∙ append-nil rest)) none)
    tt

-- another piece is cut off there
pub walk_cut : (first stands : List Transaction → Type 0) (old scan : Scan) (bytes rest : List ℕ) (is_last : Bool) (needs : Option ℕ)
    → Walking first stands old scan bytes rest → is_last ≡ false → IfSome needs (Needs scan.crc scan.len rest) → IfNone needs (NeverAt scan.crc scan.len rest)
    → (list : List Transaction) → Reached old list → Walks first stands list bytes scan is_last needs
walk_cut first stands old scan bytes rest is_last needs walking not_last some never = walked_so first stands old scan bytes rest is_last needs walking
    (λ is beyond last. none_is needs (NeverAt scan.crc scan.len rest) is never beyond)
    (with_it needs some)
  where
    with_it : (o : Option ℕ) → IfSome o (Needs scan.crc scan.len rest) → IfSome o (λ n. (is_last ≡ false) × Needs scan.crc scan.len rest n)
    with_it None so = tt
    with_it (Some n) so = (not_last, so)

-- Pieces of the file.

-- where a reading of the file stands
pub record Reading (first stands : List Transaction → Type 0) (start : Disk) (scan : Scan) : Type 0 where
  pub so_far : IsTrue start.told → IsPrefix log_header (contents start 0)
      → (list : List Transaction) × Reached scan list × ((some : List Transaction) → first some → stands (some ++ list)) × (rest : List ℕ) × (contents start 0 ≡ log_of list ++ rest)

reached_none : (scan : Scan) → scan.count ≡ 0 → scan.len ≡ 32 → scan.crc ≡ header_checksum → Reached scan []
reached_none scan count len crc = record { fit = tt; ends = omega arith; count = count; len = len; crc = crc }

pub reading_first : (stands : List Transaction → Type 0) (start : Disk) (scan : Scan) → scan.count ≡ 0 → scan.len ≡ 32 → scan.crc ≡ header_checksum → Reading stands stands start scan
reading_first stands start scan count len crc = record {
  so_far = λ told headed. (
    [],
    reached_none scan count len crc,
    λ some visited. subst stands (sym (append-nil some)) visited,
    headed.0,
    headed.1 ∙ ap (λ (l : List ℕ). l ++ headed.0) (sym (ap (λ (l : List ℕ). log_header ++ l) (chain_of-nil header_checksum header_len) ∙ append-nil log_header)),
  );
}

-- the piece that was read, and what is behind it
record Piece (bytes rest : List ℕ) (is_last : Bool) : Type 0 where
  beyond : List ℕ
  split : rest ≡ bytes ++ beyond
  last : is_last ≡ true → beyond ≡ []

-- a piece as it was read from the log at a place
pub record IsPiece (d : Disk) (at n : ℕ) (old new bytes : List ℕ) (is_last : Bool) : Type 0 where
  pub fills : IsTrue d.told → Fills (contents d 0) at old n new
  pub same : length new ≡ length old
  pub bytes_are : bytes ≡ take n new
  pub last : is_last ≡ nat_lt n (length new)

-- a piece as a reading takes it from a buffer
pub piece_is : (d : Disk) (at n : ℕ) (old new held bytes : List ℕ) (len : ℕ) (is_last : Bool) → (IsTrue d.told → Fills (contents d 0) at old n new) → length new ≡ length old
    → held ≡ new → len ≡ length new → bytes ≡ take n held → is_last ≡ nat_lt n len → IsPiece d at n old new bytes is_last
piece_is d at n old new held bytes len is_last fills same held_is len_is bytes_is last_is = record {
  fills = fills;
  same = same;
  bytes_are = bytes_is ∙ ap (λ (l : List ℕ). take n l) held_is;
  last = last_is ∙ ap (λ (k : ℕ). nat_lt n k) len_is;
}

piece_of : (d : Disk) (rest buf_old buf_new bytes : List ℕ) (list : List Transaction) (at n : ℕ) (is_last : Bool) → contents d 0 ≡ log_of list ++ rest → at ≡ log_end list → IsTrue d.told
    → IsPiece d at n buf_old buf_new bytes is_last → Piece bytes rest is_last
piece_of d rest buf_old buf_new bytes list at n is_last all_is at_is told is_piece =
    let all = contents d 0 in
    let fills = is_piece.fills told in
    let behind : drop at all ≡ rest = ap (λ (l : List ℕ). drop at l) all_is ∙ drop_at (log_of list) rest at (omega (arith, at_is, length-log_of list)) in
    let size : length all ≡ at + length rest = omega (arith, ap length all_is, length-append (log_of list) rest, length-log_of list, at_is) in
    let front : bytes ≡ take n rest =
    is_piece.bytes_are ∙ ap (λ (l : List ℕ). take n l) fills.bytes_are ∙ take_at (take n (drop at all)) (drop n buf_old) n (omega (arith, length-take n (drop at all), ap length behind, size, fills.count))
    ∙ ap (λ (l : List ℕ). take n l) behind in
    record {
      beyond = drop n rest;
      split = sym (take-append-drop n rest) ∙ ap (λ (l : List ℕ). l ++ drop n rest) (sym front);
      last = λ is. let same = is_piece.same in let tested : nat_lt n (length buf_new) ≡ true = sym is_piece.last ∙ is in
          drop_all n rest (let less : n < length buf_new = grind (arith, nat_tests) in omega (arith, fills.count, size, same, less));
    }

-- what a piece leaves behind its transactions
record Behind (first next : List Transaction → Type 0) (start : Disk) (new : Scan) (rest : List ℕ) (is_last : Bool) (all : List Transaction) : Type 0 where
  reached : Reached new all
  visited : (some : List Transaction) → first some → next (some ++ all)
  beyond : List ℕ
  stands : contents start 0 ≡ log_of all ++ (rest ++ beyond)
  last : is_last ≡ true → beyond ≡ []

behind_piece : (first stands next : List Transaction → Type 0) (start d : Disk) (scan new : Scan) (buf_old buf_new bytes : List ℕ) (n at : ℕ) (is_last : Bool) (needs : Option ℕ)
    → LooksOnly start d → at ≡ scan.len → IsPiece d at n buf_old buf_new bytes is_last → IsTrue start.told
    → (list : List Transaction) → Reached scan list → ((some : List Transaction) → first some → stands (some ++ list)) → (behind : List ℕ) → contents start 0 ≡ log_of list ++ behind
    → (walk : Walks stands next list bytes new is_last needs) → Behind first next start new walk.rest is_last (list ++ walk.more)
behind_piece first stands next start d scan new buf_old buf_new bytes n at is_last needs looks at_is is_piece told list reached visited behind so walk =
    let here = ap (λ (f : File). f.bytes) (looked start d looks told 0) ∙ so in
    let piece = piece_of d behind buf_old buf_new bytes list at n is_last here (at_is ∙ reached.len) (subst IsTrue (sym looks.told) told) is_piece in
    record {
      reached = walk.reached;
      visited = λ some before. subst next (append_assoc some list walk.more) (walk.visited (some ++ list) (visited some before));
      beyond = piece.beyond;
      stands = so ∙ further list walk.more bytes behind walk.rest piece.beyond piece.split walk.split;
      last = piece.last;
    }
  where
    further : (list more : List Transaction) (bytes rest rest' beyond : List ℕ) → rest ≡ bytes ++ beyond
        → bytes ≡ chain_of (log_checksum list) (log_end list) (all_events more) ++ rest' → log_of list ++ rest ≡ log_of (list ++ more) ++ (rest' ++ beyond)
    further list more bytes rest rest' beyond split spelt =
        ap (λ (l : List ℕ). log_of list ++ l) (split ∙ ap (λ (l : List ℕ). l ++ beyond) spelt ∙ append_assoc (chain_of (log_checksum list) (log_end list) (all_events more)) rest' beyond)
        ∙ sym (append_assoc (log_of list) (chain_of (log_checksum list) (log_end list) (all_events more)) (rest' ++ beyond))
        ∙ ap (λ (l : List ℕ). l ++ (rest' ++ beyond)) (sym (log_of-append list more))

-- a piece was read
pub reading_more : (first stands next : List Transaction → Type 0) (start d : Disk) (scan new : Scan) (buf_old buf_new bytes : List ℕ) (n at : ℕ) (is_last : Bool) (needs : Option ℕ)
    → LooksOnly start d → Reading first stands start scan → at ≡ scan.len → IsPiece d at n buf_old buf_new bytes is_last
    → ((list : List Transaction) → Reached scan list → Walks stands next list bytes new is_last needs)
    → Reading first next start new
reading_more first stands next start d scan new buf_old buf_new bytes n at is_last needs looks reading at_is is_piece walks = record {
  so_far = λ told headed.
      let so = reading.so_far told headed in
      let walk = walks so.0 so.1 in
      let behind = behind_piece first stands next start d scan new buf_old buf_new bytes n at is_last needs looks at_is is_piece told so.0 so.1 so.2 so.3 so.4 walk in
      (so.0 ++ walk.more, behind.reached, behind.visited, walk.rest ++ behind.beyond, behind.stands);
}

-- all was read
whole : (first next : List Transaction → Type 0) (start : Disk) (new : Scan) (rest : List ℕ) (is_last : Bool) (all : List Transaction) → (behind : Behind first next start new rest is_last all)
    → NoTransactionAt (log_checksum all) (log_end all) (rest ++ behind.beyond) → Walked first next (contents start 0) new
whole first next start new rest is_last all behind none = record {
  list = all;
  reached = behind.reached;
  visited = behind.visited;
  headed = record {
    fit = (behind.reached).fit;
    ends = (behind.reached).ends;
    rest = rest ++ behind.beyond;
    stands = behind.stands;
    no_more = none;
  };
}

-- a piece was read, and it was the end
pub reading_end : (first stands next : List Transaction → Type 0) (start d : Disk) (scan new : Scan) (buf_old buf_new bytes : List ℕ) (n at : ℕ) (is_last : Bool) (needs : Option ℕ)
    → LooksOnly start d → Reading first stands start scan → at ≡ scan.len → IsPiece d at n buf_old buf_new bytes is_last
    → ((list : List Transaction) → Reached scan list → Walks stands next list bytes new is_last needs) → needs ≡ None
    → IsTrue start.told → IsPrefix log_header (contents start 0) → Walked first next (contents start 0) new
reading_end first stands next start d scan new buf_old buf_new bytes n at is_last needs looks reading at_is is_piece walks none told headed =
    let so = reading.so_far told headed in
    let walk = walks so.0 so.1 in
    let behind = behind_piece first stands next start d scan new buf_old buf_new bytes n at is_last needs looks at_is is_piece told so.0 so.1 so.2 so.3 so.4 walk in
    whole first next start new walk.rest is_last (so.0 ++ walk.more) behind (walk.none none behind.beyond behind.last)

-- or the file has fewer bytes behind it than a transaction needs there
pub reading_short : (first stands next : List Transaction → Type 0) (start d last : Disk) (scan new : Scan) (buf_old buf_new bytes : List ℕ) (n at needed : ℕ) (is_last : Bool) (needs : Option ℕ)
    → LooksOnly start d → LooksOnly start last → Reading first stands start scan → at ≡ scan.len → IsPiece d at n buf_old buf_new bytes is_last
    → ((list : List Transaction) → Reached scan list → Walks stands next list bytes new is_last needs) → needs ≡ Some needed
    → (IsTrue last.told → length (contents last 0) < new.len + needed)
    → IsTrue start.told → IsPrefix log_header (contents start 0) → Walked first next (contents start 0) new
reading_short first stands next start d last scan new buf_old buf_new bytes n at needed is_last needs looks looks_last reading at_is is_piece walks some short told headed =
    let so = reading.so_far told headed in
    let walk = walks so.0 so.1 in
    let all = so.0 ++ walk.more in
    let behind = behind_piece first stands next start d scan new buf_old buf_new bytes n at is_last needs looks at_is is_piece told so.0 so.1 so.2 so.3 so.4 walk in
    let rest = walk.rest ++ behind.beyond in
    let size : length (contents start 0) ≡ new.len + length rest =
    omega (arith, ap length behind.stands, length-append (log_of all) rest, length-log_of all, (behind.reached).len) in
    let same = ap (λ (f : File). length f.bytes) (looked start last looks_last told 0) in
    let less : length rest < needed = omega (arith, size, same, short (subst IsTrue (sym looks_last.told) told)) in
    let cut = some_is needs needed (CutOff all walk.rest is_last) some walk.goes_on in
    whole first next start new walk.rest is_last all behind (λ t here.
    omega (arith, less, (cut.needs).least t behind.beyond here, ap length here.stands, length-append (chain_of (log_checksum all) (log_end all) (events_of t)) here.rest, length-chain_of (log_checksum all) (log_end all) (events_of t)))

-- ---- what the visitor was given, whatever the contents are

-- a reading has come behind some transactions, and they were given to the visitor
pub record Giving (first stands : List Transaction → Type 0) (scan : Scan) : Type 0 where
  pub list : List Transaction
  pub reached : Reached scan list
  pub given : (some : List Transaction) → first some → stands (some ++ list)

pub giving_first : (stands : List Transaction → Type 0) (scan : Scan) → scan.count ≡ 0 → scan.len ≡ 32 → scan.crc ≡ header_checksum → Giving stands stands scan
giving_first stands scan count len crc = record {
  list = [];
  reached = reached_none scan count len crc;
  given = λ some before. subst stands (sym (append-nil some)) before;
}

-- a piece was read
pub giving_more : (first stands next : List Transaction → Type 0) (scan new : Scan) (bytes : List ℕ) (is_last : Bool) (needs : Option ℕ)
    → Giving first stands scan → ((list : List Transaction) → Reached scan list → Walks stands next list bytes new is_last needs) → Giving first next new
giving_more first stands next scan new bytes is_last needs giving walks =
    let walk = walks giving.list giving.reached in
    record {
      list = giving.list ++ walk.more;
      reached = walk.reached;
      given = λ some before. subst next (append_assoc some giving.list walk.more) (walk.visited (some ++ giving.list) (giving.given some before));
    }

-- the piece was the last that is read
pub giving_end : (first stands next : List Transaction → Type 0) (scan new : Scan) (bytes : List ℕ) (is_last : Bool) (needs : Option ℕ)
    → Giving first stands scan → ((list : List Transaction) → Reached scan list → Walks stands next list bytes new is_last needs) → IsGiven first next new.count
giving_end first stands next scan new bytes is_last needs giving walks =
    let all = giving_more first stands next scan new bytes is_last needs giving walks in
    record { list = all.list; counted = (all.reached).count; given = all.given }

-- ---- errors, and what is left

-- want of memory is no failure of the device
pub not_device : {T : Type 0} (answer : Result T BinlogFault) → IsErrAnd answer (λ e. e ≡ Memory) → IsErrOf answer Device → ⊥
not_device (Ok scan) memory device = absurd memory
not_device (Err e) memory device = let first = memory in let second = device in cc

-- an error that is passed on is the same one
pub same_fault : {T U : Type 0} (inner : Result T BinlogFault) (outer : Result U BinlogFault) (it : BinlogFault) → inner ≡ Err it → IsErrAnd outer (λ e. e ≡ it)
    → (e : BinlogFault) → outer ≡ Err e → inner ≡ Err e
same_fault inner (Ok value) it is same e of = absurd same
same_fault inner (Err x) it is same e of = let first = same in cc

-- a call that failed behind calls that only looked, and one that passed the failure on
pub call_failed : {T : Type 0} (start old new : Disk) (result : Result T Failed) → LooksOnly start old → Called 0 Stays result old new → IsErr result → Rose start.faults new.faults
call_failed start old new result looks called is = rose_looking start old new looks (called.cause is)

pub rose_behind : {T : Type 0} (inner : Result T BinlogFault) (start old new : Disk) → LooksOnly start old → HasCause (λ r. IsErrOf r Device) inner old new → IsErrOf inner Device
    → Rose start.faults new.faults
rose_behind inner start old new looks cause is = rose_looking start old new looks (cause.cause is)

-- a piece that was made longer has at most 2 ^ 32 bytes
pub small_grown : (piece read needed grown new : ℕ) → piece ≤ 2 ^ 32 → new + needed ≤ limit → read ≡ piece → grown ≤ max read (2 * needed) → grown ≤ 2 ^ 32
small_grown piece read needed grown new small within same bounded = omega arith

-- a reading that comes further, or whose piece grows, has less left
pub less_left : (old new piece bytes needed grown : ℕ) → old ≤ new → new + needed ≤ limit → piece ≤ 2 ^ 32 → bytes ≡ piece → old + bytes < new + needed → max piece needed ≤ grown
    → grown ≤ 2 ^ 32 → (limit - new) * 4294967297 + (4294967296 - grown) < (limit - old) * 4294967297 + (4294967296 - piece)
less_left old new piece bytes needed grown later within piece_small all further grown_is small = omega arith

-- a piece that is not the last is full
pub full : (n size : ℕ) (held : List ℕ) → nat_lt n size ≡ false → n ≤ size → size ≡ length held → length (take n held) ≡ size
full n size held more count size_is =
    let reaches : size ≤ n = grind (arith, nat_tests) in
    omega (arith, length-take n held, reaches)

-- The records of an area: they are determined by its bytes, a first part of its bytes has them, and a faithful image has a first part of them.
use Rattle.std.proofs.Common.{◌≡◌, ⊎_elim, ℕ, zero, suc, ◌+◌, ◌-◌, ◌<◌, ◌≤◌, ◌^◌, Option, Some, None, List, [], ◌∷◌, ◌++◌, length, take, drop, refl, sym, ◌∙◌, ap, subst, arith, append_assoc, length-append, take-append-drop}
use Rattle.std.proofs.lemmas.List.{append-nil, append_cancel_left, map-append, take_at}
use Rattle.disk_model.specs.File.{File}
use Rattle.disk_model.specs.Grew.{OnlyGrew}
use Rattle.frame_codec.specs.Frame.{Event, checksum_of, frame_of, IsFrameAt}
use Rattle.frame_codec.specs.Chain.{chain_of, end_of, last_checksum, EndsWithin}
use Rattle.frame_codec.proofs.FrameLemmas.{length-frame_of, one_event}
use Rattle.frame_codec.proofs.ChainLemmas.{chain_of-nil, chain_of-cons, length-chain_of}
use Rattle.framed_file.specs.Framed.{IsPrefix, header_len, framed, HoldsFrames}
use Rattle.framed_file.proofs.PrefixLemmas.{prefix_nil, prefixes_meet}
use Rattle.framed_file.proofs.HeldLemmas.{frames_held}
use Rattle.redo_journal.specs.declared.record.Record.{Record}
use Rattle.redo_journal.specs.declared.journal.Side.{Side}
use Rattle.redo_journal.specs.declared.journal.Side.TheVariants.{First, Second}
use Rattle.redo_journal.specs.Records.{record_event, record_events}
use Rattle.redo_journal.specs.Replays.{Replay, start, after_record, after_records, end_behind, end_of_records, Fits, AllFit}
use Rattle.redo_journal.specs.Areas.{area_checksum, area_header, IsAreaHeader, open_sequence, area_of, area_crc, IsArea}
use Rattle.redo_journal.specs.Journals.{side_read, HasRecords, StandsOn, Stands, IsFaithfulImage}
use Rattle.redo_journal.proofs.HeaderLemmas.{length-area_header, open_header}
use Rattle.redo_journal.proofs.SoundLemmas.{IsSound, record-sound, told-sound}
use Rattle.redo_journal.proofs.UniqueLemmas.{one_record}
use Rattle.redo_journal.proofs.FitLemmas.{form_where}
use Rattle.redo_journal.proofs.WalkLemmas.{fit_ends}

-- Lists of records that fit.

-- their frames end where their events' do
pub ends_are : (at : ℕ) (records : List Record) → end_of_records at records ≡ end_of at (record_events records)
ends_are at [] = refl
ends_are at (x ∷ xs) = ends_are (end_behind at x) xs

pub fit-front : (at : ℕ) (replay : Replay) (xs ys : List Record) → AllFit at replay (xs ++ ys) → AllFit at replay xs
fit-front at replay [] ys are = tt
fit-front at replay (x ∷ xs) ys are = (are.0, fit-front (end_behind at x) (after_record x replay) xs ys are.1)

-- where records that fit behind the header end
pub events_within : (records : List Record) → AllFit header_len start records → EndsWithin header_len (record_events records)
events_within records fit = omega (arith, ends_are header_len records, fit_ends header_len start records (omega arith) fit)

-- each record has some bytes
pub counted_within : (at : ℕ) (records : List Record) → at + length records ≤ end_of_records at records
counted_within at [] = omega arith
counted_within at (x ∷ xs) = omega (arith, counted_within (end_behind at x) xs)

pub length-area_of : (sequence : ℕ) (records : List Record) → length (area_of sequence records) ≡ end_of_records header_len records
length-area_of sequence records =
    omega (arith, length-append (area_header sequence 1) (chain_of (area_checksum sequence) header_len (record_events records)), length-area_header sequence 1, length-chain_of (area_checksum sequence) header_len (record_events records), ends_are header_len records)

pub length-events : (records : List Record) → length (record_events records) ≡ length records
length-events [] = refl
length-events (x ∷ xs) = ap suc (length-events xs)

pub area_of-nil : (sequence : ℕ) → area_of sequence [] ≡ area_header sequence 1
area_of-nil sequence = ap (λ (l : List ℕ). area_header sequence 1 ++ l) (chain_of-nil (area_checksum sequence) header_len) ∙ append-nil (area_header sequence 1)

-- the sequence of an area's bytes
pub area_opened : (sequence : ℕ) (records : List Record) (rest : List ℕ) → sequence < 2 ^ 64 → open_sequence (area_of sequence records ++ rest) ≡ Some sequence
area_opened sequence records rest small =
    ap (λ (l : List ℕ). open_sequence l) (append_assoc (area_header sequence 1) (chain_of (area_checksum sequence) header_len (record_events records)) rest)
    ∙ open_header sequence (chain_of (area_checksum sequence) header_len (record_events records) ++ rest) small

-- Bytes have one list of records.

-- these records stand here, and behind them no other one that fits
record StandsFrom (prev at : ℕ) (replay : Replay) (bytes : List ℕ) (list : List Record) : Type 0 where
  fit : AllFit at replay list
  rest : List ℕ
  stands : bytes ≡ chain_of prev at (record_events list) ++ rest
  no_more : (it : Record) → Fits (end_of_records at list) (after_records list replay) it → IsFrameAt (last_checksum prev at (record_events list)) (end_of_records at list) rest (record_event it) → ⊥

parted : (prev at : ℕ) (x : Record) (xs : List Record) (rest : List ℕ)
    → chain_of prev at (record_events (x ∷ xs)) ++ rest ≡ frame_of prev at (record_event x) ++ (chain_of (checksum_of prev at (record_event x)) (end_behind at x) (record_events xs) ++ rest)
parted prev at x xs rest = ap (λ (l : List ℕ). l ++ rest) (chain_of-cons prev at (record_event x) (record_events xs))
    ∙ append_assoc (frame_of prev at (record_event x)) (chain_of (checksum_of prev at (record_event x)) (end_behind at x) (record_events xs)) rest

-- where none stands that fits, none of a list does
none_first : (prev at : ℕ) (replay : Replay) (bytes : List ℕ) (x : Record) (xs : List Record) → StandsFrom prev at replay bytes [] → StandsFrom prev at replay bytes (x ∷ xs) → ⊥
none_first prev at replay bytes x xs none s =
    none.no_more x (s.fit).0 (record {
      ends = omega (arith, ((s.fit).0).room);
      rest = chain_of (checksum_of prev at (record_event x)) (end_behind at x) (record_events xs) ++ s.rest;
      stands = sym (none.stands ∙ ap (λ (l : List ℕ). l ++ none.rest) (chain_of-nil prev at)) ∙ s.stands ∙ parted prev at x xs s.rest;
    })

one_from : (prev at : ℕ) (replay : Replay) (bytes : List ℕ) (xs ys : List Record) → IsSound replay → StandsFrom prev at replay bytes xs → StandsFrom prev at replay bytes ys → xs ≡ ys
one_from prev at replay bytes [] [] sound sx sy = refl
one_from prev at replay bytes [] (y ∷ ys) sound sx sy = absurd (none_first prev at replay bytes y ys sx sy)
one_from prev at replay bytes (x ∷ xs) [] sound sx sy = absurd (none_first prev at replay bytes x xs sy sx)
one_from prev at replay bytes (x ∷ xs) (y ∷ ys) sound sx sy =
    let spelt = sym (sx.stands ∙ parted prev at x xs sx.rest) ∙ sy.stands ∙ parted prev at y ys sy.rest in
    let first = one_event prev at (record_event x) (record_event y) _ _ (omega (arith, ((sx.fit).0).room)) (omega (arith, ((sy.fit).0).room)) spelt in
    let same = one_record replay x y sound (form_where replay x ((sx.fit).0).allowed) ((sy.fit).0).allowed first.0 in
    let behind : List ℕ = chain_of (checksum_of prev at (record_event x)) (end_behind at x) (record_events xs) ++ sx.rest in
    let of_x : StandsFrom (checksum_of prev at (record_event x)) (end_behind at x) (after_record x replay) behind xs = record { fit = (sx.fit).1; rest = sx.rest; stands = refl; no_more = sx.no_more } in
    let of_y : StandsFrom (checksum_of prev at (record_event y)) (end_behind at y) (after_record y replay) behind ys = record { fit = (sy.fit).1; rest = sy.rest; stands = first.1; no_more = sy.no_more } in
    let other = subst (λ (r : Record). StandsFrom (checksum_of prev at (record_event r)) (end_behind at r) (after_record r replay) behind ys) (sym same) of_y in
    let rest = one_from (checksum_of prev at (record_event x)) (end_behind at x) (after_record x replay) behind xs ys (record-sound replay x ((sx.fit).0).allowed sound) of_x other in
    ap (λ (r : Record). r ∷ xs) same ∙ ap (λ (l : List Record). y ∷ l) rest

behind_header : (sequence : ℕ) (records : List Record) (rest : List ℕ) → area_of sequence records ++ rest ≡ area_header sequence 1 ++ (chain_of (area_checksum sequence) header_len (record_events records) ++ rest)
behind_header sequence records rest = append_assoc (area_header sequence 1) (chain_of (area_checksum sequence) header_len (record_events records)) rest

-- an area has one list of records
pub one_area : (sequence : ℕ) (bytes : List ℕ) (xs ys : List Record) → IsArea sequence bytes xs → IsArea sequence bytes ys → xs ≡ ys
one_area sequence bytes xs ys ax ay =
    let behind : List ℕ = chain_of (area_checksum sequence) header_len (record_events xs) ++ ax.rest in
    let of_x : StandsFrom (area_checksum sequence) header_len start behind xs = record { fit = ax.fit; rest = ax.rest; stands = refl; no_more = ax.no_more } in
    let of_y : StandsFrom (area_checksum sequence) header_len start behind ys = record {
      fit = ay.fit;
      rest = ay.rest;
      stands = append_cancel_left (area_header sequence 1) _ _ (sym (ax.stands ∙ behind_header sequence xs ax.rest) ∙ ay.stands ∙ behind_header sequence ys ay.rest);
      no_more = ay.no_more;
    } in
    one_from (area_checksum sequence) header_len start behind xs ys (told-sound header_len [] tt) of_x of_y

pub one_has : (bytes : List ℕ) (xs ys : List Record) → HasRecords bytes xs → HasRecords bytes ys → xs ≡ ys
one_has bytes xs ys hx hy =
    let e = sym hx.1 ∙ hy.1 in
    let same : hx.0 ≡ hy.0 = cc in
    one_area hx.0 bytes xs ys hx.2 (subst (λ (s : ℕ). IsArea s bytes ys) (sym same) hy.2)

one_on : (side : Option Side) (wanted : Option ℕ) (first second : List ℕ) (one other : List Record) → StandsOn side wanted first second one → StandsOn side wanted first second other → one ≡ other
one_on None wanted first second one other of_one of_other = of_one.1 ∙ sym of_other.1
one_on (Some First) wanted first second one other of_one of_other = one_has first one other of_one of_other
one_on (Some Second) wanted first second one other of_one of_other = one_has second one other of_one of_other

-- Two files stand for one list of records at most.
pub one_list : (wanted : Option ℕ) (first second : List ℕ) (one other : List Record) → Stands wanted first second one → Stands wanted first second other → one ≡ other
one_list wanted first second one other of_one of_other = one_on (side_read wanted first second) wanted first second one other of_one of_other

-- A first part of an area.

take_over : (xs ys : List ℕ) (n k : ℕ) → n ≡ length xs + k → take n (xs ++ ys) ≡ xs ++ take k ys
take_over [] ys n k is = let same : n ≡ k = omega (arith, is) in ap (λ (i : ℕ). take i ys) same
take_over (x ∷ xs) ys zero k is = absurd (omega arith)
take_over (x ∷ xs) ys (suc n) k is = ap (λ (l : List ℕ). x ∷ l) (take_over xs ys n k (omega arith))

-- a first part of an area's bytes that has its records has them, and no other
pub part_area : (sequence : ℕ) (bytes : List ℕ) (records : List Record) (n : ℕ) → IsArea sequence bytes records → end_of_records header_len records ≤ n → IsArea sequence (take n bytes) records
part_area sequence bytes records n area long =
    let k = n - end_of_records header_len records in
    record {
      fit = area.fit;
      rest = take k area.rest;
      stands = ap (λ (l : List ℕ). take n l) area.stands ∙ take_over (area_of sequence records) area.rest n k (omega (arith, long, length-area_of sequence records));
      no_more = λ it fits at. area.no_more it fits (record {
        ends = at.ends;
        rest = at.rest ++ drop k area.rest;
        stands = sym (take-append-drop k area.rest) ∙ ap (λ (l : List ℕ). l ++ drop k area.rest) at.stands
            ∙ append_assoc (frame_of (area_crc sequence records) (end_of_records header_len records) (record_event it)) at.rest (drop k area.rest);
      });
    }

-- what is left of it where it is cut behind its records
pub cut_area : (sequence : ℕ) (bytes : List ℕ) (records : List Record) (n : ℕ) → IsArea sequence bytes records → n ≡ end_of_records header_len records → take n bytes ≡ area_of sequence records
cut_area sequence bytes records n area is =
    ap (λ (l : List ℕ). take n l) area.stands ∙ take_at (area_of sequence records) area.rest n (omega (arith, is, length-area_of sequence records))

-- an area without records
pub empty_area : (sequence : ℕ) → IsArea sequence (area_header sequence 1) []
empty_area sequence = record {
  fit = tt;
  rest = [];
  stands = sym (area_of-nil sequence) ∙ sym (append-nil (area_of sequence []));
  no_more = λ it fits at. nothing it at;
}
  where
    nothing : (it : Record) → IsFrameAt (area_crc sequence []) header_len [] (record_event it) → ⊥
    nothing it at = absurd (omega (arith, ap length at.stands, length-append (frame_of (area_crc sequence []) header_len (record_event it)) at.rest, length-frame_of (area_crc sequence []) header_len (record_event it)))

-- A faithful image.

-- events that are a first part of those of records are those of a first part of them
some_of : (records : List Record) (events : List Event) → IsPrefix events (record_events records) → (some : List Record) × IsPrefix some records × (events ≡ record_events some)
some_of records [] is = ([], prefix_nil records, refl)
some_of [] (e ∷ es) is = let no = is.1 in cc
some_of (x ∷ xs) (e ∷ es) is =
    let both = is.1 in
    let first : record_event x ≡ e = cc in
    let others : record_events xs ≡ es ++ is.0 = cc in
    let more = some_of xs es (is.0, others) in (
      x ∷ more.0,
      (more.1.0, ap (λ (l : List Record). x ∷ l) more.1.1),
      ap (λ (a : Event). a ∷ es) (sym first) ∙ ap (λ (l : List Event). record_event x ∷ l) more.2,
    )

-- of two first parts of a list the one with no more events is a first part of the other
front_of : (low some all : List Record) → IsPrefix low all → IsPrefix some all → IsPrefix (record_events low) (record_events some) → IsPrefix low some
front_of low some all low_all some_all front = ⊎_elim (λ is. is) (λ is. longer is.0 is.1) (prefixes_meet low some all low_all some_all)
  where
    longer : (more : List Record) → low ≡ some ++ more → IsPrefix low some
    longer [] is = ([], sym (append-nil some) ∙ sym is ∙ sym (append-nil low))
    longer (x ∷ xs) is = absurd (omega (arith, ap length is, length-append some (x ∷ xs), ap length front.1, length-append (record_events low) front.0, length-events low, length-events some))

-- what a faithful image of an open area has: some of its records, and all of the first ones
pub record Between (sequence : ℕ) (low high : List Record) (image : List ℕ) : Type 0 where
  pub records : List Record
  pub opened : open_sequence image ≡ Some sequence
  pub area : IsArea sequence image records
  pub at_least : IsPrefix low records
  pub at_most : IsPrefix records high

held_area : (sequence : ℕ) (low high : List Record) (image : List ℕ) → sequence < 2 ^ 64 → AllFit header_len start high → IsPrefix low high
    → HoldsFrames (area_header sequence 1) (area_checksum sequence) (record_events low) (record_events high) image → Between sequence low high image
held_area sequence low high image small fit low_high held =
    let found = some_of high held.events held.at_most in
    let stands : image ≡ area_of sequence found.0 ++ held.rest = held.stands ∙ ap (λ (l : List Event). framed (area_header sequence 1) (area_checksum sequence) l ++ held.rest) found.2 in
    record {
      records = found.0;
      opened = ap (λ (l : List ℕ). open_sequence l) stands ∙ area_opened sequence found.0 held.rest small;
      area = record {
        fit = fit-front header_len start found.0 found.1.0 (subst (λ (l : List Record). AllFit header_len start l) found.1.1 fit);
        rest = held.rest;
        stands = stands;
        no_more = λ it fits at. held.no_more (record_event it) (subst (λ (l : List Event). IsFrameAt (last_checksum (area_checksum sequence) header_len l) (end_of header_len l) held.rest (record_event it)) (sym found.2)
            (subst (λ (n : ℕ). IsFrameAt (area_crc sequence found.0) n held.rest (record_event it)) (ends_are header_len found.0) at));
      };
      at_least = front_of low found.0 high low_high found.1 (held.at_least.0, sym found.2 ∙ held.at_least.1);
      at_most = found.1;
    }

-- A faithful image of an open area has all records that were synced, and of the others a first part.
pub area_held : (file : File) (sequence : ℕ) (low high : List Record) → sequence < 2 ^ 64 → AllFit header_len start high → IsPrefix low high
    → file.synced ≡ area_of sequence low → OnlyGrew file.synced file.steps (area_of sequence high) → (image : List ℕ) → IsFaithfulImage file image → Between sequence low high image
area_held file sequence low high small fit low_high synced grew image is =
    let events : IsPrefix (record_events low) (record_events high) = (record_events low_high.0, ap (λ (l : List Record). record_events l) low_high.1 ∙ map-append record_event low low_high.0) in
    let header : IsAreaHeader (area_header sequence 1) (area_checksum sequence) = record { sequence = sequence; gate = 1; small = small; is = refl; sum = refl } in
    held_area sequence low high image small fit low_high
    (frames_held IsAreaHeader file (area_header sequence 1) (area_checksum sequence) (record_events low) (record_events high) header (length-area_header sequence 1) (events_within high fit) events synced grew image is.0 is.1)

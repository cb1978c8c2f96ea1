-- Frames written one after the other.
use Rattle.std.proofs.Common.{◌≡◌, ℕ, ◌+◌, List, [], ◌∷◌, ◌++◌, length, Result, Ok, Err, refl, sym, ap, ◌∙◌, append_assoc, arith, subst, suc, ◌<◌, Option, get_or, drop, drop-cons, add-one}
use Rattle.std.specs.Prelude.{IsErr}
use Rattle.std.proofs.lemmas.List.{append-nil}
use Rattle.std.specs.declared.alloc.AllocError.{AllocError}
use Rattle.frame_codec.specs.Bytes.{le32}
use Rattle.frame_codec.specs.Crc.{crc_of}
use Rattle.frame_codec.specs.Frame.{Event, frame_of}
use Rattle.frame_codec.specs.Header.{head_of}
use Rattle.frame_codec.proofs.LayoutLemmas.{front_put, checksum_put, frame_put}
use Rattle.frame_codec.specs.Chain.{chain_of, end_of, last_checksum, EndsWithin}
use Rattle.frame_codec.proofs.ChainLemmas.{chain_of-nil, chain_of-cons, chain_of-append, end_of-append, last_checksum-append, end_of-le}
use Rattle.framed_file.specs.Framed.{IsPrefix}
use Rattle.binlog_events.specs.declared.events.End.{End}
use Rattle.row_format.specs.declared.change.TableMap.{TableMap}
use Rattle.row_format.specs.declared.change.Change.{Change}
use Rattle.row_format.specs.Changes.{AreFitChanges}
use Rattle.binlog_events.specs.Changes.{map_events, change_event, map_of, change_events}
use Rattle.binlog_events.specs.Frames.{Chains}

-- one frame is a chain
pub chain_of_one : (prev at : ℕ) (event : Event) → chain_of prev at (event ∷ []) ≡ frame_of prev at event
chain_of_one prev at event =
    chain_of-cons prev at event [] ∙ ap (λ (l : List ℕ). frame_of prev at event ++ l) (chain_of-nil _ _) ∙ append-nil (frame_of prev at event)

-- an event's frame that was begun, given its body and ended is a chain
pub chains_closed : (start : End) (from len sum : ℕ) (event : Event) (old begun filled new : List ℕ) → from ≡ length old → len ≡ length event.body
    → begun ≡ old ++ head_of start.at event.kind len → filled ≡ begun ++ event.body
    → new ≡ filled ++ le32 (crc_of start.crc (drop from filled)) → sum ≡ crc_of start.crc (drop from filled)
    → Chains (Ok (record { at = start.at + 23 + len; crc = sum })) start old new (event ∷ [])
chains_closed start from len sum event old begun filled new at_end long is_begun is_filled is_new is_sum =
    let front = front_put start.at len event old begun filled long is_begun is_filled in (
      frame_put start.crc start.at from event old filled new at_end front is_new ∙ ap (λ (l : List ℕ). old ++ l) (sym (chain_of_one start.crc start.at event)),
      omega (arith, long),
      is_sum ∙ checksum_put start.crc start.at from event old filled at_end front,
    )

-- the ends of frames, and of more behind them
pub ends_front : (at : ℕ) (xs ys : List Event) → EndsWithin at (xs ++ ys) → EndsWithin at xs
ends_front at xs ys ends = omega (arith, end_of-append at xs ys, end_of-le (end_of at xs) ys, ends)

pub ends_back : (at end : ℕ) (xs ys : List Event) → end ≡ end_of at xs → EndsWithin at (xs ++ ys) → EndsWithin end ys
ends_back at end xs ys is ends = omega (arith, end_of-append at xs ys, ends, ap (λ (n : ℕ). end_of n ys) is)

-- some frames, and then others behind them
pub chains_then : (r : Result End AllocError) (start mid : End) (old now new : List ℕ) (xs ys : List Event) → Chains (Ok mid) start old now xs → Chains r mid now new ys → Chains r start old new (xs ++ ys)
chains_then (Ok end) start mid old now new xs ys first second = (
  second.0 ∙ ap (λ (l : List ℕ). l ++ chain_of mid.crc mid.at ys) first.0 ∙ append_assoc old (chain_of start.crc start.at xs) (chain_of mid.crc mid.at ys)
      ∙ ap (λ (n : ℕ). old ++ (chain_of start.crc start.at xs ++ chain_of mid.crc n ys)) first.1
      ∙ ap (λ (n : ℕ). old ++ (chain_of start.crc start.at xs ++ chain_of n (end_of start.at xs) ys)) first.2
      ∙ ap (λ (l : List ℕ). old ++ l) (sym (chain_of-append start.crc start.at xs ys)),
  second.1 ∙ ap (λ (n : ℕ). end_of n ys) first.1 ∙ sym (end_of-append start.at xs ys),
  second.2 ∙ ap (λ (n : ℕ). last_checksum mid.crc n ys) first.1 ∙ ap (λ (n : ℕ). last_checksum n (end_of start.at xs) ys) first.2 ∙ sym (last_checksum-append start.crc start.at xs ys),
)
chains_then (Err e) start mid old now new xs ys first second =
    (chain_of start.crc start.at xs ++ second.0, second.1 ∙ ap (λ (l : List ℕ). l ++ second.0) first.0 ∙ append_assoc old (chain_of start.crc start.at xs) second.0)

-- a writer that stops behind some frames leaves what was there in front
pub chains_stop : (r : Result End AllocError) (start mid : End) (old now new : List ℕ) (xs all : List Event) → IsErr r → Chains (Ok mid) start old now xs → IsPrefix now new → Chains r start old new all
chains_stop (Ok end) start mid old now new xs all is_err first prefix = absurd cc
chains_stop (Err e) start mid old now new xs all is_err first prefix =
    (chain_of start.crc start.at xs ++ prefix.0, prefix.1 ∙ ap (λ (l : List ℕ). l ++ prefix.0) first.0 ∙ append_assoc old (chain_of start.crc start.at xs) prefix.0)

-- no frames
pub chains_none : (start : End) (old : List ℕ) → Chains (Ok start) start old old []
chains_none start old = (sym (ap (λ (l : List ℕ). old ++ l) (chain_of-nil start.crc start.at) ∙ append-nil old), refl, refl)

-- the events of the changes that are left: those of the first of them, and the others
pub changes_split : (before : Option TableMap) (changes : List Change) (i : ℕ) (change : Change) → i < length changes → change ≡ get_or changes i change
    → change_events before (drop i changes) ≡ (map_events before change ++ change_event change ∷ []) ++ change_events (map_of change) (drop (i + 1) changes)
changes_split before changes i change within at =
    ap (change_events before) (drop-cons changes i change within ∙ ap (λ (x : Change). x ∷ drop (suc i) changes) (sym at) ∙ ap (λ (n : ℕ). change ∷ drop n changes) (sym (add-one i)))
    ∙ sym (append_assoc (map_events before change) (change_event change ∷ []) (change_events (map_of change) (drop (i + 1) changes)))

-- the changes behind the first one that is left fit too
pub fit_rest : (changes : List Change) (i : ℕ) (change : Change) → i < length changes → change ≡ get_or changes i change → AreFitChanges (drop i changes) → AreFitChanges (drop (i + 1) changes)
fit_rest changes i change within at fit =
    (subst AreFitChanges (drop-cons changes i change within ∙ ap (λ (n : ℕ). get_or changes i change ∷ drop n changes) (sym (add-one i))) fit).1

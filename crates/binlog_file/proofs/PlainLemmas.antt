-- The plain reading: the list so far stands at the front.
use Rattle.std.proofs.Common.{◌≡◌, ◌==◌, ℕ, Bool, true, false, Option, Some, None, IfNone, ◌+◌, ◌≤◌, List, [], ◌∷◌, ◌++◌, length, drop, refl, sym, ◌∙◌, ap, subst, arith, append_assoc, length-append}
use Rattle.std.proofs.lemmas.List.{append-nil, drop_at}
use Rattle.std.proofs.lemmas.Bool.{false≢true}
use Rattle.std.proofs.lemmas.Bool.Decides.{Decides-eqb}
use Rattle.std.proofs.lemmas.Slice.Eq.{starts_is}
use Rattle.std.specs.List.{starts_with}
use Rattle.frame_codec.specs.Frame.{Event, limit}
use Rattle.frame_codec.specs.Chain.{chain_of, end_of, last_checksum}
use Rattle.frame_codec.proofs.ChainLemmas.{chain_of-nil, length-chain_of}
use Rattle.framed_file.specs.Framed.{IsPrefix, header_len}
use Rattle.binlog_events.specs.declared.events.Found.{Found}
use Rattle.row_format.specs.declared.change.Transaction.{Transaction}
use Rattle.binlog_events.specs.Transaction.{events_of}
use Rattle.binlog_file.specs.Logged.{header_checksum, log_header, all_events, log_end, log_checksum, log_of, AreFit, Headed}
use Rattle.binlog_events.specs.Found.{Finds, NoTransactionAt}
use Rattle.binlog_file.proofs.LoggedLemmas.{length-log_header, log_header_is, header_bytes, all_events_one, AreFit-append}
use Rattle.binlog_file.proofs.CallLemmas.{log_of-append, log_end-append, log_checksum-append}

-- the list that was read so far, and what is behind it
pub record Listing (list : List Transaction) (at crc : ℕ) (bytes rest : List ℕ) : Type 0 where
  pub fit : AreFit list
  pub ends : at ≤ limit
  pub place : at ≡ log_end list
  pub sum : crc ≡ log_checksum list
  pub stands : bytes ≡ log_of list ++ rest

pub listing_first : (list : List Transaction) (at crc : ℕ) (bytes rest : List ℕ) → list ≡ [] → IsPrefix log_header bytes → at ≡ 32 → crc ≡ header_checksum → rest ≡ drop 32 bytes → Listing list at crc bytes rest
listing_first list at crc bytes rest empty headed at_is crc_is is = subst (λ (l : List Transaction). Listing l at crc bytes rest) (sym empty) (record {
  fit = tt;
  ends = omega arith;
  place = at_is;
  sum = crc_is;
  stands = headed.1 ∙ ap (λ (l : List ℕ). log_header ++ l) (sym (is ∙ ap (drop 32) headed.1 ∙ drop_at log_header headed.0 32 length-log_header))
      ∙ ap (λ (l : List ℕ). l ++ rest) (sym (ap (λ (l : List ℕ). log_header ++ l) (chain_of-nil header_checksum header_len) ∙ append-nil log_header));
})

pub listing_more : (list : List Transaction) (list' : List Transaction) (at crc at' crc' : ℕ) (bytes rest rest' : List ℕ) (found : Found) → Listing list at crc bytes rest → Finds crc at rest found
    → list' ≡ list ++ found.txn ∷ [] → at' ≡ at + found.len → crc' ≡ found.crc → rest' ≡ drop found.len rest → Listing list' at' crc' bytes rest'
listing_more list list' at crc at' crc' bytes rest rest' found so finds pushed at_is crc_is is =
    let one = found.txn in
    let chain = chain_of crc at (events_of one) in
    let end_is : log_end (list ++ one ∷ []) ≡ end_of at (events_of one) =
    log_end-append list (one ∷ []) ∙ ap (λ (n : ℕ). end_of n (all_events (one ∷ []))) (sym so.place) ∙ ap (λ (l : List Event). end_of at l) (all_events_one one) in
    let sum_is : log_checksum (list ++ one ∷ []) ≡ last_checksum crc at (events_of one) =
    log_checksum-append list (one ∷ []) ∙ ap (λ (l : List Event). last_checksum (log_checksum list) (log_end list) l) (all_events_one one)
    ∙ ap (λ (n : ℕ). last_checksum (log_checksum list) n (events_of one)) (sym so.place) ∙ ap (λ (c : ℕ). last_checksum c at (events_of one)) (sym so.sum) in
    let parted : rest' ≡ finds.here.rest =
    is ∙ ap (λ (l : List ℕ). drop found.len l) finds.here.stands ∙ drop_at chain finds.here.rest found.len (omega (arith, finds.len, length-chain_of crc at (events_of one))) in
    let behind : rest ≡ chain_of (log_checksum list) (log_end list) (all_events (one ∷ [])) ++ rest' =
    finds.here.stands ∙ ap (λ (l : List ℕ). chain ++ l) (sym parted)
    ∙ ap (λ (c : ℕ). chain_of c at (events_of one) ++ rest') so.sum ∙ ap (λ (n : ℕ). chain_of (log_checksum list) n (events_of one) ++ rest') so.place
    ∙ ap (λ (l : List Event). chain_of (log_checksum list) (log_end list) l ++ rest') (sym (all_events_one one)) in
    let more : Listing (list ++ one ∷ []) at' crc' bytes rest' = record {
      fit = AreFit-append list (one ∷ []) so.fit (finds.here.fit, tt);
      ends = omega (arith, at_is, finds.len, finds.here.ends);
      place = omega (arith, at_is, finds.len, end_is);
      sum = crc_is ∙ finds.crc ∙ sym sum_is;
      stands = so.stands ∙ ap (λ (l : List ℕ). log_of list ++ l) behind
          ∙ sym (append_assoc (log_of list) (chain_of (log_checksum list) (log_end list) (all_events (one ∷ []))) rest')
          ∙ ap (λ (l : List ℕ). l ++ rest') (sym (log_of-append list (one ∷ [])));
    } in
    subst (λ (l : List Transaction). Listing l at' crc' bytes rest') (sym pushed) more

pub listing_end : (list : List Transaction) (at crc : ℕ) (bytes rest : List ℕ) → Listing list at crc bytes rest → NoTransactionAt crc at rest → Headed bytes list
listing_end list at crc bytes rest so none = record {
  fit = so.fit;
  ends = omega (arith, so.place, so.ends);
  rest = rest;
  stands = so.stands;
  no_more = subst (λ (n : ℕ). NoTransactionAt (log_checksum list) n rest) so.place (subst (λ (c : ℕ). NoTransactionAt c at rest) so.sum none);
}

-- a header has 32 bytes
pub header_long : (bytes : List ℕ) → IsPrefix log_header bytes → 32 ≤ length bytes
header_long bytes headed = omega (arith, ap length headed.1, length-append log_header headed.0, length-log_header)

-- an option that is never some value is none
pub never_some : {A : Type 0} (o : Option A) (P : Type 0) → ((v : A) → o ≡ Some v → ⊥) → IfNone o P → P
never_some None P never if_none = if_none
never_some (Some v) P never if_none = absurd (never v refl)

-- a test whether bytes begin with the header's
pub with_header : (bytes : List ℕ) (r : Bool) → r ≡ starts_with ◌==◌ bytes header_bytes → r ≡ true → IsPrefix log_header bytes
with_header bytes r is begins = (drop 32 bytes, (starts_is Decides-eqb bytes header_bytes r is).0 begins ∙ ap (λ (l : List ℕ). l ++ drop 32 bytes) (sym log_header_is))

pub without_header : (bytes : List ℕ) (r : Bool) → r ≡ starts_with ◌==◌ bytes header_bytes → r ≡ false → IsPrefix log_header bytes → ⊥
without_header bytes r is other headed =
    let begins = (starts_is Decides-eqb bytes header_bytes r is).1 headed.0 (headed.1 ∙ ap (λ (l : List ℕ). l ++ headed.0) log_header_is) in
    false≢true (sym other ∙ begins)

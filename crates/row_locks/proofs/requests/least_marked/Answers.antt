use Rattle.std.proofs.Common.{◌≡◌, ◌∙◌, ◌+◌, ◌<◌, ℕ, [], ◌∷◌, Option, Some, Bool, true, get_or, length, drop, filter, sym, ap, arith}
use Rattle.std.proofs.lemmas.List.{get_or_read, get_or_default}
use Rattle.row_locks.specs.declared.lock.Request.{Request}
use Rattle.row_locks.specs.Modes.{are_in_conflict}
use Rattle.row_locks.specs.Queues.{among, in_way}
use Rattle.row_locks.specs.Inside.{least_of}
use Rattle.row_locks.proofs.RequestLemmas.{marked_at, least_hit, least_miss, least_unmarked}
use Rattle.row_locks.proofs.requests.least_marked.Goals as goal
use Rattle.row_locks.proofs.requests.least_marked.Goals.{then-marked-k+then-conflicts, else-marked-k, else-marked-k-via-then-marked-k+else-conflicts, else-marked-k-via-else-marked-k}

pub loop-k-preserved : goal.loop-k-preserved
loop-k-preserved c = λ reached told.
    let before = c.args.before.now in
    let it = c.args.it.now in
    let k = c.loop-k.k in
    let lt : k < length before = omega arith in
    let next = λ (o : Option ℕ). least_of o (filter (λ a. among a reached) (in_way (drop (k + 1) before) it)) in
    let mark : (b : Bool) → get_or c.args.marked.now k b ≡ among (get_or before k it).owner reached = λ b. ap (λ l. get_or l k b) told ∙ marked_at reached before k it b lt in
    elim c.if-marked-k.branch [
      | then-marked-k+then-conflicts w ↦
          let at = get_or_read before k w.index-before-k.result lt w.index-before-k.is it in
          let hit : are_in_conflict (get_or before k it) it ≡ true = ap (λ (r : Request). are_in_conflict r it) (sym at) ∙ sym w.conflicts.ensures ∙ w.if-conflicts.true in
          let same = get_or_default before k it w.index-before-k-then-conflicts.result lt in
          let least : least_of c.loop-k.best ((get_or before k it).owner ∷ []) ≡ Some w.lesser.result =
          ap (λ (r : Request). least_of c.loop-k.best (r.owner ∷ [])) same ∙ w.lesser.ensures in
          ap next w.best-is ∙ least_hit reached before it k it c.loop-k.best w.lesser.result lt (sym (mark _) ∙ w.if-marked-k.true) hit least ∙ c.loop-k.invariant reached told
      | else-marked-k w ↦ ap next w.best-is ∙ elim w.else-marked-k.branch [
        | else-marked-k-via-then-marked-k+else-conflicts v ↦
            let at = get_or_read before k v.index-before-k.result lt v.index-before-k.is it in
            least_miss reached before it k it c.loop-k.best lt (ap (λ (r : Request). are_in_conflict r it) (sym at) ∙ sym v.conflicts.ensures ∙ v.if-conflicts.false)
        | else-marked-k-via-else-marked-k v ↦ least_unmarked reached before it k it c.loop-k.best lt (sym (mark _) ∙ v.if-marked-k.false)
      ] ∙ c.loop-k.invariant reached told
    ]

-- An engine is the same through each call.
use Rattle.std.proofs.Common.{◌≡◌, refl, sym, ◌∙◌, subst}
use Rattle.engine_api.proofs.ManyLemmas.{same_reading, same_itself}
use Rattle.volume_rules.specs.Readers.{Reader}
use Rattle.plugd.specs.Coordinator.{SameReader}

-- it is the same as itself
pub is_same : (r : Reader) → SameReader r r
is_same r = record { kind = refl; reading = same_itself r.reading }

-- over two calls
pub stays_same : (a b c : Reader) → SameReader a b → SameReader b c → SameReader a c
stays_same a b c first then = record { kind = then.kind ∙ first.kind; reading = same_reading a.reading b.reading c.reading first.reading then.reading }

-- over a call, and one that leaves the core as it is
pub flushed_same : {C : Type 0} (reads : C → Reader) (old mid new : C) → SameReader (reads old) (reads mid) → new ≡ mid → SameReader (reads old) (reads new)
flushed_same {C} reads old mid new same is = subst (λ (c : C). SameReader (reads old) (reads c)) (sym is) same

-- over the beginning of a session
pub begun_same : {C S : Type 0} (reads : C → Reader) (core_of : S → C) (first : Reader) (core : C) (old new : S) → SameReader first (reads core) → core_of old ≡ core → SameReader (reads (core_of old)) (reads (core_of new)) → SameReader first (reads (core_of new))
begun_same {C} reads core_of first core old new begun is same = stays_same first (reads (core_of old)) (reads (core_of new)) (subst (λ (c : C). SameReader first (reads c)) (sym is) begun) same

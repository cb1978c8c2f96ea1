use Rattle.std.proofs.Common.{[], ◌∷◌}
use Rattle.volume_rules.proofs.ImageLemmas.{stands_recoverable}
use Rattle.volume_rules.proofs.laws.each_is_recoverable.Goals as goal

pub returns : goal.returns
returns g c = λ shelf low high kept files is. stands_recoverable shelf _ low high (kept ∷ []) files is

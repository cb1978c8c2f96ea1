use Rattle.std.proofs.Common.{[], ◌∷◌}
use Rattle.volume_rules.proofs.ImageLemmas.{rests_recovered}
use Rattle.volume_rules.proofs.laws.each_is_recovered.Goals as goal

pub returns : goal.returns
returns g c = λ shelf log gist files is. rests_recovered shelf _ log (gist ∷ []) files is

use Rattle.std.proofs.Common.{◌≡◌, length}
use Rattle.sql_text.specs.Keywords.{keyword_in}
use Rattle.sql_text.proofs.keyword.keyword_in.Given as goal

abbrev pub invariant-loop-keywords : goal.invariant-loop-keywords
invariant-loop-keywords l = keyword_in l.keywords l.word ≡ keyword_in l.initial.keywords l.word

abbrev pub decreases-loop-keywords : goal.decreases-loop-keywords
decreases-loop-keywords l = length l.keywords

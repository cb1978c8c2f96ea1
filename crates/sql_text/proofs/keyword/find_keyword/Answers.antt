use Rattle.std.proofs.Common.{rules}
use Rattle.sql_text.specs.Keywords.{keyword_of}
use Rattle.sql_text.proofs.keyword.find_keyword.Goals as goal

pub returns : goal.returns
unfolding keyword_of
returns c = search rules

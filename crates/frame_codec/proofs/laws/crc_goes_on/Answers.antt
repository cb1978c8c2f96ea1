-- What is taken off at the end is put on again at the start.
use Rattle.frame_codec.proofs.CrcLemmas.{crc_of-append}
use Rattle.frame_codec.proofs.laws.crc_goes_on.Goals as goal

pub returns : goal.returns
returns c = crc_of-append

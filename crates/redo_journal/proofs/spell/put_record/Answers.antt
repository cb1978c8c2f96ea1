use Rattle.framed_file.specs.Framed.{header_len}
use Rattle.redo_journal.proofs.SoundLemmas.{spellable}
use Rattle.redo_journal.proofs.spell.put_record.Goals as goal

pub body_of-requires : goal.body_of-requires
body_of-requires c = spellable header_len c.requires.fits.0 c.args.at c.args.entry.now c.requires.fits.1 c.requires.fits.2

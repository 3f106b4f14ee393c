use Rattle.text.proofs.TextLaws.{one_reading, one_spelling}
use Rattle.text.proofs.texts.one_reading.Goals as goal

pub returns : goal.returns
returns c = record { reading = one_reading; spelling = one_spelling }

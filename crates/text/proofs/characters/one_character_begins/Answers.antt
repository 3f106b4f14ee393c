use Rattle.text.proofs.EncodingLaws.{one_begins}
use Rattle.text.proofs.characters.one_character_begins.Goals as goal

pub returns : goal.returns
returns c = one_begins

use Rattle.text.proofs.Agreement.{agrees}
use Rattle.text.proofs.characters.library_agrees.Goals as goal

pub returns : goal.returns
returns c = agrees

use Rattle.weigh.proofs.StreamLaws.{one_stream}
use Rattle.weigh.proofs.weigher.one_stream.Goals as goal

pub returns : goal.returns
returns c = one_stream

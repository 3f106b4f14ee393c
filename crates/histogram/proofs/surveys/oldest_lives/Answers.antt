use Rattle.std.proofs.Common.{option_copied, rules}
use Rattle.histogram.proofs.SurveyLaws.{lives_get}
use Rattle.histogram.proofs.surveys.oldest_lives.Goals as goal

pub returns : goal.returns
returns c = record {
  value = lives_get c.args.window.ticks c.args.window.at c.args.buckets.now (option_copied c.last.result) c.is_none_or.result
      c.last.ensures.value (search rules);
}

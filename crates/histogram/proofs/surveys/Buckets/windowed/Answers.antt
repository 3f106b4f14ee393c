use Rattle.std.proofs.Common.{◌≡◌, ℕ, List, length, take, refl, option_copied, ap, ◌∙◌, arith, rules}
use Rattle.histogram.proofs.SurveyLaws.{front_within, oldest_get, parted, total-sum}
use Rattle.histogram.specs.Surveys.{holds, told}
use Rattle.std.proofs.lemmas.List.Sorted.{IsPartitionPoint-from_clause}
use Rattle.std.proofs.lemmas.List.Sums.{sum_by-take-drop}
use Rattle.theory.specs.Buckets.{oldest, size, total, within}
use Rattle.theory.specs.declared.entries.Entry.{Entry}
use Rattle.histogram.proofs.surveys.Buckets.windowed.Goals as goal

told_is : (n s o : ℕ) (bs : List Entry) → n ≡ length bs → s ≡ total bs → o ≡ oldest 0 bs
    → record { buckets = n; sizes = s; oldest = o } ≡ told bs
told_is n s o bs p q r = rw (p, q, r) refl

pub sizes-requires : goal.sizes-requires
sizes-requires c =
    rw c.split_at.ensures.back
    (omega (arith, total-sum c.args.self.now.entries.now, sum_by-take-drop size c.args.self.now.entries.now c.partition_point-kept.result))

pub overflow_sub-result : goal.overflow_sub-result
overflow_sub-result c =
    let lost = rw c.split_at.ensures.back at c.sizes.ensures.value in
    omega (arith, lost, total-sum c.args.self.now.entries.now, sum_by-take-drop size c.args.self.now.entries.now c.partition_point-kept.result)

pub returns : goal.returns
returns c =
    let bs = c.args.self.now.entries.now in
    let w = c.args.window in
    let n = c.partition_point-kept.result in
    let point = IsPartitionPoint-from_clause (λ b. holds w b.stamp) _ _ c.partition_point-kept.ensures.partitioned (parted w bs c.requires.falling)
    (λ a r q k. search rules) in
    let front : c.split_at.result.0.now ≡ within w.ticks w.at bs = c.split_at.ensures.front
    ∙ front_within w bs n c.partition_point-kept.ensures.bound point.0 point.1 in
    let lost = rw c.split_at.ensures.back at c.sizes.ensures.value in
    let old : c.map_or.result ≡ oldest 0 c.split_at.result.0.now =
    oldest_get 0 c.split_at.result.0.now (option_copied c.last.result) c.map_or.result c.last.ensures.value (search rules) in
    record {
      value = told_is _ _ _ c.split_at.result.0.now refl
          (rw c.split_at.ensures.front (omega (arith, lost, total-sum bs, total-sum (take n bs), sum_by-take-drop size bs n))) old
          ∙ ap told front;
    }

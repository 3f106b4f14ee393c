use Rattle.std.proofs.Common.{rules, ℕ, List, [], ◌∷◌, ◌++◌, length, get_or, arith, append_assoc, sym, ap, ◌∙◌}
use Rattle.std.specs.Slice.Iter.{chunks_rest}
use Rattle.histogram.proofs.LaidLaws.{newer_pair}
use Rattle.std.proofs.lemmas.List.{length-append}
use Rattle.theory.specs.Levels.{newer}
use Rattle.histogram.proofs.inserting.gather_newer.Goals as goal

pub push-requires : goal.push-requires
push-requires c =
    let s = c.in-Some.ensures.steps in
    let before = chunks_rest c.loop-pair.pair-iterator in
    let pair = newer_pair before c.in-Some.pair.now (chunks_rest c.next.new.self) _ c.loop-pair.invariant.pairs s.1.0 s.1.1 s.1.2 in (
      omega arith,
      omega (
        arith,
        ap length pair,
        ap length c.loop-pair.invariant.so_far,
        length-append c.loop-pair.held.items (newer before),
        length-append c.args.held.now.items (newer c.args.olds.now),
        c.requires.room,
      ),
    )

pub loop-pair-preserved : goal.loop-pair-preserved
loop-pair-preserved c =
    let s = c.in-Some.ensures.steps in
    let held = c.loop-pair.held.items in
    let pair = c.in-Some.pair.now in
    let after = chunks_rest c.next.new.self in
    record {
      can_next = search rules;
      is_finite = search rules;
      pairs = search rules;
      so_far = ap (λ (z : List ℕ). z ++ newer after) c.push.ensures.items ∙ append_assoc held (get_or pair 0 0 ∷ []) (newer after)
          ∙ ap (λ (z : List ℕ). held ++ z)
          (sym (newer_pair (chunks_rest c.loop-pair.pair-iterator) pair after _ c.loop-pair.invariant.pairs s.1.0 s.1.1 s.1.2))
          ∙ c.loop-pair.invariant.so_far;
    }

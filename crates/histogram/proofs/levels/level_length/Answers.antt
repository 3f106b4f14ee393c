use Rattle.std.proofs.Common.{◌≡◌, ℕ, ◌+◌, true, List, get_or, take, drop, Some, ap, ◌∙◌, inl, inr, arith}
use Rattle.histogram.proofs.TailLaws.{last_stamp, level_end_none, level_end_some, level_more, tail_front, tail_rises}
use Rattle.histogram.specs.Tails.{level_end, levelled}
use Rattle.std.proofs.lemmas.List.{get_or-drop}
use Rattle.theory.specs.Sound.{zero_entry}
use Rattle.theory.specs.declared.entries.Entry.{Entry}
use Rattle.histogram.proofs.levels.level_length.Goals as goal

-- the buckets before a place, and the one there
front : (e s t n : ℕ) (rest level : List Entry) → level ≡ take n rest → Some t ≡ level_end e s level
    → (levelled e s (take n rest) ≡ true) × (last_stamp s (take n rest) ≡ t)
front e s t n rest level q h = level_end_some e s t (take n rest) (h ∙ ap (level_end e s) q)

next_is : (n : ℕ) (rest older : List Entry) → older ≡ drop n rest → get_or older 0 zero_entry ≡ get_or rest n zero_entry
next_is n rest older q =
    let z : n + 0 ≡ n = omega arith in
    ap (λ (xs : List Entry). get_or xs 0 zero_entry) q ∙ get_or-drop n rest 0 zero_entry ∙ ap (λ (k : ℕ). get_or rest k zero_entry) z

pub returns-in_err-before : goal.returns-in_err-before
returns-in_err-before c = rw c.from_residual.ensures (record {
  value = λ r t. level_end_none c.args.e c.args.last (take c.min-sure.result c.args.rest.now)
      (c.in_err-before.ensures.value ∙ ap (level_end c.args.e c.args.last) c.split_at.ensures.front)
      (tail_front c.args.settings.now.half r c.args.e c.args.last c.args.rest.now t c.min-sure.result (omega arith) (omega arith));
})

pub returns-in_default : goal.returns-in_default
returns-in_default c = record {
  value = record {
    level = (front c.args.e c.args.last c.in_ok-before.before c.min-sure.result c.args.rest.now c.split_at.result.0.now
        c.split_at.ensures.front c.in_ok-before.ensures.value).0;
    some = omega arith;
    few = omega arith;
    inside = omega arith;
    filled = λ lt. omega (arith, c.split_at.ensures.back_len, lt);
    ends = inr (inl (omega (arith, c.split_at.ensures.back_len)));
  };
}

pub returns-then-next-before : goal.returns-then-next-before
returns-then-next-before c =
    let rest = c.args.rest.now in
    let n = c.min-sure.result in
    let f = front c.args.e c.args.last c.in_ok-before.before n rest c.split_at.result.0.now c.split_at.ensures.front
    c.in_ok-before.ensures.value in
    let up = rw (next_is n rest c.split_at.result.1.now c.split_at.ensures.back) at c.if-next-before.true in
    record {
      value = λ r t. tail_rises c.args.settings.now.half r c.args.e c.args.last n rest zero_entry (omega (arith, c.split_at.ensures.back_len))
          (omega (arith, f.1, up)) t;
    }

pub returns-then-next-e : goal.returns-then-next-e
returns-then-next-e c =
    let rest = c.args.rest.now in
    let n = c.min-sure.result in
    let f = front c.args.e c.args.last c.in_ok-before.before n rest c.split_at.result.0.now c.split_at.ensures.front
    c.in_ok-before.ensures.value in
    let next = next_is n rest c.split_at.result.1.now c.split_at.ensures.back in
    let le = rw next at c.if-next-before.false in
    record {
      value = record {
        level = level_more c.args.e c.args.last n rest zero_entry f.0 (omega (arith, c.split_at.ensures.back_len))
            (rw next at c.if-next-e.true) (omega (arith, f.1, le));
        some = omega arith;
        few = omega arith;
        inside = omega (arith, c.split_at.ensures.back_len);
        filled = λ _. omega arith;
        ends = inl (omega (arith, c.split_at.ensures.back_len));
      };
    }

pub returns-else-next-e : goal.returns-else-next-e
returns-else-next-e c =
    let rest = c.args.rest.now in
    let n = c.min-sure.result in
    record {
      value = record {
        level = (front c.args.e c.args.last c.in_ok-before.before n rest c.split_at.result.0.now c.split_at.ensures.front
            c.in_ok-before.ensures.value).0;
        some = omega arith;
        few = omega arith;
        inside = omega arith;
        filled = λ _. omega (arith, c.split_at.ensures.back_len);
        ends = inr (inr (rw (next_is n rest c.split_at.result.1.now c.split_at.ensures.back) at c.if-next-e.false));
      };
    }

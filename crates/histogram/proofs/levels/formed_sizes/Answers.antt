use Rattle.std.proofs.Common.{◌≡◌, ℕ, ◌+◌, ◌*◌, ◌^◌, ◌<◌, ◌≤◌, Bool, true, false, eqb, List, [], length, take, drop, Option, sym, ap, ◌∙◌, subst, arith}
use Rattle.histogram.proofs.TailLaws.{level-total, summed, tail_after, tail_before, tail_end, tail_over}
use Rattle.histogram.proofs.SurveyLaws.{total-sum}
use Rattle.histogram.specs.Tails.{SizesOf, Tail}
use Rattle.std.proofs.lemmas.List.{length-take-le, nil_from_length, take_rest}
use Rattle.std.proofs.lemmas.Bool.{eqb-false, eqb-true}
use Rattle.std.specs.Bool.{then_some}
use Rattle.std.proofs.lemmas.List.Sums.{sum_by-take-drop}
use Rattle.theory.specs.Buckets.{size, total}
use Rattle.theory.specs.declared.entries.Entry.{Entry}
use Rattle.histogram.proofs.levels.formed_sizes.Goals as goal

-- what is known when no bucket is left, and when no exponent is
module _ (l r e s own sizes : ℕ) (bs rest : List Entry) (onward : Tail l r 0 own bs → Tail l r e s rest)
    (back : Tail l r e s rest → Tail l r 0 own bs) (sum : sizes + total rest ≡ total bs) (below : e ≤ r + 1) where
  whole : eqb (length rest) 0 ≡ true → Tail l r 0 own bs × (sizes ≡ total bs)
  whole h =
      let over : rest ≡ [] = nil_from_length rest (eqb-true (length rest) 0 h) in
      (back (subst (Tail l r e s) (sym over) (tail_end l r e s below)), omega (arith, ap total over, sum))

  over : r < e → (empty : Bool) → empty ≡ eqb (length rest) 0 → (o : Option ℕ) → o ≡ then_some empty sizes → SizesOf l r own bs o
  over h true q o w = subst (SizesOf l r own bs) (sym w) (whole (sym q))
  over h false q o w = subst (SizesOf l r own bs) (sym w) (λ t.
      tail_over l r e s rest (omega (arith, eqb-false (length rest) 0 (sym q))) h (onward t))

pub returns-then-is_empty : goal.returns-then-is_empty
returns-then-is_empty c =
    let s = c.args.settings.now in
    let i = c.loop-e.invariant in
    record {
      value = whole s.half s.top c.loop-e.e c.loop-e.last c.args.own c.loop-e.sizes c.args.buckets.now c.loop-e.rest.now i.onward
          i.back i.sum (omega arith) (sym c.if-is_empty.ensures);
    }

pub overflow_add-sizes : goal.overflow_add-sizes
overflow_add-sizes c =
    let s = c.args.settings.now in
    let v = c.in_ok-n.ensures.value in
    let m = summed s.half c.loop-e.e c.in_ok-n.n c.loop-e.sizes v.few (omega arith) s.few c.loop-e.invariant.bounded in
    omega (arith, m.shifted, m.fits)

pub loop-e-preserved : goal.loop-e-preserved
loop-e-preserved c =
    let s = c.args.settings.now in
    let rest = c.loop-e.rest.now in
    let n = c.in_ok-n.n in
    let v = c.in_ok-n.ensures.value in
    let i = c.loop-e.invariant in
    let m = summed s.half c.loop-e.e n c.loop-e.sizes v.few (omega arith) s.few i.bounded in
    let level = level-total c.loop-e.e c.loop-e.last (take n rest) v.level ∙ ap (λ (x : ℕ). x * 2 ^ c.loop-e.e) (length-take-le n rest v.inside) in
    let sum : total rest ≡ n * 2 ^ c.loop-e.e + total (drop n rest) = omega (
      arith,
      level,
      total-sum rest,
      total-sum (take n rest),
      total-sum (drop n rest),
      sum_by-take-drop size rest n,
    ) in
    rw (m.shifted, take_rest rest n) (record {
      onward = λ t. tail_after s.half s.top c.loop-e.e c.loop-e.last n rest v (i.onward t);
      back = λ t. i.back (tail_before s.half s.top c.loop-e.e c.loop-e.last n rest v t);
      sum = omega (arith, sum, i.sum);
      bounded = m.bounded;
    })

pub returns : goal.returns
returns c =
    let s = c.args.settings.now in
    let i = c.loop-e.invariant in
    record {
      value = over s.half s.top c.loop-e.e c.loop-e.last c.args.own c.loop-e.sizes c.args.buckets.now c.loop-e.rest.now i.onward i.back
          i.sum (omega arith) (omega arith) c.is_empty-2.result c.is_empty-2.ensures c.then_some.result c.then_some.ensures;
    }

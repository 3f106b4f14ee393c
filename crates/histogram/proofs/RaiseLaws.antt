-- One level of the insertion.
use Rattle.std.proofs.Common.{◌≡◌, ℕ, suc, ◌+◌, ◌-◌, ◌*◌, ◌/◌, ◌%◌, ◌<◌, ◌≤◌, min, eqb, List, [], ◌∷◌, ◌++◌, map, length, take, drop, replicate, slice_range, add-one, sym, refl, ap, ◌∙◌, ap₂, subst, arith}
use lib.Seq.{paste}
use borrow.Rule.Slice.PartMut.{put_mid}
use Rattle.histogram.proofs.LaidLaws.{copied, laid-under, length-newer_is}
use Rattle.histogram.specs.Raising.{Ready, incoming, laid, of_size, own_of, raised}
use Rattle.histogram.specs.declared.inserting.Turn.{Turn}
use Rattle.std.proofs.lemmas.List.{drop-drop, length-append, length-drop, length-map, length-replicate, length-take, length-take-le, nil_from_length}
use Rattle.std.proofs.lemmas.Slice.{between_is, between_to_end}
use Rattle.std.proofs.lemmas.Bool.{cond-false, cond-true, eq-eqb, ne_eqb}
use Rattle.theory.proofs.BatchLaws.{batch_level, length_copies, new_level', up_count}
use Rattle.theory.specs.Levels.{Canonical, flat, newer, push_all, row, stay, staying, up_olds, ups}
use Rattle.theory.specs.declared.entries.Entry.{Entry}

abbrev pub head_of : List (List ℕ) → List ℕ
head_of [] = []
head_of (ss ∷ rest) = ss

abbrev pub rest_of : List (List ℕ) → List (List ℕ)
rest_of [] = []
rest_of (ss ∷ rest) = rest

-- the front of a histogram by levels
own_above : (l e : ℕ) (levels : List (List ℕ)) → Canonical l levels → own_of e (flat (suc e) levels) ≡ []
own_above l e [] c = refl
own_above l e ([] ∷ rest) c = absurd (omega arith)
own_above l e ((s ∷ ss) ∷ rest) c =
    cond-false (eqb (suc e) e) (s ∷ own_of e (row (suc e) ss (flat (suc (suc e)) rest))) [] (ne_eqb (suc e) e (λ q. omega arith))

own_row : (e : ℕ) (ss : List ℕ) (older : List Entry) → own_of e older ≡ [] → own_of e (row e ss older) ≡ ss
own_row e [] older h = h
own_row e (s ∷ ss) older h =
    cond-true (eqb e e) (s ∷ own_of e (row e ss older)) [] (eq-eqb e e refl) ∙ ap {B = List ℕ} (λ r. s ∷ r) (own_row e ss older h)

pub own_flat : (l e : ℕ) (levels : List (List ℕ)) → Canonical l levels → own_of e (flat e levels) ≡ head_of levels
own_flat l e [] c = refl
own_flat l e (ss ∷ rest) c = own_row e ss (flat (suc e) rest) (own_above l e rest c.3)

pub drop-row : (e : ℕ) (ss : List ℕ) (older : List Entry) → drop (length ss) (row e ss older) ≡ older
drop-row e [] older = refl
drop-row e (s ∷ ss) older = drop-row e ss older

rest_flat : (e : ℕ) (levels : List (List ℕ)) → drop (length (head_of levels)) (flat e levels) ≡ flat (e + 1) (rest_of levels)
rest_flat e [] = refl
rest_flat e (ss ∷ rest) = drop-row e ss (flat (suc e) rest) ∙ ap (λ (k : ℕ). flat k rest) (sym (add-one e))

pub row-map : (e : ℕ) (ss : List ℕ) (older : List Entry) → row e ss older ≡ map (of_size e) ss ++ older
row-map e [] older = refl
row-map e (s ∷ ss) older = ap {B = List Entry} (λ r. of_size e s ∷ r) (row-map e ss older)

head_inside : (e : ℕ) (levels : List (List ℕ)) → length (head_of levels) ≤ length (flat e levels)
head_inside e [] = omega arith
head_inside e (ss ∷ rest) =
    let older : List Entry = flat (suc e) rest in
    omega (arith, ap length (row-map e ss older), length-append (map (of_size e) ss) older, length-map ss (of_size e))

pub head_few : (l : ℕ) (levels : List (List ℕ)) → Canonical l levels → length (head_of levels) ≤ l + 1
head_few l [] c = omega arith
head_few l (ss ∷ rest) c = c.1

rest_canon : (l : ℕ) (levels : List (List ℕ)) → Canonical l levels → Canonical l (rest_of levels)
rest_canon l [] c = tt
rest_canon l (ss ∷ rest) c = c.3

len_stay : (l m t : ℕ) (olds : List ℕ) → length (stay l m t olds) ≡ staying l (m + length olds)
len_stay l m t olds =
    split (staying l (m + length olds)) (omega arith)
  where
    split : (r : ℕ) → r ≤ m + length olds → length (replicate (min r m) t ++ take (r - m) olds) ≡ r
    split r h = omega (
      arith,
      length-append (replicate (min r m) t) (take (r - m) olds),
      length-replicate (min r m) t,
      length-take-le
          (r - m) olds (omega arith),
    )

-- the new buckets and the held stamps at a level: which stay, and what goes up
pub raise_law : (l t m : ℕ) (olds : List ℕ) (levels : List (List ℕ)) → Canonical l levels → 1 ≤ m + length (newer olds ++ head_of levels)
    → push_all l (incoming m t olds) levels ≡ stay l m t (newer olds ++ head_of levels) ∷ push_all l
    (replicate (ups l m (newer olds ++ head_of levels)) t ++ up_olds l m (newer olds ++ head_of levels)) (rest_of levels)
raise_law l t m olds [] c h =
    new_level' l (replicate m t ++ newer olds) (omega (arith, length_copies m t (newer olds), length-append (newer olds) []))
    ∙ batch_level l m t (newer olds) [] [] (omega arith)
raise_law l t m olds (ss ∷ rest) c h = batch_level l m t (newer olds) ss rest c.1

module _ {turn : Turn} {olds : List ℕ} {xs : List Entry} {levels : List (List ℕ)} (ready : Ready turn olds xs levels) where
  -- the stamps that the level holds, how many buckets stay there, and the stamps of which the newer of each pair goes up
  abbrev pub stamps_at : List ℕ
  stamps_at = newer olds ++ head_of levels

  abbrev pub stay_at : ℕ
  stay_at = staying turn.half (turn.new + length stamps_at)

  abbrev pub go_up : List ℕ
  go_up = drop ((stay_at - turn.new) + (turn.new - stay_at) % 2) stamps_at

  -- the turn of the level above
  abbrev pub next : Turn
  next = record {
    half = turn.half;
    tick = turn.tick;
    end = turn.end;
    exponent = turn.exponent + 1;
    read = turn.read + length (head_of levels);
    write = turn.write + stay_at;
    new = ups turn.half turn.new stamps_at;
  }

  abbrev row_at : List Entry
  row_at = map (of_size turn.exponent) (stay turn.half turn.new turn.tick stamps_at)

  pub its_own : own_of turn.exponent (slice_range xs turn.read turn.end) ≡ head_of levels
  its_own = ap (own_of turn.exponent) ready.whole ∙ own_flat turn.half turn.exponent levels ready.canon

  -- the code has room for what it gathers
  pub own_few : length (own_of turn.exponent (slice_range xs turn.read turn.end)) ≤ turn.half + 1
  own_few = omega (arith, ap length its_own, head_few turn.half levels ready.canon)

  own_inside : length (head_of levels) ≤ turn.end - turn.read
  own_inside = omega (
    arith,
    head_inside turn.exponent levels,
    ap length ready.whole,
    length-take (turn.end - turn.read) (drop turn.read xs),
  )

  pub held_few : length olds ≤ 2 * turn.half + 2 → length stamps_at ≤ 2 * turn.half + 2
  held_few k = omega (arith, length-append (newer olds) (head_of levels), length-newer_is olds, head_few turn.half levels ready.canon)

  -- nothing comes in: what is there only moves
  pub none_moved : turn.new + length olds ≡ 0 → (ys : List Entry) → turn.read ≤ turn.end → turn.end ≤ length xs
      → ys ≡ paste xs turn.write (drop turn.read xs) (turn.end - turn.read)
      → (ys ≡ laid turn.write (raised turn olds levels) xs) × (turn.write + (turn.end - turn.read) ≡ turn.write + length (raised turn olds levels))
  none_moved h ys ib bx w =
      let no_olds : olds ≡ [] = nil_from_length olds (omega arith) in
      let no_new : turn.new ≡ 0 = omega arith in
      let as_is : raised turn olds levels ≡ flat turn.exponent levels = rw (no_olds, no_new) refl in
      let same : slice_range xs turn.read turn.end ≡ raised turn olds levels = ready.whole ∙ sym as_is in (
        w ∙ copied xs turn.write turn.read turn.end ib bx ∙ ap (λ (z : List Entry). laid turn.write z xs) same,
        omega (arith, ap length same, length-take (turn.end - turn.read) (drop turn.read xs), length-drop turn.read xs),
      )

  -- something comes in
  pub some_held : (turn.new + length olds ≡ 0 → ⊥) → 1 ≤ turn.new + length stamps_at
  some_held h = omega (arith, h, length-newer_is olds, length-append (newer olds) (head_of levels))

  module _ (some : 1 ≤ turn.new + length stamps_at) where
    pub next_law : raised turn olds levels ≡ row_at ++ raised next go_up (rest_of levels)
    next_law = ap (flat turn.exponent) (raise_law turn.half turn.tick turn.new olds levels ready.canon some)
        ∙ row-map turn.exponent (stay turn.half turn.new turn.tick stamps_at) _
        ∙ ap (λ (e : ℕ). row_at ++ flat e (push_all turn.half (incoming next.new turn.tick go_up) (rest_of levels))) (sym (add-one turn.exponent))

    row_length : length row_at ≡ stay_at
    row_length = length-map (stay turn.half turn.new turn.tick stamps_at) (of_size turn.exponent) ∙ len_stay turn.half turn.new turn.tick stamps_at

    pub next_length : length (raised turn olds levels) ≡ stay_at + length (raised next go_up (rest_of levels))
    next_length = omega (arith, ap length next_law, length-append row_at (raised next go_up (rest_of levels)), row_length)

    -- the level above is ready for its turn, and less is left to do
    pub next_ready : Ready next go_up xs (rest_of levels)
    next_ready = record {
      whole = between_is xs next.read turn.end ∙ sym (drop-drop (length (head_of levels)) turn.read (take turn.end xs))
          ∙ ap (drop (length (head_of levels))) (sym (between_is xs turn.read turn.end) ∙ ready.whole) ∙ rest_flat turn.exponent levels;
      canon = rest_canon turn.half levels ready.canon;
      room = omega (arith, next_length, ready.room);
      tops = omega (arith, ap length (raise_law turn.half turn.tick turn.new olds levels ready.canon some), ready.tops);
    }

    less : (next.end - next.read) + (next.new + length (newer go_up)) < (turn.end - turn.read) + (turn.new + length (newer olds))
    less = omega (arith, own_inside, up_count turn.half turn.new stamps_at, length-append (newer olds) (head_of levels))

-- what the code finds at a level: the stamps that it holds, how many of them are the level's own, how many buckets stay there,
-- and how many of these are new
module _ {turn : Turn} {olds : List ℕ} {xs : List Entry} {levels : List (List ℕ)} (ready : Ready turn olds xs levels) where
  pub record Found (held : List ℕ) (own stay new : ℕ) : Type 0 where
    pub holds : held ≡ stamps_at ready
    pub owns : own ≡ length (head_of levels)
    pub stays : stay ≡ stay_at ready
    pub news : new ≡ min turn.new (stay_at ready)

  pub found : {start first held view : List ℕ} {came all both stay new : ℕ} → start ≡ [] → first ≡ start ++ newer olds → came ≡ length first
      → held ≡ first ++ own_of turn.exponent (slice_range xs turn.read turn.end) → all ≡ length held → both ≡ length held → view ≡ held
      → stay ≡ staying turn.half (turn.new + both) → new ≡ min turn.new stay → Found view (all - came) stay new
  found fresh first_is came_is held_is all_is both_is view_is stay_is new_is =
      let front = first_is ∙ ap (λ (z : List ℕ). z ++ newer olds) fresh in
      let holds = held_is ∙ ap₂ (λ (x y : List ℕ). x ++ y) front (its_own ready) in
      let stays = stay_is ∙ ap (λ (k : ℕ). staying turn.half (turn.new + k)) (both_is ∙ ap length holds) in
      record {
        holds = view_is ∙ holds;
        owns = omega (arith, ap length holds, ap length front, length-append (newer olds) (head_of levels));
        stays = stays;
        news = new_is ∙ ap (min turn.new) stays;
      }

  module _ (some : 1 ≤ turn.new + length (stamps_at ready)) {held : List ℕ} {own stay new : ℕ} (k : Found held own stay new) where
    abbrev pub above : Turn
    above = record {
      half = turn.half;
      tick = turn.tick;
      end = turn.end;
      exponent = turn.exponent + 1;
      read = turn.read + own;
      write = turn.write + stay;
      new = (turn.new - new + 1) / 2;
    }

    abbrev pub up : List ℕ
    up = slice_range held (stay - new + (turn.new - new) % 2) (length held)

    old_is : stay - new ≡ stay_at ready - turn.new
    old_is = omega (arith, k.stays, k.news)

    spare_is : turn.new - new ≡ turn.new - stay_at ready
    spare_is = omega (arith, k.news)

    above_is : above ≡ next ready
    above_is = λ i. record {
      half = turn.half;
      tick = turn.tick;
      end = turn.end;
      exponent = turn.exponent + 1;
      read = turn.read + k.owns i;
      write = turn.write + k.stays i;
      new = (spare_is i + 1) / 2;
    }

    up_is : up ≡ go_up ready
    up_is = between_to_end held (stay - new + (turn.new - new) % 2) (length held) (omega arith)
        ∙ (λ i. drop (old_is i + spare_is i % 2) (k.holds i))

    pub up_ready : Ready above up xs (rest_of levels)
    up_ready = subst (λ (z : Turn × List ℕ). Ready z.0 z.1 xs (rest_of levels)) (λ i. (sym above_is i, sym up_is i)) (next_ready ready some)

    pub up_less : (above.end - above.read) + (above.new + length (newer up)) < (turn.end - turn.read) + (turn.new + length (newer olds))
    up_less =
        subst (λ (z : Turn × List ℕ). (z.0.end - z.0.read) + (z.0.new + length (newer z.1)) < (turn.end - turn.read) + (turn.new + length (newer olds)))
        (λ i. (sym above_is i, sym up_is i)) (less ready some)

    pub up_short : length olds ≤ 2 * turn.half + 2 → length up ≤ 2 * turn.half + 2
    up_short h = omega (arith, ap length up_is, length-drop ((stay_at ready - turn.new) + (turn.new - stay_at ready) % 2) (stamps_at ready), held_few ready h)

    pub up_inside : turn.read ≤ turn.end → above.read ≤ turn.end
    up_inside h = omega (arith, k.owns, own_inside ready)

    pub row_fits : turn.write + stay ≤ length xs
    row_fits = omega (arith, k.stays, next_length ready some, ready.room)

    -- the buckets that stay are written under what the levels above became
    pub row_done : (ys place : List Entry) (again : List ℕ) (r width : ℕ) → ys ≡ laid above.write (raised above up (rest_of levels)) xs
        → r ≡ above.write + length (raised above up (rest_of levels)) → again ≡ held
        → place ≡ map (of_size turn.exponent) (replicate new turn.tick ++ take (stay - new) again) → width ≡ stay
        → (put_mid turn.write width ys place ≡ laid turn.write (raised turn olds levels) xs) × (r ≡ turn.write + length (raised turn olds levels))
    row_done ys place again r width w q g p e =
        let fresh : new ≡ min (stay_at ready) turn.new = omega (arith, k.news) in
        let row : place ≡ row_at ready = p ∙ (λ i. map (of_size turn.exponent) (replicate (fresh i) turn.tick ++ take (old_is i) ((g ∙ k.holds) i))) in
        let long : length (row_at ready) ≡ stay = row_length ready some ∙ sym k.stays in
        let same : raised above up (rest_of levels) ≡ raised (next ready) (go_up ready) (rest_of levels) = λ i. raised (above_is i) (up_is i) (rest_of levels) in
        let put : put_mid turn.write width ys place ≡ laid turn.write place ys =
        ap (λ (z : List Entry). take turn.write ys ++ (place ++ z)) (drop-drop width turn.write ys ∙ ap (λ (j : ℕ). drop j ys) (omega (arith, ap length row, long))) in (
          put ∙ ap₂ (laid turn.write) row w
              ∙ laid-under turn.write above.write (row_at ready) (raised above up (rest_of levels)) xs (omega (arith, long)) row_fits
              ∙ ap (λ (z : List Entry). laid turn.write z xs) (ap (λ (z : List Entry). row_at ready ++ z) same ∙ sym (next_law ready some)),
          omega (arith, k.stays, ap length same, next_length ready some),
        )

-- What the oldest bucket tells of all, and which buckets are in a window.
use Rattle.std.proofs.Common.{◌≡◌, ℕ, zero, suc, ◌+◌, ◌-◌, ◌<◌, ◌≤◌, Bool, true, false, ltb, leb, List, [], ◌∷◌, length, get_or, slice_get, take, Option, sym, refl, ap, ◌∙◌, subst, arith, pow_pos, MatchOption}
use Rattle.histogram.specs.Surveys.{holds, lives}
use Rattle.histogram.specs.declared.window.Window.{Window}
use Rattle.std.proofs.lemmas.Bool.{and_parts, cond-false, cond-true, leb-true, lt-ltb, ltb-true}
use Rattle.std.proofs.lemmas.List.Recursion.{is_sum_by}
use Rattle.std.specs.List.{AllByRecursion, AllWithin, sum_by}
use Rattle.std.specs.List.Sorted.{IsPartitionedBy}
use Rattle.theory.proofs.BracketLaws.{falls_at, oldest-pos}
use Rattle.theory.specs.Arrivals.{Falling}
use Rattle.theory.specs.Buckets.{low, oldest, size, stamps, total, within}
use Rattle.theory.specs.Sound.{never_rise}
use Rattle.theory.specs.declared.entries.Entry.{Entry}

-- the oldest bucket, by its place
last_get : (b c : Entry) (bs : List Entry)
    → slice_get (b ∷ (c ∷ bs)) (length (b ∷ (c ∷ bs)) - 1) ≡ slice_get (c ∷ bs) (length (c ∷ bs) - 1)
last_get b c bs =
    let e : length (b ∷ (c ∷ bs)) - 1 ≡ suc (length bs) = omega arith in
    let f : length (c ∷ bs) - 1 ≡ length bs = omega arith in
    ap (slice_get (b ∷ (c ∷ bs))) e ∙ ap (slice_get (c ∷ bs)) (sym f)

pub lives_get : (N own : ℕ) (bs : List Entry) (o : Option Entry) (r : Bool) → o ≡ slice_get bs (length bs - 1)
    → MatchOption o (r ≡ true) (λ b. r ≡ ltb own (b.stamp + N)) → r ≡ lives N own bs
lives_get N own [] o r e h = subst (λ (o : Option Entry). MatchOption o (r ≡ true) (λ b. r ≡ ltb own (b.stamp + N))) e h
lives_get N own (b ∷ []) o r e h = subst (λ (o : Option Entry). MatchOption o (r ≡ true) (λ b. r ≡ ltb own (b.stamp + N))) e h
lives_get N own (b ∷ (c ∷ bs)) o r e h = lives_get N own (c ∷ bs) o r (e ∙ last_get b c bs) h

oldest_some : (none : Type 0) (n : ℕ) (b : Entry) (bs : List Entry) (o : Option Entry) (r : ℕ) → o ≡ slice_get (b ∷ bs) (length (b ∷ bs) - 1)
    → MatchOption o none (λ x. r ≡ size x) → r ≡ oldest n (b ∷ bs)
oldest_some none n b [] o r e h = subst (λ (o : Option Entry). MatchOption o none (λ x. r ≡ size x)) e h
oldest_some none n b (c ∷ bs) o r e h = oldest_some none (size b) c bs o r (e ∙ last_get b c bs) h

pub oldest_get : (n : ℕ) (bs : List Entry) (o : Option Entry) (r : ℕ) → o ≡ slice_get bs (length bs - 1)
    → MatchOption o (r ≡ n) (λ b. r ≡ size b) → r ≡ oldest n bs
oldest_get n [] o r e h = subst (λ (o : Option Entry). MatchOption o (r ≡ n) (λ b. r ≡ size b)) e h
oldest_get n (b ∷ bs) o r e h = oldest_some (r ≡ n) n b bs o r e h

-- if the oldest lives, all do
all_live : (N own s : ℕ) (b : Entry) (bs : List Entry) → never_rise s (b ∷ bs) ≡ true → lives N own (b ∷ bs) ≡ true
    → AllByRecursion (λ x. own < x.stamp + N) (b ∷ bs)
all_live N own s b [] f h = (ltb-true own (b.stamp + N) h, tt)
all_live N own s b (c ∷ bs) f h =
    let w = (and_parts (leb b.stamp s) (never_rise b.stamp (c ∷ bs)) f).1 in
    let le : c.stamp ≤ b.stamp = leb-true c.stamp b.stamp (and_parts (leb c.stamp b.stamp) (never_rise c.stamp bs) w).0 in
    let ih = all_live N own b.stamp c bs w h in
    (omega (arith, le, ih.0), ih)

pub lives_all : (N own s : ℕ) (bs : List Entry) → never_rise s bs ≡ true → lives N own bs ≡ true → AllByRecursion (λ x. own < x.stamp + N) bs
lives_all N own s [] f h = tt
lives_all N own s (b ∷ bs) f h = all_live N own s b bs f h

pub all_lives : (N own : ℕ) (bs : List Entry) → AllByRecursion (λ x. own < x.stamp + N) bs → lives N own bs ≡ true
all_lives N own [] h = refl
all_lives N own (b ∷ []) h = lt-ltb own (b.stamp + N) h.0
all_lives N own (b ∷ (c ∷ bs)) h = all_lives N own (c ∷ bs) h.1

-- buckets outside a window are the last
stamp_at : (bs : List Entry) (k : ℕ) (d : Entry) → k < length bs → (k < length (stamps bs)) × (get_or (stamps bs) k 0 ≡ (get_or bs k d).stamp)
stamp_at [] k d h = absurd (omega arith)
stamp_at (b ∷ bs) zero d h = (omega arith, refl)
stamp_at (b ∷ bs) (suc k) d h = let w = stamp_at bs k d (omega arith) in (omega (arith, w.0), w.1)

stamps_fall : (bs : List Entry) → Falling (stamps bs) → (i j : ℕ) (d : Entry) → i ≤ j → j < length bs → (get_or bs j d).stamp ≤ (get_or bs i d).stamp
stamps_fall bs f i j d le h =
    let w = stamp_at bs j d h in
    omega (arith, falls_at (stamps bs) f i j le w.0, w.1, (stamp_at bs i d (omega arith)).1)

pub parted : (w : Window) (bs : List Entry) → Falling (stamps bs) → IsPartitionedBy (λ b. holds w b.stamp) bs
parted w bs f i j d le h held =
    lt-ltb w.at ((get_or bs i d).stamp + w.ticks)
    (omega (arith, stamps_fall bs f i j d le h, ltb-true w.at ((get_or bs j d).stamp + w.ticks) held))

pub front_within : (w : Window) (bs : List Entry) (n : ℕ) → n ≤ length bs
    → AllWithin (λ b. holds w b.stamp ≡ true) bs 0 n → AllWithin (λ b. holds w b.stamp ≡ false) bs n (length bs)
    → take n bs ≡ within w.ticks w.at bs
front_within w [] n le t f = let z : n ≡ 0 = omega arith in ap (λ (k : ℕ). take {A = Entry} k []) z
front_within w (b ∷ bs) zero le t f =
    front_within w bs zero (omega arith) (λ k d low high. absurd (omega arith)) (λ k d low high. f (suc k) d (omega arith) (omega arith))
    ∙ sym (cond-false (holds w b.stamp) (b ∷ within w.ticks w.at bs) (within w.ticks w.at bs) (f 0 b (omega arith) (omega arith)))
front_within w (b ∷ bs) (suc n) le t f =
    ap {B = List Entry} (λ r. b ∷ r) (front_within w bs n (omega arith) (λ k d low high. t (suc k) d (omega arith) (omega arith))
    (λ k d low high. f (suc k) d (omega arith) (omega arith)))
    ∙ sym (cond-true (holds w b.stamp) (b ∷ within w.ticks w.at bs) (within w.ticks w.at bs) (t 0 b (omega arith) (omega arith)))

pub total-sum : (bs : List Entry) → total bs ≡ sum_by size bs
total-sum bs = is_sum_by total size refl (λ _ _. refl) bs

-- low and the oldest, from how many buckets there are
pub low_none : (bs : List Entry) → length bs ≡ 0 → low bs ≡ 0
low_none [] h = refl
low_none (b ∷ bs) h = absurd (omega arith)

pub oldest-some : (bs : List Entry) → 1 ≤ length bs → 1 ≤ oldest 0 bs
oldest-some [] h = absurd (omega arith)
oldest-some (b ∷ bs) h = oldest-pos (size b) bs (pow_pos b.exponent)

-- With few enough arrivals in the window the buckets fit the room.
use Rattle.std.proofs.Common.{◌≡◌, ℕ, zero, suc, ◌+◌, ◌-◌, ◌*◌, ◌^◌, ◌<◌, ◌≤◌, true, ltb, ◌⊎◌, List, [], ◌∷◌, ◌++◌, length, replicate, refl, ap, ◌∙◌, subst, inl, inr, mul-le-mul_left, arith, pow_pos, pow_mono}
use Rattle.std.proofs.ByRecursion.{all_kept_by, All-weaker, kept_by_passes}
use Rattle.std.proofs.lemmas.List.{append-nil, length-replicate}
use Rattle.std.proofs.lemmas.Bool.{cases_lt, lt-ltb, ltb-true}
use Rattle.std.proofs.lemmas.Bool.Decides.{nat_tests}
use Rattle.std.specs.List.{AllByRecursion}
use Rattle.theory.proofs.BracketLaws.{error_bound}
use Rattle.theory.proofs.GroupLaws.{groups_stand}
use Rattle.theory.proofs.KeepLaws.{at_levels, copies_all, dropping_keeps, good_from, good_inserts, insertions_by_levels, insertions_keep, own_all, own_fall, own_keeps, own_arrivals, stamps_from}
use Rattle.theory.proofs.PushLaws.{all_canon}
use Rattle.theory.proofs.SizeLaws.{all_total, few_levels, high_total, last_flat, last_row, low_total}
use Rattle.theory.proofs.SoundLaws.{formed_says, sound_from, sound_says}
use Rattle.theory.proofs.TopLaws.{count_bound, length-flat, row_small, top-flat, top-row_from}
use Rattle.theory.proofs.Views.{Below, Formed, Stands}
use Rattle.theory.specs.Arrivals.{Falling, Keeps, Largest, at_tick, truth}
use Rattle.theory.specs.Buckets.{insertions, low, closing_figure, oldest, stamps, top, top_from, total, within}
use Rattle.theory.specs.Levels.{Canonical, flat, push_all}
use Rattle.theory.specs.Sound.{formed, sound_buckets}
use Rattle.theory.specs.Theorems.{Few, Fits}
use Rattle.theory.specs.declared.entries.Entry.{Entry}

-- a window of W ticks has at most W × R arrivals
one_tick : (W a : ℕ) (us : List ℕ) → truth (suc W) a us ≤ truth W a us + at_tick (a - W) us
one_tick W a [] = omega arith
one_tick W a (u ∷ us) = grind (arith, nat_tests, one_tick W a us)

none_later : (a : ℕ) (us : List ℕ) → Below a us → truth 0 a us ≡ 0
none_later a [] b = refl
none_later a (u ∷ us) b = let ih : truth 0 a us ≡ 0 = none_later a us b.1 in let le : u ≤ a = b.0 in grind (arith, nat_tests)

pub window_few : (R a : ℕ) (us : List ℕ) → ((s : ℕ) → at_tick s us ≤ R) → Below a us → (W : ℕ) → truth W a us ≤ W * R
window_few R a us h b zero = omega (arith, none_later a us b)
window_few R a us h b (suc W) = omega (arith, one_tick W a us, h (a - W), window_few R a us h b W)

pub flat_small : (m e : ℕ) (levels : List (List ℕ)) → e + length levels ≤ m → AllByRecursion (λ x. x.exponent < m) (flat e levels)
flat_small m e [] h = tt
flat_small m e (ss ∷ rest) h = row_small m e (omega arith) ss (flat (suc e) rest) (flat_small m (suc e) rest (omega arith))

pub within_live : (N t : ℕ) (bs : List Entry) → AllByRecursion (λ b. t < b.stamp + N) (within N t bs)
within_live N t bs = All-weaker (λ b. ltb t (b.stamp + N) ≡ true) (λ b. t < b.stamp + N) (λ b q. ltb-true t (b.stamp + N) q)
    (within N t bs) (kept_by_passes (λ b. ltb t (b.stamp + N)) bs)

pub all_within : (P : Entry → Type 0) (N t : ℕ) (bs : List Entry) → AllByRecursion P bs → AllByRecursion P (within N t bs)
all_within P N t bs h = all_kept_by (λ b. ltb t (b.stamp + N)) P bs h

pub within_all : (N t : ℕ) (bs : List Entry) → AllByRecursion (λ b. t < b.stamp + N) bs → within N t bs ≡ bs
within_all N t [] h = refl
within_all N t (b ∷ bs) h = rw (lt-ltb t (b.stamp + N) h.0, within_all N t bs h.1) refl

-- what is said of each bucket's stamp, and of the list of the stamps
pub all_stamps : (P : ℕ → Type 0) (bs : List Entry) → AllByRecursion (λ b. P b.stamp) bs → AllByRecursion P (stamps bs)
all_stamps P [] h = tt
all_stamps P (b ∷ bs) h = (h.0, all_stamps P bs h.1)

each_stamp : (P : ℕ → Type 0) (bs : List Entry) → AllByRecursion P (stamps bs) → AllByRecursion (λ b. P b.stamp) bs
each_stamp P [] h = tt
each_stamp P (b ∷ bs) h = (h.0, each_stamp P bs h.1)

-- v arrivals at tick t into live buckets leave live buckets
pub inserted_live : (l N t v : ℕ) (bs : List Entry) → 1 ≤ l → 0 < N → Formed l bs → Below t (stamps bs) → AllByRecursion (λ b. t < b.stamp + N) bs
    → AllByRecursion (λ b. t < b.stamp + N) (insertions l v t bs)
inserted_live l N t v bs one pos f b live =
    let Live : ℕ → Type 0 = λ u. t < u + N in
    let good = good_inserts l N t v t one (own_arrivals bs) bs (own_all (λ u. u ≤ t) bs b) (own_fall bs f.falling)
    (good_from l N t (own_arrivals bs) bs (own_keeps l N t bs f b)) in
    each_stamp Live (insertions l v t bs) (stamps_from Live (replicate v t ++ own_arrivals bs)
    (copies_all Live v t (own_arrivals bs) (omega arith) (own_all Live bs (all_stamps Live bs live))) N t 0 (insertions l v t bs) good.1)

-- v arrivals as one batch: the levels they leave, and the sum of the sizes
pub record Batch (l t v : ℕ) (bs : List Entry) : Type 0 where
  pub levels : List (List ℕ)
  pub canonical : Canonical l levels
  pub same : insertions l v t bs ≡ flat 0 levels
  pub sizes : total (flat 0 levels) ≡ v + total bs

pub batch_of : (l t v : ℕ) (bs : List Entry) → 1 ≤ l → formed l t bs ≡ true → Batch l t v bs
batch_of l t v bs one h =
    let r = insertions_by_levels l t v bs one h in
    record {
      levels = push_all l (replicate v t) r.0;
      canonical = all_canon l one (replicate v t) r.0 r.1;
      same = r.3;
      sizes = all_total l one (replicate v t) r.0 r.1 ∙ omega (arith, length-replicate v t, ap total r.2);
    }

-- few levels: few buckets, and small exponents
levels_room : (l r : ℕ) (levels : List (List ℕ)) → Canonical l levels → total (flat 0 levels) ≤ closing_figure l r
    → (length (flat 0 levels) ≤ (l + 1) * (r + 1)) × AllByRecursion (λ b. b.exponent ≤ r) (flat 0 levels)
levels_room l r levels c h =
    let few : length levels ≤ r + 1 = few_levels l r levels c h in
    let m : (l + 1) * length levels ≤ (l + 1) * (r + 1) = mul-le-mul_left (l + 1) few in (
      omega (arith, length-flat l 0 levels c, m),
      All-weaker (λ b. b.exponent < r + 1) (λ b. b.exponent ≤ r) (λ b q. omega arith) (flat 0 levels)
          (flat_small (r + 1) 0 levels (omega (arith, few))),
    )

pub dropping_sound : (l r N own t : ℕ) (bs : List Entry) → own ≤ t → sound_buckets l r N own bs ≡ true → sound_buckets l r N t (within N t bs) ≡ true
dropping_sound l r N early t bs le h =
    let s = sound_says l r N early bs h in
    let kept = dropping_keeps l N early t (own_arrivals bs) bs le (own_keeps l N early bs s.form s.arrived) in
    let facts = formed_says l t (within N t bs) kept.formed in
    sound_from l r N t (within N t bs) (record {
      form = facts.0;
      arrived = facts.1;
      live = within_live N t bs;
      small = all_within (λ b. b.exponent ≤ r) N t bs s.small;
    })

pub insertion_sound : (l r N own t v : ℕ) (bs : List Entry) → 1 ≤ l → 0 < N → own ≤ t → sound_buckets l r N own bs ≡ true
    → total (within N t bs) + v ≤ closing_figure l r
    → (sound_buckets l r N t (insertions l v t (within N t bs)) ≡ true) × (length (insertions l v t (within N t bs)) ≤ (l + 1) * (r + 1))
insertion_sound l r N early t v bs one pos le h fits =
    let s = sound_says l r N early bs h in
    let kept = dropping_keeps l N early t (own_arrivals bs) bs le (own_keeps l N early bs s.form s.arrived) in
    let facts = formed_says l t (within N t bs) kept.formed in
    let after = insertions_keep l N t v (own_arrivals bs) (within N t bs) one kept in
    let formed-after = formed_says l t (insertions l v t (within N t bs)) after.formed in
    let b = batch_of l t v (within N t bs) one kept.formed in
    let room = levels_room l r b.levels b.canonical (omega (arith, b.sizes)) in (
      sound_from l r N t (insertions l v t (within N t bs)) (record {
        form = formed-after.0;
        arrived = formed-after.1;
        live = inserted_live l N t v (within N t bs) one pos facts.0 facts.1 (within_live N t bs);
        small = rw b.same room.1;
      }),
      omega (arith, ap length b.same, room.0),
    )

-- the largest exponent by the arrivals in the window, if no bucket has expired
small_top : (l p q T X : ℕ) → 1 ≤ p → (l + 1) * q ≤ T + l → (T - q) + 1 ≤ X → X ≤ l * (p - 1) → p ≤ q → ⊥
small_top l zero q T X a b c d e = omega arith
small_top l (suc p) q T X a b c d e =
    let z : suc p - 1 ≡ p = omega arith in
    let d' : X ≤ l * p = rw z at d in
    let m : l * suc p ≤ l * q = mul-le-mul_left l e in
    omega (arith, m, b, c, d')

most_is : (l p T : ℕ) → 1 ≤ p → T + (l + 1) ≤ (l + 1) * p → T ≤ (l + 1) * (p - 1)
most_is l zero T a b = absurd (omega arith)
most_is l (suc p) T a b = let z : suc p - 1 ≡ p = omega arith in rw z (omega (arith, b))

pub low_is : (bs : List Entry) → 1 ≤ length bs → low bs ≡ (total bs - oldest 0 bs) + 1
low_is [] h = absurd (omega arith)
low_is (x ∷ bs) h = refl

-- the sizes of the levels (x ∷ ss) ∷ rest, the last of which has exponent K
record Sizes (l K T X : ℕ) : Type 0 where
  lower : (l + 1) * 2 ^ K ≤ T + l
  under : (T - 2 ^ K) + 1 ≤ X
  upper : T + (l + 1) ≤ (l + 1) * 2 ^ (0 + suc K)

sizes_of : (l N t : ℕ) (us : List ℕ) (x : ℕ) (ss : List ℕ) (rest : List (List ℕ)) → Canonical l ((x ∷ ss) ∷ rest) → Falling us
    → Stands N t us 0 (flat 0 ((x ∷ ss) ∷ rest)) → within N t (flat 0 ((x ∷ ss) ∷ rest)) ≡ flat 0 ((x ∷ ss) ∷ rest)
    → Sizes l (length rest) (total (flat 0 ((x ∷ ss) ∷ rest))) (truth N t us)
sizes_of l N t us x ss rest c f s e =
    let levels : List (List ℕ) = (x ∷ ss) ∷ rest in
    let T : ℕ = total (flat 0 levels) in
    let K : ℕ = length rest in
    let z : 0 + K ≡ K = omega arith in
    let bound : low (flat 0 levels) ≤ truth N t us = subst (λ (y : List Entry). low y ≤ truth N t us) e
    (error_bound l N t us levels N t c f s (omega arith) (omega arith)).0 in
    let last : oldest 0 (flat 0 levels) ≡ 2 ^ K = last_row 0 0 (x ∷ ss) (flat 1 rest) (omega arith) ∙ last_flat l 0 rest c.3 ∙ ap
    (λ (k : ℕ). 2 ^ k) z in
    let low-here : low (flat 0 levels) ≡ (T - 2 ^ K) + 1 = low_is (flat 0 levels) (omega arith) ∙ ap (λ (y : ℕ). (T - y) + 1) last in
    record {
      lower = omega (arith, rw z at (low_total l 0 (x ∷ ss) rest c));
      under = omega (arith, bound, low-here);
      upper = omega (arith, high_total l 0 levels c);
    }

levels_fit : (l r N t : ℕ) (us : List ℕ) (levels : List (List ℕ)) → Canonical l levels → Falling us → Stands N t us 0 (flat 0 levels)
    → within N t (flat 0 levels) ≡ flat 0 levels → truth N t us ≤ l * (2 ^ (r + 1) - 1) → total (flat 0 levels) ≤ closing_figure l r
levels_fit l r N t us [] c f s e h = omega arith
levels_fit l r N t us ([] ∷ rest) c f s e h = absurd (omega arith)
levels_fit l r N t us ((x ∷ ss) ∷ rest) c f s e h = go (total (flat 0 ((x ∷ ss) ∷ rest))) (length rest)
    (sizes_of l N t us x ss rest c f s e) (cases_lt (length rest) (r + 1))
  where
    go : (T K : ℕ) → Sizes l K T (truth N t us) → (K < r + 1) ⊎ (r + 1 ≤ K) → T ≤ closing_figure l r
    go T K z (inl lt) =
        let k : 0 + suc K ≤ r + 1 = omega arith in
        let p : 2 ^ (0 + suc K) ≤ 2 ^ (r + 1) = pow_mono k in
        let m : (l + 1) * 2 ^ (0 + suc K) ≤ (l + 1) * 2 ^ (r + 1) = mul-le-mul_left (l + 1) p in
        most_is l (2 ^ (r + 1)) T (pow_pos (r + 1)) (omega (arith, z.upper, m))
    go T K z (inr le) = absurd (small_top l (2 ^ (r + 1)) (2 ^ K) T (truth N t us) (pow_pos (r + 1)) z.lower z.under h (pow_mono le))

-- what is not below m is at least m
not_largest : (l m r : ℕ) → Largest l m r → m ≤ l * (2 ^ (r + 1) - 1)
not_largest l m r h = let last : l * (2 ^ (r + 1) - 1) < m → r + 1 ≤ r = h.last (r + 1) in grind arith

top_small : (e r : ℕ) (bs : List Entry) → e ≤ r → AllByRecursion (λ b. b.exponent ≤ r) bs → top_from e bs ≤ r
top_small e r [] h k = h
top_small e r (b ∷ bs) h k = top_small b.exponent r bs k.0 k.1

pub never_full : (l r m N own t v : ℕ) (us : List ℕ) (bs : List Entry) → 1 ≤ l → 0 < N → own ≤ t → Largest l m r → Keeps l N own us bs
    → truth N t (replicate v t ++ us) ≤ m → Fits l r N t v bs
never_full l r m N early t v us bs one pos le largest keeps few =
    let kept = dropping_keeps l N early t us bs le keeps in
    let facts = formed_says l t (within N t bs) kept.formed in
    let after = insertions_keep l N t v us (within N t bs) one kept in
    let b = batch_of l t v (within N t bs) one kept.formed in
    let live = inserted_live l N t v (within N t bs) one pos facts.0 facts.1 (within_live N t bs) in
    let stands = (good_from l N t (replicate v t ++ us) (insertions l v t (within N t bs)) after).1 in
    let fit : total (flat 0 b.levels) ≤ closing_figure l r =
    levels_fit l r N t (replicate v t ++ us) b.levels b.canonical after.falling (rw b.same at stands)
    (within_all N t (flat 0 b.levels) (rw b.same at live))
    (omega (arith, few, not_largest l m r largest)) in
    let room = levels_room l r b.levels b.canonical fit in
    record {
      closing = omega (arith, b.sizes, fit);
      exponents = top_small 0 r (insertions l v t (within N t bs)) (omega arith) (rw b.same room.1);
      room = omega (arith, ap length b.same, room.0);
    }

-- few buckets
top_by_window : (l K T X : ℕ) → Sizes l K T X → l * (2 ^ K - 1) < X
top_by_window l K T X z = go (2 ^ K) (pow_pos K) z.lower z.under
  where
    go : (q : ℕ) → 1 ≤ q → (l + 1) * q ≤ T + l → (T - q) + 1 ≤ X → l * (q - 1) < X
    go zero h a b = absurd (omega arith)
    go (suc q) h a b = let e : suc q - 1 ≡ q = omega arith in rw e (omega arith)

window_levels : (l N t : ℕ) (us : List ℕ) (levels : List (List ℕ)) → Canonical l levels → Falling us → Stands N t us 0 (flat 0 levels)
    → 1 ≤ length (flat 0 levels) → within N t (flat 0 levels) ≡ flat 0 levels → l * (2 ^ top (flat 0 levels) - 1) < truth N t us
window_levels l N t us [] c f s h e = absurd (omega arith)
window_levels l N t us ([] ∷ rest) c f s h e = absurd (omega arith)
window_levels l N t us ((x ∷ ss) ∷ rest) c f s h e =
    let K : top (flat 0 ((x ∷ ss) ∷ rest)) ≡ length rest = top-row_from 0 0 (x ∷ ss) (flat 1 rest) (omega arith) ∙ top-flat l 0 rest c.3
    ∙ omega arith in
    rw K (top_by_window l (length rest) (total (flat 0 ((x ∷ ss) ∷ rest))) (truth N t us) (sizes_of l N t us x ss rest c f s e))

count_levels : (l N t : ℕ) (us : List ℕ) (levels : List (List ℕ)) → Canonical l levels → 1 ≤ length (flat 0 levels) → Stands N t us 0 (flat 0 levels)
    → (length (flat 0 levels) ≤ (l + 1) * (top (flat 0 levels) + 1)) × (l * (2 ^ top (flat 0 levels) - 1) < length us)
count_levels l N t us [] c h s = absurd (omega arith)
count_levels l N t us (ss ∷ rest) c h s = count_bound l N t us ss rest c s

pub few_buckets : (l N t : ℕ) (us : List ℕ) (bs : List Entry) (keeps : Keeps l N t us bs) → 1 ≤ length bs → Few l N t us keeps.stand_for.covered bs
few_buckets l N t us bs keeps some =
    let s = keeps.stand_for in
    let f = (formed_says l t bs keeps.formed).0 in
    let counts = at_levels l bs f (λ x. 1 ≤ length x → Stands 0 0 s.covered 0 x → (length x ≤ (l + 1) * (top x + 1)) ×
    (l * (2 ^ top x - 1) < length s.covered))
    (λ levels c one stands. count_levels l 0 0 s.covered levels c one stands)
    some (rw append-nil at (groups_stand 0 0 s.covered [] bs s.groups tt)) in
    record {
      few = counts.0;
      by_covered = counts.1;
      by_window = at_levels l bs f (λ x. Stands N t us 0 x → 1 ≤ length x → within N t x ≡ x → l * (2 ^ top x - 1) < truth N t us)
          (λ levels c stands one e. window_levels l N t us levels c keeps.falling stands one e)
          (good_from l N t us bs keeps).1 some;
    }

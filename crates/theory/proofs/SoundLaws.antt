-- Formed and sound buckets as tests and as facts.
use Rattle.std.proofs.Common.{◌≡◌, ℕ, zero, suc, ◌+◌, ◌<◌, ◌≤◌, Bool, true, ◌&&◌, eqb, ltb, leb, ◌⊎◌, List, [], ◌∷◌, refl, ap, inl, inr, arith}
use Rattle.std.proofs.lemmas.Bool.{and_from, and_parts, cases_lt, eq-eqb, eqb-true, le-leb, leb-true, lt-ltb, ltb-true}
use Rattle.std.proofs.ByRecursion.{All-weaker}
use Rattle.std.specs.List.{AllByRecursion}
use Rattle.theory.proofs.FormLaws.{one_other}
use Rattle.theory.proofs.Views.{Begins, Below, Formed, Steps}
use Rattle.theory.specs.Arrivals.{Falling}
use Rattle.theory.specs.Buckets.{how_many, stamps, top, top_from}
use Rattle.theory.specs.Sound.{every, every_below, filled, formed, never_rise, sound_buckets, start_at_zero, step_up}
use Rattle.theory.specs.declared.entries.Entry.{Entry}

pub every_all : (p : Entry → Bool) (P : Entry → Type 0) → ((b : Entry) → p b ≡ true → P b) → (bs : List Entry) → every p bs ≡ true → AllByRecursion P bs
every_all p P f [] h = tt
every_all p P f (b ∷ bs) h = let w = and_parts (p b) (every p bs) h in (f b w.0, every_all p P f bs w.1)

pub all_every : (p : Entry → Bool) (P : Entry → Type 0) → ((b : Entry) → P b → p b ≡ true) → (bs : List Entry) → AllByRecursion P bs → every p bs ≡ true
all_every p P f [] h = refl
all_every p P f (b ∷ bs) h = and_from (p b) (every p bs) (f b h.0) (all_every p P f bs h.1)

below_says : (p : ℕ → Bool) (n : ℕ) → every_below n p ≡ true → (e : ℕ) → e < n → p e ≡ true
below_says p zero h e lt = absurd (omega arith)
below_says p (suc n) h e lt =
    let w = and_parts (p n) (every_below n p) h in
    let ih : e < n → p e ≡ true = below_says p n w.1 e in
    grind arith

below_from : (p : ℕ → Bool) (n : ℕ) → ((e : ℕ) → e < n → p e ≡ true) → every_below n p ≡ true
below_from p zero h = refl
below_from p (suc n) h = and_from (p n) (every_below n p) (h n (omega arith)) (below_from p n (λ e lt. h e (omega arith)))

-- stamps that never rise
pub below_weaker : (s r : ℕ) → s ≤ r → (us : List ℕ) → Below s us → Below r us
below_weaker s r h us b = All-weaker (λ u. u ≤ s) (λ u. u ≤ r) (λ u q. omega arith) us b

pub rise_says : (s : ℕ) (bs : List Entry) → never_rise s bs ≡ true → Below s (stamps bs) × Falling (stamps bs)
rise_says s [] h = (tt, tt)
rise_says s (b ∷ bs) h =
    let w = and_parts (leb b.stamp s) (never_rise b.stamp bs) h in
    let le : b.stamp ≤ s = leb-true b.stamp s w.0 in
    let ih = rise_says b.stamp bs w.1 in
    ((le, below_weaker b.stamp s le (stamps bs) ih.0), (ih.0, ih.1))

rise_from : (s : ℕ) (bs : List Entry) → Below s (stamps bs) → Falling (stamps bs) → never_rise s bs ≡ true
rise_from s [] b f = refl
rise_from s (x ∷ bs) b f = and_from (leb x.stamp s) (never_rise x.stamp bs) (le-leb x.stamp s b.0) (rise_from x.stamp bs f.0 f.1)

-- exponents
steps_say : (e : ℕ) (bs : List Entry) → step_up e bs ≡ true → Steps e bs
steps_say e [] h = tt
steps_say e (b ∷ bs) h =
    let w = and_parts (leb e b.exponent && leb b.exponent (e + 1)) (step_up b.exponent bs) h in
    let v = and_parts (leb e b.exponent) (leb b.exponent (e + 1)) w.0 in
    (leb-true e b.exponent v.0, leb-true b.exponent (e + 1) v.1, steps_say b.exponent bs w.1)

steps_from : (e : ℕ) (bs : List Entry) → Steps e bs → step_up e bs ≡ true
steps_from e [] h = refl
steps_from e (b ∷ bs) h =
    and_from (leb e b.exponent && leb b.exponent (e + 1)) (step_up b.exponent bs)
    (and_from (leb e b.exponent) (leb b.exponent (e + 1)) (le-leb e b.exponent h.0) (le-leb b.exponent (e + 1) h.1))
    (steps_from b.exponent bs h.2)

start_says : (bs : List Entry) → start_at_zero bs ≡ true → Begins bs
start_says [] h = tt
start_says (b ∷ bs) h = let w = and_parts (eqb b.exponent 0) (step_up 0 bs) h in (eqb-true b.exponent 0 w.0, steps_say 0 bs w.1)

start_from : (bs : List Entry) → Begins bs → start_at_zero bs ≡ true
start_from [] h = refl
start_from (b ∷ bs) h = and_from (eqb b.exponent 0) (step_up 0 bs) (eq-eqb b.exponent 0 h.0) (steps_from 0 bs h.1)

-- no bucket has an exponent above the last one's
none_above : (e x : ℕ) (bs : List Entry) → Steps e bs → top_from e bs < x → how_many x bs ≡ 0
none_above e x [] h lt = refl
none_above e x (b ∷ bs) h lt =
    omega (arith, one_other b.exponent x (λ q. omega (arith, top_from_lem b.exponent bs h.2)), none_above b.exponent x bs h.2 lt)
  where
    top_from_lem : (e : ℕ) (bs : List Entry) → Steps e bs → e ≤ top_from e bs
    top_from_lem e [] h = omega arith
    top_from_lem e (b ∷ bs) h = omega (arith, h.0, top_from_lem b.exponent bs h.2)

few_above : (l x : ℕ) (bs : List Entry) → Begins bs → ((e : ℕ) → e < suc (top bs) → how_many e bs ≤ l + 1) → (top bs < x) ⊎ (x ≤ top bs)
    → how_many x bs ≤ l + 1
few_above l x bs h f (inr le) = f x (omega arith)
few_above l x [] h f (inl lt) = omega arith
few_above l x (b ∷ bs) h f (inl lt) =
    let z : b.exponent ≡ 0 = h.0 in
    let steps : Steps 0 bs = h.1 in
    let same : top_from b.exponent bs ≡ top_from 0 bs = ap (λ (e : ℕ). top_from e bs) z in
    omega (arith, one_other b.exponent x (λ q. omega (arith, same)), none_above 0 x bs steps (omega (arith, same)))

pub formed_says : (l t : ℕ) (bs : List Entry) → formed l t bs ≡ true → Formed l bs × Below t (stamps bs)
formed_says l t bs h =
    let w = and_parts (never_rise t bs) (start_at_zero bs && filled l bs) h in
    let v = and_parts (start_at_zero bs) (filled l bs) w.1 in
    let u = and_parts (every_below (top bs) (λ e. leb l (how_many e bs))) (every_below (suc (top bs)) (λ e. leb (how_many e bs) (l + 1))) v.1 in
    let begins = start_says bs v.0 in (
      record {
        falling = (rise_says t bs w.0).1;
        begins = begins;
        enough = λ e lt. leb-true l (how_many e bs) (below_says (λ e. leb l (how_many e bs)) (top bs) u.0 e lt);
        few = λ e. few_above l e bs begins (λ x lt. leb-true (how_many x bs) (l + 1)
            (below_says (λ e. leb (how_many e bs) (l + 1)) (suc (top bs)) u.1 x lt)) (cases_lt (top bs) e);
      },
      (rise_says t bs w.0).0,
    )

pub formed_from : (l t : ℕ) (bs : List Entry) → Formed l bs → Below t (stamps bs) → formed l t bs ≡ true
formed_from l t bs f b =
    and_from (never_rise t bs) (start_at_zero bs && filled l bs) (rise_from t bs b f.falling)
    (and_from (start_at_zero bs) (filled l bs) (start_from bs f.begins)
    (and_from (every_below (top bs) (λ e. leb l (how_many e bs))) (every_below (suc (top bs)) (λ e. leb (how_many e bs) (l + 1)))
    (below_from (λ e. leb l (how_many e bs)) (top bs) (λ e lt. le-leb l (how_many e bs) (f.enough e lt)))
    (below_from (λ e. leb (how_many e bs) (l + 1)) (suc (top bs)) (λ e _. le-leb (how_many e bs) (l + 1) (f.few e)))))

-- sound buckets, as facts
pub record SoundBuckets (l r N t : ℕ) (bs : List Entry) : Type 0 where
  pub form : Formed l bs
  pub arrived : Below t (stamps bs)
  pub live : AllByRecursion (λ b. t < b.stamp + N) bs
  pub small : AllByRecursion (λ b. b.exponent ≤ r) bs

pub sound_says : (l r N t : ℕ) (bs : List Entry) → sound_buckets l r N t bs ≡ true → SoundBuckets l r N t bs
sound_says l r N t bs h =
    let w = and_parts (formed l t bs) (every (λ b. ltb t (b.stamp + N)) bs && every (λ b. leb b.exponent r) bs) h in
    let v = and_parts (every (λ b. ltb t (b.stamp + N)) bs) (every (λ b. leb b.exponent r) bs) w.1 in
    let f = formed_says l t bs w.0 in
    record {
      form = f.0;
      arrived = f.1;
      live = every_all (λ b. ltb t (b.stamp + N)) (λ b. t < b.stamp + N) (λ b q. ltb-true t (b.stamp + N) q) bs v.0;
      small = every_all (λ b. leb b.exponent r) (λ b. b.exponent ≤ r) (λ b q. leb-true b.exponent r q) bs v.1;
    }

pub sound_from : (l r N t : ℕ) (bs : List Entry) → SoundBuckets l r N t bs → sound_buckets l r N t bs ≡ true
sound_from l r N t bs s =
    and_from (formed l t bs) (every (λ b. ltb t (b.stamp + N)) bs && every (λ b. leb b.exponent r) bs) (formed_from l t bs s.form s.arrived)
    (and_from (every (λ b. ltb t (b.stamp + N)) bs) (every (λ b. leb b.exponent r) bs)
    (all_every (λ b. ltb t (b.stamp + N)) (λ b. t < b.stamp + N) (λ b q. lt-ltb t (b.stamp + N) q) bs s.live)
    (all_every (λ b. leb b.exponent r) (λ b. b.exponent ≤ r) (λ b q. le-leb b.exponent r q) bs s.small))

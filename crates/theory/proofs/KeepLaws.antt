-- Insertion and dropping keep a histogram one, and its answers bracket the truth.
use Rattle.std.proofs.Common.{◌≡◌, ℕ, zero, suc, ◌+◌, ◌≤◌, true, List, [], ◌∷◌, ◌++◌, replicate, sym, refl, ap, ◌∙◌, subst, arith, pow_pos}
use Rattle.std.proofs.lemmas.List.{append-nil, get_or-replicate, length-replicate}
use Rattle.std.proofs.ByRecursion.{All-get_or}
use Rattle.std.specs.List.{AllByRecursion}
use Rattle.theory.proofs.BracketLaws.{error_bound}
use Rattle.theory.proofs.DropLaws.{flat_trim, kept_stands, kept_within, trim_canon}
use Rattle.theory.proofs.FormLaws.{formed_levels, stamps_fall}
use Rattle.theory.proofs.GroupLaws.{groups, groups_stand}
use Rattle.theory.proofs.LevelLaws.{levels_of}
use Rattle.theory.proofs.MergeLaws.{push-insert}
use Rattle.theory.proofs.PushLaws.{all_canon, push-canon, push_stands}
use Rattle.theory.proofs.SoundLaws.{below_weaker, formed_from, formed_says}
use Rattle.theory.proofs.Views.{Below, Formed, Stands, trim}
use Rattle.theory.specs.Arrivals.{Brackets, Falling, Groups, Keeps, truth}
use Rattle.theory.specs.Buckets.{high, insert, insertions, low, size, stamps, within}
use Rattle.theory.specs.Levels.{Canonical, flat, push, push_all}
use Rattle.theory.specs.Sound.{formed}
use Rattle.theory.specs.declared.entries.Entry.{Entry}

-- a fact of every canonical histogram is one of every formed list
pub at_levels : (l : ℕ) (bs : List Entry) → Formed l bs → (P : List Entry → Type 0)
    → ((levels : List (List ℕ)) → Canonical l levels → P (flat 0 levels)) → P bs
at_levels l bs h P f = let r = levels_of l bs h in subst P r.1 (f r.0 r.2)

-- the buckets' stamps are ticks of arrivals: what holds of each tick holds of each stamp
pub stamps_from : (Q : ℕ → Type 0) (us : List ℕ) → AllByRecursion Q us → (N t p : ℕ) (bs : List Entry) → Stands N t us p bs → AllByRecursion Q (stamps bs)
stamps_from Q us q N t p [] h = tt
stamps_from Q us q N t p (c ∷ bs) h = (
  rw h.1 at (All-get_or Q us p 0 (omega (arith, h.0, pow_pos c.exponent)) q),
  stamps_from Q us q N t (p + size c) bs h.2,
)

-- formed buckets that stand for arrivals, by places
abbrev pub Good : (l N t : ℕ) (us : List ℕ) (bs : List Entry) → Type 0
Good l N t us bs = Formed l bs × Stands N t us 0 bs

pub good_insert : (l N t s : ℕ) → 1 ≤ l → (us : List ℕ) (bs : List Entry) → Falling (s ∷ us) → Good l N t us bs → Good l N t (s ∷ us) (insert l s bs)
good_insert l N t s g us bs f h =
    at_levels l bs h.0 (λ r. Stands N t us 0 r → Good l N t (s ∷ us) (insert l s r))
    (λ levels c stands.
    let now : Stands N t (s ∷ us) 0 (flat 0 (push l s levels)) = push_stands N t l s us levels c stands in
    let fall : Falling (s ∷ stamps (flat 0 levels)) = (
      stamps_from (λ u. u ≤ s) us f.0 N t 0 (flat 0 levels) stands,
      stamps_fall us f.1 N t 0 (flat 0 levels) stands,
    ) in
    rw (push-insert l s levels c fall)
    (formed_levels l (push l s levels) (push-canon l g s levels c) (stamps_fall (s ∷ us) f N t 0 (flat 0 (push l s levels)) now), now))
    h.1

pub good_drop : (l N t t' : ℕ) → t ≤ t' → (us : List ℕ) (bs : List Entry) → Falling us → Good l N t us bs → Good l N t' us (within N t' bs)
good_drop l N t t' le us bs f h =
    at_levels l bs h.0 (λ r. Stands N t us 0 r → Good l N t' us (within N t' r))
    (λ levels c stands.
    let now : Stands N t' us 0 (flat 0 (trim N t' levels)) =
    rw (flat_trim N t' 0 levels) (kept_stands N t t' us f le 0 (flat 0 levels) stands) in
    rw (← kept_within N t t' us f 0 (flat 0 levels) stands, ← flat_trim N t' 0 levels)
    (formed_levels l (trim N t' levels) (trim_canon N t' l levels c) (stamps_fall us f N t' 0 (flat 0 (trim N t' levels)) now), now))
    h.1

-- several arrivals at one tick
pub copies_all : (Q : ℕ → Type 0) (v s : ℕ) (us : List ℕ) → Q s → AllByRecursion Q us → AllByRecursion Q (replicate v s ++ us)
copies_all Q zero s us q h = h
copies_all Q (suc v) s us q h = (q, copies_all Q v s us q h)

pub copies_fall : (v s : ℕ) (us : List ℕ) → Below s us → Falling us → Falling (replicate v s ++ us)
copies_fall zero s us b f = f
copies_fall (suc v) s us b f = (copies_all (λ u. u ≤ s) v s us (omega arith) b, copies_fall v s us b f)

pub good_inserts : (l N t v s : ℕ) → 1 ≤ l → (us : List ℕ) (bs : List Entry) → Below s us → Falling us → Good l N t us bs
    → Good l N t (replicate v s ++ us) (insertions l v s bs)
good_inserts l N t zero s g us bs b f h = h
good_inserts l N t (suc v) s g us bs b f h =
    good_insert l N t s g (replicate v s ++ us) (insertions l v s bs) (copies_fall (suc v) s us b f) (good_inserts l N t v s g us bs b f h)

-- between the two ways to say what buckets stand for
pub good_from : (l N t : ℕ) (us : List ℕ) (bs : List Entry) → Keeps l N t us bs → Good l N t us bs
good_from l N t us bs k =
    let s = k.stand_for in (
      (formed_says l t bs k.formed).0,
      rw s.split (groups_stand N t s.covered s.lost bs s.groups s.expired),
    )

pub keeps_from : (l N t : ℕ) (us : List ℕ) (bs : List Entry) → Falling us → Below t us → Good l N t us bs → Keeps l N t us bs
keeps_from l N t us bs f b g =
    let p = groups N t us 0 bs g.1 in
    record {
      falling = f;
      arrived = b;
      formed = formed_from l t bs g.0 (stamps_from (λ u. u ≤ t) us b N t 0 bs g.1);
      stand_for = record { covered = p.0; lost = p.1; split = p.2; groups = p.3; expired = p.4 };
    }

pub empty_keeps : (l N t : ℕ) → Keeps l N t [] []
empty_keeps l N t = keeps_from l N t [] [] tt tt (formed_levels l [] tt tt, λ k a b. absurd (omega arith))

pub insertions_keep : (l N t v : ℕ) (us : List ℕ) (bs : List Entry) → 1 ≤ l → Keeps l N t us bs
    → Keeps l N t (replicate v t ++ us) (insertions l v t bs)
insertions_keep l N t v us bs one k =
    keeps_from l N t (replicate v t ++ us) (insertions l v t bs) (copies_fall v t us k.arrived k.falling)
    (copies_all (λ u. u ≤ t) v t us (omega arith) k.arrived)
    (good_inserts l N t v t one us bs k.arrived k.falling (good_from l N t us bs k))

pub insertion_keeps : (l N t : ℕ) (us : List ℕ) (bs : List Entry) → 1 ≤ l → Keeps l N t us bs → Keeps l N t (t ∷ us) (insert l t bs)
insertion_keeps l N t us bs one k = insertions_keep l N t 1 us bs one k

pub dropping_keeps : (l N t later : ℕ) (us : List ℕ) (bs : List Entry) → t ≤ later → Keeps l N t us bs → Keeps l N later us (within N later bs)
dropping_keeps l N t later us bs le k =
    keeps_from l N later us (within N later bs) k.falling (below_weaker t later le us k.arrived)
    (good_drop l N t later le us bs k.falling (good_from l N t us bs k))

pub brackets_truth : (l N t : ℕ) (us : List ℕ) (bs : List Entry) (W a : ℕ) → Keeps l N t us bs → W ≤ N → t ≤ a
    → Brackets l (truth W a us) (low (within W a bs)) (high (within W a bs))
brackets_truth l N t us bs W a k wn ta =
    let g = good_from l N t us bs k in
    at_levels l bs g.0 (λ r. Stands N t us 0 r → Brackets l (truth W a us) (low (within W a r)) (high (within W a r)))
    (λ levels c stands. let e = error_bound l N t us levels W a c k.falling stands wn ta in record { under = e.0; over = e.1; close = e.2 })
    g.1

-- the arrivals of buckets, if all of a bucket's came at its stamp
abbrev pub own_arrivals : List Entry → List ℕ
own_arrivals [] = []
own_arrivals (b ∷ bs) = replicate (size b) b.stamp ++ own_arrivals bs

own_groups : (bs : List Entry) → Groups bs (own_arrivals bs)
own_groups [] = refl
own_groups (b ∷ bs) = (
  replicate (size b) b.stamp,
  own_arrivals bs,
  refl,
  length-replicate (size b) b.stamp,
  get_or-replicate (size b) 0 b.stamp 0 (pow_pos b.exponent),
  own_groups bs,
)

pub own_all : (Q : ℕ → Type 0) (bs : List Entry) → AllByRecursion Q (stamps bs) → AllByRecursion Q (own_arrivals bs)
own_all Q [] h = tt
own_all Q (b ∷ bs) h = copies_all Q (size b) b.stamp (own_arrivals bs) h.0 (own_all Q bs h.1)

pub own_fall : (bs : List Entry) → Falling (stamps bs) → Falling (own_arrivals bs)
own_fall [] f = tt
own_fall (b ∷ bs) f = copies_fall (size b) b.stamp (own_arrivals bs) (own_all (λ u. u ≤ b.stamp) bs f.0) (own_fall bs f.1)

-- formed buckets are a histogram of their own arrivals
pub own_keeps : (l N t : ℕ) (bs : List Entry) → Formed l bs → Below t (stamps bs) → Keeps l N t (own_arrivals bs) bs
own_keeps l N t bs f b =
    keeps_from l N t (own_arrivals bs) bs (own_fall bs f.falling) (own_all (λ u. u ≤ t) bs b)
    (f, rw append-nil at (groups_stand N t (own_arrivals bs) [] bs (own_groups bs) tt))

-- insertions one by one, by levels
pub inserted_levels : (l t v : ℕ) (levels : List (List ℕ)) → 1 ≤ l → Canonical l levels → Below t (stamps (flat 0 levels))
    → Falling (stamps (flat 0 levels))
    → insertions l v t (flat 0 levels) ≡ flat 0 (push_all l (replicate v t) levels)
inserted_levels l t zero levels one c b f = refl
inserted_levels l t (suc v) levels one c b f =
    let e = inserted_levels l t v levels one c b f in
    let now = insertions_keep l 0 t v (own_arrivals (flat 0 levels)) (flat 0 levels) one
    (own_keeps l 0 t (flat 0 levels) (formed_levels l levels c f) b) in
    let facts = formed_says l t (insertions l v t (flat 0 levels)) now.formed in
    ap (insert l t) e ∙ push-insert l t (push_all l (replicate v t) levels) (all_canon l one (replicate v t) levels c)
    (rw (← e) (facts.1, facts.0.falling))

pub insertions_by_levels : (l t v : ℕ) (bs : List Entry) → 1 ≤ l → formed l t bs ≡ true
    → (levels : List (List ℕ)) × Canonical l levels × (bs ≡ flat 0 levels) × (insertions l v t bs ≡ flat 0 (push_all l (replicate v t) levels))
insertions_by_levels l t v bs one h =
    let f = formed_says l t bs h in
    let r = levels_of l bs f.0 in
    let b : Below t (stamps (flat 0 r.0)) = rw r.1 f.1 in
    let fall : Falling (stamps (flat 0 r.0)) = rw r.1 f.0.falling in
    (r.0, r.2, sym r.1, ap (insertions l v t) (sym r.1) ∙ inserted_levels l t v r.0 one r.2 b fall)

-- The next count always finds room, and none of the arrivals before it has expired.
use Rattle.std.proofs.Common.{◌≡◌, ℕ, ◌+◌, ◌-◌, ◌*◌, ◌^◌, ◌<◌, ◌≤◌, true, ltb, ◌⊎◌, List, [], length, take, All, Some, None, Ok, Err, Option, Result, sym, refl, ap, ◌∙◌, subst, ap₂, inl, inr, mul-le-mul_right, mul-le-mul, arith, pow_mono}
use Rattle.buckets.specs.Counts.{board_buckets}
use Rattle.buckets.specs.Reports.{Small}
use Rattle.buckets.specs.declared.board.Board.{Board}
use Rattle.histogram.proofs.EnterLaws.{kept_formed, not_refused}
use Rattle.histogram.proofs.StretchLaws.{StretchFacts, stretch_from, stretch_says, tail_buckets}
use Rattle.histogram.proofs.TailLaws.{tail_end}
use Rattle.histogram.specs.Entering.{buckets_after, changed, entered, histogram_after, kept_at, padded, refusal, standing_after, stretch_after, unless, weight_before}
use Rattle.histogram.specs.Settings.{GoodK, Made}
use Rattle.histogram.specs.declared.track.EnterFault.{EnterFault}
use Rattle.histogram.specs.declared.settings.SettingsFault.{SettingsFault}
use Rattle.histogram.specs.declared.settings.SettingsFault.TheVariants.{K, Window, Cap}
use Rattle.histogram.specs.declared.settings.Settings.{Settings}
use Rattle.histogram.specs.declared.track.Histogram.{Histogram}
use Rattle.std.proofs.lemmas.List.{take_at}
use Rattle.std.proofs.lemmas.List.Elements.{All-from_recursion, All-weaker, recursion_from_All}
use Rattle.std.proofs.lemmas.Bool.{cases_lt, cond-true, lt-ltb}
use Rattle.std.specs.Result.{result_ok}
use Rattle.theory.proofs.FullLaws.{batch_of, within_all}
use Rattle.theory.proofs.SoundLaws.{sound_says}
use Rattle.theory.specs.Buckets.{closing_figure, insertions, total}
use Rattle.theory.specs.Sound.{every, formed, is_zero, sound, zeros}
use Rattle.theory.specs.declared.entries.Entry.{Entry}

closing : (l r N R x : ℕ) → N * R ≤ l * (2 ^ (r + 1) - 1) → x ≤ N * R → x ≤ closing_figure l r
closing l r N R x h g = omega (arith, h, g, mul-le-mul_right (2 ^ (r + 1) - 1) (more l))
  where
    more : (l : ℕ) → l ≤ l + 1
    more l = omega arith

-- the board after v arrivals at the next tick
module _ (b : Board) (v : ℕ) (small : v ≤ 960) (left : b.histogram.standing.tick + 1 ≡ 1048576 → ⊥) where
  abbrev h : Histogram
  h = b.histogram

  abbrev s : Settings
  s = h.settings

  abbrev t : ℕ
  t = h.standing.tick + 1

  early : t < 1048576
  early = omega (arith, left, b.ticks)

  all_kept : kept_at h t b.entries ≡ board_buckets b
  all_kept = within_all s.window t (board_buckets b)
      (recursion_from_All (λ x. t < x.stamp + s.window) (board_buckets b) (λ i d _. omega (arith, early, b.window)))

  later : h.standing.tick ≤ t
  later = omega arith

  product : s.window * s.cap ≡ 1048576 * 1024
  product = ap₂ (λ (x y : ℕ). x * y) b.window b.cap

  fits : total (kept_at h t b.entries) + v ≤ closing_figure s.half s.top
  fits =
      closing s.half s.top s.window s.cap (total (kept_at h t b.entries) + v) s.last
      (omega (arith, ap total all_kept, b.sum, b.counts, small, early, product))

  weightless : weight_before h.standing t ≡ 0
  weightless = cond-true (ltb h.standing.tick t) 0 h.standing.weight (lt-ltb h.standing.tick t (omega arith))

  accepted : refusal h t v b.entries ≡ None
  accepted = not_refused h t v b.entries b.sound later fits (omega (arith, weightless, small, b.cap))

  abbrev new : List Entry
  new = insertions s.half v t (board_buckets b)

  new_is : buckets_after h t v b.entries ≡ new
  new_is = ap (insertions s.half v t) all_kept

  new_total : total new ≡ b.arrivals + v
  new_total =
      let f = subst (λ (bs : List Entry). formed s.half t bs ≡ true) all_kept (kept_formed h t v b.entries b.sound later) in
      let a = batch_of s.half t v (board_buckets b) s.some f in
      ap total a.same ∙ a.sizes ∙ omega (arith, b.sum)

  -- entering them is never refused
  pub next_ok : entered h t v b.entries ≡ Ok tt
  next_ok = ap (λ (f : Option EnterFault). unless f tt) accepted

  -- and leaves this histogram and these entries
  pub record Next (is : Histogram) (ys : List Entry) : Type 0 where
    pub settings : is.settings ≡ s
    pub tick : is.standing.tick ≡ t
    pub buckets : take is.standing.buckets ys ≡ new
    pub sum : total (take is.standing.buckets ys) ≡ b.arrivals + v

  pub next : (is : Histogram) (ys : List Entry) → is ≡ histogram_after h t v b.entries → ys ≡ stretch_after h t v b.entries → Next is ys
  next is ys e w =
      let after = e ∙ ap (λ (f : Option EnterFault). changed f h (record { settings = s; standing = standing_after h t v b.entries })) accepted in
      let stretch : ys ≡ padded (length b.entries) new =
      w ∙ ap (λ (f : Option EnterFault). changed f b.entries (padded (length b.entries) (buckets_after h t v b.entries))) accepted
      ∙ ap (padded (length b.entries)) new_is in
      let n = is.standing.buckets in
      let many : n ≡ length new = ap (λ (x : Histogram). x.standing.buckets) after ∙ ap length new_is in
      let buckets : take n ys ≡ new = ap (take n) stretch ∙ take_at new (zeros (length b.entries - length new)) n (sym many) in
      record {
        settings = ap (λ (x : Histogram). x.settings) after;
        tick = ap (λ (x : Histogram). x.standing.tick) after;
        buckets = buckets;
        sum = ap total buckets ∙ new_total;
      }

-- what the stretch of a board says
board_facts : (b : Board) → StretchFacts b.histogram.settings.half b.histogram.settings.top b.histogram.settings.window b.histogram.standing.tick
    b.histogram.standing.buckets b.entries
board_facts b = stretch_says b.histogram.settings.half b.histogram.settings.top b.histogram.settings.window b.histogram.standing.tick
    b.histogram.standing.buckets b.entries b.sound

-- the buckets lie within the entries
pub buckets_inside : (b : Board) → b.histogram.standing.buckets ≤ 460
buckets_inside b = let f = board_facts b in omega (arith, f.few, f.roomy, b.whole)

-- and are small
pub buckets_small : (b : Board) → All Small (board_buckets b)
buckets_small b =
    let s = b.histogram.settings in
    let p = sound_says s.half s.top s.window b.histogram.standing.tick (board_buckets b) (board_facts b).buckets in
    let few = λ (x : Entry). x.exponent ≤ s.top in
    All-weaker few Small (λ x q. omega (arith, q, s.small)) (board_buckets b) (All-from_recursion few (board_buckets b) p.small)

-- the entries are enough for every k
few_entries : (l r : ℕ) → l ≤ 16 → r ≤ 30 → l * (2 ^ r - 1) < 2 ^ 30 → (l + 1) * (r + 1) ≤ 460
few_entries l r few small below = go (cases_lt 8 l) (cases_lt 26 r)
  where
    go : (8 < l) ⊎ (l ≤ 8) → (26 < r) ⊎ (r ≤ 26) → (l + 1) * (r + 1) ≤ 460
    go (inr a) q =
        let x : l + 1 ≤ 9 = omega arith in
        let y : r + 1 ≤ 31 = omega arith in
        omega (arith, mul-le-mul x y)
    go (inl a) (inr b) =
        let x : l + 1 ≤ 17 = omega arith in
        let y : r + 1 ≤ 27 = omega arith in
        omega (arith, mul-le-mul x y)
    go (inl a) (inl b) =
        let k : 27 ≤ r = omega arith in
        let p : 2 ^ 27 ≤ 2 ^ r = pow_mono k in
        let x : 9 ≤ l = omega arith in
        let y : 2 ^ 27 - 1 ≤ 2 ^ r - 1 = omega (arith, p) in
        absurd (omega (arith, mul-le-mul x y, below))

-- the settings of a board of k, or there are none
abbrev pub Chosen : ℕ → Option Settings → Type 0
Chosen k (Some s) = (k ≡ 2 * s.half) × (s.window ≡ 1048576) × (s.cap ≡ 1024)
Chosen k None = GoodK k → ⊥

pub chosen : (k : ℕ) (r : Result Settings SettingsFault) (o : Option Settings) → Made k 1048576 1024 r → o ≡ result_ok r → Chosen k o
chosen k r o made e = subst (Chosen k) (sym e) (go r made)
  where
    go : (r : Result Settings SettingsFault) → Made k 1048576 1024 r → Chosen k (result_ok r)
    go (Ok s) m = (m.0, sym m.1, sym m.2)
    go (Err K) m = m
    go (Err Window) m = λ _. m.1 (omega arith, omega arith)
    go (Err Cap) m = λ _. m.2 (omega arith, omega arith)

-- an empty board is sound
pub empty_sound : (s : Settings) (xs : List Entry) → s.window ≡ 1048576 → s.cap ≡ 1024 → length xs ≡ 460 → every is_zero xs ≡ true
    → sound s.half s.top s.window 0 0 xs ≡ true
empty_sound set xs window capped whole none =
    let product : set.window * set.cap ≡ 2 ^ 30 = ap₂ (λ (x y : ℕ). x * y) window capped in
    let few = few_entries set.half set.top set.few set.small (omega (arith, set.below, product)) in
    stretch_from set.half set.top set.window 0 0 xs (record {
      roomy = omega (arith, few, whole);
      few = omega arith;
      past = none;
      buckets = tail_buckets set.half set.top set.window 0
          [] (tail_end set.half set.top 0 0 (omega arith)) refl;
    })

-- Runs of calls and their histories; and what a history alone tells of a track.
use Rattle.std.specs.Prelude.{◌≡◌, ℕ, zero, suc, ◌+◌, ◌/◌, cond, ◌&&◌, List, [], ◌∷◌, length, replicate, Some, None, Ok, Err, ◌==◌, nat_le, nat_lt}
use Rattle.text.specs.Texts.{weighed}
use Rattle.theory.specs.Buckets.{insertions, within}
use Rattle.theory.specs.declared.entries.Entry.{Entry}
use Rattle.law.specs.Calls.{Outcome, State, Got, called, weight_of, smaller}
use Rattle.law.specs.Shapes.{entries}
use Rattle.law.specs.Tracks.{Unopened, Act, Opening, Line, Question, Retiring, PlainCall, At, Total, Ending}
use Rattle.law.specs.declared.shapes.Shape.{Shape}

-- RUNS

-- the slab that a call brings: the programme's own, or some other
pub data Brought : Type 0 where
  Own : Brought
  Other : List Entry → Brought

pub record Made : Type 0 where
  pub call : PlainCall
  pub slab : Brought

pub record Event : Type 0 where
  pub made : Made
  pub outcome : Outcome

-- what has happened, newest first
abbrev pub History : Type 0
History = List Event

pub record Ran : Type 0 where
  pub history : History
  pub state : State

module _ (s : Shape) (w : ℕ → ℕ) where
  -- a call with the slab that it brings; another slab than the own one is not kept
  abbrev pub with_slab : State → PlainCall → Brought → Got
  with_slab st c Own = called s w st c
  with_slab st c (Other slab) =
      let g = called s w (record { table = st.table; slab = slab }) c in
      record { outcome = g.outcome; state = record { table = g.state.table; slab = st.slab } }

  abbrev pub next : Ran → Made → Ran
  next g m =
      let d = with_slab g.state m.call m.slab in
      record { history = record { made = m; outcome = d.outcome } ∷ g.history; state = d.state }

  abbrev pub run_from : Ran → List Made → Ran
  run_from g [] = g
  run_from g (m ∷ ms) = run_from (next g m) ms

-- a new programme: no track is open, and the slab holds anything
abbrev pub fresh : List Entry → Ran
fresh slab = record { history = []; state = record { table = replicate 16 Unopened; slab = slab } }

-- a list of calls on a new programme
abbrev pub run : Shape → (w : ℕ → ℕ) → List Entry → List Made → Ran
run s w slab ms = run_from s w (fresh slab) ms

-- another slab than the own one has another length
abbrev pub Strange : Shape → Brought → Type 0
Strange s Own = Unit {0}
Strange s (Other slab) = length slab ≡ entries s → ⊥

abbrev pub Strangers : Shape → List Made → Type 0
Strangers s [] = Unit {0}
Strangers s (m ∷ ms) = Strange s m.slab × Strangers s ms

-- WHAT A HISTORY TELLS OF A TRACK

-- a line that was accepted: its tick, and its text's weight by the rule's meaning
pub record Arrival : Type 0 where
  pub tick : ℕ
  pub weight : ℕ

-- a track since its opening: the opening's k, N and R, the tick of the last accepted opening or line, and the accepted lines,
-- newest first
pub record Since : Type 0 where
  pub k : ℕ
  pub window : ℕ
  pub cap : ℕ
  pub tick : ℕ
  pub lines : List Arrival

-- a track is open from an accepted opening to the next accepted retiring
pub data Standing : Type 0 where
  Shut : Standing
  Opened : Since → Standing

-- an open track with one more line
abbrev pub lined : Since → (t v : ℕ) → Since
lined x t v =
    record { k = x.k; window = x.window; cap = x.cap; tick = t; lines = record { tick = t; weight = v } ∷ x.lines }

abbrev pub with_arrival : (t v : ℕ) → Standing → Standing
with_arrival t v Shut = Shut
with_arrival t v (Opened x) = Opened (lined x t v)

module _ (w : ℕ → ℕ) where
  -- the weight of a line by the rule's meaning
  abbrev pub line_weight : List ℕ → ℕ
  line_weight text = weight_of (weighed w text)

  -- what an accepted call on the track makes of it
  abbrev pub acted : Act → Standing → Standing
  acted (Opening t k N R) x = Opened (record { k = k; window = N; cap = R; tick = t; lines = [] })
  acted (Line t text) x = with_arrival t (line_weight text) x
  acted (Question a W) x = x
  acted Retiring x = Shut

  -- what a call makes of track i, by what it got
  abbrev pub changed : ℕ → PlainCall → Outcome → Standing → Standing
  changed i (At j act) (Ok None) x = cond (i == j) (acted act x) x
  changed i (At j act) (Ok (Some answer)) x = x
  changed i (At j act) (Err fault) x = x
  changed i (Total a W) outcome x = x
  changed i Ending outcome x = x

  -- how track i stands after a history
  abbrev pub since : ℕ → History → Standing
  since i [] = Shut
  since i (e ∷ h) = changed i e.made.call e.outcome (since i h)

-- the weight of the lines with ticks t where t + W > a and t ≤ a
abbrev pub sum_in : (W a : ℕ) → List Arrival → ℕ
sum_in W a [] = 0
sum_in W a (x ∷ xs) = cond (nat_lt a (x.tick + W) && nat_le x.tick a) x.weight 0 + sum_in W a xs

-- the weight of the lines at tick t
abbrev pub sum_at : ℕ → List Arrival → ℕ
sum_at t [] = 0
sum_at t (x ∷ xs) = cond (x.tick == t) x.weight 0 + sum_at t xs

-- the true sum of a question: 0 of a track that is not open
abbrev pub true_sum : (W a : ℕ) → Standing → ℕ
true_sum W a Shut = 0
true_sum W a (Opened x) = sum_in W a x.lines

-- the track's own sum: its longest window at its own tick
abbrev pub own_sum : Since → ℕ
own_sum x = sum_in x.window x.tick x.lines

abbrev pub k_of : Standing → ℕ
k_of Shut = 0
k_of (Opened x) = x.k

-- the buckets that the insertion steps leave from the opening on: for each line, what has expired is dropped, and its
-- weight's worth of arrivals is inserted one after another
abbrev pub buckets_after : (l N : ℕ) → List Arrival → List Entry
buckets_after l N [] = []
buckets_after l N (x ∷ earlier) = insertions l x.weight x.tick (within N x.tick (buckets_after l N earlier))

abbrev pub buckets_of : Since → List Entry
buckets_of x = buckets_after (x.k / 2) x.window x.lines

abbrev pub count_of : Standing → ℕ
count_of Shut = 0
count_of (Opened x) = length (buckets_of x)

abbrev pub join_k : Standing → ℕ → ℕ
join_k Shut k = k
join_k (Opened x) k = smaller x.k k

-- over m tracks from i on: the sum of the true sums, the smallest k of the open ones, the sum of the buckets
module _ (w : ℕ → ℕ) where
  abbrev pub sum_over : (W a i m : ℕ) → History → ℕ
  sum_over W a i zero h = 0
  sum_over W a i (suc m) h = true_sum W a (since w i h) + sum_over W a (suc i) m h

  abbrev pub least_k : (i m : ℕ) → History → ℕ
  least_k i zero h = 0
  least_k i (suc m) h = join_k (since w i h) (least_k (suc i) m h)

  abbrev pub count_over : (i m : ℕ) → History → ℕ
  count_over i zero h = 0
  count_over i (suc m) h = count_of (since w i h) + count_over (suc i) m h

-- The law over runs: what every list of calls on a new programme, with one slab that may hold anything at first, gets and leaves.
use Rattle.std.specs.Prelude.{◌≡◌, ℕ, zero, suc, ◌+◌, ◌-◌, ◌*◌, ◌/◌, ◌%◌, ◌<◌, ◌≤◌, not, ◌&&◌, List, [], ◌∷◌, ◌++◌, length, Some, None, Ok, Err, Option, ◌==◌, ◌≢◌, nat_lt, slice_index_or}
use Rattle.text.specs.Texts.{Weighs, weighed}
use Rattle.theory.specs.Arrivals.{Largest}
use Rattle.theory.specs.Sound.{zeros}
use Rattle.theory.specs.declared.entries.Entry.{Entry}
use Rattle.law.specs.Calls.{Outcome, State, last_tick, stretch_at, room_for, text_test}
use Rattle.law.specs.Faults.{call_fault_number}
use Rattle.law.specs.Runs.{Brought, Own, Other, Made, Event, History, run, Strangers, Since, Standing, Shut, Opened, since, sum_at, true_sum, own_sum, k_of, buckets_of, count_of, sum_over, least_k, count_over, line_weight}
use Rattle.law.specs.Shapes.{entries}
use Rattle.law.specs.Tests.{when, verdict, between}
use Rattle.law.specs.Tracks.{Held, Track, Unopened, Open, largest, Act, Opening, Line, Question, Retiring, PlainCall, At, Total, Ending}
use Rattle.law.specs.declared.faults.CallFault.{CallFault}
use Rattle.law.specs.declared.faults.CallFault.TheVariants.{SlabLength, NoSuchTrack, AlreadyOpen, LateTick, BadK, BadLongest, BadCap, NoRoom, NotOpen, EarlyTick, OverCap, BadWindow, NoWindow}
use Rattle.law.specs.declared.kinds.Answer.{Answer}
use Rattle.law.specs.declared.shapes.Shape.{Shape}

-- ANSWERS

-- how far two numbers are apart
abbrev pub distance : ℕ → ℕ → ℕ
distance x y = (x - y) + (y - x)

-- an answer lies round the truth: low ≤ truth ≤ high, and k times the gap is at most twice the truth; the middle of the two
-- figures is then within one k-th of the truth. Its k and its b are the history's
pub record Right (truth k buckets : ℕ) (x : Answer) : Type 0 where
  pub under : x.low ≤ truth
  pub over : truth ≤ x.high
  pub close : x.k * (x.high - x.low) ≤ 2 * truth
  pub middle : x.k * distance (x.low + x.high) (2 * truth) ≤ 2 * truth
  pub own_k : x.k ≡ k
  pub own_buckets : x.buckets ≡ buckets

module _ (s : Shape) (w : ℕ → ℕ) where
  -- what a call got, after a history: an accepted question or total has an answer, and it is right
  abbrev pub AnswerRight : PlainCall → Outcome → History → Type 0
  AnswerRight (At i (Question a W)) (Ok (Some x)) h = Right (true_sum W a (since w i h)) (k_of (since w i h)) (count_of (since w i h)) x
  AnswerRight (At i (Question a W)) (Ok None) h = ⊥
  AnswerRight (At i (Question a W)) (Err fault) h = Unit {0}
  AnswerRight (At i (Opening t k N R)) outcome h = Unit {0}
  AnswerRight (At i (Line t text)) outcome h = Unit {0}
  AnswerRight (At i Retiring) outcome h = Unit {0}
  AnswerRight (Total a W) (Ok (Some x)) h = Right (sum_over w W a 0 s.tracks h) (least_k w 0 s.tracks h) (count_over w 0 s.tracks h) x
  AnswerRight (Total a W) (Ok None) h = ⊥
  AnswerRight (Total a W) (Err fault) h = Unit {0}
  AnswerRight Ending outcome h = Unit {0}

-- the weight of an accepted line is the sum of the rule's weights over the scalar values that spell it
abbrev pub LineWeighs : (w : ℕ → ℕ) → PlainCall → Outcome → Type 0
LineWeighs w (At i (Line t text)) (Ok None) = Weighs w text (line_weight w text)
LineWeighs w (At i (Line t text)) (Ok (Some x)) = Unit {0}
LineWeighs w (At i (Line t text)) (Err fault) = Unit {0}
LineWeighs w (At i (Opening t k N R)) outcome = Unit {0}
LineWeighs w (At i (Question a W)) outcome = Unit {0}
LineWeighs w (At i Retiring) outcome = Unit {0}
LineWeighs w (Total a W) outcome = Unit {0}
LineWeighs w Ending outcome = Unit {0}

-- REFUSALS

-- the causes for which a call can be refused, in their order, told from the history alone
abbrev pub opening_causes : (p t k N R : ℕ) → List (Option CallFault)
opening_causes p t k N R =
    when (nat_lt last_tick t) LateTick
    ∷ when (not (k % 2 == 0 && between 2 32 k)) BadK
    ∷ when (not (between 1 1048576 N)) BadLongest
    ∷ when (not (between 1 1024 R)) BadCap
    ∷ when (nat_lt p (room_for k N R)) (NoRoom (room_for k N R))
    ∷ []

abbrev pub line_causes : (w : ℕ → ℕ) (i t : ℕ) → List ℕ → Since → List (Option CallFault)
line_causes w i t text x =
    when (nat_lt last_tick t) LateTick
    ∷ when (nat_lt t x.tick) (EarlyTick i)
    ∷ text_test (weighed w text)
    ∷ when (nat_lt x.cap (sum_at t x.lines + line_weight w text)) (OverCap i)
    ∷ []

abbrev pub ask_causes : (i a W : ℕ) → Since → List (Option CallFault) → List (Option CallFault)
ask_causes i a W x rest =
    when (nat_lt a x.tick) (EarlyTick i) ∷ when (not (between 1 x.window W)) (BadWindow i) ∷ rest

abbrev pub act_causes : Shape → (w : ℕ → ℕ) → ℕ → Act → Standing → List (Option CallFault)
act_causes s w i (Opening t k N R) Shut = opening_causes s.stretch t k N R
act_causes s w i (Opening t k N R) (Opened x) = Some AlreadyOpen ∷ []
act_causes s w i (Line t text) Shut = Some (NotOpen i) ∷ []
act_causes s w i (Line t text) (Opened x) = line_causes w i t text x
act_causes s w i (Question a W) Shut = Some (NotOpen i) ∷ []
act_causes s w i (Question a W) (Opened x) = when (nat_lt last_tick a) LateTick ∷ ask_causes i a W x []
act_causes s w i Retiring Shut = Some (NotOpen i) ∷ []
act_causes s w i Retiring (Opened x) = []

abbrev pub join_causes : (i a W : ℕ) → Standing → List (Option CallFault) → List (Option CallFault)
join_causes i a W Shut rest = rest
join_causes i a W (Opened x) rest = ask_causes i a W x rest

abbrev pub causes_over : (w : ℕ → ℕ) (a W i m : ℕ) → History → List (Option CallFault)
causes_over w a W i zero h = []
causes_over w a W i (suc m) h = join_causes i a W (since w i h) (causes_over w a W (suc i) m h)

abbrev pub slab_cause : Shape → Brought → Option CallFault
slab_cause s Own = None
slab_cause s (Other slab) = when (not (length slab == entries s)) SlabLength

abbrev pub causes : Shape → (w : ℕ → ℕ) → PlainCall → Brought → History → List (Option CallFault)
causes s w (At i act) b h = slab_cause s b ∷ when (not (nat_lt i s.tracks)) NoSuchTrack ∷ act_causes s w i act (since w i h)
causes s w (Total a W) b h =
    slab_cause s b ∷ when (nat_lt last_tick a) LateTick ∷ when (not (between 1 1048576 W)) NoWindow ∷ causes_over w a W 0 s.tracks h
causes s w Ending b h = []

abbrev pub refusal_of : Outcome → Option CallFault
refusal_of (Ok answer) = None
refusal_of (Err fault) = Some fault

-- the refusal of an unsound stretch, which is also that of a full one
abbrev pub NotSixteen : Outcome → Type 0
NotSixteen (Ok answer) = Unit {0}
NotSixteen (Err fault) = call_fault_number fault ≡ 16 → ⊥

-- WHAT EACH CALL OF A RUN GETS

-- its answer is right; a line weighs what its characters weigh; it is refused by the first of its causes, and accepted without one
pub record EventRight (s : Shape) (w : ℕ → ℕ) (e : Event) (h : History) : Type 0 where
  pub answer : AnswerRight s w e.made.call e.outcome h
  pub weighs : LineWeighs w e.made.call e.outcome
  pub caused : refusal_of e.outcome ≡ verdict (causes s w e.made.call e.made.slab h)
  pub sound : NotSixteen e.outcome

abbrev pub EventsRight : Shape → (w : ℕ → ℕ) → History → Type 0
EventsRight s w [] = Unit {0}
EventsRight s w (e ∷ h) = EventRight s w e h × EventsRight s w h

-- WHAT A RUN LEAVES

-- r for a sum: the largest whole number with l × (2^r − 1) below it; 0 for the sum 0
abbrev pub ExponentFor : (l sum r : ℕ) → Type 0
ExponentFor l zero r = r ≡ 0
ExponentFor l (suc m) r = Largest l (suc m) r

-- b is at most (l + 1) × (r + 1), with r for the track's own sum
pub record FewBuckets (l sum b : ℕ) : Type 0 where
  pub r : ℕ
  pub largest : ExponentFor l sum r
  pub few : b ≤ (l + 1) * (r + 1)

-- the record's b is the number of the buckets that the insertion steps leave, and the stretch holds exactly these and then
-- zero entries
pub record KeptAs (x : Since) (held : Held) (stretch : List Entry) : Type 0 where
  pub count : held.buckets ≡ length (buckets_of x)
  pub fits : length (buckets_of x) ≤ length stretch
  pub entries : stretch ≡ buckets_of x ++ zeros (length stretch - length (buckets_of x))
  pub few : FewBuckets (x.k / 2) (own_sum x) held.buckets

abbrev pub Kept : Standing → Track → List Entry → Type 0
Kept Shut Unopened stretch = Unit {0}
Kept Shut (Open held) stretch = ⊥
Kept (Opened x) Unopened stretch = ⊥
Kept (Opened x) (Open held) stretch = KeptAs x held stretch

module _ (s : Shape) (w : ℕ → ℕ) (slab : List Entry) where
  pub record RunRight (ms : List Made) : Type 0 where
    pub events : EventsRight s w (run s w slab ms).history
    pub kept : (i : ℕ) → i < s.tracks
        → Kept (since w i (run s w slab ms).history) (slice_index_or (run s w slab ms).state.table i Unopened)
        (stretch_at s.stretch i (run s w slab ms).state.slab)

-- CALLS THAT CHANGE PLACES

abbrev pub Names : PlainCall → ℕ → Type 0
Names (At i act) j = i ≡ j
Names (Total a W) j = ⊥
Names Ending j = ⊥

module _ (s : Shape) (w : ℕ → ℕ) (slab : List Entry) where
  -- both get what they got before, everything after them gets what it got before, and the state after all is the same
  pub record Swapped (before : List Made) (a b : Made) (after : List Made) : Type 0 where
    pub past : History
    pub later : History
    pub first : Event
    pub second : Event
    pub place : length past ≡ length before
    pub first_is : first.made ≡ a
    pub second_is : second.made ≡ b
    pub one_way : (run s w slab (before ++ (a ∷ b ∷ after))).history ≡ later ++ (second ∷ first ∷ past)
    pub other_way : (run s w slab (before ++ (b ∷ a ∷ after))).history ≡ later ++ (first ∷ second ∷ past)
    pub same : (run s w slab (before ++ (a ∷ b ∷ after))).state ≡ (run s w slab (before ++ (b ∷ a ∷ after))).state

  -- two neighbouring calls that name different tracks can change places anywhere in a list
  abbrev pub Commutes : Type 0
  Commutes = (before : List Made) (a b : Made) (after : List Made) (i j : ℕ)
      → Names a.call i → Names b.call j → (i ≢ j)
      → Strangers s (before ++ (a ∷ b ∷ after)) → Swapped before a b after

-- THE LAW

-- for every shape, every slab of its length, whatever it holds, and every list of calls, each with that slab or with one of
-- another length: every call gets what is right, every track keeps what is right, and calls on different tracks change places
abbrev pub LawOverRuns : (w : ℕ → ℕ) → Type 0
LawOverRuns w = (s : Shape) (slab : List Entry) → length slab ≡ entries s
    → ((ms : List Made) → Strangers s ms → RunRight s w slab ms) × Commutes s w slab

-- WHAT ONE CALL SAYS OF EVERY HISTORY

-- what a call gets of this state is right, whatever history left the state
abbrev pub Truthful : Shape → (w : ℕ → ℕ) → State → PlainCall → Outcome → Type 0
Truthful s w st c outcome = (first : List Entry) → length first ≡ entries s → (ms : List Made) → Strangers s ms
    → (run s w first ms).state ≡ st → EventRight s w (record { made = record { call = c; slab = Own }; outcome = outcome }) (run s w first ms).history

-- a call makes every history that left the state before it longer by itself
abbrev pub Extends : Shape → (w : ℕ → ℕ) → State → PlainCall → Outcome → State → Type 0
Extends s w st c outcome after = (first : List Entry) (ms : List Made) → (run s w first ms).state ≡ st
    → run s w first (ms ++ (record { call = c; slab = Own } ∷ []))
    ≡ record { history = record { made = record { call = c; slab = Own }; outcome = outcome } ∷ (run s w first ms).history; state = after }

-- the room's exponent is the largest
abbrev pub LargestIs : Type 0
LargestIs = (l m : ℕ) → 1 ≤ l → 1 ≤ m → Largest l m (largest l m)

-- What the calls mean. A call on a track is a function of that track's record and stretch, lifted by one definition.
use Rattle.std.specs.Prelude.{ℕ, zero, suc, ◌+◌, ◌*◌, ◌/◌, ◌%◌, min, Bool, cond, not, ◌&&◌, List, [], ◌∷◌, ◌++◌, length, take, drop, Some, None, Ok, Err, Option, Result, ◌==◌, nat_lt, slice_index_or, slice_set}
use Rattle.text.specs.Texts.{weighed}
use Rattle.text.specs.declared.faults.TextFault.{TextFault}
use Rattle.theory.specs.Buckets.{total, insertions, within, low, high, closing_figure}
use Rattle.theory.specs.Sound.{sound, zeros}
use Rattle.theory.specs.declared.entries.Entry.{Entry}
use Rattle.histogram.specs.Settings.{room}
use Rattle.law.specs.Shapes.{entries}
use Rattle.law.specs.Tests.{when, verdict, judged, between}
use Rattle.law.specs.Tracks.{Held, Track, Unopened, Open, is_open, largest, Act, Opening, Line, Question, Retiring, PlainCall, At, Total, Ending}
use Rattle.law.specs.declared.faults.CallFault.{CallFault}
use Rattle.law.specs.declared.faults.CallFault.TheVariants.{SlabLength, NoSuchTrack, AlreadyOpen, LateTick, BadK, BadLongest, BadCap, NoRoom, NotOpen, EarlyTick, Text, Unsound, OverCap, Full, BadWindow, NoWindow}
use Rattle.law.specs.declared.kinds.Answer.{Answer}
use Rattle.law.specs.declared.shapes.Shape.{Shape}

-- what a call gets: Ok None where it was accepted and answers nothing, Ok (Some x) where it was accepted and x is its answer,
-- Err fault where it was refused, and programme and slab are as they were
abbrev pub Outcome : Type 0
Outcome = Result (Option Answer) CallFault

-- the last tick, 2^40 − 1
abbrev pub last_tick : ℕ
last_tick = 1099511627775

-- a stretch of p entries: the buckets and then zero entries
abbrev pub padded : ℕ → List Entry → List Entry
padded p bs = take p (bs ++ zeros p)

-- what a call does to one track: what it gets, and the record and the stretch after it
pub record Local : Type 0 where
  pub outcome : Outcome
  pub track : Track
  pub stretch : List Entry

abbrev pub refused : CallFault → Track → List Entry → Local
refused fault track stretch = record { outcome = Err fault; track = track; stretch = stretch }

-- a refusal by the first cause, which changes nothing; or what the accepted call does
abbrev pub unless : List (Option CallFault) → Local → Track → List Entry → Local
unless tests done track stretch = judged (verdict tests) done (λ fault. refused fault track stretch)

-- OPENING

-- the room of a track of k, N and R
abbrev pub room_for : (k N R : ℕ) → ℕ
room_for k N R = room (k / 2) (largest (k / 2) (N * R))

abbrev pub opening_tests : (p t k N R : ℕ) → Track → List (Option CallFault)
opening_tests p t k N R track =
    when (is_open track) AlreadyOpen
    ∷ when (nat_lt last_tick t) LateTick
    ∷ when (not (k % 2 == 0 && between 2 32 k)) BadK
    ∷ when (not (between 1 1048576 N)) BadLongest
    ∷ when (not (between 1 1024 R)) BadCap
    ∷ when (nat_lt p (room_for k N R)) (NoRoom (room_for k N R))
    ∷ []

-- the record of a track that was just opened
abbrev pub opened : (t k N R : ℕ) → Held
opened t k N R =
    record { half = k / 2; window = N; cap = R; top = largest (k / 2) (N * R); tick = t; weight = 0; buckets = 0 }

abbrev pub on_opening : (p t k N R : ℕ) → Track → List Entry → Local
on_opening p t k N R track stretch =
    unless (opening_tests p t k N R track)
    (record { outcome = Ok None; track = Open (opened t k N R); stretch = padded (length stretch) [] })
    track stretch

-- LINE

abbrev pub is_sound : Held → List Entry → Bool
is_sound h stretch = sound h.half h.top h.window h.tick h.buckets stretch

-- the tick's weight starts at 0 if t is later than the own tick
abbrev pub weight_at : Held → ℕ → ℕ
weight_at h t = cond (nat_lt h.tick t) 0 h.weight

-- the buckets that stay when tick t has come
abbrev pub kept_at : Held → ℕ → List Entry → List Entry
kept_at h t stretch = within h.window t (take h.buckets stretch)

-- the weight of a text that was read; a refused one has none
abbrev pub weight_of : Result ℕ TextFault → ℕ
weight_of (Ok v) = v
weight_of (Err fault) = 0

-- the refusal of the text, if it is refused
abbrev pub text_test : Result ℕ TextFault → Option CallFault
text_test (Ok v) = None
text_test (Err fault) = Some (Text fault)

abbrev pub line_tests : (i t : ℕ) → Result ℕ TextFault → Held → List Entry → List (Option CallFault)
line_tests i t reading h stretch =
    when (nat_lt last_tick t) LateTick
    ∷ when (nat_lt t h.tick) (EarlyTick i)
    ∷ text_test reading
    ∷ when (not (is_sound h stretch)) (Unsound i)
    ∷ when (nat_lt h.cap (weight_at h t + weight_of reading)) (OverCap i)
    ∷ when (nat_lt (closing_figure h.half h.top) (total (kept_at h t stretch) + weight_of reading)) (Full i)
    ∷ []

-- the buckets after v arrivals at tick t: what has expired is dropped, then they come one after another
abbrev pub entered : Held → (t v : ℕ) → List Entry → List Entry
entered h t v stretch = insertions h.half v t (kept_at h t stretch)

-- the record after them
abbrev pub with_line : Held → (t v : ℕ) → List Entry → Held
with_line h t v stretch =
    record {
      half = h.half;
      window = h.window;
      cap = h.cap;
      top = h.top;
      tick = t;
      weight = weight_at h t + v;
      buckets = length (entered h t v stretch);
    }

abbrev pub on_line : (i t : ℕ) → Result ℕ TextFault → Track → List Entry → Local
on_line i t reading Unopened stretch = refused (NotOpen i) Unopened stretch
on_line i t reading (Open h) stretch =
    unless (line_tests i t reading h stretch)
    (record {
      outcome = Ok None;
      track = Open (with_line h t (weight_of reading) stretch);
      stretch = padded (length stretch) (entered h t (weight_of reading) stretch);
    })
    (Open h) stretch

-- QUESTION

-- what a question asks of an open track once the tick is one, and a total of each
abbrev pub ask_tests : (i a W : ℕ) → Held → List Entry → List (Option CallFault) → List (Option CallFault)
ask_tests i a W h stretch rest =
    when (nat_lt a h.tick) (EarlyTick i)
    ∷ when (not (between 1 h.window W)) (BadWindow i)
    ∷ when (not (is_sound h stretch)) (Unsound i)
    ∷ rest

-- the buckets that a question counts
abbrev pub counted : (a W : ℕ) → Held → List Entry → List Entry
counted a W h stretch = within W a (take h.buckets stretch)

abbrev pub answer : (a W : ℕ) → Held → List Entry → Answer
answer a W h stretch =
    record { low = low (counted a W h stretch); high = high (counted a W h stretch); k = 2 * h.half; buckets = h.buckets }

abbrev pub on_question : (i a W : ℕ) → Track → List Entry → Local
on_question i a W Unopened stretch = refused (NotOpen i) Unopened stretch
on_question i a W (Open h) stretch =
    unless (when (nat_lt last_tick a) LateTick ∷ ask_tests i a W h stretch [])
    (record { outcome = Ok (Some (answer a W h stretch)); track = Open h; stretch = stretch })
    (Open h) stretch

-- RETIRING

abbrev pub on_retiring : ℕ → Track → List Entry → Local
on_retiring i Unopened stretch = refused (NotOpen i) Unopened stretch
on_retiring i (Open h) stretch = record { outcome = Ok None; track = Unopened; stretch = padded (length stretch) [] }

-- what is done to track i, where a character c weighs w c
abbrev pub acts : Shape → (w : ℕ → ℕ) → ℕ → Act → Track → List Entry → Local
acts s w i (Opening t k N R) = on_opening s.stretch t k N R
acts s w i (Line t text) = on_line i t (weighed w text)
acts s w i (Question a W) = on_question i a W
acts s w i Retiring = on_retiring i

-- THE WHOLE PROGRAMME

-- the table of records, and the slab
pub record State : Type 0 where
  pub table : List Track
  pub slab : List Entry

-- the stretch of track i: p entries from i × p on
abbrev pub stretch_at : (p i : ℕ) → List Entry → List Entry
stretch_at p i slab = take p (drop (i * p) slab)

-- the slab with another stretch of track i
abbrev pub put_stretch : (p i : ℕ) → List Entry → List Entry → List Entry
put_stretch p i stretch slab = take (i * p) slab ++ (stretch ++ drop (i * p + p) slab)

-- what a call gets, and the state after it
pub record Got : Type 0 where
  pub outcome : Outcome
  pub state : State

abbrev pub refusing : State → CallFault → Got
refusing st fault = record { outcome = Err fault; state = st }

abbrev pub placed : Shape → ℕ → Local → State → Got
placed s i d st =
    record {
      outcome = d.outcome;
      state = record { table = slice_set st.table i d.track; slab = put_stretch s.stretch i d.stretch st.slab };
    }

abbrev pub slab_test : Shape → List Entry → Option CallFault
slab_test s slab = when (not (length slab == entries s)) SlabLength

-- a call on track i: the slab and the track's number are tested, and then only its record and its stretch count
abbrev pub lifted : Shape → ℕ → (Track → List Entry → Local) → State → Got
lifted s i f st =
    judged (verdict (slab_test s st.slab ∷ when (not (nat_lt i s.tracks)) NoSuchTrack ∷ []))
    (placed s i (f (slice_index_or st.table i Unopened) (stretch_at s.stretch i st.slab)) st)
    (refusing st)

-- TOTAL

-- what a total asks of the tracks from i on, upward
abbrev pub total_tests : (p a W i : ℕ) → List Entry → List Track → List (Option CallFault)
total_tests p a W i slab [] = []
total_tests p a W i slab (Unopened ∷ tracks) = total_tests p a W (suc i) slab tracks
total_tests p a W i slab (Open h ∷ tracks) = ask_tests i a W h (stretch_at p i slab) (total_tests p a W (suc i) slab tracks)

-- the smaller of two k, where 0 stands for none
abbrev pub smaller : ℕ → ℕ → ℕ
smaller zero other = other
smaller (suc k) zero = suc k
smaller (suc k) (suc other) = min (suc k) (suc other)

abbrev pub joined : Answer → Answer → Answer
joined x y =
    record { low = x.low + y.low; high = x.high + y.high; k = smaller x.k y.k; buckets = x.buckets + y.buckets }

abbrev pub nothing : Answer
nothing = record { low = 0; high = 0; k = 0; buckets = 0 }

abbrev pub total_answer : (p a W i : ℕ) → List Entry → List Track → Answer
total_answer p a W i slab [] = nothing
total_answer p a W i slab (Unopened ∷ tracks) = total_answer p a W (suc i) slab tracks
total_answer p a W i slab (Open h ∷ tracks) = joined (answer a W h (stretch_at p i slab)) (total_answer p a W (suc i) slab tracks)

-- the records of the shape's tracks
abbrev pub tracks_of : Shape → State → List Track
tracks_of s st = take s.tracks st.table

abbrev pub totalled : Shape → (a W : ℕ) → State → Got
totalled s a W st =
    judged (verdict (
    slab_test s st.slab
    ∷ when (nat_lt last_tick a) LateTick
    ∷ when (not (between 1 1048576 W)) NoWindow
    ∷ total_tests s.stretch a W 0 st.slab (tracks_of s st)))
    (record { outcome = Ok (Some (total_answer s.stretch a W 0 st.slab (tracks_of s st))); state = st })
    (refusing st)

-- ANY CALL

abbrev pub called : Shape → (w : ℕ → ℕ) → State → PlainCall → Got
called s w st (At i act) = lifted s i (acts s w i act) st
called s w st (Total a W) = totalled s a W st
called s w st Ending = record { outcome = Ok None; state = st }

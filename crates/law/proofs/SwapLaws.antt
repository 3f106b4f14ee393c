-- Calls keep the sizes of table and slab, and calls on different tracks change places.
use Rattle.std.proofs.Common.{◌≡◌, ℕ, ◌+◌, ◌*◌, ◌<◌, ◌≤◌, ◌⊎◌, List, [], ◌∷◌, ◌++◌, length, get_or, sym, refl, ap, ◌∙◌, ap₂, inl, inr, mul-le-mul_right, arith}
use Rattle.law.proofs.SlabLaws.{padded-length, part_length, part_other, put_comm, put_length}
use Rattle.law.proofs.TestLaws.{judged_all}
use Rattle.law.specs.Calls.{Got, Local, State, acts, lifted, placed, refusing, stretch_at}
use Rattle.law.specs.Law.{Commutes, Names}
use Rattle.law.specs.Runs.{Brought, Event, History, Made, Other, Own, Ran, Strange, Strangers, fresh, next, run, run_from, with_slab}
use Rattle.law.specs.Shapes.{entries}
use Rattle.law.specs.Tracks.{Act, At, Ending, Line, Open, Opening, PlainCall, Question, Retiring, Total, Track, Unopened}
use Rattle.law.specs.declared.faults.CallFault.TheVariants.{NoSuchTrack, SlabLength}
use Rattle.law.specs.declared.faults.CallFault.{CallFault}
use Rattle.law.specs.declared.shapes.Shape.{Shape}
use Rattle.std.proofs.lemmas.List.{get_or-set_other, length-replicate, length-set, set_comm}
use Rattle.std.proofs.lemmas.Bool.{cases_lt, eq-eqb, le-ltb, lt-ltb, ne_eqb}
use Rattle.theory.specs.declared.entries.Entry.{Entry}

-- SIZES

-- what is done to one track keeps the length of its stretch
pub acts-length : (s : Shape) (w : ℕ → ℕ) (i : ℕ) (act : Act) (track : Track) (stretch : List Entry)
    → length (acts s w i act track stretch).stretch ≡ length stretch
acts-length s w i (Opening t k N R) track stretch =
    judged_all _ _ _ (λ (d : Local). length d.stretch ≡ length stretch) (padded-length (length stretch) []) (λ fault. refl)
acts-length s w i (Line t text) Unopened stretch = refl
acts-length s w i (Line t text) (Open held) stretch =
    judged_all _ _ _ (λ (d : Local). length d.stretch ≡ length stretch) (padded-length (length stretch) _) (λ fault. refl)
acts-length s w i (Question a W) Unopened stretch = refl
acts-length s w i (Question a W) (Open held) stretch =
    judged_all _ _ _ (λ (d : Local). length d.stretch ≡ length stretch) refl (λ fault. refl)
acts-length s w i Retiring Unopened stretch = refl
acts-length s w i Retiring (Open held) stretch = padded-length (length stretch) []

-- what a function of one track gives for track i of a state
abbrev pub local_at : Shape → ℕ → (Track → List Entry → Local) → State → Local
local_at s i f st = f (get_or st.table i Unopened) (stretch_at s.stretch i st.slab)

module _ (s : Shape) where
  -- the table has a record for each track, and the slab is the programme's
  pub record Sized (st : State) : Type 0 where
    pub table : s.tracks ≤ length st.table
    pub slab : length st.slab ≡ entries s

  pub track_fits : (i : ℕ) (slab : List Entry) → i < s.tracks → length slab ≡ entries s → i * s.stretch + s.stretch ≤ length slab
  track_fits i slab lt e = omega (arith, mul-le-mul_right s.stretch lt)

  pub placed_sized : (i : ℕ) (d : Local) (st : State) → Sized st → i < s.tracks → length d.stretch ≡ s.stretch
      → Sized (placed s i d st).state
  placed_sized i d st z lt e =
      record {
        table = omega (arith, length-set st.table i d.track);
        slab = put_length s.stretch i d.stretch st.slab (track_fits i st.slab lt z.slab) e ∙ z.slab;
      }

  -- a lifted call: a slab of another length, no such track, or what is done to the track
  module _ (i : ℕ) (f : Track → List Entry → Local) (st : State) where
    pub lifted_strange : (length st.slab ≡ entries s → ⊥) → lifted s i f st ≡ refusing st SlabLength
    lifted_strange h = rw (ne_eqb (length st.slab) (entries s) h)

    pub lifted_far : length st.slab ≡ entries s → s.tracks ≤ i → lifted s i f st ≡ refusing st NoSuchTrack
    lifted_far h le = rw (eq-eqb (length st.slab) (entries s) h, le-ltb i s.tracks le)

    pub lifted_near : length st.slab ≡ entries s → i < s.tracks → lifted s i f st ≡ placed s i (local_at s i f st) st
    lifted_near h lt = rw (eq-eqb (length st.slab) (entries s) h, lt-ltb i s.tracks lt)

-- WHAT A CALL THAT NAMES A TRACK DOES

module _ (s : Shape) (w : ℕ → ℕ) where
  -- a call with the slab that it brings
  abbrev got : State → Made → Got
  got st m = with_slab s w st m.call m.slab

  -- it refuses every state of the right sizes
  abbrev Refuses : Made → CallFault → Type 0
  Refuses m fault = (st : State) → Sized s st → got st m ≡ refusing st fault

  -- or it does to track i what a function of one track does
  record Places (m : Made) (i : ℕ) (f : Track → List Entry → Local) : Type 0 where
    near : i < s.tracks
    keeps : (track : Track) (stretch : List Entry) → length (f track stretch).stretch ≡ length stretch
    does : (st : State) → Sized s st → got st m ≡ placed s i (local_at s i f st) st

  data Way (m : Made) (i : ℕ) : Type 0 where
    refuses : (fault : CallFault) → Refuses m fault → Way m i
    places : (f : Track → List Entry → Local) → Places m i f → Way m i

  own_way : (i : ℕ) (act : Act) → (i < s.tracks) ⊎ (s.tracks ≤ i) → Way (record { call = At i act; slab = Own }) i
  own_way i act (inl lt) =
      places (acts s w i act) (record {
        near = lt;
        keeps = acts-length s w i act;
        does = λ st z. lifted_near s i (acts s w i act) st z.slab lt;
      })
  own_way i act (inr le) = refuses NoSuchTrack (λ st z. lifted_far s i (acts s w i act) st z.slab le)

  way : (c : PlainCall) (b : Brought) (i : ℕ) → Names c i → Strange s b → Way (record { call = c; slab = b }) i
  way (At j act) Own i e h = rw (← e) (own_way j act (cases_lt j s.tracks))
  way (At j act) (Other slab) i e h =
      refuses SlabLength (λ st z.
      ap (λ (g : Got). record { outcome = g.outcome; state = record { table = g.state.table; slab = st.slab } })
      (lifted_strange s j (acts s w j act) (record { table = st.table; slab = slab }) h))
  way (Total a W) b i e h = absurd e
  way Ending b i e h = absurd e

  places_length : (m : Made) (i : ℕ) (f : Track → List Entry → Local) → Places m i f
      → (st : State) → Sized s st → length (local_at s i f st).stretch ≡ s.stretch
  places_length m i f p st z =
      p.keeps (get_or st.table i Unopened) (stretch_at s.stretch i st.slab)
      ∙ part_length s.stretch i st.slab (track_fits s i st.slab p.near z.slab)

  -- SIZES STAY

  way_sized : (m : Made) (i : ℕ) → Way m i → (st : State) → Sized s st → Sized s (got st m).state
  way_sized m i (refuses fault h) st z = rw (h st z) z
  way_sized m i (places f p) st z =
      rw (p.does st z) (placed_sized s i (local_at s i f st) st z p.near (places_length m i f p st z))

  call_sized : (c : PlainCall) (b : Brought) → Strange s b → (st : State) → Sized s st → Sized s (with_slab s w st c b).state
  call_sized (At i act) b h st z = way_sized (record { call = At i act; slab = b }) i (way (At i act) b i refl h) st z
  call_sized (Total a W) Own h st z = judged_all _ _ _ (λ (g : Got). Sized s g.state) z (λ fault. z)
  call_sized (Total a W) (Other slab) h st z =
      judged_all _ _ _ (λ (g : Got). Sized s (record { table = g.state.table; slab = st.slab })) z (λ fault. z)
  call_sized Ending Own h st z = z
  call_sized Ending (Other slab) h st z = z

  pub run_sized : (g : Ran) (ms : List Made) → Strangers s ms → Sized s g.state → Sized s (run_from s w g ms).state
  run_sized g [] h z = z
  run_sized g (m ∷ ms) h z = run_sized (next s w g m) ms h.1 (call_sized m.call m.slab h.0 g.state z)

  -- TWO CALLS

  -- what two calls get and leave, either way round
  record Trade (st : State) (a b : Made) : Type 0 where
    first : (got (got st b).state a).outcome ≡ (got st a).outcome
    second : (got (got st a).state b).outcome ≡ (got st b).outcome
    state : (got (got st a).state b).state ≡ (got (got st b).state a).state

  trade_turned : (st : State) (a b : Made) → Trade st b a → Trade st a b
  trade_turned st a b t = record { first = t.second; second = t.first; state = sym t.state }

  trade_refused : (a b : Made) (fault : CallFault) → Refuses a fault
      → (st : State) → Sized s st → Sized s (got st b).state → Trade st a b
  trade_refused a b fault h st z later =
      record {
        first = rw (h (got st b).state later, h st z) refl;
        second = rw (h st z) refl;
        state = rw (h st z, h (got st b).state later) refl;
      }

  -- after something was placed at another track, a call sees what it saw before
  after_placed : (m : Made) (i j : ℕ) (d : Local) (f : Track → List Entry → Local) → Places m j f → i < s.tracks → (i ≡ j → ⊥)
      → (st : State) → Sized s st → length d.stretch ≡ s.stretch
      → got (placed s i d st).state m ≡ placed s j (local_at s j f st) (placed s i d st).state
  after_placed m i j d f p lt ne st z len =
      p.does (placed s i d st).state (placed_sized s i d st z lt len)
      ∙ ap₂ (λ (track : Track) (stretch : List Entry). placed s j (f track stretch) (placed s i d st).state)
      (get_or-set_other st.table i j d.track Unopened (λ e. ne (sym e)))
      (part_other s.stretch i j d.stretch st.slab
      (track_fits s i st.slab lt z.slab) (track_fits s j st.slab p.near z.slab) len ne)

  trade_placed : (a b : Made) (i j : ℕ) (f g : Track → List Entry → Local) → Places a i f → Places b j g → (i ≡ j → ⊥)
      → (st : State) → Sized s st → Trade st a b
  trade_placed a b i j f g p q ne st z =
      let x : Local = local_at s i f st in
      let y : Local = local_at s j g st in
      let lx : length x.stretch ≡ s.stretch = places_length a i f p st z in
      let ly : length y.stretch ≡ s.stretch = places_length b j g q st z in
      let one : got (got st a).state b ≡ placed s j y (placed s i x st).state =
      rw (p.does st z) (after_placed b i j x g q p.near ne st z lx) in
      let two : got (got st b).state a ≡ placed s i x (placed s j y st).state =
      rw (q.does st z) (after_placed a j i y f p q.near (λ e. ne (sym e)) st z ly) in
      record {
        first = rw (two, p.does st z) refl;
        second = rw (one, q.does st z) refl;
        state = rw (
          one,
          two,
          set_comm st.table i j x.track y.track ne,
          put_comm s.stretch i j x.stretch y.stretch st.slab (track_fits s i st.slab p.near z.slab)
              (track_fits s j st.slab q.near z.slab) lx ly ne,
        ) refl;
      }

  trade_ways : (a b : Made) (i j : ℕ) → (i ≡ j → ⊥) → Way a i → Way b j → (st : State) → Sized s st → Trade st a b
  trade_ways a b i j ne (refuses fault h) other st z = trade_refused a b fault h st z (way_sized b j other st z)
  trade_ways a b i j ne (places f p) (refuses fault h) st z =
      trade_turned st a b (trade_refused b a fault h st z (way_sized a i (places f p) st z))
  trade_ways a b i j ne (places f p) (places g q) st z = trade_placed a b i j f g p q ne st z

  trade : (a b : Made) (i j : ℕ) → Names a.call i → Names b.call j → (i ≡ j → ⊥) → Strange s a.slab → Strange s b.slab
      → (st : State) → Sized s st → Trade st a b
  trade a b i j na nb ne sa sb = trade_ways a b i j ne (way a.call a.slab i na sa) (way b.call b.slab j nb sb)

  -- RUNS IN TWO PARTS

  pub run-append : (g : Ran) (xs ys : List Made) → run_from s w g (xs ++ ys) ≡ run_from s w (run_from s w g xs) ys
  run-append g [] ys = refl
  run-append g (x ∷ xs) ys = run-append (next s w g x) xs ys

  -- what happened before a run stays below what happens in it
  history_apart : (front h : History) (st : State) (ms : List Made)
      → (run_from s w (record { history = front ++ h; state = st }) ms).history
      ≡ (run_from s w (record { history = front; state = st }) ms).history ++ h
  history_apart front h st [] = refl
  history_apart front h st (m ∷ ms) = history_apart (record { made = m; outcome = (got st m).outcome } ∷ front) h (got st m).state ms

  -- and does not matter to the state
  state_apart : (h k : History) (st : State) (ms : List Made)
      → (run_from s w (record { history = h; state = st }) ms).state ≡ (run_from s w (record { history = k; state = st }) ms).state
  state_apart h k st [] = refl
  state_apart h k st (m ∷ ms) =
      let e : Event = record { made = m; outcome = (got st m).outcome } in
      state_apart (e ∷ h) (e ∷ k) (got st m).state ms

  history-length : (g : Ran) (ms : List Made) → length (run_from s w g ms).history ≡ length g.history + length ms
  history-length g [] = omega arith
  history-length g (m ∷ ms) = omega (arith, history-length (next s w g m) ms)

strangers_parts : (s : Shape) (xs ys : List Made) → Strangers s (xs ++ ys) → Strangers s xs × Strangers s ys
strangers_parts s [] ys h = (tt, h)
strangers_parts s (x ∷ xs) ys h = let p = strangers_parts s xs ys h.1 in ((h.0, p.0), p.1)

pub fresh_sized : (s : Shape) (slab : List Entry) → length slab ≡ entries s → Sized s (fresh slab).state
fresh_sized s slab e = record { table = omega (arith, length-replicate 16 Unopened, s.few); slab = e }

pub commutes : (s : Shape) (w : ℕ → ℕ) (slab : List Entry) → length slab ≡ entries s → Commutes s w slab
commutes s w slab size before a b after i j na nb ne str =
    let g : Ran = run s w slab before in
    let parts = strangers_parts s before (a ∷ b ∷ after) str in
    let z : Sized s g.state =
    run_sized s w (fresh slab) before parts.0 (fresh_sized s slab size) in
    let t = trade s w a b i j na nb ne parts.1.0 parts.1.1.0 g.state z in
    let end : State = (got s w (got s w g.state a).state b).state in
    let first : Event = record { made = a; outcome = (got s w g.state a).outcome } in
    let second : Event = record { made = b; outcome = (got s w g.state b).outcome } in
    let one : run s w slab (before ++ (a ∷ b ∷ after)) ≡ run_from s w (record { history = second ∷ first ∷ g.history; state = end }) after =
    rw (run-append s w (fresh slab) before (a ∷ b ∷ after), t.second) refl in
    let two : run s w slab (before ++ (b ∷ a ∷ after)) ≡ run_from s w (record { history = first ∷ second ∷ g.history; state = end }) after =
    rw (run-append s w (fresh slab) before (b ∷ a ∷ after), t.first, ← t.state) refl in
    record {
      past = g.history;
      later = (run_from s w (record { history = []; state = end }) after).history;
      first = first;
      second = second;
      place = omega (arith, history-length s w (fresh slab) before);
      first_is = refl;
      second_is = refl;
      one_way = rw one (history_apart s w [] (second ∷ first ∷ g.history) end after);
      other_way = rw two (history_apart s w [] (first ∷ second ∷ g.history) end after);
      same = rw (one, two) (state_apart s w (second ∷ first ∷ g.history) (first ∷ second ∷ g.history) end after);
    }

-- Every run: what its calls get and what it leaves is right.
use Rattle.std.proofs.Common.{◌≡◌, ℕ, ◌+◌, ◌*◌, ◌<◌, ◌≤◌, not, eqb, ltb, ◌⊎◌, List, [], ◌∷◌, length, get_or, set, Some, None, Ok, Err, Option, sym, refl, ap, ◌∙◌, inl, inr, arith}
use Rattle.law.proofs.CauseLaws.{caused_sound}
use Rattle.law.proofs.LocalLaws.{Holds, LocalAnswer, LocalGood, local_good, refused_local, refused_weighs, settled}
use Rattle.law.proofs.SlabLaws.{part_length, part_other, part_put}
use Rattle.law.proofs.SwapLaws.{Sized, acts-length, commutes, fresh_sized, lifted_far, lifted_near, lifted_strange, placed_sized, track_fits}
use Rattle.law.proofs.TestLaws.{or_else_same, passed, verdict_false, verdict_true}
use Rattle.law.proofs.TotalLaws.{Tracks, total_asks, total_right, total_tests_lem, tracks_from}
use Rattle.law.proofs.TrackLaws.{held_from, kept_as}
use Rattle.law.specs.Calls.{Outcome, Got, Local, State, acts, called, last_tick, placed, put_stretch, refusing, slab_test, stretch_at, total_answer, total_tests, totalled, tracks_of}
use Rattle.law.specs.Law.{AnswerRight, EventRight, EventsRight, Kept, LawOverRuns, LineWeighs, RunRight, Truthful, act_causes, causes, causes_over, refusal_of}
use Rattle.law.specs.Runs.{Brought, Event, History, Made, Opened, Other, Own, Ran, Shut, Standing, Strange, Strangers, changed, fresh, next, run, run_from, since, with_slab}
use Rattle.law.specs.Shapes.{entries}
use Rattle.law.specs.Tests.{between, judged, or_else, verdict, when}
use Rattle.law.specs.Tracks.{Act, At, Ending, Line, Open, Opening, PlainCall, Question, Retiring, Total, Track, Unopened}
use Rattle.law.specs.declared.faults.CallFault.TheVariants.{LateTick, NoSuchTrack, NoWindow, SlabLength}
use Rattle.law.specs.declared.faults.CallFault.{CallFault}
use Rattle.law.specs.declared.shapes.Shape.{Shape}
use Rattle.std.proofs.lemmas.List.{get_or-replicate, get_or-set_other, get_or-set_same, get_or-take, length-take-le}
use Rattle.std.proofs.lemmas.Bool.{cases_eq, cases_lt, cond-false, cond-true, eq-eqb, le-ltb, lt-ltb, ne_eqb, not_from_false, not_from_true}
use Rattle.theory.specs.declared.entries.Entry.{Entry}

module _ (s : Shape) (w : ℕ → ℕ) where
  -- what a call makes of the track that it names, and of another
  changed_same : (i : ℕ) (act : Act) (outcome : Outcome) (y : Standing) → changed w i (At i act) outcome y ≡ settled w act outcome y
  changed_same i act (Ok None) y = cond-true (eqb i i) _ y (eq-eqb i i refl)
  changed_same i act (Ok (Some x)) y = refl
  changed_same i act (Err fault) y = refl

  changed_other : (i j : ℕ) (act : Act) (outcome : Outcome) (y : Standing) → (i ≡ j → ⊥) → changed w i (At j act) outcome y ≡ y
  changed_other i j act (Ok None) y ne = cond-false (eqb i j) _ y (ne_eqb i j ne)
  changed_other i j act (Ok (Some x)) y ne = refl
  changed_other i j act (Err fault) y ne = refl

  local_answer : (i : ℕ) (act : Act) (outcome : Outcome) (h : History) → LocalAnswer act outcome (since w i h) → AnswerRight s w (At i act) outcome h
  local_answer i (Opening t k N R) outcome h q = tt
  local_answer i (Line t text) outcome h q = tt
  local_answer i (Question a W) (Ok None) h q = q
  local_answer i (Question a W) (Ok (Some x)) h q = q
  local_answer i (Question a W) (Err fault) h q = tt
  local_answer i Retiring outcome h q = tt

  refused_answer : (c : PlainCall) (fault : CallFault) (h : History) → AnswerRight s w c (Err fault) h
  refused_answer (At i act) fault h = local_answer i act (Err fault) h (refused_local act fault (since w i h))
  refused_answer (Total a W) fault h = tt
  refused_answer Ending fault h = tt

  -- the invariant of a run
  pub record Good (g : Ran) : Type 0 where
    pub sized : Sized s g.state
    pub tracks : (i : ℕ) → i < s.tracks
        → Holds s.stretch (since w i g.history) (get_or g.state.table i Unopened) (stretch_at s.stretch i g.state.slab)
    pub events : EventsRight s w g.history

  abbrev pub event : PlainCall → Brought → Outcome → Event
  event c b outcome = record { made = record { call = c; slab = b }; outcome = outcome }

  abbrev pub landed : Ran → PlainCall → Brought → Got → Ran
  landed g c b d = record { history = event c b d.outcome ∷ g.history; state = d.state }

  -- an event is right: the refusal of an unsound stretch is not among the causes
  event_right : (c : PlainCall) (b : Brought) (h : History) (outcome : Outcome) → AnswerRight s w c outcome h → LineWeighs w c outcome
      → refusal_of outcome ≡ verdict (causes s w c b h) → EventRight s w (event c b outcome) h
  event_right c b h outcome a v e = record { answer = a; weighs = v; caused = e; sound = caused_sound s w c b h outcome e }

  refused_event : (c : PlainCall) (b : Brought) (h : History) (fault : CallFault) → Some fault ≡ verdict (causes s w c b h)
      → EventRight s w (event c b (Err fault)) h
  refused_event c b h fault e = event_right c b h (Err fault) (refused_answer c fault h) (refused_weighs w c fault) e

  refused_at : (g : Ran) (i : ℕ) (act : Act) (b : Brought) (fault : CallFault) → Some fault ≡ verdict (causes s w (At i act) b g.history) → Good g
      → Good (landed g (At i act) b (refusing g.state fault))
  refused_at g i act b fault e v =
      record { sized = v.sized; tracks = v.tracks; events = (refused_event (At i act) b g.history fault e, v.events) }

  refused_total : (g : Ran) (a W : ℕ) (b : Brought) (fault : CallFault) → Some fault ≡ verdict (causes s w (Total a W) b g.history) → Good g
      → Good (landed g (Total a W) b (refusing g.state fault))
  refused_total g a W b fault e v =
      record { sized = v.sized; tracks = v.tracks; events = (refused_event (Total a W) b g.history fault e, v.events) }

  -- a call on a track of the programme, with the programme's slab
  placed_good : (g : Ran) (i : ℕ) (act : Act) → i < s.tracks → Good g
      → Good (landed g (At i act) Own (placed s i (acts s w i act (get_or g.state.table i Unopened) (stretch_at s.stretch i g.state.slab)) g.state))
  placed_good g i act lt v =
      record {
        sized = placed_sized s i d g.state v.sized lt len;
        tracks = λ j lj. at_track j lj (cases_eq j i);
        events = (
          event_right (At i act) Own g.history d.outcome (local_answer i act d.outcome g.history good.right) good.weighs
              (good.caused ∙ sym cause_is),
          v.events,
        );
      }
    where
      d : Local
      d = acts s w i act (get_or g.state.table i Unopened) (stretch_at s.stretch i g.state.slab)

      fit : (j : ℕ) → j < s.tracks → j * s.stretch + s.stretch ≤ length g.state.slab
      fit j lj = track_fits s j g.state.slab lj v.sized.slab

      full : length (stretch_at s.stretch i g.state.slab) ≡ s.stretch
      full = part_length s.stretch i g.state.slab (fit i lt)

      len : length d.stretch ≡ s.stretch
      len = acts-length s w i act (get_or g.state.table i Unopened) (stretch_at s.stretch i g.state.slab) ∙ full

      good : LocalGood s w i act (since w i g.history) (verdict (act_causes s w i act (since w i g.history))) d
      good = local_good s w i act (since w i g.history) (get_or g.state.table i Unopened) (stretch_at s.stretch i g.state.slab) full
          (v.tracks i lt)

      cause_is : verdict (causes s w (At i act) Own g.history) ≡ verdict (act_causes s w i act (since w i g.history))
      cause_is = verdict_false (not (ltb i s.tracks)) NoSuchTrack (verdict (act_causes s w i act (since w i g.history))) (not_from_true _ (lt-ltb i s.tracks lt))

      at_track : (j : ℕ) → j < s.tracks → (j ≡ i) ⊎ (j ≡ i → ⊥)
          → Holds s.stretch (changed w j (At i act) d.outcome (since w j g.history))
          (get_or (set g.state.table i d.track) j Unopened) (stretch_at s.stretch j (put_stretch s.stretch i d.stretch g.state.slab))
      at_track j lj (inl e) =
          rw (
            e,
            changed_same i act d.outcome (since w i g.history),
            get_or-set_same g.state.table i d.track Unopened (omega (arith, v.sized.table)),
            part_put s.stretch i d.stretch g.state.slab (fit i lt) len,
          ) good.keeps
      at_track j lj (inr ne) =
          rw (
            changed_other j i act d.outcome (since w j g.history) ne,
            get_or-set_other g.state.table i j d.track Unopened ne,
            part_other s.stretch i j d.stretch g.state.slab (fit i lt) (fit j lj) len (λ q. ne (sym q)),
          ) (v.tracks j lj)

  own_at : (g : Ran) (i : ℕ) (act : Act) → Good g → (i < s.tracks) ⊎ (s.tracks ≤ i) → Good (landed g (At i act) Own (called s w g.state (At i act)))
  own_at g i act v (inl lt) = rw (lifted_near s i (acts s w i act) g.state v.sized.slab lt) (placed_good g i act lt v)
  own_at g i act v (inr le) =
      rw (lifted_far s i (acts s w i act) g.state v.sized.slab le)
      (refused_at g i act Own NoSuchTrack
      (sym (verdict_true (not (ltb i s.tracks)) NoSuchTrack _ (not_from_false _ (le-ltb i s.tracks le)))) v)

  -- another slab is refused by its length
  strange_cause : (slab : List Entry) (rest : Option CallFault) → (length slab ≡ entries s → ⊥)
      → or_else (slab_test s slab) rest ≡ Some SlabLength
  strange_cause slab rest h = verdict_true _ SlabLength rest (not_from_false _ (ne_eqb (length slab) (entries s) h))

  strange_at : (g : Ran) (i : ℕ) (act : Act) (slab : List Entry) → (length slab ≡ entries s → ⊥) → Good g
      → Good (landed g (At i act) (Other slab) (with_slab s w g.state (At i act) (Other slab)))
  strange_at g i act slab h v =
      rw (lifted_strange s i (acts s w i act) (record { table = g.state.table; slab = slab }) h)
      (refused_at g i act (Other slab) SlabLength (sym (strange_cause slab _ h)) v)

  -- totals
  module _ (g : Ran) (a W : ℕ) (v : Good g) where
    all_hold : Tracks s w a W g.history g.state.slab 0 (tracks_of s g.state)
    all_hold = tracks_from s w a W g.history g.state.slab 0 (tracks_of s g.state) (λ q lt.
        let near : q < s.tracks = omega (arith, length-take-le s.tracks g.state.table v.sized.table) in
        let e : 0 + q ≡ q = omega arith in
        rw (e, get_or-take s.tracks g.state.table q Unopened near) (v.tracks q near))

    count_is : length (tracks_of s g.state) ≡ s.tracks
    count_is = length-take-le s.tracks g.state.table v.sized.table

    abbrev tests : List (Option CallFault)
    tests =
        slab_test s g.state.slab
        ∷ when (ltb last_tick a) LateTick
        ∷ when (not (between 1 1048576 W)) NoWindow
        ∷ total_tests s.stretch a W 0 g.state.slab (tracks_of s g.state)

    tests_are : verdict tests ≡ verdict (causes s w (Total a W) Own g.history)
    tests_are =
        verdict_false _ SlabLength _ (not_from_true _ (eq-eqb (length g.state.slab) (entries s) v.sized.slab))
        ∙ or_else_same (when (ltb last_tick a) LateTick) _ _ (λ _.
        or_else_same (when (not (between 1 1048576 W)) NoWindow) _ _ (λ _.
        total_tests_lem s w a W g.history g.state.slab 0 (tracks_of s g.state) all_hold
        ∙ ap (λ (m : ℕ). verdict (causes_over w a W 0 m g.history)) count_is))

    total_good : Good (landed g (Total a W) Own (totalled s a W g.state))
    total_good = go (verdict tests) refl
      where
        done : Got
        done = record { outcome = Ok (Some (total_answer s.stretch a W 0 g.state.slab (tracks_of s g.state))); state = g.state }

        go : (o : Option CallFault) → verdict tests ≡ o → Good (landed g (Total a W) Own (judged o done (refusing g.state)))
        go (Some fault) e = refused_total g a W Own fault (sym e ∙ tests_are) v
        go None e =
            record {
              sized = v.sized;
              tracks = v.tracks;
              events = (
                event_right (Total a W) Own g.history done.outcome
                    (rw count_is at ((total_right s w a W g.history g.state.slab 0 (tracks_of s g.state) all_hold
                    (total_asks s.stretch a W 0 g.state.slab (tracks_of s g.state) (passed tests e).1.1.1)).right))
                    tt (sym e ∙ tests_are),
                v.events,
              );
            }

  strange_total : (g : Ran) (a W : ℕ) (slab : List Entry) → (length slab ≡ entries s → ⊥) → Good g
      → Good (landed g (Total a W) (Other slab) (with_slab s w g.state (Total a W) (Other slab)))
  strange_total g a W slab h v =
      let rest : List (Option CallFault) =
      when (ltb last_tick a) LateTick ∷ when (not (between 1 1048576 W)) NoWindow
      ∷ total_tests s.stretch a W 0 slab (tracks_of s (record { table = g.state.table; slab = slab })) in
      rw (strange_cause slab (verdict rest) h) (refused_total g a W (Other slab) SlabLength (sym (strange_cause slab _ h)) v)

  ending_good : (g : Ran) (b : Brought) → Good g → Good (landed g Ending b (record { outcome = Ok None; state = g.state }))
  ending_good g b v =
      record { sized = v.sized; tracks = v.tracks; events = (event_right Ending b g.history (Ok None) tt tt refl, v.events) }

  -- one call more
  pub step_good : (g : Ran) (c : PlainCall) (b : Brought) → Strange s b → Good g → Good (landed g c b (with_slab s w g.state c b))
  step_good g (At i act) Own h v = own_at g i act v (cases_lt i s.tracks)
  step_good g (At i act) (Other slab) h v = strange_at g i act slab h v
  step_good g (Total a W) Own h v = total_good g a W v
  step_good g (Total a W) (Other slab) h v = strange_total g a W slab h v
  step_good g Ending Own h v = ending_good g Own v
  step_good g Ending (Other slab) h v = ending_good g (Other slab) v

  run_good : (g : Ran) (ms : List Made) → Strangers s ms → Good g → Good (run_from s w g ms)
  run_good g [] h v = v
  run_good g (m ∷ ms) h v = run_good (next s w g m) ms h.1 (step_good g m.call m.slab h.0 v)

  fresh_good : (slab : List Entry) → length slab ≡ entries s → Good (fresh slab)
  fresh_good slab e =
      record { sized = fresh_sized s slab e; tracks = λ i lt. get_or-replicate 16 i Unopened Unopened (omega (arith, s.few)); events = tt }

  kept_from : (y : Standing) (k : Track) (es : List Entry) → Holds s.stretch y k es → Kept y k es
  kept_from Shut k es h = rw h tt
  kept_from (Opened x) Unopened es h = absurd (cc)
  kept_from (Opened x) (Open held) es h = let e : held ≡ held_from x = cc in rw (e, h.2) (kept_as s.stretch x h.0)

  pub run_right : (slab : List Entry) → length slab ≡ entries s → (ms : List Made) → Strangers s ms → RunRight s w slab ms
  run_right slab e ms h =
      let v = run_good (fresh slab) ms h (fresh_good slab e) in
      record {
        events = v.events;
        kept = λ i lt. kept_from (since w i (run s w slab ms).history) (get_or (run s w slab ms).state.table i Unopened)
            (stretch_at s.stretch i (run s w slab ms).state.slab) (v.tracks i lt);
      }

pub law_over_runs : (w : ℕ → ℕ) → LawOverRuns w
law_over_runs w s slab e = (run_right s w slab e, commutes s w slab e)

-- what a call gets is right of every history that left the state
pub truthful : (s : Shape) (w : ℕ → ℕ) (st : State) (c : PlainCall) (got : Outcome) → got ≡ (called s w st c).outcome → Truthful s w st c got
truthful s w st c got e first n ms str is =
    let g : Ran = run s w first ms in
    let v = step_good s w g c Own tt (run_good s w (fresh first) ms str (fresh_good s w first n)) in
    rw (e, ← is) v.events.0

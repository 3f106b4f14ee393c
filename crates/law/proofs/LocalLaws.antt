-- One call on one track: it keeps what the track's history says of it, and gets what that history says.
use Rattle.std.proofs.Common.{◌≡◌, ℕ, ◌+◌, ◌*◌, ◌/◌, ◌%◌, ◌≤◌, not, ◌&&◌, eqb, ltb, List, [], ◌∷◌, length, Some, None, Ok, Err, Option, Result, refl, ap, ap₂, arith}
use Rattle.law.proofs.SlabLaws.{padded-length}
use Rattle.law.proofs.TestLaws.{Passed, is_between, not_below, or_else_same, passed, verdict_false, when_false}
use Rattle.law.proofs.TrackLaws.{Fits, answer_right, buckets_fit, closes, half_of, held_from, lined_fits, new_weight, opened_fits, padded-take, passes, top_of, weight_is}
use Rattle.law.specs.Calls.{Outcome, Local, acts, answer, ask_tests, entered, is_sound, kept_at, last_tick, line_tests, opened, opening_tests, padded, refused, room_for, text_test, weight_at, weight_of, with_line}
use Rattle.law.specs.Law.{LineWeighs, Right, act_causes, ask_causes, line_causes, opening_causes, refusal_of}
use Rattle.law.specs.Runs.{Since, Standing, Opened, Shut, acted, buckets_of, count_of, k_of, line_weight, lined, sum_at, true_sum}
use Rattle.law.specs.Tests.{between, judged, or_else, verdict, when}
use Rattle.law.specs.Tracks.{Act, At, Ending, Line, Open, Opening, PlainCall, Question, Retiring, Total, Track, Unopened}
use Rattle.law.specs.declared.faults.CallFault.TheVariants.{AlreadyOpen, BadCap, BadK, BadLongest, BadWindow, EarlyTick, Full, LateTick, NoRoom, NotOpen, OverCap, Unsound}
use Rattle.law.specs.declared.faults.CallFault.{CallFault}
use Rattle.law.specs.declared.shapes.Shape.{Shape}
use Rattle.std.proofs.lemmas.Bool.{le-ltb, not_from_true}
use Rattle.std.proofs.lemmas.Bool.Decides.{nat_tests}
use Rattle.text.proofs.TextLaws.{Verdict, weighed-verdict}
use Rattle.text.specs.Texts.{Weighs, weighed}
use Rattle.text.specs.declared.faults.TextFault.{TextFault}
use Rattle.theory.specs.Buckets.{closing_figure, insertions, total, within}
use Rattle.theory.specs.declared.entries.Entry.{Entry}

-- record and stretch of a track are what its history says
abbrev pub Holds : ℕ → Standing → Track → List Entry → Type 0
Holds p Shut track es = track ≡ Unopened
Holds p (Opened x) track es = Fits p x × (track ≡ Open (held_from x)) × (es ≡ padded p (buckets_of x))

-- an accepted question is answered rightly
abbrev pub LocalAnswer : Act → Outcome → Standing → Type 0
LocalAnswer (Question a W) (Ok (Some x)) y = Right (true_sum W a y) (k_of y) (count_of y) x
LocalAnswer (Question a W) (Ok None) y = ⊥
LocalAnswer (Question a W) (Err fault) y = Unit {0}
LocalAnswer (Opening t k N R) outcome y = Unit {0}
LocalAnswer (Line t text) outcome y = Unit {0}
LocalAnswer Retiring outcome y = Unit {0}

-- how the track stands after the call
abbrev pub settled : (w : ℕ → ℕ) → Act → Outcome → Standing → Standing
settled w act (Ok None) y = acted w act y
settled w act (Ok (Some x)) y = y
settled w act (Err fault) y = y

-- a text that passes weighs what its characters weigh
read_weighs : (w : ℕ → ℕ) (text : List ℕ) → text_test (weighed w text) ≡ None → Weighs w text (line_weight w text)
read_weighs w text = go (weighed w text) (weighed-verdict w text)
  where
    go : (r : Result ℕ TextFault) → Verdict (Weighs w text) text r → text_test r ≡ None → Weighs w text (weight_of r)
    go (Ok v) h e = h.1
    go (Err fault) h e = absurd (cc)

pub refused_local : (act : Act) (fault : CallFault) (y : Standing) → LocalAnswer act (Err fault) y
refused_local (Opening t k N R) fault y = tt
refused_local (Line t text) fault y = tt
refused_local (Question a W) fault y = tt
refused_local Retiring fault y = tt

pub refused_weighs : (w : ℕ → ℕ) (c : PlainCall) (fault : CallFault) → LineWeighs w c (Err fault)
refused_weighs w (At i (Opening t k N R)) fault = tt
refused_weighs w (At i (Line t text)) fault = tt
refused_weighs w (At i (Question a W)) fault = tt
refused_weighs w (At i Retiring) fault = tt
refused_weighs w (Total a W) fault = tt
refused_weighs w Ending fault = tt

-- the test of k
even_k : (k : ℕ) → when (not (eqb (k % 2) 0 && between 2 32 k)) BadK ≡ None → (k ≡ 2 * (k / 2)) × (1 ≤ k / 2)
even_k k e = let p : (k % 2 ≡ 0) × (2 ≤ k) = grind (arith, nat_tests) in (omega arith, omega arith)

-- a call on track i that stood at y, with the verdict v
pub record LocalGood (s : Shape) (w : ℕ → ℕ) (i : ℕ) (act : Act) (y : Standing) (v : Option CallFault) (d : Local) : Type 0 where
  pub keeps : Holds s.stretch (settled w act d.outcome y) d.track d.stretch
  pub caused : refusal_of d.outcome ≡ v
  pub right : LocalAnswer act d.outcome y
  pub weighs : LineWeighs w (At i act) d.outcome

module _ (s : Shape) (w : ℕ → ℕ) (i : ℕ) where
  -- a refusal changes nothing
  stay : (act : Act) (y : Standing) (k : Track) (es : List Entry) → Holds s.stretch y k es → (fault : CallFault)
      → LocalGood s w i act y (Some fault) (refused fault k es)
  stay act y k es h fault =
      record { keeps = h; caused = refl; right = refused_local act fault y; weighs = refused_weighs w (At i act) fault }

  -- a call whose tests come to its causes is refused by them, or passes them all
  by_tests : (act : Act) (y : Standing) (k : Track) (es : List Entry) (done : Local) (tests causes : List (Option CallFault))
      → Holds s.stretch y k es → verdict tests ≡ verdict causes → (Passed causes → LocalGood s w i act y None done)
      → LocalGood s w i act y (verdict causes) (judged (verdict tests) done (λ fault. refused fault k es))
  by_tests act y k es done tests causes h e d = rw e (go (verdict causes) (passed causes))
    where
      go : (v : Option CallFault) → (v ≡ None → Passed causes) → LocalGood s w i act y v (judged v done (λ fault. refused fault k es))
      go None p = d (p refl)
      go (Some fault) p = stay act y k es h fault

  good_opening : (t k N R : ℕ) (es : List Entry) → length es ≡ s.stretch
      → LocalGood s w i (Opening t k N R) Shut (verdict (opening_causes s.stretch t k N R)) (acts s w i (Opening t k N R) Unopened es)
  good_opening t k N R es n =
      by_tests (Opening t k N R) Shut Unopened es
      (record { outcome = Ok None; track = Open (opened t k N R); stretch = padded (length es) [] })
      (opening_tests s.stretch t k N R Unopened) (opening_causes s.stretch t k N R) refl refl (λ p.
      let even = even_k k p.1.0 in
      record {
        keeps = (
          opened_fits s.stretch t k N R even.0 even.1 (is_between 1 1048576 N BadLongest p.1.1.0).0 (is_between 1 1024 R BadCap p.1.1.1.0).0
              (not_below s.stretch (room_for k N R) (NoRoom (room_for k N R)) p.1.1.1.1.0),
          refl,
          ap (λ (m : ℕ). padded m []) n,
        );
        caused = refl;
        right = tt;
        weighs = tt;
      })

  module _ (x : Since) (h : Fits s.stretch x) where
    abbrev kept : Track
    kept = Open (held_from x)

    abbrev es : List Entry
    es = padded s.stretch (buckets_of x)

    here : Holds s.stretch (Opened x) kept es
    here = (h, refl, refl)

    sound_test : when (not (is_sound (held_from x) es)) (Unsound i) ≡ None
    sound_test = when_false (not (is_sound (held_from x) es)) (Unsound i) (not_from_true _ (passes s.stretch x h))

    kept_is : (t : ℕ) → kept_at (held_from x) t es ≡ within x.window t (buckets_of x)
    kept_is t = ap (within x.window t) (padded-take s.stretch (buckets_of x) (buckets_fit s.stretch x h))

    entered_is : (t v : ℕ) → entered (held_from x) t v es ≡ buckets_of (lined x t v)
    entered_is t v = ap (insertions (half_of x) v t) (kept_is t)

    -- a line's tests are its causes: the stretch is sound, and there is room
    line_tests_lem : (t : ℕ) (text : List ℕ) → verdict (line_tests i t (weighed w text) (held_from x) es) ≡ verdict (line_causes w i t text x)
    line_tests_lem t text =
        or_else_same (when (ltb last_tick t) LateTick) _ _ (λ _.
        or_else_same (when (ltb t x.tick) (EarlyTick i)) _ _ (λ et.
        or_else_same (text_test (weighed w text)) _ _ (λ _. later (not_below t x.tick (EarlyTick i) et))))
      where
        v : ℕ
        v = line_weight w text

        over : ℕ → Option CallFault
        over n = when (ltb x.cap (n + line_weight w text)) (OverCap i)

        full : Option CallFault
        full = when (ltb (closing_figure (half_of x) (top_of x)) (total (kept_at (held_from x) t es) + line_weight w text)) (Full i)

        later : x.tick ≤ t → or_else (when (not (is_sound (held_from x) es)) (Unsound i)) (or_else (over (weight_at (held_from x) t)) (or_else full None))
            ≡ or_else (over (sum_at t x.lines)) None
        later le =
            rw (sound_test, weight_is s.stretch x h t v le)
            (or_else_same (over (sum_at t x.lines)) _ _ (λ e.
            let under : sum_at t x.lines + v ≤ x.cap = not_below x.cap (sum_at t x.lines + v) (OverCap i) e in
            verdict_false _ (Full i) None
            (le-ltb (closing_figure (half_of x) (top_of x)) (total (kept_at (held_from x) t es) + v)
            (omega (arith, ap total (kept_is t), closes s.stretch x h t v le under)))))

    good_line : (t : ℕ) (text : List ℕ) → LocalGood s w i (Line t text) (Opened x) (verdict (line_causes w i t text x)) (acts s w i (Line t text) kept es)
    good_line t text =
        by_tests (Line t text) (Opened x) kept es
        (record {
          outcome = Ok None;
          track = Open (with_line (held_from x) t (line_weight w text) es);
          stretch = padded (length es) (entered (held_from x) t (line_weight w text) es);
        })
        (line_tests i t (weighed w text) (held_from x) es) (line_causes w i t text x) here (line_tests_lem t text) (λ p.
        let v : ℕ = line_weight w text in
        let later = not_below t x.tick (EarlyTick i) p.1.0 in
        record {
          keeps = (
            lined_fits s.stretch x h t v later (not_below x.cap (sum_at t x.lines + v) (OverCap i) p.1.1.1.0),
            ap₂ (λ (n : ℕ) (bs : List Entry). Open (record {
              half = half_of x;
              window = x.window;
              cap = x.cap;
              top = top_of x;
              tick = t;
              weight = n;
              buckets = length bs;
            })) (new_weight s.stretch x h t v later) (entered_is t v),
            ap₂ padded (padded-length s.stretch (buckets_of x)) (entered_is t v),
          );
          caused = refl;
          right = tt;
          weighs = read_weighs w text p.1.1.0;
        })

    pub ask_tests_lem : (a W : ℕ) (rest others : List (Option CallFault)) → verdict rest ≡ verdict others
        → verdict (ask_tests i a W (held_from x) es rest) ≡ verdict (ask_causes i a W x others)
    ask_tests_lem a W rest others e =
        or_else_same (when (ltb a x.tick) (EarlyTick i)) _ _ (λ _.
        or_else_same (when (not (between 1 x.window W)) (BadWindow i)) _ _ (λ _. rw sound_test e))

    good_question : (a W : ℕ) → LocalGood s w i (Question a W) (Opened x) (verdict (when (ltb last_tick a) LateTick ∷ ask_causes i a W x []))
        (acts s w i (Question a W) kept es)
    good_question a W =
        by_tests (Question a W) (Opened x) kept es
        (record { outcome = Ok (Some (answer a W (held_from x) es)); track = kept; stretch = es })
        (when (ltb last_tick a) LateTick ∷ ask_tests i a W (held_from x) es []) (when (ltb last_tick a) LateTick ∷ ask_causes i a W x []) here
        (or_else_same (when (ltb last_tick a) LateTick) _ _ (λ _. ask_tests_lem a W [] [] refl))
        (λ p. record {
          keeps = here;
          caused = refl;
          right = answer_right s.stretch x h a W (not_below a x.tick (EarlyTick i) p.1.0) (is_between 1 x.window W (BadWindow i) p.1.1.0).1;
          weighs = tt;
        })

    good_open : (act : Act) → LocalGood s w i act (Opened x) (verdict (act_causes s w i act (Opened x))) (acts s w i act kept es)
    good_open (Opening t k N R) = stay (Opening t k N R) (Opened x) kept es here AlreadyOpen
    good_open (Line t text) = good_line t text
    good_open (Question a W) = good_question a W
    good_open Retiring = record { keeps = refl; caused = refl; right = tt; weighs = tt }

  good_shut : (act : Act) (es : List Entry) → length es ≡ s.stretch
      → LocalGood s w i act Shut (verdict (act_causes s w i act Shut)) (acts s w i act Unopened es)
  good_shut (Opening t k N R) es n = good_opening t k N R es n
  good_shut (Line t text) es n = stay (Line t text) Shut Unopened es refl (NotOpen i)
  good_shut (Question a W) es n = stay (Question a W) Shut Unopened es refl (NotOpen i)
  good_shut Retiring es n = stay Retiring Shut Unopened es refl (NotOpen i)

  pub local_good : (act : Act) (y : Standing) (k : Track) (es : List Entry) → length es ≡ s.stretch → Holds s.stretch y k es
      → LocalGood s w i act y (verdict (act_causes s w i act y)) (acts s w i act k es)
  local_good act Shut k es n h = rw h (good_shut act es n)
  local_good act (Opened x) k es n h = rw (h.1, h.2) (good_open x h.0 act)

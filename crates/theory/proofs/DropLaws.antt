-- Dropping, by levels and by the test of each bucket.
use Rattle.std.proofs.Common.{◌≡◌, ℕ, suc, ◌+◌, ◌<◌, ◌≤◌, ltb, leb, List, [], ◌∷◌, length, get_or, refl, arith}
use Rattle.std.proofs.lemmas.Bool.{cond_both, ltb-false}
use Rattle.std.proofs.lemmas.Bool.Decides.{nat_tests}
use Rattle.theory.proofs.BracketLaws.{falls_at, none_within}
use Rattle.theory.proofs.PushLaws.{filled_from}
use Rattle.theory.proofs.Views.{Gone, Stands, cap, fresh, kept, trim}
use Rattle.theory.specs.Arrivals.{Falling}
use Rattle.theory.specs.Buckets.{size, within}
use Rattle.theory.specs.Levels.{Canonical, Filled, flat, row}
use Rattle.theory.specs.declared.entries.Entry.{Entry}

module _ (N t : ℕ) where
  fresh_le : (ss : List ℕ) → length (fresh N t ss) ≤ length ss
  fresh_le [] = omega arith
  fresh_le (s ∷ ss) = grind (arith, nat_tests, fresh_le ss)

  cap-canon : (l : ℕ) (ss : List ℕ) → length ss ≤ l + 1 → Canonical l (cap ss)
  cap-canon l [] h = tt
  cap-canon l (s ∷ ss) h = (omega arith, h, tt, tt)

  filled_trim : (l : ℕ) (ss : List ℕ) (rest : List (List ℕ)) → Filled l ss rest → Filled l ss (trim N t rest)
  filled_trim l ss [] h = tt
  filled_trim l ss (next ∷ rest) h = filled_from l ss (trim N t (next ∷ rest)) h

  pub trim_canon : (l : ℕ) (levels : List (List ℕ)) → Canonical l levels → Canonical l (trim N t levels)
  trim_canon l [] c = tt
  trim_canon l (ss ∷ rest) c =
      cond_both (leb (length ss) (length (fresh N t ss))) (ss ∷ trim N t rest) (cap (fresh N t ss)) (Canonical l)
      (λ _. (c.0, c.1, filled_trim l ss rest c.2, trim_canon l rest c.3))
      (λ _. cap-canon l (fresh N t ss) (omega (arith, fresh_le ss)))

  row_all : (e : ℕ) (ss : List ℕ) (older : List Entry) → length ss ≤ length (fresh N t ss) → kept N t (row e ss older) ≡ row e ss (kept N t older)
  row_all e [] older h = refl
  row_all e (s ∷ ss) older h = grind (arith, nat_tests, row_all e ss older)

  row-some : (e : ℕ) (ss : List ℕ) (older : List Entry) → length (fresh N t ss) < length ss → kept N t (row e ss older) ≡ row e (fresh N t ss) []
  row-some e [] older h = absurd (omega arith)
  row-some e (s ∷ ss) older h = grind (arith, nat_tests, row-some e ss older)

  flat-cap : (e : ℕ) (ss : List ℕ) → flat e (cap ss) ≡ row e ss []
  flat-cap e [] = refl
  flat-cap e (s ∷ ss) = refl

  pub flat_trim : (e : ℕ) (levels : List (List ℕ)) → flat e (trim N t levels) ≡ kept N t (flat e levels)
  flat_trim e [] = refl
  flat_trim e (ss ∷ rest) =
      grind (arith, nat_tests, flat_trim (suc e) rest, row_all e ss (flat (suc e) rest), row-some e ss (flat (suc e) rest), flat-cap e (fresh N t ss))

module _ (N t t' : ℕ) (us : List ℕ) (falls : Falling us) where
  gone_from : (p : ℕ) → get_or us p 0 + N ≤ t' → Gone N t' us p
  gone_from p h k le lt = omega (arith, falls_at us falls p k le lt)

  pub kept_stands : t ≤ t' → (p : ℕ) (bs : List Entry) → Stands N t us p bs → Stands N t' us p (kept N t' bs)
  kept_stands le p [] h = λ k a b. omega (arith, h k a b)
  kept_stands le p (b ∷ bs) h =
      cond_both (ltb t' (b.stamp + N)) (b ∷ kept N t' bs) [] (Stands N t' us p)
      (λ _. (h.0, h.1, kept_stands le (p + size b) bs h.2))
      (λ e. gone_from p (rw h.1 (ltb-false t' (b.stamp + N) e)))

  pub kept_within : (p : ℕ) (bs : List Entry) → Stands N t us p bs → kept N t' bs ≡ within N t' bs
  kept_within p [] h = refl
  kept_within p (b ∷ bs) h =
      let on : kept N t' bs ≡ within N t' bs = kept_within (p + size b) bs h.2 in
      let off : get_or us p 0 + N ≤ t' → within N t' bs ≡ [] = λ out.
      none_within N t us falls N t' (p + size b) bs (λ k le lt. gone_from p out k (omega arith) lt) h.2 in
      let first : get_or us p 0 ≡ b.stamp = h.1 in
      grind (arith, nat_tests)

-- Worked examples: one table, and one statement about it.
use Rattle.std.specs.Prelude.{◌≡◌, ℕ, List, [], ◌∷◌, map, length, take, Some, Ok, codes}
use Rattle.std.specs.List.{AllByRecursion}
use Rattle.text.specs.Texts.{weighed}
use Rattle.text.specs.Weights.{blank_counting, blank_free}
use Rattle.theory.specs.Buckets.{size}
use Rattle.theory.specs.Sound.{zeros}
use Rattle.law.specs.Calls.{Local, on_line, on_opening, on_question, room_for}
use Rattle.law.specs.Tracks.{Unopened}

pub data Example : Type 0 where
  -- v characters at one tick, under k: the sizes of the buckets from the newest, and what is answered
  Characters : (k v : ℕ) (sizes : List ℕ) (low high : ℕ) → Example
  -- one character at tick t under N, asked at a for the window W
  Asked : (N t a W low high : ℕ) → Example
  -- the room of a track of k, N and R
  Room : (k N R room : ℕ) → Example
  -- what a text weighs with its blanks, and without
  Weight : (text : List ℕ) (counting free : ℕ) → Example

-- a track is opened at tick t in 40 entries, a text of weight v comes at that tick, and it is asked at a for the window W
abbrev pub asked : (k N R t v a W : ℕ) → Local
asked k N R t v a W =
    let opened = on_opening 40 t k N R Unopened (zeros 40) in
    let entered = on_line 0 t (Ok v) opened.track opened.stretch in
    on_question 0 a W entered.track entered.stretch

abbrev pub Shown : Example → Type 0
Shown (Characters k v sizes low high) =
    ((asked k 1 v 0 v 0 1).outcome ≡ Ok (Some (record { low = low; high = high; k = k; buckets = length sizes })))
    × (map size (take (length sizes) (asked k 1 v 0 v 0 1).stretch) ≡ sizes)
Shown (Asked N t a W low high) = (asked 2 N 1 t 1 a W).outcome ≡ Ok (Some (record { low = low; high = high; k = 2; buckets = 1 }))
Shown (Room k N R room) = room_for k N R ≡ room
Shown (Weight text counting free) = (weighed blank_counting text ≡ Ok counting) × (weighed blank_free text ≡ Ok free)

abbrev pub examples : List Example
examples =
    Characters 2 5 (1 ∷ 2 ∷ 2 ∷ []) 4 5
    ∷ Characters 2 7 (1 ∷ 2 ∷ 4 ∷ []) 4 7
    ∷ Characters 6 5 (1 ∷ 1 ∷ 1 ∷ 2 ∷ []) 4 5
    ∷ Asked 5 10 14 5 1 1
    ∷ Asked 5 10 15 5 0 0
    ∷ Room 2 1 1 3
    ∷ Room 6 100 10 37
    ∷ Room 32 1048576 1024 460
    ∷ Weight (codes "a bc") 4 3
    ∷ []

abbrev pub Worked : Type 0
Worked = AllByRecursion Shown examples

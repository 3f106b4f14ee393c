-- What a programme keeps of a track, and the calls as the law speaks of them.
use Rattle.std.specs.Prelude.{ℕ, zero, suc, ◌-◌, ◌*◌, ◌^◌, Bool, true, false, cond, List, nat_lt}
use Rattle.law.specs.declared.kinds.Call.{Call}
use Rattle.law.specs.declared.kinds.Call.TheVariants as call

-- the record of an open track: l = k ÷ 2, the longest window N, the cap R for one tick, the largest exponent r, the own tick,
-- the weight accepted at it, and the number of buckets
pub record Held : Type 0 where
  pub half : ℕ
  pub window : ℕ
  pub cap : ℕ
  pub top : ℕ
  pub tick : ℕ
  pub weight : ℕ
  pub buckets : ℕ

pub data Track : Type 0 where
  Unopened : Track
  Open : Held → Track

abbrev pub is_open : Track → Bool
is_open Unopened = false
is_open (Open held) = true

-- the largest whole number r up to a limit with l × (2^r − 1) below m; 0 without one
unfoldable pub largest_up_to : (limit l m : ℕ) → ℕ
largest_up_to zero l m = 0
largest_up_to (suc q) l m = cond (nat_lt (l * (2 ^ (suc q) - 1)) m) (suc q) (largest_up_to q l m)

-- the largest whole number r with l × (2^r − 1) below m. With l above 0 it is below m itself
unfoldable pub largest : (l m : ℕ) → ℕ
largest l m = largest_up_to m l m

-- what can be asked of one track
pub data Act : Type 0 where
  Opening : (tick k window cap : ℕ) → Act
  Line : (tick : ℕ) (text : List ℕ) → Act
  Question : (tick window : ℕ) → Act
  Retiring : Act

-- a call, by the track that it names, with its text as bytes
pub data PlainCall : Type 0 where
  At : (track : ℕ) → Act → PlainCall
  Total : (tick window : ℕ) → PlainCall
  Ending : PlainCall

abbrev pub plain : Call → PlainCall
plain (call.Opening track tick k window cap) = At track (Opening tick k window cap)
plain (call.Line track tick text) = At track (Line tick text.now)
plain (call.Question track tick window) = At track (Question tick window)
plain (call.Total tick window) = Total tick window
plain (call.Retiring track) = At track Retiring
plain call.Ending = Ending

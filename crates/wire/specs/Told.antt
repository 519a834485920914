-- What the answers of the leaves say, as readings of their formats. A leaf knows one fault, number 1 of document 01's 'The numbers a call comes
-- back with': the bytes end inside a field.
use Rattle.std.specs.Prelude.{ℕ, ◌+◌, ◌^◌, ◌<◌, ◌≡◌, List, take, drop, Option, Some, None, Result, Ok, Err}
use Rattle.std.proofs.Math.Option as maybe
use Rattle.wire.specs.Read.{Read, done, refused}
use Rattle.wire.specs.Formats.{number, head_length}
use Rattle.wire.specs.declared.fields.EndsAt.{EndsAt}

pub data Short : Type 0 where
  short : Short

-- a number of k bytes
abbrev pub told_number : {A : Type 0} → ℕ → Option A → Read Short A
told_number k (Some v) = done v k
told_number k None = refused short 0

-- a run at the front of s, behind its length of k bytes
abbrev pub told_run : ℕ → List ℕ → Result ℕ EndsAt → Read Short (List ℕ)
told_run k s (Ok n) = done (take n (drop k s)) (k + n)
told_run k s (Err p) = refused short p.0

-- the number of k bytes at the front of s, and its range
abbrev pub Below : ℕ → Option ℕ → Type 0
Below k (Some v) = v < 256 ^ k
Below k None = Unit {0}

pub record NumberAt (k : ℕ) (s : List ℕ) (r : Option ℕ) : Type 0 where
  pub told : told_number k r ≡ (number {ends = short} k).read s
  pub below : Below k r

-- the number that a head states and where the head ends; of what is no head no place is told
abbrev pub told_head : Option ℕ → maybe.Option (ℕ × ℕ)
told_head (Some n) = maybe.some (n, head_length)
told_head None = maybe.none

-- the value, if there is one
abbrev pub option_of : {A : Type 0} → Option A → maybe.Option A
option_of (Some a) = maybe.some a
option_of None = maybe.none

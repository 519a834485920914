-- A fault at an offset: document 01's 'The numbers a call comes back with': "A refusal says which fault it was, and where".
use Rattle.std.specs.Prelude.{ℕ, ◌+◌, ◌≡◌, Result, Ok, Err, IsErrAnd}
use Rattle.wire.specs.Ranges.{InReach}
use Rattle.mapblock.specs.declared.fault.Fault.{Fault}
use Rattle.mapblock.specs.declared.fault.Refusal.{Refusal}

abbrev pub refusal_at : Fault → ℕ → Refusal
refusal_at fault offset = record { fault = fault; offset = offset }

-- the answer of a reader that began behind n bytes, told from the first of them
abbrev pub Behind : {A : Type 0} → ℕ → Result A Refusal → Result A Refusal → Type 0
Behind n (Ok a) q = q ≡ Ok a
Behind n (Err w) q = IsErrAnd q (λ v. InReach (n + w.offset) → v ≡ refusal_at w.fault (n + w.offset))

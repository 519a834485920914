-- What holds of every format. It is proved once, in proofs/EveryFormat.antt.
use Rattle.std.specs.Prelude.{ℕ, ◌≡◌, ◌↔◌, ◌⊎◌, List, ◌++◌, length, take}
use Rattle.wire.specs.Bytes.{Bytes}
use Rattle.wire.specs.Read.{done, refused}
use Rattle.wire.specs.Format.{Format}

pub record EveryFormat {E : Type 0} {ends : E} {A : Type 0} (f : Format E ends A) : Type 0 where
  -- bytes are read to their end exactly where they are the bytes of a value that can be written
  pub accepted : (s : List ℕ) (a : A) → Bytes s → (f.read s ≡ done a (length s)) ↔ (f.Ok a × (s ≡ f.encode a))
  -- what was read writes back to the same bytes
  pub writes-back : (s : List ℕ) (a : A) (n : ℕ) → Bytes s → f.read s ≡ done a n → f.encode a ≡ take n s
  -- what was written reads back to the same value
  pub reads-back : (a : A) → f.Ok a → f.read (f.encode a) ≡ done a (length (f.encode a))
  -- bytes behind what was read change nothing
  pub local : (s t : List ℕ) (a : A) (n : ℕ) → Bytes s → f.read s ≡ done a n → f.read (s ++ t) ≡ done a n
  -- nor do bytes behind a refusal, unless it was for want of bytes
  pub stable_refusal : (s t : List ℕ) (e : E) (p : ℕ) → Bytes s → f.read s ≡ refused e p → (e ≡ ends) ⊎ (f.read (s ++ t) ≡ refused e p)
  -- no value's bytes begin another's
  pub prefix-free : (a b : A) (t u : List ℕ) → f.Ok a → f.Ok b → f.encode a ++ t ≡ f.encode b ++ u → a ≡ b

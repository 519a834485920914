-- Laws of places.
use Prim.Native.Nat.{ℕ, ◌+◌}
use mathlib.Core.Path.{◌≡◌, ap}
use mathlib.Core.List.{List}
use native.Mathlib.Omega.{arith}
use denote.Ref.{Bor}
use Rattle.wire.specs.Places.{place_in}

-- ---- laws
module _ (s : Bor (List ℕ)) where
  -- the place as a slice of s has it
  pub place_is : {n m : ℕ} → n ≡ m → (s.ref_ptr.0, n + s.ref_ptr.1) ≡ place_in s m
  place_is {n} {m} e = let h : n + s.ref_ptr.1 ≡ s.ref_ptr.1 + m = omega (arith, e) in ap (λ (o : ℕ). (s.ref_ptr.0, o)) h

  pub place-first : {n : ℕ} → 0 ≡ n → s.ref_ptr ≡ place_in s n
  place-first {n} e = let h : s.ref_ptr.1 ≡ s.ref_ptr.1 + n = omega (arith, e) in ap (λ (o : ℕ). (s.ref_ptr.0, o)) h

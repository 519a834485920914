-- What a `?` hands on: the error of the result that it is asked of, told from the function's own result.
use mathlib.Core.Path.{◌≡◌, refl, ap, sym, ◌∙◌}
use Rattle.std.specs.Prelude.{Option, None, Result, Ok, Err, IsErrAnd, MatchResult}
use Rattle.std.specs.Option.{ok_or}

pub handed_on : {B E : Type 0} {w : E} (z : Result B E) → IsErrAnd z (λ y. y ≡ w) → z ≡ Err w
handed_on (Ok b) h = absurd h
handed_on (Err y) h = ap Err h

-- behind `ok_or`, which gives the error d
pub none_handed : {A B E : Type 0} {o : Option A} {d w : E} (z : Result B E) → IsErrAnd z (λ y. y ≡ w) → Err w ≡ ok_or o d → o ≡ None → z ≡ Err d
none_handed {A} {B} {E} {o} {d} {w} z h v n =
    let u : ◌≡◌ {A = Result A E} (Err w) (Err d) = rw n at v in
    let x : w ≡ d = cc in
    handed_on z h ∙ ap Err x

-- behind `map_err`, which gives another error: where there is a value, and where there is an error, of which its closure says P
module _ {A E : Type 0} (D : Type 0) where
  pub mapped_ok : (r : Result A E) (x : A) → MatchResult r (λ y. ◌≡◌ {A = Result A D} (Ok x) (Ok y)) (λ _. ⊥) → r ≡ Ok x
  mapped_ok (Ok y) x h = let e : x ≡ y = cc in ap Ok (sym e)
  mapped_ok (Err e) x h = absurd h

  pub mapped_err : (r : Result A E) (P : E → Type 0) (d : D) → MatchResult r (λ y. ◌≡◌ {A = Result A D} (Err d) (Ok y)) P → (e : E) × (r ≡ Err e) × P e
  mapped_err (Ok y) P d h = cc
  mapped_err (Err e) P d h = (e, refl, h)

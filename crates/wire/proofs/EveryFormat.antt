-- What holds of every format, from the laws that each format brings.
use Prim.Native.Nat.{ℕ}
use mathlib.Core.Path.{◌≡◌, ap, sym, ◌∙◌}
use mathlib.Core.List.{List, [], ◌++◌, append-nil}
use lib.ListN.{length, take, drop}
use lib.Seq.{drop-length, take-append_seam}
use Rattle.wire.specs.Bytes.{Bytes}
use Rattle.wire.specs.Read.{done}
use Rattle.wire.specs.Format.{Format, local}
use Rattle.wire.specs.EveryFormat.{EveryFormat}

module _ {E : Type 0} {ends : E} {A : Type 0} (f : Format E ends A) where
  writes-back : (s : List ℕ) (a : A) (n : ℕ) → Bytes s → f.read s ≡ done a n → f.encode a ≡ take n s
  writes-back s a n b h =
      let k = f.backward s a n b h in
      sym (ap (take n) k.front ∙ rw k.ends (take-append_seam (f.encode a) (drop (length (f.encode a)) s)))

  reads-back : (a : A) → f.Ok a → f.read (f.encode a) ≡ done a (length (f.encode a))
  reads-back a h = ap f.read (sym (append-nil (f.encode a))) ∙ f.forward a h []

  written : (s : List ℕ) (a : A) → Bytes s → f.read s ≡ done a (length s) → f.Ok a × (s ≡ f.encode a)
  written s a b h =
      let k = f.backward s a (length s) b h in
      (k.ok, k.front ∙ ap (λ (l : List ℕ). f.encode a ++ l) (drop-length s) ∙ append-nil (f.encode a))

  prefix-free : (a b : A) (t u : List ℕ) → f.Ok a → f.Ok b → f.encode a ++ t ≡ f.encode b ++ u → a ≡ b
  prefix-free a b t u h k e =
      let r : done a (length (f.encode a)) ≡ done b (length (f.encode b)) = sym (f.forward a h t) ∙ ap f.read e ∙ f.forward b k u in
      cc

pub every-format : {E : Type 0} {ends : E} {A : Type 0} (f : Format E ends A) → EveryFormat f
every-format f = record {
  accepted = λ s a b. (written f s a b, λ h. rw h.1 (reads-back f a h.0));
  writes-back = writes-back f;
  reads-back = reads-back f;
  local = local f;
  stable_refusal = f.stable_refusal;
  prefix-free = prefix-free f;
}

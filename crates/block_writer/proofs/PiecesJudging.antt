-- What is said of the bytes of a value, from what is said of its pieces.
use Prim.Native.Nat.{ℕ, ◌+◌, ◌^◌, ◌<◌}
use mathlib.Core.Path.{◌≡◌, refl, ap, sym, ◌∙◌}
use mathlib.Core.List.{List, [], ◌++◌}
use mathlib.Core.Bool.{Bool, true, false}
use native.Mathlib.Nat.{zero-add, add-zero, add_assoc}
use lib.ListN.{length, drop}
use lib.Seq.{drop-append_seam}
use Rattle.wire.specs.Bytes.{to_be, to_be-length}
use Rattle.wire.specs.Read.{Read, done, refused, shift, reach}
use Rattle.wire.specs.Format.{nothing, refine, ◌⨾◌, iso, pair, items, encode_items, run}
use Rattle.wire.specs.Formats.{Shape, number, listed, behind, fixed, only, tagged, into}
use Rattle.wire.proofs.EveryFormat.{every-format}
use Rattle.wire.proofs.Looser.{Settled, followed, verdict_on-then}
use Rattle.mapblock.specs.Inventory.{BlockFormat}
use Rattle.mapblock.specs.Told.{ended}
use Rattle.mapblock.specs.declared.fault.Fault.{Fault}
use Rattle.mapblock.specs.declared.fault.Fault.TheVariants as fault
use Rattle.wire.proofs.Joints.{listed-done}
use Rattle.mapblock.proofs.Readings.{num, ended-map, ended-done}
use Rattle.wire.proofs.Fixed.{fixed_on}
use Rattle.block_writer.specs.Judging.{verdict_on}

ended-shift : {A B : Type 0} (n : ℕ) (f : A → B) (r : Read Fault A) → ended (shift n f r) ≡ shift n (λ u. u) (ended r)
ended-shift n f (done a m) = refl
ended-shift n f (refused e p) = refl

pub shift-reach : (n : ℕ) (r : Read Fault (Unit {0})) → reach (shift n (λ u. u) r) ≡ n + reach r
shift-reach n (done tt m) = refl
shift-reach n (refused e p) = refl

pub shift_none : (r : Read Fault (Unit {0})) → shift 0 (λ u. u) r ≡ r
shift_none (done tt n) = rw zero-add
shift_none (refused e p) = rw zero-add

pub shift-on : (n m : ℕ) (r : Read Fault (Unit {0})) → shift n (λ u. u) (shift m (λ u. u) r) ≡ shift (n + m) (λ u. u) r
shift-on n m (done tt k) = rw add_assoc
shift-on n m (refused e p) = rw add_assoc

pub shift-thrice : (a b c : ℕ) (r : Read Fault (Unit {0})) → shift (a + b + c) (λ u. u) r ≡ shift a (λ u. u) (shift b (λ u. u) (shift c (λ u. u) r))
shift-thrice a b c r = sym (shift-on (a + b) c r) ∙ sym (shift-on a b (shift c (λ u. u) r))

-- of a value that can be written
pub verdict_on-ok : {A : Type 0} (f : BlockFormat A) (a : A) → f.Ok a → verdict_on f a ≡ done tt (length (f.encode a))
verdict_on-ok f a ok = ap ended ((every-format f).reads-back a ok)

pub verdict_on-into : {A B : Type 0} (k : Shape A B) (f : BlockFormat A) (b : B) → verdict_on (into k f) b ≡ verdict_on f (k.parts b)
unfolding iso
verdict_on-into k f b = ended-map k.make (f.read (f.encode (k.parts b)))

-- behind a number
number-front : (k v : ℕ) (t : List ℕ) → v < 256 ^ k → (num k).read (to_be k v ++ t) ≡ done v k
unfolding number iso run
number-front k v t h = (num k).forward v h t ∙ ap (done v) (to_be-length k v)

number_behind : (k v : ℕ) (t : List ℕ) → drop k (to_be k v ++ t) ≡ t
number_behind k v t = ap (λ (n : ℕ). drop n (to_be k v ++ t)) (sym (to_be-length k v)) ∙ drop-append_seam (to_be k v) t

pub verdict_on-fixed : {A : Type 0} (k v : ℕ) (e : Fault) (f : BlockFormat A) (a : A) → v < 256 ^ k → verdict_on (fixed k v e f) a ≡ shift k (λ u. u) (verdict_on f a)
unfolding behind iso ◌⨾◌ refine number run
verdict_on-fixed k v e f a h =
    let t = f.encode a in
    ap ended (fixed_on fault.Ends k v e f (to_be k v ++ t) (number-front k v t h)) ∙ ended-shift k (λ x. x) (f.read (drop k (to_be k v ++ t)))
    ∙ ap (λ (s : List ℕ). shift k (λ u. u) (ended (f.read s))) (number_behind k v t)

pub verdict_on-listed : {A : Type 0} (k : ℕ) (item : List A → BlockFormat A) (l : List A) → length l < 256 ^ k → verdict_on (listed k item) l ≡ shift k (λ u. u) (verdict_on (items item (length l)) l)
unfolding listed iso ◌⨾◌ number run items
verdict_on-listed k item l h =
    let t = encode_items item [] l in
    ap ended (listed-done k item (to_be k (length l) ++ t) (number-front k (length l) t h))
    ∙ ended-shift k (λ x. x) ((items item (length l)).read (drop k (to_be k (length l) ++ t)))
    ∙ ap (λ (s : List ℕ). shift k (λ u. u) (ended ((items item (length l)).read s))) (number_behind k (length l) t)

-- ---- one after the other
module _ {A B : Type 0} (f : BlockFormat A) (g : A → BlockFormat B) (a : A) (b : B) (w : Settled f a) where
  both : ended ((f ⨾ g).read ((f ⨾ g).encode (pair a b))) ≡ followed (verdict_on f a) (length (f.encode a)) (λ u. u) (verdict_on (g a) b)
  both = ap ended (verdict_on-then f g a b w) ∙ go (f.read (f.encode a))
    where
      go : (r : Read Fault A) → ended (followed r (length (f.encode a)) (pair a) ((g a).read ((g a).encode b))) ≡ followed (ended r) (length (f.encode a)) (λ u. u) (verdict_on (g a) b)
      go (done c n) = ended-shift (length (f.encode a)) (pair a) ((g a).read ((g a).encode b))
      go (refused e p) = refl

  pub judged-refused : {e : Fault} {p : ℕ} → refused e p ≡ verdict_on f a → refused e p ≡ verdict_on (f ⨾ g) (pair a b)
  judged-refused h = sym (both ∙ ap (λ (r : Read Fault (Unit {0})). followed r (length (f.encode a)) (λ u. u) (verdict_on (g a) b)) (sym h))

  pub judged-length : {n : ℕ} → done tt n ≡ verdict_on f a → n ≡ length (f.encode a)
  judged-length h = let x = ended-done (f.read (f.encode a)) h in (w.itself x.0 _ x.1).1

  pub judged-on : {n : ℕ} {r : Read Fault (Unit {0})} → done tt n ≡ verdict_on f a → r ≡ verdict_on (g a) b → shift n (λ u. u) r ≡ verdict_on (f ⨾ g) (pair a b)
  judged-on {n} h k =
      rw (k, judged-length h)
      (sym (both ∙ ap (λ (r : Read Fault (Unit {0})). followed r (length (f.encode a)) (λ u. u) (verdict_on (g a) b)) (sym h)))

-- ---- a tag, and a list where it passes a test
module _ {A : Type 0} (tag : BlockFormat ℕ) (test : ℕ → Bool) (f : BlockFormat (List A)) (t : ℕ) (l : List A) (w : Settled tag t) where
  pub tagged-refused : {e : Fault} {p : ℕ} → refused e p ≡ verdict_on tag t → refused e p ≡ verdict_on (tagged tag test [] f) (pair t l)
  tagged-refused h = judged-refused tag (λ t. only (test t) [] f) t l w h

  module _ {n : ℕ} (h : done tt n ≡ verdict_on tag t) where
    pub tagged-alone : test t ≡ false → done tt n ≡ verdict_on (tagged tag test [] f) (pair t l)
    unfolding nothing
    tagged-alone e = ap (done tt) (sym (add-zero n)) ∙ judged-on tag (λ t. only (test t) [] f) t l w {r = done tt 0} h (rw e)

    pub tagged-list : {r : Read Fault (Unit {0})} → test t ≡ true → r ≡ verdict_on f l → shift n (λ u. u) r ≡ verdict_on (tagged tag test [] f) (pair t l)
    tagged-list {r} e k = judged-on tag (λ t. only (test t) [] f) t l w {r = r} h (rw e k)

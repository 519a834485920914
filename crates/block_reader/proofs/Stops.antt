-- Where a reading is refused with a number, for each way to make a format.
use Prim.Native.Nat.{ℕ, zero, suc, ◌+◌, ◌<◌}
use mathlib.Core.Path.{◌≡◌, refl, ap, sym, subst, subst⁻¹, subst₂, ◌∙◌}
use mathlib.Core.Logic.{◌⊎◌, inl, inr}
use mathlib.Core.List.{List, [], ◌∷◌, reverse, reverse_aux}
use mathlib.Core.Bool.{Bool, true, false, cond, ◌&&◌}
use native.Mathlib.Nat.{zero-add}
use native.Mathlib.Omega.{arith}
use lib.Dec.{leb, ltb, eqb}
use lib.ListN.{length, take, drop}
use lib.Seq.{drop-drop}
use borrow.Author.Tests.{leb-true, leb-false, lt-ltb, ltb-true, eqb-false}
use Rattle.wire.specs.Bytes.{from_be}
use Rattle.wire.specs.Choice.{no_true}
use Rattle.wire.specs.Read.{Read, done, refused, bind, map_read, shift, bind_done, shift-done}
use Rattle.wire.specs.Format.{tested, nothing, refine, ◌⨾◌, next, pair, iso, items, read_items}
use Rattle.wire.specs.Formats.{◌▹◌, behind, fixed, only}
use Rattle.wire.proofs.Steps.{number-done, number-ends}
use Rattle.wire.proofs.Tests.{and_yes}
use Rattle.mapblock.proofs.Readings.{num}
use Rattle.mapblock.specs.Inventory.{BlockFormat}
use Rattle.mapblock.specs.Numbers.{refusal_number}
use Rattle.block_reader.specs.FixedFields.{FixedField, NotAllowed, Differs}
use Rattle.mapblock.specs.declared.fault.Fault.{Fault}
use Rattle.mapblock.specs.declared.fault.Fault.TheVariants as fault
use Rattle.block_reader.proofs.GivenFaults.{ReadRefusedWith, FormatRefusedWith, gives_nothing}

-- refused with the number n at the place p
abbrev pub Stops : {A : Type 0} → ℕ → Read Fault A → ℕ → Type 0
Stops n (done a m) p = ⊥
Stops n (refused e q) p = (refusal_number e ≡ n) × (q ≡ p)

-- a fault with another number, and a format that gives such faults alone
abbrev pub Other : ℕ → Fault → Type 0
Other n e = eqb (refusal_number e) n ≡ false

abbrev pub Never : {A : Type 0} → ℕ → BlockFormat A → Type 0
Never n f = FormatRefusedWith (Other n) f

module _ (n : ℕ) where
  stops-not : {A : Type 0} (r : Read Fault A) (p : ℕ) → ReadRefusedWith (Other n) r → Stops n r p → ⊥
  stops-not (done a m) p h k = k
  stops-not (refused e q) p h k = eqb-false (refusal_number e) n h k.0

  never : {A C : Type 0} {f : BlockFormat A} → Never n f → (s : List ℕ) (p : ℕ) → Stops n (f.read s) p → C
  never {f = f} h s p k = absurd (stops-not (f.read s) p (h.reads s) k)

  -- ---- readings
  map-stops : {A B : Type 0} (f : A → B) (r : Read Fault A) (p : ℕ) → Stops n (map_read f r) p → Stops n r p
  map-stops f (done a m) p h = h
  map-stops f (refused e q) p h = h

  stops-map : {A B : Type 0} (f : A → B) (r : Read Fault A) (p : ℕ) → Stops n r p → Stops n (map_read f r) p
  stops-map f (done a m) p h = h
  stops-map f (refused e q) p h = h

  shift-stops : {A B : Type 0} (m : ℕ) (f : A → B) (r : Read Fault A) (p : ℕ) → Stops n (shift m f r) p → (q : ℕ) × Stops n r q × (m + q ≡ p)
  shift-stops m f (done a k) p h = absurd h
  shift-stops m f (refused e q) p h = (q, (h.0, refl), h.1)

  stops-shift : {A B : Type 0} (m : ℕ) (f : A → B) (r : Read Fault A) (p q : ℕ) → Stops n r q → m + q ≡ p → Stops n (shift m f r) p
  stops-shift m f (done a k) p q h e = h
  stops-shift m f (refused i j) p q h e = (h.0, ap (λ (x : ℕ). m + x) h.1 ∙ e)

-- ---- one format after another
-- the second of two stops, and p is told from the first byte of the first
pub record Behind {A B : Type 0} (n : ℕ) (f : BlockFormat A) (g : A → BlockFormat B) (s : List ℕ) (p : ℕ) : Type 0 where
  pub a : A
  pub m : ℕ
  pub q : ℕ
  pub reads : f.read s ≡ done a m
  pub stops : Stops n ((g a).read (drop m s)) q
  pub place : m + q ≡ p

module _ (n : ℕ) {A B : Type 0} (f : BlockFormat A) (g : A → BlockFormat B) (s : List ℕ) (p : ℕ) where
  pub then-stops : Stops n ((f ⨾ g).read s) p → Stops n (f.read s) p ⊎ Behind n f g s p
  unfolding ◌⨾◌
  then-stops h = go (f.read s) refl h
    where
      go : (r : Read Fault A) → f.read s ≡ r → Stops n (bind r (next g s)) p → Stops n r p ⊎ Behind n f g s p
      go (done a m) e k =
          let x = shift-stops n m (pair a) ((g a).read (drop m s)) p k in
          inr record { a = a; m = m; q = x.0; reads = e; stops = x.1; place = x.2 }
      go (refused i j) e k = inl k

  pub stops_first : Stops n (f.read s) p → Stops n ((f ⨾ g).read s) p
  unfolding ◌⨾◌
  stops_first h = go (f.read s) h
    where
      go : (r : Read Fault A) → Stops n r p → Stops n (bind r (next g s)) p
      go (done a m) k = absurd k
      go (refused i j) k = k

  pub stops-behind : Behind n f g s p → Stops n ((f ⨾ g).read s) p
  unfolding ◌⨾◌
  stops-behind h = rw h.reads (stops-shift n h.m (pair h.a) ((g h.a).read (drop h.m s)) p h.q h.stops h.place)

-- ---- a format that stops with the number at its first byte alone, where it is present and its number of k bytes is not allowed
pub record Here {A : Type 0} (n : ℕ) (f : BlockFormat A) (present : Bool) (k : ℕ) (allowed : ℕ → Bool) : Type 0 where
  pub found : (s : List ℕ) (p : ℕ) → Stops n (f.read s) p → (p ≡ 0) × (present ≡ true) × NotAllowed k allowed s
  pub given : (s : List ℕ) → present ≡ true → NotAllowed k allowed s → Stops n (f.read s) 0

-- a format that stops with the number exactly where one of the fields differs
pub record StopsExactly {I A B : Type 0} (n : ℕ) (f : BlockFormat B) (fields : I → FixedField A) : Type 0 where
  pub found : (s : List ℕ) (p : ℕ) → Stops n (f.read s) p → (i : I) × Differs (fields i) s p
  pub given : (s : List ℕ) (p : ℕ) (i : I) → Differs (fields i) s p → Stops n (f.read s) p

-- a field behind what f reads
abbrev pub field_behind : {A B : Type 0} → BlockFormat A → (A → FixedField B) → FixedField (A × B)
field_behind f field = record {
  before = f ⨾ λ a. (field a).before;
  present = λ x. (field x.0).present x.1;
  bytes = λ x. (field x.0).bytes x.1;
  allowed = λ x. (field x.0).allowed x.1;
}

-- a field of what may be left out
abbrev pub field_where : {A : Type 0} → Bool → FixedField A → FixedField A
field_where b field = record { before = field.before; present = λ a. b && field.present a; bytes = field.bytes; allowed = field.allowed }

-- ---- a field of the second of two
-- what a difference says beside what was read
abbrev OtherBehind : {A : Type 0} → FixedField A → List ℕ → A → Type 0
OtherBehind field s a = (field.present a ≡ true) × NotAllowed (field.bytes a) (field.allowed a) s

module _ (n : ℕ) {A B C : Type 0} (f : BlockFormat A) (g : A → BlockFormat B) (field : A → FixedField C) (s : List ℕ) (p : ℕ) where
  pub differs-behind : (z : Behind n f g s p) → Differs (field z.a) (drop z.m s) z.q → Differs (field_behind f field) s p
  unfolding ◌⨾◌
  differs-behind z d = record {
    earlier = (z.a, d.earlier);
    reads = rw (z.reads, d.reads, z.place);
    present = d.present;
    other = subst (NotAllowed ((field z.a).bytes d.earlier) ((field z.a).allowed d.earlier)) (drop-drop z.q z.m s ∙ ap (λ (k : ℕ). drop k s) z.place) d.other;
  }

  pub behind-differs : ((a : A) (t : List ℕ) (q : ℕ) → Differs (field a) t q → Stops n ((g a).read t) q) → Differs (field_behind f field) s p → Behind n f g s p
  unfolding ◌⨾◌
  behind-differs given d =
      let y = bind_done (f.read s) (next (λ a. (field a).before) s) d.earlier p d.reads in
      let a = y.0 in
      let m = y.1 in
      let z = shift-done m (pair a) ((field a).before.read (drop m s)) d.earlier p y.3 in
      let told = subst⁻¹ (OtherBehind (field_behind f field) (drop p s)) z.3 (d.present, d.other) in
      let seam : drop z.1 (drop m s) ≡ drop p s = drop-drop z.1 m s ∙ ap (λ (k : ℕ). drop k s) z.4 in
      record {
        a = a;
        m = m;
        q = z.1;
        reads = y.2;
        stops = given a (drop m s) z.1 record { earlier = z.0; reads = z.2; present = told.0; other = rw seam told.1 };
        place = z.4;
      }

module _ {n : ℕ} where
  -- ---- formats that stop at their first byte
  pub here-refine : (k : ℕ) (allowed : ℕ → Bool) (e : Fault) → Other n fault.Ends → refusal_number e ≡ n → Here n (refine allowed e (num k)) true k allowed
  unfolding refine
  here-refine k allowed e ends own = record {
    found = λ s p. found s p (leb k (length s)) refl;
    given = λ s _ h. rw (h.reads, h.differs) (own, refl);
  }
    where
      tested-found : (s : List ℕ) (v p : ℕ) → (num k).read s ≡ done v k → (b : Bool) → allowed v ≡ b → Stops n (cond b (done v k) (refused e 0)) p → (p ≡ 0) × (true ≡ true) × NotAllowed k allowed s
      tested-found s v p r true h z = absurd z
      tested-found s v p r false h z = (sym z.1, refl, record { value = v; reads = r; differs = h })

      found : (s : List ℕ) (p : ℕ) (b : Bool) → leb k (length s) ≡ b → Stops n (bind ((num k).read s) (tested allowed e)) p → (p ≡ 0) × (true ≡ true) × NotAllowed k allowed s
      found s p true h z =
          let r = number-done fault.Ends k s (leb-true _ _ h) in
          tested-found s (from_be 0 (take k s)) p r (allowed (from_be 0 (take k s))) refl (rw r at z)
      found s p false h z = absurd (eqb-false (refusal_number fault.Ends) n ends (rw (number-ends fault.Ends k s (leb-false _ _ h)) at z).0)

  pub here-iso : {A B : Type 0} {present : Bool} {k : ℕ} {allowed : ℕ → Bool} (Ok : B → Type 0) (to : A → B) (from : B → A) (f : BlockFormat A)
      (there : (b : B) → Ok b → f.Ok (from b) × (to (from b) ≡ b)) (back : (a : A) → f.Ok a → Ok (to a) × (from (to a) ≡ a))
      → Here n f present k allowed → Here n (iso Ok to from f there back) present k allowed
  unfolding iso
  here-iso Ok to from f there back h = record {
    found = λ s p z. h.found s p (map-stops n to (f.read s) p z);
    given = λ s b z. stops-map n to (f.read s) 0 (h.given s b z);
  }

  pub here-first : {A B : Type 0} {present : Bool} {k : ℕ} {allowed : ℕ → Bool} {f : BlockFormat A} {g : A → BlockFormat B} → Here n f present k allowed
      → ((a : A) → Never n (g a)) → Here n (f ⨾ g) present k allowed
  here-first {A} {B} {present} {k} {allowed} {f} {g} h rest = record {
    found = λ s p z. go s p (then-stops n f g s p z);
    given = λ s b z. stops_first n f g s 0 (h.given s b z);
  }
    where
      go : (s : List ℕ) (p : ℕ) → Stops n (f.read s) p ⊎ Behind n f g s p → (p ≡ 0) × (present ≡ true) × NotAllowed k allowed s
      go s p (inl z) = h.found s p z
      go s p (inr z) = never n (rest z.a) (drop z.m s) z.q z.stops

  pub here-fixed : {A : Type 0} (k v : ℕ) (e : Fault) {f : BlockFormat A} → Other n fault.Ends → refusal_number e ≡ n → Never n f → Here n (fixed k v e f) true k (λ x. eqb x v)
  unfolding behind
  here-fixed k v e ends own h = here-iso _ _ _ _ _ _ (here-first (here-refine k (λ x. eqb x v) e ends own) (λ _. h))

  pub here-absent : {A : Type 0} {f : BlockFormat A} (k : ℕ) (allowed : ℕ → Bool) → Never n f → Here n f false k allowed
  here-absent k allowed h = record { found = λ s p z. never n h s p z; given = λ s b z. no_true b }

  -- behind no bytes
  pub here-nothing : {A B : Type 0} {present : Bool} {k : ℕ} {allowed : ℕ → Bool} (a : A) {f : BlockFormat B} → Here n f present k allowed → Here n (nothing a ▹ f) present k allowed
  unfolding ◌⨾◌ nothing
  here-nothing a {f} h = record {
    found = λ s p z. let x = shift-stops n 0 (pair a) (f.read s) p z in let y = h.found s x.0 x.1 in (sym x.2 ∙ ap (λ (q : ℕ). 0 + q) y.0, y.1, y.2);
    given = λ s b z. stops-shift n 0 (pair a) (f.read s) 0 0 (h.given s b z) refl;
  }

  pub here-only : {A : Type 0} {k : ℕ} {allowed : ℕ → Bool} (b : Bool) (a : A) {f : BlockFormat A} → Here n f true k allowed → Here n (only b a f) b k allowed
  here-only true a h = h
  here-only {k = k} {allowed = allowed} false a h = here-absent k allowed (gives_nothing a)

  -- ---- formats that stop where a field differs
  pub exact-iso : {I A B C : Type 0} {fields : I → FixedField C} (Ok : B → Type 0) (to : A → B) (from : B → A) (f : BlockFormat A)
      (there : (b : B) → Ok b → f.Ok (from b) × (to (from b) ≡ b)) (back : (a : A) → f.Ok a → Ok (to a) × (from (to a) ≡ a))
      → StopsExactly n f fields → StopsExactly n (iso Ok to from f there back) fields
  unfolding iso
  exact-iso Ok to from f there back h = record {
    found = λ s p z. h.found s p (map-stops n to (f.read s) p z);
    given = λ s p i z. stops-map n to (f.read s) p (h.given s p i z);
  }

  pub exact-absent : {I A B : Type 0} {f : BlockFormat B} {fields : I → FixedField A} → Never n f → ((i : I) (a : A) → (fields i).present a ≡ true → ⊥) → StopsExactly n f fields
  exact-absent h none = record { found = λ s p z. never n h s p z; given = λ s p i z. absurd (none i z.earlier z.present) }

  -- one field, at the end of f
  pub exact-then-here : {A B : Type 0} {f : BlockFormat A} {g : A → BlockFormat B} {present : A → Bool} {k : A → ℕ} {allowed : A → ℕ → Bool} → Never n f
      → ((a : A) → Here n (g a) (present a) (k a) (allowed a))
      → StopsExactly n (f ⨾ g) (λ (_ : Unit {0}). record { before = f; present = present; bytes = k; allowed = allowed })
  exact-then-here {A} {B} {f} {g} {present} {k} {allowed} h behind = record {
    found = λ s p z. (tt, go s p (then-stops n f g s p z));
    given = λ s p _ z. stops-behind n f g s p record {
      a = z.earlier;
      m = p;
      q = 0;
      reads = z.reads;
      stops = (behind z.earlier).given (drop p s) z.present z.other;
      place = omega arith;
    };
  }
    where
      go : (s : List ℕ) (p : ℕ) → Stops n (f.read s) p ⊎ Behind n f g s p → Differs (record { before = f; present = present; bytes = k; allowed = allowed }) s p
      go s p (inl z) = never n h s p z
      go s p (inr z) =
          let x = (behind z.a).found (drop z.m s) z.q z.stops in
          let e : z.m ≡ p = omega (arith, x.0, z.place) in
          record { earlier = z.a; reads = z.reads ∙ ap (done z.a) e; present = x.1; other = rw (← e) x.2 }

  -- fields of the first of two
  pub exact-first : {I A B C : Type 0} {f : BlockFormat A} {g : A → BlockFormat B} {fields : I → FixedField C} → StopsExactly n f fields → ((a : A) → Never n (g a)) → StopsExactly n (f ⨾ g) fields
  exact-first {I} {A} {B} {C} {f} {g} {fields} h rest = record {
    found = λ s p z. go s p (then-stops n f g s p z);
    given = λ s p i z. stops_first n f g s p (h.given s p i z);
  }
    where
      go : (s : List ℕ) (p : ℕ) → Stops n (f.read s) p ⊎ Behind n f g s p → (i : I) × Differs (fields i) s p
      go s p (inl z) = h.found s p z
      go s p (inr z) = never n (rest z.a) (drop z.m s) z.q z.stops

  -- fields of the second of two
  pub exact-behind : {I A B C : Type 0} {f : BlockFormat A} {g : A → BlockFormat B} {fields : A → I → FixedField C} → Never n f → ((a : A) → StopsExactly n (g a) (fields a))
      → StopsExactly n (f ⨾ g) (λ i. field_behind f λ a. fields a i)
  exact-behind {I} {A} {B} {C} {f} {g} {fields} h behind = record {
    found = λ s p z. go s p (then-stops n f g s p z);
    given = λ s p i z. stops-behind n f g s p (behind-differs n f g (λ a. fields a i) s p (λ a t q. (behind a).given t q i) z);
  }
    where
      go : (s : List ℕ) (p : ℕ) → Stops n (f.read s) p ⊎ Behind n f g s p → (i : I) × Differs (field_behind f λ a. fields a i) s p
      go s p (inl z) = never n h s p z
      go s p (inr z) =
          let x = (behind z.a).found (drop z.m s) z.q z.stops in
          (x.0, differs-behind n f g (λ a. fields a x.0) s p z x.1)

  -- fields of a format that may be left out
  pub exact-only : {I A B : Type 0} {fields : I → FixedField B} (b : Bool) (a : A) {f : BlockFormat A} → StopsExactly n f fields → StopsExactly n (only b a f) (λ i. field_where b (fields i))
  exact-only true a h = record {
    found = λ s p z. let x = h.found s p z in (x.0, record { earlier = x.1.earlier; reads = x.1.reads; present = x.1.present; other = x.1.other });
    given = λ s p i z. h.given s p i record { earlier = z.earlier; reads = z.reads; present = z.present; other = z.other };
  }
  exact-only false a h = exact-absent (gives_nothing a) (λ i x z. no_true z)

  -- behind no bytes
  pub exact-nothing : {I A B C : Type 0} {fields : I → FixedField C} (a : A) {f : BlockFormat B} → StopsExactly n f fields → StopsExactly n (nothing a ▹ f) fields
  unfolding ◌⨾◌ nothing
  exact-nothing {fields = fields} a {f} h = record {
    found = λ s p z.
        let x = shift-stops n 0 (pair a) (f.read s) p z in
        let e : x.0 ≡ p = omega (arith, x.2) in
        h.found s p (subst (Stops n (f.read s)) e x.1);
    given = λ s p i z. stops-shift n 0 (pair a) (f.read s) p p (h.given s p i z) (zero-add p);
  }

-- ---- so many items, each told those before it
module _ {R : Type 0} (n : ℕ) (item : List R → BlockFormat R) where
  -- the item behind k others stops
  record ItemStops (count : ℕ) (seen : List R) (s : List ℕ) (p : ℕ) : Type 0 where
    k : ℕ
    m : ℕ
    q : ℕ
    rows : List R
    less : k < count
    reads : read_items item k seen s ≡ done rows m
    stops : Stops n ((item (reverse_aux rows seen)).read (drop m s)) q
    place : m + q ≡ p

  items-stops : (count : ℕ) (seen : List R) (s : List ℕ) (p : ℕ) → Stops n (read_items item count seen s) p → ItemStops count seen s p
  unfolding read_items
  items-stops zero seen s p h = absurd h
  items-stops (suc count) seen s p h = go ((item seen).read s) refl h (λ a m q. items-stops count (a ∷ seen) (drop m s) q)
    where
      go : (r : Read Fault R) → (item seen).read s ≡ r → Stops n (bind r λ a m. shift m (λ l. a ∷ l) (read_items item count (a ∷ seen) (drop m s))) p
          → ((a : R) (m q : ℕ) → Stops n (read_items item count (a ∷ seen) (drop m s)) q → ItemStops count (a ∷ seen) (drop m s) q) → ItemStops (suc count) seen s p
      go (done a m) e z ih =
          let x = shift-stops n m (λ l. a ∷ l) (read_items item count (a ∷ seen) (drop m s)) p z in
          let y = ih a m x.0 x.1 in
          record {
            k = suc y.k;
            m = m + y.m;
            q = y.q;
            rows = a ∷ y.rows;
            less = omega (arith, y.less);
            reads = rw (e, y.reads);
            stops = rw (← drop-drop y.m m s) y.stops;
            place = omega (arith, y.place, x.2);
          }
      go (refused i j) e z ih = record { k = 0; m = 0; q = p; rows = []; less = omega arith; reads = refl; stops = rw e z; place = zero-add p }

  stops-items : (count k : ℕ) (seen : List R) (s : List ℕ) (p m q : ℕ) (rows : List R) → k < count → read_items item k seen s ≡ done rows m
      → Stops n ((item (reverse_aux rows seen)).read (drop m s)) q → m + q ≡ p → Stops n (read_items item count seen s) p
  unfolding read_items
  stops-items zero k seen s p m q rows l r h e = absurd (omega arith)
  stops-items (suc count) zero seen s p m q rows l r h e =
      let x : [] ≡ rows = cc in
      let y : 0 ≡ m = cc in
      let z : q ≡ p = omega arith in
      go ((item seen).read s) (subst (Stops n ((item seen).read s)) z (rw (← x, ← y) at h))
    where
      go : (r : Read Fault R) → Stops n r p → Stops n (bind r λ a m. shift m (λ l. a ∷ l) (read_items item count (a ∷ seen) (drop m s))) p
      go (done a m) k = absurd k
      go (refused i j) k = k
  stops-items (suc count) (suc k) seen s p m q rows l r h e =
      let y = bind_done ((item seen).read s) (λ a i. shift i (λ l. a ∷ l) (read_items item k (a ∷ seen) (drop i s))) rows m r in
      let z = shift-done y.1 (λ l. y.0 ∷ l) (read_items item k (y.0 ∷ seen) (drop y.1 s)) rows m y.3 in
      let h₁ : Stops n ((item (reverse_aux z.0 (y.0 ∷ seen))).read (drop z.1 (drop y.1 s))) q =
      rw (drop-drop z.1 y.1 s) (subst₂ (λ (l : List R) (i : ℕ). Stops n ((item (reverse_aux l seen)).read (drop i s)) q) (sym z.3) (sym z.4) h) in
      let ih = stops-items count k (y.0 ∷ seen) (drop y.1 s) (z.1 + q) z.1 q z.0 (omega arith) z.2 h₁ refl in
      rw y.2 (stops-shift n y.1 (λ l. y.0 ∷ l) (read_items item count (y.0 ∷ seen) (drop y.1 s)) p (z.1 + q) ih (omega (arith, z.4, e)))

-- a field of the next item, behind k of so many
abbrev pub row_field : {I R C : Type 0} → (List R → BlockFormat R) → (List R → I → FixedField C) → ℕ → ℕ × I → FixedField (List R × C)
row_field item fields count x = record {
  before = items item x.0 ⨾ λ rows. (fields (reverse rows) x.1).before;
  present = λ a. ltb x.0 count && (fields (reverse a.0) x.1).present a.1;
  bytes = λ a. (fields (reverse a.0) x.1).bytes a.1;
  allowed = λ a. (fields (reverse a.0) x.1).allowed a.1;
}

module _ {n : ℕ} {I R C : Type 0} {item : List R → BlockFormat R} {fields : List R → I → FixedField C} (h : (seen : List R) → StopsExactly n (item seen) (fields seen)) (count : ℕ) where
  items-found : (s : List ℕ) (p : ℕ) → Stops n ((items item count).read s) p → (x : ℕ × I) × Differs (row_field item fields count x) s p
  unfolding items
  items-found s p z =
      let x = items-stops n item count [] s p z in
      let y = (h (reverse x.rows)).found (drop x.m s) x.q x.stops in
      let b : Behind n (items item x.k) (λ rows. item (reverse rows)) s p = record { a = x.rows; m = x.m; q = x.q; reads = x.reads; stops = x.stops; place = x.place } in
      let d = differs-behind n (items item x.k) (λ rows. item (reverse rows)) (λ rows. fields (reverse rows) y.0) s p b y.1 in
      ((x.k, y.0), record { earlier = d.earlier; reads = d.reads; present = rw (lt-ltb x.k count x.less) d.present; other = d.other })

  items-given : (s : List ℕ) (p : ℕ) (x : ℕ × I) → Differs (row_field item fields count x) s p → Stops n ((items item count).read s) p
  unfolding items
  items-given s p x d =
      let y = and_yes (ltb x.0 count) ((fields (reverse d.earlier.0) x.1).present d.earlier.1) d.present in
      let b =
      behind-differs n (items item x.0) (λ rows. item (reverse rows)) (λ rows. fields (reverse rows) x.1) s p (λ rows t q. (h (reverse rows)).given t q x.1)
      record { earlier = d.earlier; reads = d.reads; present = y.1; other = d.other }
      in
      stops-items n item count x.0 [] s p b.m b.q b.a (ltb-true _ _ y.0) b.reads b.stops b.place

  pub exact-items : StopsExactly n (items item count) (row_field item fields count)
  exact-items = record { found = items-found; given = items-given }

-- What reading from the front of a list finds: a value and how many bytes it took, or a fault and its place. Document 01, 'The numbers a call
-- comes back with': "A refusal says which fault it was, and where".
use Rattle.std.specs.Prelude.{ℕ, ◌+◌, ◌≤◌, ◌≡◌, refl, List, Bool, true, false, cond, length, drop}
use Rattle.std.proofs.Common.{zero-le, sym, ap, arith, length-drop}
use Rattle.std.proofs.Math.Option.{Option, some, none}

pub data Read (E A : Type 0) : Type 0 where
  done : A → ℕ → Read E A
  refused : E → ℕ → Read E A

-- what follows, where the first was done
abbrev pub bind : {E A B : Type 0} → Read E A → (A → ℕ → Read E B) → Read E B
bind (done a n) f = f a n
bind (refused e p) f = refused e p

-- another value for the same bytes
abbrev pub map_read : {E A B : Type 0} → (A → B) → Read E A → Read E B
map_read f (done a n) = done (f a) n
map_read f (refused e p) = refused e p

-- what is said of the bytes from n on, told from n bytes before
abbrev pub shift : {E A B : Type 0} → ℕ → (A → B) → Read E A → Read E B
shift n f (done a m) = done (f a) (n + m)
shift n f (refused e p) = refused e (n + p)

-- where the reading ended, or the place of the fault
abbrev pub reach : {E A : Type 0} → Read E A → ℕ
reach (done a n) = n
reach (refused e p) = p

-- the same with one fault for every fault
abbrev pub with_fault : {E F A : Type 0} → F → Read E A → Read F A
with_fault f (done a n) = done a n
with_fault f (refused e p) = refused f p

-- what was read and where it ends; nothing where it was refused, whatever the fault and its place
abbrev pub to_option : {E A : Type 0} → Read E A → Option (A × ℕ)
to_option (done a n) = some (a, n)
to_option (refused e p) = none

-- refused, whatever the fault and its place
pub data Misread {E A : Type 0} (r : Read E A) : Type 0 where
  at_place : {e : E} (p : ℕ) → r ≡ refused e p → Misread r

-- ---- taking apart what was read
pub not_done : {E A C : Type 0} {e : E} {a : A} {p n : ℕ} → refused e p ≡ done a n → C
not_done h = let z : ◌≡◌ {A = ℕ} 0 1 = cc in absurd (omega arith)

-- a refusal is the same whatever was to be read
pub same-refusal : {E A B : Type 0} {e k : E} {p q : ℕ} → ◌≡◌ {A = Read E A} (refused e p) (refused k q) → ◌≡◌ {A = Read E B} (refused e p) (refused k q)
same-refusal {e = e} {k = k} {p = p} {q = q} h = let x : e ≡ k = cc in let y : p ≡ q = cc in rw (x, y)

pub to_option-is : {E A : Type 0} {r q : Read E A} → r ≡ q → to_option q ≡ to_option r
to_option-is h = sym (ap to_option h)

pub to_option-done : {E A : Type 0} (r : Read E A) {a : A} {n : ℕ} → some (a, n) ≡ to_option r → r ≡ done a n
to_option-done {A = A} (done b m) {a = a} {n = n} h =
    let x : ◌≡◌ {A = A × ℕ} (b, m) (a, n) = cc in
    ap (λ (y : A × ℕ). done y.0 y.1) x
to_option-done (refused e p) h = let z : ◌≡◌ {A = ℕ} 0 1 = cc in absurd (omega arith)

pub to_option-none : {E A : Type 0} (r : Read E A) → none ≡ to_option r → Misread r
to_option-none (done b m) h = let z : ◌≡◌ {A = ℕ} 0 1 = cc in absurd (omega arith)
to_option-none (refused e p) h = at_place p refl

pub bind_done : {E A B : Type 0} (r : Read E A) (f : A → ℕ → Read E B) (b : B) (m : ℕ) → bind r f ≡ done b m
    → (a : A) × (n : ℕ) × (r ≡ done a n) × (f a n ≡ done b m)
bind_done (done a n) f b m h = (a, n, refl, h)
bind_done (refused e p) f b m h = not_done h

pub map-done : {E A B : Type 0} (f : A → B) (r : Read E A) (b : B) (n : ℕ) → map_read f r ≡ done b n → (a : A) × (r ≡ done a n) × (f a ≡ b)
map-done f (done a m) b n h = let q : m ≡ n = cc in (a, (cc), (cc))
map-done f (refused e p) b n h = not_done h

pub map-refused : {E A B : Type 0} (f : A → B) (r : Read E A) (e : E) (p : ℕ) → map_read f r ≡ refused e p → r ≡ refused e p
map-refused f (done a m) e p h = not_done (sym h)
map-refused f (refused k q) e p h = cc

pub shift-done : {E A B : Type 0} (n : ℕ) (f : A → B) (r : Read E A) (b : B) (m : ℕ) → shift n f r ≡ done b m
    → (a : A) × (k : ℕ) × (r ≡ done a k) × (f a ≡ b) × (n + k ≡ m)
shift-done n f (done a k) b m h = (a, k, refl, (cc), (cc))
shift-done n f (refused e p) b m h = not_done h

pub shift-refused : {E A B : Type 0} (n : ℕ) (f : A → B) (r : Read E A) (e : E) (p : ℕ) → shift n f r ≡ refused e p
    → (q : ℕ) × (r ≡ refused e q) × (n + q ≡ p)
shift-refused n f (done a k) e p h = not_done (sym h)
shift-refused n f (refused k q) e p h = (q, (cc), (cc))

pub cond-done : {E A : Type 0} (c : Bool) (x : Read E A) (e : E) (p : ℕ) (a : A) (n : ℕ) → cond c x (refused e p) ≡ done a n → (c ≡ true) × (x ≡ done a n)
cond-done true x e p a n h = (refl, h)
cond-done false x e p a n h = not_done h

-- ---- how far a reading reaches
pub reach-map : {E A B : Type 0} (f : A → B) (r : Read E A) → reach (map_read f r) ≡ reach r
reach-map f (done a n) = refl
reach-map f (refused e p) = refl

pub reach-shift : {E A B : Type 0} (n : ℕ) (s : List ℕ) (f : A → B) (r : Read E A) → n ≤ length s → reach r ≤ length (drop n s)
    → reach (shift n f r) ≤ length s
reach-shift n s f (done a m) h k = omega (arith, length-drop n s)
reach-shift n s f (refused e p) h k = omega (arith, length-drop n s)

pub reach-bind : {E A B : Type 0} (r : Read E A) (f : A → ℕ → Read E B) (l : ℕ) → reach r ≤ l → ((a : A) (n : ℕ) → n ≤ l → reach (f a n) ≤ l)
    → reach (bind r f) ≤ l
reach-bind (done a n) f l h k = k a n h
reach-bind (refused e p) f l h k = h

pub reach-cond : {E A : Type 0} (c : Bool) (n l : ℕ) (a : A) (e : E) → (c ≡ true → n ≤ l) → reach (cond c (done a n) (refused e 0)) ≤ l
reach-cond true n l a e h = h refl
reach-cond false n l a e h = zero-le

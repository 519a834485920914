-- The promises of specs/Theorems.antt, proved.
use Prim.Native.Nat.{◌+◌, ◌*◌, ◌/◌, ◌%◌}
use mathlib.Core.Path.{◌≡◌, refl, ap, sym, subst, ◌∙◌}
use mathlib.Core.Bool.{Bool, true, false, cond}
use mathlib.Core.Logic.{inr}
use native.Mathlib.Omega.{arith}
use lib.Dec.{leb, ltb}
use lib.IntN.{ℤ, nat_abs}
use lib.Signed.{lt_z}
use borrow.Author.Tests.{le-leb, lt-ltb, le-ltb}
use Rattle.wire.proofs.Tests.{yes_and, yes-three, and_no, same_test}
use Rattle.wire.specs.Answer.{good, out_of_range}
use Rattle.wire.proofs.Answers.{answered}
use Rattle.wire.proofs.Ints.{ints}
use Rattle.position.specs.Keys.{between, all_inside, key_of, join_of, moved, is_key, fields, split_of}
use Rattle.position.specs.Nodes.{axis_coordinate}
use Rattle.position.specs.Lots.{axis}
use Rattle.position.specs.Python.{get_integer_as_block}
use Rattle.position.specs.Theorems.{Inverse, TriplesHaveKeys, KeysHaveTriples, PythonAgrees, by_first, KeyOrder, NodeIndex, NodeInWorld, NodesApart, WholeWorld, AllTime, NeverInSpan}
use Rattle.position.specs.declared.key.Coordinates.{Coordinates}
use Rattle.position.proofs.Ranges.{insides, all-inside}
use Rattle.position.proofs.Keys.{key-is, key-valid, same_place, splits, fields-inside, joins}
use Rattle.position.proofs.Python.{python-splits}
use Rattle.position.proofs.Nodes.{index_is, node-in-world, node-apart}

-- ---- keys
pub inverse : Inverse
unfolding join_of split_of
inverse x y z k = (there, back)
  where
    there : join_of x y z ≡ good k → split_of k ≡ good (record { x = x; y = y; z = z })
    there e =
        let p = answered (all_inside x y z) out_of_range (key_of x y z) k e in
        subst (λ (n : ℤ). split_of n ≡ good (record { x = x; y = y; z = z })) p.1 (rw (key-valid x y z p.0) (ap good (splits x y z p.0)))

    back : split_of k ≡ good (record { x = x; y = y; z = z }) → join_of x y z ≡ good k
    back e =
        let p = answered (is_key k) out_of_range (fields (nat_abs (moved k))) (record { x = x; y = y; z = z }) e in
        subst (λ (c : Coordinates). join_of c.x c.y c.z ≡ good k) p.1 (rw (fields-inside k p.0) (ap good (joins k p.0)))

pub triples-have-keys : TriplesHaveKeys
unfolding join_of
triples-have-keys x y z =
    ((λ e. (key_of x y z, key-valid x y z e, rw e)), (λ h. (answered (all_inside x y z) out_of_range (key_of x y z) h.0 h.2).0))

pub keys-have-triples : KeysHaveTriples
unfolding split_of
keys-have-triples k =
    ((λ e. (fields (nat_abs (moved k)), fields-inside k e, rw e)), (λ h. (answered (is_key k) out_of_range (fields (nat_abs (moved k))) h.0 h.2).0))

pub python-agrees : PythonAgrees
unfolding split_of
python-agrees k e =
    let c = fields (nat_abs (moved k)) in
    rw e (ap good (sym (ap get_integer_as_block (sym (joins k e)) ∙ python-splits c.x c.y c.z (fields-inside k e))))

-- by what holds where the first is less, greater and equal
by_first_lem : (a b : ℤ) (t rest : Bool) → (lt_z a b ≡ true → t ≡ true) → (lt_z b a ≡ true → t ≡ false) → (a ≡ b → t ≡ rest) → t ≡ by_first a b rest
by_first_lem a b t rest f g h = go (lt_z a b) (lt_z b a) refl refl
  where
    go : (p q : Bool) → lt_z a b ≡ p → lt_z b a ≡ q → t ≡ cond p true (cond q false rest)
    go true q e d = f e
    go false true e d = g d
    go false false e d = h (omega ints)

pub key-order : KeyOrder
key-order a b ia ib =
    let ha = all-inside a.x a.y a.z ia in
    let hb = all-inside b.x b.y b.z ib in
    let ka = key-is a.x a.y a.z in
    let kb = key-is b.x b.y b.z in
    by_first_lem a.z b.z _ _ (λ e. omega ints) (λ e. omega ints)
    (λ e. by_first_lem a.y b.y _ _ (λ d. omega ints) (λ d. omega ints) (λ d. same_test _ (λ t. omega ints) (λ t. omega ints)))

-- ---- nodes
pub node-index : NodeIndex
node-index b x y z hx hy hz =
    let i = 256 * z + 16 * y + x in
    let p : i % 16 ≡ x = omega arith in
    let m : i / 16 ≡ 16 * z + y = omega arith in
    let q : i / 16 % 16 ≡ y = rw m (omega arith) in
    let r : i / 256 ≡ z = omega arith in
    same_place (ap (axis_coordinate b.x) p) (ap (axis_coordinate b.y) q) (ap (axis_coordinate b.z) r)

pub node-in-the-world : NodeInWorld
node-in-the-world b i e h =
    let v = insides b.x b.y b.z e in
    yes-three (node-in-world b.x _ v.0 (omega arith)) (node-in-world b.y _ v.1 (omega arith)) (node-in-world b.z _ v.2 (omega arith))

pub nodes-apart : NodesApart
nodes-apart a b i j hi hj e =
    let x = node-apart a.x b.x _ _ (omega arith) (omega arith) (ap (λ (c : Coordinates). c.x) e) in
    let y = node-apart a.y b.y _ _ (omega arith) (omega arith) (ap (λ (c : Coordinates). c.y) e) in
    let z = node-apart a.z b.z _ _ (omega arith) (omega arith) (ap (λ (c : Coordinates). c.z) e) in
    (same_place x.0 y.0 z.0, cc (index_is i, index_is j))

-- ---- lots and spans
pub whole-world : WholeWorld
unfolding between axis
whole-world = (refl, λ x y z. refl)

pub all-time : AllTime
all-time = (refl, λ t h. yes_and (le-leb 0 t (omega arith)) (lt-ltb t 0xffffffff h))

pub never-in-span : NeverInSpan
never-in-span s h = and_no (leb s.from 0xffffffff) (ltb 0xffffffff s.until) (inr (le-ltb 0xffffffff s.until h))

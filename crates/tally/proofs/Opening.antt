-- A row at a place of a buffer, and a row inserted in front of bytes that move back.
use Prim.Native.Nat.{ℕ, ◌+◌, ◌-◌, ◌<◌, ◌≤◌}
use mathlib.Core.Path.{◌≡◌, refl, ap, sym, ◌∙◌}
use mathlib.Core.List.{List, ◌++◌, append_assoc}
use native.Mathlib.Omega.{arith}
use lib.ListN.{length, take, drop, length-append}
use lib.Seq.{drop-drop, take_at, drop_at, length-take-le}
use borrow.Author.Tests.{le-leb, lt-leb}
use borrow.Rule.Slice.PartMut.{put_mid}
use Rattle.wire.proofs.Lists.{rest-is}
use Rattle.wire.specs.Bytes.{to_be, to_be-length}
use Rattle.wire.specs.Formats.{u16, u64}
use Rattle.wire.specs.Store.{overwrite, stored, moved_back}
use Rattle.wire.specs.Told.{short}
use Rattle.wire.proofs.Overwrites.{overwrite-length, stored-fits, stored-not, moved-fits, part-back}
use Rattle.wire.proofs.Puts.{put-run, put-number, put_two}
use Rattle.tally.specs.Rows.{Row}
use Rattle.tally.specs.Tally.{head_bytes, fields, one}
use Rattle.tally.specs.Walks.{row_stored}
use Rattle.tally.specs.LookedUp.{row_inserted}
use Rattle.tally.proofs.Held.{one-bytes, one_size}

-- ---- a row at a place
module _ (at : ℕ) (r : Row ℕ) (d : List ℕ) where
  pub row-long : 65535 < length r.name → row_stored at r d ≡ d
  unfolding row_stored
  row-long h = rw (lt-leb (length r.name) 65535 h)

  module _ (h : length r.name ≤ 65535) where
    pub row-short : length d < at + (length r.name + 10) → row_stored at r d ≡ d
    unfolding row_stored
    row-short k = rw (le-leb (length r.name) 65535 h, stored-not at ((fields one).encode r) d (rw one_size k))

    pub row_fits : at + (length r.name + 10) ≤ length d → row_stored at r d ≡ overwrite at ((fields one).encode r) d
    unfolding row_stored
    row_fits k = rw (le-leb (length r.name) 65535 h, stored-fits at ((fields one).encode r) d (rw one_size k))

    -- its three pieces, one behind the other
    pub row-stored : (a b e : List ℕ) → at + (length r.name + 10) ≤ length d
        → a ≡ stored at ((u16 {ends = short}).encode (length r.name)) d → b ≡ stored (at + 2) r.name a
        → e ≡ stored (at + 2 + length r.name) ((u64 {ends = short}).encode r.count) b → e ≡ row_stored at r d
    row-stored a b e room p q s =
        let n = r.name in
        let size : length (to_be 2 (length n) ++ (n ++ to_be 8 r.count)) ≡ length n + 10 = sym (ap length (one-bytes r)) ∙ one_size r in
        let overwrites = (put_two {at = at} {u = to_be 2 (length n)} (omega (arith, size)) (put-number at 2 (length n) (omega arith) p)
        (λ h. put_two {at = at + 2} {u = n} h (put-run (at + 2) n (omega (arith, length-append n (to_be 8 r.count))) q)
        (λ k. put-number (at + 2 + length n) 8 r.count (omega (arith, to_be-length 8 r.count)) s))).overwrites in
        rw (row_fits room, one-bytes r) overwrites

-- ---- n bytes moved back, and a row before them
pub row_opened : (n : ℕ) (r : Row ℕ) (d a e : List ℕ) → length r.name ≤ 65535 → n + (length r.name + 10) ≤ length d
    → a ≡ moved_back n (length r.name + 10) d → e ≡ row_stored 0 r a → e ≡ row_inserted n r d
row_opened n r d a e h room p q =
    let k = length r.name + 10 in
    let size : 0 + length ((fields one).encode r) ≡ k = omega (arith, one_size r) in
    let ends : k + length (take n d) ≡ n + length ((fields one).encode r) = omega (arith, one_size r, length-take-le n d (omega arith)) in
    let was : a ≡ overwrite k (take n d) d = p ∙ moved-fits n k d (omega arith) in
    let long : length a ≡ length d = ap length was ∙ overwrite-length k (take n d) d (omega (arith, length-take-le n d (omega arith))) in
    let behind : drop (0 + length ((fields one).encode r)) a ≡ take n d ++ drop (n + length ((fields one).encode r)) d =
    rw (size, was, ends) (drop_at (take k d) (take n d ++ drop (n + length ((fields one).encode r)) d) k (length-take-le k d (omega arith))) in
    q ∙ row_fits 0 r a h (omega arith) ∙ ap (λ (x : List ℕ). (fields one).encode r ++ x) behind

-- ---- bytes put over as many others
shape : (A u m v Z : List ℕ) → A ++ ((u ++ (m ++ v)) ++ Z) ≡ (A ++ (u ++ m)) ++ (v ++ Z)
shape A u m v Z = simp append_assoc

overwrite-over : (A u m o v Z : List ℕ) → length o ≡ length v
    → overwrite (length A + (length u + length m)) v (A ++ ((u ++ (m ++ o)) ++ Z)) ≡ A ++ ((u ++ (m ++ v)) ++ Z)
overwrite-over A u m o v Z h =
    let size : length (A ++ (u ++ m)) ≡ length A + (length u + length m) = rw (length-append, length-append) in
    let past : length ((A ++ (u ++ m)) ++ o) ≡ length A + (length u + length m) + length v = rw (length-append, size, h) in
    rw (shape A u m o Z, shape A u m v Z, take_at (A ++ (u ++ m)) (o ++ Z) (length A + (length u + length m)) size, ← append_assoc (A ++ (u ++ m)) o Z)
    (ap (λ (y : List ℕ). (A ++ (u ++ m)) ++ (v ++ y)) (drop_at ((A ++ (u ++ m)) ++ o) Z (length A + (length u + length m) + length v) past))

-- another count of a row behind A
pub count-overwrite : (A Z : List ℕ) (s : Row ℕ) (c : ℕ) → overwrite (length A + (2 + length s.name)) (to_be 8 c) (A ++ ((fields one).encode s ++ Z))
    ≡ A ++ ((fields one).encode (record { name = s.name; count = c }) ++ Z)
count-overwrite A Z s c =
    rw (one-bytes s, one-bytes (record { name = s.name; count = c })) (overwrite-over A (to_be 2 (length s.name)) s.name (to_be 8 s.count) (to_be 8 c) Z refl)

-- another number of rows
pub rows-overwrite : (m n : ℕ) (Z : List ℕ) → overwrite 5 (to_be 4 n) (head_bytes one m ++ Z) ≡ head_bytes one n ++ Z
rows-overwrite m n Z = refl

-- ---- a row inserted at a place of a buffer, in front of what is there up to n
pub part-opened : (d : List ℕ) (p n : ℕ) (r : Row ℕ) (ys : List ℕ) → p ≤ n → n + (length r.name + 10) ≤ length d
    → ys ≡ row_inserted (n - p) r (take (length d - p) (drop p d))
    → put_mid p (length d - p) d ys ≡ take p d ++ ((fields one).encode r ++ (take (n - p) (drop p d) ++ drop (n + (length r.name + 10)) d))
part-opened d p n r ys h room e =
    let past : p + (n - p + length ((fields one).encode r)) ≡ n + (length r.name + 10) = omega (arith, one_size r) in
    part-back p d ys (omega arith)
    ∙ ap (λ (y : List ℕ). take p d ++ y)
    (e ∙ ap (row_inserted (n - p) r) (rest-is p d)
    ∙ ap (λ (y : List ℕ). (fields one).encode r ++ (take (n - p) (drop p d) ++ y)) (drop-drop (n - p + length ((fields one).encode r)) p d ∙ ap (λ (j : ℕ). drop j d) past))

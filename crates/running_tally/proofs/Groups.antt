-- Places in order, and the groups of one name that they make.
use Rattle.std.proofs.Common.{◌≡◌, Bool, ℕ, ◌+◌, ◌%◌, ◌^◌, ◌<◌, ◌≤◌, true, false, List, [], ◌∷◌, length, get_or, drop, sym, refl, ap, ◌∙◌, ap₂, arith, drop_of_length-le, le-leb}
use Rattle.wire.specs.Bytes.{Bytes, bytes-nil, bytes_drop}
use Rattle.wire.specs.Choice.{no_true, no_false}
use Rattle.wire.specs.Order.{order, choose}
use Rattle.std.specs.Ordering.{is_ne}
use Rattle.wire.proofs.TotalOrder.{flip, order_same, order_flip, order_trans}
use Rattle.std.specs.declared.cmp.Ordering.{Ordering}
use Rattle.std.specs.declared.cmp.Ordering.TheVariants.{Less, Equal, Greater}
use Rattle.wire.specs.Format.{run, refine, ◌⨾◌, iso}
use Rattle.wire.specs.Formats.{number, prefixed}
use Rattle.wire.specs.Read.{Read, done, refused}
use Rattle.wire.proofs.Lists.{drop-next}
use Rattle.mapblock.specs.Data.{NameRow}
use Rattle.mapblock.specs.Layout.{all, name_row}
use Rattle.mapblock.specs.declared.fault.Fault.{Fault}
use Rattle.tally.specs.Rows.{Row, Rows, is_name, joined, add_row, plus, Above, Canonical}
use Rattle.tally.specs.Tally.{ones}
use Rattle.tally.proofs.Canon.{count-plus, canonical-add, canonical-plus, determined}
use Rattle.tally.proofs.Steps.{add-front, above-plus}
use Rattle.census.specs.NamePlaces.{row_read, row_at, count_at, named_at, counted_names}
use Rattle.census.specs.NameOrder.{NoneBefore, Sorted}
use Rattle.running_tally.specs.RunningTally.{count_limit}
use Rattle.census.specs.UsedNames.{total_count, AllCounted}
use Rattle.running_tally.specs.Groups.{gathered, Remaining, named, Grouped}
use Rattle.running_tally.proofs.Counts.{total_count-plus}

-- ---- the rows that places make may stand in a tally
name-ok : (r : NameRow) → (name_row all []).Ok r → (is_name r.name ≡ true) × Bytes r.name
unfolding name_row iso ◌⨾◌ refine number run prefixed
name-ok r h = (le-leb (length r.name) 65535 (let p : length r.name < 256 ^ 2 = h.1.0 in omega arith), h.1.1)

row-read-ok : (s : List ℕ) → Bytes s → (x : Read Fault NameRow) → (name_row all []).read s ≡ x → (is_name (row_read x).name ≡ true) × Bytes (row_read x).name
row-read-ok s b (done r n) e = name-ok r ((name_row all []).backward s r n b e).ok
row-read-ok s b (refused e p) h = (refl, bytes-nil)

named_ok : (s : List ℕ) (p : ℕ) → Bytes s → (is_name (row_at s p).name ≡ true) × Bytes (row_at s p).name
unfolding row_at
named_ok s p b = row-read-ok (drop p s) (bytes_drop p s b) ((name_row all []).read (drop p s)) refl

module _ (s c : List ℕ) (b : Bytes s) where
  pub canonical-run : (ps : List ℕ) (R : Rows ones) → AllCounted s c ps → Canonical ones R → Canonical ones (plus ones (counted_names s c ps) R)
  canonical-run [] R k h = h
  canonical-run (p ∷ ps) R k h =
      let n = named_ok s p b in
      canonical-add ones (named_at s c p) (plus ones (counted_names s c ps) R) n.0 n.1 (le-leb 1 (count_at s c p) k.0) (canonical-run ps R k.1 h)

  module _ (ps : List ℕ) (k : AllCounted s c ps) where
    canonical-gathered : Canonical ones (gathered s c ps)
    unfolding gathered
    canonical-gathered = canonical-run ps [] k tt

    -- adding the groups adds all
    pub gathered-plus : (R : Rows ones) → Canonical ones R → plus ones (gathered s c ps) R ≡ plus ones (counted_names s c ps) R
    unfolding gathered
    gathered-plus R h =
        determined ones (plus ones (plus ones (counted_names s c ps) []) R) (plus ones (counted_names s c ps) R)
        (canonical-plus ones (plus ones (counted_names s c ps) []) R (canonical-run ps [] k tt) h) (canonical-run ps R k h)
        (λ n. omega (arith, count-plus ones (plus ones (counted_names s c ps) []) R n, count-plus ones (counted_names s c ps) [] n, count-plus ones (counted_names s c ps) R n))

    pub left-start : Sorted s ps → Remaining s c ps 0 (gathered s c ps)
    left-start r = record { rises = r; makes = refl; canonical = canonical-gathered }

pub total_count-gathered : (s c ps : List ℕ) → total_count (gathered s c ps) ≡ total_count (counted_names s c ps)
unfolding gathered
total_count-gathered s c ps = omega (arith, total_count-plus (counted_names s c ps) [])

-- nothing is left at the end
pub left_end : {s c ps : List ℕ} {i : ℕ} {G : Rows ones} → length ps ≤ i → Remaining s c ps i G → G ≡ []
unfolding gathered
left_end {s} {c} {ps} {i} h l = sym l.makes ∙ ap (λ (x : List ℕ). plus ones (counted_names s c x) []) (drop_of_length-le ps {i = i} h)

-- ---- two rows of one name added are one
add-joined : (r q : Row ℕ) (X : Rows ones) → order r.name q.name ≡ Equal → add_row ones r (add_row ones q X) ≡ add_row ones (joined ones r q) X
add-joined r q [] e = rw e
add-joined r q (x ∷ l) e = go (order q.name x.name) (ap (λ (n : List ℕ). order n x.name) (order_same r.name q.name e)) (add-joined r q l e)
  where
    go : (w : Ordering) → order r.name x.name ≡ w → add_row ones r (add_row ones q l) ≡ add_row ones (joined ones r q) l
        → add_row ones r (choose w (q ∷ x ∷ l) (joined ones q x ∷ l) (x ∷ add_row ones q l)) ≡ add_row ones (joined ones r q) (x ∷ l)
    go Less h ih = rw (e, h)
    go Equal h ih = rw (e, h) (ap (λ (n : ℕ). record { name = r.name; count = n } ∷ l) (omega arith))
    go Greater h ih = rw (h, ih)

-- ---- names in order
module _ (n a b : List ℕ) (e : choose (order a b) true false false ≡ false) where
  -- what comes before b comes before what is not before b
  after-low : order n b ≡ Less → order n a ≡ Less
  after-low h = go (order a b) refl e
    where
      go : (o : Ordering) → order a b ≡ o → choose o true false false ≡ false → order n a ≡ Less
      go Less w f = no_false f
      go Equal w f = rw (order_same a b w) h
      go Greater w f = order_trans n b a h (order_flip a b ∙ ap flip w)

  not_after : {A : Type 0} → order b a ≡ Greater → A
  not_after w = no_false (sym (ap (λ (o : Ordering). choose o true false false) (order_flip b a ∙ ap flip w)) ∙ e)

not_ne : (o : Ordering) → is_ne o ≡ false → o ≡ Equal
not_ne Less e = no_false e
not_ne Equal e = refl
not_ne Greater e = no_false e

-- whether names differ, as code compares them
pub as-named : {a b x y : List ℕ} {o : Ordering} {k : Bool} → a ≡ x → b ≡ y → o ≡ order a b → k ≡ is_ne o → is_ne (order x y) ≡ k
as-named p q e h = sym (h ∙ ap is_ne (e ∙ ap₂ order p q))

module _ (s c : List ℕ) (n : List ℕ) where
  above_low : (p : ℕ) (ps : List ℕ) → order n (row_at s p).name ≡ Less → NoneBefore s p ps → Above ones n (counted_names s c ps)
  above_low p [] h l = tt
  above_low p (q ∷ ps) h l = (after-low n (row_at s q).name (row_at s p).name l.0 h, above_low p ps h l.1)

-- ---- a group, gathered place by place: those before j have the name of the i-th
pub record GatheringRows (s c ps : List ℕ) (i count j : ℕ) : Type 0 where
  pub low : NoneBefore s (get_or ps i 0) (drop j ps)
  pub rises : Sorted s (drop j ps)
  pub sum : add_row ones (named s ps i count) (gathered s c (drop j ps)) ≡ gathered s c (drop i ps)
  pub weight : count + total_count (counted_names s c (drop j ps)) ≡ total_count (counted_names s c (drop i ps))

pub record Gathering (s c ps : List ℕ) (i count j : ℕ) : Type 0 where
  pub on : i < j
  pub inside : j ≤ length ps
  pub rows : Sorted s (drop i ps) → total_count (counted_names s c (drop i ps)) < count_limit → GatheringRows s c ps i count j

gathered-cons : (s c ps : List ℕ) (p : ℕ) → gathered s c (p ∷ ps) ≡ add_row ones (named_at s c p) (gathered s c ps)
unfolding gathered
gathered-cons s c ps p = refl

gathered-nil : (s c : List ℕ) → gathered s c [] ≡ []
unfolding gathered
gathered-nil s c = refl

above-gathered : (s c ps n : List ℕ) → Above ones n (counted_names s c ps) → Above ones n (gathered s c ps)
unfolding gathered
above-gathered s c ps n h = above-plus ones n (counted_names s c ps) [] h tt

module _ (s c ps : List ℕ) (i : ℕ) where
  -- the name at the j-th place
  abbrev name_of : ℕ → List ℕ
  name_of j = (row_at s (get_or ps j 0)).name

  pub gathering-start : (count : ℕ) → count ≡ count_at s c (get_or ps i 0) → i < length ps → Gathering s c ps i count (i + 1)
  gathering-start count k h =
      let next = drop-next ps i h in
      record {
        on = omega arith;
        inside = omega arith;
        rows = λ r w.
            let r' : Sorted s (get_or ps i 0 ∷ drop (i + 1) ps) = rw next at r in
            record {
              low = r'.0;
              rises = r'.1;
              sum = sym (ap (gathered s c) next ∙ rw k (gathered-cons s c (drop (i + 1) ps) (get_or ps i 0)));
              weight = sym (ap (λ (l : List ℕ). total_count (counted_names s c l)) next ∙ rw k);
            };
      }

  module _ (count j : ℕ) (g : Gathering s c ps i count j) where
    module _ (h : j < length ps) where
      -- what is left begins with the j-th place
      first-low : GatheringRows s c ps i count j → NoneBefore s (get_or ps i 0) (get_or ps j 0 ∷ drop (j + 1) ps)
      first-low x = rw (drop-next ps j h) at x.low

      first-rises : GatheringRows s c ps i count j → Sorted s (get_or ps j 0 ∷ drop (j + 1) ps)
      first-rises x = rw (drop-next ps j h) at x.rises

      pub gathering-on : (n more : ℕ) → is_ne (order (name_of i) (name_of j)) ≡ false
          → n ≡ count_at s c (get_or ps j 0) → more ≡ (count + n) % 2 ^ 64 → Gathering s c ps i more (j + 1)
      gathering-on n more e is k = record {
        on = omega (arith, g.on);
        inside = omega arith;
        rows = λ r w.
            let x = g.rows r w in
            let q = get_or ps j 0 in
            let next = drop-next ps j h in
            let left : total_count (counted_names s c (drop j ps)) ≡ count_at s c q + total_count (counted_names s c (drop (j + 1) ps)) = ap (λ (l : List ℕ). total_count (counted_names s c l)) next in
            let exact : more ≡ count + count_at s c q = omega (arith, x.weight, left, is, k) in
            record {
              low = (first-low x).1;
              rises = (first-rises x).1;
              sum = rw exact (sym (add-joined (named s ps i count) (named_at s c q) (gathered s c (drop (j + 1) ps)) (not_ne _ e))
                  ∙ ap (add_row ones (named s ps i count)) (sym (ap (gathered s c) next ∙ gathered-cons s c (drop (j + 1) ps) q)) ∙ x.sum);
              weight = omega (arith, x.weight, left, exact);
            };
      }

    -- a group that ends at j
    ends : (GatheringRows s c ps i count j → Above ones (name_of i) (gathered s c (drop j ps))) → Grouped s c ps i (record { count = count; next = j })
    ends f = record {
      on = g.on;
      inside = g.inside;
      first = λ G l w.
          let x = g.rows l.rises (rw (sym (total_count-gathered s c (drop i ps)) ∙ ap total_count l.makes) w) in
          let split : G ≡ named s ps i count ∷ gathered s c (drop j ps) = sym l.makes ∙ sym x.sum ∙ add-front ones (named s ps i count) (gathered s c (drop j ps)) (f x) in
          let whole : Canonical ones (named s ps i count ∷ gathered s c (drop j ps)) = rw split at l.canonical in
          record { H = gathered s c (drop j ps); split = split; left = record { rises = x.rises; makes = refl; canonical = whole.4 } };
    }

    pub gathering-end : length ps ≤ j → Grouped s c ps i (record { count = count; next = length ps })
    gathering-end h =
        let last : j ≡ length ps = omega (arith, g.inside) in
        rw (← last) (ends (λ x. rw (drop_of_length-le ps {i = j} h, gathered-nil s c) tt))

    -- another name, which comes after the first one, since names do not fall
    pub gathering-stop : j < length ps → is_ne (order (name_of i) (name_of j)) ≡ true → Grouped s c ps i (record { count = count; next = j })
    gathering-stop h e = go (order (name_of i) (name_of j)) refl e
      where
        go : (o : Ordering) → order (name_of i) (name_of j) ≡ o → is_ne o ≡ true → Grouped s c ps i (record { count = count; next = j })
        go Less w f = ends (λ x.
            let left = get_or ps j 0 ∷ drop (j + 1) ps in
            let all : Above ones (name_of i) (counted_names s c left) = (w, above_low s c (name_of i) (get_or ps j 0) (drop (j + 1) ps) w (first-rises h x).0) in
            rw (drop-next ps j h) (above-gathered s c left (name_of i) all))
        go Equal w f = no_true f
        go Greater w f = ends (λ x. not_after (name_of i) (name_of j) (name_of i) (first-low h x).0 w)

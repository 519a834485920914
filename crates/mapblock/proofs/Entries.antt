-- The param lists in closed form: for code that tests the bounds of a whole run once.
use Prim.Native.Nat.{ℕ, zero, suc, ◌+◌, ◌-◌, ◌*◌, ◌/◌, ◌<◌, ◌≤◌}
use mathlib.Core.Path.{◌≡◌, refl, ap, ap₂, sym, ◌∙◌}
use mathlib.Core.List.{List, [], ◌∷◌, append-nil}
use mathlib.Core.Bool.{Bool, true, false, cond}
use native.Mathlib.Nat.{zero-add, zero-mul, mul-zero, mul-one, one-mul, suc-mul, mul-suc, add_comm, mod-lt, div-mul-le_self, div-lt_iff_lt-mul, div-add-mod'}
use native.Mathlib.Numerals.{add-one}
use native.Mathlib.Omega.{arith}
use lib.Dec.{leb}
use lib.ListN.{length, get_or, take, drop, set, length-drop, length-set, drop_of_length-le}
use lib.Seq.{drop-cons, drop-drop, get_or-drop, take-suc, take-suc-set, take_all, length-take-le}
use borrow.Author.Tests.{le-leb, lt-leb, leb-true, leb-false, lt-ltb, le-ltb}
use Rattle.wire.specs.Bytes.{Bytes, from_be, bytes_drop}
use Rattle.wire.specs.Read.{Read, done, refused, shift, not_done}
use Rattle.wire.specs.Format.{◌⨾◌, iso, items, read_items, ends-in}
use Rattle.wire.specs.Formats.{number, u8, times, fixed}
use Rattle.wire.specs.Store.{stored}
use Rattle.wire.proofs.Steps.{number-done, number-ends}
use Rattle.wire.proofs.Overwrites.{stored-fits}
use Rattle.mapblock.specs.Data.{Nodes, Block}
use Rattle.mapblock.specs.Layout.{width, params, nodes, unmapped}
use Rattle.mapblock.specs.Block.{content_id, id_at, first_unmapped}
use Rattle.mapblock.specs.Params.{lists_of, entries, id_in, unmarked_in, first_unmapped_in, id_of}
use Rattle.mapblock.specs.Told.{ended}
use Rattle.mapblock.specs.Table.{Tabled}
use Rattle.mapblock.specs.declared.fault.Fault.{Fault}
use Rattle.mapblock.specs.declared.fault.Fault.TheVariants as fault
use Rattle.wire.proofs.Fixed.{fixed_on, fixed-other, fixed-refused, fixed-done}
use Rattle.mapblock.proofs.GoodRows.{either}
use Rattle.mapblock.proofs.Firsts.{first-same}

-- ---- entries
pub entries-length : (w n : ℕ) (s : List ℕ) → length (entries w n s) ≡ n
unfolding entries
entries-length w zero s = refl
entries-length w (suc n) s = ap suc (entries-length w n (drop w s))

pub entries_at : (w n : ℕ) (s : List ℕ) (i : ℕ) → i < n → get_or (entries w n s) i 0 ≡ from_be 0 (take w (drop (w * i) s))
unfolding entries
entries_at w zero s i h = absurd (omega arith)
entries_at w (suc n) s zero h = rw mul-zero
entries_at w (suc n) s (suc i) h = rw (entries_at w n (drop w s) i (omega arith), drop-drop (w * i) w s, mul-suc, add_comm (w * i) w)

-- of one byte
pub entry-one : (s : List ℕ) (i : ℕ) → from_be 0 (take 1 (drop i s)) ≡ get_or s i 0
entry-one [] zero = refl
entry-one [] (suc i) = refl
entry-one (x ∷ s) zero = omega arith
entry-one (x ∷ s) (suc i) = entry-one s i

-- of two
pub entry-two : (s : List ℕ) (i : ℕ) → i + 1 < length s → from_be 0 (take 2 (drop i s)) ≡ get_or s i 0 * 256 + get_or s (i + 1) 0
entry-two s i h = rw (drop-cons s i 0 (omega arith), drop-cons s (suc i) 0 (omega arith), ← add-one i) (omega arith)

pub entries-one : (n : ℕ) (s : List ℕ) (i : ℕ) → i < n → get_or (entries 1 n s) i 0 ≡ get_or s i 0
entries-one n s i h = entries_at 1 n s i h ∙ rw one-mul (entry-one s i)

pub entries-take : (n : ℕ) (s : List ℕ) → n ≤ length s → entries 1 n s ≡ take n s
unfolding entries
entries-take zero s h = refl
entries-take (suc n) [] h = absurd (omega arith)
entries-take (suc n) (x ∷ s) h = ap₂ ◌∷◌ (omega arith) (entries-take n s (omega arith))

-- ---- a run of entries, read
all_there : (w n : ℕ) (seen s : List ℕ) → n * w ≤ length s → read_items (λ _. number {ends = fault.Ends} w) n seen s ≡ done (entries w n s) (n * w)
unfolding read_items entries
all_there w zero seen s h = rw zero-mul
all_there w (suc n) seen s h =
    let m : suc n * w ≡ n * w + w = suc-mul n w in
    let a : w ≤ length s = omega arith in
    let b : n * w ≤ length (drop w s) = rw length-drop (omega arith) in
    rw (number-done fault.Ends w s a, all_there w n (from_be 0 (take w s) ∷ seen) (drop w s) b, m, add_comm (n * w) w)

cut_short : (w n k : ℕ) (seen s : List ℕ) → k < n → k * w ≤ length s → length s < k * w + w
    → read_items (λ _. number {ends = fault.Ends} w) n seen s ≡ refused fault.Ends (k * w)
unfolding read_items
cut_short w zero k seen s h a b = absurd (omega arith)
cut_short w (suc n) zero seen s h a b =
    let z : zero * w ≡ 0 = zero-mul w in
    let c : length s < w = omega arith in
    rw (number-ends fault.Ends w s c, z)
cut_short w (suc n) (suc k) seen s h a b =
    let m : suc k * w ≡ k * w + w = suc-mul k w in
    let c : w ≤ length s = omega arith in
    let d : k * w ≤ length (drop w s) = rw length-drop (omega arith) in
    let e : length (drop w s) < k * w + w = rw length-drop (omega arith) in
    rw (number-done fault.Ends w s c, cut_short w n k (from_be 0 (take w s) ∷ seen) (drop w s) (omega arith) d e, m, add_comm (k * w) w)

pub times-done : (w n : ℕ) (s : List ℕ) → n * w ≤ length s → (times {ends = fault.Ends} n (number w)).read s ≡ done (entries w n s) (n * w)
unfolding items
times-done w n s h = all_there w n [] s h

pub times-ends : (w n k : ℕ) (s : List ℕ) → k < n → k * w ≤ length s → length s < k * w + w → (times {ends = fault.Ends} n (number w)).read s ≡ refused fault.Ends (k * w)
unfolding items
times-ends w n k s h a b = cut_short w n k [] s h a b

-- of bytes
module _ (n : ℕ) (s : List ℕ) where
  bytes-done : n ≤ length s → (times {ends = fault.Ends} n (number 1)).read s ≡ done (entries 1 n s) n
  bytes-done h = times-done 1 n s (rw mul-one h) ∙ rw mul-one

  bytes-end : length s < n → (times {ends = fault.Ends} n (number 1)).read s ≡ refused fault.Ends (length s)
  bytes-end h = times-ends 1 n (length s) s h (omega arith) (omega arith) ∙ rw mul-one

-- ---- the three lists
pub width-old : {v : ℕ} → v < 24 → width v ≡ 1
width-old {v} h = rw (lt-leb 24 v h)

pub width-new : {v : ℕ} → 24 ≤ v → width v ≡ 2
width-new {v} h = rw (le-leb 24 v h)

pub width-range : (v : ℕ) → (0 < width v) × (width v ≤ 2)
width-range v = go (leb 24 v)
  where
    go : (b : Bool) → (0 < cond b 2 1) × (cond b 2 1 ≤ 2)
    go true = (omega arith, omega arith)
    go false = (omega arith, omega arith)

module _ (v : ℕ) (s : List ℕ) where
  pub params-done : 4096 * width v + 8192 ≤ length s → (params v).read s ≡ done (lists_of (width v) s) (4096 * width v + 8192)
  unfolding params iso ◌⨾◌
  params-done h =
      let one : 4096 ≤ length (drop (4096 * width v) s) = rw length-drop (omega arith) in
      let two : 4096 ≤ length (drop (4096 * width v + 4096) s) = rw length-drop (omega arith) in
      rw (times-done (width v) 4096 s (omega arith), bytes-done 4096 (drop (4096 * width v) s) one, drop-drop 4096 (4096 * width v) s, bytes-done 4096 (drop (4096 * width v + 4096) s) two)

  pub params-short : length s < 4096 * width v → (params v).read s ≡ refused fault.Ends (length s / width v * width v)
  unfolding params iso ◌⨾◌
  params-short h =
      let pos : 0 < width v = (width-range v).0 in
      let k = length s / width v in
      let few : k < 4096 = (div-lt_iff_lt-mul pos).1 h in
      let there : k * width v ≤ length s = div-mul-le_self (length s) (width v) in
      let next : length s < k * width v + width v = omega (arith, div-add-mod' (length s) (width v), mod-lt (length s) pos) in
      rw (times-ends (width v) 4096 (length s / width v) s few there next)

  cut-one : 4096 * width v ≤ length s → length s < 4096 * width v + 4096 → (params v).read s ≡ refused fault.Ends (length s)
  unfolding params iso ◌⨾◌
  cut-one g h =
      let short : length (drop (4096 * width v) s) < 4096 = rw length-drop (omega arith) in
      rw (times-done (width v) 4096 s g, bytes-end 4096 (drop (4096 * width v) s) short, length-drop) (ap (refused fault.Ends) (omega arith))

  cut-two : 4096 * width v + 4096 ≤ length s → length s < 4096 * width v + 8192 → (params v).read s ≡ refused fault.Ends (length s)
  unfolding params iso ◌⨾◌
  cut-two g h =
      let one : 4096 ≤ length (drop (4096 * width v) s) = rw length-drop (omega arith) in
      let short : length (drop (4096 * width v + 4096) s) < 4096 = rw length-drop (omega arith) in
      rw (times-done (width v) 4096 s (omega arith), bytes-done 4096 (drop (4096 * width v) s) one, drop-drop 4096 (4096 * width v) s, bytes-end 4096 (drop (4096 * width v + 4096) s) short, length-drop) (ap (refused fault.Ends) (omega arith))

  pub params-cut : 4096 * width v ≤ length s → length s < 4096 * width v + 8192 → (params v).read s ≡ refused fault.Ends (length s)
  params-cut g h = go (leb (4096 * width v + 4096) (length s)) refl
    where
      go : (b : Bool) → leb (4096 * width v + 4096) (length s) ≡ b → (params v).read s ≡ refused fault.Ends (length s)
      go true e = cut-two (leb-true _ _ e) h
      go false e = cut-one g (leb-false _ _ e)

  -- what was read is the three lists
  pub params-read : {nd : Nodes} {n : ℕ} → (params v).read s ≡ done nd n → (n ≡ 4096 * width v + 8192) × (nd ≡ lists_of (width v) s)
  params-read {nd} {n} h = go (leb (4096 * width v + 8192) (length s)) refl (leb (4096 * width v) (length s)) refl
    where
      go : (b : Bool) → leb (4096 * width v + 8192) (length s) ≡ b → (d : Bool) → leb (4096 * width v) (length s) ≡ d → (n ≡ 4096 * width v + 8192) × (nd ≡ lists_of (width v) s)
      go true e d f = let k = params-done (leb-true _ _ e) in ((cc), (cc))
      go false e true f = not_done (sym (params-cut (leb-true _ _ f) (leb-false _ _ e)) ∙ h)
      go false e false f = not_done (sym (params-short (leb-false _ _ f)) ∙ h)

pub nodes-done : (v : ℕ) (s : List ℕ) {nd : Nodes} {n : ℕ} → (nodes v).read s ≡ done nd n
    → (n ≡ 2 + (4096 * width v + 8192)) × (n ≤ length s) × (nd ≡ lists_of (width v) (drop 2 s))
unfolding nodes
nodes-done v s h =
    let x = fixed-done fault.Ends 1 (width v) fault.ContentWidth (fixed 1 2 fault.ParamsWidth (params v)) s h in
    let y = fixed-done fault.Ends 1 2 fault.ParamsWidth (params v) (drop 1 s) x.1 in
    let z = params-read v (drop 2 s) (rw drop-drop at y.1) in
    (omega (arith, x.2, y.2, z.0), ends-in (nodes v) h, z.1)

-- the widths, and the lists behind them
module _ (v : ℕ) (s : List ℕ) where
  pub nodes-refused : {e : Fault} {p : ℕ} → (u8 {ends = fault.Ends}).read s ≡ refused e p → (nodes v).read s ≡ refused e p
  unfolding nodes
  nodes-refused h = fixed-refused fault.Ends 1 (width v) fault.ContentWidth (fixed 1 2 fault.ParamsWidth (params v)) s h

  pub nodes-other : {x : ℕ} → (u8 {ends = fault.Ends}).read s ≡ done x 1 → (x ≡ width v → ⊥) → (nodes v).read s ≡ refused fault.ContentWidth 0
  unfolding nodes
  nodes-other h n = fixed-other fault.Ends 1 (width v) fault.ContentWidth (fixed 1 2 fault.ParamsWidth (params v)) s h n

  module _ {x : ℕ} (h : (u8 {ends = fault.Ends}).read s ≡ done x 1) (w : x ≡ width v) where
    behind-width : (nodes v).read s ≡ shift 1 (λ a. a) ((fixed 1 2 fault.ParamsWidth (params v)).read (drop 1 s))
    unfolding nodes
    behind-width = fixed_on fault.Ends 1 (width v) fault.ContentWidth (fixed 1 2 fault.ParamsWidth (params v)) s (h ∙ ap (λ (y : ℕ). done y 1) w)

    pub nodes-refused-2 : {e : Fault} {p : ℕ} → (u8 {ends = fault.Ends}).read (drop 1 s) ≡ refused e p → (nodes v).read s ≡ refused e (1 + p)
    nodes-refused-2 k = behind-width ∙ rw (fixed-refused fault.Ends 1 2 fault.ParamsWidth (params v) (drop 1 s) k)

    pub nodes-other-2 : {y : ℕ} → (u8 {ends = fault.Ends}).read (drop 1 s) ≡ done y 1 → (y ≡ 2 → ⊥) → (nodes v).read s ≡ refused fault.ParamsWidth 1
    nodes-other-2 k n = behind-width ∙ rw (fixed-other fault.Ends 1 2 fault.ParamsWidth (params v) (drop 1 s) k n)

    pub nodes-on : {y : ℕ} → (u8 {ends = fault.Ends}).read (drop 1 s) ≡ done y 1 → y ≡ 2 → ended ((nodes v).read s) ≡ shift 2 (λ a. a) (ended ((params v).read (drop 2 s)))
    nodes-on k e =
        rw (behind-width, fixed_on fault.Ends 1 2 fault.ParamsWidth (params v) (drop 1 s) (k ∙ ap (λ (y : ℕ). done y 1) e), drop-drop 1 1 s)
        (go ((params v).read (drop 2 s)))
      where
        go : (r : Read Fault Nodes) → ended (shift 1 (λ a. a) (shift 1 (λ a. a) r)) ≡ shift 2 (λ a. a) (ended r)
        go (done a n) = ap (done tt) (omega arith)
        go (refused f p) = ap (refused f) (omega arith)

-- ---- a list filled from its front
-- the first i of n entries stand in d
abbrev pub Filled : ℕ → ℕ → List ℕ → List ℕ → ℕ → Type 0
Filled w n s d i = (take i d ≡ take i (entries w n s)) × (length d ≡ n)

module _ (w n : ℕ) (s d : List ℕ) (i : ℕ) (f : Filled w n s d i) where
  pub fill_on : (x : ℕ) → i < n → x ≡ from_be 0 (take w (drop (w * i) s)) → Filled w n s (set d i x) (i + 1)
  fill_on x k q =
      let long : i < length (entries w n s) = rw entries-length k in
      let room : i < length d = omega arith in
      (rw (add-one, take-suc-set d i x room, take-suc (entries w n s) i 0 long, f.0, q, entries_at w n s i k), length-set d i x ∙ f.1)

  pub fill_end : n ≤ i → d ≡ entries w n s
  fill_end k =
      let whole : length d ≤ i = omega arith in
      let all : length (entries w n s) ≤ i = rw entries-length k in
      sym (take_all i d whole) ∙ f.0 ∙ take_all i (entries w n s) all

-- bytes stored over a whole list
pub stored-whole : (b d : List ℕ) → length b ≡ length d → stored 0 b d ≡ b
stored-whole b d h =
    let all : length d ≤ length b = omega arith in
    let fits : 0 + length b ≤ length d = omega arith in
    stored-fits 0 b d fits ∙ rw (zero-add, drop_of_length-le d all, append-nil)

-- a slice of 4,096 bytes, stored over a list of as many
pub stored-part : (s d : List ℕ) (from to at : ℕ) → from ≡ at → to ≡ at + 4096 → at + 4096 ≤ length s → length d ≡ 4096
    → stored 0 (take (to - from) (drop from s)) d ≡ entries 1 4096 (drop at s)
stored-part s d from to at p q h k =
    let n : to - from ≡ 4096 = omega arith in
    let long : 4096 ≤ length (drop at s) = rw length-drop (omega arith) in
    let size : length (take 4096 (drop at s)) ≡ length d = length-take-le 4096 (drop at s) long ∙ sym k in
    ap₂ (λ (i j : ℕ). stored 0 (take i (drop j s)) d) n p ∙ stored-whole (take 4096 (drop at s)) d size ∙ sym (entries-take 4096 (drop at s) long)

-- ---- content ids
two-below : (l : List ℕ) → Bytes l → from_be 0 (take 2 l) < 65536
two-below [] b = omega arith
two-below (x ∷ []) b = omega (arith, b 0)
two-below (x ∷ y ∷ l) b = omega (arith, b 0, b 1)

-- ---- content ids
module _ (v a b : ℕ) where
  pub content-new : 24 ≤ v → a ≡ content_id v a b
  content-new h = rw (le-leb 24 v h)

  module _ (h : v < 24) where
    pub content-low : a < 128 → a ≡ content_id v a b
    content-low k = rw (lt-leb 24 v h, lt-ltb a 128 k)

    pub content-high : 128 ≤ a → 16 * a + b / 16 ≡ content_id v a b
    content-high k = rw (lt-leb 24 v h, le-ltb a 128 k)

  -- it is a number of two bytes
  pub content-below : a < 65536 → b < 256 → (v < 24 → a < 256) → content_id v a b < 65536
  content-below h k n =
      either 24 v (λ g. rw (← content-new g) h)
      (λ g. either 128 a (λ f. rw (← content-high g f) (omega (arith, n g))) (λ f. rw (← content-low g f) h))

module _ (v : ℕ) (s : List ℕ) (i : ℕ) where
  pub id-new : 24 ≤ v → 2 * i + 1 < length s → (b : ℕ) → content_id v (get_or s (2 * i) 0 * 256 + get_or s (2 * i + 1) 0) b ≡ id_in v s i
  id-new h k b = rw (le-leb 24 v h) (sym (entry-two s (2 * i) k))

  pub id-old : v < 24 → content_id v (get_or s i 0) (get_or s (8192 + i) 0) ≡ id_in v s i
  id-old h = rw (lt-leb 24 v h, one-mul, entry-one s i)

  pub id_below : Bytes s → id_in v s i < 65536
  id_below b =
      either 24 v (λ h. rw (le-leb 24 v h) (two-below (drop (2 * i) s) (bytes_drop (2 * i) s b)))
      (λ h. rw (← id-old h) (content-below v (get_or s i 0) (get_or s (8192 + i) 0) (omega (arith, b i)) (b (8192 + i)) (λ _. b i)))

-- ---- unmapped ids
-- a block whose lists are those bytes
module _ (b : Block) (v : ℕ) (s : List ℕ) (e : b.head.version ≡ v) (h : b.nodes ≡ lists_of (width v) s) where
  pub id_same : (i : ℕ) → i < 4096 → id_at b i ≡ id_in v s i
  id_same i k =
      rw (e, h, entries_at (width v) 4096 s i k, entries-one 4096 (drop (4096 * width v + 4096) s) i k, get_or-drop (4096 * width v + 4096) s i 0)

  -- and a table of its names
  module _ (free : ℕ → Bool) (t : List ℕ) (d : Tabled 65536 (unmapped free b.names) t) (y : Bytes s) where
    pub first_unmapped-same : first_unmapped free b ≡ first_unmapped_in v s t
    first_unmapped-same = first-same _ (unmarked_in v s t) 4096 0 (λ i _ k. ap (unmapped free b.names) (id_same i k) ∙ d.tells (id_in v s i) (id_below v s i y))

-- an index below 4,096, in bytes that hold the lists
pub id-there : (v : ℕ) (s : List ℕ) (i : ℕ) → i < 4096 → 4096 * width v + 8192 ≤ length s → id_of v s i ≡ id_in v s i
id-there v s i h k = rw (lt-leb 4096 i h, le-leb (4096 * width v + 8192) (length s) k)

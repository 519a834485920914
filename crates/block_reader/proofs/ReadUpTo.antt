-- A block read up to its late timers: what the front, the lists behind it and the names before version 29 give together.
use Prim.Native.Nat.{ℕ, ◌+◌, ◌<◌, ◌≤◌}
use mathlib.Core.Path.{◌≡◌, ap, sym, ◌∙◌}
use mathlib.Core.List.{List}
use mathlib.Core.Bool.{Bool}
use native.Mathlib.Omega.{arith}
use lib.ListN.{drop}
use lib.Seq.{drop-drop}
use borrow.Author.Tests.{le-leb, lt-leb}
use Rattle.wire.specs.Read.{Read, done, refused, map_read, shift}
use Rattle.wire.specs.Format.{nothing, ◌⨾◌, pair, iso}
use Rattle.wire.specs.Formats.{◌▹◌, only}
use Rattle.mapblock.specs.Inventory.{BlockFormat}
use Rattle.mapblock.specs.Data.{Block, NameMapping, Timers, Front, Rest, Steps, no_mapping, rest_shape, steps_shape}
use Rattle.mapblock.specs.Layout.{before, name_mapping, metadata, early_timers, objects, late_timers, front, rest, steps}
use Rattle.mapblock.specs.Block.{block, block_from}
use Rattle.block_reader.specs.Scan.{MiddleRows, middle_shape, middle}
use Rattle.mapblock.specs.declared.fault.Fault.{Fault}
use Rattle.block_reader.proofs.Verdicts.{Then, then_one, then-more, then-into, shift-twice, map-shift}

-- ---- the reading
-- what may stand behind the static objects
abbrev tail : (ℕ → Bool) → ℕ → BlockFormat (NameMapping × Timers)
tail free v = only (before 29 v) no_mapping (name_mapping free) ▹ late_timers v

abbrev joined : MiddleRows → NameMapping × Timers → Rest
joined y z = record { metadata = y.metadata; early = y.early; objects = y.objects; mapping = z.0; late = z.1 }

abbrev whole : Front → Rest → Steps
whole x y = record { front = x; rest = y }

rest_then : (free : ℕ → Bool) (v : ℕ) → Then (middle v) (rest free v) (tail free v) joined
unfolding rest
rest_then free v =
    then-into middle_shape rest_shape _ _ (tail free v) _
    (then-more (metadata v) (early_timers v ▹ objects) (early_timers v ▹ objects ▹ tail free v) (tail free v) _
    (then-more (early_timers v) objects (objects ▹ tail free v) (tail free v) pair (then_one objects (tail free v))))

module _ (free : ℕ → Bool) (s : List ℕ) where
  pub block-no-front : {e : Fault} {p : ℕ} → (front free).read s ≡ refused e p → (block free).read s ≡ refused e p
  unfolding block iso steps ◌⨾◌
  block-no-front h = rw h

  module _ {x : Front} {e : ℕ} (h : (front free).read s ≡ done x e) where
    abbrev v : ℕ
    v = x.opening.version

    block-by : {r : Read Fault Rest} → (rest free v).read (drop e s) ≡ r → (block free).read s ≡ map_read block_from (shift e (whole x) r)
    unfolding block iso steps ◌⨾◌
    block-by {r} k = rw (h, k) (ap (map_read block_from) (map-shift e steps_shape.make (pair x) r))

    pub block-no-middle : {f : Fault} {p : ℕ} → (middle v).read (drop e s) ≡ refused f p → (block free).read s ≡ refused f (e + p)
    block-no-middle {f} {p} k = block-by ((rest_then free v).fails (drop e s) f p k)

    module _ {y : MiddleRows} {n : ℕ} (g : (middle v).read (drop e s) ≡ done y n) where
      -- the block with given timers at its end
      abbrev pub with_late_timers : NameMapping → Timers → Block
      with_late_timers sv t = block_from (whole x (joined y (pair sv t)))

      tail-reads : {r : Read Fault (NameMapping × Timers)} → (tail free v).read (drop (e + n) s) ≡ r → (rest free v).read (drop e s) ≡ shift n (joined y) r
      tail-reads k = (rest_then free v).goes (drop e s) y n g ∙ ap (shift n (joined y)) (ap (tail free v).read (drop-drop n e s) ∙ k)

      pub block-no-names : {f : Fault} {p : ℕ} → v < 29 → (name_mapping free).read (drop (e + n) s) ≡ refused f p → (block free).read s ≡ refused f (e + n + p)
      unfolding ◌⨾◌
      block-no-names {f} {p} l k =
          let q : (tail free v).read (drop (e + n) s) ≡ refused f p = go l k in
          let z : e + (n + p) ≡ e + n + p = omega arith in
          block-by (tail-reads q) ∙ rw z
        where
          go : v < 29 → (name_mapping free).read (drop (e + n) s) ≡ refused f p → (tail free v).read (drop (e + n) s) ≡ refused f p
          go l k = rw (lt-leb 29 v l, k)

      -- so many bytes of names behind the static objects
      reads-by : (sv : NameMapping) (k at : ℕ) → at ≡ e + n + k → (shift k (pair sv) ((late_timers v).read (drop k (drop (e + n) s)))) ≡ (tail free v).read (drop (e + n) s)
          → (block free).read s ≡ shift at (with_late_timers sv) ((late_timers v).read (drop at s))
      reads-by sv k at z q =
          let r = (late_timers v).read (drop at s) in
          let d : drop k (drop (e + n) s) ≡ drop at s = drop-drop k (e + n) s ∙ ap (λ (i : ℕ). drop i s) (sym z) in
          let a : (tail free v).read (drop (e + n) s) ≡ shift k (pair sv) r = sym q ∙ ap (λ (l : List ℕ). shift k (pair sv) ((late_timers v).read l)) d in
          let i : e + (n + k) ≡ at = omega arith in
          block-by (tail-reads a ∙ shift-twice n k (joined y) (pair sv) r) ∙ map-shift e block_from (whole x) (shift (n + k) (λ (t : Timers). joined y (pair sv t)) r)
          ∙ shift-twice e (n + k) (λ (w : Rest). block_from (whole x w)) (λ (t : Timers). joined y (pair sv t)) r
          ∙ ap (λ (j : ℕ). shift j (with_late_timers sv) r) i

      pub reads-new : (at : ℕ) → 29 ≤ v → at ≡ e + n → (block free).read s ≡ shift at (with_late_timers no_mapping) ((late_timers v).read (drop at s))
      unfolding ◌⨾◌ nothing
      reads-new at l z = reads-by no_mapping 0 at (omega arith) (go l)
        where
          go : 29 ≤ v → shift 0 (pair no_mapping) ((late_timers v).read (drop (e + n) s)) ≡ (tail free v).read (drop (e + n) s)
          go l = rw (le-leb 29 v l)

      pub reads_old : (at : ℕ) {sv : NameMapping} {k : ℕ} → v < 29 → (name_mapping free).read (drop (e + n) s) ≡ done sv k → at ≡ e + n + k
          → (block free).read s ≡ shift at (with_late_timers sv) ((late_timers v).read (drop at s))
      unfolding ◌⨾◌
      reads_old at {sv} {k} l q z = reads-by sv k at z (go l q)
        where
          go : v < 29 → (name_mapping free).read (drop (e + n) s) ≡ done sv k → shift k (pair sv) ((late_timers v).read (drop k (drop (e + n) s))) ≡ (tail free v).read (drop (e + n) s)
          go l q = rw (lt-leb 29 v l, q)

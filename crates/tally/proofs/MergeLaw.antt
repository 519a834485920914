-- Lists of merges: whatever their order and grouping, what is left adds up to the start, and one that is left is the sum.
use Prim.Native.Nat.{ℕ, zero, suc, ◌+◌, ◌≤◌}
use mathlib.Core.Path.{◌≡◌, refl, sym, ap, subst, ◌∙◌}
use mathlib.Core.List.{List, [], ◌∷◌, ◌++◌}
use mathlib.Core.Logic.{◌⊎◌}
use mathlib.Core.Option.{Option, some, none, none-ne-some}
use native.Mathlib.Omega.{arith}
use lib.Dec.{lit<}
use lib.ListN.{length, take, replicate}
use lib.Seq.{take-append_seam}
use Rattle.wire.specs.Bytes.{Bytes, bytes-nil, bytes-cons, bytes_take}
use Rattle.wire.specs.Answer.{Answer, good, refusal, map_answer, lent, no_room, too_many}
use Rattle.wire.proofs.Answers.{no-good}
use Rattle.tally.specs.Rows.{plus, count_in, Canonical}
use Rattle.tally.specs.Tally.{TallyKind, TallyRows, tally, rows_of}
use Rattle.tally.specs.Operations.{tallied, merge_of}
use Rattle.tally.specs.Theorems.{Merger, outcome, merged, Taken, here, there, Merges, stop, done, refused, IsTally, AllTallies, rows_in, sum_of, Fits, Overfull, MergeLawOf, MergeLaw, SumCounts, empty_tally, EmptyChangesNothing, ShutOut}
use Rattle.tally.proofs.Held.{opened, rows-of-tally, tally-size, tally-bytewise, tally-bytes}
use Rattle.tally.proofs.Canon.{count-plus, canonical-plus, plus_comm, plus_assoc, plus-unit}
use Rattle.tally.proofs.Fitting.{Tallying, fit, overfull, tallying, tallied-good, merge-both, fits-left}

pub sum-counts : (k : TallyKind) → SumCounts k
sum-counts k [] n = refl
sum-counts k (t ∷ ts) n = rw (count-plus k.counts (rows_in k t) (sum_of k ts) n, sum-counts k ts n)

module _ (k : TallyKind) where
  -- ---- the rows of tallies
  abbrev sum : TallyRows k → TallyRows k → TallyRows k
  sum a b = plus k.counts a b

  rows_are : (t : List ℕ) → IsTally k t → rows_of k t ≡ some (rows_in k t)
  rows_are t h = rw h.1.1

  rows-canonical : (t : List ℕ) → IsTally k t → Canonical k.counts (rows_in k t)
  rows-canonical t h = (opened k t (rows_in k t) h.0 (rows_are t h)).canonical

  sum-canonical : (ts : List (List ℕ)) → AllTallies k ts → Canonical k.counts (sum_of k ts)
  sum-canonical [] h = tt
  sum-canonical (t ∷ ts) h = canonical-plus k.counts (rows_in k t) (sum_of k ts) (rows-canonical t h.0) (sum-canonical ts h.1)

  -- ---- a tally taken out of a list
  record Parsed (a : List ℕ) (ts us : List (List ℕ)) : Type 0 where
    adds : sum_of k ts ≡ sum (rows_in k a) (sum_of k us)
    fewer : length ts ≡ suc (length us)
    one : IsTally k a
    rest : AllTallies k us

  swap : (x y z : TallyRows k) → Canonical k.counts x → Canonical k.counts y → Canonical k.counts z
      → sum x (sum y z) ≡ sum y (sum x z)
  swap x y z g h i =
      sym (plus_assoc k.counts x y z g h i) ∙ ap (λ (t : TallyRows k). sum t z) (plus_comm k.counts x y g h) ∙ plus_assoc k.counts y x z h g i

  took : {a : List ℕ} {ts us : List (List ℕ)} → Taken a ts us → AllTallies k ts → Parsed a ts us
  took here h = record { adds = refl; fewer = refl; one = h.0; rest = h.1 }
  took {a} (there {x = x} {m = m} t) h =
      let r = took t h.1 in
      record {
        adds = ap (sum (rows_in k x)) r.adds ∙ swap (rows_in k x) (rows_in k a) (sum_of k m) (rows-canonical x h.0) (rows-canonical a r.one) (sum-canonical m r.rest);
        fewer = ap suc r.fewer;
        one = r.one;
        rest = (h.0, r.rest);
      }

  -- two of them
  record Pair (a b : List ℕ) (ts vs : List (List ℕ)) : Type 0 where
    adds : sum_of k ts ≡ sum (sum (rows_in k a) (rows_in k b)) (sum_of k vs)
    fewer : length ts ≡ suc (suc (length vs))
    one : IsTally k a
    two : IsTally k b
    both : Canonical k.counts (sum (rows_in k a) (rows_in k b))
    rest : AllTallies k vs

  pair : {a b : List ℕ} {ts us vs : List (List ℕ)} → Taken a ts us → Taken b us vs → AllTallies k ts → Pair a b ts vs
  pair {a} {b} {vs = vs} p q h =
      let r = took p h in
      let s = took q r.rest in
      let g = rows-canonical a r.one in
      let i = rows-canonical b s.one in
      record {
        adds = r.adds ∙ ap (sum (rows_in k a)) s.adds ∙ sym (plus_assoc k.counts (rows_in k a) (rows_in k b) (sum_of k vs) g i (sum-canonical vs s.rest));
        fewer = r.fewer ∙ ap suc s.fewer;
        one = r.one;
        two = s.one;
        both = canonical-plus k.counts (rows_in k a) (rows_in k b) g i;
        rest = s.rest;
      }

  -- ---- one merge
  -- bytes of rows that fit
  record Made (room : ℕ) (l : TallyRows k) (t : List ℕ) : Type 0 where
    bytes : t ≡ (tally k).encode l
    fits : Fits k room l

  -- what stands in front of an output where the answer is good
  made_of : (room n : ℕ) (l : TallyRows k) (out : List ℕ) → map_answer length (tallied k room l) ≡ good n → Made room l (take n (lent (tallied k room l) out))
  made_of room n l out e = go (tallying k room l)
    where
      go : Tallying k room l → Made room l (take n (lent (tallied k room l) out))
      go (fit h f) =
          let z : n ≡ length ((tally k).encode l) = cc in
          record { bytes = rw (f, z, take-append_seam); fits = h }
      go (overfull w f) = no-good (sym (ap (map_answer length) f) ∙ e)

  -- why they are refused
  record Why (room number : ℕ) (l : TallyRows k) : Type 0 where
    known : (number ≡ too_many) ⊎ (number ≡ no_room)
    big : Fits k room l → ⊥

  why : (room n r o : ℕ) (l : TallyRows k) → map_answer length (tallied k room l) ≡ refusal n r o → Why room n l
  why room n r o l e = record { known = go (tallying k room l); big = λ h. no-good (sym e ∙ ap (map_answer length) (tallied-good k room l h)) }
    where
      go : Tallying k room l → (n ≡ too_many) ⊎ (n ≡ no_room)
      go (fit h f) = no-good (sym e ∙ ap (map_answer length) f)
      go (overfull {n = m} w f) = let z : m ≡ n = cc in subst (λ (i : ℕ). (i ≡ too_many) ⊎ (i ≡ no_room)) z w

  -- the answer is about the sum of the rows
  both_told : {a b : List ℕ} {ts vs : List (List ℕ)} {room : ℕ} (out : List ℕ) → length out ≡ room → Pair a b ts vs
      → merge_of k (length out) a b ≡ tallied k room (sum (rows_in k a) (rows_in k b))
  both_told {a} {b} out e p = rw (← e) (merge-both k (length out) a b (rows_are a p.one) (rows_are b p.two))

  -- a result in the place of both
  record Step (room : ℕ) (ts : List (List ℕ)) (t : List ℕ) (vs : List (List ℕ)) : Type 0 where
    adds : sum_of k (t ∷ vs) ≡ sum_of k ts
    all : AllTallies k (t ∷ vs)
    made : Made room (rows_in k t) t

  step : {a b : List ℕ} {ts vs : List (List ℕ)} (room : ℕ) (t : List ℕ) → Pair a b ts vs → Made room (sum (rows_in k a) (rows_in k b)) t → Step room ts t vs
  step {a} {b} room t p m =
      let l = sum (rows_in k a) (rows_in k b) in
      let e : rows_of k t ≡ some l = rw m.bytes (rows-of-tally k l p.both m.fits.0) in
      record {
        adds = rw (e, p.adds);
        all = ((rw m.bytes (tally-bytewise k l p.both m.fits.0), (l, e)), p.rest);
        made = rw e m;
      }

  -- ---- a list of merges
  -- where one is left, it was made
  abbrev AddReady : ℕ → List (List ℕ) → Type 0
  AddReady room ts = (t : List ℕ) → ts ≡ t ∷ [] → Made room (rows_in k t) t

  record Kept (room : ℕ) (start : List (List ℕ)) (made : ℕ) (log : List ℕ) (left : List (List ℕ)) : Type 0 where
    adds : sum_of k left ≡ sum_of k start
    all : AllTallies k left
    fewer : made + length left ≡ length start
    full : Overfull k log
    none-refused : Fits k room (sum_of k start) → log ≡ []
    ready : AddReady room start → AddReady room left

  kept : {room made : ℕ} {log : List ℕ} {ts left : List (List ℕ)} → Merges (merged k) room ts made log left → AllTallies k ts → Kept room ts made log left
  kept stop h = record { adds = refl; all = h; fewer = omega arith; full = tt; none-refused = λ f. refl; ready = λ r. r }
  kept {room} (done {a = a} {b = b} {out = out} {n = n} p q o e m) h =
      let x = pair p q h in
      let y = both_told out o x in
      let t = take n (lent (merge_of k (length out) a b) out) in
      let s = step room t x (rw y (made_of room n _ out (rw y at e))) in
      let i = kept m s.all in
      record {
        adds = i.adds ∙ s.adds;
        all = i.all;
        fewer = omega (arith, x.fewer, i.fewer);
        full = i.full;
        none-refused = λ f. i.none-refused (rw s.adds f);
        ready = λ r. i.ready (λ u w. (let v : t ≡ u = cc in subst (λ (y : List ℕ). Made room (rows_in k y) y) v s.made));
      }
  kept {room} (refused {out = out} {vs = vs} {number = number} {record₀ = record₀} {offset = offset} p q o e m) h =
      let x = pair p q h in
      let w = why room number record₀ offset _ (rw (both_told out o x) at e) in
      let i = kept m h in
      record {
        adds = i.adds;
        all = i.all;
        fewer = i.fewer;
        full = (w.known, i.full);
        none-refused = λ f. absurd (w.big (fits-left k room _ (sum_of k vs) x.both (sum-canonical vs x.rest) (rw x.adds at f)));
        ready = i.ready;
      }

-- from two tallies or more, by any list of merges
pub merge-law : (k : TallyKind) → MergeLaw k
merge-law k room a b more made log left h m =
    let i = kept k m h in
    let r = i.ready (λ t e. absurd (two t e)) in
    record {
      tallies = i.all;
      same = λ n. sym (sum-counts k left n) ∙ ap (λ (l : TallyRows k). count_in k.counts l n) i.adds ∙ sum-counts k (a ∷ b ∷ more) n;
      fewer = i.fewer;
      overfull = i.full;
      none-refused = i.none-refused;
      one_left = λ t e.
          let g : AllTallies k (t ∷ []) = subst (AllTallies k) e i.all in
          let whole : rows_in k t ≡ sum_of k (a ∷ b ∷ more) = sym (plus-unit k.counts (rows_in k t) (rows-canonical k t g.0)) ∙ ap (sum_of k) (sym e) ∙ i.adds in
          (rw (← whole) (r t e).fits, rw (← whole) (r t e).bytes);
    }
  where
    two : (t : List ℕ) → a ∷ b ∷ more ≡ t ∷ [] → ⊥
    two t e = let z : ◌≡◌ {A = ℕ} 0 1 = cc in omega arith

-- ---- where no list of merges has a refusal, merging the first two again and again leaves one
module _ (m : Merger) (room : ℕ) (out : List ℕ) (size : length out ≡ room) where
  abbrev NoneRefused : List (List ℕ) → Type 0
  NoneRefused ts = (made : ℕ) (log : List ℕ) (left : List (List ℕ)) → Merges m room ts made log left → log ≡ []

  pub leaves-one : (a : List ℕ) (more : List (List ℕ)) → NoneRefused (a ∷ more) → (u : List ℕ) × Merges m room (a ∷ more) (length more) [] (u ∷ [])
  leaves-one a [] h = (a, stop)
  leaves-one a (b ∷ more) h = go (m a b out).0 refl (λ t. leaves-one t more)
    where
      go : (r : Answer ℕ) → (m a b out).0 ≡ r → ((t : List ℕ) → NoneRefused (t ∷ more) → (u : List ℕ) × Merges m room (t ∷ more) (length more) [] (u ∷ []))
          → (u : List ℕ) × Merges m room (a ∷ b ∷ more) (suc (length more)) [] (u ∷ [])
      go (good n) e on =
          let x = on (take n (m a b out).1) (λ made log left l. h (suc made) log left (done here here size e l)) in
          (x.0, done here here size e x.1)
      go (refusal n r o) e on =
          let none = h 0 (n ∷ []) (a ∷ b ∷ more) (refused here here size e stop) in
          let z : ◌≡◌ {A = ℕ} 0 1 = cc in absurd (omega arith)

-- ---- the empty tally
no_rows : (k : TallyKind) → rows_of k (empty_tally k) ≡ some []
no_rows k = rows-of-tally k [] tt refl

among-others : (k : TallyKind) (front back : List (List ℕ)) → sum_of k (front ++ empty_tally k ∷ back) ≡ sum_of k (front ++ back)
among-others k [] back = rw (no_rows k)
among-others k (t ∷ front) back = ap (plus k.counts (rows_in k t)) (among-others k front back)

-- where the sum of two tallies' rows is the rows of a tally that fits, their merge gives that tally
merge-gives : (k : TallyKind) (a b t out : List ℕ) {x y : TallyRows k} → rows_of k a ≡ some x → rows_of k b ≡ some y → IsTally k t → plus k.counts x y ≡ rows_in k t → length t ≤ length out
    → merged k a b out ≡ outcome (good t) out
merge-gives k a b t out f g h e fits =
    let o = opened k t (rows_in k t) h.0 (rows_are k t h) in
    let room = length out in
    let same : merge_of k room a b ≡ good t = merge-both k room a b f g ∙ ap (tallied k room) e ∙ tallied-good k room (rows_in k t) (o.counts, subst (λ (x : List ℕ). length x ≤ room) o.bytes fits) ∙ ap good (sym o.bytes) in
    ap (λ (x : Answer (List ℕ)). outcome x out) same

pub empty-changes-nothing : (k : TallyKind) → EmptyChangesNothing k
empty-changes-nothing k = record {
  first = λ t out h. merge-gives k (empty_tally k) t t out (no_rows k) (rows_are k t h) h refl;
  second = λ t out h. merge-gives k t (empty_tally k) t out (rows_are k t h) (no_rows k) h (plus-unit k.counts (rows_in k t) (rows-canonical k t h));
  among = among-others k;
}

-- ---- what the law shuts out, by two empty tallies and an output of zeros
abbrev pub zeros : ℕ → List ℕ
zeros n = replicate n 0

zeros-bytes : (n : ℕ) → Bytes (zeros n)
zeros-bytes zero = bytes-nil
zeros-bytes (suc n) = bytes-cons 0 (zeros n) (lit< tt) (zeros-bytes n)

-- zeros are no tally, which starts with its mark
pub zeros-none : (k : TallyKind) (room n : ℕ) → rows_of k (take n (zeros room)) ≡ none
zeros-none k room n = go (rows_of k (take n (zeros room))) refl
  where
    marked : (room n : ℕ) {t : List ℕ} → take n (zeros room) ≡ 84 ∷ t → ⊥
    marked room zero e = let z : ◌≡◌ {A = ℕ} 0 1 = cc in omega arith
    marked zero (suc n) e = let z : ◌≡◌ {A = ℕ} 0 1 = cc in omega arith
    marked (suc room) (suc n) e = let z : ◌≡◌ {A = ℕ} 0 84 = cc in omega arith

    go : (o : Option (TallyRows k)) → rows_of k (take n (zeros room)) ≡ o → rows_of k (take n (zeros room)) ≡ none
    go none e = e
    go (some l) e = absurd (marked room n ((opened k (take n (zeros room)) l (bytes_take n (zeros room) (zeros-bytes room)) e).bytes ∙ tally-bytes k l))

module _ (k : TallyKind) (m : Merger) (law : MergeLawOf k m) where
  two-empty : AllTallies k (empty_tally k ∷ empty_tally k ∷ [])
  two-empty = let t : IsTally k (empty_tally k) = (tally-bytewise k [] tt refl, ([], no_rows k)) in (t, (t, tt))

  no-sum : sum_of k (empty_tally k ∷ empty_tally k ∷ []) ≡ []
  no-sum = rw (no_rows k)

  not-refused : {n r o : ℕ} → (m (empty_tally k) (empty_tally k) (zeros 9)).0 ≡ refusal n r o → ⊥
  not-refused {n} e =
      let fits : Fits k 9 (sum_of k (empty_tally k ∷ empty_tally k ∷ [])) = rw no-sum (refl, omega (arith, tally-size k [])) in
      let nothing = (law 9 (empty_tally k) (empty_tally k) [] 0 (n ∷ []) _ two-empty (refused here here refl e stop)).none-refused fits in
      let z : ◌≡◌ {A = ℕ} 0 1 = cc in omega arith

  not-idle : (r : Answer ℕ) → (m (empty_tally k) (empty_tally k) (zeros 9)).0 ≡ r → (m (empty_tally k) (empty_tally k) (zeros 9)).1 ≡ zeros 9 → ⊥
  not-idle (refusal n r o) e f = not-refused e
  not-idle (good n) e f =
      let one = (law 9 (empty_tally k) (empty_tally k) [] 1 [] _ two-empty (done here here refl e stop)).one_left _ refl in
      let same : take n (zeros 9) ≡ empty_tally k = ap (take n) (sym f) ∙ one.1 ∙ ap (tally k).encode no-sum in
      none-ne-some [] (sym (zeros-none k 9 n) ∙ ap (rows_of k) same ∙ no_rows k)

pub shut_out : (k : TallyKind) → ShutOut k
shut_out k m law = (λ idle. not-idle k m law _ refl (idle _ _ _), λ refuses. not-refused k m law (refuses _ _ _).3)

-- Parts of which each node of the whole lies in exactly one: their tallies sum up to the whole's, and the cut law follows.
use Rattle.std.proofs.Common.{◌≡◌, ℕ, suc, true, List, [], ◌∷◌, ◌++◌, length, sym, refl, ap, ◌∙◌, subst, arith}
use Rattle.wire.proofs.Tests.{and_yes, yes_and}
use Rattle.wire.specs.Order.{order, choose}
use Rattle.wire.specs.Answer.{good}
use Rattle.tally.specs.Rows.{plus, count_in, Canonical}
use Rattle.tally.specs.Tally.{tally}
use Rattle.tally.specs.Theorems.{merged, Merges, AllTallies, sum_of, Fits}
use Rattle.tally.proofs.Canon.{count-plus, canonical-plus, determined, plus-unit}
use Rattle.tally.proofs.Fitting.{fits-left, fits-right}
use Rattle.tally.proofs.MergeLaw.{merge-law, leaves-one, empty-changes-nothing}
use Rattle.position.specs.declared.part.Part.{Part}
use Rattle.position.specs.Parts.{good_part}
use Rattle.sheet.specs.Placed.{Placed}
use Rattle.meter.specs.Standing.{Node, filter_nodes, standing, nodes_in}
use Rattle.meter.specs.Counting.{Measure, MeasureRows, amount_of}
use Rattle.meter.specs.Cuts.{Cuts, uncut, cut, lower, upper, all_good, Partition}
use Rattle.meter.specs.Theorems.{Source, blocks_of, SpareFits, IsBytes, Gives, GivesWhole, tallied, Talliable, AllGive, Outputs, EveryCut, PartitionLaw, Demand3}
use Rattle.meter.proofs.Amounts.{first-amount, count-tally}
use Rattle.sheet.proofs.TakenBlocks.{AllValid}
use Rattle.meter.proofs.Blocks.{held, rows-canonical}
use Rattle.meter.proofs.Cuts.{partition}
use Rattle.meter.proofs.Shares.{total, totals, totals-whole}
use Rattle.meter.proofs.Exactness.{blocks-valid, tallied-told, told-gives, gives-tallied, rows-read, is-tally, exact}

-- ---- a list of cuts leaves at least one part
no-parts : (front back : List Part) (p q : Part) → front ++ p ∷ q ∷ back ≡ [] → ⊥
no-parts [] back p q e = let z : ◌≡◌ {A = ℕ} 0 1 = cc in omega arith
no-parts (r ∷ front) back p q e = let z : ◌≡◌ {A = ℕ} 0 1 = cc in omega arith

pub some-part : {whole : Part} {parts : List Part} → Cuts whole parts → parts ≡ [] → ⊥
some-part uncut e = let z : ◌≡◌ {A = ℕ} 0 1 = cc in omega arith
some-part (cut front p back c k h) e = no-parts front back (lower c p) (upper c p) e

module _ (m : Measure) where
  -- ---- an amount of a name is a total: of what each node counts of the name
  abbrev own : List ℕ → Node → m.kind.counts.C
  own n x = choose (order x.name n) m.kind.counts.none (m.of x) m.kind.counts.none

  no-amount : (n : List ℕ) → amount_of m n [] ≡ m.kind.counts.none
  unfolding filter_nodes
  no-amount n = m.total-none

  amount-is : (n : List ℕ) (l : List Node) → amount_of m n l ≡ total m.kind.counts (own n) l
  amount-is n [] = no-amount n
  amount-is n (x ∷ l) = first-amount m x l n ∙ ap (m.kind.counts.add (own n x)) (amount-is n l)

  -- ---- rows over parts
  module _ (l : List Placed) (v : AllValid l) where
    abbrev sum_rows : List Part → MeasureRows m
    sum_rows [] = []
    sum_rows (p ∷ ps) = plus m.kind.counts (held m p l) (sum_rows ps)

    sum-canonical : (ps : List Part) → Canonical m.kind.counts (sum_rows ps)
    sum-canonical [] = tt
    sum-canonical (p ∷ ps) = canonical-plus m.kind.counts (held m p l) (sum_rows ps) (rows-canonical m p l v) (sum-canonical ps)

    held-counts : (p : Part) (n : List ℕ) → count_in m.kind.counts (held m p l) n ≡ total m.kind.counts (own n) (nodes_in p l)
    held-counts p n = count-tally m (nodes_in p l) n ∙ amount-is n (nodes_in p l)

    sum-counts : (ps : List Part) (n : List ℕ) → count_in m.kind.counts (sum_rows ps) n ≡ totals m.kind.counts (own n) (standing l) ps
    sum-counts [] n = refl
    sum-counts (p ∷ ps) n = count-plus m.kind.counts (held m p l) (sum_rows ps) n ∙ rw (held-counts p n, sum-counts ps n)

    sum-whole : (whole : Part) (ps : List Part) → Partition whole ps → sum_rows ps ≡ held m whole l
    sum-whole whole ps h =
        determined m.kind.counts (sum_rows ps) (held m whole l) (sum-canonical ps) (rows-canonical m whole l v)
        (λ n. sum-counts ps n ∙ totals-whole m.kind.counts (own n) whole ps h.shared (standing l) ∙ sym (held-counts whole n))

  -- ---- the parts' tallies
  module _ (room : ℕ) (x : Source) (b : IsBytes x) where
    -- each part can be tallied where their sum fits
    all_give : (l : List Placed) (v : AllValid l) → SpareFits x room → blocks_of x ≡ good l → (ps : List Part) (outs : List (List ℕ)) → Outputs m room ps outs → all_good ps ≡ true → Fits m.kind room (sum_rows l v ps)
        → (ts : List (List ℕ)) × AllGive m (tallied m) room x ps outs ts
    all_give l v s e [] outs o g f = ([], tt)
    all_give l v s e (p ∷ ps) [] o g f = absurd o
    all_give l v s e (p ∷ ps) (out ∷ outs) o g f =
        let k = and_yes (good_part p) (all_good ps) g in
        let c : Talliable m room x p = record { good-part = k.0; spare = s; blocks = l; taken = e; fits = fits-left m.kind room (held m p l) (sum_rows l v ps) (rows-canonical m p l v) (sum-canonical l v ps) f } in
        let r = all_give l v s e ps outs o.1 k.1 (fits-right m.kind room (held m p l) (sum_rows l v ps) f) in
        ((tally m.kind).encode (held m p l) ∷ r.0, (told-gives m x p room out _ o.0 (tallied-told m x p room c), r.1))

    -- those that were given are well-formed tallies, of good parts, and their sum is that of the rows
    record GivenBy (l : List Placed) (v : AllValid l) (ps : List Part) (ts : List (List ℕ)) : Type 0 where
      goods : all_good ps ≡ true
      sum : sum_of m.kind ts ≡ sum_rows l v ps
      tallies : AllTallies m.kind ts

    given_by : (l : List Placed) (v : AllValid l) → blocks_of x ≡ good l → (ps : List Part) (outs ts : List (List ℕ)) → AllGive m (tallied m) room x ps outs ts → GivenBy l v ps ts
    given_by l v e [] outs [] h = record { goods = refl; sum = refl; tallies = tt }
    given_by l v e [] outs (t ∷ ts) h = absurd h
    given_by l v e (p ∷ ps) outs [] h = absurd h
    given_by l v e (p ∷ ps) [] (t ∷ ts) h = absurd h
    given_by l v e (p ∷ ps) (out ∷ outs) (t ∷ ts) h =
        let y = gives-tallied m x p room out t b h.0 in
        let r = given_by l v e ps outs ts h.1 in
        let same : y.can.blocks ≡ l = cc (y.can.taken, e) in
        record {
          goods = yes_and y.can.good-part r.goods;
          sum = ap (λ (a : MeasureRows m). plus m.kind.counts a (sum_of m.kind ts)) (rows-read m b y ∙ ap (λ (k : List Placed). held m p k) same) ∙ ap (plus m.kind.counts (held m p l)) r.sum;
          tallies = (is-tally m b y, r.tallies);
        }

    module _ (whole p : Part) (ps : List Part) (out : List ℕ) (outs : List (List ℕ)) (h : Partition whole (p ∷ ps)) where
      -- the whole's tally is the sum of the parts'
      sum_is : (t : List ℕ) (ts : List (List ℕ)) → Gives (tallied m) room x whole out t → AllGive m (tallied m) room x (p ∷ ps) outs ts
          → Fits m.kind room (sum_of m.kind ts) × (t ≡ (tally m.kind).encode (sum_of m.kind ts))
      sum_is t ts g a =
          let y = gives-tallied m x whole room out t b g in
          let l = y.can.blocks in
          let v = (blocks-valid x b l y.can.taken).0 in
          let e : sum_of m.kind ts ≡ held m whole l = (given_by l v y.can.taken (p ∷ ps) outs ts a).sum ∙ sum-whole l v whole (p ∷ ps) h in
          (subst (Fits m.kind room) (sym e) y.can.fits, y.bytes ∙ ap (tally m.kind).encode (sym e))

      parts-tallied : Outputs m room (p ∷ ps) outs → (t : List ℕ) × Gives (tallied m) room x whole out t
          → (ts : List (List ℕ)) × AllGive m (tallied m) room x (p ∷ ps) outs ts × Fits m.kind room (sum_of m.kind ts)
      parts-tallied o (t, g) =
          let y = gives-tallied m x whole room out t b g in
          let l = y.can.blocks in
          let v = (blocks-valid x b l y.can.taken).0 in
          let a = all_give l v y.can.spare y.can.taken (p ∷ ps) outs o (h.good ∙ y.can.good-part) (subst (Fits m.kind room) (sym (sum-whole l v whole (p ∷ ps) h)) y.can.fits) in
          (a.0, a.1, (sum_is t a.0 g a.1).0)

      -- the first part's own
      first-given : (o : List (List ℕ)) (t : List ℕ) (ts : List (List ℕ)) → AllGive m (tallied m) room x (p ∷ ps) o (t ∷ ts) → (u : List ℕ) × Gives (tallied m) room x p u t
      first-given [] t ts a = absurd a
      first-given (u ∷ o) t ts a = (u, a.0)

      whole-tallied : length out ≡ room → (ts : List (List ℕ)) × AllGive m (tallied m) room x (p ∷ ps) outs ts × Fits m.kind room (sum_of m.kind ts)
          → (t : List ℕ) × Gives (tallied m) room x whole out t
      whole-tallied size ([], a, f) = absurd a
      whole-tallied size (t ∷ ts, a, f) =
          let w = first-given outs t ts a in
          let y = gives-tallied m x p room w.0 t b w.1 in
          let l = y.can.blocks in
          let v = (blocks-valid x b l y.can.taken).0 in
          let g = given_by l v y.can.taken (p ∷ ps) outs (t ∷ ts) a in
          let c : Talliable m room x whole = record {
            good-part = sym h.good ∙ g.goods;
            spare = y.can.spare;
            blocks = l;
            taken = y.can.taken;
            fits = subst (Fits m.kind room) (g.sum ∙ sum-whole l v whole (p ∷ ps) h) f;
          } in
          ((tally m.kind).encode (held m whole l), told-gives m x whole room out _ size (tallied-told m x whole room c))

      -- one part's tally is its own sum
      only_part : (t u : List ℕ) → Gives (tallied m) room x whole out t → AllGive m (tallied m) room x (p ∷ ps) outs (u ∷ []) → u ≡ t
      only_part t u g a =
          let w = first-given outs u [] a in
          let y = gives-tallied m x p room w.0 u b w.1 in
          let e : sum_of m.kind (u ∷ []) ≡ held m p y.can.blocks = ap (λ (r : MeasureRows m). plus m.kind.counts r []) (rows-read m b y) ∙ plus-unit m.kind.counts (held m p y.can.blocks) (rows-canonical m p y.can.blocks (blocks-valid x b y.can.blocks y.can.taken).0) in
          y.bytes ∙ ap (tally m.kind).encode (sym e) ∙ sym (sum_is t (u ∷ []) g a).1

      all-merges : (t a c : List ℕ) (more : List (List ℕ)) (made : ℕ) (log : List ℕ) (left : List (List ℕ))
          → Gives (tallied m) room x whole out t → AllGive m (tallied m) room x (p ∷ ps) outs (a ∷ c ∷ more) → Merges (merged m.kind) room (a ∷ c ∷ more) made log left
          → GivesWhole t (a ∷ c ∷ more) made log left
      all-merges t a c more made log left g k r =
          let s = sum_is t (a ∷ c ∷ more) g k in
          let y = gives-tallied m x whole room out t b g in
          let v = (blocks-valid x b y.can.blocks y.can.taken).0 in
          let ts = (given_by y.can.blocks v y.can.taken (p ∷ ps) outs (a ∷ c ∷ more) k).tallies in
          let law = merge-law m.kind room a c more made log left ts r in
          let one : (u : List ℕ) → left ≡ u ∷ [] → u ≡ t = λ u w. (law.one_left u w).1 ∙ sym s.1 in
          record { none-refused = law.none-refused s.0; one_left = one; all-merged = λ e. last left (omega (arith, law.fewer)) one }
        where
          last : (left : List (List ℕ)) → length left ≡ 1 → ((u : List ℕ) → left ≡ u ∷ [] → u ≡ t) → left ≡ t ∷ []
          last [] e f = absurd (omega arith)
          last (u ∷ []) e f = ap (λ (z : List ℕ). z ∷ []) (f u refl)
          last (u ∷ w ∷ left) e f = absurd (omega arith)

      whole-left : (t a c : List ℕ) (more : List (List ℕ)) → Gives (tallied m) room x whole out t → AllGive m (tallied m) room x (p ∷ ps) outs (a ∷ c ∷ more)
          → Merges (merged m.kind) room (a ∷ c ∷ more) (suc (length more)) [] (t ∷ [])
      whole-left t a c more g k =
          let u = leaves-one (merged m.kind) room out g.size a (c ∷ more) (λ made log left r. (all-merges t a c more made log left g k r).none-refused) in
          let same : u.0 ≡ t = (all-merges t a c more (suc (length more)) [] (u.0 ∷ []) g k u.1).one_left u.0 refl in
          subst (λ (y : List ℕ). Merges (merged m.kind) room (a ∷ c ∷ more) (suc (length more)) [] (y ∷ [])) same u.1

  pub partition-law : PartitionLaw m (tallied m) (merged m.kind)
  partition-law room x whole p ps out outs b h size o = record {
    exactly = (parts-tallied room x b whole p ps out outs h o, whole-tallied room x b whole p ps out outs h size);
    counts = λ q u t g. (exact m).counts room x q u t b g;
    one-part = only_part room x b whole p ps out outs h;
    merges = all-merges room x b whole p ps out outs h;
    leaves-one = whole-left room x b whole p ps out outs h;
  }

  -- ---- a list of cuts
  cut-law : EveryCut m (tallied m) (merged m.kind)
  cut-law room x whole [] out outs b k size o = absurd (some-part k refl)
  cut-law room x whole (p ∷ ps) out outs b k size o = partition-law room x whole p ps out outs b (partition k) size o

  pub demand-3 : Demand3 m
  demand-3 = record { exact = exact m; merges = merge-law m.kind; empty = empty-changes-nothing m.kind; cuts = cut-law }

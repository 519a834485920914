-- Tallying that is exact is neither always empty nor always refused, invents nothing and does not stop at a sheet's first record; and where the
-- cut law holds over it, merging neither does nothing nor refuses all. Shown by the shortest block of air at keys 0 and 1.
use Rattle.std.proofs.Common.{◌≡◌, ℕ, ◌+◌, ◌≤◌, true, List, [], ◌∷◌, length, take, pos, sym, refl, ap, ◌∙◌, subst, le_refl, arith, lit<, lit≤}
use mathlib.Core.Option.{some, none-ne-some}
use lib.ListN.{length-replicate}
use Rattle.wire.specs.Bytes.{Bytes}
use Rattle.wire.specs.Answer.{Answer, good, refusal, map_answer}
use Rattle.position.specs.Keys.{between, moved, is_key}
use Rattle.position.specs.Lots.{axis}
use Rattle.tally.specs.Rows.{count_in}
use Rattle.tally.specs.Tally.{tally, rows_of}
use Rattle.tally.specs.Theorems.{Merger, here as front, stop, done, refused}
use Rattle.tally.specs.Theorems as merging
use Rattle.tally.proofs.Held.{rows-of-tally}
use Rattle.tally.proofs.MergeLaw.{zeros, zeros-none}
use Rattle.position.specs.declared.part.Part.{Part}
use Rattle.sheet.specs.Placed.{Placed}
use Rattle.meter.specs.Standing.{Node, in_part, nodes_from, standing, filter_nodes, nodes_in}
use Rattle.meter.specs.Counting.{MeasureRows, amount_of, by_one}
use Rattle.sheet.specs.Sheet.{SheetRecord, sheet, sheet_of}
use Rattle.meter.specs.Cuts.{at_second, lower, upper, Cuts, uncut, cut}
use Rattle.sheet.specs.Theorems.{RecordsAre}
use Rattle.meter.specs.Theorems.{Source, one_block, whole-sheet, blocks_of, Tallier, Gives, Talliable, CountsOf, Exact, AllGive, CutLaw, EveryCut, FirstAlone, ShutOut, MergeShutOut}
use Rattle.meter.proofs.Amounts.{filter_nodes-append, amount-append}
use Rattle.meter.proofs.Blocks.{held}
use Rattle.meter.proofs.Exactness.{fits-in-own}
use Rattle.meter.proofs.NamesAlone.{standing-one}
use Rattle.sheet.proofs.SheetTaken.{ok-item, ok-sheet, sheet-taken}
use Rattle.meter.proofs.AirBlocks.{everywhere}
use Rattle.meter.proofs.AirBlocks as air

-- ---- the block at key 0
pub is_key_lem : is_key (pos 0) ≡ true
unfolding is_key between moved
is_key_lem = refl

abbrev pub here : Placed
here = air.here (pos 0) is_key_lem

abbrev pub source : Source
source = one_block (pos 0) air.bytes

pub taken : blocks_of source ≡ good (here ∷ [])
taken = ap (map_answer (λ (x : Placed). x ∷ [])) (air.stands (pos 0) is_key_lem)

abbrev room : ℕ
room = length ((tally by_one.kind).encode (held by_one everywhere (here ∷ [])))

can : Talliable by_one room source everywhere
unfolding between axis
can = record {
  good-part = refl;
  spare = tt;
  blocks = here ∷ [];
  taken = taken;
  fits = fits-in-own by_one (here ∷ []) everywhere (air.valid, tt) (lit< tt) (lit≤ tt);
}

-- ---- what exact tallying shuts out
out-long : length (zeros room) ≡ room
out-long = length-replicate room 0

can-out : Talliable by_one (length (zeros room)) source everywhere
can-out = subst (λ (r : ℕ). Talliable by_one r source everywhere) (sym out-long) can

-- what is told of the block is told of its first node too
count-there : (t : List ℕ) (r : MeasureRows by_one) → CountsOf by_one source everywhere t → rows_of by_one.kind t ≡ some r → 1 ≤ count_in by_one.kind.counts r air.air
count-there t r c h =
    let l : c.0 ≡ here ∷ [] = cc (c.2, taken) in
    let q : c.1 ≡ r = cc (c.3, h) in
    rw (← q) (rw (c.4 air.air, l) (air.counted (pos 0) is_key_lem))

-- ---- a sheet of two such blocks
beside-key : is_key (pos 1) ≡ true
unfolding is_key between moved
beside-key = refl

abbrev beside : Placed
beside = air.here (pos 1) beside-key

abbrev both : List Placed
both = here ∷ beside ∷ []

abbrev two : List SheetRecord
two = air.record_of (pos 0) ∷ air.record_of (pos 1) ∷ []

two_ok : sheet.Ok two
two_ok = ok-sheet two (lit< tt) (ok-item [] _ (air.framed (pos 0) (lit< tt)) is_key_lem refl, (ok-item (air.record_of (pos 0) ∷ []) _ (air.framed (pos 1) (lit< tt)) beside-key refl, tt))

two_bytes : Bytes (sheet.encode two)
two_bytes = sheet.bytes two two_ok

two-taken : sheet_of (sheet.encode two) ≡ good both
two-taken =
    let are : RecordsAre two both = (record { key = air.splits (pos 0) is_key_lem; valid = air.valid; bytes = refl }, (record { key = air.splits (pos 1) beside-key; valid = air.valid; bytes = refl }, tt)) in
    (sheet-taken (sheet.encode two) both two_bytes).1 (two, two_ok, refl, are)

abbrev two-room : ℕ
two-room = length ((tally by_one.kind).encode (held by_one everywhere both))

abbrev two-source : Source
two-source = whole-sheet (sheet.encode two) two-room

can-two : Talliable by_one two-room two-source everywhere
unfolding between axis
can-two = record {
  good-part = refl;
  spare = le_refl _;
  blocks = both;
  taken = two-taken;
  fits = fits-in-own by_one both everywhere (air.valid, (air.valid, tt)) (lit< tt) (lit≤ tt);
}

amount-two : (n : List ℕ) (p : Part) (x y : Placed) → amount_of by_one n (nodes_in p (x ∷ y ∷ [])) ≡ amount_of by_one n (nodes_in p (x ∷ [])) + amount_of by_one n (nodes_in p (y ∷ []))
unfolding standing
amount-two n p x y =
    ap (amount_of by_one n) (filter_nodes-append (in_part p) (nodes_from x 4096 0) (standing (y ∷ []))) ∙ amount-append by_one n (filter_nodes (in_part p) (nodes_from x 4096 0)) (nodes_in p (y ∷ []))
    ∙ ap (λ (l : List Node). amount_of by_one n (filter_nodes (in_part p) l) + amount_of by_one n (nodes_in p (y ∷ []))) (sym (standing-one x))

not-first-alone : (f : Tallier) → Exact by_one f → FirstAlone by_one f → ⊥
not-first-alone f e h =
    let long : length (zeros two-room) ≡ two-room = length-replicate two-room 0 in
    let g = (e.tallied-where two-source everywhere (zeros two-room) two_bytes).1 (subst (λ (r : ℕ). Talliable by_one r two-source everywhere) (sym long) can-two) in
    let c = e.counts _ two-source everywhere (zeros two-room) g.0 two_bytes g.1 in
    let same : c.0 ≡ both = cc (c.2, two-taken) in
    let all : count_in by_one.kind.counts c.1 air.air ≡ amount_of by_one air.air (nodes_in everywhere both) = c.4 air.air ∙ ap (λ (l : List Placed). amount_of by_one air.air (nodes_in everywhere l)) same in
    let first = h _ two-room (sheet.encode two) everywhere (zeros two-room) g.0 here (beside ∷ []) c.1 two-taken g.1 c.3 air.air in
    omega (arith, all, first, amount-two air.air everywhere here beside, air.counted (pos 1) beside-key)

pub shut_out : ShutOut by_one
shut_out f e =
    let g = (e.tallied-where source everywhere (zeros room) air.are-bytes).1 can-out in (
      λ empty.
          let c = e.counts (length (zeros room)) source everywhere (zeros room) g.0 air.are-bytes g.1 in
          let none : rows_of by_one.kind g.0 ≡ some [] = ap (rows_of by_one.kind) (empty _ source everywhere (zeros room) g.0 air.are-bytes g.1) ∙ rows-of-tally by_one.kind [] tt refl in
          let k = count-there g.0 [] c none in
          omega arith,
      λ refuses. refuses _ source everywhere (zeros room) g.0 g.1,
      λ h.
          let c = e.counts h.room h.x h.p h.out h.t h.bytes h.gives in
          let same : c.0 ≡ h.l = cc (c.2, h.taken) in
          let rows : c.1 ≡ h.r = cc (c.3, h.rows) in
          h.differs (rw (← same, ← rows) (c.4 h.name)),
      not-first-alone f e,
    )

-- ---- what the cut law shuts out: all time cut at second 0 leaves two parts, and their merge must be the whole's tally
abbrev early : Part
early = lower (at_second 0) everywhere

abbrev late : Part
late = upper (at_second 0) everywhere

in_two : Cuts everywhere (early ∷ late ∷ [])
in_two = cut [] everywhere [] (at_second 0) uncut refl

abbrev outs : List (List ℕ)
outs = zeros room ∷ zeros room ∷ []

-- a merge of the two parts' tallies, into zeros
module _ (f : Tallier) (g : Merger) (t a b : List ℕ) (e : Exact by_one f) (law : EveryCut by_one f g)
    (whole : Gives f room source everywhere (zeros room) t) (parts : AllGive by_one f room source (early ∷ late ∷ []) outs (a ∷ b ∷ [])) where
  cut-law : CutLaw by_one f g room source everywhere (early ∷ late ∷ []) (zeros room) outs
  cut-law = law room source everywhere (early ∷ late ∷ []) (zeros room) outs air.are-bytes in_two out-long (out-long, (out-long, tt))

  not-refused : {n r o : ℕ} → (g a b (zeros room)).0 ≡ refusal n r o → ⊥
  not-refused {n} h =
      let x = (cut-law.merges t a b [] 0 (n ∷ []) _ whole parts (refused front front out-long h stop)).none-refused in
      let z : ◌≡◌ {A = ℕ} 0 1 = cc in omega arith

  not-idle : (r : Answer ℕ) → (g a b (zeros room)).0 ≡ r → (g a b (zeros room)).1 ≡ zeros room → ⊥
  not-idle (refusal n r o) h k = not-refused h
  not-idle (good n) h k =
      let x = (cut-law.merges t a b [] 1 [] _ whole parts (done front front out-long h stop)).one_left _ refl in
      let same : t ≡ take n (zeros room) = sym x ∙ ap (take n) k in
      let c = e.counts room source everywhere (zeros room) t air.are-bytes whole in
      none-ne-some _ (sym (zeros-none by_one.kind room n) ∙ ap (rows_of by_one.kind) (sym same) ∙ c.3)

pub merge-shut-out : MergeShutOut by_one
merge-shut-out f g e law =
    let w = (e.tallied-where source everywhere (zeros room) air.are-bytes).1 can-out in
    let u : Gives f room source everywhere (zeros room) w.0 = subst (λ (r : ℕ). Gives f r source everywhere (zeros room) w.0) out-long w.1 in
    let p = (law room source everywhere (early ∷ late ∷ []) (zeros room) outs air.are-bytes in_two out-long (out-long, (out-long, tt))).exactly.0 (w.0, u) in
    go w.0 u p.0 p.1
  where
    go : (t : List ℕ) → Gives f room source everywhere (zeros room) t → (ts : List (List ℕ)) → AllGive by_one f room source (early ∷ late ∷ []) outs ts
        → (merging.DoesNothing by_one.kind g → ⊥) × (merging.RefusesAll by_one.kind g → ⊥)
    go t w [] p = absurd p
    go t w (a ∷ []) p = absurd p.1
    go t w (a ∷ b ∷ []) p =
        (λ idle. not-idle f g t a b e law w p _ refl (idle _ _ _), λ refuses. not-refused f g t a b e law w p (refuses _ _ _).3)
    go t w (a ∷ b ∷ c ∷ ts) p = absurd p.1.1

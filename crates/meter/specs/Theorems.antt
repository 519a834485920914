-- What holds of tallying: the counts of demand 2, and demand 3, whole (document 01, 'Cuts and merges' and 'What may not slip through'). All of it is
-- over the definitions that the contracts cite. Sheets are proved in proofs/SheetTaken.antt and proofs/Streaming.antt, demand 2 in
-- proofs/Exactness.antt and proofs/Positions.antt, demand 3 in proofs/Partitions.antt, the rest in proofs/ShutOut.antt, proofs/NamesAlone.antt
-- and proofs/FormsAlike.antt.
use Rattle.std.specs.Prelude.{◌≡◌, ℕ, suc, ◌^◌, ◌<◌, ◌≤◌, true, ◌↔◌, List, [], ◌∷◌, length, take, ℤ}
use Rattle.std.proofs.Math.Option.{some}
use Rattle.wire.specs.Bytes.{Bytes}
use Rattle.wire.specs.Read.{refused}
use Rattle.wire.specs.Answer.{Answer, good, refusal, map_answer, sheet_malformed, then_answer}
use Rattle.position.specs.Spans.{in_span}
use Rattle.position.specs.declared.key.Coordinates.{Coordinates}
use Rattle.mapblock.specs.Data.{Block}
use Rattle.mapblock.specs.Layout.{all, list_counted, list_zero}
use Rattle.mapblock.specs.Block.{block}
use Rattle.block_reader.specs.Questions.{block_of, name_at}
use Rattle.block_reader.specs.Theorems.{with_form, EitherForm}
use Rattle.mapblock.specs.Valid.{Distinct}
use Rattle.tally.specs.Rows.{count_in}
use Rattle.tally.specs.Tally.{rows_of}
use Rattle.tally.specs.Theorems.{Merger, outcome, merged, Merges, MergeLaw, empty_tally, EmptyChangesNothing, sum_of, Fits}
use Rattle.tally.specs.Theorems as merging
use Rattle.position.specs.declared.part.Part.{Part}
use Rattle.position.specs.Parts.{good_part}
use Rattle.sheet.specs.Placed.{Placed, placed_at}
use Rattle.meter.specs.Standing.{Node, nodes_in}
use Rattle.meter.specs.Counting.{Measure, MeasureRows, tally_of, amount_of, by_one}
use Rattle.meter.specs.Tallying.{tally_block_of}
use Rattle.sheet.specs.Sheet.{Misframed, SheetRecord, frame, sheet_of}
use Rattle.meter.specs.SheetTally.{tally_sheet_of}
use Rattle.meter.specs.Streaming.{State, start_of, steps_of, finish_of}
use Rattle.meter.specs.Cuts.{Cuts, Partition}
use Rattle.sheet.specs.Theorems.{sheet_bytes, Framed}

-- ---- streaming
-- a record at a time, up to the end of those framed
abbrev pub streamed : (m : Measure) → Part → ℕ → ℕ → List SheetRecord → (State m → Answer (List ℕ)) → Answer (List ℕ)
streamed m p room spare rs end = then_answer (start_of m p room spare) λ w. then_answer (steps_of m p w rs) end

-- 15 at the record that comes next
abbrev pub broken : (m : Measure) → State m → Answer (List ℕ)
broken m v = refusal sheet_malformed v.records 0

-- Start, a step for each record and finish answer what tallying the sheet answers; and where a record is not whole, or bytes follow the
-- last one, so do start and the steps with 15 at the end.
pub record Streams (m : Measure) : Type 0 where
  pub whole : (p : Part) (room spare : ℕ) (rs : List SheetRecord) → Framed rs → length rs < 256 ^ 4
      → tally_sheet_of m (sheet_bytes (length rs) rs []) p room spare ≡ streamed m p room spare rs (finish_of m room)
  pub short : (p : Part) (room spare n : ℕ) (rs : List SheetRecord) (rest : List ℕ) (e : Misframed) (q : ℕ) → Framed rs → n < 256 ^ 4 → length rs < n → frame.read rest ≡ refused e q
      → tally_sheet_of m (sheet_bytes n rs rest) p room spare ≡ streamed m p room spare rs (broken m)
  pub longer : (p : Part) (room spare : ℕ) (rs : List SheetRecord) (rest : List ℕ) → Framed rs → length rs < 256 ^ 4 → 0 < length rest
      → tally_sheet_of m (sheet_bytes (length rs) rs rest) p room spare ≡ streamed m p room spare rs (broken m)

-- ---- what is tallied: the block at a key, or a sheet with a spare of some length
pub data Source : Type 0 where
  one_block : ℤ → List ℕ → Source
  whole-sheet : List ℕ → ℕ → Source

-- its blocks, or why there are none
abbrev pub blocks_of : Source → Answer (List Placed)
blocks_of (one_block key s) = map_answer (λ (x : Placed). x ∷ []) (placed_at key s)
blocks_of (whole-sheet s spare) = sheet_of s

-- a spare at least as long as the room
abbrev pub SpareFits : Source → ℕ → Type 0
SpareFits (one_block key s) room = Unit {0}
SpareFits (whole-sheet s spare) room = room ≤ spare

-- what a call can hand over
abbrev pub IsBytes : Source → Type 0
IsBytes (one_block key s) = Bytes s
IsBytes (whole-sheet s spare) = Bytes s

-- ---- a node position is counted once: no two nodes of what stands in a part have one place
abbrev pub place_of : Node → Coordinates
place_of n = n.place

abbrev pub PositionsApart : Type 0
PositionsApart = (x : Source) (p : Part) (l : List Placed) → blocks_of x ≡ good l → Distinct place_of (nodes_in p l)

-- ---- tallying
-- what tallying a part answers, and what the output lent holds then
abbrev pub Tallier : Type 0
Tallier = Source → Part → List ℕ → Answer ℕ × List ℕ

-- the part's tally, in an output as long as the room, whatever it held, read at the length told
pub record Gives (f : Tallier) (room : ℕ) (x : Source) (p : Part) (out t : List ℕ) : Type 0 where
  pub size : length out ≡ room
  pub told : ℕ
  pub done : (f x p out).0 ≡ good told
  pub bytes : t ≡ take told (f x p out).1

-- What a list of merges of the parts' tallies comes to, where t is the whole's tally: so many merges done, these refused, and what is left.
pub record GivesWhole (t : List ℕ) (parts : List (List ℕ)) (made : ℕ) (log : List ℕ) (left : List (List ℕ)) : Type 0 where
  -- "no merge is refused"
  pub none-refused : log ≡ []
  -- "when one tally is left it has" the whole's "very bytes"
  pub one_left : (u : List ℕ) → left ≡ u ∷ [] → u ≡ t
  -- as many merges as there are parts less one leave one
  pub all-merged : suc made ≡ length parts → left ≡ t ∷ []

module _ (m : Measure) where
  -- the one that the contracts cite
  abbrev pub tally_from : Source → Part → ℕ → Answer (List ℕ)
  tally_from (one_block key s) p room = tally_block_of m key s p room
  tally_from (whole-sheet s spare) p room = tally_sheet_of m s p room spare

  abbrev pub tallied : Tallier
  tallied x p out = outcome (tally_from x p (length out)) out

  -- ---- demand 2: when a part is tallied, and what its tally counts
  -- The part is good, the spare is long enough, the blocks are taken, and the rows of what stands in the part fit.
  pub record Talliable (room : ℕ) (x : Source) (p : Part) : Type 0 where
    pub good-part : good_part p ≡ true
    pub spare : SpareFits x room
    pub blocks : List Placed
    pub taken : blocks_of x ≡ good blocks
    pub fits : Fits m.kind room (tally_of m (nodes_in p blocks))

  -- for every name the tally counts the positions in the part that bear it
  abbrev pub CountsOf : Source → Part → List ℕ → Type 0
  CountsOf x p t =
      (l : List Placed) × (r : MeasureRows m) × (blocks_of x ≡ good l) × (rows_of m.kind t ≡ some r) × ((n : List ℕ) → count_in m.kind.counts r n ≡ amount_of m n (nodes_in p l))

  pub record Exact (f : Tallier) : Type 0 where
    -- "Tallying is refused only where document 01 says so"
    pub tallied-where : (x : Source) (p : Part) (out : List ℕ) → IsBytes x → ((t : List ℕ) × Gives f (length out) x p out t) ↔ Talliable (length out) x p
    -- "and gives each name the exact number of node positions"
    pub counts : (room : ℕ) (x : Source) (p : Part) (out t : List ℕ) → IsBytes x → Gives f room x p out t → CountsOf x p t

  -- ---- demand 3: cuts
  -- an output for each part, as long as the room
  abbrev pub Outputs : ℕ → List Part → List (List ℕ) → Type 0
  Outputs room [] [] = Unit {0}
  Outputs room [] (out ∷ outs) = ⊥
  Outputs room (p ∷ ps) [] = ⊥
  Outputs room (p ∷ ps) (out ∷ outs) = (length out ≡ room) × Outputs room ps outs

  -- the tallies of all the parts, each in its output
  abbrev pub AllGive : Tallier → ℕ → Source → List Part → List (List ℕ) → List (List ℕ) → Type 0
  AllGive f room x [] outs [] = Unit {0}
  AllGive f room x [] outs (t ∷ ts) = ⊥
  AllGive f room x (p ∷ ps) outs [] = ⊥
  AllGive f room x (p ∷ ps) [] (t ∷ ts) = ⊥
  AllGive f room x (p ∷ ps) (out ∷ outs) (t ∷ ts) = Gives f room x p out t × AllGive f room x ps outs ts

  pub record CutLaw (f : Tallier) (g : Merger) (room : ℕ) (x : Source) (whole : Part) (parts : List Part) (out : List ℕ) (outs : List (List ℕ)) : Type 0 where
    -- the whole is tallied exactly when every part is and the parts' sum fits
    pub exactly : ((t : List ℕ) × Gives f room x whole out t) ↔ ((ts : List (List ℕ)) × AllGive f room x parts outs ts × Fits m.kind room (sum_of m.kind ts))
    -- each counts the positions, the whole and every part alike
    pub counts : (p : Part) (out t : List ℕ) → Gives f room x p out t → CountsOf x p t
    -- one part has the whole's bytes
    pub one-part : (t u : List ℕ) → Gives f room x whole out t → AllGive f room x parts outs (u ∷ []) → u ≡ t
    -- "The parts, merged in whatever order and grouping, then give the whole's very bytes": every list of merges, of two parts or more
    pub merges : (t a b : List ℕ) (more : List (List ℕ)) (made : ℕ) (log : List ℕ) (left : List (List ℕ))
        → Gives f room x whole out t → AllGive f room x parts outs (a ∷ b ∷ more) → Merges g room (a ∷ b ∷ more) made log left
        → GivesWhole t (a ∷ b ∷ more) made log left
    -- and some list of merges leaves one
    pub leaves-one : (t a b : List ℕ) (more : List (List ℕ)) → Gives f room x whole out t → AllGive f room x parts outs (a ∷ b ∷ more)
        → Merges g room (a ∷ b ∷ more) (suc (length more)) [] (t ∷ [])

  -- for every block or sheet and every list of cuts, whatever the outputs held
  abbrev pub EveryCut : Tallier → Merger → Type 0
  EveryCut f g =
      (room : ℕ) (x : Source) (whole : Part) (parts : List Part) (out : List ℕ) (outs : List (List ℕ)) → IsBytes x → Cuts whole parts
      → length out ≡ room → Outputs room parts outs → CutLaw f g room x whole parts out outs

  -- of any list of parts in which each node of the whole lies in exactly one
  abbrev pub PartitionLaw : Tallier → Merger → Type 0
  PartitionLaw f g =
      (room : ℕ) (x : Source) (whole p : Part) (ps : List Part) (out : List ℕ) (outs : List (List ℕ)) → IsBytes x → Partition whole (p ∷ ps)
      → length out ≡ room → Outputs room (p ∷ ps) outs → CutLaw f g room x whole (p ∷ ps) out outs

  -- Demand 3, over demand 2's counts: the merge law, that the empty tally changes nothing, and the cut law.
  pub record Demand3 : Type 0 where
    pub exact : Exact tallied
    pub merges : MergeLaw m.kind
    pub empty : EmptyChangesNothing m.kind
    pub cuts : EveryCut tallied (merged m.kind)

  -- ---- what may not slip through: document 01, the section of that name
  abbrev pub AlwaysEmpty : Tallier → Type 0
  AlwaysEmpty f = (room : ℕ) (x : Source) (p : Part) (out t : List ℕ) → IsBytes x → Gives f room x p out t → t ≡ empty_tally m.kind

  abbrev pub RefusesAll : Tallier → Type 0
  RefusesAll f = (room : ℕ) (x : Source) (p : Part) (out t : List ℕ) → Gives f room x p out t → ⊥

  -- a tally that counts of some name what does not stand there
  pub record Invents (f : Tallier) : Type 0 where
    pub room : ℕ
    pub x : Source
    pub p : Part
    pub out : List ℕ
    pub t : List ℕ
    pub bytes : IsBytes x
    pub gives : Gives f room x p out t
    pub l : List Placed
    pub taken : blocks_of x ≡ good l
    pub r : MeasureRows m
    pub rows : rows_of m.kind t ≡ some r
    pub name : List ℕ
    pub differs : count_in m.kind.counts r name ≡ amount_of m name (nodes_in p l) → ⊥

  -- a sheet's tally that works on the first record and nods at the rest
  abbrev pub FirstAlone : Tallier → Type 0
  FirstAlone f = (room spare : ℕ) (s : List ℕ) (p : Part) (out t : List ℕ) (x : Placed) (l : List Placed) (r : MeasureRows m) → sheet_of s ≡ good (x ∷ l)
      → Gives f room (whole-sheet s spare) p out t → rows_of m.kind t ≡ some r → (n : List ℕ) → count_in m.kind.counts r n ≡ amount_of m n (nodes_in p (x ∷ []))

  -- tallying that is exact does none of this
  abbrev pub ShutOut : Type 0
  ShutOut = (f : Tallier) → Exact f → (AlwaysEmpty f → ⊥) × (RefusesAll f → ⊥) × (Invents f → ⊥) × (FirstAlone f → ⊥)

  -- and with the cut law over it, the merge neither does nothing nor refuses all
  abbrev pub MergeShutOut : Type 0
  MergeShutOut = (f : Tallier) (g : Merger) → Exact f → EveryCut f g → (merging.DoesNothing m.kind g → ⊥) × (merging.RefusesAll m.kind g → ⊥)

-- ---- names and nothing else
-- Blocks that bear the same name at every node get the same answer, at one key and for every part that both or neither is saved within.
abbrev pub NamesAlone : Type 0
NamesAlone = (key : ℤ) (s u : List ℕ) (b c : Block) (p : Part) (room : ℕ) → block_of s ≡ good b → block_of u ≡ good c
    → ((i : ℕ) → i < 4096 → name_at b i ≡ name_at c i) → in_span p.span b.head.timestamp ≡ in_span p.span c.head.timestamp
    → tally_block_of by_one key s p room ≡ tally_block_of by_one key u p room

-- ---- the two forms of a metadata list of none: document 02, item 3
-- what stands in a part of the block s at a key, or its refusal
abbrev pub block_nodes : ℤ → List ℕ → Part → Answer (List Node)
block_nodes key s p = map_answer (λ (x : Placed). nodes_in p (x ∷ [])) (placed_at key s)

-- Whichever form the list has, the same stands there,
abbrev pub FormsStandAlike : Type 0
FormsStandAlike = (key : ℤ) (b : Block) → EitherForm b → (p : Part)
    → block_nodes key ((block all).encode (with_form list_counted b)) p ≡ block_nodes key ((block all).encode (with_form list_zero b)) p

-- and the block has one tally.
abbrev pub FormsAlike : Measure → Type 0
FormsAlike m = (key : ℤ) (b : Block) → EitherForm b → (p : Part) (room : ℕ)
    → tally_block_of m key ((block all).encode (with_form list_counted b)) p room ≡ tally_block_of m key ((block all).encode (with_form list_zero b)) p room

-- The reader's verdict on the bytes of the block that parts make, from what is said of its front, its rest and its content ids.
use Prim.Native.Nat.{ℕ, ◌+◌, ◌-◌, ◌*◌, ◌<◌}
use mathlib.Core.Path.{◌≡◌, refl, ap, sym, subst, ◌∙◌}
use mathlib.Core.Option.{some, none}
use mathlib.Core.List.{List, ◌++◌}
use mathlib.Core.Bool.{Bool, true, cond}
use native.Mathlib.Omega.{arith}
use lib.ListN.{length, get_or, length-append}
use borrow.Author.Tests.{le-leb, lt-leb}
use Rattle.wire.specs.Read.{Read, done, refused, shift, shift-done}
use Rattle.wire.specs.Format.{nothing, ◌⨾◌, iso}
use Rattle.wire.specs.Formats.{only}
use Rattle.wire.proofs.EveryFormat.{every-format}
use Rattle.wire.proofs.Looser.{Settled, settled}
use Rattle.mapblock.specs.Data.{NameRow, MetadataRow, ObjectRow, TimerRow, Nodes, Block, no_mapping, steps_shape}
use Rattle.mapblock.specs.Layout.{since, all, width, unmapped, is_version, opening, name_mapping, nodes, front, rest, steps}
use Rattle.mapblock.specs.Block.{block, pieces_of, name_mapping_of, front_names_end, id_at, param0_at, first_unmapped, verdict}
use Rattle.mapblock.specs.Table.{free_in, Tabled}
use Rattle.mapblock.specs.Told.{ended}
use Rattle.mapblock.specs.declared.fault.Fault.{Fault}
use Rattle.mapblock.specs.declared.fault.Fault.TheVariants as fault
use Rattle.mapblock.proofs.Entries.{nodes-done, content-below}
use Rattle.mapblock.proofs.GoodRows.{either}
use Rattle.block_writer.specs.BlockParts.{BlockParts, made, WellTyped, head_fits, metadata_fits, timers_fit}
use Rattle.block_writer.specs.Frames.{name_frame}
use Rattle.block_writer.specs.Sections.{Rows, SectionRows}
use Rattle.block_writer.specs.declared.counts.RowCounts.{RowCounts}
use Rattle.block_writer.proofs.Fitting.{fits-head_fits, fits-formed, fits-timed}
use Rattle.block_writer.specs.Judging.{verdict_on, lists_length, FrontJudged, RestJudged, Judgeable, BlockJudged, first_unmapped_among}
use Rattle.block_writer.proofs.BlockJudging.{block-verdict_on, verdict_on-refused, verdict_on-first_unmapped, verdict_on-done}
use Rattle.block_writer.proofs.Framed.{not-ends}
use Rattle.block_writer.proofs.MadeBlock.{MadeOf, made_by, of-made, front-looser, pieces-ok, block_settled}
use Rattle.block_writer.proofs.PiecesJudging.{verdict_on-into, judged-refused, judged-length, judged-on}
use Rattle.block_writer.proofs.FirstUnmapped.{first_unmapped-same}

module _ (p : BlockParts) (l : List NameRow) (m : List MetadataRow) (o : List ObjectRow) (k : List TimerRow) (held : WellTyped p) (version : is_version p.head.version ≡ true)
    (mk : MadeOf p (made p l m o k)) where
  abbrev b : Block
  b = made p l m o k

  abbrev v : ℕ
  v = p.head.version

  steady : Settled (block all) b
  steady = block_settled p b held version (of-made p b mk)

  nodes-there : (nodes v).Ok b.nodes
  unfolding iso ◌⨾◌
  nodes-there = (pieces-ok p b held version mk).0.1.1

  front-steady : Settled (front all) (pieces_of b).front
  unfolding iso ◌⨾◌
  front-steady = settled (front-looser all) (pieces_of b).front (pieces-ok p b held version mk).0 not-ends

  -- what is said of the front and the rest is said of the eight steps
  steps-verdict_on : verdict_on (front all ⨾ λ f. rest all f.opening.version) ((pieces_of b).front, (pieces_of b).rest) ≡ verdict_on (steps all) (pieces_of b)
  unfolding steps
  steps-verdict_on = sym (verdict_on-into steps_shape (front all ⨾ λ f. rest all f.opening.version) (pieces_of b))

  -- where the param lists stand
  name-mapping-length : length ((only (since 29 v) no_mapping (name_mapping all)).encode (pieces_of b).front.mapping) ≡ cond (since 29 v) (length ((name_mapping all).encode (name_mapping_of b))) 0
  unfolding nothing
  name-mapping-length = either 29 v (λ h. rw (le-leb 29 v h)) (λ h. rw (lt-leb 29 v h))

  front_length : length ((front all).encode (pieces_of b).front) ≡ front_names_end b + (2 + lists_length v)
  unfolding front iso ◌⨾◌
  front_length =
      let n = (nodes-done v ((nodes v).encode b.nodes) ((every-format (nodes v)).reads-back b.nodes nodes-there)).0 in
      let e = opening.encode (pieces_of b).front.opening in
      let s = (only (since 29 v) no_mapping (name_mapping all)).encode (pieces_of b).front.mapping in
      omega (arith, length-append e (s ++ (nodes v).encode b.nodes), length-append s ((nodes v).encode b.nodes), name-mapping-length, n)

  module _ {t u : List ℕ} (clear : free_in t ≡ all) where
    front-verdict_on : {x : Read Fault (Unit {0})} → FrontJudged t u p.head l b.nodes x → x ≡ verdict_on (front all) (pieces_of b).front
    front-verdict_on fs = fs.judged ∙ ap (λ (free : ℕ → Bool). verdict_on (front free) (pieces_of b).front) clear

    judged-front : {e : Fault} {q : ℕ} → FrontJudged t u p.head l b.nodes (refused e q) → refused e q ≡ ended (verdict all ((block all).encode b))
    judged-front fs =
        verdict_on-refused b steady
        (judged-refused (front all) (λ f. rest all f.opening.version) (pieces_of b).front (pieces_of b).rest front-steady (front-verdict_on fs) ∙ steps-verdict_on ∙ block-verdict_on b steady)

    module _ {a : ℕ} (fs : FrontJudged t u p.head l b.nodes (done tt a)) {w : List ℕ} {z : Read Fault (Unit {0})} (rs : RestJudged u w p.head l m o k z) where
      free-behind : v < 29 → all ≡ free_in u
      free-behind h = sym (ap free_in (fs.kept h) ∙ clear)

      whole : shift a (λ u. u) z ≡ verdict_on (block all) b
      whole =
          judged-on (front all) (λ f. rest all f.opening.version) (pieces_of b).front (pieces_of b).rest front-steady (front-verdict_on fs) (rs.judged all free-behind)
          ∙ steps-verdict_on ∙ block-verdict_on b steady

      judged-rest : {e : Fault} {q : ℕ} → refused e q ≡ shift a (λ u. u) z → refused e q ≡ ended (verdict all ((block all).encode b))
      judged-rest i = verdict_on-refused b steady (i ∙ whole)

      module _ {n : ℕ} (i : done tt n ≡ shift a (λ u. u) z) where
        table : Tabled 65536 (unmapped all l) w
        table = either 29 v
            (λ h. subst (λ (w : List ℕ). Tabled 65536 (unmapped all l) w) (sym (rs.kept h)) (subst (λ (free : ℕ → Bool). Tabled 65536 (unmapped free l) u) clear (fs.marks a h refl)))
            (λ h. let j = shift-done a (λ u. u) z tt n (sym i) in subst (λ (free : ℕ → Bool). Tabled 65536 (unmapped free l) w) (sym (free-behind h)) (rs.marks j.1 h j.2))

        below : (j : ℕ) → j < 4096 → id_at b j < 65536
        below j g = content-below v (get_or p.param0 j 0) (get_or p.param2 j 0) (held.param0 j) (held.param2 j) (λ h. mk.fitting.param0_fits h j (omega (arith, mk.fitting.size0)))

        first_unmapped-is : first_unmapped all b ≡ first_unmapped_among v p.param0 p.param2 w
        first_unmapped-is = first_unmapped-same b w table below

        judged-done : none ≡ first_unmapped_among v p.param0 p.param2 w → done tt n ≡ ended (verdict all ((block all).encode b))
        judged-done e = verdict_on-done b steady (i ∙ whole) (first_unmapped-is ∙ sym e)

        judged-first_unmapped : {j : ℕ} → some j ≡ first_unmapped_among v p.param0 p.param2 w
            → refused fault.IdUnmapped (a - lists_length v + width v * j) ≡ ended (verdict all ((block all).encode b))
        judged-first_unmapped {j} e =
            let long : a ≡ length ((front all).encode (pieces_of b).front) = judged-length (front all) (λ f. rest all f.opening.version) (pieces_of b).front (pieces_of b).rest front-steady (front-verdict_on fs) in
            let place : a - lists_length v + width v * j ≡ param0_at b j = omega (arith, long, front_length) in
            ap (refused fault.IdUnmapped) place ∙ verdict_on-first_unmapped b steady (i ∙ whole) (first_unmapped-is ∙ sym e)

-- ---- the whole, from what the judging of its front and of its rest promise
module _ (p : BlockParts) (c : RowCounts) (j : Judgeable p) where
  abbrev FrontTold : List ℕ → List ℕ → Read Fault (Unit {0}) → Type 0
  FrontTold t u x = (l : List NameRow) (n : Nodes) → Rows name_frame p.names c.names l
      → is_version p.head.version ≡ true → head_fits p.head ≡ true → (nodes p.head.version).Ok n → FrontJudged t u p.head l n x

  abbrev RestTold : List ℕ → List ℕ → Read Fault (Unit {0}) → Type 0
  RestTold t u x = (l : List NameRow) (m : List MetadataRow) (o : List ObjectRow) (k : List TimerRow) → SectionRows p.head.version p.names p.metadata p.objects p.timers c l m o k
      → head_fits p.head ≡ true → metadata_fits p.head p.metadata ≡ true → timers_fit p.head p.timers ≡ true → RestJudged t u p.head l m o k x

  module _ {t u : List ℕ} (clear : free_in t ≡ all) where
    pub block-front : {e : Fault} {q : ℕ} → FrontTold t u (refused e q) → BlockJudged p c (refused e q)
    block-front front l m o k w =
        let mk = made_by p j.fit l m o k w in
        judged-front p l m o k j.typed j.version mk clear (front l (made p l m o k).nodes w.names j.version (fits-head_fits p j.fit) (nodes-there p l m o k j.typed j.version mk))

    module _ {a : ℕ} (front : FrontTold t u (done tt a)) {v : List ℕ} {z : Read Fault (Unit {0})} (rest : RestTold u v z) where
      module _ (l : List NameRow) (m : List MetadataRow) (o : List ObjectRow) (k : List TimerRow) (w : SectionRows p.head.version p.names p.metadata p.objects p.timers c l m o k) where
        mk : MadeOf p (made p l m o k)
        mk = made_by p j.fit l m o k w

        front-here : FrontJudged t u p.head l (made p l m o k).nodes (done tt a)
        front-here = front l (made p l m o k).nodes w.names j.version (fits-head_fits p j.fit) (nodes-there p l m o k j.typed j.version mk)

        rest-here : RestJudged u v p.head l m o k z
        rest-here = rest l m o k w (fits-head_fits p j.fit) (fits-formed p j.fit) (fits-timed p j.fit)

      pub block-rest : {e : Fault} {q : ℕ} → refused e q ≡ shift a (λ u. u) z → BlockJudged p c (refused e q)
      block-rest h l m o k w = judged-rest p l m o k j.typed j.version (mk l m o k w) clear (front-here l m o k w) (rest-here l m o k w) h

      module _ {n : ℕ} (h : done tt n ≡ shift a (λ u. u) z) where
        pub block-done : none ≡ first_unmapped_among p.head.version p.param0 p.param2 v → BlockJudged p c (done tt n)
        block-done e l m o k w = judged-done p l m o k j.typed j.version (mk l m o k w) clear (front-here l m o k w) (rest-here l m o k w) h e

        pub block-unmapped : {i : ℕ} → some i ≡ first_unmapped_among p.head.version p.param0 p.param2 v
            → BlockJudged p c (refused fault.IdUnmapped (a - lists_length p.head.version + width p.head.version * i))
        block-unmapped e l m o k w = judged-first_unmapped p l m o k j.typed j.version (mk l m o k w) clear (front-here l m o k w) (rest-here l m o k w) h e

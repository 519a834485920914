-- A block: one record for all versions, its bytes, and the reader's verdict. Document 01, 'Block layout' and 'The numbers a call comes back with'.
use Rattle.std.specs.Prelude.{ℕ, zero, suc, ◌+◌, ◌*◌, ◌/◌, ◌≡◌, refl, List, Bool, true, false, cond, not, ltb, eqb, length, get_or}
use Rattle.std.proofs.Common.{ap₂, sym}
use Rattle.std.proofs.Math.Path.{subst⁻¹}
use Rattle.std.proofs.Math.Option.{Option, some, none}
use Rattle.wire.specs.Read.{Read, done, refused, bind}
use Rattle.wire.specs.Format.{nothing, iso, ◌⨾◌}
use Rattle.wire.specs.Formats.{only}
use Rattle.mapblock.specs.Inventory.{BlockFormat}
use Rattle.mapblock.specs.Data.{Block, Opening, NameMapping, MetadataList, Timers, Steps, no_mapping, no_timers}
use Rattle.mapblock.specs.Layout.{since, all, unmapped, name_mapping, opening, front, rest, early_timers, late_timers, steps, width}
use Rattle.mapblock.specs.declared.fault.Fault.{Fault}
use Rattle.mapblock.specs.declared.fault.Fault.TheVariants as fault

-- ---- a block from what stands in its bytes, and back; n: the names stand in front, t: the timers stand at the end
abbrev pub built : Bool → Bool → Steps → Block
built n t x =
    let o = x.front.opening in
    let s = cond n x.front.mapping x.rest.mapping in
    let k = cond t x.rest.late x.rest.early in
    record {
      head = record { version = o.version; flags = o.flags; lighting = o.lighting; timestamp = s.timestamp; timer = k.byte; form = x.rest.metadata.form };
      names = s.names;
      nodes = x.front.nodes;
      metadata = x.rest.metadata.rows;
      objects = x.rest.objects;
      timers = k.rows;
    }

abbrev pub opening_of : Block → Opening
opening_of b = record { version = b.head.version; flags = b.head.flags; lighting = b.head.lighting }

abbrev pub name_mapping_of : Block → NameMapping
name_mapping_of b = record { timestamp = b.head.timestamp; names = b.names }

abbrev pub metadata_of : Block → MetadataList
metadata_of b = record { form = b.head.form; rows = b.metadata }

abbrev pub timers_of : Block → Timers
timers_of b = record { byte = b.head.timer; rows = b.timers }

abbrev pub pieces : Bool → Bool → Block → Steps
pieces n t b = record {
  front = record { opening = opening_of b; mapping = cond n (name_mapping_of b) no_mapping; nodes = b.nodes };
  rest = record {
    metadata = metadata_of b;
    early = cond t no_timers (timers_of b);
    objects = b.objects;
    mapping = cond n no_mapping (name_mapping_of b);
    late = cond t (timers_of b) no_timers;
  };
}

pub built-pieces : (n t : Bool) (b : Block) → built n t (pieces n t b) ≡ b
built-pieces true true b = refl
built-pieces true false b = refl
built-pieces false true b = refl
built-pieces false false b = refl

-- with other names and timers
abbrev with4 : Steps → NameMapping → Timers → NameMapping → Timers → Steps
with4 x a e s l = record {
  front = record { opening = x.front.opening; mapping = a; nodes = x.front.nodes };
  rest = record { metadata = x.rest.metadata; early = e; objects = x.rest.objects; mapping = s; late = l };
}

slots : (n t : Bool) (x : Steps) (f g : BlockFormat NameMapping) (e l : BlockFormat Timers)
    → (only n no_mapping f).Ok x.front.mapping → (only (not n) no_mapping g).Ok x.rest.mapping
    → (only (not t) no_timers e).Ok x.rest.early → (only t no_timers l).Ok x.rest.late → pieces n t (built n t x) ≡ x
unfolding nothing
slots true true x f g e l h i j k = ap₂ (λ (e : Timers) (s : NameMapping). with4 x x.front.mapping e s x.rest.late) (sym j) (sym i)
slots true false x f g e l h i j k = ap₂ (λ (l : Timers) (s : NameMapping). with4 x x.front.mapping x.rest.early s l) (sym k) (sym i)
slots false true x f g e l h i j k = ap₂ (λ (e : Timers) (s : NameMapping). with4 x s e x.rest.mapping x.rest.late) (sym j) (sym h)
slots false false x f g e l h i j k = ap₂ (λ (l : Timers) (s : NameMapping). with4 x s x.rest.early x.rest.mapping l) (sym k) (sym h)

-- the names and the timers stand where the version has them
abbrev pub block_from : Steps → Block
block_from x = built (since 29 x.front.opening.version) (since 25 x.front.opening.version) x

abbrev pub pieces_of : Block → Steps
pieces_of b = pieces (since 29 b.head.version) (since 25 b.head.version) b

module _ (free : ℕ → Bool) where
  pub pieces-built : (x : Steps) → (steps free).Ok x → pieces_of (block_from x) ≡ x
  unfolding steps front rest early_timers late_timers iso ◌⨾◌
  pieces-built x ((_, (first, _)), (_, (early, (_, (second, late))))) =
      let v = x.front.opening.version in
      slots (since 29 v) (since 25 v) x (name_mapping free) (name_mapping free) _ _ first second early late

  unfoldable pub block : BlockFormat Block
  block =
      iso (λ b. (steps free).Ok (pieces_of b)) block_from pieces_of (steps free)
      (λ b h. (h, built-pieces (since 29 b.head.version) (since 25 b.head.version) b))
      (λ x h. (subst⁻¹ (steps free).Ok (pieces-built x h) h, pieces-built x h))

-- ---- content ids
abbrev pub content_id : ℕ → ℕ → ℕ → ℕ
content_id v param0 param2 = cond (since 24 v) param0 (cond (ltb param0 128) param0 (16 * param0 + param2 / 16))

-- of the node at an index
abbrev pub id_at : Block → ℕ → ℕ
id_at b i = content_id b.head.version (get_or b.nodes.param0 i 0) (get_or b.nodes.param2 i 0)

-- where step 2 ends
abbrev pub front_names_end : Block → ℕ
front_names_end b = length (opening.encode (opening_of b)) + cond (since 29 b.head.version) (length ((name_mapping all).encode (name_mapping_of b))) 0

-- where the param lists stand, behind their two widths, and the param0 of a node
abbrev pub lists_at : Block → ℕ
lists_at b = front_names_end b + 2

abbrev pub param0_at : Block → ℕ → ℕ
param0_at b i = lists_at b + width b.head.version * i

-- ---- the last two rules
-- of so many numbers from one on, the first that passes a test
unfoldable pub first_from : (ℕ → Bool) → ℕ → ℕ → Option ℕ
first_from test zero i = none
first_from test (suc n) i = cond (test i) (some i) (first_from test n (suc i))

module _ (free : ℕ → Bool) where
  -- the first node whose id is not mapped
  abbrev pub first_unmapped : Block → Option ℕ
  first_unmapped b = first_from (λ i. unmapped free b.names (id_at b i)) 4096 0

  abbrev pub judged : Block → ℕ → Option ℕ → Read Fault Block
  judged b n none = done b n
  judged b n (some i) = refused fault.IdUnmapped (param0_at b i)

  -- a block that was read from the front of s, n bytes: 7, then 8
  abbrev pub judged_whole : List ℕ → Block → ℕ → Read Fault Block
  judged_whole s b n = cond (eqb n (length s)) (judged b n (first_unmapped b)) (refused fault.BytesAfter n)

  -- fields in byte order, each judged when read; then 7; then 8
  unfoldable pub verdict : List ℕ → Read Fault Block
  verdict s = bind ((block free).read s) (judged_whole s)

-- The faults that a part of the layout is refused with: each law asks for those that it gives and for no other.
use Prim.Native.Nat.{ℕ, zero, suc}
use mathlib.Core.Path.{◌≡◌}
use mathlib.Core.List.{List, [], ◌∷◌}
use mathlib.Core.Option.{Option, some, none}
use mathlib.Core.Bool.{Bool, true, false, cond}
use lib.Dec.{leb, eqb}
use lib.ListN.{length, take, drop}
use Rattle.wire.specs.Read.{Read, done, refused, bind, map_read, shift}
use Rattle.wire.specs.Format.{tested, run, nothing, refine, ◌⨾◌, next, pair, iso, items, read_items}
use Rattle.wire.specs.Formats.{constant, ◌▹◌, number, signed, s32, prefixed, listed, behind, fixed, only, tagged}
use Rattle.mapblock.specs.Inventory.{BlockFormat, through, sized, inventory}
use Rattle.mapblock.specs.Data.{NameRow, MetadataRow, TimerRow, no_mapping, no_timers}
use Rattle.mapblock.specs.Layout.{since, before, all, unused, unmapped, position, new_position, name_row_by, name_row, variable, metadata_row_by, metadata_row, object_row, timer_row_by, timer_row, name_mapping, width, params, nodes, list_version_bytes, is_list_version, is_counted, list_form, metadata, objects, has_timers, early_timers, late_timers, is_version, opening, front, rest}
use Rattle.mapblock.specs.declared.fault.Fault.{Fault}
use Rattle.mapblock.specs.declared.fault.Fault.TheVariants as fault

module _ (P : Fault → Type 0) where
  -- a reading and a format that are refused with such faults alone
  abbrev pub ReadRefusedWith : {A : Type 0} → Read Fault A → Type 0
  ReadRefusedWith (done a n) = Unit {0}
  ReadRefusedWith (refused e p) = P e

  pub record FormatRefusedWith {A : Type 0} (f : BlockFormat A) : Type 0 where
    pub reads : (s : List ℕ) → ReadRefusedWith (f.read s)

  -- ---- readings
  by-test : {A : Type 0} (b : Bool) (a : A) (n : ℕ) (e : Fault) (p : ℕ) → P e → ReadRefusedWith (cond b (done a n) (refused e p))
  by-test true a n e p h = tt
  by-test false a n e p h = h

  pub by_map : {A B : Type 0} (f : A → B) (r : Read Fault A) → ReadRefusedWith r → ReadRefusedWith (map_read f r)
  by_map f (done a n) h = tt
  by_map f (refused e p) h = h

  by-shift : {A B : Type 0} (n : ℕ) (f : A → B) (r : Read Fault A) → ReadRefusedWith r → ReadRefusedWith (shift n f r)
  by-shift n f (done a m) h = tt
  by-shift n f (refused e p) h = h

  by-bind : {A B : Type 0} (r : Read Fault A) (f : A → ℕ → Read Fault B) → ReadRefusedWith r → ((a : A) (n : ℕ) → ReadRefusedWith (f a n)) → ReadRefusedWith (bind r f)
  by-bind (done a n) f h k = k a n
  by-bind (refused e p) f h k = h

-- ---- formats
module _ {P : Fault → Type 0} where
  pub gives_nothing : {A : Type 0} (a : A) → FormatRefusedWith P (nothing a)
  unfolding nothing
  gives_nothing a = record { reads = λ s. tt }

  infixr 20 ◌then◌
  pub ◌then◌ : {A B : Type 0} {f : BlockFormat A} {g : A → BlockFormat B} → FormatRefusedWith P f → ((a : A) → FormatRefusedWith P (g a)) → FormatRefusedWith P (f ⨾ g)
  unfolding ◌⨾◌
  ◌then◌ {f = f} {g = g} h k = record {
    reads = λ s. by-bind P (f.read s) (next g s) (h.reads s) (λ a n. by-shift P n (pair a) ((g a).read (drop n s)) ((k a).reads (drop n s)));
  }

  -- the same bytes under another type
  pub gives-iso : {A B : Type 0} (Ok : B → Type 0) (to : A → B) (from : B → A) (f : BlockFormat A) (there : (b : B) → Ok b → f.Ok (from b) × (to (from b) ≡ b))
      (back : (a : A) → f.Ok a → Ok (to a) × (from (to a) ≡ a)) → FormatRefusedWith P f → FormatRefusedWith P (iso Ok to from f there back)
  unfolding iso
  gives-iso Ok to from f there back h = record { reads = λ s. by_map P to (f.read s) (h.reads s) }

  gives-refine : {A : Type 0} (test : A → Bool) (e : Fault) {f : BlockFormat A} → P e → FormatRefusedWith P f → FormatRefusedWith P (refine test e f)
  unfolding refine
  gives-refine test e {f} own h = record { reads = λ s. by-bind P (f.read s) (tested test e) (h.reads s) (λ a n. by-test P (test a) a n e 0 own) }

  -- a test that cannot fail
  pub gives-any : {A : Type 0} (e : Fault) {f : BlockFormat A} → FormatRefusedWith P f → FormatRefusedWith P (refine (λ _. true) e f)
  unfolding refine
  gives-any e {f} h = record { reads = λ s. by-bind P (f.read s) (tested (λ _. true) e) (h.reads s) (λ a n. tt) }

  gives-cond : {A : Type 0} (b : Bool) {f g : BlockFormat A} → FormatRefusedWith P f → FormatRefusedWith P g → FormatRefusedWith P (cond b f g)
  gives-cond true h k = h
  gives-cond false h k = k

  pub gives-only : {A : Type 0} (b : Bool) (a : A) {f : BlockFormat A} → FormatRefusedWith P f → FormatRefusedWith P (only b a f)
  gives-only b a h = gives-cond b h (gives_nothing a)

  gives-items : {A : Type 0} {item : List A → BlockFormat A} → ((seen : List A) → FormatRefusedWith P (item seen)) → (k : ℕ) → FormatRefusedWith P (items item k)
  unfolding items read_items
  gives-items {A} {item} h k = record { reads = go k [] }
    where
      go : (k : ℕ) (seen : List A) (s : List ℕ) → ReadRefusedWith P (read_items item k seen s)
      go zero seen s = tt
      go (suc k) seen s =
          by-bind P ((item seen).read s) _ ((h seen).reads s) (λ a n. by-shift P n (λ l. a ∷ l) (read_items item k (a ∷ seen) (drop n s)) (go k (a ∷ seen) (drop n s)))

  -- bytes may end inside a field
  module _ (ends : P fault.Ends) where
    gives-run : (n : ℕ) → FormatRefusedWith P (run n)
    unfolding run
    gives-run n = record { reads = λ s. by-test P (leb n (length s)) (take n s) n fault.Ends 0 ends }

    pub gives-number : (k : ℕ) → FormatRefusedWith P (number k)
    unfolding number
    gives-number k = gives-iso _ _ _ _ _ _ (gives-run k)

    gives-s32 : FormatRefusedWith P s32
    unfolding signed
    gives-s32 = gives-iso _ _ _ _ _ _ (gives-number 4)

    pub gives-prefixed : (k : ℕ) → FormatRefusedWith P (prefixed k)
    unfolding prefixed
    gives-prefixed k = gives-iso _ _ _ _ _ _ (gives-number k then gives-run)

    pub gives-constant : (k v : ℕ) (e : Fault) → P e → FormatRefusedWith P (constant k v e)
    gives-constant k v e own = gives-refine (λ n. eqb n v) e own (gives-number k)

    pub gives-fixed : {A : Type 0} (k v : ℕ) (e : Fault) {f : BlockFormat A} → P e → FormatRefusedWith P f → FormatRefusedWith P (fixed k v e f)
    unfolding behind
    gives-fixed k v e own h = gives-iso _ _ _ _ _ _ (gives-constant k v e own then λ _. h)

    pub gives-listed : {A : Type 0} (k : ℕ) {item : List A → BlockFormat A} → ((seen : List A) → FormatRefusedWith P (item seen)) → FormatRefusedWith P (listed k item)
    unfolding listed
    gives-listed k h = gives-iso _ _ _ _ _ _ (gives-number k then gives-items h)

    -- a list behind a tag
    pub gives-tagged : {A : Type 0} {tag : BlockFormat ℕ} (test : ℕ → Bool) {item : List A → BlockFormat A} → FormatRefusedWith P tag → ((seen : List A) → FormatRefusedWith P (item seen))
        → FormatRefusedWith P (tagged tag test [] (listed 2 item))
    gives-tagged test h k = h then λ t. gives-only (test t) [] (gives-listed 2 k)

    pub gives-inventory : FormatRefusedWith P inventory
    unfolding inventory
    gives-inventory = record { reads = λ s. go s (through true s) }
      where
        go : (s : List ℕ) (o : Option ℕ) → ReadRefusedWith P (sized s o)
        go s none = ends
        go s (some n) = tt

    -- ---- rows
    gives-position : P fault.PositionAbove → FormatRefusedWith P position
    gives-position above = gives-refine (λ p. leb p 4095) fault.PositionAbove above (gives-number 2)

    pub gives-new-position : {A : Type 0} (key : A → ℕ) (seen : List A) → P fault.PositionAbove → P fault.PositionTwice → FormatRefusedWith P (new_position key seen)
    gives-new-position key seen above twice = gives-refine (unused key all seen) fault.PositionTwice twice (gives-position above)

    -- of a row that is judged alone, no number is taken
    pub gives-first-position : {A : Type 0} (key : A → ℕ) → P fault.PositionAbove → FormatRefusedWith P (new_position key [])
    unfolding unused
    gives-first-position key above = gives-any fault.PositionTwice (gives-position above)

    pub gives-name-row : {id : BlockFormat ℕ} → FormatRefusedWith P id → FormatRefusedWith P (name_row_by id)
    gives-name-row h = gives-iso _ _ _ _ _ _ (h then λ _. gives-prefixed 2)

    gives-variable : (v : ℕ) → P fault.PrivateByte → FormatRefusedWith P (variable v)
    unfolding variable
    gives-variable v own =
        let hidden = gives-refine (λ b. leb b 1) fault.PrivateByte own (gives-number 1) in
        gives-iso _ _ _ _ _ _ (gives-prefixed 2 then λ _. gives-prefixed 4 then λ _. gives-only (since 28 v) 0 hidden)

    pub gives-metadata-row : (v : ℕ) {at : BlockFormat ℕ} → P fault.PrivateByte → FormatRefusedWith P at → FormatRefusedWith P (metadata_row_by at (variable v) v)
    gives-metadata-row v own h =
        gives-iso _ _ _ _ _ _
        (h
        then λ _. gives-only (before 23 v) 0 (gives-number 2)
        then λ _. gives-only (before 23 v) [] (gives-prefixed 2)
        then λ _. gives-only (since 23 v) [] (gives-listed 4 λ _. gives-variable v own)
        then λ _. gives-only (since 23 v) [] gives-inventory)

    pub gives-object-row : FormatRefusedWith P object_row
    unfolding object_row
    gives-object-row = gives-iso _ _ _ _ _ _ (gives-number 1 then λ _. gives-s32 then λ _. gives-s32 then λ _. gives-s32 then λ _. gives-prefixed 2)

    pub gives-timer-row : {at : BlockFormat ℕ} → FormatRefusedWith P at → FormatRefusedWith P (timer_row_by at)
    gives-timer-row h = gives-iso _ _ _ _ _ _ (h then λ _. gives-s32 then λ _. gives-s32)

    -- ---- the parts of the layout
    pub gives-opening : P fault.Version → FormatRefusedWith P opening
    unfolding opening
    gives-opening version =
        gives-iso _ _ _ _ _ _
        (gives-refine is_version fault.Version version (gives-number 1) then λ v. gives-number 1 then λ _. gives-only (since 27 v) 65535 (gives-number 2))

    pub gives-names : (free : ℕ → Bool) (seen : List NameRow) → P fault.IdTwice → FormatRefusedWith P (name_row free seen)
    unfolding name_row
    gives-names free seen twice = gives-name-row (gives-refine (unmapped free seen) fault.IdTwice twice (gives-number 2))

    pub gives-mapping : (free : ℕ → Bool) → P fault.MappingVersion → P fault.IdTwice → FormatRefusedWith P (name_mapping free)
    unfolding name_mapping
    gives-mapping free version twice =
        gives-iso _ _ _ _ _ _ (gives-number 4 then λ _. gives-fixed 1 0 fault.MappingVersion version (gives-listed 2 λ seen. gives-names free seen twice))

    pub gives-params : (v : ℕ) → FormatRefusedWith P (params v)
    unfolding params
    gives-params v =
        gives-iso _ _ _ _ _ _
        (gives-items (λ _. gives-number (width v)) 4096 then λ _. gives-items (λ _. gives-number 1) 4096 then λ _. gives-items (λ _. gives-number 1) 4096)

    pub gives-nodes : (v : ℕ) → P fault.ContentWidth → P fault.ParamsWidth → FormatRefusedWith P (nodes v)
    unfolding nodes
    gives-nodes v content widths = gives-fixed 1 (width v) fault.ContentWidth content (gives-fixed 1 2 fault.ParamsWidth widths (gives-params v))

    pub gives-list-form : (v : ℕ) → P fault.MetadataVersion → FormatRefusedWith P (list_form v)
    unfolding list_form
    gives-list-form v version = gives-iso _ _ _ _ _ _ (gives-refine (is_list_version v) fault.MetadataVersion version (gives-number (list_version_bytes v)))

    module _ (above : P fault.PositionAbove) (twice : P fault.PositionTwice) where
      pub gives-metadata-rows : (v : ℕ) → P fault.PrivateByte → (seen : List MetadataRow) → FormatRefusedWith P (metadata_row v seen)
      unfolding metadata_row
      gives-metadata-rows v own seen = gives-metadata-row v own (gives-new-position (λ (r : MetadataRow). r.position) seen above twice)

      pub gives-metadata : (v : ℕ) → P fault.MetadataVersion → P fault.PrivateByte → FormatRefusedWith P (metadata v)
      unfolding metadata
      gives-metadata v version own = gives-iso _ _ _ _ _ _ (gives-tagged is_counted (gives-list-form v version) (gives-metadata-rows v own))

      pub gives-timers : (seen : List TimerRow) → FormatRefusedWith P (timer_row seen)
      unfolding timer_row
      gives-timers seen = gives-timer-row (gives-new-position (λ (r : TimerRow). r.position) seen above twice)

      pub gives-early : (v : ℕ) → P fault.TimerByte → P fault.ByteOf23 → FormatRefusedWith P (early_timers v)
      unfolding early_timers
      gives-early v byte other =
          gives-only (before 25 v) no_timers
          (gives-cond (since 24 v)
          (gives-iso _ _ _ _ _ _ (gives-tagged has_timers (gives-refine (λ t. leb t 1) fault.TimerByte byte (gives-number 1)) gives-timers))
          (gives-cond (since 23 v) (gives-fixed 1 0 fault.ByteOf23 other (gives_nothing no_timers)) (gives_nothing no_timers)))

      pub gives-late : (v : ℕ) → P fault.TimerRowLength → FormatRefusedWith P (late_timers v)
      unfolding late_timers
      gives-late v length =
          gives-only (since 25 v) no_timers
          (gives-iso _ _ _ _ _ _ (gives_nothing 0 then λ _. gives-fixed 1 10 fault.TimerRowLength length (gives-listed 2 gives-timers)))

    pub gives-objects : P fault.ObjectVersion → FormatRefusedWith P objects
    unfolding objects
    gives-objects version = gives-fixed 1 0 fault.ObjectVersion version (gives-listed 2 λ _. gives-object-row)

    pub gives-front : (free : ℕ → Bool) → P fault.Version → P fault.MappingVersion → P fault.IdTwice → P fault.ContentWidth → P fault.ParamsWidth → FormatRefusedWith P (front free)
    unfolding front
    gives-front free version mapping twice content widths =
        gives-iso _ _ _ _ _ _
        (gives-opening version
        then λ o. gives-only (since 29 o.version) no_mapping (gives-mapping free mapping twice)
        then λ _. gives-nodes o.version content widths)

    -- what follows the static objects, and what follows the metadata
    pub gives-ending : (free : ℕ → Bool) (v : ℕ) → P fault.PositionAbove → P fault.PositionTwice → P fault.MappingVersion → P fault.IdTwice → P fault.TimerRowLength
        → FormatRefusedWith P (only (before 29 v) no_mapping (name_mapping free) ▹ late_timers v)
    gives-ending free v above twice mapping id length = gives-only (before 29 v) no_mapping (gives-mapping free mapping id) then λ _. gives-late above twice v length

    pub gives-behind-metadata : (free : ℕ → Bool) (v : ℕ) → P fault.PositionAbove → P fault.PositionTwice → P fault.TimerByte → P fault.ByteOf23 → P fault.ObjectVersion
        → P fault.MappingVersion → P fault.IdTwice → P fault.TimerRowLength
        → FormatRefusedWith P (early_timers v ▹ objects ▹ only (before 29 v) no_mapping (name_mapping free) ▹ late_timers v)
    gives-behind-metadata free v above twice byte other version mapping id length =
        gives-early above twice v byte other then λ _. gives-objects version then λ _. gives-ending free v above twice mapping id length

    pub gives-rest : (free : ℕ → Bool) (v : ℕ) → P fault.PositionAbove → P fault.PositionTwice → P fault.MetadataVersion → P fault.PrivateByte → P fault.TimerByte
        → P fault.ByteOf23 → P fault.ObjectVersion → P fault.MappingVersion → P fault.IdTwice → P fault.TimerRowLength → FormatRefusedWith P (rest free v)
    unfolding rest
    gives-rest free v above twice list own byte other version mapping id length =
        gives-iso _ _ _ _ _ _ (gives-metadata above twice v list own then λ _. gives-behind-metadata free v above twice byte other version mapping id length)

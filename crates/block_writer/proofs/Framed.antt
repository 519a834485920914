-- A row and its frame: what the reader says of a row's bytes stays, whatever follows.
use Prim.Native.Nat.{ℕ}
use mathlib.Core.Path.{◌≡◌, refl}
use mathlib.Core.List.{List, []}
use mathlib.Core.Bool.{Bool, true, false, cond}
use lib.Dec.{leb}
use Rattle.wire.specs.Answer.{is_one_of}
use Rattle.wire.specs.Choice.{no_true}
use Rattle.wire.specs.Format.{nothing}
use Rattle.wire.specs.Formats.{◌▹◌, constant, u8, u16, u32, prefixed, listed, behind, fixed, only, tagged, into}
use Rattle.wire.proofs.Looser.{Looser, looser-self, looser-refine, looser-trans, looser-then, looser-iso, looser-cond, looser-listed}
use Rattle.mapblock.specs.Inventory.{BlockFormat, inventory}
use Rattle.mapblock.specs.Data.{NameRow, MetadataRow, TimerRow, NameMapping, MetadataList, Timers, no_timers, name_mapping_shape, metadata_list_shape, timers_shape}
use Rattle.mapblock.specs.Layout.{since, before, all, unused, unmapped, position, new_position, name_row, variable, metadata_row, timer_row, name_mapping, is_counted, list_form, metadata, has_timers, timers_of24, early_timers, late_timers}
use Rattle.mapblock.specs.MetadataChecks.{variable_for, metadata_row_for}
use Rattle.mapblock.specs.Numbers.{refusal_number}
use Rattle.mapblock.specs.declared.fault.Fault.{Fault}
use Rattle.mapblock.specs.declared.fault.Fault.TheVariants as fault
use Rattle.block_writer.specs.Write.{value_numbers}
use Rattle.block_writer.specs.Frames.{name_frame, metadata_frame, timer_frame}

-- the faults of the values that a frame does not judge
abbrev pub ValueFault : Fault → Type 0
ValueFault e = is_one_of (refusal_number e) value_numbers ≡ true

-- bytes that end are not among them
pub not-ends : ValueFault fault.Ends → ⊥
not-ends h = no_true h

-- one after the other
pub looser-both : {A B : Type 0} {f g : BlockFormat A} {h k : BlockFormat B} → Looser ValueFault f g → Looser ValueFault h k → Looser ValueFault (f ▹ h) (g ▹ k)
looser-both {f = f} {g = g} {h = h} {k = k} l m = looser-then f g (λ _. h) (λ _. k) l (λ _. m)

pub name-looser : (free : ℕ → Bool) (seen : List NameRow) → Looser ValueFault (name_row free seen) name_frame
unfolding name_row name_frame
name-looser free seen =
    looser-iso _ _ _ _ _ _ (looser-both (looser-refine (unmapped free seen) fault.IdTwice u16 refl) (looser-self (prefixed 2))) _ _ _ _

pub variable-looser : (v : ℕ) → Looser ValueFault (variable v) (variable_for false v)
unfolding variable variable_for
variable-looser v =
    looser-iso _ _ _ _ _ _
    (looser-both (looser-self (prefixed 2))
    (looser-both (looser-self (prefixed 4))
    (looser-cond (since 28 v) (looser-refine (λ b. leb b 1) fault.PrivateByte u8 refl) (looser-self (nothing 0)))))
    _ _ _ _

position-looser : {A : Type 0} (key : A → ℕ) (seen : List A) → Looser ValueFault (new_position key seen) u16
position-looser key seen =
    looser-trans (looser-refine (unused key all seen) fault.PositionTwice position refl) (looser-refine (λ p. leb p 4095) fault.PositionAbove u16 refl)

pub metadata-looser : (v : ℕ) (seen : List MetadataRow) → Looser ValueFault (metadata_row v seen) (metadata_frame v)
unfolding metadata_row metadata_frame metadata_row_for
metadata-looser v seen =
    looser-iso _ _ _ _ _ _
    (looser-both (position-looser (λ (r : MetadataRow). r.position) seen)
    (looser-both (looser-self (only (before 23 v) 0 u16))
    (looser-both (looser-self (only (before 23 v) [] (prefixed 2)))
    (looser-both (looser-cond (since 23 v) (looser-listed (λ _. variable v) (λ _. variable_for false v) (λ _. variable-looser v) 4) (looser-self (nothing [])))
    (looser-self (only (since 23 v) [] inventory))))))
    _ _ _ _

pub timer-looser : (seen : List TimerRow) → Looser ValueFault (timer_row seen) timer_frame
unfolding timer_row timer_frame
timer-looser seen = looser-iso _ _ _ _ _ _ (looser-both (position-looser (λ (r : TimerRow). r.position) seen) (looser-self _)) _ _ _ _

-- ---- the lists, with frames for rows
abbrev pub saved_frame : BlockFormat NameMapping
saved_frame = into name_mapping_shape (u32 ▹ fixed 1 0 fault.MappingVersion (listed 2 λ _. name_frame))

abbrev pub metadata_list_frame : ℕ → BlockFormat MetadataList
metadata_list_frame v = into metadata_list_shape (tagged (list_form v) is_counted [] (listed 2 λ _. metadata_frame v))

-- the timer byte may have any value
abbrev pub early_frame : ℕ → BlockFormat Timers
early_frame v = only (before 25 v) no_timers
    (cond (since 24 v) (into timers_shape (tagged u8 has_timers [] (listed 2 λ _. timer_frame)))
    (cond (since 23 v) (fixed 1 0 fault.ByteOf23 (nothing no_timers))
    (nothing no_timers)))

abbrev pub late_frame : ℕ → BlockFormat Timers
late_frame v = only (since 25 v) no_timers (into timers_shape (nothing 0 ▹ fixed 1 10 fault.TimerRowLength (listed 2 λ _. timer_frame)))

looser-fixed : {A : Type 0} (k v : ℕ) (e : Fault) {f g : BlockFormat A} → Looser ValueFault f g → Looser ValueFault (fixed k v e f) (fixed k v e g)
unfolding behind
looser-fixed k v e {f} {g} l = looser-iso _ _ _ _ _ _ (looser-both (looser-self (constant k v e)) l) _ _ _ _

pub name-mapping-looser : (free : ℕ → Bool) → Looser ValueFault (name_mapping free) saved_frame
unfolding name_mapping
name-mapping-looser free =
    looser-iso _ _ _ _ _ _ (looser-both (looser-self u32) (looser-fixed 1 0 fault.MappingVersion (looser-listed (name_row free) (λ _. name_frame) (name-looser free) 2))) _ _ _ _

looser-tagged : {A : Type 0} {tag tag₂ : BlockFormat ℕ} (test : ℕ → Bool) {f g : BlockFormat (List A)} → Looser ValueFault tag tag₂ → Looser ValueFault f g
    → Looser ValueFault (tagged tag test [] f) (tagged tag₂ test [] g)
looser-tagged {tag = tag} {tag₂ = tag₂} test {f = f} {g = g} l m =
    looser-then tag tag₂ (λ t. only (test t) [] f) (λ t. only (test t) [] g) l (λ t. looser-cond (test t) m (looser-self (nothing [])))

pub metadata-list-looser : (v : ℕ) → Looser ValueFault (metadata v) (metadata_list_frame v)
unfolding metadata
metadata-list-looser v =
    looser-iso _ _ _ _ _ _
    (looser-tagged is_counted (looser-self (list_form v)) (looser-listed (metadata_row v) (λ _. metadata_frame v) (metadata-looser v) 2))
    _ _ _ _

timers-looser : Looser ValueFault (listed 2 timer_row) (listed 2 λ _. timer_frame)
timers-looser = looser-listed timer_row (λ _. timer_frame) timer-looser 2

early-24-looser : Looser ValueFault timers_of24 (into timers_shape (tagged u8 has_timers [] (listed 2 λ _. timer_frame)))
early-24-looser = looser-iso _ _ _ _ _ _ (looser-tagged has_timers (looser-refine (λ t. leb t 1) fault.TimerByte u8 refl) timers-looser) _ _ _ _

pub early-looser : (v : ℕ) → Looser ValueFault (early_timers v) (early_frame v)
unfolding early_timers
early-looser v = looser-cond (before 25 v) (looser-cond (since 24 v) early-24-looser (looser-self _)) (looser-self (nothing no_timers))

pub late-looser : (v : ℕ) → Looser ValueFault (late_timers v) (late_frame v)
unfolding late_timers
late-looser v =
    looser-cond (since 25 v)
    (looser-iso _ _ _ _ _ _ (looser-both (looser-self (nothing 0)) (looser-fixed 1 10 fault.TimerRowLength timers-looser)) _ _ _ _)
    (looser-self (nothing no_timers))

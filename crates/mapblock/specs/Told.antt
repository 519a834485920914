-- What the code's answers say, as readings: a value and its length, or the fault and its offset of document 01's 'The numbers a call comes back with'.
use Rattle.std.specs.Prelude.{ℕ, ◌+◌, ◌≡◌, List, Bool, length, take, drop}
use Rattle.wire.specs.Format.{refine}
use Rattle.wire.specs.Read.{Read, done, refused, map_read}
use Rattle.mapblock.specs.Data.{NameMapping, MetadataList, Timers}
use Rattle.mapblock.specs.Layout.{position, without}
use Rattle.mapblock.specs.Table.{Tabled}
use Rattle.mapblock.specs.declared.fault.Fault.{Fault}
use Rattle.mapblock.specs.declared.fault.Fault.TheVariants as fault
use Rattle.mapblock.specs.declared.timers.TimerFields.{TimerFields}
use Rattle.std.specs.Prelude.{Ok, Err, Result}
use Rattle.mapblock.specs.declared.fault.Refusal.{Refusal}
use Rattle.mapblock.specs.declared.names.NamesHead.{NamesHead}

-- what was read, but for its value
abbrev pub ended : {A : Type 0} → Read Fault A → Read Fault (Unit {0})
ended = map_read (λ _. tt)

abbrev pub told_reach : Result ℕ Refusal → Read Fault (Unit {0})
told_reach (Ok n) = done tt n
told_reach (Err w) = refused w.fault w.offset

-- a value and where it ends
abbrev pub told_reading : {A : Type 0} → Result (A × ℕ) Refusal → Read Fault A
told_reading (Ok (a, n)) = done a n
told_reading (Err w) = refused w.fault w.offset

abbrev pub told_position : Result ℕ Fault → Read Fault ℕ
told_position (Ok p) = done p 2
told_position (Err f) = refused f 0

-- a run at the front of s, behind its length of k bytes
abbrev pub told_run : ℕ → List ℕ → Result ℕ Refusal → Read Fault (List ℕ)
told_run k s (Ok n) = done (take n (drop k s)) (k + n)
told_run k s (Err w) = refused w.fault w.offset

-- a field that is read behind n bytes, where its refusal alone is told from the first of them
abbrev pub refused_behind : {A : Type 0} → ℕ → Read Fault A → Read Fault A
refused_behind n (done a m) = done a m
refused_behind n (refused e p) = refused e (n + p)

-- a timestamp and a number of names
abbrev pub names_head : ℕ → ℕ → NamesHead
names_head timestamp count = record { timestamp = timestamp; count = count }

abbrev pub shown_mapping : NameMapping → NamesHead
shown_mapping x = names_head x.timestamp (length x.names)

-- the tag of a list that stands behind one: of metadata its form, of timers their byte
abbrev pub list_form_in : MetadataList → ℕ
list_form_in x = x.form

abbrev pub timer_byte : Timers → ℕ
timer_byte x = x.byte

-- a row of a timer has ten bytes
abbrev pub told_timer : Result TimerFields Refusal → Read Fault TimerFields
told_timer (Ok r) = done r 10
told_timer (Err w) = refused w.fault w.offset

-- a position read where the table t tells which are free; u is the table after
pub record PositionMarked (s t u : List ℕ) (r : Result ℕ Fault) : Type 0 where
  pub told : (free : ℕ → Bool) → Tabled 4096 free t → told_position r ≡ (refine free fault.PositionTwice position).read s
  pub marked : (free : ℕ → Bool) (p n : ℕ) → Tabled 4096 free t → (refine free fault.PositionTwice position).read s ≡ done p n → Tabled 4096 (without p free) u

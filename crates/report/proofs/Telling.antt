-- What putting the text of a tally answers, and what it leaves in the buffer.
use Prim.Native.Nat.{ℕ, ◌+◌, ◌-◌, ◌<◌, ◌≤◌}
use mathlib.Core.Path.{◌≡◌, refl, sym, ◌∙◌}
use mathlib.Core.Bool.{Bool, true, false}
use mathlib.Core.List.{List, ◌++◌}
use native.Mathlib.Omega.{arith}
use lib.ListN.{length, take, drop, length-append}
use borrow.Author.Tests.{leb-true, leb-false}
use Rattle.wire.specs.Answer.{good, plain, no_room, tally_malformed, in_room, Answered}
use Rattle.wire.proofs.Answers.{room-short}
use Rattle.wire.proofs.Lists.{rest-is}
use Rattle.wire.specs.Store.{PutAt}
use Rattle.wire.proofs.Puts.{put-room, put_two}
use Rattle.tally.specs.Tally.{one}
use Rattle.tally.specs.Operations.{check_of}
use Rattle.tally.specs.Walks.{Holds}
use Rattle.tally.proofs.Held.{Opened, opened}
use Rattle.tally.proofs.Checks.{Checked, checked, unchecked}
use Rattle.tally.specs.Told.{told_check}
use Rattle.wire.specs.Bytes.{Bytes}
use Rattle.wire.proofs.Steps.{told-as}
use Rattle.std.specs.Prelude.{Option, Some, None}
use Rattle.report.specs.Text.{decimal, lines, opening, tally_text, tally_text_of}
use Rattle.report.specs.Told.{LinesFit, HasRoom, LinesPut}
use Rattle.report.proofs.Texts.{text-all, opening-size}

-- the rows behind the head, as the code takes them
abbrev rows_behind : List ℕ → List ℕ
rows_behind t = take (length t - 9) (drop 9 t)

-- the text of a tally of n rows
text_of : (t : List ℕ) (room : ℕ) {n : ℕ} (x : Checked one t n) → tally_text_of room t ≡ in_room room (opening n ++ lines x.l)
unfolding tally_text_of tally_text
text_of t room x = rw (x.is, x.counts)

-- the bytes t, of which `check` told, and the buffer d
module _ (t d : List ℕ) {told : Option ℕ} (h : told_check told ≡ check_of one t) where
  pub tally-bad : told ≡ None → Answered (plain tally_malformed) d d (tally_text_of (length d) t)
  unfolding tally_text_of
  tally-bad i = rw (unchecked one t (told-as told_check h i)) (refl, refl)

  module _ (b : Bytes t) {n : ℕ} (i : told ≡ Some n) where
    taken : Checked one t n
    taken = checked one t (told-as told_check h i)

    behind_head : Opened one t taken.l
    behind_head = opened one t taken.l b taken.is

    pub tally-long : 9 ≤ length t
    tally-long = behind_head.long

    rows-held : Holds one (rows_behind t) taken.l
    rows-held = rw rest-is behind_head.holds

    -- the number of rows has k digits
    module _ {k : ℕ} (e : k ≡ length (decimal n)) where
      abbrev text : List ℕ
      text = opening n ++ lines taken.l

      text-size : length text ≡ 11 + k + 1 + length (lines taken.l)
      text-size = omega (arith, length-append (opening n) (lines taken.l), opening-size n k e)

      no_room_lem : length d < 11 + k + 1 + length (lines taken.l) → Answered (plain no_room) d d (tally_text_of (length d) t)
      no_room_lem g = rw (text_of t (length d) taken) (room-short d text (omega (arith, text-size)))

      pub tally-headless : (11 + k + 1 ≤ length d → ⊥) → Answered (plain no_room) d d (tally_text_of (length d) t)
      tally-headless g = no_room_lem (omega (arith, g))

      -- the room behind the opening
      module _ {room : ℕ} (g : (11 + k + 1 ≤ length d) × (room ≡ length d - (11 + k + 1))) where
        pub head-room : length (opening n) ≤ length d
        head-room = rw (opening-size n k e) g.0

        module _ {fit : Bool} (m : LinesFit (rows_behind t) room fit) where
          pub tally-short : fit ≡ false → Answered (plain no_room) d d (tally_text_of (length d) t)
          tally-short f = no_room_lem (omega (arith, g.0, g.1, leb-false (length (lines taken.l)) room (sym (m taken.l rows-held) ∙ f)))

          module _ (f : fit ≡ true) {a : List ℕ} {at : ℕ} (p : PutAt 0 (opening n) d a at) where
            all_room : 0 + length text ≤ length d
            all_room = omega (arith, text-size, g.0, g.1, leb-true (length (lines taken.l)) room (sym (m taken.l rows-held) ∙ f))

            pub lines-room : HasRoom at (rows_behind t) (length a)
            lines-room = record { l = taken.l; holds = rows-held; room = put-room (lines taken.l) all_room p }

            pub tally-all : {b : List ℕ} {end : ℕ} → LinesPut at (rows_behind t) a b end → Answered (good end) d b (tally_text_of (length d) t)
            tally-all q = rw (text_of t (length d) taken) (text-all d text (omega (arith, all_room)) (put_two all_room p (λ r. q taken.l rows-held r)))

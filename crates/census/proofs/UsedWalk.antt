-- The walk that finds the places of the rows that are used.
use Rattle.std.proofs.Common.{◌≡◌, ℕ, ◌+◌, ◌-◌, ◌<◌, ◌≤◌, List, [], ◌∷◌, ◌++◌, length, get_or, take, drop, set, sym, refl, ap, ◌∙◌, append-nil, arith, length-append, length-drop, take_all, take_at, eq-eqb, ne_eqb}
use lib.Seq.{append_snoc}
use Rattle.wire.proofs.Lists.{rest-is}
use Rattle.wire.specs.Bytes.{Bytes, bytes_drop}
use Rattle.wire.specs.Read.{done, map_read}
use Rattle.wire.specs.Store.{overwrite}
use Rattle.wire.proofs.Overwrites.{overwrite-none, overwrite-last}
use Rattle.mapblock.specs.Data.{NameRow}
use Rattle.mapblock.specs.Layout.{all, name_row}
use Rattle.mapblock.specs.Rows.{name_fields}
use Rattle.mapblock.specs.Table.{all_rows}
use Rattle.block_reader.specs.Questions.{NameRun}
use Rattle.mapblock.specs.declared.names.NameFields.{NameFields}
use Rattle.block_reader.proofs.NameWalks.{row_inside, first-row, all-run}
use Rattle.census.specs.UsedNames.{used_in, used_of}

-- a row whose id has no count, and one whose id has one
module _ (t : List ℕ) (r : NameRow) (l : List NameRow) (at : ℕ) where
  unused-row : get_or t r.id 0 ≡ 0 → used_in t (r ∷ l) at ≡ used_in t l (at + 4 + length r.name)
  unfolding used_in
  unused-row h = rw (eq-eqb (get_or t r.id 0) 0 h)

  used-row : (get_or t r.id 0 ≡ 0 → ⊥) → used_in t (r ∷ l) at ≡ at ∷ used_in t l (at + 4 + length r.name)
  unfolding used_in
  used-row h = rw (ne_eqb (get_or t r.id 0) 0 h)

used-none : (t : List ℕ) (at : ℕ) → used_in t [] at ≡ []
unfolding used_in
used-none t at = refl

-- of counters that are clear no row is used
pub unused-all : (t : List ℕ) → ((k : ℕ) → get_or t k 0 ≡ 0) → (l : List NameRow) (at : ℕ) → used_in t l at ≡ []
unused-all t h [] at = used-none t at
unused-all t h (r ∷ l) at = unused-row t r l at (h r.id) ∙ unused-all t h l (at + 4 + length r.name)

-- What is stored, W, and what is used of the rows that are left, is what is used of all of them.
pub record Using (s t rest : List ℕ) (at : ℕ) (before after : List ℕ) (n : ℕ) : Type 0 where
  pub W : List ℕ
  pub counts : n ≡ length W
  pub shape : after ≡ overwrite 0 W before
  pub room : length before ≡ 4096
  pub few : n ≤ 4096
  pub left : W ++ used_in t (all_rows rest) at ≡ used_in t (all_rows s) 0
  pub size : at + length rest ≡ length s
  pub bytes : Bytes rest

abbrev pub Stored : List ℕ → List ℕ → List ℕ → List ℕ → ℕ → Type 0
Stored s t before after n = (n ≡ length (used_of t s)) × (after ≡ overwrite 0 (used_of t s) before)

pub using-start : (s t places : List ℕ) → Bytes s → length places ≡ 4096 → Using s t s 0 places places 0
using-start s t places w c = record {
  W = [];
  counts = refl;
  shape = sym (overwrite-none 0 places);
  room = c;
  few = omega arith;
  left = refl;
  size = omega arith;
  bytes = w;
}

module _ {s t rest : List ℕ} {at : ℕ} {before after : List ℕ} {n : ℕ} (f : Using s t rest at before after n) where
  stored : f.W ≡ used_of t s → Stored s t before after n
  stored e = (f.counts ∙ ap length e, f.shape ∙ ap (λ (l : List ℕ). overwrite 0 l before) e)

  -- no room is left, or no row
  pub using-full : 4096 ≤ n → Stored s t before after n
  using-full h = stored (sym (ap (take 4096) (sym f.left) ∙ take_at f.W (used_in t (all_rows rest) at) 4096 (omega (arith, f.counts, f.few))))

  pub using-none : all_rows rest ≡ [] → Stored s t before after n
  using-none e =
      let all : f.W ≡ used_in t (all_rows s) 0 = sym (append-nil f.W) ∙ ap (λ (l : List ℕ). f.W ++ l) (sym (ap (λ (m : List NameRow). used_in t m at) e ∙ used-none t at)) ∙ f.left in
      stored (all ∙ sym (take_all 4096 (used_in t (all_rows s) 0) (omega (arith, ap length all, f.counts, f.few))))

  module _ {row : NameFields} {i : ℕ} (k : done row i ≡ map_read name_fields ((name_row all []).read rest)) where
    -- the row that was read has no count, or it has one and its place is stored
    using-on : (W : List ℕ) (n' : ℕ) (after' : List ℕ) → n' ≡ length W → n' ≤ 4096 → after' ≡ overwrite 0 W before
        → ((r : NameRow) (l : List NameRow) → r.id ≡ row.id → W ++ used_in t l (at + 4 + length r.name) ≡ f.W ++ used_in t (r ∷ l) at)
        → Using s t (take (length rest - i) (drop i rest)) (at + i) before after' n'
    using-on W n' after' c m e next =
        let y = first-row rest f.bytes k in
        let place : at + i ≡ at + 4 + length y.row.name = omega (arith, y.size) in
        rw (rest-is i rest) record {
          W = W;
          counts = c;
          shape = e;
          room = f.room;
          few = m;
          left = ap (λ (j : ℕ). W ++ used_in t (all_rows (drop i rest)) j) place ∙ next y.row (all_rows (drop i rest)) (ap (λ (x : NameFields). x.id) y.fields)
              ∙ ap (λ (l : List NameRow). f.W ++ used_in t l at) (sym y.rows) ∙ f.left;
          size = rw length-drop (omega (arith, f.size, row_inside rest k));
          bytes = bytes_drop i rest f.bytes;
        }

    pub using-over : get_or t row.id 0 ≡ 0 → Using s t (take (length rest - i) (drop i rest)) (at + i) before after n
    using-over h = using-on f.W n after f.counts f.few f.shape (λ r l e. ap (λ (u : List ℕ). f.W ++ u) (sym (unused-row t r l at (ap (λ (j : ℕ). get_or t j 0) e ∙ h))))

    pub using-store : n < 4096 → (get_or t row.id 0 ≡ 0 → ⊥) → Using s t (take (length rest - i) (drop i rest)) (at + i) before (set after n at) (n + 1)
    using-store c h =
        let behind : n ≡ 0 + length f.W = omega (arith, f.counts) in
        using-on (f.W ++ at ∷ []) (n + 1) (set after n at)
        (omega (arith, f.counts, length-append f.W (at ∷ [])))
        (omega arith)
        (ap (λ (l : List ℕ). set l n at) f.shape ∙ ap (λ (j : ℕ). set (overwrite 0 f.W before) j at) behind ∙ overwrite-last 0 f.W before at (omega (arith, f.counts, f.room)))
        (λ r l e.
        append_snoc f.W at (used_in t l (at + 4 + length r.name))
        ∙ ap (λ (u : List ℕ). f.W ++ u) (sym (used-row t r l at (λ z. h (ap (λ (j : ℕ). get_or t j 0) (sym e) ∙ z)))))

-- ---- of bytes that are rows, where there is room for all that are used
pub used-places : (t before : List ℕ) {s after : List ℕ} {l : List NameRow} {n : ℕ} → NameRun s l → length (used_in t l 0) ≤ 4096 → Stored s t before after n → take n after ≡ used_in t l 0
used-places t before {s} {after} {l} {n} r h w =
    let all : used_of t s ≡ used_in t l 0 = ap (λ (m : List NameRow). take 4096 (used_in t m 0)) (all-run r) ∙ take_all 4096 (used_in t l 0) h in
    ap (take n) w.1 ∙ take_at (used_of t s) (drop (0 + length (used_of t s)) before) n (sym w.0) ∙ all

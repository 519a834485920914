-- A block that the scan took: what stands in the bytes where the scan found it.
use Rattle.std.proofs.Common.{◌≡◌, ℕ, ◌+◌, ◌*◌, ◌-◌, ◌<◌, ◌≤◌, true, List, length, drop, sym, ap, ◌∙◌, subst, arith, length-drop, take_all, le-leb}
use Rattle.wire.specs.Bytes.{Bytes}
use Rattle.wire.specs.Read.{done, map_read}
use Rattle.std.specs.List.{slice_range}
use Rattle.wire.specs.Ranges.{bytes_in}
use Rattle.mapblock.specs.Data.{Block}
use Rattle.mapblock.specs.Layout.{all, width}
use Rattle.mapblock.specs.Block.{verdict, id_at}
use Rattle.mapblock.specs.Params.{id_in, holds_lists}
use Rattle.block_reader.specs.Sections.{scanned_of}
use Rattle.block_reader.specs.Questions.{NameRun}
use Rattle.mapblock.specs.Valid.{Valid}
use Rattle.block_reader.specs.declared.scan.Scanned.{Scanned}
use Rattle.mapblock.proofs.Entries.{id_same}
use Rattle.block_reader.proofs.Taken.{taken}
use Rattle.block_reader.proofs.BlockAnswers.{TakenAs, taken_as_lem}
use Rattle.block_reader.proofs.NodeNames.{names-run}

module _ (s : List ℕ) {w : Scanned} {b : Block} {n : ℕ} (y : Bytes s) (reads : verdict all s ≡ done b n) (shows : scanned_of b ≡ w) where
  taken_as : TakenAs s w
  taken_as = taken_as_lem s {n = n} y (sym (ap (map_read scanned_of) reads ∙ ap (λ (x : Scanned). done x n) shows))

  same_block : taken_as.b ≡ b
  same_block = let h : done taken_as.b taken_as.n ≡ done b n = sym taken_as.reads ∙ reads in cc

  pub scanned-valid : Valid b
  scanned-valid = ((taken s b n y).0 reads).0

  pub scanned-names : NameRun (bytes_in s w.sections.names) b.names
  scanned-names = subst (λ (x : Block). NameRun (bytes_in s w.sections.names) x.names) same_block (names-run taken_as y)

  pub scanned-time : b.head.timestamp ≡ w.head.timestamp
  scanned-time = ap (λ (x : Scanned). x.head.timestamp) shows

  -- the param lists, as the code cuts them out
  abbrev pub lists : List ℕ
  lists = drop w.lists s

  pub lists-inside : w.lists ≤ length s
  lists-inside = omega (arith, length-drop w.lists s, taken_as.inside)

  pub lists-cut : slice_range s w.lists (length s) ≡ lists
  lists-cut = take_all (length s - w.lists) (drop w.lists s) (omega (arith, length-drop w.lists s))

  pub scanned-lists : holds_lists w.head.version lists ≡ true
  scanned-lists = le-leb (4096 * width w.head.version + 8192) (length lists) (omega (arith, length-drop w.lists s, taken_as.inside))

  pub scanned-ids : (i : ℕ) → i < 4096 → id_at b i ≡ id_in w.head.version lists i
  scanned-ids i h =
      ap (λ (x : Block). id_at x i) (sym same_block) ∙ id_same taken_as.b w.head.version (drop w.lists s) (ap (λ (x : Scanned). x.head.version) taken_as.shows) taken_as.nodes i h

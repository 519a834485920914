use Rattle.std.proofs.Common.{ℕ, eqb, sym, ap, ◌∙◌, arith}
use Rattle.mapblock.specs.Params.{id_in}
use Rattle.mapblock.proofs.Entries.{content-new, id-new, id-old}
use Rattle.census.specs.Counters.{is_at, wide_id, narrow_id}
use Rattle.census.proofs.Raises.{raised-as}
use Rattle.census.proofs.count.count_row.Goals as goal

pub returns-then-version-ge24 : goal.returns-then-version-ge24
returns-then-version-ge24 c =
    let v = c.args.version in
    let l = c.args.lists.now in
    let h = c.if-version-ge24.true in
    raised-as (is_at (id_in v l)) (is_at (wide_id l)) _ _ c.count_wide.ensures
    (λ k i f g. ap (λ (x : ℕ). eqb x k) (sym (content-new v (wide_id l i) 0 h ∙ id-new v l i h (omega arith) 0)))

pub returns-else-version-ge24 : goal.returns-else-version-ge24
returns-else-version-ge24 c =
    let v = c.args.version in
    let l = c.args.lists.now in
    raised-as (is_at (id_in v l)) (is_at (narrow_id v l)) _ _ c.count_narrow.ensures
    (λ k i f g. ap (λ (x : ℕ). eqb x k) (sym (id-old v l i c.if-version-ge24.false)))

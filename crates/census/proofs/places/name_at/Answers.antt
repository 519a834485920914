use Rattle.std.proofs.Common.{sym, ap, ◌∙◌}
use Rattle.mapblock.specs.Data.{NameRow}
use Rattle.wire.specs.Bytes.{Bytes}
use Rattle.wire.proofs.Places.{place-first}
use Rattle.census.proofs.RowsAt.{row-beyond, start-beyond, row-refused, start-refused, row-name, row-start}
use Rattle.census.proofs.places.name_at.Goals as goal

pub returns-then-s-p : goal.returns-then-s-p
returns-then-s-p c =
    let a = c.args in
    record {
      told = ap (λ (r : NameRow). r.name) (sym (row-beyond a.s.now a.p c.if-s-p.true));
      place = place-first a.s (start-beyond a.s.now a.p c.if-s-p.true);
    }

pub returns-in_default : goal.returns-in_default
returns-in_default c =
    let a = c.args in
    record {
      told = ap (λ (r : NameRow). r.name) (sym (row-refused a.s.now a.p c.in_default.ensures));
      place = place-first a.s (start-refused a.s.now a.p c.in_default.ensures);
    }

pub returns : goal.returns
returns c =
    let a = c.args in
    let bytes : Bytes a.s.now = λ i. (c.type_inv.s i).fits in
    record {
      told = c.slice_of.ensures.bytes ∙ row-name a.s.now a.p c.in-Ok.ensures bytes;
      place = c.slice_of.ensures.place ∙ row-start a.s.now a.p c.in-Ok.ensures a.s.ref_ptr.0 a.s.ref_ptr.1 bytes;
    }

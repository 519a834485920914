use Rattle.mapblock.proofs.OtherRows.{object-no-kind, object-no-x, object-no-y, object-no-z, object-no-content, object-done}
use Rattle.wire.specs.Told.{told_number}
use Rattle.mapblock.proofs.Refusals.{none_becomes, at_refused, at_done}
use Rattle.mapblock.proofs.Leaves.{by_number, by-signed}
use mathlib.Core.Path.{refl}
use Rattle.wire.specs.Formats.{half32}
use mir.ValLaws.{to_z-of_z}
use mir.Syntax.{w32}
use mir.Val.{SFits}
use borrow.Author.Rules.{rules}
use Rattle.wire.proofs.Handed.{handed_on}
use Rattle.mapblock.proofs.objects.object_row.Goals as goal

pub returns-in_err-kind : goal.returns-in_err-kind
returns-in_err-kind c =
    let none = c.in_err-kind.ensures in
    rw (none_becomes _ c.from_residual.ensures.1 none.value none.ok_part c.ends.ensures) (object-no-kind _ (by_number 1 _ (told_number 1) c.number_at.ensures none.ok_part))

pub returns-in_err-x : goal.returns-in_err-x
returns-in_err-x c =
    let kind = by_number 1 _ (told_number 1) c.number_at.ensures c.in_ok-kind.ensures.ok_part in
    let none = c.in_err-x.ensures in
    rw (none_becomes _ c.from_residual-in_err-x.ensures.1 none.value none.ok_part c.ends-2.ensures) (object-no-x _ kind (by-signed 4 half32 refl _ (told_number 4) c.number_at-2.ensures none.ok_part))

pub returns-in_err-y : goal.returns-in_err-y
returns-in_err-y c =
    let kind = by_number 1 _ (told_number 1) c.number_at.ensures c.in_ok-kind.ensures.ok_part in
    let x = by-signed 4 half32 refl _ (told_number 4) c.number_at-2.ensures c.in_ok-x.ensures.ok_part in
    let none = c.in_err-y.ensures in
    rw (none_becomes _ c.from_residual-in_err-y.ensures.1 none.value none.ok_part c.ends-3.ensures) (object-no-y _ kind x (by-signed 4 half32 refl _ (told_number 4) c.number_at-3.ensures none.ok_part))

pub returns-in_err-z : goal.returns-in_err-z
returns-in_err-z c =
    let kind = by_number 1 _ (told_number 1) c.number_at.ensures c.in_ok-kind.ensures.ok_part in
    let x = by-signed 4 half32 refl _ (told_number 4) c.number_at-2.ensures c.in_ok-x.ensures.ok_part in
    let y = by-signed 4 half32 refl _ (told_number 4) c.number_at-3.ensures c.in_ok-y.ensures.ok_part in
    let none = c.in_err-z.ensures in
    rw (none_becomes _ c.from_residual-in_err-z.ensures.1 none.value none.ok_part c.ends-4.ensures) (object-no-z _ kind x y (by-signed 4 half32 refl _ (told_number 4) c.number_at-4.ensures none.ok_part))

pub returns-in_err-length : goal.returns-in_err-length
returns-in_err-length c =
    let kind = by_number 1 _ (told_number 1) c.number_at.ensures c.in_ok-kind.ensures.ok_part in
    let x = by-signed 4 half32 refl _ (told_number 4) c.number_at-2.ensures c.in_ok-x.ensures.ok_part in
    let y = by-signed 4 half32 refl _ (told_number 4) c.number_at-3.ensures c.in_ok-y.ensures.ok_part in
    let z = by-signed 4 half32 refl _ (told_number 4) c.number_at-4.ensures c.in_ok-z.ensures.ok_part in
    rw (handed_on _ c.from_residual-in_err-length.ensures.1) (at_refused 13 _ c.in_err-length.ensures (λ q e. object-no-content _ kind x y z e))

pub returns : goal.returns
returns c =
    let kind = by_number 1 _ (told_number 1) c.number_at.ensures c.in_ok-kind.ensures.ok_part in
    let x = by-signed 4 half32 refl _ (told_number 4) c.number_at-2.ensures c.in_ok-x.ensures.ok_part in
    let y = by-signed 4 half32 refl _ (told_number 4) c.number_at-3.ensures c.in_ok-y.ensures.ok_part in
    let z = by-signed 4 half32 refl _ (told_number 4) c.number_at-4.ensures c.in_ok-z.ensures.ok_part in
    let fits-x : SFits w32 c.in_ok-x.x = search rules in
    let fits-y : SFits w32 c.in_ok-y.y = search rules in
    let fits-z : SFits w32 c.in_ok-z.z = search rules in
    rw (to_z-of_z w32 _ fits-x, to_z-of_z w32 _ fits-y, to_z-of_z w32 _ fits-z) (object-done _ kind x y z (at_done 13 _ c.in_ok-length.ensures))

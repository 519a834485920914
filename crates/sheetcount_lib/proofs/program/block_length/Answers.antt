use Rattle.std.proofs.Common.{sym}
use Rattle.wire.proofs.Handed.{none_handed}
use Rattle.wire.specs.Told.{told_number}
use Rattle.wire.proofs.Steps.{told-as}
use Rattle.sheetcount_lib.proofs.Sheetcount.{twelve-no-key, twelve-no-length, twelve-done, unread, wanted, unwanted}
use Rattle.sheetcount_lib.proofs.program.block_length.Goals as goal

pub returns-in_err-ok_or-clause-told : goal.returns-in_err-ok_or-clause-told
returns-in_err-ok_or-clause-told c =
    let no = c.in_err-ok_or.ensures in
    rw (none_handed _ c.from_residual.ensures.1 no.value no.ok_part) (sym (unread c.args.index _ (twelve-no-key _ (told-as (told_number 8) c.number_at.ensures no.ok_part))))

pub returns-in_err-size-clause-told : goal.returns-in_err-size-clause-told
returns-in_err-size-clause-told c =
    let no = c.in_err-size.ensures in
    let key = told-as (told_number 8) c.number_at.ensures c.in_ok-ok_or.ensures.ok_part in
    rw (none_handed _ c.from_residual-in_err-size.ensures.1 no.value no.ok_part)
    (sym (unread c.args.index _ (twelve-no-length _ key (told-as (told_number 4) c.number_at-2.ensures no.ok_part))))

pub returns-then-size-gt-MAX_BLOCK_LENGTH-clause-told : goal.returns-then-size-gt-MAX_BLOCK_LENGTH-clause-told
returns-then-size-gt-MAX_BLOCK_LENGTH-clause-told c =
    let key = told-as (told_number 8) c.number_at.ensures c.in_ok-ok_or.ensures.ok_part in
    let length = told-as (told_number 4) c.number_at-2.ensures c.in_ok-size.ensures.ok_part in
    sym (unwanted c.args.index _ (twelve-done _ key _ length) c.if-size-gt-MAX_BLOCK_LENGTH.true)

pub returns-clause-told : goal.returns-clause-told
returns-clause-told c =
    let key = told-as (told_number 8) c.number_at.ensures c.in_ok-ok_or.ensures.ok_part in
    let length = told-as (told_number 4) c.number_at-2.ensures c.in_ok-size.ensures.ok_part in
    sym (wanted c.args.index _ (twelve-done _ key _ length) c.if-size-gt-MAX_BLOCK_LENGTH.false)

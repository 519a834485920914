use Rattle.std.proofs.Common.{◌≡◌, ◌+◌, arith, rules, refl, w64, SFits}
use Rattle.wire.specs.Told.{option_of}
use mir.ValLaws.{to_z-of_z}
use Rattle.wire.specs.Read.{done}
use Rattle.wire.specs.Answer.{map_answer, Matches}
use Rattle.wire.proofs.Steps.{told-as}
use Rattle.mapblock.specs.Table.{free_in}
use Rattle.sheet.specs.Sheet.{frame, judged_in, judge_record}
use Rattle.sheet.specs.Records.{record_of, scanned_at, told_record, told_frame}
use Rattle.sheet.proofs.Judging.{KeptOf, record-matches}
use Rattle.meter.proofs.Carried.{stepped-refused, may-step, stepped-taken}
use Rattle.meter.proofs.Taking.{block_in, framed-as, framed-inside, told-misframed, told-refused, told-taken}
use Rattle.meter.proofs.stream.take_record.Goals as goal
use Rattle.std.specs.Prelude.{Ok}

pub returns-in_err-key-clause-told : goal.returns-in_err-key-clause-told
returns-in_err-key-clause-told c = λ w k. search (rules, told-misframed c.args.part w c.args.s.now (told-as (told_frame c.args.s.now) c.frame.ensures c.in_err-key.ensures.ok_part) k)

pub overflow_add-end : goal.overflow_add-end
overflow_add-end c =
    let inside = framed-inside c.args.s.now c.frame.ensures c.in_ok-key.ensures.ok_part in
    record { fits = omega (arith, inside, c.well_formed) }

pub slice_bounds-block-end : goal.slice_bounds-block-end
slice_bounds-block-end c = framed-inside c.args.s.now c.frame.ensures c.in_ok-key.ensures.ok_part

pub returns-in-Err-clause-told : goal.returns-in-Err-clause-told
returns-in-Err-clause-told c =
    let a = c.args in
    let s = a.s.now in
    let key = c.in_ok-key.key in
    let size = c.in_ok-key.size in
    let block = block_in s size in
    let fault = c.in-Err.fault in
    let cut : frame.read s ≡ done (record_of key block) (size + 12) = framed-as s c.frame.ensures c.in_ok-key.ensures.ok_part in
    let key_fits : SFits w64 key = search rules in
    let told : told_record c.judge_record.result ≡ map_answer scanned_at (judged_in (free_in a.tables.now.ids) (option_of a.progress.last) (record_of key block)) = simp (to_z-of_z w64 key key_fits) at c.judge_record.ensures.told in
    λ w k. told-refused a.part w s cut fault (stepped-refused k a.part key block fault (record-matches _ (record_of _ _) _ k.ids-clear (told-as told_record told c.in-Err.is))) k

pub returns-clause-inside : goal.returns-clause-inside
returns-clause-inside c = framed-inside c.args.s.now c.frame.ensures c.in_ok-key.ensures.ok_part

pub returns-clause-told : goal.returns-clause-told
returns-clause-told c =
    let a = c.args in
    let s = a.s.now in
    let key = c.in_ok-key.key in
    let size = c.in_ok-key.size in
    let block = block_in s size in
    let (at, scanned) = c.in-Ok.judged in
    let cut : frame.read s ≡ done (record_of key block) (size + 12) = framed-as s c.frame.ensures c.in_ok-key.ensures.ok_part in
    let key_fits : SFits w64 key = search rules in
    let told : told_record c.judge_record.result ≡ map_answer scanned_at (judged_in (free_in a.tables.now.ids) (option_of a.progress.last) (record_of key block)) = simp (to_z-of_z w64 key key_fits) at c.judge_record.ensures.told in
    λ w k.
    let h : Matches (KeptOf block) (told_record (Ok (at, scanned))) (judge_record (option_of a.progress.last) (record_of key block)) = record-matches _ (record_of _ _) _ k.ids-clear (told-as told_record told c.in-Ok.is) in
    told-taken a.part w s cut (stepped-taken k a.part key block h (to_z-of_z w64 key key_fits) refl (c.add_block-sum.ensures.told _ _ (may-step k a.part key block h)))

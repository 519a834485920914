use mathlib.Core.Path.{◌≡◌, ap, sym, ◌∙◌}
use mathlib.Core.Option.{some}
use mathlib.Core.Bool.{true}
use Rattle.wire.specs.Told.{option_of}
use Rattle.mapblock.specs.Layout.{is_version}
use Rattle.block_writer.specs.BlockParts.{fits}
use Rattle.block_writer.specs.Parts.{parts_of}
use Rattle.block_writer.specs.Sections.{counts_in}
use Rattle.block_writer.proofs.Written.{bad-version, misfit, ragged, section-rows, block_is, small, refuses, writes}
use Rattle.wire.proofs.Handed.{handed_on, none_handed}
use Rattle.block_writer.proofs.measure.measure_parts.Goals as goal

pub returns-then-not-is_version : goal.returns-then-not-is_version
returns-then-not-is_version c = rw c.into.ensures (bad-version (parts_of c.args.parts.now) (sym c.is_version.ensures ∙ c.if-not-is_version.true))

pub returns-then-not-fit : goal.returns-then-not-fit
returns-then-not-fit c =
    let p = parts_of c.args.parts.now in
    let v : is_version p.head.version ≡ true = sym c.is_version.ensures ∙ c.if-not-is_version.false in
    misfit p v (sym c.fit.ensures ∙ c.if-not-fit.true)

pub returns-in_err-counts : goal.returns-in_err-counts
returns-in_err-counts c =
    let p = parts_of c.args.parts.now in
    let v : is_version p.head.version ≡ true = sym c.is_version.ensures ∙ c.if-not-is_version.false in
    let f : fits p ≡ true = sym c.fit.ensures ∙ c.if-not-fit.false in
    let no = c.in_err-counts.ensures in
    rw (none_handed _ c.from_residual.ensures.1 no.value no.ok_part) (ragged p v f (sym (ap option_of no.ok_part) ∙ c.count_all.ensures))

pub judge-requires : goal.judge-requires
judge-requires c =
    let p = parts_of c.args.parts.now in
    let v : is_version p.head.version ≡ true = sym c.is_version.ensures ∙ c.if-not-is_version.false in
    let f : fits p ≡ true = sym c.fit.ensures ∙ c.if-not-fit.false in
    let e : some c.in_ok-counts.counts ≡ counts_in p.head.version p.names p.metadata p.objects p.timers = sym (ap option_of c.in_ok-counts.ensures.ok_part) ∙ c.count_all.ensures in
    record { version = v; fit = f; typed = c.requires; small = small p c.in_ok-counts.counts f e c.requires }

pub returns-in_err-n : goal.returns-in_err-n
returns-in_err-n c =
    let p = parts_of c.args.parts.now in
    let v : is_version p.head.version ≡ true = sym c.is_version.ensures ∙ c.if-not-is_version.false in
    let f : fits p ≡ true = sym c.fit.ensures ∙ c.if-not-fit.false in
    let e : some c.in_ok-counts.counts ≡ counts_in p.head.version p.names p.metadata p.objects p.timers = sym (ap option_of c.in_ok-counts.ensures.ok_part) ∙ c.count_all.ensures in
    let b = block_is p c.in_ok-counts.counts f e in
    let rows = section-rows p c.in_ok-counts.counts f e in
    rw (handed_on _ c.from_residual-in_err-n.ensures.1) (refuses p c.in_ok-counts.counts f e c.requires v (c.in_err-n.ensures b.names b.metadata b.objects b.timers rows))

pub returns : goal.returns
returns c =
    let p = parts_of c.args.parts.now in
    let v : is_version p.head.version ≡ true = sym c.is_version.ensures ∙ c.if-not-is_version.false in
    let f : fits p ≡ true = sym c.fit.ensures ∙ c.if-not-fit.false in
    let e : some c.in_ok-counts.counts ≡ counts_in p.head.version p.names p.metadata p.objects p.timers = sym (ap option_of c.in_ok-counts.ensures.ok_part) ∙ c.count_all.ensures in
    let b = block_is p c.in_ok-counts.counts f e in
    let rows = section-rows p c.in_ok-counts.counts f e in
    writes p c.in_ok-counts.counts f e c.requires v (c.in_ok-n.ensures b.names b.metadata b.objects b.timers rows)

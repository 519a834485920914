use borrow.Author.Rules.{rules}
use native.Mathlib.Omega.{arith}
use Prim.Native.Nat.{◌<◌}
use Rattle.wire.specs.Bytes.{Bytes}
use Rattle.block_writer.proofs.MetadataJudging.{metadata-settled}
use Rattle.block_writer.proofs.TimersJudging.{early-settled}
use Rattle.block_writer.proofs.BlockJudging.{objects-verdict_on, rest-no-metadata, rest-no-early, rest-on}
use Rattle.wire.proofs.Handed.{handed_on}
use Rattle.block_writer.proofs.measure.judge_rest.Goals as goal

pub returns-in_err-a-clause-told : goal.returns-in_err-a-clause-told
returns-in_err-a-clause-told c =
    let h = c.args.parts.now.head in
    let bm : Bytes c.args.parts.now.metadata.now = c.requires.typed.metadata in
    λ l m o k w f g t.
    rw (handed_on _ c.from_residual.ensures.1) (rest-no-metadata h l m o k (metadata-settled h f bm w.metadata g) (c.in_err-a.ensures.told m w.metadata f))

pub returns-in_err-b-clause-told : goal.returns-in_err-b-clause-told
returns-in_err-b-clause-told c =
    let h = c.args.parts.now.head in
    let bm : Bytes c.args.parts.now.metadata.now = c.requires.typed.metadata in
    let bt : Bytes c.args.parts.now.timers.now = c.requires.typed.timers in
    let byte : h.timer < 256 = search rules in
    λ l m o k w f g t.
    rw (handed_on _ c.from_residual-in_err-b.ensures.1) (rest-no-early h l m o k (metadata-settled h f bm w.metadata g) (c.in_ok-a.ensures.told m w.metadata f)
    (early-settled h bt w.timers f byte t) (c.judge_early_timers.ensures.told k w.timers f t) c.in_err-b.ensures)

pub returns-clause-told : goal.returns-clause-told
returns-clause-told c =
    let h = c.args.parts.now.head in
    let bm : Bytes c.args.parts.now.metadata.now = c.requires.typed.metadata in
    let bt : Bytes c.args.parts.now.timers.now = c.requires.typed.timers in
    let bo : Bytes c.args.parts.now.objects.now = c.requires.typed.objects in
    let byte : h.timer < 256 = search rules in
    λ l m o k w f g t.
    rest-on h l m o k (metadata-settled h f bm w.metadata g) (c.in_ok-a.ensures.told m w.metadata f)
    (early-settled h bt w.timers f byte t) (c.judge_early_timers.ensures.told k w.timers f t) c.in_ok-b.ensures
    (objects-verdict_on bo w.objects) (omega arith) (c.judge_ending.ensures.told l k w.names w.timers f) c.shift-2.ensures

use Rattle.std.proofs.Common.{◌≡◌, ◌+◌, ◌-◌, ◌*◌, refl, sym, arith}
use Rattle.std.proofs.lemmas.Result.{err_from_is_err_and}
use Rattle.fl_ops.specs.Bytes.{name_size}
use Rattle.fl_wire.proofs.Sets.{walk_none, walk_more, walk_all, walk_fault}
use Rattle.fl_wire.proofs.Spelled.{name_few}
use Rattle.fl_wire.proofs.walk.walk_tags.Goals as goal

pub loop-i-init : goal.loop-i-init
loop-i-init c = (walk_none _ _ refl (omega arith), omega arith, omega arith)

pub tag_above-requires : goal.tag_above-requires
tag_above-requires c = omega (arith, c.requires.place, c.requires.few, c.loop-i.invariant.2, c.loop-i-test.true)

pub overflow_add-place : goal.overflow_add-place
overflow_add-place c = omega (arith, c.requires.place, c.requires.few, c.loop-i.invariant.2, c.loop-i-test.true, c.name_size-place.ensures, name_few c.args.format)

pub loop-i-preserved : goal.loop-i-preserved
loop-i-preserved c =
    let i = c.loop-i.i in
    let place : c.loop-i.place + name_size c.args.format ≡ c.loop-i.place + c.name_size-place.result = omega (arith, c.name_size-place.ensures) in (
      walk_more c.loop-i.place (c.args.count - i) c.loop-i.before c.in_ok-tag.tag (c.loop-i.place + c.name_size-place.result) (c.args.count - (i + 1)) c.loop-i.invariant.0 c.in_ok-tag.ensures.next c.in_ok-tag.ensures.keyed place (omega arith),
      omega (arith, c.loop-i.invariant.1, c.name_size-place.ensures),
      omega (arith, c.loop-i.invariant.2, c.name_size-place.ensures, name_few c.args.format),
    )

pub returns-in_err-tag : goal.returns-in_err-tag
returns-in_err-tag c =
    let i = c.loop-i.i in
    let p = err_from_is_err_and c.from_residual.result c.from_residual.ensures.1 in
    rw (p.1, p.2, c.in_err-tag.ensures.1) (walk_fault c.loop-i.place (c.args.count - i) c.loop-i.before (c.args.count - (i + 1)) c.loop-i.invariant.0 (omega arith) c.in_err-tag.ensures.0)

pub returns : goal.returns
returns c =
    let last : c.loop-i.i ≡ c.args.count = omega arith in
    let end : c.loop-i.place ≡ c.args.at + name_size c.args.format * c.args.count = rw (sym last) c.loop-i.invariant.1 in
    (walk_all c.loop-i.place (c.args.count - c.loop-i.i) c.loop-i.before c.loop-i.invariant.0 (omega arith), end)

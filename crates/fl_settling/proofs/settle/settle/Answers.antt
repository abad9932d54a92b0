use Rattle.std.proofs.Common.{◌≡◌, ◌∙◌, Bool, true, false, IsTrue, ap, not, refl}
use Rattle.fl_replica.specs.Boards.{Front}
use Rattle.fl_settling.proofs.Wholes.{whole_fine, fine_whole}
use Rattle.fl_settling.proofs.settle.settle.Goals as goal

not_not : (b : Bool) → not b ≡ false → IsTrue b
not_not true is = refl
not_not false is = absurd (cc)

pub returns-clause-fine : goal.returns-clause-fine
returns-clause-fine c =
    let old = c.args.worker.now in
    let found = c.compare-found in
    let left = c.give_up-2.ensures in
    let caught =
    ap (λ (d : Front). d.list) left.desk
    ∙ c.catch_up-is_caught_up.ensures.all.0 c.if-not-is_caught_up.false in (
      λ t.
          whole_fine c.args.first found.result.last found.result.front c.args.press.now.list
          c.args.deeds.now c.args.failed old c.catch_up-is_caught_up.new.desk
          c.give_up-2.new.worker found.ensures.front left.number left.entries left.good caught
          (found.ensures.met.0 (not_not found.result.is_met c.if-not-found.false))
          (found.ensures.whole.0 t),
      λ fine.
          found.ensures.whole.1
          (fine_whole c.args.first found.result.last found.result.front c.args.press.now.list
          c.args.deeds.now c.args.failed old c.catch_up-is_caught_up.new.desk
          c.give_up-2.new.worker found.ensures.front left.number left.entries left.good fine),
    )

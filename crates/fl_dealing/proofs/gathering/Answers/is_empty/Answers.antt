use Rattle.std.proofs.Common.{◌≡◌, List, All, sym, subst, vec_len, arith, eqb-true, eq-eqb, ◌∙◌}
use Rattle.fl_dealing.specs.declared.gathering.Lane.{Lane}
use Rattle.fl_dealing.proofs.Popped.{gone, gone_taken, gone_lanes}
use Rattle.fl_dealing.proofs.gathering.Answers.is_empty.Goals as goal

pub returns-then-is_empty : goal.returns-then-is_empty
returns-then-is_empty c =
    let lanes = c.args.self.now.lanes.items in
    let taken = c.args.self.now.taken.items in
    let same : c.deref.result.now ≡ lanes = c.deref.ensures.value in
    let none : vec_len c.args.self.now.taken ≡ 0 =
    eqb-true (vec_len c.args.self.now.taken) 0 (sym c.if-is_empty.ensures) in (
      λ holds. gone lanes taken (omega (arith, none, c.args.self.now.taken.ok))
          (subst (λ (l : List Lane). All (λ lane. vec_len lane.entries ≡ 0) l) same
          (c.are_empty.ensures.0 holds)),
      λ all. c.are_empty.ensures.1
          (subst (λ (l : List Lane). All (λ lane. vec_len lane.entries ≡ 0) l) (sym same)
          (gone_lanes lanes taken all)),
    )

pub returns-else-is_empty : goal.returns-else-is_empty
returns-else-is_empty c =
    let lanes = c.args.self.now.lanes.items in
    let taken = c.args.self.now.taken.items in (
      λ holds. absurd (cc),
      λ all. c.is_empty.ensures
          ∙ eq-eqb (vec_len c.args.self.now.taken) 0
          (omega (arith, gone_taken lanes taken all, c.args.self.now.taken.ok)),
    )

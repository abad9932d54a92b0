use Rattle.std.proofs.Common.{◌≡◌, ◌∙◌, ap, subst, OnOk}
use Rattle.fl_labels.specs.Cap.{cap_cmp}
use Rattle.fl_labels.specs.SetBy.{SetBy}
use Rattle.fl_bench.specs.parts.Changes.{after}
use Rattle.fl_bench.proofs.Changes.{after_gains}
use Rattle.fl_bench.proofs.past.Past.add_gains.Goals as goal

pub returns-clause-ok : goal.returns-clause-ok
returns-clause-ok c =
    subst (λ (s : SetBy cap_cmp). OnOk c.add.result (c.add.new.self ≡ s))
    (ap (λ l. after c.args.self.now l) (c.deref.ensures.value ∙ c.in_ok-gains.ensures)
    ∙ after_gains c.args.self.now c.args.caps.now)
    c.add.ensures.ok

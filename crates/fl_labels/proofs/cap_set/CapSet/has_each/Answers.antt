use Rattle.std.proofs.Common.{rules, ◌≡◌, ◌∙◌, ap, true, false}
use Rattle.std.proofs.lemmas.Iterator.{cases_from_all, YieldsList-from_slice}
use Rattle.fl_labels.specs.CapOrder.{cap_total, cap_exact}
use Rattle.fl_labels.specs.SetBy.{contains, of_list}
use Rattle.fl_labels.proofs.Unions.{each_told}
use Rattle.fl_labels.proofs.cap_set.CapSet.has_each.Goals as goal

pub returns : goal.returns
returns c = each_told cap_total cap_exact _ c.as_slice.result.now _ _ (ap of_list c.as_slice.ensures ∙ c.other.view_is)
    (cases_from_all _ _ _ (λ cap. contains c.args.self.now cap ≡ true) (λ cap. contains c.args.self.now cap ≡ false) c.all.ensures.ran (YieldsList-from_slice c.as_slice.result.now (search rules)) (λ x q k. search rules) (λ x q k. search rules))

use Rattle.std.proofs.Common.{◌∙◌, ap}
use Rattle.fl_labels.specs.SetBy as set
use Rattle.fl_opset.specs.RegistryText.{registry_text}
use Rattle.fl_world_laws.specs.laws.Naming.{reached_named}
use Rattle.fl_agreement_laws.specs.Gains.{gains}
use Rattle.fl_agreement_laws.proofs.Made.{gains_from, joined_lists, list_is}
use Rattle.fl_agreement_laws.proofs.Alike.{same_registry, same_member}
use Rattle.fl_agreement_laws.proofs.laws.law_equal.Goals as goal

pub returns-clause-registry : goal.returns-clause-registry
returns-clause-registry c = λ x y is. same_registry x.published y.published is

pub returns-clause-text : goal.returns-clause-text
returns-clause-text c = λ x y is. ap registry_text (same_registry x.published y.published is)

pub returns-clause-member : goal.returns-clause-member
returns-clause-member c = same_member

pub returns-clause-made : goal.returns-clause-made
returns-clause-made c = λ w ms number s t reached run. list_is number w ms s t (reached_named w reached) run

pub returns-clause-join : goal.returns-clause-join
returns-clause-join c = λ w ms number s t reached run at to boot.
    ap set.of_list (list_is number w ms s t (reached_named w reached) run at to boot)
    ∙ joined_lists s.node.published (gains number w ms)

pub returns-clause-from_its_own : goal.returns-clause-from_its_own
returns-clause-from_its_own c = λ w ms number s op reached run.
    gains_from number w ms s op (reached_named w reached) run

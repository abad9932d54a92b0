use Rattle.std.proofs.Common.{refl, subst}
use Rattle.fl_chains.specs.Chain.{FindsChain}
use Rattle.fl_labels.specs.declared.cap.Cap.TheVariants.{Use}
use Rattle.fl_ops.specs.Registry.{From, Listed}
use Rattle.fl_explanations.proofs.why.why_group.Goals as goal

pub returns-clause-found : goal.returns-clause-found
returns-clause-found c = record {
  root = c.in-Some.field-0.root;
  chain =
      subst (FindsChain (Listed c.args.ops.now) (From (Use c.args.group)) c.args.cap) c.in-Some.is
      c.in_ok-steps.ensures.found;
  begins = refl;
}

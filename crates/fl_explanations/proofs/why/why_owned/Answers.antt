use Rattle.std.proofs.Common.{subst}
use Rattle.std.specs.List.{Contains}
use Rattle.fl_chains.specs.Chain.{FindsChain}
use Rattle.fl_ops.specs.Registry.{Listed, WithGlobal}
use Rattle.fl_explanations.proofs.why.why_owned.Goals as goal

pub returns-clause-found : goal.returns-clause-found
returns-clause-found c =
    let roots = WithGlobal (Listed c.args.ops.now) (Contains c.args.owned.now) in
    record {
      root = c.in-Some.field-0.root;
      chain =
          subst (FindsChain (Listed c.args.ops.now) roots c.args.cap) c.in-Some.is
          c.in_ok-root.ensures.found;
      begins = c.first_of-first.ensures;
    }

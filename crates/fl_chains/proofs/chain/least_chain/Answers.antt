use Rattle.std.specs.List.{Contains}
use Rattle.fl_ops.specs.Registry.{Listed}
use Rattle.fl_chains.specs.Roots.{RootsOf}
use Rattle.fl_chains.proofs.Walking.{root_first, found_same}
use Rattle.fl_chains.proofs.chain.least_chain.Goals as goal

pub returns-then-is_root-clause-found : goal.returns-then-is_root-clause-found
returns-then-is_root-clause-found c =
    root_first (Listed c.args.ops.now) (RootsOf (Listed c.args.ops.now) c.args.roots) c.args.cap
    c.new.result.items
    (c.is_root.ensures.holds c.if-is_root.true) c.new.ensures.items

pub returns-clause-found : goal.returns-clause-found
returns-clause-found c =
    found_same (Listed c.args.ops.now) c.args.cap (Contains c.deref.result.now)
    (RootsOf (Listed c.args.ops.now) c.args.roots)
    (rw c.deref.ensures.value c.in_ok-all.ensures) c.chain_from.result c.chain_from.ensures

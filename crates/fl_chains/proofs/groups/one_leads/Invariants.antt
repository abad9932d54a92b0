use Rattle.std.specs.Prelude.{take}
use Rattle.fl_ops.specs.Registry.{From, Listed, Reach}
use Rattle.fl_chains.proofs.Ways.{NoneYet}
use Rattle.fl_chains.proofs.groups.one_leads.Given as goal

-- none so far leads there
abbrev pub invariant-loop-cap : goal.invariant-loop-cap
invariant-loop-cap l =
    NoneYet (λ a. Reach (Listed l.target.ops.now) (From a) l.target.cap) (take l.cap-index l.caps)

-- A node over its keeper.
use Rattle.std.specs.Prelude.{refl}
use Rattle.std.specs.Coded.{Coded, code_by, coded×}
use Rattle.fl_system.specs.State.{NodeState, coded_node}

pub record NodeOver (K : Type 0) : Type 0 where
  pub node : NodeState
  pub keeper : K

-- it is stored as the pair of both
abbrev pub coded_over : {K : Type 0} → Coded K → Coded (NodeOver K)
coded_over {K} keeper =
    code_by (NodeState × K) (coded× coded_node keeper)
    (λ n. (n.node, n.keeper))
    (λ t. record { node = t.0; keeper = t.1 })
    (λ _. refl)

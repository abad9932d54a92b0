-- What is reached through a registry.
use Rattle.std.specs.Prelude.{◌⊎◌, ◌↔◌}
use Rattle.std.proofs.Common.{inl, inr, refl, subst}
use Rattle.fl_labels.specs.declared.cap.Cap.{Cap}
use Rattle.fl_labels.specs.declared.cap.Cap.TheVariants.{Plus, Minus, Use, Grow}
use Rattle.fl_labels.specs.Found.{Within}
use Rattle.fl_ops.specs.declared.op.Op.{Op}
use Rattle.fl_ops.specs.Registry.{Chain, here, into, Reach, From, IsClosed, IsGlobal, WithGlobal, InEffect, OpensNone}

-- one chain goes on where another ends
pub chain_on : {U : Op → Type 0} {a b c : Cap} → Chain U a b → Chain U b c → Chain U a c
chain_on here on = on
chain_on (into h puts rest) on = into h puts (chain_on rest on)

-- what is closed under puts has the end of a chain with its start
pub chain_kept : {U : Op → Type 0} {P : Cap → Type 0} {a c : Cap} → IsClosed U P → Chain U a c → P a
    → P c
chain_kept closed here h = h
chain_kept closed (into h puts rest) start = chain_kept closed rest (closed.step _ _ _ h puts start)

module _ {U : Op → Type 0} {roots : Cap → Type 0} where
  -- a root is reached
  pub root_reached : Within roots (Reach U roots)
  root_reached c h = (c, h, here)

  -- and what a chain leads to from what is reached
  pub reach_on : {a c : Cap} → Reach U roots a → Chain U a c → Reach U roots c
  reach_on h on = (h.0, h.1, chain_on h.2 on)

  pub reach_closed : IsClosed U (Reach U roots)
  reach_closed = record { step = λ op group c h puts used. reach_on used (into h puts here) }

  -- no more is reached than a closed set with the roots has
  pub reach_least : {P : Cap → Type 0} → Within roots P → IsClosed U P → Within (Reach U roots) P
  reach_least rooted closed c h = chain_kept closed h.2 (rooted _ h.1)

  pub reach_again : Within (Reach U (Reach U roots)) (Reach U roots)
  reach_again c h = reach_on h.1 h.2

pub owned_eff : {U : Op → Type 0} {owned : Cap → Type 0} (c : Cap) → owned c → InEffect U owned c
owned_eff c h = root_reached c (inl h)

pub global_eff : {U : Op → Type 0} {owned : Cap → Type 0} (c : Cap) → IsGlobal U c → InEffect U owned c
global_eff c h = root_reached c (inr h)

-- what is reached from one root is at the end of a chain from it
pub from_chain : {U : Op → Type 0} {root : Cap} (c : Cap) → Reach U (From root) c → Chain U root c
from_chain {U} c h = subst (λ a. Chain U a c) h.1 h.2

pub chain_from : {U : Op → Type 0} {root : Cap} (c : Cap) → Chain U root c → Reach U (From root) c
chain_from {root} c h = (root, refl, h)

-- more operations and more roots reach no less
module _ {U V : Op → Type 0} (more : Within U V) where
  pub chain_more : {a c : Cap} → Chain U a c → Chain V a c
  chain_more here = here
  chain_more (into h puts rest) = into (more _ h) puts (chain_more rest)

  pub global_more : Within (IsGlobal U) (IsGlobal V)
  global_more (Plus tag) h = more _ h
  global_more (Minus tag) h = more _ h
  global_more (Use group) h = (h.0, more _ h.1)
  global_more (Grow group) h = absurd h

  module _ {O P : Cap → Type 0} (owned : Within O P) where
    pub reach_more : Within (Reach U O) (Reach V P)
    reach_more c h = (h.0, owned _ h.1, chain_more h.2)

  module _ {O P : Cap → Type 0} (owned : Within O P) where
    with_global_more : Within (WithGlobal U O) (WithGlobal V P)
    with_global_more c (inl h) = inl (owned c h)
    with_global_more c (inr h) = inr (global_more c h)

    pub eff_more : Within (InEffect U O) (InEffect V P)
    eff_more c h = reach_more with_global_more c h

-- where no group is opened, what everybody has leads to nothing else
global_alone : {U : Op → Type 0} → OpensNone U → {a c : Cap} → Chain U a c → IsGlobal U a → IsGlobal U c
global_alone never here h = h
global_alone never (into {group} u puts rest) h = absurd (never.none group h)

-- and what is in effect is what is reached from what is owned, and what everybody has
pub no_open : {U : Op → Type 0} {O : Cap → Type 0} → OpensNone U → (c : Cap) → InEffect U O c ↔ (Reach U O c ⊎ IsGlobal U c)
no_open {U} {O} never c = (λ h. to h.1 h.2, from)
  where
    to : {a : Cap} → WithGlobal U O a → Chain U a c → Reach U O c ⊎ IsGlobal U c
    to {a} (inl owned) way = inl (a, owned, way)
    to (inr global) way = inr (global_alone never way global)

    from : Reach U O c ⊎ IsGlobal U c → InEffect U O c
    from (inl h) = (h.0, inl h.1, h.2)
    from (inr h) = global_eff c h

-- In memory a line says that a keeper failed only where that of its node is broken.
use Rattle.std.proofs.Common.{inl, inr, ℕ}
use Rattle.fl_store.specs.Custody.{Custody}
use Rattle.fl_store.specs.MemKeeping.{MemKept, mem_custody}
use Rattle.fl_makers.specs.Making.{Making}
use Rattle.fl_makers.specs.MemMaking.{mem_making}
use Rattle.fl_system.specs.declared.answer.Fault.TheVariants.{KeeperFailed}
use Rattle.fl_system.specs.declared.event.Event.{Event}
use Rattle.fl_system.specs.WorldSteps.{node_of}
use Rattle.fl_nodes.specs.Failing.{FailsAt, FailsIn, saving, restarting, IsBrokenAt, LoadsBadRowOf}
use Rattle.fl_nodes.specs.Over.{WorldOver}
use Rattle.fl_calls.specs.Failing.{FailsOnceOpen, shut, there, opened, FailsCompleting}
use Rattle.fl_calls.specs.Over.{ClusterOver}

-- each keeper is honest, and no row is bad
record AreSound {K : Type 0} (custody : Custody K) : Type 0 where
  honest : (keeper : K) → custody.is_honest keeper
  whole : (keeper : K) → ¬ custody.has_bad_row keeper

module _ {K : Type 0} (custody : Custody K) (sound : AreSound custody) (old new : WorldOver K) where
  fails_at : (number : ℕ) → FailsAt custody (LoadsBadRowOf custody) old new number
      → IsBrokenAt custody new number
  fails_at number h = elim h.fails [
    | inl broken ↦ record { node = h.node; there = h.there; broken = broken }
    | inr bad ↦ absurd (sound.whole _ (bad (sound.honest h.node.keeper)).bad)
  ]

  fails_in : (e : Event) → FailsIn custody old new e → IsBrokenAt custody new (node_of e)
  fails_in e (saving broken) = broken
  fails_in e (restarting fails) = fails_at _ fails

  fails_completing : (e : Event) → FailsCompleting custody old new e
      → IsBrokenAt custody new (node_of e)
  fails_completing e (inl fails) = fails_in e fails
  fails_completing e (inr broken) = broken

-- where no maker refuses a node for its keeper's sake
pub once_open : {K M : Type 0} (custody : Custody K) (making : Making M K)
    → ((maker : M) (number : ℕ) → ¬ making.refuses maker number KeeperFailed)
    → (old new : ClusterOver K M) (number : ℕ) (fails : ClusterOver K M → Type 0) (so : Type 0)
    → ((between : ClusterOver K M) → fails between → so)
    → FailsOnceOpen custody making old new number fails → so
once_open custody making never old new number fails so leads (shut absent refused) =
    absurd (never old.maker number refused)
once_open custody making never old new number fails so leads (there at why) = leads old why
once_open custody making never old new number fails so leads (opened {between = mid} absent enters honest why) =
    leads mid why

mem_sound : AreSound mem_custody
mem_sound = record { honest = λ keeper. tt; whole = λ keeper bad. bad }

module _ {M : Type 0} (old new : ClusterOver MemKept M) where
  pub only_broken : (e : Event) → FailsOnceOpen mem_custody mem_making old new (node_of e)
      (λ between. FailsCompleting mem_custody between.world new.world e)
      → IsBrokenAt mem_custody new.world (node_of e)
  only_broken e =
      once_open mem_custody mem_making (λ maker number none. none) old new (node_of e) _ _
      (λ between. fails_completing mem_custody mem_sound between.world new.world e)

  -- and what only asks of a node that is there never says so
  pub never : (number : ℕ) → ¬ FailsOnceOpen mem_custody mem_making old new number (λ between. ⊥)
  never number =
      once_open mem_custody mem_making (λ maker n none. none) old new number _ _ (λ between why. why)

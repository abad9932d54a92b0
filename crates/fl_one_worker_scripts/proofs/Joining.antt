-- A node joins the world, or does not, as its crew finds.
use Rattle.std.proofs.Common.{◌≡◌, ◌+◌, ◌<◌, refl, ℕ, Some, None, Ok, Err}
use Rattle.std.specs.FinMap as fin
use Rattle.fl_labels.specs.declared.name.Name.{Name}
use Rattle.fl_gossip.specs.Meeting.{IsLeastOf}
use Rattle.fl_store.specs.Kept.{HasNamesOnce, Kept, raised}
use Rattle.fl_system.specs.declared.answer.Fault.{Fault}
use Rattle.fl_system.specs.declared.reply.Reply.TheVariants.{Booted, Refused}
use Rattle.fl_system.specs.Joins.{IsClashAt, IsLeastName, IsStray, Joins, joined}
use Rattle.fl_system.specs.Openings.{IsOf, Opens, opened}
use Rattle.fl_system.specs.Runs.{IsReached}
use Rattle.fl_system.specs.State.{NodeState}
use Rattle.fl_system.specs.World.{World}
use Rattle.fl_world_laws.specs.laws.Naming.{reached_named}
use Rattle.fl_nodes.specs.Joining.{HasNoStray}
use Rattle.fl_crew_calls.specs.Joining.{ClashesAt, FindsAgainst, StraysAt}
use Rattle.fl_crew_calls.specs.Over.{CrewsOver}
use Rattle.fl_one_worker_scripts.proofs.Standing.{SaveAlike, clash_from, clash_there, strays_from}
use Rattle.fl_one_worker_scripts.proofs.Standing.{strays_to}

-- in a world that a run leads to each operation that is saved is saved by the node of its number
pub no_stray : (w : World) → IsReached w → HasNoStray w
no_stray w reached name x =
    x.unknown ((reached_named w reached).owned x.op x.in_world x.owner x.there)

-- ---- what a registrar's node is opened over

pub record IsOpening (number : ℕ) (k : Kept) (node : NodeState) (k' : Kept) : Type 0 where
  pub own : k.number ≡ number
  pub low : k.boot < 4294967295
  pub node_is : node ≡ opened 0 k
  pub up : k' ≡ raised k

pub opening_of : (number : ℕ) (k : Kept) (node : NodeState) (k' : Kept)
    → Opens 0 (IsOf number) k (Ok node) k' → IsOpening number k node k'
opening_of number k node k' (Opens.opens own low) =
    record { own = own; low = low; node_is = refl; up = refl }

-- why it is not opened does not hang on its desks
pub refused_so : (desks number : ℕ) (k : Kept) (fault : Fault) (left : Kept)
    → Opens 0 (IsOf number) k (Err fault) left → Opens desks (IsOf number) k (Err fault) left
refused_so desks number k fault left (Opens.spent own all) = Opens.spent own all
refused_so desks number k fault left (Opens.refused why is) = Opens.refused why is

-- ---- what the crews find is what the world does

least_as : (P Q : Name → Type 0) (name : Name) → ((other : Name) → P other → Q other)
    → ((other : Name) → Q other → P other) → IsLeastOf P name → IsLeastName Q name
least_as P Q name to back least =
    record { holds = to name least.holds; least = λ other q. least.least other (back other q) }

module _ {K M : Type 0} (crews : CrewsOver K M) (w : World) (alike : SaveAlike crews w)
    (known : HasNoStray w) (number : ℕ) (k : Kept) (none : fin.get w.nodes number ≡ None)
    (own : k.number ≡ number) (low : k.boot < 4294967295) where
  pub joins_so : HasNamesOnce k.saved
      → FindsAgainst (ClashesAt crews k.saved) (StraysAt crews number k.saved) None
      → Joins w number k (Booted (k.boot + 1)) (joined w number k)
  joins_so names (FindsAgainst.nothing no_clash no_strays) =
      Joins.joins none own low names
      (λ name c. no_clash name (clash_from crews w alike k.saved name c))
      (λ name x. no_strays name (strays_from crews w alike number k known name x))

  pub joins_not : (fault : Fault)
      → FindsAgainst (ClashesAt crews k.saved) (StraysAt crews number k.saved) (Some fault)
      → Joins w number k (Refused fault) w
  joins_not fault (FindsAgainst.clash {name} least) =
      Joins.clash none own low
      (least_as (ClashesAt crews k.saved) (IsClashAt w k.saved) name
      (clash_there crews w alike k.saved) (clash_from crews w alike k.saved) least)
  joins_not fault (FindsAgainst.stray {name} no_clash least) =
      Joins.impostor none own low
      (λ other c. no_clash other (clash_from crews w alike k.saved other c))
      (least_as (StraysAt crews number k.saved) (IsStray (joined w number k)) name
      (strays_to crews w alike number k none) (strays_from crews w alike number k known) least)

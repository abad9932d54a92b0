-- What a second script's nodes are opened over, once the keepers of the first one were given back.
use Rattle.std.specs.Prelude.{◌≡◌, ℕ, List}
use Rattle.std.specs.FinMap as map
use Rattle.std.specs.List.{slice_get}
use Rattle.std.specs.declared.option.Option.TheVariants.{None, Some}
use Rattle.fl_labels.specs.SetBy.{In}
use Rattle.fl_labels.specs.declared.name.Name.{Name}
use Rattle.fl_ops.specs.declared.op.Op.{Op}
use Rattle.fl_store.specs.Custody.{Custody}
use Rattle.fl_store.specs.Kept.{Kept}
use Rattle.fl_makers.specs.Making.{Making}
use Rattle.fl_system.specs.World.{World, KeptNode}
use Rattle.fl_system.specs.WorldSteps.{IsAt}
use Rattle.fl_node.specs.Over.{NodeOver}
use Rattle.fl_nodes.specs.Goes.{MayBe}
use Rattle.fl_calls.specs.Closing.{MayBeLeft}
use Rattle.fl_calls.specs.Entering.{Openings}
use Rattle.fl_calls.specs.Over.{NotOpened}
use Rattle.fl_turns.specs.Lasting.{IsLastingRun, IsToldPublished}
use Rattle.fl_turns.specs.Moments.{Turned}
use Rattle.fl_turns.specs.Over.{SessionOver}
use Rattle.fl_turns.specs.Session.{Session}

-- in one of the worlds that its nodes may be at this end, this is kept of the node of this number
pub record IsKeptAtEnd {K M : Type 0} (custody : Custody K) (end : SessionOver K M) (number : ℕ)
    (k : Kept) : Type 0 where
  pub world : World
  pub may_be : MayBe custody end.cluster.world world
  pub node : KeptNode
  pub at : IsAt world number node
  pub same : node.kept ≡ k

-- What is found of a node after this end: of one that was served what was kept of it then, or what
-- another keeper of it may hold that was made before; of any other what was found before.
pub data FoundNext {K M : Type 0} (custody : Custody K) (making : Making M K)
    (end : SessionOver K M) (number : ℕ) (k : Kept) : Type 0 where
  served : IsKeptAtEnd custody end number k → FoundNext custody making end number k
  made_again : {n : NodeOver K} → map.get end.cluster.world.nodes number ≡ Some n
      → making.again number k → FoundNext custody making end number k
  not_served : map.get end.cluster.world.nodes number ≡ None
      → making.finds end.cluster.maker number k → FoundNext custody making end number k

-- this maker was given the keepers of this end back
abbrev pub HasBack : {K M : Type 0} → Custody K → Making M K → SessionOver K M → M → Type 0
HasBack custody making end left = (number : ℕ) (k : Kept) → making.finds left number k
    → MayBeLeft custody making end.cluster number k

-- and opens nodes over that
abbrev pub opened_next : {K M : Type 0} → Custody K → Making M K → SessionOver K M → M → Openings
opened_next custody making end left =
    record { finds = FoundNext custody making end; refuses = NotOpened custody making left }

-- What is kept of the node of this number has each operation whose name a line to it was answered,
-- in a run of the lines that all lasts along and that leaves the session so.
pub record HasAnswered (openings : Openings) (lines : List (List ℕ)) (text : List ℕ) (status : ℕ)
    (new : Session) (number : ℕ) (k : Kept) : Type 0 where
  pub run : IsLastingRun openings lines text status new
  pub has : (place : ℕ) (t : Turned) (name : Name)
      → slice_get run.lasts.turns place ≡ Some t → IsToldPublished t number name
      → (op : Op) × (op.name ≡ name) × In k.saved op

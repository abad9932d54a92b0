-- The node of a crew that serves, in the world that the crews stand for.
use Rattle.std.proofs.Common.{◌≡◌, ◌∙◌, ℕ, Option, sym, subst}
use Rattle.std.proofs.lemmas.List.{append-nil}
use Rattle.fl_store.specs.Custody.{Custody}
use Rattle.fl_makers.specs.Making.{Making}
use Rattle.fl_system.specs.declared.answer.Fault.{Fault}
use Rattle.fl_system.specs.declared.reply.Reply.{Reply}
use Rattle.fl_system.specs.declared.state.Batch.{Batch}
use Rattle.fl_system.specs.declared.state.Pending.TheVariants.{Nothing}
use Rattle.fl_system.specs.declared.state.State.{State}
use Rattle.fl_system.specs.declared.state.State.TheVariants.{Running}
use Rattle.fl_system.specs.State.{NodeState}
use Rattle.fl_system.specs.Waiting.{IsRunning, NotRunning}
use Rattle.fl_system.specs.World.{World, KeptNode}
use Rattle.fl_system.specs.WorldSteps.{IsAt}
use Rattle.fl_crew_model.specs.Books.{IsAt as IsHeld}
use Rattle.fl_calls.specs.Answer.{Answer}
use Rattle.fl_calls.specs.Calls.{Says}
use Rattle.fl_workers.specs.Over.{CrewOver}
use Rattle.fl_crew_calls.specs.Asking.{IsServing}
use Rattle.fl_crew_calls.specs.Over.{CrewsOver, IsCrewAt}
use Rattle.fl_one_worker_laws.specs.Single.{IsNodeOf}
use Rattle.fl_one_worker_calls.specs.Crews.{IsSound}
use Rattle.fl_one_worker_calls.proofs.Serving.{stands_at}
use Rattle.fl_one_worker_scripts.proofs.Ties.{Meets, Ties}

-- what a registrar's node with nothing on its way, and the node in the world that its crew stands
-- for, have in common
pub record Mirrors (its n : NodeState) : Type 0 where
  pub number : n.number ≡ its.number
  pub saved : n.saved ≡ its.saved
  pub published : n.published ≡ its.published
  pub idle : its.state ≡ Running Nothing
  pub still : n.state ≡ Running Nothing

-- that node of a crew
pub record IsMirrored {K : Type 0} (w : World) (number : ℕ) (crew : CrewOver K) : Type 0 where
  pub place : KeptNode
  pub there : IsAt w number place
  pub mirrors : Mirrors crew.node.node place.node

-- ---- a node with nothing on its way runs

pub is_running : (state : State) → state ≡ Running Nothing → IsRunning state
is_running state is = subst (λ (s : State). IsRunning s) (sym is) tt

pub is_not_stopped : (state : State) (fault : Fault) → state ≡ Running Nothing
    → ¬ NotRunning state fault
is_not_stopped state fault is why = subst (λ (s : State). NotRunning s fault) is why

-- ---- a crew that is sound

module _ {K : Type 0} {custody : Custody K} where
  pub is_serving : (crew : CrewOver K) → IsSound custody crew → IsServing crew
  is_serving crew sound = (sound.runs, is_running crew.node.node.state sound.listed.state)

  node_mirrors : (crew : CrewOver K) (n : NodeState) → IsSound custody crew → IsNodeOf crew n
      → Mirrors crew.node.node n
  node_mirrors crew n sound node =
      let holds = node.crew.holds in
      let listed = sound.listed in
      record {
        number = node.crew.numbered;
        saved = holds.saved;
        published = holds.list ∙ (sym (append-nil crew.list) ∙ sym listed.published);
        idle = listed.state;
        still = subst (λ (due : Option Batch). IsHeld n.state due) sound.idle holds.state;
      }

module _ {K M : Type 0} {custody : Custody K} {making : Making M K} {maker : M} where
  pub mirrored : (crews : CrewsOver K M) (w : World) (number : ℕ) (crew : CrewOver K)
      → Ties custody making maker crews w → IsCrewAt crews number crew
      → IsMirrored w number crew
  mirrored crews w number crew ties at =
      let stands = stands_at crews w number crew ties.stands at in
      record {
        place = stands.place;
        there = stands.there;
        mirrors = node_mirrors crew stands.place.node (ties.sound number crew at) stands.is_node;
      }

  -- ---- what the world goes on to

  -- it stays the same
  pub rests : (crews : CrewsOver K M) (w : World) (step : World → Type 0)
      → Ties custody making maker crews w → step w → Meets making maker step crews
  rests crews w step ties does = record {
    world = w;
    steps = does;
    stands = ties.stands;
    allows = ties.allows;
  }

module _ {K M : Type 0} (making : Making M K) (maker : M) where
  -- what is replied is said
  pub says_meet : (to_say : Reply → Answer) (step : Reply → World → Type 0) (answer : Answer)
      (reply : Reply) (new : CrewsOver K M) → answer ≡ to_say reply
      → Meets making maker (step reply) new
      → Meets making maker (λ w'. Says to_say step answer w') new
  says_meet to_say step answer reply new is meets = record {
    world = meets.world;
    steps = (reply, is, meets.steps);
    stands = meets.stands;
    allows = meets.allows;
  }

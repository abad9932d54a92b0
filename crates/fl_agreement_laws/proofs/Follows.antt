-- What each desk sees of its node's list only grows, also over openings.
use Rattle.std.proofs.Common.{◌≡◌, ◌⊎◌, ◌∙◌, ◌<◌, ◌≤◌, ◌++◌, inl, inr, ℕ, Bool, List, [], ◌∷◌, length, Result, Some, refl, sym, ap, subst, arith, append_assoc, append-nil, length-append}
use Rattle.std.proofs.Math.Nat.{le-max_left}
use Rattle.std.specs.FinMap as map
use Rattle.std.specs.List.{Contains}
use Rattle.std.specs.declared.option.Option.{Option}
use Rattle.std.specs.declared.option.Option.TheVariants.{None}
use Rattle.std.proofs.lemmas.List.Elements.{Contains-append_left}
use Rattle.fl_labels.specs.Found.{Within}
use Rattle.fl_labels.specs.SetBy.{SetBy, In}
use Rattle.fl_labels.specs.declared.name.Name.{Name}
use Rattle.fl_labels.specs.declared.pid.Pid.{Pid}
use Rattle.fl_ops.specs.OpOrder.{op_cmp}
use Rattle.fl_ops.specs.declared.op.Op.{Op}
use Rattle.fl_ops.specs.declared.op.Body.{Body}
use Rattle.fl_opset.specs.laws.Members.{member_listed}
use Rattle.fl_message.specs.declared.message.Data.{Data}
use Rattle.fl_jobs.specs.declared.answer.Reply.{Reply}
use Rattle.fl_jobs.specs.declared.job.Job.{Job}
use Rattle.fl_bench.specs.laws.Puts.{none_some, same_found}
use Rattle.fl_store.specs.Kept.{Kept, raised}
use Rattle.fl_system.specs.declared.answer.Answer.{Answer}
use Rattle.fl_system.specs.declared.answer.Fault.{Fault}
use Rattle.fl_system.specs.declared.state.Batch.{Batch}
use Rattle.fl_system.specs.declared.state.Batch.TheVariants.{Ordered, Received}
use Rattle.fl_system.specs.Numbered.{item_at, with_item}
use Rattle.fl_system.specs.State.{NodeState, first_ops, kept_of, ops_in, ops_of}
use Rattle.fl_system.specs.Begins.{Begins}
use Rattle.fl_system.specs.Jobs.{Jobs, Looks}
use Rattle.fl_system.specs.Receives.{Receives}
use Rattle.fl_system.specs.Arrives.{Arrives}
use Rattle.fl_system.specs.Saves.{Saves}
use Rattle.fl_system.specs.Publishes.{Publishes, Cancels, list_with, published_with}
use Rattle.fl_system.specs.Openings.{IsOwn, Opens, OpensAgain, Restarts, opened}
use Rattle.fl_system.specs.World.{World, KeptNode, went}
use Rattle.fl_system.specs.WorldSteps.{IsAt}
use Rattle.fl_system.specs.Runs.{Moment, IsRun, end}
use Rattle.fl_system_laws.specs.Goes.{Calls, Goes}
use Rattle.fl_system_laws.specs.laws.Going.{moves_goes}
use Rattle.fl_system_laws.specs.laws.Numbered.{WasAt, was_at, made_at}
use Rattle.fl_system_laws.specs.laws.Steps.{with_ops_more}
use Rattle.fl_world_laws.specs.laws.Naming.{IsNamed, goes_named}
use Rattle.fl_world_laws.specs.laws.Nodes.{Stays, is_replaced, is_still, stays_there, at_key}
use Rattle.fl_agreement_laws.proofs.Fronts.{first_more, first_all, first_whole}

-- so many operations are all that the node had, or no fewer than the desk saw then
abbrev pub SeenFrom : NodeState → ℕ → ℕ → Type 0
SeenFrom n desk v' = (length n.published ≤ v') ⊎ ((v : ℕ) × (item_at n.views desk ≡ Some v) × (v ≤ v'))

-- What the node became. In the same boot its list goes on, and no desk sees less, but for one that sees all that the
-- list was; after another opening each desk sees all of that.
pub data Follows (n n' : NodeState) : Type 0 where
  same_boot : n'.boot ≡ n.boot → (rest : List Op) → n'.published ≡ n.published ++ rest
      → ((desk v' : ℕ) → item_at n'.views desk ≡ Some v' → SeenFrom n desk v') → Follows n n'
  later_boot : n.boot < n'.boot → Within (Contains n.published) (Contains n'.published)
      → ((desk v' : ℕ) → item_at n'.views desk ≡ Some v' → Within (Contains n.published) (first_ops v' n'.published))
      → Follows n n'

-- the list goes on, and no view changes
goes_on : (n n' : NodeState) (rest : List Op) → n'.boot ≡ n.boot → n'.published ≡ n.published ++ rest
    → n'.views ≡ n.views → Follows n n'
goes_on n n' rest boot list views =
    same_boot boot rest list (λ desk v e. inr (v, ap (λ l. item_at l desk) (sym views) ∙ e, omega arith))

-- the list and all views as they were
pub unseen : (n n' : NodeState) → n'.boot ≡ n.boot → n'.published ≡ n.published → n'.views ≡ n.views → Follows n n'
unseen n n' boot list views = goes_on n n' [] boot (list ∙ sym (append-nil n.published)) views

-- one desk looks further
module _ (n n' : NodeState) (desk v w : ℕ) (boot : n'.boot ≡ n.boot) (list : n'.published ≡ n.published)
    (views : n'.views ≡ with_item n.views desk w) (at : item_at n.views desk ≡ Some v) (up : v ≤ w) where
  raised_view : (d x : ℕ) → WasAt (λ _. w) n.views desk d x → SeenFrom n d x
  raised_view d x was = elim was.became [
    | inl same ↦ inr (was.before, was.there, omega (arith, same))
    | inr (is, new) ↦
        let old : v ≡ was.before = same_found at (subst (λ i. item_at n.views i ≡ Some was.before) is was.there) in
        inr (was.before, was.there, omega (arith, up, old, new))
  ]

  raises : Follows n n'
  raises =
      same_boot boot [] (list ∙ sym (append-nil n.published))
      (λ d x e. raised_view d x (was_at (λ _. w) n.views desk d x (ap (λ l. item_at l d) (sym views) ∙ e)))

looked_up : {n : NodeState} {desk upto v : ℕ} (look : Looks n desk upto v) → look.seen ≤ v
looked_up look = subst (λ x. look.seen ≤ x) (sym look.sees) (le-max_left _ _)

-- a desk that looked, whatever else became of the node
looks_on : (n n' : NodeState) {desk upto v : ℕ} (look : Looks n desk upto v) (w : ℕ)
    → (w ≡ look.seen) ⊎ (w ≡ v) → n'.boot ≡ n.boot → n'.published ≡ n.published
    → n'.views ≡ with_item n.views desk w → Follows n n'
looks_on n n' {desk} look w (inl stays) boot list views =
    raises n n' desk look.seen w boot list views look.has_seen (omega (arith, stays))
looks_on n n' {desk} look w (inr far) boot list views =
    let up = looked_up look in raises n n' desk look.seen w boot list views look.has_seen (omega (arith, far, up))

-- what is begun leaves the list and the views
record IsShownAs (n n' : NodeState) : Type 0 where
  pub boot : n'.boot ≡ n.boot
  pub list : n'.published ≡ n.published
  pub views : n'.views ≡ n.views

begins_shown : {n : NodeState} {body : Body} {maker : Option Pid} {desk : Option ℕ} {result : Result Name Fault}
    {n' : NodeState} → Begins n body maker desk result n' → IsShownAs n n'
begins_shown (Begins.begins idle next) = record { boot = refl; list = refl; views = refl }
begins_shown (Begins.taken why) = record { boot = refl; list = refl; views = refl }
begins_shown (Begins.spent idle last) = record { boot = refl; list = refl; views = refl }

pub jobs_follow : {n : NodeState} {desk upto : ℕ} {job : Job} {result : Result Answer Fault} {n' : NodeState}
    → Jobs n desk upto job result n' → Follows n n'
jobs_follow (Jobs.stopped why) = unseen _ _ refl refl refl
jobs_follow (Jobs.no_room look less left) = looks_on _ _ look _ left refl refl refl
jobs_follow (Jobs.refused look d) = looks_on _ _ look _ (inr refl) refl refl refl
jobs_follow (Jobs.replied look d) = looks_on _ _ look _ (inr refl) refl refl refl
jobs_follow (Jobs.sent look d) = looks_on _ _ look _ (inr refl) refl refl refl
jobs_follow (Jobs.begun look d begun) =
    let s = begins_shown begun in looks_on _ _ look _ (inr refl) s.boot s.list s.views
jobs_follow (Jobs.not_begun look d begun) = looks_on _ _ look _ (inr refl) refl refl refl

arrives_follow : {n : NodeState} {d : Data} {result : Result Reply Fault} {n' : NodeState} → Arrives n d result n'
    → Follows n n'
arrives_follow (Arrives.stopped why) = unseen _ _ refl refl refl
arrives_follow (Arrives.refused at) = unseen _ _ refl refl refl
arrives_follow (Arrives.arrives at) = unseen _ _ refl refl refl

receives_follow : {n : NodeState} {ops : SetBy op_cmp} {result : Result ℕ Fault} {n' : NodeState}
    → Receives n ops result n' → Follows n n'
receives_follow (Receives.stopped why) = unseen _ _ refl refl refl
receives_follow (Receives.no_room is some) = unseen _ _ refl refl refl
receives_follow (Receives.impostor is least fault) = unseen _ _ refl refl refl
receives_follow (Receives.clash is least fault) = unseen _ _ refl refl refl
receives_follow (Receives.nothing_new is can all) = unseen _ _ refl refl refl
receives_follow (Receives.taken op is can there lacks why) = unseen _ _ refl refl refl
receives_follow (Receives.receives is can lacking some) = unseen _ _ refl refl refl

saves_follow : {n : NodeState} {k : Kept} {result : Result (Unit {0}) Fault} {n' : NodeState} {k' : Kept}
    → Saves n k result n' k' → Follows n n'
saves_follow (Saves.saved is) = unseen _ _ refl refl refl
saves_follow (Saves.no_room is) = unseen _ _ refl refl refl
saves_follow (Saves.failed is left) = unseen _ _ refl refl refl
saves_follow (Saves.none why) = unseen _ _ refl refl refl

-- the desk of an order is told of the whole list
publishes : (n : NodeState) (batch : Batch) → Follows n (published_with n batch)
publishes n (Received ops) = goes_on n _ (ops_of (Received ops)) refl refl refl
publishes n (Ordered op maker None) = goes_on n _ (op ∷ []) refl refl refl
publishes n (Ordered op maker (Some desk)) =
    same_boot refl (op ∷ []) refl (λ d x e. told d x (was_at (λ _. all) n.views desk d x e))
  where
    all : ℕ
    all = length (list_with n (Ordered op maker (Some desk)))

    told : (d x : ℕ) → WasAt (λ _. all) n.views desk d x → SeenFrom n d x
    told d x was = elim was.became [
      | inl same ↦ inr (was.before, was.there, omega (arith, same))
      | inr (is, new) ↦ let more = length-append n.published (op ∷ []) in inl (omega (arith, new, more))
    ]

publishes_follow : {n : NodeState} {result : Result ℕ Fault} {n' : NodeState} → Publishes n result n' → Follows n n'
publishes_follow (Publishes.published {batch = batch} is) = publishes _ batch
publishes_follow (Publishes.no_room is) = unseen _ _ refl refl refl
publishes_follow (Publishes.none why) = unseen _ _ refl refl refl

cancels_follow : {n : NodeState} {result : Result (Unit {0}) Fault} {n' : NodeState} → Cancels n result n'
    → Follows n n'
cancels_follow (Cancels.given_up is) = unseen _ _ refl refl refl
cancels_follow (Cancels.none why) = unseen _ _ refl refl refl

-- what was saved is found at a further opening
found : (m : NodeState) {doubt : Option Batch} {k : Kept} → IsOwn (kept_of m) doubt k → Within (In m.saved) (In k.saved)
found m {doubt} own op h = elim own.saved [
  | inl e ↦ subst (λ t. In t op) (sym e) h
  | inr e ↦ subst (λ t. In t op) (sym e) (with_ops_more m.saved (ops_in doubt) op h)
]

-- Where the node n, or n with more saved, is opened again.
again_follow : (n m : NodeState) → m.boot ≡ n.boot → m.published ≡ n.published → m.views ≡ n.views
    → Within (Contains n.published) (In m.saved) → {doubt : Option Batch} {k : Kept} {result : Result ℕ Fault}
    {n' : NodeState} {k' : Kept} → OpensAgain m doubt k result n' k' → Follows n n'
again_follow n m boot list views published {doubt} {k} (OpensAgain.opens (Opens.opens own left)) =
    let higher = own.boot in
    later_boot (omega (arith, higher, boot)) there (λ desk v e op h.
    let made = made_at (length m.views) (λ _. length (opened (length m.views) k).published) desk v e in
    subst (λ x. first_ops x (opened (length m.views) k).published op) (sym made.is)
    (first_whole (opened (length m.views) k).published op (there op h)))
  where
    there : Within (Contains n.published) (Contains (opened (length m.views) k).published)
    there op h = member_listed k.saved op (found m own op (published op h))
again_follow n m boot list views published (OpensAgain.stays why) = unseen n _ boot list views

restarts_follow : {n : NodeState} {k : Kept} {keeps : Bool} {result : Result ℕ Fault} {n' : NodeState} {k' : Kept}
    → Within (Contains n.published) (In n.saved) → Restarts n k keeps result n' k' → Follows n n'
restarts_follow p (Restarts.not_saved kept is f) = saves_follow f
restarts_follow {n} p (Restarts.saved {batch = batch} kept is again) =
    again_follow n _ refl refl refl (λ op h. with_ops_more n.saved (ops_of batch) op (p op h)) again
restarts_follow {n} p (Restarts.lost lost is again) = again_follow n n refl refl refl p again
restarts_follow {n} p (Restarts.idle is again) = again_follow n n refl refl refl p again
restarts_follow {n} p (Restarts.due is again) = again_follow n n refl refl refl p again
restarts_follow {n} p (Restarts.stopped is again) = again_follow n n refl refl refl p again

calls_follow : {w : World} {s : KeptNode} {n : NodeState} {k : Kept}
    → Within (Contains s.node.published) (In s.node.saved) → Calls w s n k → Follows s.node n
calls_follow p (Calls.jobs does) = jobs_follow does
calls_follow p (Calls.looks seen look is) = looks_on _ _ look seen is refl refl refl
calls_follow p (Calls.receives sent there does) = receives_follow does
calls_follow p (Calls.arrives does) = arrives_follow does
calls_follow p (Calls.saves does) = saves_follow does
calls_follow p (Calls.publishes does) = publishes_follow does
calls_follow p (Calls.cancels does) = cancels_follow does
calls_follow p (Calls.restarts does) = restarts_follow p does
calls_follow {s = s} p (Calls.reopens is again) = again_follow s.node s.node refl refl refl p again

-- ---- one after another

module _ (a b : NodeState) (rest : List Op) (list : b.published ≡ a.published ++ rest) where
  pub on_view : (v w : ℕ) → v ≤ w → Within (first_ops v a.published) (first_ops w b.published)
  on_view v w up op h = subst (λ l. first_ops w l op) (sym list) (first_more v w a.published rest up op h)

  pub all_on_view : (w : ℕ) → length a.published ≤ w → Within (Contains a.published) (first_ops w b.published)
  all_on_view w up op h = subst (λ l. first_ops w l op) (sym list) (first_all w a.published rest up op h)

  stays_listed : Within (Contains a.published) (Contains b.published)
  stays_listed op h = subst (λ l. Contains l op) (sym list) (Contains-append_left a.published rest op h)

  no_shorter : length a.published ≤ length b.published
  no_shorter = let joined = length-append a.published rest in let same = ap length list in omega (arith, joined, same)

seen_back : (a b : NodeState) (desk v : ℕ) → length a.published ≤ length b.published
    → ((d x : ℕ) → item_at b.views d ≡ Some x → SeenFrom a d x) → SeenFrom b desk v → SeenFrom a desk v
seen_back a b desk v longer views (inl all) = inl (omega (arith, all, longer))
seen_back a b desk v longer views (inr (x, at, up)) = elim (views desk x at) [
  | inl all ↦ inl (omega (arith, all, up))
  | inr (y, there, below) ↦ inr (y, there, omega (arith, below, up))
]

pub follows_on : {a b c : NodeState} → Follows a b → Follows b c → Follows a c
follows_on {a} {b} {c} (same_boot boot rest list views) (same_boot boot' rest' list' views') =
    same_boot (boot' ∙ boot) (rest ++ rest')
    (list' ∙ (ap (λ l. l ++ rest') list ∙ append_assoc a.published rest rest'))
    (λ d v e. seen_back a b d v (no_shorter a b rest list) views (views' d v e))
follows_on {a} {b} {c} (same_boot boot rest list views) (later_boot up all views') =
    later_boot (omega (arith, boot, up)) (λ op h. all op (stays_listed a b rest list op h))
    (λ d v e op h. views' d v e op (stays_listed a b rest list op h))
follows_on {a} {b} {c} (later_boot up all views) (same_boot boot rest list views') =
    later_boot (omega (arith, boot, up)) (λ op h. stays_listed b c rest list op (all op h))
    (λ d v e op h. onward d v op h (views' d v e))
  where
    onward : (d v : ℕ) (op : Op) → Contains a.published op → SeenFrom b d v → first_ops v c.published op
    onward d v op h (inl far) = all_on_view b c rest list v far op (all op h)
    onward d v op h (inr (x, at, below)) = on_view b c rest list x v below op (views d x at op h)
follows_on (later_boot up all views) (later_boot up' all' views') =
    later_boot (omega (arith, up, up')) (λ op h. all' op (all op h)) (λ d v e op h. views' d v e op (all op h))

-- ---- worlds

-- the node of this number is there, and what the node n became
pub record FollowsAt (w : World) (number : ℕ) (n : NodeState) : Type 0 where
  pub later : KeptNode
  pub at : IsAt w number later
  pub follows : Follows n later.node

-- each node that is there stays, and follows what it was
pub record FollowsIn (w w' : World) : Type 0 where
  pub each : (number : ℕ) (s : KeptNode) → IsAt w number s → FollowsAt w' number s.node

itself : (n : NodeState) → Follows n n
itself n = unseen n n refl refl refl

as_it_was : (w w' : World) → w'.nodes ≡ w.nodes → FollowsIn w w'
as_it_was w w' same =
    record {
      each = λ number s e. record {
        later = s;
        at = subst (λ m. map.get m number ≡ Some s) (sym same) e;
        follows = itself s.node;
      };
    }

follow_on : {a b c : World} → FollowsIn a b → FollowsIn b c → FollowsIn a c
follow_on f g = record {
  each = λ number s e.
      let first = f.each number s e in
      let second = g.each number first.later first.at in
      record { later = second.later; at = second.at; follows = follows_on first.follows second.follows };
}

-- a node is put at a number
module _ (w : World) (number : ℕ) (new : KeptNode) (m : ℕ) (x : KeptNode)
    (follows : m ≡ number → Follows x.node new.node) where
  put_follows : Stays w.nodes number new m x → (w' : World) → w'.nodes ≡ map.insert w.nodes number new
      → FollowsAt w' m x.node
  put_follows (is_replaced is) w' same =
      record {
        later = new;
        at = subst (λ k. map.get w'.nodes k ≡ Some new) (sym is)
            (subst (λ l. map.get l number ≡ Some new) (sym same) (at_key w.nodes number new));
        follows = follows is;
      }
  put_follows (is_still at) w' same =
      record { later = x; at = subst (λ l. map.get l m ≡ Some x) (sym same) at; follows = itself x.node }

pub goes_follows : {w w' : World} → IsNamed w → Goes w w' → FollowsIn w w'
goes_follows {w} named Goes.stays = as_it_was w w refl
goes_follows {w} named (Goes.tells number told at saved) = as_it_was w _ refl
goes_follows {w} named (Goes.calls number {s = s} {n = n} {k = k} sent admitted at does none) =
    let new : KeptNode = record { node = n; kept = k } in
    record {
      each = λ m x e. put_follows w number new m x
          (λ is. subst (λ (y : KeptNode). Follows y.node n)
          (same_found at (subst (λ j. map.get w.nodes j ≡ Some x) is e))
          (calls_follow ((named.sound number s at).1.published) does))
          (stays_there w.nodes number new m x e) (went w number n k sent admitted) refl;
    }
goes_follows {w} named (Goes.joins number {k = k} may) =
    let new : KeptNode = record { node = opened w.desks k; kept = raised k } in
    record {
      each = λ m x e. put_follows w number new m x
          (λ is. absurd (none_some may.free (subst (λ j. map.get w.nodes j ≡ Some x) is e)))
          (stays_there w.nodes number new m x e) _ refl;
    }

pub run_follows : (w : World) (ms : List Moment) → IsNamed w → IsRun w ms → FollowsIn w (end w ms)
run_follows w [] named run = as_it_was w w refl
run_follows w (m ∷ ms) named run =
    let goes = moves_goes w m.move m.reply m.after run.0 in
    follow_on (goes_follows named goes) (run_follows m.after ms (goes_named named goes) run.1)

-- A node is opened beside its crew, and then asked.
use Rattle.std.proofs.Common.{◌≡◌, ◌≢◌, ◌∙◌, inl, inr, refl, sym, ap, subst, ℕ, List, [], map}
use Rattle.std.proofs.Common.{Some, None}
use Rattle.std.proofs.Common.{Result, Ok, Err}
use Rattle.std.proofs.lemmas.List.{append-nil}
use Rattle.std.specs.Cmp.{nat_cmp_total}
use Rattle.fl_bench.specs.laws.Puts.{get_here}
use Rattle.fl_jobs.specs.declared.answer.Refusal.TheVariants.{Memory}
use Rattle.fl_store.specs.Custody.{Custody}
use Rattle.fl_store.specs.Kept.{HasNamesOnce, Kept, raised}
use Rattle.fl_makers.specs.Making.{AllowsNoMore, Making}
use Rattle.fl_system.specs.declared.answer.Fault.{Fault}
use Rattle.fl_system.specs.declared.answer.Fault.TheVariants as faults
use Rattle.fl_system.specs.declared.reply.Reply.TheVariants as replies
use Rattle.fl_system.specs.declared.sent.Sent.{Sent}
use Rattle.fl_system.specs.Joins.{Joins, joined}
use Rattle.fl_system.specs.Openings.{opened}
use Rattle.fl_system.specs.Runs.{Comes, IsReached}
use Rattle.fl_system.specs.State.{NodeState, kept_of}
use Rattle.fl_system.specs.World.{World}
use Rattle.fl_world.proofs.Reaching.{reached_on}
use Rattle.fl_calls.specs.Answer.{Answer}
use Rattle.fl_calls.specs.Entering.{Enters, OnceOpen, Openings}
use Rattle.fl_calls.specs.Over.{NotOpened, Trusts, openings_of}
use Rattle.fl_calls.proofs.Opening.{no_more_then}
use Rattle.fl_turns.specs.Answer.{said}
use Rattle.fl_turn_laws.specs.Certain.{IsSure}
use Rattle.fl_workers.specs.Over.{CrewOver}
use Rattle.fl_workers.specs.Seated.{NotOpened as CrewNotOpened, OpensCrew, seated_of}
use Rattle.fl_crew_calls.specs.Asking.{IsMade, IsNotOpened, IsSeated, OnceOpen as CrewOnce, Opens}
use Rattle.fl_crew_calls.specs.Joining.{ClashesAt, FindsAgainst, StraysAt}
use Rattle.fl_crew_calls.specs.Over.{CrewsOver, IsCrewAt, IsUnopened}
use Rattle.fl_world_laws.specs.laws.Nodes.{Now, is_new, is_old, now}
use Rattle.fl_one_worker_laws.specs.Single.{IsNodeOf}
use Rattle.fl_one_worker_calls.specs.Crews.{AreSound, IsSound}
use Rattle.fl_one_worker_calls.specs.Worlds.{Stands, packet_in}
use Rattle.fl_one_worker_calls.proofs.Places.{at_number, elsewhere}
use Rattle.fl_one_worker_calls.proofs.Serving.{stands_at}
use Rattle.fl_one_worker_scripts.proofs.Joining.{IsOpening, joins_not, joins_so, no_stray}
use Rattle.fl_one_worker_scripts.proofs.Joining.{opening_of, refused_so}
use Rattle.fl_one_worker_scripts.proofs.Standing.{no_node, placed_tied, put_still, save_alike}
use Rattle.fl_one_worker_scripts.proofs.Standing.{some_same}
use Rattle.fl_one_worker_scripts.proofs.Ties.{AreHeld, Meets, Ties}

-- what the law of one worker says of a crew that is opened
abbrev pub CrewOpens : Type 0 → Type 0
CrewOpens K =
    (crew : CrewOver K) (number : ℕ) (k k' : Kept) → crew ≡ seated_of crew.node 1
    → OpensCrew number 1 k crew k' → IsNodeOf crew (opened 1 k)

-- why nothing is made for a node is why it may not be opened
abbrev pub ToldOf : {K M : Type 0} → Making M K → Type 0
ToldOf {M} making =
    (maker : M) (number : ℕ) (fault : Fault) → making.unmade maker number fault
    → making.refuses maker number fault

-- a run leads to the world in which the node is open, or was refused
pub reached_enters : (openings : Openings) (w w' : World) (number : ℕ)
    (result : Result (Unit {0}) Fault) → IsReached w → Enters openings w number result w'
    → IsReached w'
reached_enters openings w w' number result reached (Enters.is_there at) = reached
reached_enters openings w w' number result reached (Enters.joins {k} {boot} none found step) =
    reached_on w w' (Comes number k) (replies.Booted boot) reached step
reached_enters openings w w' number result reached (Enters.is_refused none why) = reached

module _ {K M : Type 0} (custody : Custody K) (making : Making M K) where
  -- ---- what a crew was opened over

  pub record OpenedOver (crews : CrewsOver K M) (number : ℕ) (keeper : K) (crew : CrewOver K)
      : Type 0 where
    pub kept : Kept
    pub left : Kept
    pub honest : custody.is_honest keeper
    pub held : custody.may_hold keeper kept
    pub found : making.finds crews.maker number kept
    pub opens : OpensCrew number crews.workers kept crew left
    pub is : IsOpening number kept crew.node.node left

  pub opened_over : (crews : CrewsOver K M) (number : ℕ) (keeper : K) (crew : CrewOver K)
      → IsMade custody making crews.maker number keeper
      → IsSeated custody number crews.workers keeper crew → Trusts custody crew.node.keeper
      → OpenedOver crews number keeper crew
  opened_over crews number keeper crew made seated trusts =
      let before = seated.opens trusts.honest in
      let over = before.1 trusts.kept trusts.held in
      record {
        kept = over.0;
        left = trusts.kept;
        honest = before.0;
        held = over.1;
        found = made.finds before.0 over.0 over.1;
        opens = over.2;
        is = opening_of number over.0 crew.node.node trusts.kept over.2.opens;
      }

  -- such a crew is sound
  opened_sound : (crews : CrewsOver K M) (number : ℕ) (keeper : K) (crew : CrewOver K)
      → IsMade custody making crews.maker number keeper
      → IsSeated custody number crews.workers keeper crew → Trusts custody crew.node.keeper
      → IsSound custody crew
  opened_sound crews number keeper crew made seated trusts =
      let over = opened_over crews number keeper crew made seated trusts in
      record {
        runs = ap (λ (c : CrewOver K). c.stopped) seated.seated;
        idle = ap (λ (c : CrewOver K). c.due) seated.seated;
        trusts = trusts;
        listed = record {
          state = ap (λ (n : NodeState). n.state) over.is.node_is;
          published =
              sym (ap (λ (c : CrewOver K). c.list) seated.seated) ∙ sym (append-nil crew.list);
        };
      }

  -- and what its keeper may hold is what its node has saved
  opened_held : (number workers : ℕ) (keeper : K) (crew : CrewOver K)
      → IsSeated custody number workers keeper crew → custody.is_honest crew.node.keeper
      → (k : Kept) → custody.may_hold crew.node.keeper k → k ≡ kept_of crew.node.node
  opened_held number workers keeper crew seated honest k held =
      let over = (seated.opens honest).1 k held in
      let it = opening_of number over.0 crew.node.node k over.2.opens in
      it.up ∙ sym (ap (λ (n : NodeState). kept_of n) it.node_is)

  -- ---- the crews before an opening and behind it

  pub still_there : (old : CrewsOver K M) (number : ℕ) (result : Result (Unit {0}) Fault)
      (new : CrewsOver K M) → Opens custody making old number result new → (q : ℕ)
      (crew : CrewOver K) → IsCrewAt old q crew → IsCrewAt new q crew
  still_there old number result new (Opens.is_open at) q crew there = there
  still_there old number result new
      (Opens.opened {crew = its} none made allows seated names against) q crew there =
      put_still old number its none q crew there
  still_there old number result new (Opens.contradicts none made allows seated against) q crew
      there = there
  still_there old number result new (Opens.shut none allows why) q crew there = there

  pub sound_before : (old : CrewsOver K M) (number : ℕ) (result : Result (Unit {0}) Fault)
      (between : CrewsOver K M)
      → Opens custody making old number result between → AreSound custody between
      → AreSound custody old
  sound_before old number result between opens sound =
      λ q crew at. sound q crew (still_there old number result between opens q crew at)

  pub sound_between : (old : CrewsOver K M) (number : ℕ) (result : Result (Unit {0}) Fault)
      (between : CrewsOver K M) → AreSound custody old
      → Opens custody making old number result between
      → ((crew : CrewOver K) → IsCrewAt between number crew → Trusts custody crew.node.keeper)
      → AreSound custody between
  sound_between old number result between sound (Opens.is_open at) trusts = sound
  sound_between old number result between sound
      (Opens.opened {keeper} {crew} none made allows seated names against) trusts =
      λ q its at. by_now q its (now old.crews number (Some crew) q (Some its) at)
    where
      it : IsSound custody crew
      it =
          opened_sound old number keeper crew made seated
          (trusts crew (get_here nat_cmp_total old.crews number (Some crew)))

      by_now : (q : ℕ) (its : CrewOver K) → Now old.crews number (Some crew) q (Some its)
          → IsSound custody its
      by_now q its (is_new is same) =
          subst (λ (c : CrewOver K). IsSound custody c) (some_same crew its same) it
      by_now q its (is_old other at) = sound q its at
  sound_between old number result between sound
      (Opens.contradicts none made allows seated against) trusts = sound
  sound_between old number result between sound (Opens.shut none allows why) trusts = sound

  -- so it is where the keeper of the crew that is opened is honest
  pub held_between : (old : CrewsOver K M) (number : ℕ) (result : Result (Unit {0}) Fault)
      (between : CrewsOver K M) → AreHeld custody old
      → Opens custody making old number result between
      → ((crew : CrewOver K) → IsCrewAt between number crew → Trusts custody crew.node.keeper)
      → AreHeld custody between
  held_between old number result between held (Opens.is_open at) trusts = held
  held_between old number result between held
      (Opens.opened {keeper} {crew} none made allows seated names against) trusts =
      λ q its at. by_now q its (now old.crews number (Some crew) q (Some its) at)
    where
      it : (k : Kept) → custody.may_hold crew.node.keeper k → k ≡ kept_of crew.node.node
      it =
          opened_held number old.workers keeper crew seated
          (trusts crew (get_here nat_cmp_total old.crews number (Some crew))).honest

      by_now : (q : ℕ) (its : CrewOver K) → Now old.crews number (Some crew) q (Some its)
          → (k : Kept) → custody.may_hold its.node.keeper k → k ≡ kept_of its.node.node
      by_now q its (is_new is same) =
          subst (λ (c : CrewOver K). (k : Kept) → custody.may_hold c.node.keeper k
          → k ≡ kept_of c.node.node) (some_same crew its same) it
      by_now q its (is_old other at) = held q its at
  held_between old number result between held
      (Opens.contradicts none made allows seated against) trusts = held
  held_between old number result between held (Opens.shut none allows why) trusts = held

  pub opens_held : (old : CrewsOver K M) (number : ℕ) (result : Result (Unit {0}) Fault)
      (new : CrewsOver K M) → AreHeld custody old → AreSound custody new
      → Opens custody making old number result new
      → AreHeld custody new
  opens_held old number result new held sound opens =
      held_between old number result new held opens (λ crew at. (sound number crew at).trusts)

  -- ---- where a node is opened, and then something is done

  module _ (old : CrewsOver K M) (number : ℕ)
      (does : CrewsOver K M → Answer → CrewsOver K M → Type 0) where
    -- what may be trusted in between might have been before
    pub once_trusts : (answer : Answer) (new : CrewsOver K M) (other : ℕ) → AreSound custody new
        → ((between : CrewsOver K M) → does between answer new → (crew : CrewOver K)
        → IsCrewAt between other crew → Trusts custody crew.node.keeper)
        → CrewOnce custody making old number does answer new → (crew : CrewOver K)
        → IsCrewAt old other crew → Trusts custody crew.node.keeper
    once_trusts answer new other sound trusts (CrewOnce.shut {fault} opens) crew at =
        (sound other crew (still_there old number (Err fault) new opens other crew at)).trusts
    once_trusts answer new other sound trusts (CrewOnce.opened {between} opens done) crew at =
        trusts between done crew (still_there old number (Ok tt) between opens other crew at)

    -- and what is held in between is held in the end
    pub once_held : (answer : Answer) (new : CrewsOver K M) → AreHeld custody old
        → AreSound custody new
        → ((between : CrewsOver K M) → does between answer new → (crew : CrewOver K)
        → IsCrewAt between number crew → Trusts custody crew.node.keeper)
        → ((between : CrewsOver K M) → AreHeld custody between → does between answer new
        → AreHeld custody new)
        → CrewOnce custody making old number does answer new → AreHeld custody new
    once_held answer new held sound trusts holds (CrewOnce.shut {fault} opens) =
        opens_held old number (Err fault) new held sound opens
    once_held answer new held sound trusts holds (CrewOnce.opened {between} opens done) =
        holds between (held_between old number (Ok tt) between held opens
        (trusts between done)) done

module _ {K M : Type 0} (custody : Custody K) (making : Making M K) (told : ToldOf making)
    (crew_opens : CrewOpens K) (maker : M) where
  -- ---- the node is open

  -- over what its crew was opened over
  joins_too : (crews : CrewsOver K M) (w : World) (number : ℕ) (keeper : K) (crew : CrewOver K)
      → Ties custody making maker crews w → IsSeated custody number crews.workers keeper crew
      → (over : OpenedOver custody making crews number keeper crew)
      → Stands (joined w number over.kept) number crew
  joins_too crews w number keeper crew ties seated over =
      let desks = ties.stands.desks in
      let workers = ties.stands.workers in
      record {
        place = record { node = opened w.desks over.kept; kept = raised over.kept };
        there = at_number w number (opened w.desks over.kept) (raised over.kept) [] [];
        is_node =
            subst (λ (d : ℕ). IsNodeOf crew (opened d over.kept)) (sym desks)
            (crew_opens crew number over.kept over.left
            (subst (λ (d : ℕ). crew ≡ seated_of crew.node d) workers seated.seated)
            (subst (λ (d : ℕ). OpensCrew number d over.kept crew over.left) workers over.opens));
        kept = refl;
      }

  pub opens_ok : (crews : CrewsOver K M) (w : World) (number : ℕ) (new : CrewsOver K M)
      → Ties custody making maker crews w → AreSound custody new
      → Opens custody making crews number (Ok tt) new
      → Meets making maker (λ w'. Enters (openings_of custody making maker) w number (Ok tt) w') new
  opens_ok crews w number new ties sound (Opens.is_open {crew} at) = record {
    world = w;
    steps = Enters.is_there (stands_at crews w number crew ties.stands at).there;
    stands = ties.stands;
    allows = ties.allows;
  }
  opens_ok crews w number new ties sound
      (Opens.opened {keeper} {crew} {maker = left} none made allows seated names against) =
      let here = get_here nat_cmp_total crews.crews number (Some crew) in
      let over =
      opened_over custody making crews number keeper crew made seated
      (sound number crew here).trusts in
      let free = no_node crews w (save_alike crews w ties.stands) number none in
      record {
        world = joined w number over.kept;
        steps =
            Enters.joins free (ties.allows.finds number over.kept over.found)
            (joins_so crews w (save_alike crews w ties.stands)
            (no_stray w ties.reached) number over.kept free over.is.own
            over.is.low (subst (λ (n : NodeState). HasNamesOnce n.saved) over.is.node_is names)
            (subst (λ (n : NodeState). FindsAgainst (ClashesAt crews n.saved)
            (StraysAt crews number n.saved) None) over.is.node_is against));
        stands =
            placed_tied crews w (joined w number over.kept) number crew left ties.stands
            (joins_too crews w number keeper crew ties seated over)
            (elsewhere w number (opened w.desks over.kept) (raised over.kept) [] [])
            (ap (λ (l : List Sent). map packet_in l) (append-nil w.packets));
        allows = no_more_then custody making maker crews.maker left ties.allows allows;
      }

  -- ---- the node is not opened

  not_entered : (crews : CrewsOver K M) (w : World) (number : ℕ) (fault : Fault) (left : M)
      → Ties custody making maker crews w → IsUnopened crews number
      → AllowsNoMore making crews.maker left → NotOpened custody making maker w number fault
      → Meets making maker
      (λ w'. Enters (openings_of custody making maker) w number (Err fault) w')
      (record crews { maker = left })
  not_entered crews w number fault left ties none allows why =
      let stands = ties.stands in
      record {
        world = w;
        steps = Enters.is_refused (no_node crews w (save_alike crews w stands) number none) why;
        stands = record {
          desks = stands.desks;
          workers = stands.workers;
          nodes = stands.nodes;
          packets = stands.packets;
        };
        allows = no_more_then custody making maker crews.maker left ties.allows allows;
      }

  -- it and the open ones contradict each other
  contradicted : (crews : CrewsOver K M) (w : World) (number : ℕ) (fault : Fault) (keeper : K)
      (crew : CrewOver K) → Ties custody making maker crews w → IsUnopened crews number
      → fault ≢ faults.KeeperFailed → IsMade custody making crews.maker number keeper
      → IsSeated custody number crews.workers keeper crew
      → FindsAgainst (ClashesAt crews crew.node.node.saved)
      (StraysAt crews number crew.node.node.saved) (Some fault)
      → NotOpened custody making maker w number fault
  contradicted crews w number fault keeper crew ties none works made seated against =
      NotOpened.not_joined keeper crew.node.keeper (ties.allows.makes number keeper made.makes)
      works
      (λ trusted.
      let over = opened_over custody making crews number keeper crew made seated trusted in (
        over.honest,
        over.kept,
        over.held,
        ties.allows.finds number over.kept over.found,
        joins_not crews w (save_alike crews w ties.stands)
            (no_stray w ties.reached) number over.kept
            (no_node crews w (save_alike crews w ties.stands) number none) over.is.own over.is.low
            fault
            (subst (λ (n : NodeState). FindsAgainst (ClashesAt crews n.saved)
            (StraysAt crews number n.saved) (Some fault)) over.is.node_is against),
      ))

  -- its keeper was made, and its crew is not opened
  crew_shut : (crews : CrewsOver K M) (w : World) (number : ℕ) (fault : Fault) (keeper : K)
      → Ties custody making maker crews w → IsUnopened crews number
      → fault ≢ faults.Refused Memory → fault ≢ faults.KeeperFailed
      → IsMade custody making crews.maker number keeper
      → CrewNotOpened custody number keeper fault
      → NotOpened custody making maker w number fault
  crew_shut crews w number fault keeper ties none some works made (inl is) = absurd (some is)
  crew_shut crews w number fault keeper ties none some works made (inr why) =
      NotOpened.not_joined keeper why.0 (ties.allows.makes number keeper made.makes) works
      (λ trusted.
      let before = why.2 trusted.honest in
      let over = before.1 trusted.kept trusted.held in (
        before.0,
        over.0,
        over.1,
        ties.allows.finds number over.0 (made.finds before.0 over.0 over.1),
        Joins.not_opened (no_node crews w (save_alike crews w ties.stands) number none)
            (refused_so w.desks number over.0 fault trusted.kept over.2),
      ))

  shut_for : (crews : CrewsOver K M) (w : World) (number : ℕ) (fault : Fault)
      → Ties custody making maker crews w → IsUnopened crews number
      → fault ≢ faults.Refused Memory → fault ≢ faults.KeeperFailed
      → IsNotOpened custody making crews.maker number fault
      → NotOpened custody making maker w number fault
  shut_for crews w number fault ties none some works (IsNotOpened.unmade why) =
      NotOpened.without_keeper (told maker number fault (ties.allows.unmade number fault why))
  shut_for crews w number fault ties none some works (IsNotOpened.not_opened {keeper} made why) =
      crew_shut crews w number fault keeper ties none some works made why
  shut_for crews w number fault ties none some works IsNotOpened.no_room = absurd (some refl)

  pub opens_err : (crews : CrewsOver K M) (w : World) (number : ℕ) (fault : Fault)
      (new : CrewsOver K M) → Ties custody making maker crews w → fault ≢ faults.Refused Memory
      → fault ≢ faults.KeeperFailed → AreSound custody new
      → Opens custody making crews number (Err fault) new
      → Meets making maker
      (λ w'. Enters (openings_of custody making maker) w number (Err fault) w') new
  opens_err crews w number fault new ties some works sound
      (Opens.contradicts {keeper} {crew} {maker = left} none made allows seated against) =
      not_entered crews w number fault left ties none allows
      (contradicted crews w number fault keeper crew ties none works made seated against)
  opens_err crews w number fault new ties some works sound
      (Opens.shut {maker = left} none allows why) =
      not_entered crews w number fault left ties none allows
      (shut_for crews w number fault ties none some works why)

  -- ---- and then something is done

  pub once_open : (old : CrewsOver K M) (w : World) (number : ℕ)
      (does : CrewsOver K M → Answer → CrewsOver K M → Type 0)
      (plain : World → Answer → World → Type 0) (answer : Answer) (new : CrewsOver K M)
      → Ties custody making maker old w → IsSure (said answer) → AreSound custody new
      → ((between : CrewsOver K M) → does between answer new → (crew : CrewOver K)
      → IsCrewAt between number crew → Trusts custody crew.node.keeper)
      → ((between : CrewsOver K M) (v : World) → Ties custody making maker between v
      → does between answer new → Meets making maker (λ w'. plain v answer w') new)
      → CrewOnce custody making old number does answer new
      → Meets making maker
      (λ w'. OnceOpen (openings_of custody making maker) w number plain answer w') new
  once_open old w number does plain answer new ties sure sound trusts steps
      (CrewOnce.shut {fault} opens) =
      let it =
      opens_err old w number fault new ties
      (λ is. sure.memory (ap (λ (f : Fault). replies.Refused f) is))
      (λ is. sure.keeper (ap (λ (f : Fault). replies.Refused f) is)) sound opens in
      record {
        world = it.world;
        steps = OnceOpen.shut it.steps;
        stands = it.stands;
        allows = it.allows;
      }
  once_open old w number does plain answer new ties sure sound trusts steps
      (CrewOnce.opened {between} opens done) =
      let now_sound =
      sound_between custody making old number (Ok tt) between ties.sound opens
      (trusts between done) in
      let first = opens_ok old w number between ties now_sound opens in
      let then_ =
      steps between first.world
      (record {
        stands = first.stands;
        sound = now_sound;
        held =
            held_between custody making old number (Ok tt) between ties.held opens
            (trusts between done);
        allows = first.allows;
        reached =
            reached_enters (openings_of custody making maker) w first.world number (Ok tt)
            ties.reached first.steps;
      }) done in
      record {
        world = then_.world;
        steps = OnceOpen.opened first.steps then_.steps;
        stands = then_.stands;
        allows = then_.allows;
      }

-- What is granted in the world that machines are is granted among them.
use Rattle.std.proofs.Common.{◌≡◌, ◌∙◌, ℕ, suc, List, [], ◌∷◌, slice_get, Some, sym, ap}
use Rattle.std.proofs.Common.{subst}
use Rattle.fl_labels.specs.Found.{Within}
use Rattle.fl_labels.specs.declared.cap.Cap.{Cap}
use Rattle.fl_labels.specs.declared.cap.Cap.TheVariants.{Plus, Minus, Use, Grow}
use Rattle.fl_labels.specs.declared.pid.Pid.{Pid}
use Rattle.fl_ops.specs.declared.op.Op.{Op}
use Rattle.fl_ops.specs.laws.Reaching.{eff_more}
use Rattle.fl_message.specs.declared.message.Data.{Data}
use Rattle.fl_jobs.specs.declared.answer.Reply.{Reply as JobReply}
use Rattle.fl_jobs.specs.declared.job.Act.{Act as AnyAct}
use Rattle.fl_jobs.specs.declared.job.Job.{Job as AnyJob}
use Rattle.fl_jobs.specs.declared.job.Job.TheVariants.{By}
use Rattle.fl_bench.specs.declared.process.Process.{Process}
use Rattle.fl_bench.specs.laws.Puts.{same_found}
use Rattle.fl_system.specs.declared.reply.Reply.{Reply}
use Rattle.fl_system.specs.declared.reply.Reply.TheVariants.{Job as Answered, Sent as HasSent}
use Rattle.fl_system.specs.declared.sent.Sent.{Sent}
use Rattle.fl_system.specs.Processes.{process_of}
use Rattle.fl_system.specs.Runs.{Moment, IsReached}
use Rattle.fl_system.specs.Taint.{Lives, world_at}
use Rattle.fl_system.specs.Union.{Union}
use Rattle.fl_system.specs.World.{World, KeptNode, empty_world}
use Rattle.fl_system.specs.WorldSteps.{IsAt}
use Rattle.fl_history_laws.specs.Doing.{IsDone, IsPublished}
use Rattle.fl_history_laws.specs.Seats.{IsOfNode}
use Rattle.fl_history_laws.specs.Sent.{Sends as SendsIn}
use Rattle.fl_authority_laws.specs.Authority.{Bearer, Living, Written, Has, IsFree, IsGranted}
use Rattle.fl_authority_laws.specs.Authority.{IsOrdered}
use Rattle.fl_machine_model.specs.Acts.{Act, Job, in_world}
use Rattle.fl_machine_model.specs.Acts.{Sends as SendsOut}
use Rattle.fl_machine_model.specs.Machines.{Machines, Deed, Acts, Happens, Turn, AreTurns}
use Rattle.fl_machine_model.specs.Machines.{no_machine}
use Rattle.fl_machine_laws.specs.OneRun.{next_of, IsMomentOf}
use Rattle.fl_machine_laws.specs.Places.{IsUp, LivesOn}
use Rattle.fl_machine_laws.specs.Taint.{machines_at, IsSendingOn}
use Rattle.fl_machine_laws.specs.Authority.{SavedByRunning, HasBy, HasOn, IsJobOn, IsMakingOn}
use Rattle.fl_machine_laws.specs.Authority.{IsOrderingOn, IsGrantedOn}
use Rattle.fl_machine_laws.proofs.Deeds.{Follows, AllGo}
use Rattle.fl_machine_laws.proofs.Doers.{IsMomentAt, turn_of, IsActOf, job_deed, publish_deed}
use Rattle.fl_machine_laws.proofs.Doers.{IsQuiet, said_quietly, quiet_deed, arrival_deed, doer}
use Rattle.fl_machine_laws.proofs.Doers.{sends_one, first_deed, none_brought}
use Rattle.fl_machine_laws.proofs.Guarding.{happens_at, Acted, acted}
use Rattle.fl_machine_laws.proofs.Safer.{effective_more}
use Rattle.fl_machine_laws.proofs.Tainting.{follows_at}
use Rattle.fl_machine_laws.proofs.Together.{at_up, union_saved, lives_in}

pub free_more : {U V : Op → Type 0} → Within U V → (c : Cap) → IsFree U c → IsFree V c
free_more more (Plus tag) h = more _ h
free_more more (Minus tag) h = more _ h
free_more more (Use group) h = absurd h
free_more more (Grow group) h = absurd h

-- ---- who has a capability

module _ {m : Machines} {w : World} (f : Follows m w) (pid : Pid) (c : Cap) where
  running_saved : Within (SavedByRunning m) (Union w)
  running_saved op (number, s, up, h) = (number, s, at_up f number s up, h)

  pub has_in : HasBy (SavedByRunning m) m pid c → Has w pid c
  has_in has =
      record {
        process = has.process;
        lives = lives_in f pid has.process has.lives;
        able = eff_more running_saved (λ d h. h) c has.able;
      }

  -- who lives where the machine runs
  lives_up : (s : KeptNode) → IsUp m pid.node s → (p : Process) → Lives w pid p → LivesOn m pid p
  lives_up s up p lives =
      record {
        node = s;
        up = up;
        stands =
            subst (λ (y : KeptNode). process_of y.node pid ≡ Some p)
            (same_found lives.there (at_up f pid.node s up)) lives.stands;
      }

  pub has_on : (s : KeptNode) → IsUp m pid.node s → Has w pid c → HasOn m pid c
  has_on s up has =
      record {
        process = has.process;
        lives = lives_up s up has.process has.lives;
        able = effective_more (union_saved f) has.process c has.able;
      }

  pub ordering_on : (s : KeptNode) → IsUp m pid.node s → {t : Turn} {x : Moment} {op : Op}
      → IsMomentOf m t x → IsOrdered w x.move x.reply pid op → IsOrderingOn m t pid op
  ordering_on s up is ordered =
      record {
        order = ordered.order;
        done = record {
          desk = ordered.done.desk;
          upto = ordered.done.upto;
          is = quiet_deed (job_deed is.move_is ordered.done.move_is) ordered.answered tt;
        };
        body_is = ordered.body_is;
        process = ordered.process;
        lives = lives_up s up ordered.process ordered.lives;
        takes =
            λ d h. effective_more (union_saved f) ordered.process d (ordered.takes d h);
      }

-- ---- at one turn

-- the law of pids, as it is known here
abbrev pub HaveOwnNode : Type 0
HaveOwnNode =
    (w : World) (number : ℕ) (s : KeptNode) (pid : Pid) (p : Process) → IsReached w
    → IsAt w number s → process_of s.node pid ≡ Some p → IsOfNode w number s pid

module _ (desks : ℕ) (ts : List Turn) (are : AreTurns (no_machine desks) ts) (xs : List Moment)
    (all : AllGo (no_machine desks) (empty_world desks) ts xs) (own : HaveOwnNode) where
  abbrev On : ℕ → Machines
  On i = machines_at (no_machine desks) ts i

  abbrev At : ℕ → World
  At i = world_at (empty_world desks) xs i

  abbrev Granted : ℕ → Bearer → Cap → Type 0
  Granted i b c = IsGrantedOn (no_machine desks) ts i b c

  follow : (i : ℕ) → Follows (On i) (At i)
  follow i = follows_at (no_machine desks) (empty_world desks) ts xs all i

  turn_at : (i : ℕ) {x : Moment} → slice_get xs i ≡ Some x → IsMomentAt (no_machine desks) ts i x
  turn_at i {x} at = turn_of (no_machine desks) (empty_world desks) ts xs all i x at

  -- what the machine of the turn did
  did : (i : ℕ) {number : ℕ} {act : Act} {x : Moment} (r : IsMomentAt (no_machine desks) ts i x)
      → (a : IsActOf r.turn.deed (next_of (On i)) number act x.reply)
      → Acted (On i) number act a.saying (On (suc i))
  did i r a =
      acted (subst (λ (d : Deed). Happens (On i) d (On (suc i))) a.deed_is
      (happens_at (no_machine desks) ts are i r.turn r.there))

  job_is : (i : ℕ) {number : ℕ} {job : AnyJob} {x : Moment} {reply : Reply}
      (r : IsMomentAt (no_machine desks) ts i x) → (d : IsDone (At i) x.move number job)
      → x.reply ≡ reply → IsQuiet reply → IsJobOn r.turn number job reply
  job_is i r d is quiet =
      record {
        desk = d.desk;
        upto = d.upto;
        is = quiet_deed (job_deed r.is.move_is d.move_is) is quiet;
      }

  -- of a job the machine runs
  pub record RunsAt (i number : ℕ) : Type 0 where
    pub s : KeptNode
    pub up : IsUp (On i) number s

  runs_at : (i : ℕ) {number : ℕ} {job : AnyJob} {x : Moment}
      (r : IsMomentAt (no_machine desks) ts i x) → IsDone (At i) x.move number job
      → RunsAt i number
  runs_at i r d =
      let a = did i r (job_deed r.is.move_is d.move_is) in record { s = a.s; up = a.up }

  making_on : (i : ℕ) {x : Moment} {pid : Pid} {op : Op}
      (r : IsMomentAt (no_machine desks) ts i x) → IsPublished (At i) x.move x.reply pid op
      → IsMakingOn (On i) r.turn pid op
  making_on i {pid = pid} {op} r p =
      let d = publish_deed r.is.move_is p.move_is in
      let a = did i r d in
      record {
        s = p.s;
        up =
            subst (λ (y : KeptNode). IsUp (On i) pid.node y)
            (same_found (at_up (follow i) pid.node a.s a.up) p.at) a.up;
        desk = p.desk;
        due = p.due;
        is = quiet_deed d p.answered tt;
      }

  -- who does a job that is answered runs there
  doer_runs : (i : ℕ) {number : ℕ} {pid : Pid} {act : AnyAct} {x : Moment} {reply : JobReply}
      (r : IsMomentAt (no_machine desks) ts i x) → IsDone (At i) x.move number (By pid act)
      → x.reply ≡ Answered reply → RunsAt i pid.node
  doer_runs i {number} {pid} r d is =
      let deed = job_deed r.is.move_is d.move_is in
      let a = did i r deed in
      let it = doer a.step (a.says ∙ said_quietly _ deed.saying (deed.said ∙ is) tt) in
      let of = own (At i) number a.s pid it.process (follow i).reached
      (at_up (follow i) number a.s a.up) it.stands in
      record { s = a.s; up = subst (λ n. IsUp (On i) n a.s) (sym of.node_is) a.up }

  sending_on : (i : ℕ) {packet : ℕ} {sent : Sent} {d : Data} {x : Moment}
      (r : IsMomentAt (no_machine desks) ts i x) → SendsIn (At i) x.move sent d
      → x.reply ≡ HasSent packet 1 → IsSendingOn (On i) r.turn d.sender packet
  sending_on i {packet} {d = d} r sends said =
      let deed = job_deed r.is.move_is sends.done.move_is in
      let a = did i r deed in
      let one = sends_one a.step (ap (in_world (next_of (On i))) a.says ∙ deed.said ∙ said) in
      record {
        number = d.sender.node;
        desk = sends.done.desk;
        upto = sends.done.upto;
        from = d.from;
        receiver = d.receiver;
        to = d.to;
        message = d.message;
        what = one.what;
        is =
            deed.deed_is
            ∙ ap (Acts d.sender.node (Job sends.done.desk sends.done.upto sends.job))
            (sym a.says ∙ one.says)
            ∙ ap (λ j. Acts d.sender.node (Job sends.done.desk sends.done.upto j)
            (SendsOut (one.what ∷ []))) sends.sending.asked;
        number_is = one.number_is;
      }

  -- ---- grants

  pub granted_on : (i : ℕ) (b : Bearer) (c : Cap) → IsGranted (empty_world desks) xs i b c
      → Granted i b c
  unfolding sending_on
  granted_on (suc i) b c (IsGranted.makes at published gives) =
      let r = turn_at i at in IsGrantedOn.makes r.there (making_on i r published) gives
  granted_on (suc i) b c (IsGranted.later granted) = IsGrantedOn.later (granted_on i b c granted)
  granted_on (suc i) b c (IsGranted.born {parent = parent} granted has at done said inside) =
      let r = turn_at i at in
      let up = doer_runs i r done said in
      IsGrantedOn.born (granted_on i (Living parent) c granted)
      (has_on (follow i) parent c up.s up.up has) r.there (job_is i r done said tt) inside
  granted_on (suc j) b c (IsGranted.received {i = i} {d = d} {pid = pid} granted has at before at'
      brings sends said inside its came) =
      let r = turn_at i at in
      let q = turn_at j at' in
      let up = runs_at i r sends.done in
      IsGrantedOn.received (granted_on i (Living d.sender) c granted)
      (has_on (follow i) d.sender c up.s up.up has) r.there (sending_on i r sends said) before
      q.there
      (record { number = pid.node; is = arrival_deed q.is.move_is brings.move_is came }) its inside
  granted_on (suc i) b c (IsGranted.entered granted saved at done said) =
      let r = turn_at i at in
      IsGrantedOn.entered (granted_on i (Written _) c granted) (union_saved (follow i) _ saved)
      r.there (job_is i r done said tt)
  granted_on i b c (IsGranted.uses {op = op} {group} user granted saved puts) =
      IsGrantedOn.uses (granted_on i b (Use group) user) (granted_on i (Written op) c granted)
      (union_saved (follow i) op saved) puts
  granted_on i b c (IsGranted.opened {op = op} granted saved is) =
      IsGrantedOn.opened (granted_on i (Written op) c granted) (union_saved (follow i) op saved) is
  granted_on (suc i) b c (IsGranted.ordered {pid = pid} granted has at order hands) =
      let r = turn_at i at in
      let up = runs_at i r order.done in
      IsGrantedOn.ordered (granted_on i (Living pid) c granted)
      (has_on (follow i) pid c up.s up.up has) r.there
      (ordering_on (follow i) pid c up.s up.up r.is order) hands
  granted_on (suc i) b c (IsGranted.brought {op = op} at is joins inside hands) =
      let r = turn_at i at in
      let first = first_deed r.is.move_is is in
      absurd (none_brought first.free
      (subst (λ (d : Deed). Happens (On i) d (On (suc i))) first.deed_is
      (happens_at (no_machine desks) ts are i r.turn r.there)) joins op inside)

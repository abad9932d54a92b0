-- What a line asks of crews is a run of the world.
use Rattle.std.proofs.Common.{◌≡◌, ◌∙◌, ◌++◌, ℕ, List, Some, Ok, Err, sym, ap, subst}
use Rattle.fl_calls.specs.Answer.{Answer as Said}
use Rattle.fl_calls.specs.Over.{Trusts}
use Rattle.fl_crew_calls.specs.Asking.{ChecksAt, Comes, DeliversAt, OnceOpen, RestartsAt, TellsAt, TellsText, Unites}
use Rattle.fl_crew_calls.specs.Calls.{AsksCrew, Delivers, IsNone, RespondsTo}
use Rattle.fl_crew_calls.specs.Over.{CrewsOver, IsCrewAt}
use Rattle.fl_makers.specs.Making.{Making}
use Rattle.fl_script.specs.declared.line.Line.{Line}
use Rattle.fl_script.specs.declared.line.Line.TheVariants.{Aliases, Audit, Node, Union}
use Rattle.fl_script.specs.declared.request.Request.{Request}
use Rattle.fl_script.specs.declared.request.Request.TheVariants.{Job, Begin, Deliver, BeginDeliver, Tell, Save, Publish, Cancel, Restart, Text, Check}
use Rattle.fl_store.specs.Custody.{Custody}
use Rattle.fl_system.specs.declared.reply.Reply.{Reply}
use Rattle.fl_system.specs.declared.sent.Sent.{Sent}
use Rattle.fl_system.specs.Numbered.{item_at}
use Rattle.fl_system.specs.Runs.{IsReached, IsRun, end}
use Rattle.fl_system.specs.World.{World, empty_world}
use Rattle.fl_system_laws.specs.laws.Going.{item_there}
use Rattle.fl_turns.specs.laws.Leads.{ends_on, runs_on}
use Rattle.fl_wire.specs.declared.packet.Packet.{Packet}
use Rattle.fl_workers.specs.Over.{CrewOver}
use Rattle.fl_one_worker_calls.specs.Crews.{AreSound}
use Rattle.fl_crew_world_laws.specs.Standing.{RunsTo}
use Rattle.fl_crew_world_laws.proofs.Opening.{opens_go}
use Rattle.fl_crew_world_laws.proofs.Restarting.{restarts_go}
use Rattle.fl_crew_world_laws.proofs.Telling.{number_of, tells_go}
use Rattle.fl_crew_world_laws.proofs.Ties.{Goes, Ties, rests}
use Rattle.fl_one_worker_scripts.specs.Alike.{LeavesWell}
use Rattle.fl_one_worker_scripts.proofs.Delivering.{delivers_trusts}
use Rattle.fl_one_worker_scripts.proofs.Opening.{held_between, once_trusts, sound_between}
use Rattle.fl_one_worker_scripts.proofs.Responding.{Behind, behind, sent_still}
use Rattle.fl_one_worker_scripts.proofs.Restarting.{restarts_trusts}
use Rattle.fl_one_worker_scripts.proofs.Telling.{tells_trusts}
use Rattle.fl_one_worker_scripts.proofs.Texts.{checks_trusts, texts_trusts, unites_trusts}

pub run_reached : (w w' : World) → IsReached w → RunsTo w w' → IsReached w'
run_reached w w' reached run = record {
  desks = reached.desks;
  moments = reached.moments ++ run.moments;
  is_run = runs_on (empty_world reached.desks) reached.moments run.moments reached.is_run
      (subst (λ v. IsRun v run.moments) (sym reached.leads) run.is_run);
  leads = ends_on (empty_world reached.desks) reached.moments run.moments
      ∙ (ap (λ v. end v run.moments) reached.leads ∙ run.leads);
}

pub run_then : (u v w : World) → RunsTo u v → RunsTo v w → RunsTo u w
run_then u v w first second = record {
  moments = first.moments ++ second.moments;
  is_run = runs_on u first.moments second.moments first.is_run
      (subst (λ x. IsRun x second.moments) (sym first.leads) second.is_run);
  leads = ends_on u first.moments second.moments
      ∙ (ap (λ x. end x second.moments) first.leads ∙ second.leads);
}

pub goes_on : {K M : Type 0} (w : World) (mid new : CrewsOver K M) (first : Goes w mid)
    → Goes first.world new → Goes w new
goes_on w mid new first later = record {
  world = later.world;
  run = run_then w first.world later.world first.run later.run;
  stands = later.stands;
}

-- what a packet that is no window does to a crew is a run of the world
abbrev pub PacketGoes : {K : Type 0} → (M : Type 0) → Custody K → Type 0
PacketGoes {K} M custody =
    (between : CrewsOver K M) (v : World) (number index : ℕ) (sent : Sent) (reply : Reply)
    (new : CrewsOver K M) → AreSound custody new → Ties custody between v
    → item_at v.packets index ≡ Some sent → Comes custody between number sent.packet reply new
    → Goes v new

module _ {K M : Type 0} (custody : Custody K) (making : Making M K)
    (packet_goes : PacketGoes M custody) where
  once_goes : (old : CrewsOver K M) (w : World) (number : ℕ)
      (does : CrewsOver K M → Said → CrewsOver K M → Type 0) (what : Said) (new : CrewsOver K M)
      → LeavesWell custody new → Ties custody old w
      → ((between : CrewsOver K M) → does between what new → (crew : CrewOver K)
      → IsCrewAt between number crew → Trusts custody crew.node.keeper)
      → ((between : CrewsOver K M) (v : World) → Ties custody between v → does between what new
      → Goes v new)
      → OnceOpen custody making old number does what new → Goes w new
  once_goes old w number does what new well ties trusts steps (OnceOpen.shut {fault} opens) =
      opens_go custody making old w number (Err fault) new ties well.sound opens
  once_goes old w number does what new well ties trusts steps
      (OnceOpen.opened {between = between} opens done) =
      let good =
      sound_between custody making old number (Ok tt) between ties.sound opens
      (trusts between done) in
      let first = opens_go custody making old w number (Ok tt) between ties good opens in
      goes_on w between new first
      (steps between first.world
      (record {
        stands = first.stands;
        sound = good;
        held =
            held_between custody making old number (Ok tt) between ties.held opens
            (trusts between done);
        reached = run_reached w first.world ties.reached first.run;
      }) done)

  text_goes : (between : CrewsOver K M) (v : World) (number : ℕ) (what : Said)
      (new : CrewsOver K M) → Ties custody between v → TellsText between number what new
      → Goes v new
  text_goes between v number what new ties (TellsText.tells at serves) = rests v between ties.stands
  text_goes between v number what new ties (TellsText.stopped at not) = rests v between ties.stands
  text_goes between v number what new ties (TellsText.no_room at serves some) =
      rests v between ties.stands

  check_goes : (between : CrewsOver K M) (v : World) (number : ℕ) (bytes : List ℕ) (what : Said)
      (new : CrewsOver K M) → Ties custody between v → ChecksAt between number bytes what new
      → Goes v new
  check_goes between v number bytes what new ties (ChecksAt.no_packet bad) =
      rests v between ties.stands
  check_goes between v number bytes what new ties (ChecksAt.no_room good some) =
      rests v between ties.stands
  check_goes between v number bytes what new ties (ChecksAt.stopped at not spells) =
      rests v between ties.stands
  check_goes between v number bytes what new ties (ChecksAt.tells at serves spells checks) =
      rests v between ties.stands
  check_goes between v number bytes what new ties (ChecksAt.refuses at serves spells checks) =
      rests v between ties.stands

  unite_goes : (between : CrewsOver K M) (v : World) (first second : ℕ) (what : Said)
      (new : CrewsOver K M) → Ties custody between v → Unites between first second what new
      → Goes v new
  unite_goes between v first second what new ties (Unites.tells at other serves too) =
      rests v between ties.stands
  unite_goes between v first second what new ties (Unites.stopped which at not) =
      rests v between ties.stands
  unite_goes between v first second what new ties (Unites.no_room at other serves too some) =
      rests v between ties.stands

  comes_goes : (old : CrewsOver K M) (number : ℕ) (sent : Packet) (what : Said)
      (packet : ℕ) (new : CrewsOver K M) → LeavesWell custody new
      → item_at old.sent packet ≡ Some sent → (between : CrewsOver K M) (v : World)
      → Ties custody between v
      → Behind custody making old number (λ mid. DeliversAt custody mid number sent) between what
      new → Goes v new
  comes_goes old number sent what packet new well there between v ties
      (opens, DeliversAt.comes {reply} comes) =
      let among =
      item_there between.sent packet sent
      (ap (λ l. item_at l packet) (sent_still custody making old number (Ok tt) between opens)
      ∙ there) in
      let it = ties.stands.sent sent among in
      let at = number_of v.packets it.0 it.1 in
      packet_goes between v number at.index it.0 reply new well.sound ties at.there
      (subst (λ (p : Packet). Comes custody between number p reply new) (sym it.2) comes)

  delivers_go : (old : CrewsOver K M) (w : World) (number packet : ℕ) (what : Said)
      (new : CrewsOver K M) → LeavesWell custody new → Ties custody old w
      → Delivers custody making old number packet what new → Goes w new
  delivers_go old w number packet what new well ties (Delivers.not_sent none) =
      rests w old ties.stands
  delivers_go old w number packet what new well ties (Delivers.comes {sent = sent} there once) =
      once_goes old w number
      (Behind custody making old number (λ between. DeliversAt custody between number sent)) what
      new well ties (λ between done. delivers_trusts custody between number sent new what
      well.sound done.1)
      (comes_goes old number sent what packet new well there)
      (behind custody making old number (λ between. DeliversAt custody between number sent)
      what new once)

  none_goes : (old : CrewsOver K M) (w : World) (what : Said) (new : CrewsOver K M)
      → Ties custody old w
      → IsNone old what new → Goes w new
  none_goes old w what new ties none = subst (λ c. Goes w c) (sym none.1) (rests w old ties.stands)

  asked_goes : (old : CrewsOver K M) (w : World) (number : ℕ) (request : Request) (what : Said)
      (new : CrewsOver K M) → LeavesWell custody new → Ties custody old w
      → AsksCrew custody making old number request what new → Goes w new
  asked_goes old w number (Job job) what new well ties h = none_goes old w what new ties h
  asked_goes old w number (Begin pid order) what new well ties h = none_goes old w what new ties h
  asked_goes old w number (Deliver packet) what new well ties h =
      delivers_go old w number packet what new well ties h
  asked_goes old w number (BeginDeliver packet) what new well ties h =
      none_goes old w what new ties h
  asked_goes old w number Tell what new well ties h =
      once_goes old w number (λ between. TellsAt between number) what new well ties
      (λ between done. tells_trusts custody between new number what well.sound done)
      (λ between v tied done. tells_go custody between v tied number what new done) h
  asked_goes old w number Save what new well ties h = none_goes old w what new ties h
  asked_goes old w number Publish what new well ties h = none_goes old w what new ties h
  asked_goes old w number Cancel what new well ties h = none_goes old w what new ties h
  asked_goes old w number (Restart keeps) what new well ties h =
      once_goes old w number (λ between. RestartsAt custody between number keeps) what new well ties
      (λ between done. restarts_trusts custody between number keeps what new well.sound done)
      (λ between v tied done. restarts_go custody between v number keeps what new tied
      well.sound done) h
  asked_goes old w number Text what new well ties h =
      once_goes old w number (λ between. TellsText between number) what new well ties
      (λ between done. texts_trusts custody between new number what well.sound done)
      (λ between v tied done. text_goes between v number what new tied done) h
  asked_goes old w number (Check bytes) what new well ties h =
      once_goes old w number (λ between. ChecksAt between number bytes) what new well ties
      (λ between done. checks_trusts custody between new number bytes what well.sound done)
      (λ between v tied done. check_goes between v number bytes what new tied done) h

  pub responds_go : (old : CrewsOver K M) (w : World) (line : Line) (what : Said)
      (new : CrewsOver K M) → LeavesWell custody new → Ties custody old w
      → RespondsTo custody making old line what new → Goes w new
  responds_go old w (Node number request) what new well ties h =
      asked_goes old w number request what new well ties h
  responds_go old w (Union first second) what new well ties h =
      once_goes old w first
      (λ between. OnceOpen custody making between second (λ u. Unites u first second)) what new
      well ties
      (λ between done. once_trusts custody making between second
      (λ u. Unites u first second) what new first well.sound
      (λ u more. unites_trusts custody u new first second what well.sound more first) done)
      (λ between v tied done. once_goes between v second
      (λ u. Unites u first second) what new well tied
      (λ u more. unites_trusts custody u new first second what well.sound more second)
      (λ u x so more. unite_goes u x first second what new so more) done) h
  responds_go old w Audit what new well ties h = none_goes old w what new ties h
  responds_go old w Aliases what new well ties h = none_goes old w what new ties h

-- What the windows that machines send tell: names that the machine has saved which sent them.
use Rattle.std.proofs.Common.{◌≡◌, ◌⊎◌, ◌∙◌, ◌++◌, inl, inr, ℕ, List, [], ◌∷◌, true, None, Some, refl, sym, ap, subst}
use Rattle.std.specs.FinMap as map
use Rattle.std.specs.List.{Contains, list_any}
use Rattle.std.proofs.lemmas.List.Elements.{Contains-append_cases}
use Rattle.std.proofs.lemmas.List.Folds.{Any-from_list_any}
use Rattle.fl_labels.specs.SetBy.{In}
use Rattle.fl_labels.specs.declared.name.Name.{Name}
use Rattle.fl_ops.specs.Registry.{Registry}
use Rattle.fl_ops.specs.declared.op.Op.{Op}
use Rattle.fl_message.specs.declared.message.Data.{Data}
use Rattle.fl_opset.specs.Spans.{in_span}
use Rattle.fl_opset.specs.Windows.{IsName}
use Rattle.fl_opset.specs.declared.intervals.Intervals.{Intervals}
use Rattle.fl_wire.specs.declared.packet.Packet.{Packet}
use Rattle.fl_wire.specs.declared.packet.Packet.TheVariants as packets
use Rattle.fl_gossip.specs.Replying.{IsDelta, AreDeltas}
use Rattle.fl_jobs.specs.declared.job.Job.{Job as AnyJob}
use Rattle.fl_system.specs.Gossip.{IsSummary, told_by}
use Rattle.fl_system.specs.declared.admission.Admission.{Admission}
use Rattle.fl_system.specs.declared.reply.Reply.{Reply}
use Rattle.fl_system.specs.declared.sent.Sent.{Sent}
use Rattle.fl_system.specs.State.{NodeState}
use Rattle.fl_system.specs.World.{World, KeptNode, empty_world}
use Rattle.fl_system_laws.specs.laws.Going.{in_joined, in_mapped}
use Rattle.fl_system_laws.specs.laws.Steps.{in_none, only_one}
use Rattle.fl_world_laws.specs.laws.Nodes.{at_key}
use Rattle.fl_machine_model.specs.Acts.{Act, Outcome}
use Rattle.fl_machine_model.specs.Alone.{MachineStep, JobAlone, SaveAlone, PublishAlone}
use Rattle.fl_machine_model.specs.Alone.{CancelAlone, RestartAlone, TellAlone, WindowAlone}
use Rattle.fl_machine_model.specs.Alone.{PacketAlone}
use Rattle.fl_machine_model.specs.Machines.{Up, Machines, Deed, Happens, Turn, AreTurns, last}
use Rattle.fl_machine_model.specs.Machines.{AreMet, no_machine}
use Rattle.fl_machine_laws.specs.Places.{IsSavedAt}
use Rattle.fl_machine_laws.proofs.Deeds.{Follows, deed_goes, empty_follows}
use Rattle.fl_machine_laws.proofs.Keeping.{SavedStays, turns_keep}

-- it is no window, or each name in its spans is one of these operations
abbrev pub TellsOf : Registry → Packet → Type 0
TellsOf U packet =
    (window : Intervals) → packet ≡ packets.Have window → (name : Name)
    → list_any (λ s. in_span s name) window.spans ≡ true → IsName U name

tells_more : {U V : Registry} → ((op : Op) → U op → V op) → (packet : Packet) → TellsOf U packet
    → TellsOf V packet
tells_more more packet t window is name held =
    let n = t window is name held in
    (n.0, more n.0 n.1, n.2)

-- ---- what a machine sends

abbrev pub sent_from : ℕ → Packet → Sent
sent_from number p = record { from = number; packet = p; sender = None }

-- what the node of this number sent, as it left it
abbrev IsOfNode : ℕ → KeptNode → Sent → Type 0
IsOfNode number s sent =
    (window : Intervals) → sent.packet ≡ packets.Have window
    → (sent.from ≡ number)
    × ((name : Name) → list_any (λ t. in_span t name) window.spans ≡ true
    → IsName (In s.node.saved) name)

abbrev AreOfNode : ℕ → Outcome → Type 0
AreOfNode number o = (sent : Sent) → Contains o.sent sent → IsOfNode number o.after sent

no_data : {d : Data} {window : Intervals} → packets.Data d ≡ packets.Have window → ⊥
no_data e = cc

pub same_window : {v w : Intervals} → packets.Have v ≡ packets.Have w → v ≡ w
same_window e = cc

no_delta : (p : Packet) {window : Intervals} → IsDelta p → p ≡ packets.Have window → ⊥
no_delta (packets.Full b) h e = absurd h
no_delta (packets.Have w) h e = absurd h
no_delta (packets.Delta b) h e = cc
no_delta (packets.Data d) h e = absurd h

-- each of them is a delta
each_delta : (ps : List Packet) → AreDeltas ps → (p : Packet) → Contains ps p → IsDelta p
each_delta [] are p h = in_none p h
each_delta (q ∷ []) are p h = subst IsDelta (only_one q p h) are
each_delta (q ∷ r ∷ ps) are p h = elim (Contains-append_cases (q ∷ []) (r ∷ ps) p h) [
  | inl first ↦ subst IsDelta (only_one q p first) are.0
  | inr rest ↦ each_delta (r ∷ ps) are.2 p rest
]

job_of_node : (number : ℕ) (s : KeptNode) {n n' : NodeState} {desk upto : ℕ} {job : AnyJob}
    {reply : Reply} {new : List Sent} {admitted : List Admission}
    → JobAlone number n desk upto job 0 reply n' new admitted
    → (sent : Sent) → Contains new sent → IsOfNode number s sent
job_of_node number s (JobAlone.refused does) = λ sent h. in_none sent h
job_of_node number s (JobAlone.replied does) = λ sent h. in_none sent h
job_of_node number s (JobAlone.begun does) = λ sent h. in_none sent h
job_of_node number s (JobAlone.sends does) =
    λ sent h window is. absurd (no_data (ap (λ (x : Sent). x.packet) (only_one _ sent h) ∙ is))
job_of_node number s (JobAlone.no_room look seen noted) = λ sent h. in_none sent h

-- the windows of a summary have the names of what is saved
summary_of_node : (number : ℕ) (s : KeptNode) (told : List Packet) → IsSummary s.node.saved told
    → (sent : Sent) → Contains (told_by number told) sent → IsOfNode number s sent
summary_of_node number s told (windows, are, told_is) sent h window is =
    let p = in_mapped (sent_from number) told sent h in
    let w = in_mapped packets.Have windows p.item
    (subst (λ (l : List Packet). Contains l p.item) told_is p.there) in
    let same : w.item ≡ window =
    same_window (w.is ∙ ap (λ (x : Sent). x.packet) p.is ∙ is) in (
      ap (λ (x : Sent). x.from) (sym p.is),
      λ name held.
          let there = Any-from_list_any (λ t. in_span t name) window.spans held in
          let is_span =
          are.spans.only there.1
          (in_joined (λ (v : Intervals). v.spans) windows window there.1
          (subst (Contains windows) same w.there) (there.0, there.2, there.3)) in
          is_span.held name there.4,
    )

packet_of_node : (number : ℕ) (s : KeptNode) {packet : Packet} {o : Outcome}
    → PacketAlone number s packet o → AreOfNode number o
packet_of_node number s (PacketAlone.have is (WindowAlone.stopped why)) = λ sent h. in_none sent h
packet_of_node number s (PacketAlone.have is (WindowAlone.no_room runs some)) =
    λ sent h. in_none sent h
packet_of_node number s (PacketAlone.have is (WindowAlone.answers {told} runs answer)) =
    λ sent h window e.
    let p = in_mapped (sent_from number) told sent h in
    absurd (no_delta p.item (each_delta told answer.deltas p.item p.there)
    (ap (λ (x : Sent). x.packet) p.is ∙ e))
packet_of_node number s (PacketAlone.ops is does) = λ sent h. in_none sent h
packet_of_node number s (PacketAlone.message is does) = λ sent h. in_none sent h

step_of_node : (number : ℕ) (s : KeptNode) {act : Act} {o : Outcome} → MachineStep number s act o
    → AreOfNode number o
step_of_node number s (MachineStep.no_desk none) = λ sent h. in_none sent h
step_of_node number s (MachineStep.no_such_job is) = λ sent h. in_none sent h
step_of_node number s (MachineStep.job {n = n} real does) =
    job_of_node number (record { node = n; kept = s.kept }) does
step_of_node number s (MachineStep.save (SaveAlone.saved does)) = λ sent h. in_none sent h
step_of_node number s (MachineStep.save (SaveAlone.refused does)) = λ sent h. in_none sent h
step_of_node number s (MachineStep.publish (PublishAlone.ordered is does)) =
    λ sent h. in_none sent h
step_of_node number s (MachineStep.publish (PublishAlone.received is does)) =
    λ sent h. in_none sent h
step_of_node number s (MachineStep.publish (PublishAlone.refused does)) = λ sent h. in_none sent h
step_of_node number s (MachineStep.cancel (CancelAlone.given_up does)) = λ sent h. in_none sent h
step_of_node number s (MachineStep.cancel (CancelAlone.refused does)) = λ sent h. in_none sent h
step_of_node number s (MachineStep.restart (RestartAlone.booted does)) = λ sent h. in_none sent h
step_of_node number s (MachineStep.restart (RestartAlone.refused does)) = λ sent h. in_none sent h
step_of_node number s (MachineStep.tell (TellAlone.stopped why)) = λ sent h. in_none sent h
step_of_node number s (MachineStep.tell (TellAlone.no_room runs)) = λ sent h. in_none sent h
step_of_node number s (MachineStep.tell (TellAlone.tells {told} runs summary)) =
    summary_of_node number s told summary
step_of_node number s (MachineStep.receive does) = packet_of_node number s does

-- ---- all that was sent

-- each window that was sent tells what is saved where it was sent
abbrev pub AreTold : Machines → Type 0
AreTold m = (sent : Sent) → Contains m.packets sent → TellsOf (IsSavedAt m sent.from) sent.packet

module _ (law : SavedStays) where
  -- what was told before, and what the machine of this number sends now
  told_after : (m : Machines) (w : World) (f : Follows m w) {deed : Deed} {m' : Machines}
      → Happens m deed m' → (new : List Sent)
      → ((sent : Sent) → Contains m'.packets sent → Contains m.packets sent ⊎ Contains new sent)
      → ((sent : Sent) → Contains new sent → TellsOf (IsSavedAt m' sent.from) sent.packet)
      → AreTold m → AreTold m'
  told_after m w f {deed} {m'} does new either news told sent there = elim (either sent there) [
    | inl before ↦
        tells_more
        (λ op i. turns_keep law m w (record { deed = deed; after = m' } ∷ []) f (does, tt)
        sent.from op i)
        sent.packet (told sent before)
    | inr now ↦ news sent now
  ]

  -- nothing new was sent
  told_as_before : (m : Machines) (w : World) (f : Follows m w) {deed : Deed} {m' : Machines}
      → Happens m deed m' → m'.packets ≡ m.packets ++ [] → AreTold m → AreTold m'
  told_as_before m w f {m' = m'} does same =
      told_after m w f does []
      (λ sent there. Contains-append_cases m.packets [] sent
      (subst (λ (l : List Sent). Contains l sent) same there))
      (λ sent none. in_none sent none)

  -- its machine sent this
  told_of_node : (m' : Machines) (number : ℕ) (s : KeptNode) (sent : Sent)
      → map.get m'.nodes number ≡ Some (Up s) → IsOfNode number s sent
      → TellsOf (IsSavedAt m' sent.from) sent.packet
  told_of_node m' number s sent at of window is name held =
      let n = (of window is).1 name held in (
        n.0,
        subst (λ k. IsSavedAt m' k n.0) (sym (of window is).0)
            (record { machine = Up s; there = at; saved = n.1 }),
        n.2,
      )

  told_by_step : (m : Machines) (w : World) (f : Follows m w) {deed : Deed} {m' : Machines}
      → Happens m deed m' → (number : ℕ) (s : KeptNode) (new : List Sent)
      → m'.packets ≡ m.packets ++ new → map.get m'.nodes number ≡ Some (Up s)
      → ((sent : Sent) → Contains new sent → IsOfNode number s sent)
      → AreTold m → AreTold m'
  told_by_step m w f {m' = m'} does number s new same at of =
      told_after m w f does new
      (λ sent there. Contains-append_cases m.packets new sent
      (subst (λ (l : List Sent). Contains l sent) same there))
      (λ sent there. told_of_node m' number s sent at (of sent there))

  deed_told : (m : Machines) (w : World) (f : Follows m w) {deed : Deed} {m' : Machines}
      → Happens m deed m' → AreTold m → AreTold m'
  deed_told m w f (Happens.born free blank opening) =
      told_as_before m w f (Happens.born free blank opening) refl
  deed_told m w f (Happens.not_born free blank opening) = λ told. told
  deed_told m w f (Happens.opens there opening) =
      told_as_before m w f (Happens.opens there opening) refl
  deed_told m w f (Happens.not_opened there opening) =
      told_as_before m w f (Happens.not_opened there opening) refl
  deed_told m w f (Happens.acts {number} {s} {o = o} up real step) =
      told_by_step m w f (Happens.acts up real step) number o.after o.sent refl
      (at_key m.nodes number (Up o.after)) (step_of_node number s step)
  deed_told m w f (Happens.gets {number = number} {s = s} {o = o} up was step) =
      told_by_step m w f (Happens.gets up was step) number o.after o.sent refl
      (at_key m.nodes number (Up o.after)) (step_of_node number s step)
  deed_told m w f (Happens.ends up leaves) = told_as_before m w f (Happens.ends up leaves) refl

  pub turns_told : (m : Machines) (w : World) (ts : List Turn) → Follows m w → AreTurns m ts
      → AreTold m → AreTold (last m ts)
  turns_told m w [] f are told = told
  turns_told m w (t ∷ ts) f are told =
      turns_told t.after (deed_goes m w f are.0).moment.after ts (deed_goes m w f are.0).follows
      are.1 (deed_told m w f are.0 told)

  -- of machines that turns led to from none
  pub met_told : {m : Machines} → AreMet m → AreTold m
  met_told met =
      subst AreTold met.leads
      (turns_told (no_machine met.desks) (empty_world met.desks) met.turns
      (empty_follows met.desks) met.are (λ sent there. in_none sent there))

-- The turns of many machines go on without what concerns who has a tag, where orders are guarded.
use Rattle.std.proofs.Common.{◌≡◌, ◌⊎◌, inl, inr, refl, sym, ap, subst, arith, Bool, true}
use Rattle.std.proofs.Common.{false, cond}
use Rattle.std.proofs.Common.{ℕ, zero, suc, List, [], ◌∷◌, Option, Some, None, Result}
use Rattle.std.proofs.lemmas.List.Elements.{Contains-append_left, Contains-append_right}
use Rattle.std.proofs.lemmas.List.Elements.{Contains-append_cases}
use Rattle.std.specs.FinMap as map
use Rattle.std.specs.FinMap.{nat_cmp-IsAntisymmetric}
use Rattle.std.specs.Cmp.{nat_cmp_total, Equal-is}
use Rattle.std.specs.List.{Contains}
use Rattle.std.specs.Ordering.{nat_cmp, eq_by_cmp}
use Rattle.fl_labels.specs.declared.name.Name.{Name}
use Rattle.fl_labels.specs.declared.pid.Pid.{Pid}
use Rattle.fl_ops.specs.Registry.{Listed}
use Rattle.fl_opset.specs.laws.Members.{Contains-cons}
use Rattle.fl_wire.specs.declared.packet.Packet.{Packet}
use Rattle.fl_wire.specs.declared.packet.Packet.TheVariants as packets
use Rattle.fl_message.specs.declared.message.Data.{Data}
use Rattle.fl_jobs.specs.declared.job.Act.TheVariants.{Order}
use Rattle.fl_jobs.specs.declared.job.Job.{Job as AnyJob}
use Rattle.fl_jobs.specs.declared.job.Job.TheVariants.{Proc, By, Member, Arrive}
use Rattle.fl_bench.specs.laws.Puts.{none_some, same_found}
use Rattle.fl_store.specs.Kept.{Kept}
use Rattle.fl_system.specs.Numbered.{item_at}
use Rattle.fl_system.specs.Openings.{Opens}
use Rattle.fl_system.specs.Processes.{process_of}
use Rattle.fl_system.specs.State.{NodeState}
use Rattle.fl_system.specs.World.{KeptNode}
use Rattle.fl_system.specs.declared.admission.Admission.{Admission}
use Rattle.fl_system.specs.declared.answer.Fault.{Fault}
use Rattle.fl_system.specs.declared.sent.Sent.{Sent}
use Rattle.fl_machine_model.specs.Acts.{Act, Outcome, IsReceipt}
use Rattle.fl_machine_model.specs.Acts as acts
use Rattle.fl_machine_model.specs.Alone.{JobAlone, PacketAlone, MachineStep}
use Rattle.fl_machine_model.specs.Guards.{IsOrder}
use Rattle.fl_machine_model.specs.Machines.{Machine, Up, Down, Machines, with_machine, after_act}
use Rattle.fl_machine_model.specs.Machines.{Deed, Acts, Gets}
use Rattle.fl_machine_model.specs.Machines.{Happens, Turn, no_machine}
use Rattle.fl_machine_model.specs.Processes.{Does}
use Rattle.fl_noninterference_laws.specs.Acts.{IsGuardedAct}
use Rattle.fl_noninterference_laws.specs.AlikeNodes.{AreKeptAlike}
use Rattle.fl_noninterference_laws.specs.Endpoints.{HasSafeEndpoints, IsSafeMachine}
use Rattle.fl_noninterference_laws.specs.Runs.{IsHidden, concerned, IsSealed, AreAlikeMachines}
use Rattle.fl_noninterference_laws.specs.Tainted.{IsVeiled, LacksMinus}
use Rattle.fl_noninterference_laws.specs.Together.{HasTag, AreAlikeAll, IsHiddenAt, IsHiddenPacket}
use Rattle.fl_noninterference_laws.specs.Together.{IsHiddenDeed, IsSealedAt, IsSealedPacket}
use Rattle.fl_noninterference_laws.specs.Together.{IsSealedDeed, AreSealedTurns, AreSafeMachines}
use Rattle.fl_noninterference_laws.specs.Together.{IsSameDeed, TurnsSideBySide, TurnsToo, ShowsToo}
use Rattle.fl_noninterference_laws.proofs.Nodes.{cannot_emit}
use Rattle.fl_noninterference_laws.proofs.Runs.{told, open_act, hidden_step, kept_back, leaves_same}
use Rattle.fl_noninterference_laws.proofs.Safe.{step_safe, opens_safe}
use Rattle.fl_noninterference_laws.proofs.Steps.{steps_too}
use Rattle.fl_noninterference_laws.proofs.Veiling.{same_kept, sent_tagged}

-- machines by their numbers
abbrev Places : Type 0
Places = map.FinMap nat_cmp Machine

-- each item of a list has a number
record IsNumbered (xs : List Sent) (x : Sent) : Type 0 where
  before : ℕ
  there : item_at xs (suc before) ≡ Some x

numbered : (xs : List Sent) (x : Sent) → Contains xs x → IsNumbered xs x
numbered [] x h = absurd (omega (arith, h.1))
numbered (y ∷ xs) x (zero, inside, at) = record { before = 0; there = ap Some at }
numbered (y ∷ xs) x (suc k, inside, at) =
    let n = numbered xs x (k, omega arith, at) in
    record { before = suc n.before; there = n.there }

-- and is there
item_there : (xs : List Sent) (k : ℕ) (x : Sent) → item_at xs k ≡ Some x → Contains xs x
item_there [] k x e = absurd (none_some refl e)
item_there (y ∷ xs) zero x e = absurd (none_some refl e)
item_there (y ∷ xs) (suc zero) x e = (0, omega arith, same_found refl e)
item_there (y ∷ xs) (suc (suc k)) x e = Contains-cons y xs x (item_there xs (suc k) x e)

none_sent : {x : Sent} → ¬ Contains [] x
none_sent h = omega (arith, h.1)

module _ (tag : Name) where
  -- ---- alike in one place

  none_too : (o other : Option Machine) → AreAlikeMachines tag o other → o ≡ None → other ≡ None
  none_too None None h e = refl
  none_too None (Some x) h e = absurd h
  none_too (Some x) other h e = absurd (none_some e refl)

  record IsUpToo (s : KeptNode) (other : Option Machine) : Type 0 where
    node : KeptNode
    is : other ≡ Some (Up node)
    alike : AreKeptAlike tag s node

  up_too : (s : KeptNode) (other : Option Machine) → AreAlikeMachines tag (Some (Up s)) other
      → IsUpToo s other
  up_too s None h = absurd h
  up_too s (Some (Down k)) h = absurd h
  up_too s (Some (Up r)) h = record { node = r; is = refl; alike = h }

  down_too : (k : Kept) (other : Option Machine) → AreAlikeMachines tag (Some (Down k)) other
      → other ≡ Some (Down k)
  down_too k None h = absurd h
  down_too k (Some (Down j)) h = ap (λ z. Some (Down z)) (sym h)
  down_too k (Some (Up r)) h = absurd h

  -- ---- alike in each place

  chosen : (b : Bool) (o other was had : Option Machine)
      → (b ≡ true → AreAlikeMachines tag o other) → (b ≡ false → AreAlikeMachines tag was had)
      → AreAlikeMachines tag (cond b o was) (cond b other had)
  chosen true o other was had here there = here refl
  chosen false o other was had here there = there refl

  chosen_first : (b : Bool) (o other was : Option Machine)
      → (b ≡ true → AreAlikeMachines tag o other) → (b ≡ false → AreAlikeMachines tag was other)
      → AreAlikeMachines tag (cond b o was) other
  chosen_first true o other was here there = here refl
  chosen_first false o other was here there = there refl

  module _ (m w : Places) (number : ℕ)
      (each : (k : ℕ) → AreAlikeMachines tag (map.get m k) (map.get w k)) where
    put_both : (x y : Machine) → AreAlikeMachines tag (Some x) (Some y) → (k : ℕ)
        → AreAlikeMachines tag (map.get (map.insert m number x) k)
        (map.get (map.insert w number y) k)
    put_both x y at k =
        subst (λ o. AreAlikeMachines tag o (map.get (map.insert w number y) k))
        (sym (map.get-insert nat_cmp_total m number x k))
        (subst (AreAlikeMachines tag (cond (eq_by_cmp nat_cmp k number) (Some x) (map.get m k)))
        (sym (map.get-insert nat_cmp_total w number y k))
        (chosen (eq_by_cmp nat_cmp k number) (Some x) (Some y) (map.get m k) (map.get w k)
        (λ e. at) (λ e. each k)))

    put_first : (x : Machine) → AreAlikeMachines tag (Some x) (map.get w number) → (k : ℕ)
        → AreAlikeMachines tag (map.get (map.insert m number x) k) (map.get w k)
    put_first x at k =
        subst (λ o. AreAlikeMachines tag o (map.get w k))
        (sym (map.get-insert nat_cmp_total m number x k))
        (chosen_first (eq_by_cmp nat_cmp k number) (Some x) (map.get w k) (map.get m k)
        (λ e. subst (λ z. AreAlikeMachines tag (Some x) (map.get w z))
        (sym (nat_cmp-IsAntisymmetric k number ((Equal-is (nat_cmp k number)).0 e))) at)
        (λ e. each k))

  module _ {m w : Machines} (a : AreAlikeAll tag m w) (number : ℕ) where
    -- the same is sent among both
    all_both : (x y : Machine) (sent : List Sent) (noted other : List Admission)
        → AreAlikeMachines tag (Some x) (Some y)
        → AreAlikeAll tag (with_machine m number x sent noted)
        (with_machine w number y sent other)
    all_both x y sent noted other at = record {
      desks = a.desks;
      each = put_both m.nodes w.nodes number a.each x y at;
      sent = λ one there. elim (Contains-append_cases m.packets sent one there) [
        | inl was ↦ elim (a.sent one was) [
          | inl has ↦ inl has
          | inr too ↦ inr (Contains-append_left w.packets sent one too)
        ]
        | inr now ↦ inr (Contains-append_right w.packets sent one now)
      ];
    }

    -- only what has the tag is sent, among the first
    all_first : (x : Machine) (sent : List Sent) (noted : List Admission)
        → AreAlikeMachines tag (Some x) (map.get w.nodes number)
        → ((one : Sent) → Contains sent one → HasTag tag one.packet)
        → AreAlikeAll tag (with_machine m number x sent noted) w
    all_first x sent noted at tagged = record {
      desks = a.desks;
      each = put_first m.nodes w.nodes number a.each x at;
      sent = λ one there. elim (Contains-append_cases m.packets sent one there) [
        | inl was ↦ a.sent one was
        | inr now ↦ inl (tagged one now)
      ];
    }

  -- ---- what is hidden

  -- what it sends has the tag
  job_tagged : {number : ℕ} (s : KeptNode) {desk upto : ℕ} {job : AnyJob} {o : Outcome}
      → IsHidden tag s.node (acts.Job desk upto job)
      → LacksMinus (Listed s.node.published) tag (concerned s.node (acts.Job desk upto job))
      → HasSafeEndpoints s.node → MachineStep number s (acts.Job desk upto job) o → (one : Sent)
      → Contains o.sent one → HasTag tag one.packet
  job_tagged s hidden lacks safe (MachineStep.no_desk none) one h = absurd (none_sent h)
  job_tagged s hidden lacks safe (MachineStep.no_such_job arrival) one h = absurd (none_sent h)
  job_tagged s hidden lacks safe (MachineStep.job asked (JobAlone.refused does)) one h =
      absurd (none_sent h)
  job_tagged s hidden lacks safe (MachineStep.job asked (JobAlone.replied does)) one h =
      absurd (none_sent h)
  job_tagged s hidden lacks safe (MachineStep.job asked (JobAlone.begun does)) one h =
      absurd (none_sent h)
  job_tagged s hidden lacks safe (MachineStep.job asked (JobAlone.no_room look which noted)) one h
      =
      absurd (none_sent h)
  job_tagged s {job = By pid act} hidden lacks safe
      (MachineStep.job asked (JobAlone.sends does)) one (zero, inside, at) =
      subst (λ (z : Sent). HasTag tag z.packet) at
      (sent_tagged tag s.node safe (record { veiled = hidden; lacks = lacks }) does)
  job_tagged s {job = By pid act} hidden lacks safe
      (MachineStep.job asked (JobAlone.sends does)) one (suc k, inside, at) =
      absurd (omega (arith, inside))
  job_tagged s {job = Proc} hidden lacks safe (MachineStep.job asked (JobAlone.sends does)) one h =
      absurd hidden
  job_tagged s {job = Member root what} hidden lacks safe
      (MachineStep.job asked (JobAlone.sends does)) one h =
      absurd hidden
  job_tagged s {job = Arrive d} hidden lacks safe (MachineStep.job asked (JobAlone.sends does)) one
      h =
      absurd (asked tt)

  message_silent : {number : ℕ} (s : KeptNode) (d : Data) {o : Outcome}
      → MachineStep number s (acts.Receive (packets.Data d)) o → (one : Sent)
      → Contains o.sent one → HasTag tag one.packet
  message_silent s d (MachineStep.receive (PacketAlone.have is window)) one h = absurd (cc)
  message_silent s d (MachineStep.receive (PacketAlone.ops (inl is) does)) one h = absurd (cc)
  message_silent s d (MachineStep.receive (PacketAlone.ops (inr is) does)) one h = absurd (cc)
  message_silent s d (MachineStep.receive (PacketAlone.message is does)) one h =
      absurd (none_sent h)

  hidden_tagged : {number : ℕ} (s : KeptNode) (act : Act) {o : Outcome}
      → IsHidden tag s.node act → LacksMinus (Listed s.node.published) tag (concerned s.node act)
      → HasSafeEndpoints s.node → MachineStep number s act o → (one : Sent)
      → Contains o.sent one → HasTag tag one.packet
  hidden_tagged s (acts.Job desk upto job) hidden lacks safe step =
      job_tagged s hidden lacks safe step
  hidden_tagged s acts.Save hidden lacks safe step = absurd hidden
  hidden_tagged s acts.Publish hidden lacks safe step = absurd hidden
  hidden_tagged s acts.Cancel hidden lacks safe step = absurd hidden
  hidden_tagged s (acts.Restart keeps) hidden lacks safe step = absurd hidden
  hidden_tagged s acts.Tell hidden lacks safe step = absurd hidden
  hidden_tagged s (acts.Receive (packets.Full batch)) hidden lacks safe step = absurd hidden
  hidden_tagged s (acts.Receive (packets.Delta batch)) hidden lacks safe step = absurd hidden
  hidden_tagged s (acts.Receive (packets.Have window)) hidden lacks safe step = absurd hidden
  hidden_tagged s (acts.Receive (packets.Data d)) hidden lacks safe step = message_silent s d step

  -- no guarded order is hidden
  no_order : (s : KeptNode) (act : Act) (o : Outcome) → IsSealed tag s.node act o.says
      → IsGuardedAct s.node act → (pid : Pid) → IsOrder (Does act o) pid
      → ¬ IsVeiled tag (process_of s.node pid)
  no_order s act o sealed guard pid order veiled =
      let is = order.is in
      let asked : act ≡ acts.Job order.desk order.upto (By pid (Order order.order)) = cc in
      let lacks = subst (λ a. IsHidden tag s.node a
      → LacksMinus (Listed s.node.published) tag (concerned s.node a)) asked sealed.lacks veiled in
      cannot_emit tag s.node (record { veiled = veiled; lacks = lacks })
      (subst (IsGuardedAct s.node) asked guard)

  tag_hidden : (n : NodeState) (packet : Packet) → HasTag tag packet
      → IsHidden tag n (acts.Receive packet)
  tag_hidden n (packets.Data d) has = inr has
  tag_hidden n (packets.Full batch) has = absurd has
  tag_hidden n (packets.Delta batch) has = absurd has
  tag_hidden n (packets.Have window) has = absurd has

  -- ---- one deed

  data DeedToo (m w : Machines) (d : Deed) (n : Machines) : Type 0 where
    skipped : IsHiddenDeed tag m d → AreAlikeAll tag n w → DeedToo m w d n
    done : {e : Deed} {v : Machines} → ¬ IsHiddenDeed tag m d → Happens w e v → IsSameDeed d e
        → AreAlikeAll tag n v → DeedToo m w d n

  module _ {m w : Machines} (a : AreAlikeAll tag m w) where
    opens_there : {own : Kept → Type 0} {k left : Kept} {r : Result NodeState Fault}
        → Opens m.desks own k r left → Opens w.desks own k r left
    opens_there {own} {k} {left} {r} opening = subst (λ d. Opens d own k r left) a.desks opening

    found : (number : ℕ) {o : Option Machine} → map.get m.nodes number ≡ o
        → AreAlikeMachines tag o (map.get w.nodes number)
    found number at =
        subst (λ z. AreAlikeMachines tag z (map.get w.nodes number)) at (a.each number)

    -- what is hidden is done among the first alone
    hidden_act : (number : ℕ) (s : KeptNode) (act : Act) (o : Outcome) (noted : List Admission)
        → map.get m.nodes number ≡ Some (Up s) → IsSealed tag s.node act o.says
        → IsGuardedAct s.node act → HasSafeEndpoints s.node → IsHidden tag s.node act
        → MachineStep number s act o
        → AreAlikeAll tag (with_machine m number (Up o.after) o.sent noted) w
    hidden_act number s act o noted at sealed guard safe hidden step =
        let up = up_too s (map.get w.nodes number) (found number at) in
        let near = hidden_step tag number s act hidden sealed safe
        (no_order s act o sealed guard) step in
        all_first a number (Up o.after) o.sent noted
        (subst (AreAlikeMachines tag (Some (Up o.after))) (sym up.is)
        (kept_back tag near up.alike))
        (hidden_tagged s act hidden (sealed.lacks hidden) safe step)

    -- the machines after what both do
    both_after : (number : ℕ) (o came : Outcome) (noted other : List Admission)
        → came.sent ≡ o.sent → AreKeptAlike tag o.after came.after
        → AreAlikeAll tag (with_machine m number (Up o.after) o.sent noted)
        (with_machine w number (Up came.after) came.sent other)
    both_after number o came noted other same near =
        subst (λ l. AreAlikeAll tag (with_machine m number (Up o.after) o.sent noted)
        (with_machine w number (Up came.after) l other)) (sym same)
        (all_both a number (Up o.after) (Up came.after) o.sent noted other near)

    act_done : (number : ℕ) (s : KeptNode) (act : Act) (o : Outcome)
        → map.get m.nodes number ≡ Some (Up s) → ¬ IsReceipt act
        → IsSealed tag s.node act o.says → IsGuardedAct s.node act → HasSafeEndpoints s.node
        → MachineStep number s act o → IsHidden tag s.node act ⊎ (¬ IsHidden tag s.node act)
        → DeedToo m w (Acts number act o.says) (after_act m number o None)
    act_done number s act o at free sealed guard safe step (inl hidden) =
        skipped (subst (λ z. IsHiddenAt tag z act) (sym at) hidden)
        (hidden_act number s act o (o.noted None) at sealed guard safe hidden step)
    act_done number s act o at free sealed guard safe step (inr shown) =
        let up = up_too s (map.get w.nodes number) (found number at) in
        let too = steps_too number act up.alike (open_act tag s.node act shown)
        (sealed.looks shown) (sealed.ample shown) step in
        done (λ h. shown (subst (λ z. IsHiddenAt tag z act) at h))
        (Happens.acts up.is free too.steps) (refl, refl, sym too.same.says)
        (both_after number o too.came (o.noted None) (too.came.noted None) too.same.sent
        too.alike)

    packet_skipped : (packet number : ℕ) (s : KeptNode) (sent : Sent) (o : Outcome)
        → map.get m.nodes number ≡ Some (Up s) → item_at m.packets packet ≡ Some sent
        → IsSealed tag s.node (acts.Receive sent.packet) o.says → HasSafeEndpoints s.node
        → MachineStep number s (acts.Receive sent.packet) o
        → IsHidden tag s.node (acts.Receive sent.packet)
        → DeedToo m w (Gets packet number o.says) (after_act m number o sent.sender)
    packet_skipped packet number s sent o at there sealed safe step hidden =
        skipped (subst (λ z. IsHiddenPacket tag (map.get m.nodes number) z) (sym there)
        (subst (λ z. IsHiddenAt tag z (acts.Receive sent.packet)) (sym at) hidden))
        (hidden_act number s (acts.Receive sent.packet) o (o.noted sent.sender) at sealed tt safe
        hidden step)

    packet_done : (packet number : ℕ) (s : KeptNode) (sent : Sent) (o : Outcome)
        → map.get m.nodes number ≡ Some (Up s) → item_at m.packets packet ≡ Some sent
        → IsSealed tag s.node (acts.Receive sent.packet) o.says → HasSafeEndpoints s.node
        → MachineStep number s (acts.Receive sent.packet) o
        → HasTag tag sent.packet ⊎ Contains w.packets sent
        → IsHidden tag s.node (acts.Receive sent.packet)
        ⊎ (¬ IsHidden tag s.node (acts.Receive sent.packet))
        → DeedToo m w (Gets packet number o.says) (after_act m number o sent.sender)
    packet_done packet number s sent o at there sealed safe step which (inl hidden) =
        packet_skipped packet number s sent o at there sealed safe step hidden
    packet_done packet number s sent o at there sealed safe step (inl has) (inr shown) =
        packet_skipped packet number s sent o at there sealed safe step
        (tag_hidden s.node sent.packet has)
    packet_done packet number s sent o at there sealed safe step (inr too_sent) (inr shown) =
        let up = up_too s (map.get w.nodes number) (found number at) in
        let too = steps_too number (acts.Receive sent.packet) up.alike
        (open_act tag s.node (acts.Receive sent.packet) shown) (sealed.looks shown)
        (sealed.ample shown) step in
        let place = numbered w.packets sent too_sent in
        done (λ h. shown (subst (λ z. IsHiddenAt tag z (acts.Receive sent.packet)) at
        (subst (λ z. IsHiddenPacket tag (map.get m.nodes number) z) there h)))
        (Happens.gets up.is place.there too.steps) (refl, sym too.same.says)
        (both_after number o too.came (o.noted sent.sender) (too.came.noted sent.sender)
        too.same.sent too.alike)

    deed_too : {d : Deed} {n : Machines} → AreSafeMachines m → IsSealedDeed tag m d
        → Happens m d n → DeedToo m w d n
    deed_too safe sealed (Happens.born {number} {k} {left} {n} at blank opening) =
        let s : KeptNode = record { node = n; kept = left } in
        done (λ h. h) (Happens.born
        (none_too None (map.get w.nodes number) (found number at) refl) blank
        (opens_there opening)) (refl, refl, refl)
        (all_both a number (Up s) (Up s) [] [] [] (same_kept tag s))
    deed_too safe sealed (Happens.not_born {number} at blank opening) =
        done (λ h. h) (Happens.not_born
        (none_too None (map.get w.nodes number) (found number at) refl)
        blank (opens_there opening)) (refl, refl, refl) a
    deed_too safe sealed (Happens.opens {number} {k} {left} {n} at opening) =
        let s : KeptNode = record { node = n; kept = left } in
        done (λ h. h) (Happens.opens (down_too k (map.get w.nodes number) (found number at))
        (opens_there opening)) (refl, refl, refl)
        (all_both a number (Up s) (Up s) [] [] [] (same_kept tag s))
    deed_too safe sealed (Happens.not_opened {number} {k} {left} at opening) =
        done (λ h. h) (Happens.not_opened (down_too k (map.get w.nodes number) (found number at))
        (opens_there opening)) (refl, refl, refl)
        (all_both a number (Down left) (Down left) [] [] [] refl)
    deed_too safe sealed (Happens.acts {number} {s} {act} {o} at free step) =
        let its = subst (λ z. IsSealedAt tag z act o.says) at sealed in
        act_done number s act o at free its.0 its.1 (subst IsSafeMachine at (safe number)) step
        (told tag s.node act)
    deed_too safe sealed (Happens.gets {packet} {number} {s} {sent} {o} at there step) =
        let its = subst (λ z. IsSealedAt tag z (acts.Receive sent.packet) o.says) at
        (subst (λ z. IsSealedPacket tag (map.get m.nodes number) z o.says) there sealed) in
        packet_done packet number s sent o at there its.0
        (subst IsSafeMachine at (safe number)) step
        (a.sent sent (item_there m.packets packet sent there))
        (told tag s.node (acts.Receive sent.packet))
    deed_too safe sealed (Happens.ends {number} {s} {k} at leaves) =
        let up = up_too s (map.get w.nodes number) (found number at) in
        done (λ h. h) (Happens.ends up.is (leaves_same up.alike.kept up.alike.nodes.state leaves))
        (refl, refl) (all_both a number (Down k) (Down k) [] [] [] refl)

  -- ---- endpoints stay safe

  safe_put : (m : Places) (number : ℕ) (x : Machine)
      → ((k : ℕ) → IsSafeMachine (map.get m k)) → IsSafeMachine (Some x)
      → (k : ℕ) → IsSafeMachine (map.get (map.insert m number x) k)
  safe_put m number x safe here k =
      subst IsSafeMachine (sym (map.get-insert nat_cmp_total m number x k))
      (either (eq_by_cmp nat_cmp k number))
    where
      either : (b : Bool) → IsSafeMachine (cond b (Some x) (map.get m k))
      either true = here
      either false = safe k

  deed_safe : {m n : Machines} {d : Deed} → AreSafeMachines m → Happens m d n
      → AreSafeMachines n
  deed_safe {m} safe (Happens.born {number} {left = left} {n} at blank opening) =
      safe_put m.nodes number (Up (record { node = n; kept = left })) safe (opens_safe opening)
  deed_safe safe (Happens.not_born at blank opening) = safe
  deed_safe {m} safe (Happens.opens {number} {left = left} {n} at opening) =
      safe_put m.nodes number (Up (record { node = n; kept = left })) safe (opens_safe opening)
  deed_safe {m} safe (Happens.not_opened {number} {left = left} at opening) =
      safe_put m.nodes number (Down left) safe tt
  deed_safe {m} safe (Happens.acts {number} {s} {o = o} at free step) =
      safe_put m.nodes number (Up o.after) safe
      (step_safe s (subst IsSafeMachine at (safe number)) step)
  deed_safe {m} safe (Happens.gets {number = number} {s} {o = o} at there step) =
      safe_put m.nodes number (Up o.after) safe
      (step_safe s (subst IsSafeMachine at (safe number)) step)
  deed_safe {m} safe (Happens.ends {number} {k = k} at leaves) =
      safe_put m.nodes number (Down k) safe tt

  -- ---- turns

  one_turn : (m w : Machines) (t : Turn) (ts : List Turn) → DeedToo m w t.deed t.after
      → ((v : Machines) → AreAlikeAll tag t.after v → TurnsToo tag t.after v ts)
      → TurnsToo tag m w (t ∷ ts)
  one_turn m w t ts (skipped hidden alike) again =
      let rest = again w alike in
      record {
        others = rest.others;
        are = rest.are;
        beside = TurnsSideBySide.alone hidden rest.beside;
        alike = rest.alike;
      }
  one_turn m w t ts (done {e} {v} shown happens same alike) again =
      let rest = again v alike in
      record {
        others = record { deed = e; after = v } ∷ rest.others;
        are = (happens, rest.are);
        beside = TurnsSideBySide.both shown same rest.beside;
        alike = rest.alike;
      }

  pub turns_too : (m w : Machines) (ts : List Turn) → AreSafeMachines m → AreAlikeAll tag m w
      → AreSealedTurns tag m ts → TurnsToo tag m w ts
  turns_too m w [] safe alike run =
      record { others = []; are = tt; beside = TurnsSideBySide.ends; alike = alike }
  turns_too m w (t ∷ ts) safe alike run =
      one_turn m w t ts (deed_too alike safe run.1 run.0)
      (λ v near. turns_too t.after v ts (deed_safe safe run.0) near run.2)

  -- ---- where runs begin

  itself : (o : Option Machine) → AreAlikeMachines tag o o
  itself None = tt
  itself (Some (Down k)) = refl
  itself (Some (Up s)) = same_kept tag s

  pub same_all : (m : Machines) → AreAlikeAll tag m m
  same_all m = record {
    desks = refl;
    each = λ number. itself (map.get m.nodes number);
    sent = λ one there. inr there;
  }

  pub shown_too : (m w : Machines) (number : ℕ) (s : KeptNode) → AreAlikeAll tag m w
      → map.get m.nodes number ≡ Some (Up s) → ShowsToo w number s
  shown_too m w number s a at =
      let up = up_too s (map.get w.nodes number) (found a number at) in
      record {
        node = up.node;
        there = up.is;
        saved = sym up.alike.nodes.saved;
        published = sym up.alike.nodes.published;
      }

pub none_safe : (desks : ℕ) → AreSafeMachines (no_machine desks)
none_safe desks number = subst IsSafeMachine (sym (map.get-empty nat_cmp number)) tt

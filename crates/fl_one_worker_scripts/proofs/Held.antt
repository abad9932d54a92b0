-- What the keepers of crews hold before and behind a call.
use Rattle.std.proofs.Common.{◌≡◌, ◌∙◌, ◌⊎◌, inl, inr, ℕ, List, Option, Some, Result}
use Rattle.std.proofs.Common.{refl, sym, ap, subst}
use Rattle.std.specs.FinMap as fin
use Rattle.std.specs.FinMap.{nat_cmp-IsAntisymmetric}
use Rattle.std.specs.Cmp.{nat_cmp_total}
use Rattle.std.specs.Ordering.{nat_cmp}
use Rattle.fl_bench.specs.laws.Puts.{get_here, get_put}
use Rattle.fl_jobs.specs.declared.job.Job.{Job}
use Rattle.fl_labels.specs.SetBy.{SetBy}
use Rattle.fl_ops.specs.OpOrder.{op_cmp}
use Rattle.fl_store.specs.Custody.{Custody}
use Rattle.fl_store.specs.Kept.{Kept}
use Rattle.fl_system.specs.declared.answer.Fault.{Fault}
use Rattle.fl_system.specs.declared.reply.Reply.{Reply}
use Rattle.fl_system.specs.State.{NodeState, kept_of}
use Rattle.fl_wire.specs.declared.packet.Packet.{Packet}
use Rattle.fl_calls.specs.Over.{Trusts}
use Rattle.fl_workers.specs.Over.{CrewOver}
use Rattle.fl_crew_calls.specs.Batches.{ServesBatch}
use Rattle.fl_crew_calls.specs.Over.{CrewsOver, IsCrewAt, with_crew, with_sent}
use Rattle.fl_crew_calls.specs.Told.{all_sent}
use Rattle.fl_one_worker_calls.specs.Crews.{AreSound, AreWhole}
use Rattle.fl_one_worker_scripts.proofs.Ties.{AreHeld}

-- what is found at one place is one value
one_crew : {A : Type 0} {o : Option (Option A)} (x y : A) → o ≡ Some (Some x) → o ≡ Some (Some y)
    → x ≡ y
one_crew x y e f = cc

abbrev keeping : ℕ → ℕ → SetBy op_cmp → Kept
keeping number boot saved = record { number = number; boot = boot; saved = saved }

same_kept : (n m : NodeState) → m.number ≡ n.number → m.boot ≡ n.boot → m.saved ≡ n.saved
    → kept_of m ≡ kept_of n
same_kept n m number boot saved =
    ap (λ (k : ℕ). keeping k m.boot m.saved) number
    ∙ (ap (λ (b : ℕ). keeping n.number b m.saved) boot
    ∙ ap (λ (s : SetBy op_cmp). keeping n.number n.boot s) saved)

module _ {K M : Type 0} where
  -- a crew is the one that was put there, or was there
  put_crew : (crews : CrewsOver K M) (number : ℕ) (put : CrewOver K) (other : ℕ)
      (crew : CrewOver K) → IsCrewAt (with_crew crews number put) other crew
      → (crew ≡ put) ⊎ IsCrewAt crews other crew
  put_crew crews number put other crew at =
      elim (get_put nat_cmp_total nat_cmp-IsAntisymmetric crews.crews number (Some put) other) [
        | inl here ↦ inl (one_crew crew put at here.1)
        | inr same ↦ inr (sym same ∙ at)
      ]

module _ {K M : Type 0} (custody : Custody K) where
  -- ---- a call that changes no crew

  pub same_trusts : (old new : CrewsOver K M) → new.crews ≡ old.crews → AreSound custody new
      → (number : ℕ) (crew : CrewOver K) → IsCrewAt old number crew
      → Trusts custody crew.node.keeper
  same_trusts old new same sound number crew at =
      (sound number crew (ap (λ (m : fin.FinMap nat_cmp (Option (CrewOver K))). fin.get m number)
      same ∙ at)).trusts

  pub same_held : (old new : CrewsOver K M) → new.crews ≡ old.crews → AreHeld custody old
      → AreHeld custody new
  same_held old new same held number crew at k may =
      held number crew (ap (λ (m : fin.FinMap nat_cmp (Option (CrewOver K))). fin.get m number)
      (sym same) ∙ at) k may

  -- ---- a batch

  pub batch_maker : (old : CrewsOver K M) (number : ℕ) (jobs : List Job)
      (packets : List Packet) (result : Result (List Reply) Fault) (new : CrewsOver K M)
      → ServesBatch custody old number jobs packets result new → new.maker ≡ old.maker
  batch_maker old number jobs packets result new (ServesBatch.served at served) = refl
  batch_maker old number jobs packets result new (ServesBatch.unbegun at why unbegun still) = refl
  batch_maker old number jobs packets result new ServesBatch.no_room = refl
  batch_maker old number jobs packets result new (ServesBatch.no_crew none) = refl

  -- the keeper of the crew might be trusted before
  pub batch_trusts : (old : CrewsOver K M) (number : ℕ) (jobs : List Job)
      (packets : List Packet) (result : Result (List Reply) Fault) (new : CrewsOver K M)
      → AreSound custody new → ServesBatch custody old number jobs packets result new
      → (crew : CrewOver K) → IsCrewAt old number crew → Trusts custody crew.node.keeper
  batch_trusts old number jobs packets result new sound
      (ServesBatch.served {crew = was} {crew' = is} {es} at served) crew there =
      let here : IsCrewAt (with_sent (with_crew old number is) (all_sent es)) number is =
      get_here nat_cmp_total old.crews number (Some is) in
      let trusts = (sound number is here).trusts in
      let passed = served.serves trusts.honest in
      let before = passed.1 trusts.kept trusts.held in
      subst (λ (c : CrewOver K). Trusts custody c.node.keeper) (one_crew was crew at there)
      (record { honest = passed.0; kept = before.0; held = before.1 })
  batch_trusts old number jobs packets result new sound
      (ServesBatch.unbegun {crew = was} {crew' = is} at why unbegun still) crew there =
      let here : IsCrewAt (with_crew old number is) number is =
      get_here nat_cmp_total old.crews number (Some is) in
      subst (λ (c : CrewOver K). Trusts custody c.node.keeper) (one_crew was crew at there)
      (subst (λ (keeper : K). Trusts custody keeper) unbegun.node.keeper
      (sound number is here).trusts)
  batch_trusts old number jobs packets result new sound ServesBatch.no_room crew there =
      (sound number crew there).trusts
  batch_trusts old number jobs packets result new sound (ServesBatch.no_crew none) crew there =
      (sound number crew there).trusts

  put_held : (old : CrewsOver K M) (number : ℕ) (put : CrewOver K) → AreHeld custody old
      → ((k : Kept) → custody.may_hold put.node.keeper k → k ≡ kept_of put.node.node)
      → AreHeld custody (with_crew old number put)
  put_held old number put held here other crew at k may =
      elim (put_crew old number put other crew at) [
        | inl is ↦ (subst (λ (c : CrewOver K). custody.may_hold c.node.keeper k
            → k ≡ kept_of c.node.node) (sym is) (here k)) may
        | inr was ↦ held other crew was k may
      ]

  -- what a keeper may hold is what its node has saved, as before
  pub batch_held : (old : CrewsOver K M) (number : ℕ) (jobs : List Job)
      (packets : List Packet) (result : Result (List Reply) Fault) (new : CrewsOver K M)
      → AreHeld custody old → AreSound custody new → AreWhole custody new
      → ServesBatch custody old number jobs packets result new → AreHeld custody new
  batch_held old number jobs packets result new held sound whole
      (ServesBatch.served {crew = was} {crew' = is} {es} at served) =
      let here : IsCrewAt (with_sent (with_crew old number is) (all_sent es)) number is =
      get_here nat_cmp_total old.crews number (Some is) in
      let passed = served.serves (sound number is here).trusts.honest in
      put_held old number is held (λ k may.
      let before = passed.1 k may in
      before.2.kept (whole number is here) (held number was at before.0 before.1))
  batch_held old number jobs packets result new held sound whole
      (ServesBatch.unbegun {crew = was} {crew' = is} at why unbegun still) =
      let its = unbegun.node in
      put_held old number is held (λ k may.
      held number was at k (subst (λ (keeper : K). custody.may_hold keeper k) its.keeper may)
      ∙ sym (same_kept was.node.node is.node.node its.number its.boot its.saved))
  batch_held old number jobs packets result new held sound whole ServesBatch.no_room = held
  batch_held old number jobs packets result new held sound whole (ServesBatch.no_crew none) = held

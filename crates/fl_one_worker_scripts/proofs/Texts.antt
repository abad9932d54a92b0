-- What is told of crews, and changes none, is what is told of their nodes in the world.
use Rattle.std.proofs.Common.{◌≡◌, ◌∙◌, ℕ, List, Ok, Err, refl, sym, subst}
use Rattle.fl_labels.specs.SetBy as set
use Rattle.fl_ops.specs.declared.op.Op.{Op}
use Rattle.fl_store.specs.Custody.{Custody}
use Rattle.fl_makers.specs.Making.{Making}
use Rattle.fl_system.specs.World.{World}
use Rattle.fl_calls.specs.Answer.{Answer, text}
use Rattle.fl_calls.specs.Calls as calls
use Rattle.fl_calls.specs.Over.{Trusts}
use Rattle.fl_turns.specs.Answer.{said}
use Rattle.fl_turn_laws.specs.Certain.{IsSure}
use Rattle.fl_workers.specs.Over.{CrewOver}
use Rattle.fl_crew_calls.specs.Asking as asking
use Rattle.fl_crew_calls.specs.Over.{CrewsOver, IsCrewAt}
use Rattle.fl_one_worker_calls.specs.Crews.{AreSound}
use Rattle.fl_one_worker_scripts.proofs.Ties.{AreHeld, Meets, Ties}
use Rattle.fl_one_worker_scripts.proofs.Mirroring.{is_running, is_serving, mirrored, rests}
use Rattle.fl_one_worker_scripts.proofs.Checking.{checks_same}
use Rattle.fl_one_worker_scripts.proofs.Held.{same_held, same_trusts}

module _ {K M : Type 0} (custody : Custody K) (making : Making M K) (maker : M)
    (between : CrewsOver K M) (v : World) (ties : Ties custody making maker between v) where
  -- ---- what a node has published

  pub texts : (new : CrewsOver K M) (number : ℕ) (answer : Answer) → IsSure (said answer)
      → asking.TellsText between number answer new
      → Meets making maker (λ w'. calls.Tells v number answer w') new
  texts new number answer sure (asking.TellsText.tells {crew} at serves) =
      let it = mirrored between v number crew ties at in
      rests between v (λ w'. calls.Tells v number answer w') ties
      (subst (λ (ops : List Op). calls.Tells v number (text (set.of_list ops)) v)
      it.mirrors.published
      (calls.Tells.running it.there (is_running it.place.node.state it.mirrors.still)))
  texts new number answer sure (asking.TellsText.stopped {crew} at halted) =
      absurd (halted (is_serving crew (ties.sound number crew at)))
  texts new number answer sure (asking.TellsText.no_room at serves some) =
      absurd (sure.memory refl)

  -- ---- what two have

  pub unites : (new : CrewsOver K M) (first second : ℕ) (answer : Answer) → IsSure (said answer)
      → asking.Unites between first second answer new
      → Meets making maker (λ w'. calls.Unites v first second answer w') new
  unites new first second answer sure
      (asking.Unites.tells {one} {other} at there serves too) =
      let a = mirrored between v first one ties at in
      let b = mirrored between v second other ties there in
      rests between v (λ w'. calls.Unites v first second answer w') ties
      (subst (λ (ops : List Op). calls.Unites v first second
      (text (set.union (set.of_list ops) (set.of_list other.node.node.published))) v)
      a.mirrors.published
      (subst (λ (ops : List Op). calls.Unites v first second
      (text (set.union (set.of_list a.place.node.published) (set.of_list ops))) v)
      b.mirrors.published
      (calls.Unites.running a.there b.there (is_running a.place.node.state a.mirrors.still)
      (is_running b.place.node.state b.mirrors.still))))
  unites new first second answer sure (asking.Unites.stopped {number} {crew} which at halted) =
      absurd (halted (is_serving crew (ties.sound number crew at)))
  unites new first second answer sure (asking.Unites.no_room at there serves too some) =
      absurd (sure.memory refl)

  -- ---- what a packet would bring

  pub checks : (new : CrewsOver K M) (number : ℕ) (bytes : List ℕ) (answer : Answer)
      → IsSure (said answer) → asking.ChecksAt between number bytes answer new
      → Meets making maker (λ w'. calls.ChecksAt v number bytes answer w') new
  checks new number bytes answer sure (asking.ChecksAt.no_packet fault) =
      rests between v (λ w'. calls.ChecksAt v number bytes answer w') ties
      (calls.ChecksAt.no_packet fault)
  checks new number bytes answer sure (asking.ChecksAt.no_room whole some) =
      absurd (sure.memory refl)
  checks new number bytes answer sure (asking.ChecksAt.stopped {crew} at halted spells) =
      absurd (halted (is_serving crew (ties.sound number crew at)))
  checks new number bytes answer sure
      (asking.ChecksAt.tells {crew} {packet} {count} at serves spells counts) =
      let it = mirrored between v number crew ties at in
      rests between v (λ w'. calls.ChecksAt v number bytes answer w') ties
      (calls.ChecksAt.tells it.there spells
      (checks_same crew.node.node it.place.node (sym it.mirrors.number) (sym it.mirrors.saved)
      (it.mirrors.idle ∙ sym it.mirrors.still) packet (Ok count) counts))
  checks new number bytes answer sure
      (asking.ChecksAt.refuses {crew} {packet} {fault} at serves spells counts) =
      let it = mirrored between v number crew ties at in
      rests between v (λ w'. calls.ChecksAt v number bytes answer w') ties
      (calls.ChecksAt.refuses it.there spells
      (checks_same crew.node.node it.place.node (sym it.mirrors.number) (sym it.mirrors.saved)
      (it.mirrors.idle ∙ sym it.mirrors.still) packet (Err fault) counts))

-- ---- no crew changes

module _ {K M : Type 0} where
  texts_still : (between new : CrewsOver K M) (number : ℕ) (answer : Answer)
      → asking.TellsText between number answer new → new.crews ≡ between.crews
  texts_still between new number answer (asking.TellsText.tells at serves) = refl
  texts_still between new number answer (asking.TellsText.stopped at halted) = refl
  texts_still between new number answer (asking.TellsText.no_room at serves some) = refl

  unites_still : (between new : CrewsOver K M) (first second : ℕ) (answer : Answer)
      → asking.Unites between first second answer new → new.crews ≡ between.crews
  unites_still between new first second answer (asking.Unites.tells at there serves too) = refl
  unites_still between new first second answer (asking.Unites.stopped which at halted) = refl
  unites_still between new first second answer (asking.Unites.no_room at there serves too some) =
      refl

  checks_still : (between new : CrewsOver K M) (number : ℕ) (bytes : List ℕ) (answer : Answer)
      → asking.ChecksAt between number bytes answer new → new.crews ≡ between.crews
  checks_still between new number bytes answer (asking.ChecksAt.no_packet fault) = refl
  checks_still between new number bytes answer (asking.ChecksAt.no_room whole some) = refl
  checks_still between new number bytes answer (asking.ChecksAt.stopped at halted spells) = refl
  checks_still between new number bytes answer (asking.ChecksAt.tells at serves spells counts) =
      refl
  checks_still between new number bytes answer (asking.ChecksAt.refuses at serves spells counts) =
      refl

module _ {K M : Type 0} (custody : Custody K) (between new : CrewsOver K M) where
  pub texts_trusts : (number : ℕ) (answer : Answer) → AreSound custody new
      → asking.TellsText between number answer new → (crew : CrewOver K)
      → IsCrewAt between number crew → Trusts custody crew.node.keeper
  texts_trusts number answer sound told crew at =
      same_trusts custody between new (texts_still between new number answer told) sound number
      crew at

  pub texts_held : (number : ℕ) (answer : Answer) → AreHeld custody between
      → asking.TellsText between number answer new → AreHeld custody new
  texts_held number answer held told =
      same_held custody between new (texts_still between new number answer told) held

  -- of each crew
  pub unites_trusts : (first second : ℕ) (answer : Answer) → AreSound custody new
      → asking.Unites between first second answer new → (number : ℕ) (crew : CrewOver K)
      → IsCrewAt between number crew → Trusts custody crew.node.keeper
  unites_trusts first second answer sound unites number crew at =
      same_trusts custody between new (unites_still between new first second answer unites) sound
      number crew at

  pub unites_held : (first second : ℕ) (answer : Answer) → AreHeld custody between
      → asking.Unites between first second answer new → AreHeld custody new
  unites_held first second answer held unites =
      same_held custody between new (unites_still between new first second answer unites) held

  pub checks_trusts : (number : ℕ) (bytes : List ℕ) (answer : Answer) → AreSound custody new
      → asking.ChecksAt between number bytes answer new → (crew : CrewOver K)
      → IsCrewAt between number crew → Trusts custody crew.node.keeper
  checks_trusts number bytes answer sound checks crew at =
      same_trusts custody between new (checks_still between new number bytes answer checks) sound
      number crew at

  pub checks_held : (number : ℕ) (bytes : List ℕ) (answer : Answer) → AreHeld custody between
      → asking.ChecksAt between number bytes answer new → AreHeld custody new
  checks_held number bytes answer held checks =
      same_held custody between new (checks_still between new number bytes answer checks) held

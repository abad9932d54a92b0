-- What keepers of crews may hold stays what their nodes have saved, whatever a line asks.
use Rattle.std.proofs.Common.{ℕ, subst, sym}
use Rattle.fl_calls.specs.Answer.{Answer as Said}
use Rattle.fl_crew_calls.specs.Asking.{ChecksAt, DeliversAt, OnceOpen, RestartsAt, TellsAt, TellsText, Unites}
use Rattle.fl_crew_calls.specs.Calls.{AsksCrew, Delivers, IsNone, RespondsTo}
use Rattle.fl_crew_calls.specs.Over.{CrewsOver}
use Rattle.fl_makers.specs.Making.{Making}
use Rattle.fl_script.specs.declared.line.Line.{Line}
use Rattle.fl_script.specs.declared.line.Line.TheVariants.{Aliases, Audit, Node, Union}
use Rattle.fl_script.specs.declared.request.Request.{Request}
use Rattle.fl_script.specs.declared.request.Request.TheVariants.{Job, Begin, Deliver, BeginDeliver, Tell, Save, Publish, Cancel, Restart, Text, Check}
use Rattle.fl_store.specs.Custody.{Custody}
use Rattle.fl_one_worker_scripts.specs.Alike.{LeavesWell}
use Rattle.fl_one_worker_scripts.proofs.Delivering.{delivers_held, delivers_trusts}
use Rattle.fl_one_worker_scripts.proofs.Opening.{once_held, once_trusts}
use Rattle.fl_one_worker_scripts.proofs.Restarting.{restarts_held, restarts_trusts}
use Rattle.fl_one_worker_scripts.proofs.Telling.{tells_held, tells_trusts}
use Rattle.fl_one_worker_scripts.proofs.Texts.{checks_held, checks_trusts, texts_held, texts_trusts}
use Rattle.fl_one_worker_scripts.proofs.Texts.{unites_held, unites_trusts}
use Rattle.fl_one_worker_scripts.proofs.Ties.{AreHeld}

module _ {K M : Type 0} (custody : Custody K) (making : Making M K) (old : CrewsOver K M)
    (held : AreHeld custody old) where
  none_held : {what : Said} {new : CrewsOver K M} → IsNone old what new → AreHeld custody new
  none_held none = subst (λ (c : CrewsOver K M). AreHeld custody c) (sym none.1) held

  delivered_held : (number packet : ℕ) (what : Said) (new : CrewsOver K M) → LeavesWell custody new
      → Delivers custody making old number packet what new → AreHeld custody new
  delivered_held number packet what new well (Delivers.not_sent none) = held
  delivered_held number packet what new well (Delivers.comes {sent = sent} there once) =
      once_held custody making old number (λ between. DeliversAt custody between number sent) what
      new
      held well.sound
      (λ between done. delivers_trusts custody between number sent new what well.sound done)
      (λ between kept done. delivers_held custody between number sent new what kept well.sound
      well.whole done) once

  united_held : (first second : ℕ) (what : Said) (new : CrewsOver K M) → LeavesWell custody new
      → OnceOpen custody making old first
      (λ between. OnceOpen custody making between second (λ u. Unites u first second)) what new
      → AreHeld custody new
  united_held first second what new well once =
      once_held custody making old first
      (λ between. OnceOpen custody making between second (λ u. Unites u first second)) what new held
      well.sound
      (λ between done. once_trusts custody making between second
      (λ u. Unites u first second) what new first well.sound
      (λ u more. unites_trusts custody u new first second what well.sound more first) done)
      (λ between kept done. once_held custody making between second
      (λ u. Unites u first second) what new kept well.sound
      (λ u more. unites_trusts custody u new first second what well.sound more second)
      (λ u so more. unites_held custody u new first second what so more) done) once

  asked_held : (number : ℕ) (request : Request) (what : Said) (new : CrewsOver K M)
      → LeavesWell custody new → AsksCrew custody making old number request what new
      → AreHeld custody new
  asked_held number (Job job) what new well h = none_held h
  asked_held number (Begin pid order) what new well h = none_held h
  asked_held number (Deliver packet) what new well h = delivered_held number packet what new well h
  asked_held number (BeginDeliver packet) what new well h = none_held h
  asked_held number Tell what new well h =
      once_held custody making old number (λ between. TellsAt between number) what new
      held
      well.sound (λ between done. tells_trusts custody between new number what well.sound done)
      (λ between kept done. tells_held custody between new number what kept done) h
  asked_held number Save what new well h = none_held h
  asked_held number Publish what new well h = none_held h
  asked_held number Cancel what new well h = none_held h
  asked_held number (Restart keeps) what new well h =
      once_held custody making old number (λ between. RestartsAt custody between number keeps) what
      new
      held well.sound
      (λ between done. restarts_trusts custody between number keeps what new well.sound done)
      (λ between kept done. restarts_held custody between number keeps what new kept well.sound
      done) h
  asked_held number Text what new well h =
      once_held custody making old number (λ between. TellsText between number) what new
      held
      well.sound (λ between done. texts_trusts custody between new number what well.sound done)
      (λ between kept done. texts_held custody between new number what kept done) h
  asked_held number (Check bytes) what new well h =
      once_held custody making old number (λ between. ChecksAt between number bytes) what new
      held
      well.sound
      (λ between done. checks_trusts custody between new number bytes what well.sound done)
      (λ between kept done. checks_held custody between new number bytes what kept done) h

  pub responds_held : (line : Line) (what : Said) (new : CrewsOver K M) → LeavesWell custody new
      → RespondsTo custody making old line what new
      → AreHeld custody new
  responds_held (Node number request) what new well h =
      asked_held number request what new well h
  responds_held (Union first second) what new well h = united_held first second what new well h
  responds_held Audit what new well h = none_held h
  responds_held Aliases what new well h = none_held h

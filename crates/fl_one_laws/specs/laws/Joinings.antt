-- A node joins a world in one way.
use Rattle.std.proofs.Common.{◌≡◌, ◌<◌, ℕ, refl, ap, arith, Err}
use Rattle.fl_labels.specs.declared.name.Name.{Name}
use Rattle.fl_bench.specs.laws.Puts.{none_some}
use Rattle.fl_jobs.specs.declared.answer.Refusal.TheVariants.{NamesSpent}
use Rattle.fl_store.specs.Kept.{Kept}
use Rattle.fl_system.specs.declared.answer.Fault.{Fault}
use Rattle.fl_system.specs.declared.answer.Fault.TheVariants as faults
use Rattle.fl_system.specs.declared.reply.Reply.{Reply}
use Rattle.fl_system.specs.declared.reply.Reply.TheVariants as replies
use Rattle.fl_system.specs.Openings.{Opens, FailsToOpen}
use Rattle.fl_system.specs.World.{World}
use Rattle.fl_system.specs.Joins.{Joins, IsLeastName}
use Rattle.fl_one_laws.specs.Ample.{IsAmple}
use Rattle.fl_one_laws.specs.laws.Deliveries.{tied_names}

one_least : (P : Name → Type 0) (m n : Name) → IsLeastName P m → IsLeastName P n → m ≡ n
one_least P m n h k = tied_names m n (k.least m h.holds) (h.least n k.holds)

-- why what is kept is not opened, but for want of memory and a keeper that failed
data NotOpened (own : Kept → Type 0) (k : Kept) : Fault → Type 0 where
  spent : own k → k.boot ≡ 4294967295 → NotOpened own k (faults.Refused NamesSpent)
  foreign : ¬ own k → NotOpened own k faults.WrongNode

fails_so : {own : Kept → Type 0} {k : Kept} {fault : Fault} → FailsToOpen own k fault
    → IsAmple (replies.Refused fault) → NotOpened own k fault
fails_so FailsToOpen.no_room p = absurd (p.memory refl)
fails_so FailsToOpen.keeper_failed p = absurd (p.keeper refl)
fails_so (FailsToOpen.other not_own) p = NotOpened.foreign not_own

not_opened : {desks : ℕ} {own : Kept → Type 0} {k left : Kept} {fault : Fault} → Opens desks own k (Err fault) left
    → IsAmple (replies.Refused fault) → NotOpened own k fault
not_opened (Opens.spent own all) p = NotOpened.spent own all
not_opened (Opens.refused why left) p = fails_so why p

module _ {own : Kept → Type 0} {k : Kept} where
  one_reason : {f g : Fault} → NotOpened own k f → NotOpened own k g → f ≡ g
  one_reason (NotOpened.spent is all) (NotOpened.spent so last) = refl
  one_reason (NotOpened.spent is all) (NotOpened.foreign not_own) = absurd (not_own is)
  one_reason (NotOpened.foreign not_own) (NotOpened.spent is all) = absurd (not_own is)
  one_reason (NotOpened.foreign not_own) (NotOpened.foreign nor) = refl

  -- what is its own, with a boot left, is opened
  not_refused : {f : Fault} → own k → k.boot < 4294967295 → NotOpened own k f → ⊥
  not_refused is left (NotOpened.spent so all) = omega (arith, left, all)
  not_refused is left (NotOpened.foreign not_own) = not_own is

module _ {w : World} {number : ℕ} {k : Kept} where
  pub one_joining : {r r' : Reply} {a b : World} → Joins w number k r a → Joins w number k r' b → IsAmple r → IsAmple r'
      → (r ≡ r') × (a ≡ b)
  one_joining (Joins.there at) (Joins.there at') p q = (refl, refl)
  one_joining (Joins.there at) (Joins.not_opened free opening) p q = absurd (none_some free at)
  one_joining (Joins.there at) (Joins.clash free is left least) p q = absurd (none_some free at)
  one_joining (Joins.there at) (Joins.impostor free is left none stray) p q = absurd (none_some free at)
  one_joining (Joins.there at) (Joins.joins free is left names none strays) p q = absurd (none_some free at)
  one_joining (Joins.not_opened free opening) (Joins.there at) p q = absurd (none_some free at)
  one_joining (Joins.clash free is left least) (Joins.there at) p q = absurd (none_some free at)
  one_joining (Joins.impostor free is left none stray) (Joins.there at) p q = absurd (none_some free at)
  one_joining (Joins.joins free is left names none strays) (Joins.there at) p q = absurd (none_some free at)
  one_joining (Joins.not_opened free opening) (Joins.not_opened free' again) p q =
      (ap replies.Refused (one_reason (not_opened opening p) (not_opened again q)), refl)
  one_joining (Joins.not_opened free opening) (Joins.clash free' is left least) p q =
      absurd (not_refused is left (not_opened opening p))
  one_joining (Joins.not_opened free opening) (Joins.impostor free' is left none stray) p q =
      absurd (not_refused is left (not_opened opening p))
  one_joining (Joins.not_opened free opening) (Joins.joins free' is left names none strays) p q =
      absurd (not_refused is left (not_opened opening p))
  one_joining (Joins.clash free is left least) (Joins.not_opened free' opening) p q =
      absurd (not_refused is left (not_opened opening q))
  one_joining (Joins.impostor free is left none stray) (Joins.not_opened free' opening) p q =
      absurd (not_refused is left (not_opened opening q))
  one_joining (Joins.joins free is left names none strays) (Joins.not_opened free' opening) p q =
      absurd (not_refused is left (not_opened opening q))
  one_joining (Joins.clash {name} free is left least) (Joins.clash {name = other} free' is' left' least') p q =
      (ap (λ n. replies.Refused (faults.Clash n)) (one_least _ name other least least'), refl)
  one_joining (Joins.clash {name} free is left least) (Joins.impostor free' is' left' none stray) p q =
      absurd (none name least.holds)
  one_joining (Joins.clash {name} free is left least) (Joins.joins free' is' left' names none strays) p q =
      absurd (none name least.holds)
  one_joining (Joins.impostor free is left none stray) (Joins.clash {name} free' is' left' least) p q =
      absurd (none name least.holds)
  one_joining (Joins.joins free is left names none strays) (Joins.clash {name} free' is' left' least) p q =
      absurd (none name least.holds)
  one_joining (Joins.impostor {name} free is left none stray) (Joins.impostor {name = other} free' is' left' none' stray') p q =
      (ap (λ n. replies.Refused (faults.Impostor n)) (one_least _ name other stray stray'), refl)
  one_joining (Joins.impostor {name} free is left none stray) (Joins.joins free' is' left' names none' strays) p q =
      absurd (strays name stray.holds)
  one_joining (Joins.joins free is left names none strays) (Joins.impostor {name} free' is' left' none' stray) p q =
      absurd (strays name stray.holds)
  one_joining (Joins.joins free is left names none strays) (Joins.joins free' is' left' names' none' strays') p q =
      (refl, refl)

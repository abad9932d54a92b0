-- A record with one more decision.
use Rattle.std.proofs.Common.{◌≡◌, ◌≢◌, ℕ, zero, suc, List, [], ◌∷◌, ◌++◌, Option, Some, None, Ok}
use Rattle.std.proofs.Common.{Err, length, set, slice_get, sym, subst}
use Rattle.fl_labels.specs.declared.pid.Pid.{Pid}
use Rattle.fl_ops.specs.declared.op.Body.{Body}
use Rattle.fl_jobs.specs.declared.job.Job.{Job}
use Rattle.fl_store.specs.Custody.{Custody}
use Rattle.fl_system.specs.declared.answer.Fault.{Fault}
use Rattle.fl_crew_model.specs.declared.record.Ruling.{Ruling}
use Rattle.fl_crew_model.specs.declared.record.Ruling.TheVariants.{Made, Late, GivenUp}
use Rattle.fl_crew_model.specs.declared.record.Decision.{Decision}
use Rattle.fl_crew_model.specs.declared.record.FailedOrder.{FailedOrder}
use Rattle.fl_crew_model.specs.declared.record.Deed.{Deed}
use Rattle.fl_crew_model.specs.declared.record.Deed.TheVariants.{Decided, Delivered}
use Rattle.fl_crew_model.specs.Answered.{AreOwn, IsOwn, IsOrderFor}
use Rattle.fl_crew_model.specs.Books.{Books, IsDeed, Recorded}
use Rattle.fl_registrar.specs.declared.awaited.Awaited.{Awaited}
use Rattle.fl_registrar.specs.Over.{RegistrarOver, books_of}
use Rattle.fl_registrar.specs.Passing.{Passes}
use Rattle.fl_registrar.specs.Going.{GoesOn}
use Rattle.fl_registrar.specs.Ruling.{IsOf}
use Rattle.fl_registrar.specs.Apart.{AreAwaited, IsDone, IsFree, AreApart}
use Rattle.fl_registrar.specs.parts.Rules.{Rules}
use Rattle.fl_registrar.proofs.Passed.{weaker}

-- ---- one place changed

pub unset : (orders : List (Option Awaited)) (at place : ℕ) (order : Awaited)
    → slice_get (set orders at None) place ≡ Some (Some order)
    → slice_get orders place ≡ Some (Some order)
unset [] at place order h = h
unset (x ∷ xs) zero zero order h = absurd (cc)
unset (x ∷ xs) zero (suc place) order h = h
unset (x ∷ xs) (suc at) zero order h = h
unset (x ∷ xs) (suc at) (suc place) order h = unset xs at place order h

done_there : (orders : List (Option Awaited)) (place : ℕ) → IsDone (set orders place None) place
done_there [] place order h = absurd (cc)
done_there (x ∷ xs) zero order h = cc
done_there (x ∷ xs) (suc place) order h = done_there xs place order h

-- ---- whose it is

own_ruling : (job : Option Job) (body : Body) (pid : Pid) (ruling : Ruling) → IsOrderFor job body
    → IsOf body pid ruling → IsOwn job ruling
own_ruling job body pid (Made op) h is = subst (IsOrderFor job) (sym is) h
own_ruling job body pid (Late op maker) h is = subst (IsOrderFor job) (sym is.0) h
own_ruling job body pid (GivenUp reason) h is = (body, h)

pub own_more : (jobs : ℕ → ℕ → Option Job) (deeds : List Deed) (d : Decision)
    → IsOwn (jobs d.worker d.place) d.ruling → AreOwn jobs deeds
    → AreOwn jobs (deeds ++ Decided d ∷ [])
own_more jobs [] d is h = (is, tt)
own_more jobs (Decided x ∷ deeds) d is h = (h.0, own_more jobs deeds d is h.1)
own_more jobs (Delivered p ∷ deeds) d is h = own_more jobs deeds d is h

pub own_decided : (jobs : ℕ → ℕ → Option Job) (orders : List (Option Awaited)) (old new : List Deed)
    (d : Decision) (body : Body) (pid : Pid)
    → slice_get orders d.place ≡ Some (Some (record { worker = d.worker; body = body }))
    → IsOf body pid d.ruling → new ≡ old ++ Decided d ∷ [] → AreAwaited jobs orders
    → AreOwn jobs old → AreOwn jobs new
own_decided jobs orders old new d body pid at is more awaited own =
    subst (AreOwn jobs) (sym more)
    (own_more jobs old d (own_ruling (jobs d.worker d.place) body pid d.ruling
    (awaited d.place _ at) is) own)

-- ---- each once

free_more : (place : ℕ) (deeds : List Deed) (d : Decision) → d.place ≢ place → IsFree place deeds
    → IsFree place (deeds ++ Decided d ∷ [])
free_more place [] d other h = (other, tt)
free_more place (Decided x ∷ deeds) d other h = (h.0, free_more place deeds d other h.1)
free_more place (Delivered p ∷ deeds) d other h = free_more place deeds d other h

apart_more : (orders : List (Option Awaited)) (deeds : List Deed) (d : Decision) (order : Awaited)
    → slice_get orders d.place ≡ Some (Some order) → AreApart orders deeds
    → AreApart (set orders d.place None) (deeds ++ Decided d ∷ [])
apart_more orders [] d order at h = (done_there orders d.place, tt, tt)
apart_more orders (Decided x ∷ deeds) d order at h = (
  λ other there. h.0 other (unset orders d.place x.place other there),
  free_more x.place deeds d (λ same. h.0 order (subst (λ (k : ℕ). slice_get orders k ≡ Some
      (Some order)) same at)) h.1,
  apart_more orders deeds d order at h.2,
)
apart_more orders (Delivered p ∷ deeds) d order at h = apart_more orders deeds d order at h

pub apart_decided : (orders left : List (Option Awaited)) (old new : List Deed) (d : Decision)
    (order : Awaited) → slice_get orders d.place ≡ Some (Some order)
    → left ≡ set orders d.place None → new ≡ old ++ Decided d ∷ [] → AreApart orders old
    → AreApart left new
apart_decided orders left old new d order at is more h =
    subst (λ (o : List (Option Awaited)). AreApart o new) (sym is)
    (subst (AreApart (set orders d.place None)) (sym more) (apart_more orders old d order at h))

pub awaited_less : (jobs : ℕ → ℕ → Option Job) (orders left : List (Option Awaited)) (place : ℕ)
    → left ≡ set orders place None → AreAwaited jobs orders → AreAwaited jobs left
awaited_less jobs orders left place is h =
    subst (AreAwaited jobs) (sym is) (λ at order there. h at order
    (unset orders place at order there))

-- ---- the record

-- what law_registrar says of one more deed
abbrev pub MoreLaw : Type 0
MoreLaw =
    (number : ℕ) (b mid after : Books) (rs : List Deed) (deed : Deed)
    → Recorded number b rs mid → IsDeed number mid deed after
    → Recorded number b (rs ++ deed ∷ []) after

module _ {K : Type 0} (custody : Custody K) where
  pub decided_goes : (law : MoreLaw) (old mid : RegistrarOver K) (d : Decision)
      (orders : List (Option Awaited)) (deeds : List Deed) (rows : ℕ)
      → deeds ≡ old.deeds ++ Decided d ∷ [] → d.before ≡ length old.press.list
      → d.after ≡ length mid.press.list
      → Passes custody (Rules old d.worker (Ok d.ruling) mid) old.node.keeper mid.node.keeper
      → Passes custody (GoesOn old (record mid { orders = orders; deeds = deeds; rows = rows }))
      old.node.keeper mid.node.keeper
  decided_goes law old mid d orders deeds rows is before after =
      weaker custody _ _ old.node.keeper mid.node.keeper (λ honest k k' held rules. record {
        recorded = λ first h. subst (λ (rs : List Deed). Recorded old.node.node.number first rs
            (books_of mid)) (sym is)
            (law old.node.node.number first (books_of old) (books_of mid) old.deeds (Decided d) h
            (record { before = before; after = after; changes = rules.changes }));
        kept = rules.kept;
      })

  pub failed_goes : (old new : RegistrarOver K) (worker : ℕ) (fault : Fault)
      (failed : Option FailedOrder) → new.deeds ≡ old.deeds
      → Passes custody (Rules old worker (Err fault) new) old.node.keeper new.node.keeper
      → Passes custody (GoesOn old (record new { failed = failed })) old.node.keeper new.node.keeper
  failed_goes old new worker fault failed deeds =
      weaker custody _ _ old.node.keeper new.node.keeper (λ honest k k' held rules. record {
        recorded = λ first h. subst (λ (rs : List Deed). Recorded old.node.node.number first rs
            (books_of new)) (sym deeds)
            (subst (λ (b : Books). Recorded old.node.node.number first old.deeds b)
            (sym rules.changes) h);
        kept = rules.kept;
      })

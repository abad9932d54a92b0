-- What the arrival of a message owes.
use Rattle.std.proofs.Common.{◌≡◌, ◌∙◌, inl, inr, refl, sym, ap, subst, Bool, true, false, cond, List, [], ◌∷◌, ◌++◌, length, Option, Some, None, Result, Ok, Err, OnOk, OnErr}
use Rattle.std.specs.Prelude.{nat_le}
use Rattle.std.specs.Fn.{Once}
use Rattle.std.specs.Result.{IsErr, IsErrAnd}
use denote.Ref.{Bor, MutBor}
use Rattle.std.specs.declared.alloc.AllocError.{AllocError}
use Rattle.std.specs.FinMap as map
use Rattle.fl_labels.specs.Cap.{cap_cmp}
use Rattle.fl_labels.specs.SetBy as set
use Rattle.fl_labels.specs.SetBy.{SetBy}
use Rattle.fl_rules.specs.Pair as pairs
use Rattle.fl_rules.specs.Pair.{SafePair, PairFails}
use Rattle.fl_rules.specs.declared.pair.PairFault.{PairFault}
use Rattle.fl_message.specs.declared.message.Data.{Data}
use Rattle.fl_message.specs.declared.message.Letter.{Letter}
use Rattle.fl_mailbox.specs.Endpoints.{end_of}
use Rattle.fl_mailbox.specs.Pushes.{Pushes}
use Rattle.fl_mailbox.specs.declared.mailbox.Mailbox.{Mailbox}
use Rattle.fl_mailbox.specs.declared.endpoints.OpenEndpoint.{OpenEndpoint}
use Rattle.fl_jobs.specs.declared.answer.Refusal.{Refusal}
use Rattle.fl_jobs.specs.declared.answer.Refusal.TheVariants.{Busy, NoEndpoint, InboxFull, Memory}
use Rattle.fl_jobs.specs.declared.answer.Reply.TheVariants.{Arrived}
use Rattle.fl_jobs.specs.declared.answer.Outcome.{Outcome}
use Rattle.fl_bench.specs.Checks.{refuse_if, ◌then◌}
use Rattle.fl_bench.specs.Guards.{sent_from, entry_refusal, pair_check}
use Rattle.fl_bench.specs.Mailbox.{arrival_checks}
use Rattle.fl_bench.specs.Process.{held, is_under_way, is_busy}
use Rattle.fl_monitor.specs.parts.Acts.{Arrives}
use Rattle.fl_monitor.specs.parts.Checked.{Checked}
use Rattle.fl_bench.specs.declared.process.Holding.{Holding}
use Rattle.fl_bench.specs.declared.process.Holding.TheVariants.{Idle, Ordering}
use Rattle.fl_bench.specs.declared.process.Process.{Process}
use Rattle.fl_monitor.proofs.CheckLemmas.{fails_without, goes_on_with, has_failed, has_passed, passed_on, refuses_if, passes_if}

under_way : (h : Holding) → ((owned : SetBy cap_cmp) → h ≡ Idle owned → ⊥) → is_under_way h ≡ true
under_way (Idle owned) n = absurd (n owned refl)
under_way (Ordering owned) n = refl

-- ---- a message is checked

module _ (ch : Mailbox) (d : Data) where
  pub lands_nowhere : map.get ch.endpoints d.to ≡ None → Checked (arrival_checks ch d) (Err (NoEndpoint d.to))
  lands_nowhere none = Checked.failed (fails_without (map.get ch.endpoints d.to) (NoEndpoint d.to) _ none)

  -- the endpoint is open, and is looked at beside the end that the message left
  module _ (opened : OpenEndpoint) (there : map.get ch.endpoints d.to ≡ Some opened) (from to : pairs.End) (left : from ≡ sent_from d) (opens : to ≡ end_of opened) where
    checks_are : (verdict : Option Refusal) → (pair_check d opened then refuse_if (nat_le 256 (length ch.inbox)) InboxFull) verdict → arrival_checks ch d verdict
    checks_are verdict h = goes_on_with (map.get ch.endpoints d.to) (NoEndpoint d.to) _ opened there verdict h

    pub lands_unsafe : (fault : PairFault) → PairFails from to fault → (f : Refusal) → f ≡ entry_refusal d.to fault → Checked (arrival_checks ch d) (Err f)
    lands_unsafe fault h f e = Checked.failed (checks_are (Some f) (inl (fault, e, subst (λ x. PairFails x (end_of opened) fault) left (subst (λ x. PairFails from x fault) opens h))))

    module _ (safe : SafePair from to) (full : Bool) (told : full ≡ nat_le 256 (length ch.inbox)) where
      may_enter : SafePair (sent_from d) (end_of opened)
      may_enter = subst (λ x. SafePair x (end_of opened)) left (subst (SafePair from) opens safe)

      pub lands_full : full ≡ true → Checked (arrival_checks ch d) (Err InboxFull)
      lands_full e = Checked.failed (checks_are (Some InboxFull) (inr (may_enter, refuses_if InboxFull (nat_le 256 (length ch.inbox)) full told e)))

      pub lands : full ≡ false → Checked (arrival_checks ch d) (Ok tt)
      lands e = Checked.passed (checks_are None (may_enter, passes_if InboxFull (nat_le 256 (length ch.inbox)) full told e))

-- ---- a message comes

module _ (p : Process) where
  pub is_idle : (owned : SetBy cap_cmp) → p.owned ≡ Idle owned → refuse_if (is_busy p) Busy None
  is_idle owned is = sym (ap (λ h. cond (is_under_way h) (Some Busy) None) is)

  pub is_not_idle : ((owned : SetBy cap_cmp) → p.owned ≡ Idle owned → ⊥) → refuse_if (is_busy p) Busy (Some Busy)
  is_not_idle n = sym (ap (λ b. cond b (Some Busy) None) (under_way p.owned n))

module _ (p : Process) (d : Data) where
  pub comes_busy : ((owned : SetBy cap_cmp) → p.owned ≡ Idle owned → ⊥) → Arrives p d (Err Busy) p
  comes_busy n = Arrives.refused (inl (is_not_idle p n))

  module _ (owned : SetBy cap_cmp) (is : p.owned ≡ Idle owned) {r : Result (Unit {0}) Refusal} (checked : Checked (arrival_checks p.mailbox d) r) where
    -- the process, of which no operation is under way
    abbrev idle : Process
    idle = record p { owned = Idle owned }

    same : p ≡ idle
    same i = record p { owned = is i }

    pub turned_away : (f : Refusal) → r ≡ Err f → (q : Result Outcome Refusal) → IsErr q × IsErrAnd q (λ g. g ≡ f) → Arrives p d q idle
    turned_away f e q s =
        subst (λ q. Arrives p d q idle) (sym (passed_on q f s))
        (subst (Arrives p d (Err f)) same (Arrives.refused (inr (is_idle p owned is, has_failed checked f e))))

    module _ (u : Unit {0}) (e : r ≡ Ok u) where
      -- there is no memory for what it brings
      pub comes_starved : (after : SetBy cap_cmp) → after ≡ owned → (inbox : List Letter) → inbox ≡ p.mailbox.inbox
          → Arrives p d (Err Memory) (record p { owned = Idle after; mailbox = record p.mailbox { inbox = inbox } })
      comes_starved after still inbox same_inbox =
          subst (Arrives p d (Err Memory)) (λ i. record p { owned = (is ∙ ap Idle (sym still)) i; mailbox = record p.mailbox { inbox = sym same_inbox i } })
          (Arrives.no_room (is_idle p owned is, has_passed checked u e))

      pub comes_in : (joined : SetBy cap_cmp) → joined ≡ set.union owned d.message.caps → (inbox : List Letter) → inbox ≡ p.mailbox.inbox ++ record { sender = d.sender; message = d.message } ∷ []
          → Arrives p d (Ok (Outcome.Reply (Arrived d.receiver))) (record p { owned = Idle joined; mailbox = record p.mailbox { inbox = inbox } })
      comes_in joined union inbox behind =
          let owned_are : set.union (held p.owned) d.message.caps ≡ joined = ap (λ h. set.union (held h) d.message.caps) is ∙ sym union in
          subst (Arrives p d (Ok (Outcome.Reply (Arrived d.receiver)))) (λ i. record p { owned = Idle (owned_are i); mailbox = record p.mailbox { inbox = sym behind i } })
          (Arrives.arrives (is_idle p owned is, has_passed checked u e))

-- ---- a message and its capabilities come together

module _ {F : Type 0} (g : Once F (MutBor (SetBy cap_cmp) × (Bor Letter × Unit {0})) (Result (Unit {0}) AllocError × (MutBor (SetBy cap_cmp) × Unit {0})))
    (receive : F) (letter : Letter) (waiting : List Letter) (owned : SetBy cap_cmp) where
  -- a call that went well took the capabilities in
  abbrev TakesIn : Type 0
  TakesIn = (before later : MutBor (SetBy cap_cmp)) (shown : Bor Letter) → g.post receive (before, (shown, tt)) (Ok tt, (later, tt)) → later.now ≡ set.union before.now shown.now.message.caps

  -- one that did not changed nothing
  abbrev LeavesAll : Type 0
  LeavesAll = (before later : MutBor (SetBy cap_cmp)) (shown : Bor Letter) (e : AllocError) → g.post receive (before, (shown, tt)) (Err e, (later, tt)) → later.now ≡ before.now

  pub both_in : TakesIn → (r : Result (Unit {0}) AllocError) (left : List Letter) (after : SetBy cap_cmp) → Pushes g receive letter waiting owned r left after
      → OnOk r (left ≡ waiting ++ letter ∷ []) × OnOk r (after ≡ set.union owned letter.message.caps)
  both_in takes r left after (Pushes.pushed h) = (refl, sym h.leaves ∙ takes h.owner h.left h.shown h.met ∙ (λ i. set.union (h.owns i) (h.shows i).message.caps))
  both_in takes r left after (Pushes.refused h) = (tt, tt)
  both_in takes r left after Pushes.no_room = (tt, tt)

  pub none_in : LeavesAll → (r : Result (Unit {0}) AllocError) (left : List Letter) (after : SetBy cap_cmp) → Pushes g receive letter waiting owned r left after
      → OnErr r ((left ≡ waiting) × (after ≡ owned))
  none_in leaves r left after (Pushes.pushed h) = tt
  none_in leaves r left after (Pushes.refused {e} h) = (refl, sym h.leaves ∙ leaves h.owner h.left h.shown e h.met ∙ h.owns)
  none_in leaves r left after Pushes.no_room = (refl, refl)

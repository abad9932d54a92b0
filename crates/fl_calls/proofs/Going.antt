-- Calls one after another, and how a node is opened.
use Rattle.std.proofs.Common.{◌≡◌, ◌≢◌, ◌⊎◌, inl, inr, ℕ, refl, sym, subst, Option, Some, None, Result, Ok, Err, IfOk, IfErr, OnErr}
use Rattle.std.specs.FinMap as map
use Rattle.fl_store.specs.Custody.{Custody}
use Rattle.fl_store.specs.Kept.{Kept}
use Rattle.fl_makers.specs.Making.{IsOut, Making}
use Rattle.fl_system.specs.declared.answer.Fault.{Fault}
use Rattle.fl_system.specs.declared.answer.Fault.TheVariants as faults
use Rattle.fl_system.specs.declared.reply.Reply.TheVariants.{Booted, Refused}
use Rattle.fl_system.specs.Joins.{Joins}
use Rattle.fl_system.specs.World.{World, KeptNode}
use Rattle.fl_system.specs.WorldSteps.{IsAt}
use Rattle.fl_node.specs.Causes.{KeeperFails}
use Rattle.fl_node.specs.Over.{NodeOver}
use Rattle.fl_nodes.specs.Over.{WorldOver}
use Rattle.fl_nodes.specs.Goes.{MayBeNode, MayBe, AreHonest, Goes}
use Rattle.fl_nodes.specs.Joining.{TakesIn, GivesBack, IsRefused}
use Rattle.fl_calls.specs.Entering.{Enters, is_there, joins, is_refused}
use Rattle.fl_calls.specs.Over.{without_keeper, not_joined, openings_between}

-- a keeper failed, or it is something else
failed_or_not : (fault : Fault) → (fault ≡ faults.KeeperFailed) ⊎ (fault ≢ faults.KeeperFailed)
failed_or_not faults.KeeperFailed = inl refl
failed_or_not (faults.Refused refusal) = inr (λ e. cc)
failed_or_not (faults.Clash name) = inr (λ e. cc)
failed_or_not (faults.Impostor name) = inr (λ e. cc)
failed_or_not faults.WrongNode = inr (λ e. cc)
failed_or_not faults.Stopped = inr (λ e. cc)

module _ {K : Type 0} (custody : Custody K) where
  pub goes_then : (old mid new : WorldOver K) (s t u : World → World → Type 0)
      → ((w v w' : World) → s w v → t v w' → u w w')
      → Goes custody old mid s → Goes custody mid new t → Goes custody old new u
  goes_then old mid new s t u joined first second = record {
    honest = λ all. first.honest (second.honest all);
    comes = λ all after is.
        let between = second.comes all after is in
        let before = first.comes (second.honest all) between.0 between.1 in
        (before.0, before.1, joined before.0 between.0 after before.2 between.2);
  }

  pub goes_as : (old new : WorldOver K) (s t : World → World → Type 0) → ((w w' : World) → s w w' → t w w')
      → Goes custody old new s → Goes custody old new t
  goes_as old new s t leads goes = record {
    honest = goes.honest;
    comes = λ all after is.
        let before = goes.comes all after is in
        (before.0, before.1, leads before.0 after before.2);
  }

  -- nothing changes
  pub stays : (over : WorldOver K) (step : World → World → Type 0) → ((w : World) → MayBe custody over w → step w w)
      → Goes custody over over step
  stays over step h = record { honest = λ all. all; comes = λ all after is. (after, is, h after is) }

  none_there : (o : Option KeptNode) → MayBeNode custody.may_hold None o → o ≡ None
  none_there None h = refl
  none_there (Some s) h = absurd h

  -- what is not there is in no world that it may be
  pub not_there : (over : WorldOver K) (w : World) (number : ℕ) → map.get over.nodes number ≡ None → MayBe custody over w
      → map.get w.nodes number ≡ None
  not_there over w number none is =
      none_there _ (subst (λ o. MayBeNode custody.may_hold o (map.get w.nodes number)) none (is.nodes number))

  -- the node that stands there in a world that it may be
  pub record StandsAs (n : NodeOver K) (w : World) (number : ℕ) : Type 0 where
    pub s : KeptNode
    pub at : IsAt w number s
    pub same : s.node ≡ n.node

  stands : (n : NodeOver K) (w : World) (number : ℕ) (o : Option KeptNode) → map.get w.nodes number ≡ o → MayBeNode custody.may_hold (Some n) o
      → StandsAs n w number
  stands n w number None e h = absurd h
  stands n w number (Some s) e h = record { s = s; at = e; same = h.0 }

  pub there : (over : WorldOver K) (w : World) (number : ℕ) (n : NodeOver K) → map.get over.nodes number ≡ Some n
      → MayBe custody over w → StandsAs n w number
  there over w number n at is =
      stands n w number _ refl (subst (λ o. MayBeNode custody.may_hold o (map.get w.nodes number)) at (is.nodes number))

  module _ {M : Type 0} (making : Making M K) (maker left : M) where
    -- a node that is there is not opened
    pub entered : (over : WorldOver K) (number : ℕ) (n : NodeOver K) → map.get over.nodes number ≡ Some n
        → Goes custody over over (λ w w'. Enters (openings_between custody making maker left) w number (Ok tt) w')
    entered over number n at = stays over _ (λ w is. is_there (there over w number n at is).at)

    -- no keeper was made
    pub unmade : (over : WorldOver K) (number : ℕ) (fault : Fault) → map.get over.nodes number ≡ None → making.refuses maker number fault
        → Goes custody over over (λ w w'. Enters (openings_between custody making maker left) w number (Err fault) w')
    unmade over number fault none why = stays over _ (λ w is. is_refused (not_there over w number none is) (without_keeper why))

    -- a keeper was made, and its node joined
    pub joined : (old new : WorldOver K) (number boot : ℕ) (keeper : K) → map.get old.nodes number ≡ None
        → (custody.is_honest keeper → (k : Kept) → custody.may_hold keeper k → making.finds maker number k)
        → IsOut making left number
        → TakesIn custody old keeper new (λ w k w'. Joins w number k (Booted boot) w')
        → Goes custody old new (λ w w'. Enters (openings_between custody making maker left) w number (Ok tt) w')
    joined old new number boot keeper none made out takes = record {
      honest = λ all. (takes.honest all).0;
      comes = λ all after is.
          let before = takes.comes all after is in (
            before.0,
            before.2,
            joins (not_there old before.0 number none before.2)
                (made (takes.honest all).1 before.1 before.3, out) before.4,
          );
    }

    -- a keeper was made that did not fail, and its node did not join
    pub not_taken : (old new : WorldOver K) (number : ℕ) (fault : Fault) (keeper given : K) → fault ≢ faults.KeeperFailed
        → making.makes maker number keeper → map.get old.nodes number ≡ None → (custody.is_honest keeper → (k : Kept) → custody.may_hold keeper k → making.finds maker number k)
        → GivesBack custody old keeper new given (IsRefused number fault) → new ≡ old
        → Goes custody old new (λ w w'. Enters (openings_between custody making maker left) w number (Err fault) w')
    not_taken old new number fault keeper given other makes none made gives same =
        subst (λ x. Goes custody old x (λ w w'. Enters (openings_between custody making maker left) w number (Err fault) w')) (sym same)
        (record {
          honest = λ all. all;
          comes = λ all after is. (
            after,
            is,
            is_refused (not_there old after number none is) (not_joined keeper given makes other (λ trusted.
                let all' = subst (AreHonest custody) (sym same) all in
                let is' = subst (λ x. MayBe custody x after) (sym same) is in
                let was_honest = (gives.honest all' trusted.honest).1 in
                let before = gives.comes all' trusted.honest after trusted.kept is' trusted.held in (
                  was_honest,
                  before.1,
                  before.3,
                  made was_honest before.1 before.3,
                  subst (λ x. Joins x number before.1 (Refused fault) x) (sym before.4.same) before.4.joins,
                ))),
          );
        })

    -- the keeper failed, so that the maker refuses the node
    pub failed : (old new : WorldOver K) (number : ℕ) → map.get old.nodes number ≡ None → making.refuses maker number faults.KeeperFailed
        → new ≡ old
        → Goes custody old new (λ w w'. Enters (openings_between custody making maker left) w number (Err faults.KeeperFailed) w')
    failed old new number none why same =
        subst (λ x. Goes custody old x (λ w w'. Enters (openings_between custody making maker left) w number (Err faults.KeeperFailed) w')) (sym same)
        (unmade old number faults.KeeperFailed none why)

    pub joins_or_not : (broken : K → Type 0) (bad : Type 0) (old new : WorldOver K) (number : ℕ) (keeper : K)
        (joined_ : Result ℕ (Fault × K)) (result : Result (Unit {0}) Fault) → map.get old.nodes number ≡ None
        → making.makes maker number keeper
        → (custody.is_honest keeper → (k : Kept) → custody.may_hold keeper k → making.finds maker number k)
        → ((given : K) → broken given ⊎ (custody.is_honest given → bad) → making.refuses maker number faults.KeeperFailed)
        → IsOut making left number
        → IfOk joined_ (λ boot. result ≡ Ok tt) → IfErr joined_ (λ e. result ≡ Err e.0)
        → IfOk joined_ (λ boot. TakesIn custody old keeper new (λ w k w'. Joins w number k (Booted boot) w'))
        → IfErr joined_ (λ e. GivesBack custody old keeper new e.1 (IsRefused number e.0))
        → IfErr joined_ (λ e. KeeperFails (broken e.1) (custody.is_honest e.1) bad e.0) → OnErr joined_ (new ≡ old)
        → Goes custody old new (λ w w'. Enters (openings_between custody making maker left) w number result w')
    joins_or_not broken bad old new number keeper (Ok boot) result none makes made fails out ok err takes gives cause same =
        subst (λ r. Goes custody old new (λ w w'. Enters (openings_between custody making maker left) w number r w')) (sym ok)
        (joined old new number boot keeper none made out takes)
    joins_or_not broken bad old new number keeper (Err e) result none makes made fails out ok err takes gives cause same =
        subst (λ r. Goes custody old new (λ w w'. Enters (openings_between custody making maker left) w number r w')) (sym err)
        (by_fault (failed_or_not e.0))
      where
        by_fault : (e.0 ≡ faults.KeeperFailed) ⊎ (e.0 ≢ faults.KeeperFailed)
            → Goes custody old new (λ w w'. Enters (openings_between custody making maker left) w number (Err e.0) w')
        by_fault (inl is) =
            subst (λ f. Goes custody old new (λ w w'. Enters (openings_between custody making maker left) w number (Err f) w')) (sym is)
            (failed old new number none (fails e.1 (cause is)) same)
        by_fault (inr other) = not_taken old new number e.0 keeper e.1 other makes none made gives same

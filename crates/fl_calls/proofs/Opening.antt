-- What is done once a node is open.
use Rattle.std.proofs.Common.{◌≡◌, ℕ, sym, subst, Some, Result, Ok, Err}
use Rattle.std.specs.FinMap as map
use Rattle.fl_store.specs.Custody.{Custody}
use Rattle.fl_store.specs.Kept.{Kept}
use Rattle.fl_makers.specs.Making.{AllowsNoMore, IsOut, Making}
use Rattle.fl_system.specs.declared.answer.Fault.{Fault}
use Rattle.fl_system.specs.declared.reply.Reply.TheVariants.{Refused}
use Rattle.fl_system.specs.World.{World}
use Rattle.fl_node.specs.Over.{NodeOver}
use Rattle.fl_nodes.specs.Over.{WorldOver}
use Rattle.fl_nodes.specs.Goes.{MayBe, Goes}
use Rattle.fl_calls.specs.Answer.{Answer, replied}
use Rattle.fl_calls.specs.Entering.{Openings, Enters, OnceOpen, shut, opened}
use Rattle.fl_calls.specs.Over.{ClusterOver, openings_between, GoesOn}
use Rattle.fl_calls.specs.laws.Widening.{OpensMore, opens_until, enters_more, once_open_more}
use Rattle.fl_calls.proofs.Going.{goes_then, entered}

module _ {K M : Type 0} (custody : Custody K) (making : Making M K) where
  pub goes_on_as : (old new : ClusterOver K M) (s t : Openings → World → World → Type 0)
      → ((openings : Openings) (w w' : World) → MayBe custody old.world w → s openings w w' → t openings w w')
      → GoesOn custody making old new s → GoesOn custody making old new t
  goes_on_as old new s t leads goes = record {
    goes = record {
      honest = goes.goes.honest;
      comes = λ all after is.
          let before = goes.goes.comes all after is in
          (before.0, before.1, leads _ before.0 after before.1 before.2);
    };
    makes_less = goes.makes_less;
    finds_less = goes.finds_less;
    refuses_less = goes.refuses_less;
  }

  -- nothing changes
  pub rests : (old : ClusterOver K M) (s : Openings → World → World → Type 0)
      → ((openings : Openings) (w : World) → MayBe custody old.world w → s openings w w)
      → GoesOn custody making old old s
  rests old s leads = record {
    goes = record { honest = λ all. all; comes = λ all after is. (after, is, leads _ after is) };
    makes_less = λ number keeper made. made;
    finds_less = λ number k found. found;
    refuses_less = λ number fault why. why;
  }

  -- the node was opened, or was there, and then the world goes on
  pub once_open : (old mid : ClusterOver K M) (here new : WorldOver K) (maker : M) (number : ℕ)
      (result : Result (Unit {0}) Fault) (u : Unit {0}) (does : World → Answer → World → Type 0) (answer : Answer)
      → record { world = here; maker = maker } ≡ mid → result ≡ Ok u
      → GoesOn custody making old mid (λ openings w w'. Enters openings w number result w')
      → Goes custody here new (λ w w'. does w answer w')
      → GoesOn custody making old (record { world = new; maker = maker })
      (λ openings w w'. OnceOpen openings w number does answer w')
  once_open old mid here new maker number result u does answer is ok enters goes =
      let first = subst (λ m. GoesOn custody making old m (λ openings w w'. Enters openings w number result w')) (sym is) enters in
      record {
        goes = goes_then custody old.world here new
            (λ w w'. Enters (openings_between custody making old.maker maker) w number result w')
            (λ w w'. does w answer w')
            (λ w w'. OnceOpen (openings_between custody making old.maker maker) w number does answer w')
            (λ w v w' entered done. opened (subst (λ r. Enters (openings_between custody making old.maker maker) w number r v) ok entered) done) first.goes goes;
        makes_less = first.makes_less;
        finds_less = first.finds_less;
        refuses_less = first.refuses_less;
      }

  -- the node was not opened
  pub once_shut : (old mid : ClusterOver K M) (number : ℕ) (result : Result (Unit {0}) Fault) (fault : Fault)
      (does : World → Answer → World → Type 0) → result ≡ Err fault
      → GoesOn custody making old mid (λ openings w w'. Enters openings w number result w')
      → GoesOn custody making old mid
      (λ openings w w'. OnceOpen openings w number does (replied (Refused fault)) w')
  once_shut old mid number result fault does err enters =
      goes_on_as old mid (λ openings w w'. Enters openings w number result w')
      (λ openings w w'. OnceOpen openings w number does (replied (Refused fault)) w')
      (λ openings w w' is entered. shut (subst (λ r. Enters openings w number r w') err entered)) enters

module _ {K M : Type 0} (custody : Custody K) (making : Making M K) where
  -- of two calls what the first one opens is opened until the end
  pub first_wider : (old mid new : ClusterOver K M)
      → ((number : ℕ) (k : Kept) → making.finds new.maker number k → making.finds mid.maker number k)
      → OpensMore (openings_between custody making old.maker mid.maker) (openings_between custody making old.maker new.maker)
  first_wider old mid new less = opens_until custody making old.maker old.maker mid.maker new.maker
      (λ n keeper made. made) (λ n k found. found) (λ n fault why. why) less

  -- and what the second one opens from the start on
  pub then_wider : (old mid new : ClusterOver K M)
      → ((number : ℕ) (keeper : K) → making.makes mid.maker number keeper → making.makes old.maker number keeper)
      → ((number : ℕ) (k : Kept) → making.finds mid.maker number k → making.finds old.maker number k)
      → ((number : ℕ) (fault : Fault) → making.refuses mid.maker number fault → making.refuses old.maker number fault)
      → OpensMore (openings_between custody making mid.maker new.maker) (openings_between custody making old.maker new.maker)
  then_wider old mid new makes finds refuses = opens_until custody making old.maker mid.maker new.maker new.maker
      makes finds refuses (λ n k found. found)

  -- once the first node is open, the second one is opened
  pub both_open : (old mid new : ClusterOver K M) (first second : ℕ) (result : Result (Unit {0}) Fault) (u : Unit {0})
      (does : World → Answer → World → Type 0) (answer : Answer) → result ≡ Ok u
      → GoesOn custody making old mid (λ openings w w'. Enters openings w first result w')
      → GoesOn custody making mid new (λ openings w w'. OnceOpen openings w second does answer w')
      → GoesOn custody making old new
      (λ openings w w'. OnceOpen openings w first (λ v. OnceOpen openings v second does) answer w')
  both_open old mid new first second result u does answer ok enters then_ = record {
    goes = goes_then custody old.world mid.world new.world
        (λ w w'. Enters (openings_between custody making old.maker mid.maker) w first result w')
        (λ w w'. OnceOpen (openings_between custody making mid.maker new.maker) w second does answer w')
        (λ w w'. OnceOpen (openings_between custody making old.maker new.maker) w first
        (λ v. OnceOpen (openings_between custody making old.maker new.maker) v second does) answer w')
        (λ w v w' entered done. opened
        (subst (λ r. Enters (openings_between custody making old.maker new.maker) w first r v) ok
        (enters_more _ _ (first_wider old mid new then_.finds_less) w v first result entered))
        (once_open_more _ _ (then_wider old mid new
        enters.makes_less enters.finds_less enters.refuses_less) v w' second does does answer (λ _ _ _ h. h) done)) enters.goes then_.goes;
    makes_less = λ n keeper made. enters.makes_less n keeper (then_.makes_less n keeper made);
    finds_less = λ n k found. enters.finds_less n k (then_.finds_less n k found);
    refuses_less = λ n fault why. enters.refuses_less n fault (then_.refuses_less n fault why);
  }

  -- what a second maker allows no more than the first, a third that allows no more than it does not
  pub no_more_then : (one two three : M) → AllowsNoMore making one two
      → AllowsNoMore making two three → AllowsNoMore making one three
  no_more_then one two three first second = record {
    makes = λ n keeper h. first.makes n keeper (second.makes n keeper h);
    finds = λ n k h. first.finds n k (second.finds n k h);
    unmade = λ n fault h. first.unmade n fault (second.unmade n fault h);
    refuses = λ n fault h. first.refuses n fault (second.refuses n fault h);
  }

  -- a keeper that is out is so as long as no more is found
  pub out_still : (made left : M) (number : ℕ) → AllowsNoMore making made left → IsOut making made number
      → IsOut making left number
  out_still made left number same out k found = out k (same.finds number k found)

  -- a keeper is asked for, and the world goes on
  pub opens_as : (old : ClusterOver K M) (here new : WorldOver K) (maker maker' : M) (number : ℕ)
      (result : Result (Unit {0}) Fault) → record { world = here; maker = maker } ≡ old
      → Goes custody here new (λ w w'. Enters (openings_between custody making maker maker') w number result w')
      → AllowsNoMore making maker maker'
      → GoesOn custody making old (record { world = new; maker = maker' })
      (λ openings w w'. Enters openings w number result w')
  opens_as old here new maker maker' number result is goes same =
      subst (λ o. GoesOn custody making o (record { world = new; maker = maker' })
      (λ openings w w'. Enters openings w number result w')) is
      (record { goes = goes; makes_less = same.makes; finds_less = same.finds; refuses_less = same.refuses })

  -- a node that is there is not opened
  pub entered_as : (old : ClusterOver K M) (number : ℕ) (n : NodeOver K) → map.get old.world.nodes number ≡ Some n
      → GoesOn custody making old old (λ openings w w'. Enters openings w number (Ok tt) w')
  entered_as old number n at = record {
    goes = entered custody making old.maker old.maker old.world number n at;
    makes_less = λ q keeper made. made;
    finds_less = λ q k found. found;
    refuses_less = λ q fault why. why;
  }

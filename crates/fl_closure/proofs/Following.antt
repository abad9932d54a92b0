-- What follows from operations: what is reached, and what everybody is given.
use Rattle.std.specs.Prelude.{◌⊎◌, ◌↔◌, List}
use Rattle.std.proofs.Common.{inl, inr}
use Rattle.fl_labels.specs.declared.cap.Cap.{Cap}
use Rattle.fl_ops.specs.declared.op.Op.{Op}
use Rattle.fl_ops.specs.Registry.{Registry, Listed}
use Rattle.fl_closure.specs.declared.closed.ClosedRows.{ClosedRows}
use Rattle.fl_closure.specs.declared.rows.Owner.{Owner}
use Rattle.fl_closure.specs.declared.rows.Owner.TheVariants.{Everybody}
use Rattle.fl_closure.specs.declared.globals.Globals.{Globals}
use Rattle.fl_closure.specs.declared.closure.Closure.{Closure}
use Rattle.fl_closure.specs.declared.closure.News.{News}
use Rattle.fl_closure.specs.parts.Rows.{Holds, IsSameRows}
use Rattle.fl_closure.specs.parts.Closed.{AreMirrored, Gives, IsGiven, With, ClosesWith}
use Rattle.fl_closure.specs.parts.Globals.{Has, GivesAll}
use Rattle.fl_closure.specs.parts.Closure.{IsClosure, FollowsWith, GainsAll, LosesAll}
use Rattle.fl_closure.proofs.Growing.{same_gifts}
use Rattle.fl_closure.proofs.Noting.{taken_back}
use Rattle.fl_closure.proofs.Giving.{mirrored_same}

pub nothing_follows : (rows : ClosedRows) (globals : Globals) → ((owner : Owner) (c : Cap) → ¬ Holds rows.reached owner c)
    → AreMirrored rows → ((c : Cap) → ¬ Has globals c) → IsClosure (λ (op : Op). ⊥) (record { rows = rows; globals = globals })
nothing_follows rows globals nothing mirrored none = record {
  closed = record { way = λ owner c. (λ h. absurd (nothing owner c h), λ w. absurd w.1.1) };
  mirrored = mirrored;
  globals = λ c. (λ h. absurd (none c h), λ g. absurd g.1);
}

-- the same operations
pub same_closure : {U V : Registry} {closure : Closure} → ((op : Op) → U op ↔ V op) → IsClosure U closure → IsClosure V closure
same_closure same is = record {
  closed = same_gifts (λ op. (same op).0) (λ h x p. (p.0, (same p.0).1 p.1, p.2)) is.closed;
  mirrored = is.mirrored;
  globals = λ c. (
    λ h. let g = (is.globals c).0 h in (g.0, (same g.0).0 g.1, g.2),
    λ g. (is.globals c).1 (g.0, (same g.0).1 g.1, g.2),
  );
}

pub follows : (old new : Closure) (ops : List Op) → ClosesWith old.rows.reached ops new.rows.reached → AreMirrored new.rows
    → GivesAll old.globals ops new.globals → FollowsWith old ops new
follows old new ops closes mirrored gives s is = record {
  closed = closes s is.closed;
  mirrored = mirrored;
  globals = λ c. (λ h. to c ((gives.has c).0 h), λ g. (gives.has c).1 (from c g.0 g.1 g.2));
}
  where
    to : (c : Cap) → Has old.globals c ⊎ IsGiven (Listed ops) Everybody c → IsGiven (With s ops) Everybody c
    to c (inl m) = let g = (is.globals c).0 m in (g.0, inl g.1, g.2)
    to c (inr g) = (g.0, inr g.1, g.2)

    from : (c : Cap) (op : Op) → With s ops op → Gives op Everybody c → Has old.globals c ⊎ IsGiven (Listed ops) Everybody c
    from c op (inl m) p = inl ((is.globals c).1 (op, m, p))
    from c op (inr m) p = inr (op, m, p)

-- what was added, and then taken out as it was noted
pub undone : (U : Registry) (old mid new : Closure) (news : News) → IsClosure U old → GainsAll old news mid → LosesAll mid news new
    → IsClosure U new
undone U old mid new news is gains loses = record {
  closed = record {
    way = λ owner c. (
      λ h. (is.closed.way owner c).0 ((rows.holds owner c).0 h),
      λ w. (rows.holds owner c).1 ((is.closed.way owner c).1 w),
    );
  };
  mirrored = mirrored_same old.rows new.rows is.mirrored rows users;
  globals = λ c. (
    λ h. (is.globals c).0 ((given.holds Everybody c).0 h),
    λ g. (given.holds Everybody c).1 ((is.globals c).1 g),
  );
}
  where
    rows : IsSameRows old.rows.reached new.rows.reached
    rows = taken_back old.rows.reached mid.rows.reached new.rows.reached news.rows.reached.items gains.rows.reached loses.rows.reached

    users : IsSameRows old.rows.users new.rows.users
    users = taken_back old.rows.users mid.rows.users new.rows.users news.rows.users.items gains.rows.users loses.rows.users

    given : IsSameRows old.globals.given new.globals.given
    given = taken_back old.globals.given mid.globals.given new.globals.given news.given.items gains.globals loses.globals

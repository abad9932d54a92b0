use Rattle.std.proofs.Common.{Bool, true, false, ◌≡◌, refl, sym}
use Rattle.fl_labels.specs.SetBy.{contains-empty, contains-insert, contains-remove, contains-union, contains-of_list, contains-members, members_rise, len-members, same_set}
use Rattle.fl_labels.proofs.laws.law_set.Goals as goal

-- tests that tell the same
alike : (a b : Bool) → (a ≡ true → b ≡ true) → (b ≡ true → a ≡ true) → a ≡ b
alike true b to from = sym (to refl)
alike false true to from = from refl
alike false false to from = refl

pub returns-clause-empty : goal.returns-clause-empty
returns-clause-empty g c = contains-empty g.T.Ord.cmp

pub returns-clause-insert : goal.returns-clause-insert
returns-clause-insert g c = contains-insert g.met.T.Ord.total

pub returns-clause-remove : goal.returns-clause-remove
returns-clause-remove g c = contains-remove g.met.T.Ord.total

pub returns-clause-union : goal.returns-clause-union
returns-clause-union g c = contains-union g.met.T.Ord.total

pub returns-clause-list : goal.returns-clause-list
returns-clause-list g c = contains-of_list g.met.T.Ord.total

pub returns-clause-members : goal.returns-clause-members
returns-clause-members g c = contains-members

pub returns-clause-rise : goal.returns-clause-rise
returns-clause-rise g c = members_rise

pub returns-clause-count : goal.returns-clause-count
returns-clause-count g c = len-members

pub returns-clause-same : goal.returns-clause-same
returns-clause-same g c = λ exact s t same. same_set g.met.T.Ord.total exact s t (λ q. alike _ _ (same q).0 (same q).1)

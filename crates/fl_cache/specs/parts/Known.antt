-- What a cache keeps.
use Rattle.std.specs.Prelude.{List, Contains, Option, Some, None, IfSome}
use Rattle.fl_labels.specs.Found.{Within}
use Rattle.fl_labels.specs.SetBy.{SetBy, In}
use Rattle.fl_ops.specs.OpOrder.{op_cmp}
use Rattle.fl_ops.specs.Registry.{From, Reach}
use Rattle.fl_closure.specs.Witness.{IsWitness}
use Rattle.fl_closure.specs.declared.witness.Witness.{Witness}
use Rattle.fl_cache.specs.declared.yes.Question.{Question}
use Rattle.lru.specs.LruCache.{LruCache}

-- each question that is kept has the answer yes
pub record AreYes (s : SetBy op_cmp) (entries : List (Question × Unit {0})) : Type 0 where
  pub yes : (e : Question × Unit {0}) → Contains entries e → Reach (In s) (From e.0.root) e.0.cap

-- so are those that a cache keeps, where there is one
abbrev pub AreKept : SetBy op_cmp → Option (LruCache Question (Unit {0})) → Type 0
AreKept s None = Unit {0}
AreKept s (Some cache) = AreYes s cache.entries

-- what the cache and the last questions came upon holds under what the index has now
pub record StillHolds (asked : SetBy op_cmp) (adding other : Option Witness) (index : SetBy op_cmp) : Type 0 where
  pub within : Within (In asked) (In index)
  pub adding_holds : IfSome adding (IsWitness (In index))
  pub other_holds : IfSome other (IsWitness (In index))

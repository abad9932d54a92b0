-- A message that its owner receives before it waits.
use Rattle.std.specs.Prelude.{◌≡◌, List, [], ◌∷◌, ◌++◌}
use Rattle.std.specs.Fn.{Once}
use denote.Ref.{Bor, MutBor}
use Rattle.std.specs.declared.alloc.AllocError.{AllocError}
use Rattle.std.specs.declared.result.Result.{Result}
use Rattle.std.specs.declared.result.Result.TheVariants.{Ok, Err}
use Rattle.fl_message.specs.declared.message.Letter.{Letter}

module _ {F C : Type 0}
    (g : Once F (MutBor C × (Bor Letter × Unit {0})) (Result (Unit {0}) AllocError × (MutBor C × Unit {0})))
    (receive : F) (letter : Letter) where
  -- One call: for the owner `before`, and shown the letter, it answered `answer` and left `after`. `met` is what the
  -- call promises of just this.
  pub record Receives (before : C) (answer : Result (Unit {0}) AllocError) (after : C) : Type 0 where
    pub owner : MutBor C
    pub owns : owner.now ≡ before
    pub shown : Bor Letter
    pub shows : shown.now ≡ letter
    pub left : MutBor C
    pub met : g.post receive (owner, (shown, tt)) (answer, (left, tt))
    pub leaves : left.now ≡ after

  -- with these letters waiting, and for this owner, the answer is `answer`, and these are left
  pub data Pushes (waiting : List Letter) (owner : C) : Result (Unit {0}) AllocError → List Letter → C → Type 0 where
    pushed : {after : C} → Receives owner (Ok tt) after → Pushes waiting owner (Ok tt) (waiting ++ letter ∷ []) after
    refused : {e : AllocError} {after : C} → Receives owner (Err e) after → Pushes waiting owner (Err e) waiting after
    no_room : {e : AllocError} → Pushes waiting owner (Err e) waiting owner

-- How the record goes on.
use Rattle.std.specs.Prelude.{◌≡◌, false}
use Rattle.fl_store.specs.Kept.{Kept}
use Rattle.fl_system.specs.State.{kept_of}
use Rattle.fl_crew_model.specs.Books.{Books, Recorded}
use Rattle.fl_registrar.specs.Over.{RegistrarOver, books_of}

-- Where it said how the books came of some, it still does. What is kept is what is saved, where it
-- was so before and the registrar is not stopped.
pub record GoesOn {K : Type 0} (old new : RegistrarOver K) (k k' : Kept) : Type 0 where
  pub recorded : (first : Books)
      → Recorded old.node.node.number first old.deeds (books_of old)
      → Recorded old.node.node.number first new.deeds (books_of new)
  pub kept : new.stopped ≡ false → k ≡ kept_of old.node.node → k' ≡ kept_of new.node.node

-- What the maker of a world's keepers finds once each has been given back to it.
use Rattle.std.specs.Prelude.{◌≡◌, ◌⊎◌, ℕ}
use Rattle.std.specs.FinMap as map
use Rattle.std.specs.declared.option.Option.TheVariants.{Some}
use Rattle.fl_store.specs.Custody.{Custody}
use Rattle.fl_store.specs.Kept.{Kept}
use Rattle.fl_makers.specs.Making.{Making}
use Rattle.fl_node.specs.Over.{NodeOver}
use Rattle.fl_calls.specs.Over.{ClusterOver}

-- the keeper of the node of this number may hold it, if it is honest
pub record IsLeftAt {K M : Type 0} (custody : Custody K) (over : ClusterOver K M) (number : ℕ) (k : Kept)
    : Type 0 where
  pub node : NodeOver K
  pub there : map.get over.world.nodes number ≡ Some node
  pub held : custody.is_honest node.keeper → custody.may_hold node.keeper k

-- that, or the maker found it before
abbrev pub MayBeLeft : {K M : Type 0} → Custody K → Making M K → ClusterOver K M → ℕ → Kept → Type 0
MayBeLeft custody making over number k =
    making.finds over.maker number k ⊎ IsLeftAt custody over number k

-- What each group reaches and what everybody does, and what one operation more adds to that.
use Rattle.std.specs.Prelude.{◌≡◌, ◌⊎◌, ◌↔◌, List}
use Rattle.std.specs.List.{Contains}
use Rattle.fl_labels.specs.SetBy.{SetBy, In}
use Rattle.fl_labels.specs.Caps.{Caps}
use Rattle.fl_labels.specs.declared.name.Name.{Name}
use Rattle.fl_labels.specs.declared.cap.Cap.{Cap}
use Rattle.fl_labels.specs.declared.cap.Cap.TheVariants.{Plus, Minus, Use, Grow}
use Rattle.fl_ops.specs.declared.op.Op.{Op}
use Rattle.fl_ops.specs.OpOrder.{op_cmp}
use Rattle.fl_ops.specs.Registry.{Registry, Puts, Chain, IsGlobal}
use Rattle.fl_closure.specs.declared.rows.Rows.{Rows}
use Rattle.fl_closure.specs.declared.rows.Owner.{Owner}
use Rattle.fl_closure.specs.declared.rows.Owner.TheVariants.{Everybody, Group}
use Rattle.fl_closure.specs.declared.block.Block.{Block}
use Rattle.fl_closure.specs.declared.closed.ClosedRows.{ClosedRows}
use Rattle.fl_closure.specs.declared.closed.Entry.{Entry}
use Rattle.fl_closure.specs.parts.Block.{AreIn}
use Rattle.fl_closure.specs.declared.witness.Witness.{Witness}
use Rattle.fl_closure.specs.parts.Rows.{Holds, ComesUpon}

abbrev pub entry : Owner → Cap → Entry
entry owner c = record { owner = owner; cap = c }

-- the registry of one operation
abbrev pub Alone : Op → Registry
Alone op = λ other. other ≡ op

-- what one operation gives: to who may use a group what it puts there, and to everybody what is
-- everybody's by this operation alone
abbrev pub Gives : Op → Owner → Caps
Gives op (Group group) c = Puts op.body group c
Gives op Everybody c = IsGlobal (Alone op) c

-- some operation does
abbrev pub IsGiven : Registry → Owner → Caps
IsGiven U owner c = (op : Op) × U op × Gives op owner c

-- a chain leads to c from what is given to the owner
abbrev pub Way : Registry → Owner → Caps
Way U owner c = (b : Cap) × IsGiven U owner b × Chain U b c

-- each row has what its owner reaches through the registry
pub record AreClosed (U : Registry) (rows : Rows) : Type 0 where
  pub way : (owner : Owner) (c : Cap) → Holds rows owner c ↔ Way U owner c

-- the users of a group are the groups that reach its use
pub record AreMirrored (rows : ClosedRows) : Type 0 where
  pub used : (user group : Name)
      → Holds rows.users (Group group) (Use user) ↔ Holds rows.reached (Group user) (Use group)

-- what the group that the capability uses reaches
abbrev pub Behind : Rows → Cap → Caps
Behind rows (Use group) c = Holds rows (Group group) c
Behind rows (Plus tag) c = ⊥
Behind rows (Minus tag) c = ⊥
Behind rows (Grow group) c = ⊥

-- what a look for c into the row of the group that the capability uses came upon
abbrev pub ComesBehind : Rows → Cap → Cap → Witness → Type 0
ComesBehind rows (Use group) c w = ComesUpon rows (Group group) c w
ComesBehind rows (Plus tag) c w = ⊥
ComesBehind rows (Minus tag) c w = ⊥
ComesBehind rows (Grow group) c w = ⊥

-- the one capability leads to the other
abbrev pub Leads : Rows → Cap → Caps
Leads rows root c = (c ≡ root) ⊎ Behind rows root c

-- the user reaches the use of the owner's group; of everybody there is none
abbrev pub IsUser : Rows → Owner → Owner → Type 0
IsUser rows (Group group) user = Holds rows user (Use group)
IsUser rows Everybody user = ⊥

-- the owner itself, or one that reaches the use of it
abbrev pub IsAbove : Rows → Owner → Owner → Type 0
IsAbove rows owner user = (user ≡ owner) ⊎ IsUser rows owner user

-- who reaches the use of a group reaches what that reaches
pub record AreTransitive (rows : Rows) : Type 0 where
  pub on : (user : Owner) (group : Name) (c : Cap)
      → Holds rows user (Use group) → Holds rows (Group group) c → Holds rows user c

-- the blocks are of the capability and of what it leads to
pub record AreLed (rows : Rows) (root : Cap) (blocks : List Block) : Type 0 where
  pub led : (c : Cap) → AreIn blocks c ↔ Leads rows root c

-- the blocks are of uses of the group and of those that reach its use: of all but some that reach
-- the capability
pub record AreAbove (rows : Rows) (group : Name) (c : Cap) (blocks : List Block) : Type 0 where
  pub only : (user : Name) → AreIn blocks (Use user) → IsAbove rows (Group group) (Group user)
  pub all : (user : Name) → IsAbove rows (Group group) (Group user)
      → AreIn blocks (Use user) ⊎ Holds rows (Group user) c

-- after b is given to the owner, those above it reach what b leads to
pub record Renews (old : Rows) (owner : Owner) (b : Cap) (new : Rows) : Type 0 where
  pub holds : (user : Owner) (c : Cap)
      → Holds new user c ↔ (Holds old user c ⊎ (IsAbove old owner user × Leads old b c))

-- the members of the set and of the list
abbrev pub With : SetBy op_cmp → List Op → Registry
With s ops op = In s op ⊎ Contains ops op

-- rows that were closed under a set are closed under it and the operations
abbrev pub ClosesWith : Rows → List Op → Rows → Type 0
ClosesWith old ops new = (s : SetBy op_cmp) → AreClosed (In s) old → AreClosed (With s ops) new

-- Operations parted by where they lead, and steps by how many are left after them.
use Rattle.std.specs.Prelude.{◌≡◌, ◌↔◌, ◌⊎◌, ◌+◌, ℕ, List, length}
use Rattle.std.specs.List.{Contains}
use Rattle.fl_labels.specs.Caps.{Caps}
use Rattle.fl_labels.specs.declared.cap.Cap.{Cap}
use Rattle.fl_labels.specs.declared.cap.Cap.TheVariants.{Use}
use Rattle.fl_labels.specs.declared.name.Name.{Name}
use Rattle.fl_ops.specs.declared.op.Op.{Op}
use Rattle.fl_ops.specs.Registry.{Registry}
use Rattle.fl_chains.specs.declared.step.Step.{Step}
use Rattle.fl_chains.specs.declared.legs.Leg.{Leg}
use Rattle.fl_chains.specs.declared.legs.Parts.{Parts}
use Rattle.fl_chains.specs.Step.{put_op}

-- a step that leads to one of these rests on the operation
abbrev pub LeadsTo : Caps → Op → Type 0
LeadsTo near op = (s : Step) × (put_op s ≡ op) × near s.cap

-- the steps that lead to one of these, and the operations on which none rests
pub record AreParts (ops : List Op) (near : Caps) (taken : List Step) (rest : List Op) : Type 0
  where
    pub steps : (s : Step) → Contains taken s ↔ (Contains ops (put_op s) × near s.cap)
    pub kept : (op : Op) → Contains rest op → Contains ops op
    pub whole : (op : Op) → Contains ops op → Contains rest op ⊎ LeadsTo near op
    pub counts : length taken + length rest ≡ length ops

abbrev pub Splits : List Op → Caps → Parts → Type 0
Splits ops near parts = AreParts ops near parts.taken.items parts.rest.items

-- one of the steps starts from the capability
abbrev pub StartsIn : List Step → Cap → Type 0
StartsIn steps c = (s : Step) × Contains steps s × (Use s.group ≡ c)

-- it is the step, from this capability, and so many are left
abbrev pub IsLegOf : Cap → ℕ → Leg → Step → Type 0
IsLegOf at left l s = (l.left ≡ left) × (Use l.step.group ≡ at) × (l.step ≡ s)

-- one of the legs is the step
abbrev pub LeadsOn : List Leg → Cap → ℕ → Step → Type 0
LeadsOn legs at left s = (l : Leg) × Contains legs l × IsLegOf at left l s

-- an operation of the registry puts the capability into a group
abbrev pub PutsIt : Registry → Cap → Type 0
PutsIt U c = (s : Step) × U (put_op s) × (s.cap ≡ c)

-- one of the legs starts from the use of the group
abbrev pub BeginsLeg : List Leg → Name → Type 0
BeginsLeg legs group = (l : Leg) × Contains legs l × (l.step.group ≡ group)

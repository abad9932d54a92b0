-- The two formats of bytes: the first has the node in two bytes and no opened groups, the second has it in four.
use Rattle.std.specs.Prelude.{ℕ, ◌^◌}
use Rattle.std.specs.Int.{Width, w16, w32}
use Rattle.fl_ops.specs.declared.format.Format.{Format}
use Rattle.fl_ops.specs.declared.format.Format.TheVariants.{One, Two}

-- its number among the bytes
abbrev pub format_byte : Format → ℕ
format_byte One = 1
format_byte Two = 2

-- how wide a node is, how many bytes that are, and the number that no node has reached
abbrev pub node_width : Format → Width
node_width One = w16
node_width Two = w32

abbrev pub node_size : Format → ℕ
node_size One = 2
node_size Two = 4

abbrev pub node_limit : Format → ℕ
node_limit One = 2 ^ 16
node_limit Two = 2 ^ 32

-- the greatest number of a kind of operations
abbrev pub last_kind : Format → ℕ
last_kind One = 4
last_kind Two = 5

-- The limits that each call asks of texts, subscripts, nodes, values, ids, operations and replies.
use Rattle.std.specs.Prelude.{ℕ, ◌^◌, ◌-◌, Bool, true, false, not, ◌&&◌, ◌||◌, ◌==◌, nat_le, nat_lt, List, length, slice_get, Option, None, Some, is_none}
use Rattle.std.specs.Char.{is_ascii, is_ascii_alphabetic, is_ascii_alphanumeric}
use Rattle.std.specs.List.{list_all}
use Rattle.obj_kinds.specs.declared.sub.Sub.{Sub}
use Rattle.obj_kinds.specs.declared.sub.Sub.TheVariants.{Num, Str}
use Rattle.obj_kinds.specs.declared.node.Node.{Node}
use Rattle.obj_kinds.specs.declared.value.Value.{Value}
use Rattle.obj_kinds.specs.declared.op.Op.{Op}
use Rattle.obj_kinds.specs.declared.op.Op.TheVariants.{Get, Defined, Order, Set, Kill, Incr, Lock, Unlock}
use Rattle.obj_kinds.specs.declared.op.Reply.{Reply}
use Rattle.obj_kinds.specs.declared.op.Reply.TheVariants.{Found, Next, Number, Held}
pub use Rattle.obj_kinds.specs.Subscript.{is_whole}
use Rattle.obj_kinds.specs.Subscript.{whole_of}
use Rattle.obj_kinds.specs.Values.{weight, nested, all_texts}

-- at most 32,767 bytes, each of ASCII
unfoldable pub is_legal_text : List ℕ → Bool
is_legal_text text = nat_le (length text) 32767 && list_all is_ascii text

-- a text that writes a subscript: 1 to 255 bytes, each of ASCII
unfoldable pub is_sub_text : List ℕ → Bool
is_sub_text text = nat_le 1 (length text) && nat_le (length text) 255 && list_all is_ascii text

-- what a text that writes a subscript is read as: a whole number, or a text that is no whole number's
unfoldable pub is_legal_sub : Sub → Bool
is_legal_sub (Num z) = is_whole z
is_legal_sub (Str text) = is_sub_text text && is_none (whole_of text)

abbrev pub is_global_first : ℕ → Bool
is_global_first byte = is_ascii_alphabetic byte || byte == 37

abbrev pub is_global_byte : ℕ → Bool
is_global_byte byte = is_ascii_alphanumeric byte || byte == 37 || byte == 46

-- whether there is a byte, and it passes
abbrev pub byte_passes : (ℕ → Bool) → Option ℕ → Bool
byte_passes test None = false
byte_passes test (Some byte) = test byte

-- 1 to 64 bytes: a letter or `%`, and then letters, digits, `%` and dots, the last of them no dot
unfoldable pub is_global_name : List ℕ → Bool
is_global_name name =
    byte_passes is_global_first (slice_get name 0) && byte_passes (λ byte. not (byte == 46)) (slice_get name (length name - 1))
    && list_all is_global_byte name && nat_le (length name) 64

-- at most 8 subscripts
unfoldable pub is_legal_node : Node → Bool
is_legal_node n = is_global_name n.global && nat_le (length n.subs) 8 && list_all is_legal_sub n.subs

-- nested at most 16 deep, of weight at most 32,767, and each text in it within its limits
unfoldable pub is_legal_value : Value → Bool
is_legal_value v = nested v 16 && nat_le (weight v) 32767 && all_texts is_legal_text v

-- a number of an id: from 1, of 18 digits at most
abbrev pub is_part : ℕ → Bool
is_part n = nat_le 1 n && nat_lt n (10 ^ 18)

-- one to three numbers
unfoldable pub is_legal_id : List ℕ → Bool
is_legal_id parts = nat_le 1 (length parts) && nat_le (length parts) 3 && list_all is_part parts

abbrev pub is_legal_after : Option Sub → Bool
is_legal_after None = true
is_legal_after (Some s) = is_legal_sub s

-- an operation whose node, subscript and value are within the limits
unfoldable pub is_legal_op : Op → Bool
is_legal_op (Get n) = is_legal_node n
is_legal_op (Defined n) = is_legal_node n
is_legal_op (Order n after) = is_legal_node n && is_legal_after after
is_legal_op (Set n v) = is_legal_node n && is_legal_value v
is_legal_op (Kill n) = is_legal_node n
is_legal_op (Incr n k) = is_legal_node n
is_legal_op (Lock n m o k) = is_legal_node n
is_legal_op (Unlock n m o) = is_legal_node n
is_legal_op _ = true

-- a reply whose value, subscript, number and node are within the limits
unfoldable pub is_legal_reply : Reply → Bool
is_legal_reply (Found v) = is_legal_value v
is_legal_reply (Next s) = is_legal_sub s
is_legal_reply (Number z) = is_whole z
is_legal_reply (Held p n m) = is_legal_node n
is_legal_reply _ = true

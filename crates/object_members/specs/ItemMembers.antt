-- The members of collections and of many sides, by their names.
use Rattle.std.specs.Prelude.{cond, codes}
use Rattle.std.specs.Str.{bytes_eq}
use Rattle.os_meaning.specs.Syntax.{Name}

pub data ItemMember : Type 0 where
  Count : ItemMember
  GetAt : ItemMember
  SetAt : ItemMember
  Insert : ItemMember
  InsertAt : ItemMember
  RemoveAt : ItemMember
  Next : ItemMember
  Unknown : ItemMember

abbrev pub item_member : Name → ItemMember
item_member name =
    cond (bytes_eq name (codes "Count")) Count
    (cond (bytes_eq name (codes "GetAt")) GetAt
    (cond (bytes_eq name (codes "SetAt")) SetAt
    (cond (bytes_eq name (codes "Insert")) Insert
    (cond (bytes_eq name (codes "InsertAt")) InsertAt
    (cond (bytes_eq name (codes "RemoveAt")) RemoveAt
    (cond (bytes_eq name (codes "Next")) Next Unknown))))))
